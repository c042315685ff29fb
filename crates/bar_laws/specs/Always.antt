-- The quantifiers with which the laws of one peer begin: they cover every list of inputs, in which datagrams may be lost, repeated,
-- reordered or forged.
use Rattle.std.specs.Prelude.{List, []}
use Rattle.bar_wire.specs.Inputs.{Input}
use Rattle.bar_rules.specs.Member.{Member, IsMember}
use Rattle.bar_rules.specs.Peer.Log.{Log}
use Rattle.bar_rules.specs.Peer.Run.{log_after}

-- for any member, and every list of inputs that it takes
abbrev pub OnAllInputs : (Member → List Input → Type 0) → Type 0
OnAllInputs P = (me : Member) (inputs : List Input) → P me inputs

-- for each peer whose session has the key and the anchor derived from its secret
abbrev pub OfEachPeer : (Member → List Input → Type 0) → Type 0
OfEachPeer P = (me : Member) → IsMember me → (inputs : List Input) → P me inputs

-- the same for the log after the inputs
abbrev pub InEachLog : (Member → Log → Type 0) → Type 0
InEachLog P = OnAllInputs (λ me inputs. P me (log_after me [] inputs))

abbrev pub InEachPeersLog : (Member → Log → Type 0) → Type 0
InEachPeersLog P = OfEachPeer (λ me inputs. P me (log_after me [] inputs))
