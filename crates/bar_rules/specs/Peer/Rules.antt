-- The logs of obedient peers: each entry was allowed by the log before it.
use Rattle.std.specs.Prelude.{◌≡◌, ℕ, true, List, [], ◌∷◌, Some, None}
use Rattle.bar_rules.specs.Peer.Evidence.{accuses}
use Rattle.bar_wire.specs.Datagram.{Datagram}
use Rattle.bar_rules.specs.Member.{Member}
use Rattle.bar_rules.specs.Values.{datagram_of, datagram_bytes}
use Rattle.bar_rules.specs.Peer.Log.{Log, Entry, Ticked, Heard, Said, Kept, table, kept}
use Rattle.bar_rules.specs.Peer.Knowledge.{known}
use Rattle.bar_rules.specs.Judge.Verdict.{verdict}
use Rattle.bar_rules.specs.Peer.Admission.{is_admitted}
use Rattle.bar_rules.specs.Peer.Signing.{MaySign, signed}

-- The message met the rule, and the signature is that of its leaf.
pub record IsSignedByRule (me : Member) (log : Log) (d : Datagram) : Type 0 where
  pub rule : MaySign me log d.message
  pub signature : d ≡ signed me (known me log) d.message

-- The evidence shows a fault of the party, against which none was kept.
pub record MayKeep (me : Member) (log : Log) (party : ℕ) (evidence : List (List ℕ)) : Type 0 where
  pub new : kept log party ≡ None
  pub shown : accuses party (verdict me.session (table log) evidence) ≡ true

abbrev pub Allows : Member → Log → Entry → Type 0
Allows me log Ticked = Unit {0}
Allows me log (Heard d) = (is_admitted me (known me log) d ≡ true) × (datagram_of me.session (datagram_bytes me.session d) ≡ Some d)
Allows me log (Said d) = IsSignedByRule me log d
Allows me log (Kept party evidence) = MayKeep me log party evidence

-- each entry was allowed at its moment
abbrev pub IsObedient : Member → Log → Type 0
IsObedient me [] = Unit {0}
IsObedient me (e ∷ log) = Allows me log e × IsObedient me log
