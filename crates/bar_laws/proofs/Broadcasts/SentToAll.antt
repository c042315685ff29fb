-- A datagram to several peers, as a list after what was sent so far.
use Rattle.bar_rules.specs.Broadcaster.Sending.{repeat_all, repeat_manifest, send_all, served}
use Rattle.bar_rules.specs.Member.{Session}
use Rattle.bar_rules.specs.Peer.Log.{Log, first_said, has_kind_and_round}
use Rattle.bar_rules.specs.Runs.{Outcome, sending}
use Rattle.bar_wire.specs.Datagram.{Datagram}
use Rattle.bar_wire.specs.declared.kind.Kind.TheVariants as kinds
use Rattle.std.proofs.Common.{◌≡◌, ◌∙◌, ℕ, List, [], ◌∷◌, ◌++◌, sym, ap, append_assoc}
use Rattle.std.specs.Prelude.{map, Option, Some, None}
use Rattle.std.proofs.lemmas.List.{append-nil}

abbrev pub Sends : Type 0
Sends = List (ℕ × Datagram)

-- these are sent too
abbrev pub with_sends : Outcome Log → Sends → Outcome Log
with_sends out sends = record { state = out.state; sends = out.sends ++ sends; contents = out.contents }

pub no-more : (out : Outcome Log) → out ≡ with_sends out []
no-more out = λ i. record { state = out.state; sends = sym (append-nil out.sends) i; contents = out.contents }

pub one-more : (out : Outcome Log) (p : ℕ) (d : Datagram) (rest : Sends) → with_sends (sending out p d) rest ≡ with_sends out ((p, d) ∷ rest)
one-more out p d rest = λ i. record { state = out.state; sends = append_assoc out.sends ((p, d) ∷ []) rest i; contents = out.contents }

-- the same datagram to each of them
abbrev pub to_each : List ℕ → Datagram → Sends
to_each ps d = map (λ p. (p, d)) ps

pub all-flat : (out : Outcome Log) (ps : List ℕ) (d : Datagram) → send_all out ps d ≡ with_sends out (to_each ps d)
all-flat out [] d = no-more out
all-flat out (p ∷ ps) d = all-flat (sending out p d) ps d ∙ one-more out p d (to_each ps d)

-- it adds nothing to the log
pub all-state : (out : Outcome Log) (ps : List ℕ) (d : Datagram) → (send_all out ps d).state ≡ out.state
all-state out ps d = ap (λ (o : Outcome Log). o.state) (all-flat out ps d)

-- a repeated manifest is sent, and nothing else happens
pub repeat-flat : (s : Session) (round : ℕ) (out : Outcome Log) → (sends : Sends) × (repeat_manifest s round out ≡ with_sends out sends)
repeat-flat s round out = go (first_said (has_kind_and_round kinds.Manifest round) out.state)
  where
    go : (o : Option Datagram) → (sends : Sends) × (repeat_all s out o ≡ with_sends out sends)
    go None = ([], no-more out)
    go (Some d) = (to_each (served s out.state) d, all-flat out (served s out.state) d)
