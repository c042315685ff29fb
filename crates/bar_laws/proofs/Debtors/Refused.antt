-- No request from a party that owes a key is admitted, and no exchange with it begins.
use Rattle.bar_wire.specs.Datagram.{Datagram, Body, Request, Query}
use Rattle.bar_rules.specs.Member.{Member}
use Rattle.bar_rules.specs.Peer.Admission.{is_row_met, is_admitted}
use Rattle.bar_rules.specs.Peer.Debts.{owes}
use Rattle.bar_rules.specs.Peer.Knowledge.{known}
use Rattle.bar_rules.specs.Peer.Log.{Log, Entry, Ticked, Heard, Said, Kept}
use Rattle.bar_rules.specs.Peer.Rules.{IsObedient, Allows}
use Rattle.bar_rules.specs.Peer.Signing.{MaySay}
use Rattle.std.proofs.Common.{◌≡◌, ℕ, true, false, subst}
use Rattle.std.proofs.lemmas.Bool.{and_parts, both_ways, not-true, false_from_ne_true}
use Rattle.bar_laws.specs.Debts.{begins, BeginsWith}
use Rattle.bar_laws.proofs.Logs.{IsEntry, allowed-at, admitted-row}

-- the sender of a request that meets its row owes nothing
row-unowed : (me : Member) (log : Log) (from to : ℕ) (b : Body) → begins b ≡ true → is_row_met me (known me log) from to b ≡ true → owes me (known me log) from ≡ false
row-unowed me log from to (Request r seed c) e row = not-true _ (and_parts _ _ (and_parts _ _ row).0).1
row-unowed me log from to (Query r seed young aged) e row = not-true _ (and_parts _ _ (and_parts _ _ (and_parts _ _ row).1).0).1
row-unowed me log from to _ e row = cc

pub refused : (me : Member) (log : Log) (d : Datagram) → begins d.message.body ≡ true → owes me (known me log) d.message.from ≡ true → is_admitted me (known me log) d ≡ false
refused me log d e h =
    false_from_ne_true (is_admitted me (known me log) d)
    (λ a. both_ways (owes me (known me log) d.message.from) (row-unowed me log d.message.from d.message.to d.message.body e (admitted-row me log d a)) h)

-- nor does the receiver of a request that may be said
say-unowed : (me : Member) (before : Log) (to : ℕ) (b : Body) → begins b ≡ true → MaySay me (known me before) to b → owes me (known me before) to ≡ false
say-unowed me before to (Request r seed c) e rule = rule.unowed
say-unowed me before to (Query r seed young aged) e rule = rule.unowed
say-unowed me before to _ e rule = cc

-- an exchange begins with a party that owes nothing
pub begins-unowed : (me : Member) (log before : Log) (e : Entry) (party : ℕ) → IsObedient me log → IsEntry log before e → BeginsWith party e → owes me (known me before) party ≡ false
begins-unowed me log before e party h place = go e (allowed-at me log before e place h).0
  where
    go : (e : Entry) → Allows me before e → BeginsWith party e → owes me (known me before) party ≡ false
    go (Heard d) al b = subst (λ q. owes me (known me before) q ≡ false) b.1 (row-unowed me before d.message.from d.message.to d.message.body b.0 (admitted-row me before d al.0))
    go (Said d) al b = subst (λ q. owes me (known me before) q ≡ false) b.1 (say-unowed me before d.message.to d.message.body b.0 al.rule.rule)
    go Ticked al b = absurd b
    go (Kept q v) al b = absurd b
