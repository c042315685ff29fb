-- The open exchanges, one after the other.
use Rattle.std.proofs.Common.{◌≡◌, ◌+◌, ◌∙◌, Bool, true, nat_le, List, [], ◌∷◌, ◌++◌, filter, sym, subst, append_assoc}
use Rattle.std.specs.List.{AllByRecursion}
use Rattle.std.proofs.lemmas.Bool.{cond_both, leb-true}
use Rattle.bar_window.specs.declared.exchange.Exchange.{Exchange}
use Rattle.bar_rules.specs.Member.{Member}
use Rattle.bar_rules.specs.Peer.Agreement.{IsRecent}
use Rattle.bar_rules.specs.Peer.Exchanges.{exchanges_said}
use Rattle.bar_rules.specs.Peer.Knowledge.{known}
use Rattle.bar_rules.specs.Peer.Log.{Log, round_now}

-- one more exchange is done
pub one_done : (xs done rest after : List Exchange) (x : Exchange) → done ++ rest ≡ xs → rest ≡ x ∷ after → (done ++ x ∷ []) ++ after ≡ xs
one_done xs done rest after x split is = append_assoc done (x ∷ []) after ∙ (λ i. done ++ sym is i) ∙ split

-- ---- each may still be asked about

filter_passes : (p : Exchange → Bool) (xs : List Exchange) → AllByRecursion (λ x. p x ≡ true) (filter p xs)
filter_passes p [] = tt
filter_passes p (x ∷ xs) =
    cond_both (p x) (x ∷ filter p xs) (filter p xs) (AllByRecursion (λ y. p y ≡ true))
    (λ e. (e, filter_passes p xs))
    (λ _. filter_passes p xs)

at_place : (p : Exchange → Bool) (done rest : List Exchange) (x : Exchange) → AllByRecursion (λ y. p y ≡ true) (done ++ x ∷ rest)
    → p x ≡ true
at_place p [] rest x all = all.0
at_place p (y ∷ done) rest x all = at_place p done rest x all.1

pub open_is_recent : (me : Member) (log : Log) (done rest : List Exchange) (x : Exchange) → done ++ x ∷ rest ≡ (known me log).opens
    → IsRecent me (known me log) x.round
open_is_recent me log done rest x is =
    leb-true (round_now log) (x.round + me.session.shape.life)
    (at_place (λ y. nat_le (round_now log) (y.round + me.session.shape.life)) done rest x
    (subst (λ xs. AllByRecursion (λ y. nat_le (round_now log) (y.round + me.session.shape.life) ≡ true) xs) (sym is)
    (filter_passes (λ y. nat_le (round_now log) (y.round + me.session.shape.life)) (exchanges_said log))))
