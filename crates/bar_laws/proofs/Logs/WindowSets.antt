-- Sets of the updates of a round's window.
use Rattle.bar_rules.specs.Peer.Choices.{young_of, aged_of}
use Rattle.bar_rules.specs.Peer.Holdings.{history, is_held, block_of}
use Rattle.bar_rules.specs.Peer.Knowledge.{known}
use Rattle.bar_rules.specs.Peer.Log.{Log, table}
use Rattle.bar_rules.specs.Member.{Session, Member}
use Rattle.bar_rules.specs.Values.{window_of}
use Rattle.bar_terms.specs.Table.{is_known, digest_of}
use Rattle.bar_window.specs.Updates.{is_inside, has_update, first_round, updates_from}
use Rattle.bar_window.specs.Updates as updates
use Rattle.bar_window.specs.declared.update.UpdateId.{UpdateId}
use Rattle.bar_wire.specs.declared.shape.Shape.{Shape}
use Rattle.bar_wire.specs.Grammar.{IsWindowSet, words_of}
use Rattle.std.proofs.Common.{◌≡◌, ℕ, zero, suc, ◌+◌, ◌-◌, ◌/◌, ◌≤◌, Bool, true, not, ◌&&◌, List, [], take, refl, subst, arith}
use Rattle.std.specs.Prelude.{filter, max}
use Rattle.std.proofs.lemmas.Bool.{and_parts, and_from}
use Rattle.bar_window.proofs.Sets.{rising_filter}
use Rattle.bar_laws.proofs.Logs.Rising.{rising-take, run_of, run-rises, run-inside}
use Rattle.bar_laws.proofs.Logs.Valid.{all-take, all-filtered}
use Rattle.bar_laws.proofs.Logs.Facts.{set_test, set_passes}

-- ---- some of a set

pub set-filter : (s : Shape) (round : ℕ) (p : UpdateId → Bool) (us : List UpdateId) → IsWindowSet s round us → IsWindowSet s round (filter p us)
set-filter s round p us set =
    let q = and_parts _ _ (set_passes (words_of s) s.life round us set) in
    set_test (words_of s) s.life round (filter p us) (and_from _ _ (all-filtered (has_update (updates.window_of (words_of s) s.life round)) p us q.0) (rising_filter p us q.1))

pub set-take : (s : Shape) (round k : ℕ) (us : List UpdateId) → IsWindowSet s round us → IsWindowSet s round (take k us)
set-take s round k us set =
    let q = and_parts _ _ (set_passes (words_of s) s.life round us set) in
    set_test (words_of s) s.life round (take k us) (and_from _ _ (all-take (has_update (updates.window_of (words_of s) s.life round)) k us q.0) (rising-take k us q.1))

-- ---- the updates of some of the window's rounds

part-set : (s : Shape) (round first last : ℕ) → first_round s.life round ≤ first → last ≤ round → IsWindowSet s round (updates_from (words_of s) first last)
unfolding run_of
part-set s round first last low high = go ((last + 1) - first) refl
  where
    go : (n : ℕ) → (last + 1) - first ≡ n → IsWindowSet s round (run_of (words_of s) first n)
    go zero e = set_test (words_of s) s.life round [] refl
    go (suc n) e =
        let base : ℕ = first_round s.life round in
        let at : base + (first - base) ≡ first = omega (arith, low) in
        let long : (first - base) + (suc n + (round - last)) ≡ (round + 1) - base = omega (arith, low, high, e) in
        let inside : is_inside (run_of (words_of s) (base + (first - base)) (suc n)) (run_of (words_of s) base ((first - base) + (suc n + (round - last)))) ≡ true = run-inside (words_of s) base (suc n) (first - base) (round - last) in
        let there : is_inside (run_of (words_of s) first (suc n)) (run_of (words_of s) base ((round + 1) - base)) ≡ true =
        subst (λ k. is_inside (run_of (words_of s) first (suc n)) (run_of (words_of s) base k) ≡ true) long
        (subst (λ f. is_inside (run_of (words_of s) f (suc n)) (run_of (words_of s) base ((first - base) + (suc n + (round - last)))) ≡ true) at inside) in
        set_test (words_of s) s.life round (run_of (words_of s) first (suc n)) (and_from _ _ there (run-rises (words_of s) first (suc n)))

window-set : (s : Shape) (round : ℕ) → IsWindowSet s round (updates.window_of (words_of s) s.life round)
window-set s round = part-set s round (first_round s.life round) round (omega arith) (omega arith)

-- ---- what a peer says of its own holdings

pub history-set : (s : Session) (log : Log) (round : ℕ) → IsWindowSet s.shape round (history s (block_of s log) round)
history-set s log round = set-filter s.shape round (is_held s log) (window_of s round) (window-set s.shape round)

-- a life is of two rounds at least
pub young-set : (me : Member) (log : Log) (round : ℕ) → 1 ≤ round → 2 ≤ me.session.shape.life → IsWindowSet me.session.shape round (young_of me (known me log) round)
young-set me log round low long =
    set-take me.session.shape round me.session.cap _
    (set-filter me.session.shape round (is_held me.session log) (updates_from (words_of me.session.shape) (max 1 (round - 1)) round)
    (part-set me.session.shape round (max 1 (round - 1)) round (omega (arith, low, long)) (omega arith)))

pub aged-set : (me : Member) (log : Log) (round : ℕ) → IsWindowSet me.session.shape round (aged_of me (known me log) round)
aged-set me log round =
    set-take me.session.shape round me.session.cap _
    (set-filter me.session.shape round (λ u. not (is_held me.session log u) && is_known (digest_of (table log) u)) (updates_from (words_of me.session.shape) (first_round me.session.shape.life round) (round - me.session.shape.life / 2))
    (part-set me.session.shape round (first_round me.session.shape.life round) (round - me.session.shape.life / 2) (omega arith) (omega arith)))
