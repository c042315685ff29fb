use Rattle.std.proofs.Common.{◌≡◌, true, List, [], ◌∷◌, Some, sym, subst, refl}
use Rattle.std.specs.Prelude.{slice_get}
use Rattle.std.proofs.lemmas.Option.{same_Some}
use Rattle.bar_seal.specs.Code.Memo.{Pair, has_pair}
use Rattle.bar_seal.proofs.Remembered.{same_self}
use Rattle.bar_peer.specs.Code.Checking.{checked_in}
use Rattle.bar_peer.proofs.laws.admitted_datagrams_are_remembered.Goals as goal

first_is_there : (p : Pair) (ps : List Pair) → slice_get ps 0 ≡ Some p → has_pair p ps ≡ true
first_is_there p [] is = absurd cc
first_is_there p (q ∷ qs) is = subst (λ (first : Pair). has_pair p (first ∷ qs) ≡ true) (sym (same_Some q p is)) (rw (same_self p) refl)

pub returns : goal.returns
returns c m inputs input memo stands_first stands admits signed =
    first_is_there (checked_in m.who.session input) memo.pairs (stands_first inputs stands admits signed)
