-- Windows of the same rounds are equal if and only if they have the same members.
use mathlib.Core.Bool.{beq}
use Rattle.std.proofs.Common.{◌≡◌, ◌*◌, ◌&&◌, Bool, true, false, ap, subst, refl, sym, ◌∙◌}
use Rattle.std.proofs.lemmas.Bool.{eq-eqb}
use Rattle.std.proofs.lemmas.Slice.Eq.{bytes_eq-Decides}
use Rattle.std.specs.Prelude.{map}
use Rattle.std.specs.Str.{bytes_eq}
use Rattle.bar_window.specs.contracts.window.WindowPartialEq.TheImpl as window
use Rattle.bar_window.specs.declared.window.Window.{Window}
use Rattle.bar_window.specs.Places.{set_places, update_at, words_in}
use Rattle.bar_window.specs.Updates.{same_updates}
use Rattle.bar_window.specs.Code.Window.{members, IsAligned}
use Rattle.bar_window.proofs.Sets.{same_tests, same_updates-is, same_updates_refl}
use Rattle.bar_window.proofs.Spelling.{same_members}

same-rounds : (a b c d : Bool) → a ≡ true → b ≡ true → c ≡ true → (a && (b && (c && d))) ≡ d
same-rounds a b c d base used wide = λ i. base i && (used i && (wide i && d))

members-of_words : (w v : Window) → IsAligned w v → w.words ≡ v.words → members w ≡ members v
unfolding members
members-of_words w v al words = λ i.
    map (update_at (al.base i) (64 * words_in (al.wide i))) (set_places (words i) (64 * words_in (al.wide i) * al.used i))

wide-eq : (a b : Bool) → a ≡ b → beq a b ≡ true
wide-eq a b e = subst (λ b. beq a b ≡ true) e (self a)
  where
    self : (a : Bool) → beq a a ≡ true
    self true = refl
    self false = refl

-- `==` on two windows of the same rounds compares their members
pub windows-eq : (w v : Window) → IsAligned w v → (window.ghosts).eq w v ≡ same_updates (members w) (members v)
windows-eq w v al =
    same-rounds _ _ _ _ (eq-eqb w.base v.base al.base) (eq-eqb w.used v.used al.used) (wide-eq w.wide v.wide al.wide)
    ∙ same_tests (bytes_eq w.words v.words) (same_updates (members w) (members v))
    (λ e. ap (same_updates (members w)) (sym (members-of_words w v al ((bytes_eq-Decides w.words v.words).0 e))) ∙ same_updates_refl (members w))
    (λ e. (bytes_eq-Decides w.words v.words).1 (same_members w v al (same_updates-is (members w) (members v) e)))
