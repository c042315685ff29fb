-- Bytes that begin with terms, and bytes that don't.
use Rattle.std.proofs.Common.{◌≡◌, ℕ, List, [], ◌∷◌, ◌++◌, length, refl, sym, ap, ◌∙◌, append_assoc, length-append, arith}
use Rattle.std.proofs.lemmas.List.{append-nil}
use Rattle.bar_window.specs.declared.window.Window.{Window}
use Rattle.bar_window.specs.declared.exchange.XKind.TheVariants as exchanges
use Rattle.bar_window.specs.declared.terms.Terms.TheVariants as raw
use Rattle.bar_window.specs.Code.Window.{members}
use Rattle.bar_window.specs.Terms as forms
use Rattle.bar_wire.specs.declared.shape.Shape.{Shape}
use Rattle.bar_wire.specs.Grammar.{set_bytes}
use Rattle.bar_wire.specs.Code.Windows.{AreWindowsAt, NoWindowsAt}
use Rattle.bar_wire.specs.Code.Terms.{AreTermsAt, NoTermsAt}
use Rattle.bar_wire.proofs.Peel.{peel}
use Rattle.bar_wire.proofs.WindowLaws.{set_told}
use Rattle.bar_wire.proofs.Head.{three_joined}
use Rattle.bar_wire.proofs.One.{not_both_kinds}

five : (a b c d e rest : List ℕ) → a ++ (b ++ (c ++ (d ++ (e ++ rest)))) ≡ (a ++ (b ++ (c ++ (d ++ (e ++ []))))) ++ rest
five a b c d e rest = rw append-nil (simp append_assoc)

pub trade_at : (s : Shape) (r : ℕ) (bytes nonce middle left : List ℕ) (w v : Window) → length nonce ≡ 32 → bytes ≡ nonce ++ middle → AreWindowsAt s r middle w v left → AreTermsAt s exchanges.Balanced r bytes (raw.Balanced nonce w v) left
trade_at s r bytes nonce middle left w v long is two = record {
  form = (refl, long, two.first_set, two.second_set);
  windows = (two.first, two.second);
  is = is ∙ ap (λ (x : List ℕ). nonce ++ x) two.is ∙ three_joined nonce (set_bytes s r (members w)) (set_bytes s r (members v)) left;
  len = omega (arith, two.len, long, ap length is, length-append nonce middle);
}

pub no_trade : (s : Shape) (r : ℕ) (bytes nonce middle : List ℕ) → length nonce ≡ 32 → bytes ≡ nonce ++ middle → NoWindowsAt s r middle → NoTermsAt s exchanges.Balanced r bytes
no_trade s r bytes nonce middle long is none round (forms.Balanced n a b) after form spelled =
    let told = peel n nonce (set_bytes s r a ++ (set_bytes s r b ++ after)) middle (form.1 ∙ sym long) (three_joined n (set_bytes s r a) (set_bytes s r b) after ∙ sym spelled ∙ is) in
    none round a b after form.2 form.3 (sym told.rest)
no_trade s r bytes nonce middle long is none round (forms.Push a b u v z) after form spelled = not_both_kinds form.0

pub offer_at : (s : Shape) (r : ℕ) (bytes middle rest left : List ℕ) (a b u v : Window) (z : ℕ) → AreWindowsAt s r bytes a b middle → AreWindowsAt s r middle u v rest → rest ≡ z ∷ left → AreTermsAt s exchanges.Push r bytes (raw.Push a b u v z) left
offer_at s r bytes middle rest left a b u v z one two is =
    let set : Window → List ℕ = λ w. set_bytes s r (members w) in
    record {
      form = (refl, one.first_set, one.second_set, two.first_set, two.second_set);
      windows = (one.first, one.second, two.first, two.second);
      is = one.is ∙ ap (λ (x : List ℕ). set a ++ (set b ++ x)) (two.is ∙ ap (λ (x : List ℕ). set u ++ (set v ++ x)) is) ∙ five (set a) (set b) (set u) (set v) (z ∷ []) left;
      len = omega (arith, one.len, two.len, ap length is);
    }

pub no_offer : (s : Shape) (r : ℕ) (bytes : List ℕ) → NoWindowsAt s r bytes → NoTermsAt s exchanges.Push r bytes
no_offer s r bytes none round (forms.Balanced n a b) after form spelled = not_both_kinds (sym form.0)
no_offer s r bytes none round (forms.Push a b u v z) after form spelled =
    none round a b (set_bytes s r u ++ (set_bytes s r v ++ (z ∷ after))) form.1 form.2 (spelled ∙ sym (five (set_bytes s r a) (set_bytes s r b) (set_bytes s r u) (set_bytes s r v) (z ∷ []) after))

pub no_answer : (s : Shape) (r : ℕ) (bytes middle : List ℕ) (w v : Window) → AreWindowsAt s r bytes w v middle → NoWindowsAt s r middle → NoTermsAt s exchanges.Push r bytes
no_answer s r bytes middle w v one none round (forms.Balanced n a b) after form spelled = not_both_kinds (sym form.0)
no_answer s r bytes middle w v one none round (forms.Push a b x y z) after form spelled =
    let rest = set_bytes s r x ++ (set_bytes s r y ++ (z ∷ after)) in
    let whole : set_bytes s r (members w) ++ (set_bytes s r (members v) ++ middle) ≡ set_bytes s r a ++ (set_bytes s r b ++ rest) = sym one.is ∙ spelled ∙ sym (five (set_bytes s r a) (set_bytes s r b) (set_bytes s r x) (set_bytes s r y) (z ∷ []) after) in
    let first = set_told s r (members w) a (set_bytes s r (members v) ++ middle) (set_bytes s r b ++ rest) one.first_set form.1 whole in
    let second = set_told s r (members v) b middle rest one.second_set form.2 first.1 in
    none round x y (z ∷ after) form.3 form.4 second.1
