-- Terms of one round are equal if and only if the rules treat them as the same.
use Rattle.std.proofs.Common.{◌≡◌, ◌∙◌, ◌&&◌, ℕ, Bool, true, false, eqb, refl, sym}
use Rattle.std.specs.Str.{bytes_eq}
use Rattle.bar_window.specs.contracts.terms.TermsPartialEq.TheImpl as terms
use Rattle.bar_window.specs.contracts.window.WindowPartialEq.TheImpl as window
use Rattle.bar_window.specs.declared.terms.Terms.{Terms}
use Rattle.bar_window.specs.declared.terms.Terms.TheVariants as raw
use Rattle.bar_window.specs.declared.window.Window.{Window}
use Rattle.bar_window.specs.Terms.{plain_terms}
use Rattle.bar_window.specs.Updates.{same_updates}
use Rattle.bar_window.specs.Code.Window.{members}
use Rattle.bar_window.proofs.Equality.{windows-eq}
use Rattle.bar_terms.proofs.Aligned.{two_aligned}
use Rattle.bar_terms.proofs.Equal.{and_join}
use Rattle.bar_wire.specs.Code.Views.{AreTermWindows, IsWindowIn}
use Rattle.bar_wire.specs.declared.shape.Shape.{Shape}
use Rattle.bar_rules.specs.Peer.Admission.{same_terms}

in-round : (s : Shape) (round : ℕ) (w v : Window) → IsWindowIn s round w → IsWindowIn s round v
    → (window.ghosts).eq w v ≡ same_updates (members w) (members v)
in-round s round w v one two = windows-eq w v (two_aligned s.life round w v one.of two.of (one.wide ∙ sym two.wide))

four : (a b c d : Bool) → (a && (b && (c && d))) ≡ (((a && b) && c) && d)
four true b c d = sym (and_join b c d)
four false b c d = refl

five : (a b c d e : Bool) → (a && (b && (c && (d && e)))) ≡ ((((a && b) && c) && d) && e)
five true b c d e = four b c d e
five false b c d e = refl

-- what `==` returns for two terms
pub terms-eq : (s : Shape) (round : ℕ) (t u : Terms) → AreTermWindows s round t → AreTermWindows s round u
    → (terms.ghosts).eq t u ≡ same_terms (plain_terms t) (plain_terms u)
terms-eq s round (raw.Balanced nonce ha hb) (raw.Balanced nonce' ha' hb') one two =
    (λ i. bytes_eq nonce nonce' && (in-round s round ha ha' one.0 two.0 i && in-round s round hb hb' one.1 two.1 i))
    ∙ sym (and_join (bytes_eq nonce nonce') (same_updates (members ha) (members ha')) (same_updates (members hb) (members hb')))
terms-eq s round (raw.Push young aged want give junk) (raw.Push young' aged' want' give' junk') one two =
    (λ i.
    in-round s round young young' one.0 two.0 i
    && (in-round s round aged aged' one.1 two.1 i
    && (in-round s round want want' one.2 two.2 i && (in-round s round give give' one.3 two.3 i && eqb junk junk'))))
    ∙ five (same_updates (members young) (members young')) (same_updates (members aged) (members aged'))
    (same_updates (members want) (members want')) (same_updates (members give) (members give')) (eqb junk junk')
terms-eq s round (raw.Balanced nonce ha hb) (raw.Push young aged want give junk) one two = refl
terms-eq s round (raw.Push young aged want give junk) (raw.Balanced nonce ha hb) one two = refl
