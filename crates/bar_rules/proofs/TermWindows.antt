-- The terms of a session are of one round and of one width.
use Rattle.std.proofs.Common.{◌∙◌, ℕ, sym}
use Rattle.bar_window.specs.declared.terms.Terms.{Terms}
use Rattle.bar_window.specs.declared.terms.Terms.TheVariants as raw
use Rattle.bar_terms.specs.Code.Windows.{AreAligned, AreWindowsOf}
use Rattle.bar_terms.proofs.Aligned.{aligned}
use Rattle.bar_wire.specs.Code.Views.{AreTermWindows}
use Rattle.bar_wire.specs.declared.shape.Shape.{Shape}

pub windows_of : (s : Shape) (round : ℕ) (t : Terms) → AreTermWindows s round t → AreWindowsOf s.life round t
windows_of s round (raw.Balanced nonce ha hb) h = (h.0.of, h.1.of, h.0.wide ∙ sym h.1.wide)
windows_of s round (raw.Push young aged want give junk) h =
    (h.0.of, h.1.of, h.2.of, h.3.of, h.1.wide ∙ sym h.0.wide, h.2.wide ∙ sym h.0.wide, h.3.wide ∙ sym h.0.wide)

pub aligned_of : (s : Shape) (round : ℕ) (t : Terms) → AreTermWindows s round t → AreAligned t
aligned_of s round t h = aligned s.life round t (windows_of s round t h)
