-- The windows of terms.
use Rattle.std.specs.Prelude.{◌≡◌, ℕ}
use Rattle.bar_window.specs.declared.terms.Terms.{Terms}
use Rattle.bar_window.specs.declared.terms.Terms.TheVariants.{Balanced, Push}
use Rattle.bar_window.specs.Code.Window.{IsAligned, IsWindowOf}

-- they are of the same rounds, and of the same width
abbrev pub AreAligned : Terms → Type 0
AreAligned (Balanced nonce ha hb) = IsAligned ha hb
AreAligned (Push young aged want give junk) = IsAligned aged young × IsAligned want young × IsAligned give young

-- they are windows of a round, if updates live for `life` rounds, and of the same width
abbrev pub AreWindowsOf : ℕ → ℕ → Terms → Type 0
AreWindowsOf life round (Balanced nonce ha hb) = IsWindowOf life round ha × IsWindowOf life round hb × (ha.wide ≡ hb.wide)
AreWindowsOf life round (Push young aged want give junk) =
    IsWindowOf life round young × IsWindowOf life round aged × IsWindowOf life round want × IsWindowOf life round give
    × (aged.wide ≡ young.wide) × (want.wide ≡ young.wide) × (give.wide ≡ young.wide)
