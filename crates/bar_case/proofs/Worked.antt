-- Worked openings, and the lengths of worked ciphers.
use Rattle.std.proofs.Common.{◌≡◌, List, [], ◌∷◌, refl}
use Rattle.bar_window.specs.declared.update.UpdateId.{UpdateId}
use Rattle.bar_window.specs.declared.exchange.Role.TheVariants.{Initiator, Responder}
use Rattle.bar_window.specs.Terms.{Terms}
use Rattle.bar_window.specs.Terms as forms
use Rattle.bar_case.specs.declared.findings.Finding.TheVariants.{Sound, Broken, Untold}
use Rattle.bar_case.specs.declared.findings.Opening.TheVariants.{Good, Bad, Unknown}
use Rattle.bar_case.specs.Items.{promised_len}
use Rattle.bar_case.specs.Opened.{opening_of}

all_sound : opening_of (Sound ∷ Sound ∷ []) ≡ Good 2
all_sound = refl

least_bad : opening_of (Sound ∷ Untold ∷ Broken ∷ Broken ∷ []) ≡ Bad 2
least_bad = refl

least_unknown : opening_of (Sound ∷ Untold ∷ Untold ∷ []) ≡ Unknown 1
least_unknown = refl

-- two updates are wanted, and none is given for them
abbrev padded : Terms
padded =
    let young : List UpdateId = record { round = 5; index = 0 } ∷ record { round = 5; index = 1 } ∷ [] in
    forms.Push young (record { round = 3; index = 1 } ∷ []) young [] 2

two_updates : promised_len 4 padded Initiator ≡ 2048
two_updates = refl

two_junk_items : promised_len 4 padded Responder ≡ 2560
two_junk_items = refl
