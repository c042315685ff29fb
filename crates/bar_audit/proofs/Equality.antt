-- Tests of equality are exact.
use Rattle.std.proofs.Common.{◌≡◌, true, refl}
use Rattle.std.proofs.lemmas.Bool.{and_from, eq-eqb}
use Rattle.bar_window.specs.Terms.{Terms}
use Rattle.bar_window.specs.Terms as forms
use Rattle.bar_rules.specs.Peer.Admission.{same_terms}
use Rattle.bar_window.proofs.Sets.{same_updates_refl}
use Rattle.bar_bytes.proofs.Tests.{bytes_eq-refl}

pub terms-refl : (t : Terms) → same_terms t t ≡ true
terms-refl (forms.Balanced nonce ha hb) = and_from _ _ (and_from _ _ (bytes_eq-refl nonce) (same_updates_refl ha)) (same_updates_refl hb)
terms-refl (forms.Push young aged want give junk) =
    and_from _ _ (and_from _ _ (and_from _ _ (and_from _ _ (same_updates_refl young) (same_updates_refl aged)) (same_updates_refl want)) (same_updates_refl give))
    (eq-eqb junk junk refl)
