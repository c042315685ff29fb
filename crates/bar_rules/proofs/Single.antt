-- Sessions whose signatures have one level: LMS accepts, names leaves and signs as they do.
use Rattle.std.proofs.Common.{◌≡◌, ◌∙◌, ◌^◌, Option, None, sym, ap}
use Rattle.bar_lms.specs.declared.params.Height.{Height}
use Rattle.bar_lms.specs.Acceptance.{is_accepted_under}
use Rattle.bar_lms.specs.Params.{levels, signature_len}
use Rattle.bar_lms.specs.Schemes.{accepted_by, leaves_by, length_by, named_by, signed_by}
use Rattle.bar_lms.specs.Secret.{signed}
use Rattle.bar_session.specs.Fits.{signing_secret}
use Rattle.bar_session.specs.Sessions.{IsSession}
use Rattle.bar_seal.specs.Leaves.{leaf_in}
use Rattle.bar_rules.specs.Member.{Session, Member}
use Rattle.bar_rules.specs.Signers.{IsSignerOf}
use Rattle.bar_rules.specs.Verifiers.{IsVerifierOf, NamesLeavesOf}

pub single_verifies : (s : Session) → s.top ≡ None → IsVerifierOf s (λ key message sig. is_accepted_under s.params key message sig)
unfolding accepted_by
single_verifies s e key message sig = ap (λ (top : Option Height). accepted_by top s.params key message sig) (sym e)

pub single_long : (s : Session) → s.top ≡ None → IsSession s → signature_len s.params ≡ s.shape.sig_len
single_long s e is = ap (λ (top : Option Height). length_by top s.params) (sym e) ∙ sym is.signatures

pub single_names : (s : Session) → s.top ≡ None → IsSession s → NamesLeavesOf s leaf_in (signature_len s.params)
single_names s e is = record {
  names = λ sig. ap (λ (top : Option Height). named_by top s.params sig) (sym e);
  length_is = single_long s e is;
}

pub single_signs : (me : Member) → me.session.top ≡ None → IsSession me.session
    → IsSignerOf me (signed (signing_secret me.session me.secret)) (2 ^ levels me.session.params.height) (signature_len me.session.params)
unfolding signed_by
single_signs me e is = record {
  signs = λ leaf message.
      ap (λ (top : Option Height). signed_by top me.session.params me.session.shape.id me.secret leaf message) (sym e);
  leaves_are = ap (λ (top : Option Height). leaves_by top me.session.params) (sym e);
  length_is = single_long me.session e is;
}
