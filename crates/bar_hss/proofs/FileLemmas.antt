-- The scheme of a key file signs and verifies as the session's scheme does.
use Rattle.std.proofs.Common.{◌≡◌, ◌∙◌, ℕ, Bool, true, List, Option, Some, None, Ok, refl, sym, ap, subst}
use Rattle.std.specs.Prelude.{IsSome, option_map}
use Rattle.std.proofs.lemmas.Option.{none-some}
use Rattle.bar_lms.specs.declared.params.Height.{Height}
use Rattle.bar_lms.specs.declared.params.Params.{Params}
use Rattle.bar_lms.specs.Acceptance.{is_accepted_under}
use Rattle.bar_lms.specs.Hss.{HssSecret, hss_leaf_in, hss_leaves, hss_most_steps, hss_public_key, hss_signature_len, hss_signed, is_hss_accepted}
use Rattle.bar_lms.specs.Params.{most_steps, signature_len}
use Rattle.bar_lms.specs.Secret as lms
use Rattle.bar_lms.specs.Schemes.{accepted_by, leaves_by, length_by, most_by, named_by, public_by, signed_by, two_levels, upper_types}
use Rattle.bar_lms.specs.Hss as hss
use Rattle.bar_roster.proofs.KeyLemmas.{held_of}
use Rattle.bar_roster.specs.KeyFile.{IsHeldBy, fits, session_key_of}
use Rattle.bar_session.specs.Fits.{key_in, secrets_in, signing_secret}
use Rattle.bar_session.specs.SessionData.{SessionData}
use Rattle.bar_roster.specs.declared.key_fields.KeyData.{KeyData}
use Rattle.bar_seal.specs.declared.lms.LmsScheme.{LmsScheme}
use Rattle.bar_seal.specs.declared.lms.LmsVerifier.{LmsVerifier}
use Rattle.bar_seeds.specs.declared.secrets.Secrets.{Secrets}
use Rattle.bar_hss.specs.declared.chosen.SessionScheme.TheVariants as scheme
use Rattle.bar_hss.specs.declared.chosen.SessionVerifier.TheVariants as verifier
use Rattle.bar_hss.specs.declared.key_file.HssKeyFile.{HssKeyFile}
use Rattle.bar_hss.specs.declared.schemes.HssScheme.{HssScheme}
use Rattle.bar_hss.specs.declared.schemes.HssVerifier.{HssVerifier}
use Rattle.bar_hss.specs.declared.party_key.PartyKey.{PartyKey}
use Rattle.bar_seeds.specs.Seeds.{Chain}
use Rattle.bar_hss.specs.Files.{IsHssKeyFileOf, IsHssMadeFor, IsPartyKeyOf, SignsFor, VerifiesFor}

-- ---- by the upper tree

pub no_top : {B : Type 0} (f : Height → B) (top : Option Height) → option_map f top ≡ None → top ≡ None
no_top f None e = refl
no_top f (Some height) e = absurd (none-some (f height) (sym e))

pub some_top : {B : Type 0} (f : Height → B) (top : Option Height) (x : B) → option_map f top ≡ Some x
    → (height : Height) × (top ≡ Some height) × (f height ≡ x)
some_top f None x e = absurd (none-some x e)
some_top f (Some height) x e = (height, refl, cc)

pub is_there : {B : Type 0} (f : Height → B) (top : Option Height) (x : B) → option_map f top ≡ Some x → IsSome top
is_there f None x e = absurd (none-some x e)
is_there f (Some height) x e = search

pub there_top : (top : Option Height) → IsSome top → (height : Height) × (top ≡ Some height)
there_top None is = cc
there_top (Some height) is = (height, refl)

-- in a session of two levels the public key is that of HSS
pub key_double : (s : SessionData) (height : Height) (secret : List ℕ) (k : HssSecret) → s.top ≡ Some height
    → k ≡ two_levels height s.params s.shape.id secret → hss_public_key k ≡ key_in s secret
unfolding public_by
key_double s height secret k e is =
    ap hss_public_key is ∙ ap (λ (top : Option Height). public_by top s.params s.shape.id secret) (sym e)

-- ---- verifiers

pub single_verifies : (s : SessionData) (v : LmsVerifier) → s.top ≡ None → v.params ≡ s.params → VerifiesFor s (verifier.Single v)
unfolding accepted_by
single_verifies s v e is = record {
  accepts = λ key message sig.
      ap (λ (p : Params). is_accepted_under p key message sig) is ∙ ap (λ (top : Option Height). accepted_by top s.params key message sig) (sym e);
  names = λ sig. ap (λ (top : Option Height). named_by top s.params sig) (sym e);
  length = ap (λ (p : Params). signature_len p) is ∙ ap (λ (top : Option Height). length_by top s.params) (sym e);
  most = ap (λ (p : Params). most_steps p) is ∙ ap (λ (top : Option Height). most_by top s.params) (sym e);
}

pub double_verifies : (s : SessionData) (height : Height) (v : HssVerifier) → s.top ≡ Some height
    → v ≡ record { top = upper_types height s.params; low = s.params } → VerifiesFor s (verifier.Double v)
unfolding accepted_by
double_verifies s height v e is = record {
  accepts = λ key message sig.
      ap (λ (x : HssVerifier). is_hss_accepted x.top x.low key message sig) is
      ∙ ap (λ (top : Option Height). accepted_by top s.params key message sig) (sym e);
  names = λ sig. ap (λ (x : HssVerifier). hss_leaf_in x.top sig) is ∙ ap (λ (top : Option Height). named_by top s.params sig) (sym e);
  length = ap (λ (x : HssVerifier). hss_signature_len x.top x.low) is ∙ ap (λ (top : Option Height). length_by top s.params) (sym e);
  most = ap (λ (x : HssVerifier). hss_most_steps x.top x.low) is ∙ ap (λ (top : Option Height). most_by top s.params) (sym e);
}

-- ---- schemes

pub single_signs : (s : SessionData) (secret : List ℕ) (k : LmsScheme) → s.top ≡ None → k.signer ≡ signing_secret s secret
    → SignsFor s secret (scheme.Single k)
unfolding public_by signed_by accepted_by
single_signs s secret k e is =
    let types : k.signer.params ≡ s.params = ap (λ (x : lms.Secret). x.params) is in
    record {
      key = ap (λ (x : lms.Secret). lms.public_key x) is ∙ ap (λ (top : Option Height). public_by top s.params s.shape.id secret) (sym e);
      signs = λ leaf message.
          ap (λ (x : lms.Secret). lms.signed x leaf message) is
          ∙ ap (λ (top : Option Height). signed_by top s.params s.shape.id secret leaf message) (sym e);
      leaves = ap (λ (p : Params). hss.leaves_of p) types ∙ ap (λ (top : Option Height). leaves_by top s.params) (sym e);
      accepts = λ key message sig.
          ap (λ (p : Params). is_accepted_under p key message sig) types
          ∙ ap (λ (top : Option Height). accepted_by top s.params key message sig) (sym e);
      names = λ sig. ap (λ (top : Option Height). named_by top s.params sig) (sym e);
      length = ap (λ (p : Params). signature_len p) types ∙ ap (λ (top : Option Height). length_by top s.params) (sym e);
      most = ap (λ (p : Params). most_steps p) types ∙ ap (λ (top : Option Height). most_by top s.params) (sym e);
    }

pub double_signs : (s : SessionData) (height : Height) (secret : List ℕ) (k : HssScheme) → s.top ≡ Some height
    → k.key ≡ two_levels height s.params s.shape.id secret → SignsFor s secret (scheme.Double k)
unfolding signed_by accepted_by
double_signs s height secret k e is = record {
  key = key_double s height secret k.key e is;
  signs = λ leaf message.
      ap (λ (x : HssSecret). hss_signed x leaf message) is
      ∙ ap (λ (top : Option Height). signed_by top s.params s.shape.id secret leaf message) (sym e);
  leaves = ap (λ (x : HssSecret). hss_leaves x.top x.low) is ∙ ap (λ (top : Option Height). leaves_by top s.params) (sym e);
  accepts = λ key message sig.
      ap (λ (x : HssSecret). is_hss_accepted x.top x.low key message sig) is
      ∙ ap (λ (top : Option Height). accepted_by top s.params key message sig) (sym e);
  names = λ sig. ap (λ (x : HssSecret). hss_leaf_in x.top sig) is ∙ ap (λ (top : Option Height). named_by top s.params sig) (sym e);
  length = ap (λ (x : HssSecret). hss_signature_len x.top x.low) is ∙ ap (λ (top : Option Height). length_by top s.params) (sym e);
  most = ap (λ (x : HssSecret). hss_most_steps x.top x.low) is ∙ ap (λ (top : Option Height). most_by top s.params) (sym e);
}

-- ---- key files

-- a key file that is made from a key of the session, if its public key and its anchor are the session's
pub hss_key_file_of_session : (s : SessionData) (caster : Bool) (bytes : List ℕ) (k : KeyData) (file : HssKeyFile) → session_key_of s caster bytes ≡ Ok k
    → IsHssMadeFor s k.party k.secret file → fits s file.secrets.party file.secrets.secret ≡ true → IsHssKeyFileOf s caster file
hss_key_file_of_session s caster bytes k file named made held =
    let party : file.secrets.party ≡ k.party = ap (λ (x : Secrets). x.party) made.secrets in
    let secret : file.secrets.secret ≡ k.secret = ap (λ (x : Secrets). x.secret) made.secrets in
    let fitting : fits s k.party k.secret ≡ true = rw (party, secret) at held in
    record {
      held = subst (IsHeldBy s caster) (sym made.secrets) (held_of s caster bytes k named fitting);
      made = subst (λ (x : ℕ). IsHssMadeFor s x file.secrets.secret file) (sym party)
          (subst (λ (x : List ℕ). IsHssMadeFor s k.party x file) (sym secret) made);
    }

-- a party's key, if its parts come from a key file that is held
pub party_key : (s : SessionData) (caster : Bool) (secrets : Secrets) (chain : Chain) (k : PartyKey) → IsHeldBy s caster secrets
    → secrets ≡ secrets_in s secrets.party secrets.secret
    → chain ≡ record { secrets = secrets_in s secrets.party secrets.secret; rounds = s.shape.rounds } → SignsFor s secrets.secret k.scheme
    → k.secrets ≡ secrets → k.chain ≡ chain → IsPartyKeyOf s caster k
party_key s caster secrets chain k held own chained signs same same_chain = record {
  held = subst (IsHeldBy s caster) (sym same) held;
  chain = same_chain ∙ chained ∙ (λ i. record { secrets = (sym own ∙ sym same) i; rounds = s.shape.rounds });
  signs = subst (λ (x : Secrets). SignsFor s x.secret k.scheme) (sym same) signs;
}
