-- Keys that belong to a session.
use Rattle.std.proofs.Common.{◌≡◌, ℕ, zero, suc, ◌-◌, ◌≤◌, ◌==◌, ◌&&◌, not, cond, Bool, true, false, List, Option, Some, None, Result, Ok, Err, refl, sym, ap, subst, arith, slice_get, true≢false}
use Rattle.std.proofs.lemmas.Option.{none-some}
use Rattle.std.specs.Prelude.{is_some}
use Rattle.std.specs.Option.{option_map_or}
use Rattle.std.proofs.lemmas.Bool.Decides.{nat_tests}
use Rattle.std.specs.Bool.{Decides, one_answer, MatchBool}
use Rattle.std.specs.Str.{bytes_eq}
use Rattle.std.proofs.lemmas.Bool.{and_parts, and_from, eqb-true, leb-true}
use Rattle.std.proofs.lemmas.Slice.Eq.{bytes_eq-Decides}
use Rattle.bar_lms.specs.declared.params.Height.{Height}
use Rattle.bar_lms.specs.Schemes.{public_by}
use Rattle.bar_lms.specs.Secret.{public_key}
use Rattle.bar_seeds.specs.Seeds.{anchor_of}
use Rattle.bar_seeds.specs.declared.secrets.Secrets.{Secrets}
use Rattle.bar_roster.specs.declared.key_fields.KeyData.{KeyData}
use Rattle.bar_roster.specs.declared.key_file.KeyFile.{KeyFile}
use Rattle.bar_session.specs.SessionData.{SessionData}
use Rattle.bar_session.specs.Fits.{Fits, key_in, secrets_in, signing_secret}
use Rattle.bar_roster.specs.KeyFile.{fits, is_at, is_of_session, named_key, session_key_of, checked_key, key_file_of, IsHeldBy, IsMadeFor, IsKeyFileOf}
use Rattle.bar_roster.specs.KeyText.{key_read}
use Rattle.bar_roster.specs.declared.key_fault.KeyFileFault.{KeyFileFault}
use Rattle.bar_roster.specs.declared.key_fault.KeyFileFault.TheVariants.{NotInRoster, Spent}

at_test : (o : Option (List ℕ)) (row : List ℕ) → Decides (option_map_or (λ held. bytes_eq held row) o false) (o ≡ Some row)
at_test None row = (λ h. absurd (true≢false (sym h)), λ e. absurd (none-some row e))
at_test (Some held) row = (λ h. ap Some ((bytes_eq-Decides held row).0 h), λ e. let same : held ≡ row = cc in (bytes_eq-Decides held row).1 same)

-- the test of a place decides what is at that place
pub row_test : (rows : List (List ℕ)) (place : ℕ) (row : List ℕ) → Decides (is_at rows place row) (slice_get rows place ≡ Some row)
row_test rows place row = at_test (slice_get rows place) row

-- what is compared is what is at the place
pub row_at : (rows : List (List ℕ)) (place : ℕ) (row held : List ℕ) (b : Bool) → slice_get rows place ≡ Some held → Decides b (held ≡ row) → b ≡ is_at rows place row
row_at rows place row held b e same = rw e (one_answer _ _ same (bytes_eq-Decides held row))

-- in a session of one level the public key is that of LMS
pub key_single : (s : SessionData) (secret : List ℕ) → s.top ≡ None → key_in s secret ≡ public_key (signing_secret s secret)
unfolding public_by
key_single s secret e = ap (λ (top : Option Height). public_by top s.params s.shape.id secret) e

pub fits_test : (s : SessionData) (party : ℕ) (secret : List ℕ) → Decides (fits s party secret) (Fits s party secret)
fits_test s zero secret =
    let key = row_test s.keys 0 (key_in s secret) in (
      λ h. record { key = key.0 (and_parts _ _ h).0; anchor = λ some. absurd (omega arith) },
      λ f. and_from _ _ (key.1 f.key) refl,
    )
fits_test s (suc peer) secret =
    let party : ℕ = suc peer in
    let key = row_test s.keys party (key_in s secret) in
    let anchor = row_test s.anchors (party - 1) (anchor_of (secrets_in s party secret) s.shape.rounds) in
    let other : (party == 0) ≡ false = grind (arith, nat_tests) in (
      λ h.
          let parts = and_parts _ _ h in
          record { key = key.0 parts.0; anchor = λ some. anchor.0 (rw other at parts.1) },
      λ f. and_from _ _ (key.1 f.key) (rw other (anchor.1 (f.anchor (omega arith)))),
    )

-- a key of the session has the role that is asked for, and is a party's
of_session : (s : SessionData) (caster : Bool) (k : KeyData) → is_of_session s caster k ≡ true → MatchBool caster (k.party ≡ 0) (1 ≤ k.party) × (k.party ≤ s.shape.peers)
of_session s true k h =
    let parts = and_parts _ _ (and_parts _ _ h).1 in
    (eqb-true _ _ parts.0, leb-true _ _ parts.1)
of_session s false k h =
    let parts = and_parts _ _ (and_parts _ _ h).1 in
    (leb-true _ _ parts.0, leb-true _ _ parts.1)

-- ---- what is read

-- what is read of a key of the session belongs to the session
pub named_ours : (s : SessionData) (caster : Bool) (r : Result KeyData KeyFileFault) (k : KeyData) → named_key s caster r ≡ Ok k
    → (r ≡ Ok k) × (is_of_session s caster k ≡ true)
named_ours s caster (Err e) k h = cc
named_ours s caster (Ok d) k h = by_test (is_of_session s caster d) refl h
  where
    by_test : (b : Bool) → is_of_session s caster d ≡ b → ◌≡◌ {A = Result KeyData KeyFileFault} (cond b (Ok d) (Err NotInRoster)) (Ok k)
        → ◌≡◌ {A = Result KeyData KeyFileFault} (Ok d) (Ok k) × (is_of_session s caster k ≡ true)
    by_test true is e =
        let same : d ≡ k = cc in
        (ap (λ (x : KeyData). Ok x) same, subst (λ (x : KeyData). is_of_session s caster x ≡ true) same is)
    by_test false is e = cc

-- an accepted key fits the session
pub record IsChecked (s : SessionData) (r : Result KeyData KeyFileFault) (k : Secrets) (d : KeyData) : Type 0 where
  pub read : r ≡ Ok d
  pub held : fits s d.party d.secret ≡ true
  pub is : secrets_in s d.party d.secret ≡ k

pub checked_fits : (s : SessionData) (fresh : Bool) (r : Result KeyData KeyFileFault) (k : Secrets) → checked_key s fresh r ≡ Ok k
    → (d : KeyData) × IsChecked s r k d
checked_fits s fresh (Err e) k h = cc
checked_fits s fresh (Ok d) k h = by_tests (fits s d.party d.secret) (d.spent && fresh) refl h
  where
    by_tests : (ours used : Bool) → fits s d.party d.secret ≡ ours
        → ◌≡◌ {A = Result Secrets KeyFileFault} (cond (not ours) (Err NotInRoster) (cond used (Err Spent) (Ok (secrets_in s d.party d.secret)))) (Ok k)
        → (x : KeyData) × IsChecked s (Ok d) k x
    by_tests false used is e = cc
    by_tests true true is e = cc
    by_tests true false is e = (d, record { read = refl; held = is; is = cc })

-- the session holds the secret of a key that belongs to it and fits
pub held_of : (s : SessionData) (caster : Bool) (bytes : List ℕ) (d : KeyData) → session_key_of s caster bytes ≡ Ok d
    → fits s d.party d.secret ≡ true → IsHeldBy s caster (secrets_in s d.party d.secret)
held_of s caster bytes d named held =
    let role = of_session s caster d (named_ours s caster (key_read (is_some s.top) bytes) d named).1 in
    record { id = refl; party = role.1; role = role.0; fits = (fits_test s d.party d.secret).0 held }

-- an accepted key text has a secret that the session holds
pub held_where_accepted : (s : SessionData) (caster fresh : Bool) (bytes : List ℕ) (k : Secrets) → key_file_of s caster fresh bytes ≡ Ok k → IsHeldBy s caster k
held_where_accepted s caster fresh bytes k h =
    let p = checked_fits s fresh (session_key_of s caster bytes) k h in
    subst (IsHeldBy s caster) p.1.is (held_of s caster bytes p.0 p.1.read p.1.held)

-- the keys that are made for a key of the session, if its public key and its anchor are the session's
pub key_file_of_session : (s : SessionData) (caster : Bool) (bytes : List ℕ) (k : KeyData) (file : KeyFile) → session_key_of s caster bytes ≡ Ok k
    → IsMadeFor s k.party k.secret file → fits s file.secrets.party file.secrets.secret ≡ true → IsKeyFileOf s caster file
key_file_of_session s caster bytes k file named made held =
    let role = of_session s caster k (named_ours s caster (key_read (is_some s.top) bytes) k named).1 in
    let party : file.secrets.party ≡ k.party = ap (λ (x : Secrets). x.party) made.secrets in
    let secret : file.secrets.secret ≡ k.secret = ap (λ (x : Secrets). x.secret) made.secrets in
    let of_party : ℕ → Type 0 = λ p. IsMadeFor s p k.secret file in
    let of_secret : List ℕ → Type 0 = λ x. IsMadeFor s file.secrets.party x file in
    record {
      party = rw party role.1;
      role = rw party role.0;
      made = subst of_secret (sym secret) (subst of_party (sym party) made);
      fits = (fits_test s file.secrets.party file.secrets.secret).0 held;
    }

-- the session holds the secret of a key file that belongs to it
pub file_held : (s : SessionData) (caster : Bool) (file : KeyFile) → IsKeyFileOf s caster file → IsHeldBy s caster file.secrets
file_held s caster file is = record { id = ap (λ (x : Secrets). x.id) is.made.secrets; party = is.party; role = is.role; fits = is.fits }
