-- Key files made from secrets.
use Rattle.bar_lms.specs.declared.params.Params.{Params}
use Rattle.bar_seeds.specs.declared.secrets.Secrets.{Secrets}
use Rattle.bar_wire.specs.declared.shape.Shape.{Shape}
use Rattle.bar_roster.specs.declared.key_file.KeyFile.{KeyFile}
use Rattle.bar_roster.specs.KeyFile.{IsHeldBy, IsKeyFileOf}
use Rattle.bar_session.specs.Fits.{secrets_in}
use Rattle.bar_rules.specs.Member.{Session}
use Rattle.bar_world.specs.Keys.{AreMade, held_in, key_by, keys_by}
use Rattle.bar_world.specs.Made.{seeding, signing}
use Rattle.std.proofs.Common.{◌≡◌, ◌∙◌, ℕ, List, [], ◌∷◌, Bool, refl, sym, ap}
use Rattle.std.specs.Prelude.{Some, option_map, slice_get}
use Rattle.std.proofs.lemmas.Option.{same_Some, slice_get-map}

held-back : (params : Params) (rounds : ℕ) (held : List Secrets) → held_in (keys_by params rounds held) ≡ held
held-back params rounds [] = refl
held-back params rounds (k ∷ held) = ap (λ list. k ∷ list) (held-back params rounds held)

-- key files contain the secrets that they were made from
pub held-is : (params : Params) (rounds : ℕ) (held : List Secrets) (keys : List KeyFile) → keys ≡ keys_by params rounds held
    → held_in keys ≡ held
held-is params rounds held keys made = ap held_in made ∙ held-back params rounds held

pub made-for : (session : Session) (params : Params) (shape : Shape) (held : List Secrets) (keys : List KeyFile) → params ≡ session.params
    → shape ≡ session.shape → keys ≡ keys_by params shape.rounds held → AreMade session.params session.shape.rounds keys
made-for session params shape held keys a b made =
    made ∙ λ i. keys_by (a i) (b i).rounds (sym (held-is params shape.rounds held keys made) i)

pub secrets-at : (keys : List KeyFile) (i : ℕ) (key : KeyFile) → slice_get keys i ≡ Some key → slice_get (held_in keys) i ≡ Some key.secrets
secrets-at keys i key at =
    slice_get-map (λ (key : KeyFile). key.secrets) keys i ∙ ap (λ o. option_map (λ (key : KeyFile). key.secrets) o) at

pub made-at : (params : Params) (rounds : ℕ) (keys : List KeyFile) (i : ℕ) (key : KeyFile) → AreMade params rounds keys
    → slice_get keys i ≡ Some key → key ≡ key_by params rounds key.secrets
made-at params rounds keys i key made at =
    same_Some key (key_by params rounds key.secrets)
    (sym at ∙ ap (λ list. slice_get list i) made ∙ slice_get-map (key_by params rounds) (held_in keys) i
    ∙ ap (λ o. option_map (key_by params rounds) o) (secrets-at keys i key at))

-- a key file made from a party's secrets is that party's
pub is-key-file : (session : Session) (caster : Bool) (key : KeyFile) → key ≡ key_by session.params session.shape.rounds key.secrets
    → IsHeldBy session caster key.secrets → IsKeyFileOf session caster key
is-key-file session caster key made held =
    let same : key.secrets ≡ secrets_in session key.secrets.party key.secrets.secret =
    λ i. seeding (held.id i) key.secrets.party key.secrets.secret
    in
    record {
      party = held.party;
      role = held.role;
      made = record {
        secrets = same;
        signer = ap (λ (k : KeyFile). k.signer) made ∙ λ i. signing session.params (same i).id key.secrets.secret;
        chain = ap (λ (k : KeyFile). k.chain) made ∙ λ i. record { secrets = same i; rounds = session.shape.rounds };
      };
      fits = held.fits;
    }
