-- The start of a simulation.
use Rattle.std.proofs.Common.{◌≡◌, ◌≤◌, ◌∙◌, ℕ, ◌*◌, List, length, refl, sym, ap, subst, arith}
use Rattle.bar_case.specs.Keystream.{keystream}
use Rattle.bar_lms.specs.declared.params.Params.{Params}
use Rattle.bar_wire.specs.Limits.{largest_content}
use Rattle.bar_wire.specs.declared.shape.Shape.{Shape}
use Rattle.bar_seeds.specs.declared.secrets.Secrets.{Secrets}
use Rattle.bar_rules.specs.Member.{Session}
use Rattle.bar_rules.specs.World.World.{member}
use Rattle.bar_world.specs.declared.lies.Liar.{Liar}
use Rattle.bar_world.specs.Code.Held.{all_held, held_by}
use Rattle.bar_world.specs.Lies.{IsLiar}
use Rattle.bar_world.specs.Made.{session_by}
use Rattle.bar_world.specs.Code.Setups.{AreOfParties, setup_of}
use Rattle.bar_world.specs.Sim.{numbers, secrets, setup, shape, source, stream}
use Rattle.bar_world.proofs.MadeOfHeld.{held-are}

-- the setup that the code makes
pub setup-is : (seed : ℕ) (session : Session) (held : List Secrets) (bytes : List ℕ) → session ≡ (setup seed).session → held ≡ all_held seed
    → bytes ≡ stream seed → setup_of session held bytes ≡ setup seed
setup-is seed session held bytes a b c = λ i. setup_of (a i) (b i) (c i)

pub are-parties : (seed : ℕ) (session : Session) (held : List Secrets) → session ≡ (setup seed).session → held ≡ all_held seed
    → AreOfParties session held
are-parties seed session held a b =
    subst (λ (s : Session). AreOfParties s held) (sym a)
    (subst (λ list. AreOfParties (setup seed).session list) (sym b) (held-are (setup seed).session (secrets seed)))

-- the session made from what the parties hold
pub session-by-is : (seed : ℕ) (s : Shape) (held : List Secrets) → s ≡ shape seed → held ≡ all_held seed
    → session_by s numbers held ≡ (setup seed).session
session-by-is seed s held a b = λ i. session_by (a i) numbers (b i)

pub stream-fits : (seed : ℕ) (session : Session) (bytes : List ℕ) → ((key : List ℕ) (n : ℕ) → length (keystream key n) ≡ n)
    → session ≡ (setup seed).session → bytes ≡ stream seed → length bytes ≤ session.shape.rounds * session.shape.per_round * largest_content
unfolding stream
stream-fits seed session bytes long a c =
    let many : length bytes ≡ 81760 = ap length c ∙ long (source seed) 81760 in
    subst (λ (s : Session). length bytes ≤ s.shape.rounds * s.shape.per_round * largest_content) (sym a) (omega arith)

pub liar-is : (seed : ℕ) (session : Session) (k : Secrets) (liar : Liar) (params : Params) → session ≡ (setup seed).session
    → k ≡ held_by seed 5 → liar.party ≡ k.party → liar.shape ≡ session.shape → params ≡ session.params
    → liar.signer ≡ record { params = params; id = k.id; secret = k.secret } → IsLiar (member (setup seed) 5) liar
liar-is seed session k liar params a b party shape same signer = record {
  party_is = sym (party ∙ ap (λ (s : Secrets). s.party) b);
  shape_is = sym (shape ∙ ap (λ (s : Session). s.shape) a);
  single_is = refl;
  signer_is =
      sym (signer ∙ (λ i. record { params = (same ∙ ap (λ (s : Session). s.params) a) i; id = (b i).id; secret = (b i).secret }));
}
