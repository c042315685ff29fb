-- The two peers of a pair: their sides of an exchange, and one step of their talk.
use Rattle.std.proofs.Common.{◌≡◌, ◌∙◌, ℕ, Bool, true, false, not, List, ◌∷◌, ◌++◌, refl, sym, ap, subst}
use Rattle.std.specs.Prelude.{if◌then◌else◌}
use Rattle.std.proofs.lemmas.Bool.{ne_eqb}
use Rattle.bar_bytes.proofs.Tests.{eqb_refl}
use Rattle.bar_window.specs.declared.exchange.Role.{Role}
use Rattle.bar_window.specs.declared.exchange.Role.TheVariants.{Initiator, Responder}
use Rattle.bar_window.specs.declared.exchange.XKind.{XKind}
use Rattle.bar_window.specs.Exchange.{other_role, party_on}
use Rattle.bar_wire.specs.Datagram.{Datagram}
use Rattle.bar_rules.specs.Member.{Member}
use Rattle.bar_rules.specs.Peer.Exchanges.{role_of}
use Rattle.bar_rules.specs.Peer.Knowledge.{Knowledge}
use Rattle.bar_progress.specs.Trading.{IsFair, IsFair_by, IsWelcome, Pair, Talk, hears, hears_by, one, started, take, two}
use Rattle.bar_progress.proofs.Ending.{Side}
use Rattle.bar_progress.proofs.Saying.{Known}

-- ---- sides

role-one : (p : Pair) (kind : XKind) → role_of (one p) (started p kind) ≡ Initiator
role-one p kind = rw (eqb_refl p.first) refl

role-two : (p : Pair) (kind : XKind) → (p.first ≡ p.second → ⊥) → role_of (two p) (started p kind) ≡ Responder
role-two p kind apart = rw (ne_eqb p.first p.second apart) refl

pub side-one : (p : Pair) (kind : XKind) → Side (one p) (started p kind) Initiator Responder p.second
side-one p kind = record {
  role = role-one p kind;
  other = refl;
  back = refl;
  over = ap (λ r. party_on (started p kind) (other_role r)) (role-one p kind);
  own = refl;
  named = refl;
}

pub side-two : (p : Pair) (kind : XKind) → (p.first ≡ p.second → ⊥) → Side (two p) (started p kind) Responder Initiator p.first
side-two p kind apart = record {
  role = role-two p kind apart;
  other = refl;
  back = refl;
  over = ap (λ r. party_on (started p kind) (other_role r)) (role-two p kind apart);
  own = refl;
  named = refl;
}

-- ---- one step of the talk

pub hears-one : (p : Pair) (ka kb : Knowledge) (d : Datagram) (rest : List (ℕ × Datagram)) (out : Known) → take (one p) ka d ≡ out
    → hears p (record { mine = ka; theirs = kb; way = (p.first, d) ∷ rest }) ≡ record { mine = out.state; theirs = kb; way = rest ++ out.sends }
hears-one p ka kb d rest out e =
    ap (hears_by p (record { mine = ka; theirs = kb; way = (p.first, d) ∷ rest }) p.first d rest) (eqb_refl p.first)
    ∙ ap (λ (o : Known). record { mine = o.state; theirs = kb; way = rest ++ o.sends }) e

pub hears-two : (p : Pair) (ka kb : Knowledge) (d : Datagram) (rest : List (ℕ × Datagram)) (out : Known) → (p.first ≡ p.second → ⊥) → take (two p) kb d ≡ out
    → hears p (record { mine = ka; theirs = kb; way = (p.second, d) ∷ rest }) ≡ record { mine = ka; theirs = out.state; way = rest ++ out.sends }
hears-two p ka kb d rest out apart e =
    ap (hears_by p (record { mine = ka; theirs = kb; way = (p.second, d) ∷ rest }) p.second d rest) (ne_eqb p.second p.first (λ z. apart (sym z)))
    ∙ ap (λ (o : Known). record { mine = ka; theirs = o.state; way = rest ++ o.sends }) e

-- ---- fairness of the first on its way

pub fair-one : (p : Pair) (ka kb : Knowledge) (d : Datagram) (rest : List (ℕ × Datagram)) → IsFair p (record { mine = ka; theirs = kb; way = (p.first, d) ∷ rest }) → IsWelcome (one p) ka d
fair-one p ka kb d rest f = subst (IsFair_by p (record { mine = ka; theirs = kb; way = (p.first, d) ∷ rest }) d) (eqb_refl p.first) f

pub fair-two : (p : Pair) (ka kb : Knowledge) (d : Datagram) (rest : List (ℕ × Datagram)) → (p.first ≡ p.second → ⊥) → IsFair p (record { mine = ka; theirs = kb; way = (p.second, d) ∷ rest }) → IsWelcome (two p) kb d
fair-two p ka kb d rest apart f = subst (IsFair_by p (record { mine = ka; theirs = kb; way = (p.second, d) ∷ rest }) d) (ne_eqb p.second p.first (λ z. apart (sym z))) f

-- ---- the same for either peer, whichever is the first

abbrev pub near : Pair → Bool → Member
near p first =
    record { session = p.session; party = if first then p.first else p.second; secret = if first then p.secrets.0 else p.secrets.1 }

abbrev pub side_of : Bool → Role
side_of true = Initiator
side_of false = Responder

abbrev pub talk_of : Bool → Knowledge → Knowledge → List (ℕ × Datagram) → Talk
talk_of true ku kv way = record { mine = ku; theirs = kv; way = way }
talk_of false ku kv way = record { mine = kv; theirs = ku; way = way }

pub hears-near : (p : Pair) (first : Bool) (ku kv : Knowledge) (d : Datagram) (rest : List (ℕ × Datagram)) (out : Known) → (p.first ≡ p.second → ⊥) → take (near p first) ku d ≡ out
    → hears p (talk_of first ku kv (((near p first).party, d) ∷ rest)) ≡ talk_of first out.state kv (rest ++ out.sends)
hears-near p true ku kv d rest out apart e = hears-one p ku kv d rest out e
hears-near p false ku kv d rest out apart e = hears-two p kv ku d rest out apart e

pub hears-far : (p : Pair) (first : Bool) (ku kv : Knowledge) (d : Datagram) (rest : List (ℕ × Datagram)) (out : Known) → (p.first ≡ p.second → ⊥) → take (near p (not first)) kv d ≡ out
    → hears p (talk_of first ku kv (((near p (not first)).party, d) ∷ rest)) ≡ talk_of first ku out.state (rest ++ out.sends)
hears-far p true ku kv d rest out apart e = hears-two p ku kv d rest out apart e
hears-far p false ku kv d rest out apart e = hears-one p kv ku d rest out e

pub fair-near : (p : Pair) (first : Bool) (ku kv : Knowledge) (d : Datagram) (rest : List (ℕ × Datagram)) → (p.first ≡ p.second → ⊥)
    → IsFair p (talk_of first ku kv (((near p first).party, d) ∷ rest)) → IsWelcome (near p first) ku d
fair-near p true ku kv d rest apart f = fair-one p ku kv d rest f
fair-near p false ku kv d rest apart f = fair-two p kv ku d rest apart f

pub fair-far : (p : Pair) (first : Bool) (ku kv : Knowledge) (d : Datagram) (rest : List (ℕ × Datagram)) → (p.first ≡ p.second → ⊥)
    → IsFair p (talk_of first ku kv (((near p (not first)).party, d) ∷ rest)) → IsWelcome (near p (not first)) kv d
fair-far p true ku kv d rest apart f = fair-two p ku kv d rest apart f
fair-far p false ku kv d rest apart f = fair-one p kv ku d rest f
