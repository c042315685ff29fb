-- Of each kind, one message of a side of an exchange is said; what this member said of its own side is what its log has.
use Rattle.bar_rules.specs.Peer.Exchanges.{role_of}
use Rattle.bar_rules.specs.Peer.Knowledge.{known}
use Rattle.bar_rules.specs.Peer.Log.{Log, Said}
use Rattle.bar_rules.specs.Member.{Member}
use Rattle.bar_rules.specs.Peer.Rules.{IsObedient, IsSignedByRule}
use Rattle.bar_rules.specs.Peer.Signing.{MaySay, MayGiveCase}
use Rattle.bar_rules.specs.Peer.Terms.{first_on, body_on, terms_of}
use Rattle.bar_window.specs.Exchange.{kind_code, role_code, party_on, other_role}
use Rattle.bar_window.specs.declared.exchange.Exchange.{Exchange}
use Rattle.bar_window.specs.declared.exchange.Role.{Role}
use Rattle.bar_window.specs.declared.exchange.Role.TheVariants.{Initiator, Responder}
use Rattle.bar_window.specs.declared.exchange.XKind.{XKind}
use Rattle.bar_window.specs.declared.exchange.XKind.TheVariants.{Balanced, Push}
use Rattle.bar_wire.specs.declared.kind.Kind.{Kind}
use Rattle.bar_wire.specs.Kinds.{code_of}
use Rattle.bar_wire.specs.Datagram.{Message, Datagram, Body, Request, Response, Divulge, Query, Reply, Case, KeyReq, Key, Briefcase, is_of, kind_number, part_of, identity_of, named, exchange_by}
use Rattle.std.proofs.Common.{◌≡◌, ℕ, true, List, [], ◌∷◌, refl, sym, ap, ◌∙◌, subst, ◌||◌, eqb}
use Rattle.std.specs.Prelude.{Option, Some, None, option_map, option_and_then, if◌then◌else◌}
use Rattle.bar_laws.proofs.Logs.{allowed-at, WasSaid, later-entry, said-rule, first_said-was, terms_of-later, first_on-own, SaidIn, was-said, said-in, unique, is_of-is, sender-on, receiver-on, party-on, role-own, sign-elsewhere, is_of-part}

-- ---- identities

-- the name of a message, by its kind and its part of an exchange
abbrev name_by : ℕ → ℕ × XKind × Role → ℕ → ℕ → List ℕ
name_by kind p from to =
    if eqb kind 3 || eqb kind 6 then from ∷ p.0 ∷ []
    else if eqb kind 4 || eqb kind 7 then from ∷ to ∷ p.0 ∷ []
    else if eqb kind 8 || eqb kind 10 then from ∷ to ∷ p.0 ∷ kind_code p.1 ∷ role_code p.2 ∷ []
    else []

named-by : (b : Body) (p : ℕ × XKind × Role) (from to : ℕ) → part_of b ≡ Some p → named b from to ≡ name_by (kind_number b) p from to
named-by (Request r s c) p from to e = let same : ◌≡◌ {A = ℕ × XKind × Role} (r, Balanced, Initiator) p = cc in ap (λ (z : ℕ × XKind × Role). name_by 3 z from to) same
named-by (Response r hb) p from to e = let same : ◌≡◌ {A = ℕ × XKind × Role} (r, Balanced, Responder) p = cc in ap (λ (z : ℕ × XKind × Role). name_by 4 z from to) same
named-by (Divulge r n ha) p from to e = refl
named-by (Query r s y o) p from to e = let same : ◌≡◌ {A = ℕ × XKind × Role} (r, Push, Initiator) p = cc in ap (λ (z : ℕ × XKind × Role). name_by 6 z from to) same
named-by (Reply r w g z) p from to e = let same : ◌≡◌ {A = ℕ × XKind × Role} (r, Push, Responder) p = cc in ap (λ (y : ℕ × XKind × Role). name_by 7 y from to) same
named-by (Case c) p from to e = let same : ◌≡◌ {A = ℕ × XKind × Role} (c.round, c.kind, c.role) p = cc in ap (λ (z : ℕ × XKind × Role). name_by 8 z from to) same
named-by (KeyReq r k role) p from to e = refl
named-by (Key k) p from to e = let same : ◌≡◌ {A = ℕ × XKind × Role} (k.round, k.kind, k.role) p = cc in ap (λ (z : ℕ × XKind × Role). name_by 10 z from to) same
named-by _ p from to e = cc

identity-by : (kind : Kind) (x : Exchange) (role : Role) (m : Message) → is_of kind x role m ≡ true
    → identity_of m ≡ code_of kind ∷ name_by (code_of kind) (x.round, x.kind, role) (party_on x role) (party_on x (other_role role))
identity-by kind x role m e =
    let n : kind_number m.body ≡ code_of kind = (is_of-is kind x role m e).number in
    let from : m.from ≡ party_on x role = sender-on kind x role m e in
    let to : m.to ≡ party_on x (other_role role) = receiver-on kind x role m e in
    ap (λ ns. kind_number m.body ∷ ns) (named-by m.body (x.round, x.kind, role) m.from m.to (is_of-part kind x role m e))
    ∙ rw (n, from, to) refl

-- one message of each kind, exchange and side is said
pub said-same : (me : Member) (log : Log) (kind : Kind) (x : Exchange) (role : Role) (d e : Datagram) → IsObedient me log → SaidIn log d → SaidIn log e → is_of kind x role d.message ≡ true → is_of kind x role e.message ≡ true → d ≡ e
said-same me log kind x role d e h p q a b = unique me log d e h p q (identity-by kind x role d.message a ∙ sym (identity-by kind x role e.message b))

-- ---- what the log has of this member's own side

-- what the log has of this member's side was said
pub own-said : (me : Member) (log : Log) (x : Exchange) (role : Role) (kind : Kind) (b : Body) → role_of me x ≡ role → body_on me (known me log) kind x role ≡ Some b
    → (d : Datagram) × SaidIn log d × (d.message.body ≡ b) × (is_of kind x role d.message ≡ true)
own-said me log x role kind b own e = go (first_on me (known me log) kind x role) refl e
  where
    go : (o : Option Datagram) → first_on me (known me log) kind x role ≡ o → option_map (λ d. d.message.body) o ≡ Some b → (d : Datagram) × SaidIn log d × (d.message.body ≡ b) × (is_of kind x role d.message ≡ true)
    go None f e = cc
    go (Some d) f e =
        let was = first_said-was (is_of kind x role) log d (sym (first_on-own me log kind x role own) ∙ f) in
        (d, said-in log d was.0, cc, was.1)

-- what a said message of this member's side says is what the log has
pub told-said : {A : Type 0} (me : Member) (log : Log) (x : Exchange) (role : Role) (kind : Kind) (f : Body → Option A) (m : Datagram) (a : A) → IsObedient me log → SaidIn log m → is_of kind x role m.message ≡ true → role_of me x ≡ role
    → option_and_then f (body_on me (known me log) kind x role) ≡ Some a → f m.message.body ≡ Some a
told-said {A} me log x role kind f m a h p i own e = go (body_on me (known me log) kind x role) refl e
  where
    go : (o : Option Body) → body_on me (known me log) kind x role ≡ o → option_and_then f o ≡ Some a → f m.message.body ≡ Some a
    go None g e = cc
    go (Some b) g e =
        let d = own-said me log x role kind b own g in
        let same : m ≡ d.0 = said-same me log kind x role m d.0 h p d.1 i d.3 in
        ap (λ z. f z.message.body) same ∙ ap f d.2 ∙ e

-- ---- a said briefcase

-- A said briefcase's terms are those that the log has of its exchange, and this member is on the briefcase's side.
pub record SaidBriefcase (me : Member) (log : Log) (d : Datagram) (c : Briefcase) : Type 0 where
  pub terms : terms_of me (known me log) (exchange_by c.round c.kind c.role d.message.from d.message.to) ≡ Some c.terms
  pub own : party_on (exchange_by c.round c.kind c.role d.message.from d.message.to) c.role ≡ me.party
  pub side : role_of me (exchange_by c.round c.kind c.role d.message.from d.message.to) ≡ c.role

pub said-briefcase : (me : Member) (log : Log) (d : Datagram) (c : Briefcase) → IsObedient me log → SaidIn log d → d.message.body ≡ Case c → SaidBriefcase me log d c
said-briefcase me log d c h p e =
    let w : WasSaid log d = was-said log d p in
    let sign : IsSignedByRule me w.before d = said-rule me log d w h in
    let rule : MayGiveCase me (known me w.before) d.message.to c = subst (λ b. MaySay me (known me w.before) d.message.to b) e sign.rule.rule in
    let t : terms_of me (known me log) (exchange_by c.round c.kind c.role me.party d.message.to) ≡ Some c.terms = terms_of-later me log w.before _ c.terms (later-entry log w.before (Said d) w.place) rule.terms in
    let before : IsObedient me w.before = (allowed-at me log w.before (Said d) w.place h).1 in
    let s : role_of me (exchange_by c.round c.kind c.role me.party d.message.to) ≡ c.role = role-own me c.round c.kind c.role d.message.to (sign-elsewhere me w.before d.message before sign.rule) in
    record {
      terms = subst (λ f. terms_of me (known me log) (exchange_by c.round c.kind c.role f d.message.to) ≡ Some c.terms) (sym sign.rule.mine) t;
      own = party-on c.round c.kind c.role d.message.from d.message.to ∙ sign.rule.mine;
      side = subst (λ f. role_of me (exchange_by c.round c.kind c.role f d.message.to) ≡ c.role) (sym sign.rule.mine) s;
    }
