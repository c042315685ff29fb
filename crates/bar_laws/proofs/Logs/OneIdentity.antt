-- Messages of one identity: if a message wasn't said for its exchange, no other of its identity is said.
use Rattle.bar_wire.specs.declared.kind.Kind.TheVariants as kinds
use Rattle.bar_wire.specs.declared.kind.Kind.{Kind}
use Rattle.bar_rules.specs.Peer.Log.{Log, Heard, Said, earliest, if_passes, heard_in, said_in, first_heard, first_said, has_heard, has_said}
use Rattle.bar_rules.specs.Peer.Signing.{has_same_identity}
use Rattle.bar_window.specs.declared.exchange.Exchange.{Exchange}
use Rattle.bar_window.specs.declared.exchange.Role.{Role}
use Rattle.bar_window.specs.declared.exchange.Role.TheVariants.{Initiator, Responder}
use Rattle.bar_window.specs.declared.exchange.XKind.{XKind}
use Rattle.bar_window.specs.declared.exchange.XKind.TheVariants.{Balanced, Push}
use Rattle.bar_window.proofs.Exchanges.{same_kind-is, same_role-is}
use Rattle.bar_wire.specs.Datagram.{Request, Divulge, Query, KeyReq, round_of, Message, Datagram, Body, Response, Reply, Case, Key, is_of, kind_number, part_of, named}
use Rattle.std.specs.Option.{option_or}
use Rattle.std.specs.Str.{bytes_eq}
use Rattle.std.proofs.Common.{◌≡◌, ℕ, Bool, true, false, [], ◌∷◌, ◌++◌, refl, sym, ap, subst}
use Rattle.std.specs.Prelude.{Option, Some, None, is_some}
use Rattle.std.specs.Bool.{then_some}
use Rattle.std.proofs.lemmas.Bool.{and_parts, eqb-true, both_ways}
use Rattle.bar_laws.proofs.Logs.EqualityTests.{no-value, other-kind}
use Rattle.bar_laws.proofs.Logs.LaterLogs.{WasHeard, WasSaid, first_said-was, some-is}

-- what is found remains found
pub some-more : {A : Type 0} (o p : Option A) → is_some o ≡ true → is_some (option_or o p) ≡ true
some-more (Some a) p e = refl
some-more None p e = cc

-- a message that was said and passes is found
found-more : (p : Message → Bool) (d : Datagram) (new before : Log) → p d.message ≡ true → is_some (earliest (λ before e. if_passes p (said_in e)) (new ++ Said d ∷ before)) ≡ true
found-more p d [] before e = go (first_said p before)
  where
    go : (o : Option Datagram) → is_some (option_or o (then_some (p d.message) d)) ≡ true
    go (Some c) = refl
    go None = rw e refl
found-more p d (x ∷ new) before e = some-more _ _ (found-more p d new before e)

pub said-found : (p : Message → Bool) (log : Log) (d : Datagram) → WasSaid log d → p d.message ≡ true → has_said p log ≡ true
said-found p log d w e = subst (λ l. has_said p l ≡ true) (sym w.place.split) (found-more p d w.place.after w.before e)

-- the same holds for one that was admitted and passes
found-heard : (p : Message → Bool) (d : Datagram) (new before : Log) → p d.message ≡ true → is_some (earliest (λ before e. if_passes p (heard_in e)) (new ++ Heard d ∷ before)) ≡ true
found-heard p d [] before e = go (first_heard p before)
  where
    go : (o : Option Datagram) → is_some (option_or o (then_some (p d.message) d)) ≡ true
    go (Some c) = refl
    go None = rw e refl
found-heard p d (x ∷ new) before e = some-more _ _ (found-heard p d new before e)

pub heard-found : (p : Message → Bool) (log : Log) (d : Datagram) → WasHeard log d → p d.message ≡ true → has_heard p log ≡ true
heard-found p log d w e = subst (λ l. has_heard p l ≡ true) (sym w.place.split) (found-heard p d w.place.after w.before e)

-- one name for each exchange: what has an identity's fields is of the same exchange and side
pub record IsTwin (m n : Message) : Type 0 where
  pub from : n.from ≡ m.from
  pub to : n.to ≡ m.to
  pub kind : kind_number n.body ≡ kind_number m.body
  pub part : part_of n.body ≡ part_of m.body

pub twin-is_of : (m n : Message) (kind : Kind) (x : Exchange) (role : Role) → IsTwin m n → is_of kind x role m ≡ true → is_of kind x role n ≡ true
twin-is_of m n kind x role t e = rw (t.kind, t.part, t.from, t.to) e

-- RESPONSE, REPLY, CASE and KEY have their whole exchange in their identity
abbrev pub is_whole : Body → Bool
is_whole (Response r hb) = true
is_whole (Reply r w g z) = true
is_whole (Case c) = true
is_whole (Key k) = true
is_whole _ = false

twin-by : (m n : Message) (b c : Body) → m.body ≡ b → n.body ≡ c → is_whole b ≡ true → kind_number c ≡ kind_number b → bytes_eq (kind_number c ∷ named c n.from n.to) (kind_number b ∷ named b m.from m.to) ≡ true → IsTwin m n
twin-by m n (Response r hb) (Response r' hb') p q w same e =
    let a = and_parts _ _ e in
    let b = and_parts _ _ a.1 in
    let c = and_parts _ _ b.1 in
    let rounds : r' ≡ r = eqb-true _ _ c.0 in
    record { from = eqb-true _ _ a.0; to = eqb-true _ _ b.0; kind = rw (p, q) refl; part = rw (p, q, rounds) refl }
twin-by m n (Reply r w' g z) (Reply r' w'' g' z') p q w same e =
    let a = and_parts _ _ e in
    let b = and_parts _ _ a.1 in
    let c = and_parts _ _ b.1 in
    let rounds : r' ≡ r = eqb-true _ _ c.0 in
    record { from = eqb-true _ _ a.0; to = eqb-true _ _ b.0; kind = rw (p, q) refl; part = rw (p, q, rounds) refl }
twin-by m n (Case k) (Case l) p q w same e =
    let a = and_parts _ _ e in
    let b = and_parts _ _ a.1 in
    let c = and_parts _ _ b.1 in
    let d = and_parts _ _ c.1 in
    let f = and_parts _ _ d.1 in
    let rounds : l.round ≡ k.round = eqb-true _ _ c.0 in
    let kinds : l.kind ≡ k.kind = same_kind-is l.kind k.kind d.0 in
    let roles : l.role ≡ k.role = same_role-is l.role k.role f.0 in
    record { from = eqb-true _ _ a.0; to = eqb-true _ _ b.0; kind = rw (p, q) refl; part = rw (p, q, rounds, kinds, roles) refl }
twin-by m n (Key k) (Key l) p q w same e =
    let a = and_parts _ _ e in
    let b = and_parts _ _ a.1 in
    let c = and_parts _ _ b.1 in
    let d = and_parts _ _ c.1 in
    let f = and_parts _ _ d.1 in
    let rounds : l.round ≡ k.round = eqb-true _ _ c.0 in
    let kinds : l.kind ≡ k.kind = same_kind-is l.kind k.kind d.0 in
    let roles : l.role ≡ k.role = same_role-is l.role k.role f.0 in
    record { from = eqb-true _ _ a.0; to = eqb-true _ _ b.0; kind = rw (p, q) refl; part = rw (p, q, rounds, kinds, roles) refl }
twin-by m n (Response r hb) c p q w same e = absurd (other-kind c kinds.Response refl same)
twin-by m n (Reply r w' g z) c p q w same e = absurd (other-kind c kinds.Reply refl same)
twin-by m n (Case k) c p q w same e = absurd (other-kind c kinds.Case refl same)
twin-by m n (Key k) c p q w same e = absurd (other-kind c kinds.Key refl same)
twin-by m n b c p q w same e = absurd (both_ways (is_whole b) refl w)

pub twin-whole : (m n : Message) → is_whole m.body ≡ true → has_same_identity m n ≡ true → IsTwin m n
twin-whole m n w e = twin-by m n m.body n.body refl refl w (eqb-true _ _ (and_parts _ _ e).0) e

none-false : {A : Type 0} (o : Option A) → o ≡ None → is_some o ≡ false
none-false o e = ap is_some e

-- if nothing was said for the exchange, nothing of the identity was said
pub once-whole : (log : Log) (m : Message) (kind : Kind) (x : Exchange) (role : Role) → is_whole m.body ≡ true → is_of kind x role m ≡ true
    → first_said (is_of kind x role) log ≡ None → has_said (has_same_identity m) log ≡ false
once-whole log m kind x role whole own none = go (has_said (has_same_identity m) log) refl
  where
    no : (d : Datagram) × (first_said (has_same_identity m) log ≡ Some d) → ⊥
    no f =
        let was = first_said-was (has_same_identity m) log f.0 f.1 in
        let found : has_said (is_of kind x role) log ≡ true = said-found (is_of kind x role) log f.0 was.0 (twin-is_of m f.0.message kind x role (twin-whole m f.0.message whole was.1) own) in
        both_ways _ (none-false _ none) found

    go : (b : Bool) → has_said (has_same_identity m) log ≡ b → has_said (has_same_identity m) log ≡ false
    go false e = e
    go true e = absurd (no (some-is _ e))

pub parts-of : (p q : ℕ × XKind × Role) → ◌≡◌ {A = Option (ℕ × XKind × Role)} (Some p) (Some q) → (p.0 ≡ q.0) × (p.1 ≡ q.1) × (p.2 ≡ q.2)
parts-of p q e = let same : p ≡ q = cc in (ap (λ (z : ℕ × XKind × Role). z.0) same, ap (λ (z : ℕ × XKind × Role). z.1) same, ap (λ (z : ℕ × XKind × Role). z.2) same)

pub part-round : (b : Body) (r : ℕ) (k : XKind) (role : Role) → part_of b ≡ Some (r, k, role) → round_of b ≡ r
part-round (Request q s c) r k role e = (parts-of (q, Balanced, Initiator) (r, k, role) e).0
part-round (Response q hb) r k role e = (parts-of (q, Balanced, Responder) (r, k, role) e).0
part-round (Divulge q n ha) r k role e = (parts-of (q, Balanced, Initiator) (r, k, role) e).0
part-round (Query q s y o) r k role e = (parts-of (q, Push, Initiator) (r, k, role) e).0
part-round (Reply q w g z) r k role e = (parts-of (q, Push, Responder) (r, k, role) e).0
part-round (Case c) r k role e = (parts-of (c.round, c.kind, c.role) (r, k, role) e).0
part-round (KeyReq q l a) r k role e = (parts-of (q, l, a) (r, k, role) e).0
part-round (Key c) r k role e = (parts-of (c.round, c.kind, c.role) (r, k, role) e).0
part-round b r k role e = absurd (no-value (part_of b) (r, k, role) refl e)
