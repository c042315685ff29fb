-- The datagram of an order, given a log.
use Rattle.std.proofs.Common.{◌≡◌, ◌∙◌, ℕ, ◌<◌, ◌≤◌, Bool, true, false, List, [], ◌∷◌, Option, Some, None, sym, ap, refl, subst, is_some, arith}
use Rattle.std.specs.Prelude.{option_map, IfSome, Contains}
use Rattle.std.proofs.lemmas.List.Elements.{Contains-append_right}
use Rattle.std.specs.Bool.{then_some, MatchBool}
use Rattle.std.specs.Option.{option_or}
use Rattle.bar_window.specs.declared.exchange.Exchange.{Exchange}
use Rattle.bar_window.specs.declared.exchange.Role.{Role}
use Rattle.bar_window.specs.declared.exchange.Role.TheVariants.{Initiator, Responder}
use Rattle.bar_window.specs.declared.exchange.XKind.{XKind}
use Rattle.bar_window.specs.declared.exchange.XKind.TheVariants.{Balanced, Push}
use Rattle.bar_window.specs.Terms.{Terms}
use Rattle.bar_wire.specs.Datagram.{Message, Datagram, Body, Manifest, Block, Request, Response, Divulge, Query, Reply, Case, KeyReq, Key, Evidence, Evict, Place, is_of, kind_of, part_of, place_by, place_of, exchange_by, round_of}
use Rattle.bar_wire.specs.Grammar.{IsRound}
use Rattle.bar_wire.specs.Kinds.{is_signed_kind}
use Rattle.bar_wire.specs.declared.kind.Kind.{Kind}
use Rattle.bar_wire.specs.declared.kind.Kind.TheVariants as kinds
use Rattle.bar_rules.specs.Member.{Member}
use Rattle.bar_rules.specs.Values.{unsigned}
use Rattle.bar_rules.specs.Peer.Agreement.{IsRecent}
use Rattle.bar_rules.specs.Peer.Exchanges.{role_of}
use Rattle.bar_rules.specs.Peer.Knowledge.{Knowledge, known, has_said_of}
use Rattle.bar_rules.specs.Peer.Log.{Log, Entry, Ticked, Heard, Said, Kept, first_said, said_in, if_passes}
use Rattle.bar_rules.specs.Peer.Machine.{message_to}
use Rattle.bar_rules.specs.Peer.Rules.{IsObedient}
use Rattle.bar_rules.specs.Peer.Signing.{signed}
use Rattle.bar_rules.specs.Peer.Terms.{terms_of}
use Rattle.bar_rules.specs.Peer.Writing.{body_again, body_now, written}
use Rattle.bar_laws.specs.Leaves.{KeepsLeaves}
use Rattle.bar_laws.specs.Rewriting.{IsRewritten}
use Rattle.bar_laws.specs.Sizes.{FitsItsRoom}
use Rattle.bar_laws.specs.Soundness.{IsSound, CanGive}
use Rattle.bar_wire.proofs.ExchangeBy.{round-by, kind-by}
use Rattle.bar_exchange.specs.Code.Writing.{CanWrite, CanSeal, IsSealable}
use Rattle.bar_peer.specs.Code.Giving.{IsDue, IsSignedFor}
use Rattle.bar_peer.specs.Code.Sending.{datagram_now, IsTimely}
use Rattle.bar_peer.proofs.Hearing.Exchanges.{is_here}

-- ---- options

pub map_some : {A B : Type 0} (f : A → B) (o : Option A) (b : B) → option_map f o ≡ Some b → (a : A) × (o ≡ Some a) × (b ≡ f a)
map_some f None b h = absurd (cc)
map_some f (Some a) b h = (a, refl, cc)

-- ---- datagrams that were said, in a log

-- The log contains the first datagram that passes the test, and it was signed by rule.
pub record IsSaidIn (me : Member) (log : Log) (d : Datagram) : Type 0 where
  pub there : Contains log (Said d)
  pub low : 1 ≤ round_of d.message.body
  pub high : round_of d.message.body ≤ me.session.shape.rounds

now_said : (me : Member) (p : Message → Bool) (log : Log) (e : Entry) (d : Datagram) → IsObedient me (e ∷ log)
    → if_passes p (said_in e) ≡ Some d → IsSaidIn me (e ∷ log) d
now_said me p log Ticked d h is = absurd (cc)
now_said me p log (Heard f) d h is = absurd (cc)
now_said me p log (Kept q evidence) d h is = absurd (cc)
now_said me p log (Said f) d h is = subst (IsSaidIn me (Said f ∷ log)) (one (p f.message) is)
    (record { there = (0, omega arith, refl); low = h.0.rule.low; high = h.0.rule.high })
  where
    one : (b : Bool) → then_some b f ≡ Some d → f ≡ d
    one true is = cc
    one false is = absurd (cc)

pub in_log : (me : Member) (p : Message → Bool) (log : Log) (d : Datagram) → IsObedient me log → first_said p log ≡ Some d
    → IsSaidIn me log d
in_log me p [] d h is = absurd (cc)
in_log me p (e ∷ log) d h is = by (first_said p log) (λ now. now_said me p log e d h now) (λ was. earlier (in_log me p log d h.1 was)) is
  where
    earlier : IsSaidIn me log d → IsSaidIn me (e ∷ log) d
    earlier before = record { there = Contains-append_right (e ∷ []) log (Said d) before.there; low = before.low; high = before.high }

    by : (o : Option Datagram) → (if_passes p (said_in e) ≡ Some d → IsSaidIn me (e ∷ log) d) → (o ≡ Some d → IsSaidIn me (e ∷ log) d)
        → option_or o (if_passes p (said_in e)) ≡ Some d → IsSaidIn me (e ∷ log) d
    by None now before is = now is
    by (Some f) now before is = before is

-- ---- messages of a kind, exchange and side

abbrev place : Exchange → Role → Place
place x role = record { exchange = x; role = role }

-- The message is of this kind, and of this exchange and side.
record IsOfPart (x : Exchange) (kind : Kind) (role : Role) (m : Message) : Type 0 where
  pub of_kind : kind_of m.body ≡ kind
  pub at : place_of m ≡ Some (place x role)
  pub part : part_of m.body ≡ Some (x.round, x.kind, role)

part_is : (x : Exchange) (role : Role) (from to : ℕ) (o : Option (ℕ × XKind × Role)) → option_map (place_by from to) o ≡ Some (place x role)
    → o ≡ Some (x.round, x.kind, role)
part_is x role from to o h =
    let some = map_some (place_by from to) o (place x role) h in
    let p : ℕ × XKind × Role = some.0 in
    let there : x ≡ exchange_by p.0 p.1 p.2 from to = ap (λ (q : Place). q.exchange) some.2 in
    let side : role ≡ p.2 = ap (λ (q : Place). q.role) some.2 in
    let round : x.round ≡ p.0 = ap (λ (y : Exchange). y.round) there ∙ round-by p.0 p.1 p.2 from to in
    let kind : x.kind ≡ p.1 = ap (λ (y : Exchange). y.kind) there ∙ kind-by p.0 p.1 p.2 from to in
    some.1 ∙ (λ i. Some (sym round i, sym kind i, sym side i))

of_part : (kind : Kind) (x : Exchange) (role : Role) (m : Message) → is_of kind x role m ≡ true → IsOfPart x kind role m
of_part kind x role m h =
    let here = is_here m kind x role h in
    record { of_kind = here.kind_is; at = here.place_is; part = part_is x role m.from m.to (part_of m.body) here.place_is }

round_of_part : (b : Body) (p : ℕ × XKind × Role) → part_of b ≡ Some p → round_of b ≡ p.0
round_of_part (Manifest r ds) p h = absurd (cc)
round_of_part (Block u block) p h = absurd (cc)
round_of_part (Evidence ds) p h = absurd (cc)
round_of_part (Evict r ps) p h = absurd (cc)
round_of_part (Request r s c) p h = let same : (r, Balanced, Initiator) ≡ p = cc in ap (λ (q : ℕ × XKind × Role). q.0) same
round_of_part (Response r hb) p h = let same : (r, Balanced, Responder) ≡ p = cc in ap (λ (q : ℕ × XKind × Role). q.0) same
round_of_part (Divulge r n ha) p h = let same : (r, Balanced, Initiator) ≡ p = cc in ap (λ (q : ℕ × XKind × Role). q.0) same
round_of_part (Query r s y o) p h = let same : (r, Push, Initiator) ≡ p = cc in ap (λ (q : ℕ × XKind × Role). q.0) same
round_of_part (Reply r w g z) p h = let same : (r, Push, Responder) ≡ p = cc in ap (λ (q : ℕ × XKind × Role). q.0) same
round_of_part (Case c) p h = let same : (c.round, c.kind, c.role) ≡ p = cc in ap (λ (q : ℕ × XKind × Role). q.0) same
round_of_part (KeyReq r kind role) p h = let same : (r, kind, role) ≡ p = cc in ap (λ (q : ℕ × XKind × Role). q.0) same
round_of_part (Key g) p h = let same : (g.round, g.kind, g.role) ≡ p = cc in ap (λ (q : ℕ × XKind × Role). q.0) same

-- ---- the datagram of an order

-- The laws that hold of a log.
pub record AreLaws (me : Member) (log : Log) : Type 0 where
  pub obedient : IsObedient me log
  pub sound : IsSound me (known me log)
  pub rewritten : IsRewritten me (known me log)
  pub leaves : KeepsLeaves me log
  pub evidence : (party : ℕ) (evidence : List (List ℕ)) → (known me log).evidence party ≡ Some evidence → FitsItsRoom me evidence
  pub life : 2 ≤ me.session.shape.life

signed_for : (me : Member) (log : Log) (kind : Kind) (x : Exchange) (d : Datagram) (b : Body) → AreLaws me log
    → (known me log).said kind x (role_of me x) ≡ Some d → d ≡ signed me (known me log) (message_to me x b)
    → IsSignedFor me (known me log) (record { kind = kind; x = x }) d
signed_for me log kind x d b laws said is =
    let of = of_part kind x (role_of me x) d.message (laws.sound.said kind x (role_of me x) d said) in
    let there = in_log me (is_of kind x (role_of me x)) log d laws.obedient said in
    let round : round_of d.message.body ≡ x.round = round_of_part d.message.body (x.round, x.kind, role_of me x) of.part in
    record {
      kind = of.of_kind;
      part = of.part;
      place = of.at;
      round = subst (λ r. IsRound me.session.shape r) round (there.low, there.high);
      seat = seats ((known me log).seat x) (laws.sound.seats x);
      below = laws.leaves.below d there.there;
      signature = laws.leaves.stays d there.there;
    }
  where
    seats : (o : Option ℕ) → ((seat : ℕ) → o ≡ Some seat → seat < 2) → IfSome o (λ seat. seat < 2)
    seats None h = tt
    seats (Some seat) h = h seat refl

-- what was said is written in the same way again
due_said : (me : Member) (log : Log) (kind : Kind) (x : Exchange) (d : Datagram) → AreLaws me log → is_signed_kind kind ≡ true
    → body_now me (known me log) kind x ≡ body_again me (known me log) kind x → IsRecent me (known me log) x.round
    → (IsRound me.session.shape x.round → CanWrite me (known me log) kind x)
    → (known me log).said kind x (role_of me x) ≡ Some d
    → IsDue me (known me log) (record { kind = kind; x = x }) d
due_said me log kind x d laws seal same recent can said =
    let k = known me log in
    let again = map_some (λ b. signed me k (message_to me x b)) (body_again me k kind x) d (laws.rewritten.same kind x d said) in
    let body : d.message.body ≡ again.0 = ap (λ (e : Datagram). e.message.body) again.2 in
    let for : IsSignedFor me k (record { kind = kind; x = x }) d = signed_for me log kind x d again.0 laws said again.2 in
    record {
      body = same ∙ again.1 ∙ ap Some (sym body);
      message = ap (λ (e : Datagram). e.message) again.2 ∙ ap (message_to me x) (sym body);
      recent = recent;
      can = can for.round;
      signature = subst (λ b. MatchBool b (IsSignedFor me k (record { kind = kind; x = x }) d) (d.signature ≡ [])) (sym seal) for;
    }

-- an unsigned message is written from the current knowledge
due_unsigned : (me : Member) (k : Knowledge) (kind : Kind) (x : Exchange) (d : Datagram) → is_signed_kind kind ≡ false
    → IsRecent me k x.round → CanWrite me k kind x → option_map (λ b. unsigned (message_to me x b)) (body_now me k kind x) ≡ Some d
    → IsDue me k (record { kind = kind; x = x }) d
due_unsigned me k kind x d plain recent can is =
    let now = map_some (λ b. unsigned (message_to me x b)) (body_now me k kind x) d is in
    let body : d.message.body ≡ now.0 = ap (λ (e : Datagram). e.message.body) now.2 in
    record {
      body = now.1 ∙ ap Some (sym body);
      message = ap (λ (e : Datagram). e.message) now.2 ∙ ap (message_to me x) (sym body);
      recent = recent;
      can = can;
      signature = subst (λ b. MatchBool b (IsSignedFor me k (record { kind = kind; x = x }) d) (d.signature ≡ [])) (sym plain)
          (ap (λ (e : Datagram). e.signature) now.2);
    }

-- no message of the other kinds was said
never : (me : Member) (k : Knowledge) (kind : Kind) (x : Exchange) (d : Datagram) → IsRewritten me k → body_again me k kind x ≡ None
    → k.said kind x (role_of me x) ≡ Some d → ⊥
never me k kind x d h none said =
    let is : None ≡ Some d = sym (ap (written me k x) none) ∙ h.same kind x d said in absurd (cc)

can_seal : (me : Member) (log : Log) (x : Exchange) (d : Datagram) → AreLaws me log
    → IsTimely me (known me log) (record { kind = kinds.Case; x = x })
    → (known me log).said kinds.Case x (role_of me x) ≡ Some d → CanSeal me (known me log) x
can_seal me log x d laws timely said = record { time = timely; promise = promises (terms_of me (known me log) x) (laws.sound.cases x) }
  where
    promises : (o : Option Terms)
        → ((t : Terms) → has_said_of (known me log) kinds.Case x (role_of me x) ≡ true → o ≡ Some t → CanGive me (known me log) x t)
        → IfSome o (λ t. IsSealable (known me log).block me.session.cap t (role_of me x))
    promises None h = tt
    promises (Some t) h =
        let give : CanGive me (known me log) x t = h t (ap is_some said) refl in record { promise = give.valid; held = give.held }

pub due : (me : Member) (log : Log) (kind : Kind) (x : Exchange) (d : Datagram) → AreLaws me log
    → IsTimely me (known me log) (record { kind = kind; x = x }) → datagram_now me (known me log) kind x ≡ Some d
    → IsDue me (known me log) (record { kind = kind; x = x }) d
due me log kinds.Request x d laws timely is = due_said me log kinds.Request x d laws refl refl timely (λ round. round) is
due me log kinds.Query x d laws timely is = due_said me log kinds.Query x d laws refl refl timely (λ round. round) is
due me log kinds.Response x d laws timely is = due_said me log kinds.Response x d laws refl refl timely (λ round. tt) is
due me log kinds.Reply x d laws timely is = due_said me log kinds.Reply x d laws refl refl timely (λ round. tt) is
due me log kinds.Key x d laws timely is = due_said me log kinds.Key x d laws refl refl timely (λ round. tt) is
due me log kinds.Case x d laws timely is =
    due_said me log kinds.Case x d laws refl refl (omega (arith, timely, laws.life)) (λ round. can_seal me log x d laws timely is) is
due me log kinds.Divulge x d laws timely is = due_unsigned me (known me log) kinds.Divulge x d refl timely tt is
due me log kinds.KeyReq x d laws timely is = due_unsigned me (known me log) kinds.KeyReq x d refl timely tt is
due me log kinds.Manifest x d laws timely is = absurd (never me (known me log) kinds.Manifest x d laws.rewritten refl is)
due me log kinds.Block x d laws timely is = absurd (never me (known me log) kinds.Block x d laws.rewritten refl is)
due me log kinds.Evidence x d laws timely is = absurd (never me (known me log) kinds.Evidence x d laws.rewritten refl is)
due me log kinds.Evict x d laws timely is = absurd (never me (known me log) kinds.Evict x d laws.rewritten refl is)
