-- Messages of an exchange whose form, ranges and parties are those of the grammar, and what follows for their contents.
use Rattle.bar_wire.specs.Bodies.{divulge_in, history_in, offer_in, reply_in}
use Rattle.bar_wire.specs.declared.kind.Kind.TheVariants as kinds
use Rattle.bar_rules.specs.Peer.Exchanges.{revealed, revealed_in}
use Rattle.bar_rules.specs.Peer.Holdings.{history, block_of}
use Rattle.bar_rules.specs.Peer.Knowledge.{known}
use Rattle.bar_rules.specs.Peer.Log.{Log, Entry, Ticked, Heard, Said, Kept}
use Rattle.bar_rules.specs.Member.{Member}
use Rattle.bar_rules.specs.Secrets.{nonce_of, secrets_of}
use Rattle.bar_rules.specs.Peer.Terms.{first_on, body_on}
use Rattle.bar_window.specs.Exchange.{party_on}
use Rattle.bar_window.specs.declared.exchange.Exchange.{Exchange}
use Rattle.bar_window.specs.declared.exchange.Role.{Role}
use Rattle.bar_window.specs.declared.exchange.Role.TheVariants.{Initiator, Responder}
use Rattle.bar_window.specs.declared.exchange.XKind.{XKind}
use Rattle.bar_window.specs.declared.update.UpdateId.{UpdateId}
use Rattle.bar_wire.specs.declared.kind.Kind.{Kind}
use Rattle.bar_wire.specs.Datagram.{Message, Datagram, Body, Response, Divulge, Query, Reply, part_of, round_of, exchange_by, is_of}
use Rattle.bar_wire.specs.Grammar.{IsDatagram, HasForm, InRange, IsRound, IsPeer, IsWindowSet}
use Rattle.bar_wire.specs.declared.shape.Shape.{Shape}
use Rattle.std.proofs.Common.{◌≡◌, ◌≢◌, ℕ, ◌≤◌, Bool, true, false, List, [], ◌∷◌, ◌++◌, length, refl, sym, ap, ◌∙◌, subst, inl, inr, cond}
use Rattle.std.specs.Prelude.{Option, Some, None, ◌⊎◌, option_and_then, option_map}
use Rattle.std.specs.Bool.{then_some}
use Rattle.bar_laws.proofs.Logs.FirstFinds.{IsEntry, IsFind, find-of}
use Rattle.bar_laws.proofs.Logs.Elsewhere.{is_of-is}
use Rattle.bar_laws.proofs.Logs.Facts.{length-nonce_of, round-by}
use Rattle.bar_laws.proofs.Logs.Grammar.{part-in-range, part-of-peers}
use Rattle.bar_laws.proofs.Logs.OneIdentity.{part-round}
use Rattle.bar_laws.proofs.Logs.Spoken.{spoken_in, WasSpoken, said-spoken, heard-spoken, first_on-was}
use Rattle.bar_laws.proofs.Logs.WindowSets.{history-set}
use Rattle.bar_laws.proofs.Logs.EqualityTests.{no-value}

-- a message of an exchange as the grammar has it
pub record IsFormed (s : Shape) (m : Message) : Type 0 where
  pub form : HasForm s m.body
  pub range : InRange s m.body
  pub from : IsPeer s m.from
  pub to : IsPeer s m.to
  pub other : m.from ≢ m.to

pub fits-formed : (s : Shape) (d : Datagram) (p : ℕ × XKind × Role) → IsDatagram s d → part_of d.message.body ≡ Some p → IsFormed s d.message
fits-formed s d p fits e =
    let peers = part-of-peers s d.message.body p d.message.from d.message.to e fits.may_send in
    record { form = fits.form; range = fits.range; from = peers.0; to = peers.1; other = peers.2 }

-- the parties of an exchange are two peers, and its round is one of the session
pub record IsBetween (s : Shape) (x : Exchange) : Type 0 where
  pub round : IsRound s x.round
  pub initiator : IsPeer s x.initiator
  pub responder : IsPeer s x.responder
  pub other : x.initiator ≢ x.responder

pub between-by : (s : Shape) (r : ℕ) (k : XKind) (role : Role) (from to : ℕ) → IsRound s r → IsPeer s from → IsPeer s to → from ≢ to → IsBetween s (exchange_by r k role from to)
between-by s r k Initiator from to a b c n = record { round = a; initiator = b; responder = c; other = n }
between-by s r k Responder from to a b c n = record { round = a; initiator = c; responder = b; other = λ e. n (sym e) }

pub formed-between : (s : Shape) (kind : Kind) (x : Exchange) (role : Role) (m : Message) → IsFormed s m → is_of kind x role m ≡ true → IsBetween s x
formed-between s kind x role m f e =
    let at = is_of-is kind x role m e in
    subst (λ y. IsBetween s y) at.exchange
    (between-by s at.round at.sort role m.from m.to (part-in-range s m.body (at.round, at.sort, role) at.part f.range) f.from f.to f.other)

pub party-peer : (s : Shape) (x : Exchange) (role : Role) → IsBetween s x → IsPeer s (party_on x role)
party-peer s x Initiator b = b.initiator
party-peer s x Responder b = b.responder

-- a message of an exchange is of its round
pub round-of-exchange : (kind : Kind) (x : Exchange) (role : Role) (m : Message) → is_of kind x role m ≡ true → round_of m.body ≡ x.round
round-of-exchange kind x role m e =
    let at = is_of-is kind x role m e in
    part-round m.body at.round at.sort role at.part ∙ sym (round-by at.round at.sort role m.from m.to) ∙ ap (λ y. y.round) at.exchange

-- ---- if all that was said or heard of exchanges is in the grammar

abbrev pub SpokenIn : Log → Datagram → Type 0
SpokenIn [] d = ⊥
SpokenIn (x ∷ log) d = (spoken_in x ≡ Some d) ⊎ SpokenIn log d

spoken-append : (after before : Log) (e : Entry) (d : Datagram) → spoken_in e ≡ Some d → SpokenIn (after ++ e ∷ before) d
spoken-append [] before e d f = inl f
spoken-append (x ∷ after) before e d f = inr (spoken-append after before e d f)

pub spoken-in : (log : Log) (d : Datagram) → WasSpoken log d → SpokenIn log d
spoken-in log d w = subst (λ l. SpokenIn l d) (sym w.place.split) (spoken-append w.place.after w.before w.entry d w.found)

abbrev pub AllFormed : Member → Log → Type 0
AllFormed me log = (d : Datagram) (p : ℕ × XKind × Role) → SpokenIn log d → part_of d.message.body ≡ Some p → IsFormed me.session.shape d.message

-- what was read of a side of an exchange, and the message that contains it
pub record WasTold {A : Type 0} (me : Member) (log : Log) (x : Exchange) (f : Body → Option A) (a : A) : Type 0 where
  pub message : Message
  pub formed : IsFormed me.session.shape message
  pub round : round_of message.body ≡ x.round
  pub between : IsBetween me.session.shape x
  pub found : f message.body ≡ Some a

pub told : {A : Type 0} (me : Member) (log : Log) (kind : Kind) (x : Exchange) (role : Role) (f : Body → Option A) (a : A) → AllFormed me log
    → option_and_then f (body_on me (known me log) kind x role) ≡ Some a → WasTold me log x f a
told {A} me log kind x role f a all e = go (first_on me (known me log) kind x role) refl e
  where
    go : (o : Option Datagram) → first_on me (known me log) kind x role ≡ o → option_and_then f (option_map (λ d. d.message.body) o) ≡ Some a → WasTold me log x f a
    go None g e = cc
    go (Some d) g e =
        let w = first_on-was me log kind x role d g in
        let at = is_of-is kind x role d.message w.1 in
        let formed : IsFormed me.session.shape d.message = all d (at.round, at.sort, role) (spoken-in log d w.0) at.part in
        record { message = d.message; formed = formed; round = round-of-exchange kind x role d.message w.1; between = formed-between me.session.shape kind x role d.message formed w.1; found = e }

-- ---- what the messages contain

pub told-answer : (me : Member) (log : Log) (x : Exchange) (hb : List UpdateId) → WasTold me log x history_in hb → IsWindowSet me.session.shape x.round hb
told-answer me log x hb w = subst (λ r. IsWindowSet me.session.shape r hb) w.round (go w.message.body w.formed.form w.found)
  where
    go : (b : Body) → HasForm me.session.shape b → history_in b ≡ Some hb → IsWindowSet me.session.shape (round_of b) hb
    go (Response r us) form e = let same : us ≡ hb = cc in subst (λ z. IsWindowSet me.session.shape r z) same form.1
    go b form e = absurd (no-value (history_in b) hb refl e)

pub told-offer : (me : Member) (log : Log) (x : Exchange) (q : List UpdateId × List UpdateId) → WasTold me log x offer_in q → IsWindowSet me.session.shape x.round q.0 × IsWindowSet me.session.shape x.round q.1
told-offer me log x q w = subst (λ r. IsWindowSet me.session.shape r q.0 × IsWindowSet me.session.shape r q.1) w.round (go w.message.body w.formed.form w.found)
  where
    go : (b : Body) → HasForm me.session.shape b → offer_in b ≡ Some q → IsWindowSet me.session.shape (round_of b) q.0 × IsWindowSet me.session.shape (round_of b) q.1
    go (Query r seed us vs) form e =
        let a : us ≡ q.0 = cc in
        let b : vs ≡ q.1 = cc in
        (subst (λ z. IsWindowSet me.session.shape r z) a form.2, subst (λ z. IsWindowSet me.session.shape r z) b form.3)
    go b form e = absurd (no-value (offer_in b) q refl e)

pub told-reply : (me : Member) (log : Log) (x : Exchange) (t : List UpdateId × List UpdateId × ℕ) → WasTold me log x reply_in t
    → IsWindowSet me.session.shape x.round t.0 × IsWindowSet me.session.shape x.round t.1 × (t.2 ≤ 16)
told-reply me log x t w =
    subst (λ r. IsWindowSet me.session.shape r t.0 × IsWindowSet me.session.shape r t.1 × (t.2 ≤ 16)) w.round (go w.message.body w.formed.form w.formed.range w.found)
  where
    go : (b : Body) → HasForm me.session.shape b → InRange me.session.shape b → reply_in b ≡ Some t → IsWindowSet me.session.shape (round_of b) t.0 × IsWindowSet me.session.shape (round_of b) t.1 × (t.2 ≤ 16)
    go (Reply r us vs z) form range e =
        let a : us ≡ t.0 = cc in
        let b : vs ≡ t.1 = cc in
        let c : z ≡ t.2 = cc in
        (subst (λ y. IsWindowSet me.session.shape r y) a form.1, subst (λ y. IsWindowSet me.session.shape r y) b form.2, subst (λ y. y ≤ 16) c range.1)
    go b form range e = absurd (no-value (reply_in b) t refl e)

-- the nonce and the history that were revealed, and the exchange in which they were
pub record WasRevealed (me : Member) (x : Exchange) (a : List ℕ × List UpdateId) : Type 0 where
  pub nonce : length a.0 ≡ 32
  pub set : IsWindowSet me.session.shape x.round a.1
  pub between : IsBetween me.session.shape x

pub revealed-formed : (me : Member) (log : Log) (x : Exchange) (a : List ℕ × List UpdateId) → AllFormed me log → revealed me log x ≡ Some a → WasRevealed me x a
revealed-formed me log x a all e = at (find-of (λ before e. revealed_in me before x e) log a e)
  where
    formed : (kind : Kind) (d : Datagram) → SpokenIn log d → is_of kind x Initiator d.message ≡ true → IsFormed me.session.shape d.message
    formed kind d s i = let w = is_of-is kind x Initiator d.message i in all d (w.round, w.sort, Initiator) s w.part

    said : (before : Log) (d : Datagram) (b : Bool) → is_of kinds.Request x Initiator d.message ≡ b → SpokenIn log d → then_some {T = List ℕ × List UpdateId} b (nonce_of me x, history me.session (block_of me.session before) x.round) ≡ Some a → WasRevealed me x a
    said before d true i s f =
        let n : nonce_of me x ≡ a.0 = cc in
        let h : history me.session (block_of me.session before) x.round ≡ a.1 = cc in
        record {
          nonce = subst (λ z. length z ≡ 32) n (length-nonce_of (secrets_of me) x);
          set = subst (λ z. IsWindowSet me.session.shape x.round z) h (history-set me.session before x.round);
          between = formed-between me.session.shape kinds.Request x Initiator d.message (formed kinds.Request d s i) i;
        }
    said before d false i s f = cc

    divulge : (b : Body) → HasForm me.session.shape b → divulge_in b ≡ Some a → (length a.0 ≡ 32) × IsWindowSet me.session.shape (round_of b) a.1
    divulge (Divulge r nonce ha) form f =
        let n : nonce ≡ a.0 = cc in
        let h : ha ≡ a.1 = cc in
        (subst (λ z. length z ≡ 32) n form.1, subst (λ z. IsWindowSet me.session.shape r z) h form.2)
    divulge b form f = absurd (no-value (divulge_in b) a refl f)

    heard : (d : Datagram) (b : Bool) → is_of kinds.Divulge x Initiator d.message ≡ b → SpokenIn log d → cond b (divulge_in d.message.body) None ≡ Some a → WasRevealed me x a
    heard d true i s f =
        let k : IsFormed me.session.shape d.message = formed kinds.Divulge d s i in
        let w = divulge d.message.body k.form f in
        record { nonce = w.0; set = subst (λ r. IsWindowSet me.session.shape r a.1) (round-of-exchange kinds.Divulge x Initiator d.message i) w.1; between = formed-between me.session.shape kinds.Divulge x Initiator d.message k i }
    heard d false i s f = cc

    by : (before : Log) (e : Entry) → IsEntry log before e → revealed_in me before x e ≡ Some a → WasRevealed me x a
    by before (Said d) place f = said before d (is_of kinds.Request x Initiator d.message) refl (spoken-in log d (said-spoken log d (record { before = before; place = place }))) f
    by before (Heard d) place f = heard d (is_of kinds.Divulge x Initiator d.message) refl (spoken-in log d (heard-spoken log d (record { before = before; place = place }))) f
    by before Ticked place f = cc
    by before (Kept q v) place f = cc

    at : IsFind (λ before e. revealed_in me before x e) log a → WasRevealed me x a
    at w = by w.before w.entry w.place w.found
