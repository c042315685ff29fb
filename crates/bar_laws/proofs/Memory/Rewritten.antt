-- What was said is what would be written now.
use Rattle.bar_wire.specs.Bodies.{history_in, offer_in, reply_in}
use Rattle.bar_rules.specs.Peer.Exchanges.{role_of, revealed, revealed_in}
use Rattle.bar_rules.specs.Peer.Holdings.{block_of, block_in}
use Rattle.bar_rules.specs.Peer.Knowledge.{known}
use Rattle.bar_rules.specs.Peer.Log.{Log, Said, first_said}
use Rattle.bar_rules.specs.Peer.Machine.{message_to}
use Rattle.bar_rules.specs.Member.{Session, Member}
use Rattle.bar_rules.specs.Peer.Orders.{case_body}
use Rattle.bar_rules.specs.Peer.Rules.{IsObedient}
use Rattle.bar_rules.specs.Secrets.{seed_of, commitment_of, briefcase_key}
use Rattle.bar_rules.specs.Peer.Signing.{MaySay, MayGiveCase, MayGiveKey, signed}
use Rattle.bar_rules.specs.Peer.Terms.{terms_of, body_on}
use Rattle.bar_rules.specs.Values.{sealed}
use Rattle.bar_terms.specs.Terms.{promised_updates, promised_junk}
use Rattle.bar_window.specs.Exchange.{party_on}
use Rattle.bar_window.specs.declared.exchange.Exchange.{Exchange}
use Rattle.bar_window.specs.declared.exchange.Role.{Role}
use Rattle.bar_window.specs.declared.exchange.Role.TheVariants.{Initiator, Responder}
use Rattle.bar_window.specs.declared.exchange.XKind.TheVariants.{Balanced, Push}
use Rattle.bar_window.specs.declared.update.UpdateId.{UpdateId}
use Rattle.bar_wire.specs.Datagram.{Datagram, Body, Request, Response, Query, Reply, Case, Key, Briefcase, is_of, kind_number, part_of, exchange_by, Place, place_by}
use Rattle.bar_wire.specs.declared.kind.Kind.TheVariants as kinds
use Rattle.bar_wire.specs.declared.kind.Kind.{Kind}
use Rattle.bar_wire.specs.Kinds.{code_of}
use Rattle.std.proofs.Common.{◌≡◌, ℕ, Bool, true, false, List, [], ◌∷◌, length, refl, sym, ap, ◌∙◌, subst, ◌||◌, eqb}
use Rattle.std.specs.Prelude.{Some, option_map, option_and_then}
use Rattle.std.specs.List.{AllByRecursion}
use Rattle.std.proofs.lemmas.Bool.{and_parts, eqb-true, both_ways}
use Rattle.bar_rules.specs.Peer.Writing.{body_again, written}
use Rattle.bar_laws.specs.Rewriting.{IsRewritten}
use Rattle.bar_laws.proofs.Judging.{or-second, AllHeld, promise-held, IsOwnWord, commits-revealed}
use Rattle.bar_case.proofs.Blocks.{sealed_same}
use Rattle.bar_laws.specs.Growing.{IsLater}
use Rattle.bar_laws.proofs.Logs.{is_of-is, party-on, receiver-on, sender-on, WasSaid, later-entry, find-later, first_said-was, some-is, terms_of-later, parts-of, IsSaying, saying, first_on-own, said-in}
use Rattle.bar_laws.proofs.Runs.{said-sealed}

-- ---- blocks that are held remain held

held-stays : (s : Session) (log before : Log) (us : List UpdateId) → IsLater log before → AllHeld s before us → AllByRecursion (λ u. block_of s before u ≡ block_of s log u) us
held-stays s log before [] later e = tt
held-stays s log before (u ∷ us) later e =
    let p = and_parts _ _ e in
    let b = some-is (block_of s before u) p.0 in
    (b.1 ∙ sym (find-later (λ before e. block_in s before u e) log before b.0 later b.1), held-stays s log before us later p.1)

-- what the log has of the own side
own-body : (me : Member) (log : Log) (kind : Kind) (x : Exchange) (role : Role) (d : Datagram) → role ≡ role_of me x → first_said (is_of kind x (role_of me x)) log ≡ Some d
    → body_on me (known me log) kind x role ≡ Some d.message.body
own-body me log kind x role d side e =
    subst (λ r. body_on me (known me log) kind x r ≡ Some d.message.body) (sym side)
    (ap (option_map (λ z. z.message.body)) (first_on-own me log kind x (role_of me x) refl ∙ e))

-- ---- each kind's body

-- if the REQUEST was said, what it commits to is revealed
is-revealed : (me : Member) (log : Log) (x : Exchange) (d : Datagram) (w : WasSaid log d) → is_of kinds.Request x Initiator d.message ≡ true → (a : List ℕ × List UpdateId) × (revealed me log x ≡ Some a)
is-revealed me log x d w i =
    let now = some-is (revealed me (Said d ∷ w.before) x) (or-second (revealed me w.before x) (revealed_in me w.before x (Said d)) (rw i refl)) in
    let later : IsLater log (Said d ∷ w.before) = record { new = w.place.after; split = w.place.split } in
    (now.0, find-later (λ before e. revealed_in me before x e) log (Said d ∷ w.before) now.0 later now.1)

request-again : (me : Member) (log : Log) (x : Exchange) (d : Datagram) (b : Body) → IsObedient me log → IsSaying me log x (role_of me x) d → is_of kinds.Request x (role_of me x) d.message ≡ true → d.message.body ≡ b → eqb (kind_number b) 3 ≡ true
    → body_again me (known me log) kinds.Request x ≡ Some b
request-again me log x d (Request r seed c) h s i e k =
    let names = parts-of (r, Balanced, Initiator) (x.round, x.kind, role_of me x) (sym (ap part_of e) ∙ s.part) in
    let own : is_of kinds.Request x Initiator d.message ≡ true = subst (λ z. is_of kinds.Request x z d.message ≡ true) (sym names.2) i in
    let at = is_of-is kinds.Request x Initiator d.message own in
    let word : IsOwnWord me log d x Initiator =
    record {
      said = said-in log d s.was;
      at = ap (λ o. option_map (λ (q : Place). q.exchange) (option_map (place_by d.message.from d.message.to) o)) at.part ∙ ap Some at.exchange;
      own = sym (sender-on kinds.Request x Initiator d.message own) ∙ s.sign.mine;
      side = sym names.2;
    }
    in
    let a = is-revealed me log x d s.was own in
    let rule = subst (λ z. MaySay me (known me s.was.before) d.message.to z) e s.sign.rule in
    let commits : c ≡ commitment_of me.session x a.0.0 a.0.1 = commits-revealed me log d x r seed c a.0 h word e a.1 in
    ap (option_map (λ (z : List ℕ × List UpdateId). Request x.round (seed_of me x.round) (commitment_of me.session x z.0 z.1))) a.1
    ∙ (λ j. Some (Request (sym names.0 j) ((ap (seed_of me) (sym names.0) ∙ sym rule.seeded) j) (sym commits j)))
request-again me log x d b h s i e k = absurd (both_ways (eqb (kind_number b) 3) refl k)

query-again : (me : Member) (log : Log) (x : Exchange) (d : Datagram) (b : Body) → IsSaying me log x (role_of me x) d → first_said (is_of kinds.Query x (role_of me x)) log ≡ Some d → d.message.body ≡ b → eqb (kind_number b) 6 ≡ true
    → body_again me (known me log) kinds.Query x ≡ Some b
query-again me log x d (Query r seed young aged) s f e k =
    let names = parts-of (r, Push, Initiator) (x.round, x.kind, role_of me x) (sym (ap part_of e) ∙ s.part) in
    let told : body_on me (known me log) kinds.Query x Initiator ≡ Some (Query r seed young aged) = own-body me log kinds.Query x Initiator d names.2 f ∙ ap Some e in
    let rule = subst (λ z. MaySay me (known me s.was.before) d.message.to z) e s.sign.rule in
    ap (λ o. option_map (λ (q : List UpdateId × List UpdateId). Query x.round (seed_of me x.round) q.0 q.1) (option_and_then offer_in o)) told
    ∙ (λ j. Some (Query (sym names.0 j) ((ap (seed_of me) (sym names.0) ∙ sym rule.seeded) j) young aged))
query-again me log x d b s f e k = absurd (both_ways (eqb (kind_number b) 6) refl k)

response-again : (me : Member) (log : Log) (x : Exchange) (d : Datagram) (b : Body) → IsSaying me log x (role_of me x) d → first_said (is_of kinds.Response x (role_of me x)) log ≡ Some d → d.message.body ≡ b → eqb (kind_number b) 4 ≡ true
    → body_again me (known me log) kinds.Response x ≡ Some b
response-again me log x d (Response r hb) s f e k =
    let names = parts-of (r, Balanced, Responder) (x.round, x.kind, role_of me x) (sym (ap part_of e) ∙ s.part) in
    let told : body_on me (known me log) kinds.Response x Responder ≡ Some (Response r hb) = own-body me log kinds.Response x Responder d names.2 f ∙ ap Some e in
    ap (λ o. option_map (λ us. Response x.round us) (option_and_then history_in o)) told ∙ (λ j. Some (Response (sym names.0 j) hb))
response-again me log x d b s f e k = absurd (both_ways (eqb (kind_number b) 4) refl k)

reply-again : (me : Member) (log : Log) (x : Exchange) (d : Datagram) (b : Body) → IsSaying me log x (role_of me x) d → first_said (is_of kinds.Reply x (role_of me x)) log ≡ Some d → d.message.body ≡ b → eqb (kind_number b) 7 ≡ true
    → body_again me (known me log) kinds.Reply x ≡ Some b
reply-again me log x d (Reply r want give junk) s f e k =
    let names = parts-of (r, Push, Responder) (x.round, x.kind, role_of me x) (sym (ap part_of e) ∙ s.part) in
    let told : body_on me (known me log) kinds.Reply x Responder ≡ Some (Reply r want give junk) = own-body me log kinds.Reply x Responder d names.2 f ∙ ap Some e in
    ap (λ o. option_map (λ (t : List UpdateId × List UpdateId × ℕ). Reply x.round t.0 t.1 t.2) (option_and_then reply_in o)) told
    ∙ (λ j. Some (Reply (sym names.0 j) want give junk))
reply-again me log x d b s f e k = absurd (both_ways (eqb (kind_number b) 7) refl k)

-- a member is on its own side
own-party : (me : Member) (x : Exchange) (to : ℕ) → exchange_by x.round x.kind (role_of me x) me.party to ≡ x → party_on x (role_of me x) ≡ me.party
own-party me x to e = ap (λ y. party_on y (role_of me x)) (sym e) ∙ party-on x.round x.kind (role_of me x) me.party to

case-again : (me : Member) (log : Log) (x : Exchange) (d : Datagram) (b : Body) → IsSaying me log x (role_of me x) d → d.message.body ≡ b → eqb (kind_number b) 8 ≡ true → body_again me (known me log) kinds.Case x ≡ Some b
case-again me log x d (Case c) s e k =
    ap (option_map (case_body me (known me log) x)) (terms_of-later me log before x c.terms later told) ∙ ap (λ z. Some (Case z)) same
  where
    before : Log
    before = s.was.before

    later : IsLater log s.was.before
    later = later-entry log s.was.before (Said d) s.was.place

    rule : MayGiveCase me (known me s.was.before) d.message.to c
    rule = subst (λ z. MaySay me (known me s.was.before) d.message.to z) e s.sign.rule

    names : (c.round ≡ x.round) × (c.kind ≡ x.kind) × (c.role ≡ role_of me x)
    names = parts-of (c.round, c.kind, c.role) (x.round, x.kind, role_of me x) (sym (ap part_of e) ∙ s.part)

    named : exchange_by c.round c.kind c.role me.party d.message.to ≡ x
    named = (λ i. exchange_by (names.0 i) (names.1 i) (names.2 i) me.party d.message.to) ∙ s.exchange

    told : terms_of me (known me s.was.before) x ≡ Some c.terms
    told = subst (λ y. terms_of me (known me s.was.before) y ≡ Some c.terms) named rule.terms

    held : AllHeld me.session s.was.before (promised_updates me.session.cap c.terms (role_of me x))
    held = promise-held me s.was.before x (role_of me x) c.terms s.obedient (own-party me x d.message.to s.exchange) refl told

    cipher : c.cipher ≡ sealed me.session x c.terms (role_of me x) (briefcase_key me x (role_of me x)) (known me log).block
    cipher =
        rule.cipher
        ∙ (λ i. sealed me.session (named i) c.terms (names.2 i) (briefcase_key me (named i) (names.2 i)) (known me s.was.before).block)
        ∙ sealed_same me.session.shape.id x me.session.cap c.terms (role_of me x) (briefcase_key me x (role_of me x)) (known me s.was.before).block (known me log).block
        (held-stays me.session log s.was.before (promised_updates me.session.cap c.terms (role_of me x)) later held)

    updates : c.updates ≡ length (promised_updates me.session.cap c.terms (role_of me x))
    updates = eqb-true _ _ (and_parts _ (eqb c.junk (promised_junk c.terms c.role)) rule.counts).0 ∙ ap (λ r. length (promised_updates me.session.cap c.terms r)) names.2

    junk : c.junk ≡ promised_junk c.terms (role_of me x)
    junk = eqb-true c.junk (promised_junk c.terms c.role) (and_parts (eqb c.updates (length (promised_updates me.session.cap c.terms c.role))) (eqb c.junk (promised_junk c.terms c.role)) rule.counts).1 ∙ ap (promised_junk c.terms) names.2

    mine : Briefcase
    mine = record {
      round = x.round;
      kind = x.kind;
      role = role_of me x;
      updates = length (promised_updates me.session.cap c.terms (role_of me x));
      junk = promised_junk c.terms (role_of me x);
      terms = c.terms;
      cipher = sealed me.session x c.terms (role_of me x) (briefcase_key me x (role_of me x)) (known me log).block;
    }

    same : mine ≡ c
    same i = record {
      round = sym names.0 i;
      kind = sym names.1 i;
      role = sym names.2 i;
      updates = sym updates i;
      junk = sym junk i;
      terms = c.terms;
      cipher = sym cipher i;
    }
case-again me log x d b s e k = absurd (both_ways (eqb (kind_number b) 8) refl k)

key-again : (me : Member) (log : Log) (x : Exchange) (d : Datagram) (b : Body) → IsSaying me log x (role_of me x) d → d.message.body ≡ b → eqb (kind_number b) 10 ≡ true → body_again me (known me log) kinds.Key x ≡ Some b
key-again me log x d (Key g) s e k =
    let rule : MayGiveKey me (known me s.was.before) d.message.to g = subst (λ z. MaySay me (known me s.was.before) d.message.to z) e s.sign.rule in
    let names = parts-of (g.round, g.kind, g.role) (x.round, x.kind, role_of me x) (sym (ap part_of e) ∙ s.part) in
    let named : exchange_by g.round g.kind g.role me.party d.message.to ≡ x = (λ i. exchange_by (names.0 i) (names.1 i) (names.2 i) me.party d.message.to) ∙ s.exchange in
    let key : g.key ≡ briefcase_key me x (role_of me x) = rule.key ∙ (λ i. briefcase_key me (named i) (names.2 i)) in
    (λ i. Some (Key (record { round = sym names.0 i; kind = sym names.1 i; role = sym names.2 i; key = sym key i })))
key-again me log x d b s e k = absurd (both_ways (eqb (kind_number b) 10) refl k)

-- ---- each kind

-- the numbers of the kinds that a peer says
abbrev is_said : ℕ → Bool
is_said n = eqb n 3 || eqb n 4 || eqb n 6 || eqb n 7 || eqb n 8 || eqb n 10

said-number : (me : Member) (log : Log) (to : ℕ) (b : Body) → MaySay me (known me log) to b → is_said (kind_number b) ≡ true
said-number me log to (Request r seed c) rule = refl
said-number me log to (Query r seed young aged) rule = refl
said-number me log to (Response r hb) rule = refl
said-number me log to (Reply r want give junk) rule = refl
said-number me log to (Case c) rule = refl
said-number me log to (Key g) rule = refl
said-number me log to _ rule = absurd rule

-- nothing is said of another kind
unsaid : (me : Member) (log : Log) (x : Exchange) (d : Datagram) (kind : Kind) → IsSaying me log x (role_of me x) d → is_said (code_of kind) ≡ false → is_of kind x (role_of me x) d.message ≡ true → ⊥
unsaid me log x d kind s none i = both_ways _ none (subst (λ z. is_said z ≡ true) (is_of-is kind x (role_of me x) d.message i).number (said-number me s.was.before d.message.to d.message.body s.sign.rule))

again-by : (me : Member) (log : Log) (kind : Kind) (x : Exchange) (d : Datagram) → IsObedient me log → IsSaying me log x (role_of me x) d → first_said (is_of kind x (role_of me x)) log ≡ Some d
    → is_of kind x (role_of me x) d.message ≡ true → body_again me (known me log) kind x ≡ Some d.message.body
again-by me log kinds.Request x d h s f i = request-again me log x d d.message.body h s i refl (and_parts _ _ i).0
again-by me log kinds.Query x d h s f i = query-again me log x d d.message.body s f refl (and_parts _ _ i).0
again-by me log kinds.Response x d h s f i = response-again me log x d d.message.body s f refl (and_parts _ _ i).0
again-by me log kinds.Reply x d h s f i = reply-again me log x d d.message.body s f refl (and_parts _ _ i).0
again-by me log kinds.Case x d h s f i = case-again me log x d d.message.body s refl (and_parts _ _ i).0
again-by me log kinds.Key x d h s f i = key-again me log x d d.message.body s refl (and_parts _ _ i).0
again-by me log kind x d h s f i = absurd (unsaid me log x d kind s refl i)

pub rewritten : (me : Member) (log : Log) → IsObedient me log → IsRewritten me (known me log)
rewritten me log h = record {
  own = λ kind x role d e. (let was = first_said-was (is_of kind x role) log d e in (saying me log d kind x role h was.0 was.1).side);
  same = same;
}
  where
    same : (kind : Kind) (x : Exchange) (d : Datagram) → first_said (is_of kind x (role_of me x)) log ≡ Some d → written me (known me log) x (body_again me (known me log) kind x) ≡ Some d
    same kind x d e =
        let was = first_said-was (is_of kind x (role_of me x)) log d e in
        let s : IsSaying me log x (role_of me x) d = saying me log d kind x (role_of me x) h was.0 was.1 in
        let to = receiver-on kind x (role_of me x) d.message was.1 in
        let message : message_to me x d.message.body ≡ d.message = (λ i. record { from = sym s.sign.mine i; to = sym to i; body = d.message.body }) in
        ap (option_map (λ b. signed me (known me log) (message_to me x b))) (again-by me log kind x d h s e was.1)
        ∙ ap (λ m. Some (signed me (known me log) m)) message
        ∙ ap Some (sym (said-sealed me log d h was.0))
