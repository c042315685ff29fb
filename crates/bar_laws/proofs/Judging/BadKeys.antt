-- If a heard key opens a heard briefcase badly, evidence is kept against their sender.
use Rattle.bar_rules.specs.Peer.Holdings.{case_heard_from}
use Rattle.bar_wire.specs.Bodies.{briefcase_in, is_peer_kind}
use Rattle.bar_wire.specs.declared.kind.Kind.TheVariants as kinds
use Rattle.bar_case.specs.Items.{junk_key}
use Rattle.bar_case.specs.Opened.{opening, opened, findings, is_bad}
use Rattle.bar_case.specs.Opened as briefcases
use Rattle.bar_rules.specs.Peer.Admission.{is_admitted, is_row_met, has_valid_signature}
use Rattle.bar_rules.specs.Peer.Evidence.{is_tried, new_evidence}
use Rattle.bar_rules.specs.Peer.Exchanges.{role_of, partner_in}
use Rattle.bar_rules.specs.Peer.Knowledge.{known}
use Rattle.bar_rules.specs.Peer.Log.{kept, kept_in, Log, Heard, Said, heard_in, if_passes, first_heard, first_said, has_heard, has_said, table, round_now, is_announced}
use Rattle.bar_rules.specs.Member.{Member}
use Rattle.bar_rules.specs.Peer.Rules.{IsObedient, Allows, IsSignedByRule}
use Rattle.bar_rules.specs.Peer.Signing.{MaySay, MayGiveCase, windows_within}
use Rattle.bar_rules.specs.Peer.Terms.{terms_of, case_heard}
use Rattle.bar_rules.specs.Values.{opening_of, is_signed_by, terms_ok, counts_ok}
use Rattle.bar_terms.specs.Table.{no_lists, Table, Extends, digest_of, Digest, Known, PastEnd, NoManifest, is_known, is_within}
use Rattle.bar_terms.specs.Terms.{promise, promised_updates, promised_junk, trade_count}
use Rattle.bar_terms.specs.declared.items.Item.{Item}
use Rattle.bar_terms.specs.declared.items.Item.TheVariants.{Update, Junk}
use Rattle.bar_window.specs.Exchange.{other_role, same_exchange, same_role}
use Rattle.bar_window.specs.Terms.{Terms}
use Rattle.bar_window.specs.Terms as forms
use Rattle.bar_window.specs.Updates.{has_update, minus}
use Rattle.bar_window.specs.declared.exchange.Exchange.{Exchange}
use Rattle.bar_window.specs.declared.exchange.Role.{Role}
use Rattle.bar_window.specs.declared.exchange.Role.TheVariants.{Initiator, Responder}
use Rattle.bar_window.specs.declared.update.UpdateId.{UpdateId}
use Rattle.bar_window.proofs.Exchanges.{same_role_refl, same_exchange_refl, other-other}
use Rattle.bar_wire.specs.Datagram.{Datagram, Case, Key, Briefcase, KeyGiven, is_of, is_signed, part_of, round_of, exchange_by, exchange_of, place_by, Place}
use Rattle.std.proofs.Common.{◌≡◌, ℕ, ◌+◌, Bool, true, false, List, [], ◌∷◌, ◌++◌, refl, sym, ap, ◌∙◌, subst, ◌&&◌, not, inl, inr, map, take, drop}
use Rattle.std.specs.Prelude.{Some, ◌⊎◌, is_some, option_and_then, option_map, nat_le, Contains}
use Rattle.std.specs.List.{AllByRecursion, range_with_len}
use Rattle.std.proofs.lemmas.Bool.{and_parts, and_from, eq-eqb, both_ways, cases_Bool, not_from_false}
use Rattle.bar_laws.specs.Evidence.{OpensBadly}
use Rattle.bar_laws.specs.Growing.{IsLater}
use Rattle.bar_laws.proofs.Logs.{IsEntry, entry-of, allowed-at, WasHeard, WasSaid, later-entry, find-later, first_heard-was, first_said-was, said-rule, some-is, terms_of-later, table-later, within-extends, known-digest-extends, admitted-row, all-take, all-filtered, IsForOneMember, heard-own, inside-all, IsCaseOf, is_of-case, sender-on, receiver-on, party-on, party-over, receiver-role, receiver-partner}
use Rattle.bar_laws.proofs.Judging.ShownStays.{terms_ok-extends}
use Rattle.bar_laws.proofs.Judging.Accuses.{IsBadPair, bad-completed}
use Rattle.bar_laws.proofs.Judging.KeptEvidence.{IsWatchful, watchful-at}
use Rattle.bar_laws.proofs.Runs.{terms-same}

-- ---- an opening depends on the digests of the promised updates alone

-- two tables say the same of an item
abbrev SameTold : Table → Table → Item → Type 0
SameTold old new (Update u) = digest_of old u ≡ digest_of new u
SameTold old new (Junk t) = Unit {0}

findings-same : (old new : Table) (junk : List ℕ) (items : List Item) (bytes : List ℕ) → AllByRecursion (SameTold old new) items → findings old junk items bytes ≡ findings new junk items bytes
findings-same old new junk [] bytes h = refl
findings-same old new junk (Update u ∷ items) bytes h =
    let rest : findings old junk items (drop 1024 bytes) ≡ findings new junk items (drop 1024 bytes) = findings-same old new junk items (drop 1024 bytes) h.1 in
    λ i. briefcases.digest_finding (h.0 i) (take 1024 bytes) ∷ rest i
findings-same old new junk (Junk t ∷ items) bytes h = ap (λ fs. briefcases.item_finding new junk (Junk t) (take 1280 bytes) ∷ fs) (findings-same old new junk items (drop 1280 bytes) h.1)

items-same : (old new : Table) (us : List UpdateId) (js : List ℕ) → AllByRecursion (λ u. digest_of old u ≡ digest_of new u) us → AllByRecursion (SameTold old new) (map Update us ++ map Junk js)
items-same old new [] [] h = tt
items-same old new [] (j ∷ js) h = (tt, items-same old new [] js h)
items-same old new (u ∷ us) js h = (h.0, items-same old new us js h.1)

opening-same : (id : List ℕ) (x : Exchange) (cap : ℕ) (terms : Terms) (role : Role) (cipher key : List ℕ) (old new : Table)
    → AllByRecursion (λ u. digest_of old u ≡ digest_of new u) (promised_updates cap terms role) → opening id x cap terms role cipher key old ≡ opening id x cap terms role cipher key new
unfolding opening
opening-same id x cap terms role cipher key old new h =
    ap briefcases.opening_of
    (findings-same old new (junk_key id x) (promise cap terms role) (opened key cipher)
    (items-same old new (promised_updates cap terms role) (range_with_len 0 (promised_junk terms role)) h))

-- a longer table says the same of what is within a table
within-same : (old new : Table) (us : List UpdateId) → Extends old new → is_within old us ≡ true → AllByRecursion (λ u. digest_of old u ≡ digest_of new u) us
within-same old new [] h e = tt
within-same old new (u ∷ us) h e = let p = and_parts _ _ e in (known (digest_of old u) refl p.0, within-same old new us h p.1)
  where
    known : (d : Digest) → digest_of old u ≡ d → is_known d ≡ true → digest_of old u ≡ digest_of new u
    known (Known b) f k = f ∙ sym (known-digest-extends old new u b h f)
    known PastEnd f k = cc
    known NoManifest f k = cc

-- ---- what is promised is within the table

promised-within : (me : Member) (log : Log) (t : Table) (x : Exchange) (terms : Terms) (role : Role) → terms_ok me.session t x terms ≡ true → windows_within me (known me log) terms ≡ true
    → is_within (table log) (promised_updates me.session.cap terms role) ≡ true
promised-within me log t x (forms.Balanced nonce ha hb) Initiator ok within =
    let known : UpdateId → Bool = λ u. is_known (digest_of (table log) u) in
    all-take known (trade_count me.session.cap ha hb) (minus ha hb) (all-filtered {X = UpdateId} known (λ u. not (has_update hb u)) ha (and_parts _ _ within).0)
promised-within me log t x (forms.Balanced nonce ha hb) Responder ok within =
    let known : UpdateId → Bool = λ u. is_known (digest_of (table log) u) in
    all-take known (trade_count me.session.cap ha hb) (minus hb ha) (all-filtered {X = UpdateId} known (λ u. not (has_update ha u)) hb (and_parts _ _ within).1)
promised-within me log t x (forms.Push young aged want give junk) role ok within = go role
  where
    known : UpdateId → Bool
    known u = is_known (digest_of (table log) u)

    go : (r : Role) → is_within (table log) (promised_updates me.session.cap (forms.Push young aged want give junk) r) ≡ true
    go Initiator = inside-all (λ u. is_known (digest_of (table log) u)) want young (and_parts _ _ (and_parts _ _ (and_parts _ _ (and_parts _ _ ok).1).0).0).0 (and_parts _ _ within).0
    go Responder = inside-all (λ u. is_known (digest_of (table log) u)) give aged (and_parts _ _ (and_parts _ _ (and_parts _ _ (and_parts _ _ ok).1).0).0).1 (and_parts _ _ within).1

-- ---- a briefcase that was said, and one that was heard

-- Terms with which this member said a briefcase: they are those of the log, valid, and promise what is within the table.
record SaidTerms (me : Member) (log : Log) (x : Exchange) : Type 0 where
  terms : Terms
  told : terms_of me (known me log) x ≡ Some terms
  valid : (t : Table) × (terms_ok me.session t x terms ≡ true)
  within : (role : Role) → is_within (table log) (promised_updates me.session.cap terms role) ≡ true

said-terms : (me : Member) (log : Log) (x : Exchange) (role : Role) → IsObedient me log → has_said (is_of kinds.Case x role) log ≡ true → SaidTerms me log x
said-terms me log x role h e =
    let f = some-is (first_said (is_of kinds.Case x role) log) e in
    let was = first_said-was (is_of kinds.Case x role) log f.0 f.1 in
    at f.0 was.0 (is_of-case x role f.0.message was.1)
  where
    at : (d : Datagram) → WasSaid log d → IsCaseOf x role d.message → SaidTerms me log x
    at d w c =
        let send : IsSignedByRule me w.before d = said-rule me log d w h in
        let later : IsLater log w.before = later-entry log w.before (Said d) w.place in
        let rule : MayGiveCase me (known me w.before) d.message.to c.case = subst (λ b. MaySay me (known me w.before) d.message.to b) c.body send.rule.rule in
        let name : exchange_by c.case.round c.case.kind c.case.role me.party d.message.to ≡ x = ap (λ z. exchange_by c.case.round c.case.kind c.case.role z d.message.to) (sym send.rule.mine) ∙ c.exchange in
        let valid : terms_ok me.session (table w.before) x c.case.terms ≡ true = subst (λ y. terms_ok me.session (table w.before) y c.case.terms ≡ true) name rule.valid in
        record {
          terms = c.case.terms;
          told = terms_of-later me log w.before x c.case.terms later (subst (λ y. terms_of me (known me w.before) y ≡ Some c.case.terms) name rule.terms);
          valid = (table w.before, valid);
          within = λ r. within-extends _ _ (promised_updates me.session.cap c.case.terms r) (table-later log w.before later) (promised-within me w.before (table w.before) x c.case.terms r valid rule.within);
        }

-- A briefcase that was admitted can be opened: its terms are valid, and its counts are those of the promise, which is within the table.
pub record HeardBriefcase (me : Member) (log : Log) (x : Exchange) (role : Role) (d : Datagram) : Type 0 where
  pub case : Briefcase
  pub body : d.message.body ≡ Case case
  pub exchange : exchange_by case.round case.kind case.role d.message.from d.message.to ≡ x
  pub side : case.role ≡ role
  pub allowed : (before : Log) × Allows me before (Heard d)
  pub valid : terms_ok me.session no_lists x case.terms ≡ true
  pub counts : counts_ok me.session case ≡ true
  pub within : is_within (table log) (promised_updates me.session.cap case.terms case.role) ≡ true

empty-extends : (t : Table) → Extends no_lists t
empty-extends t = record { same = λ round ds e. cc }

pub heard-briefcase : (me : Member) (log : Log) (x : Exchange) (role : Role) (d : Datagram) → IsObedient me log → WasHeard log d → is_of kinds.Case x role d.message ≡ true → HeardBriefcase me log x role d
heard-briefcase me log x role d h w e =
    let c : IsCaseOf x role d.message = is_of-case x role d.message e in
    let al = allowed-at me log w.before (Heard d) w.place h in
    let row : is_row_met me (known me w.before) d.message.from d.message.to (Case c.case) ≡ true = subst (λ b. is_row_met me (known me w.before) d.message.from d.message.to b ≡ true) c.body (admitted-row me w.before d al.0.0) in
    let p = and_parts _ _ (and_parts _ _ row).0 in
    let q = and_parts _ _ p.0 in
    let told : terms_of me (known me w.before) x ≡ Some c.case.terms = subst (λ y. terms_of me (known me w.before) y ≡ Some c.case.terms) c.exchange (terms-same c.case.terms _ q.1) in
    let said : SaidTerms me w.before x = said-terms me w.before x (other_role c.case.role) al.1 (subst (λ y. has_said (is_of kinds.Case y (other_role c.case.role)) w.before ≡ true) c.exchange q.0) in
    let same : said.terms ≡ c.case.terms = (let t = said.told in cc) in
    record {
      case = c.case;
      body = c.body;
      exchange = c.exchange;
      side = c.side;
      allowed = (w.before, al.0);
      valid = subst (λ t. terms_ok me.session no_lists x t ≡ true) same (terms_ok-extends me.session no_lists said.valid.0 x said.terms (empty-extends said.valid.0) said.valid.1);
      counts = p.1;
      within = within-extends _ _ (promised_updates me.session.cap c.case.terms c.case.role) (table-later log w.before (later-entry log w.before (Heard d) w.place)) (subst (λ t. is_within (table w.before) (promised_updates me.session.cap t c.case.role) ≡ true) same (said.within c.case.role));
    }

-- ---- a key that opens badly

pub heard-signed : (me : Member) (before : Log) (d : Datagram) → is_admitted me (known me before) d ≡ true → is_signed d.message.body ≡ true → is_signed_by me.session d ≡ true
unfolding is_admitted
heard-signed me before d e signed =
    let genuine : has_valid_signature me.session d ≡ true = (and_parts _ _ (and_parts _ _ (and_parts _ _ e).0).0).1 in
    rw signed at genuine

heard-unannounced : (me : Member) (before : Log) (d : Datagram) → is_admitted me (known me before) d ≡ true → not (is_announced before d.message.from) ≡ true
unfolding is_admitted
heard-unannounced me before d e = (and_parts _ _ (and_parts _ _ (and_parts _ _ (and_parts _ _ e).0).0).0).1

-- a key's row: a briefcase was heard from its side, and the exchange is recent
pub key-row : (me : Member) (before : Log) (e : Datagram) (k : KeyGiven) → is_admitted me (known me before) e ≡ true → e.message.body ≡ Key k
    → (has_heard (is_of kinds.Case (exchange_by k.round k.kind k.role e.message.from e.message.to) k.role) before ≡ true) × (nat_le (round_now before) (k.round + me.session.shape.life) ≡ true)
key-row me before e k admitted is =
    let row : is_row_met me (known me before) e.message.from e.message.to (Key k) ≡ true = subst (λ b. is_row_met me (known me before) e.message.from e.message.to b ≡ true) is (admitted-row me before e admitted) in
    let p = and_parts _ _ row in
    ((and_parts _ _ p.0).1, p.1)

-- an admitted key is tried, if no evidence is kept yet
key-tried : (me : Member) (before : Log) (e : Datagram) (k : KeyGiven) → Allows me before (Heard e) → e.message.body ≡ Key k → is_some (kept before e.message.from) ≡ false
    → is_tried me (known me before) e ≡ true
key-tried me before e k al is none =
    let mine : IsForOneMember me e = heard-own me before e (k.round, k.kind, k.role) al (ap part_of is) in
    let recent : nat_le (round_now before) (round_of e.message.body + me.session.shape.life) ≡ true = rw is (key-row me before e k al.0 is).1 in
    and_from _ _
    (and_from _ _
    (and_from _ _ (and_from _ _ (and_from _ _ (ap is_peer_kind is) (eq-eqb _ _ mine.to)) (heard-unannounced me before e al.0)) (heard-signed me before e al.0 (ap is_signed is)))
    (not_from_false _ none))
    recent

-- a heard briefcase and a key that opens it badly are a bad pair
bad-pair : (me : Member) (before : Log) (d e : Datagram) (k : KeyGiven) → Allows me before (Heard e) → e.message.body ≡ Key k
    → is_of kinds.Case (exchange_by k.round k.kind k.role e.message.from e.message.to) k.role d.message ≡ true
    → (b : HeardBriefcase me before (exchange_by k.round k.kind k.role e.message.from e.message.to) k.role d)
    → is_bad (opening_of me.session (table before) (exchange_by k.round k.kind k.role e.message.from e.message.to) b.case k.key) ≡ true
    → IsBadPair me.session (table before) d e b.case k
bad-pair me before d e k al is of b bad =
    let x : Exchange = exchange_by k.round k.kind k.role e.message.from e.message.to in
    let named : exchange_by b.case.round b.case.kind b.case.role d.message.from d.message.to ≡ x = b.exchange in
    record {
      case = b.body;
      key = is;
      from = sender-on kinds.Case x k.role d.message of ∙ party-on k.round k.kind k.role e.message.from e.message.to;
      fits = and_from _ _ (and_from _ _ (eq-eqb _ _ (receiver-on kinds.Case x k.role d.message of ∙ party-over k.round k.kind k.role e.message.from e.message.to)) (subst (λ y. same_exchange y x ≡ true) (sym named) (same_exchange_refl x))) (subst (λ r. same_role r k.role ≡ true) (sym b.side) (same_role_refl k.role));
      bad =
          subst (λ y. (terms_ok me.session no_lists y b.case.terms && counts_ok me.session b.case && is_bad (opening_of me.session (table before) y b.case k.key)) ≡ true) (sym named)
          (and_from _ _ (and_from _ _ b.valid b.counts) bad);
      case_signed = heard-signed me b.allowed.0 d b.allowed.1.0 (ap is_signed b.body);
      key_signed = heard-signed me before e al.0 (ap is_signed is);
      case_reads = b.allowed.1.1;
      key_reads = al.1;
    }

-- what is opened under a log's table was opened the same under that of the log before the key
opened-before : (me : Member) (log before : Log) (x : Exchange) (role : Role) (d : Datagram) (key : List ℕ) → IsLater log before → (b : HeardBriefcase me before x role d)
    → opening_of me.session (table before) x b.case key ≡ opening_of me.session (table log) x b.case key
opened-before me log before x role d key later b =
    opening-same me.session.shape.id x me.session.cap b.case.terms b.case.role b.case.cipher key (table before) (table log)
    (within-same (table before) (table log) (promised_updates me.session.cap b.case.terms b.case.role) (table-later log before later) b.within)

-- evidence is kept if a heard key opens the heard briefcase badly
pub bad-key-kept : (me : Member) (log before : Log) (e : Datagram) (k : KeyGiven) (c : Briefcase) → IsObedient me log → IsWatchful me log → IsEntry log before (Heard e) → e.message.body ≡ Key k
    → case_heard_from log (exchange_by k.round k.kind k.role e.message.from e.message.to) k.role ≡ Some c
    → is_bad (opening_of me.session (table log) (exchange_by k.round k.kind k.role e.message.from e.message.to) c k.key) ≡ true → is_some (kept log e.message.from) ≡ true
bad-key-kept me log before e k c h watchful place is found bad = go (cases_Bool (is_some (kept before e.message.from)))
  where
    x : Exchange
    x = exchange_by k.round k.kind k.role e.message.from e.message.to

    al : Allows me before (Heard e) × IsObedient me before
    al = allowed-at me log before (Heard e) place h

    later : IsLater log before
    later = later-entry log before (Heard e) place

    none : (d : Datagram) → first_heard (is_of kinds.Case x k.role) before ≡ Some d → is_some (kept before e.message.from) ≡ false → ⊥
    none d first free =
        let was = first_heard-was (is_of kinds.Case x k.role) before d first in
        let b : HeardBriefcase me before x k.role d = heard-briefcase me before x k.role d al.1 was.0 was.1 in
        let first_now : first_heard (is_of kinds.Case x k.role) log ≡ Some d = find-later (λ before y. if_passes (is_of kinds.Case x k.role) (heard_in y)) log before d later first in
        let now : case_heard_from log x k.role ≡ Some b.case = ap (option_and_then (λ d. briefcase_in d.message.body)) first_now ∙ ap briefcase_in b.body in
        let same : c ≡ b.case = cc (now, found) in
        let bad_now : is_bad (opening_of me.session (table log) x b.case k.key) ≡ true = subst (λ z. is_bad (opening_of me.session (table log) x z k.key) ≡ true) same bad in
        let bad_then : is_bad (opening_of me.session (table before) x b.case k.key) ≡ true = ap is_bad (opened-before me log before x k.role d k.key later b) ∙ bad_now in
        let some : is_some (new_evidence me (known me before) e) ≡ true = bad-completed me before d e b.case k first (key-tried me before e k al.0 is free) (bad-pair me before d e k al.0 is was.1 b bad_then) in
        let nothing : is_some (new_evidence me (known me before) e) ≡ false = ap is_some (watchful-at me log before e place watchful) in
        both_ways _ nothing some

    go : (is_some (kept before e.message.from) ≡ true) ⊎ (is_some (kept before e.message.from) ≡ false) → is_some (kept log e.message.from) ≡ true
    go (inl some) =
        let f = some-is (kept before e.message.from) some in
        ap is_some (find-later (λ before y. kept_in e.message.from y) log before f.0 later f.1)
    go (inr free) =
        let f = some-is (first_heard (is_of kinds.Case x k.role) before) (key-row me before e k al.0.0 is).0 in
        absurd (none f.0 f.1 free)

pub heard-was : (log : Log) (d : Datagram) → Contains log (Heard d) → WasHeard log d
heard-was log d h = let f = entry-of log (Heard d) h in record { before = f.0; place = f.1 }

-- so if a key of an exchange opens the partner's briefcase badly, evidence against the partner is kept
pub opens-badly-kept : (me : Member) (log : Log) (x : Exchange) (d : Datagram) → IsObedient me log → IsWatchful me log → OpensBadly me log x d → is_some (kept log (partner_in me x)) ≡ true
opens-badly-kept me log x d h watchful o =
    let w : WasHeard log d = heard-was log d o.heard in
    let k : KeyGiven = o.key in
    let own : Exchange = exchange_by k.round k.kind k.role d.message.from d.message.to in
    let al : Allows me w.before (Heard d) = (allowed-at me log w.before (Heard d) w.place h).0 in
    let mine : IsForOneMember me d = heard-own me w.before d (k.round, k.kind, k.role) al (ap part_of o.is_key) in
    let named : exchange_of d.message ≡ Some own = ap (λ b. option_map (λ (q : Place). q.exchange) (option_map (place_by d.message.from d.message.to) (part_of b))) o.is_key in
    let same : x ≡ own = (let e = o.of_exchange in cc) in
    let side : other_role (role_of me own) ≡ k.role = ap other_role (receiver-role me k.round k.kind k.role d.message.from d.message.to mine.to mine.other) ∙ other-other k.role in
    let partner : partner_in me own ≡ d.message.from = receiver-partner me k.round k.kind k.role d.message.from d.message.to mine.to mine.other in
    let found : case_heard_from log own k.role ≡ Some o.case = subst (λ r. case_heard_from log own r ≡ Some o.case) side (subst (λ y. case_heard me (known me log) y ≡ Some o.case) same o.case_is) in
    let bad : is_bad (opening_of me.session (table log) own o.case k.key) ≡ true = subst (λ y. is_bad (opening_of me.session (table log) y o.case k.key) ≡ true) same o.bad in
    let kept_now : is_some (kept log d.message.from) ≡ true = bad-key-kept me log w.before d k o.case h watchful w.place o.is_key found bad in
    subst (λ y. is_some (kept log (partner_in me y)) ≡ true) (sym same) (subst (λ q. is_some (kept log q) ≡ true) (sym partner) kept_now)
