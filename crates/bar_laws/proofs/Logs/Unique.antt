-- One message of each identity is said.
use Rattle.bar_rules.specs.Peer.Knowledge.{known}
use Rattle.bar_rules.specs.Peer.Log.{Log, Entry, Said, table}
use Rattle.bar_rules.specs.Member.{Member}
use Rattle.bar_rules.specs.Peer.Rules.{IsObedient, Allows, IsSignedByRule}
use Rattle.bar_rules.specs.Peer.Signing.{MaySay, MayGiveCase, has_same_identity, windows_within}
use Rattle.bar_rules.specs.Values.{terms_ok, message_bytes}
use Rattle.bar_rules.specs.Judge.Verdict.{is_twice, bad_terms}
use Rattle.bar_terms.specs.Table.{Table, Agrees, digest_of, digest_in, is_known, is_past_end, is_within, none_past_end, Extends}
use Rattle.bar_window.specs.Terms.{Terms}
use Rattle.bar_window.specs.Terms as forms
use Rattle.bar_window.specs.declared.exchange.Exchange.{Exchange}
use Rattle.bar_window.specs.declared.update.UpdateId.{UpdateId}
use Rattle.bar_wire.specs.Datagram.{Message, Datagram, Case, Briefcase, identity_of, exchange_by}
use Rattle.std.specs.Str.{bytes_eq}
use Rattle.std.proofs.Common.{◌≡◌, ℕ, Bool, true, false, List, [], ◌∷◌, ◌++◌, refl, sym, ap, subst, inl, inr, ◌&&◌, not}
use Rattle.std.specs.Prelude.{Option, Some, None, ◌⊎◌}
use Rattle.std.proofs.lemmas.Bool.{and_parts, and_from, both_ways, not_from_true}
use Rattle.bar_laws.proofs.Logs.LaterLogs.{WasSaid, said-rule, later-entry}
use Rattle.bar_laws.proofs.Logs.OneIdentity.{said-found}
use Rattle.bar_laws.proofs.Logs.EqualityTests.{same_bytes-is}
use Rattle.bar_laws.proofs.Logs.Valid.{known-not_past}
use Rattle.bar_laws.proofs.Logs.Tables.{table-later}
use Rattle.bar_bytes.proofs.Tests.{bytes_eq-refl}

-- the datagram is among those said, by cases on the log
abbrev pub SaidIn : Log → Datagram → Type 0
SaidIn [] d = ⊥
SaidIn (x ∷ log) d = (x ≡ Said d) ⊎ SaidIn log d

pub was-said : (log : Log) (d : Datagram) → SaidIn log d → WasSaid log d
was-said [] d e = absurd e
was-said (x ∷ log) d (inl e) = record { before = log; place = record { after = []; split = ap (λ y. y ∷ log) e } }
was-said (x ∷ log) d (inr e) = let w = was-said log d e in record { before = w.before; place = record { after = x ∷ w.place.after; split = ap (λ l. x ∷ l) w.place.split } }

said-in-append : (new before : Log) (d : Datagram) → SaidIn (new ++ Said d ∷ before) d
said-in-append [] before d = inl refl
said-in-append (x ∷ new) before d = inr (said-in-append new before d)

pub said-in : (log : Log) (d : Datagram) → WasSaid log d → SaidIn log d
said-in log d w = subst (λ l. SaidIn l d) (sym w.place.split) (said-in-append w.place.after w.before d)

identity-same : (m n : Message) → identity_of m ≡ identity_of n → has_same_identity m n ≡ true
identity-same m n e = subst (λ z. bytes_eq (identity_of n) z ≡ true) (sym e) (bytes_eq-refl (identity_of n))

new-is-only : (me : Member) (log : Log) (x : Entry) (d e : Datagram) → Allows me log x → x ≡ Said d → SaidIn log e → identity_of d.message ≡ identity_of e.message → ⊥
new-is-only me log x d e al p q i =
    let sign : IsSignedByRule me log d = subst (λ y. Allows me log y) p al in
    both_ways _ sign.rule.once (said-found (has_same_identity d.message) log e (was-said log e q) (identity-same d.message e.message i))

-- two said datagrams of one identity are equal
pub unique : (me : Member) (log : Log) (d e : Datagram) → IsObedient me log → SaidIn log d → SaidIn log e → identity_of d.message ≡ identity_of e.message → d ≡ e
unique me [] d e h p q i = absurd p
unique me (x ∷ log) d e h (inl p) (inl q) i = cc
unique me (x ∷ log) d e h (inl p) (inr q) i = absurd (new-is-only me log x d e h.0 p q i)
unique me (x ∷ log) d e h (inr p) (inl q) i = absurd (new-is-only me log x e d h.0 q p (sym i))
unique me (x ∷ log) d e h (inr p) (inr q) i = unique me log d e h.1 p q i

-- ---- no framing

-- two said messages never show that they are two messages of one identity
pub never_twice : (me : Member) (log : Log) (d e : Datagram) → IsObedient me log → SaidIn log d → SaidIn log e → is_twice me.session d.message e.message ≡ false
never_twice me log d e h p q = go (bytes_eq (identity_of d.message) (identity_of e.message)) refl
  where
    go : (b : Bool) → bytes_eq (identity_of d.message) (identity_of e.message) ≡ b → (b && not (bytes_eq (message_bytes me.session d.message) (message_bytes me.session e.message))) ≡ false
    go false f = refl
    go true f =
        let same : d ≡ e = unique me log d e h p q (same_bytes-is _ _ f) in
        rw same (ap not (bytes_eq-refl (message_bytes me.session e.message)))

-- if tables agree, what is within the one is not past the end of the other
agrees-past : (one two : Table) (u : UpdateId) → Agrees one two → is_known (digest_of one u) ≡ true → not (is_past_end (digest_of two u)) ≡ true
agrees-past one two u h e = go (one u.round) (two u.round) refl refl e
  where
    go : (o p : Option (List (List ℕ))) → one u.round ≡ o → two u.round ≡ p → is_known (digest_in o u.index) ≡ true → not (is_past_end (digest_in p u.index)) ≡ true
    go None p f g e = cc
    go (Some ds) None f g e = refl
    go (Some ds) (Some es) f g e = let same : ds ≡ es = h.same u.round ds es f g in rw (← same) (known-not_past (digest_in (Some ds) u.index) e)

agrees-none_past : (one two : Table) (us : List UpdateId) → Agrees one two → is_within one us ≡ true → none_past_end two us ≡ true
agrees-none_past one two [] h e = refl
agrees-none_past one two (u ∷ us) h e = let p = and_parts _ _ e in and_from _ _ (agrees-past one two u h p.0) (agrees-none_past one two us h p.1)

agrees-valid : (me : Member) (log : Log) (two : Table) (x : Exchange) (terms : Terms) → Agrees (table log) two → terms_ok me.session (table log) x terms ≡ true → windows_within me (known me log) terms ≡ true
    → terms_ok me.session two x terms ≡ true
agrees-valid me log two x (forms.Balanced nonce ha hb) h ok w =
    let p = and_parts _ _ ok in
    let q = and_parts _ _ w in
    and_from _ _ p.0 (and_from _ _ (agrees-none_past _ two ha h q.0) (agrees-none_past _ two hb h q.1))
agrees-valid me log two x (forms.Push young aged want give junk) h ok w =
    let p = and_parts _ _ ok in
    let o = and_parts _ _ p.0 in
    let q = and_parts _ _ w in
    and_from _ _ (and_from _ _ o.0 (and_from _ _ (agrees-none_past _ two young h q.0) (agrees-none_past _ two aged h q.1))) p.1

pub agrees-before : (old new two : Table) → Extends old new → Agrees new two → Agrees old two
agrees-before old new two f g = record { same = λ r ds es a b. g.same r ds es (f.same r ds a) b }

-- a said briefcase has no bad terms under any table that agrees
pub never_bad_terms : (me : Member) (log : Log) (two : Table) (d : Datagram) (c : Briefcase) → IsObedient me log → SaidIn log d → d.message.body ≡ Case c → Agrees (table log) two
    → bad_terms me.session two d.message c ≡ false
never_bad_terms me log two d c h p e agree =
    let w : WasSaid log d = was-said log d p in
    let sign : IsSignedByRule me w.before d = said-rule me log d w h in
    let rule : MayGiveCase me (known me w.before) d.message.to c = subst (λ b. MaySay me (known me w.before) d.message.to b) e sign.rule.rule in
    let near : Agrees (table w.before) two = agrees-before _ _ two (table-later log w.before (later-entry log w.before (Said d) w.place)) agree in
    let ok : terms_ok me.session two (exchange_by c.round c.kind c.role me.party d.message.to) c.terms ≡ true = agrees-valid me w.before two (exchange_by c.round c.kind c.role me.party d.message.to) c.terms near rule.valid rule.within in
    let here : terms_ok me.session two (exchange_by c.round c.kind c.role d.message.from d.message.to) c.terms ≡ true = subst (λ f. terms_ok me.session two (exchange_by c.round c.kind c.role f d.message.to) c.terms ≡ true) (sym sign.rule.mine) ok in
    not_from_true _ (and_from _ _ here rule.counts)
