-- No member is framed by what it signed.
use Rattle.bar_rules.specs.Peer.Evidence.{accuses}
use Rattle.bar_wire.specs.Bodies.{briefcase_in, choice_in, key_in}
use Rattle.bar_laws.specs.Framing.{accuses_by_words}
use Rattle.bar_case.specs.Opened.{is_bad}
use Rattle.bar_case.specs.Opened as opening
use Rattle.bar_case.specs.Sealed.{MatchesTable}
use Rattle.bar_rules.specs.Peer.Holdings.{block_of, is_held}
use Rattle.bar_rules.specs.Peer.Knowledge.{known}
use Rattle.bar_rules.specs.Peer.Log.{Log, Ticked, Heard, Said, Kept, table, HasSaid, HasSigned}
use Rattle.bar_rules.specs.Member.{Session, Member, IsMember}
use Rattle.bar_rules.specs.Peer.Rules.{IsObedient, IsSignedByRule}
use Rattle.bar_rules.specs.Secrets.{briefcase_key, is_seed, seed_of, partner_of, secrets_of}
use Rattle.bar_rules.specs.Peer.Signing.{MaySign, MaySay, MayGiveCase, MayGiveKey}
use Rattle.bar_rules.specs.Values.{terms_ok, opening_of, counts_ok, is_signed_by, leaf_named}
use Rattle.bar_rules.specs.Judge.Verdict.{key_fits, pair_opening, bad_opening, bad_terms, wrong_partner, fault_of_one, fault_of_messages, is_leaf_twice, fault_of, all_read, are_of_one_peer, sender_of, judged, verdict, Fault, LeafTwice, NotShown, Malformed, NotSigned}
use Rattle.bar_terms.specs.Table.{no_lists, Table, Agrees, digest_of, digest_in, Known, NoManifest}
use Rattle.bar_terms.specs.Terms.{promised_updates}
use Rattle.bar_window.specs.declared.exchange.Exchange.{Exchange}
use Rattle.bar_window.specs.declared.exchange.XKind.{XKind}
use Rattle.bar_window.specs.declared.exchange.XKind.TheVariants.{Balanced, Push}
use Rattle.bar_window.specs.declared.update.UpdateId.{UpdateId}
use Rattle.bar_window.proofs.Exchanges.{same_role-is, same_exchange-is}
use Rattle.bar_wire.specs.Datagram.{round_of, Message, Datagram, Body, Request, Query, Case, Key, Briefcase, KeyGiven, exchange_by, identity_of}
use Rattle.sha2.specs.Sha256.{sha256}
use Rattle.std.proofs.Common.{◌≤◌, ◌≡◌, ℕ, Bool, true, false, List, [], ◌∷◌, refl, sym, ap, ◌∙◌, subst, inl, inr, ◌&&◌, not, arith}
use Rattle.std.specs.Prelude.{Option, Some, None, ◌⊎◌, ◌==◌, if◌then◌else◌}
use Rattle.std.specs.Bool.{then_some}
use Rattle.std.specs.Str.{bytes_eq}
use Rattle.std.specs.List.{AllByRecursion, list_all}
use Rattle.std.specs.Option.{option_or, option_map_or}
use Rattle.std.proofs.lemmas.Bool.{and_parts, and_from, and_right, both_ways, eq-eqb, eqb-true, not_from_true}
use Rattle.bar_laws.proofs.Logs.{own_key, own_seed, allowed-at, WasSaid, later-entry, said-rule, some-is, held-known, table-later, SaidIn, was-said, never_bad_terms, agrees-before, party-on, role-own, sign-elsewhere, briefcase-is}
use Rattle.bar_laws.proofs.Runs.{named-once}
use Rattle.bar_laws.proofs.Judging.ShownStays.{key_of-is}
use Rattle.bar_laws.proofs.Judging.OwnWordsAgree.{never-by_words, when-false}
use Rattle.bar_laws.proofs.Judging.PromisesHeld.{AllHeld, promise-held}
use Rattle.bar_laws.proofs.Judging.WholeBlocks.{blocks-whole}
use Rattle.bar_bytes.proofs.Tests.{bytes_eq-refl}

-- ---- a briefcase and its key

agrees-known : (one two : Table) (u : UpdateId) (d : List ℕ) → Agrees one two → digest_of one u ≡ Known d → (digest_of two u ≡ NoManifest) ⊎ (digest_of two u ≡ Known d)
agrees-known one two u d h e = go (one u.round) (two u.round) refl refl e
  where
    go : (o p : Option (List (List ℕ))) → one u.round ≡ o → two u.round ≡ p → digest_in o u.index ≡ Known d → (digest_in p u.index ≡ NoManifest) ⊎ (digest_in p u.index ≡ Known d)
    go None p f g e = cc
    go (Some ds) None f g e = inl refl
    go (Some ds) (Some es) f g e = let same : ds ≡ es = h.same u.round ds es f g in inr (subst (λ z. digest_in (Some z) u.index ≡ Known d) same e)

-- a held update is known to each table that agrees
held-told : (me : Member) (log : Log) (two : Table) (u : UpdateId) → IsObedient me log → Agrees (table log) two → is_held me.session log u ≡ true → MatchesTable two (block_of me.session log) u
held-told me log two u h agree e =
    let b = some-is (block_of me.session log u) e in
    record {
      block = b.0;
      held = b.1;
      whole = blocks-whole me log u b.0 h b.1;
      told = agrees-known (table log) two u (sha256 b.0) agree (held-known me log u b.0 h b.1);
    }

all-told : (me : Member) (log : Log) (two : Table) (us : List UpdateId) → IsObedient me log → Agrees (table log) two → AllHeld me.session log us → AllByRecursion (MatchesTable two (block_of me.session log)) us
all-told me log two [] h agree e = tt
all-told me log two (u ∷ us) h agree e = let p = and_parts _ _ e in (held-told me log two u h agree p.0, all-told me log two us h agree p.1)

-- what a member seals by the rules never opens badly with the key of its side
own-opens : (me : Member) (log : Log) (two : Table) (to : ℕ) (c : Briefcase) → IsObedient me log → Agrees (table log) two → (to ≡ me.party → ⊥) → MayGiveCase me (known me log) to c
    → is_bad (opening_of me.session two (exchange_by c.round c.kind c.role me.party to) c (briefcase_key me (exchange_by c.round c.kind c.role me.party to) c.role)) ≡ false
own-opens me log two to c h agree other rule =
    let x : Exchange = exchange_by c.round c.kind c.role me.party to in
    let key : List ℕ = briefcase_key me x c.role in
    let held : AllHeld me.session log (promised_updates me.session.cap c.terms c.role) = promise-held me log x c.role c.terms h (party-on c.round c.kind c.role me.party to) (role-own me c.round c.kind c.role to other) rule.terms in
    let good = own_key me.session.shape.id x me.session.cap c.terms c.role key two (block_of me.session log) (all-told me log two (promised_updates me.session.cap c.terms c.role) h agree held) in
    subst (λ (cipher : List ℕ). is_bad (opening.opening me.session.shape.id x me.session.cap c.terms c.role cipher key two) ≡ false) (sym rule.cipher) good

-- a said briefcase and a said key for it open to nothing bad
pub never-opens_bad : (me : Member) (log : Log) (two : Table) (m n : Datagram) (c : Briefcase) (k : KeyGiven) → IsObedient me log → SaidIn log m → SaidIn log n → m.message.body ≡ Case c → n.message.body ≡ Key k → Agrees (table log) two
    → key_fits m.message c n.message k ≡ true → is_bad (opening_of me.session two (exchange_by c.round c.kind c.role m.message.from m.message.to) c k.key) ≡ false
never-opens_bad me log two m n c k h p q e f agree fits =
    let w : WasSaid log m = was-said log m p in
    let v : WasSaid log n = was-said log n q in
    let sm : IsSignedByRule me w.before m = said-rule me log m w h in
    let sn : IsSignedByRule me v.before n = said-rule me log n v h in
    let rc : MayGiveCase me (known me w.before) m.message.to c = subst (λ b. MaySay me (known me w.before) m.message.to b) e sm.rule.rule in
    let rk : MayGiveKey me (known me v.before) n.message.to k = subst (λ b. MaySay me (known me v.before) n.message.to b) f sn.rule.rule in
    let before : IsObedient me w.before = (allowed-at me log w.before (Said m) w.place h).1 in
    let near : Agrees (table w.before) two = agrees-before _ _ two (table-later log w.before (later-entry log w.before (Said m) w.place)) agree in
    let fp = and_parts _ _ fits in
    let same : exchange_by c.round c.kind c.role m.message.from m.message.to ≡ exchange_by k.round k.kind k.role n.message.from n.message.to = same_exchange-is _ _ (and_parts _ _ fp.0).1 in
    let role : c.role ≡ k.role = same_role-is c.role k.role fp.1 in
    let cx : exchange_by c.round c.kind c.role me.party m.message.to ≡ exchange_by c.round c.kind c.role m.message.from m.message.to = ap (λ z. exchange_by c.round c.kind c.role z m.message.to) (sym sm.rule.mine) in
    let kx : exchange_by k.round k.kind k.role me.party n.message.to ≡ exchange_by c.round c.kind c.role m.message.from m.message.to = ap (λ z. exchange_by k.round k.kind k.role z n.message.to) (sym sn.rule.mine) ∙ sym same in
    let key : k.key ≡ briefcase_key me (exchange_by c.round c.kind c.role me.party m.message.to) c.role = rk.key ∙ ap (λ z. briefcase_key me z k.role) (kx ∙ sym cx) ∙ ap (λ z. briefcase_key me (exchange_by c.round c.kind c.role me.party m.message.to) z) (sym role) in
    let good : is_bad (opening_of me.session two (exchange_by c.round c.kind c.role me.party m.message.to) c k.key) ≡ false = subst (λ z. is_bad (opening_of me.session two (exchange_by c.round c.kind c.role me.party m.message.to) c z) ≡ false) (sym key) (own-opens me w.before two m.message.to c before near (sign-elsewhere me w.before m.message before sm.rule) rc) in
    subst (λ z. is_bad (opening_of me.session two z c k.key) ≡ false) cx good

never-bad_opening : (me : Member) (log : Log) (two : Table) (m n : Datagram) → IsObedient me log → SaidIn log m → SaidIn log n → Agrees (table log) two
    → bad_opening me.session two m.message n.message (briefcase_in m.message.body) (key_in n.message.body) ≡ false
never-bad_opening me log two m n h p q agree = go (briefcase_in m.message.body) (key_in n.message.body) refl refl
  where
    go : (oc : Option Briefcase) (ok : Option KeyGiven) → briefcase_in m.message.body ≡ oc → key_in n.message.body ≡ ok → bad_opening me.session two m.message n.message oc ok ≡ false
    go None ok e f = refl
    go (Some c) None e f = refl
    go (Some c) (Some k) e f =
        when-false (key_fits m.message c n.message k) (pair_opening me.session two m.message c k)
        (λ fits. and_right (terms_ok me.session no_lists (exchange_by c.round c.kind c.role m.message.from m.message.to) c.terms && counts_ok me.session c) _
        (never-opens_bad me log two m n c k h p q (briefcase-is m.message.body c e) (key_of-is n.message.body k f) agree fits))

-- ---- one message

-- the session's anchor is that of the member's seeds
pub own-seed : (me : Member) (round : ℕ) → IsMember me → round ≤ me.session.shape.rounds → is_seed me.session me.party round (seed_of me round) ≡ true
own-seed me round is high =
    let low : 1 ≤ me.party = omega (arith, is.peer.0) in
    let held = is.fits.anchor low in
    rw held (own_seed (secrets_of me) me.session.shape.rounds round high)

never-wrong_partner : (me : Member) (log : Log) (m : Datagram) → IsMember me → IsObedient me log → SaidIn log m → option_map_or (wrong_partner me.session m.message) (choice_in m.message.body) false ≡ false
never-wrong_partner me log m is h p = go m.message.body refl sign.rule
  where
    w : WasSaid log m
    w = was-said log m p

    sign : MaySign me w.before m.message
    sign = (said-rule me log m w h).rule

    right : (r : ℕ) (seed : List ℕ) (k : XKind) → r ≤ me.session.shape.rounds → seed ≡ seed_of me r → m.message.to ≡ partner_of me.session seed k me.party → wrong_partner me.session m.message (record { kind = k; round = r; seed = seed }) ≡ false
    right r seed k i a b =
        not_from_true _ (and_from _ _ (rw (sign.mine, a) (own-seed me r is i)) (eq-eqb _ _ (ap (λ z. partner_of me.session seed k z) sign.mine ∙ sym b)))

    go : (b : Body) → m.message.body ≡ b → MaySay me (known me w.before) m.message.to b → option_map_or (wrong_partner me.session m.message) (choice_in b) false ≡ false
    go (Request r seed c) e rule = right r seed Balanced (subst (λ z. z ≤ me.session.shape.rounds) (ap round_of e) sign.high) rule.seeded rule.chosen
    go (Query r seed us vs) e rule = right r seed Push (subst (λ z. z ≤ me.session.shape.rounds) (ap round_of e) sign.high) rule.seeded rule.chosen
    go _ e rule = refl

never-bad_terms_of : (me : Member) (log : Log) (two : Table) (m : Datagram) → IsObedient me log → SaidIn log m → Agrees (table log) two → option_map_or (bad_terms me.session two m.message) (briefcase_in m.message.body) false ≡ false
never-bad_terms_of me log two m h p agree = go (briefcase_in m.message.body) refl
  where
    go : (o : Option Briefcase) → briefcase_in m.message.body ≡ o → option_map_or (bad_terms me.session two m.message) o false ≡ false
    go None e = refl
    go (Some c) e = never_bad_terms me log two m c h p (briefcase-is m.message.body c e) agree

-- ---- no framing

never-one : (me : Member) (log : Log) (two : Table) (m : Datagram) → IsMember me → IsObedient me log → SaidIn log m → Agrees (table log) two → fault_of_one me.session two m ≡ None
never-one me log two m is h p agree = rw (never-bad_terms_of me log two m h p agree, never-wrong_partner me log m is h p) refl

never-by_messages : (me : Member) (log : Log) (two : Table) (m n : Datagram) → IsObedient me log → SaidIn log m → SaidIn log n → Agrees (table log) two
    → fault_of_messages me.session two m.message n.message ≡ None
never-by_messages me log two m n h p q agree =
    rw (never-bad_opening me log two m n h p q agree, never-by_words me log m n h p q, never-bad_opening me log two n m h q p agree, never-by_words me log n m h q p) refl

-- two said datagrams of different identities name different leaves
never-leaf_twice : (me : Member) (log : Log) (m n : Datagram) → IsMember me → IsObedient me log → SaidIn log m → SaidIn log n → is_leaf_twice me.session m n ≡ false
never-leaf_twice me log m n is h p q = go (bytes_eq (identity_of m.message) (identity_of n.message)) (leaf_named me.session m == leaf_named me.session n) refl refl
  where
    go : (a b : Bool) → bytes_eq (identity_of m.message) (identity_of n.message) ≡ a → (leaf_named me.session m == leaf_named me.session n) ≡ b → (not a && b) ≡ false
    go true b e f = refl
    go false false e f = refl
    go false true e f =
        let one : m ≡ n = named-once me log m n is.session h (was-said log m p) (was-said log n q) (eqb-true (leaf_named me.session m) (leaf_named me.session n) f) in
        let same : bytes_eq (identity_of m.message) (identity_of n.message) ≡ true = subst (λ (c : Datagram). bytes_eq (identity_of m.message) (identity_of c.message) ≡ true) one (bytes_eq-refl (identity_of m.message)) in
        absurd (both_ways _ e same)

-- ---- evidence of messages, whatever their signatures

-- a message that was said is that of a said datagram
pub said-message : (log : Log) (m : Message) → HasSaid log m → (d : Datagram) × SaidIn log d × (d.message ≡ m)
said-message [] m h = absurd h
said-message (Said d ∷ log) m (inl e) = (d, inl refl, e)
said-message (Said d ∷ log) m (inr h) = let s = said-message log m h in (s.0, inr s.1, s.2)
said-message (Ticked ∷ log) m h = let s = said-message log m h in (s.0, inr s.1, s.2)
said-message (Heard d ∷ log) m h = let s = said-message log m h in (s.0, inr s.1, s.2)
said-message (Kept q e ∷ log) m h = let s = said-message log m h in (s.0, inr s.1, s.2)

-- faults of messages, whatever signatures they have
one-by-message : (s : Session) (t : Table) (d e : Datagram) → d.message ≡ e.message → fault_of_one s t d ≡ fault_of_one s t e
one-by-message s t d e same = λ i. fault_of_one s t (record { message = same i; signature = [] })

-- no fault but that of a leaf
abbrev IsNoWord : Option Fault → Type 0
IsNoWord o = (o ≡ None) ⊎ (o ≡ Some LeafTwice)

leaf-or-none : (b : Bool) (o : Option Fault) → o ≡ None → IsNoWord (option_or (then_some b LeafTwice) o)
leaf-or-none true o e = inr refl
leaf-or-none false o e = inl e

-- datagrams whose messages a member signed show no fault of messages, under any table that agrees with its own
no-words : (me : Member) (log : Log) (two : Table) (ds : List Datagram) → IsMember me → IsObedient me log → Agrees (table log) two → AllByRecursion (λ (d : Datagram). HasSaid log d.message) ds
    → IsNoWord (fault_of me.session two ds)
no-words me log two [] is h agree a = inl refl
no-words me log two (d ∷ []) is h agree a =
    let s = said-message log d.message a.0 in
    inl (one-by-message me.session two d s.0 (sym s.2) ∙ never-one me log two s.0 is h s.1 agree)
no-words me log two (d ∷ e ∷ []) is h agree a =
    let s = said-message log d.message a.0 in
    let t = said-message log e.message a.1.0 in
    leaf-or-none (is_leaf_twice me.session d e) (fault_of_messages me.session two d.message e.message)
    ((λ i. fault_of_messages me.session two (sym s.2 i) (sym t.2 i)) ∙ never-by_messages me log two s.0 t.0 h s.1 t.1 agree)
no-words me log two (d ∷ e ∷ f ∷ ds) is h agree a = inl refl

-- evidence whose messages a member signed does not name it with a fault of messages
pub not-named-by-words : (me : Member) (log : Log) (two : Table) (evidence : List (List ℕ)) (ds : List Datagram) → IsMember me → IsObedient me log → Agrees (table log) two
    → all_read me.session evidence ≡ Some ds → AllByRecursion (λ (d : Datagram). HasSaid log d.message) ds → accuses_by_words me.party (verdict me.session two evidence) ≡ false
not-named-by-words me log two evidence ds is h agree read said = rw read (checked (are_of_one_peer ds) (list_all (is_signed_by me.session) ds) (fault_of me.session two ds) (no-words me log two ds is h agree said))
  where
    checked : (a b : Bool) (o : Option Fault) → IsNoWord o → accuses_by_words me.party (if not a then NotShown Malformed else (if not b then NotShown NotSigned else judged me.session two ds o)) ≡ false
    checked false b o e = refl
    checked true false o e = refl
    checked true true None e = refl
    checked true true (Some f) (inl e) = cc
    checked true true (Some f) (inr e) = let same : f ≡ LeafTwice = cc in rw same (and_right (sender_of ds == me.party) false refl)

-- ---- evidence of datagrams

pub signed-said : (log : Log) (d : Datagram) → HasSigned log d → SaidIn log d
signed-said [] d h = absurd h
signed-said (Said e ∷ log) d (inl s) = inl (ap Said s)
signed-said (Said e ∷ log) d (inr h) = inr (signed-said log d h)
signed-said (Ticked ∷ log) d h = inr (signed-said log d h)
signed-said (Heard e ∷ log) d h = inr (signed-said log d h)
signed-said (Kept q e ∷ log) d h = inr (signed-said log d h)

-- datagrams that a member signed show no fault, under any table that agrees with its own
pub no-framing : (me : Member) (log : Log) (two : Table) (ds : List Datagram) → IsMember me → IsObedient me log → Agrees (table log) two → AllByRecursion (λ (d : Datagram). HasSigned log d) ds
    → fault_of me.session two ds ≡ None
no-framing me log two [] is h agree a = refl
no-framing me log two (d ∷ []) is h agree a = never-one me log two d is h (signed-said log d a.0) agree
no-framing me log two (d ∷ e ∷ []) is h agree a =
    let p = signed-said log d a.0 in
    let q = signed-said log e a.1.0 in
    rw (never-leaf_twice me log d e is h p q) (never-by_messages me log two d e h p q agree)
no-framing me log two (d ∷ e ∷ f ∷ ds) is h agree a = refl

-- evidence of datagrams that a member signed does not name it
pub not-named : (me : Member) (log : Log) (two : Table) (evidence : List (List ℕ)) (ds : List Datagram) → IsMember me → IsObedient me log → Agrees (table log) two
    → all_read me.session evidence ≡ Some ds → AllByRecursion (λ (d : Datagram). HasSigned log d) ds → accuses me.party (verdict me.session two evidence) ≡ false
not-named me log two evidence ds is h agree read said = rw read (checked (are_of_one_peer ds) (list_all (is_signed_by me.session) ds) (fault_of me.session two ds) (no-framing me log two ds is h agree said))
  where
    checked : (a b : Bool) (o : Option Fault) → o ≡ None → accuses me.party (if not a then NotShown Malformed else (if not b then NotShown NotSigned else judged me.session two ds o)) ≡ false
    checked false b o e = refl
    checked true false o e = refl
    checked true true None e = refl
    checked true true (Some f) e = cc
