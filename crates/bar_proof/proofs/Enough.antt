-- What evidence needs of a table is enough to show it.
use Rattle.std.proofs.Common.{◌≡◌, ℕ, suc, ◌+◌, min, Bool, true, false, List, [], ◌∷◌, ◌++◌, length, take, drop, map, refl, sym, ap, ◌∙◌, subst, inl, inr, arith, ◌&&◌, ◌||◌, not, cond, nat_lt}
use Rattle.std.specs.Prelude.{Option, Some, None, ◌⊎◌, filter, option_map, option_and_then, slice_get, position, if◌then◌else◌, ◌<◌}
use Rattle.std.specs.List.{list_all, list_any, position_or_len, AllByRecursion}
use Rattle.std.specs.Bool.{then_some}
use Rattle.std.specs.Option.{option_or, option_map_or}
use Rattle.std.proofs.lemmas.Bool.{and_parts, and_from, both_ways, not-true, eq-eqb, ltb-true, lt-ltb, false_from_ne_true, cases_Bool}
use Rattle.bar_window.specs.declared.update.UpdateId.{UpdateId}
use Rattle.bar_window.specs.declared.exchange.Exchange.{Exchange}
use Rattle.bar_window.specs.Terms.{Terms}
use Rattle.bar_window.specs.Terms as forms
use Rattle.bar_terms.specs.declared.items.Item.{Item}
use Rattle.bar_terms.specs.declared.items.Item.TheVariants.{Update, Junk}
use Rattle.bar_terms.specs.Table.{Table, Extends, no_lists, digest_of, is_past_end, none_past_end}
use Rattle.bar_terms.specs.Terms.{promise}
use Rattle.bar_wire.specs.Bodies.{briefcase_in, choice_in, key_in}
use Rattle.bar_wire.specs.Datagram.{Message, Datagram, Body, Case, Key, Briefcase, KeyGiven, exchange_by}
use Rattle.bar_case.specs.declared.findings.Finding.{Finding}
use Rattle.bar_case.specs.declared.findings.Opening.TheVariants.{Bad}
use Rattle.bar_case.specs.Items.{item_len, junk_key}
use Rattle.bar_case.specs.Opened.{digest_finding, item_finding, findings, is_broken, is_untold, opening_by, opened, is_bad}
use Rattle.bar_case.specs.Opened as opening
use Rattle.bar_case.proofs.Longer.{some_any, bad_some}
use Rattle.bar_rules.specs.Member.{Session}
use Rattle.bar_rules.specs.Values.{terms_ok, counts_ok, opening_of, is_signed_by}
use Rattle.bar_rules.specs.Judge.Verdict.{Fault, LeafTwice, BadOpening, BadTerms, WrongPartner, Verdict, Shown, NotShown, Malformed, NotSigned, bad_terms, wrong_partner, key_fits, pair_opening, bad_opening, fault_by_words, fault_in_order, fault_of_one, is_leaf_twice, fault_of_messages, fault_of_two, fault_of, judged, verdict_on, verdict, all_read, are_of_one_peer}
use Rattle.bar_laws.specs.Verdicts.{ShownStaysShown}
use Rattle.bar_proof.specs.Needs.{round_of_item, bad_item, bad_round, listed_updates, least, rounds_past_end, past_round, round_for, is_shown, only, needed}
use Rattle.bar_proof.specs.Laws.{NeededIsEnough}

-- the list of one round alone says the same of an update of that round as the table
only-says : (table : Table) (u : UpdateId) → digest_of (only table u.round) u ≡ digest_of table u
only-says table u = rw (eq-eqb u.round u.round refl) refl

-- ---- terms

-- under the list of this round alone, some update is past the end of its list
abbrev pub EndsBefore : Table → List UpdateId → ℕ → Type 0
EndsBefore table us round = none_past_end (only table round) us ≡ false

and-false : (a b : Bool) → b ≡ false → (a && b) ≡ false
and-false true b e = e
and-false false b e = refl

ends-more : (table : Table) (v : UpdateId) (us : List UpdateId) (rs : List ℕ) → AllByRecursion (EndsBefore table us) rs → AllByRecursion (EndsBefore table (v ∷ us)) rs
ends-more table v us [] h = tt
ends-more table v us (r ∷ rs) h = (and-false (not (is_past_end (digest_of (only table r) v))) (none_past_end (only table r) us) h.0, ends-more table v us rs h.1)

all-end : (table : Table) (us : List UpdateId) → AllByRecursion (EndsBefore table us) (rounds_past_end table us)
all-end table [] = tt
all-end table (v ∷ us) = go (is_past_end (digest_of table v)) refl (ends-more table v us (rounds_past_end table us) (all-end table us))
  where
    go : (b : Bool) → is_past_end (digest_of table v) ≡ b → AllByRecursion (EndsBefore table (v ∷ us)) (rounds_past_end table us)
        → AllByRecursion (EndsBefore table (v ∷ us)) (map (λ (u : UpdateId). u.round) (cond b (v ∷ filter (λ u. is_past_end (digest_of table u)) us) (filter (λ u. is_past_end (digest_of table u)) us)))
    go false e rest = rest
    go true e rest =
        let here : is_past_end (digest_of (only table v.round) v) ≡ true = ap is_past_end (only-says table v) ∙ e in
        (ap (λ b. not b && none_past_end (only table v.round) us) here, rest)

min-is : (a b : ℕ) → (min a b ≡ a) ⊎ (min a b ≡ b)
min-is a b = elim (cases_Bool (nat_lt a b)) [
  | inl e ↦ (let h : a < b = ltb-true a b e in inl (omega (arith, h)))
  | inr e ↦ inr (omega (arith, ge a b e))
]
  where
    ge : (a b : ℕ) → nat_lt a b ≡ false → (a < b → ⊥)
    ge a b e h = both_ways (nat_lt a b) e (lt-ltb a b h)

-- the least of some numbers is one of them
least-is : (P : ℕ → Type 0) (r : ℕ) (rs : List ℕ) → P r → AllByRecursion P rs → (m : ℕ) × (least (r ∷ rs) ≡ Some m) × P m
least-is P r [] p all = (r, refl, p)
least-is P r (q ∷ rs) p all =
    let rest = least-is P q rs all.0 all.1 in
    pick rest.0 rest.1 rest.2 (min-is r rest.0)
  where
    pick : (m : ℕ) → least (q ∷ rs) ≡ Some m → P m → (min r m ≡ r) ⊎ (min r m ≡ m) → (n : ℕ) × (least (r ∷ q ∷ rs) ≡ Some n) × P n
    pick m e pm (inl h) = (r, ap (λ o. option_or (option_map (min r) o) (Some r)) e ∙ ap Some h, p)
    pick m e pm (inr h) = (m, ap (λ o. option_or (option_map (min r) o) (Some r)) e ∙ ap Some h, pm)

some-past : (table : Table) (us : List UpdateId) → none_past_end table us ≡ false → (r : ℕ) × (rs : List ℕ) × (rounds_past_end table us ≡ r ∷ rs)
some-past table [] e = cc
some-past table (v ∷ us) e = go (is_past_end (digest_of table v)) refl e (some-past table us)
  where
    go : (b : Bool) → is_past_end (digest_of table v) ≡ b → (not b && none_past_end table us) ≡ false
        → (none_past_end table us ≡ false → (r : ℕ) × (rs : List ℕ) × (rounds_past_end table us ≡ r ∷ rs))
        → (r : ℕ) × (rs : List ℕ) × (map (λ (u : UpdateId). u.round) (cond b (v ∷ filter (λ u. is_past_end (digest_of table u)) us) (filter (λ u. is_past_end (digest_of table u)) us)) ≡ r ∷ rs)
    go true h e rest = (v.round, rounds_past_end table us, refl)
    go false h e rest = rest e

past-enough : (table : Table) (us : List UpdateId) → none_past_end table us ≡ false
    → (r : ℕ) × (least (rounds_past_end table us) ≡ Some r) × (none_past_end (only table r) us ≡ false)
past-enough table us e =
    let some = some-past table us e in
    let all : AllByRecursion (EndsBefore table us) (some.0 ∷ some.1) = subst (λ rs. AllByRecursion (EndsBefore table us) rs) some.2 (all-end table us) in
    let m = least-is (EndsBefore table us) some.0 some.1 all.0 all.1 in
    (m.0, ap least some.2 ∙ m.1, m.2)

none-append : (table : Table) (us vs : List UpdateId) → none_past_end table (us ++ vs) ≡ (none_past_end table us && none_past_end table vs)
none-append table [] vs = refl
none-append table (u ∷ us) vs = go (not (is_past_end (digest_of table u))) (none-append table us vs)
  where
    go : (b : Bool) → none_past_end table (us ++ vs) ≡ (none_past_end table us && none_past_end table vs) → (b && none_past_end table (us ++ vs)) ≡ ((b && none_past_end table us) && none_past_end table vs)
    go true e = e
    go false e = refl

and-left : (a b c : Bool) → (a && b) ≡ true → (a && c) ≡ c
and-left true b c e = refl
and-left false b c e = cc

and-mid : (a b c d : Bool) → ((a && b) && c) ≡ true → ((a && d) && c) ≡ d
and-mid true true true true e = refl
and-mid true true true false e = refl
and-mid true true false d e = cc
and-mid true false c d e = cc
and-mid false b c d e = cc

-- for terms that are valid under the empty table, a table tests only the ends of its lists
terms-end : (s : Session) (table : Table) (x : Exchange) (t : Terms) → terms_ok s no_lists x t ≡ true → terms_ok s table x t ≡ none_past_end table (listed_updates t)
terms-end s table x (forms.Balanced nonce ha hb) ok = and-left _ _ _ ok ∙ sym (none-append table ha hb)
terms-end s table x (forms.Push young aged want give junk) ok = and-mid _ _ _ _ ok ∙ sym (none-append table young aged)

-- terms that are bad only because of a list are bad by the list of one round
terms-enough : (s : Session) (table : Table) (m : Message) (c : Briefcase) → bad_terms s no_lists m c ≡ false → bad_terms s table m c ≡ true
    → (r : ℕ) × (least (rounds_past_end table (listed_updates c.terms)) ≡ Some r) × (bad_terms s (only table r) m c ≡ true)
terms-enough s table m c good bad =
    let fine : (terms_ok s no_lists x c.terms ≡ true) × (counts_ok s c ≡ true) = and_parts _ _ (not_from-false (terms_ok s no_lists x c.terms && counts_ok s c) good) in
    let ends : none_past_end table (listed_updates c.terms) ≡ false =
    sym (terms-end s table x c.terms fine.0) ∙ first-false (terms_ok s table x c.terms) (counts_ok s c) fine.1 (not-true _ bad) in
    let r = past-enough table (listed_updates c.terms) ends in
    (r.0, r.1, ap (λ b. not (b && counts_ok s c)) (terms-end s (only table r.0) x c.terms fine.0 ∙ r.2))
  where
    x : Exchange
    x = exchange_by c.round c.kind c.role m.from m.to

    not_from-false : (b : Bool) → not b ≡ false → b ≡ true
    not_from-false true e = refl
    not_from-false false e = cc

    first-false : (a b : Bool) → b ≡ true → (a && b) ≡ false → a ≡ false
    first-false true b h e = absurd (both_ways b e h)
    first-false false b h e = refl

-- ---- openings

by-any : (fs : List Finding) → opening.opening_of fs ≡ opening_by (cond (list_any is_broken fs) (Some (position_or_len is_broken fs)) None) (position is_untold fs) (length fs)
by-any fs = ap (λ b. opening_by (cond b (Some (position_or_len is_broken fs)) None) (position is_untold fs) (length fs)) (some_any fs)

bad-any : (fs : List Finding) → is_bad (opening.opening_of fs) ≡ list_any is_broken fs
bad-any fs = ap is_bad (by-any fs) ∙ bad_some (list_any is_broken fs) (position_or_len is_broken fs) (position is_untold fs) (length fs)

bad-at : (fs : List Finding) → list_any is_broken fs ≡ true → opening.opening_of fs ≡ Bad (position_or_len is_broken fs)
bad-at fs e = by-any fs ∙ ap (λ b. opening_by (cond b (Some (position_or_len is_broken fs)) None) (position is_untold fs) (length fs)) e

-- the first broken item; under a table that says the same of this item, some item is broken
record FirstBroken (table : Table) (junk : List ℕ) (items : List Item) (bytes : List ℕ) : Type 0 where
  pub item : Item
  pub at : slice_get items (position_or_len is_broken (findings table junk items bytes)) ≡ Some item
  pub stays :
      (two : Table) → ((b : List ℕ) → item_finding two junk item b ≡ item_finding table junk item b)
      → list_any is_broken (findings two junk items bytes) ≡ true

or-right : (a b : Bool) → b ≡ true → (a || b) ≡ true
or-right true b e = refl
or-right false b e = e

first-broken : (table : Table) (junk : List ℕ) (items : List Item) (bytes : List ℕ) → list_any is_broken (findings table junk items bytes) ≡ true
    → FirstBroken table junk items bytes
first-broken table junk [] bytes e = cc
first-broken table junk (item ∷ items) bytes e =
    go (is_broken (item_finding table junk item (take (item_len item) bytes))) refl e (first-broken table junk items (drop (item_len item) bytes))
  where
    front : List ℕ
    front = take (item_len item) bytes

    rest : List ℕ
    rest = drop (item_len item) bytes

    go : (b : Bool) → is_broken (item_finding table junk item front) ≡ b → (b || list_any is_broken (findings table junk items rest)) ≡ true
        → (list_any is_broken (findings table junk items rest) ≡ true → FirstBroken table junk items rest)
        → FirstBroken table junk (item ∷ items) bytes
    go true h e later = record {
      item = item;
      at = rw h refl;
      stays = λ two same. rw (same front, h) refl;
    }
    go false h e later =
        let more = later e in
        let next : 1 + position_or_len is_broken (findings table junk items rest) ≡ suc (position_or_len is_broken (findings table junk items rest)) = omega arith in
        record {
          item = more.item;
          at = rw h (ap (slice_get (item ∷ items)) next ∙ more.at);
          stays = λ two same. or-right (is_broken (item_finding two junk item front)) _ (more.stays two same);
        }

-- what opens badly only because of a list opens badly by the list of one round
opening-enough : (s : Session) (table : Table) (x : Exchange) (c : Briefcase) (key : List ℕ) → is_bad (opening_of s no_lists x c key) ≡ false
    → is_bad (opening_of s table x c key) ≡ true
    → (r : ℕ) × (option_and_then round_of_item (bad_item (opening_of s table x c key) (promise s.cap c.terms c.role)) ≡ Some r)
    × (is_bad (opening_of s (only table r) x c key) ≡ true)
unfolding opening.opening
opening-enough s table x c key good bad =
    let found : list_any is_broken (fs table) ≡ true = sym (bad-any (fs table)) ∙ bad in
    let first = first-broken table junk items bytes found in
    let is : option_and_then round_of_item (bad_item (opening.opening_of (fs table)) items) ≡ round_of_item first.item =
    ap (λ o. option_and_then round_of_item (bad_item o items)) (bad-at (fs table) found) ∙ ap (option_and_then round_of_item) first.at in
    go first.item is first.stays
  where
    junk : List ℕ
    junk = junk_key s.shape.id x

    items : List Item
    items = promise s.cap c.terms c.role

    bytes : List ℕ
    bytes = opened key c.cipher

    fs : Table → List Finding
    fs t = findings t junk items bytes

    go : (item : Item) → option_and_then round_of_item (bad_item (opening.opening_of (fs table)) items) ≡ round_of_item item
        → ((two : Table) → ((b : List ℕ) → item_finding two junk item b ≡ item_finding table junk item b) → list_any is_broken (fs two) ≡ true)
        → (r : ℕ) × (option_and_then round_of_item (bad_item (opening.opening_of (fs table)) items) ≡ Some r)
        × (is_bad (opening.opening_of (fs (only table r))) ≡ true)
    go (Update u) is stays =
        (u.round, is, bad-any (fs (only table u.round)) ∙ stays (only table u.round) (λ b. ap (λ d. digest_finding d b) (only-says table u)))
    go (Junk t) is stays = absurd (both_ways (is_bad (opening.opening_of (fs no_lists))) good (bad-any (fs no_lists) ∙ stays no_lists (λ b. refl)))

pair-enough : (s : Session) (table : Table) (m n : Message) (oc : Option Briefcase) (ok : Option KeyGiven) → bad_opening s no_lists m n oc ok ≡ false
    → bad_opening s table m n oc ok ≡ true
    → (r : ℕ) × (bad_round s table m oc ok ≡ Some r) × (bad_opening s (only table r) m n oc ok ≡ true)
pair-enough s table m n None ok good bad = cc
pair-enough s table m n (Some c) None good bad = cc
pair-enough s table m n (Some c) (Some k) good bad =
    let x : Exchange = exchange_by c.round c.kind c.role m.from m.to in
    let p : (key_fits m c n k ≡ true) × (pair_opening s table m c k ≡ true) = and_parts _ _ bad in
    let q : ((terms_ok s no_lists x c.terms && counts_ok s c) ≡ true) × (is_bad (opening_of s table x c k.key) ≡ true) = and_parts _ _ p.1 in
    let sound : is_bad (opening_of s no_lists x c k.key) ≡ false =
    false_from_ne_true _ (λ h. both_ways (bad_opening s no_lists m n (Some c) (Some k)) good (and_from _ _ p.0 (and_from _ _ q.0 h))) in
    let r = opening-enough s table x c k.key sound q.1 in
    (r.0, r.1, and_from _ _ p.0 (and_from _ _ q.0 r.2))

-- ---- faults

-- what one datagram shows only because of a list
one-by : (a a0 b : Bool) (f : Fault) → option_or (then_some a0 BadTerms) (then_some b WrongPartner) ≡ None
    → option_or (then_some a BadTerms) (then_some b WrongPartner) ≡ Some f → (a0 ≡ false) × (a ≡ true) × (f ≡ BadTerms)
one-by true false false f none some = (refl, refl, (let eq : Some BadTerms ≡ Some f = some in cc))
one-by true true b f none some = cc
one-by true false true f none some = cc
one-by false false false f none some = cc
one-by false false true f none some = cc
one-by false true b f none some = cc

one-enough : (s : Session) (table : Table) (d : Datagram) (f : Fault) → fault_of_one s no_lists d ≡ None → fault_of_one s table d ≡ Some f
    → (r : ℕ) × (past_round table (briefcase_in d.message.body) ≡ Some r) × (fault_of_one s (only table r) d ≡ Some f)
one-enough s table d f none some =
    let m : Message = d.message in
    let p = one-by (option_map_or (bad_terms s table m) (briefcase_in m.body) false) (option_map_or (bad_terms s no_lists m) (briefcase_in m.body) false)
    (option_map_or (wrong_partner s m) (choice_in m.body) false) f none some in
    go (briefcase_in m.body) p.0 p.1 p.2
  where
    go : (o : Option Briefcase) → option_map_or (bad_terms s no_lists d.message) o false ≡ false → option_map_or (bad_terms s table d.message) o false ≡ true → f ≡ BadTerms
        → (r : ℕ) × (past_round table o ≡ Some r)
        × (option_or (then_some (option_map_or (bad_terms s (only table r) d.message) o false) BadTerms) (then_some (option_map_or (wrong_partner s d.message) (choice_in d.message.body) false) WrongPartner) ≡ Some f)
    go None good bad e = cc
    go (Some c) good bad e =
        let r = terms-enough s table d.message c good bad in
        (r.0, r.1, rw r.2 (ap Some (sym e)))

-- what two datagrams show only because of a list: one of them is a briefcase that the other opens badly
pub two-by : (a a0 b b0 : Bool) (v w : Option Fault) (f : Fault)
    → option_or (option_or (then_some a0 BadOpening) v) (option_or (then_some b0 BadOpening) w) ≡ None
    → option_or (option_or (then_some a BadOpening) v) (option_or (then_some b BadOpening) w) ≡ Some f
    → (a0 ≡ false) × (b0 ≡ false) × (v ≡ None) × (w ≡ None) × (f ≡ BadOpening) × ((a ≡ true) ⊎ ((a ≡ false) × (b ≡ true)))
two-by true false b false None None f none some = (refl, refl, refl, refl, (let eq : Some BadOpening ≡ Some f = some in cc), inl refl)
two-by false false true false None None f none some = (refl, refl, refl, refl, (let eq : Some BadOpening ≡ Some f = some in cc), inr (refl, refl))
two-by false false false false None None f none some = cc
two-by a true b b0 v w f none some = cc
two-by a false b b0 (Some g) w f none some = cc
two-by a false b true None w f none some = cc
two-by a false b false None (Some g) f none some = cc

-- a key is no briefcase
no-case : (b : Body) (k : KeyGiven) → key_in b ≡ Some k → briefcase_in b ≡ None
no-case (Key g) k e = refl
no-case (Case c) k e = cc
no-case b k e = refl

pub other-way : (s : Session) (table : Table) (m n : Message) → bad_opening s table n m (briefcase_in n.body) (key_in m.body) ≡ true → briefcase_in m.body ≡ None
other-way s table m n e = go (briefcase_in n.body) (key_in m.body) refl e
  where
    go : (oc : Option Briefcase) (ok : Option KeyGiven) → key_in m.body ≡ ok → bad_opening s table n m oc ok ≡ true → briefcase_in m.body ≡ None
    go None ok h e = cc
    go (Some c) None h e = cc
    go (Some c) (Some k) h e = no-case m.body k h

messages-enough : (s : Session) (table : Table) (m n : Message) (f : Fault) → fault_of_messages s no_lists m n ≡ None → fault_of_messages s table m n ≡ Some f
    → (r : ℕ)
    × (option_or (bad_round s table m (briefcase_in m.body) (key_in n.body)) (bad_round s table n (briefcase_in n.body) (key_in m.body)) ≡ Some r)
    × (fault_of_messages s (only table r) m n ≡ Some f)
messages-enough s table m n f none some =
    let p = two-by (bad_opening s table m n (briefcase_in m.body) (key_in n.body)) (bad_opening s no_lists m n (briefcase_in m.body) (key_in n.body))
    (bad_opening s table n m (briefcase_in n.body) (key_in m.body)) (bad_opening s no_lists n m (briefcase_in n.body) (key_in m.body))
    (fault_by_words s m n) (fault_by_words s n m) f none some in
    go p.0 p.1 p.2 p.3 p.4 p.5
  where
    go : bad_opening s no_lists m n (briefcase_in m.body) (key_in n.body) ≡ false → bad_opening s no_lists n m (briefcase_in n.body) (key_in m.body) ≡ false
        → fault_by_words s m n ≡ None → fault_by_words s n m ≡ None → f ≡ BadOpening
        → (bad_opening s table m n (briefcase_in m.body) (key_in n.body) ≡ true) ⊎ ((bad_opening s table m n (briefcase_in m.body) (key_in n.body) ≡ false) × (bad_opening s table n m (briefcase_in n.body) (key_in m.body) ≡ true))
        → (r : ℕ)
        × (option_or (bad_round s table m (briefcase_in m.body) (key_in n.body)) (bad_round s table n (briefcase_in n.body) (key_in m.body)) ≡ Some r)
        × (fault_of_messages s (only table r) m n ≡ Some f)
    go good good' v w is (inl bad) =
        let r = pair-enough s table m n (briefcase_in m.body) (key_in n.body) good bad in
        (r.0, ap (λ o. option_or o (bad_round s table n (briefcase_in n.body) (key_in m.body))) r.1, rw r.2 (ap Some (sym is)))
    go good good' v w is (inr bad) =
        let r = pair-enough s table n m (briefcase_in n.body) (key_in m.body) good' bad.1 in
        let none : briefcase_in m.body ≡ None = other-way s table m n bad.1 in (
          r.0,
          ap (λ o. option_or (bad_round s table m o (key_in n.body)) (bad_round s table n (briefcase_in n.body) (key_in m.body))) none ∙ r.1,
          ap (λ o. option_or (option_or (then_some (bad_opening s (only table r.0) m n o (key_in n.body)) BadOpening) (fault_by_words s m n)) (fault_in_order s (only table r.0) n m)) none
              ∙ rw (v, r.2) (ap Some (sym is)),
        )

-- leaves need no table
two-enough : (s : Session) (table : Table) (d e : Datagram) (f : Fault) → fault_of_two s no_lists d e ≡ None → fault_of_two s table d e ≡ Some f
    → (r : ℕ)
    × (option_or (bad_round s table d.message (briefcase_in d.message.body) (key_in e.message.body)) (bad_round s table e.message (briefcase_in e.message.body) (key_in d.message.body)) ≡ Some r)
    × (fault_of_two s (only table r) d e ≡ Some f)
two-enough s table d e f none some = by_leaves (is_leaf_twice s d e) none some
  where
    by_leaves : (twice : Bool) → option_or (then_some twice LeafTwice) (fault_of_messages s no_lists d.message e.message) ≡ None
        → option_or (then_some twice LeafTwice) (fault_of_messages s table d.message e.message) ≡ Some f
        → (r : ℕ)
        × (option_or (bad_round s table d.message (briefcase_in d.message.body) (key_in e.message.body)) (bad_round s table e.message (briefcase_in e.message.body) (key_in d.message.body)) ≡ Some r)
        × (option_or (then_some twice LeafTwice) (fault_of_messages s (only table r) d.message e.message) ≡ Some f)
    by_leaves true none some = cc
    by_leaves false none some = messages-enough s table d.message e.message f none some

all-enough : (s : Session) (table : Table) (ds : List Datagram) (f : Fault) → fault_of s no_lists ds ≡ None → fault_of s table ds ≡ Some f
    → (r : ℕ) × (round_for s table ds ≡ Some r) × (fault_of s (only table r) ds ≡ Some f)
all-enough s table [] f none some = cc
all-enough s table (d ∷ []) f none some = one-enough s table d f none some
all-enough s table (d ∷ e ∷ []) f none some = two-enough s table d e f none some
all-enough s table (d ∷ e ∷ g ∷ ds) f none some = cc

-- ---- verdicts

-- what was shown of some datagrams, from their fault
abbrev pub checked : Session → Table → List Datagram → Bool → Bool → Option Fault → Verdict
checked s table ds one signed o = if not one then NotShown Malformed else (if not signed then NotShown NotSigned else judged s table ds o)

checked-enough : (s : Session) (table : Table) (ds : List Datagram) (party : ℕ) (f : Fault) (one signed : Bool) (o o0 : Option Fault) → fault_of s table ds ≡ o
    → fault_of s no_lists ds ≡ o0 → is_shown (checked s no_lists ds one signed o0) ≡ false → checked s table ds one signed o ≡ Shown party f
    → (t : Table) × ((r : ℕ) × (round_for s table ds ≡ Some r) × (t ≡ only table r)) × (checked s t ds one signed (fault_of s t ds) ≡ Shown party f)
checked-enough s table ds party f false signed o o0 e e0 none shown = cc
checked-enough s table ds party f true false o o0 e e0 none shown = cc
checked-enough s table ds party f true true None o0 e e0 none shown = cc
checked-enough s table ds party f true true (Some g) (Some h) e e0 none shown = cc
checked-enough s table ds party f true true (Some g) None e e0 none shown =
    let r = all-enough s table ds g e0 e in
    (only table r.0, (r.0, r.1, refl), rw r.2 shown)

-- from the bytes that are read
read-enough : (s : Session) (table : Table) (o : Option (List Datagram)) (party : ℕ) (f : Fault) → is_shown (verdict_on s no_lists o) ≡ false
    → verdict_on s table o ≡ Shown party f
    → verdict_on s (needed table (option_and_then (round_for s table) o)) o ≡ Shown party f
read-enough s table None party f none shown = cc
read-enough s table (Some ds) party f none shown =
    let c = checked-enough s table ds party f (are_of_one_peer ds) (list_all (is_signed_by s) ds) (fault_of s table ds) (fault_of s no_lists ds) refl refl none shown in
    let is : needed table (round_for s table ds) ≡ c.0 = ap (needed table) c.1.1 ∙ sym c.1.2 in
    ap (λ t. verdict_on s t (Some ds)) is ∙ c.2

nothing-extends : (table : Table) → Extends no_lists table
nothing-extends table = record { same = λ r ds e. cc }

-- what is shown under the empty table is shown under each table
same-shown : ShownStaysShown → (s : Session) (table : Table) (evidence : List (List ℕ)) (party : ℕ) (f : Fault) (v : Verdict) → verdict s no_lists evidence ≡ v
    → is_shown v ≡ true → verdict s table evidence ≡ Shown party f → verdict s no_lists evidence ≡ Shown party f
same-shown law s table evidence party f (NotShown why) e shown is = cc
same-shown law s table evidence party f (Shown p g) e shown is =
    let stays : verdict s table evidence ≡ Shown p g = law s no_lists table evidence p g (nothing-extends table) e in
    e ∙ (sym stays ∙ is)

pub enough : ShownStaysShown → NeededIsEnough
enough law s table evidence party f shown = go (is_shown (verdict s no_lists evidence)) refl
  where
    go : (b : Bool) → is_shown (verdict s no_lists evidence) ≡ b
        → verdict s (needed table (if b then None else option_and_then (round_for s table) (all_read s evidence))) evidence ≡ Shown party f
    go true e = same-shown law s table evidence party f (verdict s no_lists evidence) refl e shown
    go false e = read-enough s table (all_read s evidence) party f e shown
