-- Items that are opened one after another.
use Rattle.std.proofs.Common.{◌≡◌, ℕ, suc, ◌+◌, ◌-◌, ◌<◌, ◌≤◌, Bool, true, false, List, [], ◌∷◌, ◌++◌, length, take, drop, map, slice_set, slice_index_or, refl, sym, ap, ◌∙◌, arith, length-append, length-take, length-drop, cond, nat_lt, eqb, not}
use Rattle.std.specs.Prelude.{Option, Some, None, position}
use Rattle.std.specs.List.{position_or_len, range_with_len}
use Rattle.std.specs.Simd.{first_chunks}
use Rattle.std.proofs.lemmas.List.{take_more, drop-drop, drop-take, length-take-le}
use Rattle.std.proofs.lemmas.List.Sums.{prefix_len-le-length}
use Rattle.std.proofs.lemmas.List.Folds.{position_or_len_push}
use Rattle.std.proofs.lemmas.Bool.{eq-eqb, ne_eqb, ltb-true, lt-ltb, false_from_ne_true}
use Rattle.bar_window.specs.declared.update.UpdateId.{UpdateId}
use Rattle.bar_window.specs.declared.exchange.Exchange.{Exchange}
use Rattle.bar_window.specs.declared.exchange.Role.{Role}
use Rattle.bar_window.specs.Terms.{Terms}
use Rattle.bar_terms.specs.declared.items.Item.{Item}
use Rattle.bar_terms.specs.declared.items.Item.TheVariants.{Update, Junk}
use Rattle.bar_terms.specs.Table.{Table}
use Rattle.bar_terms.specs.Terms.{promise, promised_updates, promised_junk}
use Rattle.bar_case.specs.declared.findings.Finding.{Finding}
use Rattle.bar_case.specs.declared.findings.Finding.TheVariants.{Sound, Broken, Untold}
use Rattle.bar_case.specs.declared.findings.Opening.{Opening}
use Rattle.bar_case.specs.Keystream.{keystream, xor_bytes}
use Rattle.bar_case.specs.Items.{item_len, items_len, junk_key}
use Rattle.bar_case.specs.Opened.{item_finding, findings, is_broken, is_untold, opening_by, opening_of, next_opening, opened, block_after, blocks_after, opening, opened_blocks}
use Rattle.bar_case.proofs.Stream.{front_stream}
use Rattle.bar_case.proofs.Xor.{take_xor, drop_xor}

-- a part of the plaintext is the same part of the cipher XOR the same part of the keystream
pub part_is : (key cipher : List ℕ) (at n : ℕ) → at + n ≤ length cipher
    → xor_bytes (take n (drop at cipher)) (drop at (keystream key (at + n))) ≡ take n (drop at (opened key cipher))
part_is key cipher at n within =
    let stream = keystream key (length cipher) in
    let whole : at + n + (length cipher - (at + n)) ≡ length cipher = omega arith in
    let front : take (at + n) stream ≡ keystream key (at + n) = rw whole at (front_stream key (at + n) (length cipher - (at + n))) in
    let part : drop at (keystream key (at + n)) ≡ take n (drop at stream) = ap (drop at) (sym front) ∙ drop-take at n stream in
    ap (xor_bytes (take n (drop at cipher))) part ∙ sym (ap (take n) (drop_xor at cipher stream) ∙ take_xor n (drop at cipher) (drop at stream))

pub part_at : (key cipher : List ℕ) (at start end n : ℕ) → at ≡ start → end ≡ at + n → start + n ≤ length cipher
    → xor_bytes (take (end - at) (drop at cipher)) (drop at (keystream key (at + length (take (end - at) (drop at cipher))))) ≡ take n (drop start (opened key cipher))
part_at key cipher at start end n is ends within =
    let count : end - at ≡ n = omega arith in
    let long : length (take n (drop at cipher)) ≡ n = length-take-le n (drop at cipher) (omega (arith, length-drop at cipher)) in
    rw (count, long) (part_is key cipher at n (omega arith) ∙ ap (λ a. take n (drop a (opened key cipher))) is)

-- ---- findings

length_findings : (table : Table) (junk : List ℕ) (items : List Item) (bytes : List ℕ) → length (findings table junk items bytes) ≡ length items
length_findings table junk [] bytes = refl
length_findings table junk (item ∷ items) bytes = ap (λ n. suc n) (length_findings table junk items (drop (item_len item) bytes))

findings_push : (table : Table) (junk : List ℕ) (items : List Item) (item : Item) (bytes : List ℕ)
    → findings table junk (items ++ item ∷ []) bytes ≡ findings table junk items bytes ++ item_finding table junk item (take (item_len item) (drop (items_len items) bytes)) ∷ []
findings_push table junk [] item bytes = refl
findings_push table junk (x ∷ items) item bytes =
    let rest = findings_push table junk items item (drop (item_len x) bytes) in
    let place : drop (items_len items) (drop (item_len x) bytes) ≡ drop (item_len x + items_len items) bytes = drop-drop (items_len items) (item_len x) bytes in
    ap (λ (fs : List Finding). item_finding table junk x (take (item_len x) bytes) ∷ fs)
    (rest ∙ ap (λ (b : List ℕ). findings table junk items (drop (item_len x) bytes) ++ item_finding table junk item (take (item_len item) b) ∷ []) place)

-- the first place after one more element
abbrev next_place : Option ℕ → Bool → ℕ → Option ℕ
next_place (Some i) hit n = Some i
next_place None true n = Some n
next_place None false n = None

last_is : (m n : ℕ) → false ≡ nat_lt m n → m ≤ n → m ≡ n
last_is m n e le = eq_of (λ below. let t = lt-ltb m n below in cc)
  where
    eq_of : (m < n → ⊥) → m ≡ n
    eq_of none = omega (arith, none)

found_at : (q n : ℕ) → q < n → cond (nat_lt q n) (Some q) None ≡ Some q
found_at q n below = rw (lt-ltb q n below) refl

pub found_none : (q n : ℕ) → n ≤ q → cond (nat_lt q n) (Some q) None ≡ None
found_none q n above = let e : nat_lt q n ≡ false = false_from_ne_true (nat_lt q n) (λ t. let h = ltb-true q n t in absurd (omega arith)) in rw e refl

place_is : (m n q l : ℕ) (hit lt : Bool) → lt ≡ nat_lt m n → m ≤ n → q ≡ cond (eqb m n) (n + cond hit 0 1) m → l ≡ n + 1
    → cond (nat_lt q l) (Some q) None ≡ next_place (cond lt (Some m) None) hit n
place_is m n q l hit true e le is long =
    let below : m < n = ltb-true m n (sym e) in
    let same : q ≡ m = is ∙ rw (ne_eqb m n (omega arith)) refl in
    found_at q l (omega arith) ∙ ap (λ k. Some k) same
place_is m n q l true false e le is long =
    let last : m ≡ n = last_is m n e le in
    let same : q ≡ n = is ∙ (rw (eq-eqb m n last) (omega arith)) in
    found_at q l (omega arith) ∙ ap (λ k. Some k) same
place_is m n q l false false e le is long =
    let last : m ≡ n = last_is m n e le in
    let same : q ≡ n + 1 = is ∙ rw (eq-eqb m n last) refl in
    found_none q l (omega arith)

position_push : (p : Finding → Bool) (fs : List Finding) (f : Finding) → position p (fs ++ f ∷ []) ≡ next_place (position p fs) (p f) (length fs)
position_push p fs f = place_is (position_or_len p fs) (length fs) (position_or_len p (fs ++ f ∷ [])) (length (fs ++ f ∷ [])) (p f) (nat_lt (position_or_len p fs) (length fs)) refl (prefix_len-le-length (λ x. not (p x)) fs) (position_or_len_push p fs f) (length-append fs (f ∷ []))

next_is : (broken untold : Option ℕ) (f : Finding) (n : ℕ)
    → opening_by (next_place broken (is_broken f) n) (next_place untold (is_untold f) n) (n + 1) ≡ next_opening (opening_by broken untold n) f n
next_is (Some i) untold f n = refl
next_is None (Some i) Sound n = refl
next_is None (Some i) Broken n = refl
next_is None (Some i) Untold n = refl
next_is None None Sound n = refl
next_is None None Broken n = refl
next_is None None Untold n = refl

opening_push : (fs : List Finding) (f : Finding) → opening_of (fs ++ f ∷ []) ≡ next_opening (opening_of fs) f (length fs)
opening_push fs f =
    (λ i. opening_by (position_push is_broken fs f i) (position_push is_untold fs f i) (length-append fs (f ∷ []) i))
    ∙ next_is (position is_broken fs) (position is_untold fs) f (length fs)

-- the opening after one more item is opened
pub opening_more : (table : Table) (junk : List ℕ) (items : List Item) (k : ℕ) (d : Item) (plain : List ℕ) → k < length items
    → opening_of (findings table junk (take (k + 1) items) plain)
    ≡ next_opening (opening_of (findings table junk (take k items) plain)) (item_finding table junk (slice_index_or items k d) (take (item_len (slice_index_or items k d)) (drop (items_len (take k items)) plain))) k
opening_more table junk items k d plain below =
    let item = slice_index_or items k d in
    let fs = findings table junk (take k items) plain in
    let f = item_finding table junk item (take (item_len item) (drop (items_len (take k items)) plain)) in
    let count : length fs ≡ k = length_findings table junk (take k items) plain ∙ (length-take k items ∙ omega arith) in
    ap (λ (xs : List Item). opening_of (findings table junk xs plain)) (take_more items k d below)
    ∙ (ap opening_of (findings_push table junk (take k items) item plain) ∙ (opening_push fs f ∙ ap (next_opening (opening_of fs) f) count))

-- ---- blocks

blocks_push : (items : List Item) (item : Item) (bytes : List ℕ) (blocks : List (List ℕ)) (d : List ℕ) → length items < length blocks
    → blocks_after (items ++ item ∷ []) bytes blocks
    ≡ slice_set (blocks_after items bytes blocks) (length items) (block_after item (take (item_len item) (drop (items_len items) bytes)) (slice_index_or (blocks_after items bytes blocks) (length items) d))
blocks_push [] item bytes [] d below = absurd (omega arith)
blocks_push [] item bytes (b ∷ blocks) d below = refl
blocks_push (x ∷ items) item bytes [] d below = absurd (omega arith)
blocks_push (x ∷ items) item bytes (b ∷ blocks) d below =
    let n = item_len x in
    let done = blocks_after items (drop n bytes) blocks in
    let rest = blocks_push items item (drop n bytes) blocks d (omega arith) in
    let place : drop (items_len items) (drop n bytes) ≡ drop (n + items_len items) bytes = drop-drop (items_len items) n bytes in
    ap (λ (bs : List (List ℕ)). block_after x (take n bytes) b ∷ bs)
    (rest ∙ ap (λ (z : List ℕ). slice_set done (length items) (block_after item (take (item_len item) z) (slice_index_or done (length items) d))) place)

-- the blocks after one more item is opened
pub blocks_more : (items : List Item) (k : ℕ) (d : Item) (bytes : List ℕ) (blocks : List (List ℕ)) (e : List ℕ) → k < length items → k < length blocks
    → blocks_after (take (k + 1) items) bytes blocks
    ≡ slice_set (blocks_after (take k items) bytes blocks) k
    (block_after (slice_index_or items k d) (take (item_len (slice_index_or items k d)) (drop (items_len (take k items)) bytes)) (slice_index_or (blocks_after (take k items) bytes blocks) k e))
blocks_more items k d bytes blocks e below within =
    let item = slice_index_or items k d in
    let done = blocks_after (take k items) bytes blocks in
    let count : length (take k items) ≡ k = length-take k items ∙ omega arith in
    let piece = take (item_len item) (drop (items_len (take k items)) bytes) in
    ap (λ (xs : List Item). blocks_after xs bytes blocks) (take_more items k d below)
    ∙ (blocks_push (take k items) item bytes blocks e (omega (arith, count))
    ∙ ap (λ (n : ℕ). slice_set done n (block_after item piece (slice_index_or done n e))) count)

junk_stays : (ts bytes : List ℕ) (blocks : List (List ℕ)) → blocks_after (map Junk ts) bytes blocks ≡ blocks
junk_stays [] bytes blocks = refl
junk_stays (t ∷ ts) bytes [] = refl
junk_stays (t ∷ ts) bytes (b ∷ blocks) = ap (λ (bs : List (List ℕ)). b ∷ bs) (junk_stays ts (drop 1280 bytes) blocks)

-- the updates' blocks are at their places, and the others are unchanged
pub promise_blocks : (us : List UpdateId) (ts bytes : List ℕ) (blocks : List (List ℕ)) → length us ≤ length blocks
    → blocks_after (map Update us ++ map Junk ts) bytes blocks ≡ first_chunks 1024 (length us) bytes ++ drop (length us) blocks
promise_blocks [] ts bytes blocks le = junk_stays ts bytes blocks
promise_blocks (u ∷ us) ts bytes [] le = absurd (omega arith)
promise_blocks (u ∷ us) ts bytes (b ∷ blocks) le = ap (λ (bs : List (List ℕ)). take 1024 bytes ∷ bs) (promise_blocks us ts (drop 1024 bytes) blocks (omega arith))

-- ---- a briefcase

pub opening_is : (id : List ℕ) (x : Exchange) (cap : ℕ) (terms : Terms) (role : Role) (cipher key : List ℕ) (table : Table) (junk : List ℕ) (items : List Item) (o : Opening)
    → junk ≡ junk_key id x → items ≡ promise cap terms role → o ≡ opening_of (findings table junk items (opened key cipher)) → o ≡ opening id x cap terms role cipher key table
unfolding opening
opening_is id x cap terms role cipher key table junk items o j e is = is ∙ (λ i. opening_of (findings table (j i) (e i) (opened key cipher)))

pub blocks_are : (cap : ℕ) (terms : Terms) (role : Role) (cipher key : List ℕ) (items : List Item) (old new : List (List ℕ))
    → items ≡ promise cap terms role → new ≡ blocks_after items (opened key cipher) old → length (promised_updates cap terms role) ≤ length old
    → new ≡ opened_blocks cap terms role cipher key ++ drop (length (promised_updates cap terms role)) old
unfolding opened_blocks
blocks_are cap terms role cipher key items old new e is room =
    is
    ∙ (ap (λ (xs : List Item). blocks_after xs (opened key cipher) old) e
    ∙ promise_blocks (promised_updates cap terms role) (range_with_len 0 (promised_junk terms role)) (opened key cipher) old room)
