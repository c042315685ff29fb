-- Items that are sealed one after another, and those of a promise.
use Rattle.std.proofs.Common.{◌≡◌, ℕ, ◌+◌, ◌-◌, ◌*◌, ◌%◌, ◌<◌, ◌≤◌, true, List, [], ◌∷◌, ◌++◌, length, take, drop, map, All, refl, sym, ap, ◌∙◌, arith}
use Rattle.std.specs.Prelude.{Option, IsSome, slice_index_or}
use Rattle.std.specs.List.{range_with_len}
use Rattle.std.proofs.lemmas.List.{append-nil, take_more, take-append-drop, drop-drop}
use Rattle.std.proofs.lemmas.List.FromFn.{length-range_with_len}
use Rattle.std.proofs.lemmas.List.Elements.{All-map, All-append}
use Rattle.std.proofs.lemmas.Grind.{flat_map-append}
use Rattle.bar_window.specs.declared.update.UpdateId.{UpdateId}
use Rattle.bar_window.specs.declared.exchange.Role.{Role}
use Rattle.bar_window.specs.declared.exchange.Role.TheVariants.{Initiator, Responder}
use Rattle.bar_window.specs.declared.exchange.Exchange.{Exchange}
use Rattle.bar_window.specs.Terms.{Terms}
use Rattle.bar_terms.specs.declared.items.Item.{Item}
use Rattle.bar_terms.specs.declared.items.Item.TheVariants.{Update, Junk}
use Rattle.bar_terms.specs.Terms.{promise, promised_updates, promised_junk, can_promise}
use Rattle.bar_terms.proofs.Equal.{length_promise, promises_equal, promises_few}
use Rattle.bar_case.specs.Keystream.{keystream, xor_bytes}
use Rattle.bar_case.specs.Items.{item_len, items_len, item_bytes, plaintext, promised_len, junk_key}
use Rattle.bar_case.specs.Sealed.{IsHeldItem, sealed}
use Rattle.bar_case.proofs.Stream.{length_keystream, front_stream}
use Rattle.bar_case.proofs.Xor.{xor_append}

-- ---- lengths

item_whole : (item : Item) → item_len item % 4 ≡ 0
item_whole (Update u) = refl
item_whole (Junk t) = refl

-- each item begins at a word
pub items_whole : (items : List Item) → items_len items % 4 ≡ 0
items_whole [] = refl
items_whole (item ∷ items) = omega (arith, item_whole item, items_whole items)

item_short : (item : Item) → item_len item ≤ 1280
item_short (Update u) = omega arith
item_short (Junk t) = omega arith

pub items_short : (items : List Item) → items_len items ≤ 1280 * length items
items_short [] = omega arith
items_short (item ∷ items) = omega (arith, item_short item, items_short items)

items_append : (xs ys : List Item) → items_len (xs ++ ys) ≡ items_len xs + items_len ys
items_append [] ys = omega arith
items_append (x ∷ xs) ys = omega (arith, items_append xs ys)

pub items_more : (items : List Item) (k : ℕ) (d : Item) → k < length items → items_len (take (k + 1) items) ≡ items_len (take k items) + item_len (slice_index_or items k d)
items_more items k d below =
    ap items_len (take_more items k d below) ∙ (items_append (take k items) (slice_index_or items k d ∷ []) ∙ omega arith)

-- If all items have room, one more item has room.
pub items_room : (items : List Item) (k : ℕ) (d : Item) → k < length items → items_len (take k items) + item_len (slice_index_or items k d) ≤ items_len items
items_room items k d below =
    let both : items_len items ≡ items_len (take (k + 1) items) + items_len (drop (k + 1) items) =
    ap items_len (sym (take-append-drop (k + 1) items)) ∙ items_append (take (k + 1) items) (drop (k + 1) items)
    in
    omega (arith, items_more items k d below)

-- ---- one more item

pub plain_more : (junk : List ℕ) (blocks : UpdateId → Option (List ℕ)) (items : List Item) (k : ℕ) (d : Item) → k < length items
    → plaintext junk blocks (take (k + 1) items) ≡ plaintext junk blocks (take k items) ++ item_bytes junk blocks (slice_index_or items k d)
plain_more junk blocks items k d below =
    let item = slice_index_or items k d in
    ap (plaintext junk blocks) (take_more items k d below)
    ∙ (flat_map-append (item_bytes junk blocks) (take k items) (item ∷ []) ∙ ap (λ (x : List ℕ). plaintext junk blocks (take k items) ++ x) (append-nil (item_bytes junk blocks item)))

-- the cipher of an item follows that of the bytes before it
pub sealed_more : (key plain bytes front : List ℕ) (at end : ℕ) → length plain ≡ at → front ≡ xor_bytes plain (keystream key at) → end ≡ at + length bytes
    → front ++ xor_bytes bytes (drop at (keystream key end)) ≡ xor_bytes (plain ++ bytes) (keystream key end)
sealed_more key plain bytes front at end long is after =
    let before : take at (keystream key end) ≡ keystream key at = rw after (front_stream key at (length bytes)) in
    let whole : keystream key at ++ drop at (keystream key end) ≡ keystream key end =
    ap (λ (x : List ℕ). x ++ drop at (keystream key end)) (sym before) ∙ take-append-drop at (keystream key end)
    in
    let joined = xor_append plain bytes (keystream key at) (drop at (keystream key end)) (omega (arith, length_keystream key at, long)) in
    ap (λ (x : List ℕ). x ++ xor_bytes bytes (drop at (keystream key end))) is ∙ (sym joined ∙ ap (xor_bytes (plain ++ bytes)) whole)

pub drop_later : (a b : ℕ) (xs ys : List ℕ) → a ≤ b → drop a xs ≡ drop a ys → drop b xs ≡ drop b ys
drop_later a b xs ys le same =
    let whole : a + (b - a) ≡ b = omega arith in
    rw whole at (sym (drop-drop (b - a) a xs) ∙ (ap (drop (b - a)) same ∙ drop-drop (b - a) a ys))

-- ---- the items of a promise

pub promise_few : (cap : ℕ) (terms : Terms) (role : Role) → can_promise cap terms ≡ true → length (promise cap terms role) ≤ cap
promise_few cap terms Initiator ok = promises_few cap terms ok
promise_few cap terms Responder ok = omega (arith, promises_few cap terms ok, promises_equal cap terms ok)

pub updates_few : (cap : ℕ) (terms : Terms) (role : Role) → can_promise cap terms ≡ true → length (promised_updates cap terms role) ≤ cap
updates_few cap terms role ok = omega (arith, promise_few cap terms role ok, length_promise cap terms role)

updates_len : (us : List UpdateId) → items_len (map Update us) ≡ 1024 * length us
updates_len [] = refl
updates_len (u ∷ us) = omega (arith, updates_len us)

junk_len : (ts : List ℕ) → items_len (map Junk ts) ≡ 1280 * length ts
junk_len [] = refl
junk_len (t ∷ ts) = omega (arith, junk_len ts)

pub promise_len : (cap : ℕ) (terms : Terms) (role : Role) → items_len (promise cap terms role) ≡ promised_len cap terms role
promise_len cap terms role =
    let z = promised_junk terms role in
    items_append (map Update (promised_updates cap terms role)) (map Junk (range_with_len 0 z))
    ∙ omega (arith, updates_len (promised_updates cap terms role), junk_len (range_with_len 0 z), length-range_with_len 0 z)

held_junk : (blocks : UpdateId → Option (List ℕ)) (ts : List ℕ) → All (IsHeldItem blocks) (map Junk ts)
held_junk blocks ts = All-map (IsHeldItem blocks) Junk ts (λ k d below. tt)

-- the items of a promise are held if its updates are
pub promise_held : (blocks : UpdateId → Option (List ℕ)) (cap : ℕ) (terms : Terms) (role : Role)
    → All (λ u. IsSome (blocks u)) (promised_updates cap terms role) → All (IsHeldItem blocks) (promise cap terms role)
promise_held blocks cap terms role held =
    All-append (IsHeldItem blocks) (map Update (promised_updates cap terms role)) (map Junk (range_with_len 0 (promised_junk terms role)))
    (All-map (IsHeldItem blocks) Update (promised_updates cap terms role) held) (held_junk blocks (range_with_len 0 (promised_junk terms role)))

-- the cipher of the items of a promise is the sealed one
pub sealed_is : (id : List ℕ) (x : Exchange) (cap : ℕ) (terms : Terms) (role : Role) (key : List ℕ) (blocks : UpdateId → Option (List ℕ)) (junk : List ℕ) (items : List Item) (out : List ℕ) (n : ℕ)
    → junk ≡ junk_key id x → items ≡ promise cap terms role → length (plaintext junk blocks items) ≡ n → out ≡ xor_bytes (plaintext junk blocks items) (keystream key n)
    → out ≡ sealed id x cap terms role key blocks
unfolding sealed
sealed_is id x cap terms role key blocks junk items out n j e long is =
    is
    ∙ (ap (λ m. xor_bytes (plaintext junk blocks items) (keystream key m)) (sym long)
    ∙ (λ i. xor_bytes (plaintext (j i) blocks (e i)) (keystream key (length (plaintext (j i) blocks (e i))))))
