-- A sealed briefcase opens to its plaintext with its own key, so no item of it is broken.
use Rattle.std.proofs.Common.{◌≡◌, ℕ, ◌+◌, ◌*◌, false, List, [], ◌∷◌, ◌++◌, length, take, drop, map, refl, sym, ap, ◌∙◌, subst, inl, inr, arith, length-append, length-drop}
use Rattle.std.specs.Prelude.{Option, Some, None, ◌⊎◌, unwrap_or, position}
use Rattle.std.specs.List.{AllByRecursion, range_with_len, position_or_len}
use Rattle.std.proofs.Math.Seq.{take-append_seam, drop-append_seam}
use Rattle.sha2.specs.Sha256.{sha256}
use Rattle.bar_window.specs.declared.update.UpdateId.{UpdateId}
use Rattle.bar_window.specs.declared.exchange.Exchange.{Exchange}
use Rattle.bar_window.specs.declared.exchange.Role.{Role}
use Rattle.bar_window.specs.Terms.{Terms}
use Rattle.bar_terms.specs.declared.items.Item.{Item}
use Rattle.bar_terms.specs.declared.items.Item.TheVariants.{Update, Junk}
use Rattle.bar_terms.specs.Table.{Table, Known, NoManifest, digest_of}
use Rattle.bar_terms.specs.Terms.{promise, promised_updates, promised_junk}
use Rattle.bar_case.specs.declared.findings.Finding.{Finding}
use Rattle.bar_case.specs.Keystream.{keystream, xor_bytes}
use Rattle.bar_case.specs.Items.{item_len, items_len, item_bytes, plaintext, junk_key, junk_item, promised_len}
use Rattle.bar_case.specs.Sealed.{sealed, MatchesTable}
use Rattle.bar_case.specs.Opened.{digest_finding, item_finding, findings, is_broken, is_untold, opening_by, opening_of, opened, opening, is_bad, sound_if}
use Rattle.bar_case.proofs.Stream.{length_keystream}
use Rattle.bar_case.proofs.Xor.{xor_twice, length_xor}
use Rattle.bar_case.proofs.Laid.{promise_len}
use Rattle.bar_case.proofs.Opens.{found_none}
use Rattle.bar_bytes.proofs.Tests.{bytes_eq-refl}

-- If an item is an update, it is held and matches the table.
abbrev IsToldItem : Table → (UpdateId → Option (List ℕ)) → Item → Type 0
IsToldItem table blocks (Update u) = MatchesTable table blocks u
IsToldItem table blocks (Junk t) = Unit {0}

told_len : (table : Table) (blocks : UpdateId → Option (List ℕ)) (junk : List ℕ) (item : Item) → IsToldItem table blocks item → length (item_bytes junk blocks item) ≡ item_len item
told_len table blocks junk (Update u) h = ap (λ (b : Option (List ℕ)). length (unwrap_or b [])) h.held ∙ h.whole
told_len table blocks junk (Junk t) h = length-drop (1280 * t) (keystream junk (1280 * t + 1280)) ∙ omega (arith, length_keystream junk (1280 * t + 1280))

told_finding : (table : Table) (blocks : UpdateId → Option (List ℕ)) (junk : List ℕ) (item : Item) → IsToldItem table blocks item
    → is_broken (item_finding table junk item (item_bytes junk blocks item)) ≡ false
told_finding table blocks junk (Junk t) h = ap (λ b. is_broken (sound_if b)) (bytes_eq-refl (junk_item junk t))
told_finding table blocks junk (Update u) h = go h.told
  where
    bytes : unwrap_or (blocks u) [] ≡ h.block
    bytes = ap (λ (b : Option (List ℕ)). unwrap_or b []) h.held

    go : (digest_of table u ≡ NoManifest) ⊎ (digest_of table u ≡ Known (sha256 h.block)) → is_broken (digest_finding (digest_of table u) (unwrap_or (blocks u) [])) ≡ false
    go (inl e) = ap (λ d. is_broken (digest_finding d (unwrap_or (blocks u) []))) e
    go (inr e) = ap (λ d. is_broken (digest_finding d (unwrap_or (blocks u) []))) e ∙ rw bytes (ap (λ b. is_broken (sound_if b)) (bytes_eq-refl (sha256 h.block)))

-- no finding is broken
told_findings : (table : Table) (blocks : UpdateId → Option (List ℕ)) (junk : List ℕ) (items : List Item) → AllByRecursion (IsToldItem table blocks) items
    → AllByRecursion (λ f. is_broken f ≡ false) (findings table junk items (plaintext junk blocks items))
told_findings table blocks junk [] h = tt
told_findings table blocks junk (item ∷ items) h =
    let here : List ℕ = item_bytes junk blocks item in
    let rest : List ℕ = plaintext junk blocks items in
    let n : length here ≡ item_len item = told_len table blocks junk item h.0 in
    let first : take (item_len item) (here ++ rest) ≡ here = subst (λ k. take k (here ++ rest) ≡ here) n (take-append_seam here rest) in
    let last : drop (item_len item) (here ++ rest) ≡ rest = subst (λ k. drop k (here ++ rest) ≡ rest) n (drop-append_seam here rest) in
    (rw first (told_finding table blocks junk item h.0), rw last (told_findings table blocks junk items h.1))

all_before : (fs : List Finding) → AllByRecursion (λ f. is_broken f ≡ false) fs → position_or_len is_broken fs ≡ length fs
all_before [] h = refl
all_before (f ∷ fs) h = rw h.0 (omega (arith, all_before fs h.1))

none_broken : (fs : List Finding) → AllByRecursion (λ f. is_broken f ≡ false) fs → position is_broken fs ≡ None
none_broken fs h = found_none (position_or_len is_broken fs) (length fs) (omega (arith, all_before fs h))

by_not_bad : (untold : Option ℕ) (n : ℕ) → is_bad (opening_by None untold n) ≡ false
by_not_bad (Some i) n = refl
by_not_bad None n = refl

told_items : (table : Table) (blocks : UpdateId → Option (List ℕ)) (us : List UpdateId) (ts : List ℕ) → AllByRecursion (MatchesTable table blocks) us
    → AllByRecursion (IsToldItem table blocks) (map Update us ++ map Junk ts)
told_items table blocks [] [] h = tt
told_items table blocks [] (t ∷ ts) h = (tt, told_items table blocks [] ts h)
told_items table blocks (u ∷ us) ts h = (h.0, told_items table blocks us ts h.1)

told_plain : (table : Table) (blocks : UpdateId → Option (List ℕ)) (junk : List ℕ) (items : List Item) → AllByRecursion (IsToldItem table blocks) items
    → length (plaintext junk blocks items) ≡ items_len items
told_plain table blocks junk [] h = refl
told_plain table blocks junk (item ∷ items) h =
    length-append (item_bytes junk blocks item) (plaintext junk blocks items) ∙ omega (arith, told_len table blocks junk item h.0, told_plain table blocks junk items h.1)

length_sealed_bytes : (key plain : List ℕ) → length (xor_bytes plain (keystream key (length plain))) ≡ length plain
length_sealed_bytes key plain = length_xor plain (keystream key (length plain)) (sym (length_keystream key (length plain)))

-- opening a cipher with its own key gives what was sealed
back : (key plain : List ℕ) → opened key (xor_bytes plain (keystream key (length plain))) ≡ plain
back key plain = rw (length_sealed_bytes key plain) (xor_twice plain (keystream key (length plain)) (sym (length_keystream key (length plain))))

pub own_key : (id : List ℕ) (x : Exchange) (cap : ℕ) (terms : Terms) (role : Role) (key : List ℕ) (table : Table) (blocks : UpdateId → Option (List ℕ))
    → AllByRecursion (MatchesTable table blocks) (promised_updates cap terms role) → is_bad (opening id x cap terms role (sealed id x cap terms role key blocks) key table) ≡ false
unfolding sealed opening
own_key id x cap terms role key table blocks told =
    let items = promise cap terms role in
    let junk = junk_key id x in
    let plain = plaintext junk blocks items in
    let all = told_items table blocks (promised_updates cap terms role) (range_with_len 0 (promised_junk terms role)) told in
    let fs = findings table junk items plain in
    let none : position is_broken fs ≡ None = none_broken fs (told_findings table blocks junk items all) in
    ap (λ (b : List ℕ). is_bad (opening_of (findings table junk items b))) (back key plain)
    ∙ (ap (λ p. is_bad (opening_by p (position is_untold fs) (length fs))) none ∙ by_not_bad (position is_untold fs) (length fs))

pub length_sealed : (id : List ℕ) (x : Exchange) (cap : ℕ) (terms : Terms) (role : Role) (key : List ℕ) (table : Table) (blocks : UpdateId → Option (List ℕ))
    → AllByRecursion (MatchesTable table blocks) (promised_updates cap terms role) → length (sealed id x cap terms role key blocks) ≡ promised_len cap terms role
unfolding sealed
length_sealed id x cap terms role key table blocks told =
    let all = told_items table blocks (promised_updates cap terms role) (range_with_len 0 (promised_junk terms role)) told in
    length_sealed_bytes key (plaintext (junk_key id x) blocks (promise cap terms role))
    ∙ (told_plain table blocks (junk_key id x) (promise cap terms role) all ∙ promise_len cap terms role)
