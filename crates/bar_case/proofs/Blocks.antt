-- Which blocks a briefcase is sealed from.
use Rattle.std.proofs.Common.{◌≡◌, ℕ, List, [], ◌∷◌, ◌++◌, length, map, All, refl, ap}
use Rattle.std.specs.Prelude.{Option, IsSome, unwrap_or}
use Rattle.std.specs.List.{AllByRecursion, range_with_len}
use Rattle.std.proofs.lemmas.List.Elements.{All-nil, All-cons, All-head, All-tail}
use Rattle.bar_window.specs.declared.update.UpdateId.{UpdateId}
use Rattle.bar_window.specs.declared.exchange.Role.{Role}
use Rattle.bar_window.specs.declared.exchange.Exchange.{Exchange}
use Rattle.bar_window.specs.Terms.{Terms}
use Rattle.bar_terms.specs.declared.items.Item.TheVariants.{Update, Junk}
use Rattle.bar_terms.specs.Terms.{promise, promised_updates, promised_junk}
use Rattle.bar_case.specs.Keystream.{keystream, xor_bytes}
use Rattle.bar_case.specs.Items.{item_bytes, plaintext, junk_key}
use Rattle.bar_case.specs.Sealed.{IsHeldItem, sealed}

plain_same : (junk : List ℕ) (b c : UpdateId → Option (List ℕ)) (us : List UpdateId) (ts : List ℕ) → AllByRecursion (λ u. b u ≡ c u) us
    → plaintext junk b (map Update us ++ map Junk ts) ≡ plaintext junk c (map Update us ++ map Junk ts)
plain_same junk b c [] ts h = junk_same ts
  where
    junk_same : (ts : List ℕ) → plaintext junk b (map Junk ts) ≡ plaintext junk c (map Junk ts)
    junk_same [] = refl
    junk_same (t ∷ ts) = ap (λ z. item_bytes junk b (Junk t) ++ z) (junk_same ts)
plain_same junk b c (u ∷ us) ts h = λ i. unwrap_or (h.0 i) [] ++ plain_same junk b c us ts h.1 i

-- sealing depends on the blocks of the promised updates alone
pub sealed_same : (id : List ℕ) (x : Exchange) (cap : ℕ) (t : Terms) (role : Role) (key : List ℕ) (b c : UpdateId → Option (List ℕ))
    → AllByRecursion (λ u. b u ≡ c u) (promised_updates cap t role) → sealed id x cap t role key b ≡ sealed id x cap t role key c
unfolding sealed
sealed_same id x cap t role key b c h =
    ap (λ plain. xor_bytes plain (keystream key (length plain)))
    (plain_same (junk_key id x) b c (promised_updates cap t role) (range_with_len 0 (promised_junk t role)) h)

held_before : (blocks : UpdateId → Option (List ℕ)) (us : List UpdateId) (ts : List ℕ) → All (IsHeldItem blocks) (map Update us ++ map Junk ts)
    → All (λ u. IsSome (blocks u)) us
held_before blocks [] ts h = All-nil (λ u. IsSome (blocks u))
held_before blocks (u ∷ us) ts h =
    All-cons (λ u. IsSome (blocks u)) u us (All-head (IsHeldItem blocks) (Update u) (map Update us ++ map Junk ts) h)
    (held_before blocks us ts (All-tail (IsHeldItem blocks) (Update u) (map Update us ++ map Junk ts) h))

-- the updates of a promise are held if its items are
pub updates_held : (blocks : UpdateId → Option (List ℕ)) (cap : ℕ) (t : Terms) (role : Role) → All (IsHeldItem blocks) (promise cap t role)
    → All (λ u. IsSome (blocks u)) (promised_updates cap t role)
updates_held blocks cap t role h = held_before blocks (promised_updates cap t role) (range_with_len 0 (promised_junk t role)) h
