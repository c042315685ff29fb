-- A fan-out has as many peers as the session says: in a strict order, exactly k elements of a list have fewer than k others before them.
use Rattle.bar_rules.specs.Broadcaster.Stream.{peers_of, rank_of}
use Rattle.bar_rules.specs.Member.{Member}
use Rattle.bar_window.specs.declared.update.UpdateId.{UpdateId}
use Rattle.bar_laws.specs.Broadcasting.{FanoutsAreWhole}
use Rattle.bar_laws.proofs.Logs.{all-of, filter-same}
use Rattle.std.proofs.Common.{Ordering, Less, Equal, Greater, ◌≡◌, ◌⊎◌, ℕ, zero, suc, ◌+◌, ◌-◌, ◌<◌, ◌≤◌, Bool, true, false, List, [], ◌∷◌, length, refl, sym, ap, ◌∙◌, subst, cond, inl, inr, arith}
use Rattle.std.specs.Prelude.{Contains, filter, nat_lt}
use Rattle.std.specs.List.{AllByRecursion, range_with_len}
use Rattle.std.specs.Cmp.{IsTotalOrder}
use Rattle.std.specs.Cmp.Lexicographic.{slice_cmp}
use Rattle.std.specs.Ordering.{is_lt, nat_cmp, ordering_reverse, ordering_then, on, then_cmp}
use Rattle.std.proofs.lemmas.Bool.{cases_lt, le-ltb, lt-ltb}
use Rattle.std.proofs.lemmas.Cmp.{nat_cmp_total, nat_list_cmp_total, on_total, ranked, then_total, tied_itself}
use Rattle.std.proofs.lemmas.List.Sums.{count_by-le-length, length-filter}
use Rattle.std.proofs.lemmas.List.FromFn.{get_or-range_with_len, length-range_with_len}

-- ---- what a filter keeps

abbrev bit : Bool → ℕ
bit true = 1
bit false = 0

one-more : {X : Type 0} (f : X → Bool) (x : X) (xs : List X) → length (filter f (x ∷ xs)) ≡ bit (f x) + length (filter f xs)
one-more f x xs = go (f x)
  where
    go : (b : Bool) → length (cond b (x ∷ filter f xs) (filter f xs)) ≡ bit b + length (filter f xs)
    go true = omega arith
    go false = omega arith

at-most : (b c : Bool) → (b ≡ true → c ≡ true) → bit b ≤ bit c
at-most true c h = rw (h refl) (omega arith)
at-most false c h = omega arith

-- the weaker test keeps at least as many
pub weaker-keeps :
    {X : Type 0} (f g : X → Bool) (xs : List X) → ((x : X) → f x ≡ true → g x ≡ true) → length (filter f xs) ≤ length (filter g xs)
weaker-keeps f g [] h = omega arith
weaker-keeps f g (x ∷ xs) h = omega (arith, one-more f x xs, one-more g x xs, weaker-keeps f g xs h, at-most (f x) (g x) (h x))

-- it keeps more if only it passes one of them
weaker-keeps-more :
    {X : Type 0} (f g : X → Bool) (xs : List X) (y : X)
    → ((x : X) → f x ≡ true → g x ≡ true) → Contains xs y → f y ≡ false → g y ≡ true → length (filter f xs) < length (filter g xs)
weaker-keeps-more f g [] y h c out kept = absurd (omega (arith, c.1))
weaker-keeps-more f g (x ∷ xs) y h (zero, low, is) out kept =
    let none : bit (f x) ≡ 0 = ap (λ z. bit (f z)) is ∙ ap bit out in
    let one : bit (g x) ≡ 1 = ap (λ z. bit (g z)) is ∙ ap bit kept in
    omega (arith, one-more f x xs, one-more g x xs, weaker-keeps f g xs h, none, one)
weaker-keeps-more f g (x ∷ xs) y h (suc k, low, is) out kept =
    let rest : length (filter f xs) < length (filter g xs) = weaker-keeps-more f g xs y h (k, omega (arith, low), is) out kept in
    omega (arith, one-more f x xs, one-more g x xs, rest, at-most (f x) (g x) (h x))

-- ---- in an order

-- no element occurs twice
abbrev Apart : List ℕ → Type 0
Apart [] = Unit {0}
Apart (x ∷ xs) = (Contains xs x → ⊥) × Apart xs

less-is : (r : Ordering) → is_lt r ≡ true → r ≡ Less
less-is Less e = refl
less-is Equal e = cc
less-is Greater e = cc

-- how many elements precede one of them
abbrev count : (ℕ → ℕ → Ordering) → List ℕ → ℕ → ℕ
count order xs p = length (filter (λ q. is_lt (order q p)) xs)

-- the elements that have fewer than k before them
abbrev firsts : (ℕ → ℕ → Ordering) → List ℕ → ℕ → List ℕ
firsts order xs k = filter (λ p. nat_lt (count order xs p) k) xs

module _ (order : ℕ → ℕ → Ordering) (total : IsTotalOrder order) (tied : (x y : ℕ) → order x y ≡ Equal → x ≡ y) where
  -- what precedes p precedes each x that p precedes
  before-before : (x p : ℕ) → order p x ≡ Less → (q : ℕ) → is_lt (order q p) ≡ true → is_lt (order q x) ≡ true
  before-before x p e q h = ap is_lt (total.trans q p x (less-is (order q p) h) e)

  turned : (x p : ℕ) (r : Ordering) → order p x ≡ r → order x p ≡ ordering_reverse r
  turned x p r e = total.antisymm x p ∙ ap ordering_reverse e

  itself-not : (x : ℕ) → is_lt (order x x) ≡ false
  itself-not x = ap is_lt (tied_itself total x)

  -- one more element, before p or after it
  counts-behind :
      (x p : ℕ) (xs : List ℕ) → order p x ≡ Less
      → (count order (x ∷ xs) p ≡ count order xs p) × (Contains xs p → count order xs p < count order xs x)
  counts-behind x p xs e =
      let none : bit (is_lt (order x p)) ≡ 0 = ap (λ r. bit (is_lt r)) (turned x p Less e) in (
        omega (arith, one-more (λ q. is_lt (order q p)) x xs, none),
        λ c. weaker-keeps-more (λ q. is_lt (order q p)) (λ q. is_lt (order q x)) xs p (before-before x p e) c (itself-not p) (ap is_lt e),
      )

  counts-before :
      (x p : ℕ) (xs : List ℕ) → order x p ≡ Less
      → (count order (x ∷ xs) p ≡ count order xs p + 1) × (count order xs x ≤ count order xs p)
  counts-before x p xs e =
      let one : bit (is_lt (order x p)) ≡ 1 = ap (λ r. bit (is_lt r)) e in (
        omega (arith, one-more (λ q. is_lt (order q p)) x xs, one),
        weaker-keeps (λ q. is_lt (order q x)) (λ q. is_lt (order q p)) xs (before-before p x e),
      )

  counts-itself : (x : ℕ) (xs : List ℕ) → count order (x ∷ xs) x ≡ count order xs x
  counts-itself x xs =
      let none : bit (is_lt (order x x)) ≡ 0 = ap bit (itself-not x) in
      omega (arith, one-more (λ q. is_lt (order q x)) x xs, none)

  -- two elements that are apart
  by-order : (P : Type 0) (x p : ℕ) → (x ≡ p → ⊥) → (order p x ≡ Less → P) → (order x p ≡ Less → P) → P
  by-order P x p n f g = go (order p x) refl
    where
      go : (r : Ordering) → order p x ≡ r → P
      go Less e = f e
      go Equal e = absurd (n (sym (tied p x e)))
      go Greater e = g (turned x p Greater e)

  apart-from : (x p : ℕ) (xs : List ℕ) → (Contains xs x → ⊥) → Contains xs p → x ≡ p → ⊥
  apart-from x p xs n c e = n (subst (λ z. Contains xs z) (sym e) c)

  -- if x itself is one of the first k, k - 1 of the others are too
  with-it :
      (x : ℕ) (xs : List ℕ) (k : ℕ) → (Contains xs x → ⊥) → count order xs x < k
      → AllByRecursion (λ p. nat_lt (count order (x ∷ xs) p) k ≡ nat_lt (count order xs p) (k - 1)) xs
  with-it x xs k n low = all-of _ xs (λ p c. by-order _ x p (apart-from x p xs n c)
      (λ e.
      let h = counts-behind x p xs e in
      let less : count order xs p < count order xs x = h.1 c in
      lt-ltb _ _ (omega (arith, h.0, less, low)) ∙ sym (lt-ltb _ _ (omega (arith, less, low))))
      (λ e. let h = counts-before x p xs e in same p h.0 (cases_lt (count order xs p) (k - 1))))
    where
      same :
          (p : ℕ) → count order (x ∷ xs) p ≡ count order xs p + 1 → (count order xs p < k - 1) ⊎ (k - 1 ≤ count order xs p)
          → nat_lt (count order (x ∷ xs) p) k ≡ nat_lt (count order xs p) (k - 1)
      same p e (inl h) = lt-ltb _ _ (omega (arith, e, h)) ∙ sym (lt-ltb _ _ h)
      same p e (inr h) = le-ltb _ _ (omega (arith, e, h)) ∙ sym (le-ltb _ _ h)

  -- if it isn't, all of the first k are among the others
  without-it :
      (x : ℕ) (xs : List ℕ) (k : ℕ) → (Contains xs x → ⊥) → k ≤ count order xs x
      → AllByRecursion (λ p. nat_lt (count order (x ∷ xs) p) k ≡ nat_lt (count order xs p) k) xs
  without-it x xs k n high = all-of _ xs (λ p c. by-order _ x p (apart-from x p xs n c)
      (λ e. ap (λ z. nat_lt z k) (counts-behind x p xs e).0)
      (λ e.
      let h = counts-before x p xs e in
      le-ltb _ _ (omega (arith, h.0, h.1, high)) ∙ sym (le-ltb _ _ (omega (arith, h.1, high)))))

  firsts-are-many : (xs : List ℕ) (k : ℕ) → Apart xs → k ≤ length xs → length (firsts order xs k) ≡ k
  firsts-are-many [] k apart low = omega (arith, low)
  firsts-are-many (x ∷ xs) k apart low = go (cases_lt (count order xs x) k) (λ j h. firsts-are-many xs j apart.1 h)
    where
      first : ℕ → Bool
      first p = nat_lt (count order (x ∷ xs) p) k

      go :
          (count order xs x < k) ⊎ (k ≤ count order xs x) → ((j : ℕ) → j ≤ length xs → length (firsts order xs j) ≡ j)
          → length (firsts order (x ∷ xs) k) ≡ k
      go (inl h) of-others =
          let others : filter first xs ≡ firsts order xs (k - 1) = filter-same first _ xs (with-it x xs k apart.0 h) in
          let many : length (firsts order xs (k - 1)) ≡ k - 1 = of-others (k - 1) (omega (arith, low)) in
          let one : bit (first x) ≡ 1 = ap bit (lt-ltb (count order (x ∷ xs) x) k (omega (arith, counts-itself x xs, h))) in
          omega (arith, one-more first x xs, ap length others, many, one, h)
      go (inr h) of-others =
          let others : filter first xs ≡ firsts order xs k = filter-same first _ xs (without-it x xs k apart.0 h) in
          let before : ℕ → Bool = λ q. is_lt (order q x) in
          let few : k ≤ length xs = omega (arith, h, length-filter before xs, count_by-le-length before xs) in
          let many : length (firsts order xs k) ≡ k = of-others k few in
          let none : bit (first x) ≡ 0 = ap bit (le-ltb (count order (x ∷ xs) x) k (omega (arith, counts-itself x xs, h))) in
          omega (arith, one-more first x xs, ap length others, many, none)

-- ---- of the peers

run-apart : (a n : ℕ) → Apart (range_with_len a n)
run-apart a zero = tt
run-apart a (suc n) = (
  λ c.
      let within : c.0 < n = omega (arith, c.1, length-range_with_len (a + 1) n) in
      absurd (omega (arith, get_or-range_with_len (a + 1) n c.0 a within, c.2)),
  run-apart (a + 1) n,
)

ranks-tied :
    (me : Member) (u : UpdateId) (x y : ℕ)
    → ordering_then (slice_cmp nat_cmp (rank_of me u x) (rank_of me u y)) (nat_cmp x y) ≡ Equal → x ≡ y
ranks-tied me u x y = go (slice_cmp nat_cmp (rank_of me u x) (rank_of me u y))
  where
    even : (r : Ordering) → r ≡ nat_cmp x y → r ≡ Equal → x ≡ y
    even Less e f = cc
    even Equal e f = ranked x y Equal e
    even Greater e f = cc

    go : (r : Ordering) → ordering_then r (nat_cmp x y) ≡ Equal → x ≡ y
    go Less e = cc
    go Equal e = even (nat_cmp x y) refl e
    go Greater e = cc

-- the order of peers
abbrev ranking : Member → UpdateId → ℕ → ℕ → Ordering
ranking me u = then_cmp (on (rank_of me u) (slice_cmp nat_cmp)) nat_cmp

pub fanouts-whole : FanoutsAreWhole
fanouts-whole me u low =
    let total : IsTotalOrder (ranking me u) = then_total (on_total (rank_of me u) nat_list_cmp_total) nat_cmp_total in
    let few : me.session.fanout ≤ length (peers_of me.session) = omega (arith, low, length-range_with_len 1 me.session.shape.peers) in
    firsts-are-many (ranking me u) total (ranks-tied me u) (peers_of me.session) me.session.fanout (run-apart 1 me.session.shape.peers) few
