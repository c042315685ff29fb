-- Signatures of a key are accepted under its public key.
use Rattle.std.proofs.Common.{◌≡◌, ℕ, zero, suc, ◌+◌, ◌-◌, ◌*◌, ◌/◌, ◌%◌, ◌^◌, ◌≤◌, ◌<◌, ◌++◌, length, take, drop, List, [], ◌∷◌, refl, arith, ap, sym, ◌∙◌, inl, inr, add-one, slice_index, length-append, pow_pos}
use Rattle.std.proofs.lemmas.List.{append_assoc, append-nil, take_at, drop_at}
use Rattle.std.proofs.lemmas.Nat.{from_be_bytes-to_be_bytes_4, div-mul-add}
use Rattle.std.proofs.lemmas.Bool.{cases_lt}
use Rattle.std.specs.Int.{w32, to_be_bytes, from_be_bytes}
use Rattle.sha2.specs.Sha256.{sha256, digest_bytes, final_hash, initial_hash_256}
use Rattle.bar_lms.specs.declared.params.Ots.{Ots}
use Rattle.bar_lms.specs.declared.params.Height.{Height}
use Rattle.bar_lms.specs.declared.params.Height.TheVariants.{H5, H10, H15}
use Rattle.bar_lms.specs.declared.params.Ots.TheVariants.{W1, W2, W4, W8}
use Rattle.bar_lms.specs.declared.private.Private.{Private}
use Rattle.bar_lms.specs.Params.{digit_bits, chains, last, levels, lms_type, ots_type}
use Rattle.bar_lms.specs.Chains.{place, chain_step, chain, joined, coef, digit, message_hash, one_time_key}
use Rattle.bar_lms.specs.Tree.{value, whole_value, leaf_key, node, parent, leaf_node, climb, sibling, root}
use Rattle.bar_lms.specs.Signature.{public_of, signed_value, sibling_at, signature, number_at, hash_at, end_at, candidate}
use Rattle.bar_lms.specs.Acceptance.{Accepts}
use Rattle.bar_lms.proofs.TreeLemmas.{climb_left, climb_right, halved}
use Rattle.bar_lms.proofs.DigitLemmas.{level_facts}
use Rattle.bar_lms.proofs.SignLemmas.{sibling_even, sibling_odd}

length-digest_bytes : (h : List ℕ) (n : ℕ) → length (digest_bytes h n) ≡ 4 * n
unfolding digest_bytes
length-digest_bytes h zero = refl
length-digest_bytes h (suc n) = omega (arith, length-append (digest_bytes h n) (to_be_bytes w32 (slice_index h n)), length-digest_bytes h n)

pub length-sha256 : (m : List ℕ) → length (sha256 m) ≡ 32
unfolding sha256
length-sha256 m = length-digest_bytes (final_hash initial_hash_256 m) 8

length-step : (at : List ℕ) (j : ℕ) (x : List ℕ) → length (chain_step at j x) ≡ 32
unfolding chain_step
length-step at j x = length-sha256 (at ++ j ∷ x)

length-chain : (at : List ℕ) (from n : ℕ) (x : List ℕ) → length x ≡ 32 → length (chain at from n x) ≡ 32
unfolding chain
length-chain at from zero x long = long
length-chain at from (suc n) x long = length-step at (from + n) (chain at from n x)

pub length-value : (t : Private) (q n i : ℕ) → length (value t q n i) ≡ 32
unfolding value
length-value t q n i = length-chain _ 0 n _ (length-step _ 255 _)

pub length-joined : (f : ℕ → List ℕ) (n : ℕ) → ((i : ℕ) → length (f i) ≡ 32) → length (joined f n) ≡ 32 * n
unfolding joined
length-joined f zero long = refl
length-joined f (suc n) long = omega (arith, length-append (joined f n) (f n), length-joined f n long, long n)

-- hash i of a concatenation of hashes
joined_at : (f : ℕ → List ℕ) (n : ℕ) (rest : List ℕ) (i : ℕ) → ((k : ℕ) → length (f k) ≡ 32) → i < n → hash_at (joined f n ++ rest) i ≡ f i
unfolding joined hash_at
joined_at f zero rest i long below = absurd (omega arith)
joined_at f (suc n) rest i long below =
    elim (cases_lt i n) [
      | inl before ↦ rw append_assoc (joined_at f n (f n ++ rest) i long before)
      | inr last ↦
          let same : i ≡ n = omega arith in
          let front = length-joined f n long in
          rw (append_assoc, same, drop_at (joined f n) (f n ++ rest) (32 * n) front) (take_at (f n) rest 32 (long n))
    ]

joined_same : (f g : ℕ → List ℕ) (n : ℕ) → ((i : ℕ) → i < n → f i ≡ g i) → joined f n ≡ joined g n
unfolding joined
joined_same f g zero same = refl
joined_same f g (suc n) same = rw (joined_same f g n (λ i lt. same i (omega arith)), same n (omega arith)) refl

-- steps of a chain followed by more steps
chain-chain : (at : List ℕ) (a b : ℕ) (x : List ℕ) → chain at a b (chain at 0 a x) ≡ chain at 0 (a + b) x
unfolding chain
chain-chain at a zero x = let e : a + 0 ≡ a = omega arith in rw e refl
chain-chain at a (suc b) x = let e : a + suc b ≡ suc (a + b) = omega arith in let z : 0 + (a + b) ≡ a + b = omega arith in rw (chain-chain at a b x, e, z) refl

last-power : (ots : Ots) → last ots + 1 ≡ 2 ^ digit_bits ots
last-power W1 = refl
last-power W2 = refl
last-power W4 = refl
last-power W8 = refl

digit_le : (ots : Ots) (hash : List ℕ) (i : ℕ) → digit ots hash i ≤ last ots
unfolding coef
digit_le ots hash i = omega (arith, last-power ots, pow_pos (digit_bits ots))

-- the end of a chain, starting from its value in a signature
end_of_signed : (t : Private) (q : ℕ) (hash rest : List ℕ) (i : ℕ) → i < chains t.params.ots
    → end_at t.ident q t.params.ots hash (joined (signed_value t q hash) (chains t.params.ots) ++ rest) i ≡ whole_value t q i
unfolding end_at signed_value whole_value value
end_of_signed t q hash rest i below =
    let d = digit t.params.ots hash i in
    let all : d + (last t.params.ots - d) ≡ last t.params.ots = omega (arith, digit_le t.params.ots hash i) in
    let there = joined_at (signed_value t q hash) (chains t.params.ots) rest i (λ k. length-value t q (digit t.params.ots hash k) k) below in
    rw there (chain-chain (place t.ident q i) d (last t.params.ots - d) _ ∙ ap (λ n. chain (place t.ident q i) 0 n (chain_step (place t.ident q i) 255 t.seed)) all)

climb_same : (ident : List ℕ) (p s : ℕ → List ℕ) (r : ℕ) (leaf : List ℕ) (n : ℕ) → ((i : ℕ) → i < n → p i ≡ s i) → climb ident p r leaf n ≡ climb ident s r leaf n
unfolding climb
climb_same ident p s r leaf zero same = refl
climb_same ident p s r leaf (suc n) same = rw (climb_same ident p s r leaf n (λ i lt. same i (omega arith)), same n (omega arith)) refl

-- a node from its children, one of which is the sibling of the other
node_left : (t : Private) (n x : ℕ) → x % 2 ≡ 0 → parent t.ident (x / 2) (node t n x) (node t n (sibling x)) ≡ node t (suc n) (x / 2)
unfolding node
node_left t n x even =
    let left : 2 * (x / 2) ≡ x = omega arith in
    let right : sibling x ≡ 2 * (x / 2) + 1 = sibling_even x even ∙ omega arith in
    rw (right, left) refl

node_right : (t : Private) (n x : ℕ) → x % 2 ≡ 1 → parent t.ident (x / 2) (node t n (sibling x)) (node t n x) ≡ node t (suc n) (x / 2)
unfolding node
node_right t n x odd =
    let left : sibling x ≡ 2 * (x / 2) = sibling_odd x odd ∙ omega arith in
    let right : 2 * (x / 2) + 1 ≡ x = omega arith in
    rw (left, right) refl

-- the same with the siblings on the path
side_left : (t : Private) (q n x : ℕ) → x % 2 ≡ 0 → x ≡ (2 ^ levels t.params.height + q) / 2 ^ n
    → parent t.ident (x / 2) (node t n x) (sibling_at t q n) ≡ node t (suc n) (x / 2)
unfolding sibling_at
side_left t q n x even is = rw (← is) (node_left t n x even)

side_right : (t : Private) (q n x : ℕ) → x % 2 ≡ 1 → x ≡ (2 ^ levels t.params.height + q) / 2 ^ n
    → parent t.ident (x / 2) (sibling_at t q n) (node t n x) ≡ node t (suc n) (x / 2)
unfolding sibling_at
side_right t q n x odd is = rw (← is) (node_right t n x odd)

-- the path up from a leaf of the tree consists of its nodes
climb_tree : (t : Private) (q n : ℕ)
    → climb t.ident (sibling_at t q) (2 ^ levels t.params.height + q) (node t 0 (2 ^ levels t.params.height + q)) n
    ≡ node t n ((2 ^ levels t.params.height + q) / 2 ^ n)
unfolding climb
climb_tree t q zero = let e : (2 ^ levels t.params.height + q) / 2 ^ 0 ≡ 2 ^ levels t.params.height + q = omega arith in rw e refl
climb_tree t q (suc n) =
    let r = 2 ^ levels t.params.height + q in
    let x = r / 2 ^ n in
    let below = climb_tree t q n in
    let half : x / 2 ≡ r / 2 ^ suc n = halved r n ∙ ap (λ k. r / 2 ^ k) (add-one n) in
    let more = ap (climb t.ident (sibling_at t q) r (node t 0 r)) (sym (add-one n)) in
    more ∙ (elim (cases_lt (x % 2) 1) as (λ _. climb t.ident (sibling_at t q) r (node t 0 r) (n + 1) ≡ node t (suc n) (x / 2)) [
      | inl low ↦
          let even : x % 2 ≡ 0 = omega arith in
          climb_left t.ident (sibling_at t q) r (node t 0 r) n x refl even ∙ (rw below (side_left t q n x even refl))
      | inr high ↦
          let odd : x % 2 ≡ 1 = omega arith in
          climb_right t.ident (sibling_at t q) r (node t 0 r) n x refl odd ∙ (rw below (side_right t q n x odd refl))
    ] ∙ ap (node t (suc n)) half)

-- the pieces of a signature
record Pieces (s a b c v d p : List ℕ) (n : ℕ) : Type 0 where
  first : take 4 (drop 0 s) ≡ a
  second : take 4 (drop 4 s) ≡ b
  third : take 32 (drop 8 s) ≡ c
  values : drop 40 s ≡ v ++ (d ++ p)
  fourth : take 4 (drop (40 + n) s) ≡ d
  path : drop (44 + n) s ≡ p
  whole : length s ≡ 44 + n + length p

pieces : (a b c v d p : List ℕ) (n : ℕ) → length a ≡ 4 → length b ≡ 4 → length c ≡ 32 → length v ≡ n → length d ≡ 4
    → Pieces (a ++ b ++ c ++ v ++ d ++ p) a b c v d p n
pieces a b c v d p n la lb lc lv ld =
    let s = a ++ b ++ c ++ v ++ d ++ p in
    let l2 : length (a ++ b) ≡ 8 = omega (arith, length-append a b) in
    let l3 : length (a ++ b ++ c) ≡ 40 = omega (arith, length-append (a ++ b) c) in
    let l4 : length (a ++ b ++ c ++ v) ≡ 40 + n = omega (arith, length-append (a ++ b ++ c) v) in
    let l5 : length (a ++ b ++ c ++ v ++ d) ≡ 44 + n = omega (arith, length-append (a ++ b ++ c ++ v) d) in
    let s1 : s ≡ a ++ (b ++ (c ++ (v ++ (d ++ p)))) = simp append_assoc in
    let s2 : s ≡ (a ++ b) ++ (c ++ (v ++ (d ++ p))) = simp append_assoc in
    let s3 : s ≡ (a ++ b ++ c) ++ (v ++ (d ++ p)) = simp append_assoc in
    let s4 : s ≡ (a ++ b ++ c ++ v) ++ (d ++ p) = simp append_assoc in
    record {
      first = ap (take 4) s1 ∙ take_at a _ 4 la;
      second = ap (λ (x : List ℕ). take 4 (drop 4 x)) s1 ∙ (rw (drop_at a (b ++ (c ++ (v ++ (d ++ p)))) 4 la) (take_at b _ 4 lb));
      third = ap (λ (x : List ℕ). take 32 (drop 8 x)) s2 ∙ (rw (drop_at (a ++ b) (c ++ (v ++ (d ++ p))) 8 l2) (take_at c _ 32 lc));
      values = ap (drop 40) s3 ∙ drop_at (a ++ b ++ c) (v ++ (d ++ p)) 40 l3;
      fourth = ap (λ (x : List ℕ). take 4 (drop (40 + n) x)) s4 ∙ (rw (drop_at (a ++ b ++ c ++ v) (d ++ p) (40 + n) l4) (take_at d p 4 ld));
      path = drop_at (a ++ b ++ c ++ v ++ d) p (44 + n) l5;
      whole = omega (arith, length-append (a ++ b ++ c ++ v ++ d) p);
    }

number_of : (n : ℕ) (bytes : List ℕ) → n < 2 ^ 32 → bytes ≡ to_be_bytes w32 n → from_be_bytes w32 bytes ≡ n
number_of n bytes fits is = rw is (from_be_bytes-to_be_bytes_4 n fits)

length-signed_value : (t : Private) (q : ℕ) (hash : List ℕ) (i : ℕ) → length (signed_value t q hash i) ≡ 32
unfolding signed_value
length-signed_value t q hash i = length-value t q (digit t.params.ots hash i) i

pub length-node : (t : Private) (level r : ℕ) → length (node t level r) ≡ 32
unfolding node leaf_node parent
length-node t zero r = length-sha256 _
length-node t (suc level) r = length-sha256 _

length-sibling_at : (t : Private) (q level : ℕ) → length (sibling_at t q level) ≡ 32
unfolding sibling_at
length-sibling_at t q level = length-node t level _

-- the same with nothing after the row
joined_alone : (f : ℕ → List ℕ) (n i : ℕ) → ((k : ℕ) → length (f k) ≡ 32) → i < n → hash_at (joined f n) i ≡ f i
joined_alone f n i long below = rw append-nil at (joined_at f n [] i long below)

-- a leaf from its one-time key
leaf_of : (t : Private) (q : ℕ) → leaf_node t.ident (2 ^ levels t.params.height + q) (one_time_key t.ident q (joined (whole_value t q) (chains t.params.ots)))
    ≡ node t 0 (2 ^ levels t.params.height + q)
unfolding node leaf_key
leaf_of t q = let number : 2 ^ levels t.params.height + q - 2 ^ levels t.params.height ≡ q = omega arith in rw number refl

-- the path ends at the root
at_root : (h q : ℕ) → q < 2 ^ h → (2 ^ h + q) / 2 ^ h ≡ 1
at_root h q leaf = let e : 1 * 2 ^ h + q ≡ 2 ^ h + q = omega arith in rw e at (div-mul-add 1 (2 ^ h) q leaf)

candidate_is : (t : Private) (q : ℕ) (message sig c rest : List ℕ) → q < 2 ^ levels t.params.height
    → take 32 (drop 8 sig) ≡ c → drop 40 sig ≡ joined (signed_value t q (message_hash t.ident q c message)) (chains t.params.ots) ++ rest
    → drop (44 + 32 * chains t.params.ots) sig ≡ joined (sibling_at t q) (levels t.params.height)
    → candidate (public_of t) q message sig ≡ root t
unfolding candidate
candidate_is t q message sig c rest leaf third values path =
    let ots = t.params.ots in
    let h = levels t.params.height in
    let r = 2 ^ h + q in
    let ends = joined_same _ (whole_value t q) (chains ots) (λ i lt. end_of_signed t q (message_hash t.ident q c message) rest i lt) in
    let way = climb_same t.ident (hash_at (joined (sibling_at t q) h)) (sibling_at t q) r (node t 0 r) h
    (λ i lt. joined_alone (sibling_at t q) h i (length-sibling_at t q) lt)
    in
    rw (third, values, path, ends, leaf_of t q) (way ∙ (climb_tree t q h ∙ ap (node t h) (at_root h q leaf)))

pub lms_fits : (height : Height) → lms_type height < 2 ^ 32
lms_fits H5 = omega arith
lms_fits H10 = omega arith
lms_fits H15 = omega arith

pub ots_fits : (ots : Ots) → ots_type ots < 2 ^ 32
ots_fits W1 = omega arith
ots_fits W2 = omega arith
ots_fits W4 = omega arith
ots_fits W8 = omega arith

-- the parts of a signature of a leaf
record IsSigned (t : Private) (q : ℕ) (randomizer message : List ℕ) : Type 0 where
  leaf : number_at (signature t q randomizer message) 0 ≡ q
  whole : length (signature t q randomizer message) ≡ 12 + 32 * (chains t.params.ots + 1) + 32 * levels t.params.height
  ots_type : number_at (signature t q randomizer message) 4 ≡ ots_type t.params.ots
  lms_type : number_at (signature t q randomizer message) (40 + 32 * chains t.params.ots) ≡ lms_type t.params.height
  root : candidate (public_of t) q message (signature t q randomizer message) ≡ root t

is_signed : (t : Private) (q : ℕ) (randomizer message : List ℕ) → q < 2 ^ levels t.params.height → length randomizer ≡ 32 → IsSigned t q randomizer message
unfolding signature
is_signed t q randomizer message leaf long =
    let height = t.params.height in
    let ots = t.params.ots in
    let hash = message_hash t.ident q randomizer message in
    let values = joined (signed_value t q hash) (chains ots) in
    let path = joined (sibling_at t q) (levels height) in
    let sig = signature t q randomizer message in
    let p = pieces (to_be_bytes w32 q) (to_be_bytes w32 (ots_type ots)) randomizer values (to_be_bytes w32 (lms_type height)) path (32 * chains ots)
    refl refl long (length-joined (signed_value t q hash) (chains ots) (length-signed_value t q hash)) refl
    in
    record {
      leaf = let leaves = (level_facts height).leaves in number_of q _ (omega arith) p.first;
      whole = omega (arith, p.whole, length-joined (sibling_at t q) (levels height) (length-sibling_at t q));
      ots_type = number_of (ots_type ots) _ (ots_fits ots) p.second;
      lms_type = number_of (lms_type height) _ (lms_fits height) p.fourth;
      root = candidate_is t q message sig randomizer (to_be_bytes w32 (lms_type height) ++ path) leaf p.third p.values p.path;
    }

-- the leaf that a signature names
pub signature_leaf : (t : Private) (q : ℕ) (randomizer message : List ℕ) → q < 2 ^ levels t.params.height → length randomizer ≡ 32
    → number_at (signature t q randomizer message) 0 ≡ q
signature_leaf t q randomizer message leaf long = (is_signed t q randomizer message leaf long).leaf

pub signature_accepted : (t : Private) (q : ℕ) (randomizer message : List ℕ) → q < 2 ^ levels t.params.height → length randomizer ≡ 32
    → Accepts (public_of t) message (signature t q randomizer message)
signature_accepted t q randomizer message leaf long =
    let s = is_signed t q randomizer message leaf long in
    record {
      length = s.whole;
      ots_type = s.ots_type;
      lms_type = s.lms_type;
      leaf = rw s.leaf leaf;
      root = rw s.leaf s.root;
    }
