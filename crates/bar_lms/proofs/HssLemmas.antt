-- Signatures of two levels are accepted, have their length and name their leaf.
use Rattle.std.proofs.Common.{◌≡◌, ℕ, ◌+◌, ◌/◌, ◌%◌, ◌<◌, ◌≤◌, ◌++◌, true, false, length, take, drop, List, refl, arith, ap, subst, ◌∙◌, length-append}
use Rattle.std.proofs.lemmas.Bool.{and_parts, and_from, eqb-true, eq-eqb}
use Rattle.std.proofs.lemmas.List.{append_assoc, take_at, drop_at, take-append-le, take-take, length-take-le}
use Rattle.std.proofs.lemmas.Nat.{from_be_bytes-to_be_bytes_4, pow_pos, div_below}
use Rattle.std.specs.Bool.{Decides}
use Rattle.std.specs.Prelude.{codes, Bool, if◌then◌else◌}
use Rattle.std.specs.Int.{w32, to_be_bytes, from_be_bytes}
use Rattle.bar_lms.specs.declared.params.Params.{Params}
use Rattle.bar_lms.specs.declared.params.Height.TheVariants.{H5}
use Rattle.bar_lms.specs.Params.{levels, signature_len}
use Rattle.bar_lms.specs.Signature.{key_bytes, public_of, number_at}
use Rattle.bar_lms.specs.Acceptance.{is_accepted_under, steps_taken_under, Accepts}
use Rattle.bar_lms.specs.Secret.{private_of, randomizer_of}
use Rattle.bar_lms.specs.Hss.{HssSecret, NamesItsLeaves, leaves_of, numbered, upper_secret, upper_of, lower_of, lower_key, hss_public_key, hss_leaves, upper_signature, lower_signature, hss_signed, hss_signature_len, upper_part, key_part, lower_part, hss_leaf_in, HssAccepts, is_hss_formed, is_hss_accepted, hss_steps_taken, hss_most_steps}
use Rattle.bar_lms.proofs.Accepted.{length-sha256, signature_accepted, signature_leaf}
use Rattle.bar_lms.proofs.Decided.{passes, tree_key, tree_accepts, made_ident, under_test}
use Rattle.bar_lms.proofs.DigitLemmas.{level_facts}
use Rattle.bar_lms.proofs.StepLemmas.{few_under}

-- the test of acceptance decides acceptance
pub formed_test : (top low : Params) (key message sig : List ℕ) → Decides (is_hss_accepted top low key message sig) (HssAccepts top low key message sig)
unfolding is_hss_accepted is_hss_formed
formed_test top low key message sig = (
  λ t.
      let whole = and_parts _ _ t in
      let keys = and_parts _ _ whole.0 in
      let sigs = and_parts _ _ keys.1 in
      let numbers = and_parts _ _ sigs.1 in
      let both = and_parts _ _ whole.1 in
      record {
        key_length = eqb-true _ _ keys.0;
        length = eqb-true _ _ sigs.0;
        levels = eqb-true _ _ numbers.0;
        signed_keys = eqb-true _ _ numbers.1;
        upper = both.0;
        lower = both.1;
      },
  λ a.
      and_from _ _
      (and_from _ _ (eq-eqb _ _ a.key_length) (and_from _ _ (eq-eqb _ _ a.length) (and_from _ _ (eq-eqb _ _ a.levels) (eq-eqb _ _ a.signed_keys))))
      (and_from _ _ a.upper a.lower),
)

-- ---- the parts of a concatenation

record Parts (sig a u k w : List ℕ) (n : ℕ) : Type 0 where
  whole : length sig ≡ 60 + n + length w
  first : take 4 (drop 0 sig) ≡ a
  upper : take n (drop 4 sig) ≡ u
  upper_leaf : take 4 (drop 4 sig) ≡ take 4 u
  key : take 56 (drop (4 + n) sig) ≡ k
  lower : drop (60 + n) sig ≡ w

parts : (a u k w : List ℕ) (n : ℕ) → length a ≡ 4 → length u ≡ n → length k ≡ 56 → 4 ≤ n → Parts (a ++ u ++ k ++ w) a u k w n
parts a u k w n la lu lk some =
    let s = a ++ u ++ k ++ w in
    let l2 : length (a ++ u) ≡ 4 + n = omega (arith, length-append a u) in
    let l3 : length (a ++ u ++ k) ≡ 60 + n = omega (arith, length-append (a ++ u) k) in
    let s1 : s ≡ a ++ (u ++ (k ++ w)) = simp append_assoc in
    let s2 : s ≡ (a ++ u) ++ (k ++ w) = simp append_assoc in
    record {
      whole = omega (arith, length-append (a ++ u ++ k) w);
      first = ap (take 4) s1 ∙ take_at a _ 4 la;
      upper = ap (λ (x : List ℕ). take n (drop 4 x)) s1 ∙ (rw (drop_at a (u ++ (k ++ w)) 4 la) (take_at u _ n lu));
      upper_leaf = ap (λ (x : List ℕ). take 4 (drop 4 x)) s1 ∙ (rw (drop_at a (u ++ (k ++ w)) 4 la) (take-append-le 4 u (k ++ w) (omega (arith, lu, some))));
      key = ap (λ (x : List ℕ). take 56 (drop (4 + n) x)) s2 ∙ (rw (drop_at (a ++ u) (k ++ w) (4 + n) l2) (take_at k w 56 lk));
      lower = drop_at (a ++ u ++ k) w (60 + n) l3;
    }

number_one : from_be_bytes w32 (to_be_bytes w32 1) ≡ 1
number_one = from_be_bytes-to_be_bytes_4 1 (omega arith)

number_two : from_be_bytes w32 (to_be_bytes w32 2) ≡ 2
number_two = from_be_bytes-to_be_bytes_4 2 (omega arith)

-- ---- a secret's own signatures

lower_ident : (s : HssSecret) (j : ℕ) → length (lower_of s j).ident ≡ 16
unfolding lower_of
lower_ident s j =
    let long = length-sha256 (codes "IDN2" ++ s.id ++ (to_be_bytes w32 j ++ s.secret)) in
    length-take-le 16 (numbered (codes "IDN2") s j) (omega arith)

lower_types : (s : HssSecret) (j : ℕ) → (lower_of s j).params ≡ s.low
unfolding lower_of
lower_types s j = refl

upper_types : (s : HssSecret) → (upper_of s).params ≡ s.top
unfolding private_of
upper_types s = refl

lower_key_length : (s : HssSecret) (j : ℕ) → length (lower_key s j) ≡ 56
lower_key_length s j = (passes (lower_of s j).params (lower_key s j) (tree_key (lower_of s j) (lower_ident s j))).long

upper_key_length : (s : HssSecret) → length (key_bytes (public_of (upper_of s))) ≡ 56
upper_key_length s = (passes (upper_of s).params (key_bytes (public_of (upper_of s))) (tree_key (upper_of s) (made_ident (upper_secret s)))).long

upper_accepts : (s : HssSecret) (j : ℕ) → j < leaves_of s.top → Accepts (public_of (upper_of s)) (lower_key s j) (upper_signature s j)
unfolding private_of upper_signature
upper_accepts s j below =
    signature_accepted (upper_of s) j (numbered (codes "RND2") s j) (lower_key s j) below (length-sha256 (codes "RND2" ++ s.id ++ (to_be_bytes w32 j ++ s.secret)))

upper_leaf_is : (s : HssSecret) (j : ℕ) → j < leaves_of s.top → number_at (upper_signature s j) 0 ≡ j
unfolding private_of upper_signature
upper_leaf_is s j below =
    signature_leaf (upper_of s) j (numbered (codes "RND2") s j) (lower_key s j) below (length-sha256 (codes "RND2" ++ s.id ++ (to_be_bytes w32 j ++ s.secret)))

lower_accepts : (s : HssSecret) (leaf : ℕ) (message : List ℕ)
    → Accepts (public_of (lower_of s (leaf / leaves_of s.low))) message (lower_signature s leaf message)
unfolding lower_of lower_signature
lower_accepts s leaf message =
    let some = pow_pos (levels s.low.height) in
    signature_accepted (lower_of s (leaf / leaves_of s.low)) (leaf % leaves_of s.low) (randomizer_of (upper_secret s) leaf) message (omega arith)
    (length-sha256 (codes "RND1" ++ s.id ++ (to_be_bytes w32 leaf ++ s.secret)))

lower_leaf_is : (s : HssSecret) (leaf : ℕ) (message : List ℕ) → number_at (lower_signature s leaf message) 0 ≡ leaf % leaves_of s.low
unfolding lower_of lower_signature
lower_leaf_is s leaf message =
    let some = pow_pos (levels s.low.height) in
    signature_leaf (lower_of s (leaf / leaves_of s.low)) (leaf % leaves_of s.low) (randomizer_of (upper_secret s) leaf) message (omega arith)
    (length-sha256 (codes "RND1" ++ s.id ++ (to_be_bytes w32 leaf ++ s.secret)))

pub signature_some : (p : Params) → 4 ≤ signature_len p
signature_some p = omega arith

-- the upper leaf of a leaf
upper_below : (s : HssSecret) (leaf : ℕ) → leaf < hss_leaves s.top s.low → leaf / leaves_of s.low < leaves_of s.top
upper_below s leaf below = div_below leaf (leaves_of s.low) (leaves_of s.top) (pow_pos (levels s.low.height)) below

upper_long : (s : HssSecret) (j : ℕ) → j < leaves_of s.top → length (upper_signature s j) ≡ signature_len s.top
unfolding private_of
upper_long s j below = (upper_accepts s j below).length

signed_parts : (s : HssSecret) (leaf : ℕ) (message : List ℕ) → leaf < hss_leaves s.top s.low
    → Parts (hss_signed s leaf message) (to_be_bytes w32 1) (upper_signature s (leaf / leaves_of s.low)) (lower_key s (leaf / leaves_of s.low))
    (lower_signature s leaf message) (signature_len s.top)
unfolding hss_signed
signed_parts s leaf message below =
    let j = leaf / leaves_of s.low in
    parts (to_be_bytes w32 1) (upper_signature s j) (lower_key s j) (lower_signature s leaf message) (signature_len s.top) refl
    (upper_long s j (upper_below s leaf below)) (lower_key_length s j) (signature_some s.top)

pub hss_long : (s : HssSecret) (leaf : ℕ) (message : List ℕ) → leaf < hss_leaves s.top s.low → length (hss_signed s leaf message) ≡ hss_signature_len s.top s.low
unfolding lower_of
hss_long s leaf message below =
    let p = signed_parts s leaf message below in
    let l = (lower_accepts s leaf message).length in
    omega (arith, p.whole, l)

pub hss_facts : (s : HssSecret) (leaf : ℕ) (message : List ℕ) → leaf < hss_leaves s.top s.low
    → HssAccepts s.top s.low (hss_public_key s) message (hss_signed s leaf message)
unfolding hss_public_key private_of lower_of
hss_facts s leaf message below =
    let j = leaf / leaves_of s.low in
    let p = signed_parts s leaf message below in
    let front = to_be_bytes w32 2 in
    let upper_key = key_bytes (public_of (upper_of s)) in
    let key : drop 4 (hss_public_key s) ≡ upper_key = drop_at front upper_key 4 refl in
    record {
      key_length = omega (arith, length-append front upper_key, upper_key_length s);
      length = hss_long s leaf message below;
      levels = ap (from_be_bytes w32) (take_at front upper_key 4 refl) ∙ number_two;
      signed_keys = ap (from_be_bytes w32) p.first ∙ number_one;
      upper = rw (key, p.key, p.upper) (tree_accepts (upper_of s) (lower_key s j) (upper_signature s j) (made_ident (upper_secret s)) (upper_accepts s j (upper_below s leaf below)));
      lower = rw (p.key, p.lower) (tree_accepts (lower_of s j) message (lower_signature s leaf message) (lower_ident s j) (lower_accepts s leaf message));
    }

pub hss_accepted : (s : HssSecret) (leaf : ℕ) (message : List ℕ) → leaf < hss_leaves s.top s.low
    → is_hss_accepted s.top s.low (hss_public_key s) message (hss_signed s leaf message) ≡ true
hss_accepted s leaf message below = (formed_test s.top s.low (hss_public_key s) message (hss_signed s leaf message)).1 (hss_facts s leaf message below)

-- an upper leaf signs the public key of its own tree
pub hss_upper : (s : HssSecret) (leaf : ℕ) (message : List ℕ) → leaf < hss_leaves s.top s.low
    → (number_at (hss_signed s leaf message) 4 ≡ leaf / leaves_of s.low) × (key_part s.top (hss_signed s leaf message) ≡ lower_key s (leaf / leaves_of s.low))
hss_upper s leaf message below =
    let p = signed_parts s leaf message below in
    (ap (from_be_bytes w32) p.upper_leaf ∙ upper_leaf_is s (leaf / leaves_of s.low) (upper_below s leaf below), p.key)

pub hss_leaf : (s : HssSecret) (leaf : ℕ) (message : List ℕ) → leaf < hss_leaves s.top s.low → s.low.height ≡ H5
    → hss_leaf_in s.top (hss_signed s leaf message) ≡ leaf
hss_leaf s leaf message below five =
    let j = leaf / leaves_of s.low in
    let p = signed_parts s leaf message below in
    let n : leaves_of s.low ≡ 32 = rw five refl in
    let upper : number_at (hss_signed s leaf message) 4 ≡ j = ap (from_be_bytes w32) p.upper_leaf ∙ upper_leaf_is s j (upper_below s leaf below) in
    let lower : number_at (hss_signed s leaf message) (60 + signature_len s.top) ≡ leaf % leaves_of s.low =
    ap (λ (x : List ℕ). from_be_bytes w32 (take 4 x)) p.lower ∙ lower_leaf_is s leaf message
    in
    let most = (level_facts s.top.height).leaves in
    let few : leaf / leaves_of s.low < 32768 = omega (arith, most, upper_below s leaf below) in
    let small : leaf / 32 < 32768 = rw n at few in
    rw (upper, lower, n) (omega (arith, small))

-- acceptance takes at most `hss_most_steps` hashes
pub hss_few : (top low : Params) (key message sig : List ℕ) → hss_steps_taken top low key message sig ≤ hss_most_steps top low
unfolding hss_steps_taken
hss_few top low key message sig =
    let upper = few_under top (drop 4 key) (key_part top sig) (upper_part top sig) in
    let lower = few_under low (key_part top sig) message (lower_part top sig) in
    let both : (b : Bool) → steps_taken_under top (drop 4 key) (key_part top sig) (upper_part top sig) + (if b then steps_taken_under low (key_part top sig) message (lower_part top sig) else 0) ≤ hss_most_steps top low =
    elim [ true ↦ omega (arith, upper, lower) | false ↦ omega (arith, upper) ]
    in
    elim (is_hss_formed top low key sig) as (λ b. (if b then steps_taken_under top (drop 4 key) (key_part top sig) (upper_part top sig) + (if is_accepted_under top (drop 4 key) (key_part top sig) (upper_part top sig) then steps_taken_under low (key_part top sig) message (lower_part top sig) else 0) else 0) ≤ hss_most_steps top low)
    [ true ↦ both (is_accepted_under top (drop 4 key) (key_part top sig) (upper_part top sig)) | false ↦ omega arith ]

-- ---- the leaves that an accepted signature names

accepted-leaf : (p : Params) (key message sig : List ℕ) → is_accepted_under p key message sig ≡ true → number_at sig 0 < leaves_of p
accepted-leaf p key message sig accepted =
    let a = (under_test p key message sig).0 accepted in
    subst (λ (q : Params). number_at sig 0 < leaves_of q) a.params a.accepted.leaf

-- the first number of a part is the number of the whole at its place
upper-number : (top : Params) (sig : List ℕ) → number_at (upper_part top sig) 0 ≡ number_at sig 4
upper-number top sig = ap (from_be_bytes w32) (take-take 4 (signature_len top) (drop 4 sig) (signature_some top))

pub names-leaves : (top low : Params) (key message sig : List ℕ) → is_hss_accepted top low key message sig ≡ true → low.height ≡ H5
    → NamesItsLeaves top sig
names-leaves top low key message sig accepted five =
    let a = (formed_test top low key message sig).0 accepted in
    let upper : number_at sig 4 < leaves_of top =
    subst (λ (n : ℕ). n < leaves_of top) (upper-number top sig) (accepted-leaf top (drop 4 key) (key_part top sig) (upper_part top sig) a.upper)
    in
    let n : leaves_of low ≡ 32 = rw five refl in
    let lower : number_at sig (60 + signature_len top) < 32 =
    subst (λ (m : ℕ). number_at sig (60 + signature_len top) < m) n (accepted-leaf low (key_part top sig) message (lower_part top sig) a.lower)
    in
    let most = (level_facts top.height).leaves in
    let small : number_at sig 4 < 32768 = omega (arith, most, upper) in
    record { upper = upper; lower = lower; both = omega (arith, small, lower) }
