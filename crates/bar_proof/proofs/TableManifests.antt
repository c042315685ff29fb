-- The manifests of a table file.
use Rattle.std.proofs.Common.{◌≡◌, ℕ, zero, suc, ◌+◌, ◌<◌, ◌≤◌, ◌^◌, ◌++◌, Bool, true, false, cond, List, [], ◌∷◌, length, refl, ap, sym, ◌∙◌, arith, inl, inr, nat_le}
use Rattle.std.specs.Prelude.{Option, Some, None, Result, Ok, Err, IfSome, drop, filter, find, slice_index, take}
use Rattle.std.specs.Option.{option_to_list}
use Rattle.std.proofs.lemmas.Bool.{cases_Bool}
use Rattle.std.proofs.lemmas.Option.{same_Some}
use Rattle.bar_bytes.specs.Bytes.{first_u16}
use Rattle.bar_terms.specs.Table.{Lists, digests_of}
use Rattle.bar_terms.specs.Table as tables
use Rattle.bar_wire.specs.Grammar.{entry as entry_bytes}
use Rattle.bar_wire.specs.Places.{entries}
use Rattle.bar_wire.proofs.Lists.{IsBytes, IsBytes-append}
use Rattle.bar_wire.proofs.ReadBack.{entries_back}
use Rattle.bar_rules.specs.Member.{Session}
use Rattle.bar_judge.specs.TableFile.{First, NoByte, Entry, NoEntry, RoundList, HasLists, first_of, before, lists_behind, lists_by, lists_from, lists_of, list_after, table_bytes, table_of}
use Rattle.bar_judge.specs.declared.table_fault.TableFault.{TableFault}
use Rattle.bar_proof.specs.ProofFile.{AreShort, is_of_round, manifests_for, manifests_in}
use Rattle.bar_proof.specs.Laws.{TablesAreSpelled}
use Rattle.bar_proof.proofs.ManifestReading.{entry_joined}
use Rattle.bar_proof.proofs.Packed.{few-of, splits}

-- The bytes are the table file of some manifests, which have these lists.
pub record IsTableFile (s : Session) (last : ℕ) (bytes : List ℕ) (lists : Lists) : Type 0 where
  pub manifests : List (List ℕ)
  pub is : bytes ≡ table_bytes manifests
  pub lists_are : lists_of s last manifests ≡ Some lists
  pub short : AreShort manifests

no-bytes : (bytes : List ℕ) → first_of bytes ≡ NoByte → bytes ≡ []
unfolding first_of
no-bytes [] is = refl
no-bytes (high ∷ []) is = cc
no-bytes (high ∷ low ∷ rest) is = elim (cases_Bool (nat_le (first_u16 (high ∷ low ∷ rest)) (length rest))) [
  | inl all ↦ absurd (let e = rw all at is in cc)
  | inr short ↦ absurd (let e : NoEntry ≡ NoByte = rw short at is in cc)
]

-- one entry and those after it
one-more : (s : Session) (last : ℕ) (bytes manifest rest : List ℕ) (entry : RoundList) (others lists : Lists) → bytes ≡ entry_bytes manifest ++ rest
    → length manifest < 2 ^ 16 → list_after s last manifest ≡ Some entry → entry ∷ others ≡ lists → IsTableFile s entry.0 rest others
    → IsTableFile s last bytes lists
one-more s last bytes manifest rest entry others lists is short listed all f = record {
  manifests = manifest ∷ f.manifests;
  is = is ∙ ap (λ b. entry_bytes manifest ++ b) f.is;
  lists_are = rw listed (rw f.lists_are (ap Some all));
  short = (short, f.short);
}

file-of : (most : ℕ) (s : Session) (last at : ℕ) (bytes : List ℕ) (lists : Lists) → IsBytes bytes → lists_from most s last at bytes ≡ Ok lists
    → IsTableFile s last bytes lists
unfolding lists_from
file-of zero s last at bytes lists fits e = cc
file-of (suc most) s last at bytes lists fits e =
    by_first (first_of bytes) refl e (λ round place rest others fit read. file-of most s round place rest others fit read)
  where
    by_rest : (manifest rest : List ℕ) (entry : RoundList) (r : Result Lists TableFault) → bytes ≡ entry_bytes manifest ++ rest → length manifest < 2 ^ 16
        → list_after s last manifest ≡ Some entry → before entry r ≡ Ok lists → ((others : Lists) → r ≡ Ok others → IsTableFile s entry.0 rest others)
        → IsTableFile s last bytes lists
    by_rest manifest rest entry (Ok others) is short listed e later =
        let all : entry ∷ others ≡ lists = cc in
        one-more s last bytes manifest rest entry others lists is short listed all (later others refl)
    by_rest manifest rest entry (Err fault) is short listed e later = cc

    by_list : (manifest rest : List ℕ) (o : Option RoundList) → bytes ≡ entry_bytes manifest ++ rest → length manifest < 2 ^ 16 → list_after s last manifest ≡ o
        → lists_behind (λ round. lists_from most s round (at + length (entry_bytes manifest)) rest) at o ≡ Ok lists
        → ((round : ℕ) (others : Lists) → lists_from most s round (at + length (entry_bytes manifest)) rest ≡ Ok others → IsTableFile s round rest others)
        → IsTableFile s last bytes lists
    by_list manifest rest (Some entry) is short listed e later =
        by_rest manifest rest entry (lists_from most s entry.0 (at + length (entry_bytes manifest)) rest) is short listed e (λ others read. later entry.0 others read)
    by_list manifest rest None is short listed e later = cc

    by_first : (first : First) → first_of bytes ≡ first → lists_by (λ round place rest. lists_from most s round place rest) s last at first ≡ Ok lists
        → ((round place : ℕ) (rest : List ℕ) (others : Lists) → IsBytes rest → lists_from most s round place rest ≡ Ok others → IsTableFile s round rest others)
        → IsTableFile s last bytes lists
    by_first NoByte is e later =
        let none : [] ≡ lists = cc in record { manifests = []; is = no-bytes bytes is; lists_are = ap Some none; short = tt }
    by_first NoEntry is e later = cc
    by_first (Entry manifest rest) is e later =
        let stands = entry_joined bytes manifest rest fits is in
        let left : IsBytes rest = IsBytes-append (entry_bytes manifest) rest (λ i. rw (ap (λ (x : List ℕ). slice_index x i) (sym stands.is)) (fits i)) in
        by_list manifest rest (list_after s last manifest) stands.is stands.short refl e
        (λ round others read. later round (at + length (entry_bytes manifest)) rest others left read)

-- a table file that is read is the file of its manifests
pub table-file : (s : Session) (bytes : List ℕ) (lists : Lists) → IsBytes bytes → table_of s bytes ≡ Ok lists → IsTableFile s 0 bytes lists
table-file s bytes lists fits e = file-of (suc (length bytes)) s 0 0 bytes lists fits e

-- ---- the manifests, cut by the lengths before them

-- what the first length cuts off is the first manifest
cut-first : (bytes manifest rest : List ℕ) → first_of bytes ≡ Entry manifest rest
    → (take (first_u16 bytes) (drop 2 bytes) ≡ manifest) × (drop (2 + first_u16 bytes) bytes ≡ rest)
unfolding first_of
cut-first [] manifest rest is = absurd cc
cut-first (high ∷ []) manifest rest is = absurd cc
cut-first (high ∷ low ∷ others) manifest rest is =
    let k : ℕ = first_u16 (high ∷ low ∷ others) in
    elim (cases_Bool (nat_le k (length others))) [
      | inl all ↦
          let e : Entry (take k others) (drop k others) ≡ Entry manifest rest = rw all at is in
          let one : take k others ≡ manifest = cc in
          let two : drop k others ≡ rest = cc in
          let behind : 2 + k ≡ suc (suc k) = omega arith in
          (one, ap (λ n. drop n (high ∷ low ∷ others)) behind ∙ two)
      | inr short ↦ absurd (let e : NoEntry ≡ Entry manifest rest = rw short at is in cc)
    ]

-- lists that are read are those of as many manifests
are-listed : (most : ℕ) (s : Session) (last at : ℕ) (bytes : List ℕ) (lists : Lists) → lists_from most s last at bytes ≡ Ok lists
    → lists_of s last (entries (length lists) bytes) ≡ Some lists
unfolding lists_from
are-listed zero s last at bytes lists e = cc
are-listed (suc most) s last at bytes lists e =
    by_first (first_of bytes) refl e (λ round place rest others read. are-listed most s round place rest others read)
  where
    by_rest : (manifest rest : List ℕ) (entry : RoundList) (r : Result Lists TableFault) → first_of bytes ≡ Entry manifest rest
        → list_after s last manifest ≡ Some entry → before entry r ≡ Ok lists
        → ((others : Lists) → r ≡ Ok others → lists_of s entry.0 (entries (length others) rest) ≡ Some others)
        → lists_of s last (entries (length lists) bytes) ≡ Some lists
    by_rest manifest rest entry (Ok others) is listed e later =
        let all : entry ∷ others ≡ lists = cc in
        let cut = cut-first bytes manifest rest is in
        let manifests : entries (suc (length others)) bytes ≡ manifest ∷ entries (length others) rest = λ i. cut.0 i ∷ entries (length others) (cut.1 i) in
        ap (λ (l : Lists). lists_of s last (entries (length l) bytes)) (sym all)
        ∙ (ap (lists_of s last) manifests ∙ rw listed (rw (later others refl) (ap Some all)))
    by_rest manifest rest entry (Err fault) is listed e later = cc

    by_list : (manifest rest : List ℕ) (o : Option RoundList) → first_of bytes ≡ Entry manifest rest → list_after s last manifest ≡ o
        → lists_behind (λ round. lists_from most s round (at + length (entry_bytes manifest)) rest) at o ≡ Ok lists
        → ((round : ℕ) (others : Lists) → lists_from most s round (at + length (entry_bytes manifest)) rest ≡ Ok others
        → lists_of s round (entries (length others) rest) ≡ Some others)
        → lists_of s last (entries (length lists) bytes) ≡ Some lists
    by_list manifest rest (Some entry) is listed e later =
        by_rest manifest rest entry (lists_from most s entry.0 (at + length (entry_bytes manifest)) rest) is listed e (λ others read. later entry.0 others read)
    by_list manifest rest None is listed e later = cc

    by_first : (first : First) → first_of bytes ≡ first → lists_by (λ round place rest. lists_from most s round place rest) s last at first ≡ Ok lists
        → ((round place : ℕ) (rest : List ℕ) (others : Lists) → lists_from most s round place rest ≡ Ok others
        → lists_of s round (entries (length others) rest) ≡ Some others)
        → lists_of s last (entries (length lists) bytes) ≡ Some lists
    by_first NoByte is e later = (let none : [] ≡ lists = cc in ap (λ (l : Lists). lists_of s last (entries (length l) bytes)) (sym none) ∙ ap Some none)
    by_first NoEntry is e later = cc
    by_first (Entry manifest rest) is e later =
        by_list manifest rest (list_after s last manifest) is refl e
        (λ round others read. later round (at + length (entry_bytes manifest)) rest others read)

pub listed : (s : Session) (table : List ℕ) (lists : Lists) → table_of s table ≡ Ok lists → lists_of s 0 (manifests_in lists table) ≡ Some lists
listed s table lists e = are-listed (suc (length table)) s 0 0 table lists e

-- there is a list for each manifest
same-many : (s : Session) (last : ℕ) (manifests : List (List ℕ)) (lists : Lists) → lists_of s last manifests ≡ Some lists → length lists ≡ length manifests
same-many s last [] lists are = ap length (sym (same_Some [] lists are))
same-many s last (manifest ∷ manifests) lists are =
    let p = splits s last manifest manifests lists are in ap length p.is ∙ ap suc (same-many s p.entry.0 manifests p.rest p.rest_are)

-- the manifests that are cut off are those of the table file
pub cut-off : (s : Session) (table : List ℕ) (lists : Lists) → (f : IsTableFile s 0 table lists) → manifests_in lists table ≡ f.manifests
cut-off s table lists f =
    ap (λ n. entries n table) (same-many s 0 f.manifests lists f.lists_are)
    ∙ (ap (entries (length f.manifests)) f.is ∙ entries_back f.manifests f.short)

pub spelled-so : TablesAreSpelled
spelled-so s bytes lists fits e =
    let f : IsTableFile s 0 bytes lists = table-file s bytes lists fits e in f.is ∙ ap table_bytes (sym (cut-off s bytes lists f))

-- the lists that a table has
pub has-lists : (r : Result Lists TableFault) (table : tables.Table) → HasLists r table → (lists : Lists) × (r ≡ Ok lists) × (table ≡ digests_of lists)
has-lists (Ok lists) table has = (lists, refl, λ i round. has round i)
has-lists (Err fault) table has = absurd has

-- ---- the manifest of a round

few-found : (p : List ℕ → Bool) (manifests : List (List ℕ)) → length (filter p manifests) ≤ 1 → filter p manifests ≡ option_to_list (find p manifests)
few-found p [] few = refl
few-found p (manifest ∷ manifests) few = go (p manifest) few (λ h. few-found p manifests h)
  where
    none : (ms : List (List ℕ)) → length ms ≤ 0 → ms ≡ []
    none [] few = refl
    none (m ∷ ms) few = absurd (omega (arith, few))

    go : (b : Bool) → length (cond b (manifest ∷ filter p manifests) (filter p manifests)) ≤ 1
        → (length (filter p manifests) ≤ 1 → filter p manifests ≡ option_to_list (find p manifests))
        → cond b (manifest ∷ filter p manifests) (filter p manifests) ≡ option_to_list (cond b (Some manifest) (find p manifests))
    go true few later = ap (λ ms. manifest ∷ ms) (none (filter p manifests) (omega (arith, few)))
    go false few later = later few

pub manifest-found : (s : Session) (round : ℕ) (manifests : List (List ℕ)) (lists : Lists) → lists_of s 0 manifests ≡ Some lists
    → manifests_for s (Some round) manifests ≡ option_to_list (find (is_of_round s round) manifests)
manifest-found s round manifests lists are = few-found (is_of_round s round) manifests (few-of s round 0 manifests lists are)

pub found-short : (p : List ℕ → Bool) (manifests : List (List ℕ)) → AreShort manifests → IfSome (find p manifests) (λ m. length m ≤ 65535)
found-short p [] short = tt
found-short p (manifest ∷ manifests) short = go (p manifest) (found-short p manifests short.1)
  where
    go : (b : Bool) → IfSome (find p manifests) (λ m. length m ≤ 65535) → IfSome (cond b (Some manifest) (find p manifests)) (λ m. length m ≤ 65535)
    go true later = omega (arith, short.0)
    go false later = later

pub needed-short : (s : Session) (o : Option ℕ) (manifests : List (List ℕ)) → AreShort manifests → AreShort (manifests_for s o manifests)
needed-short s None manifests short = tt
needed-short s (Some round) [] short = tt
needed-short s (Some round) (manifest ∷ manifests) short = go (is_of_round s round manifest) (needed-short s (Some round) manifests short.1)
  where
    go : (b : Bool) → AreShort (filter (is_of_round s round) manifests) → AreShort (cond b (manifest ∷ filter (is_of_round s round) manifests) (filter (is_of_round s round) manifests))
    go true later = (short.0, later)
    go false later = later
