-- Reading the manifests of a proof file one by one.
use Rattle.std.proofs.Common.{◌≡◌, ℕ, zero, suc, ◌+◌, ◌-◌, ◌*◌, ◌<◌, ◌≤◌, ◌^◌, ◌++◌, ◌==◌, List, [], ◌∷◌, length, take, drop, refl, ap, sym, ◌∙◌, arith, append_assoc, append-nil, Some, None, Result, Ok, Err, nat_le, true, false, if◌then◌else◌, inl, inr, length-append}
use Rattle.std.specs.Prelude.{slice_index}
use Rattle.std.specs.Borrow.{Bor}
use Rattle.std.proofs.lemmas.Bool.{cases_Bool, and_parts, leb-true, ltb-true, ne_eqb}
use Rattle.std.proofs.lemmas.List.{length-drop, length-take, take-append-drop}
use Rattle.std.proofs.Math.Seq.{take-length}
use Rattle.bar_bytes.specs.Bytes.{u16_bytes}
use Rattle.bar_terms.specs.Table.{Lists, digests_of}
use Rattle.bar_wire.specs.Grammar.{entry as entry_bytes}
use Rattle.bar_wire.proofs.Lists.{IsBytes, IsBytes-append, two_bytes}
use Rattle.bar_rules.specs.Member.{Session}
use Rattle.bar_judge.specs.Code.TableViews.{plain_first}
use Rattle.bar_judge.specs.declared.entries.First.{First as RawFirst}
use Rattle.bar_judge.specs.declared.entries.First.TheVariants as raw
use Rattle.bar_judge.specs.TableFile.{First, NoByte, Entry, NoEntry, RoundList, first_of, list_after}
use Rattle.bar_judge.proofs.TableLists.{digests_added}
use Rattle.bar_judge.proofs.TableReading.{IsAdded}
use Rattle.bar_proof.specs.declared.proof_fault.ProofFault.{ProofFault}
use Rattle.bar_proof.specs.declared.proof_fault.ProofFault.TheVariants.{BadManifest}
use Rattle.bar_proof.specs.ProofFile.{has_head, with_list, lists_by, counted_lists}

-- ---- entries

-- Bytes begin with an entry.
pub record IsEntry (bytes manifest others : List ℕ) : Type 0 where
  pub is : bytes ≡ entry_bytes manifest ++ others
  pub short : length manifest < 2 ^ 16

pub entry_joined : (bytes manifest others : List ℕ) → IsBytes bytes → first_of bytes ≡ Entry manifest others → IsEntry bytes manifest others
unfolding first_of
entry_joined [] manifest others fits is = absurd cc
entry_joined (high ∷ []) manifest others fits is = absurd cc
entry_joined (high ∷ low ∷ rest) manifest others fits is =
    let k = 256 * high + low in
    elim (cases_Bool (nat_le k (length rest))) [
      | inl all ↦
          let e : Entry (take k rest) (drop k rest) ≡ Entry manifest others = rw all at is in
          let one : manifest ≡ take k rest = cc in
          let two : others ≡ drop k rest = cc in
          let long : length (take k rest) ≡ k = omega (arith, length-take k rest, leb-true k (length rest) all) in
          let first : entry_bytes (take k rest) ≡ high ∷ low ∷ take k rest =
          ap (λ m. u16_bytes m ++ take k rest) long ∙ ap (λ (x : List ℕ). x ++ take k rest) (two_bytes high low (fits 0) (fits 1)) in
          rw (one, two)
          (record {
            is = sym ((λ i. first i ++ drop k rest) ∙ ap (λ (x : List ℕ). high ∷ low ∷ x) (take-append-drop k rest));
            short = omega (arith, long, fits 0, fits 1);
          })
      | inr short ↦ let e : NoEntry ≡ Entry manifest others = rw short at is in absurd cc
    ]

-- ---- steps

-- lists before those of a reading
abbrev pub after : Lists → Result (Lists × List ℕ) ProofFault → Result (Lists × List ℕ) ProofFault
after earlier (Ok read) = Ok (earlier ++ read.0, read.1)
after earlier (Err fault) = Err fault

after_with : (earlier : Lists) (entry : RoundList) (r : Result (Lists × List ℕ) ProofFault) → after earlier (with_list entry r) ≡ after (earlier ++ entry ∷ []) r
after_with earlier entry (Ok read) = ap (λ (l : Lists). Ok (l, read.1)) (sym (append_assoc earlier (entry ∷ []) read.0))
after_with earlier entry (Err fault) = refl

after_none : (r : Result (Lists × List ℕ) ProofFault) → after [] r ≡ r
after_none (Ok read) = refl
after_none (Err fault) = refl

pub counted_more : (s : Session) (count last at : ℕ) (bytes : List ℕ)
    → counted_lists (suc count) s last at bytes ≡ lists_by (λ round place rest. counted_lists count s round place rest) s last at (first_of bytes)
unfolding counted_lists
counted_more s count last at bytes = refl

counted_step : (count : ℕ) (s : Session) (last at : ℕ) (bytes : List ℕ) → 0 < count
    → counted_lists count s last at bytes ≡ lists_by (λ round place rest. counted_lists (count - 1) s round place rest) s last at (first_of bytes)
counted_step zero s last at bytes some = absurd (omega arith)
counted_step (suc count) s last at bytes some = let e : suc count - 1 ≡ count = omega arith in rw e (counted_more s count last at bytes)

pub counted_none : (s : Session) (last at : ℕ) (bytes : List ℕ) → counted_lists 0 s last at bytes ≡ Ok ([], bytes)
unfolding counted_lists
counted_none s last at bytes = refl

-- ---- the progress of a reading

-- what the whole file contains after its head
abbrev pub all_lists : Session → List ℕ → Result (Lists × List ℕ) ProofFault
all_lists s whole = counted_lists (slice_index whole 5) s 0 6 (drop 6 whole)

-- so many lists of the whole are read, which a table contains, and the rest follows them
pub record IsReadTo (s : Session) (whole : List ℕ) (i last : ℕ) (rest : List ℕ) (table : Lists) : Type 0 where
  pub lists : Lists
  pub read : all_lists s whole ≡ after lists (counted_lists (slice_index whole 5 - i) s last (length whole - length rest) rest)
  pub same : (round : ℕ) → digests_of table round ≡ digests_of lists round
  pub none_later : (round : ℕ) → last < round → digests_of table round ≡ None
  pub within : length rest + 6 ≤ length whole
  pub bytes : IsBytes rest

-- nothing is read yet
pub read_none : (s : Session) (whole rest : List ℕ) (table : Lists) → table ≡ [] → has_head whole ≡ true → IsBytes whole → rest ≡ drop 6 whole
    → IsReadTo s whole 0 0 rest table
read_none s whole rest table empty head fits is =
    let long : 5 < length whole = ltb-true 5 (length whole) (and_parts _ _ (and_parts _ _ head).0).0 in
    let left : length rest + 6 ≡ length whole = omega (arith, long, ap length is, length-drop 6 whole) in
    let most : slice_index whole 5 - 0 ≡ slice_index whole 5 = omega arith in
    let at : length whole - length rest ≡ 6 = omega (arith, left) in
    record {
      lists = [];
      read = rw (most, at, is) (sym (after_none (all_lists s whole)));
      same = λ round. ap (λ lists. digests_of lists round) empty;
      none_later = λ round below. ap (λ lists. digests_of lists round) empty;
      within = omega (arith, left);
      bytes = rw is (IsBytes-append (take 6 whole) (drop 6 whole) (λ i. rw (ap (λ (x : List ℕ). slice_index x i) (take-append-drop 6 whole)) (fits i)));
    }

pub behind-head : (whole : List ℕ) → take (length whole - 6) (drop 6 whole) ≡ drop 6 whole
behind-head whole = ap (λ n. take n (drop 6 whole)) (sym (length-drop 6 whole)) ∙ take-length (drop 6 whole)

-- the reading continues with what the rest begins with
pub read_by : (s : Session) (whole rest : List ℕ) (i last : ℕ) (table : Lists) (first : First) (h : IsReadTo s whole i last rest table) → i < slice_index whole 5
    → first_of rest ≡ first
    → all_lists s whole ≡ after h.lists
    (lists_by (λ round place others. counted_lists (slice_index whole 5 - i - 1) s round place others) s last (length whole - length rest) first)
read_by s whole rest i last table first h below is =
    let some : 0 < slice_index whole 5 - i = omega (arith, below) in
    h.read ∙ ap (after h.lists)
    (counted_step (slice_index whole 5 - i) s last (length whole - length rest) rest some
    ∙ ap (lists_by (λ round place others. counted_lists (slice_index whole 5 - i - 1) s round place others) s last (length whole - length rest)) is)

-- no entry is there
pub read_cut : (s : Session) (whole rest : List ℕ) (i last : ℕ) (table : Lists) → IsReadTo s whole i last rest table → i < slice_index whole 5
    → (found : RawFirst) → plain_first found ≡ first_of rest → ((manifest others : Bor (List ℕ)) → found ≡ raw.Entry manifest others → ⊥)
    → all_lists s whole ≡ Err (BadManifest (length whole - length rest))
read_cut s whole rest i last table h below raw.NoByte is none = read_by s whole rest i last table NoByte h below (sym is)
read_cut s whole rest i last table h below raw.NoEntry is none = read_by s whole rest i last table NoEntry h below (sym is)
read_cut s whole rest i last table h below (raw.Entry manifest others) is none = absurd (none manifest others refl)

-- an entry gives no list
pub read_refused : (s : Session) (whole rest manifest others : List ℕ) (i last : ℕ) (table : Lists) → IsReadTo s whole i last rest table
    → i < slice_index whole 5 → first_of rest ≡ Entry manifest others → list_after s last manifest ≡ None
    → all_lists s whole ≡ Err (BadManifest (length whole - length rest))
read_refused s whole rest manifest others i last table h below is none =
    read_by s whole rest i last table (Entry manifest others) h below is ∙ rw none refl

-- all are read
pub read_all : (s : Session) (whole rest : List ℕ) (i last : ℕ) (table : Lists) (h : IsReadTo s whole i last rest table) → i ≡ slice_index whole 5
    → all_lists s whole ≡ Ok (h.lists, rest)
read_all s whole rest i last table h all =
    let none : slice_index whole 5 - i ≡ 0 = omega (arith, all) in
    h.read
    ∙ ap (after h.lists)
    (ap (λ count. counted_lists count s last (length whole - length rest) rest) none ∙ counted_none s last (length whole - length rest) rest)
    ∙ ap (λ (l : Lists). Ok (l, rest)) (append-nil h.lists)

-- one more entry is read
pub read_more : (s : Session) (whole rest manifest others : List ℕ) (i last : ℕ) (entry : RoundList) (old new : Lists)
    → IsReadTo s whole i last rest old → i < slice_index whole 5 → first_of rest ≡ Entry manifest others → list_after s last manifest ≡ Some entry
    → last < entry.0 → IsAdded old entry new → IsReadTo s whole (i + 1) entry.0 others new
read_more s whole rest manifest others i last entry old new h below is listed later added =
    let stands = entry_joined rest manifest others h.bytes is in
    let long : length rest ≡ length (entry_bytes manifest) + length others = ap length stands.is ∙ length-append (entry_bytes manifest) others in
    let at : length whole - length rest + length (entry_bytes manifest) ≡ length whole - length others = omega (arith, h.within, long) in
    let most : slice_index whole 5 - i - 1 ≡ slice_index whole 5 - (i + 1) = omega arith in
    let end : Result (Lists × List ℕ) ProofFault = counted_lists (slice_index whole 5 - (i + 1)) s entry.0 (length whole - length others) others in
    let here : lists_by (λ round place rest. counted_lists (slice_index whole 5 - i - 1) s round place rest) s last (length whole - length rest) (Entry manifest others)
    ≡ with_list entry end = rw (listed, at, most) refl in
    let free : digests_of h.lists entry.0 ≡ None = sym (h.same entry.0) ∙ h.none_later entry.0 later in
    record {
      lists = h.lists ++ entry ∷ [];
      read = read_by s whole rest i last old (Entry manifest others) h below is ∙ (ap (after h.lists) here ∙ after_with h.lists entry end);
      same = λ round.
          added round
          ∙ (ap (λ o. if round == entry.0 then Some entry.1 else o) (h.same round)
          ∙ sym (digests_added h.lists entry round free));
      none_later = λ round above.
          let other : (round == entry.0) ≡ false = ne_eqb round entry.0 (λ e. absurd (omega (arith, e, above))) in
          added round ∙ rw other (h.none_later round (omega (arith, later, above)));
      within = omega (arith, h.within, long);
      bytes = IsBytes-append (entry_bytes manifest) others (λ i. rw (ap (λ (x : List ℕ). slice_index x i) (sym stands.is)) (h.bytes i));
    }
