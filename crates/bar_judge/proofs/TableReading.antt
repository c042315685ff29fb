-- Reading a table file entry by entry.
use Rattle.std.proofs.Common.{◌≡◌, ℕ, zero, suc, ◌+◌, ◌-◌, ◌*◌, ◌<◌, ◌≤◌, ◌++◌, ◌==◌, List, [], ◌∷◌, length, take, drop, refl, ap, sym, subst, ◌∙◌, arith, append_assoc, append-nil, Option, Some, None, Result, Ok, Err, nat_le, false, if◌then◌else◌, inl, inr, length-append, length-drop}
use Rattle.std.proofs.lemmas.Bool.{cases_Bool, cases_lt, leb-true, ne_eqb}
use Rattle.std.proofs.Math.Nat.{mul-le-mul_right}
use Rattle.std.proofs.lemmas.List.{length-take-le}
use Rattle.bar_bytes.specs.Bytes.{first_u16}
use Rattle.bar_bytes.proofs.Lengths.{length_u16}
use Rattle.bar_terms.specs.Table.{Lists, digests_of}
use Rattle.bar_rules.specs.Member.{Session}
use Rattle.bar_judge.specs.declared.table_fault.TableFault.{TableFault}
use Rattle.bar_judge.specs.declared.table_fault.TableFault.TheVariants.{BadEntry}
use Rattle.bar_wire.specs.Grammar.{entry as entry_bytes}
use Rattle.bar_judge.specs.TableFile.{First, NoByte, Entry, NoEntry, RoundList, sized_first, first_of, before, lists_by, lists_from, list_after, table_of, HasLists}
use Rattle.bar_judge.proofs.TableLists.{digests_added}

-- lists before those of a reading
abbrev pub after : Lists → Result Lists TableFault → Result Lists TableFault
after earlier (Ok later) = Ok (earlier ++ later)
after earlier (Err fault) = Err fault

after_before : (earlier : Lists) (entry : RoundList) (r : Result Lists TableFault) → after earlier (before entry r) ≡ after (earlier ++ entry ∷ []) r
after_before earlier entry (Ok later) = ap Ok (sym (append_assoc earlier (entry ∷ []) later))
after_before earlier entry (Err fault) = refl

after_none : (r : Result Lists TableFault) → after [] r ≡ r
after_none (Ok later) = refl
after_none (Err fault) = refl

-- one more step of a reading
pub lists_step : (most : ℕ) (s : Session) (last at : ℕ) (bytes : List ℕ) → 0 < most
    → lists_from most s last at bytes ≡ lists_by (λ round place rest. lists_from (most - 1) s round place rest) s last at (first_of bytes)
unfolding lists_from
lists_step zero s last at bytes some = absurd (omega arith)
lists_step (suc most) s last at bytes some = let e : suc most - 1 ≡ most = omega arith in rw e refl

-- ---- an entry takes as many bytes as it has

length_sized : (len : ℕ) (rest manifest others : List ℕ) → sized_first len rest ≡ Entry manifest others → length manifest + length others ≡ length rest
length_sized len rest manifest others is = elim (cases_Bool (nat_le len (length rest))) [
  | inl all ↦
      let e : Entry (take len rest) (drop len rest) ≡ Entry manifest others = rw all at is in
      let le : len ≤ length rest = leb-true len (length rest) all in
      let one : manifest ≡ take len rest = cc in
      let two : others ≡ drop len rest = cc in
      rw (one, two) (simp length-drop (omega (arith, length-take-le len rest le)))
  | inr short ↦ let e : NoEntry ≡ Entry manifest others = rw short at is in absurd cc
]

length_entry : (bytes manifest others : List ℕ) → first_of bytes ≡ Entry manifest others
    → length bytes ≡ length (entry_bytes manifest) + length others
unfolding first_of
length_entry [] manifest others is = absurd cc
length_entry (high ∷ []) manifest others is = absurd cc
length_entry (high ∷ low ∷ rest) manifest others is =
    simp (length-append, length_u16) (omega (arith, length_sized (first_u16 (high ∷ low ∷ rest)) rest manifest others is))

-- ---- the progress of a reading

-- what is read of the whole is some lists, which a table contains, and what is read of the rest
pub record IsReadTo (s : Session) (whole : List ℕ) (i last : ℕ) (rest : List ℕ) (table : Lists) : Type 0 where
  pub lists : Lists
  pub read : table_of s whole ≡ after lists (lists_from (suc (length whole) - i) s last (length whole - length rest) rest)
  pub same : (round : ℕ) → digests_of table round ≡ digests_of lists round
  pub none_later : (round : ℕ) → last < round → digests_of table round ≡ None
  pub within : length rest ≤ length whole

-- nothing is read yet
pub read_none : (s : Session) (whole : List ℕ) (table : Lists) → table ≡ [] → IsReadTo s whole 0 0 whole table
read_none s whole table empty =
    let most : suc (length whole) - 0 ≡ suc (length whole) = omega arith in
    let at : length whole - length whole ≡ 0 = omega arith in
    record {
      lists = [];
      read = rw (most, at) (sym (after_none (table_of s whole)));
      same = λ round. ap (λ lists. digests_of lists round) empty;
      none_later = λ round below. ap (λ lists. digests_of lists round) empty;
      within = omega arith;
    }

-- the reading continues with what the rest begins with
read_by : (s : Session) (whole rest : List ℕ) (i last : ℕ) (table : Lists) (first : First) (h : IsReadTo s whole i last rest table) → i < length whole + 1
    → first_of rest ≡ first
    → table_of s whole ≡ after h.lists
    (lists_by (λ round place others. lists_from (suc (length whole) - i - 1) s round place others) s last (length whole - length rest) first)
read_by s whole rest i last table first h below is =
    let some : 0 < suc (length whole) - i = omega arith in
    h.read ∙ ap (after h.lists)
    (lists_step (suc (length whole) - i) s last (length whole - length rest) rest some
    ∙ ap (lists_by (λ round place others. lists_from (suc (length whole) - i - 1) s round place others) s last (length whole - length rest)) is)

-- the file ends after an entry
pub read_end : (s : Session) (whole rest : List ℕ) (i last : ℕ) (table : Lists) → IsReadTo s whole i last rest table → i < length whole + 1
    → first_of rest ≡ NoByte → HasLists (table_of s whole) (digests_of table)
read_end s whole rest i last table h below is =
    let all : table_of s whole ≡ Ok h.lists = read_by s whole rest i last table NoByte h below is ∙ ap Ok (append-nil h.lists) in
    subst (λ (r : Result Lists TableFault). HasLists r (digests_of table)) (sym all) h.same

-- an entry is cut
pub read_cut : (s : Session) (whole rest : List ℕ) (i last : ℕ) (table : Lists) → IsReadTo s whole i last rest table → i < length whole + 1
    → first_of rest ≡ NoEntry → table_of s whole ≡ Err (BadEntry (length whole - length rest))
read_cut s whole rest i last table h below is = read_by s whole rest i last table NoEntry h below is

-- an entry gives no list
pub read_refused : (s : Session) (whole rest manifest others : List ℕ) (i last : ℕ) (table : Lists) → IsReadTo s whole i last rest table
    → i < length whole + 1 → first_of rest ≡ Entry manifest others → list_after s last manifest ≡ None
    → table_of s whole ≡ Err (BadEntry (length whole - length rest))
read_refused s whole rest manifest others i last table h below is none =
    read_by s whole rest i last table (Entry manifest others) h below is ∙ rw none refl

-- as many entries as allowed are read, without an end
no_more : (s : Session) (last at : ℕ) (rest : List ℕ) → lists_from 0 s last at rest ≡ Err (BadEntry at)
unfolding lists_from
no_more s last at rest = refl

pub read_out : (s : Session) (whole rest : List ℕ) (last : ℕ) (table : Lists) → IsReadTo s whole (length whole + 1) last rest table
    → table_of s whole ≡ Err (BadEntry (length whole - length rest))
read_out s whole rest last table h =
    let none : suc (length whole) - (length whole + 1) ≡ 0 = omega arith in
    h.read ∙ ap (after h.lists) (ap (λ most. lists_from most s last (length whole - length rest) rest) none ∙ no_more s last (length whole - length rest) rest)

-- a table with the list of this round, and otherwise those of another table
abbrev pub IsAdded : Lists → RoundList → Lists → Type 0
IsAdded old entry new = (round : ℕ) → digests_of new round ≡ (if round == entry.0 then Some entry.1 else digests_of old round)

-- one more entry is read
pub read_more : (s : Session) (whole rest manifest others : List ℕ) (i last : ℕ) (entry : RoundList) (old new : Lists)
    → IsReadTo s whole i last rest old → i < length whole + 1 → first_of rest ≡ Entry manifest others → list_after s last manifest ≡ Some entry
    → last < entry.0 → IsAdded old entry new → IsReadTo s whole (i + 1) entry.0 others new
read_more s whole rest manifest others i last entry old new h below is listed later added =
    let long : length rest ≡ length (entry_bytes manifest) + length others = length_entry rest manifest others is in
    let at : length whole - length rest + length (entry_bytes manifest) ≡ length whole - length others = omega (arith, h.within) in
    let most : suc (length whole) - i - 1 ≡ suc (length whole) - (i + 1) = omega arith in
    let end : Result Lists TableFault = lists_from (suc (length whole) - (i + 1)) s entry.0 (length whole - length others) others in
    let here : lists_by (λ round place rest. lists_from (suc (length whole) - i - 1) s round place rest) s last (length whole - length rest) (Entry manifest others)
    ≡ before entry end = rw (listed, at, most) refl in
    let free : digests_of h.lists entry.0 ≡ None = sym (h.same entry.0) ∙ h.none_later entry.0 later in
    record {
      lists = h.lists ++ entry ∷ [];
      read = read_by s whole rest i last old (Entry manifest others) h below is ∙ (ap (after h.lists) here ∙ after_before h.lists entry end);
      same = λ round.
          added round
          ∙ (ap (λ (o : Option (List (List ℕ))). if round == entry.0 then Some entry.1 else o) (h.same round)
          ∙ sym (digests_added h.lists entry round free));
      none_later = λ round above.
          let other : (round == entry.0) ≡ false = ne_eqb round entry.0 (λ e. absurd (omega arith)) in
          added round ∙ rw other (h.none_later round (omega arith));
      within = omega (arith, h.within);
    }

-- ---- what a reading costs

pub cost_of_round : (start now new most last round : ℕ) → now ≤ start + last * most → new ≤ now + most → last < round → new ≤ start + round * most
cost_of_round start now new most last round before step above = omega (arith, mul-le-mul_right {m = suc last} {n = round} most (omega arith))

-- no step is taken after the last round
pub cost_within : (start now new most last rounds : ℕ) → now ≤ start + last * most → new ≤ now + most → last ≤ rounds → (rounds ≤ last → new ≡ now)
    → new ≤ start + rounds * most
cost_within start now new most last rounds before step within none = elim (cases_lt last rounds) [
  | inl below ↦ omega (arith, mul-le-mul_right {m = suc last} {n = rounds} most (omega arith))
  | inr all ↦ omega (arith, none all, mul-le-mul_right {m = last} {n = rounds} most within)
]
