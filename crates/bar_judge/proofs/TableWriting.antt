-- What is written as a table file is read back.
use Rattle.std.proofs.Common.{◌≡◌, ℕ, ◌+◌, ◌-◌, ◌<◌, ◌≤◌, ◌^◌, ◌++◌, List, [], ◌∷◌, length, refl, ap, ◌∙◌, arith, append_assoc, Option, Some, None, option_map, Ok, nat_le, true, length-append}
use Rattle.std.specs.List.{AllByRecursion}
use Rattle.std.proofs.lemmas.Bool.{le-leb}
use Rattle.std.proofs.lemmas.Option.{option_and_then_some, none-some, same_Some}
use Rattle.std.proofs.Math.Seq.{take-append_seam, drop-append_seam}
use Rattle.bar_bytes.specs.Bytes.{u16_bytes, first_u16}
use Rattle.bar_bytes.proofs.Lengths.{length_u16}
use Rattle.bar_wire.proofs.Steps.{raw_back}
use Rattle.bar_terms.specs.Table.{Lists}
use Rattle.bar_rules.specs.Member.{Session}
use Rattle.bar_wire.specs.Grammar.{entry as entry_bytes}
use Rattle.bar_judge.specs.TableFile.{NoByte, Entry, RoundList, table_bytes, sized_first, first_of, before, lists_by, lists_from, lists_of, list_after}
use Rattle.bar_judge.proofs.TableReading.{lists_step}

-- two bytes are a length
first_sized : (front rest : List ℕ) → length front ≡ 2 → first_of (front ++ rest) ≡ sized_first (first_u16 (front ++ rest)) rest
unfolding first_of
first_sized [] rest two = absurd (omega arith)
first_sized (a ∷ []) rest two = absurd (omega arith)
first_sized (a ∷ b ∷ []) rest two = refl
first_sized (a ∷ b ∷ c ∷ front) rest two = absurd (omega arith)

sized_whole : (manifest rest : List ℕ) → sized_first (length manifest) (manifest ++ rest) ≡ Entry manifest rest
sized_whole manifest rest =
    let long : length manifest ≤ length (manifest ++ rest) = omega (arith, length-append manifest rest) in
    let all : nat_le (length manifest) (length (manifest ++ rest)) ≡ true = le-leb (length manifest) (length (manifest ++ rest)) long in
    rw (all, take-append_seam manifest rest, drop-append_seam manifest rest) refl

pub first_written : (manifest rest : List ℕ) → length manifest < 2 ^ 16 → first_of (entry_bytes manifest ++ rest) ≡ Entry manifest rest
first_written manifest rest fits =
    ap first_of (append_assoc (u16_bytes (length manifest)) manifest rest)
    ∙ (first_sized (u16_bytes (length manifest)) (manifest ++ rest) (length_u16 (length manifest))
    ∙ (ap (λ n. sized_first n (manifest ++ rest)) (raw_back (length manifest) (manifest ++ rest) fits) ∙ sized_whole manifest rest))

pub no_byte : first_of [] ≡ NoByte
unfolding first_of
no_byte = refl

-- an entry before others that are written
read_step : (s : Session) (manifest rest : List ℕ) (entry : RoundList) (most last at : ℕ) → 0 < most → length manifest < 2 ^ 16
    → list_after s last manifest ≡ Some entry
    → lists_from most s last at (entry_bytes manifest ++ rest)
    ≡ before entry (lists_from (most - 1) s entry.0 (at + length (entry_bytes manifest)) rest)
read_step s manifest rest entry most last at some fits listed =
    lists_step most s last at (entry_bytes manifest ++ rest) some
    ∙ (ap (lists_by (λ round place others. lists_from (most - 1) s round place others) s last at) (first_written manifest rest fits)
    ∙ rw listed refl)

-- a list before those that are some
some_mapped : (entry : RoundList) (o : Option Lists) (lists : Lists) → option_map (λ others. entry ∷ others) o ≡ Some lists
    → (others : Lists) × (o ≡ Some others) × (entry ∷ others ≡ lists)
some_mapped entry None lists is = absurd (none-some lists is)
some_mapped entry (Some others) lists is = (others, refl, same_Some (entry ∷ others) lists is)

pub read_back : (s : Session) (manifests : List (List ℕ)) (lists : Lists) (most last at : ℕ) → length manifests < most
    → lists_of s last manifests ≡ Some lists → AllByRecursion (λ m. length m < 2 ^ 16) manifests
    → lists_from most s last at (table_bytes manifests) ≡ Ok lists
read_back s [] lists most last at few are fit =
    lists_step most s last at [] (omega arith)
    ∙ (ap (lists_by (λ round place rest. lists_from (most - 1) s round place rest) s last at) no_byte ∙ ap Ok (same_Some [] lists are))
read_back s (manifest ∷ manifests) lists most last at few are fit =
    option_and_then_some (λ (entry : RoundList). option_map (λ others. entry ∷ others) (lists_of s entry.0 manifests)) (list_after s last manifest) lists are
    (λ entry listed rest_are.
    let others = some_mapped entry (lists_of s entry.0 manifests) lists rest_are in
    read_step s manifest (table_bytes manifests) entry most last at (omega arith) fit.0 listed
    ∙ (ap (before entry)
    (read_back s manifests others.0 (most - 1) entry.0 (at + length (entry_bytes manifest)) (omega arith) others.1 fit.1)
    ∙ ap Ok others.2))

-- if the length of what gives a list fits, all lengths fit
pub all_fit : (s : Session) (manifests : List (List ℕ)) (lists : Lists) (last : ℕ)
    → ((last : ℕ) (manifest : List ℕ) (entry : RoundList) → list_after s last manifest ≡ Some entry → length manifest < 2 ^ 16)
    → lists_of s last manifests ≡ Some lists → AllByRecursion (λ m. length m < 2 ^ 16) manifests
all_fit s [] lists last each are = tt
all_fit s (manifest ∷ manifests) lists last each are =
    option_and_then_some (λ (entry : RoundList). option_map (λ others. entry ∷ others) (lists_of s entry.0 manifests)) (list_after s last manifest) lists are
    (λ entry listed rest_are.
    let others = some_mapped entry (lists_of s entry.0 manifests) lists rest_are in
    (each last manifest entry listed, all_fit s manifests others.0 entry.0 each others.1))

pub entries_many : (manifests : List (List ℕ)) → length manifests ≤ length (table_bytes manifests)
entries_many [] = omega arith
entries_many (manifest ∷ manifests) = simp (length-append, length_u16) (omega (arith, entries_many manifests))
