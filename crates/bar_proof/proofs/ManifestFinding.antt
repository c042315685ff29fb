-- Looking for the manifest of a round in a table file, entry by entry.
use Rattle.std.proofs.Common.{◌≡◌, ℕ, ◌+◌, ◌<◌, ◌≤◌, Bool, true, false, cond, List, [], ◌∷◌, length, refl, ap, sym, subst, ◌∙◌, arith}
use Rattle.std.specs.Prelude.{Some, None, find}
use Rattle.std.specs.Borrow.{Bor}
use Rattle.bar_judge.specs.declared.entries.First.{First as RawFirst}
use Rattle.bar_judge.specs.declared.entries.First.TheVariants as raw
use Rattle.bar_judge.specs.TableFile.{NoByte, Entry, NoEntry, first_of, table_bytes}
use Rattle.bar_judge.specs.Code.TableViews.{plain_first}
use Rattle.bar_judge.proofs.TableWriting.{first_written, entries_many, no_byte}
use Rattle.bar_proof.specs.ProofFile.{AreShort}

-- Some manifests are left, and the first one of them that passes is the first of all.
pub record Remain (p : List ℕ → Bool) (manifests : List (List ℕ)) (rest : List ℕ) (most i : ℕ) : Type 0 where
  pub left : List (List ℕ)
  pub short : AreShort left
  pub is : rest ≡ table_bytes left
  pub same : find p manifests ≡ find p left
  pub few : length left + i ≤ most

-- this holds for any manifests that the table file encodes
abbrev pub RemainsOf : (List ℕ → Bool) → List ℕ → List ℕ → ℕ → Type 0
RemainsOf p table rest i = (manifests : List (List ℕ)) → AreShort manifests → table ≡ table_bytes manifests → Remain p manifests rest (length table) i

pub all-remain : (p : List ℕ → Bool) (table : List ℕ) → RemainsOf p table table 0
all-remain p table manifests short is = record {
  left = manifests;
  short = short;
  is = is;
  same = refl;
  few = omega (arith, entries_many manifests, ap length is);
}

-- the first of those that are left is the next entry
pub record IsFirst (left : List (List ℕ)) (manifest others : List ℕ) : Type 0 where
  pub behind : List (List ℕ)
  pub is : left ≡ manifest ∷ behind
  pub others_are : others ≡ table_bytes behind

first-left : (left : List (List ℕ)) (rest manifest others : List ℕ) → AreShort left → rest ≡ table_bytes left → first_of rest ≡ Entry manifest others
    → IsFirst left manifest others
first-left [] rest manifest others short is first =
    let e : NoByte ≡ Entry manifest others = sym no_byte ∙ (sym (ap first_of is) ∙ first) in absurd cc
first-left (m ∷ left) rest manifest others short is first =
    let e : Entry m (table_bytes left) ≡ Entry manifest others = sym (first_written m (table_bytes left) short.0) ∙ (sym (ap first_of is) ∙ first) in
    let one : m ≡ manifest = cc in
    let two : table_bytes left ≡ others = cc in
    record { behind = left; is = ap (λ n. n ∷ left) one; others_are = sym two }

pub found-here : (p : List ℕ → Bool) (table rest manifest others : List ℕ) (i : ℕ) → RemainsOf p table rest i → first_of rest ≡ Entry manifest others
    → p manifest ≡ true → (manifests : List (List ℕ)) → AreShort manifests → table ≡ table_bytes manifests → Some manifest ≡ find p manifests
found-here p table rest manifest others i remains first passes manifests short is =
    let r = remains manifests short is in
    let f = first-left r.left rest manifest others r.short r.is first in
    sym (r.same ∙ (ap (find p) f.is ∙ ap (λ b. cond b (Some manifest) (find p f.behind)) passes))

pub fewer-remain : (p : List ℕ → Bool) (table rest manifest others : List ℕ) (i : ℕ) → RemainsOf p table rest i → first_of rest ≡ Entry manifest others
    → p manifest ≡ false → RemainsOf p table others (i + 1)
fewer-remain p table rest manifest others i remains first fails manifests short is =
    let r = remains manifests short is in
    let f = first-left r.left rest manifest others r.short r.is first in
    let all : AreShort (manifest ∷ f.behind) = subst AreShort f.is r.short in
    record {
      left = f.behind;
      short = all.1;
      is = f.others_are;
      same = r.same ∙ (ap (find p) f.is ∙ ap (λ b. cond b (Some manifest) (find p f.behind)) fails);
      few = omega (arith, r.few, ap length f.is);
    }

pub none-here : (p : List ℕ → Bool) (table rest : List ℕ) (i : ℕ) → RemainsOf p table rest i → (found : RawFirst) → plain_first found ≡ first_of rest
    → ((manifest others : Bor (List ℕ)) → found ≡ raw.Entry manifest others → ⊥)
    → (manifests : List (List ℕ)) → AreShort manifests → table ≡ table_bytes manifests → None ≡ find p manifests
none-here p table rest i remains found is none manifests short of =
    let r = remains manifests short of in sym (r.same ∙ ap (find p) (nothing r.left found r.short (is ∙ ap first_of r.is) none))
  where
    nothing : (left : List (List ℕ)) (found : RawFirst) → AreShort left → plain_first found ≡ first_of (table_bytes left)
        → ((manifest others : Bor (List ℕ)) → found ≡ raw.Entry manifest others → ⊥) → left ≡ []
    nothing [] found short is none = refl
    nothing (m ∷ left) raw.NoByte short is none = absurd (let e : NoByte ≡ Entry m (table_bytes left) = is ∙ first_written m (table_bytes left) short.0 in cc)
    nothing (m ∷ left) raw.NoEntry short is none = absurd (let e : NoEntry ≡ Entry m (table_bytes left) = is ∙ first_written m (table_bytes left) short.0 in cc)
    nothing (m ∷ left) (raw.Entry manifest others) short is none = absurd (none manifest others refl)

pub none-left : (p : List ℕ → Bool) (table rest : List ℕ) (i : ℕ) → RemainsOf p table rest i → length table < i
    → (manifests : List (List ℕ)) → AreShort manifests → table ≡ table_bytes manifests → None ≡ find p manifests
none-left p table rest i remains past manifests short of = let r = remains manifests short of in absurd (omega (arith, r.few, past))
