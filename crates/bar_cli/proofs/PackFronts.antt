-- The effects of `pack` when it is done in part.
use Rattle.std.proofs.Common.{◌⊎◌, ℕ, List, IsTrue, refl, subst, inl, inr}
use Rattle.bar_outside.specs.Plan.{Outside}
use Rattle.bar_outside.specs.Stages.{IsUnchanged}
use Rattle.bar_proof.specs.Laws.{TablesAreSpelled}
use Rattle.bar_proof.specs.Packing.{ShownIsPacked}
use Rattle.bar_cli.specs.Pack.{PackFiles, HasShownOne, NotPackedFront, ProofWritten, PackFront, PackStands, packed_line, file_of}
use Rattle.bar_cli.proofs.MadeFiles.{IsPartlyMade, made-so-far}
use Rattle.bar_session_files.proofs.Accepted.{AreInRange}
use Rattle.bar_cli.proofs.PackRows.{IsMaking, HasPrintedReason, Outcome, not-packed, other-untouched, packed}

-- a prefix of the reason was printed
told-front : (names : PackFiles) (old new : Outside) (status : ℕ) → IsTrue new.files.told → HasPrintedReason names old new status →
    NotPackedFront names old new
told-front names old new status told t = record {
  accepted = t.accepted;
  why = t.why;
  is = t.is;
  printed = t.told.front;
  files = t.told.files;
}

-- nothing was changed or printed, or the proof file was begun; if a write to the output failed, the whole proof file was written
abbrev ProofSoFar : PackFiles → ℕ → Outside → Outside → Type 0
ProofSoFar names status old new =
    IsUnchanged status old new
    ⊎ ((one : HasShownOne names old.files.content)
    × IsPartlyMade names.proof (file_of names old.files.content one) (packed_line (file_of names old.files.content one)) status old new)

so-far : (names : PackFiles) (old new : Outside) (status : ℕ) → IsTrue new.files.told → IsMaking names old new status →
    ProofSoFar names status old new
so-far names old new status told p =
    let file : List ℕ = file_of names old.files.content p.one in
    elim (made-so-far names.proof file (packed_line file) old new status told p.went.part) [ inl same ↦ inl same | inr b ↦ inr (p.one, b) ]

module _ (names : PackFiles) (old new : Outside) (status : ℕ) (told : IsTrue new.files.told) where
  -- at every status, nothing was changed or printed, or a prefix of the reason was printed, or the proof file was begun
  pub a_front : Outcome names old new status → PackFront names old new
  a_front (inl r) = inl (r.0.files, r.0.out)
  a_front (inr (inl t)) = inr (inl (told-front names old new status told t))
  a_front (inr (inr p)) =
      elim (so-far names old new status told p) [
        | inl same ↦ inl (same.files, same.out)
        | inr b ↦ inr (inr (record {
          one = b.0;
          written_count = b.1.written_count;
          printed_count = b.1.printed_count;
          written = b.1.written;
          printed = b.1.printed;
          order = b.1.order;
        }))
      ]

-- what was written if the output failed
pub at-output : (names : PackFiles) (old new : Outside) → IsTrue new.files.told → Outcome names old new 7 →
    ProofWritten names old new ⊎ NotPackedFront names old new
at-output names old new told (inl r) = absurd (r.0.no_output refl)
at-output names old new told (inr (inl t)) = inr (told-front names old new 7 told t)
at-output names old new told (inr (inr p)) =
    elim (so-far names old new 7 told p) [
      | inl same ↦ absurd (same.no_output refl)
      | inr b ↦
          inl (record { one = b.0; printed_count = b.1.printed_count; written = b.1.at_output refl; printed = b.1.printed })
    ]

-- all properties of `pack`
pub stands : ShownIsPacked → TablesAreSpelled → AreInRange → (names : PackFiles) (old new : Outside) (status : ℕ) → IsTrue new.files.told →
    Outcome names old new status → PackStands names old new status
stands law spells ranged names old new status told o = record {
  packed = λ zero. packed names old new law spells ranged told (subst (Outcome names old new) zero o);
  not_packed = λ one. not-packed names old new (subst (Outcome names old new) one o);
  front = a_front names old new status told o;
  others = λ path differs. other-untouched names old new status path told differs o;
}
