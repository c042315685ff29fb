-- Lists of eight and of two numbers, element by element.
use Rattle.std.proofs.Common.{◌≡◌, ◌<◌, ℕ, List, [], ◌∷◌, length, take, get_or, refl, ap, arith, false, inl, inr, length-append}
use Rattle.std.specs.Prelude.{bytes_eq}
use Rattle.std.proofs.lemmas.Bool.{cases_Bool}
use Rattle.std.proofs.lemmas.List.{length-take}
use Rattle.std.proofs.lemmas.Slice.Eq.{bytes_eq-Decides}
use Rattle.bar_bytes.proofs.Lengths.{length_u16}
use Rattle.bar_record.specs.Recording.{head_bytes}

pub eight : (xs : List ℕ) → length xs ≡ 8
    → get_or xs 0 0 ∷ get_or xs 1 0 ∷ get_or xs 2 0 ∷ get_or xs 3 0 ∷ get_or xs 4 0 ∷ get_or xs 5 0 ∷ get_or xs 6 0 ∷ get_or xs 7 0 ∷ [] ≡ xs
eight (a ∷ b ∷ c ∷ d ∷ e ∷ f ∷ g ∷ h ∷ []) long = refl
eight [] long = absurd (omega arith)
eight (a ∷ []) long = absurd (omega arith)
eight (a ∷ b ∷ []) long = absurd (omega arith)
eight (a ∷ b ∷ c ∷ []) long = absurd (omega arith)
eight (a ∷ b ∷ c ∷ d ∷ []) long = absurd (omega arith)
eight (a ∷ b ∷ c ∷ d ∷ e ∷ []) long = absurd (omega arith)
eight (a ∷ b ∷ c ∷ d ∷ e ∷ f ∷ []) long = absurd (omega arith)
eight (a ∷ b ∷ c ∷ d ∷ e ∷ f ∷ g ∷ []) long = absurd (omega arith)
eight (a ∷ b ∷ c ∷ d ∷ e ∷ f ∷ g ∷ h ∷ i ∷ js) long = absurd (omega arith)

pub length_head : (id : List ℕ) (party : ℕ) → length id ≡ 8 → length (head_bytes id party) ≡ 15
length_head id party long = simp (length-append, length_u16) (omega (arith, long))

-- if there are fewer bytes than in a head, they don't begin with one
pub no_head : (bytes id : List ℕ) (party : ℕ) → length id ≡ 8 → length bytes < 15 → bytes_eq (take 15 bytes) (head_bytes id party) ≡ false
no_head bytes id party long short = elim (cases_Bool (bytes_eq (take 15 bytes) (head_bytes id party))) [
  | inl same ↦
      let is : take 15 bytes ≡ head_bytes id party = (bytes_eq-Decides (take 15 bytes) (head_bytes id party)).0 same in
      absurd (omega (arith, ap length is, length_head id party long, length-take {A = ℕ}))
  | inr other ↦ other
]
