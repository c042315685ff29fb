-- Rooms of one size, made one by one.
use Rattle.std.proofs.Common.{◌≡◌, ℕ, zero, suc, ◌+◌, ◌++◌, List, [], ◌∷◌, length, Option, Some, None, refl, sym, ap, ◌∙◌, inl, inr, ◌⊎◌, arith, length-append}
use Rattle.std.specs.Prelude.{slice_get, option_and_then}
use Rattle.std.proofs.lemmas.Option.{same_Some}
use Rattle.bar_bytes.specs.Code.Room.{RoomFor}
use Rattle.bar_bytes.specs.Code.Sized.{AreSized}

-- n rooms of one size, in which nothing is kept
pub record AreEmpty (size : ℕ) (rooms : List RoomFor) (n : ℕ) : Type 0 where
  pub count : length rooms ≡ n
  pub each : (number : ℕ) (room : RoomFor) → slice_get rooms number ≡ Some room → room ≡ record { size = size; kept = None }

pub empty_none : (size : ℕ) → AreEmpty size [] 0
empty_none size = record { count = refl; each = λ number room is. absurd (cc) }

at_end : (rooms : List RoomFor) (last : RoomFor) (number : ℕ) (room : RoomFor) → slice_get (rooms ++ last ∷ []) number ≡ Some room → (slice_get rooms number ≡ Some room) ⊎ (room ≡ last)
at_end [] last zero room is = inr (sym (same_Some last room is))
at_end [] last (suc number) room is = absurd (cc)
at_end (r ∷ rooms) last zero room is = inl is
at_end (r ∷ rooms) last (suc number) room is = at_end rooms last number room is

pub empty_more : (size : ℕ) (rooms : List RoomFor) (n : ℕ) (room : RoomFor) → AreEmpty size rooms n → room ≡ record { size = size; kept = None } → AreEmpty size (rooms ++ room ∷ []) (n + 1)
empty_more size rooms n room a is = record {
  count = omega (arith, length-append rooms (room ∷ []), a.count);
  each = λ number r e. elim (at_end rooms room number r e) [ inl old ↦ a.each number r old | inr new ↦ new ∙ is ];
}

pub all_sized : (size : ℕ) (rooms : List RoomFor) (n : ℕ) → AreEmpty size rooms n → AreSized size rooms
all_sized size rooms n a = record { each = λ number room is. ap (λ (r : RoomFor). r.size) (a.each number room is) }

none_by : (size : ℕ) (o : Option RoomFor) → ((r : RoomFor) → o ≡ Some r → r ≡ record { size = size; kept = None }) → option_and_then (λ room. room.kept) o ≡ None
none_by size None each = refl
none_by size (Some r) each = ap (λ (r : RoomFor). r.kept) (each r refl)

pub none_kept : (size : ℕ) (rooms : List RoomFor) (n number : ℕ) → AreEmpty size rooms n → option_and_then (λ room. room.kept) (slice_get rooms number) ≡ None
none_kept size rooms n number a = none_by size (slice_get rooms number) (a.each number)
