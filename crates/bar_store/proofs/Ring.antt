-- The rooms of a store as a ring: no two rounds that may be held at once share their rooms.
use Rattle.std.proofs.Common.{◌≡◌, ℕ, ◌+◌, ◌*◌, ◌%◌, ◌/◌, ◌<◌, ◌≤◌, Bool, true, false, List, length, get_or, replicate, Option, Some, None, refl, sym, ap, subst, ◌∙◌, inl, inr, arith}
use Rattle.std.specs.Prelude.{nat_le, if◌then◌else◌}
use Rattle.std.specs.Bool.{then_some}
use Rattle.std.specs.Option.{option_or}
use Rattle.std.proofs.Math.ListN.{set}
use Rattle.std.proofs.Math.Nat.{mul-le-mul_left, div-add-mod}
use Rattle.std.proofs.lemmas.Nat.{same_from_place, mul-add-lt, mod_below}
use Rattle.std.proofs.lemmas.Bool.{cases_lt, cases_eq, cases_Bool, false≢true}
use Rattle.std.proofs.lemmas.Bool.Decides.{nat_tests}
use Rattle.std.proofs.lemmas.List.{get_or-set_same, get_or-set_other, get_or-replicate, length-replicate, length-set, get_or_past}
use Rattle.std.proofs.lemmas.Option.{same_Some}
use Rattle.bar_window.specs.declared.update.UpdateId.{UpdateId}
use Rattle.bar_window.specs.Updates.{same_update}
use Rattle.bar_window.proofs.Sets.{same_is, one_update}
use Rattle.bar_store.specs.declared.kept_block.KeptBlock.{KeptBlock}
use Rattle.bar_store.specs.Code.Rooms.{room_of, block_if, block_at, HasBlockRooms}

-- if two numbers have the same remainder and one has the smaller quotient, it is smaller by at least the divisor
less : (n a b : ℕ) → a % n ≡ b % n → a / n < b / n → a + n ≤ b
less n a b e lt =
    let le : a / n + 1 ≤ b / n = omega (arith, lt) in
    omega (arith, div-add-mod a n, div-add-mod b n, mul-le-mul_left n le)

-- two numbers with the same remainder that differ by less than the divisor are equal
pub near_is_same : (n a b : ℕ) → a % n ≡ b % n → a < b + n → b < a + n → a ≡ b
near_is_same n a b e low high = elim (cases_lt (a / n) (b / n)) [
  | inl lt ↦ absurd (omega (arith, less n a b e lt, high))
  | inr ge ↦ elim (cases_lt (b / n) (a / n)) [
    | inl gt ↦ absurd (omega (arith, less n b a (sym e) gt, low))
    | inr le ↦
        let q : a / n ≡ b / n = omega (arith, ge, le) in
        omega (arith, div-add-mod a n, div-add-mod b n, ap (λ k. n * k) q, e)
  ]
]

-- The update may be held: there is a room for its index, and its round is in time.
pub record IsInTime (life per_round round : ℕ) (u : UpdateId) : Type 0 where
  pub index : u.index < per_round
  pub near : u.round ≤ round + 1
  pub fresh : round ≤ u.round + life + 1

-- two updates in time that share a room are equal
one_room : (life per_round round : ℕ) (u v : UpdateId) → IsInTime life per_round round u → IsInTime life per_round round v → room_of life per_round u ≡ room_of life per_round v → u ≡ v
one_room life per_round round u v a b e =
    let places = same_from_place (u.round % (life + 3)) u.index (v.round % (life + 3)) v.index per_round a.index b.index e in
    one_update u v (near_is_same (life + 3) u.round v.round places.0 (omega (arith, a.near, b.fresh)) (omega (arith, b.near, a.fresh))) places.1

option_or-none : (o : Option (List ℕ)) → option_or o None ≡ o
option_or-none None = refl
option_or-none (Some x) = refl

-- the room of an update is one of the store's
pub room_inside : (life per_round : ℕ) (u : UpdateId) → u.index < per_round → room_of life per_round u < (life + 3) * per_round
room_inside life per_round u index = omega (arith, mul-add-lt (u.round % (life + 3)) per_round u.index (life + 3) (mod_below u.round (life + 3) (omega arith)) index)

-- if an update isn't held and shares its room with another one, the room contains no block of that one
no_other : (life per_round round : ℕ) (rooms : List (Option KeptBlock)) (id u : UpdateId) (o : Option KeptBlock) → HasBlockRooms life per_round round rooms → IsInTime life per_round round id
    → block_at life per_round round rooms id ≡ None → room_of life per_round u ≡ room_of life per_round id → round ≤ u.round + life + 1
    → get_or rooms (room_of life per_round u) None ≡ o → block_if u o ≡ None
no_other life per_round round rooms id u None has time none e fresh is = refl
no_other life per_round round rooms id u (Some k) has time none e fresh is = elim (cases_Bool (same_update u k.id)) [
  | inl same ↦
      let it : u ≡ k.id = same_is u k.id same in
      let index : k.id.index < per_round = has.few (room_of life per_round u) k is in
      let near : k.id.round ≤ round + 1 = has.near (room_of life per_round u) k is in
      let u_time : IsInTime life per_round round u = record { index = subst (λ (v : UpdateId). v.index < per_round) (sym it) index; near = subst (λ (v : UpdateId). v.round ≤ round + 1) (sym it) near; fresh = fresh } in
      let u_none = subst (λ v. block_at life per_round round rooms v ≡ None) (sym (one_room life per_round round u id u_time time e)) none in
      let late : nat_le round (u.round + life + 1) ≡ true = grind (arith, nat_tests, fresh) in
      rw (late, is) at u_none
  | inr other ↦ rw other refl
]

-- choices between a value and `None`
if_late : (late : Bool) (o : Option (List ℕ)) → (late ≡ false → o ≡ None) → (if late then o else None) ≡ o
if_late true o none = refl
if_late false o none = sym (none refl)

none_or : (o p : Option (List ℕ)) → o ≡ None → option_or o p ≡ p
none_or o p e = rw e refl

if_none : (late : Bool) (o : Option (List ℕ)) → (late ≡ true → o ≡ None) → (if late then o else None) ≡ None
if_none true o none = none refl
if_none false o none = refl

-- after a new block is held, the held blocks are the old ones and this one
pub after_hold : (life per_round round : ℕ) (rooms : List (Option KeptBlock)) (id : UpdateId) (block : List ℕ) → HasBlockRooms life per_round round rooms → IsInTime life per_round round id
    → block_at life per_round round rooms id ≡ None → (u : UpdateId)
    → block_at life per_round round (set rooms (room_of life per_round id) (Some (record { id = id; block = block }))) u
    ≡ option_or (block_at life per_round round rooms u) (then_some (same_update u id) block)
after_hold life per_round round rooms id block has time none u =
    let k : KeptBlock = record { id = id; block = block } in
    let i : ℕ = room_of life per_round id in
    let j : ℕ = room_of life per_round u in
    let late : Bool = nat_le round (u.round + life + 1) in
    let old : Option (List ℕ) = block_at life per_round round rooms u in
    let added : Option (List ℕ) = then_some (same_update u id) block in
    let inside : i < length rooms = omega (arith, room_inside life per_round id time.index, has.count) in
    elim (cases_eq j i) [
      | inl e ↦
          let read : get_or (set rooms i (Some k)) j None ≡ Some k = ap (λ n. get_or (set rooms i (Some k)) n None) e ∙ get_or-set_same rooms i (Some k) None inside in
          let fresh : late ≡ true → round ≤ u.round + life + 1 = λ t. grind (arith, nat_tests, t) in
          let was : old ≡ None = if_none late (block_if u (get_or rooms j None)) (λ t. no_other life per_round round rooms id u (get_or rooms j None) has time none e (fresh t) refl) in
          ap (λ o. if late then block_if u o else None) read
          ∙ if_late late added (λ f. elim (cases_Bool (same_update u id)) [
            | inl same ↦
                let on_time : nat_le round (id.round + life + 1) ≡ true = grind (arith, nat_tests, time.fresh) in
                absurd (false≢true (sym f ∙ ap (λ (v : UpdateId). nat_le round (v.round + life + 1)) (same_is u id same) ∙ on_time))
            | inr other ↦ ap (λ b. then_some b block) other
          ])
          ∙ sym (none_or old added was)
      | inr ne ↦
          let differs : same_update u id ≡ false = elim (cases_Bool (same_update u id)) [ inl same ↦ absurd (ne (ap (room_of life per_round) (same_is u id same))) | inr other ↦ other ] in
          ap (λ o. if late then block_if u o else None) (get_or-set_other rooms i j (Some k) None ne)
          ∙ sym (option_or-none old)
          ∙ ap (λ b. option_or old (then_some b block)) (sym differs)
    ]

-- the rooms afterwards are valid
pub rooms_after : (life per_round round : ℕ) (rooms : List (Option KeptBlock)) (id : UpdateId) (block : List ℕ) → HasBlockRooms life per_round round rooms → IsInTime life per_round round id
    → HasBlockRooms life per_round round (set rooms (room_of life per_round id) (Some (record { id = id; block = block })))
rooms_after life per_round round rooms id block has time =
    let i : ℕ = room_of life per_round id in
    let k : KeptBlock = record { id = id; block = block } in
    let inside : i < length rooms = omega (arith, room_inside life per_round id time.index, has.count) in
    record {
      count = length-set rooms i (Some k) ∙ has.count;
      near = λ room l is. elim (cases_eq room i) [
        | inl e ↦ let it : k ≡ l = same_Some k l (sym (get_or-set_same rooms i (Some k) None inside) ∙ ap (λ n. get_or (set rooms i (Some k)) n None) (sym e) ∙ is) in subst (λ (l : KeptBlock). l.id.round ≤ round + 1) it time.near
        | inr ne ↦ has.near room l (sym (get_or-set_other rooms i room (Some k) None ne) ∙ is)
      ];
      few = λ room l is. elim (cases_eq room i) [
        | inl e ↦ let it : k ≡ l = same_Some k l (sym (get_or-set_same rooms i (Some k) None inside) ∙ ap (λ n. get_or (set rooms i (Some k)) n None) (sym e) ∙ is) in subst (λ (l : KeptBlock). l.id.index < per_round) it time.index
        | inr ne ↦ has.few room l (sym (get_or-set_other rooms i room (Some k) None ne) ∙ is)
      ];
    }

none_at : (n i : ℕ) → get_or (replicate {A = Option KeptBlock} n None) i None ≡ None
none_at n i = elim (cases_lt i n) [
  | inl lt ↦ get_or-replicate n i None None lt
  | inr ge ↦ get_or_past (replicate n None) i None (omega (arith, ge, length-replicate {A = Option KeptBlock} n None))
]

-- if all rooms are empty, no block is held
pub none_in : (life per_round round n : ℕ) (u : UpdateId) → block_at life per_round round (replicate n None) u ≡ None
none_in life per_round round n u =
    if_none (nat_le round (u.round + life + 1)) (block_if u (get_or (replicate n None) (room_of life per_round u) None)) (λ t. ap (block_if u) (none_at n (room_of life per_round u)))

-- the held blocks after `forget` with a later round
pub after_forget : (life per_round round now : ℕ) (rooms : List (Option KeptBlock)) (u : UpdateId) → round ≤ now
    → block_at life per_round now rooms u ≡ (if nat_le now (u.round + life + 1) then block_at life per_round round rooms u else None)
after_forget life per_round round now rooms u le = elim (cases_Bool (nat_le now (u.round + life + 1))) [
  | inl t ↦ let s : nat_le round (u.round + life + 1) ≡ true = grind (arith, nat_tests) in rw (t, s) refl
  | inr f ↦ rw f refl
]

pub rooms_later : (life per_round round now : ℕ) (rooms : List (Option KeptBlock)) → round ≤ now → HasBlockRooms life per_round round rooms → HasBlockRooms life per_round now rooms
rooms_later life per_round round now rooms le has = record {
  count = has.count;
  near = λ room k is. omega (arith, has.near room k is, le);
  few = has.few;
}
