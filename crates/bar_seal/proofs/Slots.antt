-- A leaf determines the kind of its message, and its place.
use Rattle.std.proofs.Common.{◌≡◌, ℕ, zero, suc, ◌+◌, ◌-◌, ◌*◌, ◌<◌, ◌≤◌, true, refl, sym, ap, ◌∙◌, inl, inr, arith}
use Rattle.std.specs.Prelude.{Some, None, ◌⊎◌}
use Rattle.bar_window.specs.declared.exchange.XKind.{XKind}
use Rattle.bar_window.specs.declared.exchange.XKind.TheVariants.{Balanced, Push}
use Rattle.bar_window.specs.declared.exchange.Role.{Role}
use Rattle.bar_window.specs.declared.exchange.Role.TheVariants.{Initiator, Responder}
use Rattle.bar_wire.specs.Datagram.{Body, Manifest, Request, Response, Divulge, Query, Reply, Case, KeyReq, Key, Evict, is_signed, round_of, part_of, kind_number}
use Rattle.bar_wire.specs.Limits.{leaves_a_round, exchanges_a_round, seats_a_round}
use Rattle.bar_seal.specs.Leaves.{first_slot, step_of, leaf_at, leaf_by, leaf_of}

-- the groups of three slots
group : XKind → Role → ℕ → ℕ
group Balanced Initiator seat = 0
group Push Initiator seat = 1
group Balanced Responder seat = 2 + seat
group Push Responder seat = 2 + (seats_a_round + seat)

slot_is : (k : XKind) (r : Role) (s : ℕ) → first_slot k r s ≡ 3 * group k r s
unfolding group
slot_is Balanced Initiator s = refl
slot_is Push Initiator s = refl
slot_is Balanced Responder s = omega arith
slot_is Push Responder s = omega arith

group_low : (k : XKind) (r : Role) (s : ℕ) → s < seats_a_round → group k r s < exchanges_a_round
unfolding group
group_low Balanced Initiator s h = omega arith
group_low Push Initiator s h = omega arith
group_low Balanced Responder s h = omega arith
group_low Push Responder s h = omega arith

step_low : (b : Body) → step_of b < 3
step_low (Case c) = omega arith
step_low (Key k) = omega arith
step_low b = omega arith

group_names : (k l : XKind) (a b : Role) (m n : ℕ) → m < seats_a_round → n < seats_a_round → group k a m ≡ group l b n → (k ≡ l) × (a ≡ b) × (a ≡ Responder → m ≡ n)
unfolding group
group_names Balanced Balanced Initiator Initiator m n h i e = (refl, refl, λ z. cc)
group_names Push Push Initiator Initiator m n h i e = (refl, refl, λ z. cc)
group_names Balanced Balanced Responder Responder m n h i e = (refl, refl, λ z. omega arith)
group_names Push Push Responder Responder m n h i e = (refl, refl, λ z. omega arith)
group_names Balanced Push Initiator Initiator m n h i e = absurd (omega arith)
group_names Push Balanced Initiator Initiator m n h i e = absurd (omega arith)
group_names Balanced Push Responder Responder m n h i e = absurd (omega arith)
group_names Push Balanced Responder Responder m n h i e = absurd (omega arith)
group_names Balanced Balanced Initiator Responder m n h i e = absurd (omega arith)
group_names Balanced Push Initiator Responder m n h i e = absurd (omega arith)
group_names Push Balanced Initiator Responder m n h i e = absurd (omega arith)
group_names Push Push Initiator Responder m n h i e = absurd (omega arith)
group_names Balanced Balanced Responder Initiator m n h i e = absurd (omega arith)
group_names Balanced Push Responder Initiator m n h i e = absurd (omega arith)
group_names Push Balanced Responder Initiator m n h i e = absurd (omega arith)
group_names Push Push Responder Initiator m n h i e = absurd (omega arith)

numbers : (r s g h i j : ℕ) → g < exchanges_a_round → h < exchanges_a_round → i < 3 → j < 3 → leaves_a_round * r + (3 * g + i) ≡ leaves_a_round * s + (3 * h + j) → (r ≡ s) × (g ≡ h) × (i ≡ j)
numbers r s g h i j a b c d e = (omega arith, omega arith, omega arith)

-- the kind of message that belongs to a step of a side
kind_by : ℕ → XKind → Role → ℕ
kind_by zero Balanced Initiator = 3
kind_by zero Balanced Responder = 4
kind_by zero Push Initiator = 6
kind_by zero Push Responder = 7
kind_by (suc zero) k role = 8
kind_by (suc (suc n)) k role = 10

kind_is : (b : Body) (p : ℕ × XKind × Role) → is_signed b ≡ true → part_of b ≡ Some p → kind_number b ≡ kind_by (step_of b) p.1 p.2
unfolding kind_by
kind_is (Request r d c) p s part = let same : (r, Balanced, Initiator) ≡ p = cc in ap (λ (z : ℕ × XKind × Role). kind_by 0 z.1 z.2) same
kind_is (Response r hb) p s part = let same : (r, Balanced, Responder) ≡ p = cc in ap (λ (z : ℕ × XKind × Role). kind_by 0 z.1 z.2) same
kind_is (Query r d y o) p s part = let same : (r, Push, Initiator) ≡ p = cc in ap (λ (z : ℕ × XKind × Role). kind_by 0 z.1 z.2) same
kind_is (Reply r w g z) p s part = let same : (r, Push, Responder) ≡ p = cc in ap (λ (z : ℕ × XKind × Role). kind_by 0 z.1 z.2) same
kind_is (Case c) p s part = refl
kind_is (Key k) p s part = refl
kind_is b p s part = cc

pub leaf_is : (b : Body) (p : ℕ × XKind × Role) (s : ℕ) → part_of b ≡ Some p → leaf_of b s ≡ leaf_at p.0 p.1 p.2 (step_of b) s
leaf_is (Request r d c) p s part = ap (λ o. leaf_by o 0 s) part
leaf_is (Response r hb) p s part = ap (λ o. leaf_by o 0 s) part
leaf_is (Divulge r n ha) p s part = ap (λ o. leaf_by o 0 s) part
leaf_is (Query r d y o) p s part = ap (λ o. leaf_by o 0 s) part
leaf_is (Reply r w g z) p s part = ap (λ o. leaf_by o 0 s) part
leaf_is (Case c) p s part = ap (λ o. leaf_by o 1 s) part
leaf_is (KeyReq r k role) p s part = ap (λ o. leaf_by o 0 s) part
leaf_is (Key k) p s part = ap (λ o. leaf_by o 2 s) part
leaf_is b p s part = cc

pub peers_named : (b c : Body) (p q : ℕ × XKind × Role) (s t : ℕ) → is_signed b ≡ true → is_signed c ≡ true → part_of b ≡ Some p → part_of c ≡ Some q → 1 ≤ p.0 → 1 ≤ q.0 → s < seats_a_round → t < seats_a_round
    → leaf_of b s ≡ leaf_of c t → (kind_number b ≡ kind_number c) × (p ≡ q) × (p.2 ≡ Responder → s ≡ t)
peers_named b c p q s t sb sc pb pc lp lq ls lt same =
    let n = numbers (p.0 - 1) (q.0 - 1) (group p.1 p.2 s) (group q.1 q.2 t) (step_of b) (step_of c) (group_low p.1 p.2 s ls) (group_low q.1 q.2 t lt) (step_low b) (step_low c)
    (omega (arith, leaf_is b p s pb, leaf_is c q t pc, slot_is p.1 p.2 s, slot_is q.1 q.2 t, same))
    in
    let g = group_names p.1 q.1 p.2 q.2 s t ls lt n.1 in
    let round : p.0 ≡ q.0 = omega (arith, n.0, lp, lq) in
    (kind_is b p sb pb ∙ ((λ i. kind_by (n.2 i) (g.0 i) (g.1 i)) ∙ sym (kind_is c q sc pc)), (λ i. (round i, g.0 i, g.1 i)), g.2)

-- ---- the broadcaster

abbrev IsManifest : Body → ℕ → Type 0
IsManifest b s = (kind_number b ≡ 1) × (leaf_of b s ≡ 2 * (round_of b - 1))

abbrev IsNotice : Body → ℕ → Type 0
IsNotice b s = (kind_number b ≡ 12) × (leaf_of b s ≡ 2 * (round_of b - 1) + 1)

caster_is : (b : Body) (s : ℕ) → is_signed b ≡ true → part_of b ≡ None → IsManifest b s ⊎ IsNotice b s
caster_is (Manifest r ds) s h part = inl (refl, refl)
caster_is (Evict r ps) s h part = inr (refl, refl)
caster_is b s h part = cc

pub caster_named : (b c : Body) (s t : ℕ) → is_signed b ≡ true → is_signed c ≡ true → part_of b ≡ None → part_of c ≡ None → 1 ≤ round_of b → 1 ≤ round_of c
    → leaf_of b s ≡ leaf_of c t → (kind_number b ≡ kind_number c) × (round_of b ≡ round_of c)
caster_named b c s t sb sc pb pc lb lc same = go (caster_is b s sb pb) (caster_is c t sc pc)
  where
    go : IsManifest b s ⊎ IsNotice b s → IsManifest c t ⊎ IsNotice c t → (kind_number b ≡ kind_number c) × (round_of b ≡ round_of c)
    go (inl x) (inl y) = (x.0 ∙ sym y.0, omega (arith, x.1, y.1, same, lb, lc))
    go (inl x) (inr y) = absurd (omega (arith, x.1, y.1, same, lb, lc))
    go (inr x) (inl y) = absurd (omega (arith, x.1, y.1, same, lb, lc))
    go (inr x) (inr y) = (x.0 ∙ sym y.0, omega (arith, x.1, y.1, same, lb, lc))

-- ---- how many

pub leaves_few : (b : Body) (s rounds : ℕ) → is_signed b ≡ true → 1 ≤ round_of b → round_of b ≤ rounds → s < seats_a_round → leaf_of b s < leaves_a_round * rounds
leaves_few (Manifest r ds) s rounds h low high seat = omega arith
leaves_few (Evict r ps) s rounds h low high seat = omega arith
leaves_few (Request r d c) s rounds h low high seat = omega arith
leaves_few (Response r hb) s rounds h low high seat = omega arith
leaves_few (Query r d y o) s rounds h low high seat = omega arith
leaves_few (Reply r w g z) s rounds h low high seat = omega arith
leaves_few (Case c) s rounds h low high seat = omega (arith, slot_is c.kind c.role s, group_low c.kind c.role s seat)
leaves_few (Key k) s rounds h low high seat = omega (arith, slot_is k.kind k.role s, group_low k.kind k.role s seat)
leaves_few b s rounds h low high seat = cc
