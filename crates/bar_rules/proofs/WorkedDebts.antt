-- Worked examples of version 3, computed by the definitions: who owes a key, and a briefcase that is sent again with the request for its
-- key.
use Rattle.std.proofs.Common.{◌≡◌, ℕ, List, [], ◌∷◌, ◌++◌, Bool, true, false, refl}
use Rattle.std.specs.Prelude.{map}
use Rattle.bar_window.specs.declared.exchange.Role.TheVariants.{Initiator, Responder}
use Rattle.bar_wire.specs.Datagram.{Response}
use Rattle.bar_wire.specs.declared.kind.Kind.TheVariants as kinds
use Rattle.bar_rules.specs.Member.{Member}
use Rattle.bar_rules.specs.Peer.Debts.{owes}
use Rattle.bar_rules.specs.Peer.Knowledge.{known}
use Rattle.bar_rules.specs.Peer.Log.{Log}
use Rattle.bar_rules.specs.Peer.Orders.{Order, AskKey, Resend, Reveal}
use Rattle.bar_rules.specs.Peer.Ticks.{again}
use Rattle.bar_rules.proofs.Worked.{session, me, after, heard, said, from_partner, hb, trade, trade_case, trade_key, both_cases}

-- the member of a session of this version
abbrev in_version : ℕ → Member
in_version version = record me { session = record session { shape = record session.shape { version = version } } }

-- its KEY of a trade of round 6 is said at tick 41
abbrev unpaid : ℕ → Log
unpaid ticks = after ticks ++ said 1 (trade_key Initiator) ∷ after 41

abbrev is_owed_at : ℕ → ℕ → Bool
is_owed_at version ticks = owes (in_version version) (known (in_version version) (unpaid ticks)) 1

-- ---- debts

-- from the first tick of round 8, which is 57, to the last one of round 10
a_key_is_owed_while_it_may_come : map (is_owed_at 3) (0 ∷ 15 ∷ 16 ∷ 39 ∷ 40 ∷ []) ≡ false ∷ false ∷ true ∷ true ∷ false ∷ []
a_key_is_owed_while_it_may_come = refl

nothing_is_owed_in_versions_1_and_2 : map (λ version. is_owed_at version 16) (1 ∷ 2 ∷ []) ≡ false ∷ false ∷ []
nothing_is_owed_in_versions_1_and_2 = refl

a_key_that_came_is_not_owed :
    owes (in_version 3) (known (in_version 3) (after 16 ++ heard (from_partner (trade_key Responder)) ∷ unpaid 0)) 1 ≡ false
a_key_that_came_is_not_owed = refl

without_the_own_key_nothing_is_owed : owes (in_version 3) (known (in_version 3) (after 57 ++ both_cases)) 1 ≡ false
without_the_own_key_nothing_is_owed = refl

nobody_else_owes_it : owes (in_version 3) (known (in_version 3) (unpaid 16)) 2 ≡ false
nobody_else_owes_it = refl

-- ---- briefcases

abbrev again_in : ℕ → Log → List Order
again_in version log = again (in_version version) (known (in_version version) log) trade

-- the answer to the own request, and then both briefcases or only the own one
abbrev with_both : ℕ → Log
with_both ticks = after ticks ++ heard (from_partner (Response 6 hb)) ∷ both_cases

abbrev with_own : ℕ → Log
with_own ticks = after ticks ++ heard (from_partner (Response 6 hb)) ∷ said 1 (trade_case Initiator hb) ∷ []

-- in the last tick of round 8, in the first of round 9, and in the last of round 10
a_case_goes_again_with_the_request_for_its_key :
    map (λ ticks. again_in 3 (with_both ticks)) (64 ∷ 65 ∷ 80 ∷ [])
    ≡ (Resend kinds.Case trade ∷ AskKey trade ∷ []) ∷ (AskKey trade ∷ []) ∷ (AskKey trade ∷ []) ∷ []
a_case_goes_again_with_the_request_for_its_key = refl

without_the_partners_it_goes_behind_the_divulge :
    map (λ ticks. again_in 3 (with_own ticks)) (64 ∷ 65 ∷ []) ≡ (Reveal trade ∷ Resend kinds.Case trade ∷ []) ∷ [] ∷ []
without_the_partners_it_goes_behind_the_divulge = refl

a_key_that_was_said_or_came_ends_it :
    map (again_in 3) ((said 1 (trade_key Initiator) ∷ with_both 64) ∷ (heard (from_partner (trade_key Responder)) ∷ with_both 64) ∷ [])
    ≡ (AskKey trade ∷ []) ∷ [] ∷ []
a_key_that_was_said_or_came_ends_it = refl

in_versions_1_and_2_the_request_goes_alone : map (λ version. again_in version (with_both 64)) (1 ∷ 2 ∷ []) ≡ (AskKey trade ∷ []) ∷ (AskKey trade ∷ []) ∷ []
in_versions_1_and_2_the_request_goes_alone = refl
