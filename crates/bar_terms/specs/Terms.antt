-- What each side of an exchange promises by its terms, and when terms are valid.
use Rattle.std.specs.Prelude.{ℕ, ◌+◌, ◌-◌, ◌/◌, ◌==◌, ◌&&◌, max, min, Bool, true, List, ◌++◌, take, length, map, nat_le}
use Rattle.std.specs.List.{range_with_len}
use Rattle.bar_window.specs.declared.update.UpdateId.{UpdateId}
use Rattle.bar_window.specs.declared.exchange.Role.{Role}
use Rattle.bar_window.specs.declared.exchange.Role.TheVariants.{Initiator, Responder}
use Rattle.bar_window.specs.Updates.{first_round, minus, both, is_inside, is_of_rounds}
use Rattle.bar_window.specs.Terms.{Terms}
use Rattle.bar_window.specs.Terms as forms
use Rattle.bar_terms.specs.declared.items.Item.{Item}
use Rattle.bar_terms.specs.declared.items.Item.TheVariants.{Update, Junk}
use Rattle.bar_terms.specs.Table.{Table, none_past_end}

-- how many updates each side of a balanced exchange pays
abbrev pub trade_count : ℕ → List UpdateId → List UpdateId → ℕ
trade_count cap ha hb = min cap (min (length (minus ha hb)) (length (minus hb ha)))

-- what a responder wants of the young updates that it is offered, and what it gives of the aged ones in return
abbrev pub wanted : ℕ → List UpdateId → List UpdateId → List UpdateId
wanted cap young held = take cap (minus young held)

abbrev pub given : ℕ → List UpdateId → List UpdateId → List UpdateId
given count aged held = take count (both aged held)

abbrev pub promised_updates : ℕ → Terms → Role → List UpdateId
promised_updates cap (forms.Balanced nonce ha hb) Initiator = take (trade_count cap ha hb) (minus ha hb)
promised_updates cap (forms.Balanced nonce ha hb) Responder = take (trade_count cap ha hb) (minus hb ha)
promised_updates cap (forms.Push young aged want give junk) Initiator = want
promised_updates cap (forms.Push young aged want give junk) Responder = give

abbrev pub promised_junk : Terms → Role → ℕ
promised_junk (forms.Balanced nonce ha hb) role = 0
promised_junk (forms.Push young aged want give junk) Initiator = 0
promised_junk (forms.Push young aged want give junk) Responder = junk

-- what a side promises: its updates in order, then its junk
abbrev pub promise : ℕ → Terms → Role → List Item
promise cap terms role = map Update (promised_updates cap terms role) ++ map Junk (range_with_len 0 (promised_junk terms role))

-- the rules for an offer: the rounds of its young and of its aged updates, their numbers, and the ends of known lists
abbrev pub offer_rounds : ℕ → ℕ → List UpdateId → List UpdateId → Bool
offer_rounds life round young aged =
    is_of_rounds (max 1 (round - 1)) round young && is_of_rounds (first_round life round) (round - life / 2) aged

abbrev pub offer_sizes : ℕ → List UpdateId → List UpdateId → Bool
offer_sizes cap young aged = nat_le (length young) cap && nat_le (length aged) cap

abbrev pub offer_ok : ℕ → ℕ → Table → ℕ → List UpdateId → List UpdateId → Bool
offer_ok cap life table round young aged =
    offer_rounds life round young aged && offer_sizes cap young aged && (none_past_end table young && none_past_end table aged)

-- the rules for the answer to an offer: what is wanted, given and padded
abbrev pub answer_ok : ℕ → List UpdateId → List UpdateId → List UpdateId → List UpdateId → ℕ → Bool
answer_ok cap young aged want give junk =
    (is_inside want young && is_inside give aged) && (nat_le 1 (length want) && nat_le (length want) cap) &&
    (length want == length give + junk)

-- whether terms are valid, in a round and under a table
abbrev pub terms_ok : ℕ → ℕ → Table → ℕ → Terms → Bool
terms_ok cap life table round (forms.Balanced nonce ha hb) =
    nat_le 1 (trade_count cap ha hb) && (none_past_end table ha && none_past_end table hb)
terms_ok cap life table round (forms.Push young aged want give junk) =
    offer_ok cap life table round young aged && answer_ok cap young aged want give junk

-- whether they are valid under the empty table, apart from the rounds of an offer; then each side promises something
abbrev pub can_promise : ℕ → Terms → Bool
can_promise cap (forms.Balanced nonce ha hb) = nat_le 1 (trade_count cap ha hb)
can_promise cap (forms.Push young aged want give junk) = offer_sizes cap young aged && answer_ok cap young aged want give junk

-- the rule on the rounds alone
abbrev pub rounds_ok : ℕ → ℕ → Terms → Bool
rounds_ok life round (forms.Balanced nonce ha hb) = true
rounds_ok life round (forms.Push young aged want give junk) = offer_rounds life round young aged
