-- The updates of a round's window that are held, and those that aren't.
use Rattle.std.proofs.Common.{◌≡◌, ℕ, ◌-◌, ◌∙◌, Bool, true, not, ◌&&◌, List, [], ◌∷◌, length, filter, take, refl, sym, ap}
use Rattle.std.proofs.lemmas.Bool.{or_left, or_right}
use Rattle.bar_window.specs.declared.update.UpdateId.{UpdateId}
use Rattle.bar_window.specs.declared.window.Window.{Window}
use Rattle.bar_window.specs.Places.{words_in}
use Rattle.bar_window.specs.Updates.{same_update, has_update, minus, both, window_of}
use Rattle.bar_window.specs.Code.Window.{members, round_words, IsWindowOf}
use Rattle.bar_window.proofs.Sets.{same_self, has_contains, contains_has, has_filter}
use Rattle.bar_window.proofs.Spelling.{members_are_set}
use Rattle.bar_terms.specs.Terms.{wanted, given}
use Rattle.bar_terms.specs.declared.push.PushAnswer.{PushAnswer}
use Rattle.bar_wire.specs.Code.Views.{IsWindowIn}
use Rattle.bar_rules.specs.Member.{Member}
use Rattle.bar_rules.specs.Peer.Choices.{wanted_of, given_of}
use Rattle.bar_rules.specs.Peer.Holdings.{history}
use Rattle.bar_rules.specs.Peer.Knowledge.{Knowledge, holds}
use Rattle.bar_push.specs.Code.Chosen.{IsAnswerTo}

-- two tests that agree on the updates of a list select the same ones
filter_agree_on : (p q : UpdateId → Bool) (us : List UpdateId) → ((u : UpdateId) → has_update us u ≡ true → p u ≡ q u)
    → filter p us ≡ filter q us
filter_agree_on p q [] h = refl
filter_agree_on p q (u ∷ us) h =
    let here : p u ≡ q u = h u (or_left (same_update u u) (has_update us u) (same_self u)) in
    let rest : filter p us ≡ filter q us = filter_agree_on p q us (λ v g. h v (or_right (same_update v u) (has_update us v) g)) in
    rw (here, rest) refl

-- an update of a window of the round is in the round's history if and only if it is held
has_held : (p : UpdateId → Bool) (life round : ℕ) (w : Window) → IsWindowOf life round w
    → (u : UpdateId) → has_update (members w) u ≡ true → has_update (filter p (window_of (round_words w) life round)) u ≡ p u
has_held p life round w of u h =
    has_filter p (window_of (round_words w) life round) u
    ∙ ap (λ b. b && p u)
    (contains_has (window_of (round_words w) life round) u ((members_are_set w life round of).inside u (has_contains (members w) u h)))

-- the updates of the window that aren't in the history are those that aren't held
pub lacks_is : (p : UpdateId → Bool) (life round : ℕ) (w : Window) → IsWindowOf life round w
    → minus (members w) (filter p (window_of (round_words w) life round)) ≡ filter (λ u. not (p u)) (members w)
lacks_is p life round w of =
    filter_agree_on (λ u. not (has_update (filter p (window_of (round_words w) life round)) u)) (λ u. not (p u)) (members w)
    (λ u h. ap not (has_held p life round w of u h))

-- the updates of the window that are in the history are those that are held
pub has_is : (p : UpdateId → Bool) (life round : ℕ) (w : Window) → IsWindowOf life round w
    → both (members w) (filter p (window_of (round_words w) life round)) ≡ filter p (members w)
has_is p life round w of = filter_agree_on (has_update (filter p (window_of (round_words w) life round))) p (members w) (has_held p life round w of)

-- what is wanted, computed from the history of the round
pub wanted_is : (me : Member) (k : Knowledge) (round : ℕ) (young : Window) → IsWindowIn me.session.shape round young
    → wanted me.session.cap (members young) (history me.session k.block round) ≡ wanted_of me k (members young)
wanted_is me k round young in_round =
    ap (λ wide. wanted me.session.cap (members young) (filter (holds k) (window_of (words_in wide) me.session.shape.life round))) (sym in_round.wide)
    ∙ ap (take me.session.cap) (lacks_is (holds k) me.session.shape.life round young in_round.of)

-- what is given, computed from the history of the round
pub given_is : (me : Member) (k : Knowledge) (round count : ℕ) (aged : Window) → IsWindowIn me.session.shape round aged
    → given count (members aged) (history me.session k.block round) ≡ take count (filter (holds k) (members aged))
given_is me k round count aged in_round =
    ap (λ wide. given count (members aged) (filter (holds k) (window_of (words_in wide) me.session.shape.life round))) (sym in_round.wide)
    ∙ ap (take count) (has_is (holds k) me.session.shape.life round aged in_round.of)

-- the answer to an offer, computed from the history of the round, is that of the rules
pub answer_is : (me : Member) (k : Knowledge) (round cap : ℕ) (young aged : Window) (held : List UpdateId) (answer : PushAnswer)
    → IsWindowIn me.session.shape round young → IsWindowIn me.session.shape round aged
    → held ≡ history me.session k.block round → cap ≡ me.session.cap
    → members answer.want ≡ wanted cap (members young) held
    → members answer.give ≡ given (length (members answer.want)) (members aged) held
    → answer.junk ≡ length (members answer.want) - length (members answer.give)
    → IsAnswerTo me k (members young) (members aged) answer
answer_is me k round cap young aged held answer of_young of_aged known allowed want give junk =
    let wants : members answer.want ≡ wanted_of me k (members young) =
    want ∙ (λ i. wanted (allowed i) (members young) (known i)) ∙ wanted_is me k round young of_young
    in
    let gives : members answer.give ≡ given_of me k (members young) (members aged) =
    give ∙ (λ i. given (length (wants i)) (members aged) (known i))
    ∙ given_is me k round (length (wanted_of me k (members young))) aged of_aged
    in
    record { want = wants; give = gives; junk = junk ∙ (λ i. length (wants i) - length (gives i)) }
