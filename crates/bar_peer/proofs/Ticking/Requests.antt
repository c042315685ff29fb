-- The requests of a round: a balanced exchange and, if there are young updates, a push.
use Rattle.std.proofs.Common.{◌≡◌, ◌≤◌, ◌+◌, ℕ, ◌∙◌, true, false, nat_lt, List, ◌++◌, length, sym, ap, refl, subst, arith}
use Rattle.std.proofs.lemmas.List.{append-nil}
use Rattle.bar_window.specs.declared.exchange.XKind.TheVariants.{Balanced, Push}
use Rattle.bar_rules.specs.Member.{Member}
use Rattle.bar_rules.specs.Peer.Choices.{young_of}
use Rattle.bar_rules.specs.Peer.Knowledge.{Knowledge, known, this_round}
use Rattle.bar_rules.specs.Peer.Orders.{Order}
use Rattle.bar_rules.specs.Peer.Replies.{orders_when}
use Rattle.bar_rules.specs.Peer.Rules.{IsObedient}
use Rattle.bar_rules.specs.Peer.Run.{Out, perform_all}
use Rattle.bar_rules.specs.Peer.Ticks.{asking_partner, new_requests}
use Rattle.bar_peer.specs.declared.credentials.Credentials.{Credentials}
use Rattle.bar_peer.specs.declared.memory.Memory.{Memory}
use Rattle.bar_peer.specs.Code.Orders.{Orders}
use Rattle.bar_peer.specs.Code.Memory.{member_of}
use Rattle.bar_peer.specs.Code.Sending.{HasOutcome}
use Rattle.bar_peer.specs.Code.Ticking.{AsksPartner}
use Rattle.bar_laws.proofs.Fitting.{perform_all-before}
use Rattle.bar_peer.proofs.Ticking.Unchanged.{unasked_after}
use Rattle.bar_laws.proofs.Repeating.{all-append}

pub both_asked : (who : Credentials) (round : ℕ) (m n q : Memory) (o p r : Orders) → AsksPartner who round Balanced m o n p
    → AsksPartner who round Push n p q r → length p.list.items ≤ length o.list.items + 1 → p.room ≡ o.room → (out : Out)
    → round ≡ this_round (known (member_of who) out.state)
    → nat_lt 0 (length (young_of (member_of who) (known (member_of who) out.state) round)) ≡ true
    → IsObedient (member_of who)
    (perform_all (member_of who) out (new_requests (member_of who) (known (member_of who) out.state) round)).state
    → HasOutcome out m o → length o.list.items + 2 ≤ o.room
    → HasOutcome (perform_all (member_of who) out (new_requests (member_of who) (known (member_of who) out.state) round)) q r
both_asked who round m n q o p r first second few same out now some obedient h room =
    let me : Member = member_of who in
    let k : Knowledge = known me out.state in
    let os : List Order = asking_partner me k round Balanced in
    let ps : List Order = asking_partner me k round Push in
    let between : Out = perform_all me out os in
    let all : perform_all me between ps ≡ perform_all me out (new_requests me k round) =
    sym (all-append me out os ps) ∙ (λ i. perform_all me out (os ++ orders_when (sym some i) ps))
    in
    let allowed : IsObedient me (perform_all me between ps).state = subst (λ (after : Out). IsObedient me after.state) (sym all) obedient in
    let one : HasOutcome between n p =
    first out k (λ party. refl) (perform_all-before me ps between allowed) h (omega arith)
    in
    subst (λ (after : Out). HasOutcome after q r) all
    (second between k (λ party. sym (unasked_after me out k round Balanced party now)) allowed one (omega arith))

pub balanced_asked : (who : Credentials) (round : ℕ) (m n : Memory) (o p : Orders) → AsksPartner who round Balanced m o n p → (out : Out)
    → nat_lt 0 (length (young_of (member_of who) (known (member_of who) out.state) round)) ≡ false
    → IsObedient (member_of who)
    (perform_all (member_of who) out (new_requests (member_of who) (known (member_of who) out.state) round)).state
    → HasOutcome out m o → length o.list.items + 2 ≤ o.room
    → HasOutcome (perform_all (member_of who) out (new_requests (member_of who) (known (member_of who) out.state) round)) n p
balanced_asked who round m n o p first out none obedient h room =
    let me : Member = member_of who in
    let k : Knowledge = known me out.state in
    let os : List Order = asking_partner me k round Balanced in
    let ps : List Order = asking_partner me k round Push in
    let all : perform_all me out os ≡ perform_all me out (new_requests me k round) =
    ap (perform_all me out) (sym (append-nil os)) ∙ (λ i. perform_all me out (os ++ orders_when (sym none i) ps))
    in
    let allowed : IsObedient me (perform_all me out os).state = subst (λ (after : Out). IsObedient me after.state) (sym all) obedient in
    subst (λ (after : Out). HasOutcome after n p) all (first out k (λ party. refl) allowed h (omega arith))
