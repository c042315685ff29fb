use Rattle.std.proofs.Common.{◌≡◌, ◌≤◌, ◌∙◌, ℕ, [], map, Some, true, false, refl, sym, ap, subst, arith}
use Rattle.std.proofs.lemmas.Bool.{false≢true}
use Rattle.bar_wire.specs.Datagram.{Datagram}
use Rattle.bar_wire.specs.Inputs.{Input}
use Rattle.bar_wire.specs.Inputs as event
use Rattle.bar_rules.specs.Runs.{begun}
use Rattle.bar_session.specs.SessionData.{SessionData}
use Rattle.bar_peer.specs.Code.Steps.{is_tick}
use Rattle.bar_laws.specs.Ignoring.{is_unread}
use Rattle.bar_peer.proofs.Stepping.Ignored.{none_mapped}
use Rattle.bar_wire.specs.Inputs.{plain_input}
use Rattle.bar_rules.specs.Member.{Member}
use Rattle.bar_rules.specs.Peer.Log.{Log}
use Rattle.bar_rules.specs.Peer.Run.{Out, log_after, step}
use Rattle.bar_peer.specs.Code.Memory.{member_of, Represents}
use Rattle.bar_core.specs.Code.Orders.{left_in}
use Rattle.bar_core.proofs.Left.{all-left, nothing-left}
use Rattle.bar_peer.specs.Code.StandsFor.{contents_left}
use Rattle.bar_peer.proofs.Giving.Kept.{kept_while}
use Rattle.bar_peer.proofs.Stepping.Inputs.{log-more, over-stands, none-left, obeys-now, then-stands, then-sends, PlaysNow, tick-step, datagram-step}
use Rattle.bar_peer.proofs.peer.Peer.step.Goals as goal
use Rattle.bar_peer.proofs.peer.Peer.step.Goals.{then-is_tick, else-is_tick}

room : {most old new : ℕ} → most ≤ old → new ≡ old → most ≤ new
room most e = omega (arith, most, e)

pub returns-then-is_over-clause-stands : goal.returns-then-is_over-clause-stands
returns-then-is_over-clause-stands g c inputs stood =
    let m = c.args.self.now.memory in
    let me : Member = member_of m.who in
    let is = over-stands m inputs (plain_input c.args.input) (sym c.is_over.ensures ∙ c.if-is_over.true) stood in
    subst (λ (log : Log). Represents log m) (sym (log-more me [] inputs (plain_input c.args.input) ∙ ap (λ (out : Out). out.state) is)) stood

pub returns-then-is_over-clause-sends : goal.returns-then-is_over-clause-sends
returns-then-is_over-clause-sends g c inputs stood =
    let m = c.args.self.now.memory in
    let is = over-stands m inputs (plain_input c.args.input) (sym c.is_over.ensures ∙ c.if-is_over.true) stood in
    none-left (member_of m.who) _ (left_in c.args.self.now.orders) _ c.requires.sends (ap (λ (out : Out). out.sends) is)

pub returns-then-is_over-clause-contents : goal.returns-then-is_over-clause-contents
returns-then-is_over-clause-contents g c inputs stood =
    let m = c.args.self.now.memory in
    let is = over-stands m inputs (plain_input c.args.input) (sym c.is_over.ensures ∙ c.if-is_over.true) stood in
    c.requires.contents ∙ ap (λ (out : Out). out.contents) (sym is)

pub returns-clause-stands : goal.returns-clause-stands
returns-clause-stands g c inputs stood =
    let m = c.args.self.now.memory in
    let go = sym c.is_over.ensures ∙ c.if-is_over.false in
    let obeys = obeys-now m inputs (plain_input c.args.input) c.signed_by_rule.ensures go stood in
    then-stands m c.take_input-is_same.new.memory c.take_input-is_same.new.orders inputs (plain_input c.args.input) c.take_input-is_same.ensures.who go stood
    (c.take_input-is_same.ensures.stands (log_after (member_of m.who) [] inputs) (c.bad_keys_leave_evidence.ensures (member_of m.who) inputs) obeys stood c.clear.ensures.0 (room c.args.self.now.room c.clear.ensures.2))

pub returns-clause-sends : goal.returns-clause-sends
returns-clause-sends g c inputs stood =
    let m = c.args.self.now.memory in
    let go = sym c.is_over.ensures ∙ c.if-is_over.false in
    let obeys = obeys-now m inputs (plain_input c.args.input) c.signed_by_rule.ensures go stood in
    then-sends m c.take_input-is_same.new.memory c.take_input-is_same.new.orders inputs (plain_input c.args.input) c.take_input-is_same.ensures.who go stood
    (c.take_input-is_same.ensures.stands (log_after (member_of m.who) [] inputs) (c.bad_keys_leave_evidence.ensures (member_of m.who) inputs) obeys stood c.clear.ensures.0 (room c.args.self.now.room c.clear.ensures.2))
    (all-left c.take_input-is_same.new.orders (c.take_input-is_same.ensures.room.given ∙ c.clear.ensures.1))

pub returns-clause-contents : goal.returns-clause-contents
returns-clause-contents g c inputs stood =
    let m = c.args.self.now.memory in
    let go = sym c.is_over.ensures ∙ c.if-is_over.false in
    let obeys = obeys-now m inputs (plain_input c.args.input) c.signed_by_rule.ensures go stood in
    let stands = c.take_input-is_same.ensures.stands (log_after (member_of m.who) [] inputs) (c.bad_keys_leave_evidence.ensures (member_of m.who) inputs) obeys stood c.clear.ensures.0 (room c.args.self.now.room c.clear.ensures.2) in
    elim c.if-is_tick.branch [
      | then-is_tick w ↦
          tick-step c.knowledge_is_enough.ensures.entry m c.take_input-is_same.new.memory c.take_input-is_same.new.orders c.if-is_tick.self inputs (plain_input c.args.input)
          c.take_input-is_same.ensures.who go stood stands (sym c.is_tick-is_tick.ensures ∙ w.if-is_tick.true)
          (subst (PlaysNow c.take_input-is_same.new.memory) (sym w.self-is) w.played_now-self.ensures)
      | else-is_tick w ↦
          datagram-step c.knowledge_is_enough.ensures.entry m c.take_input-is_same.new.memory c.take_input-is_same.new.orders c.if-is_tick.self inputs (plain_input c.args.input)
          c.take_input-is_same.ensures.who go stood stands (sym c.is_tick-is_tick.ensures ∙ w.if-is_tick.false)
          (ap (contents_left c.take_input-is_same.new.memory.store) w.self-is ∙ w.none-self.ensures c.take_input-is_same.new.memory.store)
    ]

pub returns-then-is_over-clause-unread : goal.returns-then-is_over-clause-unread
returns-then-is_over-clause-unread g c unread =
    (record { memory = refl; sends = c.requires.sends; contents = c.requires.contents }, refl)

pub returns-then-is_over-clause-ignored : goal.returns-then-is_over-clause-ignored
returns-then-is_over-clause-ignored g c inputs stood ignored =
    record { memory = refl; sends = c.requires.sends; contents = c.requires.contents }

no-tick : (s : SessionData) (input : Input) → is_tick input ≡ true → false ≡ is_unread s input
no-tick s event.Tick e = refl
no-tick s (event.Datagram bytes) e = absurd (cc)

pub returns-clause-unread : goal.returns-clause-unread
returns-clause-unread g c unread =
    let s = c.args.self.now.memory.who.session in
    let same = c.take_input-is_same.ensures.unread unread in (
      record {
        memory = same.0;
        sends = ap left_in same.1 ∙ nothing-left c.clear.new.self c.clear.ensures.0 c.clear.ensures.1;
        contents = elim c.if-is_tick.branch [
          | then-is_tick w ↦ absurd (false≢true (no-tick s (plain_input c.args.input) (sym c.is_tick-is_tick.ensures ∙ w.if-is_tick.true) ∙ unread))
          | else-is_tick w ↦ ap (contents_left c.take_input-is_same.new.memory.store) w.self-is ∙ w.none-self.ensures c.take_input-is_same.new.memory.store
        ];
      },
      same.2,
    )

pub returns-clause-ignored : goal.returns-clause-ignored
returns-clause-ignored g c inputs stood ignored =
    let m = c.args.self.now.memory in
    let me : Member = member_of m.who in
    let log : Log = log_after me [] inputs in
    let quiet : step me log (plain_input c.args.input) ≡ begun log =
    c.ignored_datagrams_change_nothing.ensures.peers me log (plain_input c.args.input) ignored in
    record {
      memory = c.take_input-is_same.ensures.ignored log (c.bad_keys_leave_evidence.ensures me inputs) (c.signed_by_rule.ensures me m.who.is_member inputs).obedient stood ignored;
      sends = none_mapped _ _ ((returns-clause-sends g c inputs stood).same
          ∙ ap (λ (out : Out). map (λ (send : ℕ × Datagram). Some send) out.sends) quiet);
      contents = returns-clause-contents g c inputs stood ∙ ap (λ (out : Out). out.contents) quiet;
    }

pub invariant_of-self-clause-kept : goal.invariant_of-self-clause-kept
invariant_of-self-clause-kept g c =
    let p = c.args.self.now in
    kept_while p.memory c.take_input-is_same.new.memory p.cases c.keep_while.new.self c.take_input-is_same.result p.kept
    c.take_input-is_same.ensures.same
    c.keep_while.ensures.kept
    c.keep_while.ensures.cleared
