use Rattle.std.proofs.Common.{◌≡◌, ◌+◌, ◌≤◌, ℕ, length}
use Rattle.bar_rules.specs.Peer.Knowledge.{Knowledge, known}
use Rattle.bar_rules.specs.Peer.Run.{Out, perform_all}
use Rattle.bar_peer.specs.Code.Memory.{member_of}
use Rattle.bar_peer.specs.Code.Sending.{HasOutcome}
use Rattle.bar_peer.proofs.Ticking.Reports.{reports_to}
use Rattle.bar_peer.proofs.reports.report_all.Given as goal

-- the outcome has the reports against the peers before the current one
abbrev pub invariant-loop-party : goal.invariant-loop-party
invariant-loop-party l = record {
  done : ℕ;
  at : 1 + done ≡ l.party;
  few : length l.orders.list.items ≤ length l.initial.orders.list.items + done;
  room : l.orders.room ≡ l.initial.orders.room;
  given : l.orders.given ≡ l.initial.orders.given;
  stands : (out : Out) (before : Knowledge)
      → ((party : ℕ) → before.is_announced party ≡ (known (member_of l.memory.who) out.state).is_announced party)
      → ((party : ℕ) → before.evidence party ≡ (known (member_of l.memory.who) out.state).evidence party)
      → HasOutcome out l.memory l.initial.orders
      → length l.initial.orders.list.items + l.memory.who.session.shape.peers ≤ l.initial.orders.room
      → HasOutcome (perform_all (member_of l.memory.who) out (reports_to before done)) l.memory l.orders;
}
