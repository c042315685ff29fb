use Rattle.std.proofs.Common.{rules, ◌≡◌, ◌≤◌, Ok, Some, drop, length, arith}
use Rattle.std.proofs.lemmas.List.{take-append-le}
use Rattle.bar_system.proofs.link.RealLinkLink.next.Goals as goal
use Rattle.bar_system.proofs.link.RealLinkLink.next.Goals.{in-Some, in-None}

pub returns-in-Ok-Some-clause-hands_on : goal.returns-in-Ok-Some-clause-hands_on
returns-in-Ok-Some-clause-hands_on g c =
    elim c.match-self.branch [
      | in-Some w ↦
          let done : w.wait-taken.result ≡ Ok (Some c.in-Ok-Some.len) = search rules in
          let gives = rw done at w.wait-taken.ensures.gives in
          let within = rw done at w.wait-taken.ensures.within in
          let few : c.in-Ok-Some.len ≤ length w.wait-taken.new.buf = omega (arith, within, w.wait-taken.ensures.whole) in
          rw (w.self-is, w.in-Some.is, w.buf-is, take-append-le c.in-Ok-Some.len w.wait-taken.new.buf (drop 65507 c.args.buf.now) few) gives
      | in-None w ↦ search rules
    ]

pub returns-in-Ok-Some-clause-takes : goal.returns-in-Ok-Some-clause-takes
returns-in-Ok-Some-clause-takes g c = record {
  acts = record {
    reliable = search rules;
    cause = search rules;
    done = search rules;
    fault = tt;
    refused = search rules;
  };
  within = search rules;
}
