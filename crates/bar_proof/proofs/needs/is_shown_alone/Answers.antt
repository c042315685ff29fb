use Rattle.std.proofs.Common.{◌≡◌, ◌∙◌, [], ap}
use Rattle.std.specs.Prelude.{is_some}
use Rattle.bar_terms.specs.Table.{Lists, digests_of}
use Rattle.bar_terms.specs.Code.Room.{TableWithRoom}
use Rattle.bar_rules.specs.Judge.Verdict.{fault_of}
use Rattle.bar_judge.specs.Code.Parts.{datagrams, with_second}
use Rattle.bar_judge.specs.Code.Verdicts.{plain_fault}
use Rattle.bar_proof.proofs.NeedLemmas.{same-datagrams, is-some-mapped}
use Rattle.bar_proof.proofs.needs.is_shown_alone.Goals as goal

pub returns-clause-exact : goal.returns-clause-exact
returns-clause-exact g c =
    let s = c.args.session.now in
    let one = c.args.pair.now.one in
    let empty : c.in_ok-empty.empty.lists ≡ [] = ap (λ (t : TableWithRoom). t.lists) c.in_ok-empty.ensures in
    c.is_some.ensures
    ∙ is-some-mapped plain_fault c.found-fault.result
    ∙ ap is_some c.found-fault.ensures.exact
    ∙ ap (λ (lists : Lists). is_some (fault_of s (digests_of lists) (datagrams s.shape one c.as_ref.result))) empty
    ∙ ap (λ ds. is_some (fault_of s (digests_of []) ds)) (same-datagrams s.shape one c.as_ref.result ∙ ap (with_second s.shape one) c.as_ref.ensures.value)
