use Rattle.std.proofs.Common.{length, get_or, None, sym, ap, ◌∙◌, arith}
use Rattle.std.specs.Option.{option_map}
use Rattle.bar_terms.specs.Table.{digests_of}
use Rattle.bar_terms.proofs.Lookups.{count_is}
use Rattle.bar_terms.proofs.table.Table.count.Goals as goal

pub returns : goal.returns
returns c =
    let t = c.self.inside in
    c.in_ok-get.ensures.lookup.3.1 None ∙ ap (λ counts. get_or counts c.args.round None) c.deref.ensures.value ∙ sym (count_is t.counts.items t.digests.items t.per_round c.args.round c.self.invariant) ∙ ap (λ v. option_map length (digests_of v.lists c.args.round)) c.self.view_is

pub returns-in_err-get : goal.returns-in_err-get
returns-in_err-get c =
    let t = c.self.inside in
    c.from_residual.ensures ∙ c.in_err-get.ensures.lookup.4 (omega arith) None ∙ ap (λ counts. get_or counts c.args.round None) c.deref.ensures.value ∙ sym (count_is t.counts.items t.digests.items t.per_round c.args.round c.self.invariant) ∙ ap (λ v. option_map length (digests_of v.lists c.args.round)) c.self.view_is
