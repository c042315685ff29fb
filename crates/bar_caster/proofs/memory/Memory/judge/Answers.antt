-- Evidence evicts the party whose fault it shows, once.
use Rattle.std.proofs.Common.{◌∙◌, refl, ap, subst}
use Rattle.bar_terms.specs.Table.{digests_of}
use Rattle.bar_rules.specs.Judge.Verdict.{verdict}
use Rattle.bar_caster.proofs.Judged.{evicted_before, shown, not_shown, Evicts}
use Rattle.bar_caster.proofs.memory.Memory.judge.Goals as goal

pub returns-in-Shown-clause-judged : goal.returns-in-Shown-clause-judged
returns-in-Shown-clause-judged g c = λ log evidence tells of.
    let m = c.args.self.now in
    let same = c.in-Ok.ensures.only evidence of in
    shown log m _ c.in-Shown.party _ evidence c.shown_evidence_is_short.ensures
    (record { same = record { session = refl; secrets = refl; stream = refl }; ticks = refl; table = refl; manifests = refl; notice = refl })
    tells
    (subst (Evicts log m _ c.in-Shown.party) same
    (record { kept_now = c.evict.ensures.kept m.session log; again = c.evict.ensures.again m.session log }))
    of.range
    (c.in-Shown.ensures.exact ∙ ap (verdict m.session (digests_of m.table.lists)) same)

pub returns-in_default-verdict-clause-judged : goal.returns-in_default-verdict-clause-judged
returns-in_default-verdict-clause-judged g c = λ log evidence tells of.
    let m = c.args.self.now in
    let same = c.in-Ok.ensures.only evidence of in
    not_shown log m _ c.verdict.result evidence
    (record { same = record { session = refl; secrets = refl; stream = refl }; ticks = refl; table = refl; manifests = refl; notice = refl })
    refl tells
    (c.verdict.ensures.exact ∙ ap (verdict m.session (digests_of m.table.lists)) same)
    c.in_default-verdict.not-Shown

pub returns-in-Shown-clause-no_news : goal.returns-in-Shown-clause-no_news
returns-in-Shown-clause-no_news g c = λ log evidence tells of quiet.
    let m = c.args.self.now in
    let same = c.in-Ok.ensures.only evidence of in
    record {
      session = refl;
      secrets = refl;
      stream = refl;
      ticks = refl;
      table = refl;
      manifests = refl;
      notice = refl;
      evictions = c.evict.ensures.again m.session log tells.evictions
          (evicted_before log m c.in-Shown.party _ evidence tells (c.in-Shown.ensures.exact ∙ ap (verdict m.session (digests_of m.table.lists)) same) quiet);
    }
