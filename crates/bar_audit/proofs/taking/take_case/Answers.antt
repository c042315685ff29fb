use Rattle.std.proofs.Common.{rules, None, ◌≡◌, ◌∙◌, sym}
use Rattle.bar_judge.specs.Code.Parts.{plain_briefcase}
use Rattle.bar_wire.specs.Code.Views.{datagram}
use Rattle.bar_audit.specs.Code.Findings.{case_at}
use Rattle.bar_audit.specs.Code.Found.{can_be_opened, promised_by}
use Rattle.bar_audit.proofs.Taken.{nothing-kept, on-ok, case-unopened, case-unsigned, case-taken, none-opens, some-opens, case-put, windows-put}
use Rattle.bar_audit.proofs.taking.take_case.Goals as goal

pub kept_of-requires-clause-windows : goal.kept_of-requires-clause-windows
kept_of-requires-clause-windows g c = c.in-Some.ensures.windows c.args.session.now.shape c.requires.read.view.body.windows

pub returns-in_default-kept_of-clause-kept : goal.returns-in_default-kept_of-clause-kept
returns-in_default-kept_of-clause-kept g c =
    case-unopened c.args.session.now (datagram c.args.session.now.shape c.args.view.now) c.args.side (plain_briefcase c.in-Some.case)
    c.args.found.now.cases.entries c.requires.kind c.requires.place (sym c.in-Some.ensures.told)
    (none-opens c.kept_of.result (can_be_opened c.args.session.now c.args.side.x (plain_briefcase c.in-Some.case)) _ c.kept_of.ensures.value
    c.in_default-kept_of.is)

pub returns-then-not-is_accepted-clause-kept : goal.returns-then-not-is_accepted-clause-kept
returns-then-not-is_accepted-clause-kept g c =
    case-unsigned c.args.session.now (datagram c.args.session.now.shape c.args.view.now) c.args.side c.args.found.now.cases.entries
    c.requires.kind c.requires.place (sym c.is_accepted.ensures.exact ∙ c.if-not-is_accepted.true)

pub returns-clause-kept : goal.returns-clause-kept
returns-clause-kept g c =
    let opened = some-opens c.kept_of.result c.in-Some-kept_of.kept
    (can_be_opened c.args.session.now c.args.side.x (plain_briefcase c.in-Some.case)) _ c.kept_of.ensures.value c.in-Some-kept_of.is in
    let free : case_at c.args.found.now.cases.entries c.args.side ≡ None = search (rules, nothing-kept) in
    on-ok c.put_case.result _ _ (λ kept.
    case-taken c.args.session.now (datagram c.args.session.now.shape c.args.view.now) c.args.side (plain_briefcase c.in-Some.case)
    c.args.found.now.cases.entries c.put_case.new.self.cases.entries c.requires.kind c.requires.place (sym c.in-Some.ensures.told)
    (sym c.is_accepted.ensures.exact ∙ c.if-not-is_accepted.false) opened.0
    free
    (λ any. case-put c.args.side any c.in-Some-kept_of.kept (promised_by c.args.session.now (plain_briefcase c.in-Some.case))
    c.args.found.now.cases.entries c.put_case.new.self.cases.entries opened.1 (kept any))) c.put_case.ensures.kept

pub returns-clause-windows : goal.returns-clause-windows
returns-clause-windows g c =
    let when : c.args.side.x.round ≡ c.in-Some.case.round = search rules in
    on-ok c.put_case.result _ _ (λ kept stand.
    windows-put c.args.session.now c.args.side c.in-Some-kept_of.kept c.in-Some.case.round c.in-Some.case.terms c.args.found.now.cases.entries
    c.put_case.new.self.cases.entries kept when c.in-Some-kept_of.ensures.terms
    (c.in-Some.ensures.in_session c.args.session.now.shape c.requires.read.view.body.windows) stand) c.put_case.ensures.kept
