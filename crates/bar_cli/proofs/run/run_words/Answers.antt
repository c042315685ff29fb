use Rattle.std.proofs.Common.{◌≡◌, ◌∙◌, Option, None, Some, Err, refl, ap, sym, subst, inl, arith}
use Rattle.bar_outside.specs.Plan.{outside}
use Rattle.bar_outside.proofs.Ending.{EndsWith-ending}
use Rattle.bar_cli.specs.Line.{Line, usage}
use Rattle.bar_cli.specs.Ran.{CommandRan}
use Rattle.bar_cli.specs.Status.{code_of, said_at}
use Rattle.bar_cli.specs.Code.Views.{command_view}
use Rattle.bar_cli.proofs.RunLemmas.{no-memory, over-no_link}
use Rattle.bar_cli.proofs.SessionLemmas.{no-session}
use Rattle.bar_cli.proofs.StatusLemmas.{memory-status, no-usage}
use Rattle.bar_cli.proofs.run.run_words.Goals as goal

some-line : {a b : Line} → ◌≡◌ {A = Option Line} (Some a) (Some b) → a ≡ b
some-line e = cc

none-some : {a : Line} (o : Option Line) → o ≡ None → o ≡ Some a → ⊥
none-some o e f = cc

-- ---- the arguments are a valid command line

pub returns-in-Ok-clause-ran : goal.returns-in-Ok-clause-ran
returns-in-Ok-clause-ran g c = λ was.
    subst (λ (line : Option Line). CommandRan line
    (outside (g.F.Files.disk c.args.files.now was) (g.K.Sink.stream c.args.out.now) (g.L.Link.wire c.args.link.now))
    (outside (g.F.Files.disk c.run_command.new.files was) (g.K.Sink.stream c.run_command.new.out) (g.L.Link.wire c.run_command.new.link))
    (g.S.Spawner.children c.args.spawn.now) (g.S.Spawner.children c.run_command.new.spawn)
    (code_of c.run_command.result) (said_at c.run_command.result)) (sym c.in-Ok.ensures.line) (c.run_command.ensures.ran was)

pub returns-in-Ok-clause-few_leaves : goal.returns-in-Ok-clause-few_leaves
returns-in-Ok-clause-few_leaves g c = λ asked is four.
    (c.run_command.ensures.leaves asked (some-line (sym c.in-Ok.ensures.line ∙ is))).0 four

pub returns-in-Ok-clause-leaves_refused : goal.returns-in-Ok-clause-leaves_refused
returns-in-Ok-clause-leaves_refused g c = λ asked is few.
    inl ((c.run_command.ensures.leaves asked (some-line (sym c.in-Ok.ensures.line ∙ is))).1 few)

pub returns-in-Ok-clause-usage : goal.returns-in-Ok-clause-usage
returns-in-Ok-clause-usage g c = λ two. absurd (no-usage (command_view c.in-Ok.command) _ (c.run_command.ensures.ran (λ path. None)).statuses two)

-- ---- the arguments aren't a valid command line

pub returns-in-Err-Usage-clause-ran : goal.returns-in-Err-Usage-clause-ran
returns-in-Err-Usage-clause-ran g c = λ was.
    let now = outside (g.F.Files.disk c.args.files.now was) (g.K.Sink.stream c.args.out.now) (g.L.Link.wire c.args.link.now) in
    let kids = g.S.Spawner.children c.args.spawn.now in
    subst (λ (line : Option Line). CommandRan line now now kids kids 2 usage)
    (sym (c.in-Err-Usage.ensures.usage (ap Err c.in-Err-Usage.field-0-is))) (record {
      ends = λ plan.
          over-no_link _ _ _ _ _ (g.L.Link.wire c.args.link.now) _ _ (λ content. tt) (λ e. absurd (omega arith))
          (EndsWith-ending 2 usage now refl);
      statuses = refl;
      unprinted = λ quiet. refl;
      unread = λ alone. refl;
      unlinked = λ none. refl;
      session = λ names is. absurd (none-some _ refl is);
      childless = λ none. refl;
    })

pub returns-in-Err-Usage-clause-leaves_refused : goal.returns-in-Err-Usage-clause-leaves_refused
returns-in-Err-Usage-clause-leaves_refused g c =
    λ asked is few. absurd (none-some _ (c.in-Err-Usage.ensures.usage (ap Err c.in-Err-Usage.field-0-is)) is)

-- ---- memory ran out

pub returns-in-Err-NoMemory-clause-ran : goal.returns-in-Err-NoMemory-clause-ran
returns-in-Err-NoMemory-clause-ran g c = λ was. record {
  ends = λ plan.
      no-memory _ (outside (g.F.Files.disk c.args.files.now was) (g.K.Sink.stream c.args.out.now) (g.L.Link.wire c.args.link.now));
  statuses = memory-status _;
  unprinted = λ quiet. refl;
  unread = λ alone. refl;
  unlinked = λ none. refl;
  session = λ names is.
      no-session names (outside (g.F.Files.disk c.args.files.now was) (g.K.Sink.stream c.args.out.now) (g.L.Link.wire c.args.link.now)) _;
  childless = λ none. refl;
}
