use Rattle.std.proofs.Common.{rules, arith, ◌≡◌, ◌==◌, ◌∙◌, ◌∷◌, [], ℕ, Bool, List, length, ap, sym, true, Ok, Err, Result, OnErr}
use Rattle.std.specs.List.{list_any}
use Rattle.std.proofs.lemmas.Bool.{eqb-true}
use Rattle.bar_outside.specs.Code.MemFiles.{content_of, created_in}
use Rattle.bar_outside.proofs.Contents.{appended-nothing, front-added, none-added}
use Rattle.bar_outside.proofs.mem_files.MemFilesFiles.append.Goals as goal

on-err : {T E : Type 0} (P : Type 0) (r : Result T E) → P → OnErr r P
on-err P (Ok x) h = tt
on-err P (Err e) h = h

-- if no call is to fail, the next one isn't either
none-next : (numbers : List ℕ) (p : ℕ → Bool) → (length numbers == 0) ≡ true → list_any p numbers ≡ true → ⊥
none-next [] p none next = cc
none-next (x ∷ xs) p none next = let h : length (x ∷ xs) ≡ 0 = eqb-true (length (x ∷ xs)) 0 none in omega (arith, h)

pub returns-then-is_listed-clause-appends : goal.returns-then-is_listed-clause-appends
returns-then-is_listed-clause-appends c = record {
  call = search rules;
  same_here = ap created_in c.note_fault.ensures.files ∙ c.add_bytes.ensures.same;
  here = search rules;
  there = search rules;
  added = search rules;
  fault =
      let p = front-added (content_of c.args.self.now.files) (content_of c.add_bytes.new.files) (created_in c.args.self.now.files c.args.path.now)
      c.args.path.now c.args.bytes.now _ c.add_bytes.result c.add_bytes.ensures.added c.add_bytes.ensures.left in
      (p.0, ap content_of c.note_fault.ensures.files ∙ p.1);
  left = λ not.
      ap content_of c.note_fault.ensures.files
      ∙ none-added (content_of c.args.self.now.files) (content_of c.add_bytes.new.files) (created_in c.args.self.now.files c.args.path.now)
      c.args.path.now c.args.bytes.now 0 c.add_bytes.result c.add_bytes.ensures.done c.add_bytes.ensures.left not;
  refused = λ reliable failed. absurd (none-next c.args.self.now.schedule.fail.items _ reliable (sym c.is_listed.ensures.listed ∙ c.if-is_listed.true));
}

pub returns-in_err-add_bytes-clause-appends : goal.returns-in_err-add_bytes-clause-appends
returns-in_err-add_bytes-clause-appends c =
    let same : content_of c.add_bytes-2.new.files ≡ content_of c.args.self.now.files = c.in_err-add_bytes.ensures.left (λ e. cc) in
    record {
      call = search rules;
      same_here = c.add_bytes-2.ensures.same;
      here = search rules;
      there = search rules;
      added = search rules;
      fault = on-err _ c.from_residual.result (0, same ∙ sym (appended-nothing (content_of c.args.self.now.files) c.args.path.now));
      left = λ not. same;
      refused = search rules;
    }

pub returns-clause-appends : goal.returns-clause-appends
returns-clause-appends c =
    let same : content_of c.note_fault-2.new.self.files ≡ content_of c.args.self.now.files =
    ap content_of c.note_fault-2.ensures.files ∙ c.in_ok-add_bytes.ensures.left (λ e. cc) in
    record {
      call = search rules;
      same_here = ap created_in c.note_fault-2.ensures.files ∙ c.add_bytes-2.ensures.same;
      here = search rules;
      there = search rules;
      added = search rules;
      fault = (0, same ∙ sym (appended-nothing (content_of c.args.self.now.files) c.args.path.now));
      left = λ not. same;
      refused = λ reliable failed. sym c.in_ok-add_bytes.ensures.done ∙ c.if-branch.false;
    }
