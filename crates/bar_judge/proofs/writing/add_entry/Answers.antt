use Rattle.std.proofs.Common.{◌∙◌, ◌++◌, List, ℕ, ap, append_assoc}
use Rattle.bar_bytes.specs.Bytes.{u16_bytes}
use Rattle.bar_judge.proofs.writing.add_entry.Goals as goal

pub returns-clause-ok : goal.returns-clause-ok
unfolding u16_bytes
returns-clause-ok c =
    let manifest = c.args.manifest.now in
    let out = c.args.out.now.items in
    let len = c.to_be_bytes-len.result in
    let kept = c.in_ok-reserve.ensures.items in
    let first = c.in-Ok.ensures.items in
    let second = c.in-Ok-extend_from_slice.ensures.items in
    second ∙ (ap (λ (xs : List ℕ). xs ++ manifest) (first ∙ ap (λ (xs : List ℕ). xs ++ len) kept)
    ∙ (append_assoc out len manifest ∙ ap (λ (xs : List ℕ). out ++ (xs ++ manifest)) c.to_be_bytes-len.ensures))
