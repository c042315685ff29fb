use Rattle.std.proofs.Common.{◌≡◌, ◌≤◌, ◌+◌, ◌-◌, ◌∙◌, ◌++◌, ℕ, List, Option, None, Some, length, take, drop, length-drop, sym, ap, subst, arith}
use Rattle.std.proofs.Math.Seq.{take-add}
use Rattle.std.proofs.lemmas.List.{take_rest}
use Rattle.std.specs.Io.KnownBytes.{Appends, Keeps}
use Rattle.std.proofs.KnownBytes.{Appends-trans}
use Rattle.bar_system.proofs.outside.write_bytes.Goals as goal
use Rattle.bar_system.proofs.outside.write_bytes.Goals.{in-Ok, in-Err+else-ne}

kept : (a b c : Option (List ℕ)) (bs : List ℕ) → Appends a b bs → Keeps b c → Appends a c bs
kept None b c bs p q = tt
kept (Some x) None c bs p q = absurd p
kept (Some x) (Some y) None bs p q = absurd q
kept (Some x) (Some y) (Some z) bs p q = q ∙ p

pub loop-preserved : goal.loop-preserved
loop-preserved g c =
    let contents = g.W.Write.contents in
    let bytes = c.args.bytes.now in
    let took = c.loop.took in
    let (small, appended) = c.loop.invariant in
    let rest : take (length bytes - took) (drop took bytes) ≡ drop took bytes = take_rest bytes took in
    elim c.match-write.branch [
      | in-Ok w ↦
          let more = w.in-Ok.more in
          let whole : take took bytes ++ take more (take (length bytes - took) (drop took bytes)) ≡ take (took + more) bytes =
          ap (λ l. take took bytes ++ take more l) rest ∙ sym (take-add took more bytes) in
          let few : more ≤ length bytes - took = subst (λ n. more ≤ n) (ap length rest ∙ length-drop took bytes) w.in-Ok.ensures.bound in
          subst (λ n. (n ≤ length bytes) × Appends (contents c.args.stream.now) (contents c.write.new.self) (take n bytes)) (sym w.took-is)
          (omega (arith, small, few), subst (Appends _ _) whole (Appends-trans _ _ _ _ _ appended w.in-Ok.ensures.bytes))
      | in-Err+else-ne w ↦
          subst (λ n. (n ≤ length bytes) × Appends (contents c.args.stream.now) (contents c.write.new.self) (take n bytes)) (sym w.took-is)
          (small, kept _ _ _ _ appended w.in-Err.ensures.bytes)
    ]
