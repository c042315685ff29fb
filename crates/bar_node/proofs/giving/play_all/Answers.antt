use Rattle.std.proofs.Common.{[], ◌∷◌, ◌++◌, take, refl, ◌∙◌}
use Rattle.std.specs.Option.{option_copied}
use Rattle.std.proofs.lemmas.Result.{err_from_is_err_and}
use Rattle.bar_outside.proofs.Following.{nothing_done}
use Rattle.bar_node.specs.Code.Turns.{kept}
use Rattle.bar_node.proofs.Each.{one-more, stopped-at, split-more, all-done}
use Rattle.bar_node.proofs.GivingOut.{keeps-same, keeps-on, count-content}
use Rattle.bar_node.proofs.giving.play_all.Goals as goal

pub contents-init : goal.contents-init
contents-init g c = record {
  keeps = keeps-same _ _;
  left = refl;
  still = λ inputs sends h. h;
  so_far = record { done = []; split = refl; is = λ w was. nothing_done _ };
  counted = refl;
}

pub returns-in_err-keep_bytes-clause-follows : goal.returns-in_err-keep_bytes-clause-follows
returns-in_err-keep_bytes-clause-follows g c = λ w was.
    let p = err_from_is_err_and c.from_residual.result c.from_residual.ensures.1 in
    let i = c.contents.invariant in
    rw (p.1, p.2)
    (stopped-at (kept (option_copied c.args.played)) _ i.so_far.done _ _ _ _ _ _ _ _ i.so_far.split c.in-Some.ensures.gives.0
    (i.so_far.is w was) (c.in_err-keep_bytes.ensures w was))

pub contents-preserved : goal.contents-preserved
contents-preserved g c =
    let i = c.contents.invariant in
    record {
      keeps = keeps-on _ _ _ _ _ _ i.keeps c.in-Some.ensures.keeps;
      left = c.in-Some.ensures.left ∙ i.left;
      still = λ inputs sends h. c.in-Some.ensures.owes inputs sends (i.still inputs sends h);
      so_far = record {
        done = i.so_far.done ++ take c.in-Some.len c.give_content.new.buf ∷ [];
        split = split-more _ _ _ _ _ i.so_far.split c.in-Some.ensures.gives.0;
        is = λ w was. one-more (kept (option_copied c.args.played)) i.so_far.done _ _ _ _ _ _ (i.so_far.is w was) (c.in_ok-keep_bytes.ensures w was);
      };
      counted =
          c.saturating_add-count.ensures
          ∙ count-content i.so_far.done c.give_content.new.buf c.in-Some.len c.contents.count c.in-Some.ensures.gives.1 i.counted;
    }

pub returns-clause-follows : goal.returns-clause-follows
returns-clause-follows g c = λ w was.
    let i = c.contents.invariant in
    all-done (kept (option_copied c.args.played)) _ i.so_far.done _ _ _ _ _ i.so_far.split c.in_default.ensures.gives.0 (i.so_far.is w was)
