use Rattle.std.proofs.Common.{[], ◌∷◌, ◌++◌, take, refl, ap, length, sym, ◌∙◌}
use Rattle.std.proofs.lemmas.Result.{err_from_is_err_and}
use Rattle.bar_outside.proofs.Following.{nothing_done}
use Rattle.bar_node.specs.Code.Counting.{capped}
use Rattle.bar_node.proofs.Each.{one-more, stopped-at, split-more, split-end, all-done}
use Rattle.bar_node.proofs.GivingOut.{keeps-same, keeps-on, count-send}
use Rattle.bar_node.proofs.giving.give_all.Goals as goal

pub datagrams-init : goal.datagrams-init
datagrams-init g c = record {
  keeps = keeps-same _ _;
  plays = refl;
  of_each = λ inputs sends stands owed. record {
    left = sends;
    owed = owed;
    so_far = record { done = []; split = refl; is = λ w. nothing_done _ };
    counted = refl;
  };
}

pub returns-in_err-give-clause-follows : goal.returns-in_err-give-clause-follows
returns-in_err-give-clause-follows g c = λ inputs sends stands owed w.
    let p = err_from_is_err_and c.from_residual.result c.from_residual.ensures.1 in
    let i = c.datagrams.invariant in
    let s = i.of_each inputs sends stands owed in
    let given = c.in-Some.ensures.gives inputs s.left (i.keeps.stands inputs stands) s.owed in
    rw (p.1, p.2)
    (stopped-at (g.O.Outlet.given c.args.number) _ s.so_far.done _ _ _ _ _ _ _ _ s.so_far.split given.1 (s.so_far.is w)
    (c.in_err-give.ensures w))

pub datagrams-preserved : goal.datagrams-preserved
datagrams-preserved g c =
    let i = c.datagrams.invariant in
    record {
      keeps = keeps-on _ _ _ _ _ _ i.keeps c.in-Some.ensures.keeps;
      plays = c.in-Some.ensures.plays ∙ i.plays;
      of_each = λ inputs sends stands owed.
          let s = i.of_each inputs sends stands owed in
          let given = c.in-Some.ensures.gives inputs s.left (i.keeps.stands inputs stands) s.owed in
          record {
            left = given.0;
            owed = given.2;
            so_far = record {
              done = s.so_far.done ++ (c.in-Some.to, take c.in-Some.len c.give_datagram.new.buf) ∷ [];
              split = split-more _ _ _ _ _ s.so_far.split given.1;
              is = λ w. one-more (g.O.Outlet.given c.args.number) s.so_far.done _ _ _ _ _ _ (s.so_far.is w) (c.in_ok-give.ensures w);
            };
            counted = c.saturating_add-count.ensures ∙ count-send s.so_far.done _ c.datagrams.count s.counted;
          };
    }

pub returns-clause-follows : goal.returns-clause-follows
returns-clause-follows g c = λ inputs sends stands owed w.
    let i = c.datagrams.invariant in
    let s = i.of_each inputs sends stands owed in
    let given = c.in_default.ensures.gives inputs s.left (i.keeps.stands inputs stands) s.owed in
    all-done (g.O.Outlet.given c.args.number) _ s.so_far.done _ _ _ _ _ s.so_far.split given.0 (s.so_far.is w)

pub returns-clause-count : goal.returns-clause-count
returns-clause-count g c = λ inputs sends stands owed.
    let i = c.datagrams.invariant in
    let s = i.of_each inputs sends stands owed in
    let given = c.in_default.ensures.gives inputs s.left (i.keeps.stands inputs stands) s.owed in
    s.counted ∙ ap (λ xs. capped (length xs)) (sym (split-end _ s.so_far.done _ s.so_far.split given.0))
