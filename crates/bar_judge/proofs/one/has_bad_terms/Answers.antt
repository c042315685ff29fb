use Rattle.bar_judge.proofs.one.has_bad_terms.Goals as goal

pub terms_ok-requires : goal.terms_ok-requires
terms_ok-requires c = record {
  windows = rw (c.shape-shape.ensures.value, c.exchange-x.ensures.round)
      (c.in-Some.ensures.windows c.args.session.now.shape c.requires.read.view.body.windows);
}

pub has_counts-requires-clause-windows : goal.has_counts-requires-clause-windows
has_counts-requires-clause-windows c = c.in-Some.ensures.aligned c.args.session.now.shape c.requires.read.view.body.windows
