-- A key signs as its session's scheme does, whatever signatures it remembers.
use Rattle.std.proofs.Common.{◌∙◌, sym, subst}
use Rattle.bar_hss.specs.declared.chosen.SessionScheme.{SessionScheme}
use Rattle.bar_hss.specs.Files.{SignsFor}
use Rattle.bar_peer.proofs.of_key.Peer+SessionScheme.of_key.Goals as goal

pub start-requires-clause-verifies : goal.start-requires-clause-verifies
start-requires-clause-verifies c =
    let signs : SignsFor c.args.session c.args.key.secrets.secret c.remember.new.self =
    subst (λ (k : SessionScheme). SignsFor c.args.session c.args.key.secrets.secret k) (sym c.remember.ensures) c.requires.signs
    in
    signs.accepts

pub start-requires-clause-names : goal.start-requires-clause-names
start-requires-clause-names c =
    let signs : SignsFor c.args.session c.args.key.secrets.secret c.remember.new.self =
    subst (λ (k : SessionScheme). SignsFor c.args.session c.args.key.secrets.secret k) (sym c.remember.ensures) c.requires.signs
    in
    record { names = signs.names; length_is = signs.length ∙ sym c.shape.ensures.session.signatures }

pub start-requires-clause-signs : goal.start-requires-clause-signs
start-requires-clause-signs c =
    let signs : SignsFor c.args.session c.args.key.secrets.secret c.remember.new.self =
    subst (λ (k : SessionScheme). SignsFor c.args.session c.args.key.secrets.secret k) (sym c.remember.ensures) c.requires.signs
    in
    record {
      signs = signs.signs;
      leaves_are = signs.leaves;
      length_is = signs.length ∙ sym c.shape.ensures.session.signatures;
    }
