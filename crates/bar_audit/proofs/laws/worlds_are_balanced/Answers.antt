use Rattle.bar_audit.proofs.OfWorlds.{worlds-of-runs}
use Rattle.bar_audit.specs.Worlds.{WorldsAreOfRuns, recordings_of, secrets_of}
use Rattle.bar_audit.proofs.laws.worlds_are_balanced.Goals as goal

pub returns-clause-of_runs : goal.returns-clause-of_runs
returns-clause-of_runs c =
    worlds-of-runs c.parties_run_alone.ensures.peers c.premises_can_be_met.ensures.members c.what_was_given_is_genuine.ensures

pub returns-clause-balanced : goal.returns-clause-balanced
returns-clause-balanced c setup trusted moves peers xs unforged all are =
    let of_runs : WorldsAreOfRuns =
    worlds-of-runs c.parties_run_alone.ensures.peers c.premises_can_be_met.ensures.members c.what_was_given_is_genuine.ensures
    in
    c.runs_are_balanced.ensures setup.session (secrets_of setup) (recordings_of setup moves peers) xs are (of_runs setup trusted moves peers unforged all)
