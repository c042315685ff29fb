use Rattle.std.proofs.Common.{rules, append_assoc}
use Rattle.bar_cli.proofs.audit.recordings.recording_name.Goals as goal

pub returns : goal.returns
returns c = simp append_assoc (search rules)
