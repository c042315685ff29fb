use Rattle.bar_proof.proofs.PackedFiles.{shown-packed}
use Rattle.bar_proof.proofs.laws.what_is_shown_is_packed.Goals as goal

pub returns : goal.returns
returns c = shown-packed c.what_is_packed_is_shown.ensures c.proofs_are_read_back.ensures c.manifests_fit_their_entries.ensures
