use Rattle.bar_terms.proofs.Equal.{chunks_of, bytes_of}
use Rattle.bar_terms.proofs.laws.lists_stand_in_their_bytes.Goals as goal

pub returns : goal.returns
returns c = record { bytes = bytes_of; list = chunks_of }
