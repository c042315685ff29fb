use Rattle.bar_case.proofs.Stream.{length_keystream, front_stream}
use Rattle.bar_case.proofs.laws.keystreams_have_their_length.Goals as goal

pub returns-clause-length : goal.returns-clause-length
returns-clause-length c = length_keystream

pub returns-clause-front : goal.returns-clause-front
returns-clause-front c = front_stream
