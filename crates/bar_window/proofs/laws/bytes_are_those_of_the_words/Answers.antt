use Rattle.bar_window.proofs.Spelling.{bytes_of_members, length_window_bytes}
use Rattle.bar_window.proofs.laws.bytes_are_those_of_the_words.Goals as goal

pub returns : goal.returns
returns c = record { bytes = bytes_of_members; length = length_window_bytes }
