use Rattle.std.proofs.Common.{◌-◌}
use Rattle.bar_seeds.proofs.Lengths.{length-chain_back, length-nonce_of, length-briefcase_key, length-commitment_of}
use Rattle.bar_seeds.proofs.laws.hashes_have_32_bytes.Goals as goal

pub returns-clause-seed : goal.returns-clause-seed
returns-clause-seed c s rounds round = length-chain_back s rounds (rounds - round)

pub returns-clause-nonce : goal.returns-clause-nonce
returns-clause-nonce c s x = length-nonce_of s x

pub returns-clause-key : goal.returns-clause-key
returns-clause-key c s x role = length-briefcase_key s x role

pub returns-clause-commitment : goal.returns-clause-commitment
returns-clause-commitment c words life id x nonce ha = length-commitment_of words life id x nonce ha
