-- Hashes have 32 bytes.
use Rattle.std.proofs.Common.{◌≡◌, ℕ, zero, suc, List, length}
use Rattle.sha2.proofs.Facts256.{length-sha256}
use Rattle.bar_window.specs.declared.update.UpdateId.{UpdateId}
use Rattle.bar_window.specs.declared.exchange.Role.{Role}
use Rattle.bar_window.specs.declared.exchange.Exchange.{Exchange}
use Rattle.bar_seeds.specs.declared.secrets.Secrets.{Secrets}
use Rattle.bar_seeds.specs.Seeds.{chain_step, chain_back}
use Rattle.bar_seeds.specs.Derived.{nonce_of, briefcase_key, commitment_of}

pub length-chain_back : (s : Secrets) (rounds back : ℕ) → length (chain_back s rounds back) ≡ 32
unfolding chain_back chain_step
length-chain_back s rounds zero = length-sha256 _
length-chain_back s rounds (suc back) = length-sha256 _

pub length-nonce_of : (s : Secrets) (x : Exchange) → length (nonce_of s x) ≡ 32
unfolding nonce_of
length-nonce_of s x = length-sha256 _

pub length-briefcase_key : (s : Secrets) (x : Exchange) (role : Role) → length (briefcase_key s x role) ≡ 32
unfolding briefcase_key
length-briefcase_key s x role = length-sha256 _

pub length-commitment_of : (words life : ℕ) (id : List ℕ) (x : Exchange) (nonce : List ℕ) (ha : List UpdateId) → length (commitment_of words life id x nonce ha) ≡ 32
unfolding commitment_of
length-commitment_of words life id x nonce ha = length-sha256 _
