-- The key files of parties, made from their secrets.
use Rattle.std.specs.Prelude.{◌≡◌, ℕ, List, map}
use Rattle.bar_lms.specs.declared.params.Params.{Params}
use Rattle.bar_lms.specs.Secret.{public_key}
use Rattle.bar_seeds.specs.declared.secrets.Secrets.{Secrets}
use Rattle.bar_seeds.specs.Seeds.{anchor_of}
use Rattle.bar_roster.specs.declared.key_file.KeyFile.{KeyFile}
use Rattle.bar_world.specs.Made.{signing}

-- what a party derives from its secrets: its signing key with these types, and its seeds over `rounds` rounds
abbrev pub key_by : Params → ℕ → Secrets → KeyFile
key_by params rounds held = record {
  secrets = held;
  signer = signing params held.id held.secret;
  chain = record { secrets = held; rounds = rounds };
}

abbrev pub keys_by : Params → ℕ → List Secrets → List KeyFile
keys_by params rounds held = map (key_by params rounds) held

-- the public key and the anchor of a key file
abbrev pub public_in : KeyFile → List ℕ
public_in key = public_key key.signer

abbrev pub anchor_in : KeyFile → List ℕ
anchor_in key = anchor_of key.chain.secrets key.chain.rounds

-- the secrets in key files
abbrev pub held_in : List KeyFile → List Secrets
held_in keys = map (λ (key : KeyFile). key.secrets) keys

-- Each of the key files is made from the secrets in it.
abbrev pub AreMade : Params → ℕ → List KeyFile → Type 0
AreMade params rounds keys = keys ≡ keys_by params rounds (held_in keys)
