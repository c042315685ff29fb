-- Streams that fit a session, and those that don't.
use Rattle.std.proofs.Common.{◌≡◌, ◌≤◌, ◌<◌, ℕ, List, Bool, true, false, Ok, Err, length, nat_le, if◌then◌else◌, ap}
use Rattle.std.proofs.Common.{arith}
use Rattle.std.proofs.lemmas.Bool.Decides.{nat_tests}
use Rattle.bar_session.specs.SessionData.{SessionData}
use Rattle.bar_party_commands.specs.Streams.{room_of, stream_in}

pub stream-fits : (s : SessionData) (bytes : List ℕ) → (room_of s < length bytes → ⊥) → stream_in s bytes ≡ Ok bytes
stream-fits s bytes short =
    let fits : nat_le (length bytes) (room_of s) ≡ true = grind (arith, nat_tests, short) in
    ap (λ (b : Bool). if b then Ok bytes else Err (length bytes)) fits

pub stream-is_long : (s : SessionData) (bytes : List ℕ) → room_of s < length bytes → stream_in s bytes ≡ Err (length bytes)
stream-is_long s bytes long =
    let stands_out : nat_le (length bytes) (room_of s) ≡ false = grind (arith, nat_tests) in
    ap (λ (b : Bool). if b then Ok bytes else Err (length bytes)) stands_out

pub no-fit : (s : SessionData) (bytes : List ℕ) → (length bytes ≤ room_of s → ⊥) → room_of s < length bytes
no-fit s bytes h = grind (arith, h)
