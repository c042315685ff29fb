-- The arguments of a session.
use Rattle.std.specs.Prelude.{ℕ, List}

-- the session's text, the prefix of the key files' names, the stream, the time of the first tick, the prefix of the results' names, and the
-- program that the children run; the time is a Unix time in milliseconds, as text
pub record SessionNames : Type 0 where
  pub session : List ℕ
  pub keys : List ℕ
  pub stream : List ℕ
  pub begin : List ℕ
  pub results : List ℕ
  pub program : List ℕ
