-- The account of a socket: what it is bound to, was passed and gave. A socket may have none.
use Rattle.std.specs.Prelude.{◌≡◌, ℕ, List, [], ◌∷◌, ◌++◌, Option, None, Some, take, Result, Ok, Err}

pub record Account : Type 0 where
  -- the port that it is bound to
  pub port : ℕ
  -- the datagrams that it was passed, in order, each with its destination port
  pub handed : List (ℕ × List ℕ)
  -- the datagrams that it gave, in order
  pub given : List (List ℕ)

-- a socket that was just bound to this port
abbrev pub opened : ℕ → Account
opened port = record { port = port; handed = []; given = [] }

abbrev pub handed_to : ℕ → List ℕ → Account → Account
handed_to port bytes was = record { port = was.port; handed = was.handed ++ (port, bytes) ∷ []; given = was.given }

abbrev pub gave_all : List (List ℕ) → Account → Account
gave_all datagrams was = record { port = was.port; handed = was.handed; given = was.given ++ datagrams }

-- what a read of a socket wrote to a buffer
abbrev pub received : {E : Type 0} → List ℕ → Result ℕ E → List (List ℕ)
received buf (Ok len) = take len buf ∷ []
received buf (Err fault) = []

-- the socket's account, if it has one, is that of a socket just bound to this port
abbrev pub IsOpened : ℕ → Option Account → Type 0
IsOpened port None = Unit {0}
IsOpened port (Some account) = account ≡ opened port
