-- The arguments of a session's children, and the order in which the children are started.
use Rattle.std.specs.Prelude.{ℕ, suc, zero, List, [], ◌∷◌, ◌++◌, codes, nat_lt, if◌then◌else◌}
use Rattle.std.specs.List.{flat_map}
use Rattle.std.specs.Fmt.{decimal}
use Rattle.bar_child_processes.specs.Names.{SessionNames}

-- the name of a party's file
abbrev pub named : List ℕ → ℕ → List ℕ
named front party = front ++ (codes "." ++ decimal party)

-- the program, the command, and each option with its value
abbrev pub with_options : List ℕ → List ℕ → List (List ℕ × List ℕ) → List (List ℕ)
with_options program command options = program ∷ command ∷ flat_map (λ o. (codes "--" ++ o.0) ∷ o.1 ∷ []) options

abbrev pub peer_options : SessionNames → ℕ → List (List ℕ × List ℕ)
peer_options names party =
    (codes "session", names.session)
    ∷ (codes "key", named names.keys party)
    ∷ (codes "begin", names.begin)
    ∷ (codes "played", named names.results party ++ codes ".played")
    ∷ (codes "recording", named names.results party ++ codes ".recording")
    ∷ (codes "found", named names.results party)
    ∷ []

abbrev pub caster_options : SessionNames → List (List ℕ × List ℕ)
caster_options names =
    (codes "session", names.session)
    ∷ (codes "key", named names.keys 0)
    ∷ (codes "begin", names.begin)
    ∷ (codes "stream", names.stream)
    ∷ (codes "found", named names.results 0)
    ∷ []

-- party 0 is the broadcaster
abbrev pub words_of : SessionNames → ℕ → List (List ℕ)
words_of names zero = with_options names.program (codes "broadcaster") (caster_options names)
words_of names (suc p) = with_options names.program (codes "peer") (peer_options names (suc p))

-- the peers from 1 on, and then the broadcaster
abbrev pub party_at : ℕ → ℕ → ℕ
party_at peers place = if nat_lt place peers then suc place else 0

-- the first parties in this order
abbrev pub first_parties : ℕ → ℕ → List ℕ
first_parties peers zero = []
first_parties peers (suc n) = first_parties peers n ++ party_at peers n ∷ []
