use Rattle.std.proofs.Common.{◌≡◌, ◌++◌, codes, string_bytes, take}
use Rattle.std.specs.List.{flat_map}
use Rattle.std.specs.Fmt.{decimal}
use Rattle.bar_cli.proofs.simulate.push_parties.Given as goal

-- the parties so far
abbrev pub invariant-loop-party : goal.invariant-loop-party
invariant-loop-party l =
    string_bytes l.text ≡ string_bytes l.fn.text ++ flat_map (λ p. codes " " ++ decimal p) (take l.party-index l.parties)
