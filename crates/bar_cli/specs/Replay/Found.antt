-- What the peer of a replay found, as files.
use Rattle.std.specs.Prelude.{ℕ, List, [], Option}
use Rattle.std.specs.Option.{option_map}
use Rattle.bar_wire.specs.Evidence.{evidence_bytes}
use Rattle.bar_wire.specs.Inputs.{Input}
use Rattle.bar_rules.specs.Member.{Member}
use Rattle.bar_rules.specs.Values.{datagram_bytes}
use Rattle.bar_rules.specs.Peer.Knowledge.{Knowledge, known}
use Rattle.bar_rules.specs.Peer.Run.{log_after}
use Rattle.bar_findings.specs.Findings.{Finding, findings_of}

-- what a peer knows after all inputs
abbrev pub known_at_end : Member → List Input → Knowledge
known_at_end me inputs = known me (log_after me [] inputs)

-- the datagram of the manifest of a round, if one was admitted
abbrev pub manifest_of : Member → List Input → ℕ → Option (List ℕ)
manifest_of me inputs round = option_map (datagram_bytes me.session) ((known_at_end me inputs).manifest round)

-- the evidence that is kept against a party, encoded as the body of an EVIDENCE
abbrev pub evidence_of : Member → List Input → ℕ → Option (List ℕ)
evidence_of me inputs party = option_map evidence_bytes ((known_at_end me inputs).evidence party)

-- the manifests that a peer admitted, by round, and the evidence that it keeps, by party, in files whose names begin with this prefix
abbrev pub found_by : List ℕ → Member → List Input → List Finding
found_by found me inputs =
    findings_of found (manifest_of me inputs) me.session.shape.rounds (evidence_of me inputs) me.session.shape.peers
