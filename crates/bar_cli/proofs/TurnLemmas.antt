-- The turns of a replay play and show what the rules of its peer play and send.
use Rattle.std.proofs.Common.{◌≡◌, ℕ, ◌+◌, List, [], ◌∷◌, ◌++◌, refl, sym, ap, ◌∙◌, map}
use Rattle.std.specs.List.{concat}
use Rattle.std.proofs.lemmas.Grind.{flat_map-append}
use Rattle.bar_wire.specs.Datagram.{Datagram}
use Rattle.bar_wire.specs.Inputs.{Input}
use Rattle.bar_rules.specs.Member.{Session, Member}
use Rattle.bar_rules.specs.Runs.{played_from, sends_from}
use Rattle.bar_rules.specs.Peer.Log.{Log}
use Rattle.bar_rules.specs.Peer.Run.{step}
use Rattle.bar_cli.specs.Replay.Transcript.{line_of_sent, lines_of_sends, transcript}
use Rattle.bar_cli.specs.Code.Turns.{turns_from, played_bytes, shown_bytes}

-- the turns play what the rules play
pub played-turns : (me : Member) (n : ℕ) (log : Log) (inputs : List Input) →
    played_bytes (turns_from me n log inputs) ≡ played_from (step me) log inputs
played-turns me n log [] = refl
played-turns me n log (x ∷ xs) = ap (λ bytes. concat (step me log x).contents ++ bytes) (played-turns me (n + 1) (step me log x).state xs)

-- a send of an input, with the input's number
abbrev numbered : ℕ → ℕ × Datagram → ℕ × ℕ × Datagram
numbered n send = (n, send.0, send.1)

-- the lines of what one input sends are its transcript
lines-shown : (s : Session) (n : ℕ) (sends : List (ℕ × Datagram)) →
    concat (lines_of_sends s n sends) ≡ transcript s (map (numbered n) sends)
lines-shown s n [] = refl
lines-shown s n (x ∷ xs) = ap (λ bytes. line_of_sent s (numbered n x) ++ bytes) (lines-shown s n xs)

-- the turns show the transcript of what the rules send
pub shown-turns_from : (me : Member) (n : ℕ) (log : Log) (inputs : List Input) →
    shown_bytes (turns_from me n log inputs) ≡ transcript me.session (sends_from (step me) log n inputs)
shown-turns_from me n log [] = refl
shown-turns_from me n log (x ∷ xs) =
    let sends : List (ℕ × Datagram) = (step me log x).sends in
    let others : List (ℕ × ℕ × Datagram) = sends_from (step me) (step me log x).state (n + 1) xs in
    ap (λ bytes. bytes ++ shown_bytes (turns_from me (n + 1) (step me log x).state xs)) (lines-shown me.session n sends)
    ∙ ap (λ bytes. transcript me.session (map (numbered n) sends) ++ bytes) (shown-turns_from me (n + 1) (step me log x).state xs)
    ∙ sym (flat_map-append (line_of_sent me.session) (map (numbered n) sends) others)
