-- A replay of a peer as a core equals its turns by the rules.
use Rattle.std.proofs.Common.{◌≡◌, ℕ, ◌+◌, List, [], ◌∷◌, ◌++◌, refl, ap, ◌∙◌, map, length, arith}
use Rattle.std.specs.List.{flat_map}
use Rattle.std.proofs.lemmas.List.{length-append}
use Rattle.bar_outside.specs.Plan.Action.{append, show}
use Rattle.bar_wire.specs.Datagram.{Datagram}
use Rattle.bar_wire.specs.Inputs.{Input}
use Rattle.bar_rules.specs.Member.{Session, Member}
use Rattle.bar_rules.specs.Values.{datagram_bytes}
use Rattle.bar_rules.specs.Peer.Log.{Log}
use Rattle.bar_rules.specs.Peer.Run.{Out, log_after, step}
use Rattle.bar_rules.proofs.LongerRuns.{state_after_both}
use Rattle.bar_core.specs.Rules.{Send}
use Rattle.bar_node.specs.Code.Turns as node
use Rattle.bar_peer.specs.Core.{peer_rules}
use Rattle.bar_cli.specs.Replay.Transcript.{lines_of_sends}
use Rattle.bar_cli.specs.Code.Turns.{turn_actions, turn_of, turns_actions, turns_from}

-- each content is appended
contents-appended : (played : List ℕ) (contents : List (List ℕ)) →
    flat_map (λ content. append played content ∷ []) contents ≡ map (append played) contents
contents-appended played [] = refl
contents-appended played (x ∷ xs) = ap (λ rest. append played x ∷ rest) (contents-appended played xs)

-- a datagram that is sent, as bytes
abbrev packet : Session → ℕ × Datagram → Send
packet s send = (send.0, datagram_bytes s send.1)

-- the line of each datagram is shown
lines-shown : (s : Session) (number : ℕ) (sends : List (ℕ × Datagram)) →
    flat_map (node.shown_line number) (map (packet s) sends) ≡ map show (lines_of_sends s number sends)
lines-shown s number [] = refl
lines-shown s number (x ∷ xs) =
    ap (λ rest. show (node.line_of_bytes number x.0 (datagram_bytes s x.1)) ∷ rest) (lines-shown s number xs)

-- the turn of one input
core-turn : (played : List ℕ) (me : Member) (before : List Input) (input : Input) →
    node.turn (node.replay_layout played) (peer_rules me) before input
    ≡ turn_actions played (turn_of me.session (length before + 1) (step me (log_after me [] before) input))
core-turn played me before input =
    let out : Out = step me (log_after me [] before) input in
    ap (λ acts. acts ++ flat_map (node.shown_line (length before + 1)) (map (packet me.session) out.sends))
    (contents-appended played out.contents)
    ∙ ap (λ acts. map (append played) out.contents ++ acts) (lines-shown me.session (length before + 1) out.sends)

-- the turns of inputs after others
pub core-turns : (played : List ℕ) (me : Member) (before inputs : List Input) →
    node.turns (node.replay_layout played) (peer_rules me) before inputs
    ≡ turns_actions played (turns_from me (length before + 1) (log_after me [] before) inputs)
core-turns played me before [] = refl
core-turns played me before (x ∷ xs) =
    let more : List Input = before ++ x ∷ [] in
    let after : Log = (step me (log_after me [] before) x).state in
    let number : length more + 1 ≡ (length before + 1) + 1 = let e = length-append before (x ∷ []) in omega arith in
    ap (λ acts. acts ++ node.turns (node.replay_layout played) (peer_rules me) more xs) (core-turn played me before x)
    ∙ ap (λ acts. turn_actions played (turn_of me.session (length before + 1) (step me (log_after me [] before) x)) ++ acts)
    (core-turns played me more xs
    ∙ ap (λ log. turns_actions played (turns_from me (length more + 1) log xs)) (state_after_both (step me) [] before (x ∷ []))
    ∙ ap (λ n. turns_actions played (turns_from me n after xs)) number)
