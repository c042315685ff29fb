-- The effects of a replay's turns on the files and the output.
use Rattle.std.proofs.Common.{◌≡◌, ◌≢◌, ℕ, List, [], ◌∷◌, ◌++◌, Some, refl, sym, ap, ◌∙◌, map, append-nil, append_assoc, IsTrue, subst}
use Rattle.std.specs.List.{AllByRecursion, concat}
use Rattle.bar_outside.specs.Disk.{Content, CreatedFiles, created, with_file}
use Rattle.bar_outside.specs.Plan.{Action, CanRun, content_after, created_after, shown}
use Rattle.bar_outside.specs.Plan.Action.{append, show}
use Rattle.bar_outside.proofs.Contents.{put_at-same, put_at-other}
use Rattle.bar_outside.proofs.ActionLists.{CanRun-append, content_after-append, shown-append, with_file-same}
use Rattle.bar_outside.proofs.Appends.{appends-other, appends-same, can-appends, shown-appends}
use Rattle.bar_outside.proofs.Unlinked.{IsUnlinked, unlinked-append, unlinked-appends, unlinked-shows}
use Rattle.bar_cli.specs.Code.Turns.{Turn, turn_actions, turns_actions, played_bytes, shown_bytes}
use Rattle.bar_findings.specs.Findings.{Finding, findings_actions}
use Rattle.bar_findings.proofs.Holding.{AreWritten, all-written, can-write, shown-findings, unlinked-findings, unwritten}
use Rattle.bar_findings.proofs.Names.{AreDistinct}
use Rattle.bar_cli.specs.Replay.Plan.{ReplayFiles, playing_actions, replay_actions}

can-shows : (lines : List (List ℕ)) (rest : List Action) (here : CreatedFiles) → CanRun rest here → CanRun (map show lines ++ rest) here
can-shows [] rest here h = h
can-shows (x ∷ xs) rest here h = can-shows xs rest here h

can-turns : (played : List ℕ) (turns : List Turn) (here : CreatedFiles) → IsTrue (here played) →
    CanRun (turns_actions played turns) here
can-turns played [] here made = tt
can-turns played (t ∷ ts) here made =
    subst (λ plan. CanRun plan here) (sym (append_assoc (map (append played) t.contents) (map show t.lines) (turns_actions played ts)))
    (can-appends played t.contents (map show t.lines ++ turns_actions played ts) here made
    (can-shows t.lines (turns_actions played ts) here (can-turns played ts here made)))

-- a replay appends only to files that it created
pub can-replay : (names : ReplayFiles) (turns : List Turn) (findings : List Finding) (here : CreatedFiles) →
    CanRun (replay_actions names turns findings) here
can-replay names turns findings here =
    CanRun-append (playing_actions names.played turns) (findings_actions findings) here
    (can-turns names.played turns (with_file here names.played) (with_file-same here names.played))
    (can-write findings (created_after (playing_actions names.played turns) here))

-- a replay does nothing over the link

unlinked-turns : (played : List ℕ) (turns : List Turn) → IsUnlinked (turns_actions played turns)
unlinked-turns played [] = tt
unlinked-turns played (t ∷ ts) =
    unlinked-append (turn_actions played t) (turns_actions played ts)
    (unlinked-append (map (append played) t.contents) (map show t.lines) (unlinked-appends played t.contents) (unlinked-shows t.lines))
    (unlinked-turns played ts)

pub unlinked-playing : (played : List ℕ) (turns : List Turn) → IsUnlinked (playing_actions played turns)
unlinked-playing played turns = unlinked-turns played turns

pub unlinked-replay : (names : ReplayFiles) (turns : List Turn) (findings : List Finding) → IsUnlinked (replay_actions names turns findings)
unlinked-replay names turns findings =
    unlinked-append (playing_actions names.played turns) (findings_actions findings) (unlinked-playing names.played turns)
    (unlinked-findings findings)

-- showing lines changes no file
shows-leave : (lines : List (List ℕ)) (content : Content) → content_after (map show lines) content ≡ content
shows-leave [] content = refl
shows-leave (x ∷ xs) content = shows-leave xs content

turn-leaves : (played : List ℕ) (t : Turn) (content : Content) →
    content_after (turn_actions played t) content ≡ content_after (map (append played) t.contents) content
turn-leaves played t content =
    content_after-append (map (append played) t.contents) (map show t.lines) content
    ∙ shows-leave t.lines (content_after (map (append played) t.contents) content)

pub turn-played : (played held : List ℕ) (t : Turn) (content : Content) → content played ≡ Some held →
    content_after (turn_actions played t) content played ≡ Some (held ++ concat t.contents)
turn-played played held t content h =
    ap (λ (c : Content). c played) (turn-leaves played t content) ∙ appends-same played held t.contents content h

turns-played : (played held : List ℕ) (turns : List Turn) (content : Content) → content played ≡ Some held →
    content_after (turns_actions played turns) content played ≡ Some (held ++ played_bytes turns)
turns-played played held [] content h = h ∙ ap Some (sym (append-nil held))
turns-played played held (t ∷ ts) content h =
    ap (λ (c : Content). c played) (content_after-append (turn_actions played t) (turns_actions played ts) content)
    ∙ turns-played played (held ++ concat t.contents) ts (content_after (turn_actions played t) content)
    (turn-played played held t content h)
    ∙ ap Some (append_assoc held (concat t.contents) (played_bytes ts))

turns-other : (played : List ℕ) (turns : List Turn) (content : Content) (q : List ℕ) → q ≢ played →
    content_after (turns_actions played turns) content q ≡ content q
turns-other played [] content q differs = refl
turns-other played (t ∷ ts) content q differs =
    ap (λ (c : Content). c q) (content_after-append (turn_actions played t) (turns_actions played ts) content)
    ∙ turns-other played ts (content_after (turn_actions played t) content) q differs
    ∙ ap (λ (c : Content). c q) (turn-leaves played t content)
    ∙ appends-other played t.contents content q differs

-- the content of the played file after all turns, and of the other files
pub all-played : (played : List ℕ) (turns : List Turn) (content : Content) →
    content_after (playing_actions played turns) content played ≡ Some (played_bytes turns)
all-played played turns content = turns-played played [] turns (created content played) (put_at-same content played [])

pub others-unplayed : (played : List ℕ) (turns : List Turn) (content : Content) (q : List ℕ) → q ≢ played →
    content_after (playing_actions played turns) content q ≡ content q
others-unplayed played turns content q differs =
    turns-other played turns (created content played) q differs ∙ put_at-other content played [] q differs

-- the same after a replay, which writes what was found to files with other names
pub final-played : (names : ReplayFiles) (turns : List Turn) (findings : List Finding) (content : Content) →
    AllByRecursion (λ f. f.name ≢ names.played) findings →
    content_after (replay_actions names turns findings) content names.played ≡ Some (played_bytes turns)
final-played names turns findings content differ =
    ap (λ (c : Content). c names.played) (content_after-append (playing_actions names.played turns) (findings_actions findings) content)
    ∙ unwritten findings (content_after (playing_actions names.played turns) content) names.played differ
    ∙ all-played names.played turns content

pub final-other : (names : ReplayFiles) (turns : List Turn) (findings : List Finding) (content : Content) (q : List ℕ) → q ≢ names.played →
    AllByRecursion (λ f. f.name ≢ q) findings → content_after (replay_actions names turns findings) content q ≡ content q
final-other names turns findings content q differs differ =
    ap (λ (c : Content). c q) (content_after-append (playing_actions names.played turns) (findings_actions findings) content)
    ∙ unwritten findings (content_after (playing_actions names.played turns) content) q differ
    ∙ others-unplayed names.played turns content q differs

-- what was found was written in whole
pub final-found : (names : ReplayFiles) (turns : List Turn) (findings : List Finding) (content : Content) → AreDistinct findings →
    AreWritten findings (content_after (replay_actions names turns findings) content)
final-found names turns findings content distinct =
    subst (AreWritten findings) (sym (content_after-append (playing_actions names.played turns) (findings_actions findings) content))
    (all-written findings (content_after (playing_actions names.played turns) content) distinct)

shown-shows : (lines : List (List ℕ)) → shown (map show lines) ≡ concat lines
shown-shows [] = refl
shown-shows (x ∷ xs) = ap (λ bytes. x ++ bytes) (shown-shows xs)

pub shown-turn : (played : List ℕ) (t : Turn) → shown (turn_actions played t) ≡ concat t.lines
shown-turn played t =
    shown-append (map (append played) t.contents) (map show t.lines)
    ∙ ap (λ bytes. bytes ++ shown (map show t.lines)) (shown-appends played t.contents)
    ∙ shown-shows t.lines

shown-turns : (played : List ℕ) (turns : List Turn) → shown (turns_actions played turns) ≡ shown_bytes turns
shown-turns played [] = refl
shown-turns played (t ∷ ts) =
    shown-append (turn_actions played t) (turns_actions played ts)
    ∙ ap (λ bytes. bytes ++ shown (turns_actions played ts)) (shown-turn played t)
    ∙ ap (λ bytes. concat t.lines ++ bytes) (shown-turns played ts)

-- what all turns show, and what a replay shows
pub shown-playing : (played : List ℕ) (turns : List Turn) → shown (playing_actions played turns) ≡ shown_bytes turns
shown-playing played turns = shown-turns played turns

pub shown-replay : (names : ReplayFiles) (turns : List Turn) (findings : List Finding) →
    shown (replay_actions names turns findings) ≡ shown_bytes turns
shown-replay names turns findings =
    shown-append (playing_actions names.played turns) (findings_actions findings)
    ∙ ap (λ bytes. shown (playing_actions names.played turns) ++ bytes) (shown-findings findings)
    ∙ append-nil (shown (playing_actions names.played turns))
    ∙ shown-playing names.played turns
