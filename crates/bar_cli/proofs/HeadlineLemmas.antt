-- What a replay showed is a prefix of the transcript up to one place of its inputs.
use Rattle.std.proofs.Common.{◌≡◌, ◌≢◌, ◌==◌, ℕ, ◌+◌, ◌≤◌, Bool, true, false, List, [], ◌∷◌, ◌++◌, IsTrue, refl, sym, ap, ◌∙◌, subst, inl, inr, arith, length, take, min, append-nil}
use Rattle.std.specs.List.{concat}
use Rattle.std.proofs.Math.Seq.{take-length}
use Rattle.std.proofs.lemmas.Bool.{eqb-true}
use Rattle.std.proofs.lemmas.Grind.{flat_map-append}
use Rattle.std.proofs.lemmas.List.{length-append}
use Rattle.bar_outside.specs.Plan.{Outside}
use Rattle.bar_wire.specs.Inputs.{Input}
use Rattle.bar_laws.specs.Always.{OfEachPeer}
use Rattle.bar_rules.specs.Member.{Member}
use Rattle.bar_rules.specs.Peer.Log.{Log}
use Rattle.bar_rules.specs.Peer.Run.{sends_of, step}
use Rattle.bar_cli.specs.Headline.{KeepsTheRules, ReplayHeadline, ReplaySpoke}
use Rattle.bar_cli.specs.Replay.Plan.{ReplayFiles, Accepted, PlayedUpTo, Replayed, peer_of, transcript_of}
use Rattle.bar_cli.specs.Replay.Transcript.{transcript}
use Rattle.bar_cli.specs.Code.Turns.{Turn, shown_bytes, turn_of, turns_from}
use Rattle.bar_cli.proofs.EndLemmas.{differ}
use Rattle.bar_session_files.proofs.Accepted.{AreHeld, AreInRange}
use Rattle.bar_cli.proofs.MemberLemmas.{of-each_moment}
use Rattle.bar_cli.proofs.ReplayRows.{Outcome, replayed, stopped-replay}
use Rattle.bar_cli.proofs.Spoken.{same-front}
use Rattle.bar_cli.proofs.TurnLemmas.{shown-turns_from}
use Rattle.bar_cli.proofs.UpToLemmas.{front-of}

-- ---- the input of a turn

-- This turn, after these earlier ones, is the turn of an input after the inputs of the earlier ones.
record IsTurnOf (me : Member) (n : ℕ) (log : Log) (inputs : List Input) (earlier : List Turn) (this : Turn) : Type 0 where
  before : List Input
  last : Input
  after : List Input
  is : inputs ≡ (before ++ last ∷ []) ++ after
  earlier_are : turns_from me n log before ≡ earlier
  with_this : turns_from me n log (before ++ last ∷ []) ≡ earlier ++ this ∷ []

both-same : (a b : Turn) (xs ys : List Turn) → a ≡ b → xs ≡ ys → a ∷ xs ≡ b ∷ ys
both-same a b xs ys first others = cc

-- the same with one more input and its turn in front
one-earlier : (me : Member) (n : ℕ) (log : Log) (x : Input) (xs : List Input) (t : Turn) (ts : List Turn) (this : Turn) →
    turn_of me.session n (step me log x) ≡ t → IsTurnOf me (n + 1) (step me log x).state xs ts this → IsTurnOf me n log (x ∷ xs) (t ∷ ts) this
one-earlier me n log x xs t ts this same p = record {
  before = x ∷ p.before;
  last = p.last;
  after = p.after;
  is = ap (λ inputs. x ∷ inputs) p.is;
  earlier_are = both-same _ _ _ _ same p.earlier_are;
  with_this = both-same _ _ _ _ same p.with_this;
}

input-of : (me : Member) (n : ℕ) (log : Log) (inputs : List Input) (earlier : List Turn) (this : Turn) (later : List Turn) →
    turns_from me n log inputs ≡ earlier ++ this ∷ later → IsTurnOf me n log inputs earlier this
input-of me n log [] [] this later e = absurd cc
input-of me n log [] (t ∷ ts) this later e = absurd cc
input-of me n log (x ∷ xs) [] this later e = record {
  before = [];
  last = x;
  after = xs;
  is = refl;
  earlier_are = refl;
  with_this = let same : turn_of me.session n (step me log x) ≡ this = cc in both-same _ _ [] [] same refl;
}
input-of me n log (x ∷ xs) (t ∷ ts) this later e =
    let same : turn_of me.session n (step me log x) ≡ t = cc in
    let others : turns_from me (n + 1) (step me log x).state xs ≡ ts ++ this ∷ later = cc in
    one-earlier me n log x xs t ts this same (input-of me (n + 1) (step me log x).state xs ts this later others)

-- the turns of an extended list of inputs begin with those of the list
turns-behind : (me : Member) (n : ℕ) (log : Log) (inputs more : List Input) →
    (others : List Turn) × (turns_from me n log (inputs ++ more) ≡ turns_from me n log inputs ++ others)
turns-behind me n log [] more = (turns_from me n log more, refl)
turns-behind me n log (x ∷ xs) more =
    let p = turns-behind me (n + 1) (step me log x).state xs more in
    (p.0, ap (λ turns. turn_of me.session n (step me log x) ∷ turns) p.1)

-- the transcript of an extended list of inputs isn't shorter
shorter : (me : Member) (inputs earlier more : List Input) → inputs ≡ earlier ++ more →
    length (transcript me.session (sends_of me earlier)) ≤ length (transcript me.session (sends_of me inputs))
shorter me inputs earlier more is =
    let p = turns-behind me 1 [] earlier more in
    let all : transcript me.session (sends_of me inputs) ≡ shown_bytes (turns_from me 1 [] earlier) ++ shown_bytes p.0 =
    ap (λ inputs. transcript me.session (sends_of me inputs)) is
    ∙ sym (shown-turns_from me 1 [] (earlier ++ more)) ∙ ap shown_bytes p.1
    ∙ flat_map-append (λ (turn : Turn). concat turn.lines) (turns_from me 1 [] earlier) p.0 in
    let front = ap length (shown-turns_from me 1 [] earlier) in
    let whole = ap length all ∙ length-append (shown_bytes (turns_from me 1 [] earlier)) (shown_bytes p.0) in
    omega arith

-- ---- how much a replay showed

module _ (names : ReplayFiles) (old new : Outside) (status : ℕ) (keeps : OfEachPeer KeepsTheRules) (held : AreHeld)
    (ranged : AreInRange) where
  -- everything before one input
  spoke-up_to : status ≢ 0 → PlayedUpTo names status old new → ReplaySpoke names old new status
  spoke-up_to other up =
      let a = up.accepted in
      let me : Member = peer_of names old.files.content a in
      let p = input-of me 1 [] a.inputs up.earlier up.this up.later up.turns in
      let upto : List Input = p.before ++ p.last ∷ [] in
      let before-is : transcript a.session (sends_of me p.before) ≡ shown_bytes up.earlier =
      sym (shown-turns_from me 1 [] p.before) ∙ ap shown_bytes p.earlier_are in
      let all-is : transcript a.session (sends_of me upto) ≡ shown_bytes up.earlier ++ (concat up.this.lines ++ []) =
      sym (shown-turns_from me 1 [] upto) ∙ ap shown_bytes p.with_this
      ∙ flat_map-append (λ (turn : Turn). concat turn.lines) up.earlier (up.this ∷ []) in
      let count : ℕ = length (shown_bytes up.earlier) + min up.shown_count (length (concat up.this.lines)) in
      record {
        accepted = a;
        inputs = upto;
        later = p.after;
        place = p.is;
        count = count;
        shown = up.shown
            ∙ ap (λ bytes. old.out.bytes ++ bytes)
            (front-of (shown_bytes up.earlier) (concat up.this.lines) [] up.shown_count ∙ ap (take count) (sym all-is));
        fewest = λ earlier last is.
            let same : length (transcript a.session (sends_of me earlier)) ≡ length (shown_bytes up.earlier) =
            ap (λ inputs. length (transcript a.session (sends_of me inputs))) (same-front earlier p.before last p.last (sym is))
            ∙ ap length before-is in
            omega arith;
        whole = λ zero. absurd (other zero);
        kept = of-each_moment held ranged KeepsTheRules keeps names old.files.content a;
      }

  -- everything
  spoke-all : (a : Accepted names old.files.content) →
      new.out.bytes ≡ old.out.bytes ++ transcript_of names old.files.content a → ReplaySpoke names old new status
  spoke-all a sent =
      let all : List ℕ = transcript_of names old.files.content a in
      record {
        accepted = a;
        inputs = a.inputs;
        later = [];
        place = sym (append-nil a.inputs);
        count = length all;
        shown = sent ∙ ap (λ bytes. old.out.bytes ++ bytes) (sym (take-length all));
        fewest = λ earlier last is. shorter (peer_of names old.files.content a) a.inputs earlier (last ∷ []) is;
        whole = λ zero. (refl, sent);
        kept = of-each_moment held ranged KeepsTheRules keeps names old.files.content a;
      }

  -- at every status
  pub spoke : IsTrue new.files.told → Outcome names old new status → ReplayHeadline names old new status
  spoke told o = by_status (status == 0) refl
    where
      by_status : (b : Bool) → (status == 0) ≡ b → ReplayHeadline names old new status
      by_status true e =
          let zero : status ≡ 0 = eqb-true status 0 e in
          let done : Replayed names old new = replayed names old new held ranged told (subst (Outcome names old new) zero o) in
          inr (spoke-all done.accepted done.sent)
      by_status false e =
          let other : status ≢ 0 = differ status 0 e in
          elim (stopped-replay ranged names old new status told o) [
            | inl same ↦ inl (same.out, other)
            | inr two ↦ elim two [
              | inl made ↦ inl (made.out, other)
              | inr more ↦ elim more [ inl up ↦ inr (spoke-up_to other up) | inr up ↦ inr (spoke-all up.accepted up.sent) ]
            ]
          ]
