-- What a node has sent, completed or stopped.
use Rattle.std.proofs.Common.{◌≡◌, ℕ, ◌+◌, List, [], ◌∷◌, ◌++◌, length, refl, sym, ap, ◌∙◌, subst, append-nil, Option, Some, None}
use Rattle.std.specs.List.{flat_map}
use Rattle.std.proofs.lemmas.Grind.{flat_map-append}
use Rattle.bar_wire.specs.Inputs.{Input}
use Rattle.bar_record.specs.Recording.{entry_bytes}
use Rattle.bar_outside.specs.Wire.{Arrival, Datagram, End, Tick, Traffic, Wire}
use Rattle.bar_outside.specs.Plan.{Action, IsPartOfNext, Outside, Ran, traffic_after, traffic_by}
use Rattle.bar_outside.specs.Plan.Action.{append, create, link, read, show}
use Rattle.bar_outside.specs.Plan.LinkCall.{bind, receive, send}
use Rattle.bar_findings.specs.Findings.{IsFindingName}
use Rattle.bar_findings.proofs.Names.{finding-names}
use Rattle.bar_core.specs.Rules.{Rules, Send}
use Rattle.bar_core.specs.Runs.{sends_over}
use Rattle.bar_laws.proofs.Logs.{all-map}
use Rattle.bar_node.specs.Code.Turns.{Layout, kept, node_layout, sent, turn}
use Rattle.bar_node.specs.Code.Effects.{sent_by, sent_in}
use Rattle.bar_node.specs.Runs.{behind, found_after, node_plan, taken_of}
use Rattle.bar_node.specs.Stops.{HasRun, IsFront, StoppedSending}
use Rattle.bar_node.proofs.TurnLists.{each-none, traffic-adds}
use Rattle.bar_node.proofs.Yields.{Yields, front-none, over, run-gives}
use Rattle.bar_node.proofs.Cutting.{StopAt, given-part, given-whole}
use Rattle.bar_node.proofs.Receiving.{no-link-part}
use Rattle.bar_node.proofs.Behind.{GivesNone, behind-none}
use Rattle.bar_node.proofs.Stopping.{stopped-at}

sent-one : (a : Action) (t : Traffic) → (traffic_by a t).sent ≡ t.sent ++ sent_by a
sent-one (link (send to bytes)) t = refl
sent-one (link (receive (Some Tick))) t = sym (append-nil t.sent)
sent-one (link (receive (Some (Datagram bytes)))) t = sym (append-nil t.sent)
sent-one (link (receive (Some End))) t = sym (append-nil t.sent)
sent-one (link (receive None)) t = sym (append-nil t.sent)
sent-one (link (bind to)) t = sym (append-nil t.sent)
sent-one (read path) t = sym (append-nil t.sent)
sent-one (create path) t = sym (append-nil t.sent)
sent-one (append path bytes) t = sym (append-nil t.sent)
sent-one (show bytes) t = sym (append-nil t.sent)

sent-after : (acts : List Action) (t : Traffic) → (traffic_after acts t).sent ≡ t.sent ++ sent_in acts
sent-after = traffic-adds (λ t. t.sent) sent_by sent-one

-- ---- what each turn sends

sent-kept : (path : Option (List ℕ)) (bytes : List ℕ) → sent_in (kept path bytes) ≡ []
sent-kept None bytes = refl
sent-kept (Some path) bytes = refl

sent-sends : (number : ℕ) (sends : List Send) → sent_in (flat_map (sent number) sends) ≡ sends
sent-sends number [] = refl
sent-sends number (x ∷ xs) = ap (λ ys. (x.0, x.1) ∷ ys) (sent-sends number xs)

sent-turn : (recording played : Option (List ℕ)) (r : Rules) (before : List Input) (input : Input) →
    sent_in (turn (node_layout recording played) r before input) ≡ r.sends before input
sent-turn recording played r before input =
    let plays : List Action = flat_map (kept played) (r.contents before input) in
    let sends : List Action = flat_map (sent (length before + 1)) (r.sends before input) in
    flat_map-append sent_by (kept recording (entry_bytes input)) (plays ++ sends)
    ∙ ap (λ ys. ys ++ sent_in (plays ++ sends)) (sent-kept recording (entry_bytes input))
    ∙ flat_map-append sent_by plays sends
    ∙ ap (λ ys. ys ++ sent_in sends) (each-none sent_by (kept played) (sent-kept played) (r.contents before input))
    ∙ sent-sends (length before + 1) (r.sends before input)

sent-front : (part rest : List Action) → IsPartOfNext part rest → IsFront (sent_in part) (sent_in rest)
sent-front [] rest h = front-none (sent_in rest)
sent-front (a ∷ []) [] h = absurd h
sent-front (read path ∷ []) (b ∷ rest) h = front-none (sent_in (b ∷ rest))
sent-front (create path ∷ []) (b ∷ rest) h = front-none (sent_in (b ∷ rest))
sent-front (append path bytes ∷ []) (b ∷ rest) h = front-none (sent_in (b ∷ rest))
sent-front (show bytes ∷ []) (b ∷ rest) h = front-none (sent_in (b ∷ rest))
sent-front (link call ∷ []) (b ∷ rest) h = absurd (no-link-part call b h)
sent-front (a ∷ b ∷ more) rest h = absurd h

yields-sent : (recording played : Option (List ℕ)) (r : Rules) → Yields (node_layout recording played) r sent_by r.sends
yields-sent recording played r = record { turn_is = sent-turn recording played r; none = λ came. refl; front = sent-front }

over-sends : (r : Rules) (before inputs : List Input) → over r.sends before inputs ≡ sends_over r before inputs
over-sends r before [] = refl
over-sends r before (x ∷ xs) = ap (λ ys. r.sends before x ++ ys) (over-sends r (before ++ x ∷ []) xs)

-- nothing is sent after the turns
sent-behind : (recording : Option (List ℕ)) (found : List ℕ) (r : Rules) (given : List Arrival) →
    sent_in (behind recording found r given) ≡ []
sent-behind recording found r given =
    let taken : List Input = taken_of r given in
    behind-none sent_by recording found r given refl
    (all-map (λ f. IsFindingName found f.name) (λ f. GivesNone sent_by f.name) (found_after found r taken) (λ f is. (refl, λ bytes. refl))
    (finding-names found (r.manifest taken) r.rounds (r.evidence taken) r.peers))
    (sent-kept recording (0 ∷ []))

-- ---- what was sent

-- everything that some inputs send, and a prefix of what the following inputs send
pub record SentUntil (r : Rules) (whole last : List Input) (wire wire_new : Wire) : Type 0 where
  pub sent : List Send
  pub front : IsFront sent (sends_over r whole last)
  pub is : wire_new.traffic.sent ≡ wire.traffic.sent ++ (sends_over r [] whole ++ sent)

module _ (recording played : Option (List ℕ)) (found : List ℕ) (r : Rules) (given : List Arrival) (old new : Outside) where
  abbrev lay : Layout
  lay = node_layout recording played

  abbrev tail : List Action
  tail = behind recording found r given

  -- a run that completed
  pub sent-whole : Ran (node_plan recording played found r given) old new →
      new.wire.traffic.sent ≡ old.wire.traffic.sent ++ sends_over r [] (taken_of r given)
  sent-whole ran =
      ap (λ (t : Traffic). t.sent) ran.wire
      ∙ sent-after (node_plan recording played found r given) old.wire.traffic
      ∙ ap (λ ys. old.wire.traffic.sent ++ ys)
      (run-gives lay r sent_by r.sends (yields-sent recording played r) given tail
      ∙ ap (λ ys. over r.sends [] (taken_of r given) ++ ys) (sent-behind recording found r given)
      ∙ append-nil (over r.sends [] (taken_of r given))
      ∙ over-sends r [] (taken_of r given))

  -- a run that was done in part
  pub sent-until : (done : List Action) → Ran done old new → (s : StopAt lay r given tail done) →
      SentUntil r s.cut.whole s.cut.last old.wire new.wire
  sent-until done ran s =
      let y = yields-sent recording played r in
      record {
        sent = sent_in s.part;
        front = subst (IsFront (sent_in s.part)) (append-nil _ ∙ over-sends r s.cut.whole s.cut.last)
            (given-part lay r sent_by r.sends y given tail done s [] (sent-behind recording found r given));
        is =
            ap (λ (t : Traffic). t.sent) ran.wire
            ∙ sent-after done old.wire.traffic
            ∙ ap (λ ys. old.wire.traffic.sent ++ ys)
            (given-whole lay r sent_by r.sends y given tail done s
            ∙ ap (λ ys. ys ++ sent_in s.part) (over-sends r [] s.cut.whole));
      }

  pub sent-part : HasRun recording played found r given old new → StoppedSending r given old.wire new.wire
  sent-part h =
      let s = stopped-at recording played found r given old new h in
      let u = sent-until h.done h.ran s in
      record { cut = s.cut; sent = u.sent; front = u.front; is = u.is }
