-- Evidence is reported at the end of a round.
use Rattle.std.proofs.Common.{◌≡◌, ◌⊎◌, inl, inr, ℕ, true, false, ◌&&◌, not, List, [], ◌∷◌, is_some, sym, ap, subst, eqb, cond, refl, ◌∙◌, arith}
use Rattle.std.specs.Prelude.{None, Some, Contains, nat_le, option_map}
use Rattle.std.proofs.lemmas.Bool.{and_from, eq-eqb, lt-leb}
use Rattle.bar_bytes.proofs.Options.{or-none}
use Rattle.bar_session.specs.Time.{last_tick, slot_after}
use Rattle.bar_window.proofs.Ranges.{Contains-here, Contains_cases, image_is_in}
use Rattle.bar_wire.specs.Datagram.{Datagram, Evidence}
use Rattle.bar_wire.specs.Inputs as event
use Rattle.bar_rules.specs.Member.{Member}
use Rattle.bar_rules.specs.Peer.Knowledge.{Knowledge, known}
use Rattle.bar_rules.specs.Peer.Log.{Ticked, first_heard, is_announced, kept, names_party, ticks}
use Rattle.bar_rules.specs.Peer.Machine as machine
use Rattle.bar_rules.specs.Peer.Machine.{logs, send_if}
use Rattle.bar_rules.specs.Peer.Orders.{Order, Report}
use Rattle.bar_rules.specs.Peer.Replies.{orders_when}
use Rattle.bar_rules.specs.Peer.Run.{Out, perform, perform_all, take_input}
use Rattle.bar_rules.specs.Peer.Ticks.{orders_at_tick, reports}
use Rattle.bar_rules.specs.Runs.{begun}
use Rattle.bar_laws.proofs.Logs.{option_or-some}
use Rattle.bar_progress.specs.Evictions.{ReportsAreSent, report_of}
use Rattle.bar_progress.proofs.Holding.{contains-back, contains-front}
use Rattle.bar_progress.proofs.Performing.{IsKept, all-keeps, perform-keeps}
use Rattle.bar_progress.proofs.Requesting.{when-has}

module _ (me : Member) (party : ℕ) (evidence : List (List ℕ)) where
  abbrev Keeps : Out → Type 0
  Keeps out = kept out.state party ≡ Some evidence

  abbrev Sends : Out → Type 0
  Sends out = Contains out.sends (0, report_of me evidence)

  keeping : IsKept (logs me) Keeps
  keeping = record { sent = λ out to d h. h; said = λ out d h. option_or-some (kept out.state party) None evidence h }

  sent-still : IsKept (logs me) Sends
  sent-still = record { sent = λ out to d h. contains-front out.sends ((to, d) ∷ []) (0, report_of me evidence) h; said = λ out d h. h }

  reports-now : (out : Out) → Keeps out → Sends (perform me out (Report party))
  reports-now out h =
      subst (λ o. Sends (send_if me out 0 (option_map Evidence o))) (sym h)
      (contains-back out.sends ((0, report_of me evidence) ∷ []) (0, report_of me evidence) (Contains-here {X = ℕ × Datagram} (0, report_of me evidence) []))

  among-reports : (out : Out) (os : List Order) → Contains os (Report party) → Keeps out → Sends (perform_all me out os)
  among-reports out [] c h = absurd (omega (arith, c.1))
  among-reports out (o ∷ os) c h = go (Contains_cases o (Report party) os c) (λ later. among-reports (perform me out o) os later (perform-keeps (logs me) me Keeps keeping out o h))
    where
      go : (o ≡ Report party) ⊎ Contains os (Report party) → (Contains os (Report party) → Sends (perform_all me (perform me out o) os)) → Sends (perform_all me (perform me out o) os)
      go (inl e) more = all-keeps (logs me) me Sends sent-still (perform me out o) os (subst (λ z. Sends (perform me out z)) (sym e) (reports-now out h))
      go (inr c) more = more c

pub reports-sent : ReportsAreSent
unfolding machine.step
reports-sent me log party evidence r = subst (λ b. Contains (cond b (begun log) (take_input me log event.Tick)).sends (0, report_of me evidence)) (sym late) reported
  where
    k : Knowledge
    k = known me (Ticked ∷ log)

    late : nat_le (last_tick me.session) (ticks log) ≡ false
    late = lt-leb (last_tick me.session) (ticks log) r.going

    still : kept (Ticked ∷ log) party ≡ Some evidence
    still = option_or-some (kept log party) None evidence r.keeps

    open_to : is_announced (Ticked ∷ log) party ≡ false
    open_to = ap is_some (or-none (first_heard (names_party party) log)) ∙ r.trading

    due : (is_some (kept (Ticked ∷ log) party) && not (is_announced (Ticked ∷ log) party)) ≡ true
    due = and_from _ _ (ap is_some still) (ap not open_to)

    ordered : Contains (reports me k) (Report party)
    ordered =
        image_is_in (λ q. is_some (kept (Ticked ∷ log) q) && not (is_announced (Ticked ∷ log) q)) Report 1 me.session.shape.peers (Report party)
        (record { place = party; low = r.peer.0; high = omega (arith, r.peer.1); passes = due; is = refl })

    among : Contains (orders_at_tick me k) (Report party)
    among = contains-back _ (orders_when (eqb (slot_after k.ticks) 7) (reports me k)) (Report party) (when-has _ (reports me k) (Report party) (eq-eqb _ _ r.slot) ordered)

    reported : Contains (take_input me log event.Tick).sends (0, report_of me evidence)
    reported = among-reports me party evidence (begun (Ticked ∷ log)) (orders_at_tick me k) among still
