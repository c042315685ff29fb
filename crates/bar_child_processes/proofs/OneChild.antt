-- The calls, line and status of one child.
use Rattle.std.proofs.Common.{◌≡◌, ◌∷◌, ◌&&◌, [], ℕ, ℤ, Bool, true, false, not, true≢false, Result, Ok, Err, IsTrue, refl, sym, ap, ◌∙◌, append-nil, arith}
use Rattle.bar_outside.specs.Code.Children.{Children, Waits}
use Rattle.bar_outside.specs.Stream.{Stream}
use Rattle.bar_outside.specs.declared.spawner.ChildFault.{ChildFault}
use Rattle.bar_outside.specs.declared.spawner.ChildFault.TheVariants as fault
use Rattle.bar_child_processes.specs.Family.{ReportData, Shown, Untried, code_of_end, code_of_shown, has_status, is_broken, is_in_order, is_tried}
use Rattle.bar_child_processes.specs.Outcomes.{code_of_fault, joined}
use Rattle.bar_child_processes.specs.Sessions.{Reports, ShowsLines, ShowsStatus, WaitsForEach}
use Rattle.bar_child_processes.proofs.Codes.{joined-none}

-- a wait
waits-one : (party number : ℕ) (ended : Result ℤ ChildFault) (shown : Shown) (old new : Children) → Waits number old new ended →
    WaitsForEach (record { party = party; number = number; ended = ended; shown = shown } ∷ []) old new
waits-one party number (Ok status) shown old new w = record {
  reliable = w.call.reliable;
  later = w.call.cause.later;
  rose = λ e. absurd (true≢false (sym e));
  refused = λ reliable. refl;
  calls = w.added;
}
waits-one party number (Err fault.Failed) shown old new w = record {
  reliable = w.call.reliable;
  later = w.call.cause.later;
  rose = λ e. w.call.cause.rose refl;
  refused = λ reliable. absurd (w.call.refused reliable refl);
  calls = w.refused;
}
waits-one party number (Err fault.NoMemory) shown old new w = record {
  reliable = w.call.reliable;
  later = w.call.cause.later;
  rose = λ e. absurd (true≢false (sym e));
  refused = λ reliable. refl;
  calls = w.refused;
}

-- no line was tried
shows-none : (party number : ℕ) (ended : Result ℤ ChildFault) (out : Stream) →
    ShowsLines (record { party = party; number = number; ended = ended; shown = Untried } ∷ []) out out
shows-none party number ended out = record {
  reliable = refl;
  later = omega arith;
  rose = λ e. absurd (true≢false (sym e));
  refused = λ reliable. refl;
  bytes = (0, sym (append-nil out.bytes));
}

in-order-tried : (party number : ℕ) (prints : Bool) (status : ℤ) (shown : Shown) → IsTrue prints → is_tried shown ≡ true →
    IsTrue (is_in_order prints (record { party = party; number = number; ended = Ok status; shown = shown } ∷ []))
in-order-tried party number true status shown h tried = rw tried
in-order-tried party number false status shown h tried = absurd (true≢false (sym h))

prints-on : (prints : Bool) (broken : Bool) → IsTrue prints → (prints && not broken) ≡ not broken
prints-on true broken h = refl
prints-on false broken h = absurd (true≢false (sym h))

-- its status was printed, or its line was refused
pub reports-shown : (party number : ℕ) (status : ℤ) (was now : ReportData) (out_old out_new : Stream) (old new : Children) →
    Waits number old new (Ok status) → IsTrue was.prints → ShowsStatus party number status was now out_old out_new →
    Reports ((party, number) ∷ []) was now out_old out_new old new
reports-shown party number status was now out_old out_new old new w prints s = record {
  family = record { party = party; number = number; ended = Ok status; shown = s.shown } ∷ [];
  are = refl;
  waits = waits-one party number (Ok status) s.shown old new w;
  shows = s.shows;
  in_order = in-order-tried party number was.prints status s.shown prints s.tried;
  prints = s.prints ∙ sym (prints-on was.prints (is_broken s.shown) prints);
  code = s.code ∙ ap (λ n. joined (joined n (code_of_shown s.shown)) (code_of_end s.shown (Ok status))) (sym (joined-none was.code));
}

in-order-untried : (party number : ℕ) (prints : Bool) (ended : Result ℤ ChildFault) → (prints && has_status ended) ≡ false →
    IsTrue (is_in_order prints (record { party = party; number = number; ended = ended; shown = Untried } ∷ []))
in-order-untried party number prints ended h = rw h

prints-same : (prints : Bool) → (prints && true) ≡ prints
prints-same true = refl
prints-same false = refl

pub none-refused : (prints : Bool) → (prints && false) ≡ false
none-refused true = refl
none-refused false = refl

-- lines are no longer printed
pub reports-quiet : (party number : ℕ) (status : ℤ) (was : ReportData) (out : Stream) (old new : Children) →
    Waits number old new (Ok status) → was.prints ≡ false → Reports ((party, number) ∷ []) was was out out old new
reports-quiet party number status was out old new w quiet = record {
  family = record { party = party; number = number; ended = Ok status; shown = Untried } ∷ [];
  are = refl;
  waits = waits-one party number (Ok status) Untried old new w;
  shows = shows-none party number (Ok status) out;
  in_order = in-order-untried party number was.prints (Ok status) (ap (λ b. b && true) quiet);
  prints = sym (prints-same was.prints);
  code = sym (joined-none (joined (joined was.code 0) 0) ∙ (joined-none (joined was.code 0) ∙ joined-none was.code));
}

-- its wait was refused
pub reports-fault : (party number : ℕ) (fault : ChildFault) (was now : ReportData) (out : Stream) (old new : Children) →
    Waits number old new (Err fault) → now ≡ record { code = joined was.code (code_of_fault fault); prints = was.prints } →
    Reports ((party, number) ∷ []) was now out out old new
reports-fault party number fault was now out old new w noted = record {
  family = record { party = party; number = number; ended = Err fault; shown = Untried } ∷ [];
  are = refl;
  waits = waits-one party number (Err fault) Untried old new w;
  shows = shows-none party number (Err fault) out;
  in_order = in-order-untried party number was.prints (Err fault) (none-refused was.prints);
  prints = ap (λ r. r.prints) noted ∙ sym (prints-same was.prints);
  code = let code = joined was.code (code_of_fault fault) in
      ap (λ r. r.code) noted ∙ sym (joined-none (joined code 0) ∙ joined-none code);
}
