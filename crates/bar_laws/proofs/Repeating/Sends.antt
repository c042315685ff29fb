-- What orders send, one after another.
use Rattle.bar_wire.specs.Datagram.{Datagram, Body, KeyReq, is_of}
use Rattle.bar_wire.specs.declared.kind.Kind.TheVariants as kinds
use Rattle.bar_wire.specs.declared.kind.Kind.{Kind}
use Rattle.bar_window.specs.declared.exchange.Exchange.{Exchange}
use Rattle.bar_rules.specs.Member.{Member}
use Rattle.bar_rules.specs.Runs.{begun}
use Rattle.bar_rules.specs.Peer.Exchanges.{role_of, partner_in}
use Rattle.bar_rules.specs.Peer.Log.{Log, first_said}
use Rattle.bar_rules.specs.Peer.Machine.{send_if}
use Rattle.bar_rules.specs.Peer.Orders.{Order, Ask, Answer, Reveal, GiveCase, AskKey, GiveKey, Resend, Report}
use Rattle.bar_rules.specs.Peer.Run.{Out, perform, perform_all, say, say_or_repeat}
use Rattle.std.proofs.Common.{◌≡◌, ℕ, List, [], ◌∷◌, ◌++◌, refl, sym, ap, ◌∙◌, append_assoc, append-nil}
use Rattle.std.specs.Prelude.{Option, Some, None}
use Rattle.std.specs.List.{AllByRecursion}

pub all-append : (me : Member) (out : Out) (os ps : List Order) → perform_all me out (os ++ ps) ≡ perform_all me (perform_all me out os) ps
all-append me out [] ps = refl
all-append me out (o ∷ os) ps = all-append me (perform me out o) os ps

-- What an order leaves depends on the log, and what it sends follows what was sent before.
record Follows (out new started : Out) : Type 0 where
  state : new.state ≡ started.state
  sends : new.sends ≡ out.sends ++ started.sends

still : (out : Out) → Follows out out (begun out.state)
still out = record { state = refl; sends = sym (append-nil out.sends) }

say-follows : (me : Member) (out : Out) (kind : Kind) (x : Exchange) (o : Option Body) → Follows out (say me out kind x o) (say me (begun out.state) kind x o)
say-follows me out kind x o = go (first_said (is_of kind x (role_of me x)) out.state) o
  where
    go : (q : Option Datagram) (o : Option Body) → Follows out (say_or_repeat me out x q o) (say_or_repeat me (begun out.state) x q o)
    go (Some d) o = record { state = refl; sends = refl }
    go None None = still out
    go None (Some b) = record { state = refl; sends = refl }

if-follows : (me : Member) (out : Out) (to : ℕ) (o : Option Body) → Follows out (send_if me out to o) (send_if me (begun out.state) to o)
if-follows me out to None = still out
if-follows me out to (Some b) = record { state = refl; sends = refl }

perform-follows : (me : Member) (out : Out) (o : Order) → Follows out (perform me out o) (perform me (begun out.state) o)
perform-follows me out (Ask x) = say-follows me out _ x _
perform-follows me out (Answer x) = say-follows me out _ x _
perform-follows me out (GiveCase x) = say-follows me out kinds.Case x _
perform-follows me out (GiveKey x) = say-follows me out kinds.Key x _
perform-follows me out (Resend kind x) = say-follows me out kind x None
perform-follows me out (Reveal x) = if-follows me out _ _
perform-follows me out (AskKey x) = if-follows me out (partner_in me x) (Some (KeyReq x.round x.kind (role_of me x)))
perform-follows me out (Report q) = if-follows me out 0 _

joined : (me : Member) (os : List Order) (out mid start : Out) → Follows out mid start → Follows mid (perform_all me mid os) (perform_all me (begun mid.state) os) → Follows start (perform_all me start os) (perform_all me (begun start.state) os)
    → Follows out (perform_all me mid os) (perform_all me start os)
joined me os out mid start one rest same = record {
  state = rest.state ∙ ap (λ l. (perform_all me (begun l) os).state) one.state ∙ sym same.state;
  sends =
      rest.sends
      ∙ (λ i. one.sends i ++ (perform_all me (begun (one.state i)) os).sends)
      ∙ append_assoc out.sends start.sends (perform_all me (begun start.state) os).sends
      ∙ ap (λ s. out.sends ++ s) (sym same.sends);
}

all-follows : (me : Member) (os : List Order) (out : Out) → Follows out (perform_all me out os) (perform_all me (begun out.state) os)
all-follows me [] out = still out
all-follows me (o ∷ os) out =
    joined me os out (perform me out o) (perform me (begun out.state) o) (perform-follows me out o) (all-follows me os (perform me out o)) (all-follows me os (perform me (begun out.state) o))

-- what the orders of two lists send
pub all-sends : (me : Member) (log : Log) (os ps : List Order) → (perform_all me (begun log) (os ++ ps)).sends ≡ (perform_all me (begun log) os).sends ++ (perform_all me (begun (perform_all me (begun log) os).state) ps).sends
all-sends me log os ps = ap (λ (out : Out). out.sends) (all-append me (begun log) os ps) ∙ (all-follows me ps (perform_all me (begun log) os)).sends

-- ---- orders that say nothing new

abbrev pub Repeats : Order → Type 0
Repeats (Ask x) = ⊥
Repeats (Answer x) = ⊥
Repeats (GiveCase x) = ⊥
Repeats (GiveKey x) = ⊥
Repeats _ = Unit {0}

if-still : (me : Member) (out : Out) (to : ℕ) (o : Option Body) → (send_if me out to o).state ≡ out.state
if-still me out to None = refl
if-still me out to (Some b) = refl

perform-still : (me : Member) (out : Out) (o : Order) → Repeats o → (perform me out o).state ≡ out.state
perform-still me out (Resend kind x) r = go (first_said (is_of kind x (role_of me x)) out.state)
  where
    go : (q : Option Datagram) → (say_or_repeat me out x q None).state ≡ out.state
    go (Some d) = refl
    go None = refl
perform-still me out (Reveal x) r = if-still me out _ _
perform-still me out (AskKey x) r = refl
perform-still me out (Report q) r = if-still me out 0 _
perform-still me out (Ask x) r = absurd r
perform-still me out (Answer x) r = absurd r
perform-still me out (GiveCase x) r = absurd r
perform-still me out (GiveKey x) r = absurd r

pub all-still : (me : Member) (os : List Order) (out : Out) → AllByRecursion Repeats os → (perform_all me out os).state ≡ out.state
all-still me [] out r = refl
all-still me (o ∷ os) out r = all-still me os (perform me out o) r.1 ∙ perform-still me out o r.0

-- so the orders after them depend on the same log
pub still-sends : (me : Member) (log : Log) (os ps : List Order) → AllByRecursion Repeats os → (perform_all me (begun log) (os ++ ps)).sends ≡ (perform_all me (begun log) os).sends ++ (perform_all me (begun log) ps).sends
still-sends me log os ps r = all-sends me log os ps ∙ ap (λ l. (perform_all me (begun log) os).sends ++ (perform_all me (begun l) ps).sends) (all-still me os (begun log) r)
