-- What a run sends.
use Rattle.bar_rules.specs.Peer.Evidence.{new_evidence}
use Rattle.bar_rules.specs.Runs.{begun, sends_from}
use Rattle.bar_rules.specs.Peer.Admission.{is_admitted}
use Rattle.bar_rules.specs.Peer.Exchanges.{role_of, partner_in}
use Rattle.bar_rules.specs.Peer.Knowledge.{known}
use Rattle.bar_rules.specs.Peer.Log.{Log, Ticked, Heard, Said, first_said, ticks, has_said}
use Rattle.bar_rules.specs.Peer.Machine.{send_if, message_to}
use Rattle.bar_session.specs.Time.{last_tick}
use Rattle.bar_rules.specs.Member.{Member}
use Rattle.bar_rules.specs.Peer.Orders.{Order, Ask, Answer, Reveal, GiveCase, AskKey, GiveKey, Resend, Report}
use Rattle.bar_rules.specs.Peer.Replies.{reply_orders, repeated}
use Rattle.bar_rules.specs.Peer.Rules.{IsObedient}
use Rattle.bar_rules.specs.Peer.Run.{Out, perform, perform_all, say, say_or_repeat, answered_to, answer_repeat, with_evidence, report_new, take_datagram, take_input, step, log_after, sends_of}
use Rattle.bar_rules.specs.Peer.Signing.{signed}
use Rattle.bar_rules.specs.Peer.Terms.{totals, totals_with}
use Rattle.bar_rules.specs.Peer.Ticks.{orders_at_tick}
use Rattle.bar_rules.specs.Values.{datagram_of, unsigned}
use Rattle.bar_rules.specs.Peer.Machine as machine
use Rattle.bar_laws.specs.Obedience.{IsSentByRule}
use Rattle.bar_laws.specs.Balance.{key_was_sent, totals_of, IsBalanced}
use Rattle.bar_window.specs.declared.exchange.Exchange.{Exchange}
use Rattle.bar_window.specs.declared.exchange.Role.{Role}
use Rattle.bar_wire.specs.declared.kind.Kind.TheVariants as kinds
use Rattle.bar_wire.specs.declared.kind.Kind.{Kind}
use Rattle.bar_wire.specs.Datagram.{Message, Datagram, Body, KeyReq, is_signed, is_of}
use Rattle.bar_wire.specs.Inputs.{Input}
use Rattle.bar_wire.specs.Inputs as event
use Rattle.std.proofs.Common.{◌≡◌, ℕ, suc, ◌+◌, Bool, true, false, List, [], ◌∷◌, ◌++◌, refl, sym, ap, ◌∙◌, subst, inl, inr, arith}
use Rattle.std.specs.Prelude.{Option, Some, None, ◌⊎◌, map, cond, nat_le, Contains}
use Rattle.std.specs.List.{AllByRecursion, list_any}
use Rattle.std.proofs.lemmas.Bool.{or_cases, both_ways}
use Rattle.bar_wire.proofs.Lists.{AllByRecursion-push}
use Rattle.bar_laws.specs.Growing.{IsLater}
use Rattle.bar_laws.proofs.Logs.{later-same, first_said-was, SaidIn, was-said, said-found, IsKeyOf, is_of-key, HasEvenBriefcases, balance, all-both, all-map, receiver-on}
use Rattle.bar_laws.proofs.Runs.StepAdds.{SentBy, IsPlain, step-adds}

-- ---- logs grow

join-split : (a b c : Log) → a ++ (b ++ c) ≡ (a ++ b) ++ c
join-split [] b c = refl
join-split (x ∷ a) b c = ap (λ l. x ∷ l) (join-split a b c)

pub later-trans : (a b c : Log) → IsLater a b → IsLater b c → IsLater a c
later-trans a b c f g = record { new = f.new ++ g.new; split = f.split ∙ ap (λ l. f.new ++ l) g.split ∙ join-split f.new g.new c }

pub step-later : (me : Member) (log : Log) (i : Input) → IsLater (step me log i).state log
step-later me log i = let a = step-adds me log i in record { new = a.new; split = a.split }

pub run-later : (me : Member) (log : Log) (inputs : List Input) → IsLater (log_after me log inputs) log
run-later me log [] = later-same log
run-later me log (i ∷ is) = later-trans _ (step me log i).state log (run-later me (step me log i).state is) (step-later me log i)

said-in-more : (new log : Log) (d : Datagram) → SaidIn log d → SaidIn (new ++ log) d
said-in-more [] log d p = p
said-in-more (x ∷ new) log d p = inr (said-in-more new log d p)

pub said-in-later : (log before : Log) (d : Datagram) → IsLater log before → SaidIn before d → SaidIn log d
said-in-later log before d later p = subst (λ l. SaidIn l d) (sym later.split) (said-in-more later.new before d p)

pub said-contains : (log : Log) (d : Datagram) → SaidIn log d → Contains log (Said d)
said-contains [] d p = absurd p
said-contains (x ∷ log) d (inl e) = (0, omega arith, e)
said-contains (x ∷ log) d (inr p) = let c = said-contains log d p in (suc c.0, omega (arith, c.1), c.2)

-- ---- sends

-- what was sent is for the receiver that it names, and was said if it is signed
pub record IsSent (log : Log) (s : ℕ × Datagram) : Type 0 where
  pub to : s.0 ≡ s.1.message.to
  pub said : is_signed s.1.message.body ≡ true → SaidIn log s.1

sent-by : (me : Member) (log : Log) (s : ℕ × Datagram) → SentBy me log s → s.0 ≡ s.1.message.to → IsSent log s
sent-by me log s b to = record { to = to; said = λ signed. go signed b }
  where
    go : is_signed s.1.message.body ≡ true → SaidIn log s.1 ⊎ ((s.1.message.from ≡ me.party) × IsPlain log s.1.message.body) → SaidIn log s.1
    go signed (inl p) = p
    go signed (inr p) = absurd (both_ways _ p.1.unsigned_kind signed)

-- each datagram is sent to the receiver that it names
abbrev pub IsAddressed : ℕ × Datagram → Type 0
IsAddressed s = s.0 ≡ s.1.message.to

say-addressed : (me : Member) (out : Out) (kind : Kind) (x : Exchange) (o : Option Body) → AllByRecursion IsAddressed out.sends → AllByRecursion IsAddressed (say me out kind x o).sends
say-addressed me out kind x o a = go (first_said (is_of kind x (role_of me x)) out.state) refl o
  where
    go : (q : Option Datagram) → first_said (is_of kind x (role_of me x)) out.state ≡ q → (o : Option Body) → AllByRecursion IsAddressed (say_or_repeat me out x q o).sends
    go (Some d) e o = AllByRecursion-push IsAddressed out.sends (partner_in me x, d) a (sym (receiver-on kind x (role_of me x) d.message (first_said-was (is_of kind x (role_of me x)) out.state d e).1))
    go None e None = a
    go None e (Some b) = AllByRecursion-push IsAddressed out.sends (partner_in me x, signed me (known me out.state) (message_to me x b)) a refl

if-addressed : (me : Member) (out : Out) (to : ℕ) (o : Option Body) → AllByRecursion IsAddressed out.sends → AllByRecursion IsAddressed (send_if me out to o).sends
if-addressed me out to None a = a
if-addressed me out to (Some b) a = AllByRecursion-push IsAddressed out.sends (to, unsigned (record { from = me.party; to = to; body = b })) a refl

perform-addressed : (me : Member) (out : Out) (o : Order) → AllByRecursion IsAddressed out.sends → AllByRecursion IsAddressed (perform me out o).sends
perform-addressed me out (Ask x) a = say-addressed me out _ x _ a
perform-addressed me out (Answer x) a = say-addressed me out _ x _ a
perform-addressed me out (GiveCase x) a = say-addressed me out kinds.Case x _ a
perform-addressed me out (GiveKey x) a = say-addressed me out kinds.Key x _ a
perform-addressed me out (Resend kind x) a = say-addressed me out kind x None a
perform-addressed me out (Reveal x) a = if-addressed me out _ _ a
perform-addressed me out (AskKey x) a = if-addressed me out (partner_in me x) (Some (KeyReq x.round x.kind (role_of me x))) a
perform-addressed me out (Report q) a = if-addressed me out 0 _ a

perform_all-addressed : (me : Member) (out : Out) (os : List Order) → AllByRecursion IsAddressed out.sends → AllByRecursion IsAddressed (perform_all me out os).sends
perform_all-addressed me out [] a = a
perform_all-addressed me out (o ∷ os) a = perform_all-addressed me (perform me out o) os (perform-addressed me out o a)

datagram-addressed : (me : Member) (log : Log) (o : Option Datagram) → AllByRecursion IsAddressed (take_datagram me log o).sends
datagram-addressed me log None = tt
datagram-addressed me log (Some d) = reported (new_evidence me (known me log) d)
  where
    before : Log
    before = with_evidence me log d.message.from (new_evidence me (known me log) d)

    answered : AllByRecursion IsAddressed (answered_to me before d).sends
    answered = go (is_admitted me (known me before) d) (repeated me (known me before) d)
      where
        go : (b : Bool) (q : Option Datagram) → AllByRecursion IsAddressed (cond b (perform_all me (begun (Heard d ∷ before)) (reply_orders me (known me (Heard d ∷ before)) true d)) (answer_repeat me before q)).sends
        go true q = perform_all-addressed me (begun (Heard d ∷ before)) (reply_orders me (known me (Heard d ∷ before)) true d) tt
        go false None = tt
        go false (Some c) = perform_all-addressed me (begun before) (reply_orders me (known me before) false c) tt

    reported : (e : Option (List (List ℕ))) → AllByRecursion IsAddressed (report_new me (answered_to me before d) d.message.from e).sends
    reported None = answered
    reported (Some e) = perform-addressed me (answered_to me before d) (Report d.message.from) answered

step-addressed : (me : Member) (log : Log) (i : Input) → AllByRecursion IsAddressed (step me log i).sends
unfolding machine.step
step-addressed me log i = go (nat_le (last_tick me.session) (ticks log)) i
  where
    go : (b : Bool) (i : Input) → AllByRecursion IsAddressed (cond b (begun log) (take_input me log i)).sends
    go true i = tt
    go false event.Tick = perform_all-addressed me (begun (Ticked ∷ log)) (orders_at_tick me (known me (Ticked ∷ log))) tt
    go false (event.Datagram bytes) = datagram-addressed me log (datagram_of me.session bytes)

all-sent : (me : Member) (log : Log) (sends : List (ℕ × Datagram)) → AllByRecursion (SentBy me log) sends → AllByRecursion IsAddressed sends → AllByRecursion (IsSent log) sends
all-sent me log [] a b = tt
all-sent me log (s ∷ sends) a b = (sent-by me log s a.0 b.0, all-sent me log sends a.1 b.1)

-- for a send with its input's number
abbrev pub IsSentAs : Log → ℕ × ℕ × Datagram → Type 0
IsSentAs log s = IsSent log (s.1, s.2)

numbered : (log before : Log) (n : ℕ) (sends : List (ℕ × Datagram)) → IsLater log before → AllByRecursion (IsSent before) sends
    → AllByRecursion (IsSentAs log) (map (λ (s : ℕ × Datagram). (n, s.0, s.1)) sends)
numbered log before n [] later a = tt
numbered log before n (s ∷ sends) later a =
    (record { to = a.0.to; said = λ signed. said-in-later log before s.1 later (a.0.said signed) }, numbered log before n sends later a.1)

pub run-sent : (me : Member) (log : Log) (n : ℕ) (inputs : List Input) → AllByRecursion (IsSentAs (log_after me log inputs)) (sends_from (step me) log n inputs)
run-sent me log n [] = tt
run-sent me log n (i ∷ is) =
    all-both (IsSentAs (log_after me log (i ∷ is))) _ _
    (numbered (log_after me log (i ∷ is)) (step me log i).state n (step me log i).sends (run-later me (step me log i).state is)
    (all-sent me (step me log i).state (step me log i).sends (step-adds me log i).sent (step-addressed me log i)))
    (run-sent me (step me log i).state (n + 1) is)

pub sent-by-rule : (me : Member) (inputs : List Input) → AllByRecursion (IsSentByRule (log_after me [] inputs)) (sends_of me inputs)
sent-by-rule me inputs =
    all-map (IsSentAs (log_after me [] inputs)) (IsSentByRule (log_after me [] inputs)) (sends_of me inputs)
    (λ s b. record { receiver = b.to; said = λ signed. said-contains (log_after me [] inputs) s.2 (b.said signed) }) (run-sent me [] 1 inputs)

-- ---- keys

pub key-signed : (x : Exchange) (role : Role) (m : Message) → is_of kinds.Key x role m ≡ true → is_signed m.body ≡ true
key-signed x role m e = let k : IsKeyOf x role m = is_of-key x role m e in ap is_signed k.body

pub any-said : (log : Log) (x : Exchange) (role : Role) (sends : List (ℕ × ℕ × Datagram)) → AllByRecursion (IsSentAs log) sends
    → list_any (λ s. is_of kinds.Key x role s.2.message) sends ≡ true → has_said (is_of kinds.Key x role) log ≡ true
any-said log x role [] a e = cc
any-said log x role (s ∷ sends) a e = go (or_cases _ _ e) (any-said log x role sends a.1)
  where
    go : (is_of kinds.Key x role s.2.message ≡ true) ⊎ (list_any (λ s. is_of kinds.Key x role s.2.message) sends ≡ true)
        → (list_any (λ s. is_of kinds.Key x role s.2.message) sends ≡ true → has_said (is_of kinds.Key x role) log ≡ true) → has_said (is_of kinds.Key x role) log ≡ true
    go (inl here) f = said-found (is_of kinds.Key x role) log s.2 (was-said log s.2 (a.0.said (key-signed x role s.2.message here))) here
    go (inr there) f = f there

-- a key that was sent was said, so both briefcases are there
pub run-balanced : (me : Member) (inputs : List Input) (x : Exchange) → IsObedient me (log_after me [] inputs) → IsBalanced (totals_of me inputs x)
run-balanced me inputs x h = go (key_was_sent me x (sends_of me inputs)) refl
  where
    log : Log
    log = log_after me [] inputs

    even : has_said (is_of kinds.Key x (role_of me x)) log ≡ true → IsBalanced (totals me (known me log) x) → IsBalanced (totals_with me (known me log) x true)
    even said e = subst (λ b. IsBalanced (totals_with me (known me log) x b)) said e

    by : ((totals me (known me log) x).opened ≡ 0) ⊎ HasEvenBriefcases me log x → IsBalanced (totals me (known me log) x)
    by (inl z) = inl z
    by (inr b) = inr (b.promised, b.received)

    go : (b : Bool) → key_was_sent me x (sends_of me inputs) ≡ b → IsBalanced (totals_of me inputs x)
    go false e = inl (rw e refl)
    go true e = rw e (even (any-said log x (role_of me x) (sends_of me inputs) (run-sent me [] 1 inputs) e) (by (balance me log x h)))
