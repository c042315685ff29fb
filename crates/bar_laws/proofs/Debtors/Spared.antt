-- At a tick the only requests that a party that owes a key is sent are those that were said before.
use Rattle.bar_wire.specs.Datagram.{Datagram, Body, Divulge, KeyReq, Evidence, is_of}
use Rattle.bar_wire.specs.Inputs as event
use Rattle.bar_wire.specs.declared.kind.Kind.{Kind}
use Rattle.bar_window.specs.declared.exchange.Exchange.{Exchange}
use Rattle.bar_window.specs.declared.exchange.XKind.{XKind}
use Rattle.bar_window.specs.declared.update.UpdateId.{UpdateId}
use Rattle.bar_session.specs.Time.{last_tick}
use Rattle.bar_rules.specs.Runs.{begun}
use Rattle.bar_rules.specs.Member.{Member}
use Rattle.bar_rules.specs.Peer.Debts.{owes}
use Rattle.bar_rules.specs.Peer.Exchanges.{role_of, partner_in}
use Rattle.bar_rules.specs.Peer.Knowledge.{Knowledge, known, this_round}
use Rattle.bar_rules.specs.Peer.Log.{Log, Ticked, Said, first_said, ticks}
use Rattle.bar_rules.specs.Peer.Machine.{send_if, message_to}
use Rattle.bar_rules.specs.Peer.Machine as machine
use Rattle.bar_rules.specs.Peer.Orders.{Order, Ask, Answer, Reveal, GiveCase, AskKey, GiveKey, Resend, Report}
use Rattle.bar_rules.specs.Peer.Run.{Out, perform, perform_all, say, say_or_repeat, take_input, step}
use Rattle.bar_rules.specs.Peer.Signing.{signed}
use Rattle.bar_rules.specs.Peer.Ticks.{asking_partner, orders_at_tick}
use Rattle.bar_rules.specs.Secrets.{partner_of, seed_of}
use Rattle.bar_rules.specs.Values.{unsigned}
use Rattle.std.proofs.Common.{◌≡◌, ℕ, Bool, true, false, List, [], ◌∷◌, refl, sym, ap, ◌∙◌, inl, inr, not, ◌||◌, cond}
use Rattle.std.specs.Prelude.{Option, Some, None, ◌⊎◌, option_map, nat_le, Contains}
use Rattle.std.specs.List.{AllByRecursion}
use Rattle.std.proofs.lemmas.Bool.{both_ways}
use Rattle.bar_wire.proofs.Lists.{AllByRecursion-push}
use Rattle.bar_laws.specs.Debts.{begins}
use Rattle.bar_laws.proofs.Logs.{all-of, when-all, again-all, tick-all, first_said-was, SaidIn, said-in, receiver-on, role-initiator}
use Rattle.bar_laws.proofs.Runs.{said-contains}

-- what begins an exchange with the party was said before
abbrev IsOld : ℕ → Log → ℕ × Datagram → Type 0
IsOld party log s = s.0 ≡ party → begins s.1.message.body ≡ true → Contains log (Said s.1)

-- this holds for all that is sent, and for all that has been said
record Spares (party : ℕ) (log : Log) (out : Out) : Type 0 where
  sends : AllByRecursion (IsOld party log) out.sends
  said : (d : Datagram) → SaidIn out.state d → IsOld party log (d.message.to, d)

spares-say : (party : ℕ) (log : Log) (me : Member) (out : Out) (kind : Kind) (x : Exchange) (o : Option Body) → ((b : Body) → o ≡ Some b → partner_in me x ≡ party → ⊥) → Spares party log out
    → Spares party log (say me out kind x o)
spares-say party log me out kind x o f s = go (first_said (is_of kind x (role_of me x)) out.state) refl o f
  where
    go : (q : Option Datagram) → first_said (is_of kind x (role_of me x)) out.state ≡ q → (o : Option Body) → ((b : Body) → o ≡ Some b → partner_in me x ≡ party → ⊥) → Spares party log (say_or_repeat me out x q o)
    go (Some d) e o f =
        let was = first_said-was (is_of kind x (role_of me x)) out.state d e in
        let to : d.message.to ≡ partner_in me x = receiver-on kind x (role_of me x) d.message was.1 in
        record { sends = AllByRecursion-push (IsOld party log) out.sends (partner_in me x, d) s.sends (λ p b. s.said d (said-in out.state d was.0) (to ∙ p) b); said = s.said }
    go None e None f = s
    go None e (Some b) f =
        let new : Datagram = signed me (known me out.state) (message_to me x b) in
        record {
          sends = AllByRecursion-push (IsOld party log) out.sends (partner_in me x, new) s.sends (λ p h. absurd (f b refl p));
          said = λ d w. either d new refl (f b refl) w;
        }
      where
        either : (d new : Datagram) → new.message.to ≡ partner_in me x → (partner_in me x ≡ party → ⊥) → (Said new ≡ Said d) ⊎ SaidIn out.state d → IsOld party log (d.message.to, d)
        either d new to never (inr w) p h = s.said d w p h
        either d new to never (inl same) p h = (let one : new ≡ d = cc in absurd (never (sym to ∙ ap (λ z. z.message.to) one ∙ p)))

spares-if : (party : ℕ) (log : Log) (me : Member) (out : Out) (to : ℕ) (o : Option Body) → ((b : Body) → o ≡ Some b → begins b ≡ false) → Spares party log out → Spares party log (send_if me out to o)
spares-if party log me out to None f s = s
spares-if party log me out to (Some b) f s =
    record { sends = AllByRecursion-push (IsOld party log) out.sends (to, unsigned (record { from = me.party; to = to; body = b })) s.sends (λ p h. absurd (both_ways (begins b) (f b refl) h)); said = s.said }

reveals-nothing : (r : ℕ) (o : Option (List ℕ × List UpdateId)) (b : Body) → option_map (λ (a : List ℕ × List UpdateId). Divulge r a.0 a.1) o ≡ Some b → begins b ≡ false
reveals-nothing r None b e = cc
reveals-nothing r (Some a) b e = let same : Divulge r a.0 a.1 ≡ b = cc in sym (ap begins same)

reports-nothing : (o : Option (List (List ℕ))) (b : Body) → option_map Evidence o ≡ Some b → begins b ≡ false
reports-nothing None b e = cc
reports-nothing (Some v) b e = let same : Evidence v ≡ b = cc in sym (ap begins same)

-- an order of a tick that asks other parties
abbrev Spared : Member → ℕ → Order → Type 0
Spared me party (Ask x) = partner_in me x ≡ party → ⊥
Spared me party (Answer x) = ⊥
Spared me party (GiveCase x) = ⊥
Spared me party (GiveKey x) = ⊥
Spared me party _ = Unit {0}

spares-perform : (party : ℕ) (log : Log) (me : Member) (out : Out) (o : Order) → Spared me party o → Spares party log out → Spares party log (perform me out o)
spares-perform party log me out (Ask x) f s = spares-say party log me out _ x _ (λ b e. f) s
spares-perform party log me out (Resend kind x) f s = spares-say party log me out kind x None (λ b e. cc) s
spares-perform party log me out (Reveal x) f s = spares-if party log me out _ _ (reveals-nothing x.round _) s
spares-perform party log me out (AskKey x) f s = spares-if party log me out (partner_in me x) (Some (KeyReq x.round x.kind (role_of me x))) (λ b e. let same : KeyReq x.round x.kind (role_of me x) ≡ b = cc in sym (ap begins same)) s
spares-perform party log me out (Report q) f s = spares-if party log me out 0 _ (reports-nothing _) s
spares-perform party log me out (Answer x) f s = absurd f
spares-perform party log me out (GiveCase x) f s = absurd f
spares-perform party log me out (GiveKey x) f s = absurd f

spares-all : (party : ℕ) (log : Log) (me : Member) (os : List Order) (out : Out) → AllByRecursion (Spared me party) os → Spares party log out → Spares party log (perform_all me out os)
spares-all party log me [] out f s = s
spares-all party log me (o ∷ os) out f s = spares-all party log me os (perform me out o) f.1 (spares-perform party log me out o f.0 s)

-- the orders of a tick ask no party that owes
tick-spared : (me : Member) (k : Knowledge) (party : ℕ) → owes me k party ≡ true → AllByRecursion (Spared me party) (orders_at_tick me k)
tick-spared me k party h =
    tick-all (Spared me party) (λ x. Unit {0}) me k (all-of (λ x. Unit {0}) k.opens (λ x c. tt)) (λ x r. again-all (Spared me party) me k x tt (λ _. (tt, tt)) (λ _. tt)) asks (λ q. tt)
  where
    unowed : (a b : Bool) → not (a || b) ≡ true → b ≡ false
    unowed true b e = cc
    unowed false true e = cc
    unowed false false e = refl

    asks : (kind : XKind) → AllByRecursion (Spared me party) (asking_partner me k (this_round k) kind)
    asks kind = when-all (Spared me party) (not (k.is_announced to || owes me k to)) (Ask x ∷ []) (λ z. (λ p. other z p, tt))
      where
        to : ℕ
        to = partner_of me.session (seed_of me (this_round k)) kind me.party

        x : Exchange
        x = record { round = this_round k; kind = kind; initiator = me.party; responder = to }

        other : not (k.is_announced to || owes me k to) ≡ true → partner_in me x ≡ party → ⊥
        other z p =
            let partner : partner_in me x ≡ to = rw (role-initiator me x refl) refl in
            both_ways (owes me k to) (unowed (k.is_announced to) (owes me k to) z) (ap (owes me k) (sym partner ∙ p) ∙ h)

pub spares-debtors : (me : Member) (log : Log) (party : ℕ) → owes me (known me (Ticked ∷ log)) party ≡ true → AllByRecursion (IsOld party log) (step me log event.Tick).sends
unfolding machine.step
spares-debtors me log party h = go (nat_le (last_tick me.session) (ticks log))
  where
    start : Spares party log (begun (Ticked ∷ log))
    start = record { sends = tt; said = old }
      where
        old : (d : Datagram) → (Ticked ≡ Said d) ⊎ SaidIn log d → IsOld party log (d.message.to, d)
        old d (inl e) p b = cc
        old d (inr w) p b = said-contains log d w

    go : (b : Bool) → AllByRecursion (IsOld party log) (cond b (begun log) (take_input me log event.Tick)).sends
    go true = tt
    go false = (spares-all party log me (orders_at_tick me (known me (Ticked ∷ log))) (begun (Ticked ∷ log)) (tick-spared me (known me (Ticked ∷ log)) party h) start).sends
