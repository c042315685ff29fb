-- Orders that send no CASE of an exchange.
use Rattle.bar_wire.specs.Datagram.{Datagram, Body, Divulge, Evidence, KeyReq, is_of, kind_number}
use Rattle.bar_wire.specs.Kinds.{code_of}
use Rattle.bar_wire.specs.declared.kind.Kind.TheVariants as kinds
use Rattle.bar_wire.specs.declared.kind.Kind.{Kind}
use Rattle.bar_window.specs.Exchange.{same_exchange}
use Rattle.bar_window.specs.declared.exchange.Exchange.{Exchange}
use Rattle.bar_window.specs.declared.exchange.Role.{Role}
use Rattle.bar_window.specs.declared.exchange.XKind.{XKind}
use Rattle.bar_window.specs.declared.exchange.XKind.TheVariants.{Balanced, Push}
use Rattle.bar_window.specs.declared.update.UpdateId.{UpdateId}
use Rattle.bar_window.proofs.Exchanges.{same_exchange_refl}
use Rattle.bar_rules.specs.Member.{Member}
use Rattle.bar_rules.specs.Runs.{begun}
use Rattle.bar_rules.specs.Peer.Exchanges.{role_of, partner_in, request_kind}
use Rattle.bar_rules.specs.Peer.Knowledge.{Knowledge, known}
use Rattle.bar_rules.specs.Peer.Log.{Log, first_said}
use Rattle.bar_rules.specs.Peer.Machine.{send_if, message_to}
use Rattle.bar_rules.specs.Peer.Orders.{Order, Ask, Answer, Reveal, GiveCase, AskKey, GiveKey, Resend, Report, ask_body}
use Rattle.bar_rules.specs.Peer.Run.{Out, perform, perform_all, say, say_or_repeat}
use Rattle.bar_rules.specs.Peer.Signing.{signed}
use Rattle.bar_rules.specs.Peer.Ticks.{lacks_case, again}
use Rattle.bar_rules.specs.Values.{unsigned}
use Rattle.std.proofs.Common.{◌≡◌, ℕ, true, false, List, [], ◌∷◌, refl, sym, ◌∙◌, subst, inl, inr, eqb}
use Rattle.std.specs.Prelude.{Option, Some, None, ◌⊎◌, option_map}
use Rattle.std.specs.List.{AllByRecursion}
use Rattle.std.proofs.lemmas.Bool.{and_parts, and_left, both_ways, false_from_ne_true, eqb-true}
use Rattle.bar_wire.proofs.Lists.{AllByRecursion-push}
use Rattle.bar_laws.specs.Again.{IsNoCase}
use Rattle.bar_laws.proofs.Logs.{again-all, exchange-is, first_said-was, some-equal}

-- a message of another kind
other-number : (x : Exchange) (send : ℕ × Datagram) → eqb (kind_number send.1.message.body) 8 ≡ false → IsNoCase x send
other-number x send e role = and_left _ _ e

-- what is sent again of another kind, or of another exchange
abbrev pub IsApart : Exchange → Order → Type 0
IsApart x (Resend kind y) = (eqb (code_of kind) 8 ≡ false) ⊎ (same_exchange x y ≡ false)
IsApart x (Answer y) = ⊥
IsApart x (GiveCase y) = ⊥
IsApart x (GiveKey y) = ⊥
IsApart x _ = Unit {0}

said-apart : (x y : Exchange) (kind : Kind) (role : Role) (to : ℕ) (d : Datagram) → is_of kind y role d.message ≡ true → (eqb (code_of kind) 8 ≡ false) ⊎ (same_exchange x y ≡ false) → IsNoCase x (to, d)
said-apart x y kind role to d i (inl other) side =
    other-number x (to, d) (subst (λ n. eqb n 8 ≡ false) (sym (eqb-true (kind_number d.message.body) (code_of kind) (and_parts _ _ i).0)) other) side
said-apart x y kind role to d i (inr other) side =
    false_from_ne_true (is_of kinds.Case x side d.message)
    (λ e. let same : ◌≡◌ {A = Option Exchange} (Some x) (Some y) = sym (exchange-is kinds.Case x side d.message e) ∙ exchange-is kind y role d.message i in
    both_ways (same_exchange x y) other (subst (λ z. same_exchange x z ≡ true) (some-equal x y same) (same_exchange_refl x)))

abbrev SendsNone : Exchange → Out → Type 0
SendsNone x out = AllByRecursion (IsNoCase x) out.sends

say-apart : (me : Member) (x : Exchange) (out : Out) (kind : Kind) (y : Exchange) (o : Option Body) → (eqb (code_of kind) 8 ≡ false) ⊎ (same_exchange x y ≡ false) → ((b : Body) → o ≡ Some b → eqb (kind_number b) 8 ≡ false)
    → SendsNone x out → SendsNone x (say me out kind y o)
say-apart me x out kind y o other f s = go (first_said (is_of kind y (role_of me y)) out.state) refl o f
  where
    go : (q : Option Datagram) → first_said (is_of kind y (role_of me y)) out.state ≡ q → (o : Option Body) → ((b : Body) → o ≡ Some b → eqb (kind_number b) 8 ≡ false) → SendsNone x (say_or_repeat me out y q o)
    go (Some d) e o f =
        AllByRecursion-push (IsNoCase x) out.sends (partner_in me y, d) s (said-apart x y kind (role_of me y) (partner_in me y) d (first_said-was (is_of kind y (role_of me y)) out.state d e).1 other)
    go None e None f = s
    go None e (Some b) f =
        let send : ℕ × Datagram = (partner_in me y, signed me (known me out.state) (message_to me y b)) in
        AllByRecursion-push (IsNoCase x) out.sends send s (other-number x send (f b refl))

if-apart : (me : Member) (x : Exchange) (out : Out) (to : ℕ) (o : Option Body) → ((b : Body) → o ≡ Some b → eqb (kind_number b) 8 ≡ false) → SendsNone x out → SendsNone x (send_if me out to o)
if-apart me x out to None f s = s
if-apart me x out to (Some b) f s =
    let send : ℕ × Datagram = (to, unsigned (record { from = me.party; to = to; body = b })) in
    AllByRecursion-push (IsNoCase x) out.sends send s (other-number x send (f b refl))

no-case : (b c : Body) → b ≡ c → eqb (kind_number b) 8 ≡ false → eqb (kind_number c) 8 ≡ false
no-case b c e h = subst (λ z. eqb (kind_number z) 8 ≡ false) e h

reveals-none : (r : ℕ) (o : Option (List ℕ × List UpdateId)) (b : Body) → option_map (λ (a : List ℕ × List UpdateId). Divulge r a.0 a.1) o ≡ Some b → eqb (kind_number b) 8 ≡ false
reveals-none r None b e = cc
reveals-none r (Some a) b e = no-case (Divulge r a.0 a.1) b (some-equal _ b e) refl

reports-none : (o : Option (List (List ℕ))) (b : Body) → option_map Evidence o ≡ Some b → eqb (kind_number b) 8 ≡ false
reports-none None b e = cc
reports-none (Some v) b e = no-case (Evidence v) b (some-equal _ b e) refl

asks-none : (me : Member) (k : Knowledge) (y : Exchange) (b : Body) → Some (ask_body me k y y.kind) ≡ Some b → eqb (kind_number b) 8 ≡ false
asks-none me k y b e = no-case (ask_body me k y y.kind) b (some-equal _ b e) (go y.kind)
  where
    go : (sort : XKind) → eqb (kind_number (ask_body me k y sort)) 8 ≡ false
    go Balanced = refl
    go Push = refl

pub asks-apart : (sort : XKind) → eqb (code_of (request_kind sort)) 8 ≡ false
asks-apart Balanced = refl
asks-apart Push = refl

perform-apart : (me : Member) (x : Exchange) (out : Out) (o : Order) → IsApart x o → SendsNone x out → SendsNone x (perform me out o)
perform-apart me x out (Ask y) a s = say-apart me x out _ y _ (inl (asks-apart y.kind)) (asks-none me (known me out.state) y) s
perform-apart me x out (Resend kind y) a s = say-apart me x out kind y None a (λ b e. cc) s
perform-apart me x out (Reveal y) a s = if-apart me x out _ _ (reveals-none y.round _) s
perform-apart me x out (AskKey y) a s = if-apart me x out (partner_in me y) (Some (KeyReq y.round y.kind (role_of me y))) (λ b e. no-case (KeyReq y.round y.kind (role_of me y)) b (some-equal _ b e) refl) s
perform-apart me x out (Report q) a s = if-apart me x out 0 _ (reports-none _) s
perform-apart me x out (Answer y) a s = absurd a
perform-apart me x out (GiveCase y) a s = absurd a
perform-apart me x out (GiveKey y) a s = absurd a

all-apart : (me : Member) (x : Exchange) (os : List Order) (out : Out) → AllByRecursion (IsApart x) os → SendsNone x out → SendsNone x (perform_all me out os)
all-apart me x [] out a s = s
all-apart me x (o ∷ os) out a s = all-apart me x os (perform me out o) a.1 (perform-apart me x out o a.0 s)

pub sends-none : (me : Member) (x : Exchange) (os : List Order) (log : Log) → AllByRecursion (IsApart x) os → AllByRecursion (IsNoCase x) (perform_all me (begun log) os).sends
sends-none me x os log a = all-apart me x os (begun log) a tt

-- what is sent again for another exchange, or for one whose CASE isn't lacked
pub again-apart : (me : Member) (k : Knowledge) (x y : Exchange) → (same_exchange x y ≡ true → lacks_case me k y ≡ true → ⊥) → AllByRecursion (IsApart x) (again me k y)
again-apart me k x y f = again-all (IsApart x) me k y (inl (asks-apart y.kind)) (λ h. (tt, inr (false_from_ne_true (same_exchange x y) (λ e. f e h)))) (λ _. tt)
