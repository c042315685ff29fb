-- Messages to be said in exchanges, as orders.
use Rattle.std.specs.Prelude.{◌≡◌, List, [], ◌∷◌, map}
use Rattle.std.specs.List.{AllByRecursion}
use Rattle.bar_window.specs.declared.exchange.Exchange.{Exchange}
use Rattle.bar_window.specs.declared.exchange.XKind.{XKind}
use Rattle.bar_window.specs.declared.exchange.XKind.TheVariants.{Balanced, Push}
use Rattle.bar_wire.specs.declared.kind.Kind.{Kind}
use Rattle.bar_wire.specs.declared.kind.Kind.TheVariants as kinds
use Rattle.bar_rules.specs.Peer.Orders.{Order, Answer, Reveal, GiveCase, AskKey, GiveKey, Resend}
use Rattle.bar_exchange.specs.declared.say.Say.{Say}
use Rattle.bar_exchange.specs.declared.says.Says.{Says}
use Rattle.bar_exchange.specs.declared.says.Says.TheVariants.{Nothing, One, Two}

abbrev pub says_in : Says → List Say
says_in Nothing = []
says_in (One first) = first ∷ []
says_in (Two first second) = first ∷ second ∷ []

-- the order of a kind in a reply
abbrev pub order_by : Kind → Exchange → Order
order_by kinds.Response x = Answer x
order_by kinds.Reply x = Answer x
order_by kinds.Divulge x = Reveal x
order_by kinds.Case x = GiveCase x
order_by kinds.KeyReq x = AskKey x
order_by kinds.Key x = GiveKey x
order_by kind x = Resend kind x

-- the order of a kind at a tick: a message that was said is sent again
abbrev pub order_again : Kind → Exchange → Order
order_again kinds.Divulge x = Reveal x
order_again kinds.KeyReq x = AskKey x
order_again kind x = Resend kind x

abbrev pub orders_of_reply : Says → List Order
orders_of_reply says = map (λ say. order_by say.kind say.x) (says_in says)

abbrev pub orders_at_tick : Says → List Order
orders_at_tick says = map (λ say. order_again say.kind say.x) (says_in says)

-- an answer fits its kind of exchange
abbrev pub Fits : Kind → XKind → Type 0
Fits kinds.Response kind = kind ≡ Balanced
Fits kinds.Reply kind = kind ≡ Push
Fits _ kind = Unit {0}

abbrev pub AreFitting : Says → Type 0
AreFitting says = AllByRecursion (λ say. Fits say.kind say.x.kind) (says_in says)
