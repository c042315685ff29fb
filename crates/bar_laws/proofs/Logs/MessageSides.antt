-- A message of an exchange's side names the exchange, and its receiver is on the other side.
use Rattle.bar_wire.specs.declared.kind.Kind.{Kind}
use Rattle.bar_rules.specs.Peer.Exchanges.{role_of, partner_in}
use Rattle.bar_rules.specs.Member.{Member}
use Rattle.bar_window.specs.Exchange.{party_on, other_role}
use Rattle.bar_window.specs.declared.exchange.Exchange.{Exchange}
use Rattle.bar_window.specs.declared.exchange.Role.{Role}
use Rattle.bar_window.specs.declared.exchange.Role.TheVariants.{Initiator, Responder}
use Rattle.bar_window.specs.declared.exchange.XKind.{XKind}
use Rattle.bar_window.proofs.Exchanges.{other-other}
use Rattle.bar_wire.specs.Datagram.{Message, is_of, part_of, exchange_by}
use Rattle.std.proofs.Common.{◌≡◌, ℕ, true, refl, ap, ◌∙◌}
use Rattle.std.specs.Prelude.{Option, Some}
use Rattle.std.proofs.lemmas.Bool.{eq-eqb, ne_eqb}
use Rattle.bar_laws.proofs.Logs.Elsewhere.{is_of-is, party-on}

names-by : (x : Exchange) (r : ℕ) (k : XKind) (role : Role) (from to : ℕ) → exchange_by r k role from to ≡ x → ◌≡◌ {A = Option (ℕ × XKind × Role)} (Some (r, k, role)) (Some (x.round, x.kind, role))
names-by x r k Initiator from to same = λ i. Some ((same i).round, (same i).kind, Initiator)
names-by x r k Responder from to same = λ i. Some ((same i).round, (same i).kind, Responder)

pub is_of-part : (kind : Kind) (x : Exchange) (role : Role) (m : Message) → is_of kind x role m ≡ true → part_of m.body ≡ Some (x.round, x.kind, role)
is_of-part kind x role m e = let w = is_of-is kind x role m e in w.part ∙ names-by x w.round w.sort role m.from m.to w.exchange

-- a member that receives a message that is not from it is on the other side
pub receiver-role : (me : Member) (r : ℕ) (k : XKind) (role : Role) (from to : ℕ) → to ≡ me.party → (from ≡ me.party → ⊥) → role_of me (exchange_by r k role from to) ≡ other_role role
receiver-role me r k Initiator from to e n = rw (ne_eqb from me.party n) refl
receiver-role me r k Responder from to e n = rw (eq-eqb to me.party e) refl

-- the sender is its partner
pub receiver-partner : (me : Member) (r : ℕ) (k : XKind) (role : Role) (from to : ℕ) → to ≡ me.party → (from ≡ me.party → ⊥) → partner_in me (exchange_by r k role from to) ≡ from
receiver-partner me r k role from to e n =
    let x : Exchange = exchange_by r k role from to in
    ap (λ z. party_on x (other_role z)) (receiver-role me r k role from to e n)
    ∙ ap (λ z. party_on x z) (other-other role)
    ∙ party-on r k role from to
