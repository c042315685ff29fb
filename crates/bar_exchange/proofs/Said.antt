-- How a message that is said changes the knowledge of one exchange.
use Rattle.std.proofs.Common.{◌≡◌, Bool, true, false, ◌&&◌, ◌||◌, ◌==◌, Some, None, refl, sym, ap, ◌∙◌, ℕ}
use Rattle.std.specs.Prelude.{option_map, if◌then◌else◌}
use Rattle.std.specs.Bool.{then_some}
use Rattle.std.specs.Option.{option_or, option_map_or}
use Rattle.std.proofs.lemmas.Bool.{and_left, and_right}
use Rattle.std.proofs.lemmas.Option.{same_Some}
use Rattle.bar_window.specs.declared.exchange.Exchange.{Exchange}
use Rattle.bar_window.specs.declared.exchange.Role.{Role}
use Rattle.bar_window.specs.declared.exchange.Role.TheVariants.{Initiator, Responder}
use Rattle.bar_window.specs.declared.exchange.XKind.{XKind}
use Rattle.bar_window.specs.Exchange.{same_exchange, same_role}
use Rattle.bar_window.proofs.Exchanges.{same_exchange_refl, same_role_refl}
use Rattle.bar_wire.specs.Datagram.{Message, Datagram, Place, part_of, place_by, place_of, is_of, is_place}
use Rattle.bar_wire.specs.Kinds.{code_of}
use Rattle.bar_wire.specs.declared.kind.Kind.{Kind}
use Rattle.bar_wire.specs.declared.kind.Kind.TheVariants as kinds
use Rattle.bar_rules.specs.Member.{Member}
use Rattle.bar_rules.specs.Peer.Exchanges.{role_of, committed}
use Rattle.bar_rules.specs.Peer.Knowledge.{Knowledge, with_said, has_said_of}
use Rattle.bar_rules.specs.Peer.Terms.{body_on}
use Rattle.bar_exchange.specs.Code.Keeping.{IsSaidNow}
use Rattle.bar_wire.proofs.ExchangeBy.{kind-by}
use Rattle.bar_exchange.proofs.Same.{SameOne}
use Rattle.bar_bytes.proofs.Options.{or-untold, some-or}

-- ---- the exchange of a message

-- the message is of its own kind, exchange and side
pub said_is_of : (me : Member) (k : Knowledge) (d : Datagram) (kind : Kind) (x : Exchange) → IsSaidNow me k d kind x → (other : Kind) (y : Exchange) (role : Role)
    → is_of other y role d.message ≡ ((code_of kind == code_of other) && (same_exchange x y && same_role (role_of me x) role))
said_is_of me k d kind x h other y role = λ i. (code_of (h.kind_is i) == code_of other) && option_map_or (is_place y role) (h.place_is i) false

not_of_other : (me : Member) (k : Knowledge) (d : Datagram) (kind : Kind) (x : Exchange) → IsSaidNow me k d kind x → (other : Kind) (y : Exchange) (role : Role)
    → same_exchange x y ≡ false → is_of other y role d.message ≡ false
not_of_other me k d kind x h other y role f = said_is_of me k d kind x h other y role ∙ and_right _ _ (and_left _ _ f)

not_of_kind : (me : Member) (k : Knowledge) (d : Datagram) (kind : Kind) (x : Exchange) → IsSaidNow me k d kind x → (other : Kind) (y : Exchange) (role : Role)
    → (code_of kind == code_of other) ≡ false → is_of other y role d.message ≡ false
not_of_kind me k d kind x h other y role f = said_is_of me k d kind x h other y role ∙ and_left _ _ f

-- the knowledge of other exchanges is unchanged
pub other_same : (me : Member) (k : Knowledge) (d : Datagram) (kind : Kind) (x y : Exchange) → IsSaidNow me k d kind x → same_exchange x y ≡ false
    → SameOne k (with_said me d k) y
other_same me k d kind x y h f = record {
  heard = λ other role. refl;
  said = λ other role. or-untold (k.said other y role) _ d (not_of_other me k d kind x h other y role f);
  seats = refl;
  revealed = or-untold (k.revealed y) _ (committed me k.block y) (not_of_other me k d kind x h kinds.Request y Initiator f);
}

-- the messages of other kinds are unchanged
pub kind_same : (me : Member) (k : Knowledge) (d : Datagram) (kind : Kind) (x : Exchange) → IsSaidNow me k d kind x → (other : Kind) (role : Role)
    → (code_of kind == code_of other) ≡ false → (with_said me d k).said other x role ≡ k.said other x role
kind_same me k d kind x h other role f = or-untold (k.said other x role) _ d (not_of_kind me k d kind x h other x role f)

pub revealed_same : (me : Member) (k : Knowledge) (d : Datagram) (kind : Kind) (x : Exchange) → IsSaidNow me k d kind x
    → (code_of kind == code_of kinds.Request) ≡ false → (with_said me d k).revealed x ≡ k.revealed x
revealed_same me k d kind x h f = or-untold (k.revealed x) _ (committed me k.block x) (not_of_kind me k d kind x h kinds.Request x Initiator f)

-- ---- what was said in the exchange itself

mark_law : (role own : Role) (s c : Bool) → ((same_role role own && s) || (c && same_role own role)) ≡ (same_role role own && (s || c))
mark_law Initiator Initiator s true = refl
mark_law Initiator Initiator s false = refl
mark_law Initiator Responder s true = refl
mark_law Initiator Responder s false = refl
mark_law Responder Initiator s true = refl
mark_law Responder Initiator s false = refl
mark_law Responder Responder s true = refl
mark_law Responder Responder s false = refl

-- the marks of one side, with the one of this kind added
pub marks_more : (me : Member) (k : Knowledge) (d : Datagram) (kind : Kind) (x : Exchange) → IsSaidNow me k d kind x → (old new : Kind → Bool)
    → ((other : Kind) (role : Role) → has_said_of k other x role ≡ (same_role role (role_of me x) && old other))
    → ((other : Kind) → new other ≡ (old other || (code_of kind == code_of other)))
    → (other : Kind) (role : Role) → has_said_of (with_said me d k) other x role ≡ (same_role role (role_of me x) && new other)
marks_more me k d kind x h old new was is other role =
    some-or (k.said other x role) _ d
    ∙ (λ i. was other role i || said_is_of me k d kind x h other x role i)
    ∙ ap (λ t. (same_role role (role_of me x) && old other) || ((code_of kind == code_of other) && (t && same_role (role_of me x) role))) (same_exchange_refl x)
    ∙ mark_law role (role_of me x) (old other) (code_of kind == code_of other)
    ∙ ap (λ b. same_role role (role_of me x) && b) (sym (is other))

-- the message is the one that was said of its kind
pub said_first : (me : Member) (k : Knowledge) (d : Datagram) (kind : Kind) (x : Exchange) → IsSaidNow me k d kind x → (role : Role) → role_of me x ≡ role
    → (code_of kind == code_of kind) ≡ true → (with_said me d k).said kind x role ≡ Some d
said_first me k d kind x h role own t =
    let none : k.said kind x role ≡ None = ap (k.said kind x) (sym own) ∙ h.new in
    let is : is_of kind x role d.message ≡ true =
    said_is_of me k d kind x h kind x role ∙ (λ i. t i && (same_exchange_refl x i && same_role (own i) role)) ∙ same_role_refl role in
    λ i. option_or (none i) (then_some (is i) d)

-- ---- bodies

-- the bodies of other kinds are unchanged
pub body_same : (me : Member) (k : Knowledge) (d : Datagram) (kind : Kind) (x : Exchange) → IsSaidNow me k d kind x → (other : Kind) (role : Role)
    → (code_of kind == code_of other) ≡ false → body_on me (with_said me d k) other x role ≡ body_on me k other x role
body_same me k d kind x s other role f =
    λ i. option_map (λ (d : Datagram). d.message.body) (if same_role (role_of me x) role then kind_same me k d kind x s other role f i else k.heard other x role)

-- the body of its own kind is that of the message
pub body_first : (me : Member) (k : Knowledge) (d : Datagram) (kind : Kind) (x : Exchange) → IsSaidNow me k d kind x → (role : Role) → role_of me x ≡ role
    → (code_of kind == code_of kind) ≡ true → body_on me (with_said me d k) kind x role ≡ Some d.message.body
body_first me k d kind x s role own t =
    (λ i. option_map (λ (d : Datagram). d.message.body) (if same_role (own i) role then (with_said me d k).said kind x role else k.heard kind x role))
    ∙ (λ i. option_map (λ (d : Datagram). d.message.body) (if same_role_refl role i then said_first me k d kind x s role own t i else k.heard kind x role))

-- ---- its place

-- the kind of exchange and the side are those that its body names
pub placed : (m : Message) (part : ℕ × XKind × Role) (x : Exchange) (role : Role) → part_of m.body ≡ Some part
    → place_of m ≡ Some (record { exchange = x; role = role }) → (x.kind ≡ part.1) × (role ≡ part.2)
placed m part x role speaks stands =
    let same : place_by m.from m.to part ≡ record { exchange = x; role = role } =
    same_Some _ _ (ap (option_map (place_by m.from m.to)) (sym speaks) ∙ stands) in
    (ap (λ (p : Place). p.exchange.kind) (sym same) ∙ kind-by part.0 part.1 part.2 m.from m.to, ap (λ (p : Place). p.role) (sym same))
