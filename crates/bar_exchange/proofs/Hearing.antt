-- How hearing a datagram changes the kept state of its exchange.
use Rattle.std.proofs.Common.{◌≡◌, ◌∙◌, ℕ, true, false, ◌&&◌, List, Option, Some, None, sym, ap, subst, inl, inr}
use Rattle.std.specs.Prelude.{IfSome, option_map, if◌then◌else◌}
use Rattle.std.proofs.lemmas.Bool.{cases_Bool}
use Rattle.bar_window.specs.declared.exchange.Exchange.{Exchange}
use Rattle.bar_window.specs.declared.exchange.Role.{Role}
use Rattle.bar_window.specs.Exchange.{same_role, other_role}
use Rattle.bar_window.proofs.Exchanges.{same_exchange_refl, same_role-is, other-other}
use Rattle.bar_wire.specs.Datagram.{Datagram, kind_of, is_of}
use Rattle.bar_wire.specs.declared.kind.Kind.{Kind}
use Rattle.bar_rules.specs.Member.{Member, Session}
use Rattle.bar_rules.specs.Values.{datagram_bytes}
use Rattle.bar_rules.specs.Peer.Knowledge.{Knowledge, first_with}
use Rattle.bar_ledger.specs.declared.entry.Entry.{Entry}
use Rattle.bar_ledger.specs.declared.ledger.Ledger.{Ledger}
use Rattle.bar_ledger.specs.Code.Hearing.{same_datagram}
use Rattle.bar_ledger.specs.Code.Kept.{Kept, heard_of, with_bytes}
use Rattle.bar_ledger.specs.Code.Lookups.{heard_by}
use Rattle.bar_ledger.specs.Code.Memory.{MayHear, find_in, can_hear}
use Rattle.bar_ledger.proofs.Changes.{bytes-entry}
use Rattle.bar_exchange.specs.Code.Keeping.{IsAdmittedNow}
use Rattle.bar_exchange.proofs.Admitted.{IsAdmittedOf}
use Rattle.bar_exchange.proofs.KindCases.{one_kind}
use Rattle.bar_exchange.proofs.KeptChanges.{IsThere}
use Rattle.bar_exchange.proofs.Places.{IsAt, is_of_at, first_one, same_flip}
use Rattle.bar_exchange.proofs.Rooms.{KeepsBytes, bytes_heard}
use Rattle.bar_bytes.proofs.Options.{or-untold}

-- The first datagram of a kind and side of an exchange is heard and kept.
pub record HearsFirst (s : Session) (firsts : Kind → Exchange → Role → Option Datagram) (d : Datagram) (x : Exchange) (side : Role) (kind : Kind) (bytes : List ℕ)
    (old new : Kept) : Type 0 where
  pub at : IsAt d.message x side
  pub kind_is : kind_of d.message.body ≡ kind
  pub side_is : side ≡ other_role old.entry.role
  pub none : firsts kind x side ≡ None
  pub bytes_are : bytes ≡ datagram_bytes s d
  pub before : (kind : Kind) (role : Role) → option_map (datagram_bytes s) (firsts kind x role) ≡ heard_by kind role old
  pub keeps : KeepsBytes kind bytes old new

pub hears_first : (s : Session) (firsts : Kind → Exchange → Role → Option Datagram) (d : Datagram) (x : Exchange) (side : Role) (kind : Kind) (bytes : List ℕ) (old new : Kept)
    → HearsFirst s firsts d x side kind bytes old new → (other : Kind) (role : Role)
    → option_map (datagram_bytes s) (first_with d firsts other x role) ≡ heard_by other role new
hears_first s firsts d x side kind bytes old new h other role = elim (cases_Bool (same_datagram kind other)) [
  | inl e ↦ elim (cases_Bool (same_role side role)) [
    | inl f ↦
        let none : firsts other x role ≡ None = (λ i. firsts (sym (one_kind kind other e) i) x (sym (same_role-is side role f) i)) ∙ h.none in
        ap (option_map (datagram_bytes s)) (first_one (firsts other x role) (is_of other x role d.message) d none (is_of_this ∙ (λ i. e i && f i)))
        ∙ ap (λ b. Some b) (sym h.bytes_are)
        ∙ sym (ap (λ t. if t then heard_of other new else None) (new_side ∙ f) ∙ h.keeps.heard other ∙ ap (λ t. if t then Some bytes else heard_of other old) e)
    | inr f ↦
        stays (is_of_this ∙ (λ i. e i && f i))
        ∙ ap (λ t. if t then heard_of other old else None) (old_side ∙ f)
        ∙ sym (ap (λ t. if t then heard_of other new else None) (new_side ∙ f))
  ]
  | inr e ↦
      stays (is_of_this ∙ ap (λ t. t && same_role side role) e)
      ∙ ap (λ t. if t then heard_of other old else None) old_side
      ∙ (λ i. if sym new_side i then sym (h.keeps.heard other ∙ ap (λ t. if t then Some bytes else heard_of other old) e) i else None)
]
  where
    is_of_this : is_of other x role d.message ≡ (same_datagram kind other && same_role side role)
    is_of_this = is_of_at d.message x side h.at other x role ∙ (λ i. same_datagram (h.kind_is i) other && (same_exchange_refl x i && same_role side role))

    old_side : same_role role (other_role old.entry.role) ≡ same_role side role
    old_side = ap (same_role role) (sym h.side_is) ∙ same_flip role side

    new_side : same_role role (other_role new.entry.role) ≡ same_role side role
    new_side = ap (λ r. same_role role (other_role r)) h.keeps.role ∙ old_side

    stays : is_of other x role d.message ≡ false → option_map (datagram_bytes s) (first_with d firsts other x role) ≡ heard_by other role old
    stays e = ap (option_map (datagram_bytes s)) (or-untold (firsts other x role) (is_of other x role d.message) d e) ∙ h.before other role

-- an admitted datagram of a kept exchange is the first of its kind and side
pub first_of : (me : Member) (k : Knowledge) (l : Ledger) (d : Datagram) (bytes : List ℕ) (x : Exchange) (side : Role) (kind : Kind) (kept new : Kept) → IsAdmittedNow me k d bytes
    → IsAdmittedOf me k d x side → kind ≡ kind_of d.message.body → IsThere me k l x kept → KeepsBytes kind bytes kept new → HearsFirst me.session k.heard d x side kind bytes kept new
first_of me k l d bytes x side kind kept new now of is at keeps = record {
  at = of.at;
  kind_is = sym is;
  side_is = sym (ap other_role (at.by.side ∙ of.mine) ∙ other-other side);
  none = ap (λ kind. k.heard kind x side) is ∙ of.new;
  bytes_are = now.bytes_are;
  before = at.one.heard;
  keeps = keeps;
}

-- if the datagram may be heard, its bytes are kept
pub keeps_bytes : (l : Ledger) (x : Exchange) (kind : Kind) (bytes : List ℕ) (kept : Kept) → MayHear l x kind bytes → find_in l x ≡ Some kept → KeepsBytes kind bytes kept (with_bytes kind bytes kept)
keeps_bytes l x kind bytes kept may found = record {
  role = ap (λ (e : Entry). e.role) (bytes-entry kind bytes kept);
  heard = bytes_heard kind bytes kept (subst (λ o. IfSome o (λ kept. can_hear kind kept ≡ true)) found may.heard);
}
