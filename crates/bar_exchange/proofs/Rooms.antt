-- What was heard in an exchange, after one more datagram is kept.
use Rattle.std.proofs.Common.{◌≡◌, ◌∙◌, ℕ, Bool, true, false, List, Option, Some, None, refl, sym, ap, subst}
use Rattle.std.specs.Prelude.{if◌then◌else◌}
use Rattle.std.specs.Cmp.{both_ways}
use Rattle.bar_window.specs.declared.exchange.Role.{Role}
use Rattle.bar_window.specs.declared.exchange.XKind.{XKind}
use Rattle.bar_window.specs.declared.terms.Terms.{Terms}
use Rattle.bar_wire.specs.declared.kind.Kind.{Kind}
use Rattle.bar_wire.specs.declared.kind.Kind.TheVariants as kinds
use Rattle.bar_ledger.specs.declared.entry.Entry.{Entry}
use Rattle.bar_ledger.specs.Code.Hearing.{same_datagram, is_opening, hears}
use Rattle.bar_ledger.specs.Code.Kept.{Kept, heard_of, with_bytes, newly}
use Rattle.bar_ledger.specs.Code.Lookups.{is_said}
use Rattle.bar_exchange.specs.Code.Parts.{with_terms}
use Rattle.bar_exchange.proofs.KindCases.{each_kind, one_kind, same_itself}

-- One more datagram is kept, on the same side.
pub record KeepsBytes (bytes_kind : Kind) (bytes : List ℕ) (old new : Kept) : Type 0 where
  pub role : new.entry.role ≡ old.entry.role
  pub heard : (kind : Kind) → heard_of kind new ≡ (if same_datagram bytes_kind kind then Some bytes else heard_of kind old)

flips : (a b : Kind) → same_datagram a b ≡ true → same_datagram b a ≡ true
flips a b e = subst (λ z. same_datagram z a ≡ true) (one_kind a b e) (same_itself a)

-- the first signed datagram is stored in its room
first_more : (a kind : Kind) (xkind : XKind) (role : Role) (bytes : List ℕ) (first : Option (List ℕ)) → is_opening a xkind role ≡ true
    → (if is_opening kind xkind role then Some bytes else None) ≡ (if same_datagram a kind then Some bytes else (if is_opening kind xkind role then first else None))
first_more a kind xkind role bytes first e =
    let one = one_kind a _ e in
    pick (is_opening kind xkind role) ∙ ap (λ t. if t then Some bytes else (if is_opening kind xkind role then first else None)) (ap (same_datagram kind) (sym one) ∙ both_ways _ _ (flips kind a) (flips a kind))
  where
    pick : (b : Bool) → (if b then Some bytes else None) ≡ (if b then Some bytes else (if b then first else None))
    pick true = refl
    pick false = refl

first_bytes : (a : Kind) (bytes : List ℕ) (k : Kept) → is_opening a k.entry.x.kind k.entry.role ≡ true
    → same_datagram a kinds.Divulge ≡ false → same_datagram a kinds.Case ≡ false → same_datagram a kinds.KeyReq ≡ false → same_datagram a kinds.Key ≡ false → (kind : Kind)
    → heard_of kind (record k { first = Some bytes }) ≡ (if same_datagram a kind then Some bytes else heard_of kind k)
first_bytes a bytes k e d c r g = each_kind (λ kind. heard_of kind (record k { first = Some bytes }) ≡ (if same_datagram a kind then Some bytes else heard_of kind k))
    (more kinds.Manifest) (more kinds.Block) (more kinds.Request) (more kinds.Response) (not_this _ k.divulge d) (more kinds.Query) (more kinds.Reply)
    (not_this _ k.case c) (not_this _ k.key_request r) (not_this _ k.key g) (more kinds.Evidence) (more kinds.Evict)
  where
    more : (kind : Kind) → (if is_opening kind k.entry.x.kind k.entry.role then Some bytes else None) ≡ (if same_datagram a kind then Some bytes else (if is_opening kind k.entry.x.kind k.entry.role then k.first else None))
    more kind = first_more a kind k.entry.x.kind k.entry.role bytes k.first e

    not_this : (b : Bool) (o : Option (List ℕ)) → b ≡ false → o ≡ (if b then Some bytes else o)
    not_this b o f = sym (ap (λ t. if t then Some bytes else o) f)

pub bytes_heard : (a : Kind) (bytes : List ℕ) (k : Kept) → hears a k.entry.x.kind k.entry.role ≡ true → (kind : Kind)
    → heard_of kind (with_bytes a bytes k) ≡ (if same_datagram a kind then Some bytes else heard_of kind k)
bytes_heard kinds.Divulge bytes k e = each_kind (λ kind. heard_of kind (with_bytes kinds.Divulge bytes k) ≡ (if same_datagram kinds.Divulge kind then Some bytes else heard_of kind k)) refl refl refl refl refl refl refl refl refl refl refl refl
bytes_heard kinds.Case bytes k e = each_kind (λ kind. heard_of kind (with_bytes kinds.Case bytes k) ≡ (if same_datagram kinds.Case kind then Some bytes else heard_of kind k)) refl refl refl refl refl refl refl refl refl refl refl refl
bytes_heard kinds.KeyReq bytes k e = each_kind (λ kind. heard_of kind (with_bytes kinds.KeyReq bytes k) ≡ (if same_datagram kinds.KeyReq kind then Some bytes else heard_of kind k)) refl refl refl refl refl refl refl refl refl refl refl refl
bytes_heard kinds.Key bytes k e = each_kind (λ kind. heard_of kind (with_bytes kinds.Key bytes k) ≡ (if same_datagram kinds.Key kind then Some bytes else heard_of kind k)) refl refl refl refl refl refl refl refl refl refl refl refl
bytes_heard kinds.Manifest bytes k e = first_bytes kinds.Manifest bytes k e refl refl refl refl
bytes_heard kinds.Block bytes k e = first_bytes kinds.Block bytes k e refl refl refl refl
bytes_heard kinds.Request bytes k e = first_bytes kinds.Request bytes k e refl refl refl refl
bytes_heard kinds.Response bytes k e = first_bytes kinds.Response bytes k e refl refl refl refl
bytes_heard kinds.Query bytes k e = first_bytes kinds.Query bytes k e refl refl refl refl
bytes_heard kinds.Reply bytes k e = first_bytes kinds.Reply bytes k e refl refl refl refl
bytes_heard kinds.Evidence bytes k e = first_bytes kinds.Evidence bytes k e refl refl refl refl
bytes_heard kinds.Evict bytes k e = first_bytes kinds.Evict bytes k e refl refl refl refl

-- setting the terms doesn't change what was heard and said
pub terms_heard : (terms : Terms) (full : Bool) (k : Kept) (kind : Kind) → heard_of kind (with_terms terms full k) ≡ heard_of kind k
terms_heard terms full k = each_kind (λ kind. heard_of kind (with_terms terms full k) ≡ heard_of kind k) refl refl refl refl refl refl refl refl refl refl refl refl

pub terms_said : (terms : Terms) (full : Bool) (e : Entry) (kind : Kind) → is_said kind (record e { terms = terms; complete = full }) ≡ is_said kind e
terms_said terms full e = each_kind (λ kind. is_said kind (record e { terms = terms; complete = full }) ≡ is_said kind e) refl refl refl refl refl refl refl refl refl refl refl refl

-- nothing was heard in a new exchange
pub none_heard : (e : Entry) (kind : Kind) → heard_of kind (newly e) ≡ None
none_heard e = each_kind (λ kind. heard_of kind (newly e) ≡ None) (nothing _) (nothing _) (nothing _) (nothing _) refl (nothing _) (nothing _) refl refl refl (nothing _) (nothing _)
  where
    nothing : {A : Type 0} (b : Bool) → ◌≡◌ {A = Option A} (if b then None else None) None
    nothing true = refl
    nothing false = refl
