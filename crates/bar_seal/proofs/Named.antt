-- Identities and the fields that identify messages.
use Rattle.std.proofs.Common.{◌≡◌, ℕ, true, List, [], ◌∷◌, refl, sym, ap, ◌∙◌}
use Rattle.std.specs.Prelude.{Option, Some, None, ◌↔◌, ◌==◌, ◌||◌, if◌then◌else◌}
use Rattle.bar_wire.specs.Datagram.{Body, Message, Manifest, Request, Response, Query, Reply, Case, Key, Evict, is_signed, kind_number, named, identity_of}
use Rattle.bar_seal.specs.declared.identities.Identity.{Identity}
use Rattle.bar_seal.specs.Identities.{identity_by, identity}

-- the identity with a kind and these numbers
told : List ℕ → Option Identity
told (k ∷ r ∷ []) = Some (record { kind = k; from = 0; to = 0; round = r; xkind = 0; role = 0 })
told (k ∷ f ∷ r ∷ []) = Some (record { kind = k; from = f; to = 0; round = r; xkind = 0; role = 0 })
told (k ∷ f ∷ t ∷ r ∷ []) = Some (record { kind = k; from = f; to = t; round = r; xkind = 0; role = 0 })
told (k ∷ f ∷ t ∷ r ∷ x ∷ side ∷ []) = Some (record { kind = k; from = f; to = t; round = r; xkind = x; role = side })
told _ = None

is_told : (b : Body) (f t : ℕ) → is_signed b ≡ true → identity_by b f t ≡ told (kind_number b ∷ named b f t)
unfolding told
is_told (Manifest r ds) f t s = refl
is_told (Evict r ps) f t s = refl
is_told (Request r d c) f t s = refl
is_told (Query r d y o) f t s = refl
is_told (Response r hb) f t s = refl
is_told (Reply r w g z) f t s = refl
is_told (Case c) f t s = refl
is_told (Key k) f t s = refl
is_told b f t s = cc

-- the kind and the numbers that identify a message with an identity
names : Identity → List ℕ
names d =
    if (d.kind == 1) || (d.kind == 12) then d.kind ∷ d.round ∷ []
    else if (d.kind == 3) || (d.kind == 6) then d.kind ∷ d.from ∷ d.round ∷ []
    else if (d.kind == 4) || (d.kind == 7) then d.kind ∷ d.from ∷ d.to ∷ d.round ∷ []
    else d.kind ∷ d.from ∷ d.to ∷ d.round ∷ d.xkind ∷ d.role ∷ []

names_of : Option Identity → List ℕ
names_of (Some d) = names d
names_of None = []

is_named : (b : Body) (f t : ℕ) → is_signed b ≡ true → (kind_number b ∷ named b f t) ≡ names_of (identity_by b f t)
unfolding names names_of
is_named (Manifest r ds) f t s = refl
is_named (Evict r ps) f t s = refl
is_named (Request r d c) f t s = refl
is_named (Query r d y o) f t s = refl
is_named (Response r hb) f t s = refl
is_named (Reply r w g z) f t s = refl
is_named (Case c) f t s = refl
is_named (Key k) f t s = refl
is_named b f t s = cc

pub same_names : (m n : Message) → is_signed m.body ≡ true → is_signed n.body ≡ true → (identity m ≡ identity n) ↔ (identity_of m ≡ identity_of n)
same_names m n s r = (
  λ e. is_named m.body m.from m.to s ∙ (ap names_of e ∙ sym (is_named n.body n.from n.to r)),
  λ e. is_told m.body m.from m.to s ∙ (ap told e ∙ sym (is_told n.body n.from n.to r)),
)
