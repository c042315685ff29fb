-- The results of reading the fields of a kind.
use Rattle.std.specs.Prelude.{◌≡◌, ℕ, List, Option, Some, None}
use Rattle.std.specs.List.{concat}
use Rattle.bar_wire.specs.declared.shape.Shape.{Shape}
use Rattle.bar_wire.specs.declared.kind.Kind.{Kind}
use Rattle.bar_wire.specs.declared.view.Body.{Body as RawBody}
use Rattle.bar_wire.specs.Datagram.{Body, kind_of}
use Rattle.bar_wire.specs.Grammar.{pieces, HasForm, InRange}
use Rattle.bar_wire.specs.Code.Views.{plain, IsBody}

-- the bytes encode the fields
pub record SpellsBody (s : Shape) (body : Body) (bytes : List ℕ) : Type 0 where
  pub form : HasForm s body
  pub range : InRange s body
  pub is : bytes ≡ concat (pieces s body)

-- the bytes are those of the fields, in range or not
pub record HasBytes (s : Shape) (kind : Kind) (body : Body) (bytes : List ℕ) : Type 0 where
  pub kind_is : kind_of body ≡ kind
  pub form : HasForm s body
  pub is : bytes ≡ concat (pieces s body)

-- the fields are read, and their ranges are still to be tested
pub record IsReadButRanges (s : Shape) (kind : Kind) (bytes : List ℕ) (b : RawBody) : Type 0 where
  pub has : HasBytes s kind (plain b) bytes
  pub body : IsBody s b

pub record IsRead (s : Shape) (kind : Kind) (bytes : List ℕ) (b : RawBody) : Type 0 where
  pub kind_is : kind_of (plain b) ≡ kind
  pub spelled : SpellsBody s (plain b) bytes
  pub body : IsBody s b

-- the bytes encode no fields of the kind
abbrev pub SpellsNone : Shape → Kind → List ℕ → Type 0
SpellsNone s kind bytes = (body : Body) → kind_of body ≡ kind → SpellsBody s body bytes → ⊥

abbrev pub ReadsForm : Shape → Kind → List ℕ → Option RawBody → Type 0
ReadsForm s kind bytes (Some b) = IsReadButRanges s kind bytes b
ReadsForm s kind bytes None = SpellsNone s kind bytes

-- the fields that the bytes encode, or None if they encode none
abbrev pub Reads : Shape → Kind → List ℕ → Option RawBody → Type 0
Reads s kind bytes (Some b) = IsRead s kind bytes b
Reads s kind bytes None = SpellsNone s kind bytes
