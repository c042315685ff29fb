-- The parts of a datagram, cut by its length.
use Rattle.std.specs.Prelude.{◌≡◌, ℕ, ◌<◌, ◌^◌, List, [], ◌++◌, length}
use Rattle.std.specs.List.{concat}
use Rattle.bar_wire.specs.declared.shape.Shape.{Shape}
use Rattle.bar_wire.specs.declared.header.Header.{Header}
use Rattle.bar_wire.specs.declared.header.Cut.{Cut}
use Rattle.bar_wire.specs.declared.kind.Kind.{Kind}
use Rattle.bar_wire.specs.Grammar.{start, signature_len}
use Rattle.bar_wire.specs.Places.{fields_len}
use Rattle.bar_wire.specs.Faults.{HasHeader}

-- the header of the session that the bytes begin with
pub record IsHeader (s : Shape) (bytes : List ℕ) (h : Header) : Type 0 where
  pub has : HasHeader s h.kind bytes
  pub from_fits : h.from < 2 ^ 16
  pub to_fits : h.to < 2 ^ 16
  pub is : bytes ≡ concat (start s h.kind h.from h.to []) ++ h.rest.now

-- the bytes are a header, fields and a signature
pub record IsCut (s : Shape) (bytes : List ℕ) (kind : Kind) (from to : ℕ) (fields sig : List ℕ) : Type 0 where
  pub has : HasHeader s kind bytes
  pub from_fits : from < 2 ^ 16
  pub to_fits : to < 2 ^ 16
  pub sig_long : length sig ≡ signature_len s kind
  pub is : bytes ≡ concat (start s kind from to []) ++ (fields ++ sig)

-- the same, with fields of the length that the kind and the counts give
pub record IsCutAt (s : Shape) (bytes : List ℕ) (c : Cut) : Type 0 where
  pub cut : IsCut s bytes c.kind c.from c.to c.fields.now c.sig.now
  pub long : length c.fields.now ≡ fields_len s c.kind c.fields.now
