-- The identities of signed messages.
use Rattle.std.specs.Prelude.{ℕ, Option, Some, None}
use Rattle.bar_window.specs.Exchange.{kind_code, role_code}
use Rattle.bar_wire.specs.declared.kind.Kind.{Kind}
use Rattle.bar_wire.specs.declared.kind.Kind.TheVariants as kinds
use Rattle.bar_wire.specs.Kinds.{code_of}
use Rattle.bar_wire.specs.Datagram.{Message, Body, Manifest, Request, Response, Query, Reply, Case, Key, Evict}
use Rattle.bar_seal.specs.declared.identities.Identity.{Identity}

-- the identity of a message that is identified by its kind and round alone; the other fields are 0
abbrev pub round_identity : Kind → ℕ → Identity
round_identity kind round = record { kind = code_of kind; from = 0; to = 0; round = round; xkind = 0; role = 0 }

-- the identity of a body that one party sends another
abbrev pub identity_by : Body → ℕ → ℕ → Option Identity
identity_by (Manifest r ds) from to = Some (round_identity kinds.Manifest r)
identity_by (Evict r ps) from to = Some (round_identity kinds.Evict r)
identity_by (Request r s c) from to = Some (record (round_identity kinds.Request r) { from = from })
identity_by (Query r s y o) from to = Some (record (round_identity kinds.Query r) { from = from })
identity_by (Response r hb) from to = Some (record (round_identity kinds.Response r) { from = from; to = to })
identity_by (Reply r w g z) from to = Some (record (round_identity kinds.Reply r) { from = from; to = to })
identity_by (Case c) from to =
    Some (record { kind = code_of kinds.Case; from = from; to = to; round = c.round; xkind = kind_code c.kind; role = role_code c.role })
identity_by (Key k) from to =
    Some (record { kind = code_of kinds.Key; from = from; to = to; round = k.round; xkind = kind_code k.kind; role = role_code k.role })
identity_by _ from to = None

-- the identity of a message; an unsigned one has none
abbrev pub identity : Message → Option Identity
identity m = identity_by m.body m.from m.to
