-- The most bytes that datagrams of each kind have.
use Rattle.std.specs.Prelude.{ℕ, ◌+◌, ◌*◌, max}
use Rattle.bar_window.specs.Limits.{block_size, largest_cipher}
use Rattle.bar_wire.specs.Grammar.{signature_len}
use Rattle.bar_wire.specs.Limits.{header_len, largest_datagram}
use Rattle.bar_wire.specs.Places.{window_len}
use Rattle.bar_wire.specs.declared.kind.Kind.{Kind}
use Rattle.bar_wire.specs.declared.kind.Kind.TheVariants as kinds
use Rattle.bar_wire.specs.declared.shape.Shape.{Shape}

-- the most bytes of the fields after the header; the largest CASE contains junk only
abbrev pub most_fields : Shape → Kind → ℕ
most_fields s kinds.Manifest = 5 + 32 * s.per_round
most_fields s kinds.Block = 5 + block_size
most_fields s kinds.Request = 68
most_fields s kinds.Response = 4 + window_len s
most_fields s kinds.Divulge = 36 + window_len s
most_fields s kinds.Query = 36 + 2 * window_len s
most_fields s kinds.Reply = 5 + 2 * window_len s
most_fields s kinds.Case = 8 + max (32 + 2 * window_len s) (4 * window_len s + 1) + largest_cipher
most_fields s kinds.KeyReq = 6
most_fields s kinds.Key = 38
most_fields s kinds.Evidence = 1 + 2 * (2 + largest_datagram)
most_fields s kinds.Evict = 5 + 2 * s.peers

abbrev pub largest : Shape → Kind → ℕ
largest s kind = header_len + most_fields s kind + signature_len s kind

-- the most bytes of evidence: a count, and two datagrams of kinds that peers sign, each after its length; the largest is a CASE
abbrev pub most_evidence : Shape → ℕ
most_evidence s = 1 + 2 * (2 + largest s kinds.Case)
