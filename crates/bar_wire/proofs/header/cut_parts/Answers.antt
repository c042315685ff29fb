use Rattle.std.proofs.Common.{◌∙◌, ◌-◌, sym, length, take, drop, arith}
use Rattle.std.proofs.lemmas.Bool.{false≢true}
use Rattle.bar_wire.proofs.Whole.{too_short, cut_of, cut_len}
use Rattle.bar_wire.proofs.header.cut_parts.Goals as goal

pub returns-then-header-sig_len : goal.returns-then-header-sig_len
returns-then-header-sig_len c =
    let h = c.in_ok-header.header in
    let is = c.in_ok-header.ensures in
    (h.kind, is.has, too_short c.args.shape.now c.args.bytes.now h.kind h.from h.to h.rest.now is.is (omega arith))

pub returns-then-not-has_length : goal.returns-then-not-has_length
returns-then-not-has_length c =
    let h = c.in_ok-header.header in
    let is = c.in_ok-header.ensures in
    let rest = h.rest.now in
    let n = length rest - c.signature_len-sig_len.result in
    let parts = cut_of c.args.shape.now c.args.bytes.now h.kind h.from h.to rest n is.has is.from_fits is.to_fits is.is (omega arith) in
    (h.kind, is.has, λ long. false≢true (sym c.if-not-has_length.true ∙ c.has_length.ensures.1 (rw (c.split_at.ensures.front) ((cut_len c.args.shape.now c.args.bytes.now h.kind h.from h.to (take n rest) (drop n rest) parts).1 long))))
