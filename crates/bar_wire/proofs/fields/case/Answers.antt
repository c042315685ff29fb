use Rattle.std.proofs.Common.{arith}
use Rattle.bar_wire.proofs.CaseReads.{case_start, case_room, case_has}
use Rattle.bar_wire.proofs.Nones.{no_case, no_case_side}
use Rattle.bar_wire.proofs.fields.case.Goals as goal

pub returns-in_err-xkind : goal.returns-in_err-xkind
returns-in_err-xkind c =
    let r = c.split_u32-round in
    rw c.from_residual.ensures (no_case_side c.args.shape.now r.result.0 c.args.bytes.now r.result.1.now (omega arith) r.ensures.is c.in_err-xkind.ensures)

pub read_terms-requires : goal.read_terms-requires
read_terms-requires c =
    let r = c.split_u32-round in
    let side = c.in_ok-xkind in
    let u = c.split_u8-updates in
    let z = c.split_u8-junk in
    let start = case_start r.result.0 side.xkind side.role u.result.0 z.result.0 c.args.bytes.now r.result.1.now side.rest.now u.result.1.now z.result.1.now (omega arith) r.ensures.is side.ensures u.ensures.is z.ensures.is in
    case_room c.args.shape.now r.result.0 side.xkind side.role u.result.0 z.result.0 c.args.bytes.now z.result.1.now start c.requires

pub returns-in_err-terms : goal.returns-in_err-terms
returns-in_err-terms c =
    let r = c.split_u32-round in
    let side = c.in_ok-xkind in
    let u = c.split_u8-updates in
    let z = c.split_u8-junk in
    let start = case_start r.result.0 side.xkind side.role u.result.0 z.result.0 c.args.bytes.now r.result.1.now side.rest.now u.result.1.now z.result.1.now (omega arith) r.ensures.is side.ensures u.ensures.is z.ensures.is in
    rw c.from_residual-in_err-terms.ensures
    (no_case c.args.shape.now r.result.0 side.xkind side.role u.result.0 z.result.0 c.args.bytes.now z.result.1.now start c.in_err-terms.ensures)

pub returns : goal.returns
returns c =
    let r = c.split_u32-round in
    let side = c.in_ok-xkind in
    let u = c.split_u8-updates in
    let z = c.split_u8-junk in
    let start = case_start r.result.0 side.xkind side.role u.result.0 z.result.0 c.args.bytes.now r.result.1.now side.rest.now u.result.1.now z.result.1.now (omega arith) r.ensures.is side.ensures u.ensures.is z.ensures.is in
    let at = c.in_ok-terms.ensures in
    record {
      has = case_has c.args.shape.now r.result.0 side.xkind side.role u.result.0 z.result.0 c.args.bytes.now z.result.1.now c.in_ok-terms.cipher.now c.in_ok-terms.terms start c.requires at;
      body = record { windows = at.windows; whole = tt };
    }
