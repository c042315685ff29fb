use Rattle.std.proofs.Common.{◌∷◌, ◌∙◌, ℕ, ap}
use Rattle.bar_wire.proofs.Codes.{no_kind_at, no_role_at}
use Rattle.bar_wire.proofs.exchange.split_side.Goals as goal

pub returns-in_err-kind : goal.returns-in_err-kind
returns-in_err-kind c =
    let kind = c.split_u8-kind in
    rw c.from_residual.ensures (no_kind_at kind.result.0 c.args.bytes.now kind.result.1.now c.in_err-kind.ensures kind.ensures.is)

pub returns-in_err-role : goal.returns-in_err-role
returns-in_err-role c =
    let kind = c.split_u8-kind in
    let role = c.split_u8-role in
    rw c.from_residual-in_err-role.ensures
    (no_role_at kind.result.0 role.result.0 c.args.bytes.now kind.result.1.now role.result.1.now c.in_err-role.ensures kind.ensures.is role.ensures.is)

pub returns : goal.returns
returns c =
    let kind = c.split_u8-kind in
    let role = c.split_u8-role in
    kind.ensures.is ∙ λ i. c.in_ok-kind.ensures i ∷ (role.ensures.is ∙ ap (λ (n : ℕ). n ∷ role.result.1.now) c.in_ok-role.ensures) i
