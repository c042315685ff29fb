-- The length of a signed manifest fits two bytes.
use Rattle.std.proofs.Common.{◌<◌, ◌^◌, List, Option, ℕ, length, sym, subst, arith}
use Rattle.std.specs.Prelude.{IfSome}
use Rattle.bar_core.proofs.Mapped.{if-mapped}
use Rattle.bar_wire.specs.declared.kind.Kind.TheVariants as kinds
use Rattle.bar_rules.specs.Values.{datagram_bytes}
use Rattle.bar_caster.specs.Code.Memory.{member_of, said_of, stream_of}
use Rattle.bar_caster.specs.Code.StandsFor.{log_of}
use Rattle.bar_caster.proofs.Short.{said_short}
use Rattle.bar_caster.proofs.as_core.CasterCore.kept_manifests.Goals as goal

abbrev IsShort : List ℕ → Type 0
IsShort datagram = length datagram < 2 ^ 16

pub returns-clause-short : goal.returns-clause-short
returns-clause-short g c inputs stands round =
    let m = c.args.self.now.memory in
    subst (λ (o : Option (List ℕ)). IfSome o IsShort) (sym (c.manifests.ensures.kept inputs stands round))
    (if-mapped IsShort (datagram_bytes m.session) (said_of kinds.Manifest round (log_of m inputs)) (λ d is.
    omega (
      arith,
      said_short (member_of m) (stream_of m) m.is_broadcaster c.signs_once_a_round.ensures inputs kinds.Manifest round d is,
    )))
