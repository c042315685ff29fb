-- The exchange of a message that may be sent again may still be asked about.
use Rattle.std.proofs.Common.{ℕ, ◌≤◌, arith}
use Rattle.bar_wire.specs.declared.kind.Kind.{Kind}
use Rattle.bar_wire.specs.declared.kind.Kind.TheVariants as kinds
use Rattle.bar_rules.specs.Member.{Session, Member}
use Rattle.bar_rules.specs.Peer.Agreement.{IsRecent, IsRepeatable, told_for}
use Rattle.bar_rules.specs.Peer.Knowledge.{Knowledge}

told_shortly : (s : Session) (kind : Kind) → 2 ≤ s.shape.life → told_for s kind ≤ s.shape.life
told_shortly s kinds.Manifest life = omega arith
told_shortly s kinds.Block life = omega arith
told_shortly s kinds.Request life = omega arith
told_shortly s kinds.Response life = omega arith
told_shortly s kinds.Divulge life = omega arith
told_shortly s kinds.Query life = omega arith
told_shortly s kinds.Reply life = omega arith
told_shortly s kinds.Case life = life
told_shortly s kinds.KeyReq life = omega arith
told_shortly s kinds.Key life = omega arith
told_shortly s kinds.Evidence life = omega arith
told_shortly s kinds.Evict life = omega arith

pub recent_by_time : (me : Member) (k : Knowledge) (kind : Kind) (round : ℕ) → 2 ≤ me.session.shape.life → IsRepeatable me k kind round
    → IsRecent me k round
recent_by_time me k kind round life timely = omega (arith, told_shortly me.session kind life, timely)
