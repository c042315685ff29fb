-- What a memory keeps in place of the datagrams that were said.
use Rattle.std.specs.Prelude.{◌≡◌}
use Rattle.bar_window.specs.declared.update.UpdateId.{UpdateId}
use Rattle.bar_window.specs.declared.exchange.Exchange.{Exchange}
use Rattle.bar_window.specs.declared.exchange.Role.{Role}
use Rattle.bar_wire.specs.declared.kind.Kind.{Kind}
use Rattle.bar_rules.specs.Peer.Agreement.{IsRecent, IsFresh, IsRepeatable, promise_of}
use Rattle.bar_rules.specs.Peer.Exchanges.{role_of}
use Rattle.bar_rules.specs.Peer.Knowledge.{Knowledge, known, has_said_of}
use Rattle.bar_rules.specs.Peer.Log.{Log}
use Rattle.bar_rules.specs.Member.{Member, IsMember}
use Rattle.bar_rules.specs.Peer.Rules.{IsObedient}
use Rattle.bar_laws.specs.Always.{InEachPeersLog}
use Rattle.bar_rules.specs.Peer.Writing.{offer_of, answer_of, reply_of}
use Rattle.bar_laws.specs.Rewriting.{IsRewritten}

-- Of recent exchanges the second knows as much as the first: which kinds were said, what is revealed, offered, answered and replied, and
-- the responder's seat. It has the blocks of fresh updates. What it has as said is what would be written from all this.
pub record Remembers (me : Member) (one two : Knowledge) : Type 0 where
  pub marks :
      (kind : Kind) (x : Exchange) → IsRecent me one x.round → has_said_of one kind x (role_of me x) ≡ has_said_of two kind x (role_of me x)
  pub commits : (x : Exchange) → IsRecent me one x.round → one.revealed x ≡ two.revealed x
  pub offers : (x : Exchange) → IsRecent me one x.round → offer_of me one x ≡ offer_of me two x
  pub answers : (x : Exchange) → IsRecent me one x.round → answer_of me one x ≡ answer_of me two x
  pub replies : (x : Exchange) → IsRecent me one x.round → reply_of me one x ≡ reply_of me two x
  pub seats : (x : Exchange) → IsRecent me one x.round → one.seat x ≡ two.seat x
  pub blocks : (u : UpdateId) → IsFresh me one u.round → one.block u ≡ two.block u
  pub written : IsRewritten me two

-- So it has exactly the datagrams that were said, as long as they may be sent again, and the terms and side of each CASE that was said.
pub record SaysAlike (me : Member) (one two : Knowledge) : Type 0 where
  pub said : (kind : Kind) (x : Exchange) (role : Role) → IsRepeatable me one kind x.round → one.said kind x role ≡ two.said kind x role
  pub promises : (x : Exchange) (role : Role) → IsRecent me one x.round → promise_of one x role ≡ promise_of two x role

abbrev pub IsRemembered : Member → Log → Type 0
IsRemembered me log = (two : Knowledge) → Remembers me (known me log) two → SaysAlike me (known me log) two

-- for the log after any inputs
abbrev pub RunIsRemembered : Type 0
RunIsRemembered = InEachPeersLog IsRemembered

-- for each log that obeys the rules
abbrev pub LogIsRemembered : Type 0
LogIsRemembered = (me : Member) → IsMember me → (log : Log) → IsObedient me log → IsRemembered me log
