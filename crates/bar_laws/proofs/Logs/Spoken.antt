-- What was said or heard.
use Rattle.bar_rules.specs.Peer.Exchanges.{role_of}
use Rattle.bar_rules.specs.Peer.Knowledge.{known}
use Rattle.bar_rules.specs.Peer.Log.{Log, Entry, Ticked, Heard, Said, Kept, heard_in, said_in, if_passes, first_heard, first_said}
use Rattle.bar_rules.specs.Member.{Member}
use Rattle.bar_rules.specs.Peer.Terms.{first_on, body_on}
use Rattle.bar_window.specs.Exchange.{same_role}
use Rattle.bar_window.specs.declared.exchange.Exchange.{Exchange}
use Rattle.bar_window.specs.declared.exchange.Role.{Role}
use Rattle.bar_window.proofs.Exchanges.{same_role_refl}
use Rattle.bar_wire.specs.declared.kind.Kind.{Kind}
use Rattle.bar_wire.specs.Datagram.{Datagram, Body, is_of}
use Rattle.std.proofs.Common.{◌≡◌, Bool, true, false, refl}
use Rattle.std.specs.Prelude.{Option, Some, None, cond}
use Rattle.bar_laws.proofs.Logs.FirstFinds.{IsEntry}
use Rattle.bar_laws.specs.Growing.{IsLater}
use Rattle.bar_laws.proofs.Logs.LaterLogs.{find-later, WasSaid, WasHeard, first_said-was, first_heard-was, map-later}

abbrev pub spoken_in : Entry → Option Datagram
spoken_in (Said d) = Some d
spoken_in (Heard d) = Some d
spoken_in Ticked = None
spoken_in (Kept q e) = None

-- an entry of the log in which the message was said or admitted
pub record WasSpoken (log : Log) (d : Datagram) : Type 0 where
  pub before : Log
  pub entry : Entry
  pub place : IsEntry log before entry
  pub found : spoken_in entry ≡ Some d

pub said-spoken : (log : Log) (d : Datagram) → WasSaid log d → WasSpoken log d
said-spoken log d w = record { before = w.before; entry = Said d; place = w.place; found = refl }

pub heard-spoken : (log : Log) (d : Datagram) → WasHeard log d → WasSpoken log d
heard-spoken log d w = record { before = w.before; entry = Heard d; place = w.place; found = refl }

pub first_on-was : (me : Member) (log : Log) (kind : Kind) (x : Exchange) (role : Role) (d : Datagram) → first_on me (known me log) kind x role ≡ Some d
    → WasSpoken log d × (is_of kind x role d.message ≡ true)
first_on-was me log kind x role d e = go (same_role (role_of me x) role) e
  where
    go : (b : Bool) → cond b (first_said (is_of kind x role) log) (first_heard (is_of kind x role) log) ≡ Some d → WasSpoken log d × (is_of kind x role d.message ≡ true)
    go true e = let w = first_said-was (is_of kind x role) log d e in (said-spoken log d w.0, w.1)
    go false e = let w = first_heard-was (is_of kind x role) log d e in (heard-spoken log d w.0, w.1)

pub first_on-own : (me : Member) (log : Log) (kind : Kind) (x : Exchange) (role : Role) → role_of me x ≡ role → first_on me (known me log) kind x role ≡ first_said (is_of kind x role) log
first_on-own me log kind x role own = rw (own, same_role_refl role) refl

pub first_on-later : (me : Member) (log before : Log) (kind : Kind) (x : Exchange) (role : Role) (d : Datagram) → IsLater log before → first_on me (known me before) kind x role ≡ Some d → first_on me (known me log) kind x role ≡ Some d
first_on-later me log before kind x role d later e = go (same_role (role_of me x) role) refl e
  where
    go : (b : Bool) → same_role (role_of me x) role ≡ b → cond b (first_said (is_of kind x role) before) (first_heard (is_of kind x role) before) ≡ Some d → first_on me (known me log) kind x role ≡ Some d
    go true s e = rw s (find-later (λ before e. if_passes (is_of kind x role) (said_in e)) log before d later e)
    go false s e = rw s (find-later (λ before e. if_passes (is_of kind x role) (heard_in e)) log before d later e)

pub body_on-later : (me : Member) (log before : Log) (kind : Kind) (x : Exchange) (role : Role) (b : Body) → IsLater log before → body_on me (known me before) kind x role ≡ Some b → body_on me (known me log) kind x role ≡ Some b
body_on-later me log before kind x role b later = map-later (λ d. d.message.body) _ _ b (λ d. first_on-later me log before kind x role d later)
