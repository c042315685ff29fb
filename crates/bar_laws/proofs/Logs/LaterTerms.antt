-- Terms and briefcases that a log has are in each later log.
use Rattle.bar_rules.specs.Peer.Holdings.{case_heard_from}
use Rattle.bar_wire.specs.Bodies.{briefcase_in, history_in, offer_in, reply_in}
use Rattle.bar_rules.specs.Peer.Exchanges.{revealed_in}
use Rattle.bar_rules.specs.Peer.Knowledge.{known}
use Rattle.bar_rules.specs.Peer.Log.{Log, heard_in, said_in, if_passes, first_said}
use Rattle.bar_rules.specs.Member.{Member}
use Rattle.bar_rules.specs.Peer.Terms.{terms_of, terms_by, trade_terms, offer_terms}
use Rattle.bar_window.specs.Terms.{Terms}
use Rattle.bar_window.specs.declared.exchange.Exchange.{Exchange}
use Rattle.bar_window.specs.declared.exchange.Role.{Role}
use Rattle.bar_window.specs.declared.exchange.Role.TheVariants.{Initiator, Responder}
use Rattle.bar_window.specs.declared.exchange.XKind.{XKind}
use Rattle.bar_window.specs.declared.exchange.XKind.TheVariants.{Balanced, Push}
use Rattle.bar_window.specs.declared.update.UpdateId.{UpdateId}
use Rattle.bar_wire.specs.declared.kind.Kind.TheVariants as kinds
use Rattle.bar_wire.specs.Datagram.{Message, Datagram, Briefcase, is_of}
use Rattle.std.proofs.Common.{◌≡◌, ℕ, Bool, List, refl}
use Rattle.std.specs.Prelude.{Option, Some, None}
use Rattle.bar_laws.specs.Growing.{IsLater}
use Rattle.bar_laws.proofs.Logs.LaterLogs.{find-later, then-later}
use Rattle.bar_laws.proofs.Logs.Spoken.{body_on-later}

trade-later : (o o' : Option (List ℕ × List UpdateId)) (p p' : Option (List UpdateId)) (t : Terms)
    → ((a : List ℕ × List UpdateId) → o ≡ Some a → o' ≡ Some a) → ((b : List UpdateId) → p ≡ Some b → p' ≡ Some b) → trade_terms o p ≡ Some t → trade_terms o' p' ≡ Some t
trade-later (Some a) o' (Some b) p' t f g e = rw (f a refl, g b refl) e
trade-later (Some a) o' None p' t f g e = cc
trade-later None o' p p' t f g e = cc

offer-later : (o o' : Option (List UpdateId × List UpdateId)) (p p' : Option (List UpdateId × List UpdateId × ℕ)) (t : Terms)
    → ((a : List UpdateId × List UpdateId) → o ≡ Some a → o' ≡ Some a) → ((b : List UpdateId × List UpdateId × ℕ) → p ≡ Some b → p' ≡ Some b) → offer_terms o p ≡ Some t → offer_terms o' p' ≡ Some t
offer-later (Some a) o' (Some b) p' t f g e = rw (f a refl, g b refl) e
offer-later (Some a) o' None p' t f g e = cc
offer-later None o' p p' t f g e = cc

terms_by-later : (kind : XKind) (me : Member) (log before : Log) (x : Exchange) (t : Terms) → IsLater log before → terms_by kind me (known me before) x ≡ Some t → terms_by kind me (known me log) x ≡ Some t
terms_by-later Balanced me log before x t later =
    trade-later _ _ _ _ t
    (λ a. find-later (λ before e. revealed_in me before x e) log before a later)
    (λ b. then-later history_in _ _ b (λ c. body_on-later me log before kinds.Response x Responder c later))
terms_by-later Push me log before x t later =
    offer-later _ _ _ _ t
    (λ a. then-later offer_in _ _ a (λ c. body_on-later me log before kinds.Query x Initiator c later))
    (λ b. then-later reply_in _ _ b (λ c. body_on-later me log before kinds.Reply x Responder c later))

pub terms_of-later : (me : Member) (log before : Log) (x : Exchange) (t : Terms) → IsLater log before → terms_of me (known me before) x ≡ Some t → terms_of me (known me log) x ≡ Some t
terms_of-later me log before x t later = terms_by-later x.kind me log before x t later

pub case_for-later : (log before : Log) (x : Exchange) (role : Role) (c : Briefcase) → IsLater log before → case_heard_from before x role ≡ Some c → case_heard_from log x role ≡ Some c
case_for-later log before x role c later =
    then-later (λ d. briefcase_in d.message.body) _ _ c (λ d. find-later (λ before e. if_passes (is_of kinds.Case x role) (heard_in e)) log before d later)

pub said-later : (p : Message → Bool) (log before : Log) (d : Datagram) → IsLater log before → first_said p before ≡ Some d → first_said p log ≡ Some d
said-later p log before d later = find-later (λ before e. if_passes p (said_in e)) log before d later
