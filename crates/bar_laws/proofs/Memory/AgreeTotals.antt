-- Knowledge that agrees has the same totals.
use Rattle.bar_window.specs.Exchange.{other_role}
use Rattle.bar_window.specs.Terms.{Terms}
use Rattle.bar_window.specs.declared.exchange.Exchange.{Exchange}
use Rattle.bar_window.specs.declared.exchange.Role.{Role}
use Rattle.bar_terms.specs.Terms.{promise}
use Rattle.bar_wire.specs.Bodies.{briefcase_in}
use Rattle.bar_wire.specs.Datagram.{Datagram, Briefcase}
use Rattle.bar_wire.specs.declared.kind.Kind.TheVariants as kinds
use Rattle.bar_rules.specs.Peer.Agreement.{AgreesWith, IsRecent, promised_by}
use Rattle.bar_rules.specs.Peer.Exchanges.{role_of}
use Rattle.bar_rules.specs.Peer.Holdings.{case_in}
use Rattle.bar_rules.specs.Peer.Knowledge.{Knowledge}
use Rattle.bar_rules.specs.Member.{Session, Member}
use Rattle.bar_rules.specs.Peer.Terms.{totals, case_said, case_heard, promise_size}
use Rattle.std.proofs.Common.{◌≡◌, ℕ, length, refl, sym, ap, ◌∙◌, cond}
use Rattle.std.specs.Prelude.{Option, Some, None, option_map}
use Rattle.bar_laws.proofs.Memory.AgreeRows.{said-same}
use Rattle.bar_laws.proofs.Memory.AgreeLogs.{case-same}

-- the size of a promise, by its terms and side
size_of : Session → Option (Option (Terms × Role)) → ℕ
size_of s (Some (Some p)) = length (promise s.cap p.0 p.1)
size_of s (Some None) = 0
size_of s None = 0

size-told : (s : Session) (o : Option Datagram) → size_of s (option_map promised_by o) ≡ promise_size s (case_in o)
unfolding size_of
size-told s None = refl
size-told s (Some d) = go (briefcase_in d.message.body)
  where
    go : (o : Option Briefcase) → size_of s (Some (option_map (λ c. (c.terms, c.role)) o)) ≡ promise_size s o
    go None = refl
    go (Some c) = refl

pub totals-agree : (me : Member) (one two : Knowledge) (x : Exchange) → AgreesWith me one two → IsRecent me one x.round → totals me one x ≡ totals me two x
totals-agree me one two x same r =
    let role : Role = role_of me x in
    let promised : promise_size me.session (case_said me one x) ≡ promise_size me.session (case_said me two x) =
    sym (size-told me.session (one.said kinds.Case x role)) ∙ ap (size_of me.session) (same.promises x role r) ∙ size-told me.session (two.said kinds.Case x role)
    in
    let received : promise_size me.session (case_heard me one x) ≡ promise_size me.session (case_heard me two x) = ap (promise_size me.session) (case-same me one two same x (other_role role) r) in
    (λ i. record { promised = promised i; received = received i; opened = cond (said-same me one two same kinds.Key x role r i) (promised i) 0 })
