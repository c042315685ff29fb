use Rattle.std.proofs.Common.{◌≡◌, ◌∙◌, ap, subst, refl}
use Rattle.bar_window.specs.declared.exchange.XKind.{XKind}
use Rattle.bar_rules.specs.Member.{Member}
use Rattle.bar_rules.specs.Secrets.{secrets_of, seed_of}
use Rattle.bar_rules.specs.Peer.Exchanges.{request_kind}
use Rattle.bar_rules.specs.Peer.Knowledge.{known}
use Rattle.bar_rules.specs.Peer.Orders.{ask_body}
use Rattle.bar_exchange.specs.Code.Keeping.{IsSaidNow}
use Rattle.bar_peer.specs.Code.Memory.{member_of}
use Rattle.bar_peer.proofs.Ticking.Asking.{asked_again, gives_request, may_ask_again}
use Rattle.bar_peer.proofs.memory.Memory.ask.Goals as goal

pub returns-then-may_repeat-clause-carried_out : goal.returns-then-may_repeat-clause-carried_out
returns-then-may_repeat-clause-carried_out c out obeys tells now own =
    asked_again c.args.x out c.args.self.now tells
    (may_ask_again c.args.self.now c.args.x c.request.result c.may_repeat.result
    (known (member_of c.args.self.now.who) out.state)
    c.request.ensures
    c.may_repeat.ensures
    tells
    now
    ∙ c.if-may_repeat.true)

pub returns-in-Balanced-clause-carried_out : goal.returns-in-Balanced-clause-carried_out
returns-in-Balanced-clause-carried_out c out obeys tells now own =
    let me : Member = member_of c.args.self.now.who in
    let same : c.args.self.now.who.secrets ≡ secrets_of me =
    λ i. record { id = c.args.self.now.who.same_session i; party = me.party; secret = me.secret }
    in
    gives_request c.args.self.now _ c.args.x c.knowledge_is_enough.ensures.entry
    c.exchanges_are_few.ensures.obedient_left
    c.logs_are_sound.ensures
    (record { who = refl; ticks = refl; store = refl; manifests = refl; evictions = refl; evidence = refl })
    (λ k d h s body room early.
    c.say_request.ensures.learns me k d h.store h.ledger same
    (subst (λ (kind : XKind). IsSaidNow me k d (request_kind kind) c.args.x) c.in-Balanced.is s)
    c.in-Balanced.is
    own
    room
    early)
    out
    (may_ask_again c.args.self.now c.args.x c.request.result c.may_repeat.result (known me out.state)
    c.request.ensures
    c.may_repeat.ensures
    tells
    now
    ∙ c.if-may_repeat.false)
    obeys
    tells
    now
    own

pub returns-in-Push-clause-carried_out : goal.returns-in-Push-clause-carried_out
returns-in-Push-clause-carried_out c out obeys tells now own =
    let me : Member = member_of c.args.self.now.who in
    gives_request c.args.self.now _ c.args.x c.knowledge_is_enough.ensures.entry
    c.exchanges_are_few.ensures.obedient_left
    c.logs_are_sound.ensures
    (record { who = refl; ticks = refl; store = refl; manifests = refl; evictions = refl; evidence = refl })
    (λ k d h s body room early.
    c.say_query.ensures.learns me k d (seed_of me c.args.x.round) h.store h.ledger
    (subst (λ (kind : XKind). IsSaidNow me k d (request_kind kind) c.args.x) c.in-Push.is s)
    (body ∙ ap (ask_body me k c.args.x) c.in-Push.is)
    room
    early)
    out
    (may_ask_again c.args.self.now c.args.x c.request.result c.may_repeat.result (known me out.state)
    c.request.ensures
    c.may_repeat.ensures
    tells
    now
    ∙ c.if-may_repeat.false)
    obeys
    tells
    now
    own
