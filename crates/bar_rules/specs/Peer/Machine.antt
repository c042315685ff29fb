-- What a peer does at each input, over any state that represents what it knows: its log, or the knowledge alone.
use Rattle.std.specs.Prelude.{ℕ, true, false, List, [], ◌∷◌, Option, Some, None, nat_le, option_map, if◌then◌else◌}
use Rattle.bar_rules.specs.Peer.Evidence.{new_evidence}
use Rattle.bar_window.specs.declared.exchange.Exchange.{Exchange}
use Rattle.bar_wire.specs.Datagram.{Message, Datagram, Body, Divulge, KeyReq, Evidence}
use Rattle.bar_wire.specs.Inputs.{Input}
use Rattle.bar_wire.specs.Inputs as event
use Rattle.bar_wire.specs.declared.kind.Kind.TheVariants as kinds
use Rattle.bar_wire.specs.declared.kind.Kind.{Kind}
use Rattle.bar_session.specs.Time.{last_tick}
use Rattle.bar_rules.specs.Member.{Member}
use Rattle.bar_rules.specs.Values.{datagram_of, unsigned}
use Rattle.bar_rules.specs.Peer.Log.{Log, Entry, Ticked, Heard, Said, Kept}
use Rattle.bar_rules.specs.Runs.{Outcome, begun, sending}
use Rattle.bar_rules.specs.Peer.Exchanges.{role_of, partner_in, request_kind, answer_kind}
use Rattle.bar_rules.specs.Peer.Knowledge.{Knowledge, known, with_entry}
use Rattle.bar_rules.specs.Peer.Terms.{terms_of}
use Rattle.bar_rules.specs.Peer.Admission.{is_admitted}
use Rattle.bar_rules.specs.Peer.Signing.{signed}
use Rattle.bar_rules.specs.Peer.Orders.{Order, Ask, Answer, Reveal, GiveCase, AskKey, GiveKey, Resend, Report, ask_body, answer_body, case_body, key_body}
use Rattle.bar_rules.specs.Peer.Replies.{reply_orders, repeated}
use Rattle.bar_rules.specs.Peer.Ticks.{orders_at_tick, contents_at_tick}

-- how a state represents what is known, and takes one more entry
pub record Keeping (S : Type 0) : Type 0 where
  pub reads : S → Knowledge
  pub adds : Entry → S → S

-- the state is a log
abbrev pub logs : Member → Keeping Log
logs me = record { reads = known me; adds = λ e log. e ∷ log }

-- the state is the knowledge itself
abbrev pub minds : Member → Keeping Knowledge
minds me = record { reads = λ k. k; adds = with_entry me }

-- ---- sending

abbrev pub message_to : Member → Exchange → Body → Message
message_to me x body = record { from = me.party; to = partner_in me x; body = body }

-- a new message is signed, kept as said, and sent
abbrev pub say_new : {S : Type 0} → Keeping S → Member → Outcome S → Exchange → Option Body → Outcome S
say_new w me out x None = out
say_new w me out x (Some body) =
    let d : Datagram = signed me (w.reads out.state) (message_to me x body) in
    sending (record out { state = w.adds (Said d) out.state }) (partner_in me x) d

-- what was said is sent again; otherwise the message is new
abbrev pub say_or_repeat : {S : Type 0} → Keeping S → Member → Outcome S → Exchange → Option Datagram → Option Body → Outcome S
say_or_repeat w me out x (Some d) body = sending out (partner_in me x) d
say_or_repeat w me out x None body = say_new w me out x body

abbrev pub say : {S : Type 0} → Keeping S → Member → Outcome S → Kind → Exchange → Option Body → Outcome S
say w me out kind x body = say_or_repeat w me out x ((w.reads out.state).said kind x (role_of me x)) body

abbrev pub send_if : {S : Type 0} → Member → Outcome S → ℕ → Option Body → Outcome S
send_if me out to None = out
send_if me out to (Some body) = sending out to (unsigned (record { from = me.party; to = to; body = body }))

abbrev pub perform : {S : Type 0} → Keeping S → Member → Outcome S → Order → Outcome S
perform w me out (Ask x) = say w me out (request_kind x.kind) x (Some (ask_body me (w.reads out.state) x x.kind))
perform w me out (Answer x) = say w me out (answer_kind x.kind) x (answer_body me (w.reads out.state) x x.kind)
perform w me out (GiveCase x) =
    say w me out kinds.Case x (option_map (case_body me (w.reads out.state) x) (terms_of me (w.reads out.state) x))
perform w me out (GiveKey x) = say w me out kinds.Key x (Some (key_body me x))
perform w me out (Resend kind x) = say w me out kind x None
perform w me out (Reveal x) = send_if me out (partner_in me x) (option_map (λ a. Divulge x.round a.0 a.1) ((w.reads out.state).revealed x))
perform w me out (AskKey x) = send_if me out (partner_in me x) (Some (KeyReq x.round x.kind (role_of me x)))
perform w me out (Report q) = send_if me out 0 (option_map Evidence ((w.reads out.state).evidence q))

abbrev pub perform_all : {S : Type 0} → Keeping S → Member → Outcome S → List Order → Outcome S
perform_all w me out [] = out
perform_all w me out (o ∷ os) = perform_all w me (perform w me out o) os

-- ---- one datagram

abbrev pub answer_repeat : {S : Type 0} → Keeping S → Member → S → Option Datagram → Outcome S
answer_repeat w me s None = begun s
answer_repeat w me s (Some d) = perform_all w me (begun s) (reply_orders me (w.reads s) false d)

abbrev pub answer_new : {S : Type 0} → Keeping S → Member → S → Datagram → Outcome S
answer_new w me s d = perform_all w me (begun s) (reply_orders me (w.reads s) true d)

abbrev pub answered_to : {S : Type 0} → Keeping S → Member → S → Datagram → Outcome S
answered_to w me s d =
    if is_admitted me (w.reads s) d
    then answer_new w me (w.adds (Heard d) s) d
    else answer_repeat w me s (repeated me (w.reads s) d)

-- the state with the evidence that is kept now, if any
abbrev pub with_evidence : {S : Type 0} → Keeping S → S → ℕ → Option (List (List ℕ)) → S
with_evidence w s q None = s
with_evidence w s q (Some evidence) = w.adds (Kept q evidence) s

abbrev pub report_new : {S : Type 0} → Keeping S → Member → Outcome S → ℕ → Option (List (List ℕ)) → Outcome S
report_new w me out q None = out
report_new w me out q (Some evidence) = perform w me out (Report q)

-- Evidence is kept first, as admission doesn't read it, and is reported last.
abbrev pub take_datagram : {S : Type 0} → Keeping S → Member → S → Option Datagram → Outcome S
take_datagram w me s None = begun s
take_datagram w me s (Some d) =
    let evidence : Option (List (List ℕ)) = new_evidence me (w.reads s) d in
    report_new w me (answered_to w me (with_evidence w s d.message.from evidence) d) d.message.from evidence

-- ---- one input

abbrev pub take_tick : {S : Type 0} → Keeping S → Member → S → Outcome S
take_tick w me s = record (perform_all w me (begun s) (orders_at_tick me (w.reads s))) { contents = contents_at_tick me (w.reads s) }

abbrev pub take_input : {S : Type 0} → Keeping S → Member → S → Input → Outcome S
take_input w me s event.Tick = take_tick w me (w.adds Ticked s)
take_input w me s (event.Datagram bytes) = take_datagram w me s (datagram_of me.session bytes)

-- what one input leaves; after its last tick a peer ignores every input
unfoldable pub step : {S : Type 0} → Keeping S → Member → S → Input → Outcome S
step w me s input = if nat_le (last_tick me.session) (w.reads s).ticks then begun s else take_input w me s input

-- the step of a peer that keeps only what it knows
abbrev pub step_known : Member → Knowledge → Input → Outcome Knowledge
step_known me k input = step (minds me) me k input
