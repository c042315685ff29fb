-- What is ignored changes nothing.
use Rattle.std.proofs.Common.{◌≡◌, ◌∙◌, ℕ, Bool, true, false, List, ◌∷◌, Option, Some, None, refl, ap}
use Rattle.std.specs.Prelude.{not, is_none, is_some, if◌then◌else◌}
use Rattle.std.specs.Option.{option_map_or}
use Rattle.std.proofs.lemmas.Bool.{and_parts, not-true}
use Rattle.bar_wire.specs.Datagram.{Datagram, Body, Manifest, Block, Request, Response, Divulge, Query, Reply, Case, KeyReq, Key, Evidence, Evict}
use Rattle.bar_wire.specs.Inputs.{Input}
use Rattle.bar_wire.specs.Inputs as event
use Rattle.bar_rules.specs.Broadcaster.Sending.{caster_step, caster_take, evict_by, judge_body, judge_datagram}
use Rattle.bar_rules.specs.Broadcaster.Stream.{caster_table}
use Rattle.bar_rules.specs.Judge.Verdict.{Verdict, Shown, NotShown, verdict}
use Rattle.bar_rules.specs.Member.{Member}
use Rattle.bar_rules.specs.Peer.Admission.{is_admitted}
use Rattle.bar_rules.specs.Peer.Evidence.{new_evidence}
use Rattle.bar_rules.specs.Peer.Knowledge.{known}
use Rattle.bar_rules.specs.Peer.Log.{Log, Heard, Kept, kept}
use Rattle.bar_rules.specs.Peer.Machine as machine
use Rattle.bar_rules.specs.Peer.Machine.{logs}
use Rattle.bar_rules.specs.Peer.Replies.{repeated}
use Rattle.bar_rules.specs.Peer.Run.{Out, answer_repeat, answered_to, report_new, take_datagram, take_input, with_evidence}
use Rattle.bar_rules.specs.Runs.{begun}
use Rattle.bar_rules.specs.Values.{datagram_of}
use Rattle.bar_laws.specs.Ignoring.{CastersIgnore, PeersIgnore, evicts, is_ignored, is_ignored_by_caster, is_news, tells_nothing}
use Rattle.bar_laws.proofs.Runs.Runs.{not_some}

-- ---- by a peer

module _ (me : Member) (log : Log) where
  module _ (d : Datagram) where
    abbrev by-admission : Bool → Out
    by-admission b =
        if b then machine.answer_new (logs me) me (Heard d ∷ log) d else answer_repeat me log (repeated me (known me log) d)

    abbrev by-evidence : Option (List (List ℕ)) → Out
    by-evidence evidence = report_new me (answered_to me (with_evidence me log d.message.from evidence) d) d.message.from evidence

    nothing-taken : tells_nothing me (known me log) d ≡ true → take_datagram me log (Some d) ≡ begun log
    nothing-taken e =
        let parts = and_parts _ _ e in
        let before = and_parts _ _ parts.0 in
        let first : is_admitted me (known me log) d ≡ false = not-true _ before.0 in
        let second : repeated me (known me log) d ≡ None = not_some _ before.1 in
        let third : new_evidence me (known me log) d ≡ None = not_some _ parts.1 in
        ap by-evidence third ∙ ap by-admission first ∙ ap (answer_repeat me log) second

  ignored-taken : (o : Option Datagram) → option_map_or (tells_nothing me (known me log)) o true ≡ true → take_datagram me log o ≡ begun log
  ignored-taken None e = refl
  ignored-taken (Some d) e = nothing-taken d e

  ignored-input : (input : Input) (over : Bool) → is_ignored me (known me log) input ≡ true
      → (if over then begun log else take_input me log input) ≡ begun log
  ignored-input input true e = refl
  ignored-input event.Tick false e = absurd (cc)
  ignored-input (event.Datagram bytes) false e = ignored-taken (datagram_of me.session bytes) e

pub peers-ignore : PeersIgnore
unfolding machine.step
peers-ignore me log input e = ignored-input me log input _ e

-- ---- by a broadcaster

module _ (me : Member) (stream : List ℕ) (log : Log) where
  kept-again : (datagrams : List (List ℕ)) (party : ℕ) (o : Option (List (List ℕ))) → is_none o ≡ false
      → (if is_some o then log else Kept party datagrams ∷ log) ≡ log
  kept-again datagrams party None e = absurd (cc)
  kept-again datagrams party (Some evidence) e = refl

  no-eviction : (datagrams : List (List ℕ)) (v : Verdict) → evicts log v ≡ false → evict_by log datagrams v ≡ log
  no-eviction datagrams (Shown party fault) e = kept-again datagrams party (kept log party) e
  no-eviction datagrams (NotShown why) e = refl

  no-news : (b : Body) → is_news me stream log b ≡ false → judge_body me stream log b ≡ log
  no-news (Evidence datagrams) e = no-eviction datagrams (verdict me.session (caster_table me stream log) datagrams) e
  no-news (Manifest r ds) e = refl
  no-news (Block u b) e = refl
  no-news (Request r s c) e = refl
  no-news (Response r hb) e = refl
  no-news (Divulge r n ha) e = refl
  no-news (Query r s y o) e = refl
  no-news (Reply r w g z) e = refl
  no-news (Case c) e = refl
  no-news (KeyReq r kind role) e = refl
  no-news (Key g) e = refl
  no-news (Evict r ps) e = refl

  ignored-judged : (o : Option Datagram) → option_map_or (λ d. not (is_news me stream log d.message.body)) o true ≡ true
      → judge_datagram me stream log o ≡ log
  ignored-judged None e = refl
  ignored-judged (Some d) e = no-news d.message.body (not-true _ e)

  ignored-by-caster : (input : Input) (over : Bool) → is_ignored_by_caster me stream log input ≡ true
      → (if over then begun log else caster_take me stream log input) ≡ begun log
  ignored-by-caster input true e = refl
  ignored-by-caster event.Tick false e = absurd (cc)
  ignored-by-caster (event.Datagram bytes) false e = ap begun (ignored-judged (datagram_of me.session bytes) e)

pub casters-ignore : CastersIgnore
unfolding caster_step
casters-ignore me stream log input e = ignored-by-caster me stream log input _ e
