-- Eight deliveries complete a push.
use Rattle.std.proofs.Common.{◌≡◌, ◌∙◌, ℕ, ◌+◌, Bool, true, List, [], ◌∷◌, length, refl, sym, ap, subst}
use Rattle.std.specs.Prelude.{Some, option_and_then, option_map, slice_get}
use Rattle.bar_terms.specs.Terms.{offer_ok}
use Rattle.bar_window.specs.declared.exchange.Exchange.{Exchange}
use Rattle.bar_window.specs.declared.exchange.Role.TheVariants.{Initiator, Responder}
use Rattle.bar_window.specs.declared.exchange.XKind.TheVariants.{Push}
use Rattle.bar_window.specs.declared.update.UpdateId.{UpdateId}
use Rattle.bar_window.specs.Terms.{Terms}
use Rattle.bar_wire.specs.Bodies.{offer_in}
use Rattle.bar_wire.specs.Datagram.{Datagram}
use Rattle.bar_wire.specs.Grammar.{IsDatagram}
use Rattle.bar_wire.specs.declared.kind.Kind.TheVariants as kinds
use Rattle.bar_rules.specs.Peer.Knowledge.{Knowledge, known}
use Rattle.bar_rules.specs.Peer.Log.{Log, table}
use Rattle.bar_rules.specs.Peer.Rules.{IsObedient}
use Rattle.bar_rules.specs.Peer.Run.{log_after}
use Rattle.bar_rules.specs.Peer.Terms.{body_on}
use Rattle.bar_rules.specs.Values.{datagram_bytes}
use Rattle.bar_rules.specs.World.World.{Move, Setup, member}
use Rattle.bar_laws.specs.Knowing.{StepIsKnown}
use Rattle.bar_laws.specs.Obedience.{SignedByRule}
use Rattle.bar_laws.specs.OwnRuns.{PeersRun, inputs_of}
use Rattle.bar_laws.specs.Parties.{IsAccepted, KeysOpenWell, NobodyIsAccused, StepIsAccepted, after}
use Rattle.bar_laws.specs.Premises.{PeersAreMembers}
use Rattle.bar_laws.proofs.Logs.{offer-ok, read-fits, some-equal, spoken-offer}
use Rattle.bar_progress.specs.Pushes.{BeginsPush, PushesComplete, pushing}
use Rattle.bar_progress.specs.Pushing.{push, query_of}
use Rattle.bar_progress.specs.Trades.{HaveTraded, and_deliver, delivering, pair_in, talk_in}
use Rattle.bar_progress.specs.Trading.{Pair, Talk}
use Rattle.bar_progress.proofs.Closing.{begins, head_of, world-complete}
use Rattle.bar_progress.proofs.Ending.{own-told}
use Rattle.bar_progress.proofs.Mirrors.{Mirrors, next-one, swap, welcome-one}
use Rattle.bar_progress.proofs.Pairs.{side-one, side-two}
use Rattle.bar_progress.proofs.PushTalking as talk
use Rattle.bar_progress.proofs.Talking.{PromisesEqual}

module _ (knows : StepIsKnown) (accepted : StepIsAccepted) (accuses : NobodyIsAccused) (opens : KeysOpenWell) (equal : PromisesEqual) (ruled : SignedByRule) (peers : PeersRun) (members : PeersAreMembers)
    (setup : Setup) (trusted : ℕ → Bool) (moves : List Move) (query a b round : ℕ) (young aged : List UpdateId) (r : BeginsPush setup trusted moves query a b round young aged) where
  abbrev p : Pair
  p = pair_in setup a b round

  abbrev t : Talk
  t = talk_in setup a b r.way.mine r.way.theirs r.way.d

  abbrev n : ℕ
  n = length (after setup moves).packets

  abbrev x : Exchange
  x = push p

  apart : a ≡ b → ⊥
  apart = r.can.apart

  abbrev d1 : Datagram
  d1 = query_of p r.can.seed r.can.signature young aged

  -- ---- the offer is valid under its own peer's table, as it was signed by rule

  reads : IsAccepted setup.session a (datagram_bytes setup.session d1) d1
  reads = subst (λ d. IsAccepted setup.session a (datagram_bytes setup.session d) d) (ap (head_of r.way.d) r.can.way) r.way.accepted

  fits : IsDatagram setup.session.shape d1
  fits = read-fits setup.session (datagram_bytes setup.session d1) d1 reads.reads

  mine-is : r.way.mine ≡ log_after (member setup a) [] (inputs_of setup moves a)
  mine-is = some-equal _ _ (sym r.way.asks.log_is ∙ (peers setup moves r.way.unforged.setup_is a fits.may_send.0.0 fits.may_send.0.1).log)

  obedient : IsObedient (member setup a) r.way.mine
  obedient =
      subst (IsObedient (member setup a)) (sym mine-is)
      (ruled (member setup a) (members setup a r.way.unforged.setup_is fits.may_send.0.0 fits.may_send.0.1) (inputs_of setup moves a)).obedient

  offers : option_and_then offer_in (body_on (member setup a) (known (member setup a) r.way.mine) kinds.Query x Initiator) ≡ Some (young, aged)
  offers =
      ap (λ o. option_and_then offer_in (option_map (λ (d : Datagram). d.message.body) o))
      (own-told (member setup a) (known (member setup a) r.way.mine) kinds.Query x Initiator Responder b (side-one p Push) ∙ r.can.asked)

  valid : offer_ok setup.session.cap setup.session.shape.life (table r.way.mine) round young aged ≡ true
  valid = offer-ok (member setup a) r.way.mine round young aged (spoken-offer (member setup a) r.way.mine x (young, aged) obedient offers)

  abbrev d2 : Datagram
  d2 = talk.d2 p t young aged r.can valid

  abbrev d3 : Datagram
  d3 = talk.d3 p t young aged r.can valid

  abbrev d4 : Datagram
  d4 = talk.d4 p t young aged r.can valid

  abbrev ka2 : Knowledge
  ka2 = talk.ka2 p t young aged r.can valid

  abbrev kb3 : Knowledge
  kb3 = talk.kb3 p t young aged r.can valid

  abbrev terms : Terms
  terms = talk.terms p t young aged r.can valid

  m1 : Mirrors setup trusted a b (and_deliver moves query) t.mine kb3 ((a, d2) ∷ (a, d3) ∷ []) n
  m1 = begins knows accepted accuses setup trusted moves query a b r.way apart d1 (ap (head_of r.way.d) r.can.way) _ (talk.step1 p t young aged r.can valid)

  m2 : Mirrors setup trusted a b (delivering setup moves query 1) ka2 kb3 ((a, d3) ∷ (b, d4) ∷ []) (n + 1)
  m2 =
      next-one knows accepted setup trusted a b (and_deliver moves query) t.mine kb3 d2 ((a, d3) ∷ []) n _ apart r.way.going_mine m1
      (talk.step2 p t young aged r.can valid
      (welcome-one knows accepted accuses setup trusted a b (and_deliver moves query) t.mine kb3 d2 ((a, d3) ∷ []) n apart r.way.going_mine m1))

  traded : (mine theirs : Log) → slice_get (after setup (pushing setup moves query)).logs a ≡ Some mine → slice_get (after setup (pushing setup moves query)).logs b ≡ Some theirs
      → HaveTraded setup x terms mine theirs
  traded mine theirs at bt =
      let even = talk.even p t young aged r.can valid equal in
      let both =
      world-complete knows accepted accuses setup trusted b a (λ z. apart (sym z)) x Responder Initiator (side-two p Push apart) (side-one p Push) terms kb3 ka2 _ d3.signature _ d4.signature
      (talk.cased2 p t young aged r.can valid) (talk.cased1 p t young aged r.can valid) opens (delivering setup moves query 1) (n + 1) _ r.way.going_theirs
      r.way.going_mine (swap setup trusted a b (delivering setup moves query 1) ka2 kb3 ((a, d3) ∷ (b, d4) ∷ []) (n + 1) m2) (sym even) refl theirs mine bt at in
      record { first = both.1.0; second = both.0.0; first_gains = both.1.1; second_gains = both.0.1 }

pub pushes-complete : StepIsKnown → StepIsAccepted → NobodyIsAccused → KeysOpenWell → PromisesEqual → SignedByRule → PeersRun → PeersAreMembers → PushesComplete
pushes-complete knows accepted accuses opens equal ruled peers members setup trusted moves query a b round young aged mine theirs r at bt =
    traded knows accepted accuses opens equal ruled peers members setup trusted moves query a b round young aged r mine theirs at bt
