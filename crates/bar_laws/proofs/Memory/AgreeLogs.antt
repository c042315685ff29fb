-- Knowledge that agrees in what a peer keeps agrees again after the same entry.
use Rattle.bar_wire.specs.Bodies.{is_manifest_of, divulge_in}
use Rattle.bar_window.specs.declared.update.UpdateId.{UpdateId}
use Rattle.bar_window.specs.declared.exchange.Exchange.{Exchange}
use Rattle.bar_window.specs.declared.exchange.Role.{Role}
use Rattle.bar_window.specs.declared.exchange.Role.TheVariants.{Initiator}
use Rattle.bar_wire.specs.declared.kind.Kind.TheVariants as kinds
use Rattle.bar_wire.specs.declared.kind.Kind.{Kind}
use Rattle.bar_wire.specs.Datagram.{Message, Datagram, Body, Request, Response, Divulge, Query, Reply, Case, KeyReq, Key, is_of, kind_number, exchange_by, exchange_of, round_of}
use Rattle.bar_rules.specs.Peer.Agreement.{promised_by, told_for, AgreesWith, IsRecent}
use Rattle.bar_rules.specs.Peer.Exchanges.{request_kind, committed, with_exchange, recent_of}
use Rattle.bar_rules.specs.Peer.Holdings.{block_by, block_opened, history, case_in}
use Rattle.bar_rules.specs.Peer.Knowledge.{table_of, Knowledge, known, this_round, holds, case_heard_of, with_tick, with_heard, with_said, with_kept, request_deadline, answer_deadline}
use Rattle.bar_rules.specs.Peer.Log.{lists_of, Log, Ticked, Heard, Said, Kept, has_kind_and_round, names_party}
use Rattle.bar_session.specs.Time.{round_after}
use Rattle.bar_rules.specs.Member.{Member, is_alive}
use Rattle.bar_rules.specs.Values.{window_of}
use Rattle.std.proofs.Common.{◌≡◌, ℕ, ◌≤◌, ◌+◌, ◌-◌, Bool, true, false, List, [], ◌∷◌, refl, sym, ap, ◌∙◌, subst, arith, cond, ◌||◌, eqb}
use Rattle.std.specs.Prelude.{option_map, Option, Some, None, is_some}
use Rattle.std.specs.Option.{option_or}
use Rattle.std.specs.Bool.{then_some}
use Rattle.std.specs.List.{AllByRecursion}
use Rattle.std.proofs.lemmas.Bool.{and_parts, leb-true}
use Rattle.bar_laws.proofs.Logs.{filter-same, is_of-is, part-round, round-by}
use Rattle.bar_laws.proofs.Memory.InLife.{InLife, of-round, window-in-life}
use Rattle.bar_laws.proofs.Memory.Learning.{grown, by-kind, known-ticked, known-heard, known-said, known-kept}

or-same : {A : Type 0} (o p q r : Option A) → o ≡ p → q ≡ r → option_or o q ≡ option_or p r
or-same o p q r e f = λ i. option_or (e i) (f i)

-- ---- bodies in time

-- the current round is within the bound that admission sets for a message
abbrev pub IsInTime : ℕ → ℕ → Body → Type 0
IsInTime life now (Request r seed c) = now ≤ r + request_deadline
IsInTime life now (Response r hb) = now ≤ r + answer_deadline
IsInTime life now (Divulge r nonce ha) = now ≤ r + answer_deadline
IsInTime life now (Query r seed young aged) = now ≤ r + request_deadline
IsInTime life now (Reply r want give junk) = now ≤ r + answer_deadline
IsInTime life now (Case c) = now ≤ c.round + answer_deadline
IsInTime life now (KeyReq r kind role) = now ≤ r + life
IsInTime life now (Key k) = now ≤ k.round + life
IsInTime life now _ = Unit {0}

-- what is promised agrees, whatever is said
promised-more : (o p q : Option Datagram) → option_map promised_by o ≡ option_map promised_by p → option_map promised_by (option_or o q) ≡ option_map promised_by (option_or p q)
promised-more (Some d) (Some e) q same = same
promised-more None None q same = refl
promised-more (Some d) None q same = cc
promised-more None (Some e) q same = cc

-- both have a manifest of a round or neither has, whatever is heard
listed-more : (o p q : Option Datagram) → is_some o ≡ is_some p → is_some (option_or o q) ≡ is_some (option_or p q)
listed-more (Some d) (Some e) q both = refl
listed-more None None q both = refl
listed-more (Some d) None q both = cc
listed-more None (Some e) q both = cc

-- then the list of the round agrees
list-more : (o p q : Option Datagram) (round : ℕ) → is_some o ≡ is_some p → lists_of (λ r. o) round ≡ lists_of (λ r. p) round → lists_of (λ r. option_or o q) round ≡ lists_of (λ r. option_or p q) round
list-more (Some d) (Some e) q round both same = same
list-more None None q round both same = refl
list-more (Some d) None q round both same = cc
list-more None (Some e) q round both same = cc

module _ (me : Member) (one two : Knowledge) (same : AgreesWith me one two) where
  pub now : this_round one ≡ this_round two
  now = ap round_after same.time

  -- ---- holdings

  pub blocks-on : (round : ℕ) (us : List UpdateId) → this_round one ≤ round + answer_deadline → InLife me.session.shape.life round us → AllByRecursion (λ u. one.block u ≡ two.block u) us
  blocks-on round [] h e = tt
  blocks-on round (u ∷ us) h e =
      let p = and_parts _ _ e in
      let low : round + 1 ≤ u.round + me.session.shape.life = leb-true (round + 1) (u.round + me.session.shape.life) p.0 in
      (same.blocks u (omega (arith, low, h)), blocks-on round us h p.1)

  pub held-on : (round : ℕ) (us : List UpdateId) → this_round one ≤ round + answer_deadline → InLife me.session.shape.life round us → AllByRecursion (λ u. holds one u ≡ holds two u) us
  held-on round [] h e = tt
  held-on round (u ∷ us) h e =
      let p = and_parts _ _ e in
      let low : round + 1 ≤ u.round + me.session.shape.life = leb-true (round + 1) (u.round + me.session.shape.life) p.0 in
      (ap is_some (same.blocks u (omega (arith, low, h))), held-on round us h p.1)

  pub history-same : (round : ℕ) → this_round one ≤ round + answer_deadline → history me.session one.block round ≡ history me.session two.block round
  history-same round h = filter-same (holds one) (holds two) (window_of me.session round) (held-on round (window_of me.session round) h (window-in-life me.session round))

  -- ---- one more entry

  tick-agree : AgreesWith me (with_tick me one) (with_tick me two)
  tick-agree = record {
    time = ap (λ t. t + 1) same.time;
    table = same.table;
    listed = same.listed;
    evictions = same.evictions;
    announced = same.announced;
    evidence = same.evidence;
    blocks = λ u r. same.blocks u (omega (arith, r));
    heard = λ kind x role r. same.heard kind x role (omega (arith, r));
    said = λ kind x role r. same.said kind x role (omega (arith, r));
    promises = λ x role r. same.promises x role (omega (arith, r));
    commits = λ x r. same.commits x (omega (arith, r));
    seats = λ x r. same.seats x (omega (arith, r));
    requests = λ kind round r. same.requests kind round (omega (arith, r));
    opens = λ i. recent_of me.session (round_after (same.time i + 1)) (same.opens i);
    own = same.own;
  }

  keep-agree : (q : ℕ) (evidence : List (List ℕ)) → AgreesWith me (with_kept q evidence one) (with_kept q evidence two)
  keep-agree q evidence = record {
    time = same.time;
    table = same.table;
    listed = same.listed;
    evictions = same.evictions;
    announced = same.announced;
    evidence = λ party. ap (λ o. option_or o (then_some (eqb q party) evidence)) (same.evidence party);
    blocks = same.blocks;
    heard = same.heard;
    said = same.said;
    promises = same.promises;
    commits = same.commits;
    seats = same.seats;
    requests = same.requests;
    opens = same.opens;
    own = same.own;
  }

  pub case-same : (x : Exchange) (role : Role) → IsRecent me one x.round → case_heard_of one x role ≡ case_heard_of two x role
  case-same x role r = ap case_in (same.heard kinds.Case x role r)

  block-added : (u : UpdateId) (m : Message) (b : Body) → IsInTime me.session.shape.life (this_round one) b
      → block_by me.session (this_round one) (table_of one) (case_heard_of one) u m b ≡ block_by me.session (this_round two) (table_of two) (case_heard_of two) u m b
  block-added u m (Key g) h =
      let x : Exchange = exchange_by g.round g.kind g.role m.from m.to in
      let r : IsRecent me one x.round = subst (λ z. this_round one ≤ z + me.session.shape.life) (sym (round-by g.round g.kind g.role m.from m.to)) h in
      (λ i. cond (is_alive me.session u.round (now i)) (block_opened me.session (same.table i) x u g.key (case-same x g.role r i)) None)
  block-added u m _ h = refl

  own-heard : (kind : Kind) (x : Exchange) (role : Role) (d e : Datagram) (o : Option Datagram) (b : Bool) → is_of kind x role d.message ≡ b → (o ≡ Some e → is_of kind x role e.message ≡ true)
      → option_or o (then_some b d) ≡ Some e → is_of kind x role e.message ≡ true
  own-heard kind x role d e (Some c) b is f h = f h
  own-heard kind x role d e None true is f h = let same : d ≡ e = cc in subst (λ z. is_of kind x role z.message ≡ true) same is
  own-heard kind x role d e None false is f h = cc

  grow-agree : (d : Datagram) → IsInTime me.session.shape.life (this_round one) d.message.body → AgreesWith me (grown me d one) (grown me d two)
  grow-agree d h = record {
    time = same.time;
    table = λ i round. list-more (one.manifest round) (two.manifest round) (then_some (is_manifest_of round d.message.body) d) round (same.listed round) (ap (λ t. t round) same.table) i;
    listed = λ round. listed-more (one.manifest round) (two.manifest round) (then_some (is_manifest_of round d.message.body) d) (same.listed round);
    evictions = λ round. ap (λ b. b || has_kind_and_round kinds.Evict round d.message) (same.evictions round);
    announced = λ party. ap (λ b. b || names_party party d.message) (same.announced party);
    evidence = same.evidence;
    blocks = λ u r. or-same _ _ _ _ (same.blocks u r) (block-added u d.message d.message.body h);
    heard = λ kind x role r. ap (λ o. option_or o (then_some (is_of kind x role d.message) d)) (same.heard kind x role r);
    said = same.said;
    promises = same.promises;
    commits = λ x r. ap (λ o. option_or o (cond (is_of kinds.Divulge x Initiator d.message) (divulge_in d.message.body) None)) (same.commits x r);
    seats = λ x r i. option_or (same.seats x r i) (then_some (is_of (request_kind x.kind) x Initiator d.message) (same.requests x.kind x.round r i));
    requests = λ kind round r. ap (λ n. n + cond (has_kind_and_round (request_kind kind) round d.message) 1 0) (same.requests kind round r);
    opens = same.opens;
    own = λ kind x role e h. own-heard kind x role d e (two.heard kind x role) (is_of kind x role d.message) refl (same.own kind x role e) h;
  }

  hear-agree : (d : Datagram) → IsInTime me.session.shape.life (this_round one) d.message.body → AgreesWith me (with_heard me d one) (with_heard me d two)
  hear-agree d h =
      subst (λ k. AgreesWith me k (with_heard me d two)) (by-kind me d one d.message.body) (subst (λ k. AgreesWith me (grown me d one) k) (by-kind me d two d.message.body) (grow-agree d h))

  -- a REQUEST commits to the history at that moment
  commit-same : (d : Datagram) (x : Exchange) → (kind_number d.message.body ≡ 3 → this_round one ≤ round_of d.message.body + answer_deadline)
      → then_some (is_of kinds.Request x Initiator d.message) (committed me one.block x) ≡ then_some (is_of kinds.Request x Initiator d.message) (committed me two.block x)
  commit-same d x h = go (is_of kinds.Request x Initiator d.message) refl
    where
      go : (b : Bool) → is_of kinds.Request x Initiator d.message ≡ b → then_some b (committed me one.block x) ≡ then_some b (committed me two.block x)
      go false e = refl
      go true e =
          let w = is_of-is kinds.Request x Initiator d.message e in
          let round : round_of d.message.body ≡ x.round = part-round d.message.body w.round w.sort Initiator w.part ∙ of-round kinds.Request x Initiator d.message (w.round, w.sort, Initiator) e w.part in
          let soon : this_round one ≤ x.round + answer_deadline = subst (λ z. this_round one ≤ z + answer_deadline) round (h w.number) in
          ap (λ us. Some ((committed me one.block x).0, us)) (history-same x.round soon)

  speak-agree : (d : Datagram) → (kind_number d.message.body ≡ 3 → this_round one ≤ round_of d.message.body + answer_deadline) → AgreesWith me (with_said me d one) (with_said me d two)
  speak-agree d h = record {
    time = same.time;
    table = same.table;
    listed = same.listed;
    evictions = same.evictions;
    announced = same.announced;
    evidence = same.evidence;
    blocks = same.blocks;
    heard = same.heard;
    said = λ kind x role r. ap (λ o. option_or o (then_some (is_of kind x role d.message) d)) (same.said kind x role r);
    promises = λ x role r. promised-more (one.said kinds.Case x role) (two.said kinds.Case x role) (then_some (is_of kinds.Case x role d.message) d) (same.promises x role r);
    commits = λ x r. or-same _ _ _ _ (same.commits x r) (commit-same d x h);
    seats = same.seats;
    requests = same.requests;
    opens = λ i. recent_of me.session (now i) (with_exchange (exchange_of d.message) (same.opens i));
    own = same.own;
  }

-- ---- one more entry of a log

module _ (me : Member) (one : Log) (two : Knowledge) (same : AgreesWith me (known me one) two) where
  pub ticked-agree : AgreesWith me (known me (Ticked ∷ one)) (with_tick me two)
  ticked-agree = subst (λ k. AgreesWith me k (with_tick me two)) (sym (known-ticked me one)) (tick-agree me (known me one) two same)

  pub kept-agree : (q : ℕ) (evidence : List (List ℕ)) → AgreesWith me (known me (Kept q evidence ∷ one)) (with_kept q evidence two)
  kept-agree q evidence = subst (λ k. AgreesWith me k (with_kept q evidence two)) (sym (known-kept me one q evidence)) (keep-agree me (known me one) two same q evidence)

  pub heard-agree : (d : Datagram) → IsInTime me.session.shape.life (this_round (known me one)) d.message.body → AgreesWith me (known me (Heard d ∷ one)) (with_heard me d two)
  heard-agree d h = subst (λ k. AgreesWith me k (with_heard me d two)) (sym (known-heard me one d)) (hear-agree me (known me one) two same d h)

  pub said-agree : (d : Datagram) → (kind_number d.message.body ≡ 3 → this_round (known me one) ≤ round_of d.message.body + answer_deadline) → AgreesWith me (known me (Said d ∷ one)) (with_said me d two)
  said-agree d h = subst (λ k. AgreesWith me k (with_said me d two)) (sym (known-said me one d)) (speak-agree me (known me one) two same d h)

-- ---- one after another

pub agree-trans : (me : Member) (a b c : Knowledge) → AgreesWith me a b → AgreesWith me b c → AgreesWith me a c
agree-trans me a b c f g =
    let later : (bound : ℕ) → this_round a ≤ bound → this_round b ≤ bound = λ bound r. subst (λ n. round_after n ≤ bound) f.time r in
    record {
      time = f.time ∙ g.time;
      table = f.table ∙ g.table;
      listed = λ round. f.listed round ∙ g.listed round;
      evictions = λ round. f.evictions round ∙ g.evictions round;
      announced = λ party. f.announced party ∙ g.announced party;
      evidence = λ party. f.evidence party ∙ g.evidence party;
      blocks = λ u r. f.blocks u r ∙ g.blocks u (later (u.round + me.session.shape.life + (answer_deadline - 1)) r);
      heard = λ kind x role r. f.heard kind x role r ∙ g.heard kind x role (later (x.round + me.session.shape.life) r);
      said = λ kind x role r. f.said kind x role r ∙ g.said kind x role (later (x.round + told_for me.session kind) r);
      promises = λ x role r. f.promises x role r ∙ g.promises x role (later (x.round + me.session.shape.life) r);
      commits = λ x r. f.commits x r ∙ g.commits x (later (x.round + me.session.shape.life) r);
      seats = λ x r. f.seats x r ∙ g.seats x (later (x.round + me.session.shape.life) r);
      requests = λ kind round r. f.requests kind round r ∙ g.requests kind round (later (round + me.session.shape.life) r);
      opens = f.opens ∙ g.opens;
      own = g.own;
    }
