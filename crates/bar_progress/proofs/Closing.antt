-- Both sides of an exchange of either kind, from both CASEs on: six datagrams, one after another, in a talk and in a world.
use Rattle.std.proofs.Common.{◌≡◌, ◌∙◌, ℕ, ◌+◌, ◌<◌, ◌≤◌, inl, Bool, true, false, not, List, [], ◌∷◌, length, ap, subst, refl, sym, arith}
use Rattle.std.specs.Prelude.{Some, Contains, is_some, slice_get}
use Rattle.std.specs.List.{range_with_len}
use Rattle.std.proofs.lemmas.Bool.{lt-ltb, ltb-true}
use Rattle.bar_session.specs.Time.{last_tick}
use Rattle.bar_terms.specs.Terms.{promise, promised_updates}
use Rattle.bar_window.specs.Exchange.{party_on}
use Rattle.bar_window.specs.declared.exchange.Exchange.{Exchange}
use Rattle.bar_window.specs.declared.exchange.Role.{Role}
use Rattle.bar_window.specs.declared.exchange.Role.TheVariants.{Initiator, Responder}
use Rattle.bar_window.specs.Terms.{Terms}
use Rattle.bar_wire.specs.Bodies.{briefcase_in}
use Rattle.bar_wire.specs.Datagram.{Briefcase, Datagram, exchange_by, is_of}
use Rattle.bar_wire.specs.declared.kind.Kind.TheVariants as kinds
use Rattle.bar_rules.specs.Member.{Member, is_alive}
use Rattle.bar_rules.specs.Peer.Holdings.{block_of, case_heard_from, case_in, is_held}
use Rattle.bar_rules.specs.Peer.Knowledge.{Knowledge, known}
use Rattle.bar_rules.specs.Peer.Log.{Heard, Log, first_heard, round_now}
use Rattle.bar_rules.specs.Runs.{begun, sending}
use Rattle.bar_rules.specs.Secrets.{briefcase_key}
use Rattle.bar_rules.specs.Values.{datagram_bytes}
use Rattle.bar_rules.specs.World.World.{Move, Setup, member}
use Rattle.bar_laws.specs.Knowing.{StepIsKnown}
use Rattle.bar_laws.specs.Parties.{ForgesNothing, IsAccepted, IsTrustedPeer, KeysOpenWell, NobodyIsAccused, OpensWell, StepIsAccepted, after}
use Rattle.bar_laws.specs.Growing.{IsLater}
use Rattle.bar_laws.proofs.Logs.{IsKeyOf, find-later, first_heard-was, is_of-key, later-entry, round-later, sender-on, some-equal, some-is, some-same, then-later}
use Rattle.bar_progress.specs.Trading.{AreFair, HasTraded, IsComplete, IsFair, IsWelcome, Pair, Talk, hears, hears_all, one, take, two}
use Rattle.bar_progress.specs.Trades.{Holds, IsUnderWay, and_deliver, and_deliver_all}
use Rattle.bar_progress.proofs.Ending as side
use Rattle.bar_progress.proofs.Ending.{HasCased, Side, across, asking_to, case_to}
use Rattle.bar_progress.proofs.Mirrors.{IsOfTwo, Mirrors, Sides, delivered-first, next-one, next-two, welcome-first, welcome-one, welcome-two}
use Rattle.bar_progress.proofs.Pairs.{fair-far, fair-near, hears-far, hears-near, near, side_of, talk_of}
use Rattle.bar_progress.proofs.Saying.{Known, key_as, said_out}

-- the CASE of one side was sent first
module _ (mu mv : Member) (x : Exchange) (ru rv : Role) (su : Side mu x ru rv mv.party) (sv : Side mv x rv ru mu.party) (terms : Terms) (ku kv : Knowledge) (zu gu zv gv : List ℕ)
    (hu : HasCased mu ku x ru rv mv.party terms (case_to mv x ru mu.party terms zu gu)) (hv : HasCased mv kv x rv ru mu.party terms (case_to mu x rv mv.party terms zv gv)) where
  abbrev pub cu : Datagram
  cu = case_to mv x ru mu.party terms zu gu

  abbrev pub cv : Datagram
  cv = case_to mu x rv mv.party terms zv gv

  abbrev pub qu : Datagram
  qu = asking_to mv x ru mu.party

  abbrev pub qv : Datagram
  qv = asking_to mu x rv mv.party

  abbrev pub u1 : Knowledge
  u1 = side.k1 mu x ru rv mv.party su ku terms cu hu zv gv

  abbrev pub u2 : Knowledge
  u2 = side.k2 mu x ru rv mv.party su ku terms cu hu zv gv

  abbrev pub u3 : Knowledge
  u3 = side.k3 mu x ru rv mv.party su ku terms cu hu zv gv

  abbrev pub yu : Datagram
  yu = side.my_key mu x ru rv mv.party su ku terms cu hu zv gv

  abbrev pub v1 : Knowledge
  v1 = side.k1 mv x rv ru mu.party sv kv terms cv hv zu gu

  abbrev pub v2 : Knowledge
  v2 = side.k2 mv x rv ru mu.party sv kv terms cv hv zu gu

  abbrev pub v3 : Knowledge
  v3 = side.k3 mv x rv ru mu.party sv kv terms cv hv zu gu

  abbrev pub yv : Datagram
  yv = side.my_key mv x rv ru mu.party sv kv terms cv hv zu gu

  abbrev pub u4 : Knowledge
  u4 = side.k4 mu x ru rv mv.party su ku terms cu hu zv gv (briefcase_key mv x rv) yv.signature

  abbrev pub v4 : Knowledge
  v4 = side.k4 mv x rv ru mu.party sv kv terms cv hv zu gu (briefcase_key mu x ru) yu.signature

  pub step1 : IsWelcome mv kv cu → take mv kv cu ≡ sending (begun v1) mu.party qv
  step1 = side.takes-case mv x rv ru mu.party sv kv terms cv hv zu gu

  pub step2 : IsWelcome mu ku cv → take mu ku cv ≡ sending (begun u1) mv.party qu
  step2 = side.takes-case mu x ru rv mv.party su ku terms cu hu zv gv

  pub step3 : IsWelcome mu u1 qv → take mu u1 qv ≡ said_out mu (begun u2) mv.party (key_as mu x ru)
  step3 = side.takes-request mu x ru rv mv.party su ku terms cu hu zv gv

  pub step4 : IsWelcome mv v1 qu → take mv v1 qu ≡ said_out mv (begun v2) mu.party (key_as mv x rv)
  step4 = side.takes-request mv x rv ru mu.party sv kv terms cv hv zu gu

  pub step5 : IsWelcome mv v3 yu → take mv v3 yu ≡ begun v4
  step5 = side.takes-key mv x rv ru mu.party sv kv terms cv hv zu gu (briefcase_key mu x ru) yu.signature

  pub step6 : IsWelcome mu u3 yv → take mu u3 yv ≡ begun u4
  step6 = side.takes-key mu x ru rv mv.party su ku terms cu hu zv gv (briefcase_key mv x rv) yv.signature

  pub case-u : u4.heard kinds.Case x rv ≡ Some cv
  case-u = side.case-stays mu x ru rv mv.party su ku terms cu hu zv gv (briefcase_key mv x rv) yv.signature

  pub case-v : v4.heard kinds.Case x ru ≡ Some cu
  case-v = side.case-stays mv x rv ru mu.party sv kv terms cv hv zu gu (briefcase_key mu x ru) yu.signature

  pub ended-u : (count : ℕ) → length (promise mu.session.cap terms ru) ≡ count → length (promise mu.session.cap terms rv) ≡ count
      → HasTraded mu u4 x count rv (briefcase_key mv x rv)
  ended-u = side.has-traded mu x ru rv mv.party su ku terms cu hu zv gv (briefcase_key mv x rv) yv.signature

  pub ended-v : (count : ℕ) → length (promise mv.session.cap terms rv) ≡ count → length (promise mv.session.cap terms ru) ≡ count
      → HasTraded mv v4 x count ru (briefcase_key mu x ru)
  ended-v = side.has-traded mv x rv ru mu.party sv kv terms cv hv zu gu (briefcase_key mu x ru) yu.signature

-- ---- in a talk

module _ (p : Pair) (first : Bool) (apart : p.first ≡ p.second → ⊥) (x : Exchange)
    (su : Side (near p first) x (side_of first) (side_of (not first)) (near p (not first)).party)
    (sv : Side (near p (not first)) x (side_of (not first)) (side_of first) (near p first).party) (terms : Terms) (ku kv : Knowledge) (zu gu zv gv : List ℕ)
    (hu : HasCased (near p first) ku x (side_of first) (side_of (not first)) (near p (not first)).party terms
    (case_to (near p (not first)) x (side_of first) (near p first).party terms zu gu))
    (hv : HasCased (near p (not first)) kv x (side_of (not first)) (side_of first) (near p first).party terms
    (case_to (near p first) x (side_of (not first)) (near p (not first)).party terms zv gv)) where
  abbrev u : Member
  u = near p first

  abbrev v : Member
  v = near p (not first)

  abbrev dcu : Datagram
  dcu = cu u v x (side_of first) (side_of (not first)) su sv terms ku kv zu gu zv gv hu hv

  abbrev dcv : Datagram
  dcv = cv u v x (side_of first) (side_of (not first)) su sv terms ku kv zu gu zv gv hu hv

  abbrev dqu : Datagram
  dqu = qu u v x (side_of first) (side_of (not first)) su sv terms ku kv zu gu zv gv hu hv

  abbrev dqv : Datagram
  dqv = qv u v x (side_of first) (side_of (not first)) su sv terms ku kv zu gu zv gv hu hv

  abbrev dyu : Datagram
  dyu = yu u v x (side_of first) (side_of (not first)) su sv terms ku kv zu gu zv gv hu hv

  abbrev dyv : Datagram
  dyv = yv u v x (side_of first) (side_of (not first)) su sv terms ku kv zu gu zv gv hu hv

  abbrev ku1 : Knowledge
  ku1 = u1 u v x (side_of first) (side_of (not first)) su sv terms ku kv zu gu zv gv hu hv

  abbrev ku3 : Knowledge
  ku3 = u3 u v x (side_of first) (side_of (not first)) su sv terms ku kv zu gu zv gv hu hv

  abbrev ku4 : Knowledge
  ku4 = u4 u v x (side_of first) (side_of (not first)) su sv terms ku kv zu gu zv gv hu hv

  abbrev kv1 : Knowledge
  kv1 = v1 u v x (side_of first) (side_of (not first)) su sv terms ku kv zu gu zv gv hu hv

  abbrev kv3 : Knowledge
  kv3 = v3 u v x (side_of first) (side_of (not first)) su sv terms ku kv zu gu zv gv hu hv

  abbrev kv4 : Knowledge
  kv4 = v4 u v x (side_of first) (side_of (not first)) su sv terms ku kv zu gu zv gv hu hv

  pub talk-ends : (t : Talk) → t ≡ talk_of first ku kv ((v.party, dcu) ∷ (u.party, dcv) ∷ []) → AreFair 6 p t → hears_all 6 p t ≡ talk_of first ku4 kv4 []
  talk-ends t e0 fair =
      let w1 = fair-far p first ku kv dcu ((u.party, dcv) ∷ []) apart (subst (IsFair p) e0 fair.0) in
      let e1 : hears_all 1 p t ≡ talk_of first ku kv1 ((u.party, dcv) ∷ (u.party, dqv) ∷ []) =
      ap (hears p) e0 ∙ hears-far p first ku kv dcu ((u.party, dcv) ∷ []) _ apart (step1 u v x (side_of first) (side_of (not first)) su sv terms ku kv zu gu zv gv hu hv w1) in
      let w2 = fair-near p first ku kv1 dcv ((u.party, dqv) ∷ []) apart (subst (IsFair p) e1 fair.1.0) in
      let e2 : hears_all 2 p t ≡ talk_of first ku1 kv1 ((u.party, dqv) ∷ (v.party, dqu) ∷ []) =
      ap (hears p) e1 ∙ hears-near p first ku kv1 dcv ((u.party, dqv) ∷ []) _ apart (step2 u v x (side_of first) (side_of (not first)) su sv terms ku kv zu gu zv gv hu hv w2) in
      let w3 = fair-near p first ku1 kv1 dqv ((v.party, dqu) ∷ []) apart (subst (IsFair p) e2 fair.1.1.0) in
      let e3 : hears_all 3 p t ≡ talk_of first ku3 kv1 ((v.party, dqu) ∷ (v.party, dyu) ∷ []) =
      ap (hears p) e2 ∙ hears-near p first ku1 kv1 dqv ((v.party, dqu) ∷ []) _ apart (step3 u v x (side_of first) (side_of (not first)) su sv terms ku kv zu gu zv gv hu hv w3) in
      let w4 = fair-far p first ku3 kv1 dqu ((v.party, dyu) ∷ []) apart (subst (IsFair p) e3 fair.1.1.1.0) in
      let e4 : hears_all 4 p t ≡ talk_of first ku3 kv3 ((v.party, dyu) ∷ (u.party, dyv) ∷ []) =
      ap (hears p) e3 ∙ hears-far p first ku3 kv1 dqu ((v.party, dyu) ∷ []) _ apart (step4 u v x (side_of first) (side_of (not first)) su sv terms ku kv zu gu zv gv hu hv w4) in
      let w5 = fair-far p first ku3 kv3 dyu ((u.party, dyv) ∷ []) apart (subst (IsFair p) e4 fair.1.1.1.1.0) in
      let e5 : hears_all 5 p t ≡ talk_of first ku3 kv4 ((u.party, dyv) ∷ []) =
      ap (hears p) e4 ∙ hears-far p first ku3 kv3 dyu ((u.party, dyv) ∷ []) _ apart (step5 u v x (side_of first) (side_of (not first)) su sv terms ku kv zu gu zv gv hu hv w5) in
      let w6 = fair-near p first ku3 kv4 dyv ([]) apart (subst (IsFair p) e5 fair.1.1.1.1.1.0) in
      let e6 : hears_all 6 p t ≡ talk_of first ku4 kv4 ([]) =
      ap (hears p) e5 ∙ hears-near p first ku3 kv4 dyv ([]) _ apart (step6 u v x (side_of first) (side_of (not first)) su sv terms ku kv zu gu zv gv hu hv w6) in
      e6

-- hence both have what was agreed
pub talk-complete : (p : Pair) (first : Bool) → (apart : p.first ≡ p.second → ⊥) → (x : Exchange)
    → (su : Side (near p first) x (side_of first) (side_of (not first)) (near p (not first)).party)
    → (sv : Side (near p (not first)) x (side_of (not first)) (side_of first) (near p first).party) → (terms : Terms) (ku kv : Knowledge) (zu gu zv gv : List ℕ)
    → (hu : HasCased (near p first) ku x (side_of first) (side_of (not first)) (near p (not first)).party terms
    (case_to (near p (not first)) x (side_of first) (near p first).party terms zu gu))
    → (hv : HasCased (near p (not first)) kv x (side_of (not first)) (side_of first) (near p first).party terms
    (case_to (near p first) x (side_of (not first)) (near p (not first)).party terms zv gv))
    → (t : Talk)
    → t ≡ talk_of first ku kv
    (((near p (not first)).party, case_to (near p (not first)) x (side_of first) (near p first).party terms zu gu)
    ∷ ((near p first).party, case_to (near p first) x (side_of (not first)) (near p (not first)).party terms zv gv) ∷ [])
    → AreFair 6 p t → length (promise p.session.cap terms Initiator) ≡ length (promise p.session.cap terms Responder) → IsComplete p x terms (hears_all 6 p t)
talk-complete p true apart x su sv terms ku kv zu gu zv gv hu hv t e fair equal =
    subst (IsComplete p x terms) (sym (talk-ends p true apart x su sv terms ku kv zu gu zv gv hu hv t e fair))
    (record {
      silent = refl;
      first = ended-u (one p) (two p) x Initiator Responder su sv terms ku kv zu gu zv gv hu hv _ refl (sym equal);
      second = ended-v (one p) (two p) x Initiator Responder su sv terms ku kv zu gu zv gv hu hv _ (sym equal) refl;
    })
talk-complete p false apart x su sv terms ku kv zu gu zv gv hu hv t e fair equal =
    subst (IsComplete p x terms) (sym (talk-ends p false apart x su sv terms ku kv zu gu zv gv hu hv t e fair))
    (record {
      silent = refl;
      first = ended-v (two p) (one p) x Responder Initiator su sv terms ku kv zu gu zv gv hu hv _ refl (sym equal);
      second = ended-u (two p) (one p) x Responder Initiator su sv terms ku kv zu gu zv gv hu hv _ (sym equal) refl;
    })

-- ---- in a world

-- the first datagram on its way
abbrev pub head_of : Datagram → List (ℕ × Datagram) → Datagram
head_of d [] = d
head_of d (s ∷ rest) = s.1

-- the datagram that begins an exchange is delivered
pub begins : StepIsKnown → StepIsAccepted → NobodyIsAccused → (setup : Setup) (trusted : ℕ → Bool) (moves : List Move) (number a b : ℕ) → (w : IsUnderWay setup trusted moves number a b) → (a ≡ b → ⊥)
    → (d : Datagram) → w.d ≡ d → (out : Known) → (IsWelcome (member setup b) (known (member setup b) w.theirs) d → take (member setup b) (known (member setup b) w.theirs) d ≡ out)
    → Mirrors setup trusted a b (and_deliver moves number) (known (member setup a) w.mine) out.state out.sends (length (after setup moves).packets)
begins knows accepted accuses setup trusted moves number a b w apart d same out step =
    delivered-first knows accepted accuses setup trusted a b moves _ _ d number out apart w.going_theirs sides packet from
    (step (welcome-first knows accepted accuses setup trusted a b moves _ _ d number apart w.going_theirs sides packet from))
  where
    sides : Sides setup trusted a b moves (known (member setup a) w.mine) (known (member setup b) w.theirs)
    sides = record { unforged = w.unforged; mine = w.mine; theirs = w.theirs; one_is = w.asks; two_is = w.answers; one_knows = refl; two_knows = refl }

    packet : slice_get (after setup moves).packets number ≡ Some (b, datagram_bytes setup.session d)
    packet = w.packet ∙ ap (λ z. Some (b, datagram_bytes setup.session z)) same

    from : IsOfTwo setup a b (b, d)
    from = inl (subst (λ z. IsAccepted setup.session a (datagram_bytes setup.session z) z) same w.accepted)

-- what the partner's briefcase promises and is alive is held, once its key was heard
pub gains : KeysOpenWell → (setup : Setup) (trusted : ℕ → Bool) (ms : List Move) → ForgesNothing setup trusted ms → (receiver sender : ℕ) (mine theirs : Log)
    → IsTrustedPeer trusted (after setup ms) receiver mine → IsTrustedPeer trusted (after setup ms) sender theirs
    → (x : Exchange) (role : Role) → party_on x role ≡ sender → (d : Datagram) → first_heard (is_of kinds.Key x role) mine ≡ Some d
    → (c : Briefcase) → case_heard_from mine x role ≡ Some c → Holds setup mine (promised_updates setup.session.cap c.terms c.role)
gains opens setup trusted ms h receiver sender mine theirs one_is two_is x role side d heard c case u promised alive =
    let was = first_heard-was (is_of kinds.Key x role) mine d heard in
    let key : IsKeyOf x role d.message = is_of-key x role d.message was.1 in
    let before : Log = was.0.before in
    let well : OpensWell (member setup receiver) before d key.given = opens setup trusted ms h receiver sender mine theirs before d key.given one_is two_is
    (record { later = was.0.place.after; split = was.0.place.split; is_key = key.body; from = sender-on kinds.Key x role d.message was.1 ∙ side }) in
    let found : case_heard_from before x role ≡ Some well.case =
    subst (λ y. case_heard_from before y role ≡ Some well.case) key.exchange
    (subst (λ z. case_heard_from before (exchange_by key.given.round key.given.kind key.given.role d.message.from d.message.to) z ≡ Some well.case) key.side well.found) in
    let later : IsLater mine before = later-entry mine before (Heard d) was.0.place in
    let still : case_heard_from mine x role ≡ Some well.case =
    then-later (λ (e : Datagram). briefcase_in e.message.body) _ _ well.case (λ e. find-later _ mine before e later) found in
    let same : well.case ≡ c = some-same (case_heard_from mine x role) well.case c still case in
    let past : round_now before ≤ round_now mine = round-later mine before later in
    let early : round_now mine < u.round + setup.session.shape.life = ltb-true (round_now mine) (u.round + setup.session.shape.life) alive in
    let then : is_alive setup.session u.round (round_now before) ≡ true = lt-ltb (round_now before) (u.round + setup.session.shape.life) (omega (arith, past, early)) in
    let held : is_held setup.session (Heard d ∷ before) u ≡ true =
    well.held u (subst (λ (z : Briefcase). Contains (promised_updates setup.session.cap z.terms z.role) u) (sym same) promised) then in
    let f = some-is (block_of setup.session (Heard d ∷ before) u) held in
    ap is_some {y = Some f.0} (find-later _ mine (Heard d ∷ before) f.0 (record { new = was.0.place.after; split = was.0.place.split }) f.1)

module _ (knows : StepIsKnown) (accepted : StepIsAccepted) (accuses : NobodyIsAccused) (setup : Setup) (trusted : ℕ → Bool) (a b : ℕ) (apart : a ≡ b → ⊥) (x : Exchange) (ru rv : Role)
    (su : Side (member setup a) x ru rv b) (sv : Side (member setup b) x rv ru a) (terms : Terms) (ku kv : Knowledge) (zu gu zv gv : List ℕ)
    (hu : HasCased (member setup a) ku x ru rv b terms (case_to (member setup b) x ru a terms zu gu))
    (hv : HasCased (member setup b) kv x rv ru a terms (case_to (member setup a) x rv b terms zv gv)) where
  abbrev wcu : Datagram
  wcu = cu (member setup a) (member setup b) x ru rv su sv terms ku kv zu gu zv gv hu hv

  abbrev wcv : Datagram
  wcv = cv (member setup a) (member setup b) x ru rv su sv terms ku kv zu gu zv gv hu hv

  abbrev wqu : Datagram
  wqu = qu (member setup a) (member setup b) x ru rv su sv terms ku kv zu gu zv gv hu hv

  abbrev wqv : Datagram
  wqv = qv (member setup a) (member setup b) x ru rv su sv terms ku kv zu gu zv gv hu hv

  abbrev wyu : Datagram
  wyu = yu (member setup a) (member setup b) x ru rv su sv terms ku kv zu gu zv gv hu hv

  abbrev wyv : Datagram
  wyv = yv (member setup a) (member setup b) x ru rv su sv terms ku kv zu gu zv gv hu hv

  abbrev wu1 : Knowledge
  wu1 = u1 (member setup a) (member setup b) x ru rv su sv terms ku kv zu gu zv gv hu hv

  abbrev wu3 : Knowledge
  wu3 = u3 (member setup a) (member setup b) x ru rv su sv terms ku kv zu gu zv gv hu hv

  abbrev wu4 : Knowledge
  wu4 = u4 (member setup a) (member setup b) x ru rv su sv terms ku kv zu gu zv gv hu hv

  abbrev wv1 : Knowledge
  wv1 = v1 (member setup a) (member setup b) x ru rv su sv terms ku kv zu gu zv gv hu hv

  abbrev wv3 : Knowledge
  wv3 = v3 (member setup a) (member setup b) x ru rv su sv terms ku kv zu gu zv gv hu hv

  abbrev wv4 : Knowledge
  wv4 = v4 (member setup a) (member setup b) x ru rv su sv terms ku kv zu gu zv gv hu hv

  pub world-ends : (ms : List Move) (n : ℕ) → ku.ticks < last_tick setup.session → kv.ticks < last_tick setup.session
      → Mirrors setup trusted a b ms ku kv ((b, wcu) ∷ (a, wcv) ∷ []) n → Mirrors setup trusted a b (and_deliver_all ms (range_with_len n 6)) wu4 wv4 [] (n + 1 + 1 + 1 + 1 + 1 + 1)
  world-ends ms n one two m0 =
      let f1 = welcome-two knows accepted accuses setup trusted a b (ms) ku kv wcu ((a, wcv) ∷ []) (n) apart two m0 in
      let m1 : Mirrors setup trusted a b (and_deliver_all ms (range_with_len n 1)) ku wv1 ((a, wcv) ∷ (a, wqv) ∷ []) (n + 1) =
      next-two knows accepted setup trusted a b (ms) ku kv wcu ((a, wcv) ∷ []) (n) _ apart two m0 (step1 (member setup a) (member setup b) x ru rv su sv terms ku kv zu gu zv gv hu hv f1) in
      let f2 = welcome-one knows accepted accuses setup trusted a b (and_deliver_all ms (range_with_len n 1)) ku wv1 wcv ((a, wqv) ∷ []) (n + 1) apart one m1 in
      let m2 : Mirrors setup trusted a b (and_deliver_all ms (range_with_len n 2)) wu1 wv1 ((a, wqv) ∷ (b, wqu) ∷ []) (n + 1 + 1) =
      next-one knows accepted setup trusted a b (and_deliver_all ms (range_with_len n 1)) ku wv1 wcv ((a, wqv) ∷ []) (n + 1) _ apart one m1 (step2 (member setup a) (member setup b) x ru rv su sv terms ku kv zu gu zv gv hu hv f2) in
      let f3 = welcome-one knows accepted accuses setup trusted a b (and_deliver_all ms (range_with_len n 2)) wu1 wv1 wqv ((b, wqu) ∷ []) (n + 1 + 1) apart one m2 in
      let m3 : Mirrors setup trusted a b (and_deliver_all ms (range_with_len n 3)) wu3 wv1 ((b, wqu) ∷ (b, wyu) ∷ []) (n + 1 + 1 + 1) =
      next-one knows accepted setup trusted a b (and_deliver_all ms (range_with_len n 2)) wu1 wv1 wqv ((b, wqu) ∷ []) (n + 1 + 1) _ apart one m2 (step3 (member setup a) (member setup b) x ru rv su sv terms ku kv zu gu zv gv hu hv f3) in
      let f4 = welcome-two knows accepted accuses setup trusted a b (and_deliver_all ms (range_with_len n 3)) wu3 wv1 wqu ((b, wyu) ∷ []) (n + 1 + 1 + 1) apart two m3 in
      let m4 : Mirrors setup trusted a b (and_deliver_all ms (range_with_len n 4)) wu3 wv3 ((b, wyu) ∷ (a, wyv) ∷ []) (n + 1 + 1 + 1 + 1) =
      next-two knows accepted setup trusted a b (and_deliver_all ms (range_with_len n 3)) wu3 wv1 wqu ((b, wyu) ∷ []) (n + 1 + 1 + 1) _ apart two m3 (step4 (member setup a) (member setup b) x ru rv su sv terms ku kv zu gu zv gv hu hv f4) in
      let f5 = welcome-two knows accepted accuses setup trusted a b (and_deliver_all ms (range_with_len n 4)) wu3 wv3 wyu ((a, wyv) ∷ []) (n + 1 + 1 + 1 + 1) apart two m4 in
      let m5 : Mirrors setup trusted a b (and_deliver_all ms (range_with_len n 5)) wu3 wv4 ((a, wyv) ∷ []) (n + 1 + 1 + 1 + 1 + 1) =
      next-two knows accepted setup trusted a b (and_deliver_all ms (range_with_len n 4)) wu3 wv3 wyu ((a, wyv) ∷ []) (n + 1 + 1 + 1 + 1) _ apart two m4 (step5 (member setup a) (member setup b) x ru rv su sv terms ku kv zu gu zv gv hu hv f5) in
      let f6 = welcome-one knows accepted accuses setup trusted a b (and_deliver_all ms (range_with_len n 5)) wu3 wv4 wyv ([]) (n + 1 + 1 + 1 + 1 + 1) apart one m5 in
      let m6 : Mirrors setup trusted a b (and_deliver_all ms (range_with_len n 6)) wu4 wv4 ([]) (n + 1 + 1 + 1 + 1 + 1 + 1) =
      next-one knows accepted setup trusted a b (and_deliver_all ms (range_with_len n 5)) wu3 wv4 wyv ([]) (n + 1 + 1 + 1 + 1 + 1) _ apart one m5 (step6 (member setup a) (member setup b) x ru rv su sv terms ku kv zu gu zv gv hu hv f6) in
      m6

  -- so both have what was agreed, by any logs that they have then
  pub world-traded : KeysOpenWell → (ms : List Move) (n count : ℕ) → Mirrors setup trusted a b ms wu4 wv4 [] n
      → length (promise setup.session.cap terms ru) ≡ count → length (promise setup.session.cap terms rv) ≡ count → (mine theirs : Log)
      → slice_get (after setup ms).logs a ≡ Some mine → slice_get (after setup ms).logs b ≡ Some theirs
      → (HasTraded (member setup a) (known (member setup a) mine) x count rv (briefcase_key (member setup b) x rv) × Holds setup mine (promised_updates setup.session.cap terms rv))
      × (HasTraded (member setup b) (known (member setup b) theirs) x count ru (briefcase_key (member setup a) x ru) × Holds setup theirs (promised_updates setup.session.cap terms ru))
  world-traded opens ms n count m one two mine theirs at bt = (
    (
      first,
      gains opens setup trusted ms m.sides.unforged a b mine theirs one_log two_log x rv (across (member setup a) x ru rv b su) first.d first.heard _
          (ap case_in (subst (λ (k : Knowledge). k.heard kinds.Case x rv ≡ Some wcv) one_knows (case-u (member setup a) (member setup b) x ru rv su sv terms ku kv zu gu zv gv hu hv))),
    ),
    (
      second,
      gains opens setup trusted ms m.sides.unforged b a theirs mine two_log one_log x ru (across (member setup b) x rv ru a sv) second.d second.heard _
          (ap case_in (subst (λ (k : Knowledge). k.heard kinds.Case x ru ≡ Some wcu) two_knows (case-v (member setup a) (member setup b) x ru rv su sv terms ku kv zu gu zv gv hu hv))),
    ),
  )
    where
      one_is : m.sides.mine ≡ mine
      one_is = some-equal _ _ (sym m.sides.one_is.log_is ∙ at)

      two_is : m.sides.theirs ≡ theirs
      two_is = some-equal _ _ (sym m.sides.two_is.log_is ∙ bt)

      one_knows : wu4 ≡ known (member setup a) mine
      one_knows = sym m.sides.one_knows ∙ ap (known (member setup a)) one_is

      two_knows : wv4 ≡ known (member setup b) theirs
      two_knows = sym m.sides.two_knows ∙ ap (known (member setup b)) two_is

      one_log : IsTrustedPeer trusted (after setup ms) a mine
      one_log = record { low = m.sides.one_is.low; trust = m.sides.one_is.trust; log_is = at }

      two_log : IsTrustedPeer trusted (after setup ms) b theirs
      two_log = record { low = m.sides.two_is.low; trust = m.sides.two_is.trust; log_is = bt }

      first : HasTraded (member setup a) (known (member setup a) mine) x count rv (briefcase_key (member setup b) x rv)
      first = subst (λ k. HasTraded (member setup a) k x count rv (briefcase_key (member setup b) x rv)) one_knows (ended-u (member setup a) (member setup b) x ru rv su sv terms ku kv zu gu zv gv hu hv count one two)

      second : HasTraded (member setup b) (known (member setup b) theirs) x count ru (briefcase_key (member setup a) x ru)
      second = subst (λ k. HasTraded (member setup b) k x count ru (briefcase_key (member setup a) x ru)) two_knows (ended-v (member setup a) (member setup b) x ru rv su sv terms ku kv zu gu zv gv hu hv count two one)

  pub world-complete : KeysOpenWell → (ms : List Move) (n count : ℕ) → ku.ticks < last_tick setup.session → kv.ticks < last_tick setup.session
      → Mirrors setup trusted a b ms ku kv ((b, wcu) ∷ (a, wcv) ∷ []) n → length (promise setup.session.cap terms ru) ≡ count → length (promise setup.session.cap terms rv) ≡ count
      → (mine theirs : Log) → slice_get (after setup (and_deliver_all ms (range_with_len n 6))).logs a ≡ Some mine → slice_get (after setup (and_deliver_all ms (range_with_len n 6))).logs b ≡ Some theirs
      → (HasTraded (member setup a) (known (member setup a) mine) x count rv (briefcase_key (member setup b) x rv) × Holds setup mine (promised_updates setup.session.cap terms rv))
      × (HasTraded (member setup b) (known (member setup b) theirs) x count ru (briefcase_key (member setup a) x ru) × Holds setup theirs (promised_updates setup.session.cap terms ru))
  world-complete opens ms n count one two m even uneven mine theirs at bt =
      world-traded opens (and_deliver_all ms (range_with_len n 6)) _ count (world-ends ms n one two m) even uneven mine theirs at bt
