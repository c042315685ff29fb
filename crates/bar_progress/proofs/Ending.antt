-- From its own CASE on, a side of an exchange of either kind: its partner's CASE, KEYREQ and KEY are taken, one after another.
use Rattle.std.proofs.Common.{◌≡◌, ◌∙◌, ℕ, true, false, not, List, length, refl, sym, ap, subst}
use Rattle.std.specs.Prelude.{Option, Some, None, is_some, if◌then◌else◌}
use Rattle.std.proofs.lemmas.Bool.{and_from}
use Rattle.bar_bytes.proofs.Tests.{eqb_refl}
use Rattle.bar_window.specs.declared.exchange.Exchange.{Exchange}
use Rattle.bar_window.specs.declared.exchange.Role.{Role}
use Rattle.bar_window.specs.declared.exchange.Role.TheVariants.{Initiator, Responder}
use Rattle.bar_window.specs.Exchange.{other_role, party_on}
use Rattle.bar_window.specs.Terms.{Terms}
use Rattle.bar_terms.specs.Terms.{promise, promised_junk, promised_updates}
use Rattle.bar_window.proofs.Exchanges.{same_role_refl}
use Rattle.bar_wire.specs.Datagram.{Case, Datagram, Key, KeyReq, exchange_by, is_of}
use Rattle.bar_wire.specs.declared.kind.Kind.{Kind}
use Rattle.bar_wire.specs.declared.kind.Kind.TheVariants as kinds
use Rattle.bar_rules.specs.Member.{Member}
use Rattle.bar_rules.specs.Values.{unsigned}
use Rattle.bar_rules.specs.Peer.Admission.{are_terms, is_admitted}
use Rattle.bar_rules.specs.Peer.Exchanges.{role_of, partner_in}
use Rattle.bar_rules.specs.Peer.Holdings.{case_in}
use Rattle.bar_rules.specs.Peer.Knowledge.{Knowledge, has_heard_of, has_said_of, is_in_time, with_heard, with_said}
use Rattle.bar_rules.specs.Peer.Machine as machine
use Rattle.bar_rules.specs.Peer.Machine.{minds}
use Rattle.bar_rules.specs.Peer.Orders.{AskKey, GiveKey}
use Rattle.bar_rules.specs.Peer.Signing.{signed}
use Rattle.bar_rules.specs.Peer.Terms.{Totals, first_on, promise_size, terms_of, totals}
use Rattle.bar_rules.specs.Runs.{begun, sending}
use Rattle.bar_laws.proofs.Logs.{is_of-own}
use Rattle.bar_progress.specs.Trading.{HasTraded, IsWelcome, take}
use Rattle.bar_progress.proofs.Saying.{admits, key-by, key_as, not-yet, now-first, said_out, same-terms, says, sends-plain, still-first, takes-new}

-- ---- sides

-- A member is on one side of an exchange, and its partner on the other.
pub record Side (me : Member) (x : Exchange) (mine theirs : Role) (partner : ℕ) : Type 0 where
  pub role : role_of me x ≡ mine
  pub other : other_role mine ≡ theirs
  pub back : other_role theirs ≡ mine
  pub over : partner_in me x ≡ partner
  pub own : exchange_by x.round x.kind mine me.party partner ≡ x
  pub named : exchange_by x.round x.kind theirs partner me.party ≡ x

-- what the side says is read from what it said, and what its partner's side says from what it heard
pub own-told : (me : Member) (k : Knowledge) (kind : Kind) (x : Exchange) (mine theirs : Role) (partner : ℕ) → Side me x mine theirs partner → first_on me k kind x mine ≡ k.said kind x mine
own-told me k kind x mine theirs partner s = rw (s.role, same_role_refl mine) refl

pub other-told : (me : Member) (k : Knowledge) (kind : Kind) (x : Exchange) (mine theirs : Role) (partner : ℕ) → Side me x mine theirs partner → first_on me k kind x theirs ≡ k.heard kind x theirs
other-told me k kind x mine theirs partner s = go mine theirs s.role s.other
  where
    go : (m t : Role) → role_of me x ≡ m → other_role m ≡ t → first_on me k kind x t ≡ k.heard kind x t
    go Initiator Responder e f = rw e refl
    go Responder Initiator e f = rw e refl
    go Initiator Initiator e f = cc
    go Responder Responder e f = cc

-- the party on the partner's side is the partner
pub across : (me : Member) (x : Exchange) (mine theirs : Role) (partner : ℕ) → Side me x mine theirs partner → party_on x theirs ≡ partner
across me x mine theirs partner s = ap (party_on x) (sym (ap other_role s.role ∙ s.other)) ∙ s.over

-- It said its CASE with complete terms, has heard nothing that follows them from its partner, with which it trades, and is in time.
pub record HasCased (me : Member) (k : Knowledge) (x : Exchange) (mine theirs : Role) (partner : ℕ) (terms : Terms) (c : Datagram) : Type 0 where
  pub trading : k.is_announced partner ≡ false
  pub answering : is_in_time me.session k kinds.Case x.round ≡ true
  pub keying : is_in_time me.session k kinds.Key x.round ≡ true
  pub terms_are : terms_of me k x ≡ Some terms
  pub said : k.said kinds.Case x mine ≡ Some c
  pub size : promise_size me.session (case_in (Some c)) ≡ length (promise me.session.cap terms mine)
  pub unkeyed : k.said kinds.Key x mine ≡ None
  pub no_case : k.heard kinds.Case x theirs ≡ None
  pub no_request : k.heard kinds.KeyReq x theirs ≡ None
  pub no_key : k.heard kinds.Key x theirs ≡ None

-- ---- what the partner's side sends to it

abbrev pub case_to : Member → Exchange → Role → ℕ → Terms → List ℕ → List ℕ → Datagram
case_to me x theirs partner terms cipher signature = record {
  message = record {
    from = partner;
    to = me.party;
    body = Case (record {
      round = x.round;
      kind = x.kind;
      role = theirs;
      updates = length (promised_updates me.session.cap terms theirs);
      junk = promised_junk terms theirs;
      terms = terms;
      cipher = cipher;
    });
  };
  signature = signature;
}

abbrev pub asking_to : Member → Exchange → Role → ℕ → Datagram
asking_to me x theirs partner = unsigned (record { from = partner; to = me.party; body = KeyReq x.round x.kind theirs })

abbrev pub key_to : Member → Exchange → Role → ℕ → List ℕ → List ℕ → Datagram
key_to me x theirs partner key signature = record {
  message = record { from = partner; to = me.party; body = Key (record { round = x.round; kind = x.kind; role = theirs; key = key }) };
  signature = signature;
}

-- ---- totals

abbrev sizes : Member → Option Datagram → Option Datagram → Option Datagram → Totals
sizes me a b c = record {
  promised = promise_size me.session (case_in a);
  received = promise_size me.session (case_in b);
  opened = if is_some c then promise_size me.session (case_in a) else 0;
}

totals-are : (me : Member) (k : Knowledge) (x : Exchange) (mine theirs : Role) (a b c : Datagram) → role_of me x ≡ mine → other_role mine ≡ theirs
    → k.said kinds.Case x mine ≡ Some a → k.heard kinds.Case x theirs ≡ Some b → k.said kinds.Key x mine ≡ Some c → totals me k x ≡ sizes me (Some a) (Some b) (Some c)
totals-are me k x mine theirs a b c r o e f g =
    ap (λ z. sizes me (k.said kinds.Case x z) (k.heard kinds.Case x (other_role z)) (k.said kinds.Key x z)) r
    ∙ ap (λ z. sizes me (k.said kinds.Case x mine) (k.heard kinds.Case x z) (k.said kinds.Key x mine)) o
    ∙ (λ i. sizes me (e i) (f i) (g i))

-- ---- the steps of the side

module _ (me : Member) (x : Exchange) (mine theirs : Role) (partner : ℕ) (s : Side me x mine theirs partner) (k : Knowledge) (terms : Terms) (c : Datagram)
    (r : HasCased me k x mine theirs partner terms c) (cipher signature : List ℕ) where
  -- the exchange, as the partner's datagrams name it
  abbrev there : Exchange
  there = exchange_by x.round x.kind theirs partner me.party

  abbrev pub its_case : Datagram
  its_case = case_to me x theirs partner terms cipher signature

  abbrev pub k1 : Knowledge
  k1 = with_heard me its_case k

  abbrev pub its_request : Datagram
  its_request = asking_to me x theirs partner

  abbrev pub k2 : Knowledge
  k2 = with_heard me its_request k1

  -- the requests and the key that this side sends
  abbrev pub my_request : Datagram
  my_request = unsigned (record { from = me.party; to = partner; body = KeyReq x.round x.kind mine })

  abbrev pub my_key : Datagram
  my_key = signed me k2 (record { from = me.party; to = partner; body = key_as me x mine })

  abbrev pub k3 : Knowledge
  k3 = with_said me my_key k2

  -- ---- the CASE

  unheard1 : has_heard_of k kinds.Case there theirs ≡ false
  unheard1 = rw s.named (ap is_some r.no_case)

  said1 : has_said_of k kinds.Case there (other_role theirs) ≡ true
  said1 = rw (s.named, s.back) (ap is_some r.said)

  terms1 : are_terms terms (terms_of me k there) ≡ true
  terms1 = rw s.named (ap (are_terms terms) r.terms_are ∙ same-terms terms)

  admitted1 : IsWelcome me k its_case → is_admitted me k its_case ≡ true
  unfolding is_admitted
  admitted1 f =
      admits _ _ _ _ _ (eqb_refl me.party) r.trading f.0 unheard1
      (and_from _ _
      (and_from _ _ (and_from _ _ said1 terms1)
      (and_from _ _ (eqb_refl (length (promised_updates me.session.cap terms theirs))) (eqb_refl (promised_junk terms theirs))))
      r.answering)

  pub takes-case : IsWelcome me k its_case → take me k its_case ≡ sending (begun k1) partner my_request
  takes-case f =
      takes-new me k its_case f.1 (admitted1 f)
      ∙ ap (λ y. machine.perform (minds me) me (begun k1) (AskKey y)) s.named
      ∙ sends-plain me (begun k1) partner _ _ (KeyReq x.round x.kind mine) s.over (ap (λ z. Some (KeyReq x.round x.kind z)) s.role)

  case1 : is_of kinds.Case x theirs its_case.message ≡ true
  case1 = subst (λ y. is_of kinds.Case y theirs its_case.message ≡ true) s.named (is_of-own its_case.message x.round x.kind theirs refl)

  heard1 : k1.heard kinds.Case x theirs ≡ Some its_case
  heard1 = now-first its_case k.heard kinds.Case x theirs case1 r.no_case

  -- ---- the KEYREQ

  unheard2 : has_heard_of k1 kinds.KeyReq there theirs ≡ false
  unheard2 = rw s.named (ap is_some (not-yet its_case k.heard kinds.KeyReq x theirs refl r.no_request))

  said2 : has_said_of k1 kinds.Case there (other_role theirs) ≡ true
  said2 = said1

  heard2 : has_heard_of k1 kinds.Case there theirs ≡ true
  heard2 = ap (λ y. has_heard_of k1 kinds.Case y theirs) s.named ∙ ap is_some heard1

  admitted2 : IsWelcome me k1 its_request → is_admitted me k1 its_request ≡ true
  unfolding is_admitted
  admitted2 f =
      admits _ _ _ _ _ (eqb_refl me.party) r.trading f.0 refl (and_from _ _ (and_from _ _ (and_from _ _ said2 heard2) (ap not unheard2)) r.keying)

  pub takes-request : IsWelcome me k1 its_request → take me k1 its_request ≡ said_out me (begun k2) partner (key_as me x mine)
  takes-request f =
      takes-new me k1 its_request f.1 (admitted2 f)
      ∙ ap (λ y. machine.perform (minds me) me (begun k2) (GiveKey y)) s.named
      ∙ says me (begun k2) kinds.Key x mine partner _ (key_as me x mine) s.role s.over r.unkeyed (key-by me x mine s.role)

  -- ---- the KEY

  module _ (key seal : List ℕ) where
    abbrev pub its_key : Datagram
    its_key = key_to me x theirs partner key seal

    abbrev pub k4 : Knowledge
    k4 = with_heard me its_key k3

    said3 : k3.said kinds.Case x mine ≡ Some c
    said3 = still-first my_key c k2.said kinds.Case x mine r.said

    heard3 : k3.heard kinds.Case x theirs ≡ Some its_case
    heard3 = still-first its_request its_case k1.heard kinds.Case x theirs heard1

    unheard3 : k3.heard kinds.Key x theirs ≡ None
    unheard3 = not-yet its_request k1.heard kinds.Key x theirs refl (not-yet its_case k.heard kinds.Key x theirs refl r.no_key)

    admitted3 : IsWelcome me k3 its_key → is_admitted me k3 its_key ≡ true
    unfolding is_admitted
    admitted3 f =
        let unheard : has_heard_of k3 kinds.Key there theirs ≡ false = rw s.named (ap is_some unheard3) in
        let said : has_said_of k3 kinds.Case there (other_role theirs) ≡ true = rw (s.named, s.back) (ap is_some said3) in
        let heard : has_heard_of k3 kinds.Case there theirs ≡ true =
        ap (λ y. has_heard_of k3 kinds.Case y theirs) s.named ∙ ap is_some heard3 in
        admits _ _ _ _ _ (eqb_refl me.party) r.trading f.0 unheard (and_from _ _ (and_from _ _ said heard) r.keying)

    pub takes-key : IsWelcome me k3 its_key → take me k3 its_key ≡ begun k4
    takes-key f = takes-new me k3 its_key f.1 (admitted3 f)

    key3 : is_of kinds.Key x theirs its_key.message ≡ true
    key3 = subst (λ y. is_of kinds.Key y theirs its_key.message ≡ true) s.named (is_of-own its_key.message x.round x.kind theirs refl)

    own3 : is_of kinds.Key x mine my_key.message ≡ true
    own3 = subst (λ y. is_of kinds.Key y mine my_key.message ≡ true) s.own (is_of-own my_key.message x.round x.kind mine refl)

    -- ---- the end

    pub case-stays : k4.heard kinds.Case x theirs ≡ Some its_case
    case-stays = still-first its_key its_case k3.heard kinds.Case x theirs heard3

    pub has-traded : (count : ℕ) → length (promise me.session.cap terms mine) ≡ count → length (promise me.session.cap terms theirs) ≡ count
        → HasTraded me k4 x count theirs key
    has-traded count one two = record {
      counts =
          totals-are me k4 x mine theirs c its_case my_key s.role s.other said3 case-stays (now-first my_key k2.said kinds.Key x mine own3 r.unkeyed)
          ∙ (λ i. record { promised = (r.size ∙ one) i; received = two i; opened = (r.size ∙ one) i });
      d = its_key;
      heard = now-first its_key k3.heard kinds.Key x theirs key3 unheard3;
      opens = refl;
    }
