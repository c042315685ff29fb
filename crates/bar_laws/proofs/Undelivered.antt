-- A CASE between two trusted peers that hasn't arrived is sent again.
use Rattle.bar_wire.specs.Datagram.{Datagram, is_of}
use Rattle.bar_wire.specs.declared.kind.Kind.TheVariants as kinds
use Rattle.bar_window.specs.Exchange.{other_role, party_on}
use Rattle.bar_window.specs.declared.exchange.Exchange.{Exchange}
use Rattle.bar_window.specs.declared.exchange.Role.{Role}
use Rattle.bar_window.specs.declared.exchange.Role.TheVariants.{Initiator, Responder}
use Rattle.bar_window.proofs.Exchanges.{other-other}
use Rattle.bar_rules.specs.Member.{Member}
use Rattle.bar_rules.specs.Peer.Exchanges.{role_of, partner_in}
use Rattle.bar_rules.specs.Peer.Holdings.{case_heard_from}
use Rattle.bar_rules.specs.Peer.Knowledge.{known}
use Rattle.bar_rules.specs.Peer.Log.{Log, Ticked, Heard, first_heard, first_said, has_heard, has_said, round_now}
use Rattle.bar_rules.specs.Peer.Rules.{IsObedient}
use Rattle.bar_rules.specs.Peer.Run.{log_after, sends_of}
use Rattle.bar_rules.specs.World.World.{Move, Setup, member}
use Rattle.bar_wire.specs.Bodies.{briefcase_in}
use Rattle.std.proofs.Common.{◌≡◌, ℕ, ◌≤◌, ◌+◌, Bool, true, false, List, [], ◌∷◌, refl, sym, ap, ◌∙◌, subst, eqb, cond}
use Rattle.std.specs.Prelude.{Option, Some, None, is_some, option_and_then}
use Rattle.std.proofs.lemmas.Bool.{and_from, both_ways, eqb-true, eq-eqb, ne_eqb, le-leb, not_from_false, false_from_ne_true}
use Rattle.std.proofs.lemmas.List.Elements.{All-contains, All-from_recursion}
use Rattle.bar_bytes.proofs.Options.{or-none}
use Rattle.std.specs.Option.{option_or}
use Rattle.bar_laws.specs.Again.{is_waiting, IsMissing, MissingAreSaidAgain}
use Rattle.bar_laws.specs.OwnRuns.{inputs_of}
use Rattle.bar_laws.specs.Parties.{ForgesNothing, IsTrustedPeer, after}
use Rattle.bar_laws.proofs.Logs.{some-is, some-equal, contains-entry, first_heard-was, first_said-was, said-found, saying, sign-elsewhere, receiver-on, sender-on, both-at-key, was-said}
use Rattle.bar_laws.proofs.Judging.{signed-said}
use Rattle.bar_laws.proofs.Runs.{run-obedient, key-signed}
use Rattle.bar_laws.proofs.Repeating.{IsCalled, run-called, says-cases-again}
use Rattle.bar_laws.proofs.Unannounced.{nobody-announced}
use Rattle.bar_laws.proofs.Worlds.{sound-after, cast-member, peers-run, heard-said}

-- a party's log is that of its own run
log-is : (setup : Setup) (trusted : ℕ → Bool) (moves : List Move) (p : ℕ) (log : Log) → ForgesNothing setup trusted moves → IsTrustedPeer trusted (after setup moves) p log
    → log ≡ log_after (member setup p) [] (inputs_of setup moves p)
log-is setup trusted moves p log h t =
    some-equal log (log_after (member setup p) [] (inputs_of setup moves p))
    (sym t.log_is ∙ (peers-run setup moves h.setup_is p t.low ((sound-after setup trusted moves h).peers p log t.log_is)).log)

-- the partner of a member is on the other side, if it is another party
partner-role : (setup : Setup) (peer : ℕ) (x : Exchange) → (partner_in (member setup peer) x ≡ peer → ⊥) → role_of (member setup (partner_in (member setup peer) x)) x ≡ other_role (role_of (member setup peer) x)
partner-role setup peer x other = go (eqb x.initiator peer) refl
  where
    go : (b : Bool) → eqb x.initiator peer ≡ b → role_of (member setup (party_on x (other_role (cond b Initiator Responder)))) x ≡ other_role (cond b Initiator Responder)
    go true e = rw (ne_eqb x.initiator x.responder (λ same. other (ap (λ b. party_on x (other_role (cond b Initiator Responder))) e ∙ sym same ∙ eqb-true x.initiator peer e))) refl
    go false e = rw (eq-eqb x.initiator x.initiator refl) refl

module _ (setup : Setup) (trusted : ℕ → Bool) (moves : List Move) (h : ForgesNothing setup trusted moves) (peer : ℕ) (log : Log) (x : Exchange) (d : Datagram) (w : IsMissing setup trusted moves peer log x d) where
  abbrev me : Member
  me = member setup peer

  abbrev other : ℕ
  other = partner_in (member setup peer) x

  own-run : log ≡ log_after me [] (inputs_of setup moves peer)
  own-run = log-is setup trusted moves peer log h w.this

  their-run : w.theirs ≡ log_after (member setup other) [] (inputs_of setup moves other)
  their-run = log-is setup trusted moves other w.theirs h w.partner

  own-rules : IsObedient me log
  own-rules = subst (λ l. IsObedient me l) (sym own-run) (run-obedient me [] (inputs_of setup moves peer) tt)

  their-rules : IsObedient (member setup other) w.theirs
  their-rules = subst (λ l. IsObedient (member setup other) l) (sym their-run) (run-obedient (member setup other) [] (inputs_of setup moves other) tt)

  -- the CASE went to another party
  another : other ≡ peer → ⊥
  another same =
      let was = first_said-was (is_of kinds.Case x (role_of me x)) log d w.said in
      let s = saying me log d kinds.Case x (role_of me x) own-rules was.0 was.1 in
      sign-elsewhere me s.was.before d.message s.obedient s.sign (receiver-on kinds.Case x (role_of me x) d.message was.1 ∙ same)

  -- an admitted KEYREQ from the partner shows that the partner has the CASE
  not-asked : has_heard (is_of kinds.KeyReq x (other_role (role_of me x))) log ≡ true → ⊥
  not-asked e =
      let f = some-is (first_heard (is_of kinds.KeyReq x (other_role (role_of me x))) log) e in
      let was = first_heard-was (is_of kinds.KeyReq x (other_role (role_of me x))) log f.0 f.1 in
      let asked = w.asked f.0 (contains-entry log was.0.before (Heard f.0) was.0.place) was.1 in
      let run = run-called (member setup other) [] 1 (inputs_of setup moves other) tt (λ y g. cc) in
      let called = All-contains (λ (s : ℕ × ℕ × Datagram). IsCalled (member setup other) (log_after (member setup other) [] (inputs_of setup moves other)) (s.1, s.2))
      (sends_of (member setup other) (inputs_of setup moves other)) asked.0 (All-from_recursion _ (sends_of (member setup other) (inputs_of setup moves other)) run.1) asked.1 in
      let side : role_of (member setup other) x ≡ other_role (role_of me x) = partner-role setup peer x another in
      let of : is_of kinds.KeyReq x (role_of (member setup other) x) asked.0.2.message ≡ true =
      subst (λ r. is_of kinds.KeyReq x r asked.0.2.message ≡ true) (sym side) (subst (λ (z : Datagram). is_of kinds.KeyReq x (other_role (role_of me x)) z.message ≡ true) (sym asked.2) was.1)
      in
      let has : has_heard (is_of kinds.Case x (role_of me x)) (log_after (member setup other) [] (inputs_of setup moves other)) ≡ true =
      subst (λ r. has_heard (is_of kinds.Case x r) (log_after (member setup other) [] (inputs_of setup moves other)) ≡ true) (ap other_role side ∙ other-other (role_of me x)) (called x of)
      in
      both_ways (has_heard (is_of kinds.Case x (role_of me x)) w.theirs) w.missing (subst (λ l. has_heard (is_of kinds.Case x (role_of me x)) l ≡ true) (sym their-run) has)

  -- hence this peer has said no KEY
  no-key-said : has_said (is_of kinds.Key x (role_of me x)) log ≡ false
  no-key-said =
      false_from_ne_true (has_said (is_of kinds.Key x (role_of me x)) log)
      (λ e. not-asked
      (subst (λ l. has_heard (is_of kinds.KeyReq x (other_role (role_of me x))) l ≡ true) (sym own-run)
      ((run-called me [] 1 (inputs_of setup moves peer) tt (λ y g. cc)).0 x (subst (λ l. has_said (is_of kinds.Key x (role_of me x)) l ≡ true) own-run e))))

  -- a KEY from the partner would show the same
  case-found : (o : Option Datagram) → is_some (option_and_then (λ (c : Datagram). briefcase_in c.message.body) o) ≡ true → is_some o ≡ true
  case-found (Some c) e = refl
  case-found None e = cc

  no-key-heard : has_heard (is_of kinds.Key x (other_role (role_of me x))) log ≡ false
  no-key-heard = false_from_ne_true (has_heard (is_of kinds.Key x (other_role (role_of me x))) log) heard
    where
      heard : has_heard (is_of kinds.Key x (other_role (role_of me x))) log ≡ true → ⊥
      heard e =
          let theirs : Role = other_role (role_of me x) in
          let f = some-is (first_heard (is_of kinds.Key x theirs) log) e in
          let was = first_heard-was (is_of kinds.Key x theirs) log f.0 f.1 in
          let said = heard-said setup trusted moves h peer other log w.theirs f.0 w.this.low w.this.log_is (record { trust = w.partner.trust; log_is = w.partner.log_is }) (contains-entry log was.0.before (Heard f.0) was.0.place)
          (key-signed x theirs f.0.message was.1) (sender-on kinds.Key x theirs f.0.message was.1) in
          let key : has_said (is_of kinds.Key x theirs) w.theirs ≡ true = said-found (is_of kinds.Key x theirs) w.theirs f.0 (was-said w.theirs f.0 (signed-said w.theirs f.0 said)) was.1 in
          let both = both-at-key (member setup other) w.theirs x theirs their-rules key in
          let found : is_some (case_heard_from w.theirs x (role_of me x)) ≡ true = subst (λ r. is_some (case_heard_from w.theirs x r) ≡ true) (other-other (role_of me x)) (ap is_some both.heard) in
          both_ways (has_heard (is_of kinds.Case x (role_of me x)) w.theirs) w.missing (case-found (first_heard (is_of kinds.Case x (role_of me x)) w.theirs) found)

  still-none : (o : Option Datagram) → is_some o ≡ false → is_some (option_or o None) ≡ false
  still-none o e = ap is_some (or-none o) ∙ e

  waits : round_now (Ticked ∷ log) ≤ x.round + 2 → is_waiting me (known me (Ticked ∷ log)) x ≡ true
  waits soon =
      and_from _ _
      (and_from _ _ (le-leb (round_now (Ticked ∷ log)) (x.round + 2) soon) (not_from_false _ (still-none (first_said (is_of kinds.Key x (role_of me x)) log) no-key-said)))
      (not_from_false _ (still-none (first_heard (is_of kinds.Key x (other_role (role_of me x))) log) no-key-heard))

pub missing-again : MissingAreSaidAgain
missing-again setup trusted moves h peer log x d w third early soon =
    (says-cases-again (member setup peer) log (cast-member setup peer h.setup_is w.this.low ((sound-after setup trusted moves h).peers peer log w.this.log_is)) (own-rules setup trusted moves h peer log x d w)).said x d
    (record { third = third; in_time = early; said = w.said; present = nobody-announced setup trusted moves h peer (partner_in (member setup peer) x) log w.theirs w.this.low w.this.log_is w.partner })
    (waits setup trusted moves h peer log x d w soon)
