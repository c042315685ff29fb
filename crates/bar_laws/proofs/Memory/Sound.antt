-- How the parts of what a log represents are related.
use Rattle.bar_wire.specs.Bodies.{is_manifest_of}
use Rattle.bar_wire.specs.declared.kind.Kind.TheVariants as kinds
use Rattle.bar_wire.specs.Datagram.{Datagram, Body, Manifest, Briefcase, is_of}
use Rattle.bar_window.specs.Exchange.{party_on, other_role}
use Rattle.bar_window.specs.Terms.{Terms}
use Rattle.bar_window.specs.declared.exchange.Exchange.{Exchange}
use Rattle.bar_window.specs.declared.exchange.Role.{Role}
use Rattle.bar_window.proofs.Exchanges.{other-other}
use Rattle.bar_terms.specs.Terms.{can_promise, promised_updates}
use Rattle.bar_rules.specs.Member.{Member}
use Rattle.bar_rules.specs.Values.{counts_ok}
use Rattle.bar_rules.specs.Peer.Admission.{is_row_met}
use Rattle.bar_rules.specs.Peer.Exchanges.{role_of}
use Rattle.bar_rules.specs.Peer.Holdings.{case_in, case_heard_from, is_held}
use Rattle.bar_rules.specs.Peer.Knowledge.{known}
use Rattle.bar_rules.specs.Peer.Log.{Log, Heard, round_now, manifest, first_heard, first_said, has_said}
use Rattle.bar_rules.specs.Peer.Rules.{IsObedient}
use Rattle.bar_rules.specs.Peer.Terms.{terms_of}
use Rattle.std.proofs.Common.{◌≡◌, ℕ, ◌+◌, ◌≤◌, true, refl, sym, ap, ◌∙◌, subst, arith}
use Rattle.std.specs.Prelude.{Option, Some, None, is_some}
use Rattle.std.proofs.lemmas.Bool.{and_parts, both_ways, eqb-true, leb-true}
use Rattle.std.proofs.lemmas.List.Sums.{AllPass-from_list_all}
use Rattle.bar_laws.specs.Soundness.{CanGive, IsTheirs, LogIsSound}
use Rattle.bar_laws.proofs.Logs.{allowed-at, later-entry, round-later, first_heard-was, first_said-was, said-rule, some-is, some-same, said-case, terms_promise, was-heard-fits, admitted-row, admitted-signed, sender-on, is_of-part, was-heard-own}
use Rattle.bar_laws.proofs.Judging.{promise-held}
use Rattle.bar_laws.proofs.Runs.{seat-heard, seat-few, heard-case, HeardCase}

-- ---- the rounds of manifests

manifest-row : (me : Member) (before : Log) (from to round : ℕ) (b : Body) → is_manifest_of round b ≡ true → is_row_met me (known me before) from to b ≡ true → round ≤ round_now before + 1
manifest-row me before from to round (Manifest q digests) e row = subst (λ r. r ≤ round_now before + 1) (eqb-true q round e) (leb-true _ _ (and_parts _ _ row).0)
manifest-row me before from to round b e row = absurd (both_ways (is_manifest_of round b) refl e)

-- an admitted manifest is of a round up to the next
manifest-near : (me : Member) (log : Log) (round : ℕ) → IsObedient me log → is_some (manifest log round) ≡ true → round ≤ round_now log + 1
manifest-near me log round h e =
    let f = some-is (manifest log round) e in
    let was = first_heard-was (λ m. is_manifest_of round m.body) log f.0 f.1 in
    let al = allowed-at me log was.0.before (Heard f.0) was.0.place h in
    let near : round ≤ round_now was.0.before + 1 =
    manifest-row me was.0.before f.0.message.from f.0.message.to round f.0.message.body was.1 (admitted-row me was.0.before f.0 al.0.0)
    in
    let later : round_now was.0.before ≤ round_now log = round-later log was.0.before (later-entry log was.0.before (Heard f.0) was.0.place) in
    omega (arith, near, later)

-- ---- what follows from a CASE

-- a member that said a CASE of its side of an exchange is on this side
case-party : (me : Member) (log : Log) (x : Exchange) → IsObedient me log → has_said (is_of kinds.Case x (role_of me x)) log ≡ true → party_on x (role_of me x) ≡ me.party
case-party me log x h e =
    let f = some-is (first_said (is_of kinds.Case x (role_of me x)) log) e in
    let was = first_said-was (is_of kinds.Case x (role_of me x)) log f.0 f.1 in
    sym (sender-on kinds.Case x (role_of me x) f.0.message was.1) ∙ (said-rule me log f.0 was.0 h).rule.mine

can-give : (me : Member) (log : Log) (x : Exchange) (t : Terms) → IsObedient me log → has_said (is_of kinds.Case x (role_of me x)) log ≡ true → terms_of me (known me log) x ≡ Some t → CanGive me (known me log) x t
can-give me log x t h e f =
    let c = said-case me log x (role_of me x) h e in
    let same : c.0.terms ≡ t = some-same (terms_of me (known me log) x) c.0.terms t c.2.terms f in
    record {
      valid = subst (λ z. can_promise me.session.cap z ≡ true) same (terms_promise me.session.cap me.session.shape.life x.round c.2.valid.0 c.0.terms c.2.valid.1);
      held =
          AllPass-from_list_all (is_held me.session log) (promised_updates me.session.cap t (role_of me x))
          (promise-held me log x (role_of me x) t h (case-party me log x h e) refl f);
    }

-- ---- what a CASE of the other side contains

-- if a briefcase was found, a CASE was heard
pub found-heard : (o : Option Datagram) (c : Briefcase) → case_in o ≡ Some c → is_some o ≡ true
found-heard (Some d) c e = refl
found-heard None c e = absurd (cc)

is-theirs : (me : Member) (log : Log) (x : Exchange) (c : Briefcase) → IsObedient me log → case_heard_from log x (other_role (role_of me x)) ≡ Some c → IsTheirs me (known me log) x c
is-theirs me log x c h e =
    let role : Role = other_role (role_of me x) in
    let w : HeardCase me log x role = heard-case me log x role h (found-heard (first_heard (is_of kinds.Case x role) log) c e) in
    let same : w.case ≡ c = some-same (case_heard_from log x role) w.case c w.found e in
    record {
      side = ap (λ z. z.role) (sym same) ∙ w.side;
      said = subst (λ r. has_said (is_of kinds.Case x r) log ≡ true) (other-other (role_of me x)) w.said;
      terms = w.terms ∙ ap (λ z. Some z.terms) same;
      counts = subst (λ z. counts_ok me.session z ≡ true) same w.counts;
    }

-- ---- all of it

pub sound : LogIsSound
sound me log h = record {
  spelled = λ kind x role d e. was-heard-fits me log d (first_heard-was (is_of kind x role) log d e).0 h;
  heard = λ kind x role d e. (first_heard-was (is_of kind x role) log d e).1;
  accepted = λ kind x role d e.
      let was = first_heard-was (is_of kind x role) log d e in
      admitted-signed me was.0.before d (allowed-at me log was.0.before (Heard d) was.0.place h).0.0;
  received = λ kind x role d e.
      let was = first_heard-was (is_of kind x role) log d e in
      (was-heard-own me log d (x.round, x.kind, role) was.0 h (is_of-part kind x role d.message was.1)).to;
  said = λ kind x role d e. (first_said-was (is_of kind x role) log d e).1;
  manifests = λ round d e. (first_heard-was (λ m. is_manifest_of round m.body) log d e).1;
  near = λ round e. manifest-near me log round h e;
  seated = λ x e. seat-heard log x e;
  seats = λ x n e. seat-few me log x n h e;
  cases = λ x t e f. can-give me log x t h e f;
  theirs = λ x c e. is-theirs me log x c h e;
}
