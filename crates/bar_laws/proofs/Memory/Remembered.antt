-- A memory that writes again what was said has exactly the datagrams that were said.
use Rattle.bar_rules.specs.Peer.Agreement.{AgreesWith, IsRecent, IsRepeatable, promised_by}
use Rattle.bar_rules.specs.Peer.Exchanges.{role_of}
use Rattle.bar_rules.specs.Peer.Knowledge.{Knowledge, known, this_round, answer_deadline}
use Rattle.bar_rules.specs.Peer.Log.{Log, first_said}
use Rattle.bar_rules.specs.Peer.Machine.{message_to}
use Rattle.bar_rules.specs.Member.{Member, IsMember}
use Rattle.bar_rules.specs.Peer.Orders.{case_body, key_body}
use Rattle.bar_rules.specs.Peer.Rules.{IsObedient}
use Rattle.bar_rules.specs.Peer.Signing.{signed}
use Rattle.bar_rules.specs.Secrets.{seed_of, commitment_of}
use Rattle.bar_rules.specs.Peer.Terms.{terms_of, terms_by, trade_terms, offer_terms, body_on}
use Rattle.bar_wire.specs.Bodies.{offer_in, history_in, reply_in}
use Rattle.bar_window.specs.Terms.{Terms}
use Rattle.bar_window.specs.declared.exchange.Exchange.{Exchange}
use Rattle.bar_window.specs.declared.exchange.Role.{Role}
use Rattle.bar_window.specs.declared.exchange.Role.TheVariants.{Initiator, Responder}
use Rattle.bar_window.specs.declared.exchange.XKind.{XKind}
use Rattle.bar_window.specs.declared.exchange.XKind.TheVariants.{Balanced, Push}
use Rattle.bar_window.specs.declared.update.UpdateId.{UpdateId}
use Rattle.bar_wire.specs.Datagram.{Datagram, Body, Request, Response, Query, Reply, is_of, part_of}
use Rattle.bar_wire.specs.declared.kind.Kind.TheVariants as kinds
use Rattle.bar_wire.specs.declared.kind.Kind.{Kind}
use Rattle.std.proofs.Common.{◌≡◌, ℕ, ◌+◌, ◌≤◌, List, refl, sym, ap, ◌∙◌, subst, arith}
use Rattle.std.specs.Prelude.{Option, Some, None, is_some, option_map, option_and_then}
use Rattle.std.proofs.lemmas.Bool.{both_ways}
use Rattle.bar_laws.specs.Remembering.{Remembers, SaysAlike}
use Rattle.bar_rules.specs.Peer.Writing.{body_again, written}
use Rattle.bar_laws.specs.Rewriting.{IsRewritten}
use Rattle.bar_laws.proofs.Memory.AgreeOrders.{signed-same, case-same}
use Rattle.bar_laws.proofs.Memory.InLife.{obedient-in-life}
use Rattle.bar_laws.proofs.Logs.{some-equal, first_heard-was, parts-of}
use Rattle.bar_laws.proofs.Memory.Rewritten.{rewritten}

-- what the first knows, with the seats, commitments and blocks of the second
abbrev mixed : Knowledge → Knowledge → Knowledge
mixed one two = record one { block = two.block; revealed = two.revealed; seat = two.seat }

mixed-agrees : (me : Member) (log : Log) (two : Knowledge) → Remembers me (known me log) two → AgreesWith me (known me log) (mixed (known me log) two)
mixed-agrees me log two same = record {
  time = refl;
  table = refl;
  listed = λ round. refl;
  evictions = λ round. refl;
  announced = λ party. refl;
  evidence = λ party. refl;
  blocks = same.blocks;
  heard = λ kind x role r. refl;
  said = λ kind x role r. refl;
  promises = λ x role r. refl;
  commits = same.commits;
  seats = same.seats;
  requests = λ kind round r. refl;
  opens = refl;
  own = λ kind x role d e. (first_heard-was (is_of kind x role) log d e).1;
}

-- ---- the messages

-- what is written again of an exchange is of its round
again-round : (me : Member) (k : Knowledge) (kind : Kind) (x : Exchange) (b : Body) (p : ℕ × XKind × Role) → body_again me k kind x ≡ Some b → part_of b ≡ Some p → p.0 ≡ x.round
again-round me k kind x b p e f = go kind e
  where
    mapped : {A : Type 0} (g : A → Body) (o : Option A) → ((a : A) → part_of (g a) ≡ Some p → p.0 ≡ x.round) → option_map g o ≡ Some b → p.0 ≡ x.round
    mapped g (Some a) known q = let same : g a ≡ b = cc in known a (ap part_of same ∙ f)
    mapped g None known q = cc

    go : (kind : Kind) → body_again me k kind x ≡ Some b → p.0 ≡ x.round
    go kinds.Request q = mapped _ (k.revealed x) (λ a z. sym (parts-of (x.round, Balanced, Initiator) p z).0) q
    go kinds.Query q = mapped _ (option_and_then offer_in (body_on me k kinds.Query x Initiator)) (λ a z. sym (parts-of (x.round, Push, Initiator) p z).0) q
    go kinds.Response q = mapped _ (option_and_then history_in (body_on me k kinds.Response x Responder)) (λ a z. sym (parts-of (x.round, Balanced, Responder) p z).0) q
    go kinds.Reply q = mapped _ (option_and_then reply_in (body_on me k kinds.Reply x Responder)) (λ a z. sym (parts-of (x.round, Push, Responder) p z).0) q
    go kinds.Case q = mapped (case_body me k x) (terms_of me k x) (λ a z. sym (parts-of (x.round, x.kind, role_of me x) p z).0) q
    go kinds.Key q = let same : key_body me x ≡ b = cc in sym (parts-of (x.round, x.kind, role_of me x) p (ap part_of same ∙ f)).0
    go _ q = cc

mapped-self : (o : Option Datagram) → option_map (λ d. d) o ≡ o
mapped-self (Some d) = refl
mapped-self None = refl

-- a CASE that is written again has the terms that are known
promised-one : (me : Member) (k : Knowledge) (x : Exchange) (d : Datagram) → written me k x (body_again me k kinds.Case x) ≡ Some d → promised_by d ≡ option_map (λ t. (t, role_of me x)) (terms_of me k x)
promised-one me k x d e = go (terms_of me k x) refl
  where
    go : (o : Option Terms) → terms_of me k x ≡ o → promised_by d ≡ option_map (λ t. (t, role_of me x)) (terms_of me k x)
    go None f = let none : written me k x (option_map (case_body me k x) (terms_of me k x)) ≡ None = ap (λ o. written me k x (option_map (case_body me k x) o)) f in cc
    go (Some t) f =
        let some : written me k x (option_map (case_body me k x) (terms_of me k x)) ≡ Some (signed me k (message_to me x (case_body me k x t))) = ap (λ o. written me k x (option_map (case_body me k x) o)) f in
        let same : signed me k (message_to me x (case_body me k x t)) ≡ d = cc in
        sym (ap promised_by same) ∙ sym (ap (option_map (λ t. (t, role_of me x))) f)

module _ (me : Member) (log : Log) (two : Knowledge) (h : IsObedient me log) (life : 2 ≤ me.session.shape.life) (same : Remembers me (known me log) two) where
  terms-alike : (x : Exchange) → IsRecent me (known me log) x.round → terms_of me (known me log) x ≡ terms_of me two x
  terms-alike x r = go x.kind
    where
      go : (k : XKind) → terms_by k me (known me log) x ≡ terms_by k me two x
      go Balanced = λ i. trade_terms (same.commits x r i) (same.answers x r i)
      go Push = λ i. offer_terms (same.offers x r i) (same.replies x r i)

  cases-alike : (x : Exchange) → this_round (known me log) ≤ x.round + answer_deadline → option_map (case_body me (known me log) x) (terms_of me (known me log) x) ≡ option_map (case_body me two x) (terms_of me two x)
  cases-alike x r = go (terms_of me (known me log) x) refl ∙ ap (option_map (case_body me two x)) (terms-alike x (omega (arith, r, life)))
    where
      go : (o : Option Terms) → terms_of me (known me log) x ≡ o → option_map (case_body me (known me log) x) (terms_of me (known me log) x) ≡ option_map (case_body me two x) (terms_of me (known me log) x)
      go None e = ap (option_map (case_body me (known me log) x)) e ∙ sym (ap (option_map (case_body me two x)) e)
      go (Some t) e =
          ap (option_map (case_body me (known me log) x)) e
          ∙ ap Some (case-same me log (mixed (known me log) two) (mixed-agrees me log two same) x t (obedient-in-life me log life h) e r)
          ∙ sym (ap (option_map (case_body me two x)) e)

  again-alike : (kind : Kind) (x : Exchange) → IsRepeatable me (known me log) kind x.round → body_again me (known me log) kind x ≡ body_again me two kind x
  again-alike kinds.Request x r = ap (option_map (λ (a : List ℕ × List UpdateId). Request x.round (seed_of me x.round) (commitment_of me.session x a.0 a.1))) (same.commits x r)
  again-alike kinds.Query x r = ap (option_map (λ (q : List UpdateId × List UpdateId). Query x.round (seed_of me x.round) q.0 q.1)) (same.offers x r)
  again-alike kinds.Response x r = ap (option_map (λ us. Response x.round us)) (same.answers x r)
  again-alike kinds.Reply x r = ap (option_map (λ (t : List UpdateId × List UpdateId × ℕ). Reply x.round t.0 t.1 t.2)) (same.replies x r)
  again-alike kinds.Case x r = cases-alike x r
  again-alike _ x r = refl

  recent-by : (kind : Kind) (x : Exchange) → IsRepeatable me (known me log) kind x.round → IsRecent me (known me log) x.round
  recent-by kinds.Case x r = omega (arith, r, life)
  recent-by _ x r = r

  written-alike : (kind : Kind) (x : Exchange) → IsRepeatable me (known me log) kind x.round
      → written me (known me log) x (body_again me (known me log) kind x) ≡ written me two x (body_again me two kind x)
  written-alike kind x r = go (body_again me (known me log) kind x) refl ∙ ap (written me two x) (again-alike kind x r)
    where
      go : (o : Option Body) → body_again me (known me log) kind x ≡ o → written me (known me log) x (body_again me (known me log) kind x) ≡ written me two x (body_again me (known me log) kind x)
      go None e = ap (written me (known me log) x) e ∙ sym (ap (written me two x) e)
      go (Some b) e =
          ap (written me (known me log) x) e
          ∙ ap Some
          (signed-same me (known me log) (mixed (known me log) two) (mixed-agrees me log two same) (message_to me x b)
          (λ p f. subst (λ z. IsRecent me (known me log) z) (sym (again-round me (known me log) kind x b p e f)) (recent-by kind x r)))
          ∙ sym (ap (written me two x) e)

  mine : IsRewritten me (known me log)
  mine = rewritten me log h

  -- both have a mark of the own side, or neither has
  mark : (kind : Kind) (x : Exchange) (role : Role) → IsRecent me (known me log) x.round → role ≡ role_of me x → is_some (first_said (is_of kind x role) log) ≡ is_some (two.said kind x role)
  mark kind x role r e = subst (λ z. is_some (first_said (is_of kind x z) log) ≡ is_some (two.said kind x z)) (sym e) (same.marks kind x r)

  -- what follows from the datagrams of the own side agrees
  by-both : {A : Type 0} (f : Datagram → A) (kind : Kind) (x : Exchange) (role : Role) → IsRecent me (known me log) x.round
      → ((d c : Datagram) → first_said (is_of kind x (role_of me x)) log ≡ Some d → two.said kind x (role_of me x) ≡ Some c → f d ≡ f c)
      → option_map f (first_said (is_of kind x role) log) ≡ option_map f (two.said kind x role)
  by-both f kind x role r both = go (first_said (is_of kind x role) log) (two.said kind x role) refl refl
    where
      go : (o p : Option Datagram) → first_said (is_of kind x role) log ≡ o → two.said kind x role ≡ p → option_map f (first_said (is_of kind x role) log) ≡ option_map f (two.said kind x role)
      go None None e g = ap (option_map f) (e ∙ sym g)
      go (Some d) None e g = absurd (both_ways _ (ap is_some g) (sym (mark kind x role r (mine.own kind x role d e)) ∙ ap is_some e))
      go None (Some c) e g = absurd (both_ways _ (ap is_some e) (mark kind x role r (same.written.own kind x role c g) ∙ ap is_some g))
      go (Some d) (Some c) e g =
          let side : role ≡ role_of me x = mine.own kind x role d e in
          let equal = both d c (subst (λ z. first_said (is_of kind x z) log ≡ Some d) side e) (subst (λ z. two.said kind x z ≡ Some c) side g) in
          ap (option_map f) e ∙ ap Some equal ∙ sym (ap (option_map f) g)

  says-alike : SaysAlike me (known me log) two
  says-alike = record {
    said = λ kind x role r. (let s = by-both (λ d. d) kind x role (recent-by kind x r) (λ d c e g. some-equal d c (sym (mine.same kind x d e) ∙ written-alike kind x r ∙ same.written.same kind x c g)) in sym (mapped-self _) ∙ s ∙ mapped-self _);
    promises = λ x role r.
        by-both promised_by kinds.Case x role r
        (λ d c e g. promised-one me (known me log) x d (mine.same kinds.Case x d e) ∙ ap (option_map (λ t. (t, role_of me x))) (terms-alike x r) ∙ sym (promised-one me two x c (same.written.same kinds.Case x c g)));
  }

pub remembered : (me : Member) → IsMember me → (log : Log) (two : Knowledge) → IsObedient me log → Remembers me (known me log) two → SaysAlike me (known me log) two
remembered me is log two h same = says-alike me log two h is.session.shape.life_low same
