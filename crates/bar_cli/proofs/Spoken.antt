-- What a peer sent over its link, by how far it got.
use Rattle.std.proofs.Common.{◌≡◌, ◌≤◌, ◌∙◌, ◌==◌, ℕ, List, [], ◌∷◌, ◌++◌, length, refl, sym, ap, subst, inl, inr, append-nil, append_assoc, arith}
use Rattle.std.proofs.lemmas.Bool.{cases_Bool, eqb-true}
use Rattle.bar_outside.specs.Plan.{Outside}
use Rattle.bar_seeds.specs.declared.secrets.Secrets.{Secrets}
use Rattle.bar_session.specs.SessionData.{SessionData}
use Rattle.bar_wire.specs.Inputs.{Input}
use Rattle.bar_core.specs.Rules.{Rules, Send}
use Rattle.bar_core.specs.Runs.{sends_over}
use Rattle.bar_core.proofs.OverLists.{sends_over-append}
use Rattle.bar_rules.specs.Member.{Member}
use Rattle.bar_rules.specs.Members.{member_by}
use Rattle.bar_rules.specs.Peer.Run.{sends_of}
use Rattle.bar_laws.specs.Always.{OfEachPeer}
use Rattle.bar_peer.specs.Code.Runs.{RulesSend}
use Rattle.bar_node.specs.Runs.{taken_of}
use Rattle.bar_node.specs.Stops.{IsFront}
use Rattle.bar_node.proofs.Doing.{none-more}
use Rattle.bar_node.proofs.Yields.{front-behind, front-same}
use Rattle.bar_party_commands.specs.PeerPlan.{PeerNames, rules_by}
use Rattle.bar_party_commands.specs.PeerStands.{PeerDone, PeerStands, PeerStopped}
use Rattle.bar_party_commands.specs.Stands.{packets}
use Rattle.bar_cli.specs.Headline.{KeepsTheRules, PeerHeadline, PeerSpoke}
use Rattle.bar_cli.proofs.EndLemmas.{differ}
use Rattle.bar_session_files.proofs.Accepted.{AreHeld, AreInRange}
use Rattle.bar_cli.proofs.MemberLemmas.{at-each_moment}

-- ---- everything of the inputs before the last begun one was sent

-- two equal lists with a last element have the same prefix before it
pub same-front : (xs ys : List Input) (x y : Input) → xs ++ x ∷ [] ≡ ys ++ y ∷ [] → xs ≡ ys
same-front [] [] x y e = refl
same-front [] (b ∷ ys) x y e = let f : [] ≡ ys ++ y ∷ [] = cc in absurd (none-more ys y [] f)
same-front (a ∷ xs) [] x y e = let f : [] ≡ xs ++ x ∷ [] = cc in absurd (none-more xs x [] f)
same-front (a ∷ xs) (b ∷ ys) x y e =
    let f : a ≡ b = cc in
    let rest : xs ++ x ∷ [] ≡ ys ++ y ∷ [] = cc in
    ap (λ v. v ∷ xs) f ∙ ap (λ vs. b ∷ vs) (same-front xs ys x y rest)

-- everything that the inputs before the last begun one send was sent, whatever prefix `more` of the last one's sends was sent
earlier-sent : (r : Rules) (whole last : List Input) (more : List Send) → length last ≤ 1 → (earlier : List Input) (x : Input) →
    whole ++ last ≡ earlier ++ x ∷ [] → IsFront (sends_over r [] earlier) (sends_over r [] whole ++ more)
earlier-sent r whole [] more few earlier x e =
    let is : whole ≡ earlier ++ x ∷ [] = sym (append-nil whole) ∙ e in
    record {
      rest = sends_over r earlier (x ∷ []) ++ more;
      is =
          ap (λ xs. sends_over r [] xs ++ more) is
          ∙ ap (λ sent. sent ++ more) (sends_over-append r [] earlier (x ∷ []))
          ∙ append_assoc (sends_over r [] earlier) (sends_over r earlier (x ∷ [])) more;
    }
earlier-sent r whole (y ∷ []) more few earlier x e =
    record { rest = more; is = ap (λ xs. sends_over r [] xs ++ more) (same-front whole earlier y x e) }
earlier-sent r whole (y ∷ z ∷ others) more few earlier x e = absurd (omega arith)

-- ---- by how far it got

module _ (held : AreHeld) (ranged : AreInRange) (keeps : OfEachPeer KeepsTheRules) (sends : RulesSend) (names : PeerNames)
    (old new : Outside) (status : ℕ) where
  -- the run completed
  spoke-done : PeerDone names old new → PeerSpoke names old new status
  spoke-done d =
      let s : SessionData = d.session in
      let k : Secrets = d.secrets in
      let all : List Input = taken_of (rules_by s k) d.given in
      record {
        session = s;
        secrets = k;
        is_of = d.is_of;
        given = d.given;
        taken = d.taken;
        inputs = all;
        later = [];
        place = sym (append-nil all);
        sent = packets s (sends_of (member_by s k) all);
        sends = front-same (packets s (sends_of (member_by s k) all));
        fewest = λ earlier x e.
            subst (λ xs. IsFront xs (packets s (sends_of (member_by s k) all))) (sends (member_by s k) earlier)
            (subst (IsFront (sends_over (rules_by s k) [] earlier))
            (append-nil (sends_over (rules_by s k) [] all) ∙ sends (member_by s k) all)
            (earlier-sent (rules_by s k) all [] [] (omega arith) earlier x (append-nil all ∙ e)));
        sent_is = d.run.sent;
        most = omega arith;
        whole = λ zero. (refl, refl);
        kept = at-each_moment held ranged KeepsTheRules keeps names old.files.content s k d.is_of.accepted all;
      }

  -- the run was stopped after its link was bound
  spoke-stopped : (status ≡ 0 → ⊥) → PeerStopped names old new → PeerSpoke names old new status
  spoke-stopped other p =
      let s : SessionData = p.session in
      let k : Secrets = p.secrets in
      let r : Rules = rules_by s k in
      let me : Member = member_by s k in
      let run = p.run in
      let cut = run.cut in
      record {
        session = s;
        secrets = k;
        is_of = p.is_of;
        given = p.given;
        taken = p.taken;
        inputs = cut.whole ++ cut.last;
        later = cut.left;
        place = cut.is ∙ sym (append_assoc cut.whole cut.last cut.left);
        sent = sends_over r [] cut.whole ++ run.sent;
        sends = subst (IsFront (sends_over r [] cut.whole ++ run.sent))
            (sym (sends_over-append r [] cut.whole cut.last) ∙ sends me (cut.whole ++ cut.last))
            (front-behind (sends_over r [] cut.whole) run.sent (sends_over r cut.whole cut.last) run.sent_front);
        fewest = λ earlier x e.
            subst (λ xs. IsFront xs (sends_over r [] cut.whole ++ run.sent)) (sends me earlier)
            (earlier-sent r cut.whole cut.last run.sent cut.one earlier x e);
        sent_is = run.sent_is;
        most = cut.most;
        whole = λ zero. absurd (other zero);
        kept = at-each_moment held ranged KeepsTheRules keeps names old.files.content s k p.is_of.accepted (taken_of r p.given);
      }

  pub peer-headline : (status ≡ 0 → PeerDone names old new) → PeerStands names old new → PeerHeadline names old new status
  peer-headline done stands =
      elim (cases_Bool (status == 0)) [
        | inl zero ↦ inr (spoke-done (done (eqb-true status 0 zero)))
        | inr other ↦ elim stands [
          | inl same ↦ inl (inl same, differ status 0 other)
          | inr two ↦ elim two [
            | inl begun ↦ inl (inr begun, differ status 0 other)
            | inr stopped ↦ inr (spoke-stopped (differ status 0 other) stopped)
          ]
        ]
      ]
