-- A key between two trusted peers opens well.
use Rattle.bar_wire.specs.Bodies.{briefcase_in}
use Rattle.bar_wire.specs.declared.kind.Kind.TheVariants as kinds
use Rattle.bar_rules.specs.Peer.Holdings.{block_of, block_in, is_held, case_heard_from}
use Rattle.bar_rules.specs.Peer.Log.{Log, Heard, table, round_now, first_heard, has_heard}
use Rattle.bar_rules.specs.Member.{Member, is_alive}
use Rattle.bar_rules.specs.Peer.Rules.{IsObedient, Allows}
use Rattle.bar_rules.specs.Values.{opening_of, is_good}
use Rattle.bar_rules.specs.World.World.{World, member, Setup}
use Rattle.bar_case.specs.Opened.{is_bad}
use Rattle.bar_terms.specs.Table.{Agrees}
use Rattle.bar_terms.specs.Terms.{promised_updates}
use Rattle.bar_window.specs.Exchange.{same_exchange, same_role}
use Rattle.bar_window.specs.declared.exchange.Exchange.{Exchange}
use Rattle.bar_window.specs.declared.update.UpdateId.{UpdateId}
use Rattle.bar_window.proofs.Exchanges.{same_role_refl, same_exchange_refl}
use Rattle.bar_wire.specs.Datagram.{Datagram, Key, Briefcase, KeyGiven, is_signed, is_of, exchange_by}
use Rattle.bar_laws.specs.Parties.{OpensWell}
use Rattle.std.proofs.Common.{◌≡◌, ◌∙◌, ℕ, Bool, true, false, [], ◌∷◌, ◌++◌, inr, refl, sym, ap, subst, eqb, ◌+◌, ◌&&◌}
use Rattle.std.specs.Prelude.{Some, option_and_then, slice_get, nat_le, Contains}
use Rattle.std.proofs.lemmas.Bool.{and_from, eq-eqb}
use Rattle.bar_laws.specs.Growing.{IsLater}
use Rattle.bar_laws.proofs.Logs.{IsEntry, allowed-at, later-entry, WasHeard, first_heard-was, some-is, table-later, SaidIn, sender-on, receiver-on, party-on, party-over}
use Rattle.bar_laws.proofs.Runs.{HeardIn, heard-in}
use Rattle.bar_laws.proofs.Judging.{HeardBriefcase, heard-briefcase, key-row, heard-signed, signed-said, never-opens_bad, good-opening, has-block, or-second}
use Rattle.bar_laws.proofs.Worlds.SoundWorlds.{IsSound}
use Rattle.bar_laws.proofs.Worlds.Evictions.{list-is, agrees-with-stream}

-- what a trusted party's log has admitted from a trusted party was said by that party
said-by : (setup : Setup) (trusted : ℕ → Bool) (w : World) (p q : ℕ) (mine theirs : Log) (d : Datagram) → IsSound setup trusted w → trusted q ≡ true
    → slice_get w.logs p ≡ Some mine → slice_get w.logs q ≡ Some theirs → HeardIn mine d → (before : Log) × Allows (member setup p) before (Heard d)
    → is_signed d.message.body ≡ true → d.message.from ≡ q → (e : Datagram) × SaidIn theirs e × (e.message ≡ d.message)
said-by setup trusted w p q mine theirs d sound trust atp atq heard al signed from = (
  d,
  signed-said theirs d
      (sound.heard p mine d atp heard d theirs al.1.1 signed (subst (λ z. trusted z ≡ true) (sym from) trust) (heard-signed (member setup p) al.0 d al.1.0 signed) (subst (λ z. slice_get w.logs z ≡ Some theirs) (sym from) atq)),
  refl,
)

-- a key whose opening is good adds each promised update that is alive
held-by-key : (me : Member) (before : Log) (d : Datagram) (k : KeyGiven) (c : Briefcase) (u : UpdateId) → d.message.body ≡ Key k
    → case_heard_from before (exchange_by k.round k.kind k.role d.message.from d.message.to) k.role ≡ Some c
    → is_good (opening_of me.session (table before) (exchange_by k.round k.kind k.role d.message.from d.message.to) c k.key) ≡ true
    → Contains (promised_updates me.session.cap c.terms c.role) u → is_alive me.session u.round (round_now before) ≡ true → is_held me.session (Heard d ∷ before) u ≡ true
held-by-key me before d k c u body found good has alive =
    or-second (block_of me.session before u) (block_in me.session before u (Heard d))
    (rw (body, alive, found, good) (has-block me.session c k.key u has))

pub key-opens-well : (setup : Setup) (trusted : ℕ → Bool) (w : World) (p q : ℕ) (mine theirs log0 before : Log) (d : Datagram) (k : KeyGiven) → IsSound setup trusted w → trusted 0 ≡ true → trusted q ≡ true → eqb p 0 ≡ false → eqb q 0 ≡ false
    → slice_get w.logs p ≡ Some mine → slice_get w.logs q ≡ Some theirs → slice_get w.logs 0 ≡ Some log0 → IsEntry mine before (Heard d) → d.message.body ≡ Key k → d.message.from ≡ q
    → OpensWell (member setup p) before d k
key-opens-well setup trusted w p q mine theirs log0 before d k sound trust0 trust np nq atp atq at0 place body from = go (some-is (first_heard (is_of kinds.Case x k.role) before) row.0)
  where
    me : Member
    me = member setup p

    x : Exchange
    x = exchange_by k.round k.kind k.role d.message.from d.message.to

    al : Allows (member setup p) before (Heard d) × IsObedient (member setup p) before
    al = allowed-at (member setup p) mine before (Heard d) place ((sound.proper p mine atp).0 np)

    row : (has_heard (is_of kinds.Case (exchange_by k.round k.kind k.role d.message.from d.message.to) k.role) before ≡ true) × (nat_le (round_now before) (k.round + me.session.shape.life) ≡ true)
    row = key-row (member setup p) before d k al.0.0 body

    later : IsLater mine before
    later = later-entry mine before (Heard d) place

    agree : Agrees (table theirs) (table before)
    agree = agrees-with-stream setup trusted w q theirs log0 (table before) sound trust0 nq atq at0
        (λ r ds b. list-is setup trusted w p mine log0 r ds sound trust0 np atp at0 ((table-later mine before later).same r ds b))

    go : (e : Datagram) × (first_heard (is_of kinds.Case x k.role) before ≡ Some e) → OpensWell (member setup p) before d k
    go f = at f.0 f.1 (first_heard-was (is_of kinds.Case x k.role) before f.0 f.1)
      where
        at : (e : Datagram) → first_heard (is_of kinds.Case x k.role) before ≡ Some e → WasHeard before e × (is_of kinds.Case x k.role e.message ≡ true) → OpensWell (member setup p) before d k
        at e found was = record { case = b.case; found = told; good = good; held = λ u has alive. held-by-key (member setup p) before d k b.case u body told good has alive }
          where
            b : HeardBriefcase (member setup p) before x k.role e
            b = heard-briefcase (member setup p) before x k.role e al.1 was.0 was.1

            told : case_heard_from before x k.role ≡ Some b.case
            told = ap (option_and_then (λ d. briefcase_in d.message.body)) found ∙ ap briefcase_in b.body

            case-from : e.message.from ≡ q
            case-from = sender-on kinds.Case x k.role e.message was.1 ∙ party-on k.round k.kind k.role d.message.from d.message.to ∙ from

            case-heard : HeardIn mine e
            case-heard = subst (λ l. HeardIn l e) (sym later.split) (more later.new (heard-in before e was.0))
              where
                more : (new : Log) → HeardIn before e → HeardIn (new ++ before) e
                more [] h = h
                more (y ∷ new) h = inr (more new h)

            m : (c : Datagram) × SaidIn theirs c × (c.message ≡ e.message)
            m = said-by setup trusted w p q mine theirs e sound trust atp atq case-heard b.allowed (ap is_signed b.body) case-from

            n : (c : Datagram) × SaidIn theirs c × (c.message ≡ d.message)
            n = said-by setup trusted w p q mine theirs d sound trust atp atq (heard-in mine d (record { before = before; place = place })) (before, al.0) (ap is_signed body) from

            to-same : e.message.to ≡ d.message.to
            to-same = receiver-on kinds.Case x k.role e.message was.1 ∙ party-over k.round k.kind k.role d.message.from d.message.to

            named : exchange_by b.case.round b.case.kind b.case.role m.0.message.from m.0.message.to ≡ x
            named = ap (λ z. exchange_by b.case.round b.case.kind b.case.role z.from z.to) m.2 ∙ b.exchange

            fits : (eqb m.0.message.to n.0.message.to && same_exchange (exchange_by b.case.round b.case.kind b.case.role m.0.message.from m.0.message.to) (exchange_by k.round k.kind k.role n.0.message.from n.0.message.to) && same_role b.case.role k.role) ≡ true
            fits =
                and_from _ _
                (and_from _ _ (eq-eqb m.0.message.to n.0.message.to (ap (λ z. z.to) m.2 ∙ to-same ∙ sym (ap (λ z. z.to) n.2)))
                (subst (λ y. same_exchange y (exchange_by k.round k.kind k.role n.0.message.from n.0.message.to) ≡ true) (sym named)
                (subst (λ z. same_exchange x (exchange_by k.round k.kind k.role z.from z.to) ≡ true) (sym n.2) (same_exchange_refl x))))
                (subst (λ r. same_role r k.role ≡ true) (sym b.side) (same_role_refl k.role))

            not-bad : is_bad (opening_of setup.session (table before) x b.case k.key) ≡ false
            not-bad =
                subst (λ y. is_bad (opening_of setup.session (table before) y b.case k.key) ≡ false) named
                (never-opens_bad (member setup q) theirs (table before) m.0 n.0 b.case k ((sound.proper q theirs atq).0 nq) m.1 n.1 (ap (λ z. z.body) m.2 ∙ b.body) (ap (λ z. z.body) n.2 ∙ body) agree fits)

            good : is_good (opening_of setup.session (table before) x b.case k.key) ≡ true
            good = good-opening setup.session (table before) x b.case k.key not-bad b.within
