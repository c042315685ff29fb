use Rattle.std.proofs.Common.{◌≡◌, ◌∙◌, ◌++◌, ℕ, [], List, Option, Some, drop, length, take, sym, ap, subst}
use Rattle.bar_window.specs.Terms.{plain_terms}
use Rattle.bar_terms.specs.declared.items.Item.{Item}
use Rattle.bar_terms.specs.Table.{digests_of}
use Rattle.bar_terms.specs.Terms.{promise, promised_updates}
use Rattle.bar_case.specs.Opened.{opening, opened_blocks, AreTold}
use Rattle.bar_case.specs.declared.findings.Opening.TheVariants.{Good}
use Rattle.bar_wire.specs.Bodies.{briefcase_in}
use Rattle.bar_wire.specs.Datagram.{Briefcase}
use Rattle.bar_wire.specs.Code.Views.{plain}
use Rattle.bar_wire.specs.declared.shape.Shape.{Shape}
use Rattle.bar_rules.specs.Values.{opening_of}
use Rattle.bar_peer.specs.Code.Opening.{AreGiven}
use Rattle.bar_peer.proofs.Hearing.Blocks.{good_given, bad_given}
use Rattle.bar_peer.proofs.memory.Memory.unseal.Goals as goal

pub returns-in-Good-clause-given : goal.returns-in-Good-clause-given
returns-in-Good-clause-given c told now is can counts near =
    let s = c.args.self.now.who.session in
    let table = digests_of c.args.self.now.store.table.lists in
    let x = c.args.x in
    let key = c.args.key.now in
    let w = c.in-Case in
    let t = plain_terms w.terms in
    let case : Briefcase = record {
      round = w.round;
      kind = w.xkind;
      role = w.role;
      updates = w.updates;
      junk = w.junk;
      terms = t;
      cipher = w.cipher.now;
    } in
    let same : Some case ≡ Some told = ap briefcase_in (sym (ap plain w.is) ∙ is) in
    let cap : c.cap-cap.result ≡ s.cap = c.cap-cap.ensures in
    let id : c.shape.result.id ≡ s.shape.id = ap (λ (s : Shape). s.id) c.shape.ensures.value in
    let good : opening_of s table x case key ≡ Good c.in-Good.field-0 =
    sym (c.unseal-opening.ensures.opening ∙ (λ i. opening (id i) x (cap i) t w.role w.cipher.now key (digests_of (c.table.ensures i).lists))) ∙ c.in-Good.is
    in
    let items : take c.promise.result.len c.promise.result.items ≡ promise s.cap t case.role =
    c.promise.ensures.items ∙ (λ i. promise (cap i) t w.role)
    in
    let rest : List (List ℕ) = drop (length (promised_updates c.cap-cap.result t w.role)) c.args.out.now in
    let blocks : c.unseal-opening.new.out ≡ opened_blocks s.cap t case.role w.cipher.now key ++ rest =
    c.unseal-opening.ensures.placed ∙ (λ i. opened_blocks (cap i) t w.role w.cipher.now key ++ rest)
    in
    let digests : AreTold table (promised_updates s.cap t case.role) (opened_blocks s.cap t case.role w.cipher.now key) =
    c.good_openings_have_their_digests.ensures s.shape.id x s.cap t case.role w.cipher.now key table c.in-Good.field-0 good
    in
    subst (λ (o : Option Briefcase). AreGiven s now table x key o (take c.promise.result.len c.promise.result.items) c.unseal-opening.new.out) same
    (subst (λ (bs : List (List ℕ)). AreGiven s now table x key (Some case) (take c.promise.result.len c.promise.result.items) bs) (sym blocks)
    (subst (λ (is : List Item). AreGiven s now table x key (Some case) is (opened_blocks s.cap t case.role w.cipher.now key ++ rest)) (sym items)
    (good_given s table x case key c.in-Good.field-0 rest now good digests near)))

pub returns-in_default-opening : goal.returns-in_default-opening
returns-in_default-opening c =
    let s = c.args.self.now.who.session in
    let table = digests_of c.args.self.now.store.table.lists in
    let x = c.args.x in
    let key = c.args.key.now in
    let w = c.in-Case in
    let t = plain_terms w.terms in
    let case : Briefcase = record {
      round = w.round;
      kind = w.xkind;
      role = w.role;
      updates = w.updates;
      junk = w.junk;
      terms = t;
      cipher = w.cipher.now;
    } in
    let cap : c.cap-cap.result ≡ s.cap = c.cap-cap.ensures in
    let id : c.shape.result.id ≡ s.shape.id = ap (λ (s : Shape). s.id) c.shape.ensures.value in
    let opened : c.unseal-opening.result ≡ opening_of s table x case key =
    c.unseal-opening.ensures.opening ∙ (λ i. opening (id i) x (cap i) t w.role w.cipher.now key (digests_of (c.table.ensures i).lists))
    in
    record {
      given = λ told now is can counts near.
          subst (λ (o : Option Briefcase). AreGiven s now table x key o [] c.unseal-opening.new.out) (ap briefcase_in (sym (ap plain w.is) ∙ is))
          (bad_given s table x case key c.unseal-opening.new.out now (λ n good. c.in_default-opening.not-Good n (opened ∙ good)));
      few = _;
    }
