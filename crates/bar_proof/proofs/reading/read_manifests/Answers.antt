use Rattle.std.proofs.Common.{◌≡◌, ◌∙◌, ◌-◌, [], length, take, drop, refl, true, Some, None, is_some, ap, sym, inr, arith}
use Rattle.std.proofs.lemmas.Bool.{OnTrue_at}
use Rattle.bar_terms.specs.Code.Room.{TableWithRoom}
use Rattle.bar_wire.specs.declared.shape.Shape.{Shape}
use Rattle.bar_judge.specs.TableFile.{Entry, RoundList, first_of, list_after}
use Rattle.bar_judge.specs.Code.TableViews.{plain_list}
use Rattle.bar_judge.proofs.TableReading.{cost_of_round, cost_within}
use Rattle.bar_proof.proofs.ManifestReading.{behind-head, read_none, read_cut, read_refused, read_all, read_more}
use Rattle.bar_proof.proofs.reading.read_manifests.Goals as goal

pub entries-init : goal.entries-init
entries-init g c =
    let table : TableWithRoom = c.in_ok-table.table in
    let made : table ≡ record { lists = []; rounds = c.shape-shape.result.rounds; per_round = c.shape-shape.result.per_round } = c.in_ok-table.ensures in
    let same = c.shape-shape.ensures.value in
    record {
      read = read_none c.args.session.now c.args.bytes.now (take (length c.args.bytes.now - 6) (drop 6 c.args.bytes.now)) table.lists
          (ap (λ (t : TableWithRoom). t.lists) made) c.requires.head (λ i. omega (arith, c.type_inv.bytes i)) (behind-head c.args.bytes.now);
      end = refl;
      rounds = ap (λ (t : TableWithRoom). t.rounds) made ∙ ap (λ (s : Shape). s.rounds) same;
      per_round = ap (λ (t : TableWithRoom). t.per_round) made ∙ ap (λ (s : Shape). s.per_round) same;
      last = omega arith;
      cost = omega arith;
    }

pub returns-in_default : goal.returns-in_default
returns-in_default g c = record {
  ok = tt;
  err = inr
      (read_cut c.args.session.now c.args.bytes.now c.entries.rest.now c.entries.counter c.entries.last c.entries.table.lists c.entries.invariant.read
      c.entries-test.true c.first_of.result c.first_of.ensures c.in_default.not-Entry);
  cost = cost_within c.args.steps.now c.entries.steps c.entries.steps (g.V.Verifier.most_steps c.args.verifier.now) c.entries.last
      c.args.session.now.shape.rounds c.entries.invariant.cost (omega arith) c.entries.invariant.last (λ all. refl);
}

pub returns-in_default-list_after-clause-err : goal.returns-in_default-list_after-clause-err
returns-in_default-list_after-clause-err g c =
    let first : first_of c.entries.rest.now ≡ Entry c.in-Entry.manifest.now c.in-Entry.others.now = sym c.in-Entry.ensures in
    let none : list_after c.args.session.now c.entries.last c.in-Entry.manifest.now ≡ None = sym c.in_default-list_after.ensures.value in
    inr
    (read_refused c.args.session.now c.args.bytes.now c.entries.rest.now c.in-Entry.manifest.now c.in-Entry.others.now c.entries.counter c.entries.last
    c.entries.table.lists c.entries.invariant.read c.entries-test.true first none)

pub returns-in_default-list_after-clause-cost : goal.returns-in_default-list_after-clause-cost
returns-in_default-list_after-clause-cost g c =
    cost_within c.args.steps.now c.entries.steps c.list_after.new.steps (g.V.Verifier.most_steps c.args.verifier.now) c.entries.last
    c.args.session.now.shape.rounds c.entries.invariant.cost c.list_after.ensures.cost c.entries.invariant.last c.list_after.ensures.none

pub entries-preserved : goal.entries-preserved
entries-preserved g c =
    let place = c.in-Some.ensures.place in
    let h = c.entries.invariant in
    let entry : RoundList = plain_list (c.in-Some.round, c.in-Some.digests) in
    let first : first_of c.entries.rest.now ≡ Entry c.in-Entry.manifest.now c.in-Entry.others.now = sym c.in-Entry.ensures in
    let listed : list_after c.args.session.now c.entries.last c.in-Entry.manifest.now ≡ Some entry = sym c.in-Some.ensures.value in
    let free = h.read.none_later c.in-Some.round place.after in
    let is_new : c.extend.result ≡ true = c.extend.ensures.new.1 (ap is_some free) in
    let room = OnTrue_at is_new c.extend.ensures.room in
    record {
      read = read_more c.args.session.now c.args.bytes.now c.entries.rest.now c.in-Entry.manifest.now c.in-Entry.others.now c.entries.counter
          c.entries.last entry c.entries.table.lists c.extend.new.self.lists h.read c.entries-test.true first listed place.after
          (OnTrue_at is_new c.extend.ensures.has);
      end = refl;
      rounds = room.0 ∙ h.rounds;
      per_round = room.1 ∙ h.per_round;
      last = place.round;
      cost = cost_of_round c.args.steps.now c.entries.steps c.list_after.new.steps (g.V.Verifier.most_steps c.args.verifier.now) c.entries.last
          c.in-Some.round h.cost c.list_after.ensures.cost place.after;
    }

pub returns-clause-ok : goal.returns-clause-ok
returns-clause-ok g c =
    let h = c.entries.invariant.read in
    (h.lists, (λ i round. h.same round i), read_all c.args.session.now c.args.bytes.now c.entries.rest.now c.entries.counter c.entries.last c.entries.table.lists h (omega arith))
