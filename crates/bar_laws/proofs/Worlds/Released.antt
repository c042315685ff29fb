-- The broadcaster's table has each list that a trusted peer has.
use Rattle.bar_rules.specs.Broadcaster.Stream.{manifest_list, caster_table}
use Rattle.bar_rules.specs.Peer.Log.{Log, table, round_now}
use Rattle.bar_rules.specs.World.World.{World, member, Setup}
use Rattle.bar_terms.specs.Table.{Extends}
use Rattle.bar_wire.specs.Datagram.{Datagram, Manifest}
use Rattle.bar_wire.specs.Grammar.{InRange, IsRound}
use Rattle.std.proofs.Common.{◌≡◌, ◌∙◌, ℕ, ◌≤◌, Bool, true, false, List, refl, sym, ap, subst, eqb, arith, ◌&&◌}
use Rattle.std.specs.Prelude.{Some, slice_get, nat_le}
use Rattle.std.specs.Bool.{then_some}
use Rattle.std.proofs.lemmas.Bool.{le-leb}
use Rattle.bar_laws.proofs.Fitting.{IsOwnMessage, IsOfBegunRound, IsOwnBody}
use Rattle.bar_laws.proofs.Worlds.SoundWorlds.{IsSound}
use Rattle.bar_laws.proofs.Worlds.Evictions.{list-said}

-- each list in a trusted peer's table is one of the stream's, of a round that has begun
pub record IsReleased (setup : Setup) (log0 : Log) (r : ℕ) (ds : List (List ℕ)) : Type 0 where
  pub list : ds ≡ manifest_list setup.session setup.stream r
  pub low : 1 ≤ r
  pub high : r ≤ setup.session.shape.rounds
  pub begun : r ≤ round_now log0

released-by : (setup : Setup) (log0 : Log) (r : ℕ) (ds : List (List ℕ)) (d : Datagram) → IsOwnMessage setup.session setup.stream 0 d → IsOfBegunRound log0 d.message.body → d.message.body ≡ Manifest r ds → IsReleased setup log0 r ds
released-by setup log0 r ds d own begun e =
    let range : IsRound setup.session.shape r = (subst (λ b. InRange setup.session.shape b) e own.fits.range).0 in
    record {
      list = subst (λ b. IsOwnBody setup.session setup.stream b) e own.body;
      low = omega (arith, range.0);
      high = range.1;
      begun = subst (λ b. IsOfBegunRound log0 b) e begun;
    }

pub list-released : (setup : Setup) (trusted : ℕ → Bool) (w : World) (q : ℕ) (log log0 : Log) (r : ℕ) (ds : List (List ℕ)) → IsSound setup trusted w → trusted 0 ≡ true → eqb q 0 ≡ false
    → slice_get w.logs q ≡ Some log → slice_get w.logs 0 ≡ Some log0 → (table log) r ≡ Some ds → IsReleased setup log0 r ds
list-released setup trusted w q log log0 r ds sound trust n at at0 e =
    let d = list-said setup trusted w q log log0 r ds sound trust n at at0 e in
    let own = ((sound.proper 0 log0 at0).1 refl).1 d.0 d.1 in
    released-by setup log0 r ds d.0 own.0 own.1 d.2

pub table-extended : (setup : Setup) (trusted : ℕ → Bool) (w : World) (q : ℕ) (log log0 : Log) → IsSound setup trusted w → trusted 0 ≡ true → eqb q 0 ≡ false
    → slice_get w.logs q ≡ Some log → slice_get w.logs 0 ≡ Some log0 → Extends (table log) (caster_table (member setup 0) setup.stream log0)
table-extended setup trusted w q log log0 sound trust n at at0 =
    record {
      same = λ r ds e.
          let is : IsReleased setup log0 r ds = list-released setup trusted w q log log0 r ds sound trust n at at0 e in
          let low : nat_le 1 r ≡ true = le-leb 1 r is.low in
          let begun : nat_le r (round_now log0) ≡ true = le-leb r (round_now log0) is.begun in
          let high : nat_le r setup.session.shape.rounds ≡ true = le-leb r setup.session.shape.rounds is.high in
          (λ i. then_some (low i && (begun i && high i)) (manifest_list setup.session setup.stream r)) ∙ ap (λ z. Some z) (sym is.list);
    }
