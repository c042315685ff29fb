-- The knowledge of a broadcaster before any input.
use Rattle.std.proofs.Common.{◌≡◌, ℕ, List, [], None, false, arith, inl, inr}
use Rattle.std.specs.Prelude.{◌&&◌, nat_le}
use Rattle.std.specs.Bool.{then_some}
use Rattle.std.proofs.lemmas.Bool.{and_left, cases_lt, lt-leb}
use Rattle.bar_rules.specs.Broadcaster.Stream.{caster_table, manifest_list}
use Rattle.bar_rules.specs.Member.{Member}
use Rattle.bar_rules.specs.Peer.Log.{round_now}
use Rattle.bar_caster.proofs.Grown.{no_list_yet}

pub no_lists_yet : (me : Member) (stream : List ℕ) (round : ℕ) → caster_table me stream [] round ≡ None
no_lists_yet me stream round = elim (cases_lt 0 round) [
  | inl later ↦ no_list_yet me stream [] round later
  | inr zero ↦
      let never : (nat_le 1 round && (nat_le round (round_now []) && nat_le round me.session.shape.rounds)) ≡ false =
      and_left _ _ (lt-leb 1 round (omega arith)) in
      λ i. then_some (never i) (manifest_list me.session stream round)
]
