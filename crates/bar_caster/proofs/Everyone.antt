-- For every number, of a peer or not, its room holds the evidence that the log keeps.
use Rattle.std.proofs.Common.{◌≡◌, ◌∙◌, ℕ, ◌<◌, ◌≤◌, List, Option, Some, None, is_some, refl, sym, ap, subst, arith, inl, inr}
use Rattle.std.specs.Prelude.{◌&&◌, Contains, nat_le, option_copied, option_map}
use Rattle.std.specs.Borrow.{Bor}
use Rattle.std.proofs.lemmas.Bool.{and_parts, cases_Bool}
use Rattle.std.proofs.lemmas.Bool.Decides.{nat_tests}
use Rattle.std.proofs.lemmas.List.{map-id}
use Rattle.bar_bytes.specs.Code.Rooms.{kept_in}
use Rattle.bar_window.proofs.Ranges.{in_is_image}
use Rattle.bar_wire.specs.Evidence.{evidence_bytes}
use Rattle.bar_wire.specs.Grammar.{IsPeer}
use Rattle.bar_rules.specs.Broadcaster.Party.{IsBroadcaster}
use Rattle.bar_rules.specs.Broadcaster.Sending.{caster_log_after, evicted}
use Rattle.bar_rules.specs.Member.{Member, Session}
use Rattle.bar_rules.specs.Peer.Log.{Log, kept}
use Rattle.bar_wire.specs.Inputs.{Input}
use Rattle.bar_laws.specs.Broadcasting.{EvictsExactly}
use Rattle.bar_caster.specs.declared.evictions.Evictions.{Evictions}
use Rattle.bar_caster.specs.Code.Evictions.{AreOfLog}

pub uncopied : {X : Type 0} (o : Option (Bor X)) → option_copied o ≡ None → o ≡ None
uncopied None e = refl
uncopied (Some v) e = cc

-- every evicted party is a peer
evicted_peer : (s : Session) (log : Log) (party : ℕ) → Contains (evicted s log) party → IsPeer s.shape party
evicted_peer s log party has =
    let image = in_is_image (λ q. is_some (kept log q)) (λ (q : ℕ). q) 1 s.shape.peers party
    (subst (λ qs. Contains qs party) (sym (map-id (evicted s log))) has) in
    subst (λ q. IsPeer s.shape q) image.is (omega (arith, image.low), omega (arith, image.high))

module _ (me : Member) (stream : List ℕ) (is : IsBroadcaster me) (law : EvictsExactly) (inputs : List Input) where
  abbrev pub log : Log
  log = caster_log_after me stream inputs

  -- evidence is kept only against peers, and evicts them
  kept_evicts : (party : ℕ) (evidence : List (List ℕ)) → kept log party ≡ Some evidence → Contains (evicted me.session log) party
  kept_evicts party evidence has =
      let exactly = law me stream is inputs in
      exactly.shown_is_evicted party evidence (exactly.kept_is_first party evidence has).shown

  pub none_unless_evicted : (party : ℕ) → (Contains (evicted me.session log) party → ⊥) → kept log party ≡ None
  none_unless_evicted party other = by_kept (kept log party) refl
    where
      by_kept : (o : Option (List (List ℕ))) → kept log party ≡ o → kept log party ≡ None
      by_kept None e = e
      by_kept (Some evidence) e = absurd (other (kept_evicts party evidence e))

  pub kept_of_all : (e : Evictions) → AreOfLog me.session e log → (party : ℕ) → kept_in e.evidence party ≡ option_map evidence_bytes (kept log party)
  kept_of_all e h party = elim (cases_Bool (nat_le 1 party && nat_le party me.session.shape.peers)) [
    | inl peer ↦
        let parts = and_parts (nat_le 1 party) (nat_le party me.session.shape.peers) peer in
        let low : 0 < party = grind (arith, nat_tests, parts.0) in
        let high : party ≤ me.session.shape.peers = grind (arith, nat_tests, parts.1) in
        h.evidence party (low, high)
    | inr other ↦
        let no : IsPeer me.session.shape party → ⊥ = λ peer. grind (arith, nat_tests, peer.0, peer.1) in
        h.others party no
        ∙ ap (option_map evidence_bytes) (sym (none_unless_evicted party (λ has. no (evicted_peer me.session log party has))))
  ]
