-- The list of a MANIFEST, and tables with one list more.
use Rattle.std.proofs.Common.{◌≡◌, ℕ, ◌≤◌, true, false, [], ◌∷◌, ◌++◌, length, Some, None, ◌==◌, if◌then◌else◌, inl, inr, refl, sym, ◌∙◌}
use Rattle.std.proofs.lemmas.Bool.{cases_Bool, eqb-true, eqb-false, eq-eqb, ne_eqb}
use Rattle.bar_terms.specs.Table.{Lists, digests_of}
use Rattle.bar_wire.specs.declared.shape.Shape.{Shape}
use Rattle.bar_wire.specs.Datagram.{Body, Manifest, Block, Request, Response, Divulge, Query, Reply, Case, KeyReq, Key, Evidence, Evict}
use Rattle.bar_wire.specs.Grammar.{InRange}
use Rattle.bar_judge.specs.TableFile.{RoundList, list_in}

-- what is known of a body with a list
pub record IsListed (s : Shape) (body : Body) (entry : RoundList) : Type 0 where
  pub round : entry.0 ≤ s.rounds
  pub few : length entry.1 ≤ s.per_round

pub is_listed : (s : Shape) (body : Body) (entry : RoundList) → InRange s body → Some entry ≡ list_in body → IsListed s body entry
is_listed s (Manifest round digests) entry range is =
    let one : entry ≡ (round, digests) = cc in
    rw one (record { round = range.0.1; few = range.1 })
is_listed s (Block u b) entry range is = absurd cc
is_listed s (Request r seed c) entry range is = absurd cc
is_listed s (Response r hb) entry range is = absurd cc
is_listed s (Divulge r n ha) entry range is = absurd cc
is_listed s (Query r seed y o) entry range is = absurd cc
is_listed s (Reply r w g z) entry range is = absurd cc
is_listed s (Case c) entry range is = absurd cc
is_listed s (KeyReq r k role) entry range is = absurd cc
is_listed s (Key k) entry range is = absurd cc
is_listed s (Evidence ds) entry range is = absurd cc
is_listed s (Evict r ps) entry range is = absurd cc

-- if a round had no list, a list of it that is added after the others is the one of its round
pub digests_added : (lists : Lists) (entry : RoundList) (round : ℕ) → digests_of lists entry.0 ≡ None
    → digests_of (lists ++ entry ∷ []) round ≡ (if round == entry.0 then Some entry.1 else digests_of lists round)
digests_added [] entry round none = elim (cases_Bool (round == entry.0)) [
  | inl same ↦
      let e : (entry.0 == round) ≡ true = eq-eqb entry.0 round (sym (eqb-true round entry.0 same)) in
      rw (e, same) refl
  | inr other ↦
      let e : (entry.0 == round) ≡ false = ne_eqb entry.0 round (λ e. eqb-false round entry.0 other (sym e)) in
      rw (e, other) refl
]
digests_added (first ∷ lists) entry round none = elim (cases_Bool (first.0 == entry.0)) [
  | inl same ↦ let e : Some first.1 ≡ None = rw same at none in absurd cc
  | inr other ↦
      let behind : digests_of lists entry.0 ≡ None = rw other at none in
      let later = digests_added lists entry round behind in
      elim (cases_Bool (first.0 == round)) [
        | inl here ↦
            let e : (round == entry.0) ≡ false =
            ne_eqb round entry.0 (λ e. eqb-false first.0 entry.0 other (eqb-true first.0 round here ∙ e)) in
            rw (here, e) refl
        | inr there ↦ rw there later
      ]
]
