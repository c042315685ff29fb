-- A whole push between two obedient peers, over what they know alone: what is on its way arrives in order and in time.
use Rattle.std.specs.Prelude.{◌≡◌, ℕ, ◌-◌, true, List, [], ◌∷◌, length, None, Some}
use Rattle.bar_terms.specs.Terms.{offer_ok}
use Rattle.bar_window.specs.declared.exchange.Exchange.{Exchange}
use Rattle.bar_window.specs.declared.exchange.Role.TheVariants.{Initiator, Responder}
use Rattle.bar_window.specs.declared.exchange.XKind.TheVariants.{Push}
use Rattle.bar_window.specs.declared.update.UpdateId.{UpdateId}
use Rattle.bar_window.specs.Terms.{Terms}
use Rattle.bar_window.specs.Terms as forms
use Rattle.bar_wire.specs.Datagram.{Datagram, Query}
use Rattle.bar_wire.specs.declared.kind.Kind.{Kind}
use Rattle.bar_wire.specs.declared.kind.Kind.TheVariants as kinds
use Rattle.bar_rules.specs.Peer.Admission.{is_admitted}
use Rattle.bar_rules.specs.Peer.Choices.{given_of, wanted_of}
use Rattle.bar_rules.specs.Peer.Knowledge.{table_of}
use Rattle.bar_progress.specs.Trading.{AreFair, IsComplete, IsFresh, Pair, Talk, hears_all, one, started, two}

abbrev pub push : Pair → Exchange
push p = started p Push

-- the QUERY of the first peer, which offers young updates and asks for aged ones
abbrev pub query_of : Pair → List ℕ → List ℕ → List UpdateId → List UpdateId → Datagram
query_of p seed signature young aged = record {
  message = record { from = p.first; to = p.second; body = Query p.round seed young aged };
  signature = signature;
}

-- The terms that both will have, by what the second peer holds then. It wants those of the young updates that it lacks, gives as many of
-- the aged ones that it holds, and pads with junk.
abbrev pub offer_terms_then : Pair → Talk → List UpdateId → List UpdateId → Terms
offer_terms_then p t young aged =
    let want : List UpdateId = wanted_of (two p) t.theirs young in
    let give : List UpdateId = given_of (two p) t.theirs young aged in
    forms.Push young aged want give (length want - length give)

-- The first peer has said a QUERY, which is on its way, and which the second one admits. Nothing else of the exchange was said or heard,
-- neither has the other announced evicted, and both are in time for all datagrams of the exchange.
pub record CanPush (p : Pair) (t : Talk) (young aged : List UpdateId) : Type 0 where
  pub apart : p.first ≡ p.second → ⊥
  pub seed : List ℕ
  pub signature : List ℕ
  pub way : t.way ≡ (p.second, query_of p seed signature young aged) ∷ []
  pub admitted : is_admitted (two p) t.theirs (query_of p seed signature young aged) ≡ true
  pub asked : t.mine.said kinds.Query (push p) Initiator ≡ Some (query_of p seed signature young aged)
  pub unsaid_mine : t.mine.said kinds.Case (push p) Initiator ≡ None
  pub unkeyed_mine : t.mine.said kinds.Key (push p) Initiator ≡ None
  pub fresh_mine : IsFresh (one p) t.mine (push p) p.second
  pub unsaid_theirs : (kind : Kind) → t.theirs.said kind (push p) Responder ≡ None
  pub fresh_theirs : IsFresh (two p) t.theirs (push p) p.first

-- If the offer is valid under the first peer's own table too, then after eight datagrams, each of them fair, nothing is on its way, and
-- each side has what was agreed.
abbrev pub PushesAreCompleted : Type 0
PushesAreCompleted =
    (p : Pair) (t : Talk) (young aged : List UpdateId) → CanPush p t young aged
    → offer_ok p.session.cap p.session.shape.life (table_of t.mine) p.round young aged ≡ true → AreFair 8 p t
    → IsComplete p (push p) (offer_terms_then p t young aged) (hears_all 8 p t)
