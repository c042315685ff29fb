-- The blocks that this peer seals in briefcases are those of the knowledge.
use Rattle.std.proofs.Common.{◌≡◌, ℕ, ◌+◌, ◌≤◌, List, All, Contains, Option, subst, arith}
use Rattle.std.specs.Prelude.{IsSome}
use Rattle.std.proofs.lemmas.List.Elements.{All-weaker, All-contains, All-contains_itself, All-take, All-filter}
use Rattle.bar_window.specs.declared.exchange.Role.{Role}
use Rattle.bar_window.specs.declared.exchange.Role.TheVariants.{Initiator, Responder}
use Rattle.bar_window.specs.declared.terms.Terms.{Terms as WindowTerms}
use Rattle.bar_window.specs.declared.terms.Terms.TheVariants as raw
use Rattle.bar_window.specs.declared.update.UpdateId.{UpdateId}
use Rattle.bar_window.specs.declared.window.Window.{Window}
use Rattle.bar_window.specs.Terms.{Terms, plain_terms}
use Rattle.bar_window.specs.Updates.{minus}
use Rattle.bar_window.specs.Code.Window.{members, IsWindowOf}
use Rattle.bar_window.proofs.Members.{member_has_room}
use Rattle.bar_terms.specs.Terms.{promised_updates, trade_count}
use Rattle.bar_terms.specs.Code.Windows.{AreWindowsOf}
use Rattle.bar_wire.specs.Code.Views.{AreTermWindows}
use Rattle.bar_rules.specs.Member.{Member}
use Rattle.bar_rules.specs.Peer.Knowledge.{Knowledge, this_round, answer_deadline}
use Rattle.bar_store.specs.declared.store.Store.{Store}
use Rattle.bar_store.specs.Code.Held.{block_in}
use Rattle.bar_store.specs.Code.Holds.{Holds}
use Rattle.bar_exchange.specs.Code.Writing.{IsSealable}
use Rattle.bar_rules.proofs.TermWindows.{windows_of}

-- an update is alive in a round
abbrev IsNear : ℕ → ℕ → UpdateId → Type 0
IsNear life round u = round + 1 ≤ u.round + life

window_near : (life round : ℕ) (w : Window) → IsWindowOf life round w → All (IsNear life round) (members w)
window_near life round w is =
    All-weaker (Contains (members w)) (IsNear life round) (λ u here. omega (arith, (member_has_room w u here).after, is.base)) (members w)
    (All-contains_itself (members w))

-- promised updates are in the windows of the terms, so they are alive in the exchange's round
promised_near : (life round cap : ℕ) (t : WindowTerms) (role : Role) → AreWindowsOf life round t
    → All (IsNear life round) (promised_updates cap (plain_terms t) role)
promised_near life round cap (raw.Balanced nonce ha hb) Initiator are =
    All-take (IsNear life round) (trade_count cap (members ha) (members hb)) (minus (members ha) (members hb))
    (All-filter _ (IsNear life round) (members ha) (window_near life round ha are.0))
promised_near life round cap (raw.Balanced nonce ha hb) Responder are =
    All-take (IsNear life round) (trade_count cap (members ha) (members hb)) (minus (members hb) (members ha))
    (All-filter _ (IsNear life round) (members hb) (window_near life round hb are.1))
promised_near life round cap (raw.Push young aged want give junk) Initiator are = window_near life round want are.2
promised_near life round cap (raw.Push young aged want give junk) Responder are = window_near life round give are.3

-- while the CASE may be sealed, the blocks that are held of them are those of the knowledge
pub blocks_same : (me : Member) (k : Knowledge) (s : Store) (round cap : ℕ) (t : WindowTerms) (role : Role) → Holds me k s
    → this_round k ≤ round + answer_deadline → AreTermWindows me.session.shape round t
    → All (λ u. k.block u ≡ block_in s u) (promised_updates cap (plain_terms t) role)
blocks_same me k s round cap t role holds time are =
    All-weaker (IsNear me.session.shape.life round) (λ u. k.block u ≡ block_in s u) (λ u near. holds.blocks u (omega (arith, near, time)))
    (promised_updates cap (plain_terms t) role) (promised_near me.session.shape.life round cap t role (windows_of me.session.shape round t are))

pub sealable_here : (b c : UpdateId → Option (List ℕ)) (cap : ℕ) (t : Terms) (role : Role) → All (λ u. b u ≡ c u) (promised_updates cap t role)
    → IsSealable b cap t role → IsSealable c cap t role
sealable_here b c cap t role same is =
    let us = promised_updates cap t role in
    record {
      promise = is.promise;
      held =
          All-weaker (Contains us) (λ u. IsSome (c u))
          (λ u here. subst (λ (o : Option (List ℕ)). IsSome o) (All-contains (λ u. b u ≡ c u) us u same here) (All-contains (λ u. IsSome (b u)) us u is.held here))
          us (All-contains_itself us);
    }
