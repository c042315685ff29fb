-- A ledger in which a heard datagram changes the kept state of one exchange.
use Rattle.std.proofs.Common.{◌≡◌, ◌≤◌, ◌+◌, ◌∙◌, ℕ, true, false, List, Option, Some, None, is_some, refl, sym, ap, subst}
use Rattle.std.specs.Prelude.{length, option_map, option_and_then, IfSome, if◌then◌else◌}
use Rattle.std.specs.Option.{option_map_or}
use Rattle.std.proofs.lemmas.Bool.{false≢true}
use Rattle.std.proofs.lemmas.Option.{none-some}
use Rattle.bar_window.specs.declared.exchange.Exchange.{Exchange}
use Rattle.bar_window.specs.declared.exchange.Role.{Role}
use Rattle.bar_window.specs.declared.exchange.XKind.{XKind}
use Rattle.bar_window.specs.Exchange.{same_exchange, same_role, other_role}
use Rattle.bar_window.proofs.Exchanges.{same_exchange_refl, same_role_refl, other-other}
use Rattle.bar_wire.specs.Datagram.{Datagram, kind_of}
use Rattle.bar_wire.specs.declared.kind.Kind.{Kind}
use Rattle.bar_wire.specs.declared.shape.Shape.{Shape}
use Rattle.bar_rules.specs.Member.{Member}
use Rattle.bar_rules.specs.Values.{datagram_bytes}
use Rattle.bar_rules.specs.Peer.Agreement.{IsRecent}
use Rattle.bar_rules.specs.Peer.Exchanges.{role_of}
use Rattle.bar_rules.specs.Peer.Knowledge.{Knowledge, has_said_of}
use Rattle.bar_rules.specs.Peer.Sizes.{largest}
use Rattle.bar_ledger.specs.declared.ledger.Ledger.{Ledger}
use Rattle.bar_ledger.specs.Code.Hearing.{hears}
use Rattle.bar_ledger.specs.Code.Kept.{Kept, IsKeptFor, heard_of}
use Rattle.bar_ledger.specs.Code.Lookups.{heard_by, said_by}
use Rattle.bar_ledger.specs.Code.Memory.{MayHear, find_in, bytes_in, can_hear}
use Rattle.bar_ledger.specs.Code.Recalls.{Recalls, IsKeptBy}
use Rattle.bar_ledger.proofs.Changes.{found-own}
use Rattle.bar_exchange.specs.Code.Keeping.{IsAdmittedNow}
use Rattle.bar_exchange.specs.Code.Parts.{ChangesKept}
use Rattle.bar_exchange.proofs.Admitted.{IsAdmittedOf}
use Rattle.bar_exchange.proofs.Changes.{recalls_change}
use Rattle.bar_exchange.proofs.One.{RecallsOne, one_of}
use Rattle.bar_exchange.proofs.Same.{SameOne}

-- ---- the knowledge of the other exchanges

-- The knowledge of all exchanges except one is the same.
pub record KnowsOthers (k new : Knowledge) (y : Exchange) : Type 0 where
  pub ticks : new.ticks ≡ k.ticks
  pub opens : new.opens ≡ k.opens
  pub asked : (kind : XKind) (round : ℕ) → new.asked kind round ≡ k.asked kind round
  pub others : (x : Exchange) → same_exchange y x ≡ false → SameOne k new x

-- The exchange is kept, and may still be asked about.
pub record IsThere (me : Member) (k : Knowledge) (l : Ledger) (y : Exchange) (kept : Kept) : Type 0 where
  pub found : find_in l y ≡ Some kept
  pub named : kept.entry.x ≡ y
  pub recent : IsRecent me k y.round
  pub by : IsKeptBy me y kept
  pub one : RecallsOne me k y (Some kept)

pub there : (me : Member) (k : Knowledge) (l : Ledger) (y : Exchange) → Recalls me k l → is_some (find_in l y) ≡ true → (kept : Kept) × IsThere me k l y kept
there me k l y h some = go (find_in l y) refl some (h.kept y) (found-own y l.shape.life l.round l.slots.items)
  where
    go : (o : Option Kept) → find_in l y ≡ o → is_some o ≡ true → IfSome o (IsKeptBy me y) → IfSome o (IsKeptFor y l.shape.life l.round) → (kept : Kept) × IsThere me k l y kept
    go None e some by own = absurd (false≢true some)
    go (Some kept) e some by own =
        let recent : IsRecent me k y.round =
        subst (λ (now : ℕ). now ≤ y.round + me.session.shape.life) h.round (subst (λ (s : Shape). l.round ≤ y.round + s.life) h.shape own.recent)
        in
        (kept, record { found = e; named = own.named; recent = recent; by = by; one = subst (RecallsOne me k y) e (one_of me k l h y recent) })

-- ---- a change of the kept state of one exchange

-- The changed state represents the knowledge of the exchange.
pub record KeepsOne (me : Member) (new : Knowledge) (y : Exchange) (kept : Kept) : Type 0 where
  pub one : RecallsOne me new y (Some kept)
  pub by : IsKeptBy me y kept

pub recalls_kept : (me : Member) (k new : Knowledge) (old l : Ledger) (y : Exchange) (change : Kept → Kept) (kept : Kept) → Recalls me k old
    → ChangesKept old l y change → KnowsOthers k new y → IsThere me k old y kept → KeepsOne me new y (change kept) → Recalls me new l
recalls_kept me k new old l y change kept h c others at keeps =
    let found : find_in l y ≡ Some (change kept) =
    c.found y ∙ (λ i. if same_exchange_refl y i then option_map change (at.found i) else find_in old y)
    in
    recalls_change me k new old l y h (record {
      same = c.same;
      ticks = others.ticks;
      asked = λ kind round recent. others.asked kind round ∙ h.asked kind round recent ∙ sym (c.asked kind round);
      opens = others.opens ∙ h.opens ∙ sym c.opens;
      others = others.others;
      stays = λ x e. c.found x ∙ ap (λ b. if b then option_map change (find_in old x) else find_in old x) e;
      one = λ recent. subst (λ o. RecallsOne me new y o) (sym found) keeps.one;
      kept = subst (λ o. IfSome o (IsKeptBy me y)) (sym found) keeps.by;
    })

-- if the exchange can't be asked about any more, the unchanged ledger recalls the new knowledge
pub recalls_stale : (me : Member) (k new : Knowledge) (l : Ledger) (y : Exchange) → Recalls me k l → KnowsOthers k new y → (IsRecent me k y.round → ⊥) → Recalls me new l
recalls_stale me k new l y h others stale =
    recalls_change me k new l l y h (record {
      same = record { me = refl; cap = refl; shape = refl; round = refl };
      ticks = others.ticks;
      asked = λ kind round recent. others.asked kind round ∙ h.asked kind round recent;
      opens = others.opens ∙ h.opens;
      others = others.others;
      stays = λ x e. refl;
      one = λ recent. absurd (stale recent);
      kept = h.kept y;
    })

-- ---- the datagram may be heard

-- if something was said in an exchange, it is kept
pub said_kept : (me : Member) (k : Knowledge) (l : Ledger) (x : Exchange) (kind : Kind) (role : Role) → Recalls me k l → IsRecent me k x.round → has_said_of k kind x role ≡ true
    → is_some (find_in l x) ≡ true
said_kept me k l x kind role h recent said = go (find_in l x) (sym (h.said kind x role recent) ∙ said)
  where
    go : (o : Option Kept) → option_map_or (said_by kind role) o false ≡ true → is_some o ≡ true
    go None e = absurd (false≢true e)
    go (Some kept) e = refl

-- if something was heard in an exchange, it is kept
pub heard_kept : (me : Member) (k : Knowledge) (l : Ledger) (x : Exchange) (kind : Kind) (role : Role) → Recalls me k l → IsRecent me k x.round → is_some (k.heard kind x role) ≡ true
    → is_some (find_in l x) ≡ true
heard_kept me k l x kind role h recent heard = go (k.heard kind x role) (find_in l x) heard (h.heard kind x role recent)
  where
    go : (f : Option Datagram) (o : Option Kept) → is_some f ≡ true → option_map (datagram_bytes me.session) f ≡ option_and_then (heard_by kind role) o → is_some o ≡ true
    go None o heard e = absurd (false≢true heard)
    go (Some d) None heard e = absurd (none-some (datagram_bytes me.session d) (sym e))
    go (Some d) (Some kept) heard e = refl

-- if nothing of a kind was heard from the other side, none is kept
pub none_kept : (me : Member) (k : Knowledge) (l : Ledger) (x : Exchange) (kind : Kind) (side : Role) → Recalls me k l → IsRecent me k x.round → role_of me x ≡ other_role side
    → k.heard kind x side ≡ None → bytes_in l x kind ≡ None
none_kept me k l x kind side h recent mine none =
    go (find_in l x) (h.kept x) (sym (h.heard kind x side recent) ∙ ap (option_map (datagram_bytes me.session)) none)
  where
    go : (o : Option Kept) → IfSome o (IsKeptBy me x) → option_and_then (heard_by kind side) o ≡ None → option_and_then (heard_of kind) o ≡ None
    go None by e = refl
    go (Some kept) by e =
        let same : same_role side (other_role kept.entry.role) ≡ true =
        ap (λ r. same_role side (other_role r)) (by.side ∙ mine) ∙ ap (same_role side) (other-other side) ∙ same_role_refl side
        in
        sym (ap (λ t. if t then heard_of kind kept else None) same) ∙ e

pub may_hear_of : (me : Member) (k : Knowledge) (l : Ledger) (d : Datagram) (bytes : List ℕ) (x : Exchange) (side : Role) (kind : Kind) → Recalls me k l → IsAdmittedNow me k d bytes
    → IsAdmittedOf me k d x side → kind ≡ kind_of d.message.body → IsRecent me k x.round → is_some (find_in l x) ≡ true → IfSome (find_in l x) (λ kept. can_hear kind kept ≡ true)
    → MayHear l x kind bytes
may_hear_of me k l d bytes x side kind h now of is recent kept heard = record {
  kept = kept;
  new = none_kept me k l x kind side h recent of.mine (ap (λ kind. k.heard kind x side) is ∙ of.new);
  short = subst (λ (kind : Kind). length bytes ≤ largest l.shape kind) (sym is) (subst (λ (s : Shape). length bytes ≤ largest s (kind_of d.message.body)) (sym h.shape) now.fits);
  heard = heard;
}

-- an admitted datagram of a kept exchange may be heard, if this member's side hears its kind
pub may_hear_at : (me : Member) (k : Knowledge) (l : Ledger) (d : Datagram) (bytes : List ℕ) (x : Exchange) (side : Role) (kind : Kind) (kept : Kept) → Recalls me k l → IsAdmittedNow me k d bytes
    → IsAdmittedOf me k d x side → kind ≡ kind_of d.message.body → IsThere me k l x kept → hears kind x.kind (other_role side) ≡ true → MayHear l x kind bytes
may_hear_at me k l d bytes x side kind kept h now of is at e =
    let role : kept.entry.role ≡ other_role side = at.by.side ∙ of.mine in
    may_hear_of me k l d bytes x side kind h now of is at.recent (ap (λ o. is_some o) at.found)
    (subst (λ o. IfSome o (λ kept. can_hear kind kept ≡ true)) (sym at.found) ((λ i. hears kind (at.named i).kind (role i)) ∙ e))
