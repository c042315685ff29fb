-- The evicted peers, from rooms and from a log.
use Rattle.std.proofs.Common.{◌≡◌, ◌∙◌, ℕ, zero, suc, ◌+◌, ◌==◌, ◌++◌, Bool, true, false, List, [], ◌∷◌, Some, None}
use Rattle.std.proofs.Common.{is_some, refl, sym, ap, subst, arith, inl, inr}
use Rattle.std.specs.Prelude.{filter, option_map, if◌then◌else◌}
use Rattle.std.specs.Option.{option_or}
use Rattle.std.specs.Bool.{then_some}
use Rattle.std.specs.List.{range_with_len}
use Rattle.std.proofs.lemmas.Bool.{eq-eqb, ne_eqb, cases_eq}
use Rattle.std.proofs.lemmas.List.{map-id, append-nil}
use Rattle.std.proofs.lemmas.List.FromFn.{filter_of_map_range_with_len_more}
use Rattle.bar_bytes.specs.declared.rooms.Rooms.{Rooms}
use Rattle.bar_bytes.specs.Code.Rooms.{kept_in}
use Rattle.bar_bytes.proofs.Options.{or-none, some-mapped}
use Rattle.bar_window.proofs.Ranges.{filter_agree_from}
use Rattle.bar_wire.specs.Evidence.{evidence_bytes}
use Rattle.bar_wire.specs.Grammar.{IsPeer}
use Rattle.bar_rules.specs.Member.{Session}
use Rattle.bar_rules.specs.Peer.Log.{Log, Kept, kept}
use Rattle.bar_rules.specs.Broadcaster.Sending.{evicted}
use Rattle.bar_caster.specs.declared.evictions.Evictions.{Evictions}
use Rattle.bar_caster.specs.Code.Evictions.{AreOfLog}
use Rattle.bar_caster.specs.Code.Listed.{peers_with_evidence}

-- ---- peer by peer

pub one_more : (p : ℕ → Bool) (n : ℕ) (b : Bool) → p (n + 1) ≡ b
    → filter p (range_with_len 1 (n + 1)) ≡ filter p (range_with_len 1 n) ++ (if b then (n + 1) ∷ [] else [])
one_more p n b is =
    ap (filter p) (sym (map-id (range_with_len 1 (n + 1))))
    ∙ filter_of_map_range_with_len_more p (λ (k : ℕ). k) 1 n (n + 1) (omega arith)
    ∙ (λ i. filter p (map-id (range_with_len 1 n) i) ++ (if is i then (n + 1) ∷ [] else []))

pub listed-more : (rooms : Rooms) (n : ℕ) → is_some (kept_in rooms (n + 1)) ≡ true
    → peers_with_evidence rooms n ++ (n + 1) ∷ [] ≡ peers_with_evidence rooms (n + 1)
listed-more rooms n is = sym (one_more (λ q. is_some (kept_in rooms q)) n true is)

pub listed-skip : (rooms : Rooms) (n : ℕ) → is_some (kept_in rooms (n + 1)) ≡ false
    → peers_with_evidence rooms n ≡ peers_with_evidence rooms (n + 1)
listed-skip rooms n is = sym (append-nil (peers_with_evidence rooms n)) ∙ sym (one_more (λ q. is_some (kept_in rooms q)) n false is)

-- ---- what a log keeps

pub kept_here : (log : Log) (q : ℕ) (ev : List (List ℕ)) → kept log q ≡ None → kept (Kept q ev ∷ log) q ≡ Some ev
kept_here log q ev none = λ i. option_or (none i) (then_some (eq-eqb q q refl i) ev)

pub kept_elsewhere : (log : Log) (q p : ℕ) (ev : List (List ℕ)) → (q == p) ≡ false → kept (Kept q ev ∷ log) p ≡ kept log p
kept_elsewhere log q p ev other = (λ i. option_or (kept log p) (then_some (other i) ev)) ∙ or-none (kept log p)

-- ---- the evictions after evidence

-- the evidence is stored in the room of a party
abbrev IsKept : Rooms → Rooms → ℕ → List (List ℕ) → Type 0
IsKept old new q ev = (p : ℕ) → kept_in new p ≡ (if p == q then Some (evidence_bytes ev) else kept_in old p)

kept_so : (s : Session) (e f : Evictions) (log : Log) (q : ℕ) (ev : List (List ℕ)) → AreOfLog s e log → kept log q ≡ None
    → IsKept e.evidence f.evidence q ev → (p : ℕ) → IsPeer s.shape p
    → kept_in f.evidence p ≡ option_map evidence_bytes (kept (Kept q ev ∷ log) p)
kept_so s e f log q ev h none keeps p peer = elim (cases_eq p q) [
  | inl same ↦
      keeps p
      ∙ (λ i. if eq-eqb p q same i then Some (evidence_bytes ev) else kept_in e.evidence p)
      ∙ ap (option_map evidence_bytes) (sym (kept_here log q ev none))
      ∙ (λ i. option_map evidence_bytes (kept (Kept q ev ∷ log) (sym same i)))
  | inr other ↦
      keeps p
      ∙ (λ i. if ne_eqb p q other i then Some (evidence_bytes ev) else kept_in e.evidence p)
      ∙ h.evidence p peer
      ∙ ap (option_map evidence_bytes) (sym (kept_elsewhere log q p ev (ne_eqb q p (λ same. other (sym same)))))
]

-- the rooms of numbers that aren't peers stay empty
others_so : (s : Session) (e f : Evictions) (q : ℕ) (ev : List (List ℕ)) → IsPeer s.shape q
    → ((p : ℕ) → (IsPeer s.shape p → ⊥) → kept_in e.evidence p ≡ None) → IsKept e.evidence f.evidence q ev
    → (p : ℕ) → (IsPeer s.shape p → ⊥) → kept_in f.evidence p ≡ None
others_so s e f q ev peer empty keeps p other =
    keeps p
    ∙ (λ i. if ne_eqb p q (λ same. other (subst (λ (n : ℕ). IsPeer s.shape n) (sym same) peer)) i
    then Some (evidence_bytes ev) else kept_in e.evidence p)
    ∙ empty p other

-- the peers with evidence in their rooms are the evicted peers
listed_so : (s : Session) (rooms : Rooms) (log : Log)
    → ((p : ℕ) → IsPeer s.shape p → kept_in rooms p ≡ option_map evidence_bytes (kept log p))
    → peers_with_evidence rooms s.shape.peers ≡ evicted s log
listed_so s rooms log is =
    filter_agree_from (λ q. is_some (kept_in rooms q)) (λ q. is_some (kept log q)) 1 s.shape.peers
    (λ p low high. ap is_some (is p (omega (arith, low), omega (arith, high))) ∙ some-mapped evidence_bytes (kept log p))

pub evicts : (s : Session) (e f : Evictions) (log : Log) (q : ℕ) (ev : List (List ℕ)) → AreOfLog s e log → IsPeer s.shape q
    → kept log q ≡ None → IsKept e.evidence f.evidence q ev → f.peers ≡ e.peers → f.list.items ≡ peers_with_evidence f.evidence f.peers
    → AreOfLog s f (Kept q ev ∷ log)
evicts s e f log q ev h peer none keeps peers listed =
    let is = kept_so s e f log q ev h none keeps in
    record {
      peers = peers ∙ h.peers;
      evidence = is;
      others = others_so s e f q ev peer h.others keeps;
      list = listed ∙ (λ i. peers_with_evidence f.evidence ((peers ∙ h.peers) i)) ∙ listed_so s f.evidence (Kept q ev ∷ log) is;
    }

-- evidence against a party that isn't a peer changes nothing
pub stays : (s : Session) (e : Evictions) (log : Log) (q : ℕ) (ev : List (List ℕ)) → AreOfLog s e log → (IsPeer s.shape q → ⊥)
    → AreOfLog s e (Kept q ev ∷ log)
stays s e log q ev h other =
    let same : (p : ℕ) → IsPeer s.shape p → kept log p ≡ kept (Kept q ev ∷ log) p =
    λ p peer. sym (kept_elsewhere log q p ev (ne_eqb q p (λ is. other (subst (λ (n : ℕ). IsPeer s.shape n) (sym is) peer)))) in
    record {
      peers = h.peers;
      evidence = λ p peer. h.evidence p peer ∙ ap (option_map evidence_bytes) (same p peer);
      others = h.others;
      list = h.list ∙ filter_agree_from (λ q. is_some (kept log q)) (λ p. is_some (kept (Kept q ev ∷ log) p)) 1 s.shape.peers
          (λ p low high. ap is_some (same p (omega (arith, low), omega (arith, high))));
    }

-- a peer's room is empty if and only if the log keeps no evidence against it
pub room-tells : (s : Session) (e : Evictions) (log : Log) (q : ℕ) → AreOfLog s e log → IsPeer s.shape q
    → is_some (kept_in e.evidence q) ≡ is_some (kept log q)
room-tells s e log q h peer = ap is_some (h.evidence q peer) ∙ some-mapped evidence_bytes (kept log q)

none_passes : (a n : ℕ) → filter (λ q. false) (range_with_len a n) ≡ []
none_passes a zero = refl
none_passes a (suc n) = none_passes (a + 1) n

pub empty-stands : (s : Session) (e : Evictions) → e.peers ≡ s.shape.peers → ((p : ℕ) → kept_in e.evidence p ≡ None) → e.list.items ≡ []
    → AreOfLog s e []
empty-stands s e peers none empty =
    record { peers = peers; evidence = λ p peer. none p; others = λ p other. none p; list = empty ∙ sym (none_passes 1 s.shape.peers) }
