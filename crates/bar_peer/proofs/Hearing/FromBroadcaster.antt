-- The knowledge after a datagram to all, or a BLOCK, was heard.
use Rattle.std.proofs.Common.{◌≡◌, ◌∙◌, ◌==◌, ◌+◌, ◌*◌, ◌/◌, ◌≤◌, ◌&&◌, ◌||◌, inl, inr, ℕ, Bool, true, false, List, [], ◌∷◌, Option, Some, None, is_some, nat_lt, sym, ap, refl, subst, arith, option_map, if◌then◌else◌}
use Rattle.std.specs.Bool.{then_some}
use Rattle.std.specs.List.{list_any}
use Rattle.std.specs.Option.{option_or}
use Rattle.std.proofs.lemmas.Bool.{not-true, and_parts, cases_eq, eq-eqb, ne_eqb, lt-ltb, false≢true}
use Rattle.bar_window.specs.declared.exchange.Exchange.{Exchange}
use Rattle.bar_window.specs.declared.exchange.XKind.{XKind}
use Rattle.bar_window.specs.declared.exchange.XKind.TheVariants.{Balanced, Push}
use Rattle.bar_window.specs.declared.update.UpdateId.{UpdateId}
use Rattle.bar_terms.specs.Table.{digest_in}
use Rattle.bar_wire.specs.Datagram.{Datagram, Body, Manifest, Block}
use Rattle.bar_wire.specs.Grammar.{RisesTo}
use Rattle.bar_rules.specs.Member.{Member}
use Rattle.bar_rules.specs.Peer.Admission.{is_admitted, is_heard_again, is_row_met, has_digest}
use Rattle.bar_rules.specs.Peer.Knowledge.{Knowledge, this_round, table_of, learned, with_heard}
use Rattle.bar_rules.specs.Peer.Terms.{terms_by}
use Rattle.bar_laws.specs.Soundness.{IsSound}
use Rattle.bar_ledger.specs.declared.ledger.Ledger.{Ledger}
use Rattle.bar_ledger.specs.Code.Recalls.{Recalls}
use Rattle.bar_store.specs.declared.store.Store.{Store}
use Rattle.bar_store.specs.Code.Holds.{Holds}
use Rattle.bar_peer.specs.declared.memory.Memory.{Memory}
use Rattle.bar_peer.specs.Code.Memory.{IsMemoryOf}
use Rattle.bar_peer.proofs.Hearing.Keys.{listed}
use Rattle.bar_bytes.proofs.Options.{or-none, none-of}

-- the knowledge depends on the body of the datagram
pub by_body : (me : Member) (k : Knowledge) (d : Datagram) (b : Body) (m : Memory) → d.message.body ≡ b → IsMemoryOf me (learned me d k b) m
    → IsMemoryOf me (with_heard me d k) m
by_body me k d b m e h = subst (λ b. IsMemoryOf me (learned me d k b) m) (sym e) h

-- ---- what is unchanged

-- only the knowledge of the stream and of evictions changes
abbrev pub other_stream : (ℕ → Option Datagram) → (ℕ → Bool) → (ℕ → Bool) → (UpdateId → Option (List ℕ)) → Knowledge → Knowledge
other_stream manifest has_evict is_announced block k = record k {
  manifest = manifest;
  has_evict = has_evict;
  is_announced = is_announced;
  block = block;
}

same_terms : (kind : XKind) (me : Member) (m : ℕ → Option Datagram) (e a : ℕ → Bool) (b : UpdateId → Option (List ℕ)) (k : Knowledge) (x : Exchange)
    → terms_by kind me (other_stream m e a b k) x ≡ terms_by kind me k x
same_terms Balanced me m e a b k x = refl
same_terms Push me m e a b k x = refl

pub same_recalled : (me : Member) (k : Knowledge) (l : Ledger) (m : ℕ → Option Datagram) (e a : ℕ → Bool) (b : UpdateId → Option (List ℕ)) → Recalls me k l
    → Recalls me (other_stream m e a b k) l
same_recalled me k l m e a b h = record {
  party = h.party;
  cap = h.cap;
  shape = h.shape;
  round = h.round;
  heard = h.heard;
  said = h.said;
  seats = h.seats;
  asked = h.asked;
  revealed = h.revealed;
  answers = h.answers;
  offers = h.offers;
  replies = h.replies;
  terms = λ x recent. same_terms x.kind me m e a b k x ∙ h.terms x recent;
  kept = h.kept;
  opens = h.opens;
}

pub same_held : (me : Member) (k : Knowledge) (s : Store) (e a : ℕ → Bool) → Holds me k s
    → Holds me (record k { has_evict = e; is_announced = a }) s
same_held me k s e a h = record {
  rounds = h.rounds;
  per_round = h.per_round;
  wide = h.wide;
  life = h.life;
  round = h.round;
  table = h.table;
  blocks = h.blocks;
}

-- ---- blocks

digest_listed : (o : Option (List (List ℕ))) (index : ℕ) (block : List ℕ) → has_digest (digest_in o index) block ≡ true → is_some o ≡ true
digest_listed (Some ds) index block e = refl
digest_listed None index block e = absurd (false≢true e)

-- an admitted BLOCK is of the next round at most
pub block_near : (me : Member) (k : Knowledge) (from to : ℕ) (u : UpdateId) (block : List ℕ) → IsSound me k
    → is_row_met me k from to (Block u block) ≡ true → u.round ≤ this_round k + 1
block_near me k from to u block sound row =
    let has = (and_parts _ _ (and_parts _ _ row).0).0 in
    sound.near u.round (listed (k.manifest u.round) (digest_listed (table_of k u.round) u.index block has))

-- ---- manifests

-- an admitted manifest is the first of its round
pub manifest_new : (me : Member) (k : Knowledge) (d : Datagram) (round : ℕ) (digests : List (List ℕ)) → is_admitted me k d ≡ true
    → d.message.body ≡ Manifest round digests → k.manifest round ≡ None
unfolding is_admitted
manifest_new me k d round digests e body =
    let fresh : is_heard_again k d.message ≡ false = not-true _ (and_parts _ _ (and_parts _ _ e).0).1 in
    none-of (k.manifest round)
    (subst (λ b. is_heard_again k (record { from = d.message.from; to = d.message.to; body = b }) ≡ false) body fresh)

-- the bytes kept at each number, with one more
pub kept_more : {A : Type 0} (bytes : A → List ℕ) (first : ℕ → Option A) (a : A) (here n : ℕ) (kept : Option (List ℕ)) → first here ≡ None
    → option_map bytes (first n) ≡ kept
    → option_map bytes (option_or (first n) (then_some (here == n) a)) ≡ (if n == here then Some (bytes a) else kept)
kept_more {A} bytes first a here n kept none is = elim (cases_eq n here) [
  | inl e ↦
      (λ i. option_map bytes (option_or ((ap first e ∙ none) i) (then_some (eq-eqb here n (sym e) i) a)))
      ∙ (λ i. if sym (eq-eqb n here e) i then Some (bytes a) else kept)
  | inr ne ↦
      (λ i. option_map bytes (option_or (first n) (then_some (ne_eqb here n (λ e. ne (sym e)) i) a)))
      ∙ ap (option_map bytes) (or-none (first n))
      ∙ is
      ∙ (λ i. if sym (ne_eqb n here ne) i then Some (bytes a) else kept)
]

-- ---- digests

pub whole_count : (count n : ℕ) → n ≡ 32 * count → n / 32 ≡ count
whole_count count n e = omega (arith, e)

-- ---- evictions

and_true : (b : Bool) → (b && true) ≡ b
and_true true = refl
and_true false = refl

-- each party that an EVICT names has a mark
pub marked : (peers high low : ℕ) (parties : List ℕ) (p : ℕ) → RisesTo peers low parties → high ≡ peers + 1
    → list_any (λ q. (q == p) && nat_lt q high) parties ≡ list_any (λ q. q == p) parties
marked peers high low [] p rises is = refl
marked peers high low (q ∷ parties) p rises is =
    let below : nat_lt q high ≡ true = lt-ltb q high (omega (arith, rises.1, is)) in
    (λ i. ((q == p) && below i) || marked peers high q parties p rises.2 is i)
    ∙ ap (λ b. b || list_any (λ q. q == p) parties) (and_true (q == p))

pub round_marked : (round r rounds high : ℕ) → round ≤ rounds → high ≡ rounds + 1 → ((r == round) && nat_lt round high) ≡ (round == r)
round_marked round r rounds high low is =
    let below : nat_lt round high ≡ true = lt-ltb round high (omega (arith, low, is)) in
    ap (λ b. (r == round) && b) below ∙ and_true (r == round) ∙ turned
  where
    turned : (r == round) ≡ (round == r)
    turned = elim (cases_eq r round) [
      | inl e ↦ eq-eqb r round e ∙ sym (eq-eqb round r (sym e))
      | inr ne ↦ ne_eqb r round ne ∙ sym (ne_eqb round r (λ e. ne (sym e)))
    ]
