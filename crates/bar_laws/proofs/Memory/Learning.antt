-- The knowledge that a log represents after one more entry is the knowledge before, with the entry.
use Rattle.bar_wire.specs.Bodies.{is_manifest_of, divulge_in}
use Rattle.bar_wire.specs.declared.kind.Kind.TheVariants as kinds
use Rattle.bar_window.specs.Updates.{same_update}
use Rattle.bar_window.specs.declared.exchange.Exchange.{Exchange}
use Rattle.bar_window.specs.declared.exchange.Role.{Role}
use Rattle.bar_window.specs.declared.exchange.Role.TheVariants.{Initiator}
use Rattle.bar_window.specs.declared.exchange.XKind.{XKind}
use Rattle.bar_window.specs.declared.exchange.XKind.TheVariants.{Balanced, Push}
use Rattle.bar_wire.specs.declared.kind.Kind.{Kind}
use Rattle.bar_wire.specs.Kinds.{code_of}
use Rattle.bar_wire.specs.Datagram.{is_place, place_by, Datagram, Body, Manifest, Block, Request, Divulge, Query, Key, Evict, is_of, exchange_of, part_of, kind_number, round_of}
use Rattle.bar_rules.specs.Peer.Exchanges.{request_kind, inserted, with_exchange, recent_of, seat, revealed, exchanges_said, IsRising}
use Rattle.bar_rules.specs.Peer.Holdings.{block_of, block_by}
use Rattle.bar_rules.specs.Peer.Knowledge.{Knowledge, table_of, known, this_round, case_heard_of, first_with, with_request, with_tick, with_heard, with_said, with_kept}
use Rattle.bar_rules.specs.Peer.Log.{Log, Ticked, Heard, Said, Kept, first_heard, first_said, count_heard, has_kind_and_round, names_party, manifest, ticks, round_now, kept}
use Rattle.bar_session.specs.Time.{round_after}
use Rattle.bar_rules.specs.Member.{Session, Member}
use Rattle.std.proofs.Common.{◌≡◌, ℕ, ◌≤◌, ◌+◌, Bool, true, false, List, [], ◌∷◌, refl, sym, ap, ◌∙◌, arith, cond, ◌||◌, ◌&&◌, eqb, add-zero}
use Rattle.std.specs.Prelude.{Option, Some, None, is_some, filter, nat_le, option_map}
use Rattle.std.specs.Option.{option_or, option_map_or}
use Rattle.std.specs.Bool.{then_some}
use Rattle.std.specs.List.{list_any}
use Rattle.std.proofs.lemmas.Bool.{leb-true, le-leb, both_ways}
use Rattle.bar_laws.proofs.Memory.OpenList.{opened-rising, picked-inserted, all-picked}
use Rattle.bar_bytes.proofs.Tests.{and-false, or-false}
use Rattle.bar_bytes.proofs.Options.{some-or, some-then, or-none}

-- ---- options and counts

map-then : {A B : Type 0} (b : Bool) (a : A) (c : B) → option_map (λ d. c) (then_some b a) ≡ then_some b c
map-then true a c = refl
map-then false a c = refl

-- ---- open exchanges

-- what passes the second test passes the first
filter-twice : {X : Type 0} (p q : X → Bool) (xs : List X) → ((x : X) → q x ≡ true → p x ≡ true) → filter q (filter p xs) ≡ filter q xs
filter-twice p q [] f = refl
filter-twice p q (x ∷ xs) f = go (p x) (q x) refl refl (filter-twice p q xs f)
  where
    go : (a b : Bool) → p x ≡ a → q x ≡ b → filter q (filter p xs) ≡ filter q xs → filter q (cond a (x ∷ filter p xs) (filter p xs)) ≡ cond b (x ∷ filter q xs) (filter q xs)
    go true b e g h = rw (g, h) refl
    go false false e g h = h
    go false true e g h = absurd (both_ways (p x) e (f x g))

recent-later : (s : Session) (now later : ℕ) (xs : List Exchange) → now ≤ later → recent_of s later (recent_of s now xs) ≡ recent_of s later xs
recent-later s now later xs h =
    filter-twice (λ (x : Exchange). nat_le now (x.round + s.shape.life)) (λ (x : Exchange). nat_le later (x.round + s.shape.life)) xs
    (λ x e. le-leb now (x.round + s.shape.life) (let m : later ≤ x.round + s.shape.life = leb-true later (x.round + s.shape.life) e in omega (arith, m, h)))

picked-rising : (p : Exchange → Bool) (xs : List Exchange) → IsRising xs → IsRising (filter p xs)
picked-rising p [] h = tt
picked-rising p (x ∷ xs) h = go (p x) (picked-rising p xs h.1)
  where
    go : (b : Bool) → IsRising (filter p xs) → IsRising (cond b (x ∷ filter p xs) (filter p xs))
    go true w = (all-picked _ p xs h.0, w)
    go false w = w

recent-with : (s : Session) (now : ℕ) (o : Option Exchange) (xs : List Exchange) → IsRising xs → recent_of s now (with_exchange o (recent_of s now xs)) ≡ recent_of s now (with_exchange o xs)
recent-with s now None xs r = recent-later s now now xs (omega arith)
recent-with s now (Some x) xs r =
    let p : Exchange → Bool = (λ z. nat_le now (z.round + s.shape.life)) in
    picked-inserted p x (filter p xs) (picked-rising p xs r)
    ∙ ap (λ ys. cond (p x) (inserted x ys) ys) (recent-later s now now xs (omega arith))
    ∙ sym (picked-inserted p x xs r)

-- ---- a datagram, whatever its kind

-- what any datagram adds, field by field
abbrev pub grown : Member → Datagram → Knowledge → Knowledge
grown me d k = record k {
  manifest = λ round. option_or (k.manifest round) (then_some (is_manifest_of round d.message.body) d);
  has_evict = λ round. k.has_evict round || has_kind_and_round kinds.Evict round d.message;
  is_announced = λ party. k.is_announced party || names_party party d.message;
  block = λ u. option_or (k.block u) (block_by me.session (this_round k) (table_of k) (case_heard_of k) u d.message d.message.body);
  heard = first_with d k.heard;
  revealed = λ x. option_or (k.revealed x) (cond (is_of kinds.Divulge x Initiator d.message) (divulge_in d.message.body) None);
  seat = λ x. option_or (k.seat x) (then_some (is_of (request_kind x.kind) x Initiator d.message) (k.asked x.kind x.round));
  asked = λ kind round. k.asked kind round + cond (has_kind_and_round (request_kind kind) round d.message) 1 0;
}

cond-then : {A : Type 0} (b : Bool) (a : A) → cond b (Some a) None ≡ then_some b a
cond-then true a = refl
cond-then false a = refl

-- a kind that is no request
not-asking : (n : ℕ) (kind : XKind) → eqb n 3 ≡ false → eqb n 6 ≡ false → eqb n (code_of (request_kind kind)) ≡ false
not-asking n Balanced e f = e
not-asking n Push e f = f

abbrev with_body : Datagram → Body → Datagram
with_body d b = record { message = record { from = d.message.from; to = d.message.to; body = b }; signature = d.signature }

-- what is the same whatever is heard, except for these
module _ (me : Member) (d : Datagram) (k : Knowledge) where
  -- a message that is of no exchange
  apart : (b : Body) → part_of b ≡ None → (kind : Kind) (x : Exchange) (role : Role) → is_of kind x role (with_body d b).message ≡ false
  apart b e kind x role = ap (λ o. eqb (kind_number b) (code_of kind) && option_map_or (is_place x role) (option_map (place_by d.message.from d.message.to) o) false) e ∙ and-false (eqb (kind_number b) (code_of kind))

  unheard : (b : Body) → part_of b ≡ None → (kind : Kind) (x : Exchange) (role : Role) → first_with (with_body d b) k.heard kind x role ≡ k.heard kind x role
  unheard b e kind x role = ap (λ t. option_or (k.heard kind x role) (then_some t (with_body d b))) (apart b e kind x role) ∙ or-none (k.heard kind x role)

  unasked : (b : Body) → eqb (kind_number b) 3 ≡ false → eqb (kind_number b) 6 ≡ false → (kind : XKind) (round : ℕ)
      → k.asked kind round + cond (has_kind_and_round (request_kind kind) round (with_body d b).message) 1 0 ≡ k.asked kind round
  unasked b e f kind round = ap (λ t. k.asked kind round + cond (t && eqb (round_of b) round) 1 0) (not-asking (kind_number b) kind e f) ∙ add-zero (k.asked kind round)

  unseated : (b : Body) → eqb (kind_number b) 3 ≡ false → eqb (kind_number b) 6 ≡ false → (x : Exchange)
      → option_or (k.seat x) (then_some (is_of (request_kind x.kind) x Initiator (with_body d b).message) (k.asked x.kind x.round)) ≡ k.seat x
  unseated b e f x =
      ap (λ t. option_or (k.seat x) (then_some (t && option_map_or (is_place x Initiator) (option_map (place_by d.message.from d.message.to) (part_of b)) false) (k.asked x.kind x.round))) (not-asking (kind_number b) x.kind e f)
      ∙ or-none (k.seat x)

  pub by-kind : (b : Body) → grown me (with_body d b) k ≡ with_heard me (with_body d b) k
  by-kind (Manifest r ds) =
      λ i.
      record k {
        has_evict = λ round. or-false (k.has_evict round) i;
        is_announced = λ party. or-false (k.is_announced party) i;
        manifest = λ round. option_or (k.manifest round) (then_some (eqb r round) (with_body d (Manifest r ds)));
        block = λ u. or-none (k.block u) i;
        heard = λ kind x role. unheard (Manifest r ds) refl kind x role i;
        revealed = λ x. (ap (λ t. option_or (k.revealed x) (cond t None None)) (apart (Manifest r ds) refl kinds.Divulge x Initiator) ∙ or-none (k.revealed x)) i;
        seat = λ x. unseated (Manifest r ds) refl refl x i;
        asked = λ kind round. unasked (Manifest r ds) refl refl kind round i;
      }
  by-kind (Block v block) =
      λ i.
      record k {
        has_evict = λ round. or-false (k.has_evict round) i;
        is_announced = λ party. or-false (k.is_announced party) i;
        manifest = λ round. or-none (k.manifest round) i;
        block = λ u. option_or (k.block u) (then_some (same_update u v) block);
        heard = λ kind x role. unheard (Block v block) refl kind x role i;
        revealed = λ x. (ap (λ t. option_or (k.revealed x) (cond t None None)) (apart (Block v block) refl kinds.Divulge x Initiator) ∙ or-none (k.revealed x)) i;
        seat = λ x. unseated (Block v block) refl refl x i;
        asked = λ kind round. unasked (Block v block) refl refl kind round i;
      }
  by-kind (Evict r parties) =
      λ i.
      record k {
        manifest = λ round. or-none (k.manifest round) i;
        block = λ u. or-none (k.block u) i;
        has_evict = λ round. k.has_evict round || eqb r round;
        is_announced = λ party. k.is_announced party || list_any (λ q. eqb q party) parties;
        heard = λ kind x role. unheard (Evict r parties) refl kind x role i;
        revealed = λ x. (ap (λ t. option_or (k.revealed x) (cond t None None)) (apart (Evict r parties) refl kinds.Divulge x Initiator) ∙ or-none (k.revealed x)) i;
        seat = λ x. unseated (Evict r parties) refl refl x i;
        asked = λ kind round. unasked (Evict r parties) refl refl kind round i;
      }
  by-kind (Request r seed c) =
      λ i.
      record (with_request (with_body d (Request r seed c)) k) {
        has_evict = λ round. or-false (k.has_evict round) i;
        is_announced = λ party. or-false (k.is_announced party) i;
        manifest = λ round. or-none (k.manifest round) i;
        block = λ u. or-none (k.block u) i;
        revealed = λ x. or-none (k.revealed x) i;
      }
  by-kind (Query r seed y o) =
      λ i.
      record (with_request (with_body d (Query r seed y o)) k) {
        has_evict = λ round. or-false (k.has_evict round) i;
        is_announced = λ party. or-false (k.is_announced party) i;
        manifest = λ round. or-none (k.manifest round) i;
        block = λ u. or-none (k.block u) i;
        revealed = λ x. or-none (k.revealed x) i;
      }
  by-kind (Divulge r nonce ha) =
      λ i.
      record k {
        has_evict = λ round. or-false (k.has_evict round) i;
        is_announced = λ party. or-false (k.is_announced party) i;
        manifest = λ round. or-none (k.manifest round) i;
        block = λ u. or-none (k.block u) i;
        heard = first_with (with_body d (Divulge r nonce ha)) k.heard;
        revealed = λ x. option_or (k.revealed x) (cond-then (is_of kinds.Divulge x Initiator (with_body d (Divulge r nonce ha)).message) (nonce, ha) i);
        seat = λ x. unseated (Divulge r nonce ha) refl refl x i;
        asked = λ kind round. unasked (Divulge r nonce ha) refl refl kind round i;
      }
  by-kind (Key g) =
      λ i.
      record k {
        has_evict = λ round. or-false (k.has_evict round) i;
        is_announced = λ party. or-false (k.is_announced party) i;
        manifest = λ round. or-none (k.manifest round) i;
        block = λ u. option_or (k.block u) (block_by me.session (this_round k) (table_of k) (case_heard_of k) u (with_body d (Key g)).message (Key g));
        heard = first_with (with_body d (Key g)) k.heard;
        revealed = λ x. or-none (k.revealed x) i;
        seat = λ x. unseated (Key g) refl refl x i;
        asked = λ kind round. unasked (Key g) refl refl kind round i;
      }
  by-kind b =
      λ i.
      record k {
        has_evict = λ round. or-false (k.has_evict round) i;
        is_announced = λ party. or-false (k.is_announced party) i;
        manifest = λ round. or-none (k.manifest round) i;
        block = λ u. or-none (k.block u) i;
        heard = first_with (with_body d b) k.heard;
        revealed = λ x. or-none (k.revealed x) i;
        seat = λ x. unseated b refl refl x i;
        asked = λ sort round. unasked b refl refl sort round i;
      }

-- ---- one more entry

module _ (me : Member) (log : Log) where
  pub known-ticked : known me (Ticked ∷ log) ≡ with_tick me (known me log)
  known-ticked =
      let still : recent_of me.session (round_after (ticks log + 1)) (exchanges_said log) ≡ recent_of me.session (round_after (ticks log + 1)) (recent_of me.session (round_now log) (exchanges_said log)) =
      sym (recent-later me.session (round_now log) (round_after (ticks log + 1)) (exchanges_said log) (omega arith))
      in
      λ i.
      record {
        ticks = ticks log + 1;
        manifest = λ round. or-none (manifest log round) i;
        has_evict = λ round. is_some (or-none (first_heard (has_kind_and_round kinds.Evict round) log) i);
        is_announced = λ party. is_some (or-none (first_heard (names_party party) log) i);
        evidence = λ party. or-none (kept log party) i;
        block = λ u. or-none (block_of me.session log u) i;
        heard = λ kind x role. or-none (first_heard (is_of kind x role) log) i;
        said = λ kind x role. or-none (first_said (is_of kind x role) log) i;
        revealed = λ x. or-none (revealed me log x) i;
        seat = λ x. or-none (seat log x) i;
        asked = λ kind round. add-zero (count_heard (has_kind_and_round (request_kind kind) round) log) i;
        opens = still i;
      }

  pub known-grown : (d : Datagram) → known me (Heard d ∷ log) ≡ grown me d (known me log)
  known-grown d =
      λ i.
      record {
        ticks = add-zero (ticks log) i;
        manifest = manifest (Heard d ∷ log);
        has_evict = λ round. some-or (first_heard (has_kind_and_round kinds.Evict round) log) (has_kind_and_round kinds.Evict round d.message) d i;
        is_announced = λ party. some-or (first_heard (names_party party) log) (names_party party d.message) d i;
        evidence = λ party. or-none (kept log party) i;
        block = λ u. block_of me.session (Heard d ∷ log) u;
        heard = λ kind x role. first_heard (is_of kind x role) (Heard d ∷ log);
        said = λ kind x role. or-none (first_said (is_of kind x role) log) i;
        revealed = λ x. revealed me (Heard d ∷ log) x;
        seat = λ x. option_or (seat log x) (map-then (is_of (request_kind x.kind) x Initiator d.message) d (count_heard (has_kind_and_round (request_kind x.kind) x.round) log) i);
        asked = λ kind round. count_heard (has_kind_and_round (request_kind kind) round) log + cond (some-then (has_kind_and_round (request_kind kind) round d.message) d i) 1 0;
        opens = recent_of me.session (round_after (add-zero (ticks log) i)) (exchanges_said log);
      }

  pub known-heard : (d : Datagram) → known me (Heard d ∷ log) ≡ with_heard me d (known me log)
  known-heard d = known-grown d ∙ by-kind me d (known me log) d.message.body

  pub known-said : (d : Datagram) → known me (Said d ∷ log) ≡ with_said me d (known me log)
  known-said d =
      let o : Option Exchange = exchange_of d.message in
      let still : recent_of me.session (round_after (ticks log + 0)) (with_exchange o (exchanges_said log)) ≡ recent_of me.session (round_now log) (with_exchange o (recent_of me.session (round_now log) (exchanges_said log))) =
      ap (λ n. recent_of me.session (round_after n) (with_exchange o (exchanges_said log))) (add-zero (ticks log)) ∙ sym (recent-with me.session (round_now log) o (exchanges_said log) (opened-rising log))
      in
      λ i.
      record {
        ticks = add-zero (ticks log) i;
        manifest = λ round. or-none (manifest log round) i;
        has_evict = λ round. is_some (or-none (first_heard (has_kind_and_round kinds.Evict round) log) i);
        is_announced = λ party. is_some (or-none (first_heard (names_party party) log) i);
        evidence = λ party. or-none (kept log party) i;
        block = λ u. or-none (block_of me.session log u) i;
        heard = λ kind x role. or-none (first_heard (is_of kind x role) log) i;
        said = λ kind x role. first_said (is_of kind x role) (Said d ∷ log);
        revealed = λ x. revealed me (Said d ∷ log) x;
        seat = λ x. or-none (seat log x) i;
        asked = λ kind round. add-zero (count_heard (has_kind_and_round (request_kind kind) round) log) i;
        opens = still i;
      }

  pub known-kept : (q : ℕ) (evidence : List (List ℕ)) → known me (Kept q evidence ∷ log) ≡ with_kept q evidence (known me log)
  known-kept q evidence =
      λ i.
      record {
        ticks = add-zero (ticks log) i;
        manifest = λ round. or-none (manifest log round) i;
        has_evict = λ round. is_some (or-none (first_heard (has_kind_and_round kinds.Evict round) log) i);
        is_announced = λ party. is_some (or-none (first_heard (names_party party) log) i);
        evidence = λ party. kept (Kept q evidence ∷ log) party;
        block = λ u. or-none (block_of me.session log u) i;
        heard = λ kind x role. or-none (first_heard (is_of kind x role) log) i;
        said = λ kind x role. or-none (first_said (is_of kind x role) log) i;
        revealed = λ x. or-none (revealed me log x) i;
        seat = λ x. or-none (seat log x) i;
        asked = λ kind round. add-zero (count_heard (has_kind_and_round (request_kind kind) round) log) i;
        opens = recent_of me.session (round_after (add-zero (ticks log) i)) (exchanges_said log);
      }
