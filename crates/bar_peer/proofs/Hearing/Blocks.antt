-- A good opening gives the blocks of its alive updates.
use Rattle.std.proofs.Common.{◌≡◌, ◌∙◌, ℕ, ◌+◌, ◌&&◌, Bool, true, false, List, [], ◌∷◌, ◌++◌, map, Option, Some, None, is_some, sym, ap, refl, nat_le, nat_lt, if◌then◌else◌, cond, find, zip, option_map}
use Rattle.std.specs.Bool.{then_some}
use Rattle.std.specs.List.{range_with_len}
use Rattle.std.specs.Option.{option_or}
use Rattle.std.proofs.lemmas.Bool.{le-leb}
use Rattle.std.proofs.lemmas.Slice.Eq.{bytes_eq-Decides}
use Rattle.sha2.specs.Sha256.{sha256}
use Rattle.bar_window.specs.declared.exchange.Exchange.{Exchange}
use Rattle.bar_window.specs.declared.update.UpdateId.{UpdateId}
use Rattle.bar_window.specs.Updates.{same_update}
use Rattle.bar_terms.specs.declared.items.Item.TheVariants.{Update, Junk}
use Rattle.bar_terms.specs.Table.{Table, Known, digest_in, digest_of}
use Rattle.bar_terms.specs.Terms.{promise, promised_junk, promised_updates}
use Rattle.bar_case.specs.Opened.{AreTold, opened_blocks}
use Rattle.bar_case.specs.declared.findings.Opening.{Opening}
use Rattle.bar_case.specs.declared.findings.Opening.TheVariants.{Good, Bad, Unknown}
use Rattle.bar_wire.specs.Datagram.{Briefcase}
use Rattle.bar_rules.specs.Member.{Session, is_alive}
use Rattle.bar_rules.specs.Values.{opening_of, is_good, opened_block}
use Rattle.bar_rules.specs.Peer.Admission.{has_digest}
use Rattle.bar_peer.specs.Code.Opening.{is_to_hold, block_in_item, block_in_items, IsNear, AreGiven}
use Rattle.bar_window.proofs.Sets.{same_is}
use Rattle.bar_peer.proofs.Hearing.Items.{none_if}
use Rattle.bar_bytes.proofs.Tests.{and-false}

-- the block of an update, from a list of updates and their blocks
abbrev block_among : List UpdateId → List (List ℕ) → UpdateId → Option (List ℕ)
block_among us blocks u = option_map (λ p. p.1) (find (λ p. same_update u p.0) (zip us blocks))

known_listed : (o : Option (List (List ℕ))) (index : ℕ) (d : List ℕ) → digest_in o index ≡ Known d → is_some o ≡ true
known_listed (Some ds) index d e = refl
known_listed None index d e = absurd (cc)

-- a block with the digest in the table is to be held if and only if its update is alive
told_held : (table : Table) (life now : ℕ) (v : UpdateId) (block : List ℕ) → digest_of table v ≡ Known (sha256 block) → IsNear table now
    → is_to_hold table life now v block ≡ (nat_lt now (v.round + life) && true)
told_held table life now v block told near =
    let soon : nat_le v.round (now + 1) ≡ true = le-leb v.round (now + 1) (near v.round (known_listed (table v.round) v.index (sha256 block) told)) in
    let has : has_digest (digest_of table v) block ≡ true = ap (λ d. has_digest d block) told ∙ (bytes_eq-Decides (sha256 block) (sha256 block)).1 refl in
    λ i. soon i && (nat_lt now (v.round + life) && has i)

junk_none : (table : Table) (life now : ℕ) (ns : List ℕ) (blocks : List (List ℕ)) (u : UpdateId) → block_in_items table life now (map Junk ns) blocks u ≡ None
junk_none table life now [] blocks u = refl
junk_none table life now (n ∷ ns) [] u = refl
junk_none table life now (n ∷ ns) (block ∷ blocks) u = junk_none table life now ns blocks u

-- adding an update to the list puts its block before the others
among_more : (table : Table) (life now : ℕ) (v : UpdateId) (block : List ℕ) (us : List UpdateId) (blocks : List (List ℕ)) (u : UpdateId) (others : Option (List ℕ))
    → digest_of table v ≡ Known (sha256 block) → IsNear table now
    → others ≡ (if nat_lt now (u.round + life) then block_among us blocks u else None)
    → option_or (block_in_item table life now (Update v) block u) others
    ≡ (if nat_lt now (u.round + life) then block_among (v ∷ us) (block ∷ blocks) u else None)
among_more table life now v block us blocks u others told near rest = by (same_update u v) refl
  where
    alive : (b : Bool) → nat_lt now (u.round + life) ≡ b → option_or (then_some ((b && true) && true) block) others ≡ (if b then Some block else None)
    alive true e = refl
    alive false e = rest ∙ ap (λ b. if b then block_among us blocks u else None) e

    by : (same : Bool) → same_update u v ≡ same
        → option_or (then_some (is_to_hold table life now v block && same) block) others
        ≡ (if nat_lt now (u.round + life) then option_map (λ p. p.1) (cond same (Some (v, block)) (find (λ p. same_update u p.0) (zip us blocks))) else None)
    by false e = ap (λ b. option_or (then_some b block) others) (and-false (is_to_hold table life now v block)) ∙ rest
    by true e =
        (λ i. option_or (then_some (told_held table life now v block told near i && true) block) others)
        ∙ (λ i. option_or (then_some ((nat_lt now ((sym (same_is u v e) i).round + life) && true) && true) block) others)
        ∙ alive (nat_lt now (u.round + life)) refl

among_items : (table : Table) (life now : ℕ) (us : List UpdateId) (ns : List ℕ) (blocks rest : List (List ℕ)) (u : UpdateId)
    → AreTold table us blocks → IsNear table now
    → block_in_items table life now (map Update us ++ map Junk ns) (blocks ++ rest) u ≡ (if nat_lt now (u.round + life) then block_among us blocks u else None)
among_items table life now [] ns blocks rest u told near = junk_none table life now ns (blocks ++ rest) u ∙ none_if (nat_lt now (u.round + life))
among_items table life now (v ∷ us) ns [] rest u told near = absurd told
among_items table life now (v ∷ us) ns (block ∷ blocks) rest u told near =
    among_more table life now v block us blocks u _ told.0 near (among_items table life now us ns blocks rest u told.1 near)

pub good_given : (s : Session) (table : Table) (x : Exchange) (c : Briefcase) (key : List ℕ) (n : ℕ) (rest : List (List ℕ)) (now : ℕ)
    → opening_of s table x c key ≡ Good n
    → AreTold table (promised_updates s.cap c.terms c.role) (opened_blocks s.cap c.terms c.role c.cipher key) → IsNear table now
    → AreGiven s now table x key (Some c) (promise s.cap c.terms c.role) (opened_blocks s.cap c.terms c.role c.cipher key ++ rest)
unfolding opened_block
good_given s table x c key n rest now good told near u =
    among_items table s.shape.life now (promised_updates s.cap c.terms c.role) (range_with_len 0 (promised_junk c.terms c.role)) (opened_blocks s.cap c.terms c.role c.cipher key) rest u told near
    ∙ (λ i. if is_alive s u.round now then (if is_good (sym good i) then opened_block s c key u else None) else None)

not_good : (o : Opening) → ((n : ℕ) → o ≡ Good n → ⊥) → is_good o ≡ false
not_good (Good n) bad = absurd (bad n refl)
not_good (Bad item) bad = refl
not_good (Unknown item) bad = refl

-- a bad opening gives no block
pub bad_given : (s : Session) (table : Table) (x : Exchange) (c : Briefcase) (key : List ℕ) (blocks : List (List ℕ)) (now : ℕ)
    → ((n : ℕ) → opening_of s table x c key ≡ Good n → ⊥) → AreGiven s now table x key (Some c) [] blocks
unfolding opened_block
bad_given s table x c key blocks now bad u =
    none_if (is_alive s u.round now)
    ∙ (λ i. if is_alive s u.round now then (if sym (not_good (opening_of s table x c key) bad) i then opened_block s c key u else None) else None)
