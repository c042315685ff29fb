-- An opening that isn't bad, of updates that the table knows, is good; and a good opening has a block for each update.
use Rattle.bar_case.specs.Items.{junk_key, junk_item}
use Rattle.bar_case.specs.Opened.{is_bad, is_broken, is_untold, sound_if, digest_finding, findings, opening_by, opened, opened_blocks}
use Rattle.bar_case.specs.Opened as opening
use Rattle.bar_case.specs.declared.findings.Finding.{Finding}
use Rattle.bar_rules.specs.Member.{Session}
use Rattle.bar_rules.specs.Values.{opening_of, is_good, opened_block}
use Rattle.bar_terms.specs.Table.{Table, Digest, Known, PastEnd, NoManifest, digest_of, is_known, is_within}
use Rattle.bar_terms.specs.Terms.{promised_updates, promised_junk, promise}
use Rattle.bar_terms.specs.declared.items.Item.TheVariants.{Update, Junk}
use Rattle.bar_window.specs.Updates.{same_update}
use Rattle.bar_window.specs.declared.exchange.Exchange.{Exchange}
use Rattle.bar_window.specs.declared.update.UpdateId.{UpdateId}
use Rattle.bar_wire.specs.Datagram.{Briefcase}
use Rattle.sha2.specs.Sha256.{sha256}
use Rattle.std.proofs.Common.{◌≡◌, ◌∙◌, ℕ, zero, suc, ◌+◌, ◌<◌, Bool, true, false, not, List, [], ◌∷◌, ◌++◌, length, take, drop, refl, sym, ap, subst, cond, arith, map, nat_lt}
use Rattle.std.specs.Prelude.{Option, Some, None, is_some, option_map, find, zip, position, Contains, slice_index_or}
use Rattle.std.specs.List.{list_all, prefix_len, position_or_len, range_with_len}
use Rattle.std.specs.Simd.{first_chunks}
use Rattle.std.specs.Str.{bytes_eq}
use Rattle.std.proofs.lemmas.Bool.{and_parts, and_from, ltb-true, false_from_ne_true}
use Rattle.bar_window.proofs.Sets.{same_self}

-- ---- if none passes, there is no place

prefix-all : {X : Type 0} (p : X → Bool) (xs : List X) → list_all p xs ≡ true → prefix_len p xs ≡ length xs
prefix-all p [] e = refl
prefix-all p (x ∷ xs) e = let q = and_parts _ _ e in go (p x) q.0 (prefix-all p xs q.1)
  where
    go : (b : Bool) → b ≡ true → prefix_len p xs ≡ length xs → cond b (1 + prefix_len p xs) 0 ≡ length (x ∷ xs)
    go true f h = omega (arith, h)
    go false f h = cc

not-below : (n : ℕ) → nat_lt n n ≡ false
not-below n = false_from_ne_true (nat_lt n n) (λ e. let h : n < n = ltb-true n n e in absurd (omega (arith, h)))

pub no-place : {X : Type 0} (p : X → Bool) (xs : List X) → list_all (λ x. not (p x)) xs ≡ true → position p xs ≡ None
no-place p xs e =
    let all : position_or_len p xs ≡ length xs = prefix-all (λ x. not (p x)) xs e in
    ap (λ n. cond (nat_lt n (length xs)) (Some n) None) all ∙ ap (λ b. cond b (Some (length xs)) None) (not-below (length xs))

-- ---- what a table knows is determined

sound-told : (b : Bool) → not (is_untold (sound_if b)) ≡ true
sound-told true = refl
sound-told false = refl

digest-told : (d : Digest) (block : List ℕ) → is_known d ≡ true → not (is_untold (digest_finding d block)) ≡ true
digest-told (Known d) block e = sound-told (bytes_eq (sha256 block) d)
digest-told PastEnd block e = cc
digest-told NoManifest block e = cc

junk-told : (t : Table) (junk : List ℕ) (ns : List ℕ) (bytes : List ℕ) → list_all (λ f. not (is_untold f)) (findings t junk (map Junk ns) bytes) ≡ true
junk-told t junk [] bytes = refl
junk-told t junk (n ∷ ns) bytes = and_from _ _ (sound-told (bytes_eq (take 1280 bytes) (junk_item junk n))) (junk-told t junk ns (drop 1280 bytes))

pub all-told : (t : Table) (junk : List ℕ) (us : List UpdateId) (ns : List ℕ) (bytes : List ℕ) → is_within t us ≡ true
    → list_all (λ f. not (is_untold f)) (findings t junk (map Update us ++ map Junk ns) bytes) ≡ true
all-told t junk [] ns bytes e = junk-told t junk ns bytes
all-told t junk (u ∷ us) ns bytes e =
    let p = and_parts _ _ e in
    and_from _ _ (digest-told (digest_of t u) (take 1024 bytes) p.0) (all-told t junk us ns (drop 1024 bytes) p.1)

-- ---- good openings

good-by : (broken untold : Option ℕ) (n : ℕ) → untold ≡ None → is_bad (opening_by broken untold n) ≡ false → is_good (opening_by broken untold n) ≡ true
good-by (Some i) untold n e bad = cc
good-by None None n e bad = refl
good-by None (Some i) n e bad = cc

pub good-opening : (s : Session) (t : Table) (x : Exchange) (c : Briefcase) (key : List ℕ) → is_bad (opening_of s t x c key) ≡ false → is_within t (promised_updates s.cap c.terms c.role) ≡ true
    → is_good (opening_of s t x c key) ≡ true
unfolding opening.opening
good-opening s t x c key bad within =
    let fs : List Finding = findings t (junk_key s.shape.id x) (promise s.cap c.terms c.role) (opened key c.cipher) in
    good-by (position is_broken fs) (position is_untold fs) (length fs)
    (no-place is_untold fs (all-told t (junk_key s.shape.id x) (promised_updates s.cap c.terms c.role) (range_with_len 0 (promised_junk c.terms c.role)) (opened key c.cipher) within)) bad

-- ---- the blocks of an opening

found-block : (u : UpdateId) (us : List UpdateId) (bytes : List ℕ) → Contains us u → is_some (option_map (λ p. p.1) (find (λ p. same_update u p.0) (zip us (first_chunks 1024 (length us) bytes)))) ≡ true
found-block u [] bytes c = absurd (omega (arith, c.1))
found-block u (v ∷ us) bytes c = go c.0 c.1 c.2 (found-block u us (drop 1024 bytes))
  where
    rest : Bool → Option (List ℕ)
    rest b = option_map (λ p. p.1) (cond b (Some (v, take 1024 bytes)) (find (λ p. same_update u p.0) (zip us (first_chunks 1024 (length us) (drop 1024 bytes)))))

    go : (k : ℕ) → k < length (v ∷ us) → slice_index_or (v ∷ us) k u ≡ u
        → (Contains us u → is_some (option_map (λ p. p.1) (find (λ p. same_update u p.0) (zip us (first_chunks 1024 (length us) (drop 1024 bytes))))) ≡ true)
        → is_some (rest (same_update u v)) ≡ true
    go zero below at f = ap (λ b. is_some (rest b)) (subst (λ z. same_update u z ≡ true) (sym at) (same_self u))
    go (suc k) below at f = by (same_update u v) (f (k, omega (arith, below), at))
      where
        by : (b : Bool) → is_some (option_map (λ p. p.1) (find (λ p. same_update u p.0) (zip us (first_chunks 1024 (length us) (drop 1024 bytes))))) ≡ true → is_some (rest b) ≡ true
        by true h = refl
        by false h = h

pub has-block : (s : Session) (c : Briefcase) (key : List ℕ) (u : UpdateId) → Contains (promised_updates s.cap c.terms c.role) u → is_some (opened_block s c key u) ≡ true
unfolding opened_block opened_blocks
has-block s c key u e = found-block u (promised_updates s.cap c.terms c.role) (opened key c.cipher) e
