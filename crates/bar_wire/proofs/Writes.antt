-- Writes, one after the other.
use Rattle.std.proofs.Common.{◌≡◌, ℕ, ◌+◌, List, [], ◌++◌, length, take, drop, sym, ap, subst, ◌∙◌, append_assoc, length-append, arith}
use Rattle.std.proofs.lemmas.List.{append-nil, drop-drop}
use Rattle.bar_bytes.specs.Code.Putting.{Appends}

pub writes_then : {old mid new : List ℕ} {at end after : ℕ} {bytes more : List ℕ} → Appends old at bytes mid end → Appends mid end more new after → Appends old at (bytes ++ more) new after
writes_then {old = old} {mid = mid} {new = new} {at = at} {end = end} {after = after} {bytes = bytes} {more = more} p q =
    let n : end + length more ≡ after = sym q.end_is in
    let moved : drop after mid ≡ drop after old = ap (λ k. drop k mid) q.end_is ∙ sym (drop-drop (length more) end mid) ∙ ap (drop (length more)) p.back ∙ drop-drop (length more) end old ∙ ap (λ k. drop k old) n in
    record {
      front = q.front ∙ ap (λ (x : List ℕ). x ++ more) p.front ∙ append_assoc (take at old) bytes more;
      back = q.back ∙ moved;
      end_is = omega (arith, p.end_is, q.end_is, length-append bytes more);
      long = q.long ∙ p.long;
    }

-- the last of several pieces
pub writes_last : {old new : List ℕ} {at end : ℕ} {bytes : List ℕ} → Appends old at bytes new end → Appends old at (bytes ++ []) new end
writes_last {old = old} {new = new} {at = at} {end = end} {bytes = bytes} p = subst (λ (x : List ℕ). Appends old at x new end) (sym (append-nil bytes)) p

-- a write of the same bytes
pub writes_same : {old new : List ℕ} {at end : ℕ} {bytes : List ℕ} (more : List ℕ) → bytes ≡ more → Appends old at bytes new end → Appends old at more new end
writes_same {old = old} {new = new} {at = at} {end = end} more e p = subst (λ (x : List ℕ). Appends old at x new end) e p
