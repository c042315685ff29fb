-- The kept CASEs are due now.
use Rattle.std.proofs.Common.{◌≡◌, ◌⊎◌, inl, inr, Bool, true, false, List, ℕ, refl, sym, subst}
use Rattle.bar_window.specs.declared.exchange.Exchange.{Exchange}
use Rattle.bar_peer.specs.Code.Cases.{AreCasesNow, IsCaseNow, IsIn, IsInOrNew, KeepsNone}
use Rattle.bar_peer.specs.declared.cases.Cases.{Cases}
use Rattle.bar_peer.specs.declared.memory.Memory.{Memory}

-- if no room is labelled, no CASE is kept
pub none_kept : (m : Memory) (c : Cases) → KeepsNone c → AreCasesNow m c
none_kept m c none x bytes is = absurd (cc (none is.number, is.named))

-- if the memory changed, the kept CASEs are dropped
pub kept_while : (old new : Memory) (before after : Cases) (same : Bool) → AreCasesNow old before → (same ≡ true → new ≡ old)
    → (same ≡ true → after ≡ before) → (same ≡ false → KeepsNone after) → AreCasesNow new after
kept_while old new before after true h memory kept cleared =
    subst (λ m. AreCasesNow m after) (sym (memory refl)) (subst (AreCasesNow old) (sym (kept refl)) h)
kept_while old new before after false h memory kept cleared = none_kept new after (cleared refl)

-- one more CASE is kept
pub kept_more : (m : Memory) (old new : Cases) (x : Exchange) (bytes : List ℕ) → AreCasesNow m old → IsInOrNew x bytes old new
    → IsCaseNow m x bytes → AreCasesNow m new
kept_more m old new x bytes h more now y kept is = go (more y kept is)
  where
    go : (IsIn old y kept ⊎ ((y ≡ x) × (kept ≡ bytes))) → IsCaseNow m y kept
    go (inl was) = h y kept was
    go (inr same) = subst (λ z. IsCaseNow m z kept) (sym same.0) (subst (IsCaseNow m x) (sym same.1) now)
