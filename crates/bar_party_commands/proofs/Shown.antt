-- Lines that are shown.
use Rattle.std.proofs.Common.{◌≡◌, ◌≤◌, ℕ, List, [], ◌∷◌, ◌++◌, Option, Some, Result, Ok, Err, refl, sym, ap, arith}
use Rattle.bar_outside.specs.Plan.{Action, Outside}
use Rattle.bar_outside.specs.Plan.Action.{show}
use Rattle.bar_outside.specs.Code.Follows.{Follows}
use Rattle.bar_outside.specs.declared.fault.Fault.{Fault}
use Rattle.bar_outside.proofs.Following.{followed, handed, stopped}
use Rattle.bar_findings.proofs.SameFindings.{range-same}
use Rattle.bar_party_commands.specs.Summaries.{party_line, shown_if, shown_parties}

-- evidence is kept, and its line was shown
pub party-shown : (word : List ℕ) (party : ℕ) (kept : Option (List ℕ)) (evidence line : List ℕ) (old new : Outside)
    (result : Result (Unit {0}) Fault) → kept ≡ Some evidence → line ≡ party_line word party → Follows (show line ∷ []) old new result →
    Follows (shown_if word party kept) old new result
party-shown word party kept evidence line old new result is e shown = rw (is, sym e) shown

-- the identity maps concatenation to concatenation
pub same-join : (xs ys : List Action) → (λ (zs : List Action). zs) (xs ++ ys) ≡ xs ++ ys
same-join xs ys = refl

-- ---- a line, and then one for each party against which evidence is kept

-- the same evidence for the parties in range gives the same actions
parties-same : (word : List ℕ) (f g : ℕ → Option (List ℕ)) (peers : ℕ) → ((party : ℕ) → 1 ≤ party → party ≤ peers → f party ≡ g party) →
    shown_parties word f peers ≡ shown_parties word g peers
parties-same word f g peers same =
    range-same (λ party. shown_if word party (f party)) (λ party. shown_if word party (g party)) 1 peers
    (λ party low high. ap (shown_if word party) (same party low (omega arith)))

module _ (text line : List ℕ) (is : text ≡ line) (old : Outside) where
  pub line-stopped : {S T : Type 0} (others : List Action) (new : Outside) (fault : Fault) →
      Follows {T = S} (show text ∷ []) old new (Err fault) → Follows {T = T} (show line ∷ others) old new (Err fault)
  line-stopped others new fault f = rw (sym is) (stopped (show text ∷ []) others old new fault (handed _ _ _ fault f))

  pub line-then : {S T : Type 0} (word : List ℕ) (f g : ℕ → Option (List ℕ)) (count peers : ℕ) (mid new : Outside) (x : S)
      (r : Result T Fault) → count ≡ peers → ((party : ℕ) → 1 ≤ party → party ≤ peers → f party ≡ g party) →
      Follows (show text ∷ []) old mid (Ok x) →
      Follows (shown_parties word f count) mid new r → Follows (show line ∷ shown_parties word g peers) old new r
  line-then word f g count peers mid new x r e same first second =
      rw (sym is, sym (parties-same word f g peers same), sym e)
      (followed (show text ∷ []) (shown_parties word f count) old mid new x first r second)
