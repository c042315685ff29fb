-- The children started so far.
use Rattle.std.proofs.Common.{◌≡◌, ◌≤◌, ◌∷◌, ◌++◌, [], ℕ, suc, List, Ok, map, length, length-append, refl, sym, ap, ◌∙◌, append-nil, append_assoc, arith}
use Rattle.std.proofs.lemmas.List.{map-append}
use Rattle.bar_outside.specs.Code.Children.{ChildCall, Children, Started, Starts}
use Rattle.bar_child_processes.specs.Names.{SessionNames}
use Rattle.bar_child_processes.specs.Sessions.{AreRunning}
use Rattle.bar_child_processes.specs.Words.{first_parties, party_at, words_of}
use Rattle.bar_child_processes.proofs.Running.{running-started}

-- the start of a child for this party, with this number
abbrev pub start_in : SessionNames → ℕ × ℕ → ChildCall
start_in names key = Started (words_of names key.0) key.1

-- the first parties were started, as children with these numbers
pub record Starting (names : SessionNames) (peers : ℕ) (started : List (ℕ × ℕ)) (old new : Children) : Type 0 where
  pub parties : map (λ key. key.0) started ≡ first_parties peers (length started)
  pub reliable : new.reliable ≡ old.reliable
  pub later : old.faults ≤ new.faults
  pub calls : new.calls ≡ old.calls ++ map (start_in names) started
  pub running : AreRunning new.calls (map (λ key. key.1) started)

pub starting-none : (names : SessionNames) (peers : ℕ) (children : Children) → Starting names peers [] children children
starting-none names peers children = record {
  parties = refl;
  reliable = refl;
  later = omega arith;
  calls = sym (append-nil children.calls);
  running = tt;
}

-- one more child
pub starting-more : (names : SessionNames) (peers : ℕ) (started : List (ℕ × ℕ)) (old mid new : Children) (party number : ℕ) →
    Starting names peers started old mid → Starts (words_of names party) mid new (Ok number) → party ≡ party_at peers (length started) →
    Starting names peers (started ++ (party, number) ∷ []) old new
starting-more names peers started old mid new party number s one here =
    let key : ℕ × ℕ = (party, number) in
    let longer : length (started ++ key ∷ []) ≡ suc (length started) = length-append started (key ∷ []) ∙ omega arith in
    record {
      parties = map-append (λ (k : ℕ × ℕ). k.0) started (key ∷ [])
          ∙ (ap (λ parties. parties ++ party ∷ []) s.parties
          ∙ (ap (λ p. first_parties peers (length started) ++ p ∷ []) here ∙ ap (first_parties peers) (sym longer)));
      reliable = one.call.reliable ∙ s.reliable;
      later = let h = s.later in let k = one.call.cause.later in omega arith;
      calls = one.added
          ∙ (ap (λ calls. calls ++ start_in names key ∷ []) s.calls
          ∙ (append_assoc old.calls (map (start_in names) started) (start_in names key ∷ [])
          ∙ ap (λ calls. old.calls ++ calls) (sym (map-append (start_in names) started (key ∷ [])))));
      running =
          rw (one.added, map-append (λ (k : ℕ × ℕ). k.1) started (key ∷ []))
          (running-started mid.calls (words_of names party) number (map (λ (k : ℕ × ℕ). k.1) started) one.new_child
          s.running);
    }
