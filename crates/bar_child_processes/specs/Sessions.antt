-- A session's run: it starts children, waits for them and prints their statuses.
use Rattle.std.specs.Prelude.{◌≡◌, ◌≢◌, ◌≤◌, ◌+◌, ◌⊎◌, ◌||◌, ◌==◌, ℕ, ℤ, true, false, not, List, [], ◌∷◌, ◌++◌, Ok, length, map, take, IsTrue}
use Rattle.std.specs.List.{list_any}
use Rattle.bar_outside.specs.Code.Causes.{Rose}
use Rattle.bar_outside.specs.Code.Children.{ChildCall, Children, IsRunning, Started}
use Rattle.bar_outside.specs.Stream.{Stream}
use Rattle.bar_child_processes.specs.Family.{Child, ReportData, Shown, broken_lines, calls_of, code_of_end, code_of_shown, is_broken, is_in_order, is_refused, is_refused_wait, is_tried, prints_after, wait_of, whole_lines, with_children}
use Rattle.bar_child_processes.specs.Outcomes.{joined}
use Rattle.bar_child_processes.specs.Names.{SessionNames}
use Rattle.bar_child_processes.specs.Words.{first_parties, words_of}

-- the party and the number of a child
abbrev pub key_of : Child → ℕ × ℕ
key_of child = (child.party, child.number)

-- the lines of these children were printed, whole or in part
pub record ShowsLines (family : List Child) (old new : Stream) : Type 0 where
  pub reliable : new.reliable ≡ old.reliable
  pub later : old.faults ≤ new.faults
  pub rose : list_any (λ child. is_refused child.shown) family ≡ true → Rose old.faults new.faults
  pub refused : IsTrue old.reliable → list_any (λ child. is_refused child.shown) family ≡ false
  pub bytes : (k : ℕ) × (new.bytes ≡ old.bytes ++ (whole_lines family ++ take k (broken_lines family)))

-- the status of a child was printed, or its line was refused
pub record ShowsStatus (party number : ℕ) (status : ℤ) (was now : ReportData) (old new : Stream) : Type 0 where
  pub shown : Shown
  pub tried : is_tried shown ≡ true
  pub shows : ShowsLines (record { party = party; number = number; ended = Ok status; shown = shown } ∷ []) old new
  pub prints : now.prints ≡ not (is_broken shown)
  pub code : now.code ≡ joined (joined was.code (code_of_shown shown)) (code_of_end shown (Ok status))

-- these children were waited for, each once and in order
pub record WaitsForEach (family : List Child) (old new : Children) : Type 0 where
  pub reliable : new.reliable ≡ old.reliable
  pub later : old.faults ≤ new.faults
  pub rose : list_any (λ child. is_refused_wait child.ended) family ≡ true → Rose old.faults new.faults
  pub refused : IsTrue old.reliable → list_any (λ child. is_refused_wait child.ended) family ≡ false
  pub calls : new.calls ≡ old.calls ++ map wait_of family

-- The children of these parties and numbers were waited for, and their statuses printed.
pub record Reports (started : List (ℕ × ℕ)) (was now : ReportData) (out_old out_new : Stream) (old new : Children) : Type 0 where
  pub family : List Child
  pub are : map key_of family ≡ started
  pub waits : WaitsForEach family old new
  pub shows : ShowsLines family out_old out_new
  pub in_order : IsTrue (is_in_order was.prints family)
  pub prints : now.prints ≡ prints_after was.prints family
  pub code : now.code ≡ with_children was.code family

-- these children are running and distinct
abbrev pub AreRunning : List ChildCall → List ℕ → Type 0
AreRunning calls [] = Unit {0}
AreRunning calls (n ∷ ns) = IsRunning n calls × ((list_any (λ m. m == n) ns ≡ false) × AreRunning calls ns)

-- 0 if every child was started; otherwise the children before a refused start were started, and this is its status
abbrev pub AreAllStarted : ℕ → ℕ → ℕ → Type 0
AreAllStarted peers started stop =
    ((stop ≡ 0) × (started ≡ peers + 1)) ⊎ (((stop ≡ 9) ⊎ (stop ≡ 70)) × (started ≤ peers))

-- Children of these parties and numbers were started.
pub record StartsAll (names : SessionNames) (peers : ℕ) (started : List (ℕ × ℕ)) (old new : Children) (stop : ℕ) : Type 0 where
  pub parties : map (λ key. key.0) started ≡ first_parties peers (length started)
  pub all : AreAllStarted peers (length started) stop
  pub reliable : new.reliable ≡ old.reliable
  pub later : old.faults ≤ new.faults
  pub rose : stop ≡ 9 → Rose old.faults new.faults
  pub refused : IsTrue old.reliable → stop ≢ 9
  pub calls : new.calls ≡ old.calls ++ map (λ key. Started (words_of names key.0) key.1) started
  pub running : AreRunning new.calls (map (λ key. key.1) started)

-- A session with this many peers started its children, waited for them and printed their statuses, and ended with this status.
pub record SessionRan (names : SessionNames) (peers : ℕ) (out_old out_new : Stream) (old new : Children) (status : ℕ) : Type 0 where
  -- the children that were started, in order
  pub family : List Child
  pub parties : map (λ child. child.party) family ≡ first_parties peers (length family)
  -- 0 if all were started, or the status of the refused start
  pub stop : ℕ
  pub all : AreAllStarted peers (length family) stop
  pub calls : new.calls ≡ old.calls ++ calls_of names family
  pub reliable : new.reliable ≡ old.reliable
  pub later : old.faults ≤ new.faults
  pub rose : (stop == 9) || list_any (λ child. is_refused_wait child.ended) family ≡ true → Rose old.faults new.faults
  pub refused : IsTrue old.reliable → (stop == 9) || list_any (λ child. is_refused_wait child.ended) family ≡ false
  pub shows : ShowsLines family out_old out_new
  pub in_order : IsTrue (is_in_order true family)
  pub code : status ≡ with_children stop family
