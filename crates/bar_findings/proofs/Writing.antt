-- The actions for each number of a range, at each step of a loop.
use Rattle.std.proofs.Common.{◌≡◌, ℕ, ◌+◌, ◌-◌, ◌<◌, ◌≤◌, ◌^◌, List, [], ◌∷◌, ◌++◌, Option, Some, Result, Ok, Err, sym, ap, ◌∙◌, subst, append-nil, map, length, min, take, IfSome, arith}
use Rattle.std.proofs.lemmas.Grind.{flat_map-append}
use Rattle.std.proofs.lemmas.List.{map-append, take_all}
use Rattle.std.specs.List.{flat_map, range_with_len}
use Rattle.std.specs.Option.{option_to_list}
use Rattle.bar_outside.specs.declared.fault.Fault.{Fault}
use Rattle.bar_outside.specs.Plan.{Outside, Action}
use Rattle.bar_outside.specs.Plan.Action.{append, create}
use Rattle.bar_outside.specs.Code.Follows.{Follows}
use Rattle.bar_outside.proofs.Following.{followed, stopped}
use Rattle.bar_wire.specs.Grammar.{entry as entry_bytes}
use Rattle.bar_findings.specs.Findings.{finding_actions, findings_actions, file_of}
use Rattle.bar_findings.proofs.Ranges.{one-more, split-at}

-- the actions of a list are those of its elements, in order
abbrev pub Joins : {A : Type 0} → (List A → List Action) → Type 0
Joins {A} actions = (xs ys : List A) → actions (xs ++ ys) ≡ actions xs ++ actions ys

module _ {A : Type 0} (actions : List A → List Action) (join : Joins actions) (f : ℕ → List A) (k : ℕ) (old mid : Outside)
    (before : Follows {T = Unit {0}} (actions (flat_map f (range_with_len 1 k))) old mid (Ok tt)) where
  -- the actions of one more number were done
  pub one-written : (new : Outside) → Follows {T = Unit {0}} (actions (f (k + 1))) mid new (Ok tt) →
      Follows {T = Unit {0}} (actions (flat_map f (range_with_len 1 (k + 1)))) old new (Ok tt)
  one-written new now =
      subst (λ plan. Follows {T = Unit {0}} plan old new (Ok tt))
      (sym (ap actions (one-more f k) ∙ join (flat_map f (range_with_len 1 k)) (f (k + 1))))
      (followed (actions (flat_map f (range_with_len 1 k))) (actions (f (k + 1))) old mid new tt before (Ok tt) now)

  -- the actions of this number stopped at a fault
  pub one-unwritten : (new : Outside) (n : ℕ) (fault : Fault) → k < n → Follows {T = Unit {0}} (actions (f (k + 1))) mid new (Err fault) →
      Follows {T = Unit {0}} (actions (flat_map f (range_with_len 1 n))) old new (Err fault)
  one-unwritten new n fault h now =
      let so_far : List A = flat_map f (range_with_len 1 k) in
      let rest : List A = flat_map f (range_with_len (1 + (k + 1)) (n - (k + 1))) in
      subst (λ plan. Follows {T = Unit {0}} plan old new (Err fault))
      (sym (ap actions (split-at f k n h) ∙ join (so_far ++ f (k + 1)) rest ∙ ap (λ xs. xs ++ actions rest) (join so_far (f (k + 1)))))
      (stopped (actions so_far ++ actions (f (k + 1))) (actions rest) old new fault
      (followed (actions so_far) (actions (f (k + 1))) old mid new tt before (Err fault) now))

  -- at the end all are done
  pub all-written : (n : ℕ) → k ≤ n → n ≤ k → Follows {T = Unit {0}} (actions (flat_map f (range_with_len 1 n))) old mid (Ok tt)
  all-written n low high =
      let e : k ≡ n = omega arith in
      subst (λ m. Follows {T = Unit {0}} (actions (flat_map f (range_with_len 1 m))) old mid (Ok tt)) e before

pub findings-join : Joins findings_actions
findings-join xs ys = flat_map-append finding_actions xs ys

-- the entries of manifests, appended to a file
abbrev pub appended-entries : List ℕ → List (List ℕ) → List Action
appended-entries name manifests = map (append name) (map entry_bytes manifests)

pub entries-join : (name : List ℕ) → Joins (appended-entries name)
entries-join name xs ys =
    ap (map (append name)) (map-append entry_bytes xs ys) ∙ map-append (append name) (map entry_bytes xs) (map entry_bytes ys)

-- the file of evidence that exists was written
pub file-there : (word name : List ℕ) (o : Option (List ℕ)) (bytes : List ℕ) (old new : Outside) (r : Result (Unit {0}) Fault) →
    o ≡ Some bytes → word ≡ name → Follows (finding_actions (record { name = word; pieces = bytes ∷ [] })) old new r →
    Follows (findings_actions (file_of name o)) old new r
file-there word name o bytes old new r there is f =
    subst (λ (x : Option (List ℕ)). Follows (findings_actions (file_of name x)) old new r) (sym there)
    (subst (λ n. Follows (findings_actions (file_of n (Some bytes))) old new r) is
    (subst (λ plan. Follows plan old new r) (sym (append-nil (finding_actions (record { name = word; pieces = bytes ∷ [] })))) f))

-- the entry of a manifest that exists was appended
pub entry-there : (name : List ℕ) (o : Option (List ℕ)) (manifest : List ℕ) (old new : Outside) (r : Result (Unit {0}) Fault) →
    o ≡ Some manifest → Follows (append name (entry_bytes manifest) ∷ []) old new r →
    Follows (appended-entries name (option_to_list o)) old new r
entry-there name o manifest old new r there f =
    subst (λ (x : Option (List ℕ)). Follows (appended-entries name (option_to_list x)) old new r) (sym there) f

-- if all manifests are short, a manifest that exists is short
pub short-there : (o : Option (List ℕ)) (manifest : List ℕ) → o ≡ Some manifest → IfSome o (λ m. length m < 2 ^ 16) → length manifest < 2 ^ 16
short-there o manifest there short = subst (λ (x : Option (List ℕ)). IfSome x (λ m. length m < 2 ^ 16)) there short

-- the bytes of a short manifest's entry, written to an empty buffer
pub entry-is : (manifest before bytes : List ℕ) (len most : ℕ) → length manifest < 2 ^ 16 → most ≡ 65535 → len ≡ min (length manifest) most →
    before ≡ [] → bytes ≡ before ++ entry_bytes (take len manifest) → bytes ≡ entry_bytes manifest
entry-is manifest before bytes len most short m least none is =
    let all : length manifest ≤ len = omega arith in
    is ∙ ap (λ xs. xs ++ entry_bytes (take len manifest)) none ∙ ap entry_bytes (take_all len manifest all)

-- the file wasn't created, or it was created but not written; its name is equal to the given one
pub unmade : (word name : List ℕ) (pieces : List (List ℕ)) (old new : Outside) (fault : Fault) → word ≡ name →
    Follows {T = Unit {0}} (create word ∷ []) old new (Err fault) →
    Follows {T = Unit {0}} (finding_actions (record { name = name; pieces = pieces })) old new (Err fault)
unmade word name pieces old new fault is f =
    stopped (create name ∷ []) (map (append name) pieces) old new fault
    (subst (λ n. Follows {T = Unit {0}} (create n ∷ []) old new (Err fault)) is f)

pub made : (word again name : List ℕ) (pieces : List (List ℕ)) (old mid new : Outside) (r : Result (Unit {0}) Fault) → word ≡ name → again ≡ name →
    Follows {T = Unit {0}} (create word ∷ []) old mid (Ok tt) → Follows (map (append again) pieces) mid new r →
    Follows (finding_actions (record { name = name; pieces = pieces })) old new r
made word again name pieces old mid new r is same first second =
    followed (create name ∷ []) (map (append name) pieces) old mid new tt
    (subst (λ n. Follows {T = Unit {0}} (create n ∷ []) old mid (Ok tt)) is first) r
    (subst (λ n. Follows (map (append n) pieces) mid new r) same second)
