-- Arguments that are accepted give each option a value.
use Rattle.std.proofs.Common.{option_and_then, option_map, inl, inr, ◌≡◌, ◌∙◌, ◌&&◌, ap, refl, sym, subst, arith, ℕ, zero, suc, Bool, true, false, cond, not, List, [], ◌∷◌, ◌++◌, map, length, Option, Some, None, is_some, true≢false}
use Rattle.std.specs.Prelude.{find, slice_get, fold, drop, encode_utf8}
use Rattle.std.specs.List.{list_all, list_any}
use Rattle.std.specs.Option.{option_map_or}
use Rattle.std.specs.Str.{bytes_eq, chars}
use Rattle.std.proofs.lemmas.Bool.{and_parts, cases_Bool, and_from, or_parts, not-false}
use Rattle.std.proofs.lemmas.Bool.Decides.{nat_tests}
use Rattle.clap.specs.Lexer.{long_of, short_of}
use Rattle.clap.specs.Walk.{Held, Outcome, Row, Rule, Step, Text, Waiting, Walk, after_flag, after_step, arg_by_id, arg_by_index, arg_by_long, arg_by_short, at_row, bundle_met, done, finished, first_of, is_empty, more_values, nothing_held, option_word, plain, plain_word, reading_by, settled, settled_rows, takes_values, used, waits, walk, walk_from, walked, with_default, without, word_met, has_row, idle, option, positional, next, value, trailing, subcommand}
use Rattle.clap.specs.declared.parser.matches.ValueSource.TheVariants.{CommandLine}
use Rattle.clap.specs.Simple.{Shape, built}
use Rattle.clap.specs.Walk.{bundle, bundle_step, long_met, long_or_other, option_met, refused, short_met, short_or_plain, subcommand_met, subcommand_or_other, used_by_id, walked_from}
use Rattle.clap.specs.Kinds.{Kinds, check_kinds, or_else}
use Rattle.clap.proofs.FaultLemmas.{leaf_fault}
use Rattle.clap.specs.Faults.{other_fault, defaults_fault, fault_of, flag_word_fault, level_fault, long_fault, option_fault, settle_fault, turn_fault, use_fault, walk_fault, word_fault}
use Rattle.clap.specs.Takes.{is_given}
use Rattle.bar_arguments.specs.Options.{is_taken, options_of, value_of, values_by, values_of}
use Rattle.bar_arguments.proofs.OptionLemmas.{built_rule, options-built}

-- ---- faults

first-none : (a b : Kinds) → or_else a b ≡ [] → a ≡ []
first-none [] b h = refl
first-none (k ∷ ks) b h = h

then-none : (a b : Kinds) → or_else a b ≡ [] → b ≡ []
then-none [] b h = h
then-none (k ∷ ks) b h = absurd cc

-- ---- rows

-- each row has a value
abbrev has_value : Row → Bool
has_value r = not (is_empty r.values)

abbrev Valued : List Row → Type 0
Valued rows = list_all has_value rows ≡ true

longer : (xs : List Text) (v : Text) (vs : List Text) → not (is_empty (xs ++ v ∷ vs)) ≡ true
longer [] v vs = grind (arith, nat_tests)
longer (x ∷ xs) v vs = grind (arith, nat_tests)

row-changed : (id : Text) (change : Row → List Row) (missing : List Row) (rows : List Row) → ((r : Row) → Valued (change r)) → Valued missing → Valued rows
    → Valued (at_row id change missing rows)
row-changed id change missing [] changed absent h = absent
row-changed id change missing (r ∷ rows) changed absent h =
    go (bytes_eq r.id id) (row-changed id change missing rows changed absent (and_parts (has_value r) (list_all has_value rows) h).1)
  where
    joined : (xs ys : List Row) → Valued xs → Valued ys → Valued (xs ++ ys)
    joined [] ys a b = b
    joined (x ∷ xs) ys a b = let p = and_parts (has_value x) (list_all has_value xs) a in and_from (has_value x) _ p.0 (joined xs ys p.1 b)

    go : (b : Bool) → Valued (at_row id change missing rows) → Valued (cond b (change r ++ rows) (r ∷ at_row id change missing rows))
    go true rest = joined (change r) rows (changed r) (and_parts (has_value r) (list_all has_value rows) h).1
    go false rest = and_from (has_value r) _ (and_parts (has_value r) (list_all has_value rows) h).0 rest

-- ---- rules

option-found : (p : Rule → Bool) (names : List Text) (a : Rule) → find p (map built_rule names) ≡ Some a → (name : Text) × (a ≡ built_rule name)
option-found p [] a h = absurd (true≢false (sym (ap is_some h)))
option-found p (name ∷ names) a h = go (p (built_rule name)) refl (λ rest. option-found p names a rest)
  where
    go : (b : Bool) → p (built_rule name) ≡ b → (find p (map built_rule names) ≡ Some a → (other : Text) × (a ≡ built_rule other)) → (other : Text) × (a ≡ built_rule other)
    go true t rest = let here : Some (built_rule name) ≡ Some a = rw t at h in (name, cc)
    go false t rest = rest (rw t at h)

none-found : (p : Rule → Bool) (names : List Text) → ((name : Text) → p (built_rule name) ≡ false) → find p (map built_rule names) ≡ None
none-found p [] none = refl
none-found p (name ∷ names) none = rw (none name) (none-found p names none)

-- a use without a fault leaves a value in its row
used-valued : (name : Text) (again : Bool) (values : List Text) (rows : List Row) → use_fault again (built_rule name) values rows ≡ [] → Valued rows
    → Valued (used (built_rule name) values rows)
used-valued name again [] rows fault h = absurd cc
used-valued name again (v ∷ vs) rows fault h =
    row-changed name (more_values CommandLine (v ∷ vs)) (record { id = name; values = v ∷ vs; count = None; source = Some CommandLine; reading = reading_by (built_rule name) } ∷ []) (without name rows) (λ r. and_from (not (is_empty (r.values ++ v ∷ vs))) true (longer r.values v vs) refl) (and_from (not (is_empty (v ∷ vs))) true (longer [] v vs) refl)
    (row-changed name (λ _. []) [] rows (λ r. refl) refl h)

module _ (names : List Text) (again : Bool) where
  abbrev c : List Rule
  c = map built_rule names

  use-valued : (p : Rule → Bool) (o : Option Rule) (values : List Text) (rows : List Row) (a : Rule) → find p (map built_rule names) ≡ o → o ≡ Some a
      → use_fault again a values rows ≡ [] → Valued rows → Valued (used a values rows)
  use-valued p o values rows a found is fault h =
      let own = option-found p names a (found ∙ is) in
      subst (λ (x : Rule). Valued (used x values rows)) (sym own.1) (used-valued own.0 again values rows (subst (λ (x : Rule). use_fault again x values rows ≡ []) own.1 fault) h)

  -- a pending option gets its value
  settle-valued : (pending : Option (Text × List Text)) (rows : List Row) (skip : ℕ) → settle_fault (map built_rule names) again (record { rows = rows; pending = pending; skip = skip }) ≡ []
      → Valued rows → Valued (settled_rows (map built_rule names) pending rows)
  settle-valued None rows skip fault h = h
  settle-valued (Some p) rows skip fault h = go (arg_by_id (map built_rule names) p.0) refl fault
    where
      go : (o : Option Rule) → arg_by_id (map built_rule names) p.0 ≡ o → option_map_or (λ a. use_fault again a p.1 rows) o [] ≡ []
          → Valued (used_by_id o p.1 rows)
      go None found fault = h
      go (Some a) found fault = use-valued (λ (a : Rule). bytes_eq a.id p.0) (Some a) p.1 rows a found refl fault h

  -- an argument that isn't a flag changes no row
  plain-rows : (waiting : Waiting) (word : Text) (h : Held) → (plain_word c waiting word h).0.rows ≡ h.rows
  plain-rows idle word h = refl
  plain-rows (option id) word h = go (arg_by_id c id)
    where
      go : (o : Option Rule) → (option_word o id word h).0.rows ≡ h.rows
      go None = refl
      go (Some a) = refl
  plain-rows positional word h = refl

  after-rows : (waiting : Waiting) (word : Text) (h : Held) (o : Outcome) → (after_flag c waiting word h o).0.rows ≡ h.rows
  after-rows waiting word h done = refl
  after-rows waiting word h (waits id) = refl
  after-rows waiting word h plain = plain-rows waiting word h
  after-rows waiting word h refused = plain-rows waiting word h

  no-short : (x : ℕ) → arg_by_short c x ≡ None
  no-short x = none-found _ names (λ name. refl)

  no-index : (i : ℕ) → arg_by_index c i ≡ None
  no-index i = none-found _ names (λ name. refl)

  -- no short flag changes a row
  bundle-rows : (k : ℕ) (flags : Text) (skip : ℕ) (so_far : Outcome) (h : Held) → (bundle_met c k flags skip so_far h).0.rows ≡ h.rows
  unfolding bundle_met
  bundle-rows zero flags skip so_far h = refl
  bundle-rows (suc k) flags skip so_far h = go (slice_get (chars flags) 0) skip (λ rest less. bundle-rows k rest less so_far h)
    where
      go : (o : Option ℕ) (skip : ℕ) → ((rest : Text) (less : ℕ) → (bundle_met c k rest less so_far h).0.rows ≡ h.rows)
          → (bundle_step c o flags skip so_far h (bundle_met c k)).0.rows ≡ h.rows
      go None skip rec = refl
      go (Some x) zero rec = ap (λ o. (short_met c o (drop (length (encode_utf8 x)) flags) h (bundle_met c k (drop (length (encode_utf8 x)) flags) 0 done)).0.rows) (no-short x)
      go (Some x) (suc less) rec = rec (drop (length (encode_utf8 x)) flags) less

  option-valued : (p : Rule → Bool) (a : Rule) (v : Option Text) (h : Held) → find p c ≡ Some a → option_fault c again a v h ≡ [] → Valued h.rows
      → Valued (option_met c a v h).0.rows
  option-valued p a (Some v) h found fault valued =
      use-valued p (Some a) (v ∷ []) (settled c h).rows a found refl (then-none (settle_fault c again h) (use_fault again a (v ∷ []) (settled c h).rows) fault)
      (settle-valued h.pending h.rows h.skip (first-none (settle_fault c again h) (use_fault again a (v ∷ []) (settled c h).rows) fault) valued)
  option-valued p a None h found fault valued = settle-valued h.pending h.rows h.skip fault valued

  long-valued : (name : Text) (v : Option Text) (h : Held) → long_fault c again (arg_by_long c name) v h ≡ [] → Valued h.rows → Valued (long_met c (arg_by_long c name) v h).0.rows
  long-valued name v h fault valued = go (arg_by_long c name) refl fault
    where
      go : (o : Option Rule) → arg_by_long c name ≡ o → long_fault c again o v h ≡ [] → Valued (long_met c o v h).0.rows
      go None found fault = valued
      go (Some a) found fault =
          let own = option-found _ names a found in
          let takes : takes_values a ≡ true = ap takes_values own.1 in
          let fault_is : option_fault c again a v h ≡ [] = rw takes at fault in
          rw takes (option-valued _ a v h found fault_is valued)

  -- an argument before `--`
  word-valued : (waiting : Waiting) (word : Text) (h : Held) → flag_word_fault c again (long_of word) word h ≡ [] → Valued h.rows
      → Valued (long_or_other c waiting word (long_of word) h).0.rows
  word-valued waiting word h fault valued = go (long_of word) fault
    where
      short : (o : Option Text) → Valued (short_or_plain c waiting word o h).0.rows
      short None = subst Valued (sym (plain-rows waiting word h)) valued
      short (Some flags) =
          subst Valued (sym (after-rows waiting word (bundle c flags h).0 (bundle c flags h).1 ∙ bundle-rows (length flags) flags h.skip plain (record h { skip = 0 }))) valued

      go : (o : Option (Text × Option Text)) → flag_word_fault c again o word h ≡ [] → Valued (long_or_other c waiting word o h).0.rows
      go None fault = short (short_of word)
      go (Some p) fault =
          subst Valued (sym (after-rows waiting word (long_met c (arg_by_long c p.0) p.1 h).0 (long_met c (arg_by_long c p.0) p.1 h).1)) (long-valued p.0 p.1 h fault valued)

no-subcommand : (waiting : Waiting) (word : Text) → subcommand_met [] waiting word ≡ None
no-subcommand idle word = refl
no-subcommand (option id) word = refl
no-subcommand positional word = refl

module _ (names : List Text) (s : Shape) where
  -- the command with these options
  abbrev own : Shape
  own = record s { rules = map built_rule names }

  met-valued : (trailing_now : Bool) (waiting : Waiting) (position : ℕ) (word : Text) (h : Held) → word_fault own [] trailing_now waiting word h ≡ [] → Valued h.rows
      → Valued (word_met (map built_rule names) [] trailing_now waiting position word h).0.rows
  met-valued true waiting position word h fault valued = valued
  met-valued false waiting position word h fault valued =
      let none = no-subcommand waiting word in
      let fault_is = rw none at fault in
      rw none (go (bytes_eq word (45 ∷ 45 ∷ [])) refl fault_is)
    where
      go : (b : Bool) → bytes_eq word (45 ∷ 45 ∷ []) ≡ b → other_fault own None word h ≡ [] → Valued (subcommand_or_other (map built_rule names) None waiting position word h).0.rows
      go true t fault = rw t valued
      go false t fault = let fault_is = rw t at fault in rw t (word-valued names own.args_override_self waiting word h fault_is valued)

  step-valued : (w : Walk) (word : Text) (h : Held) (step : Step) → Valued h.rows → Valued (after_step (map built_rule names) word w h step).held.rows
  step-valued w word h (next waiting) valued = valued
  step-valued w word h (trailing position) valued = valued
  step-valued w word h (subcommand name) valued = valued
  step-valued w word h value valued = rw (no-index names true w.position) valued

  turn-valued : (w : Walk) (word : Text) → turn_fault own [] w word ≡ [] → Valued w.held.rows → Valued (walked (map built_rule names) [] w word).held.rows
  unfolding walked
  turn-valued w word fault valued = go w.stopped refl fault
    where
      go : (o : Option (Text × List Text)) → w.stopped ≡ o → turn_fault own [] w word ≡ [] → Valued (walked_from (map built_rule names) [] o w word).held.rows
      go (Some p) is fault = valued
      go None is fault =
          let met = word_met (map built_rule names) [] w.is_trailing w.waiting w.position word w.held in
          let fault_is = rw is at fault in
          step-valued w word met.0 met.1 (met-valued w.is_trailing w.waiting w.position word w.held (first-none _ _ fault_is) valued)

  walk-valued : (words : List Text) (w : Walk) → walk_fault own [] w words ≡ [] → Valued w.held.rows → Valued (fold (walked (map built_rule names) []) w words).held.rows
  unfolding walk_fault
  walk-valued [] w fault valued = valued
  walk-valued (word ∷ words) w fault valued =
      walk-valued words (walked (map built_rule names) [] w word) (then-none _ _ fault) (turn-valued w word (first-none _ _ fault) valued)

  -- an option has no default
  no-defaults : (rules : List Text) (rows : List Row) → fold with_default rows (map built_rule rules) ≡ rows
  no-defaults [] rows = refl
  no-defaults (name ∷ rules) rows = go (has_row name rows) (no-defaults rules rows)
    where
      go : (b : Bool) → fold with_default rows (map built_rule rules) ≡ rows → fold with_default (cond b rows rows) (map built_rule rules) ≡ rows
      go true rest = rest
      go false rest = rest

-- ---- after the walk

empty-kinds : (kinds : Kinds) → is_empty kinds ≡ true → kinds ≡ []
empty-kinds [] h = refl
empty-kinds (k ∷ kinds) h = let none : is_empty (k ∷ kinds) ≡ false = grind (arith, nat_tests) in absurd (true≢false (sym h ∙ none))

some-first : (values : List Text) → not (is_empty values) ≡ true → is_some (slice_get values 0) ≡ true
some-first [] h = absurd cc
some-first (v ∷ values) h = refl

-- an option that is given has a value
given-value : (name : Text) (rows : List Row) → Valued rows → is_given name rows ≡ true → is_some (first_of name rows) ≡ true
given-value name [] valued given = absurd (true≢false (sym given))
given-value name (r ∷ rows) valued given =
    go (bytes_eq r.id name) refl given (and_parts (has_value r) (list_all has_value rows) valued) (given-value name rows (and_parts (has_value r) (list_all has_value rows) valued).1)
  where
    go : (b : Bool) → bytes_eq r.id name ≡ b → is_given name (r ∷ rows) ≡ true → (has_value r ≡ true) × (list_all has_value rows ≡ true)
        → (is_given name rows ≡ true → is_some (first_of name rows) ≡ true) → is_some (first_of name (r ∷ rows)) ≡ true
    go true t given parts rest = rw t (some-first r.values parts.0)
    go false t given parts rest = let given_is = rw t at given in rw t (rest given_is)

all-given : (rows : List Row) (names : List Text) → Valued rows → list_any (λ (a : Rule). a.required && not (is_given a.id rows)) (map built_rule names) ≡ false
    → list_all (λ name. is_some (first_of name rows)) names ≡ true
all-given rows [] valued none = refl
all-given rows (name ∷ names) valued none =
    let parts = or_parts (not (is_given name rows)) (list_any (λ (a : Rule). a.required && not (is_given a.id rows)) (map built_rule names)) none in
    and_from (is_some (first_of name rows)) _ (given-value name rows valued (not-false (is_given name rows) parts.0)) (all-given rows names valued parts.1)

no-kinds : (a b d : Bool) → check_kinds a b d ≡ [] → d ≡ false
no-kinds true b d h = absurd cc
no-kinds false true d h = absurd cc
no-kinds false false true h = absurd cc
no-kinds false false false h = refl

module _ (names : List Text) (s : Shape) (words : List Text) where
  abbrev end : Held
  end = (walk (map built_rule names) [] nothing_held words).held

  level-valued : s.subcommand_negates_reqs ≡ false → level_fault (own names s) [] nothing_held words false [] ≡ []
      → list_all (λ name. is_some (first_of name (finished (map built_rule names) end))) names ≡ true
  level-valued plain_reqs fault =
      let walked_so = first-none (walk_fault (own names s) [] (walk_from nothing_held) words) _ fault in
      let rest = then-none (walk_fault (own names s) [] (walk_from nothing_held) words) _ fault in
      let valued = walk-valued names s words (walk_from nothing_held) walked_so refl in
      let settled_so = first-none (settle_fault (map built_rule names) s.args_override_self end) _ rest in
      let later = then-none (settle_fault (map built_rule names) s.args_override_self end) _ rest in
      let checked = then-none (defaults_fault (settled (map built_rule names) end).rows (map built_rule names)) _ later in
      let settled_valued = settle-valued names s.args_override_self end.pending end.rows end.skip settled_so valued in
      let finished_valued : Valued (finished (map built_rule names) end) = subst Valued (sym (no-defaults names s names (settled (map built_rule names) end).rows)) settled_valued in
      let wanted = no-kinds _ _ _ checked in
      all-given (finished (map built_rule names) end) names finished_valued (rw plain_reqs at wanted)

-- accepted arguments give each option a value
pub taken-values : (names words : List Text) → is_taken names words ≡ true → list_all (λ name. is_some (value_of names words name)) names ≡ true
unfolding is_taken value_of options_of
taken-values names words taken =
    let top = (built (options_of names)).top in
    let whole : top ≡ own names top = ap (λ rules. record top { rules = rules }) (options-built names) in
    let fault : level_fault top [] nothing_held words false [] ≡ [] =
    sym (leaf_fault (built (options_of names)) nothing_held words refl) ∙ empty-kinds (fault_of (options_of names) words) taken in
    let values = level-valued names top words refl (subst (λ (x : Shape). level_fault x [] nothing_held words false [] ≡ []) whole fault) in
    subst (λ rules. list_all (λ name. is_some (first_of name (finished rules (walk rules [] nothing_held words).held))) names ≡ true) (sym (options-built names)) values

-- if each option has a value, there is a list of all values
all-some : (f : Text → Option Text) (names : List Text) → list_all (λ name. is_some (f name)) names ≡ true → is_some (values_by f names) ≡ true
all-some f [] h = refl
all-some f (name ∷ names) h =
    let parts = and_parts (is_some (f name)) (list_all (λ name. is_some (f name)) names) h in
    joined (f name) (values_by f names) parts.0 (all-some f names parts.1)
  where
    joined : (o : Option Text) (r : Option (List Text)) → is_some o ≡ true → is_some r ≡ true
        → is_some (option_and_then (λ own. option_map (λ others. own ∷ others) r) o) ≡ true
    joined None r one more = one
    joined (Some text) None one more = more
    joined (Some text) (Some others) one more = refl

-- arguments have values if and only if they are accepted
pub values-taken : (names words : List Text) → is_some (values_of names words) ≡ is_taken names words
values-taken names words = elim (cases_Bool (is_taken names words)) [
  | inl taken ↦ rw taken (all-some (value_of names words) names (taken-values names words taken))
  | inr none ↦ rw none refl
]
