-- A command line, from the values of its options.
use Rattle.std.proofs.Common.{◌≡◌, ℕ, Bool, true, false, List, [], ◌∷◌, Option, None, Some, Result, Ok, Err, IfOk, refl, sym, ap, ◌∙◌, length, arith, slice_index_or, if◌then◌else◌, codes}
use Rattle.std.proofs.lemmas.Slice.Eq.{bytes_eq-Decides}
use Rattle.std.specs.Str.{bytes_eq}
use Rattle.std.specs.Borrow.{Bor}
use Rattle.std.specs.Option.{ok_or, option_and_then, option_map}
use Rattle.bar_lms.specs.declared.params.Height.{Height}
use Rattle.bar_lms.specs.declared.params.Params.{Params}
use Rattle.bar_session.specs.Limits.{most_peers}
use Rattle.bar_arguments.specs.Numbers.{id_of, number_in}
use Rattle.bar_arguments.specs.Options.{texts}
use Rattle.bar_arguments.specs.declared.options.WordsFault.{WordsFault}
use Rattle.bar_arguments.specs.declared.options.WordsFault.TheVariants.{Usage}
use Rattle.bar_cli.specs.Line.{Line, asked_by, command_named, hsskeygen_values, keygen, keygen_values}
use Rattle.bar_cli.specs.declared.line.name.CommandName.TheVariants as commands

-- the values are found, and they are valid
pub line-found : {A : Type 0} (view : A → Line) (meant : List (List ℕ) → Option Line) (values : List (List ℕ))
    (given : Option (List (List ℕ)))
    (found : Option A) (r : Result A WordsFault) → given ≡ Some values → option_map view found ≡ meant values → r ≡ ok_or found Usage →
    IfOk r (λ names. option_and_then meant given ≡ Some (view names))
line-found view meant values given (Some a) (Ok b) is says e =
    let same : a ≡ b = cc in ap (option_and_then meant) is ∙ sym says ∙ ap (λ x. Some (view x)) same
line-found view meant values given (Some a) (Err fault) is says e = absurd cc
line-found view meant values given None (Ok b) is says e = absurd cc
line-found view meant values given None (Err fault) is says e = tt

-- the values are found, but they aren't valid
pub line-missed : {A : Type 0} (view : A → Line) (meant : List (List ℕ) → Option Line) (values : List (List ℕ))
    (given : Option (List (List ℕ)))
    (found : Option A) (r : Result A WordsFault) → given ≡ Some values → option_map view found ≡ meant values → r ≡ ok_or found Usage →
    r ≡ Err Usage → option_and_then meant given ≡ None
line-missed view meant values given (Some a) r is says e usage = absurd cc
line-missed view meant values given None r is says e usage = ap (option_and_then meant) is ∙ sym says

-- ---- the name of the command

differs : (a b : List ℕ) → (a ≡ b → ⊥) → bytes_eq a b ≡ false
differs a b h = by_test (bytes_eq a b) refl
  where
    by_test : (t : Bool) → bytes_eq a b ≡ t → bytes_eq a b ≡ false
    by_test true e = absurd (h ((bytes_eq-Decides a b).0 e))
    by_test false e = e

none-of : (p b r k t u j a v s m : Bool) → p ≡ false → b ≡ false → r ≡ false → k ≡ false → t ≡ false → u ≡ false → j ≡ false → a ≡ false →
    v ≡ false → s ≡ false → m ≡ false →
    (if p then Some commands.Peer else if b then Some commands.Broadcaster else if r then Some commands.Replay
    else if k then Some commands.Keygen else if t then Some commands.HssKeygen else if u then Some commands.Audit
    else if j then Some commands.Judge else if a then Some commands.Pack else if v then Some commands.Verify
    else if s then Some commands.Session else if m then Some commands.Simulate
    else None)
    ≡ None
none-of p b r k t u j a v s m e f g h o x i q w l n = rw (e, f, g, h, o, x, i, q, w, l, n) refl

-- any other argument names no command
pub no-command : (word : List ℕ) → (word ≡ codes "peer" → ⊥) → (word ≡ codes "broadcaster" → ⊥) → (word ≡ codes "replay" → ⊥) →
    (word ≡ codes "keygen" → ⊥) → (word ≡ codes "hsskeygen" → ⊥) → (word ≡ codes "audit" → ⊥) → (word ≡ codes "judge" → ⊥) →
    (word ≡ codes "pack" → ⊥) → (word ≡ codes "verify" → ⊥) → (word ≡ codes "session" → ⊥) → (word ≡ codes "simulate" → ⊥) →
    command_named word ≡ None
no-command word p b r k t u j a v s m =
    none-of (bytes_eq word (codes "peer")) (bytes_eq word (codes "broadcaster")) (bytes_eq word (codes "replay"))
    (bytes_eq word (codes "keygen")) (bytes_eq word (codes "hsskeygen")) (bytes_eq word (codes "audit")) (bytes_eq word (codes "judge"))
    (bytes_eq word (codes "pack")) (bytes_eq word (codes "verify")) (bytes_eq word (codes "session")) (bytes_eq word (codes "simulate"))
    (differs word (codes "peer") p) (differs word (codes "broadcaster") b) (differs word (codes "replay") r)
    (differs word (codes "keygen") k) (differs word (codes "hsskeygen") t) (differs word (codes "audit") u) (differs word (codes "judge") j)
    (differs word (codes "pack") a) (differs word (codes "verify") v) (differs word (codes "session") s)
    (differs word (codes "simulate") m)

-- ---- the values of `keygen`

-- seven values
pub seven-are : (xs : List (Bor (List ℕ))) (d : Bor (List ℕ)) → length xs ≡ 7 →
    texts xs
    ≡ (slice_index_or xs 0 d).now ∷ (slice_index_or xs 1 d).now ∷ (slice_index_or xs 2 d).now ∷ (slice_index_or xs 3 d).now
    ∷ (slice_index_or xs 4 d).now ∷ (slice_index_or xs 5 d).now ∷ (slice_index_or xs 6 d).now ∷ []
seven-are [] d e = absurd (omega arith)
seven-are (p ∷ []) d e = absurd (omega arith)
seven-are (p ∷ i ∷ []) d e = absurd (omega arith)
seven-are (p ∷ i ∷ r ∷ []) d e = absurd (omega arith)
seven-are (p ∷ i ∷ r ∷ l ∷ []) d e = absurd (omega arith)
seven-are (p ∷ i ∷ r ∷ l ∷ o ∷ []) d e = absurd (omega arith)
seven-are (p ∷ i ∷ r ∷ l ∷ o ∷ s ∷ []) d e = absurd (omega arith)
seven-are (p ∷ i ∷ r ∷ l ∷ o ∷ s ∷ k ∷ []) d e = refl
seven-are (p ∷ i ∷ r ∷ l ∷ o ∷ s ∷ k ∷ x ∷ xs) d e = absurd (omega arith)

-- more or fewer values are invalid
pub not-seven : (xs : List (Bor (List ℕ))) → (length xs ≡ 7 → ⊥) → None ≡ keygen_values (texts xs)
not-seven [] h = refl
not-seven (p ∷ []) h = refl
not-seven (p ∷ i ∷ []) h = refl
not-seven (p ∷ i ∷ r ∷ []) h = refl
not-seven (p ∷ i ∷ r ∷ l ∷ []) h = refl
not-seven (p ∷ i ∷ r ∷ l ∷ o ∷ []) h = refl
not-seven (p ∷ i ∷ r ∷ l ∷ o ∷ s ∷ []) h = refl
not-seven (p ∷ i ∷ r ∷ l ∷ o ∷ s ∷ k ∷ []) h = absurd (h refl)
not-seven (p ∷ i ∷ r ∷ l ∷ o ∷ s ∷ k ∷ x ∷ xs) h = refl

-- the same for `hsskeygen`
pub not-seven-levels : (xs : List (Bor (List ℕ))) → (length xs ≡ 7 → ⊥) → None ≡ hsskeygen_values (texts xs)
not-seven-levels [] h = refl
not-seven-levels (p ∷ []) h = refl
not-seven-levels (p ∷ i ∷ []) h = refl
not-seven-levels (p ∷ i ∷ r ∷ []) h = refl
not-seven-levels (p ∷ i ∷ r ∷ l ∷ []) h = refl
not-seven-levels (p ∷ i ∷ r ∷ l ∷ o ∷ []) h = refl
not-seven-levels (p ∷ i ∷ r ∷ l ∷ o ∷ s ∷ []) h = refl
not-seven-levels (p ∷ i ∷ r ∷ l ∷ o ∷ s ∷ k ∷ []) h = absurd (h refl)
not-seven-levels (p ∷ i ∷ r ∷ l ∷ o ∷ s ∷ k ∷ x ∷ xs) h = refl

-- what the values request, if each is in its range
pub keygen-asked : (most : ℕ) (types : Option (Option Height × Params)) (party_word id_word rounds_word secret key : List ℕ)
    (party : ℕ) (id : List ℕ) (rounds : ℕ) (levels : Option Height × Params) →
    Some party ≡ number_in 0 most_peers party_word → Some id ≡ id_of id_word → Some rounds ≡ number_in 1 most rounds_word → Some levels ≡ types →
    Some (keygen (record { party = party; id = id; rounds = rounds; top = levels.0; params = levels.1; secret = secret; key = key }))
    ≡ asked_by most types party_word id_word rounds_word secret key
keygen-asked most types party_word id_word rounds_word secret key party id rounds levels p i r t =
    let asked : ℕ → List ℕ → ℕ → Option Height × Params → Line = λ q j n m.
    keygen (record { party = q; id = j; rounds = n; top = m.0; params = m.1; secret = secret; key = key }) in
    ap (option_and_then (λ m. Some (asked party id rounds m))) t
    ∙ ap (option_and_then (λ n. option_and_then (λ m. Some (asked party id n m)) types)) r
    ∙ ap (option_and_then (λ j. option_and_then (λ n. option_and_then (λ m. Some (asked party j n m)) types)
    (number_in 1 most rounds_word))) i
    ∙ ap (option_and_then (λ q. option_and_then (λ j. option_and_then (λ n. option_and_then (λ m. Some (asked q j n m)) types)
    (number_in 1 most rounds_word)) (id_of id_word))) p
