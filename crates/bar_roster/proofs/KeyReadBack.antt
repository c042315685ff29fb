-- The text of a key is read back as the key.
use Rattle.std.proofs.Common.{◌≡◌, ◌∙◌, refl, ap, sym, arith, ℕ, suc, ◌<◌, ◌≤◌, ◌^◌, List, [], ◌∷◌, ◌++◌, length, codes, append_assoc, ◌&&◌, Bool, true, false, pos, Some, None, Option, Ok, nat_le, nat_lt, rules}
use Rattle.std.proofs.lemmas.Option.{none-some}
use Rattle.std.specs.Prelude.{FitsSigned, is_some, not, option_map}
use Rattle.std.specs.Int.{w64}
use Rattle.std.specs.List.{list_all}
use Rattle.std.specs.Fmt.{decimal}
use Rattle.std.specs.Str.{IsUtf8, is_utf8}
use Rattle.std.proofs.lemmas.Bool.Decides.{nat_tests}
use Rattle.std.proofs.lemmas.Fmt.{IsAscii-decimal, decimal_digit}
use Rattle.std.proofs.lemmas.Str.{IsUtf8-append, IsUtf8-from_ascii, is_utf8-from_IsUtf8}
use Rattle.std.proofs.lemmas.Str.Ascii.{IsAscii-nil, IsAscii-cons}
use Rattle.std.specs.Str.{IsAscii}
use Rattle.std.proofs.lemmas.Bool.{and_parts}
use Rattle.hex.specs.Hex.{IsBytes, encode_lower, lower_digits, decode_sized}
use Rattle.hex.proofs.HexLemmas.{IsAscii-encode_with, decode_sized-encode_lower}
use Rattle.toml_writer.specs.Text.{string_text, key_text}
use Rattle.toml.specs.Data.{Data, string, integer, boolean, Members, member, no_members}
use Rattle.toml.specs.Tables.{Expression, Document, no_nodes, close, key_value}
use Rattle.toml.specs.Parse.{skip_bom, lines, parse_document}
use Rattle.toml.specs.Text.{IsLinesText, IsValueText}
use Rattle.toml.proofs.Turns.{document_some}
use Rattle.toml.proofs.ReadLines.{run, AllPrinted, read_lines}
use Rattle.toml.proofs.OnLiterals.{toml_on_literals}
use Rattle.bar_session.specs.Limits.{IsTop, first_ots_by, last_lms_by, most_peers, rounds_by}
use Rattle.bar_roster.specs.declared.key_fields.KeyData.{KeyData}
use Rattle.bar_roster.specs.KeyText.{IsInRange, any_key_data, key_text_of, key_read, key_fields, names_top, truth}
use Rattle.bar_session.proofs.Levels.{lms_most, rounds_most}
use Rattle.bar_roster.proofs.PlainText.{hex_digits, string_text-digits}

-- a text that is written is text
ascii_from_test : (s : List ℕ) → list_all (λ c. nat_lt c 128) s ≡ true → IsAscii s
ascii_from_test [] h = IsAscii-nil
ascii_from_test (c ∷ s) h =
    let parts = and_parts (nat_lt c 128) (list_all (λ x. nat_lt x 128) s) h in
    IsAscii-cons c s (grind (arith, nat_tests, parts.0)) (ascii_from_test s parts.1)

literal_utf8 : (s : List ℕ) → list_all (λ c. nat_lt c 128) s ≡ true → IsUtf8 s
literal_utf8 s h = IsUtf8-from_ascii s (ascii_from_test s h)

-- ---- lines of pairs, with the text of each value

abbrev Pair : Type 0
Pair = List ℕ × Data × List ℕ

abbrev expressions : List Pair → List Expression
expressions [] = []
expressions (p ∷ ps) = (([], p.0), key_value p.1) ∷ expressions ps

abbrev lines_text : List Pair → List ℕ
lines_text [] = []
lines_text (p ∷ ps) = (p.0 ++ (codes " = " ++ (p.2 ++ 10 ∷ []))) ++ lines_text ps

-- each name is bare, and each text writes its value
abbrev AllWritten : List Pair → Type 0
AllWritten [] = Unit {0}
AllWritten (p ∷ ps) = (key_text p.0 ≡ p.0) × IsValueText false p.1 p.2 × AllWritten ps

is_lines : (started : Bool) (ps : List Pair) → AllWritten ps → IsLinesText false started (expressions ps) (lines_text ps)
is_lines started [] h = refl
is_lines started (p ∷ ps) h = (_, lines_text ps, refl, (p.2, rw h.0 refl, h.1), is_lines true ps h.2)

-- a key text is written from numbers in range, an id of 8 bytes and a secret of 32
pub record IsWritable (k : KeyData) : Type 0 where
  pub range : IsInRange k
  pub id_bytes : IsBytes k.id
  pub id_length : length k.id ≡ 8
  pub secret_bytes : IsBytes k.secret
  pub secret_length : length k.secret ≡ 32

-- the parts of a key's text except the line of the upper tree
module _ (party : ℕ) (id : List ℕ) (rounds lms ots : ℕ) (secret : List ℕ) (spent : Bool) where
  abbrev key : Option ℕ → KeyData
  key top = any_key_data party id rounds lms ots top secret spent

  abbrev last_pairs : List Pair
  last_pairs = (codes "secret", string (encode_lower secret), 34 ∷ (encode_lower secret ++ 34 ∷ [])) ∷ (codes "spent", boolean spent, truth spent) ∷ []

  abbrev top_pairs : Option ℕ → List Pair
  top_pairs None = last_pairs
  top_pairs (Some top) = (codes "top", integer (pos top), decimal top) ∷ last_pairs

  abbrev pairs : Option ℕ → List Pair
  pairs top =
      (codes "version", integer (pos 1), codes "1")
      ∷ (codes "id", string (encode_lower id), 34 ∷ (encode_lower id ++ 34 ∷ []))
      ∷ (codes "party", integer (pos party), decimal party)
      ∷ (codes "rounds", integer (pos rounds), decimal rounds)
      ∷ (codes "lms", integer (pos lms), decimal lms)
      ∷ (codes "ots", integer (pos ots), decimal ots)
      ∷ top_pairs top

  abbrev last_members : Members
  last_members = member (codes "version") (integer (pos 1)) no_members

  abbrev top_members : Option ℕ → Members
  top_members None = last_members
  top_members (Some top) = member (codes "top") (integer (pos top)) last_members

  abbrev members : Option ℕ → Members
  members top =
      member (codes "id") (string (encode_lower id))
      (member (codes "lms") (integer (pos lms))
      (member (codes "ots") (integer (pos ots))
      (member (codes "party") (integer (pos party))
      (member (codes "rounds") (integer (pos rounds))
      (member (codes "secret") (string (encode_lower secret))
      (member (codes "spent") (boolean spent)
      (top_members top)))))))

  same_text : (top : Option ℕ) → key_text_of (key top) ≡ lines_text (pairs top)
  same_text None = simp append_assoc refl
  same_text (Some top) = simp append_assoc refl

  ran : (top : Option ℕ) → option_map (λ (doc : Document). close doc.0) (run (no_nodes, []) (expressions (pairs top))) ≡ Some (members top)
  unfolding toml_on_literals
  ran None = refl
  ran (Some top) = refl

  hex_text : (xs : List ℕ) → IsBytes xs → 34 ∷ (encode_lower xs ++ 34 ∷ []) ≡ string_text (encode_lower xs)
  hex_text xs bytes = sym (string_text-digits (encode_lower xs) (hex_digits xs bytes))

  fits : (n : ℕ) → n < 2 ^ 63 → FitsSigned w64 (pos n)
  fits n small = search (rules, small)

  last_written : (top : Option ℕ) → IsWritable (key top) → AllWritten last_pairs
  unfolding key_text
  last_written top h = (refl, hex_text secret h.secret_bytes, (refl, refl, tt))

  top_written : (top : Option ℕ) → IsTop top → AllWritten last_pairs → AllWritten (top_pairs top)
  unfolding key_text
  top_written None h last = last
  top_written (Some top) h last = (refl, (refl, fits top (omega (arith, h.1))), last)

  written : (top : Option ℕ) → IsWritable (key top) → AllWritten (pairs top)
  unfolding key_text
  written top h =
      let most_rounds = rounds_most (is_some top) in
      let most_lms = lms_most (is_some top) in (
        refl,
        (sym (decimal_digit 1 (omega arith)), fits 1 (omega arith)),
        (
          refl,
          hex_text id h.id_bytes,
          (
            refl,
            (refl, fits party (omega (arith, h.range.party))),
            (
              refl,
              (refl, fits rounds (omega (arith, h.range.rounds_high, most_rounds))),
              (
                refl,
                (refl, fits lms (omega (arith, h.range.lms_high, most_lms))),
                (refl, (refl, fits ots (omega (arith, h.range.ots_high))), top_written top h.range.top (last_written top h)),
              ),
            ),
          ),
        ),
      )

  flat : 0 ≤ 80
  flat = omega arith

  top_printed : (top : Option ℕ) → AllPrinted (expressions (top_pairs top))
  top_printed None = ((refl, flat, refl), ((refl, flat, refl), tt))
  top_printed (Some top) = ((refl, flat, refl), ((refl, flat, refl), ((refl, flat, refl), tt)))

  printed : (top : Option ℕ) → AllPrinted (expressions (pairs top))
  printed top =
      ((refl, flat, refl), ((refl, flat, refl), ((refl, flat, refl), ((refl, flat, refl), ((refl, flat, refl), ((refl, flat, refl), top_printed top))))))

  no_bom : (top : Option ℕ) → skip_bom (lines_text (pairs top)) ≡ lines_text (pairs top)
  unfolding skip_bom
  no_bom top = refl

  from_run : (top : Option ℕ) (o : Option Document) → option_map (λ (doc : Document). close doc.0) o ≡ Some (members top)
      → lines (suc (length (lines_text (pairs top)))) (no_nodes, []) (skip_bom (lines_text (pairs top))) ≡ o
      → parse_document (lines_text (pairs top)) ≡ Some (members top)
  from_run top None closed read = absurd (none-some (members top) closed)
  from_run top (Some doc) closed read = document_some (lines_text (pairs top)) doc read ∙ closed

  parsed : (top : Option ℕ) → IsWritable (key top) → parse_document (key_text_of (key top)) ≡ Some (members top)
  parsed top h =
      let text = lines_text (pairs top) in
      let said = expressions (pairs top) in
      let read = read_lines false false said text text (no_nodes, []) (suc (length text)) (is_lines false (pairs top) (written top h)) (printed top) refl
      (omega arith) in
      ap parse_document (same_text top) ∙ from_run top (run (no_nodes, []) said) (ran top) (ap (lines (suc (length text)) (no_nodes, [])) (no_bom top) ∙ read)

  -- ---- the text is text

  abbrev AllText : List Pair → Type 0
  AllText [] = Unit {0}
  AllText (p ∷ ps) = IsUtf8 p.0 × IsUtf8 p.2 × AllText ps

  lines_utf8 : (ps : List Pair) → AllText ps → IsUtf8 (lines_text ps)
  lines_utf8 [] h = literal_utf8 [] refl
  lines_utf8 (p ∷ ps) h =
      IsUtf8-append (p.0 ++ (codes " = " ++ (p.2 ++ 10 ∷ []))) (lines_text ps)
      (IsUtf8-append p.0 (codes " = " ++ (p.2 ++ 10 ∷ [])) h.0
      (IsUtf8-append (codes " = ") (p.2 ++ 10 ∷ []) (literal_utf8 (codes " = ") refl) (IsUtf8-append p.2 (10 ∷ []) h.1 (literal_utf8 (10 ∷ []) refl))))
      (lines_utf8 ps h.2)

  hex_utf8 : (xs : List ℕ) → IsUtf8 (34 ∷ (encode_lower xs ++ 34 ∷ []))
  hex_utf8 xs =
      let digits = IsUtf8-from_ascii (encode_lower xs) (IsAscii-encode_with lower_digits xs (ascii_from_test lower_digits refl)) in
      IsUtf8-append (34 ∷ []) (encode_lower xs ++ 34 ∷ []) (literal_utf8 (34 ∷ []) refl) (IsUtf8-append (encode_lower xs) (34 ∷ []) digits (literal_utf8 (34 ∷ []) refl))

  number_utf8 : (n : ℕ) → n < 2 ^ 64 → IsUtf8 (decimal n)
  number_utf8 n small = IsUtf8-from_ascii (decimal n) (IsAscii-decimal n small)

  truth_utf8 : (b : Bool) → IsUtf8 (truth b)
  truth_utf8 true = literal_utf8 (codes "true") refl
  truth_utf8 false = literal_utf8 (codes "false") refl

  last_text : AllText last_pairs
  last_text = (literal_utf8 (codes "secret") refl, hex_utf8 secret, (literal_utf8 (codes "spent") refl, truth_utf8 spent, tt))

  top_text : (top : Option ℕ) → IsTop top → AllText (top_pairs top)
  top_text None h = last_text
  top_text (Some top) h = (literal_utf8 (codes "top") refl, number_utf8 top (omega (arith, h.1)), last_text)

  is_text : (top : Option ℕ) → IsWritable (key top) → is_utf8 (key_text_of (key top)) ≡ true
  is_text top h =
      let most_rounds = rounds_most (is_some top) in
      let most_lms = lms_most (is_some top) in
      let each : AllText (pairs top) = (
        literal_utf8 (codes "version") refl,
        literal_utf8 (codes "1") refl,
        (
          literal_utf8 (codes "id") refl,
          hex_utf8 id,
          (
            literal_utf8 (codes "party") refl,
            number_utf8 party (omega (arith, h.range.party)),
            (
              literal_utf8 (codes "rounds") refl,
              number_utf8 rounds (omega (arith, h.range.rounds_high, most_rounds)),
              (
                literal_utf8 (codes "lms") refl,
                number_utf8 lms (omega (arith, h.range.lms_high, most_lms)),
                (literal_utf8 (codes "ots") refl, number_utf8 ots (omega (arith, h.range.ots_high)), top_text top h.range.top),
              ),
            ),
          ),
        ),
      ) in
      ap is_utf8 (same_text top) ∙ is_utf8-from_IsUtf8 (lines_text (pairs top)) (lines_utf8 (pairs top) each)

  -- ---- the fields

  -- the tests of the values that don't depend on an upper tree
  fields : (top : Option ℕ) → IsWritable (key top) → key_fields (is_some top) (members top) ≡ Some (key top)
  fields top h =
      let id_is : decode_sized (encode_lower id) 8 ≡ Ok id = decode_sized-encode_lower id 8 h.id_length h.id_bytes in
      let secret_is : decode_sized (encode_lower secret) 32 ≡ Ok secret = decode_sized-encode_lower secret 32 h.secret_length h.secret_bytes in
      let party_low : nat_le 0 party ≡ true = grind (arith, nat_tests) in
      let party_high : nat_le party most_peers ≡ true = grind (arith, nat_tests, h.range.party) in
      let rounds_low : nat_le 1 rounds ≡ true = grind (arith, nat_tests, h.range.rounds_low) in
      let rounds_high : nat_le rounds (rounds_by (is_some top)) ≡ true = grind (arith, nat_tests, h.range.rounds_high) in
      let lms_low : nat_le 5 lms ≡ true = grind (arith, nat_tests, h.range.lms_low) in
      let lms_high : nat_le lms (last_lms_by (is_some top)) ≡ true = grind (arith, nat_tests, h.range.lms_high) in
      let ots_low : nat_le (first_ots_by (is_some top)) ots ≡ true = grind (arith, nat_tests, h.range.ots_low) in
      let ots_high : nat_le ots 4 ≡ true = grind (arith, nat_tests, h.range.ots_high) in
      by_top top h.range.top id_is secret_is party_low party_high rounds_low rounds_high lms_low lms_high ots_low ots_high
    where
      by_top : (top : Option ℕ) → IsTop top → decode_sized (encode_lower id) 8 ≡ Ok id → decode_sized (encode_lower secret) 32 ≡ Ok secret
          → nat_le 0 party ≡ true → nat_le party most_peers ≡ true → nat_le 1 rounds ≡ true → nat_le rounds (rounds_by (is_some top)) ≡ true
          → nat_le 5 lms ≡ true → nat_le lms (last_lms_by (is_some top)) ≡ true → nat_le (first_ots_by (is_some top)) ots ≡ true → nat_le ots 4 ≡ true
          → key_fields (is_some top) (members top) ≡ Some (key top)
      by_top None ranged id_is secret_is a b c d e f g i = simp (id_is, secret_is, a, b, c, d, e, f, g, i)
      by_top (Some top) ranged id_is secret_is a b c d e f g i =
          let low : nat_le 5 top ≡ true = grind (arith, nat_tests, ranged.0) in
          let high : nat_le top 7 ≡ true = grind (arith, nat_tests, ranged.1) in
          simp (id_is, secret_is, a, b, c, d, e, f, g, i, low, high)

  -- what is written for one level names no upper tree
  own_top : (top : Option ℕ) → (not (is_some top) && names_top (members top)) ≡ false
  own_top None = refl
  own_top (Some top) = refl

  read_back : (top : Option ℕ) → IsWritable (key top) → key_read (is_some top) (key_text_of (key top)) ≡ Ok (key top)
  read_back top h = rw (is_text top h, parsed top h, fields top h, own_top top) refl

-- the text of a key is read as that key
pub key_read-written : (k : KeyData) → IsWritable k → key_read (is_some k.top) (key_text_of k) ≡ Ok k
key_read-written k h = read_back k.party k.id k.rounds k.lms k.ots k.secret k.spent k.top h
