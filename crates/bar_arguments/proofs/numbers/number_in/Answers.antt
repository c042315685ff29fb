use Rattle.std.proofs.Common.{rules, arith, ◌≡◌, ◌∙◌, ap, sym, ◌<◌, ◌^◌, ℕ, List, [], ◌∷◌, true, length, None, Result, Err}
use Rattle.std.specs.List.{list_all}
use Rattle.std.specs.Char.{is_ascii_digit}
use Rattle.std.specs.Str.Parse.{ParsesUnsigned, digits_value}
use Rattle.std.proofs.lemmas.Bool.{false≢true}
use Rattle.std.proofs.lemmas.Bool.Decides.{nat_tests}
use Rattle.std.proofs.lemmas.Result.{OkIff-at_err}
use Rattle.std.proofs.lemmas.Str.Parse.{IsNumeralModel, numerals_by_value, parse_digits}
use Rattle.bar_arguments.specs.Numbers.{is_numeral, number_in}
use Rattle.bar_arguments.proofs.numbers.number_in.Goals as goal

own : IsNumeralModel (λ ds. list_all is_ascii_digit ds ≡ true) (digits_value 10)
own = numerals_by_value _ (search rules)

-- a numeral has at least one digit
some : (word : List ℕ) → is_numeral word ≡ true → 0 < length word
some [] h = absurd (false≢true h)
some (digit ∷ digits) h = omega arith

digits_alone : (word : List ℕ) → is_numeral word ≡ true → list_all is_ascii_digit word ≡ true
digits_alone [] h = absurd (false≢true h)
digits_alone (digit ∷ digits) h = h

-- digits that the parser refuses represent a number above every range
past : {E : Type 0} (low high : ℕ) (word : List ℕ) (r : Result ℕ E) (e : E) → high < 2 ^ 64 → is_numeral word ≡ true → ParsesUnsigned 64 10 word r → r ≡ Err e
    → None ≡ number_in low high word
past low high word r e fits numeral parsed failed =
    let long : 0 < length word = some word numeral in
    let no = OkIff-at_err r _ _ e (parse_digits own 64 word r parsed (digits_alone word numeral)) failed in
    let big : high < digits_value 10 word = grind (arith, no) in
    rw numeral (grind (arith, nat_tests, big))

pub returns-in_default-3-clause-value : goal.returns-in_default-3-clause-value
returns-in_default-3-clause-value c =
    past c.args.low c.args.high c.args.word.now c.parse.result c.in_default.field-0 (omega arith) (sym (c.if-not-is_numeral.ensures ∙ ap is_numeral c.as_bytes.ensures.value))
    c.parse.ensures.value.0 c.in_default.is
