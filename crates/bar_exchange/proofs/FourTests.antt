-- Rows that consist of several tests.
use Rattle.std.proofs.Common.{◌≡◌, ◌∙◌, Bool, true, false, ◌&&◌, sym}
use Rattle.bar_store.proofs.Learns.{and_true, and_false}

-- if the other three tests hold, the third of four decides
pub third_of_four : (a b c d r : Bool) → a ≡ true → b ≡ true → d ≡ true → r ≡ c → r ≡ (((a && b) && c) && d)
third_of_four a b c d r ta tb td e = e ∙ and_true c ∙ (λ i. ((sym ta i && sym tb i) && c) && sym td i)

-- if the other three tests hold, the first of four decides
pub first_of_four : (a b c d r : Bool) → b ≡ true → c ≡ true → d ≡ true → r ≡ a → r ≡ (((a && b) && c) && d)
first_of_four a b c d r tb tc td e = e ∙ and_true a ∙ and_true (a && true) ∙ and_true ((a && true) && true) ∙ (λ i. ((a && sym tb i) && sym tc i) && sym td i)

-- if the third of four tests fails, the row isn't met
pub fails_third : (a b c d : Bool) → c ≡ false → false ≡ (((a && b) && c) && d)
fails_third a b c d f = (λ i. and_false (a && b) i && d) ∙ (λ i. ((a && b) && sym f i) && d)
