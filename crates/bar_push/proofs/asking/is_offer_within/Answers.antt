use Rattle.std.proofs.Common.{◌≡◌, ◌∙◌, Bool, true, false, ◌&&◌, refl, sym}
use Rattle.bar_push.proofs.asking.is_offer_within.Goals as goal

second_fails : (a b c : Bool) → b ≡ false → false ≡ (a && (b && c))
second_fails true b c f = λ i. sym f i && c
second_fails false b c f = refl

third_decides : (a b c r : Bool) → a ≡ true → b ≡ true → r ≡ c → r ≡ (a && (b && c))
third_decides a b c r ta tb e = e ∙ (λ i. sym ta i && (sym tb i && c))

pub returns-then-not-has_digests : goal.returns-then-not-has_digests
returns-then-not-has_digests c me k h allowed windows = second_fails _ _ _ (sym (c.has_digests.ensures me k h) ∙ search)

pub returns : goal.returns
returns c me k h allowed windows =
    third_decides _ _ _ _ (sym (c.is_valid_offer.ensures me k h allowed windows) ∙ search) (sym (c.has_digests.ensures me k h) ∙ search)
    (c.has_digests-2.ensures me k h)
