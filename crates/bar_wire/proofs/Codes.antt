-- The codes of kinds of exchange and of roles.
use Rattle.std.proofs.Common.{◌≡◌, ℕ, zero, suc, ◌+◌, ◌*◌, ◌<◌, List, ◌∷◌, refl, sym, ap, ◌∙◌, arith}
use Rattle.bar_window.specs.declared.exchange.XKind.{XKind}
use Rattle.bar_window.specs.declared.exchange.XKind.TheVariants.{Balanced, Push}
use Rattle.bar_window.specs.declared.exchange.Role.{Role}
use Rattle.bar_window.specs.declared.exchange.Role.TheVariants.{Initiator, Responder}
use Rattle.bar_window.specs.Exchange.{kind_code, role_code}
use Rattle.bar_wire.specs.declared.shape.Shape.{Shape}
use Rattle.bar_wire.specs.Places.{kind_from, role_from, terms_len, window_len}
use Rattle.bar_wire.specs.Code.Sides.{NoSideAt}

pub terms_len_push : (s : Shape) (code : ℕ) → 0 < code → terms_len s code ≡ 4 * window_len s + 1
terms_len_push s zero lt = absurd (omega (arith, lt))
terms_len_push s (suc k) lt = refl

pub kind_back : (k : XKind) → kind_from (kind_code k) ≡ k
kind_back Balanced = refl
kind_back Push = refl

pub role_back : (r : Role) → role_from (role_code r) ≡ r
role_back Initiator = refl
role_back Responder = refl

pub same_kind_code : (k l : XKind) → kind_code k ≡ kind_code l → k ≡ l
same_kind_code k l e = sym (kind_back k) ∙ ap kind_from e ∙ kind_back l

pub same_role_code : (r q : Role) → role_code r ≡ role_code q → r ≡ q
same_role_code r q e = sym (role_back r) ∙ ap role_from e ∙ role_back q

pub kind_small : (k : XKind) → kind_code k < 2
kind_small Balanced = omega arith
kind_small Push = omega arith

pub role_small : (r : Role) → role_code r < 2
role_small Initiator = omega arith
role_small Responder = omega arith

-- bytes whose first or second number is no code
pub no_kind_at : (code : ℕ) (bytes rest : List ℕ) → 1 < code → bytes ≡ code ∷ rest → NoSideAt bytes
no_kind_at code bytes rest big is = λ kind role after spelled. let same : code ≡ kind_code kind = cc in omega (arith, big, same, kind_small kind)

pub no_role_at : (k code : ℕ) (bytes next rest : List ℕ) → 1 < code → bytes ≡ k ∷ next → next ≡ code ∷ rest → NoSideAt bytes
no_role_at k code bytes next rest big is then = λ kind role after spelled. let same : code ≡ role_code role = cc in omega (arith, big, same, role_small role)
