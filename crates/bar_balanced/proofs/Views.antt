-- The bodies that can have a place in a balanced exchange.
use Rattle.std.proofs.Common.{◌≡◌, ◌∙◌, ℕ, List, refl, sym}
use Rattle.std.specs.Borrow.{Bor}
use Rattle.bar_window.specs.declared.exchange.Role.{Role}
use Rattle.bar_window.specs.declared.exchange.Role.TheVariants.{Initiator, Responder}
use Rattle.bar_window.specs.declared.exchange.XKind.{XKind}
use Rattle.bar_window.specs.declared.exchange.XKind.TheVariants.{Balanced, Push}
use Rattle.bar_window.specs.declared.terms.Terms.{Terms}
use Rattle.bar_window.specs.declared.window.Window.{Window}
use Rattle.bar_wire.specs.Code.Views.{plain}
use Rattle.bar_wire.specs.declared.place.Place.{Place}
use Rattle.bar_wire.specs.declared.view.Body.{Body as RawBody}
use Rattle.bar_wire.specs.declared.view.Body.TheVariants as bodies
use Rattle.bar_exchange.proofs.Placed.{BodyStands, kind_at}

-- a body with such a place is of one of the kinds of balanced exchanges
pub none_balanced : (from to : ℕ) (b : RawBody) (p : Place) → BodyStands from to (plain b) p → p.x.kind ≡ Balanced
    → ((r : ℕ) (seed commitment : Bor (List ℕ)) → b ≡ bodies.Request r seed commitment → ⊥) → ((r : ℕ) (hb : Window) → b ≡ bodies.Response r hb → ⊥)
    → ((r : ℕ) (nonce : Bor (List ℕ)) (ha : Window) → b ≡ bodies.Divulge r nonce ha → ⊥)
    → ((r : ℕ) (xkind : XKind) (role : Role) (updates junk : ℕ) (terms : Terms) (cipher : Bor (List ℕ)) → b ≡ bodies.Case r xkind role updates junk terms cipher → ⊥)
    → ((r : ℕ) (xkind : XKind) (role : Role) → b ≡ bodies.KeyReq r xkind role → ⊥)
    → ((r : ℕ) (xkind : XKind) (role : Role) (key : Bor (List ℕ)) → b ≡ bodies.Key r xkind role key → ⊥) → ⊥
none_balanced from to (bodies.Request r seed commitment) p at is q a d c n y = q r seed commitment refl
none_balanced from to (bodies.Response r hb) p at is q a d c n y = a r hb refl
none_balanced from to (bodies.Divulge r nonce ha) p at is q a d c n y = d r nonce ha refl
none_balanced from to (bodies.Case r xkind role updates junk terms cipher) p at is q a d c n y = c r xkind role updates junk terms cipher refl
none_balanced from to (bodies.KeyReq r xkind role) p at is q a d c n y = n r xkind role refl
none_balanced from to (bodies.Key r xkind role key) p at is q a d c n y = y r xkind role key refl
none_balanced from to (bodies.Query r seed young aged) p at is q a d c n y =
    let other : Balanced ≡ Push = sym is ∙ kind_at from to (plain (bodies.Query r seed young aged)) p (r, Push, Initiator) at refl in absurd (cc)
none_balanced from to (bodies.Reply r want give junk) p at is q a d c n y =
    let other : Balanced ≡ Push = sym is ∙ kind_at from to (plain (bodies.Reply r want give junk)) p (r, Push, Responder) at refl in absurd (cc)
none_balanced from to (bodies.Manifest r count digests) p at is q a d c n y = absurd (cc)
none_balanced from to (bodies.Block r index block) p at is q a d c n y = absurd (cc)
none_balanced from to (bodies.Evidence count datagrams) p at is q a d c n y = absurd (cc)
none_balanced from to (bodies.Evict r count parties) p at is q a d c n y = absurd (cc)
