-- The bodies that can have a place in a push.
use Rattle.std.proofs.Common.{◌≡◌, ◌∙◌, ℕ, List, refl, sym}
use Rattle.std.specs.Borrow.{Bor}
use Rattle.bar_window.specs.declared.exchange.Role.{Role}
use Rattle.bar_window.specs.declared.exchange.Role.TheVariants.{Initiator, Responder}
use Rattle.bar_window.specs.declared.exchange.XKind.{XKind}
use Rattle.bar_window.specs.declared.exchange.XKind.TheVariants.{Balanced, Push}
use Rattle.bar_window.specs.declared.terms.Terms.{Terms}
use Rattle.bar_window.specs.declared.window.Window.{Window}
use Rattle.bar_wire.specs.Code.Views.{plain}
use Rattle.bar_wire.specs.declared.place.Place.{Place}
use Rattle.bar_wire.specs.declared.view.Body.{Body as RawBody}
use Rattle.bar_wire.specs.declared.view.Body.TheVariants as bodies
use Rattle.bar_exchange.proofs.Placed.{BodyStands, kind_at}

-- a body with such a place is of one of the kinds of pushes
pub none_pushed : (from to : ℕ) (b : RawBody) (p : Place) → BodyStands from to (plain b) p → p.x.kind ≡ Push
    → ((r : ℕ) (seed : Bor (List ℕ)) (young aged : Window) → b ≡ bodies.Query r seed young aged → ⊥)
    → ((r : ℕ) (want give : Window) (junk : ℕ) → b ≡ bodies.Reply r want give junk → ⊥)
    → ((r : ℕ) (xkind : XKind) (role : Role) (updates junk : ℕ) (terms : Terms) (cipher : Bor (List ℕ)) → b ≡ bodies.Case r xkind role updates junk terms cipher → ⊥)
    → ((r : ℕ) (xkind : XKind) (role : Role) → b ≡ bodies.KeyReq r xkind role → ⊥)
    → ((r : ℕ) (xkind : XKind) (role : Role) (key : Bor (List ℕ)) → b ≡ bodies.Key r xkind role key → ⊥) → ⊥
none_pushed from to (bodies.Query r seed young aged) p at is q a c n y = q r seed young aged refl
none_pushed from to (bodies.Reply r want give junk) p at is q a c n y = a r want give junk refl
none_pushed from to (bodies.Case r xkind role updates junk terms cipher) p at is q a c n y = c r xkind role updates junk terms cipher refl
none_pushed from to (bodies.KeyReq r xkind role) p at is q a c n y = n r xkind role refl
none_pushed from to (bodies.Key r xkind role key) p at is q a c n y = y r xkind role key refl
none_pushed from to (bodies.Request r seed commitment) p at is q a c n y =
    let other : Push ≡ Balanced = sym is ∙ kind_at from to (plain (bodies.Request r seed commitment)) p (r, Balanced, Initiator) at refl in absurd (cc)
none_pushed from to (bodies.Response r hb) p at is q a c n y =
    let other : Push ≡ Balanced = sym is ∙ kind_at from to (plain (bodies.Response r hb)) p (r, Balanced, Responder) at refl in absurd (cc)
none_pushed from to (bodies.Divulge r nonce ha) p at is q a c n y =
    let other : Push ≡ Balanced = sym is ∙ kind_at from to (plain (bodies.Divulge r nonce ha)) p (r, Balanced, Initiator) at refl in absurd (cc)
none_pushed from to (bodies.Manifest r count digests) p at is q a c n y = absurd (cc)
none_pushed from to (bodies.Block r index block) p at is q a c n y = absurd (cc)
none_pushed from to (bodies.Evidence count datagrams) p at is q a c n y = absurd (cc)
none_pushed from to (bodies.Evict r count parties) p at is q a c n y = absurd (cc)
