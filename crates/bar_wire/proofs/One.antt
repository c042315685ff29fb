-- The encoding of the fields of a kind is unique, injective and prefix-free.
use Rattle.std.proofs.Common.{◌≡◌, ℕ, List, [], ◌∷◌, ◌++◌, length, sym, ap, subst, ◌∙◌, append_assoc, arith}
use Rattle.std.specs.List.{concat, flat_map}
use Rattle.bar_bytes.specs.Bytes.{u8_bytes, u16_bytes}
use Rattle.bar_window.specs.declared.exchange.XKind.{XKind}
use Rattle.bar_window.specs.declared.exchange.XKind.TheVariants as exchanges
use Rattle.bar_window.specs.Exchange.{kind_code, role_code}
use Rattle.bar_window.specs.Terms.{Terms}
use Rattle.bar_window.specs.Terms as forms
use Rattle.bar_wire.specs.declared.shape.Shape.{Shape}
use Rattle.bar_wire.specs.Datagram.{Body, Briefcase, KeyGiven, Manifest, Block, Request, Response, Divulge, Query, Reply, Case, KeyReq, Key, Evidence, Evict, kind_of}
use Rattle.bar_wire.specs.Grammar.{set_bytes, pieces, term_pieces, entry, HasForm, HasTermForm, InRange}
use Rattle.bar_wire.specs.Code.Reading.{SpellsNone}
use Rattle.bar_wire.proofs.Peel.{peel_piece, peel_u32, peel_u8, peel_set, peel_parts, peel_parties, peel_entries}
use Rattle.bar_wire.proofs.Codes.{same_kind_code, same_role_code}

pub record IsOne (d e : Body) (x y : List ℕ) : Type 0 where
  pub body : d ≡ e
  pub rest : x ≡ y

pub not_both_kinds : exchanges.Balanced ≡ exchanges.Push → ⊥
not_both_kinds e = cc

-- the terms
pub one_terms : (s : Shape) (r r' : ℕ) (k : XKind) (t t' : Terms) (x y : List ℕ) → r ≡ r' → HasTermForm s r k t → HasTermForm s r' k t' → concat (term_pieces s r t) ++ x ≡ concat (term_pieces s r' t') ++ y → (t ≡ t') × (x ≡ y)
one_terms s r r' k (forms.Balanced n a b) (forms.Balanced n' a' b') x y same f g e =
    let p = peel_piece n n' (set_bytes s r a ∷ set_bytes s r b ∷ []) (set_bytes s r' a' ∷ set_bytes s r' b' ∷ []) x y (f.1 ∙ sym g.1) e in
    let q = peel_set s r r' a a' (set_bytes s r b ∷ []) (set_bytes s r' b' ∷ []) x y same f.2 g.2 p.rest in
    let t = peel_set s r r' b b' [] [] x y same f.3 g.3 q.1 in
    (λ i. forms.Balanced (p.front i) (q.0 i) (t.0 i), t.1)
one_terms s r r' k (forms.Push a b u v z) (forms.Push a' b' u' v' z') x y same f g e =
    let p = peel_set s r r' a a' (set_bytes s r b ∷ set_bytes s r u ∷ set_bytes s r v ∷ u8_bytes z ∷ []) (set_bytes s r' b' ∷ set_bytes s r' u' ∷ set_bytes s r' v' ∷ u8_bytes z' ∷ []) x y same f.1 g.1 e in
    let q = peel_set s r r' b b' (set_bytes s r u ∷ set_bytes s r v ∷ u8_bytes z ∷ []) (set_bytes s r' u' ∷ set_bytes s r' v' ∷ u8_bytes z' ∷ []) x y same f.2 g.2 p.1 in
    let t = peel_set s r r' u u' (set_bytes s r v ∷ u8_bytes z ∷ []) (set_bytes s r' v' ∷ u8_bytes z' ∷ []) x y same f.3 g.3 q.1 in
    let w = peel_set s r r' v v' (u8_bytes z ∷ []) (u8_bytes z' ∷ []) x y same f.4 g.4 t.1 in
    let l = peel_u8 z z' [] [] x y w.1 in
    (λ i. forms.Push (p.0 i) (q.0 i) (t.0 i) (w.0 i) (l.0 i), l.1)
one_terms s r r' k (forms.Balanced n a b) (forms.Push a' b' u' v' z') x y same f g e = absurd (not_both_kinds (sym f.0 ∙ g.0))
one_terms s r r' k (forms.Push a b u v z) (forms.Balanced n' a' b') x y same f g e = absurd (not_both_kinds (sym g.0 ∙ f.0))

one_case : (s : Shape) (c c' : Briefcase) (x y : List ℕ) → HasForm s (Case c) → HasForm s (Case c') → concat (pieces s (Case c)) ++ x ≡ concat (pieces s (Case c')) ++ y → (c ≡ c') × (x ≡ y)
one_case s c c' x y f g e =
    let text = concat (term_pieces s c.round c.terms) in
    let text' = concat (term_pieces s c'.round c'.terms) in
    let k = kind_code c.kind in
    let k' = kind_code c'.kind in
    let p = role_code c.role in
    let p' = role_code c'.role in
    let u = c.updates in
    let u' = c'.updates in
    let a = peel_u32 c.round c'.round (u8_bytes k ∷ u8_bytes p ∷ u8_bytes u ∷ u8_bytes c.junk ∷ text ∷ c.cipher ∷ []) (u8_bytes k' ∷ u8_bytes p' ∷ u8_bytes u' ∷ u8_bytes c'.junk ∷ text' ∷ c'.cipher ∷ []) x y f.0 g.0 e in
    let b = peel_u8 k k' (u8_bytes p ∷ u8_bytes u ∷ u8_bytes c.junk ∷ text ∷ c.cipher ∷ []) (u8_bytes p' ∷ u8_bytes u' ∷ u8_bytes c'.junk ∷ text' ∷ c'.cipher ∷ []) x y a.1 in
    let d = peel_u8 p p' (u8_bytes u ∷ u8_bytes c.junk ∷ text ∷ c.cipher ∷ []) (u8_bytes u' ∷ u8_bytes c'.junk ∷ text' ∷ c'.cipher ∷ []) x y b.1 in
    let h = peel_u8 u u' (u8_bytes c.junk ∷ text ∷ c.cipher ∷ []) (u8_bytes c'.junk ∷ text' ∷ c'.cipher ∷ []) x y d.1 in
    let j = peel_u8 c.junk c'.junk (text ∷ c.cipher ∷ []) (text' ∷ c'.cipher ∷ []) x y h.1 in
    let kinds = same_kind_code c.kind c'.kind b.0 in
    let roles = same_role_code c.role c'.role d.0 in
    let regrouped : text ++ ((c.cipher ++ []) ++ x) ≡ text' ++ ((c'.cipher ++ []) ++ y) = sym (append_assoc text (c.cipher ++ []) x) ∙ j.1 ∙ append_assoc text' (c'.cipher ++ []) y in
    let t = one_terms s c.round c'.round c.kind c.terms c'.terms ((c.cipher ++ []) ++ x) ((c'.cipher ++ []) ++ y) a.0 f.1 (subst (λ (n : XKind). HasTermForm s c'.round n c'.terms) (sym kinds) g.1) regrouped in
    let l = peel_piece c.cipher c'.cipher [] [] x y (omega (arith, f.2, g.2, h.0, j.0)) t.1 in
    (λ i. record { round = a.0 i; kind = kinds i; role = roles i; updates = h.0 i; junk = j.0 i; terms = t.0 i; cipher = l.front i }, l.rest)

one_key : (s : Shape) (k k' : KeyGiven) (x y : List ℕ) → HasForm s (Key k) → HasForm s (Key k') → concat (pieces s (Key k)) ++ x ≡ concat (pieces s (Key k')) ++ y → (k ≡ k') × (x ≡ y)
one_key s k k' x y f g e =
    let c = kind_code k.kind in
    let c' = kind_code k'.kind in
    let p = role_code k.role in
    let p' = role_code k'.role in
    let a = peel_u32 k.round k'.round (u8_bytes c ∷ u8_bytes p ∷ k.key ∷ []) (u8_bytes c' ∷ u8_bytes p' ∷ k'.key ∷ []) x y f.0 g.0 e in
    let b = peel_u8 c c' (u8_bytes p ∷ k.key ∷ []) (u8_bytes p' ∷ k'.key ∷ []) x y a.1 in
    let d = peel_u8 p p' (k.key ∷ []) (k'.key ∷ []) x y b.1 in
    let l = peel_piece k.key k'.key [] [] x y (f.1 ∙ sym g.1) d.1 in
    let kinds = same_kind_code k.kind k'.kind b.0 in
    let roles = same_role_code k.role k'.role d.0 in
    (λ i. record { round = a.0 i; kind = kinds i; role = roles i; key = l.front i }, l.rest)

pub one_reading : (s : Shape) (d e : Body) (x y : List ℕ) → kind_of d ≡ kind_of e → HasForm s d → HasForm s e → concat (pieces s d) ++ x ≡ concat (pieces s e) ++ y → IsOne d e x y
one_reading s (Manifest r ds) (Manifest r' ds') x y k f g e =
    let a = peel_u32 r r' (u8_bytes (length ds) ∷ concat ds ∷ []) (u8_bytes (length ds') ∷ concat ds' ∷ []) x y f.0 g.0 e in
    let b = peel_u8 (length ds) (length ds') (concat ds ∷ []) (concat ds' ∷ []) x y a.1 in
    let regrouped : concat ds ++ x ≡ concat ds' ++ y = sym (append_assoc (concat ds) [] x) ∙ b.1 ∙ append_assoc (concat ds') [] y in
    let c = peel_parts 32 ds ds' x y b.0 f.1 g.1 regrouped in
    record { body = λ i. Manifest (a.0 i) (c.0 i); rest = c.1 }
one_reading s (Block u block) (Block u' block') x y k f g e =
    let a = peel_u32 u.round u'.round (u8_bytes u.index ∷ block ∷ []) (u8_bytes u'.index ∷ block' ∷ []) x y f.0 g.0 e in
    let b = peel_u8 u.index u'.index (block ∷ []) (block' ∷ []) x y a.1 in
    let c = peel_piece block block' [] [] x y (f.1 ∙ sym g.1) b.1 in
    record { body = λ i. Block (record { round = a.0 i; index = b.0 i }) (c.front i); rest = c.rest }
one_reading s (Request r seed commitment) (Request r' seed' commitment') x y k f g e =
    let a = peel_u32 r r' (seed ∷ commitment ∷ []) (seed' ∷ commitment' ∷ []) x y f.0 g.0 e in
    let b = peel_piece seed seed' (commitment ∷ []) (commitment' ∷ []) x y (f.1 ∙ sym g.1) a.1 in
    let c = peel_piece commitment commitment' [] [] x y (f.2 ∙ sym g.2) b.rest in
    record { body = λ i. Request (a.0 i) (b.front i) (c.front i); rest = c.rest }
one_reading s (Response r hb) (Response r' hb') x y k f g e =
    let a = peel_u32 r r' (set_bytes s r hb ∷ []) (set_bytes s r' hb' ∷ []) x y f.0 g.0 e in
    let b = peel_set s r r' hb hb' [] [] x y a.0 f.1 g.1 a.1 in
    record { body = λ i. Response (a.0 i) (b.0 i); rest = b.1 }
one_reading s (Divulge r nonce ha) (Divulge r' nonce' ha') x y k f g e =
    let a = peel_u32 r r' (nonce ∷ set_bytes s r ha ∷ []) (nonce' ∷ set_bytes s r' ha' ∷ []) x y f.0 g.0 e in
    let b = peel_piece nonce nonce' (set_bytes s r ha ∷ []) (set_bytes s r' ha' ∷ []) x y (f.1 ∙ sym g.1) a.1 in
    let c = peel_set s r r' ha ha' [] [] x y a.0 f.2 g.2 b.rest in
    record { body = λ i. Divulge (a.0 i) (b.front i) (c.0 i); rest = c.1 }
one_reading s (Query r seed young aged) (Query r' seed' young' aged') x y k f g e =
    let a = peel_u32 r r' (seed ∷ set_bytes s r young ∷ set_bytes s r aged ∷ []) (seed' ∷ set_bytes s r' young' ∷ set_bytes s r' aged' ∷ []) x y f.0 g.0 e in
    let b = peel_piece seed seed' (set_bytes s r young ∷ set_bytes s r aged ∷ []) (set_bytes s r' young' ∷ set_bytes s r' aged' ∷ []) x y (f.1 ∙ sym g.1) a.1 in
    let c = peel_set s r r' young young' (set_bytes s r aged ∷ []) (set_bytes s r' aged' ∷ []) x y a.0 f.2 g.2 b.rest in
    let d = peel_set s r r' aged aged' [] [] x y a.0 f.3 g.3 c.1 in
    record { body = λ i. Query (a.0 i) (b.front i) (c.0 i) (d.0 i); rest = d.1 }
one_reading s (Reply r want give junk) (Reply r' want' give' junk') x y k f g e =
    let a = peel_u32 r r' (set_bytes s r want ∷ set_bytes s r give ∷ u8_bytes junk ∷ []) (set_bytes s r' want' ∷ set_bytes s r' give' ∷ u8_bytes junk' ∷ []) x y f.0 g.0 e in
    let b = peel_set s r r' want want' (set_bytes s r give ∷ u8_bytes junk ∷ []) (set_bytes s r' give' ∷ u8_bytes junk' ∷ []) x y a.0 f.1 g.1 a.1 in
    let c = peel_set s r r' give give' (u8_bytes junk ∷ []) (u8_bytes junk' ∷ []) x y a.0 f.2 g.2 b.1 in
    let d = peel_u8 junk junk' [] [] x y c.1 in
    record { body = λ i. Reply (a.0 i) (b.0 i) (c.0 i) (d.0 i); rest = d.1 }
one_reading s (Case c) (Case c') x y k f g e = let a = one_case s c c' x y f g e in record { body = ap Case a.0; rest = a.1 }
one_reading s (KeyReq r kind role) (KeyReq r' kind' role') x y k f g e =
    let a = peel_u32 r r' (u8_bytes (kind_code kind) ∷ u8_bytes (role_code role) ∷ []) (u8_bytes (kind_code kind') ∷ u8_bytes (role_code role') ∷ []) x y f g e in
    let b = peel_u8 (kind_code kind) (kind_code kind') (u8_bytes (role_code role) ∷ []) (u8_bytes (role_code role') ∷ []) x y a.1 in
    let c = peel_u8 (role_code role) (role_code role') [] [] x y b.1 in
    let kinds = same_kind_code kind kind' b.0 in
    let roles = same_role_code role role' c.0 in
    record { body = λ i. KeyReq (a.0 i) (kinds i) (roles i); rest = c.1 }
one_reading s (Key given) (Key given') x y k f g e = let a = one_key s given given' x y f g e in record { body = ap Key a.0; rest = a.1 }
one_reading s (Evidence ds) (Evidence ds') x y k f g e =
    let a = peel_u8 (length ds) (length ds') (flat_map entry ds ∷ []) (flat_map entry ds' ∷ []) x y e in
    let b = peel_entries ds ds' x y a.0 f g a.1 in
    record { body = ap Evidence b.0; rest = b.1 }
one_reading s (Evict r ps) (Evict r' ps') x y k f g e =
    let a = peel_u32 r r' (u8_bytes (length ps) ∷ flat_map u16_bytes ps ∷ []) (u8_bytes (length ps') ∷ flat_map u16_bytes ps' ∷ []) x y f.0 g.0 e in
    let b = peel_u8 (length ps) (length ps') (flat_map u16_bytes ps ∷ []) (flat_map u16_bytes ps' ∷ []) x y a.1 in
    let c = peel_parties ps ps' x y b.0 f.1 g.1 b.1 in
    record { body = λ i. Evict (a.0 i) (c.0 i); rest = c.1 }
one_reading s d e x y k f g h = absurd cc

-- If the fields that the bytes encode are out of range, the bytes encode none of the kind.
pub none_in_range : (s : Shape) (d : Body) (bytes : List ℕ) → HasForm s d → bytes ≡ concat (pieces s d) → (InRange s d → ⊥) → SpellsNone s (kind_of d) bytes
none_in_range s d bytes form is out e kind spelled =
    let one = one_reading s e d [] [] kind spelled.form form (ap (λ (b : List ℕ). b ++ []) (sym spelled.is ∙ is)) in
    out (subst (InRange s) one.body spelled.range)
