-- Bytes that encode no fields of a kind.
use Rattle.std.proofs.Common.{◌≡◌, ℕ, ◌<◌, ◌^◌, List, [], ◌∷◌, ◌++◌, length, sym, ap, subst, ◌∙◌}
use Rattle.std.specs.List.{concat}
use Rattle.bar_bytes.specs.Bytes.{u32_bytes}
use Rattle.bar_bytes.proofs.Lengths.{length_u32}
use Rattle.bar_window.specs.declared.exchange.XKind.{XKind}
use Rattle.bar_window.specs.declared.exchange.Role.{Role}
use Rattle.bar_window.specs.Exchange.{kind_code, role_code}
use Rattle.bar_wire.specs.declared.shape.Shape.{Shape}
use Rattle.bar_wire.specs.declared.kind.Kind.TheVariants as kinds
use Rattle.bar_wire.specs.Datagram.{Response, Divulge, Query, Reply, Case, KeyReq, Key}
use Rattle.bar_wire.specs.Grammar.{set_bytes, term_pieces, IsWindowSet, IsRound, HasTermForm}
use Rattle.bar_wire.specs.Code.Reading.{SpellsNone}
use Rattle.bar_wire.specs.Code.Sides.{NoSideAt}
use Rattle.bar_wire.specs.Code.Windows.{NoWindowAt, NoWindowsAt}
use Rattle.bar_wire.specs.Code.Terms.{NoTermsAt}
use Rattle.bar_wire.proofs.CaseReads.{CaseStart}
use Rattle.bar_wire.proofs.Peel.{peel, same_u32}
use Rattle.bar_wire.proofs.Codes.{same_kind_code}

one_u32 : (m n : ℕ) (x y : List ℕ) → m < 2 ^ 32 → n < 2 ^ 32 → u32_bytes m ++ x ≡ u32_bytes n ++ y → (m ≡ n) × (x ≡ y)
one_u32 m n x y p q e = let a = peel (u32_bytes m) (u32_bytes n) x y (length_u32 m ∙ sym (length_u32 n)) e in (same_u32 m n p q a.front, a.rest)

pub no_response : (s : Shape) (r : ℕ) (bytes rest : List ℕ) → r < 2 ^ 32 → bytes ≡ u32_bytes r ++ rest → NoWindowAt s r rest → SpellsNone s kinds.Response bytes
no_response s r bytes rest lt is none (Response r' hb) kind spelled =
    let a = one_u32 r' r (set_bytes s r' hb ++ []) rest spelled.form.0 lt (sym spelled.is ∙ is) in
    none (subst (IsRound s) a.0 spelled.range) hb [] (subst (λ (n : ℕ). IsWindowSet s n hb) a.0 spelled.form.1) (sym a.1 ∙ ap (λ (n : ℕ). set_bytes s n hb ++ []) a.0)
no_response s r bytes rest lt is none b kind spelled = absurd cc

pub no_divulge : (s : Shape) (r : ℕ) (bytes front nonce rest : List ℕ) → r < 2 ^ 32 → bytes ≡ u32_bytes r ++ front → front ≡ nonce ++ rest → length nonce ≡ 32 → NoWindowAt s r rest → SpellsNone s kinds.Divulge bytes
no_divulge s r bytes front nonce rest lt is next long none (Divulge r' n ha) kind spelled =
    let a = one_u32 r' r (n ++ (set_bytes s r' ha ++ [])) front spelled.form.0 lt (sym spelled.is ∙ is) in
    let b = peel n nonce (set_bytes s r' ha ++ []) rest (spelled.form.1 ∙ sym long) (a.1 ∙ next) in
    none (subst (IsRound s) a.0 spelled.range) ha [] (subst (λ (n : ℕ). IsWindowSet s n ha) a.0 spelled.form.2) (sym b.rest ∙ ap (λ (n : ℕ). set_bytes s n ha ++ []) a.0)
no_divulge s r bytes front nonce rest lt is next long none b kind spelled = absurd cc

pub no_query : (s : Shape) (r : ℕ) (bytes front seed rest : List ℕ) → r < 2 ^ 32 → bytes ≡ u32_bytes r ++ front → front ≡ seed ++ rest → length seed ≡ 32 → NoWindowsAt s r rest → SpellsNone s kinds.Query bytes
no_query s r bytes front seed rest lt is next long none (Query r' n young aged) kind spelled =
    let a = one_u32 r' r (n ++ (set_bytes s r' young ++ (set_bytes s r' aged ++ []))) front spelled.form.0 lt (sym spelled.is ∙ is) in
    let b = peel n seed (set_bytes s r' young ++ (set_bytes s r' aged ++ [])) rest (spelled.form.1 ∙ sym long) (a.1 ∙ next) in
    none (subst (IsRound s) a.0 spelled.range) young aged [] (subst (λ (n : ℕ). IsWindowSet s n young) a.0 spelled.form.2) (subst (λ (n : ℕ). IsWindowSet s n aged) a.0 spelled.form.3) (sym b.rest ∙ ap (λ (n : ℕ). set_bytes s n young ++ (set_bytes s n aged ++ [])) a.0)
no_query s r bytes front seed rest lt is next long none b kind spelled = absurd cc

pub no_reply : (s : Shape) (r : ℕ) (bytes rest : List ℕ) → r < 2 ^ 32 → bytes ≡ u32_bytes r ++ rest → NoWindowsAt s r rest → SpellsNone s kinds.Reply bytes
no_reply s r bytes rest lt is none (Reply r' want give z) kind spelled =
    let a = one_u32 r' r (set_bytes s r' want ++ (set_bytes s r' give ++ (z ∷ []))) rest spelled.form.0 lt (sym spelled.is ∙ is) in
    none (subst (IsRound s) a.0 spelled.range.0) want give (z ∷ []) (subst (λ (n : ℕ). IsWindowSet s n want) a.0 spelled.form.1) (subst (λ (n : ℕ). IsWindowSet s n give) a.0 spelled.form.2) (sym a.1 ∙ ap (λ (n : ℕ). set_bytes s n want ++ (set_bytes s n give ++ (z ∷ []))) a.0)
no_reply s r bytes rest lt is none b kind spelled = absurd cc

pub no_case : (s : Shape) (r : ℕ) (k : XKind) (p : Role) (u z : ℕ) (bytes rest : List ℕ) → CaseStart r k p u z bytes rest → NoTermsAt s k r rest → SpellsNone s kinds.Case bytes
no_case s r k p u z bytes rest start none (Case c) kind spelled =
    let text = concat (term_pieces s c.round c.terms) in
    let a = one_u32 c.round r (kind_code c.kind ∷ role_code c.role ∷ c.updates ∷ c.junk ∷ (text ++ (c.cipher ++ []))) (kind_code k ∷ role_code p ∷ u ∷ z ∷ rest) spelled.form.0 start.fits (sym spelled.is ∙ start.is) in
    let code : kind_code c.kind ≡ kind_code k = cc in
    let left : text ++ (c.cipher ++ []) ≡ rest = cc in
    let form : HasTermForm s r c.kind c.terms = subst (λ (n : ℕ). HasTermForm s n c.kind c.terms) a.0 spelled.form.1 in
    none (subst (IsRound s) a.0 spelled.range.0) c.terms (c.cipher ++ []) (subst (λ (n : XKind). HasTermForm s r n c.terms) (same_kind_code c.kind k code) form) (sym left ∙ ap (λ (n : ℕ). concat (term_pieces s n c.terms) ++ (c.cipher ++ [])) a.0)
no_case s r k p u z bytes rest start none b kind spelled = absurd cc

-- bytes whose second and third fields are no codes of a kind of exchange and of a role
pub no_case_side : (s : Shape) (r : ℕ) (bytes rest : List ℕ) → r < 2 ^ 32 → bytes ≡ u32_bytes r ++ rest → NoSideAt rest → SpellsNone s kinds.Case bytes
no_case_side s r bytes rest lt is none (Case c) kind spelled =
    let after = c.updates ∷ c.junk ∷ (concat (term_pieces s c.round c.terms) ++ (c.cipher ++ [])) in
    none c.kind c.role after (sym (one_u32 c.round r (kind_code c.kind ∷ role_code c.role ∷ after) rest spelled.form.0 lt (sym spelled.is ∙ is)).1)
no_case_side s r bytes rest lt is none b kind spelled = absurd cc

pub no_key_request : (s : Shape) (r : ℕ) (bytes rest : List ℕ) → r < 2 ^ 32 → bytes ≡ u32_bytes r ++ rest → NoSideAt rest → SpellsNone s kinds.KeyReq bytes
no_key_request s r bytes rest lt is none (KeyReq r' k role) kind spelled =
    none k role [] (sym (one_u32 r' r (kind_code k ∷ role_code role ∷ []) rest spelled.form lt (sym spelled.is ∙ is)).1)
no_key_request s r bytes rest lt is none b kind spelled = absurd cc

pub no_key : (s : Shape) (r : ℕ) (bytes rest : List ℕ) → r < 2 ^ 32 → bytes ≡ u32_bytes r ++ rest → NoSideAt rest → SpellsNone s kinds.Key bytes
no_key s r bytes rest lt is none (Key g) kind spelled =
    none g.kind g.role (g.key ++ []) (sym (one_u32 g.round r (kind_code g.kind ∷ role_code g.role ∷ (g.key ++ [])) rest spelled.form.0 lt (sym spelled.is ∙ is)).1)
no_key s r bytes rest lt is none b kind spelled = absurd cc
