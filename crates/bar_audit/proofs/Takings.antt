-- What a recording adds, one input after another.
use Rattle.std.proofs.Common.{◌≡◌, ℕ, ◌+◌, ◌*◌, ◌≤◌, Bool, true, false, List, [], ◌∷◌, refl, sym, ap, ◌∙◌, subst, cond, suc, ◌||◌, eqb, arith}
use Rattle.std.specs.Prelude.{Option, Some, None, option_map, option_and_then, find, filter, length, if◌then◌else◌}
use Rattle.std.specs.List.{list_any, cons_option}
use Rattle.std.specs.Option.{option_map_or, option_or}
use Rattle.std.proofs.Math.Nat.{suc-mul}
use Rattle.std.proofs.lemmas.Bool.{and_parts}
use Rattle.bar_wire.specs.Bodies.{briefcase_in}
use Rattle.bar_wire.specs.Datagram.{Datagram, Briefcase}
use Rattle.bar_wire.specs.Inputs.{Input}
use Rattle.bar_wire.specs.Inputs as event
use Rattle.bar_rules.specs.Member.{Session}
use Rattle.bar_rules.specs.Values.{datagram_of}
use Rattle.bar_audit.specs.declared.findings.Findings.{Findings}
use Rattle.bar_audit.specs.declared.side.Side.{Side}
use Rattle.bar_audit.specs.Code.Findings.{case_at, has_side, AreKeptWindows, KeepsExchanges}
use Rattle.bar_audit.specs.Code.Found.{Promised, promised_by, can_be_opened, is_case, is_key, case_in, has_key_in}
use Rattle.bar_audit.specs.Code.Given.{case_with, key_with, GivesCase, GivesKey, GivesCases, GivesKeys, is_told, told}
use Rattle.bar_audit.specs.Recordings.{datagrams_in}
use Rattle.bar_audit.specs.Code.Shown.{case_shown}
use Rattle.bar_audit.specs.Code.Sides.{receiver}

-- what inputs promise of a side
abbrev pub case_found : Session → List Input → Side → Option Promised
case_found s inputs side = option_map (promised_by s) (case_in s side.x side.role inputs)

abbrev pub key_found : Session → List Input → Side → Bool
key_found s inputs side = has_key_in s side.x side.role inputs

-- What is kept now, with what the remaining inputs add, is what was kept at first, with what all inputs add.
pub record Taken (s : Session) (party : ℕ) (all rest : List Input) (old now : Findings) (before after most : ℕ) : Type 0 where
  pub cases : (side : Side)
      → case_with party side (case_at now.cases.entries side) (case_found s rest side)
      ≡ case_with party side (case_at old.cases.entries side) (case_found s all side)
  pub keys : (side : Side)
      → key_with party side (has_side now.keys.keys side) (key_found s rest side)
      ≡ key_with party side (has_side old.keys.keys side) (key_found s all side)
  pub windows : AreKeptWindows s old.cases.entries → AreKeptWindows s now.cases.entries
  pub exchanges : KeepsExchanges old → KeepsExchanges now
  pub cost : after + told s party rest * most ≤ before + told s party all * most

pub taken-none : (s : Session) (party : ℕ) (all : List Input) (old : Findings) (before most : ℕ) → Taken s party all all old old before before most
taken-none s party all old before most = record {
  cases = λ side. refl;
  keys = λ side. refl;
  windows = λ w. w;
  exchanges = λ x. x;
  cost = omega arith;
}

-- a tick adds nothing
pub taken-tick : (s : Session) (party : ℕ) (all left rest : List Input) (old now : Findings) (before after most : ℕ) → left ≡ event.Tick ∷ rest
    → Taken s party all left old now before after most → Taken s party all rest old now before after most
taken-tick s party all left rest old now before after most e t =
    let at : Taken s party all (event.Tick ∷ rest) old now before after most = subst (λ l. Taken s party all l old now before after most) e t in
    record { cases = at.cases; keys = at.keys; windows = at.windows; exchanges = at.exchanges; cost = at.cost }

-- ---- one datagram more

shown-first : (s : Session) (side : Side) (d : Datagram) (ds : List Datagram)
    → option_map (promised_by s) (option_and_then (λ (d : Datagram). briefcase_in d.message.body) (find (is_case s side.x side.role) (d ∷ ds)))
    ≡ option_or (case_shown s side d)
    (option_map (promised_by s) (option_and_then (λ (d : Datagram). briefcase_in d.message.body) (find (is_case s side.x side.role) ds)))
shown-first s side d ds = go (is_case s side.x side.role d) refl
  where
    whole : (o : Option Briefcase) (rest : Option Promised) → option_map_or (can_be_opened s side.x) o false ≡ true
        → option_map (promised_by s) o ≡ option_or (option_map (promised_by s) o) rest
    whole None rest e = cc
    whole (Some c) rest e = refl

    go : (b : Bool) → is_case s side.x side.role d ≡ b
        → option_map (promised_by s) (option_and_then (λ (d : Datagram). briefcase_in d.message.body)
        (cond b (Some d) (find (is_case s side.x side.role) ds)))
        ≡ option_or (cond b (option_map (promised_by s) (briefcase_in d.message.body)) None)
        (option_map (promised_by s) (option_and_then (λ (d : Datagram). briefcase_in d.message.body) (find (is_case s side.x side.role) ds)))
    go false e = refl
    go true e = whole (briefcase_in d.message.body) _ (and_parts _ _ e).1

shown-more : (s : Session) (side : Side) (o : Option Datagram) (ds : List Datagram)
    → option_map (promised_by s) (option_and_then (λ (d : Datagram). briefcase_in d.message.body) (find (is_case s side.x side.role) (cons_option o ds)))
    ≡ option_or (option_and_then (case_shown s side) o)
    (option_map (promised_by s) (option_and_then (λ (d : Datagram). briefcase_in d.message.body) (find (is_case s side.x side.role) ds)))
shown-more s side None ds = refl
shown-more s side (Some d) ds = shown-first s side d ds

key-more : (p : Datagram → Bool) (o : Option Datagram) (ds : List Datagram) → list_any p (cons_option o ds) ≡ (option_map_or p o false || list_any p ds)
key-more p None ds = refl
key-more p (Some d) ds = refl

case-twice : (party : ℕ) (side : Side) (k a b : Option Promised) → case_with party side (case_with party side k a) b ≡ case_with party side k (option_or a b)
case-twice party side k a b = go (eqb (receiver side) party) k
  where
    go : (c : Bool) (k : Option Promised) → cond c (option_or (cond c (option_or k a) k) b) (cond c (option_or k a) k) ≡ cond c (option_or k (option_or a b)) k
    go true None = refl
    go true (Some p) = refl
    go false k = refl

key-twice : (party : ℕ) (side : Side) (k a b : Bool) → key_with party side (key_with party side k a) b ≡ key_with party side k (a || b)
key-twice party side k a b = go (eqb (receiver side) party) k
  where
    go : (c k : Bool) → cond c ((cond c (k || a) k) || b) (cond c (k || a) k) ≡ cond c (k || (a || b)) k
    go true true = refl
    go true false = refl
    go false k = refl

cost-more : (p : Datagram → Bool) (o : Option Datagram) (ds : List Datagram) (after later most bound : ℕ)
    → after + length (filter p (cons_option o ds)) * most ≤ bound → later ≤ after + (if option_map_or p o false then most else 0)
    → later + length (filter p ds) * most ≤ bound
cost-more p None ds after later most bound h l = omega (arith, h, l)
cost-more p (Some d) ds after later most bound h l = go (p d) h l
  where
    go : (b : Bool) → after + length (cond b (d ∷ filter p ds) (filter p ds)) * most ≤ bound → later ≤ after + cond b most 0
        → later + length (filter p ds) * most ≤ bound
    go true h l =
        let e : suc (length (filter p ds)) * most ≡ length (filter p ds) * most + most = suc-mul (length (filter p ds)) most in
        omega (arith, h, l, e)
    go false h l = omega (arith, h, l)

pub taken-more : (s : Session) (party : ℕ) (all left rest : List Input) (bytes : List ℕ) (old now new : Findings) (before after later most : ℕ)
    → left ≡ event.Datagram bytes ∷ rest → Taken s party all left old now before after most
    → GivesCase s party (datagram_of s bytes) now.cases.entries new.cases.entries → GivesKey s party (datagram_of s bytes) now.keys.keys new.keys.keys
    → (AreKeptWindows s now.cases.entries → AreKeptWindows s new.cases.entries) → (KeepsExchanges now → KeepsExchanges new)
    → later ≤ after + (if option_map_or (is_told party) (datagram_of s bytes) false then most else 0)
    → Taken s party all rest old new before later most
taken-more s party all left rest bytes old now new before after later most e t cases keys windows exchanges cost =
    let at : Taken s party all (event.Datagram bytes ∷ rest) old now before after most = subst (λ l. Taken s party all l old now before after most) e t in
    record {
      cases = λ side.
          ap (λ k. case_with party side k (case_found s rest side)) (cases side)
          ∙ (case-twice party side (case_at now.cases.entries side) (option_and_then (case_shown s side) (datagram_of s bytes)) (case_found s rest side)
          ∙ (ap (case_with party side (case_at now.cases.entries side)) (sym (shown-more s side (datagram_of s bytes) (datagrams_in s rest)))
          ∙ at.cases side));
      keys = λ side.
          ap (λ k. key_with party side k (key_found s rest side)) (keys side)
          ∙ (key-twice party side (has_side now.keys.keys side) (option_map_or (is_key s side.x side.role) (datagram_of s bytes) false) (key_found s rest side)
          ∙ (ap (key_with party side (has_side now.keys.keys side)) (sym (key-more (is_key s side.x side.role) (datagram_of s bytes) (datagrams_in s rest)))
          ∙ at.keys side));
      windows = λ w. windows (at.windows w);
      exchanges = λ x. exchanges (at.exchanges x);
      cost = cost-more (is_told party) (datagram_of s bytes) (datagrams_in s rest) after later most (before + told s party all * most) at.cost cost;
    }

-- what was checked so far, if no more is kept
pub taken-within : (s : Session) (party : ℕ) (all left rest : List Input) (bytes : List ℕ) (old now : Findings) (before after later most : ℕ)
    → left ≡ event.Datagram bytes ∷ rest → Taken s party all left old now before after most
    → later ≤ after + (if option_map_or (is_told party) (datagram_of s bytes) false then most else 0)
    → later ≤ before + told s party all * most
taken-within s party all left rest bytes old now before after later most e t cost =
    let at : Taken s party all (event.Datagram bytes ∷ rest) old now before after most = subst (λ l. Taken s party all l old now before after most) e t in
    omega (arith, cost-more (is_told party) (datagram_of s bytes) (datagrams_in s rest) after later most (before + told s party all * most) at.cost cost)

-- ---- the end

pub taken-cases : (s : Session) (party : ℕ) (all left : List Input) (old now : Findings) (before after most : ℕ) → left ≡ []
    → Taken s party all left old now before after most → GivesCases s party all old.cases.entries now.cases.entries
taken-cases s party all left old now before after most e t side =
    let at : Taken s party all [] old now before after most = subst (λ l. Taken s party all l old now before after most) e t in
    go (eqb (receiver side) party) (case_at now.cases.entries side) ∙ at.cases side
  where
    go : (c : Bool) (k : Option Promised) → k ≡ cond c (option_or k None) k
    go true None = refl
    go true (Some p) = refl
    go false k = refl

pub taken-keys : (s : Session) (party : ℕ) (all left : List Input) (old now : Findings) (before after most : ℕ) → left ≡ []
    → Taken s party all left old now before after most → GivesKeys s party all old.keys.keys now.keys.keys
taken-keys s party all left old now before after most e t side =
    let at : Taken s party all [] old now before after most = subst (λ l. Taken s party all l old now before after most) e t in
    go (eqb (receiver side) party) (has_side now.keys.keys side) ∙ at.keys side
  where
    go : (c k : Bool) → k ≡ cond c (k || false) k
    go true true = refl
    go true false = refl
    go false k = refl

-- the bound on steps, if only the inputs so far have to be checked
pub taken-cost : (s : Session) (party : ℕ) (all left : List Input) (old now : Findings) (before after most : ℕ)
    → Taken s party all left old now before after most → after ≤ before + told s party all * most
taken-cost s party all left old now before after most t = omega (arith, t.cost)
