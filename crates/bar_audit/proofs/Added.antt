-- What an auditor knows after one more recording is added.
use Rattle.std.proofs.Common.{◌≡◌, ℕ, Bool, true, false, List, [], ◌∷◌, ◌++◌, refl, sym, ap, ◌∙◌, subst, ◌&&◌, ◌||◌, cond, eqb}
use Rattle.std.specs.Prelude.{Option, Some, None, Result, Err, is_some, option_map, option_and_then, filter, Contains, IsTrue, ◌↔◌}
use Rattle.std.specs.Option.{option_map_or, option_or}
use Rattle.std.specs.Ordering.{nat_cmp}
use Rattle.std.proofs.Common.{arith}
use Rattle.std.proofs.lemmas.Bool.Decides.{nat_tests}
use Rattle.bar_audit.proofs.Sides.{DecidesEquality}
use Rattle.std.proofs.lemmas.Bool.{and_parts, and_from, both_ways, eq-eqb, eqb-true}
use Rattle.std.proofs.lemmas.Map.Views.{Contains-from_any}
use Rattle.bar_window.specs.declared.exchange.Exchange.{Exchange}
use Rattle.bar_window.specs.declared.exchange.Role.{Role}
use Rattle.bar_window.specs.declared.exchange.Role.TheVariants.{Initiator, Responder}
use Rattle.bar_window.specs.Exchange.{same_exchange, other_role, party_on}
use Rattle.bar_window.proofs.Exchanges.{same_exchange-is, same_exchange_refl}
use Rattle.bar_wire.specs.Datagram.{Briefcase}
use Rattle.bar_wire.specs.Inputs.{Input}
use Rattle.bar_rules.specs.Member.{Session}
use Rattle.bar_rules.specs.Peer.Exchanges.{IsRising}
use Rattle.bar_audit.specs.declared.audit.Audit.{Audit}
use Rattle.bar_audit.specs.declared.fault.AuditFault.{AuditFault}
use Rattle.bar_audit.specs.declared.fault.AuditFault.TheVariants.{Twice}
use Rattle.bar_audit.specs.Audits.{Audits}
use Rattle.bar_audit.specs.Exchanges.{AreRecorded, is_found, is_recorded}
use Rattle.bar_audit.specs.Code.Findings.{case_at, has_side, has_exchange, has_number, are_given, is_kept, AreKeptWindows, KeepsExchanges}
use Rattle.bar_audit.specs.Code.Found.{Promised, promised_by, case_in, has_key_in, case_from, has_key_from}
use Rattle.bar_audit.specs.Code.Given.{GivesCases, GivesKeys}
use Rattle.bar_audit.specs.Recordings.{Recording, inputs_of, is_given}
use Rattle.bar_audit.specs.Code.Sides.{side_at}
use Rattle.bar_audit.proofs.Lists.{contains-filter, filter-contains, contains-any}

-- ---- whose recordings are given

not-given : (recordings : List Recording) (party : ℕ) → is_given recordings party ≡ false → inputs_of recordings party ≡ None
not-given recordings party e = go (inputs_of recordings party) e
  where
    go : (o : Option (List Input)) → is_some o ≡ false → o ≡ None
    go None e = refl
    go (Some inputs) e = cc

abbrev one_more : List Recording → ℕ → List Input → List Recording
one_more recordings party inputs = recordings ++ (record { party = party; inputs = inputs }) ∷ []

eqb-sym : (a b : ℕ) → eqb a b ≡ eqb b a
eqb-sym a b = go (eqb a b) (eqb b a) refl refl
  where
    go : (p q : Bool) → eqb a b ≡ p → eqb b a ≡ q → p ≡ q
    go true true e f = refl
    go false false e f = refl
    go true false e f = absurd (both_ways (eqb b a) f (eq-eqb b a (sym (eqb-true a b e))))
    go false true e f = absurd (both_ways (eqb a b) e (eq-eqb a b (sym (eqb-true b a f))))

inputs-at : (recordings : List Recording) (party : ℕ) (inputs : List Input) (q : ℕ) → is_given recordings party ≡ false
    → inputs_of (one_more recordings party inputs) q ≡ cond (eqb party q) (Some inputs) (inputs_of recordings q)
inputs-at [] party inputs q fresh = refl
inputs-at (r ∷ recordings) party inputs q fresh =
    let f = rest (eqb r.party party) refl fresh in
    go (eqb r.party q) refl f.0 (inputs-at recordings party inputs q f.1)
  where
    rest : (b : Bool) → eqb r.party party ≡ b → is_some (cond b (Some r.inputs) (inputs_of recordings party)) ≡ false
        → (eqb r.party party ≡ false) × (is_given recordings party ≡ false)
    rest true e f = cc
    rest false e f = (e, f)

    apart : eqb r.party q ≡ true → eqb r.party party ≡ false → (b : Bool) → eqb party q ≡ b → b ≡ false
    apart e f false h = refl
    apart e f true h = absurd (both_ways (eqb r.party party) f (eq-eqb r.party party (eqb-true r.party q e ∙ sym (eqb-true party q h))))

    go : (b : Bool) → eqb r.party q ≡ b → eqb r.party party ≡ false
        → inputs_of (one_more recordings party inputs) q ≡ cond (eqb party q) (Some inputs) (inputs_of recordings q)
        → cond b (Some r.inputs) (inputs_of (one_more recordings party inputs) q)
        ≡ cond (eqb party q) (Some inputs) (cond b (Some r.inputs) (inputs_of recordings q))
    go true e f ih = sym (ap (λ z. cond z (Some inputs) (Some r.inputs)) (apart e f (eqb party q) refl))
    go false e f ih = ih

-- ---- what is known of each side

module _ (s : Session) (recordings : List Recording) (a b : Audit) (party : ℕ) (inputs : List Input) (at : Audits s recordings a)
    (fresh : is_given recordings party ≡ false) where
  parties-more : ((p : ℕ) → has_number b.parties.keys p ≡ (eqb party p || has_number a.parties.keys p))
      → (p : ℕ) → has_number b.parties.keys p ≡ is_given (one_more recordings party inputs) p
  parties-more added p =
      added p ∙ (ap (λ z. eqb party p || z) (at.parties p) ∙ (go (eqb party p) (inputs_of recordings p) ∙ ap is_some (sym (inputs-at recordings party inputs p fresh))))
    where
      go : (c : Bool) (o : Option (List Input)) → (c || is_some o) ≡ is_some (cond c (Some inputs) o)
      go true o = refl
      go false o = refl

  nothing-yet : (q : ℕ) → eqb q party ≡ true → inputs_of recordings q ≡ None
  nothing-yet q e = ap (inputs_of recordings) (eqb-true q party e) ∙ not-given recordings party fresh

  cases-more : GivesCases s party inputs a.found.cases.entries b.found.cases.entries → (x : Exchange) (role : Role)
      → case_at b.found.cases.entries (side_at x role) ≡ option_map (promised_by s) (case_from s (one_more recordings party inputs) x role)
  cases-more gives x role =
      gives (side_at x role) ∙ (go (eqb to party) refl ∙ ap of (ap (λ c. cond c (Some inputs) (inputs_of recordings to)) (eqb-sym to party)
      ∙ sym (inputs-at recordings party inputs to fresh)))
    where
      to : ℕ
      to = party_on x (other_role role)

      of : Option (List Input) → Option Promised
      of o = option_map (promised_by s) (option_and_then (case_in s x role) o)

      go : (c : Bool) → eqb to party ≡ c
          → cond c (option_or (case_at a.found.cases.entries (side_at x role)) (option_map (promised_by s) (case_in s x role inputs)))
          (case_at a.found.cases.entries (side_at x role))
          ≡ of (cond c (Some inputs) (inputs_of recordings to))
      go true e = ap (λ k. option_or k (option_map (promised_by s) (case_in s x role inputs))) (at.cases x role ∙ ap of (nothing-yet to e))
      go false e = at.cases x role

  keys-more : GivesKeys s party inputs a.found.keys.keys b.found.keys.keys → (x : Exchange) (role : Role)
      → has_side b.found.keys.keys (side_at x role) ≡ has_key_from s (one_more recordings party inputs) x role
  keys-more gives x role =
      gives (side_at x role) ∙ (go (eqb to party) refl ∙ ap of (ap (λ c. cond c (Some inputs) (inputs_of recordings to)) (eqb-sym to party)
      ∙ sym (inputs-at recordings party inputs to fresh)))
    where
      to : ℕ
      to = party_on x (other_role role)

      of : Option (List Input) → Bool
      of o = option_map_or (has_key_in s x role) o false

      go : (c : Bool) → eqb to party ≡ c
          → cond c (has_side a.found.keys.keys (side_at x role) || has_key_in s x role inputs) (has_side a.found.keys.keys (side_at x role))
          ≡ of (cond c (Some inputs) (inputs_of recordings to))
      go true e = ap (λ k. k || has_key_in s x role inputs) (at.keys x role ∙ ap of (nothing-yet to e))
      go false e = at.keys x role

-- ---- which exchanges are recorded

is-some-map : (s : Session) (o : Option Briefcase) → is_some (option_map (promised_by s) o) ≡ is_some o
is-some-map s None = refl
is-some-map s (Some c) = refl

recorded-is : (s : Session) (recordings : List Recording) (b : Audit)
    → ((p : ℕ) → has_number b.parties.keys p ≡ is_given recordings p)
    → ((x : Exchange) (role : Role) → case_at b.found.cases.entries (side_at x role) ≡ option_map (promised_by s) (case_from s recordings x role))
    → ((x : Exchange) (role : Role) → has_side b.found.keys.keys (side_at x role) ≡ has_key_from s recordings x role)
    → KeepsExchanges b.found → (x : Exchange)
    → (are_given b.parties.keys x && has_exchange b.found.exchanges.keys x) ≡ is_recorded s recordings x
recorded-is s recordings b parties cases keys keeps x =
    λ i. (parties x.initiator i && parties x.responder i) && (keeps x ∙ (λ j. found Initiator j || found Responder j)) i
  where
    found : (role : Role) → is_kept b.found x role ≡ is_found s recordings x role
    found role = ap (λ z. z || has_side b.found.keys.keys (side_at x role)) (ap is_some (cases x role) ∙ is-some-map s (case_from s recordings x role))
        ∙ ap (λ z. is_some (case_from s recordings x role) || z) (keys x role)

are-recorded : (s : Session) (recordings : List Recording) (ps : List ℕ) (xs ys : List Exchange)
    → ((x : Exchange) → (are_given ps x && has_exchange ys x) ≡ is_recorded s recordings x) → xs ≡ filter (are_given ps) ys → IsRising xs
    → AreRecorded s recordings xs
are-recorded s recordings ps xs ys is listed rising = record {
  rising = rising;
  exactly = λ x. (
    (λ c.
        let p = contains-filter (are_given ps) ys x (subst (λ zs. Contains zs x) listed c) in
        sym (is x) ∙ and_from _ _ p.0 (contains-any (same_exchange x) ys x p.1 (same_exchange_refl x))),
    (λ t.
        let p = and_parts (are_given ps x) (has_exchange ys x) (is x ∙ t) in
        subst (λ zs. Contains zs x) (sym listed)
        (filter-contains (are_given ps) ys x (Contains-from_any same_exchange-is x ys p.1) p.0)),
  );
}

pub audits-more : (s : Session) (recordings : List Recording) (a b : Audit) (party : ℕ) (inputs : List Input) → Audits s recordings a
    → is_given recordings party ≡ false → ((p : ℕ) → has_number b.parties.keys p ≡ (eqb party p || has_number a.parties.keys p))
    → GivesCases s party inputs a.found.cases.entries b.found.cases.entries → GivesKeys s party inputs a.found.keys.keys b.found.keys.keys
    → (AreKeptWindows s a.found.cases.entries → AreKeptWindows s b.found.cases.entries) → (KeepsExchanges a.found → KeepsExchanges b.found)
    → b.recorded.items ≡ filter (are_given b.parties.keys) b.found.exchanges.keys → IsRising b.recorded.items
    → Audits s (recordings ++ (record { party = party; inputs = inputs }) ∷ []) b
audits-more s recordings a b party inputs at fresh added gives-cases gives-keys windows exchanges listed rising =
    let parties = parties-more s recordings a b party inputs at fresh added in
    let cases = cases-more s recordings a b party inputs at fresh gives-cases in
    let keys = keys-more s recordings a b party inputs at fresh gives-keys in
    let keeps = exchanges at.exchanges in
    record {
      parties = parties;
      cases = cases;
      keys = keys;
      windows = windows at.windows;
      exchanges = keeps;
      recorded = are-recorded s (one_more recordings party inputs) b.parties.keys b.recorded.items b.found.exchanges.keys
          (recorded-is s (one_more recordings party inputs) b parties cases keys keeps) listed rising;
    }

-- ---- what is answered

-- two numbers are equal if and only if they compare as equal
pub nat-tells : DecidesEquality nat_cmp eqb
nat-tells a b = grind (arith, nat_tests)

-- a party that wasn't given before isn't given twice
pub not-twice : (s : Session) (recordings : List Recording) (a : Audit) (party : ℕ) (r : Result Audit AuditFault) → Audits s recordings a
    → has_number a.parties.keys party ≡ false → (r ≡ Err Twice → ⊥) → (r ≡ Err Twice) ↔ IsTrue (is_given recordings party)
not-twice s recordings a party r at fresh other =
    ((λ e. absurd (other e)), (λ given. absurd (both_ways (is_given recordings party) (sym (at.parties party) ∙ fresh) given)))
