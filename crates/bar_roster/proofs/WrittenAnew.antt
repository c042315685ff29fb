-- The text written again from an accepted key is read back as the same secrets.
use Rattle.std.proofs.Common.{◌≡◌, ◌∙◌, ℕ, ◌≤◌, ◌&&◌, not, cond, Bool, true, false, List, ◌++◌, codes, length, Option, Some, None, Result, Ok, Err, refl, sym, ap, subst, arith, length-append}
use Rattle.std.specs.Prelude.{is_some, nat_eq, option_and_then, option_map}
use Rattle.std.specs.Option.{option_eq}
use Rattle.std.specs.Result.{result_ok}
use Rattle.std.specs.Fmt.{decimal}
use Rattle.std.proofs.lemmas.Bool.{and_parts, eqb-true}
use Rattle.std.proofs.lemmas.Fmt.{length-decimal-le}
use Rattle.std.proofs.lemmas.Option.{none-some}
use Rattle.std.proofs.lemmas.Slice.Eq.{bytes_eq-Decides}
use Rattle.hex.specs.Hex.{IsBytes, decode_sized, encode_lower, lower_digits}
use Rattle.hex.specs.declared.error.FromHexError.{FromHexError}
use Rattle.hex.proofs.HexLemmas.{decode_of-ok, decode_sized-ok, decode_sized-twice, length-encode_with}
use Rattle.toml.specs.Data.{Data, Members, as_bool, get_member, string}
use Rattle.bar_lms.specs.Params.{lms_type, ots_type}
use Rattle.bar_seeds.specs.declared.secrets.Secrets.{Secrets}
use Rattle.bar_roster.specs.Fields.{bytes_of, document, number_in}
use Rattle.bar_roster.specs.KeyAnew.{longest_text, text_of}
use Rattle.bar_roster.specs.KeyFile.{checked_key, fits, is_of_session, key_file_of, named_key, session_key_of}
use Rattle.bar_session.specs.Fits.{secrets_in}
use Rattle.bar_roster.specs.KeyText.{any_key_data, first_lines, key_fields, key_read, key_text_of, last_lines, names_top, own_levels, table_read, top_in, top_line, truth}
use Rattle.bar_session.specs.Limits.{IsTop, first_ots_by, last_lms_by, most_peers, rounds_by}
use Rattle.bar_session.specs.SessionData.{SessionData}
use Rattle.bar_roster.specs.declared.key_fault.KeyFileFault.{KeyFileFault}
use Rattle.bar_roster.specs.declared.key_fault.KeyFileFault.TheVariants.{NotInRoster}
use Rattle.bar_roster.specs.declared.key_fields.KeyData.{KeyData}
use Rattle.bar_roster.proofs.KeyLemmas.{checked_fits, named_ours}
use Rattle.bar_roster.proofs.KeyReadBack.{IsWritable, key_read-written}
use Rattle.bar_session.proofs.Levels.{lms_most, rounds_most}
use Rattle.bar_roster.proofs.SessionLemmas.{number_range}

-- ---- what was read of a key text can be written

-- if a step found something, the one before it did
found-before : {A B : Type 0} (o : Option A) (f : A → Option B) (b : B) → option_and_then f o ≡ Some b →
    (a : A) × (o ≡ Some a) × (f a ≡ Some b)
found-before (Some a) f b h = (a, refl, h)
found-before None f b h = absurd (none-some b h)

number-read : (low high n : ℕ) (o : Option Data) → option_and_then (number_in low high) o ≡ Some n → (low ≤ n) × (n ≤ high)
number-read low high n o h = let p = found-before o (number_in low high) n h in number_range low high p.0 n p.2

decoded : (r : Result (List ℕ) FromHexError) (bytes : List ℕ) → result_ok r ≡ Some bytes → r ≡ Ok bytes
decoded (Ok x) bytes h = let same : x ≡ bytes = cc in ap Ok same
decoded (Err e) bytes h = absurd (none-some bytes h)

bytes-text : (n : ℕ) (d : Data) (bytes : List ℕ) → bytes_of n d ≡ Some bytes → (length bytes ≡ n) × IsBytes bytes
bytes-text n (string text) bytes h =
    let is = decoded (decode_sized text n) bytes h in
    let long = decode_sized-ok text n bytes is in
    let of = decode_of-ok text bytes (sym (decode_sized-twice text n long) ∙ is) in
    let twice = of.2 in
    (omega arith, of.3)
bytes-text n _ bytes h = absurd (none-some bytes h)

bytes-read : (n : ℕ) (bytes : List ℕ) (o : Option Data) → option_and_then (bytes_of n) o ≡ Some bytes → (length bytes ≡ n) × IsBytes bytes
bytes-read n bytes o h = let p = found-before o (bytes_of n) bytes h in bytes-text n p.0 bytes p.2

-- the type of an upper tree that was read is in its range, and it is there if there are two levels
mapped-some : (o : Option ℕ) (top : Option ℕ) → option_map (λ n. Some n) o ≡ Some top → (n : ℕ) × (o ≡ Some n) × (Some n ≡ top)
mapped-some (Some n) top h = (n, refl, cc)
mapped-some None top h = absurd (none-some top h)

top-read : (two : Bool) (ms : Members) (top : Option ℕ) → top_in two ms ≡ Some top → IsTop top × (is_some top ≡ two)
top-read true ms top h =
    let p = mapped-some (option_and_then (number_in 5 7) (get_member (codes "top") ms)) top h in
    let ranged = number-read 5 7 p.0 (get_member (codes "top") ms) p.1 in
    subst (λ (t : Option ℕ). IsTop t × (is_some t ≡ true)) p.2 (ranged, refl)
top-read false ms top h = let none : None ≡ top = cc in subst (λ (t : Option ℕ). IsTop t × (is_some t ≡ false)) none (tt, refl)

same-some : (a b : KeyData) → Some a ≡ Some b → a ≡ b
same-some a b h = cc

-- hence whatever was read
fields-writable : (two : Bool) (ms : Members) (d : KeyData) → key_fields two ms ≡ Some d → IsWritable d × (is_some d.top ≡ two)
fields-writable two ms d h =
    let v = found-before (option_and_then (number_in 1 1) (get_member (codes "version") ms)) _ d h in
    let id = found-before (option_and_then (bytes_of 8) (get_member (codes "id") ms)) _ d v.2 in
    let party = found-before (option_and_then (number_in 0 most_peers) (get_member (codes "party") ms)) _ d id.2 in
    let rounds = found-before (option_and_then (number_in 1 (rounds_by two)) (get_member (codes "rounds") ms)) _ d party.2 in
    let lms = found-before (option_and_then (number_in 5 (last_lms_by two)) (get_member (codes "lms") ms)) _ d rounds.2 in
    let ots = found-before (option_and_then (number_in (first_ots_by two) 4) (get_member (codes "ots") ms)) _ d lms.2 in
    let top = found-before (top_in two ms) _ d ots.2 in
    let secret = found-before (option_and_then (bytes_of 32) (get_member (codes "secret") ms)) _ d top.2 in
    let spent = found-before (option_and_then as_bool (get_member (codes "spent") ms)) _ d secret.2 in
    let same : any_key_data party.0 id.0 rounds.0 lms.0 ots.0 top.0 secret.0 spent.0 ≡ d = same-some _ d spent.2 in
    let party_in = number-read 0 most_peers party.0 (get_member (codes "party") ms) party.1 in
    let rounds_in = number-read 1 (rounds_by two) rounds.0 (get_member (codes "rounds") ms) rounds.1 in
    let lms_in = number-read 5 (last_lms_by two) lms.0 (get_member (codes "lms") ms) lms.1 in
    let ots_in = number-read (first_ots_by two) 4 ots.0 (get_member (codes "ots") ms) ots.1 in
    let top_is = top-read two ms top.0 top.1 in
    let levels : two ≡ is_some top.0 = sym top_is.1 in
    let id_in = bytes-read 8 id.0 (get_member (codes "id") ms) id.1 in
    let secret_in = bytes-read 32 secret.0 (get_member (codes "secret") ms) secret.1 in
    subst (λ (k : KeyData). IsWritable k × (is_some k.top ≡ two)) same (
      record {
        range = record {
          party = party_in.1;
          rounds_low = rounds_in.0;
          rounds_high = subst (λ (b : Bool). rounds.0 ≤ rounds_by b) levels rounds_in.1;
          lms_low = lms_in.0;
          lms_high = subst (λ (b : Bool). lms.0 ≤ last_lms_by b) levels lms_in.1;
          ots_low = subst (λ (b : Bool). first_ots_by b ≤ ots.0) levels ots_in.0;
          ots_high = ots_in.1;
          top = top_is.0;
        };
        id_bytes = id_in.1;
        id_length = id_in.0;
        secret_bytes = secret_in.1;
        secret_length = secret_in.0;
      },
      top_is.1,
    )

-- the same key, spent or not
abbrev again : KeyData → Bool → KeyData
again d spent = any_key_data d.party d.id d.rounds d.lms d.ots d.top d.secret spent

again-writable : (d : KeyData) (spent : Bool) → IsWritable d → IsWritable (again d spent)
again-writable d spent w = record {
  range = record {
    party = w.range.party;
    rounds_low = w.range.rounds_low;
    rounds_high = w.range.rounds_high;
    lms_low = w.range.lms_low;
    lms_high = w.range.lms_high;
    ots_low = w.range.ots_low;
    ots_high = w.range.ots_high;
    top = w.range.top;
  };
  id_bytes = w.id_bytes;
  id_length = w.id_length;
  secret_bytes = w.secret_bytes;
  secret_length = w.secret_length;
}

-- ---- of an accepted key

-- what was read of a text is in range, with as many levels as were asked for
read-writable : (two : Bool) (bytes : List ℕ) (d : KeyData) → key_read two bytes ≡ Ok d → IsWritable d × (is_some d.top ≡ two)
read-writable two bytes d h = by_table (document bytes) h
  where
    by_levels : (ms : Members) (k : KeyData) (stray : Bool)
        → ◌≡◌ {A = Result KeyData KeyFileFault} (cond stray (Err NotInRoster) (Ok k)) (Ok d) → key_fields two ms ≡ Some k
        → IsWritable d × (is_some d.top ≡ two)
    by_levels ms k true e is = cc
    by_levels ms k false e is = let same : k ≡ d = cc in fields-writable two ms d (is ∙ ap (λ (x : KeyData). Some x) same)

    by_fields : (ms : Members) (o : Option KeyData) → key_fields two ms ≡ o → own_levels two ms o ≡ Ok d → IsWritable d × (is_some d.top ≡ two)
    by_fields ms None is e = cc
    by_fields ms (Some k) is e = by_levels ms k (not two && names_top ms) e is

    by_table : (o : Option Members) → table_read two o ≡ Ok d → IsWritable d × (is_some d.top ≡ two)
    by_table None e = cc
    by_table (Some ms) e = by_fields ms (key_fields two ms) refl e

-- The text encoded this key, which is the session's.
record IsAccepted (s : SessionData) (caster : Bool) (d : KeyData) (k : Secrets) : Type 0 where
  writable : IsWritable d
  levels : is_some d.top ≡ is_some s.top
  ours : is_of_session s caster d ≡ true
  held : fits s d.party d.secret ≡ true
  is : secrets_in s d.party d.secret ≡ k

accepted-text : (s : SessionData) (caster fresh : Bool) (bytes : List ℕ) (k : Secrets) → key_file_of s caster fresh bytes ≡ Ok k →
    (d : KeyData) × IsAccepted s caster d k
accepted-text s caster fresh bytes k h =
    let p = checked_fits s fresh (session_key_of s caster bytes) k h in
    let named = named_ours s caster (key_read (is_some s.top) bytes) p.0 p.1.read in
    let read = read-writable (is_some s.top) bytes p.0 named.0 in
    (p.0, record { writable = read.0; levels = read.1; ours = named.1; held = p.1.held; is = p.1.is })

-- types of upper trees that compare as equal are the same
same-top : (a b : Option ℕ) → option_eq nat_eq a b ≡ true → a ≡ b
same-top None None h = refl
same-top (Some m) (Some n) h = ap (λ (x : ℕ). Some x) (eqb-true m n h)
same-top None (Some n) h = cc
same-top (Some m) None h = cc

-- its numbers are the session's, so this is the text that is written again
same-text : (s : SessionData) (caster spent : Bool) (d : KeyData) (k : Secrets) → IsAccepted s caster d k →
    key_text_of (again d spent) ≡ text_of s k spent
same-text s caster spent d k a =
    let parts = and_parts _ _ a.ours in
    let first = and_parts _ _ parts.0 in
    let second = and_parts _ _ first.1 in
    let third = and_parts _ _ second.1 in
    let fourth = and_parts _ _ third.1 in
    let id : d.id ≡ s.shape.id = (bytes_eq-Decides d.id s.shape.id).0 first.0 in
    let rounds : d.rounds ≡ s.shape.rounds = eqb-true _ _ second.0 in
    let lms : d.lms ≡ lms_type s.params.height = eqb-true _ _ third.0 in
    let ots : d.ots ≡ ots_type s.params.ots = eqb-true _ _ fourth.0 in
    let top : d.top ≡ option_map lms_type s.top = same-top d.top (option_map lms_type s.top) fourth.1 in
    (λ i. key_text_of (any_key_data d.party (id i) (rounds i) (lms i) (ots i) (top i) d.secret spent))
    ∙ ap (λ (k : Secrets). text_of s k spent) a.is

-- what it is read as, if a spent one is allowed
checked-again : (s : SessionData) (caster spent : Bool) (d : KeyData) (k : Secrets) → IsAccepted s caster d k →
    checked_key s false (named_key s caster (Ok (again d spent))) ≡ Ok k
checked-again s caster spent d k a = by_use spent
  where
    by_use : (spent : Bool) → checked_key s false (named_key s caster (Ok (again d spent))) ≡ Ok k
    by_use true = rw (a.ours, a.held) (ap (λ (x : Secrets). Ok x) a.is)
    by_use false = rw (a.ours, a.held) (ap (λ (x : Secrets). Ok x) a.is)

pub reads-back : (s : SessionData) (caster fresh spent : Bool) (bytes : List ℕ) (k : Secrets) → key_file_of s caster fresh bytes ≡ Ok k →
    key_file_of s caster false (text_of s k spent) ≡ Ok k
reads-back s caster fresh spent bytes k h =
    let p = accepted-text s caster fresh bytes k h in
    let a = p.1 in
    let d : KeyData = again p.0 spent in
    let read : key_read (is_some s.top) (key_text_of d) ≡ Ok d =
    ap (λ (two : Bool). key_read two (key_text_of d)) (sym a.levels) ∙ key_read-written d (again-writable p.0 spent a.writable)
    in
    ap (key_file_of s caster false) (sym (same-text s caster spent p.0 k a))
    ∙ ap (λ (r : Result KeyData KeyFileFault). checked_key s false (named_key s caster r)) read
    ∙ checked-again s caster spent p.0 k a

-- ---- the text is short

first-length : (d : KeyData) → IsWritable d → length (first_lines (encode_lower d.id) d.party d.rounds d.lms d.ots) ≤ 128
first-length d w =
    let most_rounds = rounds_most (is_some d.top) in
    let most_lms = lms_most (is_some d.top) in
    let id = length-encode_with lower_digits d.id in
    let party : length (decimal d.party) ≤ 3 = length-decimal-le 3 d.party (omega arith) (omega arith) (omega arith) in
    let rounds : length (decimal d.rounds) ≤ 20 = length-decimal-le 20 d.rounds (omega arith) (omega arith) (omega arith) in
    let lms : length (decimal d.lms) ≤ 1 = length-decimal-le 1 d.lms (omega arith) (omega arith) (omega arith) in
    let ots : length (decimal d.ots) ≤ 1 = length-decimal-le 1 d.ots (omega arith) (omega arith) (omega arith) in
    simp length-append (omega arith)

top-length : (top : Option ℕ) → IsTop top → length (top_line top) ≤ 8
top-length None h = omega arith
top-length (Some top) h =
    let digits : length (decimal top) ≤ 1 = length-decimal-le 1 top (omega arith) (omega (arith, h.1)) (omega arith) in
    simp length-append (omega arith)

truth-length : (b : Bool) → length (truth b) ≤ 5
truth-length true = omega arith
truth-length false = omega arith

last-length : (d : KeyData) → IsWritable d → length (last_lines (encode_lower d.secret) d.spent) ≤ 112
last-length d w =
    let secret = length-encode_with lower_digits d.secret in
    let spent = truth-length d.spent in
    simp length-append (omega arith)

pub short-text : (s : SessionData) (caster fresh spent : Bool) (bytes : List ℕ) (k : Secrets) → key_file_of s caster fresh bytes ≡ Ok k →
    length (text_of s k spent) ≤ longest_text
short-text s caster fresh spent bytes k h =
    let p = accepted-text s caster fresh bytes k h in
    let a = p.1 in
    let d : KeyData = again p.0 spent in
    let w : IsWritable d = again-writable p.0 spent a.writable in
    let first = first-length d w in
    let top = top-length d.top w.range.top in
    let last = last-length d w in
    let front : List ℕ = first_lines (encode_lower d.id) d.party d.rounds d.lms d.ots in
    let both = length-append front (top_line d.top) in
    let whole = length-append (front ++ top_line d.top) (last_lines (encode_lower d.secret) d.spent) in
    let same = ap length (same-text s caster spent p.0 k a) in
    omega arith
