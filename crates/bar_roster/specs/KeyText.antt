-- The text of a key: eight lines of TOML, or nine if signatures have two levels.
use Rattle.std.specs.Prelude.{ℕ, ◌≤◌, Bool, true, false, not, ◌&&◌, List, [], ◌++◌, codes, Option, Some, None, is_some, option_and_then, option_map, Result, Ok, Err, if◌then◌else◌}
use Rattle.std.specs.Fmt.{decimal}
use Rattle.hex.specs.Hex.{encode_lower}
use Rattle.toml.specs.Data.{Members, get_member, as_bool}
use Rattle.bar_roster.specs.declared.key_fault.KeyFileFault.{KeyFileFault}
use Rattle.bar_roster.specs.declared.key_fault.KeyFileFault.TheVariants.{NotToml, BadValue, NotInRoster}
use Rattle.bar_roster.specs.declared.key_fields.KeyData.{KeyData}
use Rattle.bar_session.specs.Limits.{IsTop, first_ots_by, last_lms_by, most_peers, rounds_by}
use Rattle.bar_roster.specs.Fields.{document, number_in, bytes_of}

-- what a key text says: whose key it is, in which session, the types of its signatures, the party's secret, and whether it was used
abbrev pub any_key_data : ℕ → List ℕ → ℕ → ℕ → ℕ → Option ℕ → List ℕ → Bool → KeyData
any_key_data party id rounds lms ots top secret spent =
    record { party = party; id = id; rounds = rounds; lms = lms; ots = ots; top = top; secret = secret; spent = spent }

-- the same for signatures of one level
abbrev pub key_data : ℕ → List ℕ → ℕ → ℕ → ℕ → List ℕ → Bool → KeyData
key_data party id rounds lms ots secret spent = any_key_data party id rounds lms ots None secret spent

-- the same for signatures of two levels, whose lower trees have type 5
abbrev pub hss_key_data : ℕ → List ℕ → ℕ → ℕ → ℕ → List ℕ → Bool → KeyData
hss_key_data party id rounds top ots secret spent = any_key_data party id rounds 5 ots (Some top) secret spent

-- the numbers are in the ranges of a key text
pub record IsInRange (k : KeyData) : Type 0 where
  pub party : k.party ≤ most_peers
  pub rounds_low : 1 ≤ k.rounds
  pub rounds_high : k.rounds ≤ rounds_by (is_some k.top)
  pub lms_low : 5 ≤ k.lms
  pub lms_high : k.lms ≤ last_lms_by (is_some k.top)
  pub ots_low : first_ots_by (is_some k.top) ≤ k.ots
  pub ots_high : k.ots ≤ 4
  pub top : IsTop k.top

-- ---- writing

abbrev pub truth : Bool → List ℕ
truth b = if b then codes "true" else codes "false"

-- the first six lines
abbrev pub first_lines : List ℕ → ℕ → ℕ → ℕ → ℕ → List ℕ
first_lines id party rounds lms ots =
    codes "version = 1\nid = \"" ++ (id
    ++ (codes "\"\nparty = " ++ (decimal party
    ++ (codes "\nrounds = " ++ (decimal rounds
    ++ (codes "\nlms = " ++ (decimal lms
    ++ (codes "\nots = " ++ (decimal ots ++ codes "\n")))))))))

-- the line of the upper tree, if there is one
abbrev pub top_line : Option ℕ → List ℕ
top_line None = []
top_line (Some top) = codes "top = " ++ (decimal top ++ codes "\n")

-- the last two lines
abbrev pub last_lines : List ℕ → Bool → List ℕ
last_lines secret spent = codes "secret = \"" ++ (secret ++ (codes "\"\nspent = " ++ (truth spent ++ codes "\n")))

-- the text of a key, its hex digits in lower case
abbrev pub key_text_of : KeyData → List ℕ
key_text_of k = first_lines (encode_lower k.id) k.party k.rounds k.lms k.ots ++ top_line k.top ++ last_lines (encode_lower k.secret) k.spent

-- ---- reading

infixl 10 ◌>>=◌
abbrev ◌>>=◌ : {A B : Type 0} → Option A → (A → Option B) → Option B
o >>= f = option_and_then f o

-- the type of the upper tree, which a key of two levels needs; a key of one level has none, whatever the table contains
abbrev pub top_in : Bool → Members → Option (Option ℕ)
top_in true ms = option_map Some (get_member (codes "top") ms >>= number_in 5 7)
top_in false ms = Some None

-- the values of a key of one level or of two in a table, if each of them is there and of its kind and range
abbrev pub key_fields : Bool → Members → Option KeyData
key_fields two ms = do
  version ← get_member (codes "version") ms >>= number_in 1 1
  id ← get_member (codes "id") ms >>= bytes_of 8
  party ← get_member (codes "party") ms >>= number_in 0 most_peers
  rounds ← get_member (codes "rounds") ms >>= number_in 1 (rounds_by two)
  lms ← get_member (codes "lms") ms >>= number_in 5 (last_lms_by two)
  ots ← get_member (codes "ots") ms >>= number_in (first_ots_by two) 4
  top ← top_in two ms
  secret ← get_member (codes "secret") ms >>= bytes_of 32
  spent ← get_member (codes "spent") ms >>= as_bool
  Some (any_key_data party id rounds lms ots top secret spent)

-- whether a table has a type of an upper tree, of any kind and range
abbrev pub names_top : Members → Bool
names_top ms = is_some (get_member (codes "top") ms)

-- the text of a key of one level names no upper tree
abbrev pub own_levels : Bool → Members → Option KeyData → Result KeyData KeyFileFault
own_levels two ms None = Err BadValue
own_levels two ms (Some k) = if not two && names_top ms then Err NotInRoster else Ok k

abbrev pub table_read : Bool → Option Members → Result KeyData KeyFileFault
table_read two None = Err NotToml
table_read two (Some ms) = own_levels two ms (key_fields two ms)

-- what some bytes are read as, for a session whose signatures have one level or two
abbrev pub key_read : Bool → List ℕ → Result KeyData KeyFileFault
key_read two bytes = table_read two (document bytes)
