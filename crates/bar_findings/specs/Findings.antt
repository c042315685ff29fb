-- What a party found, as files: the manifests that it admitted, and the evidence that it keeps.
use Rattle.std.specs.Prelude.{◌≡◌, ◌⊎◌, ℕ, ◌^◌, ◌<◌, List, [], ◌∷◌, ◌++◌, Option, Some, None, IfSome, length, codes, map, take}
use Rattle.std.specs.Fmt.{decimal}
use Rattle.std.specs.List.{AllByRecursion, concat, flat_map, range_with_len}
use Rattle.std.specs.Option.{option_to_list}
use Rattle.bar_outside.specs.Disk.{Content, Failure}
use Rattle.bar_outside.specs.declared.files.CallKind.TheVariants.{Create, Append}
use Rattle.bar_outside.specs.Plan.{Action}
use Rattle.bar_outside.specs.Plan.Action.{append, create}
use Rattle.bar_wire.specs.Grammar.{entry as entry_bytes}

-- a file that is created, and the pieces that are appended to it, in order
pub record Finding : Type 0 where
  pub name : List ℕ
  pub pieces : List (List ℕ)

-- what it holds afterwards
abbrev pub bytes_of : Finding → List ℕ
bytes_of f = concat f.pieces

abbrev pub finding_actions : Finding → List Action
finding_actions f = create f.name ∷ map (append f.name) f.pieces

abbrev pub findings_actions : List Finding → List Action
findings_actions findings = flat_map finding_actions findings

-- ---- names; each begins with the same prefix

-- the table file, which contains the manifests
abbrev pub table_name : List ℕ → List ℕ
table_name found = found ++ codes ".table"

-- the file of the evidence against a party
abbrev pub evidence_name : List ℕ → ℕ → List ℕ
evidence_name found party = found ++ (codes "." ++ decimal party)

-- ---- what is found

-- the bytes at each number, if any
abbrev pub Found : Type 0
Found = ℕ → Option (List ℕ)

-- the manifests of the first rounds that exist, by round
abbrev pub in_order : Found → ℕ → List (List ℕ)
in_order manifests rounds = flat_map (λ round. option_to_list (manifests round)) (range_with_len 1 rounds)

-- the table file, with an entry for each manifest: its length in two bytes, and its bytes
abbrev pub table_of : List ℕ → Found → ℕ → Finding
table_of found manifests rounds = record { name = table_name found; pieces = map entry_bytes (in_order manifests rounds) }

-- an evidence file, if there is evidence
abbrev pub file_of : List ℕ → Option (List ℕ) → List Finding
file_of name None = []
file_of name (Some evidence) = record { name = name; pieces = evidence ∷ [] } ∷ []

-- the evidence files of the first parties, by party
abbrev pub files_of : List ℕ → Found → ℕ → List Finding
files_of found evidence parties = flat_map (λ party. file_of (evidence_name found party) (evidence party)) (range_with_len 1 parties)

-- the manifests of the first rounds, and then the evidence against the first parties
abbrev pub findings_of : List ℕ → Found → ℕ → Found → ℕ → List Finding
findings_of found manifests rounds evidence parties = table_of found manifests rounds ∷ files_of found evidence parties

-- the length of each manifest fits the two bytes of an entry
abbrev pub AreShort : Found → Type 0
AreShort manifests = (round : ℕ) → IfSome (manifests round) (λ manifest. length manifest < 2 ^ 16)

-- ---- how far it is written

-- the name is one of the files with this prefix
abbrev pub IsFindingName : List ℕ → List ℕ → Type 0
IsFindingName found name = (name ≡ table_name found) ⊎ ((party : ℕ) × (name ≡ evidence_name found party))

-- The earlier of these files were written whole. The current one is unchanged, or contains a prefix of its bytes. The later ones are
-- unchanged.
pub record IsWrittenUpTo (findings : List Finding) (old new : Content) : Type 0 where
  pub earlier : List Finding
  pub this : Finding
  pub later : List Finding
  pub is : findings ≡ earlier ++ this ∷ later
  pub whole : AllByRecursion (λ f. new f.name ≡ Some (bytes_of f)) earlier
  pub part : (new this.name ≡ old this.name) ⊎ ((k : ℕ) × (new this.name ≡ Some (take k (bytes_of this))))
  pub others : AllByRecursion (λ f. new f.name ≡ old f.name) later

-- a call that creates this file or appends to it
abbrev pub IsWriteTo : List ℕ → Failure → Type 0
IsWriteTo path call = (call ≡ record { kind = Create; path = path }) ⊎ (call ≡ record { kind = Append; path = path })
