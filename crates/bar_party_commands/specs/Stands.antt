-- What holds after a command that runs over a link, for `peer` and `broadcaster` alike.
use Rattle.std.specs.Prelude.{◌≡◌, ◌≤◌, ℕ, List, ◌++◌, Some, IfSome, map, take}
use Rattle.bar_outside.specs.Disk.{Content}
use Rattle.bar_outside.specs.Ends.{NothingPrinted, SameFiles, SameTraffic}
use Rattle.bar_outside.specs.Plan.{Action, Begun, Outside, Ran, shown}
use Rattle.bar_judge.specs.TableFile.{table_bytes}
use Rattle.bar_findings.specs.Findings.{evidence_name, in_order, table_name}
use Rattle.bar_wire.specs.Datagram.{Datagram}
use Rattle.bar_wire.specs.Inputs.{Input}
use Rattle.bar_rules.specs.Member.{Session}
use Rattle.bar_rules.specs.Values.{datagram_bytes}
use Rattle.bar_core.specs.Rules.{Rules, Send}

-- The content of every file is unchanged, nothing was printed, and nothing was done over the link.
pub record IsUntouched (old new : Outside) : Type 0 where
  pub files : SameFiles old new
  pub out : NothingPrinted old new
  pub wire : SameTraffic old new

-- A prefix of these actions was done, and possibly a part of the next; nothing was printed, and nothing was done over the link.
pub record IsBegun (actions : List Action) (old new : Outside) : Type 0 where
  pub done : List Action
  pub begun : Begun actions done
  pub ran : Ran done old new
  pub out : NothingPrinted old new
  pub wire : SameTraffic old new

-- The table file contains exactly the manifests that are kept, by round. Each peer against which evidence is kept has a file with exactly
-- this evidence.
pub record AreFound (found : List ℕ) (r : Rules) (taken : List Input) (content : Content) : Type 0 where
  pub table : content (table_name found) ≡ Some (table_bytes (in_order (r.manifest taken) r.rounds))
  pub evidence : (party : ℕ) → 1 ≤ party → party ≤ r.peers →
      IfSome (r.evidence taken party) (λ kept. content (evidence_name found party) ≡ Some kept)

-- a prefix of what some actions print was printed
abbrev pub IsFrontPrinted : List Action → Outside → Outside → Type 0
IsFrontPrinted actions old new = (k : ℕ) × (new.out.bytes ≡ old.out.bytes ++ take k (shown actions))

-- the receiver and the bytes of each datagram that is sent
abbrev pub packets : Session → List (ℕ × ℕ × Datagram) → List Send
packets s sends = map (λ sent. (sent.1, datagram_bytes s sent.2)) sends
