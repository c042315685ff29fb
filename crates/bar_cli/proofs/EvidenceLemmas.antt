-- Reading the datagrams of an evidence file and the lists of a table file.
use Rattle.std.proofs.Common.{◌≡◌, ◌⊎◌, inl, inr, ℕ, List, Option, Some, None, Result, Ok, Err, sym, ap, ◌∙◌}
use Rattle.std.specs.Prelude.{option_map}
use Rattle.std.specs.Option.{ok_or}
use Rattle.bar_terms.specs.Table.{Table, Lists, digests_of}
use Rattle.bar_wire.specs.Evidence.{datagrams_of}
use Rattle.bar_wire.specs.declared.evidence.EvidenceView.{EvidenceView}
use Rattle.bar_session.specs.SessionData.{SessionData}
use Rattle.bar_rules.specs.Judge.Verdict.{Verdict, verdict}
use Rattle.bar_judge.specs.declared.table_fault.TableFault.{TableFault}
use Rattle.bar_judge.specs.declared.table_fault.TableFault.TheVariants.{BadEntry, NoMemory}
use Rattle.bar_judge.specs.TableFile.{HasLists, table_of}
use Rattle.bar_cli.specs.Judge.Judging.{IsTableOf, lists_of, or_place, place_of, verdict_of}

-- ---- evidence

-- datagrams that were found
pub found : (r : Option EvidenceView) (v : EvidenceView) (o : Option (List (List ℕ))) → r ≡ Some v → option_map datagrams_of r ≡ o →
    ok_or o (tt {0}) ≡ Ok (datagrams_of v)
found r v o is e = ap (λ x. ok_or x (tt {0})) (sym e ∙ ap (option_map datagrams_of) is)

pub unfound : (r : Option EvidenceView) (o : Option (List (List ℕ))) → r ≡ None → option_map datagrams_of r ≡ o →
    ok_or o (tt {0}) ≡ Err (tt {0})
unfound r o is e = ap (λ x. ok_or x (tt {0})) (sym e ∙ ap (option_map datagrams_of) is)

-- ---- tables

-- the table that was read from a file is the table of the file's lists
pub has-lists : (s : SessionData) (bytes : List ℕ) (table : Table) (r : Result Lists TableFault) → table_of s bytes ≡ r → HasLists r table →
    IsTableOf s bytes table
unfolding lists_of
has-lists s bytes table (Ok lists) e h = (lists, ap or_place e, λ i round. h round i)
has-lists s bytes table (Err fault) e h = absurd h

-- a bad entry is reported by its place
pub bad-entry : (s : SessionData) (bytes : List ℕ) (fault : TableFault) (at : ℕ) → fault ≡ BadEntry at →
    (fault ≡ NoMemory) ⊎ (lists_of s bytes ≡ Err (place_of fault)) → lists_of s bytes ≡ Err at
bad-entry s bytes fault at is (inl e) = absurd cc
bad-entry s bytes fault at is (inr e) = e ∙ ap (λ f. Err (place_of f)) is

-- ---- verdicts

-- the verdict under a table is the verdict under the table's lists
pub same-verdict : (s : SessionData) (table : Table) (lists : Lists) (ds : List (List ℕ)) (v : Verdict) → v ≡ verdict s table ds →
    table ≡ digests_of lists → v ≡ verdict_of s lists ds
unfolding verdict_of
same-verdict s table lists ds v e f = e ∙ ap (λ t. verdict s t ds) f
