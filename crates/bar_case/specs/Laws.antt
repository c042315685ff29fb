-- Laws of sealed and opened briefcases.
use Rattle.std.specs.Prelude.{◌≡◌, ℕ, true, false, List, length, Option}
use Rattle.std.specs.List.{AllByRecursion}
use Rattle.bar_window.specs.declared.update.UpdateId.{UpdateId}
use Rattle.bar_window.specs.declared.exchange.Exchange.{Exchange}
use Rattle.bar_window.specs.declared.exchange.Role.{Role}
use Rattle.bar_window.specs.Terms.{Terms}
use Rattle.bar_terms.specs.Table.{Table, Extends}
use Rattle.bar_terms.specs.Terms.{promised_updates}
use Rattle.bar_case.specs.Items.{promised_len}
use Rattle.bar_case.specs.Sealed.{sealed, MatchesTable}
use Rattle.bar_case.specs.declared.findings.Opening.TheVariants.{Good}
use Rattle.bar_case.specs.Opened.{opening, opened_blocks, is_bad, AreTold}

-- A sealed briefcase has the length of its items, if the blocks of the promised updates are held and have 1,024 bytes.
abbrev pub SealedHasItsLength : Type 0
SealedHasItsLength =
    (id : List ℕ) (x : Exchange) (cap : ℕ) (terms : Terms) (role : Role) (key : List ℕ) (table : Table)
    (blocks : UpdateId → Option (List ℕ))
    → AllByRecursion (MatchesTable table blocks) (promised_updates cap terms role)
    → length (sealed id x cap terms role key blocks) ≡ promised_len cap terms role

-- A sealed briefcase never opens as Bad with its own key, if the table has the digest of the block of each promised update whose round it
-- knows.
abbrev pub OwnKeyNeverOpensBadly : Type 0
OwnKeyNeverOpensBadly =
    (id : List ℕ) (x : Exchange) (cap : ℕ) (terms : Terms) (role : Role) (key : List ℕ) (table : Table)
    (blocks : UpdateId → Option (List ℕ))
    → AllByRecursion (MatchesTable table blocks) (promised_updates cap terms role)
    → is_bad (opening id x cap terms role (sealed id x cap terms role key blocks) key table) ≡ false

-- If a briefcase opens as Bad under a table, it does so under each table that has the same lists and more.
abbrev pub WhatOpensBadlyStaysSo : Type 0
WhatOpensBadlyStaysSo =
    (id : List ℕ) (x : Exchange) (cap : ℕ) (terms : Terms) (role : Role) (cipher key : List ℕ) (old new : Table)
    → Extends old new
    → is_bad (opening id x cap terms role cipher key old) ≡ true
    → is_bad (opening id x cap terms role cipher key new) ≡ true

-- If an opening is good, the table has the digest of each opened block.
abbrev pub GoodOpeningsHaveTheirDigests : Type 0
GoodOpeningsHaveTheirDigests =
    (id : List ℕ) (x : Exchange) (cap : ℕ) (terms : Terms) (role : Role) (cipher key : List ℕ) (table : Table) (n : ℕ)
    → opening id x cap terms role cipher key table ≡ Good n
    → AreTold table (promised_updates cap terms role) (opened_blocks cap terms role cipher key)
