-- How a refusal of a key text is printed.
use Rattle.std.specs.Prelude.{ℕ, List, codes}
use Rattle.bar_roster.specs.declared.key_fault.KeyFileFault.{KeyFileFault}
use Rattle.bar_roster.specs.declared.key_fault.KeyFileFault.TheVariants.{NotToml, BadValue, NotInRoster, Spent, NoMemory}

abbrev pub key_fault_text : KeyFileFault → List ℕ
key_fault_text NotToml = codes "NotToml"
key_fault_text BadValue = codes "BadValue"
key_fault_text NotInRoster = codes "NotInRoster"
key_fault_text Spent = codes "Spent"
key_fault_text NoMemory = codes "no memory"
