-- What an auditor finds of an exchange in the recording of the party to which a side of it sent: that side's CASE and its KEY.
use Rattle.std.specs.Prelude.{ℕ, ◌&&◌, Bool, false, List, length, Option, find, option_and_then}
use Rattle.std.specs.List.{list_any}
use Rattle.std.specs.Option.{option_map_or}
use Rattle.bar_window.specs.declared.exchange.Exchange.{Exchange}
use Rattle.bar_window.specs.declared.exchange.Role.{Role}
use Rattle.bar_window.specs.Exchange.{other_role, party_on}
use Rattle.bar_window.specs.Terms.{Terms}
use Rattle.bar_terms.specs.Table.{no_lists}
use Rattle.bar_terms.specs.Terms.{promise}
use Rattle.bar_wire.specs.Bodies.{briefcase_in}
use Rattle.bar_wire.specs.Datagram.{Datagram, Briefcase, is_of}
use Rattle.bar_wire.specs.declared.kind.Kind.TheVariants as kinds
use Rattle.bar_wire.specs.Inputs.{Input}
use Rattle.bar_rules.specs.Member.{Session}
use Rattle.bar_rules.specs.Values.{terms_ok, counts_ok, is_signed_by}
use Rattle.bar_audit.specs.Recordings.{Recording, datagrams_in, inputs_of}

-- whether its terms are valid under the table without manifests, and its counts are those of its sender's promise
abbrev pub can_be_opened : Session → Exchange → Briefcase → Bool
can_be_opened s x c = terms_ok s no_lists x c.terms && counts_ok s c

-- A CASE of this exchange and side, from the party on that side to the other one, whose signature is accepted.
abbrev pub is_case : Session → Exchange → Role → Datagram → Bool
is_case s x role d =
    is_of kinds.Case x role d.message && is_signed_by s d && option_map_or (can_be_opened s x) (briefcase_in d.message.body) false

-- such a KEY
abbrev pub is_key : Session → Exchange → Role → Datagram → Bool
is_key s x role d = is_of kinds.Key x role d.message && is_signed_by s d

-- the first such CASE among inputs
abbrev pub case_in : Session → Exchange → Role → List Input → Option Briefcase
case_in s x role inputs = option_and_then (λ d. briefcase_in d.message.body) (find (is_case s x role) (datagrams_in s inputs))

abbrev pub has_key_in : Session → Exchange → Role → List Input → Bool
has_key_in s x role inputs = list_any (is_key s x role) (datagrams_in s inputs)

-- how many items a briefcase promises, and its terms
pub record Promised : Type 0 where
  pub items : ℕ
  pub terms : Terms

abbrev pub promised_by : Session → Briefcase → Promised
promised_by s c = record { items = length (promise s.cap c.terms c.role); terms = c.terms }

-- what the receiver of a side's datagrams has recorded of that side
abbrev pub case_from : Session → List Recording → Exchange → Role → Option Briefcase
case_from s recordings x role = option_and_then (case_in s x role) (inputs_of recordings (party_on x (other_role role)))

abbrev pub has_key_from : Session → List Recording → Exchange → Role → Bool
has_key_from s recordings x role = option_map_or (has_key_in s x role) (inputs_of recordings (party_on x (other_role role))) false
