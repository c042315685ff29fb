-- Windows, terms, briefcases, datagrams and signatures under the numbers of a session.
use Rattle.std.specs.Prelude.{ℕ, ◌==◌, ◌&&◌, Bool, true, false, List, [], zip, find, length, Option, option_map}
use Rattle.bar_window.specs.declared.update.UpdateId.{UpdateId}
use Rattle.bar_window.specs.declared.exchange.Exchange.{Exchange}
use Rattle.bar_window.specs.declared.exchange.Role.{Role}
use Rattle.bar_window.specs.Terms.{Terms}
use Rattle.bar_window.specs.Updates.{same_update}
use Rattle.bar_window.specs.Updates as updates
use Rattle.bar_window.specs.WindowBytes as windows
use Rattle.bar_terms.specs.Table.{Table}
use Rattle.bar_terms.specs.Terms.{promised_updates, promised_junk}
use Rattle.bar_terms.specs.Terms as terms
use Rattle.bar_lms.specs.Schemes.{accepted_by, named_by}
use Rattle.bar_wire.specs.Datagram.{Message, Datagram, Briefcase}
use Rattle.bar_wire.specs.Grammar.{words_of, spelling}
use Rattle.bar_wire.specs.Grammar as grammar
use Rattle.bar_wire.specs.Places as places
use Rattle.bar_case.specs.Sealed as sealing
use Rattle.bar_case.specs.Opened.{opened_blocks}
use Rattle.bar_case.specs.Opened as opening
use Rattle.bar_case.specs.declared.findings.Opening.{Opening}
use Rattle.bar_case.specs.declared.findings.Opening.TheVariants.{Good, Bad, Unknown}
use Rattle.bar_rules.specs.Member.{Session, key_of_party}

-- ---- updates

-- the updates of a round, of consecutive rounds, and of the window of a round
abbrev pub updates_of : Session → ℕ → List UpdateId
updates_of s round = updates.updates_of (words_of s.shape) round

abbrev pub updates_from : Session → ℕ → ℕ → List UpdateId
updates_from s first last = updates.updates_from (words_of s.shape) first last

abbrev pub window_of : Session → ℕ → List UpdateId
window_of s round = updates.window_of (words_of s.shape) s.shape.life round

abbrev pub first_round : Session → ℕ → ℕ
first_round s round = updates.first_round s.shape.life round

-- the bytes of a set of updates of the window of a round
abbrev pub window_bytes : Session → ℕ → List UpdateId → List ℕ
window_bytes s round us = windows.window_bytes (words_of s.shape) s.shape.life round us

-- ---- terms

-- whether the terms of an exchange are valid under a table
abbrev pub terms_ok : Session → Table → Exchange → Terms → Bool
terms_ok s table x t = terms.terms_ok s.cap s.shape.life table x.round t

-- ---- briefcases

-- the counts of a briefcase are those of its sender's promise
abbrev pub counts_ok : Session → Briefcase → Bool
counts_ok s c = (c.updates == length (promised_updates s.cap c.terms c.role)) && (c.junk == promised_junk c.terms c.role)

-- the cipher of a side's promise under a key
abbrev pub sealed : Session → Exchange → Terms → Role → List ℕ → (UpdateId → Option (List ℕ)) → List ℕ
sealed s x t role key blocks = sealing.sealed s.shape.id x s.cap t role key blocks

-- what a key shows of a briefcase of an exchange
abbrev pub opening_of : Session → Table → Exchange → Briefcase → List ℕ → Opening
opening_of s table x c key = opening.opening s.shape.id x s.cap c.terms c.role c.cipher key table

abbrev pub is_good : Opening → Bool
is_good (Good count) = true
is_good (Bad item) = false
is_good (Unknown item) = false

abbrev pub is_unknown : Opening → Bool
is_unknown (Good count) = false
is_unknown (Bad item) = false
is_unknown (Unknown item) = true

-- the block of an update in an opened briefcase
unfoldable pub opened_block : Session → Briefcase → List ℕ → UpdateId → Option (List ℕ)
opened_block s c key u =
    option_map (λ p. p.1)
    (find (λ p. same_update u p.0) (zip (promised_updates s.cap c.terms c.role) (opened_blocks s.cap c.terms c.role c.cipher key)))

-- ---- datagrams

abbrev pub datagram_of : Session → List ℕ → Option Datagram
datagram_of s bytes = places.datagram_of s.shape bytes

abbrev pub datagram_bytes : Session → Datagram → List ℕ
datagram_bytes s d = spelling s.shape d

abbrev pub message_bytes : Session → Message → List ℕ
message_bytes s m = grammar.message_bytes s.shape m

-- a message whose kind isn't signed
abbrev pub unsigned : Message → Datagram
unsigned m = record { message = m; signature = [] }

-- the signature is accepted under the sender's key
abbrev pub is_signed_by : Session → Datagram → Bool
is_signed_by s d = accepted_by s.top s.params (key_of_party s d.message.from) (message_bytes s d.message) d.signature

-- the leaf that its signature names
abbrev pub leaf_named : Session → Datagram → ℕ
leaf_named s d = named_by s.top s.params d.signature
