-- What a peer may sign, whatever happened before in whatever order, and with which leaf.
use Rattle.std.specs.Prelude.{◌≡◌, ℕ, ◌-◌, ◌<◌, ◌≤◌, ◌&&◌, Bool, true, false, List, length, Option, Some, None, unwrap_or, option_and_then}
use Rattle.std.specs.Str.{bytes_eq}
use Rattle.bar_wire.specs.Bodies.{offer_in}
use Rattle.bar_window.specs.declared.update.UpdateId.{UpdateId}
use Rattle.bar_window.specs.declared.exchange.Exchange.{Exchange}
use Rattle.bar_window.specs.declared.exchange.Role.TheVariants.{Initiator, Responder}
use Rattle.bar_window.specs.declared.exchange.XKind.{XKind}
use Rattle.bar_window.specs.declared.exchange.XKind.TheVariants.{Balanced, Push}
use Rattle.bar_window.specs.Exchange.{other_role}
use Rattle.bar_window.specs.Terms.{Terms}
use Rattle.bar_window.specs.Terms as forms
use Rattle.bar_terms.specs.Table.{is_within}
use Rattle.bar_wire.specs.Datagram.{Message, Datagram, Body, Request, Response, Query, Reply, Case, Key, Briefcase, KeyGiven, identity_of, exchange_by, Place, place_of, round_of}
use Rattle.bar_seal.specs.Leaves as leaves
use Rattle.bar_wire.specs.declared.kind.Kind.TheVariants as kinds
use Rattle.bar_rules.specs.Member.{Member}
use Rattle.bar_rules.specs.Values.{terms_ok, counts_ok, sealed, message_bytes}
use Rattle.bar_rules.specs.Secrets.{nonce_of, briefcase_key, commitment_of, seed_of, partner_of, signature_of}
use Rattle.bar_rules.specs.Peer.Log.{Log, has_said}
use Rattle.bar_rules.specs.Peer.Holdings.{history}
use Rattle.bar_rules.specs.Peer.Knowledge.{Knowledge, table_of, known, this_round, has_heard_of, case_heard_of, case_said_of}
use Rattle.bar_rules.specs.Peer.Debts.{owes}
use Rattle.bar_rules.specs.Peer.Terms.{terms_of, body_on}
use Rattle.bar_rules.specs.Peer.Choices.{young_of, aged_of, wanted_of, given_of}

-- the exchange of a round and kind that this member starts with a partner
abbrev pub asking : Member → ℕ → XKind → ℕ → Exchange
asking me round kind to = record { round = round; kind = kind; initiator = me.party; responder = to }

-- the histories, or the offer, are within the table
abbrev pub windows_within : Member → Knowledge → Terms → Bool
windows_within me k (forms.Balanced nonce ha hb) = is_within (table_of k) ha && is_within (table_of k) hb
windows_within me k (forms.Push young aged want give junk) = is_within (table_of k) young && is_within (table_of k) aged

-- a REQUEST: in its round, with the round's seed, to the partner that the seed chooses, who owes no key, committing to the current history
pub record MayRequest (me : Member) (k : Knowledge) (to round : ℕ) (seed commitment : List ℕ) : Type 0 where
  pub now : round ≡ this_round k
  pub seeded : seed ≡ seed_of me round
  pub chosen : to ≡ partner_of me.session seed Balanced me.party
  pub unowed : owes me k to ≡ false
  pub committed :
      commitment ≡ commitment_of me.session (asking me round Balanced to) (nonce_of me (asking me round Balanced to))
      (history me.session k.block round)

-- a QUERY: in its round, with the round's seed, to the partner that the seed chooses, who owes no key, offering what is held and asking for
-- what is missing now
pub record MayQuery (me : Member) (k : Knowledge) (to round : ℕ) (seed : List ℕ) (young aged : List UpdateId) : Type 0 where
  pub now : round ≡ this_round k
  pub seeded : seed ≡ seed_of me round
  pub chosen : to ≡ partner_of me.session seed Push me.party
  pub unowed : owes me k to ≡ false
  pub offers : young ≡ young_of me k round
  pub asks : aged ≡ aged_of me k round
  pub some_young : 0 < length young

-- a RESPONSE: to a REQUEST that was heard, with the current history
pub record MayRespond (me : Member) (k : Knowledge) (to round : ℕ) (hb : List UpdateId) : Type 0 where
  pub asked : has_heard_of k kinds.Request (exchange_by round Balanced Responder me.party to) Initiator ≡ true
  pub held : hb ≡ history me.session k.block round

-- a REPLY: to a QUERY that was heard, wanting something; the current holdings determine what is wanted and given
pub record MayReply (me : Member) (k : Knowledge) (to round : ℕ) (want give : List UpdateId) (junk : ℕ) : Type 0 where
  pub young : List UpdateId
  pub aged : List UpdateId
  pub asked : has_heard_of k kinds.Query (exchange_by round Push Responder me.party to) Initiator ≡ true
  pub offers :
      option_and_then offer_in (body_on me k kinds.Query (exchange_by round Push Responder me.party to) Initiator) ≡ Some (young, aged)
  pub wants : want ≡ wanted_of me k young
  pub some_wanted : 0 < length want
  pub gives : give ≡ given_of me k young aged
  pub pads : junk ≡ length want - length give

-- a CASE: with the complete terms, which are valid and within the table, and the counts of the promise, sealed with the derived key
pub record MayGiveCase (me : Member) (k : Knowledge) (to : ℕ) (c : Briefcase) : Type 0 where
  pub terms : terms_of me k (exchange_by c.round c.kind c.role me.party to) ≡ Some c.terms
  pub valid : terms_ok me.session (table_of k) (exchange_by c.round c.kind c.role me.party to) c.terms ≡ true
  pub within : windows_within me k c.terms ≡ true
  pub counts : counts_ok me.session c ≡ true
  pub cipher :
      c.cipher ≡ sealed me.session (exchange_by c.round c.kind c.role me.party to) c.terms c.role
      (briefcase_key me (exchange_by c.round c.kind c.role me.party to) c.role) k.block

-- a KEY: the derived key, if the own CASE is said and the partner's is heard, with the same terms and the counts of its promise
pub record MayGiveKey (me : Member) (k : Knowledge) (to : ℕ) (g : KeyGiven) : Type 0 where
  pub ours : Briefcase
  pub theirs : Briefcase
  pub said : case_said_of k (exchange_by g.round g.kind g.role me.party to) g.role ≡ Some ours
  pub heard : case_heard_of k (exchange_by g.round g.kind g.role me.party to) (other_role g.role) ≡ Some theirs
  pub same : theirs.terms ≡ ours.terms
  pub counts : counts_ok me.session theirs ≡ true
  pub key : g.key ≡ briefcase_key me (exchange_by g.round g.kind g.role me.party to) g.role

abbrev pub MaySay : Member → Knowledge → ℕ → Body → Type 0
MaySay me k to (Request round seed commitment) = MayRequest me k to round seed commitment
MaySay me k to (Query round seed young aged) = MayQuery me k to round seed young aged
MaySay me k to (Response round hb) = MayRespond me k to round hb
MaySay me k to (Reply round want give junk) = MayReply me k to round want give junk
MaySay me k to (Case c) = MayGiveCase me k to c
MaySay me k to (Key g) = MayGiveKey me k to g
MaySay me k to _ = ⊥

abbrev pub has_same_identity : Message → Message → Bool
has_same_identity m n = bytes_eq (identity_of n) (identity_of m)

-- An obedient peer may sign this message now: none of its identity is said, its round is one of the session, and its row holds.
pub record MaySign (me : Member) (log : Log) (m : Message) : Type 0 where
  pub mine : m.from ≡ me.party
  pub once : has_said (has_same_identity m) log ≡ false
  pub low : 1 ≤ round_of m.body
  pub high : round_of m.body ≤ me.session.shape.rounds
  pub rule : MaySay me (known me log) m.to m.body

-- ---- leaves

-- the responder's seat of the exchange that a message is of
abbrev pub seat_by : Knowledge → Option Place → ℕ
seat_by k None = 0
seat_by k (Some p) = unwrap_or (k.seat p.exchange) 0

-- the leaf that a message takes
abbrev pub leaf_for : Knowledge → Message → ℕ
leaf_for k m = leaves.leaf_of m.body (seat_by k (place_of m))

abbrev pub signed : Member → Knowledge → Message → Datagram
signed me k m = record { message = m; signature = signature_of me (leaf_for k m) (message_bytes me.session m) }
