-- Which datagrams a peer admits: the common part, and a row for each kind.
use Rattle.std.specs.Prelude.{ℕ, ◌+◌, ◌==◌, ◌&&◌, not, Bool, true, false, List, length, Option, Some, None, is_some, nat_le, nat_lt, option_and_then, option_map, if◌then◌else◌}
use Rattle.std.specs.Option.{option_map_or}
use Rattle.std.specs.Str.{bytes_eq}
use Rattle.sha2.specs.Sha256.{sha256}
use Rattle.bar_wire.specs.Limits.{everyone, seats_a_round}
use Rattle.bar_wire.specs.Bodies.{offer_in, commitment_in}
use Rattle.bar_window.specs.declared.update.UpdateId.{UpdateId}
use Rattle.bar_window.specs.declared.exchange.Exchange.{Exchange}
use Rattle.bar_window.specs.declared.exchange.Role.{Role}
use Rattle.bar_window.specs.declared.exchange.Role.TheVariants.{Initiator, Responder}
use Rattle.bar_window.specs.declared.exchange.XKind.{XKind}
use Rattle.bar_window.specs.declared.exchange.XKind.TheVariants.{Balanced, Push}
use Rattle.bar_window.specs.Exchange.{other_role}
use Rattle.bar_window.specs.Updates.{same_updates}
use Rattle.bar_window.specs.Terms.{Terms}
use Rattle.bar_window.specs.Terms as forms
use Rattle.bar_terms.specs.Table.{Digest, Known, PastEnd, NoManifest, digest_of, is_within}
use Rattle.bar_terms.specs.Terms.{offer_ok}
use Rattle.bar_wire.specs.Datagram.{Message, Datagram, Body, Manifest, Block, Request, Response, Divulge, Query, Reply, Case, KeyReq, Key, Evict, is_signed, kind_of, Place, place_of, exchange_by}
use Rattle.bar_wire.specs.declared.kind.Kind.TheVariants as kinds
use Rattle.bar_wire.specs.declared.kind.Kind.{Kind}
use Rattle.bar_rules.specs.Member.{Session, Member, is_alive}
use Rattle.bar_rules.specs.Values.{terms_ok, counts_ok, is_signed_by}
use Rattle.bar_rules.specs.Secrets.{is_seed, partner_of, commitment_of}
use Rattle.bar_rules.specs.Peer.Exchanges.{request_kind}
use Rattle.bar_rules.specs.Peer.Knowledge.{Knowledge, table_of, this_round, is_in_time, holds, has_heard_of, has_said_of}
use Rattle.bar_rules.specs.Peer.Debts.{owes}
use Rattle.bar_rules.specs.Peer.Terms.{terms_of}
use Rattle.bar_rules.specs.Peer.Choices.{wanted_of}

-- the kinds that are sent to all peers; every other kind is sent to one party
abbrev pub is_to_all : Body → Bool
is_to_all (Manifest round digests) = true
is_to_all (Evict round parties) = true
is_to_all _ = false

abbrev pub is_for : Member → Message → Bool
is_for me m = if is_to_all m.body then m.to == everyone else m.to == me.party

-- if the kind is signed, the signature is accepted under the sender's key
abbrev pub has_valid_signature : Session → Datagram → Bool
has_valid_signature s d = if is_signed d.message.body then is_signed_by s d else true

-- a datagram of the same name was admitted: a manifest or an EVICT of the same round, or one of the same kind, exchange and side
abbrev pub is_named_again : Knowledge → Option Place → Body → Bool
is_named_again k (Some p) b = has_heard_of k (kind_of b) p.exchange p.role
is_named_again k None (Manifest round digests) = is_some (k.manifest round)
is_named_again k None (Evict round parties) = k.has_evict round
is_named_again k None _ = false

-- a datagram of a signed kind has the name of one that was admitted
abbrev pub is_heard_again : Knowledge → Message → Bool
is_heard_again k m = is_signed m.body && is_named_again k (place_of m) m.body

-- a block has the digest that the table lists for it
abbrev pub has_digest : Digest → List ℕ → Bool
has_digest (Known d) block = bytes_eq (sha256 block) d
has_digest PastEnd block = false
has_digest NoManifest block = false

-- The sender may ask this member for an exchange of this kind. It has the seed of the round, which chooses this member, and it owes this
-- member no key. Fewer requests of the round and kind were admitted than there are seats. The request is in time, and at most one round
-- early.
abbrev pub may_ask : Member → Knowledge → XKind → ℕ → ℕ → List ℕ → Bool
may_ask me k kind from round seed =
    is_seed me.session from round seed
    && (partner_of me.session seed kind from == me.party)
    && nat_lt (k.asked kind round) seats_a_round
    && not (owes me k from)
    && (nat_le round (this_round k + 1) && is_in_time me.session k (request_kind kind) round)

abbrev pub body_said : Knowledge → Kind → Exchange → Role → Option Body
body_said k kind x role = option_map (λ d. d.message.body) (k.said kind x role)

abbrev pub body_heard : Knowledge → Kind → Exchange → Role → Option Body
body_heard k kind x role = option_map (λ d. d.message.body) (k.heard kind x role)

abbrev pub same_terms : Terms → Terms → Bool
same_terms (forms.Balanced n a b) (forms.Balanced m c d) = bytes_eq n m && same_updates a c && same_updates b d
same_terms (forms.Push y o w g z) (forms.Push v p x h k) =
    same_updates y v && same_updates o p && same_updates w x && same_updates g h && (z == k)
same_terms (forms.Balanced n a b) (forms.Push y o w g z) = false
same_terms (forms.Push y o w g z) (forms.Balanced n a b) = false

abbrev pub are_terms : Terms → Option Terms → Bool
are_terms terms o = option_map_or (λ t. same_terms t terms) o false

-- a revealed nonce and history meet the commitment of the REQUEST that was heard
abbrev pub meets_commitment : Member → Knowledge → Exchange → List ℕ → List UpdateId → Bool
meets_commitment me k x nonce ha =
    option_map_or (λ c. bytes_eq c (commitment_of me.session x nonce ha))
    (option_and_then commitment_in (body_heard k kinds.Request x Initiator)) false

-- the terms made of the offer that was said and an answer
abbrev pub terms_with : Option (List UpdateId × List UpdateId) → List UpdateId → List UpdateId → ℕ → Option Terms
terms_with None want give junk = None
terms_with (Some q) want give junk = Some (forms.Push q.0 q.1 want give junk)

-- the row of each kind, for a message of this body from one party to another; the bound on the round is tested last
abbrev pub is_row_met : Member → Knowledge → ℕ → ℕ → Body → Bool
is_row_met me k from to (Manifest round digests) = nat_le round (this_round k + 1) && is_alive me.session round (this_round k)
is_row_met me k from to (Block u block) =
    has_digest (digest_of (table_of k) u) block && not (holds k u) && is_alive me.session u.round (this_round k)
is_row_met me k from to (Evict round parties) = nat_le round (this_round k + 1)
is_row_met me k from to (Request round seed commitment) = may_ask me k Balanced from round seed
is_row_met me k from to (Response round hb) =
    has_said_of k kinds.Request (exchange_by round Balanced Responder from to) Initiator
    && is_within (table_of k) hb
    && is_in_time me.session k kinds.Response round
is_row_met me k from to (Divulge round nonce ha) =
    let x : Exchange = exchange_by round Balanced Initiator from to in
    meets_commitment me k x nonce ha
    && not (has_heard_of k kinds.Divulge x Initiator)
    && is_within (table_of k) ha
    && is_in_time me.session k kinds.Divulge round
is_row_met me k from to (Query round seed young aged) =
    offer_ok me.session.cap me.session.shape.life (table_of k) round young aged
    && (is_within (table_of k) young && is_within (table_of k) aged)
    && nat_lt 0 (length (wanted_of me k young))
    && may_ask me k Push from round seed
is_row_met me k from to (Reply round want give junk) =
    let x : Exchange = exchange_by round Push Responder from to in
    option_map_or (terms_ok me.session (table_of k) x)
    (terms_with (option_and_then offer_in (body_said k kinds.Query x Initiator)) want give junk) false
    && is_in_time me.session k kinds.Reply round
is_row_met me k from to (Case c) =
    let x : Exchange = exchange_by c.round c.kind c.role from to in
    has_said_of k kinds.Case x (other_role c.role)
    && are_terms c.terms (terms_of me k x)
    && counts_ok me.session c
    && is_in_time me.session k kinds.Case c.round
is_row_met me k from to (KeyReq round kind role) =
    let x : Exchange = exchange_by round kind role from to in
    has_said_of k kinds.Case x (other_role role)
    && has_heard_of k kinds.Case x role
    && not (has_heard_of k kinds.KeyReq x role)
    && is_in_time me.session k kinds.KeyReq round
is_row_met me k from to (Key g) =
    let x : Exchange = exchange_by g.round g.kind g.role from to in
    has_said_of k kinds.Case x (other_role g.role)
    && has_heard_of k kinds.Case x g.role
    && is_in_time me.session k kinds.Key g.round
is_row_met me k from to _ = false

unfoldable pub is_admitted : Member → Knowledge → Datagram → Bool
is_admitted me k d =
    is_for me d.message
    && not (k.is_announced d.message.from)
    && has_valid_signature me.session d
    && not (is_heard_again k d.message)
    && is_row_met me k d.message.from d.message.to d.message.body
