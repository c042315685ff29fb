-- What a peer knows: all that its rules read of the past. A log represents it, and so does any other state that keeps as much.
use Rattle.std.specs.Prelude.{ℕ, ◌+◌, ◌==◌, ◌||◌, Bool, nat_le, false, List, [], Option, None, is_some, if◌then◌else◌}
use Rattle.std.specs.Bool.{then_some}
use Rattle.std.specs.Option.{option_or}
use Rattle.std.specs.List.{list_any}
use Rattle.bar_window.specs.Updates.{same_update}
use Rattle.bar_window.specs.declared.update.UpdateId.{UpdateId}
use Rattle.bar_window.specs.declared.exchange.Exchange.{Exchange}
use Rattle.bar_window.specs.declared.exchange.Role.{Role}
use Rattle.bar_window.specs.declared.exchange.Role.TheVariants.{Initiator}
use Rattle.bar_window.specs.declared.exchange.XKind.{XKind}
use Rattle.bar_terms.specs.Table.{Table}
use Rattle.bar_wire.specs.Datagram.{Datagram, Body, Manifest, Block, Request, Divulge, Query, Key, Evict, Briefcase, is_of, exchange_of}
use Rattle.bar_wire.specs.declared.kind.Kind.TheVariants as kinds
use Rattle.bar_wire.specs.declared.kind.Kind.{Kind}
use Rattle.bar_session.specs.Time.{round_after}
use Rattle.bar_rules.specs.Member.{Session, Member}
use Rattle.bar_rules.specs.Peer.Log.{Log, Entry, Ticked, Heard, Said, Kept, ticks, manifest, lists_of, first_heard, first_said, has_heard, count_heard, has_kind_and_round, is_announced, kept}
use Rattle.bar_rules.specs.Peer.Holdings.{block_of, block_by, case_in}
use Rattle.bar_rules.specs.Peer.Exchanges.{request_kind, seat, revealed, committed, open_exchanges, recent_of, with_exchange}

pub record Knowledge : Type 0 where
  pub ticks : ℕ
  -- the manifest of a round that was admitted
  pub manifest : ℕ → Option Datagram
  -- whether an EVICT of a round was admitted
  pub has_evict : ℕ → Bool
  -- whether an admitted EVICT names the party
  pub is_announced : ℕ → Bool
  -- the evidence that is kept against a party
  pub evidence : ℕ → Option (List (List ℕ))
  -- the block of an update, if it is held
  pub block : UpdateId → Option (List ℕ)
  -- the first datagram of a kind, exchange and side that was admitted, and the first that was signed
  pub heard : Kind → Exchange → Role → Option Datagram
  pub said : Kind → Exchange → Role → Option Datagram
  -- what the initiator of an exchange commits to
  pub revealed : Exchange → Option (List ℕ × List UpdateId)
  -- the responder's seat in an exchange
  pub seat : Exchange → Option ℕ
  -- how many requests for exchanges of a kind and round were admitted
  pub asked : XKind → ℕ → ℕ
  -- the exchanges in which a message was signed and that may still be asked about, in order
  pub opens : List Exchange

-- what is known before the first entry
abbrev pub nothing : Knowledge
nothing = record {
  ticks = 0;
  manifest = λ round. None;
  has_evict = λ round. false;
  is_announced = λ party. false;
  evidence = λ party. None;
  block = λ u. None;
  heard = λ kind x role. None;
  said = λ kind x role. None;
  revealed = λ x. None;
  seat = λ x. None;
  asked = λ kind round. 0;
  opens = [];
}

-- the knowledge that a log represents
abbrev pub known : Member → Log → Knowledge
known me log = record {
  ticks = ticks log;
  manifest = manifest log;
  has_evict = λ round. has_heard (has_kind_and_round kinds.Evict round) log;
  is_announced = λ party. is_announced log party;
  evidence = λ party. kept log party;
  block = λ u. block_of me.session log u;
  heard = λ kind x role. first_heard (is_of kind x role) log;
  said = λ kind x role. first_said (is_of kind x role) log;
  revealed = λ x. revealed me log x;
  seat = λ x. seat log x;
  asked = λ kind round. count_heard (has_kind_and_round (request_kind kind) round) log;
  opens = open_exchanges me log;
}

-- ---- what is read of it

-- the lists of the admitted manifests
abbrev pub table_of : Knowledge → Table
table_of k = lists_of k.manifest

abbrev pub this_round : Knowledge → ℕ
this_round k = round_after k.ticks

abbrev pub holds : Knowledge → UpdateId → Bool
holds k u = is_some (k.block u)

abbrev pub has_heard_of : Knowledge → Kind → Exchange → Role → Bool
has_heard_of k kind x role = is_some (k.heard kind x role)

abbrev pub has_said_of : Knowledge → Kind → Exchange → Role → Bool
has_said_of k kind x role = is_some (k.said kind x role)

abbrev pub case_heard_of : Knowledge → Exchange → Role → Option Briefcase
case_heard_of k x role = case_in (k.heard kinds.Case x role)

abbrev pub case_said_of : Knowledge → Exchange → Role → Option Briefcase
case_said_of k x role = case_in (k.said kinds.Case x role)

-- ---- time

-- for how many rounds after its own a request may be admitted, asked and answered; and what follows it up to the CASEs
abbrev pub request_deadline : ℕ
request_deadline = 1

abbrev pub answer_deadline : ℕ
answer_deadline = 2

-- how many rounds after its own a datagram of an exchange may be admitted, asked for and answered
abbrev pub deadline : Session → Kind → ℕ
deadline s kinds.Request = request_deadline
deadline s kinds.Query = request_deadline
deadline s kinds.Response = answer_deadline
deadline s kinds.Divulge = answer_deadline
deadline s kinds.Reply = answer_deadline
deadline s kinds.Case = answer_deadline
deadline s kinds.KeyReq = s.shape.life
deadline s kinds.Key = s.shape.life
deadline s _ = 0

abbrev pub is_in_time : Session → Knowledge → Kind → ℕ → Bool
is_in_time s k kind round = nat_le (this_round k) (round + deadline s kind)

-- ---- what an entry adds to it

abbrev pub with_tick : Member → Knowledge → Knowledge
with_tick me k = record k { ticks = k.ticks + 1; opens = recent_of me.session (round_after (k.ticks + 1)) k.opens }

-- the first datagrams of each kind, exchange and side, after one more datagram
abbrev pub first_with : Datagram → (Kind → Exchange → Role → Option Datagram) → Kind → Exchange → Role → Option Datagram
first_with d firsts kind x role = option_or (firsts kind x role) (then_some (is_of kind x role d.message) d)

-- a request takes a seat
abbrev pub with_request : Datagram → Knowledge → Knowledge
with_request d k = record k {
  heard = first_with d k.heard;
  seat = λ x. option_or (k.seat x) (then_some (is_of (request_kind x.kind) x Initiator d.message) (k.asked x.kind x.round));
  asked = λ kind round. k.asked kind round + (if has_kind_and_round (request_kind kind) round d.message then 1 else 0);
}

-- what a datagram of each kind adds
abbrev pub learned : Member → Datagram → Knowledge → Body → Knowledge
learned me d k (Manifest r digests) = record k { manifest = λ round. option_or (k.manifest round) (then_some (r == round) d) }
learned me d k (Block v block) = record k { block = λ u. option_or (k.block u) (then_some (same_update u v) block) }
learned me d k (Evict r parties) = record k {
  has_evict = λ round. k.has_evict round || (r == round);
  is_announced = λ party. k.is_announced party || list_any (λ q. q == party) parties;
}
learned me d k (Request r seed commitment) = with_request d k
learned me d k (Query r seed young aged) = with_request d k
learned me d k (Divulge r nonce ha) = record k {
  heard = first_with d k.heard;
  revealed = λ x. option_or (k.revealed x) (then_some (is_of kinds.Divulge x Initiator d.message) (nonce, ha));
}
learned me d k (Key g) = record k {
  heard = first_with d k.heard;
  block = λ u. option_or (k.block u) (block_by me.session (this_round k) (table_of k) (case_heard_of k) u d.message (Key g));
}
learned me d k _ = record k { heard = first_with d k.heard }

abbrev pub with_heard : Member → Datagram → Knowledge → Knowledge
with_heard me d k = learned me d k d.message.body

abbrev pub with_said : Member → Datagram → Knowledge → Knowledge
with_said me d k = record k {
  said = first_with d k.said;
  revealed = λ x. option_or (k.revealed x) (then_some (is_of kinds.Request x Initiator d.message) (committed me k.block x));
  opens = recent_of me.session (this_round k) (with_exchange (exchange_of d.message) k.opens);
}

abbrev pub with_kept : ℕ → List (List ℕ) → Knowledge → Knowledge
with_kept q evidence k = record k { evidence = λ party. option_or (k.evidence party) (then_some (q == party) evidence) }

abbrev pub with_entry : Member → Entry → Knowledge → Knowledge
with_entry me Ticked k = with_tick me k
with_entry me (Heard d) k = with_heard me d k
with_entry me (Said d) k = with_said me d k
with_entry me (Kept q evidence) k = with_kept q evidence k
