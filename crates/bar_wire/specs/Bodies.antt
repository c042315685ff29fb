-- The fields of a body, if it is of the kind that has them.
use Rattle.std.specs.Prelude.{ℕ, ◌+◌, ◌==◌, Bool, true, false, List, [], Option, Some, None}
use Rattle.bar_window.specs.declared.update.UpdateId.{UpdateId}
use Rattle.bar_window.specs.declared.exchange.XKind.{XKind}
use Rattle.bar_window.specs.declared.exchange.XKind.TheVariants.{Balanced, Push}
use Rattle.bar_wire.specs.Datagram.{Body, Briefcase, KeyGiven, Manifest, Request, Response, Divulge, Query, Reply, Case, Key, Evidence, Evict}

-- ---- of a broadcaster's message

abbrev pub is_manifest_of : ℕ → Body → Bool
is_manifest_of round (Manifest q digests) = q == round
is_manifest_of round _ = false

-- the digests of a MANIFEST
abbrev pub digests_in : Body → Option (List (List ℕ))
digests_in (Manifest round digests) = Some digests
digests_in _ = None

-- the parties that an EVICT names
abbrev pub evictions_in : Body → List ℕ
evictions_in (Evict round parties) = parties
evictions_in _ = []

-- ---- of a peer's message

-- the datagrams in an EVIDENCE
abbrev pub evidence_in : Body → List (List ℕ)
evidence_in (Evidence datagrams) = datagrams
evidence_in _ = []

-- whether a body is of a kind that peers sign
abbrev pub is_peer_kind : Body → Bool
is_peer_kind (Request r s c) = true
is_peer_kind (Response r hb) = true
is_peer_kind (Query r s y o) = true
is_peer_kind (Reply r w g z) = true
is_peer_kind (Case c) = true
is_peer_kind (Key k) = true
is_peer_kind _ = false

-- a choice of partner: the kind of exchange, the round and the seed
pub record Choice : Type 0 where
  pub kind : XKind
  pub round : ℕ
  pub seed : List ℕ

-- the choice of partner of a REQUEST or a QUERY
abbrev pub choice_in : Body → Option Choice
choice_in (Request round seed commitment) = Some (record { kind = Balanced; round = round; seed = seed })
choice_in (Query round seed young aged) = Some (record { kind = Push; round = round; seed = seed })
choice_in _ = None

-- the round of the seed in a REQUEST, and of the one in a QUERY; 0 for any other body
abbrev pub request_round : Body → ℕ
request_round (Request round seed commitment) = round
request_round _ = 0

abbrev pub query_round : Body → ℕ
query_round (Query round seed young aged) = round
query_round _ = 0

-- the round of the seed in either
abbrev pub choice_round : Body → ℕ
choice_round b = request_round b + query_round b

-- the commitment of a REQUEST
abbrev pub commitment_in : Body → Option (List ℕ)
commitment_in (Request round seed commitment) = Some commitment
commitment_in _ = None

-- the history of a RESPONSE
abbrev pub history_in : Body → Option (List UpdateId)
history_in (Response round hb) = Some hb
history_in _ = None

-- the nonce and the history of a DIVULGE
abbrev pub divulge_in : Body → Option (List ℕ × List UpdateId)
divulge_in (Divulge round nonce ha) = Some (nonce, ha)
divulge_in _ = None

-- the young updates that a QUERY offers, and the aged ones that it asks for
abbrev pub offer_in : Body → Option (List UpdateId × List UpdateId)
offer_in (Query round seed young aged) = Some (young, aged)
offer_in _ = None

-- the young updates that a REPLY wants, the aged ones that it gives, and how many junk items it adds
abbrev pub reply_in : Body → Option (List UpdateId × List UpdateId × ℕ)
reply_in (Reply round want give junk) = Some (want, give, junk)
reply_in _ = None

-- the fields of a CASE
abbrev pub briefcase_in : Body → Option Briefcase
briefcase_in (Case c) = Some c
briefcase_in _ = None

-- the fields of a KEY
abbrev pub key_in : Body → Option KeyGiven
key_in (Key k) = Some k
key_in _ = None
