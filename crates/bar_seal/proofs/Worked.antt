-- Worked leaves and identities of round 3.
use Rattle.std.proofs.Common.{◌≡◌, [], refl}
use Rattle.std.specs.Prelude.{Some, None}
use Rattle.bar_window.specs.declared.exchange.XKind.TheVariants.{Balanced, Push}
use Rattle.bar_window.specs.declared.exchange.Role.{Role}
use Rattle.bar_window.specs.declared.exchange.Role.TheVariants.{Initiator, Responder}
use Rattle.bar_window.specs.declared.exchange.XKind.{XKind}
use Rattle.bar_wire.specs.Datagram.{Body, Manifest, Request, Divulge, Reply, Key, Evict}
use Rattle.bar_seal.specs.Identities.{identity_by}
use Rattle.bar_seal.specs.Leaves.{leaf_of}

abbrev key : XKind → Role → Body
key kind role = Key (record { round = 3; kind = kind; role = role; key = [] })

request_is_first : leaf_of (Request 3 [] []) 0 ≡ 36
request_is_first = refl

key_of_a_trade : leaf_of (key Balanced Initiator) 0 ≡ 38
key_of_a_trade = refl

reply_of_the_first_seat : leaf_of (Reply 3 [] [] 0) 0 ≡ 48
reply_of_the_first_seat = refl

key_is_last : leaf_of (key Push Responder) 1 ≡ 53
key_is_last = refl

manifest_of_the_round : leaf_of (Manifest 3 []) 0 ≡ 4
manifest_of_the_round = refl

notice_of_the_round : leaf_of (Evict 3 []) 0 ≡ 5
notice_of_the_round = refl

key_has_all : identity_by (key Push Responder) 1 2 ≡ Some (record { kind = 10; from = 1; to = 2; round = 3; xkind = 1; role = 1 })
key_has_all = refl

request_has_its_sender : identity_by (Request 3 [] []) 1 2 ≡ Some (record { kind = 3; from = 1; to = 0; round = 3; xkind = 0; role = 0 })
request_has_its_sender = refl

manifest_has_its_round : identity_by (Manifest 3 []) 0 65535 ≡ Some (record { kind = 1; from = 0; to = 0; round = 3; xkind = 0; role = 0 })
manifest_has_its_round = refl

unsigned_has_none : identity_by (Divulge 3 [] []) 1 2 ≡ None
unsigned_has_none = refl
