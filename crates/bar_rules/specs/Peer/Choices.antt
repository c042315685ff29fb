-- What a peer chooses by its holdings: what a push offers and asks for, what is wanted and given in answer.
use Rattle.std.specs.Prelude.{ℕ, ◌-◌, ◌/◌, not, max, ◌&&◌, List, length, filter, take}
use Rattle.bar_window.specs.declared.update.UpdateId.{UpdateId}
use Rattle.bar_terms.specs.Table.{is_known, digest_of}
use Rattle.bar_rules.specs.Member.{Member}
use Rattle.bar_rules.specs.Values.{first_round, updates_from}
use Rattle.bar_rules.specs.Peer.Knowledge.{Knowledge, table_of, holds}

-- the young updates that a push offers: held ones of its round and the one before
abbrev pub young_of : Member → Knowledge → ℕ → List UpdateId
young_of me k round = take me.session.cap (filter (holds k) (updates_from me.session (max 1 (round - 1)) round))

-- the aged updates that it asks for: missing ones within the table, of the rounds up to half a life back, an odd life rounded down
abbrev pub aged_of : Member → Knowledge → ℕ → List UpdateId
aged_of me k round =
    take me.session.cap
    (filter (λ u. not (holds k u) && is_known (digest_of (table_of k) u))
    (updates_from me.session (first_round me.session round) (round - me.session.shape.life / 2)))

-- what a responder wants of what is offered, and gives of what is asked for
abbrev pub wanted_of : Member → Knowledge → List UpdateId → List UpdateId
wanted_of me k young = take me.session.cap (filter (λ u. not (holds k u)) young)

abbrev pub given_of : Member → Knowledge → List UpdateId → List UpdateId → List UpdateId
given_of me k young aged = take (length (wanted_of me k young)) (filter (holds k) aged)
