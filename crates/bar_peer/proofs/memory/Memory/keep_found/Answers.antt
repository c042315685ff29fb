use Rattle.std.proofs.Common.{◌≡◌, ◌∙◌, sym, ap, refl}
use Rattle.std.specs.Prelude.{option_map}
use Rattle.bar_terms.specs.Table.{digests_of}
use Rattle.bar_wire.specs.Datagram.{Datagram}
use Rattle.bar_wire.specs.Evidence.{datagrams_of}
use Rattle.bar_wire.specs.Code.Views.{datagram}
use Rattle.bar_rules.specs.Member.{Member}
use Rattle.bar_rules.specs.Peer.Evidence.{new_evidence}
use Rattle.bar_rules.specs.Peer.Knowledge.{Knowledge, known, table_of}
use Rattle.bar_laws.specs.Soundness.{IsSound}
use Rattle.bar_peer.specs.Code.Memory.{member_of}
use Rattle.bar_peer.proofs.Faults.Keys.{caught}
use Rattle.bar_peer.proofs.Stepping.Datagrams.{found-kept, none-kept}
use Rattle.bar_peer.proofs.memory.Memory.keep_found.Goals as goal

pub returns-in-Some-clause-kept : goal.returns-in-Some-clause-kept
returns-in-Some-clause-kept g c log catches obeys before h tried =
    let old = c.args.self.now in
    let me : Member = member_of old.who in
    let d : Datagram = datagram me.session.shape c.args.arrival.now.view in
    let k : Knowledge = known me log in
    let sound : IsSound me k = c.logs_are_sound.ensures me log before in
    let table : table_of k ≡ digests_of c.table.result.now.lists =
    (λ i round. h.store.table round i) ∙ (λ i. digests_of (sym c.table.ensures i).lists)
    in
    let found = c.find.ensures.exact k (record { recalls = h.ledger; table = table; sound = sound; caught = caught me log before catches; tried = tried }) in
    found-kept c.knowledge_is_enough.ensures.entry c.evidence_fits_its_room.ensures old _ log c.args.arrival.now.view.from (new_evidence me k d)
    (datagrams_of c.in-Some.evidence)
    (sym found ∙ ap (option_map datagrams_of) c.in-Some.is)
    (record { who = refl; ticks = refl; store = refl; ledger = refl; manifests = refl; evictions = refl })
    obeys
    h
    c.keep_evidence.ensures.kept

pub returns-in-None-clause-kept : goal.returns-in-None-clause-kept
returns-in-None-clause-kept g c log catches obeys before h tried =
    let old = c.args.self.now in
    let me : Member = member_of old.who in
    let d : Datagram = datagram me.session.shape c.args.arrival.now.view in
    let k : Knowledge = known me log in
    let sound : IsSound me k = c.logs_are_sound.ensures me log before in
    let table : table_of k ≡ digests_of c.table.result.now.lists =
    (λ i round. h.store.table round i) ∙ (λ i. digests_of (sym c.table.ensures i).lists)
    in
    let found = c.find.ensures.exact k (record { recalls = h.ledger; table = table; sound = sound; caught = caught me log before catches; tried = tried }) in
    none-kept old _ log c.args.arrival.now.view.from (new_evidence me k d)
    (sym found ∙ ap (option_map datagrams_of) c.in-None.is)
    (record { who = refl; ticks = refl; store = refl; ledger = refl; manifests = refl; evictions = refl })
    refl
    h
