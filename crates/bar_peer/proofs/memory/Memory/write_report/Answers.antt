use Rattle.std.proofs.Common.{◌≡◌, ◌∙◌, ℕ, List, Some, length, sym, ap, arith}
use Rattle.std.specs.Prelude.{option_map}
use Rattle.std.proofs.lemmas.List.{append-nil, length-take}
use Rattle.bar_bytes.specs.Code.Rooms.{kept_in}
use Rattle.bar_wire.specs.Datagram.{Evidence, Message}
use Rattle.bar_wire.specs.Evidence.{evidence_bytes, IsEvidence}
use Rattle.bar_wire.specs.Grammar.{message_bytes}
use Rattle.bar_wire.specs.Places.{entries}
use Rattle.bar_peer.proofs.Giving.Bodies.{evidence_of, entries_of, whole_entries, report_len}
use Rattle.bar_peer.proofs.memory.Memory.write_report.Goals as goal

pub encode-requires-clause-body : goal.encode-requires-clause-body
encode-requires-clause-body c =
    let of = evidence_of c.in_ok-bytes.bytes.now c.split_evidence.result c.if-is_err.ensures.value c.split_evidence.ensures.found in
    record {
      windows = tt;
      whole = whole_entries c.in_ok-bytes.bytes.now c.in_ok-count.datagrams.now c.in_ok-count.count.now of.0 c.in_ok-count.ensures.cases.0 of.1;
    }

pub encode-requires-clause-room : goal.encode-requires-clause-room
encode-requires-clause-room c =
    let of = evidence_of c.in_ok-bytes.bytes.now c.split_evidence.result c.if-is_err.ensures.value c.split_evidence.ensures.found in
    omega (
      arith,
      report_len c.shape-shape.result c.args.self.now.who.secrets.party c.in_ok-bytes.bytes.now c.in_ok-count.datagrams.now c.in_ok-count.count.now of.0 c.in_ok-count.ensures.cases.0 of.1,
      c.if-bytes-buf.false,
    )

pub returns : goal.returns
returns c = λ k evidence h kept fits.
    let m = c.args.self.now in
    let bytes : List ℕ = c.in_ok-bytes.bytes.now in
    let both : Some bytes ≡ Some (evidence_bytes evidence) =
    c.in_ok-bytes.ensures
    ∙ (λ i. kept_in m.evidence (c.from.ensures i))
    ∙ sym (h.evidence c.args.party)
    ∙ ap (option_map evidence_bytes) kept
    in
    let of : IsEvidence bytes evidence = record { range = fits.range; is = cc } in
    let all : entries c.in_ok-count.count.now c.in_ok-count.datagrams.now ≡ evidence =
    entries_of bytes c.in_ok-count.datagrams.now c.in_ok-count.count.now evidence c.in_ok-count.ensures.cases.0 of
    in
    let report : Message = record { from = m.who.secrets.party; to = 0; body = Evidence evidence } in (
      c.encode.ensures.written
          ∙ (λ i. message_bytes (c.shape-shape.ensures.value i) (record { from = m.who.secrets.party; to = 0; body = Evidence (all i) }))
          ∙ sym (append-nil (message_bytes m.who.session.shape report)),
      omega (arith, c.encode.ensures.end, ap length c.encode.ensures.written, length-take c.encode.result c.encode.new.out),
    )
