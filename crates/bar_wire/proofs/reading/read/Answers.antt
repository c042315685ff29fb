use Rattle.std.proofs.Common.{◌≡◌, ◌∙◌, sym, ap}
use Rattle.std.proofs.lemmas.Bool.{false≢true}
use Rattle.bar_wire.specs.Kinds.{is_signed_kind}
use Rattle.bar_wire.specs.Datagram.{kind_of}
use Rattle.bar_wire.specs.Code.Views.{plain}
use Rattle.bar_wire.proofs.Whole.{cut_view, cut_none, cut_not_sent, cut_len}
use Rattle.bar_wire.proofs.reading.read.Goals as goal

pub returns-in_default : goal.returns-in_default
returns-in_default c =
    let k = c.in_ok-cut.cut in
    let is = c.in_ok-cut.ensures in
    ((k.kind, is.cut.has, (cut_len c.args.shape.now c.args.bytes.now k.kind k.from k.to k.fields.now k.sig.now is.cut).0 is.long), cut_none c.args.shape.now c.args.bytes.now k.kind k.from k.to k.fields.now k.sig.now is.cut c.in_default.ensures)

pub returns-then-not-may_send : goal.returns-then-not-may_send
returns-then-not-may_send c =
    let k = c.in_ok-cut.cut in
    let is = c.in_ok-cut.ensures in
    ((k.kind, is.cut.has, (cut_len c.args.shape.now c.args.bytes.now k.kind k.from k.to k.fields.now k.sig.now is.cut).0 is.long), cut_not_sent c.args.shape.now c.args.bytes.now k.kind k.from k.to k.fields.now k.sig.now is.cut (λ may. false≢true (sym c.if-not-may_send.true ∙ c.may_send.ensures.1 may)))

pub returns : goal.returns
returns c =
    let k = c.in_ok-cut.cut in
    let is = c.in_ok-cut.ensures in
    let read = c.in-Some.ensures in
    let both = cut_view c.args.shape.now c.args.bytes.now k.kind k.from k.to k.fields.now k.sig.now (plain c.in-Some.body) is.cut read.kind_is read.spelled (c.may_send.ensures.0 c.if-not-may_send.false) in
    let same : is_signed_kind (kind_of (plain c.in-Some.body)) ≡ is_signed_kind k.kind = ap is_signed_kind read.kind_is in
    record {
      spelled = rw c.signature-sig.ensures.bytes both.0;
      body = read.body;
      message_is = both.1;
      signed = (λ h. same ∙ c.signature-sig.ensures.some.0 h, λ h. c.signature-sig.ensures.some.1 (sym same ∙ h));
    }
