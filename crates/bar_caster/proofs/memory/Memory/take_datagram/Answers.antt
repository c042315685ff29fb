-- The body of an EVIDENCE is judged; another datagram changes nothing.
use Rattle.std.proofs.Common.{◌≡◌, ◌∙◌, ◌-◌, ℕ, Bool, true, false, not, List, Option, Some, length, take, drop, refl, sym, ap, subst, arith, rules}
use Rattle.std.specs.Prelude.{is_none}
use Rattle.std.specs.Option.{option_map_or}
use Rattle.std.proofs.lemmas.Bool.{false≢true}
use Rattle.bar_laws.specs.Ignoring.{is_news}
use Rattle.std.proofs.lemmas.List.{length-drop, take_all}
use Rattle.bar_wire.specs.Datagram.{Datagram, Evidence}
use Rattle.bar_wire.specs.Evidence.{IsEvidence}
use Rattle.bar_wire.specs.Places.{entries}
use Rattle.bar_wire.specs.Places as places
use Rattle.bar_wire.specs.Code.Views.{datagram, plain}
use Rattle.bar_wire.specs.declared.view.Body.{Body as RawBody}
use Rattle.bar_wire.specs.declared.shape.Shape.{Shape}
use Rattle.bar_rules.specs.Broadcaster.Sending.{judge_body, judge_datagram}
use Rattle.bar_rules.specs.Member.{Member}
use Rattle.bar_rules.specs.Values.{datagram_of}
use Rattle.bar_caster.specs.Code.Memory.{Represents, member_of, stream_of}
use Rattle.bar_caster.proofs.Judged.{view_behind}
use Rattle.bar_caster.proofs.memory.Memory.take_datagram.Goals as goal

no : (b : Bool) → not b ≡ true → b ≡ false
no true e = absurd (cc)
no false e = refl

pub slice_bounds-judge-count : goal.slice_bounds-judge-count
slice_bounds-judge-count g c =
    (view_behind c.shape-shape.result c.args.bytes.now c.in-Ok.view c.in-Evidence.count c.in-Evidence.datagrams c.in-Ok.ensures.found c.in-Evidence.is).0

pub slice_bounds-judge-start : goal.slice_bounds-judge-start
slice_bounds-judge-start g c =
    let long = (view_behind c.shape-shape.result c.args.bytes.now c.in-Ok.view c.in-Evidence.count c.in-Evidence.datagrams c.in-Ok.ensures.found c.in-Evidence.is).0 in
    search rules

pub returns-in-Evidence-clause-judged : goal.returns-in-Evidence-clause-judged
returns-in-Evidence-clause-judged g c = λ log tells.
    let m = c.args.self.now in
    let me : Member = member_of m in
    let bytes : List ℕ = c.args.bytes.now in
    let all : List (List ℕ) = entries c.in-Evidence.count c.in-Evidence.datagrams.now in
    let of = (view_behind c.shape-shape.result bytes c.in-Ok.view c.in-Evidence.count c.in-Evidence.datagrams c.in-Ok.ensures.found c.in-Evidence.is).1 in
    let part : take (length bytes - 16) (drop 16 bytes) ≡ drop 16 bytes =
    take_all (length bytes - 16) (drop 16 bytes) (omega (arith, length-drop 16 bytes)) in
    let read : Some (datagram c.shape-shape.result c.in-Ok.view) ≡ datagram_of m.session bytes =
    c.in-Ok.ensures.told ∙ ap (λ (shape : Shape). places.datagram_of shape bytes) c.shape-shape.ensures.value in
    let judged : Represents (judge_body me (stream_of m) log (Evidence all)) c.judge.new.self =
    c.judge.ensures.judged log all tells (subst (λ (x : List ℕ). IsEvidence x all) (sym part) of) in
    subst (λ (o : Option Datagram). Represents (judge_datagram me (stream_of m) log o) c.judge.new.self) read
    (subst (λ (b : RawBody). Represents (judge_body me (stream_of m) log (plain b)) c.judge.new.self) (sym c.in-Evidence.is) judged)

pub returns-in-Evidence-clause-ignored : goal.returns-in-Evidence-clause-ignored
returns-in-Evidence-clause-ignored g c = λ log tells ignored.
    let m = c.args.self.now in
    let me : Member = member_of m in
    let bytes : List ℕ = c.args.bytes.now in
    let all : List (List ℕ) = entries c.in-Evidence.count c.in-Evidence.datagrams.now in
    let of = (view_behind c.shape-shape.result bytes c.in-Ok.view c.in-Evidence.count c.in-Evidence.datagrams c.in-Ok.ensures.found c.in-Evidence.is).1 in
    let part : take (length bytes - 16) (drop 16 bytes) ≡ drop 16 bytes =
    take_all (length bytes - 16) (drop 16 bytes) (omega (arith, length-drop 16 bytes)) in
    let read : Some (datagram c.shape-shape.result c.in-Ok.view) ≡ datagram_of m.session bytes =
    c.in-Ok.ensures.told ∙ ap (λ (shape : Shape). places.datagram_of shape bytes) c.shape-shape.ensures.value in
    let quiet : not (is_news me (stream_of m) log (plain c.in-Ok.view.body)) ≡ true =
    ap (λ (o : Option Datagram). option_map_or (λ d. not (is_news me (stream_of m) log d.message.body)) o true) read ∙ ignored in
    let none : not (is_news me (stream_of m) log (Evidence all)) ≡ true =
    ap (λ (b : RawBody). not (is_news me (stream_of m) log (plain b))) (sym c.in-Evidence.is) ∙ quiet in
    c.judge.ensures.no_news log all tells (subst (λ (x : List ℕ). IsEvidence x all) (sym part) of) (no _ none)

pub returns-in-Evidence-clause-unread : goal.returns-in-Evidence-clause-unread
returns-in-Evidence-clause-unread g c = λ unread.
    let read : Some (datagram c.shape-shape.result c.in-Ok.view) ≡ datagram_of c.args.self.now.session c.args.bytes.now =
    c.in-Ok.ensures.told ∙ ap (λ (shape : Shape). places.datagram_of shape c.args.bytes.now) c.shape-shape.ensures.value in
    absurd (false≢true (ap (λ (o : Option Datagram). is_none o) read ∙ unread))
