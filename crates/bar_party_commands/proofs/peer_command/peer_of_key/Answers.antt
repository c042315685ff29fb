use Rattle.std.proofs.Common.{◌∙◌, ap, sym, None}
use Rattle.std.proofs.lemmas.Result.{err_from_is_err_and}
use Rattle.bar_core.specs.Rules.{Rules}
use Rattle.bar_node.specs.Runs.{summary_of, taken_of}
use Rattle.bar_outside.specs.Wire.{bound_by}
use Rattle.bar_peer.specs.Core.{peer_rules}
use Rattle.bar_peer.specs.Code.Memory.{member_of}
use Rattle.bar_record.specs.Recording.{head_bytes}
use Rattle.bar_wire.specs.declared.shape.Shape.{Shape}
use Rattle.bar_party_commands.specs.Code.Views.{peer_view}
use Rattle.bar_party_commands.proofs.Planned.{peer-behind-run, peer-in-run, peer-unbegun, peer-unbound, peer-unspent, placed}
use Rattle.bar_party_commands.proofs.RunFollowing.{run-memory}
use Rattle.bar_party_commands.proofs.Unprinted.{never-file, never-link}
use Rattle.bar_party_commands.proofs.peer_command.peer_of_key.Goals as goal

pub returns-in_err-text-clause-follows : goal.returns-in_err-text-clause-follows
returns-in_err-text-clause-follows g c = λ was.
    let p = err_from_is_err_and c.from_residual.result c.from_residual.ensures.1 in
    rw (p.1, p.2) (run-memory _ _ _)

pub returns-in_err-peer-clause-follows : goal.returns-in_err-peer-clause-follows
returns-in_err-peer-clause-follows g c = λ was.
    let p = err_from_is_err_and c.from_residual-in_err-peer.result c.from_residual-in_err-peer.ensures.1 in
    rw (p.1, p.2) (run-memory _ _ _)

pub returns-in_err-write_anew-clause-follows : goal.returns-in_err-write_anew-clause-follows
returns-in_err-write_anew-clause-follows g c = λ was.
    let p = err_from_is_err_and c.from_residual-in_err-write_anew.result c.from_residual-in_err-write_anew.ensures.1 in
    let s = c.args.session in
    let k = c.args.key.secrets in
    rw (p.1, p.2)
    (peer-unspent (peer_view c.args.names.now) s k c.deref.result.now c.head-head.result
    (bound_by k.party c.port.result c.args.names.now.begin_ms c.tick_ms.result) (member_of c.in_ok-peer.peer.memory.who)
    (c.deref.ensures.value ∙ c.in_ok-text.ensures)
    (c.head-head.ensures ∙ ap (λ (x : Shape). head_bytes x.id k.party) c.shape.ensures.value)
    (placed s k c.args.names.now.begin_ms _ _ c.port.ensures c.tick_ms.ensures) c.in_ok-peer.ensures.member _ _ _
    _ _ (λ w. c.in_err-write_anew.ensures w was))

pub returns-in_err-begin_files-clause-follows : goal.returns-in_err-begin_files-clause-follows
returns-in_err-begin_files-clause-follows g c = λ was.
    let p = err_from_is_err_and c.from_residual-in_err-begin_files.result c.from_residual-in_err-begin_files.ensures.1 in
    let s = c.args.session in
    let k = c.args.key.secrets in
    rw (p.1, p.2)
    (peer-unbegun (peer_view c.args.names.now) s k c.deref.result.now c.head-head.result
    (bound_by k.party c.port.result c.args.names.now.begin_ms c.tick_ms.result) (member_of c.in_ok-peer.peer.memory.who)
    (c.deref.ensures.value ∙ c.in_ok-text.ensures)
    (c.head-head.ensures ∙ ap (λ (x : Shape). head_bytes x.id k.party) c.shape.ensures.value)
    (placed s k c.args.names.now.begin_ms _ _ c.port.ensures c.tick_ms.ensures) c.in_ok-peer.ensures.member _ _ _
    _ _ (λ w. c.in_ok-write_anew.ensures w was) _ _ (λ w. c.in_err-begin_files.ensures w was))

pub returns-in_err-bind_place-clause-follows : goal.returns-in_err-bind_place-clause-follows
returns-in_err-bind_place-clause-follows g c = λ was.
    let p = err_from_is_err_and c.from_residual-in_err-bind_place.result c.from_residual-in_err-bind_place.ensures.1 in
    let s = c.args.session in
    let k = c.args.key.secrets in
    rw (p.1, p.2)
    (peer-unbound (peer_view c.args.names.now) s k c.deref.result.now c.head-head.result
    (bound_by k.party c.port.result c.args.names.now.begin_ms c.tick_ms.result) (member_of c.in_ok-peer.peer.memory.who)
    (c.deref.ensures.value ∙ c.in_ok-text.ensures)
    (c.head-head.ensures ∙ ap (λ (x : Shape). head_bytes x.id k.party) c.shape.ensures.value)
    (placed s k c.args.names.now.begin_ms _ _ c.port.ensures c.tick_ms.ensures) c.in_ok-peer.ensures.member _ _ _
    _ _ (λ w. c.in_ok-write_anew.ensures w was) _ _ (λ w. c.in_ok-begin_files.ensures w was) _ _ c.in_err-bind_place.ensures)

pub returns-in_err-summary-clause-follows : goal.returns-in_err-summary-clause-follows
returns-in_err-summary-clause-follows g c = λ was.
    let p = err_from_is_err_and c.from_residual-in_err-summary.result c.from_residual-in_err-summary.ensures.1 in
    let s = c.args.session in
    let k = c.args.key.secrets in
    rw (p.1, p.2)
    (peer-in-run (peer_view c.args.names.now) s k c.deref.result.now c.head-head.result
    (bound_by k.party c.port.result c.args.names.now.begin_ms c.tick_ms.result) (member_of c.in_ok-peer.peer.memory.who)
    (c.deref.ensures.value ∙ c.in_ok-text.ensures)
    (c.head-head.ensures ∙ ap (λ (x : Shape). head_bytes x.id k.party) c.shape.ensures.value)
    (placed s k c.args.names.now.begin_ms _ _ c.port.ensures c.tick_ms.ensures) c.in_ok-peer.ensures.member _ _ _
    _ _ (λ w. c.in_ok-write_anew.ensures w was) _ _ (λ w. c.in_ok-begin_files.ensures w was) _ _ c.in_ok-bind_place.ensures _ _ _ _
    (c.in_err-summary.ensures.ran was))

pub returns-clause-follows : goal.returns-clause-follows
returns-clause-follows g c = λ was.
    let s = c.args.session in
    let k = c.args.key.secrets in
    let ran = (c.in_ok-summary.ensures.ran was) in
    let same = c.in_ok-summary.ensures.rules in
    let inputs = taken_of (peer_rules (member_of c.in_ok-peer.peer.memory.who)) ran.given in
    peer-behind-run (peer_view c.args.names.now) s k c.deref.result.now c.head-head.result
    (bound_by k.party c.port.result c.args.names.now.begin_ms c.tick_ms.result) (member_of c.in_ok-peer.peer.memory.who)
    (c.deref.ensures.value ∙ c.in_ok-text.ensures)
    (c.head-head.ensures ∙ ap (λ (x : Shape). head_bytes x.id k.party) c.shape.ensures.value)
    (placed s k c.args.names.now.begin_ms _ _ c.port.ensures c.tick_ms.ensures) c.in_ok-peer.ensures.member _ _ _
    _ _ (λ w.
    c.in_ok-write_anew.ensures w was) _ _ (λ w. c.in_ok-begin_files.ensures w was) _ _ c.in_ok-bind_place.ensures _ _ _ _ ran _ _ _ same
    (c.show_summary.ensures inputs ran.stands (ran.summary ∙ ap (λ (r : Rules). summary_of r inputs) (sym same)))

pub returns-clause-unprinted : goal.returns-clause-unprinted
returns-clause-unprinted g c = λ e.
    let ran = (c.in_ok-summary.ensures.ran (λ path. None)) in
    let inputs = taken_of (peer_rules (member_of c.in_ok-peer.peer.memory.who)) ran.given in
    let is = ran.summary ∙ ap (λ (r : Rules). summary_of r inputs) (sym c.in_ok-summary.ensures.rules) in
    absurd (never-file _ _ _ _ (c.show_summary.ensures inputs ran.stands is) e)

pub returns-clause-quiet : goal.returns-clause-quiet
returns-clause-quiet g c = λ e.
    let ran = (c.in_ok-summary.ensures.ran (λ path. None)) in
    let inputs = taken_of (peer_rules (member_of c.in_ok-peer.peer.memory.who)) ran.given in
    let is = ran.summary ∙ ap (λ (r : Rules). summary_of r inputs) (sym c.in_ok-summary.ensures.rules) in
    absurd (never-link _ _ _ _ (c.show_summary.ensures inputs ran.stands is) e)
