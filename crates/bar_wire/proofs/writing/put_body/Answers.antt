use Rattle.std.proofs.Common.{sym, subst}
use Rattle.std.specs.List.{concat}
use Rattle.bar_wire.specs.declared.view.Body.{Body as RawBody}
use Rattle.bar_wire.specs.Grammar.{pieces}
use Rattle.bar_wire.specs.Code.Views.{plain, AreWindows}
use Rattle.bar_bytes.specs.Code.Putting.{Appends}
use Rattle.bar_wire.proofs.Writes.{writes_then, writes_last}
use Rattle.bar_wire.proofs.writing.put_body.Goals as goal

pub returns-in-Block : goal.returns-in-Block
returns-in-Block c =
    let s = c.args.shape.now in
    subst (λ (b : RawBody). Appends c.args.out.now c.args.at (concat (pieces s (plain b))) c.put.new.out c.put.result) (sym c.in-Block.is)
    (writes_then c.put_u32-at.ensures.writes (writes_then c.put_u8-at.ensures.writes (writes_last c.put.ensures)))

pub returns-in-Request : goal.returns-in-Request
returns-in-Request c =
    let s = c.args.shape.now in
    subst (λ (b : RawBody). Appends c.args.out.now c.args.at (concat (pieces s (plain b))) c.put-in-Request.new.out c.put-in-Request.result) (sym c.in-Request.is)
    (writes_then c.put_u32-at-in-Request.ensures.writes (writes_then c.put-at.ensures (writes_last c.put-in-Request.ensures)))

pub returns-in-Response : goal.returns-in-Response
returns-in-Response c =
    let s = c.args.shape.now in
    let windows = subst (λ (b : RawBody). AreWindows s b) c.in-Response.is c.requires.body.windows in
    subst (λ (b : RawBody). Appends c.args.out.now c.args.at (concat (pieces s (plain b))) c.put_window.new.out c.put_window.result) (sym c.in-Response.is)
    (writes_then c.put_u32-at-in-Response.ensures.writes (writes_last (c.put_window.ensures.writes c.in-Response.round windows)))

pub returns-in-Divulge : goal.returns-in-Divulge
returns-in-Divulge c =
    let s = c.args.shape.now in
    let windows = subst (λ (b : RawBody). AreWindows s b) c.in-Divulge.is c.requires.body.windows in
    subst (λ (b : RawBody). Appends c.args.out.now c.args.at (concat (pieces s (plain b))) c.put_window-in-Divulge.new.out c.put_window-in-Divulge.result) (sym c.in-Divulge.is)
    (writes_then c.put_u32-at-in-Divulge.ensures.writes (writes_then c.put-at-in-Divulge.ensures (writes_last (c.put_window-in-Divulge.ensures.writes c.in-Divulge.round windows))))

pub returns-in-Query : goal.returns-in-Query
returns-in-Query c =
    let s = c.args.shape.now in
    let windows = subst (λ (b : RawBody). AreWindows s b) c.in-Query.is c.requires.body.windows in
    subst (λ (b : RawBody). Appends c.args.out.now c.args.at (concat (pieces s (plain b))) c.put_window-in-Query.new.out c.put_window-in-Query.result) (sym c.in-Query.is)
    (writes_then c.put_u32-at-in-Query.ensures.writes (writes_then c.put-at-in-Query.ensures (writes_then (c.put_window-at.ensures.writes c.in-Query.round windows.0) (writes_last (c.put_window-in-Query.ensures.writes c.in-Query.round windows.1)))))

pub returns-in-Reply : goal.returns-in-Reply
returns-in-Reply c =
    let s = c.args.shape.now in
    let windows = subst (λ (b : RawBody). AreWindows s b) c.in-Reply.is c.requires.body.windows in
    subst (λ (b : RawBody). Appends c.args.out.now c.args.at (concat (pieces s (plain b))) c.put_u8.new.out c.put_u8.result) (sym c.in-Reply.is)
    (writes_then c.put_u32-at-in-Reply.ensures.writes (writes_then (c.put_window-at-in-Reply.ensures.writes c.in-Reply.round windows.0) (writes_then (c.put_window-at-in-Reply-2.ensures.writes c.in-Reply.round windows.1) (writes_last c.put_u8.ensures.writes))))

pub returns-in-Case : goal.returns-in-Case
returns-in-Case c =
    let s = c.args.shape.now in
    let windows = subst (λ (b : RawBody). AreWindows s b) c.in-Case.is c.requires.body.windows in
    subst (λ (b : RawBody). Appends c.args.out.now c.args.at (concat (pieces s (plain b))) c.put-in-Case.new.out c.put-in-Case.result) (sym c.in-Case.is)
    (writes_then c.put_u32-at-in-Case.ensures.writes (writes_then c.put_side-at.ensures.writes (writes_then c.put_u8-at-in-Case.ensures.writes (writes_then c.put_u8-at-in-Case-2.ensures.writes (writes_then (c.put_terms-at.ensures.writes c.in-Case.round windows) (writes_last c.put-in-Case.ensures))))))

pub returns-in-KeyReq : goal.returns-in-KeyReq
returns-in-KeyReq c =
    let s = c.args.shape.now in
    subst (λ (b : RawBody). Appends c.args.out.now c.args.at (concat (pieces s (plain b))) c.put_side.new.out c.put_side.result) (sym c.in-KeyReq.is)
    (writes_then c.put_u32-at-in-KeyReq.ensures.writes c.put_side.ensures.writes)

pub returns-in-Key : goal.returns-in-Key
returns-in-Key c =
    let s = c.args.shape.now in
    subst (λ (b : RawBody). Appends c.args.out.now c.args.at (concat (pieces s (plain b))) c.put-in-Key.new.out c.put-in-Key.result) (sym c.in-Key.is)
    (writes_then c.put_u32-at-in-Key.ensures.writes (writes_then c.put_side-at-in-Key.ensures.writes (writes_last c.put-in-Key.ensures)))
