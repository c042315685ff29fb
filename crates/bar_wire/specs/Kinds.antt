-- The kinds of datagrams and their codes.
use Rattle.std.specs.Prelude.{ℕ, Bool, true, false, Option, Some, None, ◌==◌, if◌then◌else◌}
use Rattle.bar_wire.specs.declared.kind.Kind.{Kind}
use Rattle.bar_wire.specs.declared.kind.Kind.TheVariants.{Manifest, Block, Request, Response, Divulge, Query, Reply, Case, KeyReq, Key, Evidence, Evict}

abbrev pub code_of : Kind → ℕ
code_of Manifest = 1
code_of Block = 2
code_of Request = 3
code_of Response = 4
code_of Divulge = 5
code_of Query = 6
code_of Reply = 7
code_of Case = 8
code_of KeyReq = 9
code_of Key = 10
code_of Evidence = 11
code_of Evict = 12

abbrev pub kind_at : ℕ → Option Kind
kind_at code =
    if code == 1 then Some Manifest
    else if code == 2 then Some Block
    else if code == 3 then Some Request
    else if code == 4 then Some Response
    else if code == 5 then Some Divulge
    else if code == 6 then Some Query
    else if code == 7 then Some Reply
    else if code == 8 then Some Case
    else if code == 9 then Some KeyReq
    else if code == 10 then Some Key
    else if code == 11 then Some Evidence
    else if code == 12 then Some Evict
    else None

-- whether datagrams of this kind have a signature
abbrev pub is_signed_kind : Kind → Bool
is_signed_kind Manifest = true
is_signed_kind Block = false
is_signed_kind Request = true
is_signed_kind Response = true
is_signed_kind Divulge = false
is_signed_kind Query = true
is_signed_kind Reply = true
is_signed_kind Case = true
is_signed_kind KeyReq = false
is_signed_kind Key = true
is_signed_kind Evidence = false
is_signed_kind Evict = true
