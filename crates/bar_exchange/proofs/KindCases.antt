-- Case analysis on the kinds of datagrams.
use Rattle.std.proofs.Common.{◌≡◌, ◌∙◌, true, refl, sym, ap}
use Rattle.std.proofs.lemmas.Bool.{eqb-true, eq-eqb}
use Rattle.std.proofs.lemmas.Option.{same_Some}
use Rattle.bar_wire.specs.Kinds.{code_of, kind_at}
use Rattle.bar_wire.specs.declared.kind.Kind.{Kind}
use Rattle.bar_wire.specs.declared.kind.Kind.TheVariants as kinds
use Rattle.bar_wire.proofs.Head.{kind_again}
use Rattle.bar_ledger.specs.Code.Hearing.{same_datagram}

-- a property that holds for each of the twelve kinds holds for every kind
pub each_kind : (P : Kind → Type 0) → P kinds.Manifest → P kinds.Block → P kinds.Request → P kinds.Response → P kinds.Divulge → P kinds.Query → P kinds.Reply
    → P kinds.Case → P kinds.KeyReq → P kinds.Key → P kinds.Evidence → P kinds.Evict → (kind : Kind) → P kind
each_kind P a b c d e f g h i j k l kinds.Manifest = a
each_kind P a b c d e f g h i j k l kinds.Block = b
each_kind P a b c d e f g h i j k l kinds.Request = c
each_kind P a b c d e f g h i j k l kinds.Response = d
each_kind P a b c d e f g h i j k l kinds.Divulge = e
each_kind P a b c d e f g h i j k l kinds.Query = f
each_kind P a b c d e f g h i j k l kinds.Reply = g
each_kind P a b c d e f g h i j k l kinds.Case = h
each_kind P a b c d e f g h i j k l kinds.KeyReq = i
each_kind P a b c d e f g h i j k l kinds.Key = j
each_kind P a b c d e f g h i j k l kinds.Evidence = k
each_kind P a b c d e f g h i j k l kinds.Evict = l

pub one_kind : (a b : Kind) → same_datagram a b ≡ true → a ≡ b
one_kind a b e = same_Some a b (sym (kind_again a) ∙ ap kind_at (eqb-true (code_of a) (code_of b) e) ∙ kind_again b)

pub same_itself : (a : Kind) → same_datagram a a ≡ true
same_itself a = eq-eqb (code_of a) (code_of a) refl
