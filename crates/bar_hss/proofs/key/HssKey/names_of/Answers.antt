use Rattle.std.proofs.Common.{◌∙◌, ap, sym, take, List, ℕ}
use Rattle.bar_lms.specs.Tree.{private_by}
use Rattle.bar_lms.specs.Hss.{HssSecret, lower_of}
use Rattle.bar_hss.proofs.key.HssKey.names_of.Goals as goal

pub returns : goal.returns
unfolding lower_of
returns c =
    let name = c.name_of-ident.ensures ∙ ap (λ (x : List ℕ). take 16 x) c.tagged_number.ensures in
    ap (λ (s : HssSecret). private_by s.low c.tagged_number-seed.result c.name_of-ident.result) (sym c.self.view_is)
    ∙ (λ i. private_by c.self.inside.low (c.tagged_number-seed.ensures i) (name i))
    ∙ ap (λ (s : HssSecret). lower_of s c.args.j) c.self.view_is
