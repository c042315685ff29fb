use Rattle.std.proofs.Common.{rules, ◌≡◌, ◌<◌, ◌∙◌, length, arith, sym}
use Rattle.std.proofs.lemmas.Option.{same_Some}
use Rattle.std.proofs.lemmas.List.Elements.{All-set}
use Rattle.bar_lms.specs.Code.Remembered.{AreValuesOf}
use Rattle.bar_lms.proofs.RememberedLemmas.{length-chain_values, values_at}
use Rattle.bar_lms.proofs.remembered.Remembered.keep.Goals as goal

pub keep-requires : goal.keep-requires
keep-requires c =
    let same : c.self.inside.ots ≡ c.args.key.now.params.ots = search rules in
    let inside : c.in-Some.place < length c.self.inside.places.items = search rules in
    let are : AreValuesOf c.self.inside.ots c.index_mut.result.now =
    values_at c.self.inside.ots c.self.inside.places.items c.in-Some.place c.index_mut.result.now c.index_mut.ensures.value inside c.self.invariant
    in
    rw (are.size, same, c.requires, length-chain_values c.args.key.now c.args.q c.args.hash.now) (omega arith)

pub invariant_of-self : goal.invariant_of-self
invariant_of-self c =
    let inside : c.in-Some.place < length c.self.inside.places.items = search rules in
    let were : AreValuesOf c.self.inside.ots c.index_mut.result.now =
    values_at c.self.inside.ots c.self.inside.places.items c.in-Some.place c.index_mut.result.now c.index_mut.ensures.value inside c.self.invariant
    in
    let are : AreValuesOf c.self.inside.ots c.keep.new.self =
    rw c.keep.ensures (record { size = were.size; kept = λ bytes kept. sym (same_Some c.args.values.now bytes kept) ∙ c.requires })
    in
    All-set (AreValuesOf c.self.inside.ots) c.self.inside.places.items c.in-Some.place c.keep.new.self are c.self.invariant
