use Rattle.std.proofs.Common.{◌∙◌, ◌++◌, List, ℕ, ap, sym, arith, refl}
use Rattle.std.proofs.lemmas.List.{take_all}
use Rattle.std.specs.Int.{w32, to_be_bytes}
use Rattle.bar_lms.specs.Hss.{hss_public_key}
use Rattle.bar_lms.proofs.ListLemmas.{then_written}
use Rattle.bar_hss.proofs.key.HssKey.public.Goals as goal

pub returns : goal.returns
unfolding hss_public_key
returns c =
    let two = to_be_bytes w32 2 in
    sym (take_all 60 c.put_key.new.out (omega (arith, c.put_key.auto.out, c.put_number.auto.out)))
    ∙ then_written c.put_number.new.out c.put_key.new.out two c.upper_key.result 4 60 4 60 c.put_number.ensures.front c.put_key.ensures.grown refl refl
    ∙ ap (λ (k : List ℕ). two ++ k) c.upper_key.ensures
