-- What `clap` accepts, computed for literal arguments.
use Rattle.std.proofs.Common.{◌≡◌, refl, [], ◌∷◌, codes}
use Rattle.std.specs.Prelude.{Some, None}
use Rattle.clap.proofs.OnLiterals.{clap_on_literals}
use Rattle.bar_arguments.specs.Options.{is_taken, options_of, value_of, values_of}
use Rattle.bar_arguments.specs.Worked.{names}

-- in any order, in both forms; the values are in the order of the names
pub pairs-line : values_of names (codes "--found" ∷ codes "f" ∷ codes "--key=k" ∷ []) ≡ Some (codes "k" ∷ codes "f" ∷ [])
unfolding clap_on_literals is_taken value_of options_of names
pairs-line = refl

-- an empty value
pub empty-line : values_of names (codes "--found" ∷ [] ∷ codes "--key=" ∷ []) ≡ Some ([] ∷ [] ∷ [])
unfolding clap_on_literals is_taken value_of options_of names
empty-line = refl

-- a single dash is a value
pub dash-line : values_of names (codes "--found" ∷ codes "-" ∷ codes "--key=k" ∷ []) ≡ Some (codes "k" ∷ codes "-" ∷ [])
unfolding clap_on_literals is_taken value_of options_of names
dash-line = refl

-- any other argument that begins with a dash isn't a value, except after an equals sign
pub dashed-line : values_of names (codes "--found" ∷ codes "-f" ∷ codes "--key=k" ∷ []) ≡ None
unfolding clap_on_literals is_taken value_of options_of names
dashed-line = refl

pub dashes-line : values_of names (codes "--found" ∷ codes "--" ∷ codes "f" ∷ codes "--key=k" ∷ []) ≡ None
unfolding clap_on_literals is_taken value_of options_of names
dashes-line = refl

pub equals-line : values_of names (codes "--found=--key" ∷ codes "--key=a=b" ∷ []) ≡ Some (codes "a=b" ∷ codes "--key" ∷ [])
unfolding clap_on_literals is_taken value_of options_of names
equals-line = refl

-- an option that occurs twice, a missing option, a stray argument, help, an abbreviated name
pub twice-line : values_of names (codes "--found=f" ∷ codes "--key=k" ∷ codes "--key=k" ∷ []) ≡ None
unfolding clap_on_literals is_taken value_of options_of names
twice-line = refl

pub missing-line : values_of names (codes "--found=f" ∷ []) ≡ None
unfolding clap_on_literals is_taken value_of options_of names
missing-line = refl

pub stray-line : values_of names (codes "--found=f" ∷ codes "x" ∷ codes "--key=k" ∷ []) ≡ None
unfolding clap_on_literals is_taken value_of options_of names
stray-line = refl

pub help-line : values_of names (codes "--found=f" ∷ codes "--key=k" ∷ codes "--help" ∷ []) ≡ None
unfolding clap_on_literals is_taken value_of options_of names
help-line = refl

pub short-line : values_of names (codes "--found=f" ∷ codes "--ke=k" ∷ []) ≡ None
unfolding clap_on_literals is_taken value_of options_of names
short-line = refl

-- a final `--` changes nothing
pub end-line : values_of names (codes "--found=f" ∷ codes "--key=k" ∷ codes "--" ∷ []) ≡ Some (codes "k" ∷ codes "f" ∷ [])
unfolding clap_on_literals is_taken value_of options_of names
end-line = refl
