-- A run whose arguments aren't text.
use Rattle.std.specs.Prelude.{◌≡◌}
use Rattle.bar_outside.specs.Plan.{Outside}
use Rattle.bar_outside.specs.Code.Children.{Children}

-- no file was read or changed, nothing printed, nothing done over the link and no child started
pub record NothingHappened (old new : Outside) (kids kids_new : Children) : Type 0 where
  pub files : new.files ≡ old.files
  pub out : new.out ≡ old.out
  pub wire : new.wire ≡ old.wire
  pub children : kids_new ≡ kids
