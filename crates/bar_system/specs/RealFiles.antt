-- What was appended to the files of the system.
use Rattle.std.specs.Prelude.{◌≡◌, ◌⊎◌, ℕ, List, Option, Some, slice_get, slice_set, string_bytes}
use Rattle.std.specs.Io.KnownBytes.{Appends}
use Rattle.bar_outside.specs.Disk.{Content, appended}
use Rattle.bar_told.specs.Event.{Event}
use Rattle.bar_system.specs.History.{content_of}
use Rattle.bar_system.specs.declared.outside.CreatedFile.{CreatedFile}

module _ {F : Type 0} where
  -- one of these open files, of this name, got this piece, and no other changed
  pub record GotPiece (contents : F → Option (List ℕ)) (path piece : List ℕ) (old new : List (CreatedFile F)) : Type 0 where
    pub place : ℕ
    pub before : CreatedFile F
    pub after : CreatedFile F
    pub was : slice_get old place ≡ Some before
    pub is : new ≡ slice_set old place after
    pub named : string_bytes before.path ≡ path
    pub got : Appends (contents before.held.file) (contents after.held.file) piece

  -- the history's appended piece is what the file got, or no file changed and the history's content is unchanged
  abbrev pub AddsTo : (F → Option (List ℕ)) → List ℕ → List (CreatedFile F) → List (CreatedFile F) → List Event → List Event → Type 0
  AddsTo contents path old new events events_new =
      ((new ≡ old) × ((was : Content) → content_of events_new was ≡ content_of events was))
      ⊎ ((piece : List ℕ)
      × GotPiece contents path piece old new
      × ((was : Content) → content_of events_new was ≡ appended (content_of events was) path piece))
