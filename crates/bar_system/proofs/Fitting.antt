-- Files that held at the start what was read from them fit the history.
use Rattle.std.proofs.Common.{◌≡◌, ◌≤◌, ◌∷◌, ◌∙◌, ℕ, Bool, List, [], Some, None, IsTrue, length, nat_le, true, false, refl, sym, ap, inl, inr, arith, if◌then◌else◌}
use Rattle.std.specs.List.{AllByRecursion}
use Rattle.std.specs.Option.{option_and_then}
use Rattle.std.specs.Str.{bytes_eq}
use Rattle.std.proofs.lemmas.Bool.{cases_Bool, and_from}
use Rattle.std.proofs.lemmas.Bool.Decides.{nat_tests}
use Rattle.std.proofs.lemmas.Slice.Eq.{bytes_eq-Decides}
use Rattle.bar_outside.specs.Disk.{Content, largest_file, put_at, readable}
use Rattle.bar_outside.proofs.Contents.{appended-other, put_at-other, put_at-same}
use Rattle.bar_told.specs.Event.{Event, wrote, bound, ticked, came, sent, started, waited, read, made, added, unread, unmade, unadded}
use Rattle.bar_system.specs.History.{content_by, content_of, fits_of, gives}
use Rattle.bar_system.specs.Fitting.{AgreesWith, AreReadAlike, SomeContentFits}

-- ---- what was read from each file

abbrev found : List Event → Content
found [] = λ path. None
found (read path bytes ∷ before) = put_at (found before) path bytes
found (_ ∷ before) = found before

-- the content holds what this event read
abbrev HoldsRead : Content → Event → Type 0
HoldsRead was (read path bytes) = was path ≡ Some bytes
HoldsRead was _ = Unit {0}

-- If an event agrees with a read, adding the read's bytes to the content keeps what the event read.
put-one : (was : Content) (path bytes : List ℕ) (event : Event) → AgreesWith path bytes event → HoldsRead was event →
    HoldsRead (put_at was path bytes) event
put-one was path bytes (read name others) agrees holds = elim (cases_Bool (bytes_eq name path)) [
  | inl same ↦
      let e = (bytes_eq-Decides name path).0 same in
      ap (put_at was path bytes) e ∙ put_at-same was path bytes ∙ ap Some (sym (agrees e))
  | inr other ↦ put_at-other was path bytes name (λ e. absurd (true-false (sym ((bytes_eq-Decides name path).1 e) ∙ other))) ∙ holds
]
  where
    true-false : true ≡ false → ⊥
    true-false e = cc
put-one was path bytes (wrote written) agrees holds = tt
put-one was path bytes (bound me port begin_ms tick_ms) agrees holds = tt
put-one was path bytes ticked agrees holds = tt
put-one was path bytes (came datagram) agrees holds = tt
put-one was path bytes (sent to datagram) agrees holds = tt
put-one was path bytes (started words child) agrees holds = tt
put-one was path bytes (waited child status) agrees holds = tt
put-one was path bytes (unread name) agrees holds = tt
put-one was path bytes (unmade name) agrees holds = tt
put-one was path bytes (unadded name) agrees holds = tt
put-one was path bytes (made name) agrees holds = tt
put-one was path bytes (added name others) agrees holds = tt

put-all : (was : Content) (path bytes : List ℕ) (events : List Event) → AllByRecursion (AgreesWith path bytes) events →
    AllByRecursion (HoldsRead was) events → AllByRecursion (HoldsRead (put_at was path bytes)) events
put-all was path bytes [] agree hold = tt
put-all was path bytes (event ∷ before) agree hold =
    (put-one was path bytes event agree.0 hold.0, put-all was path bytes before agree.1 hold.1)

holds-found : (events : List Event) → AreReadAlike events → AllByRecursion (HoldsRead (found events)) events
holds-found [] alike = tt
holds-found (read path bytes ∷ before) alike =
    (put_at-same (found before) path bytes, put-all (found before) path bytes before alike.0.1 (holds-found before alike.1))
holds-found (wrote written ∷ before) alike = (tt, holds-found before alike.1)
holds-found (bound me port begin_ms tick_ms ∷ before) alike = (tt, holds-found before alike.1)
holds-found (ticked ∷ before) alike = (tt, holds-found before alike.1)
holds-found (came datagram ∷ before) alike = (tt, holds-found before alike.1)
holds-found (sent to datagram ∷ before) alike = (tt, holds-found before alike.1)
holds-found (started words child ∷ before) alike = (tt, holds-found before alike.1)
holds-found (waited child status ∷ before) alike = (tt, holds-found before alike.1)
holds-found (unread name ∷ before) alike = (tt, holds-found before alike.1)
holds-found (unmade name ∷ before) alike = (tt, holds-found before alike.1)
holds-found (unadded name ∷ before) alike = (tt, holds-found before alike.1)
holds-found (made name ∷ before) alike = (tt, holds-found before alike.1)
holds-found (added name others ∷ before) alike = (tt, holds-found before alike.1)

-- ---- a file that wasn't written is unchanged

kept-one : (content : Content) (path bytes : List ℕ) (event : Event) → AgreesWith path bytes event →
    content_by event content path ≡ content path
kept-one content path bytes (made name) agrees = put_at-other content name [] path (λ e. agrees (sym e))
kept-one content path bytes (added name others) agrees = appended-other content name others path (λ e. agrees (sym e))
kept-one content path bytes (wrote written) agrees = refl
kept-one content path bytes (bound me port begin_ms tick_ms) agrees = refl
kept-one content path bytes ticked agrees = refl
kept-one content path bytes (came datagram) agrees = refl
kept-one content path bytes (sent to datagram) agrees = refl
kept-one content path bytes (started words child) agrees = refl
kept-one content path bytes (waited child status) agrees = refl
kept-one content path bytes (unread name) agrees = refl
kept-one content path bytes (unmade name) agrees = refl
kept-one content path bytes (unadded name) agrees = refl
kept-one content path bytes (read name others) agrees = refl

kept-all : (was : Content) (path bytes : List ℕ) (events : List Event) → AllByRecursion (AgreesWith path bytes) events →
    content_of events was path ≡ was path
kept-all was path bytes [] agree = refl
kept-all was path bytes (event ∷ before) agree =
    kept-one (content_of before was) path bytes event agree.0 ∙ kept-all was path bytes before agree.1

-- ---- each read gave what the file holds

few : (n : ℕ) → n ≤ largest_file → nat_le n largest_file ≡ true
few n h = grind (arith, nat_tests)

gives-same : (content : Content) (path bytes : List ℕ) → content path ≡ Some bytes → length bytes ≤ largest_file →
    gives (readable content path) bytes ≡ true
gives-same content path bytes e small =
    ap (λ o. gives (option_and_then (λ held. if nat_le (length held) largest_file then Some held else None) o) bytes) e
    ∙ ap (λ (b : Bool). gives (if b then Some bytes else None) bytes) (few (length bytes) small)
    ∙ (bytes_eq-Decides bytes bytes).1 refl

fits : (was : Content) (events : List Event) → AreReadAlike events → AllByRecursion (HoldsRead was) events → IsTrue (fits_of events was)
fits was [] alike hold = refl
fits was (read path bytes ∷ before) alike hold =
    and_from (gives (readable (content_of before was) path) bytes) (fits_of before was)
    (gives-same (content_of before was) path bytes (kept-all was path bytes before alike.0.1 ∙ hold.0) alike.0.0)
    (fits was before alike.1 hold.1)
fits was (wrote written ∷ before) alike hold = fits was before alike.1 hold.1
fits was (bound me port begin_ms tick_ms ∷ before) alike hold = fits was before alike.1 hold.1
fits was (ticked ∷ before) alike hold = fits was before alike.1 hold.1
fits was (came datagram ∷ before) alike hold = fits was before alike.1 hold.1
fits was (sent to datagram ∷ before) alike hold = fits was before alike.1 hold.1
fits was (started words child ∷ before) alike hold = fits was before alike.1 hold.1
fits was (waited child status ∷ before) alike hold = fits was before alike.1 hold.1
fits was (unread name ∷ before) alike hold = fits was before alike.1 hold.1
fits was (unmade name ∷ before) alike hold = fits was before alike.1 hold.1
fits was (unadded name ∷ before) alike hold = fits was before alike.1 hold.1
fits was (made name ∷ before) alike hold = fits was before alike.1 hold.1
fits was (added name others ∷ before) alike hold = fits was before alike.1 hold.1

pub some-fits : SomeContentFits
some-fits events alike = (found events, fits (found events) events alike (holds-found events alike))
