use Rattle.std.proofs.Common.{rules, ◌≡◌, ◌<◌, Some, IsSomeAnd, length, slice_get, string_bytes, refl}
use Rattle.std.proofs.lemmas.Option.{slice_get_read}
use Rattle.bar_system.proofs.outside.append_file.Goals as goal

pub returns-clause-exact : goal.returns-clause-exact
returns-clause-exact g c =
    let files = c.args.created.now.items in
    let place = c.in_ok-place.place in
    let other = c.in_ok-other.other.now in
    let within : place < length files = search rules in
    let there : slice_get files place ≡ Some other = slice_get_read files (length files) place other refl within c.in_ok-other.ensures.value in
    let named : IsSomeAnd (slice_get files place) (λ f. string_bytes f.path ≡ c.args.path.now) = search rules in
    record {
      place = place;
      before = other;
      after = record { path = other.path; held = c.add_bytes.new.held };
      was = there;
      is = refl;
      named = rw there at named;
      got = c.add_bytes.ensures.exact;
    }
