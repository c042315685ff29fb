use Rattle.std.proofs.Common.{◌≡◌, ◌++◌, ◌∷◌, [], IsTrue, string_bytes, rules}
use Rattle.std.proofs.lemmas.List.Elements.{All-push}
use Rattle.bar_system.proofs.outside.create_file.Goals as goal

pub returns-clause-made : goal.returns-clause-made
returns-clause-made g c = λ here all this.
    let items : c.push.new.self.items ≡ c.args.created.now.items ++ record { path = c.in_ok-name.name; held = c.in_ok-held.held } ∷ [] = search rules in
    let there : IsTrue (here (string_bytes c.in_ok-name.name)) = rw c.in_ok-name.ensures.ok this in
    rw items (All-push (λ f. IsTrue (here (string_bytes f.path))) _ _ all there)
