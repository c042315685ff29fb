use Rattle.std.proofs.Common.{◌≡◌, ◌∙◌, ℕ, List, length, ap, subst, sym}
use Rattle.std.specs.Prelude.{IfOk}
use Rattle.std.proofs.lemmas.List.{length-map}
use Rattle.bar_seeds.specs.declared.secrets.Secrets.{Secrets}
use Rattle.bar_world.specs.Keys.{key_by, keys_by}
use Rattle.bar_world.specs.Made.{session_by}
use Rattle.bar_rules.specs.World.World.{IsSetup}
use Rattle.bar_world.specs.Code.Setups.{AreOfParties, setup_of}
use Rattle.bar_world.proofs.KeyFiles.{held-is}
use Rattle.bar_party_tests.proofs.world_tests.session_of.Goals as goal

pub session-requires-clause-count : goal.session-requires-clause-count
session-requires-clause-count c =
    ap length (c.deref.ensures.value ∙ c.in_ok-keys.ensures)
    ∙ length-map c.args.secrets.now (key_by c.args.numbers.params c.args.shape.rounds) ∙ c.requires.count

pub session-requires-clause-made : goal.session-requires-clause-made
session-requires-clause-made c =
    let made = c.deref.ensures.value ∙ c.in_ok-keys.ensures in
    made
    ∙ ap (keys_by c.args.numbers.params c.args.shape.rounds)
    (sym (held-is c.args.numbers.params c.args.shape.rounds c.args.secrets.now _ made))

pub session-requires-clause-parties : goal.session-requires-clause-parties
session-requires-clause-parties c =
    subst (λ (held : List Secrets). AreOfParties (session_by c.args.shape c.args.numbers held) held)
    (sym (held-is c.args.numbers.params c.args.shape.rounds c.args.secrets.now _ (c.deref.ensures.value ∙ c.in_ok-keys.ensures)))
    c.requires.parties

pub returns-clause-value : goal.returns-clause-value
returns-clause-value c =
    subst (λ (held : List Secrets). IfOk c.session.result (λ s. s ≡ session_by c.args.shape c.args.numbers held))
    (held-is c.args.numbers.params c.args.shape.rounds c.args.secrets.now _ (c.deref.ensures.value ∙ c.in_ok-keys.ensures))
    c.session.ensures.value

pub returns-clause-setup : goal.returns-clause-setup
returns-clause-setup c =
    subst (λ (held : List Secrets). IfOk c.session.result (λ s. (stream : List ℕ) → IsSetup (setup_of s held stream)))
    (held-is c.args.numbers.params c.args.shape.rounds c.args.secrets.now _ (c.deref.ensures.value ∙ c.in_ok-keys.ensures))
    c.session.ensures.setup
