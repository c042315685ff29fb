-- What a responder checks in an offer, and how it answers.
use Rattle.std.specs.Prelude.{◌≡◌, ℕ, ◌-◌, ◌&&◌, Bool, List, length}
use Rattle.bar_window.specs.declared.update.UpdateId.{UpdateId}
use Rattle.bar_window.specs.Code.Window.{members}
use Rattle.bar_terms.specs.Table.{is_within}
use Rattle.bar_terms.specs.Terms.{offer_ok}
use Rattle.bar_terms.specs.declared.push.PushAnswer.{PushAnswer}
use Rattle.bar_rules.specs.Member.{Member}
use Rattle.bar_rules.specs.Peer.Choices.{wanted_of, given_of}
use Rattle.bar_rules.specs.Peer.Knowledge.{Knowledge, table_of}

-- The answer wants and gives what the rules require for an offer, given the knowledge, with junk for the rest.
pub record IsAnswerTo (me : Member) (k : Knowledge) (young aged : List UpdateId) (answer : PushAnswer) : Type 0 where
  pub want : members answer.want ≡ wanted_of me k young
  pub give : members answer.give ≡ given_of me k young aged
  pub junk : answer.junk ≡ length (wanted_of me k young) - length (given_of me k young aged)

-- whether an offer is valid under the table, and each of its updates has a digest there
abbrev pub is_offer_within : Member → Knowledge → ℕ → List UpdateId → List UpdateId → Bool
is_offer_within me k round young aged =
    offer_ok me.session.cap me.session.shape.life (table_of k) round young aged
    && (is_within (table_of k) young && is_within (table_of k) aged)
