-- The terms of an exchange that this member answers.
use Rattle.std.specs.Prelude.{◌≡◌}
use Rattle.bar_window.specs.declared.exchange.Exchange.{Exchange}
use Rattle.bar_window.specs.declared.exchange.XKind.{XKind}
use Rattle.bar_window.specs.declared.exchange.XKind.TheVariants.{Balanced, Push}
use Rattle.bar_window.specs.declared.terms.Terms.{Terms}
use Rattle.bar_window.specs.Terms.{plain_terms}
use Rattle.bar_wire.specs.Bodies.{history_in, reply_in}
use Rattle.bar_wire.specs.Datagram.{Datagram}
use Rattle.bar_wire.specs.declared.kind.Kind.{Kind}
use Rattle.bar_wire.specs.declared.kind.Kind.TheVariants as kinds
use Rattle.bar_wire.specs.Code.Views.{AreTermWindows}
use Rattle.bar_rules.specs.Member.{Member}
use Rattle.bar_ledger.specs.Code.Lookups.{commit_of, history_of, offer_of, reply_of}
use Rattle.bar_ledger.specs.Code.Recalls.{kind_of_terms}

-- the kind of datagram from which the responder knows the initiator's part of the terms
abbrev pub telling_kind : XKind → Kind
telling_kind Balanced = kinds.Divulge
telling_kind Push = kinds.Query

-- The terms are of the kind and round of the exchange. They contain what the RESPONSE or REPLY says, and the initiator's part is unchanged.
pub record IsAnsweredWith (me : Member) (d : Datagram) (x : Exchange) (before after : Terms) : Type 0 where
  pub form : kind_of_terms (plain_terms after) ≡ x.kind
  pub windows : AreTermWindows me.session.shape x.round after
  pub commit : commit_of (plain_terms after) ≡ commit_of (plain_terms before)
  pub offer : offer_of (plain_terms after) ≡ offer_of (plain_terms before)
  pub history : history_in d.message.body ≡ history_of (plain_terms after)
  pub reply : reply_in d.message.body ≡ reply_of (plain_terms after)
