-- Briefcases, keys and choices of partners, as the code reads them from a view.
use Rattle.std.specs.Prelude.{ℕ, List, [], ◌∷◌, Option, Some, None, IfSome}
use Rattle.std.specs.Borrow.{Bor}
use Rattle.bar_window.specs.Terms.{plain_terms}
use Rattle.bar_wire.specs.declared.shape.Shape.{Shape}
use Rattle.bar_wire.specs.declared.view.View.{View}
use Rattle.bar_wire.specs.Bodies.{Choice}
use Rattle.bar_wire.specs.Datagram.{Body, Datagram, Briefcase, KeyGiven}
use Rattle.bar_wire.specs.Code.Views.{IsView, datagram}
use Rattle.bar_wire.specs.Bodies.{choice_round}
use Rattle.bar_judge.specs.declared.briefcase.Briefcase.{Briefcase as CodeBriefcase}
use Rattle.bar_judge.specs.declared.given_key.GivenKey.{GivenKey as CodeKey}
use Rattle.bar_judge.specs.declared.choice.Choice.{Choice as CodeChoice}
use Rattle.bar_judge.specs.declared.pair.Pair.{Pair}

abbrev pub plain_briefcase : CodeBriefcase → Briefcase
plain_briefcase c = record {
  round = c.round;
  kind = c.kind;
  role = c.role;
  updates = c.updates;
  junk = c.junk;
  terms = plain_terms c.terms;
  cipher = c.cipher.now;
}

abbrev pub plain_key : CodeKey → KeyGiven
plain_key k = record { round = k.round; kind = k.kind; role = k.role; key = k.key.now }

abbrev pub plain_choice : CodeChoice → Choice
plain_choice a = record { kind = a.kind; round = a.round; seed = a.seed.now }

-- The view was read from some bytes.
pub record IsRead (s : Shape) (v : View) : Type 0 where
  pub bytes : List ℕ
  pub view : IsView s bytes v

-- the datagrams of one or two views
abbrev pub datagrams : Shape → View → Option (Bor View) → List Datagram
datagrams s one None = datagram s one ∷ []
datagrams s one (Some two) = datagram s one ∷ datagram s two.now ∷ []

-- the datagrams of a pair, of which the second may be missing
abbrev pub with_second : Shape → View → Option View → List Datagram
with_second s one None = datagram s one ∷ []
with_second s one (Some two) = datagram s one ∷ datagram s two ∷ []

abbrev pub datagrams_in : Shape → Pair → List Datagram
datagrams_in s p = with_second s p.one p.two

-- Both views of a pair were read.
pub record AreRead (s : Shape) (p : Pair) : Type 0 where
  pub one : IsRead s p.one
  pub two : IfSome p.two (IsRead s)

-- the round of the seed that a single view shows, else 0
abbrev pub choice_round_alone : Body → Option (Bor View) → ℕ
choice_round_alone b None = choice_round b
choice_round_alone b (Some two) = 0
