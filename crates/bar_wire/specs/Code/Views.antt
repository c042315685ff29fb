-- Views and bodies as values, without their addresses in memory.
use Rattle.std.specs.Prelude.{IsSome, IsTrue, ◌↔◌, ◌≡◌, ℕ, ◌*◌, List, [], length, Option, Some, None}
use Rattle.std.specs.Borrow.{Bor}
use Rattle.bar_window.specs.declared.terms.Terms.{Terms as RawTerms}
use Rattle.bar_window.specs.declared.terms.Terms.TheVariants as terms
use Rattle.bar_window.specs.Terms.{plain_terms}
use Rattle.bar_window.specs.declared.window.Window.{Window}
use Rattle.bar_window.specs.Code.Window.{members, IsWindowOf}
use Rattle.bar_wire.specs.declared.shape.Shape.{Shape}
use Rattle.bar_wire.specs.declared.view.View.{View}
use Rattle.bar_wire.specs.declared.view.Body.{Body as RawBody}
use Rattle.bar_wire.specs.declared.view.Body.TheVariants as raw
use Rattle.bar_wire.specs.Datagram.{Datagram, Body, Manifest, Block, Request, Response, Divulge, Query, Reply, Case, KeyReq, Key, Evidence, Evict, is_signed}
use Rattle.bar_wire.specs.Grammar.{SpellsDatagram, is_wide, message_bytes}
use Rattle.std.specs.Simd.{first_chunks}
use Rattle.bar_wire.specs.Places.{entries, entries_len, pairs}

-- the value that a body represents
abbrev pub plain : RawBody → Body
plain (raw.Manifest round count digests) = Manifest round (first_chunks 32 count digests.now)
plain (raw.Block round index block) = Block (record { round = round; index = index }) block.now
plain (raw.Request round seed commitment) = Request round seed.now commitment.now
plain (raw.Response round hb) = Response round (members hb)
plain (raw.Divulge round nonce ha) = Divulge round nonce.now (members ha)
plain (raw.Query round seed young aged) = Query round seed.now (members young) (members aged)
plain (raw.Reply round want give junk) = Reply round (members want) (members give) junk
plain (raw.Case round xkind role updates junk t cipher) =
    Case (record {
      round = round;
      kind = xkind;
      role = role;
      updates = updates;
      junk = junk;
      terms = plain_terms t;
      cipher = cipher.now;
    })
plain (raw.KeyReq round xkind role) = KeyReq round xkind role
plain (raw.Key round xkind role key) = Key (record { round = round; kind = xkind; role = role; key = key.now })
plain (raw.Evidence count datagrams) = Evidence (entries count datagrams.now)
plain (raw.Evict round count parties) = Evict round (pairs parties.now)

-- ---- properties of a body that its value doesn't show

-- it is the window of a round, with the session's life and width
pub record IsWindowIn (s : Shape) (round : ℕ) (w : Window) : Type 0 where
  pub of : IsWindowOf s.life round w
  pub wide : w.wide ≡ is_wide s

abbrev pub AreTermWindows : Shape → ℕ → RawTerms → Type 0
AreTermWindows s round (terms.Balanced nonce ha hb) = IsWindowIn s round ha × IsWindowIn s round hb
AreTermWindows s round (terms.Push young aged want give junk) =
    IsWindowIn s round young × IsWindowIn s round aged × IsWindowIn s round want × IsWindowIn s round give

-- each window of a body is that of its round
abbrev pub AreWindows : Shape → RawBody → Type 0
AreWindows s (raw.Response round hb) = IsWindowIn s round hb
AreWindows s (raw.Divulge round nonce ha) = IsWindowIn s round ha
AreWindows s (raw.Query round seed young aged) = IsWindowIn s round young × IsWindowIn s round aged
AreWindows s (raw.Reply round want give junk) = IsWindowIn s round want × IsWindowIn s round give
AreWindows s (raw.Case round xkind role updates junk t cipher) = AreTermWindows s round t
AreWindows s _ = Unit {0}

-- a list has as many bytes as its count gives
abbrev pub AreWhole : RawBody → Type 0
AreWhole (raw.Manifest round count digests) = length digests.now ≡ 32 * count
AreWhole (raw.Evidence count datagrams) = length datagrams.now ≡ entries_len count datagrams.now
AreWhole (raw.Evict round count parties) = length parties.now ≡ 2 * count
AreWhole _ = Unit {0}

-- The properties of a session's body that its value doesn't show.
pub record IsBody (s : Shape) (b : RawBody) : Type 0 where
  pub windows : AreWindows s b
  pub whole : AreWhole b

-- ---- views

abbrev pub signature_bytes : Option (Bor (List ℕ)) → List ℕ
signature_bytes None = []
signature_bytes (Some sig) = sig.now

-- the value that a view represents
abbrev pub datagram : Shape → View → Datagram
datagram s v = record { message = record { from = v.from; to = v.to; body = plain v.body }; signature = signature_bytes v.sig }

-- The view is the datagram that the bytes encode, with its message.
pub record IsView (s : Shape) (bytes : List ℕ) (v : View) : Type 0 where
  pub spelled : SpellsDatagram s (datagram s v) bytes
  pub body : IsBody s v.body
  pub message_is : v.message.now ≡ message_bytes s (datagram s v).message
  pub signed : IsSome v.sig ↔ IsTrue (is_signed (plain v.body))
