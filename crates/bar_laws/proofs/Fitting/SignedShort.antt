-- What is signed has few bytes.
use Rattle.std.proofs.Common.{◌≡◌, ℕ, ◌+◌, ◌*◌, ◌≤◌, true, length, ap, arith}
use Rattle.std.specs.Prelude.{max, nat_le}
use Rattle.std.proofs.Math.Nat.{max-le}
use Rattle.bar_session.proofs.Levels.{session_short}
use Rattle.bar_window.proofs.Widths.{few_words, most_places}
use Rattle.bar_session.specs.Limits.{most_per_round}
use Rattle.bar_session.specs.Sessions.{IsSession}
use Rattle.bar_rules.specs.Member.{Session}
use Rattle.bar_rules.specs.Peer.Sizes.{largest}
use Rattle.bar_wire.specs.Datagram.{Body, Manifest, Block, Request, Response, Divulge, Query, Reply, Case, KeyReq, Key, Evidence, Evict, is_signed, kind_of}
use Rattle.bar_wire.specs.Grammar.{is_wide}
use Rattle.bar_wire.specs.Places.{window_len}
use Rattle.bar_seal.specs.Code.Memo.{most_datagram}
use Rattle.bar_laws.specs.Sizes.{SignedAreShort}
use Rattle.bar_laws.proofs.Fitting.Largest.{fits-largest}

record IsSmall (s : Session) : Type 0 where
  signature : s.shape.sig_len ≤ 9004
  window : window_len s.shape ≤ 256
  terms : max (32 + 2 * window_len s.shape) (4 * window_len s.shape + 1) ≤ 1025
  digests : s.shape.per_round ≤ 128

few-a-round : (version : ℕ) → most_per_round version ≤ 128
few-a-round version = most_places (nat_le 2 version)

small : (s : Session) → IsSession s → IsSmall s
small s is =
    let window : window_len s.shape ≤ 256 = omega (arith, few_words (is_wide s.shape) s.shape.life s.shape.shaped.few) in
    record {
      signature = omega (arith, is.signatures, session_short s is);
      window = window;
      terms = max-le (omega (arith, window)) (omega (arith, window));
      digests = omega (arith, is.shape.per_round_high, few-a-round s.shape.version);
    }

signed-few : (s : Session) (b : Body) → IsSession s → IsSmall s → is_signed b ≡ true → largest s.shape (kind_of b) ≤ most_datagram
signed-few s (Manifest r ds) is few e = omega (arith, few.signature, few.digests)
signed-few s (Request r seed c) is few e = omega (arith, few.signature)
signed-few s (Response r hb) is few e = omega (arith, few.signature, few.window)
signed-few s (Query r seed y o) is few e = omega (arith, few.signature, few.window)
signed-few s (Reply r w g z) is few e = omega (arith, few.signature, few.window)
signed-few s (Case c) is few e = omega (arith, few.signature, few.terms)
signed-few s (Key k) is few e = omega (arith, few.signature)
signed-few s (Evict r ps) is few e = omega (arith, few.signature, is.shape.peers_high)
signed-few s (Block u b) is few e = absurd cc
signed-few s (Divulge r n h) is few e = absurd cc
signed-few s (KeyReq r k o) is few e = absurd cc
signed-few s (Evidence ds) is few e = absurd cc

-- a signed datagram of a session fits a room of the memo
pub signed-short : SignedAreShort
signed-short s d bytes is spelled signed =
    omega (arith, ap length spelled.is, fits-largest s.shape d spelled.fits, signed-few s d.message.body is (small s is) signed)
