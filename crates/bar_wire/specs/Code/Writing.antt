-- The lengths of the encodings of terms and of a body.
use Rattle.std.specs.Prelude.{ℕ, ◌+◌, ◌*◌, length}
use Rattle.bar_window.specs.declared.terms.Terms.{Terms as RawTerms}
use Rattle.bar_window.specs.declared.terms.Terms.TheVariants as terms
use Rattle.bar_wire.specs.declared.shape.Shape.{Shape}
use Rattle.bar_wire.specs.declared.view.Body.{Body as RawBody}
use Rattle.bar_wire.specs.declared.view.Body.TheVariants as raw
use Rattle.bar_wire.specs.Places.{window_len}

abbrev pub terms_written : Shape → RawTerms → ℕ
terms_written s (terms.Balanced nonce ha hb) = length nonce + 2 * window_len s
terms_written s (terms.Push young aged want give junk) = 4 * window_len s + 1

abbrev pub body_written : Shape → RawBody → ℕ
body_written s (raw.Manifest round count digests) = 5 + length digests.now
body_written s (raw.Block round index block) = 5 + length block.now
body_written s (raw.Request round seed commitment) = 4 + length seed.now + length commitment.now
body_written s (raw.Response round hb) = 4 + window_len s
body_written s (raw.Divulge round nonce ha) = 4 + length nonce.now + window_len s
body_written s (raw.Query round seed young aged) = 4 + length seed.now + 2 * window_len s
body_written s (raw.Reply round want give junk) = 5 + 2 * window_len s
body_written s (raw.Case round xkind role updates junk t cipher) = 8 + terms_written s t + length cipher.now
body_written s (raw.KeyReq round xkind role) = 6
body_written s (raw.Key round xkind role key) = 6 + length key.now
body_written s (raw.Evidence count datagrams) = 1 + length datagrams.now
body_written s (raw.Evict round count parties) = 5 + length parties.now
