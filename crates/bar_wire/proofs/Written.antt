-- The length of the encoding of a body.
use Rattle.std.proofs.Common.{◌≡◌, ℕ, zero, suc, ◌+◌, List, [], ◌∷◌, ◌++◌, length, take, drop, sym, ap, ◌∙◌, length-append, arith}
use Rattle.std.specs.List.{concat, flat_map}
use Rattle.std.proofs.lemmas.List.{length-take, length-drop}
use Rattle.bar_bytes.specs.Bytes.{u16_bytes, u32_bytes, first_u16}
use Rattle.bar_bytes.proofs.Lengths.{length_u16, length_u32}
use Rattle.bar_window.specs.declared.terms.Terms.{Terms as RawTerms}
use Rattle.bar_window.specs.declared.terms.Terms.TheVariants as terms
use Rattle.bar_window.specs.Exchange.{kind_code, role_code}
use Rattle.bar_window.specs.Terms.{plain_terms}
use Rattle.bar_window.specs.Code.Window.{members}
use Rattle.bar_wire.specs.declared.shape.Shape.{Shape}
use Rattle.bar_wire.specs.declared.view.Body.{Body as RawBody}
use Rattle.bar_wire.specs.declared.view.Body.TheVariants as raw
use Rattle.bar_wire.specs.Datagram.{Message, kind_of}
use Rattle.bar_wire.specs.Grammar.{set_bytes, term_pieces, pieces, entry, start, message_bytes}
use Rattle.std.specs.Simd.{first_chunks}
use Rattle.bar_wire.specs.Places.{entries, entries_len, pairs}
use Rattle.bar_wire.specs.Code.Views.{plain, IsBody}
use Rattle.bar_wire.specs.Code.Writing.{terms_written, body_written}
use Rattle.bar_wire.proofs.Lists.{chunks_joined}
use Rattle.bar_wire.proofs.Steps.{length_pairs}
use Rattle.bar_wire.proofs.FieldLengths.{length_parties}
use Rattle.bar_wire.proofs.WindowLaws.{length_set}
use Rattle.bar_wire.proofs.Whole.{start_len, start_then}

-- the entries of a list, joined again, have the length of its bytes
length_joined : (count : ℕ) (bytes : List ℕ) → length bytes ≡ entries_len count bytes → length (flat_map entry (entries count bytes)) ≡ length bytes
length_joined zero bytes len = sym len
length_joined (suc n) bytes len =
    let k = first_u16 bytes in
    let rest = drop (2 + k) bytes in
    let one = take k (drop 2 bytes) in
    let more = flat_map entry (entries n rest) in
    let left : length rest ≡ entries_len n rest = omega (arith, len, length-drop (2 + k) bytes) in
    omega (arith, len, left, length_joined n rest left, length-append (entry one) more, length-append (u16_bytes (length one)) one, length_u16 (length one), length-take k (drop 2 bytes), length-drop 2 bytes)

terms_len_is : (s : Shape) (r : ℕ) (t : RawTerms) → length (concat (term_pieces s r (plain_terms t))) ≡ terms_written s t
terms_len_is s r (terms.Balanced nonce ha hb) =
    let w = set_bytes s r (members ha) in
    let v = set_bytes s r (members hb) in
    omega (arith, length_set s r (members ha), length_set s r (members hb), length-append nonce (w ++ (v ++ [])), length-append w (v ++ []), length-append v [])
terms_len_is s r (terms.Push young aged want give junk) =
    let a = set_bytes s r (members young) in
    let b = set_bytes s r (members aged) in
    let u = set_bytes s r (members want) in
    let v = set_bytes s r (members give) in
    omega (arith, length_set s r (members young), length_set s r (members aged), length_set s r (members want), length_set s r (members give), length-append a (b ++ (u ++ (v ++ (junk ∷ [])))), length-append b (u ++ (v ++ (junk ∷ []))), length-append u (v ++ (junk ∷ [])), length-append v (junk ∷ []))

pub written_is : (s : Shape) (b : RawBody) → IsBody s b → length (concat (pieces s (plain b))) ≡ body_written s b
written_is s (raw.Manifest round count digests) of =
    let parts = first_chunks 32 count digests.now in
    let all = chunks_joined 32 count digests.now of.whole in
    omega (arith, ap length all.joined, length_u32 round, length-append (u32_bytes round) (length parts ∷ (concat parts ++ [])), length-append (concat parts) [])
written_is s (raw.Block round index block) of = omega (arith, length_u32 round, length-append (u32_bytes round) (index ∷ (block.now ++ [])), length-append block.now [])
written_is s (raw.Request round seed commitment) of = omega (arith, length_u32 round, length-append (u32_bytes round) (seed.now ++ (commitment.now ++ [])), length-append seed.now (commitment.now ++ []), length-append commitment.now [])
written_is s (raw.Response round hb) of =
    let w = set_bytes s round (members hb) in
    omega (arith, length_u32 round, length_set s round (members hb), length-append (u32_bytes round) (w ++ []), length-append w [])
written_is s (raw.Divulge round nonce ha) of =
    let w = set_bytes s round (members ha) in
    omega (arith, length_u32 round, length_set s round (members ha), length-append (u32_bytes round) (nonce.now ++ (w ++ [])), length-append nonce.now (w ++ []), length-append w [])
written_is s (raw.Query round seed young aged) of =
    let w = set_bytes s round (members young) in
    let v = set_bytes s round (members aged) in
    omega (arith, length_u32 round, length_set s round (members young), length_set s round (members aged), length-append (u32_bytes round) (seed.now ++ (w ++ (v ++ []))), length-append seed.now (w ++ (v ++ [])), length-append w (v ++ []), length-append v [])
written_is s (raw.Reply round want give junk) of =
    let w = set_bytes s round (members want) in
    let v = set_bytes s round (members give) in
    omega (arith, length_u32 round, length_set s round (members want), length_set s round (members give), length-append (u32_bytes round) (w ++ (v ++ (junk ∷ []))), length-append w (v ++ (junk ∷ [])), length-append v (junk ∷ []))
written_is s (raw.Case round xkind role updates junk t cipher) of =
    let text = concat (term_pieces s round (plain_terms t)) in
    let rest = text ++ (cipher.now ++ []) in
    omega (arith, length_u32 round, terms_len_is s round t, length-append (u32_bytes round) (kind_code xkind ∷ role_code role ∷ updates ∷ junk ∷ rest), length-append text (cipher.now ++ []), length-append cipher.now [])
written_is s (raw.KeyReq round xkind role) of = omega (arith, length_u32 round, length-append (u32_bytes round) (kind_code xkind ∷ role_code role ∷ []))
written_is s (raw.Key round xkind role key) of = omega (arith, length_u32 round, length-append (u32_bytes round) (kind_code xkind ∷ role_code role ∷ (key.now ++ [])), length-append key.now [])
written_is s (raw.Evidence count datagrams) of =
    let parts = entries count datagrams.now in
    omega (arith, length_joined count datagrams.now of.whole, length-append (flat_map entry parts) [])
written_is s (raw.Evict round count parties) of =
    let ps = pairs parties.now in
    omega (arith, length_u32 round, length_parties ps, length_pairs count parties.now of.whole, of.whole, length-append (u32_bytes round) (length ps ∷ (flat_map u16_bytes ps ++ [])), length-append (flat_map u16_bytes ps) [])

-- a message has a header of 16 bytes
pub message_len : (s : Shape) (m : Message) → length (message_bytes s m) ≡ 16 + length (concat (pieces s m.body))
message_len s m =
    let head = concat (start s (kind_of m.body) m.from m.to []) in
    ap length (start_then s (kind_of m.body) m.from m.to (pieces s m.body)) ∙ length-append head (concat (pieces s m.body)) ∙ ap (λ n. n + length (concat (pieces s m.body))) (start_len s (kind_of m.body) m.from m.to)
