use Rattle.std.proofs.Common.{◌≡◌, ◌∙◌, ◌+◌, ◌++◌, ◌/◌, ◌%◌, arith, ap, ℕ}
use Rattle.std.specs.Int.{w32, to_be_bytes}
use Rattle.bar_lms.specs.Params.{signature_len}
use Rattle.bar_lms.specs.Signature.{signature}
use Rattle.bar_lms.specs.Secret.{randomizer_of}
use Rattle.bar_lms.specs.declared.private.Private.{Private}
use Rattle.bar_lms.specs.Hss.{HssSecret, hss_signed, leaves_of, upper_signature, upper_secret, lower_key, lower_of, lower_signature}
use Rattle.bar_lms.proofs.ListLemmas.{then_written, later}
use Rattle.bar_hss.proofs.key.HssKey.sign_with.Goals as goal

-- a lower tree is of the lower types
types : (s : HssSecret) (j : ℕ) (t : Private) → t ≡ lower_of s j → signature_len t.params ≡ signature_len s.low
unfolding lower_of
types s j t e = ap (λ (t : Private). signature_len t.params) e

pub put-requires-clause-room : goal.put-requires-clause-room
put-requires-clause-room c =
    let s = c.args.self.now in
    let same_top : signature_len c.self.inside.top ≡ signature_len s.top = ap (λ (x : HssSecret). signature_len x.top) c.self.view_is in
    let low : signature_len c.args.tree.now.params ≡ signature_len s.low =
    types s (c.args.leaf / leaves_of s.low) c.args.tree.now c.requires.tree
    in
    omega (arith, c.sig_len-at.ensures, same_top, low, c.requires.room, c.put_front.auto.out)

pub returns-clause-value : goal.returns-clause-value
unfolding hss_signed lower_signature
returns-clause-value c =
    let s = c.args.self.now in
    let leaf = c.args.leaf in
    let message = c.args.message.now in
    let n = leaves_of s.low in
    let j = c.upper_leaf-j.result in
    let tree = c.args.tree.now in
    let random = c.tagged_number-randomizer.result in
    let one = to_be_bytes w32 1 in
    let front = one ++ upper_signature s j ++ lower_key s j in
    let same_top : signature_len c.self.inside.top ≡ signature_len s.top = ap (λ (x : HssSecret). signature_len x.top) c.self.view_is in
    let same_low : signature_len c.self.inside.low ≡ signature_len s.low = ap (λ (x : HssSecret). signature_len x.low) c.self.view_is in
    let low : signature_len tree.params ≡ signature_len s.low = types s (leaf / n) tree c.requires.tree in
    let written =
    then_written c.put_front.new.out c.put.new.out front (signature tree (leaf % 32) random message) (60 + signature_len s.top) _ _ _
    c.put_front.ensures.front c.put.ensures.grown (omega (arith, c.sig_len-at.ensures, same_top)) (omega (arith, c.sig_len-at.ensures, c.sig_len.ensures, same_top, same_low, low)) in
    let jp : j ≡ leaf / n = c.upper_leaf-j.ensures.value in
    let tp : tree ≡ lower_of s (leaf / n) = c.requires.tree in
    let lp : leaf % 32 ≡ leaf % n = c.upper_leaf-j.ensures.lower in
    let rp : random ≡ randomizer_of (upper_secret s) leaf = c.tagged_number-randomizer.ensures ∙ ap (λ (x : HssSecret). randomizer_of (upper_secret x) leaf) c.self.view_is in
    written ∙ (λ i. one ++ upper_signature s (jp i) ++ lower_key s (jp i) ++ signature (tp i) (lp i) (rp i) message)

pub returns-clause-rest : goal.returns-clause-rest
returns-clause-rest c =
    let s = c.args.self.now in
    let same_top : signature_len c.self.inside.top ≡ signature_len s.top = ap (λ (x : HssSecret). signature_len x.top) c.self.view_is in
    let same_low : signature_len c.self.inside.low ≡ signature_len s.low = ap (λ (x : HssSecret). signature_len x.low) c.self.view_is in
    let low : signature_len c.args.tree.now.params ≡ signature_len s.low =
    types s (c.args.leaf / leaves_of s.low) c.args.tree.now c.requires.tree
    in
    later c.put_front.new.out c.put.new.out _ _ c.put.ensures.rest (omega (arith, c.sig_len-at.ensures, c.sig_len.ensures, same_top, same_low, low))
    ∙ later c.args.out.now c.put_front.new.out _ _ c.put_front.ensures.rest (omega (arith, c.sig_len-at.ensures, same_top))
