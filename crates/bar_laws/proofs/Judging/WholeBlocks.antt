-- Each held block has 1,024 bytes.
use Rattle.bar_wire.specs.Bodies.{briefcase_in}
use Rattle.bar_wire.specs.declared.kind.Kind.TheVariants as kinds
use Rattle.bar_case.specs.Keystream.{keystream}
use Rattle.bar_case.specs.Opened.{opened, opened_blocks}
use Rattle.bar_rules.specs.Peer.Holdings.{block_of, block_in, block_from, block_opened, case_heard_from}
use Rattle.bar_rules.specs.Peer.Log.{Log, Entry, Ticked, Heard, Said, Kept, table, first_heard, round_now}
use Rattle.bar_rules.specs.Member.{Session, Member, is_alive}
use Rattle.bar_rules.specs.Peer.Rules.{IsObedient, Allows}
use Rattle.bar_rules.specs.Values.{opening_of, is_good, opened_block, counts_ok}
use Rattle.bar_terms.specs.Terms.{promised_updates}
use Rattle.bar_window.specs.Updates.{same_update}
use Rattle.bar_window.specs.declared.exchange.Exchange.{Exchange}
use Rattle.bar_window.specs.declared.exchange.Role.{Role}
use Rattle.bar_window.specs.declared.update.UpdateId.{UpdateId}
use Rattle.bar_wire.specs.Datagram.{Datagram, Body, Block, Case, Key, Briefcase, exchange_by, is_of}
use Rattle.bar_wire.specs.Grammar.{HasForm}
use Rattle.std.proofs.Common.{◌≡◌, ℕ, ◌≤◌, ◌+◌, ◌*◌, Bool, true, false, List, [], ◌∷◌, refl, sym, ap, subst, length, take, drop, cond, arith, length-take, length-drop}
use Rattle.std.specs.Prelude.{Option, Some, None, option_map, option_and_then, find, is_some, zip, bit_xor}
use Rattle.std.specs.Simd.{first_chunks}
use Rattle.std.specs.Bool.{then_some}
use Rattle.std.proofs.lemmas.Bool.{and_parts, eqb-true}
use Rattle.std.proofs.lemmas.Simd.{length-zip2}
use Rattle.bar_laws.proofs.Logs.{no-value, length_keystream, IsFind, find-of, allowed-at, first_heard-was, WasHeard, IsCaseOf, is_of-case, heard-fits, was-heard-fits}
use Rattle.bar_laws.proofs.Runs.{heard-case, HeardCase}

-- a block that is cut out of enough bytes is whole
cut-whole : (us : List UpdateId) (bytes : List ℕ) (u : UpdateId) (b : List ℕ) → 1024 * length us ≤ length bytes
    → option_map (λ p. p.1) (find (λ p. same_update u p.0) (zip us (first_chunks 1024 (length us) bytes))) ≡ Some b → length b ≡ 1024
cut-whole [] bytes u b h e = cc
cut-whole (v ∷ us) bytes u b h e = go (same_update u v) e (cut-whole us (drop 1024 bytes) u b (simp length-drop (omega arith)))
  where
    go : (t : Bool) → option_map (λ p. p.1) (cond t (Some (v, take 1024 bytes)) (find (λ p. same_update u p.0) (zip us (first_chunks 1024 (length us) (drop 1024 bytes))))) ≡ Some b
        → (option_map (λ p. p.1) (find (λ p. same_update u p.0) (zip us (first_chunks 1024 (length us) (drop 1024 bytes)))) ≡ Some b → length b ≡ 1024) → length b ≡ 1024
    go true e k = let same : take 1024 bytes ≡ b = cc in subst (λ z. length z ≡ 1024) same (simp length-take (omega arith))
    go false e k = k e

length-opened : (key cipher : List ℕ) → length (opened key cipher) ≡ length cipher
length-opened key cipher = length-zip2 bit_xor cipher (keystream key (length cipher)) (sym (length_keystream key (length cipher)))

opened_block-whole : (s : Session) (c : Briefcase) (key : List ℕ) (u : UpdateId) (b : List ℕ) → length c.cipher ≡ 1024 * c.updates + 1280 * c.junk → counts_ok s c ≡ true → opened_block s c key u ≡ Some b
    → length b ≡ 1024
unfolding opened_block opened_blocks
opened_block-whole s c key u b n counts e =
    let us : c.updates ≡ length (promised_updates s.cap c.terms c.role) = eqb-true _ _ (and_parts _ _ counts).0 in
    let plain : length (opened key c.cipher) ≡ length c.cipher = length-opened key c.cipher in
    cut-whole (promised_updates s.cap c.terms c.role) (opened key c.cipher) u b (omega (arith, us, plain, n)) e

-- a heard briefcase has the counts of its promise, and a cipher of as many bytes
record IsWhole (me : Member) (c : Briefcase) : Type 0 where
  counts : counts_ok me.session c ≡ true
  long : length c.cipher ≡ 1024 * c.updates + 1280 * c.junk

heard-whole : (me : Member) (log : Log) (x : Exchange) (role : Role) (c : Briefcase) → IsObedient me log → case_heard_from log x role ≡ Some c → IsWhole me c
heard-whole me log x role c h e = go (first_heard (is_of kinds.Case x role) log) refl e
  where
    at : (d : Datagram) → WasHeard log d → is_of kinds.Case x role d.message ≡ true → first_heard (is_of kinds.Case x role) log ≡ Some d → briefcase_in d.message.body ≡ Some c → IsWhole me c
    at d w is f found =
        let k : IsCaseOf x role d.message = is_of-case x role d.message is in
        let same : k.case ≡ c = (let z : briefcase_in d.message.body ≡ Some k.case = ap briefcase_in k.body in cc) in
        let form : HasForm me.session.shape (Case k.case) = subst (λ b. HasForm me.session.shape b) k.body (was-heard-fits me log d w h).form in
        let heard : HeardCase me log x role = heard-case me log x role h (ap is_some f) in
        let case : heard.case ≡ c = (let z = heard.found in cc) in
        record { counts = subst (λ z. counts_ok me.session z ≡ true) case heard.counts; long = subst (λ z. length z.cipher ≡ 1024 * z.updates + 1280 * z.junk) same form.2 }

    go : (o : Option Datagram) → first_heard (is_of kinds.Case x role) log ≡ o → option_and_then (λ d. briefcase_in d.message.body) o ≡ Some c → IsWhole me c
    go None f e = cc
    go (Some d) f e = let was = first_heard-was (is_of kinds.Case x role) log d f in at d was.0 was.1 f e

pub blocks-whole : (me : Member) (log : Log) (u : UpdateId) (b : List ℕ) → IsObedient me log → block_of me.session log u ≡ Some b → length b ≡ 1024
blocks-whole me log u b h e = at (find-of (λ before e. block_in me.session before u e) log b e)
  where
    key : (before : Log) (x : Exchange) (role : Role) (k : List ℕ) (o : Option Briefcase) → IsObedient me before → case_heard_from before x role ≡ o → block_opened me.session (table before) x u k o ≡ Some b → length b ≡ 1024
    key before x role k None g f e = cc
    key before x role k (Some c) g f e = good (is_good (opening_of me.session (table before) x c k)) e
      where
        good : (t : Bool) → cond t (opened_block me.session c k u) None ≡ Some b → length b ≡ 1024
        good false e = cc
        good true e = let w : IsWhole me c = heard-whole me before x role c g f in opened_block-whole me.session c k u b w.long w.counts e

    from : (before : Log) (d : Datagram) (a : Body) → IsObedient me before → HasForm me.session.shape a → block_from me.session before u d.message a ≡ Some b → length b ≡ 1024
    from before d (Block v block) g form e = go (same_update u v) e
      where
        go : (t : Bool) → then_some t block ≡ Some b → length b ≡ 1024
        go true e = let same : block ≡ b = cc in subst (λ z. length z ≡ 1024) same form.1
        go false e = cc
    from before d (Key k) g form e = go (is_alive me.session u.round (round_now before)) e
      where
        go : (t : Bool) → cond t (block_opened me.session (table before) (exchange_by k.round k.kind k.role d.message.from d.message.to) u k.key (case_heard_from before (exchange_by k.round k.kind k.role d.message.from d.message.to) k.role)) None ≡ Some b → length b ≡ 1024
        go true e = key before (exchange_by k.round k.kind k.role d.message.from d.message.to) k.role k.key _ g refl e
        go false e = cc
    from before d a g form e = absurd (no-value (block_from me.session before u d.message a) b refl e)

    by : (before : Log) (y : Entry) → Allows me before y × IsObedient me before → block_in me.session before u y ≡ Some b → length b ≡ 1024
    by before (Heard d) al e = from before d d.message.body al.1 (heard-fits me before d al.0).form e
    by before Ticked al e = cc
    by before (Said d) al e = cc
    by before (Kept q v) al e = cc

    at : IsFind (λ before e. block_in me.session before u e) log b → length b ≡ 1024
    at w = by w.before w.entry (allowed-at me log w.before w.entry w.place h) w.found
