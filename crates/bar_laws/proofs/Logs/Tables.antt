-- Tables only grow, and each held block has its digest there.
use Rattle.bar_wire.specs.Bodies.{digests_in, is_manifest_of}
use Rattle.bar_case.specs.Opened.{AreTold, opened_blocks}
use Rattle.bar_case.specs.declared.findings.Opening.{Opening}
use Rattle.bar_case.specs.declared.findings.Opening.TheVariants.{Good, Bad, Unknown}
use Rattle.bar_rules.specs.Peer.Admission.{is_admitted, is_for, is_row_met, has_digest, has_valid_signature}
use Rattle.bar_rules.specs.Peer.Holdings.{block_in, block_from, block_opened, block_of, is_held, history, case_heard_from}
use Rattle.bar_rules.specs.Peer.Knowledge.{known}
use Rattle.bar_rules.specs.Peer.Log.{Log, Entry, Heard, heard_in, if_passes, manifest, table, round_now}
use Rattle.bar_rules.specs.Member.{Session, Member, is_alive}
use Rattle.bar_rules.specs.Peer.Rules.{IsObedient}
use Rattle.bar_rules.specs.Values.{window_of, opening_of, is_good, opened_block}
use Rattle.bar_terms.specs.Table.{Table, Extends, digest_of, digest_in, Digest, Known, PastEnd, NoManifest, is_known, is_within}
use Rattle.bar_terms.specs.Terms.{promised_updates}
use Rattle.bar_window.specs.Updates.{same_update}
use Rattle.bar_window.specs.declared.exchange.Exchange.{Exchange}
use Rattle.bar_window.specs.declared.update.UpdateId.{UpdateId}
use Rattle.bar_wire.specs.Datagram.{Message, Datagram, Body, Block, Key, Briefcase, exchange_by}
use Rattle.sha2.specs.Sha256.{sha256}
use Rattle.std.proofs.Common.{◌≡◌, ℕ, Bool, true, false, List, [], ◌∷◌, ◌++◌, refl, sym, ap, ◌∙◌, subst, inl, inr, cond}
use Rattle.std.specs.Prelude.{Option, Some, None, ◌⊎◌, option_and_then, option_map, find, filter, zip}
use Rattle.std.specs.Bool.{then_some}
use Rattle.std.specs.List.{list_all}
use Rattle.std.proofs.lemmas.Bool.{and_parts, and_from}
use Rattle.bar_window.proofs.Sets.{same_is}
use Rattle.bar_laws.proofs.Logs.FirstFinds.{IsEntry, IsFind, find-of, allowed-at, earliest-more}
use Rattle.bar_laws.proofs.Logs.EqualityTests.{no-value, same_bytes-is}
use Rattle.bar_laws.proofs.Logs.Facts.{good_told}
use Rattle.bar_laws.specs.Growing.{IsLater}
use Rattle.bar_laws.proofs.Logs.LaterLogs.{later-entry, some-is}

-- ---- growth

pub extends_refl : (t : Table) → Extends t t
extends_refl t = record { same = λ round ds e. e }

pub extends_trans : (a b c : Table) → Extends a b → Extends b c → Extends a c
extends_trans a b c f g = record { same = λ round ds e. g.same round ds (f.same round ds e) }

new-extends : (new log : Log) → Extends (table log) (table (new ++ log))
new-extends new log = record { same = λ round ds e. grown round ds (manifest log round) refl e }
  where
    lists : Option Datagram → Option (List (List ℕ))
    lists o = option_and_then (λ d. digests_in d.message.body) o

    grown : (round : ℕ) (ds : List (List ℕ)) (o : Option Datagram) → manifest log round ≡ o → lists o ≡ Some ds → lists (manifest (new ++ log) round) ≡ Some ds
    grown round ds None m e = cc
    grown round ds (Some d) m e = ap lists (earliest-more (λ before x. if_passes (λ n. is_manifest_of round n.body) (heard_in x)) new log d m) ∙ e

pub table-later : (log before : Log) → IsLater log before → Extends (table before) (table log)
table-later log before later = subst (λ l. Extends (table before) (table l)) (sym later.split) (new-extends later.new before)

-- what a table says of an update, each longer one says, unless the table lacks the round
pub digest-extends : (old new : Table) (u : UpdateId) → Extends old new → (digest_of old u ≡ NoManifest) ⊎ (digest_of new u ≡ digest_of old u)
digest-extends old new u h = go (old u.round) refl
  where
    go : (o : Option (List (List ℕ))) → old u.round ≡ o → (digest_of old u ≡ NoManifest) ⊎ (digest_of new u ≡ digest_of old u)
    go None e = inl (rw e)
    go (Some ds) e = let f : new u.round ≡ Some ds = h.same u.round ds e in inr (ap (λ o. digest_in o u.index) (f ∙ sym e))

pub known-extends : (old new : Table) (u : UpdateId) → Extends old new → is_known (digest_of old u) ≡ true → is_known (digest_of new u) ≡ true
known-extends old new u h e = go (digest-extends old new u h)
  where
    go : (digest_of old u ≡ NoManifest) ⊎ (digest_of new u ≡ digest_of old u) → is_known (digest_of new u) ≡ true
    go (inl none) = let w = rw none at e in cc
    go (inr same) = ap is_known same ∙ e

pub known-digest-extends : (old new : Table) (u : UpdateId) (d : List ℕ) → Extends old new → digest_of old u ≡ Known d → digest_of new u ≡ Known d
known-digest-extends old new u d h e = go (digest-extends old new u h)
  where
    go : (digest_of old u ≡ NoManifest) ⊎ (digest_of new u ≡ digest_of old u) → digest_of new u ≡ Known d
    go (inl none) = cc
    go (inr same) = same ∙ e

pub within-extends : (old new : Table) (us : List UpdateId) → Extends old new → is_within old us ≡ true → is_within new us ≡ true
within-extends old new [] h e = refl
within-extends old new (u ∷ us) h e = let p = and_parts _ _ e in and_from _ _ (known-extends old new u h p.0) (within-extends old new us h p.1)

-- ---- held blocks

-- the block is the one whose digest the table has
abbrev pub IsBlockOf : Table → UpdateId → List ℕ → Type 0
IsBlockOf t u block = digest_of t u ≡ Known (sha256 block)

digest-is : (d : Digest) (block : List ℕ) → has_digest d block ≡ true → d ≡ Known (sha256 block)
digest-is (Known d) block e = let same : sha256 block ≡ d = same_bytes-is _ _ e in ap Known (sym same)
digest-is PastEnd block e = cc
digest-is NoManifest block e = cc

-- each opened block of a good opening is the one whose digest the table has
told-found : (t : Table) (u : UpdateId) (us : List UpdateId) (blocks : List (List ℕ)) (block : List ℕ) → AreTold t us blocks
    → option_map (λ p. p.1) (find (λ p. same_update u p.0) (zip us blocks)) ≡ Some block → IsBlockOf t u block
told-found t u [] blocks block told e = cc
told-found t u (v ∷ us) [] block told e = absurd told
told-found t u (v ∷ us) (b ∷ blocks) block told e = go (same_update u v) refl (told-found t u us blocks block told.1) e
  where
    go : (c : Bool) → same_update u v ≡ c
        → (option_map (λ p. p.1) (find (λ p. same_update u p.0) (zip us blocks)) ≡ Some block → IsBlockOf t u block)
        → option_map (λ p. p.1) (cond c (Some (v, b)) (find (λ p. same_update u p.0) (zip us blocks))) ≡ Some block → IsBlockOf t u block
    go true h k g = let w : u ≡ v = same_is u v h in let z : b ≡ block = cc in rw (← z, w) told.0
    go false h k g = k g

good-is : (o : Opening) → is_good o ≡ true → (n : ℕ) × (o ≡ Good n)
good-is (Good n) e = (n, refl)
good-is (Bad n) e = cc
good-is (Unknown n) e = cc

opened-known : (s : Session) (t : Table) (x : Exchange) (c : Briefcase) (key : List ℕ) (u : UpdateId) (block : List ℕ) → is_good (opening_of s t x c key) ≡ true
    → opened_block s c key u ≡ Some block → IsBlockOf t u block
unfolding opened_block
opened-known s t x c key u block good e =
    let g = good-is (opening_of s t x c key) good in
    told-found t u (promised_updates s.cap c.terms c.role) (opened_blocks s.cap c.terms c.role c.cipher key) block
    (good_told s.shape.id x s.cap c.terms c.role c.cipher key t g.0 g.1) e

-- what an admitted datagram adds is the block whose digest the table has
from-known : (me : Member) (before : Log) (u : UpdateId) (m : Message) (b : Body) (block : List ℕ) → is_row_met me (known me before) m.from m.to b ≡ true
    → block_from me.session before u m b ≡ Some block → IsBlockOf (table before) u block
from-known me before u m (Block v block') block row e = go (same_update u v) refl e
  where
    go : (b : Bool) → same_update u v ≡ b → then_some b block' ≡ Some block → IsBlockOf (table before) u block
    go false h g = cc
    go true h g =
        let w : u ≡ v = same_is u v h in
        let z : block' ≡ block = cc in
        rw (w, ← z) (digest-is _ _ (and_parts _ _ (and_parts _ _ row).0).0)
from-known me before u m (Key k) block row e = go (is_alive me.session u.round (round_now before)) (case_heard_from before x k.role) e
  where
    x : Exchange
    x = exchange_by k.round k.kind k.role m.from m.to

    opened : (c : Briefcase) (b : Bool) → is_good (opening_of me.session (table before) x c k.key) ≡ b → cond b (opened_block me.session c k.key u) None ≡ Some block → IsBlockOf (table before) u block
    opened c false h g = cc
    opened c true h g = opened-known me.session (table before) x c k.key u block h g

    go : (b : Bool) (o : Option Briefcase) → cond b (block_opened me.session (table before) x u k.key o) None ≡ Some block → IsBlockOf (table before) u block
    go false o g = cc
    go true None g = cc
    go true (Some c) g = opened c _ refl g
from-known me before u m b block row e = absurd (no-value (block_from me.session before u m b) block refl e)

pub admitted-row : (me : Member) (before : Log) (d : Datagram) → is_admitted me (known me before) d ≡ true → is_row_met me (known me before) d.message.from d.message.to d.message.body ≡ true
unfolding is_admitted
admitted-row me before d e = (and_parts _ _ e).1

pub admitted-for : (me : Member) (before : Log) (d : Datagram) → is_admitted me (known me before) d ≡ true → is_for me d.message ≡ true
unfolding is_admitted
admitted-for me before d e = (and_parts _ _ (and_parts _ _ (and_parts _ _ (and_parts _ _ e).0).0).0).0

pub admitted-signed : (me : Member) (before : Log) (d : Datagram) → is_admitted me (known me before) d ≡ true → has_valid_signature me.session d ≡ true
unfolding is_admitted
admitted-signed me before d e = (and_parts _ _ (and_parts _ _ (and_parts _ _ e).0).0).1

-- each held block is the one whose digest the table has
pub held-known : (me : Member) (log : Log) (u : UpdateId) (block : List ℕ) → IsObedient me log → block_of me.session log u ≡ Some block → IsBlockOf (table log) u block
held-known me log u block h e = at (find-of (λ before e. block_in me.session before u e) log block e)
  where
    heard : (before : Log) (d : Datagram) → IsEntry log before (Heard d) → block_in me.session before u (Heard d) ≡ Some block → IsBlockOf (table before) u block
    heard before d place f = from-known me before u d.message d.message.body block (admitted-row me before d (allowed-at me log before (Heard d) place h).0.0) f

    by : (before : Log) (e : Entry) → IsEntry log before e → block_in me.session before u e ≡ Some block → IsBlockOf (table before) u block
    by before (Heard d) place f = heard before d place f
    by before y place f = absurd (no-value (block_in me.session before u y) block refl f)

    at : IsFind (λ before e. block_in me.session before u e) log block → IsBlockOf (table log) u block
    at w = known-digest-extends (table w.before) (table log) u (sha256 block) (table-later log w.before (later-entry log w.before w.entry w.place)) (by w.before w.entry w.place w.found)

-- a set of held updates is within the table
pub held-within : (me : Member) (log : Log) (us : List UpdateId) → IsObedient me log → list_all (is_held me.session log) us ≡ true → is_within (table log) us ≡ true
held-within me log [] h e = refl
held-within me log (u ∷ us) h e =
    let p = and_parts _ _ e in
    let b = some-is (block_of me.session log u) p.0 in
    and_from _ _ (ap is_known (held-known me log u b.0 h b.1)) (held-within me log us h p.1)

pub all-filter : {X : Type 0} (p : X → Bool) (xs : List X) → list_all p (filter p xs) ≡ true
all-filter p [] = refl
all-filter p (x ∷ xs) = go (p x) refl (all-filter p xs)
  where
    go : (b : Bool) → p x ≡ b → list_all p (filter p xs) ≡ true → list_all p (cond b (x ∷ filter p xs) (filter p xs)) ≡ true
    go true h k = and_from _ _ h k
    go false h k = k

-- a history is within the table at that moment
pub history-within : (me : Member) (log : Log) (round : ℕ) → IsObedient me log → is_within (table log) (history me.session (block_of me.session log) round) ≡ true
history-within me log round h = held-within me log (history me.session (block_of me.session log) round) h (all-filter (is_held me.session log) (window_of me.session round))
