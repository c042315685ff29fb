-- The knowledge after a KEY was heard.
use Rattle.std.proofs.Common.{◌≡◌, ◌≢◌, ◌∙◌, ◌==◌, ℕ, ◌≤◌, true, List, [], Option, Some, None, is_some, sym, ap, refl, subst, option_map, option_and_then, if◌then◌else◌}
use Rattle.std.specs.Option.{option_or}
use Rattle.std.proofs.lemmas.Bool.{and_parts, eqb-true, eq-eqb, ne_eqb, false≢true}
use Rattle.std.proofs.lemmas.Option.{same_Some}
use Rattle.bar_window.specs.Exchange.{other_role}
use Rattle.bar_window.specs.declared.exchange.Role.{Role}
use Rattle.bar_window.specs.declared.exchange.Role.TheVariants.{Initiator, Responder}
use Rattle.bar_window.specs.declared.exchange.XKind.{XKind}
use Rattle.bar_window.specs.declared.update.UpdateId.{UpdateId}
use Rattle.bar_terms.specs.declared.items.Item.{Item}
use Rattle.bar_terms.specs.Code.Room.{TableWithRoom}
use Rattle.bar_terms.specs.Table.{Table, digests_of}
use Rattle.bar_terms.specs.Terms.{can_promise}
use Rattle.bar_wire.specs.Bodies.{briefcase_in, digests_in}
use Rattle.bar_wire.specs.Datagram.{Datagram, Body, Manifest, Block, Request, Response, Divulge, Query, Reply, Case, KeyReq, Key, Evidence, Evict, Briefcase, KeyGiven, Place, kind_of, kind_number, part_of, place_by, place_of, exchange_by}
use Rattle.bar_wire.specs.Grammar.{IsDatagram, MaySend}
use Rattle.bar_wire.specs.Kinds.{code_of}
use Rattle.bar_wire.specs.Limits.{everyone}
use Rattle.bar_wire.specs.declared.kind.Kind.TheVariants as kinds
use Rattle.bar_rules.specs.Member.{Member, is_alive}
use Rattle.bar_rules.specs.Values.{counts_ok}
use Rattle.bar_rules.specs.Peer.Admission.{is_admitted, is_for, is_row_met, is_to_all}
use Rattle.bar_rules.specs.Peer.Agreement.{IsRecent}
use Rattle.bar_rules.specs.Peer.Exchanges.{role_of}
use Rattle.bar_rules.specs.Peer.Holdings.{case_in}
use Rattle.bar_rules.specs.Peer.Knowledge.{Knowledge, this_round, case_heard_of, learned, with_heard}
use Rattle.bar_laws.specs.Soundness.{IsSound, IsTheirs}
use Rattle.bar_store.specs.declared.store.Store.{Store}
use Rattle.bar_store.specs.Code.Held.{block_in, HasSame}
use Rattle.bar_store.specs.Code.Holds.{Holds}
use Rattle.bar_peer.specs.Code.Opening.{IsNear, AreGiven, block_given}
use Rattle.bar_peer.proofs.Hearing.Items.{none_if}
use Rattle.bar_peer.proofs.Admitting.Rows.{in_time}
use Rattle.bar_bytes.proofs.Options.{or-none}

-- ---- conditions that an admitted datagram meets

pub admitted_for : (me : Member) (k : Knowledge) (d : Datagram) → is_admitted me k d ≡ true → is_for me d.message ≡ true
unfolding is_admitted
admitted_for me k d e = (and_parts _ _ (and_parts _ _ (and_parts _ _ (and_parts _ _ e).0).0).0).0

pub admitted_row : (me : Member) (k : Knowledge) (d : Datagram) → is_admitted me k d ≡ true
    → is_row_met me k d.message.from d.message.to d.message.body ≡ true
unfolding is_admitted
admitted_row me k d e = (and_parts _ _ e).1

-- ---- the place of a key

their_role : (me : Member) (round : ℕ) (kind : XKind) (role : Role) (from to : ℕ) → from ≢ to → to ≡ me.party
    → role ≡ other_role (role_of me (exchange_by round kind role from to))
their_role me round kind Initiator from to apart mine =
    ap (λ b. other_role (if b then Initiator else Responder)) (sym (ne_eqb from me.party (λ e. apart (e ∙ sym mine))))
their_role me round kind Responder from to apart mine =
    ap (λ b. other_role (if b then Initiator else Responder)) (sym (eq-eqb to me.party mine))

-- The side is the partner's, and the exchange may still be asked about.
pub record IsTheirPlace (me : Member) (k : Knowledge) (p : Place) : Type 0 where
  pub role : p.role ≡ other_role (role_of me p.exchange)
  pub recent : IsRecent me k p.exchange.round

key_place : (d : Datagram) (g : KeyGiven) (p : Place) → d.message.body ≡ Key g → place_of d.message ≡ Some p
    → place_by d.message.from d.message.to (g.round, g.kind, g.role) ≡ p
key_place d g p body at = same_Some _ _ (sym (ap (λ b. option_map (place_by d.message.from d.message.to) (part_of b)) body) ∙ at)

pub their_place : (me : Member) (k : Knowledge) (d : Datagram) (g : KeyGiven) (p : Place) → 2 ≤ me.session.shape.life
    → IsDatagram me.session.shape d → is_admitted me k d ≡ true → d.message.body ≡ Key g → place_of d.message ≡ Some p → IsTheirPlace me k p
their_place me k d g p life fits admitted body at =
    let from = d.message.from in
    let to = d.message.to in
    let mine : to ≡ me.party =
    eqb-true to me.party (subst (λ b. (if is_to_all b then to == everyone else to == me.party) ≡ true) body (admitted_for me k d admitted))
    in
    let send = subst (λ b. MaySend me.session.shape (kind_of b) from to) body fits.may_send in
    let row = subst (λ b. is_row_met me k from to b ≡ true) body (admitted_row me k d admitted) in
    subst (IsTheirPlace me k) (key_place d g p body at) (record {
      role = their_role me g.round g.kind g.role from to send.2 mine;
      recent = in_time me k from to (Key g) life row;
    })

-- ---- the briefcase that it opens

pub is_case : (b : Body) → (kind_number b == code_of kinds.Case) ≡ true → (c : Briefcase) × (b ≡ Case c)
is_case (Case c) e = (c, refl)
is_case (Manifest r ds) e = absurd (false≢true e)
is_case (Block u b) e = absurd (false≢true e)
is_case (Request r s c) e = absurd (false≢true e)
is_case (Response r hb) e = absurd (false≢true e)
is_case (Divulge r n ha) e = absurd (false≢true e)
is_case (Query r s y o) e = absurd (false≢true e)
is_case (Reply r w g z) e = absurd (false≢true e)
is_case (KeyReq r kind role) e = absurd (false≢true e)
is_case (Key g) e = absurd (false≢true e)
is_case (Evidence ds) e = absurd (false≢true e)
is_case (Evict r ps) e = absurd (false≢true e)

-- what holds of every briefcase that may be opened holds of the one that was heard
pub heard_given : (me : Member) (k : Knowledge) (p : Place) (d : Datagram) (table : Table) (key : List ℕ) (items : List Item) (blocks : List (List ℕ))
    → IsSound me k → IsTheirPlace me k p → Some d ≡ k.heard kinds.Case p.exchange p.role → IsNear table (this_round k)
    → ((c : Briefcase) (now : ℕ) → d.message.body ≡ Case c → can_promise me.session.cap c.terms ≡ true → counts_ok me.session c ≡ true
    → IsNear table now → AreGiven me.session now table p.exchange key (Some c) items blocks)
    → AreGiven me.session (this_round k) table p.exchange key (case_heard_of k p.exchange p.role) items blocks
heard_given me k p d table key items blocks sound place heard near given =
    let c = is_case d.message.body (and_parts _ _ (sound.heard kinds.Case p.exchange p.role d (sym heard))).0 in
    let found : case_heard_of k p.exchange p.role ≡ Some c.0 = ap case_in (sym heard) ∙ ap briefcase_in c.1 in
    let theirs : IsTheirs me k p.exchange c.0 =
    sound.theirs p.exchange c.0 (subst (λ (r : Role). case_heard_of k p.exchange r ≡ Some c.0) place.role found)
    in
    let can = (sound.cases p.exchange c.0.terms theirs.said theirs.terms).valid in
    subst (λ (o : Option Briefcase). AreGiven me.session (this_round k) table p.exchange key o items blocks) (sym found)
    (given c.0 (this_round k) c.1 can theirs.counts near)

pub listed : (o : Option Datagram) → is_some (option_and_then (λ d. digests_in d.message.body) o) ≡ true → is_some o ≡ true
listed (Some d) e = refl
listed None e = absurd (false≢true e)

-- a store holds lists only of rounds up to the next one
pub table_near : (me : Member) (k : Knowledge) (s : Store) → IsSound me k → Holds me k s → IsNear (digests_of s.table.lists) (this_round k)
table_near me k s sound h round e = sound.near round (listed (k.manifest round) (subst (λ o. is_some o ≡ true) (sym (h.table round)) e))

-- ---- the blocks that are held after it

pub key_learned : (me : Member) (k : Knowledge) (d : Datagram) (g : KeyGiven) (p : Place) (old new : Store) → Holds me k old → HasSame old new
    → d.message.body ≡ Key g → place_of d.message ≡ Some p
    → ((u : UpdateId) → block_in new u ≡ option_or (block_in old u)
    (block_given me.session (this_round k) (digests_of old.table.lists) p.exchange u g.key (case_heard_of k p.exchange p.role)))
    → Holds me (with_heard me d k) new
key_learned me k d g p old new h same body at blocks =
    let here = key_place d g p body at in
    subst (λ b. Holds me (learned me d k b) new) (sym body) (record {
      rounds = ap (λ (t : TableWithRoom). t.rounds) same.table ∙ h.rounds;
      per_round = ap (λ (t : TableWithRoom). t.per_round) same.table ∙ h.per_round;
      wide = same.wide ∙ h.wide;
      life = same.life ∙ h.life;
      round = same.round ∙ h.round;
      table = λ r. h.table r ∙ sym (ap (λ (t : TableWithRoom). digests_of t.lists r) same.table);
      blocks = λ u fresh.
          (λ i. option_or (h.blocks u fresh i)
          (block_given me.session (this_round k) (λ r. h.table r i) (here i).exchange u g.key (case_heard_of k (here i).exchange (here i).role)))
          ∙ sym (blocks u);
    })

pub no_place : (d : Datagram) (g : KeyGiven) → d.message.body ≡ Key g → place_of d.message ≡ None → ⊥
no_place d g body none =
    let some : place_of d.message ≡ Some (place_by d.message.from d.message.to (g.round, g.kind, g.role)) =
    ap (λ b. option_map (place_by d.message.from d.message.to) (part_of b)) body
    in
    cc

-- if no briefcase was heard, no block is given
pub unheard_given : (me : Member) (k : Knowledge) (p : Place) (table : Table) (key : List ℕ) (blocks : List (List ℕ))
    → None ≡ k.heard kinds.Case p.exchange p.role
    → AreGiven me.session (this_round k) table p.exchange key (case_heard_of k p.exchange p.role) [] blocks
unheard_given me k p table key blocks none u =
    none_if (is_alive me.session u.round (this_round k))
    ∙ (λ i. block_given me.session (this_round k) table p.exchange u key (case_in (none i)))

-- if no block is given, the store is unchanged
pub nothing_learned : (me : Member) (k : Knowledge) (d : Datagram) (g : KeyGiven) (p : Place) (s : Store) (blocks : List (List ℕ)) → Holds me k s
    → d.message.body ≡ Key g → place_of d.message ≡ Some p
    → AreGiven me.session (this_round k) (digests_of s.table.lists) p.exchange g.key (case_heard_of k p.exchange p.role) [] blocks
    → Holds me (with_heard me d k) s
nothing_learned me k d g p s blocks h body at given =
    key_learned me k d g p s s h (record { table = refl; life = refl; per_round = refl; wide = refl; round = refl }) body at
    (λ u. sym (or-none (block_in s u)) ∙ ap (option_or (block_in s u)) (given u))
