-- The memory after a tick that may begin a round.
use Rattle.std.proofs.Common.{◌≡◌, ◌∙◌, ℕ, ◌-◌, ◌*◌, ◌/◌, ◌<◌, ◌≤◌, ◌==◌, ◌++◌, Bool, true, List, [], ◌∷◌, Option, Some, None, length}
use Rattle.std.proofs.Common.{option_map, if◌then◌else◌, map, refl, sym, ap, arith, inl, inr}
use Rattle.std.specs.List.{concat, AllByRecursion}
use Rattle.std.specs.Simd.{first_chunks}
use Rattle.std.proofs.lemmas.Bool.{cases_eq, cases_lt, eq-eqb, ne_eqb}
use Rattle.std.proofs.lemmas.List.{length-map}
use Rattle.sha2.specs.Sha256.{sha256}
use Rattle.sha2.proofs.Facts256.{length-sha256}
use Rattle.bar_bytes.specs.Code.Rooms.{kept_in}
use Rattle.bar_terms.specs.Table.{Lists, digests_of}
use Rattle.bar_terms.proofs.Equal.{chunks_of}
use Rattle.bar_wire.specs.Datagram.{Body, Datagram}
use Rattle.bar_wire.specs.declared.kind.Kind.TheVariants as kinds
use Rattle.bar_wire.proofs.FieldLengths.{length_digests}
use Rattle.bar_rules.specs.Broadcaster.Sending.{caster_message, caster_signed}
use Rattle.bar_rules.specs.Broadcaster.Stream.{caster_table, manifest_list, round_blocks}
use Rattle.bar_session.specs.Time.{round_after}
use Rattle.bar_rules.specs.Member.{Member, Session}
use Rattle.bar_rules.specs.Peer.Log.{Log, Ticked, has_kind_and_round, round_now, ticks}
use Rattle.bar_rules.specs.Secrets.{signature_of}
use Rattle.bar_rules.specs.Values.{datagram_bytes, message_bytes}
use Rattle.bar_laws.specs.Broadcasting.{SignsOnce, manifest_of}
use Rattle.bar_caster.specs.declared.memory.Memory.{Memory}
use Rattle.bar_caster.specs.Code.Memory.{member_of, said_of}
use Rattle.bar_caster.specs.Code.Ticking.{begins_round, begun_round}
use Rattle.bar_caster.proofs.Grown.{not_said_yet, said_first, said_other, same_said, table_begun}
use Rattle.bar_caster.proofs.Pieces.{blocks-counted, count_from}

-- if a notice of this round was signed, it is the one that is kept
abbrev pub HasNotice : Memory → Log → Log → Type 0
HasNotice m now log = (d : Datagram) → said_of kinds.Evict (round_now now) log ≡ Some d → m.notice.kept ≡ Some (datagram_bytes m.session d)

-- if the round is the same, so is its notice; a new round has no notice yet
notice_later : (m : Memory) (stream : List ℕ) (now log : Log) → SignsOnce (member_of m) stream log → ticks log ≤ ticks now
    → HasNotice m log log → HasNotice m now log
notice_later m stream now log signs later h d is = elim (cases_lt (round_now log) (round_now now)) [
  | inl begun ↦ absurd (let none = not_said_yet (member_of m) stream log kinds.Evict (round_now now) signs begun in cc)
  | inr same ↦
      let stays : round_now log ≡ round_now now = omega (arith, same, later) in
      h d (ap (λ round. said_of kinds.Evict round log) stays ∙ is)
]

pub notice_ticked : (m : Memory) (stream : List ℕ) (log : Log) → SignsOnce (member_of m) stream log
    → HasNotice m log log → HasNotice m (Ticked ∷ log) (Ticked ∷ log)
notice_ticked m stream log signs h d is =
    notice_later m stream (Ticked ∷ log) log signs (omega arith) h d
    (sym (same_said (has_kind_and_round kinds.Evict (round_now (Ticked ∷ log))) Ticked log refl) ∙ is)

-- ---- the manifest

pub digests_long : (s : Session) (stream : List ℕ) (round : ℕ) → AllByRecursion (λ d. length d ≡ 32) (manifest_list s stream round)
digests_long s stream round = go (round_blocks s stream round)
  where
    go : (blocks : List (List ℕ)) → AllByRecursion (λ d. length d ≡ 32) (map sha256 blocks)
    go [] = tt
    go (b ∷ blocks) = (length-sha256 b, go blocks)

pub manifest_few : (s : Session) (stream : List ℕ) (round : ℕ) → length (manifest_list s stream round) ≤ s.shape.per_round
manifest_few s stream round =
    let count : ℕ = count_from (length stream) s.shape.per_round ((round - 1) * s.shape.per_round) in
    let few : count ≤ s.shape.per_round = omega arith in
    omega (arith, length-map (round_blocks s stream round) sha256, blocks-counted s stream round, few)

-- the digests decoded from the list's bytes are those of the list
pub manifest_back : (s : Session) (stream : List ℕ) (round : ℕ) (bytes : List ℕ)
    → bytes ≡ concat (manifest_list s stream round)
    → first_chunks 32 (length bytes / 32) bytes ≡ manifest_list s stream round
manifest_back s stream round bytes is =
    let list : List (List ℕ) = manifest_list s stream round in
    let long : length bytes ≡ 32 * length list = ap length is ∙ length_digests list (digests_long s stream round) in
    let parts : length bytes / 32 ≡ length list = omega (arith, long) in
    (λ i. first_chunks 32 (parts i) (is i)) ∙ chunks_of list (digests_long s stream round)

-- a message followed by the signature is the datagram that the broadcaster signs
pub signed_bytes : (me : Member) (signed : ℕ → List ℕ → List ℕ) (leaf : ℕ) (body : Body) (message written : List ℕ)
    → ((leaf : ℕ) (message : List ℕ) → signed leaf message ≡ signature_of me leaf message)
    → message ≡ message_bytes me.session (caster_message body) → written ≡ message ++ signed leaf message
    → written ≡ datagram_bytes me.session (caster_signed me leaf body)
signed_bytes me signed leaf body message written signs is behind =
    behind ∙ (λ i. is i ++ signed leaf (is i))
    ∙ ap (λ (signature : List ℕ). message_bytes me.session (caster_message body) ++ signature)
    (signs leaf (message_bytes me.session (caster_message body)))

-- the list that is added to the table is that of the round that begins
pub table_joins : (me : Member) (stream : List ℕ) (log : Log) → begins_round me.session (ticks log) ≡ true
    → (lists : Lists) (round : ℕ) (bytes : List ℕ) → round ≡ round_now (Ticked ∷ log)
    → first_chunks 32 (length bytes / 32) bytes ≡ manifest_list me.session stream round
    → ((r : ℕ) → digests_of lists r ≡ caster_table me stream log r) → (r : ℕ)
    → (if r == round then Some (first_chunks 32 (length bytes / 32) bytes) else digests_of lists r)
    ≡ caster_table me stream (begun_round me stream log) r
table_joins me stream log begins lists round bytes now is has r = elim (cases_eq r round) [
  | inl same ↦
      (λ i. if eq-eqb r round same i then Some (is i) else digests_of lists r)
      ∙ ap (λ n. Some (manifest_list me.session stream n)) (sym same)
      ∙ sym (ap of_test (eq-eqb r (round_now (Ticked ∷ log)) (same ∙ now)))
      ∙ sym (table_begun me stream log begins r)
  | inr other ↦
      (λ i. if ne_eqb r round other i then Some (is i) else digests_of lists r)
      ∙ has r
      ∙ sym (ap of_test (ne_eqb r (round_now (Ticked ∷ log)) (λ e. other (e ∙ sym now))))
      ∙ sym (table_begun me stream log begins r)
]
  where
    -- the list of a round, depending on whether the round is the one that begins
    of_test : Bool → Option (List (List ℕ))
    of_test b = if b then Some (manifest_list me.session stream r) else caster_table me stream log r

-- the round that begins has its manifest, and the others are unchanged
pub manifests_begun : (m : Memory) (stream : List ℕ) (log : Log) → SignsOnce (member_of m) stream log
    → (round : ℕ) (bytes : List ℕ) → round ≡ round_now (Ticked ∷ log) → round_now log < round
    → bytes ≡ datagram_bytes m.session (manifest_of (member_of m) stream round)
    → ((r : ℕ) → kept_in m.manifests r ≡ option_map (datagram_bytes m.session) (said_of kinds.Manifest r log)) → (r : ℕ)
    → (if r == round then Some bytes else kept_in m.manifests r)
    ≡ option_map (datagram_bytes m.session) (said_of kinds.Manifest r (begun_round (member_of m) stream log))
manifests_begun m stream log signs round bytes now later is has r = elim (cases_eq r round) [
  | inl same ↦
      let none : said_of kinds.Manifest r (Ticked ∷ log) ≡ None =
      same_said (has_kind_and_round kinds.Manifest r) Ticked log refl
      ∙ not_said_yet me stream log kinds.Manifest r signs (omega (arith, same, later)) in
      let first : said_of kinds.Manifest r (begun_round me stream log) ≡ Some (manifest_of me stream (round_now (Ticked ∷ log))) =
      said_first (has_kind_and_round kinds.Manifest r) this (Ticked ∷ log)
      none (eq-eqb (round_now (Ticked ∷ log)) r (sym (same ∙ now))) in
      (λ i. if eq-eqb r round same i then Some (is i) else kept_in m.manifests r)
      ∙ ap (λ n. Some (datagram_bytes m.session (manifest_of me stream n))) now
      ∙ sym (ap (option_map (datagram_bytes m.session)) first)
  | inr other ↦
      let stays : said_of kinds.Manifest r (begun_round me stream log) ≡ said_of kinds.Manifest r log =
      said_other (has_kind_and_round kinds.Manifest r) this (Ticked ∷ log)
      (ne_eqb (round_now (Ticked ∷ log)) r (λ e. other (sym e ∙ sym now)))
      ∙ same_said (has_kind_and_round kinds.Manifest r) Ticked log refl in
      (λ i. if ne_eqb r round other i then Some bytes else kept_in m.manifests r)
      ∙ has r
      ∙ sym (ap (option_map (datagram_bytes m.session)) stays)
]
  where
    me : Member
    me = member_of m

    this : Datagram
    this = manifest_of me stream (round_now (Ticked ∷ log))

-- a manifest isn't a notice
pub notice_begun : (m : Memory) (stream : List ℕ) (log : Log) → SignsOnce (member_of m) stream log
    → HasNotice m log log → HasNotice m (begun_round (member_of m) stream log) (begun_round (member_of m) stream log)
notice_begun m stream log signs h d is =
    notice_ticked m stream log signs h d
    (sym (said_other (has_kind_and_round kinds.Evict (round_now (Ticked ∷ log))) this (Ticked ∷ log) refl)
    ∙ ap (λ t. said_of kinds.Evict (round_after t) (begun_round me stream log)) same ∙ is)
  where
    me : Member
    me = member_of m

    this : Datagram
    this = manifest_of me stream (round_now (Ticked ∷ log))

    same : ticks (Ticked ∷ log) ≡ ticks (begun_round me stream log)
    same = omega arith
