-- The memory of a broadcaster after it judged evidence.
use Rattle.std.proofs.Common.{◌≡◌, ◌≤◌, ◌∙◌, ℕ, true, false, List, [], ◌∷◌, ◌++◌, Option, Some, None, is_some, length, length-append, drop, refl}
use Rattle.std.proofs.Common.{sym, ap, subst, arith, if◌then◌else◌}
use Rattle.std.specs.Prelude.{◌&&◌, is_none, nat_le, option_map}
use Rattle.std.specs.Borrow.{Bor}
use Rattle.std.specs.List.{concat}
use Rattle.std.specs.Bool.{then_some}
use Rattle.std.proofs.lemmas.List.{append-nil, drop_at, nil_from_length}
use Rattle.bar_bytes.specs.declared.rooms.Rooms.{Rooms}
use Rattle.bar_bytes.specs.Code.Rooms.{kept_in}
use Rattle.bar_bytes.proofs.Options.{or-none}
use Rattle.bar_terms.specs.declared.table.Table.{Table}
use Rattle.bar_terms.specs.Table.{digests_of}
use Rattle.bar_terms.specs.Table as tables
use Rattle.bar_wire.specs.Datagram.{Evidence}
use Rattle.bar_wire.specs.Evidence.{evidence_bytes, IsEvidence}
use Rattle.bar_wire.specs.Grammar.{AreDatagramsInRange, SpellsDatagram, evidence_pieces, start}
use Rattle.bar_wire.specs.Places.{entries}
use Rattle.bar_wire.specs.Code.Views.{IsView, plain, signature_bytes}
use Rattle.bar_wire.specs.declared.shape.Shape.{Shape}
use Rattle.bar_wire.specs.declared.view.Body.{Body as RawBody}
use Rattle.bar_wire.specs.declared.view.Body.TheVariants as raw
use Rattle.bar_wire.specs.declared.view.View.{View}
use Rattle.bar_wire.proofs.Whole.{start_len, start_then}
use Rattle.bar_wire.specs.declared.kind.Kind.{Kind}
use Rattle.bar_wire.specs.declared.kind.Kind.TheVariants as kinds
use Rattle.bar_rules.specs.Broadcaster.Sending.{evict_by, judge_body}
use Rattle.bar_rules.specs.Broadcaster.Stream.{caster_table, manifest_list}
use Rattle.bar_rules.specs.Judge.Verdict.{Fault, Shown, verdict}
use Rattle.bar_session.specs.Time.{round_after}
use Rattle.bar_rules.specs.Member.{Session}
use Rattle.bar_rules.specs.Peer.Log.{Log, Kept, kept, round_now, ticks}
use Rattle.bar_rules.specs.Values.{datagram_bytes}
use Rattle.bar_judge.specs.declared.fault.Fault.{Fault as CodeFault}
use Rattle.bar_judge.specs.declared.verdicts.Verdict.{Verdict as CodeVerdict}
use Rattle.bar_judge.specs.declared.verdicts.Verdict.TheVariants as verdicts
use Rattle.bar_judge.specs.Code.Verdicts.{plain_verdict}
use Rattle.bar_laws.specs.Broadcasting.{ShownIsShort}
use Rattle.bar_laws.specs.Ignoring.{evicts, is_news}
use Rattle.bar_caster.specs.declared.evictions.Evictions.{Evictions}
use Rattle.bar_caster.specs.declared.memory.Memory.{Memory}
use Rattle.bar_caster.specs.Code.Evictions.{AreOfLog}
use Rattle.bar_caster.specs.Code.Memory.{Represents, IsOfTheSame, member_of, said_of, stream_of}

-- The memories differ only in their evictions.
pub record HasOtherEvictions (m n : Memory) : Type 0 where
  pub same : IsOfTheSame m n
  pub ticks : n.ticks ≡ m.ticks
  pub table : n.table ≡ m.table
  pub manifests : n.manifests ≡ m.manifests
  pub notice : n.notice ≡ m.notice

-- the broadcaster's table in round `now`
abbrev table_at : Session → List ℕ → ℕ → tables.Table
table_at s stream now r = then_some (nat_le 1 r && (nat_le r now && nat_le r s.shape.rounds)) (manifest_list s stream r)

-- If two logs have the same time and the same said datagrams, and the evictions are those of the second, the memory represents the second.
pub tells_with : (log new : Log) (m n : Memory) → HasOtherEvictions m n → ticks new ≡ ticks log
    → ((kind : Kind) (round : ℕ) → said_of kind round new ≡ said_of kind round log) → AreOfLog m.session n.evictions new → Represents log m
    → Represents new n
tells_with log new m n h time said evictions tells =
    let session : m.session ≡ n.session = sym h.same.session in
    record {
      time = time ∙ tells.time ∙ sym h.ticks;
      table = λ round.
          ap (λ (t : Table). digests_of t.lists round) h.table ∙ tells.table round
          ∙ (λ i. table_at (session i) (sym h.same.stream i).bytes.items (round_after (sym time i)) round);
      manifests = λ round.
          ap (λ (r : Rooms). kept_in r round) h.manifests ∙ tells.manifests round
          ∙ (λ i. option_map (datagram_bytes (session i)) (sym (said kinds.Manifest round) i));
      notice = λ d is.
          let before : said_of kinds.Evict (round_now log) log ≡ Some d =
          (λ i. said_of kinds.Evict (round_after (sym time i)) log) ∙ sym (said kinds.Evict (round_now new)) ∙ is in
          (λ i. (h.notice i).kept) ∙ tells.notice d before ∙ (λ i. Some (datagram_bytes (session i) d));
      evictions = subst (λ (s : Session). AreOfLog s n.evictions new) session evictions;
    }

tells_kept : (log : Log) (m n : Memory) (party : ℕ) (evidence : List (List ℕ)) → HasOtherEvictions m n → Represents log m
    → AreOfLog m.session n.evictions (Kept party evidence ∷ log) → Represents (Kept party evidence ∷ log) n
tells_kept log m n party evidence h tells evictions =
    tells_with log (Kept party evidence ∷ log) m n h (omega arith) (λ kind round. or-none (said_of kind round log)) evictions tells

-- if the evictions are unchanged, the memory represents the same log
pub tells_still : (log : Log) (m n : Memory) → HasOtherEvictions m n → n.evictions ≡ m.evictions → Represents log m → Represents log n
tells_still log m n h same tells =
    tells_with log log m n h refl (λ kind round. refl) (subst (λ (e : Evictions). AreOfLog m.session e log) (sym same) tells.evictions) tells

-- How the evictions change if evidence shows a fault of a party.
pub record Evicts (log : Log) (m n : Memory) (party : ℕ) (evidence : List (List ℕ)) : Type 0 where
  pub kept_now : AreOfLog m.session m.evictions log → kept log party ≡ None → AreDatagramsInRange evidence
      → length (evidence_bytes evidence) ≤ m.evictions.evidence.size → AreOfLog m.session n.evictions (Kept party evidence ∷ log)
  pub again : AreOfLog m.session m.evictions log → is_some (kept log party) ≡ true → n.evictions ≡ m.evictions

evicted_by : (log : Log) (m n : Memory) (party : ℕ) (evidence : List (List ℕ)) → HasOtherEvictions m n → Represents log m
    → Evicts log m n party evidence → AreDatagramsInRange evidence → length (evidence_bytes evidence) ≤ m.evictions.evidence.size
    → (o : Option (List (List ℕ))) → kept log party ≡ o → Represents (if is_some o then log else Kept party evidence ∷ log) n
evicted_by log m n party evidence h tells evicts range short None is =
    tells_kept log m n party evidence h tells (evicts.kept_now tells.evictions is range short)
evicted_by log m n party evidence h tells evicts range short (Some old) is =
    tells_still log m n h (evicts.again tells.evictions (ap is_some is)) tells

-- the verdict under the memory's table is the one under the log's table
told_verdict : (log : Log) (m : Memory) (evidence : List (List ℕ)) → Represents log m
    → verdict m.session (digests_of m.table.lists) evidence ≡ verdict m.session (caster_table (member_of m) (stream_of m) log) evidence
told_verdict log m evidence tells = λ i. verdict m.session (λ r. tells.table r i) evidence

pub shown : (log : Log) (m n : Memory) (party : ℕ) (fault : Fault) (evidence : List (List ℕ)) → ShownIsShort → HasOtherEvictions m n
    → Represents log m → Evicts log m n party evidence → AreDatagramsInRange evidence
    → Shown party fault ≡ verdict m.session (digests_of m.table.lists) evidence
    → Represents (judge_body (member_of m) (stream_of m) log (Evidence evidence)) n
shown log m n party fault evidence law h tells evicts range is =
    let now : verdict m.session (caster_table (member_of m) (stream_of m) log) evidence ≡ Shown party fault =
    sym (is ∙ told_verdict log m evidence tells) in
    let short : length (evidence_bytes evidence) ≤ m.evictions.evidence.size =
    omega (
      arith,
      law m.session (caster_table (member_of m) (stream_of m) log) evidence party fault m.is_broadcaster.session now,
      m.evidence_size,
    ) in
    subst (λ v. Represents (evict_by log evidence v) n) (sym now)
    (evicted_by log m n party evidence h tells evicts range short (kept log party) refl)

silent : (log : Log) (evidence : List (List ℕ)) (v : CodeVerdict) → ((party : ℕ) (fault : CodeFault) → v ≡ verdicts.Shown party fault → ⊥)
    → evict_by log evidence (plain_verdict v) ≡ log
silent log evidence (verdicts.Shown party fault) none = absurd (none party fault refl)
silent log evidence (verdicts.NotShown why) none = refl

pub not_shown : (log : Log) (m n : Memory) (v : CodeVerdict) (evidence : List (List ℕ)) → HasOtherEvictions m n → n.evictions ≡ m.evictions
    → Represents log m → plain_verdict v ≡ verdict m.session (digests_of m.table.lists) evidence
    → ((party : ℕ) (fault : CodeFault) → v ≡ verdicts.Shown party fault → ⊥)
    → Represents (judge_body (member_of m) (stream_of m) log (Evidence evidence)) n
not_shown log m n v evidence h same tells is none =
    let log_is : log ≡ evict_by log evidence (verdict m.session (caster_table (member_of m) (stream_of m) log) evidence) =
    sym (silent log evidence v none) ∙ ap (evict_by log evidence) (is ∙ told_verdict log m evidence tells) in
    subst (λ (l : Log). Represents l n) log_is (tells_still log m n h same tells)

some_there : (o : Option (List (List ℕ))) → is_none o ≡ false → is_some o ≡ true
some_there None e = absurd (cc)
some_there (Some evidence) e = refl

-- if evidence shows a fault but isn't news, its party is evicted already
pub evicted_before : (log : Log) (m : Memory) (party : ℕ) (fault : Fault) (evidence : List (List ℕ)) → Represents log m
    → Shown party fault ≡ verdict m.session (digests_of m.table.lists) evidence
    → is_news (member_of m) (stream_of m) log (Evidence evidence) ≡ false → is_some (kept log party) ≡ true
evicted_before log m party fault evidence tells is quiet =
    some_there (kept log party) (ap (evicts log) (is ∙ told_verdict log m evidence tells) ∙ quiet)

-- ---- evidence in a datagram

-- the body of an EVIDENCE follows the header
pub evidence_behind : (s : Shape) (bytes : List ℕ) (from to : ℕ) (datagrams : List (List ℕ)) (signature : List ℕ)
    → SpellsDatagram s (record { message = record { from = from; to = to; body = Evidence datagrams }; signature = signature }) bytes
    → (16 ≤ length bytes) × IsEvidence (drop 16 bytes) datagrams
evidence_behind s bytes from to datagrams signature spelled =
    let head : List ℕ = concat (start s kinds.Evidence from to []) in
    let fields : List ℕ = evidence_bytes datagrams in
    let unsigned : signature ≡ [] = nil_from_length signature spelled.fits.signature_long in
    let is : bytes ≡ head ++ fields =
    spelled.is
    ∙ (λ i. (start_then s kinds.Evidence from to (evidence_pieces datagrams) i) ++ unsigned i)
    ∙ append-nil (head ++ fields) in (
      omega (arith, ap length is, length-append head fields, start_len s kinds.Evidence from to),
      record {
        range = spelled.fits.range;
        is = ap (drop 16) is ∙ drop_at head fields 16 (start_len s kinds.Evidence from to);
      },
    )

-- the view of an EVIDENCE contains its datagrams
pub view_behind : (s : Shape) (bytes : List ℕ) (v : View) (count : ℕ) (rest : Bor (List ℕ)) → IsView s bytes v
    → v.body ≡ raw.Evidence count rest → (16 ≤ length bytes) × IsEvidence (drop 16 bytes) (entries count rest.now)
view_behind s bytes v count rest view is =
    let sig : List ℕ = signature_bytes v.sig in
    evidence_behind s bytes v.from v.to (entries count rest.now) sig
    (subst (λ (b : RawBody). SpellsDatagram s (record { message = record { from = v.from; to = v.to; body = plain b }; signature = sig }) bytes)
    is view.spelled)
