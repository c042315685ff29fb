-- Laws of accepted sessions.
use Rattle.std.proofs.Common.{◌≡◌, refl, sym, subst, arith, ℕ, ◌+◌, ◌*◌, ◌≤◌, ◌&&◌, nat_le, cond, Bool, true, false, pos}
use Rattle.std.proofs.Common.{List, [], ◌∷◌, ◌++◌, length, codes, length-append, Option, Some, None, Result, Ok, Err}
use Rattle.std.proofs.lemmas.Bool.{and_parts, leb-true}
use Rattle.std.specs.Option.{ok_or}
use Rattle.toml.specs.Data.{Data, integer, array, Items, no_items, item, Members, get_member}
use Rattle.std.specs.Prelude.{is_some, option_map}
use Rattle.bar_lms.specs.Schemes.{length_by, leaves_by}
use Rattle.bar_roster.proofs.Levels.{levels_are}
use Rattle.bar_session.proofs.Levels.{rounds_most}
use Rattle.bar_wire.specs.Limits.{leaves_a_round}
use Rattle.bar_wire.specs.declared.shape.Shape.{Shape}
use Rattle.bar_roster.specs.declared.fault.Key.{Key}
use Rattle.bar_roster.specs.declared.fault.Key.TheVariants.{Version, Id, Top, Rounds, Life, Cap, PerRound, Port, TickMs}
use Rattle.bar_roster.specs.declared.fault.Key.TheVariants.{Lms, Ots as OtsKey, CasterKey, Peers, Fanout}
use Rattle.bar_roster.specs.declared.fault.SessionFault.{SessionFault}
use Rattle.bar_roster.specs.declared.fault.SessionFault.TheVariants.{NotToml, BadValue, TooFewLeaves}
use Rattle.bar_roster.specs.declared.numbers.Numbers.{Numbers}
use Rattle.bar_roster.specs.Fields.{◌>>=◌, of_kind, field, field_if_there, if_there, some_of, number_in, bytes_of, key_of, are_tables, peers_of, count_of, document}
use Rattle.bar_roster.specs.NumberRanges.{AreInRange}
use Rattle.bar_session.specs.Limits.{IsTop, first_ots_by, last_lms_by, most_peers, most_per_round, rounds_by}
use Rattle.bar_session.specs.SessionData.{SessionData}
use Rattle.bar_roster.specs.SessionText.{numbers_of, types_of, peer_of, peers_from, front_of, listed_in, enough_leaves, session_data, parties_of, session_of}
use Rattle.bar_session.specs.Sessions.{IsSession}
use Rattle.bar_roster.specs.Shapes.{height_of, params_of, is_shaped, shaped, shape_by, shape_of}

-- ---- checks in a row

-- if all checks hold, the first one does, and the others do with its answer
check_holds : {A B P : Type 0} (r : Result A SessionFault) (f : A → Result B SessionFault) (y : B) → (r >>= f) ≡ Ok y
    → ((x : A) → r ≡ Ok x → f x ≡ Ok y → P) → P
check_holds (Ok x) f y h next = next x refl h
check_holds (Err e) f y h next = cc

-- a value that is no fault was there
ok_or_holds : {A : Type 0} (o : Option A) (e : SessionFault) (x : A) → ok_or o e ≡ Ok x → o ≡ Some x
ok_or_holds None e x h = cc
ok_or_holds (Some y) e x h = let same : y ≡ x = cc in rw same refl

-- a field that is read is there, and of its kind
kind_holds : {A : Type 0} (kind : Data → Option A) (key : Key) (o : Option Data) (x : A) → of_kind kind key o ≡ Ok x
    → (d : Data) × (kind d ≡ Some x)
kind_holds kind key None x h = cc
kind_holds kind key (Some d) x h = (d, ok_or_holds (kind d) _ x h)

-- ---- values

number_by : (low high m n : ℕ) (b : Bool) → (nat_le low m && nat_le m high) ≡ b → cond b (Some m) None ≡ Some n
    → (low ≤ n) × (n ≤ high)
number_by low high m n true is e =
    let parts = and_parts (nat_le low m) (nat_le m high) is in
    let same : m ≡ n = cc in
    let above : low ≤ m = leb-true _ _ parts.0 in
    let below : m ≤ high = leb-true _ _ parts.1 in
    (omega (arith, above, same), omega (arith, below, same))
number_by low high m n false is e = cc

pub number_range : (low high : ℕ) (d : Data) (n : ℕ) → number_in low high d ≡ Some n → (low ≤ n) × (n ≤ high)
number_range low high (integer (pos m)) n e = number_by low high m n _ refl e
number_range low high _ n e = cc

-- a number that is read is in its range
in_range : (low high : ℕ) (key : Key) (o : Option Data) (n : ℕ) → of_kind (number_in low high) key o ≡ Ok n → (low ≤ n) × (n ≤ high)
in_range low high key o n h = let found = kind_holds (number_in low high) key o n h in number_range low high found.0 n found.1

-- a number that may be missing is in its range if it is there
there_by : (key : Key) (d : Data) (top v : Option ℕ) → number_in 5 7 d ≡ v → some_of (ok_or v (BadValue key)) ≡ Ok top → IsTop top
there_by key d top None is e = cc
there_by key d top (Some n) is e = let same : Some n ≡ top = cc in subst IsTop same (number_range 5 7 d n is)

there_range : (key : Key) (o : Option Data) (top : Option ℕ) → if_there (number_in 5 7) key o ≡ Ok top → IsTop top
there_range key None top e = let same : None ≡ top = cc in subst IsTop same tt
there_range key (Some d) top e = there_by key d top (number_in 5 7 d) refl e

entries_by : (es ds : Items) (b : Bool) → ((nat_le 2 (count_of es) && nat_le (count_of es) most_peers) && are_tables es) ≡ b
    → cond b (Some es) None ≡ Some ds → (2 ≤ count_of ds) × (count_of ds ≤ most_peers)
entries_by es ds true is e =
    let tests = and_parts (nat_le 2 (count_of es) && nat_le (count_of es) most_peers) (are_tables es) is in
    let parts = and_parts (nat_le 2 (count_of es)) (nat_le (count_of es) most_peers) tests.0 in
    let same : es ≡ ds = cc in
    rw (sym same) (leb-true 2 (count_of es) parts.0, leb-true (count_of es) most_peers parts.1)
entries_by es ds false is e = cc

-- there are 2 to 200 entries that are read
entries_range : (d : Data) (ds : Items) → peers_of d ≡ Some ds → (2 ≤ count_of ds) × (count_of ds ≤ most_peers)
entries_range (array es) ds e = entries_by es ds _ refl e
entries_range _ ds e = cc

-- ---- the numbers

types_in_range : (top : Option ℕ) (ms : Members) (types : ℕ × ℕ) → types_of top ms ≡ Ok types
    → (5 ≤ types.0) × (types.0 ≤ last_lms_by (is_some top)) × (first_ots_by (is_some top) ≤ types.1) × (types.1 ≤ 4)
types_in_range top ms types read =
    check_holds (field (number_in 5 (last_lms_by (is_some top))) Lms (codes "lms") ms) _ types read (λ lms is_lms after_lms.
    check_holds (field (number_in (first_ots_by (is_some top)) 4) OtsKey (codes "ots") ms) _ types after_lms (λ ots is_ots after_ots.
    let lms_in = in_range 5 (last_lms_by (is_some top)) Lms (get_member (codes "lms") ms) lms is_lms in
    let ots_in = in_range (first_ots_by (is_some top)) 4 OtsKey (get_member (codes "ots") ms) ots is_ots in
    let same : (lms, ots) ≡ types = cc in
    rw (sym same) (lms_in.0, lms_in.1, ots_in.0, ots_in.1)))

-- the numbers that are read are in their ranges
numbers_in_range : (ms : Members) (n : Numbers) → numbers_of ms ≡ Ok n → AreInRange n
numbers_in_range ms n read =
    check_holds (field (number_in 1 3) Version (codes "version") ms) _ n read (λ version is_version after_version.
    check_holds (field (bytes_of 8) Id (codes "id") ms) _ n after_version (λ id is_id after_id.
    check_holds (field_if_there (number_in 5 7) Top (codes "top") ms) _ n after_id (λ top is_top after_top.
    check_holds (field (number_in 1 (rounds_by (is_some top))) Rounds (codes "rounds") ms) _ n after_top (λ rounds is_rounds after_rounds.
    check_holds (field (number_in 2 16) Life (codes "life") ms) _ n after_rounds (λ life is_life after_life.
    check_holds (field (number_in 1 16) Cap (codes "cap") ms) _ n after_life (λ cap is_cap after_cap.
    check_holds (field (number_in 1 (most_per_round version)) PerRound (codes "per_round") ms) _ n after_cap (λ per_round is_per_round after_per_round.
    check_holds (field (number_in 1024 65335) Port (codes "port") ms) _ n after_per_round (λ port is_port after_port.
    check_holds (field (number_in 1 60000) TickMs (codes "tick_ms") ms) _ n after_port (λ tick_ms is_tick_ms after_tick_ms.
    check_holds (types_of top ms) _ n after_tick_ms (λ types is_types after_types.
    let version_in = in_range 1 3 Version (get_member (codes "version") ms) version is_version in
    let rounds_in = in_range 1 (rounds_by (is_some top)) Rounds (get_member (codes "rounds") ms) rounds is_rounds in
    let life_in = in_range 2 16 Life (get_member (codes "life") ms) life is_life in
    let cap_in = in_range 1 16 Cap (get_member (codes "cap") ms) cap is_cap in
    let per_round_in = in_range 1 (most_per_round version) PerRound (get_member (codes "per_round") ms) per_round is_per_round in
    let types_in = types_in_range top ms types is_types in
    let numbers : Numbers = record {
      version = version;
      id = id;
      top = top;
      rounds = rounds;
      life = life;
      cap = cap;
      per_round = per_round;
      port = port;
      tick_ms = tick_ms;
      lms = types.0;
      ots = types.1;
    } in
    let same : numbers ≡ n = cc in
    subst AreInRange same (record {
      version_low = version_in.0;
      version_high = version_in.1;
      top = there_range Top (get_member (codes "top") ms) top is_top;
      rounds_low = rounds_in.0;
      rounds_high = rounds_in.1;
      life_low = life_in.0;
      life_high = life_in.1;
      cap_low = cap_in.0;
      cap_high = cap_in.1;
      per_round_low = per_round_in.0;
      per_round_high = per_round_in.1;
      lms_low = types_in.0;
      lms_high = types_in.1;
      ots_low = types_in.2;
      ots_high = types_in.3;
    })))))))))))

-- ---- the parties

-- each entry that is read adds a key and an anchor
parties_counted : (front : List ℕ) (keys anchors : List (List ℕ)) (ds : Items) (parties : List (List ℕ) × List (List ℕ))
    → peers_from front keys anchors ds ≡ Ok parties
    → (length parties.0 ≡ length keys + count_of ds) × (length parties.1 ≡ length anchors + count_of ds)
parties_counted front keys anchors no_items parties h =
    let same : (keys, anchors) ≡ parties = cc in
    rw (sym same) (omega arith, omega arith)
parties_counted front keys anchors (item d ds) parties h =
    check_holds (peer_of front keys d) _ parties h (λ p is more.
    let counted = parties_counted front (keys ++ p.0 ∷ []) (anchors ++ p.1 ∷ []) ds parties more in
    let longer = length-append keys (p.0 ∷ []) in
    let longer_too = length-append anchors (p.1 ∷ []) in
    (omega (arith, counted.0, longer), omega (arith, counted.1, longer_too)))

-- how many rows a text has
record Counted (rows : List (List ℕ) × List (List ℕ) × ℕ) : Type 0 where
  low : 2 ≤ rows.2
  high : rows.2 ≤ most_peers
  keys : length rows.0 ≡ 1 + rows.2
  anchors : length rows.1 ≡ rows.2

listed_counted : (front : List ℕ) (ms : Members) (rows : List (List ℕ) × List (List ℕ) × ℕ) → listed_in front ms ≡ Ok rows → Counted rows
listed_counted front ms rows read =
    check_holds (field (key_of front []) CasterKey (codes "key") ms) _ rows read (λ key is_key after_key.
    check_holds (field peers_of Peers (codes "peer") ms) _ rows after_key (λ entries is_entries after_peers.
    check_holds (peers_from front (key ∷ []) [] entries) _ rows after_peers (λ parties is_parties after_parties.
    let listed = kind_holds peers_of Peers (get_member (codes "peer") ms) entries is_entries in
    let counted = entries_range listed.0 entries listed.1 in
    let grown = parties_counted front (key ∷ []) [] entries parties is_parties in
    let same : (parties.0, parties.1, count_of entries) ≡ rows = cc in
    subst Counted same (record { low = counted.0; high = counted.1; keys = grown.0; anchors = omega (arith, grown.1) }))))

-- ---- the leaves

leaves_test : (rounds leaves : ℕ) (b : Bool) → nat_le (leaves_a_round * rounds) leaves ≡ b
    → ◌≡◌ {A = Result (Unit {0}) SessionFault} (cond b (Ok tt) (Err (TooFewLeaves (leaves_a_round * rounds) leaves))) (Ok tt)
    → leaves_a_round * rounds ≤ leaves
leaves_test rounds leaves true is e = leb-true _ _ is
leaves_test rounds leaves false is e = cc

-- each message has a leaf
leaves_hold : (rounds leaves : ℕ) (u : Unit {0}) → enough_leaves rounds leaves ≡ Ok u → leaves_a_round * rounds ≤ leaves
leaves_hold rounds leaves u e = leaves_test rounds leaves _ refl e

-- ---- the session

-- the numbers of a session's datagrams are those of its text
record IsShapeOf (n : Numbers) (peers : ℕ) (s : Shape) : Type 0 where
  version : s.version ≡ n.version
  peers_are : s.peers ≡ peers
  rounds : s.rounds ≡ n.rounds
  life : s.life ≡ n.life
  per_round : s.per_round ≡ n.per_round
  sig_len : s.sig_len ≡ length_by (option_map height_of n.top) (params_of n.lms n.ots)

shape_by_holds : (n : Numbers) (peers : ℕ) (s : Shape) (b : Bool) (h : is_shaped n.id n.life ≡ b) → shape_by n peers b h ≡ Some s
    → IsShapeOf n peers s
shape_by_holds n peers s true h e =
    let parts : Shape = record {
      version = n.version;
      id = n.id;
      peers = peers;
      rounds = n.rounds;
      life = n.life;
      per_round = n.per_round;
      sig_len = length_by (option_map height_of n.top) (params_of n.lms n.ots);
      shaped = shaped n.id n.life h;
    } in
    let same : parts ≡ s = cc in
    subst (IsShapeOf n peers) same (record {
      version = refl;
      peers_are = refl;
      rounds = refl;
      life = refl;
      per_round = refl;
      sig_len = refl;
    })
shape_by_holds n peers s false h e = cc

-- numbers in range, with their shape and with enough parties and leaves, make a session
session_of_parts : (n : Numbers) (fanout : ℕ) (shape : Shape) (rows : List (List ℕ) × List (List ℕ) × ℕ)
    → AreInRange n → IsShapeOf n rows.2 shape → Counted rows → (1 ≤ fanout) × (fanout ≤ rows.2)
    → leaves_a_round * n.rounds ≤ leaves_by (option_map height_of n.top) (params_of n.lms n.ots)
    → IsSession (session_data n shape fanout (rows.0, rows.1))
session_of_parts n fanout shape rows range is counted spread leaves = record {
  shape = record {
    version_low = omega (arith, is.version, range.version_low);
    version_high = omega (arith, is.version, range.version_high);
    peers_low = omega (arith, is.peers_are, counted.low);
    peers_high = omega (arith, is.peers_are, counted.high);
    rounds_low = omega (arith, is.rounds, range.rounds_low);
    rounds_high = let most = rounds_most (is_some n.top) in omega (arith, is.rounds, range.rounds_high, most);
    life_low = omega (arith, is.life, range.life_low);
    per_round_low = omega (arith, is.per_round, range.per_round_low);
    per_round_high = subst (λ v. shape.per_round ≤ most_per_round v) (sym is.version) (omega (arith, is.per_round, range.per_round_high));
  };
  signatures = is.sig_len;
  levels = levels_are n.top n.lms n.ots range.lms_low range.lms_high range.ots_low range.ots_high;
  cap_low = range.cap_low;
  cap_high = range.cap_high;
  fanout_low = spread.0;
  fanout_high = omega (arith, is.peers_are, spread.1);
  keys = omega (arith, is.peers_are, counted.keys);
  anchors = omega (arith, is.peers_are, counted.anchors);
  leaves = rw is.rounds leaves;
}

-- what is read after numbers in range is a session
parties_in_range : (ms : Members) (n : Numbers) (s : SessionData) → AreInRange n → parties_of ms n ≡ Ok s → IsSession s
parties_in_range ms n s range read =
    let have : ℕ = leaves_by (option_map height_of n.top) (params_of n.lms n.ots) in
    check_holds (listed_in (front_of n) ms) _ s read (λ rows is_listed after_rows.
    check_holds (field (number_in 1 rows.2) Fanout (codes "fanout") ms) _ s after_rows (λ fanout is_fanout after_fanout.
    check_holds (enough_leaves n.rounds have) _ s after_fanout (λ leaves is_leaves after_leaves.
    check_holds (ok_or (shape_of n rows.2) (BadValue Id)) _ s after_leaves (λ shape is_shape after_shape.
    let counted = listed_counted (front_of n) ms rows is_listed in
    let enough = leaves_hold n.rounds have leaves is_leaves in
    let spread = in_range 1 rows.2 Fanout (get_member (codes "fanout") ms) fanout is_fanout in
    let made = ok_or_holds (shape_of n rows.2) (BadValue Id) shape is_shape in
    let from_numbers = shape_by_holds n rows.2 shape (is_shaped n.id n.life) refl made in
    let same : session_data n shape fanout (rows.0, rows.1) ≡ s = cc in
    subst IsSession same (session_of_parts n fanout shape rows range from_numbers counted spread enough)))))

-- an accepted session has its numbers in their ranges, a key and an anchor for each that needs one, and a leaf for each message
pub session_in_range : (bytes : List ℕ) (s : SessionData) → session_of bytes ≡ Ok s → IsSession s
session_in_range bytes s read =
    check_holds (ok_or (document bytes) NotToml) _ s read (λ ms is_table after_document.
    check_holds (numbers_of ms) (parties_of ms) s after_document (λ n is_numbers after_numbers.
    parties_in_range ms n s (numbers_in_range ms n is_numbers) after_numbers))
