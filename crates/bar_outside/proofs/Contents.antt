-- What in-memory files hold after a change of their map.
use Rattle.std.proofs.Common.{◌≡◌, ℕ, List, ◌++◌, ◌||◌, ◌≢◌, [], append-nil, Bool, true, false, Option, None, Some, refl, sym, ◌∙◌, ap, cond, take, String, Result, Ok, Err, IfOk}
use Rattle.std.specs.Option.{option_map, option_map_or}
use Rattle.std.specs.Map.{update}
use Rattle.std.specs.Str.{bytes_eq}
use Rattle.std.specs.BTreeMap.{BTreeMap, UpdatesBy, get_by_text}
use Rattle.std.specs.String.{string_cmp, string_bytes}
use Rattle.std.specs.Cmp.Lexicographic.{slice_cmp}
use Rattle.std.specs.Ordering.{nat_cmp}
use Rattle.std.specs.declared.alloc.Global.{Global}
use Rattle.std.proofs.lemmas.Map.Text.{btree_map_updates_text}
use Rattle.std.proofs.lemmas.Slice.Eq.{bytes_eq-Decides}
use Rattle.std.proofs.lemmas.Bool.{false_from_ne_true}
use mathlib.Core.Path.{fun_ext}
use Rattle.bar_outside.specs.Disk.{Content, appended, put_at, with_file}
use Rattle.bar_outside.specs.Code.MemFiles.{content_of, created_in}
use Rattle.bar_outside.specs.declared.mem_file.MemFile.{MemFile}

option_map-cond : {A B : Type 0} (f : A → B) (b : Bool) (x y : Option A) → option_map f (cond b x y) ≡ cond b (option_map f x) (option_map f y)
option_map-cond f true x y = refl
option_map-cond f false x y = refl

-- a change at one name
pub content_of-updates : (bs : List ℕ) (old new : BTreeMap (String Global) MemFile) (w : Option MemFile) →
    UpdatesBy string_cmp (λ k. slice_cmp nat_cmp bs (string_bytes k)) old new w →
    content_of new ≡ update bytes_eq (content_of old) bs (option_map (λ file. file.bytes.items) w)
content_of-updates bs old new w h =
    fun_ext (λ cs. ap (option_map (λ file. file.bytes.items)) (btree_map_updates_text bs old new w h cs) ∙ option_map-cond (λ file. file.bytes.items) (bytes_eq bs cs) w (get_by_text old cs))

map_or-cond : {A B : Type 0} (f : A → B) (b : Bool) (x y : Option A) (d : B) → option_map_or f (cond b x y) d ≡ cond b (option_map_or f x d) (option_map_or f y d)
map_or-cond f true x y d = refl
map_or-cond f false x y d = refl

-- the created files after a change
created_in-updates : (bs : List ℕ) (old new : BTreeMap (String Global) MemFile) (w : Option MemFile) →
    UpdatesBy string_cmp (λ k. slice_cmp nat_cmp bs (string_bytes k)) old new w →
    (cs : List ℕ) → created_in new cs ≡ cond (bytes_eq bs cs) (option_map_or (λ file. file.created) w false) (created_in old cs)
created_in-updates bs old new w h cs =
    ap (λ (o : Option MemFile). option_map_or (λ file. file.created) o false) (btree_map_updates_text bs old new w h cs)
    ∙ map_or-cond (λ file. file.created) (bytes_eq bs cs) w (get_by_text old cs) false

cond-same : {A : Type 0} (b : Bool) (x y : A) → (b ≡ true → x ≡ y) → cond b x y ≡ y
cond-same true x y h = h refl
cond-same false x y h = refl

-- an update with the value that is already there
pub update-same : (content : Content) (bs : List ℕ) (w : Option (List ℕ)) → content bs ≡ w → update bytes_eq content bs w ≡ content
update-same content bs w h = fun_ext (λ cs. cond-same (bytes_eq bs cs) w (content cs) (λ e. sym h ∙ ap content ((bytes_eq-Decides bs cs).0 e)))

-- an update that keeps whether the file was created
pub created_in-same : (bs : List ℕ) (old new : BTreeMap (String Global) MemFile) (now : MemFile) →
    UpdatesBy string_cmp (λ k. slice_cmp nat_cmp bs (string_bytes k)) old new (Some now) → now.created ≡ created_in old bs →
    created_in new ≡ created_in old
created_in-same bs old new now h same =
    fun_ext (λ cs. created_in-updates bs old new (Some now) h cs
    ∙ cond-same (bytes_eq bs cs) now.created (created_in old cs) (λ e. same ∙ ap (created_in old) ((bytes_eq-Decides bs cs).0 e)))

or-cond : (a b : Bool) → cond a true b ≡ (a || b)
or-cond true b = refl
or-cond false b = refl

-- after a file of this name was put

pub created_in-kept : (name : String Global) (bs : List ℕ) (old new : BTreeMap (String Global) MemFile) (now : MemFile) →
    UpdatesBy string_cmp (string_cmp name) old new (Some now) → string_bytes name ≡ bs → now.created ≡ created_in old bs →
    created_in new ≡ created_in old
created_in-kept name bs old new now h e same = created_in-same (string_bytes name) old new now h (same ∙ ap (created_in old) (sym e))

pub created_in-made : (name : String Global) (bs : List ℕ) (old new : BTreeMap (String Global) MemFile) (now : MemFile) →
    UpdatesBy string_cmp (string_cmp name) old new (Some now) → string_bytes name ≡ bs → now.created ≡ true →
    created_in new ≡ with_file (created_in old) bs
created_in-made name bs old new now h e made =
    fun_ext (λ cs. created_in-updates (string_bytes name) old new (Some now) h cs
    ∙ ap (λ b. cond (bytes_eq (string_bytes name) cs) b (created_in old cs)) made
    ∙ or-cond (bytes_eq (string_bytes name) cs) (created_in old cs) ∙ ap (λ path. bytes_eq path cs || created_in old cs) e)

option_map-same : {A : Type 0} (f : A → A) (o : Option A) → ((a : A) → f a ≡ a) → option_map f o ≡ o
option_map-same f None h = refl
option_map-same f (Some a) h = ap Some (h a)

-- bytes are appended to an existing file
pub appended-there : (content : Content) (bs held : List ℕ) (piece : List ℕ) → content bs ≡ Some held → update bytes_eq content bs (Some (held ++ piece)) ≡ appended content bs piece
unfolding appended
appended-there content bs held piece h = ap (λ o. update bytes_eq content bs (option_map (λ xs. xs ++ piece) o)) (sym h)

-- after bytes were appended to the old content
pub content_of-add : (bs piece : List ℕ) (old new : BTreeMap (String Global) MemFile) (was now : MemFile) →
    UpdatesBy string_cmp (λ k. slice_cmp nat_cmp bs (string_bytes k)) old new (Some now) →
    Some was ≡ get_by_text old bs → now.bytes.items ≡ was.bytes.items ++ piece →
    content_of new ≡ appended (content_of old) bs piece
content_of-add bs piece old new was now h there items =
    let e : content_of old bs ≡ Some was.bytes.items = ap (option_map (λ file. file.bytes.items)) (sym there) in
    content_of-updates bs old new (Some now) h ∙ ap (λ xs. update bytes_eq (content_of old) bs (Some xs)) items ∙ appended-there (content_of old) bs was.bytes.items piece e

-- after a file of this name was put
pub content_of-put : (name : String Global) (bs : List ℕ) (old new : BTreeMap (String Global) MemFile) (now : MemFile) (held : List ℕ) →
    UpdatesBy string_cmp (string_cmp name) old new (Some now) →
    string_bytes name ≡ bs → now.bytes.items ≡ held →
    content_of new ≡ put_at (content_of old) bs held
unfolding put_at
content_of-put name bs old new now held h e items =
    content_of-updates (string_bytes name) old new (Some now) h ∙ ap (λ xs. update bytes_eq (content_of old) (string_bytes name) (Some xs)) items
    ∙ ap (λ path. update bytes_eq (content_of old) path (Some held)) e

at-name : (content : Content) (path : List ℕ) (w : Option (List ℕ)) → update bytes_eq content path w path ≡ w
at-name content path w = let same = (bytes_eq-Decides path path).1 refl in rw same

at-other : (content : Content) (path : List ℕ) (w : Option (List ℕ)) (q : List ℕ) → q ≢ path → update bytes_eq content path w q ≡ content q
at-other content path w q differs = let other : bytes_eq path q ≡ false = false_from_ne_true (bytes_eq path q) (λ e. differs (sym ((bytes_eq-Decides path q).0 e))) in rw other

-- a file that was put exists, with its bytes
pub put_at-same : (content : Content) (path bytes : List ℕ) → put_at content path bytes path ≡ Some bytes
unfolding put_at
put_at-same content path bytes = at-name content path (Some bytes)

-- the other files are unchanged
pub put_at-other : (content : Content) (path bytes q : List ℕ) → q ≢ path → put_at content path bytes q ≡ content q
unfolding put_at
put_at-other content path bytes q differs = at-other content path (Some bytes) q differs

-- bytes are appended to an existing file
pub appended-same : (content : Content) (path bytes held : List ℕ) → content path ≡ Some held → appended content path bytes path ≡ Some (held ++ bytes)
unfolding appended
appended-same content path bytes held h = at-name content path _ ∙ ap (option_map (λ xs. xs ++ bytes)) h

pub appended-other : (content : Content) (path bytes q : List ℕ) → q ≢ path → appended content path bytes q ≡ content q
unfolding appended
appended-other content path bytes q differs = at-other content path _ q differs

-- appending nothing changes nothing
pub appended-nothing : (content : Content) (path : List ℕ) → appended content path [] ≡ content
unfolding appended
appended-nothing content path =
    update-same content path (option_map (λ held. held ++ []) (content path)) (sym (option_map-same (λ held. held ++ []) (content path) append-nil))

-- after nothing was appended
pub content_of-left : (bs : List ℕ) (old new : BTreeMap (String Global) MemFile) (was now : MemFile) →
    UpdatesBy string_cmp (λ k. slice_cmp nat_cmp bs (string_bytes k)) old new (Some now) →
    Some was ≡ get_by_text old bs → now.bytes.items ≡ was.bytes.items → content_of new ≡ content_of old
content_of-left bs old new was now h there items =
    content_of-add bs [] old new was now h there (items ∙ sym (append-nil was.bytes.items)) ∙ appended-nothing (content_of old) bs

pub created_in-left : (bs : List ℕ) (old new : BTreeMap (String Global) MemFile) (was now : MemFile) →
    UpdatesBy string_cmp (λ k. slice_cmp nat_cmp bs (string_bytes k)) old new (Some now) →
    Some was ≡ get_by_text old bs → now.created ≡ was.created → created_in new ≡ created_in old
created_in-left bs old new was now h there same =
    created_in-same bs old new now h (same ∙ ap (λ (o : Option MemFile). option_map_or (λ file. file.created) o false) there)

-- after an attempt to append bytes: a prefix of them was appended, and nothing if the file wasn't created in this run
module _ {E : Type 0} (content new : Content) (here : Bool) (path bytes : List ℕ) (k : ℕ) where
  pub front-added : (r : Result Bool E) → (r ≡ Ok true → new ≡ appended content path (take k bytes)) → ((r ≡ Ok true → ⊥) → new ≡ content) →
      (n : ℕ) × (new ≡ appended content path (take n bytes))
  front-added (Ok true) added left = (k, added refl)
  front-added (Ok false) added left = (0, left (λ e. cc) ∙ sym (appended-nothing content path))
  front-added (Err e) added left = (0, left (λ e. cc) ∙ sym (appended-nothing content path))

  pub none-added : (r : Result Bool E) → IfOk r (λ done. done ≡ here) → ((r ≡ Ok true → ⊥) → new ≡ content) → here ≡ false → new ≡ content
  none-added (Ok true) done left not = absurd cc
  none-added (Ok false) done left not = left (λ e. cc)
  none-added (Err e) done left not = left (λ e. cc)
