-- What a search for evidence reads, and what it returns.
use Rattle.std.specs.Prelude.{◌≡◌, ℕ, true, List, [], ◌∷◌, Option, Some, is_some, option_map, option_copied}
use Rattle.std.specs.Borrow.{Bor}
use Rattle.bar_terms.specs.Table.{digests_of}
use Rattle.bar_wire.specs.Bodies.{is_peer_kind}
use Rattle.bar_case.specs.Opened.{is_bad}
use Rattle.bar_window.specs.declared.exchange.Exchange.{Exchange}
use Rattle.bar_window.specs.declared.exchange.Role.{Role}
use Rattle.bar_wire.specs.Datagram.{Datagram, Briefcase, Case, Key, KeyGiven}
use Rattle.bar_wire.specs.declared.kind.Kind.TheVariants as kinds
use Rattle.bar_wire.specs.Code.Views.{plain}
use Rattle.bar_ledger.specs.Code.Recalls.{Recalls}
use Rattle.bar_rules.specs.Member.{Member}
use Rattle.bar_rules.specs.Values.{opening_of}
use Rattle.bar_rules.specs.Peer.Evidence.{is_tried}
use Rattle.bar_rules.specs.Peer.Knowledge.{Knowledge, table_of}
use Rattle.bar_laws.specs.Soundness.{IsSound}
use Rattle.bar_seal.specs.declared.scheme.Verifier.{Ghosts}
use Rattle.bar_peer.specs.declared.guard.Guard.{Guard}
use Rattle.bar_peer.specs.declared.search.Search.{Search}
use Rattle.bar_peer.specs.Code.Arrivals.{IsReadBy, datagram_by}
use Rattle.bar_peer.specs.Code.Checking.{IsGuardOf}
use Rattle.bar_peer.specs.Code.Memory.{member_of}

-- the peer that searches, and the datagram that it searches
abbrev pub searcher : Search → Member
searcher s = member_of s.who.now

abbrev pub searched : Search → Datagram
searched s = datagram_by s.who.now s.arrival.now

-- The datagram is decoded and of a kind that peers sign, and the guard is one of the session.
pub record MaySearch {V : Type 0} {g : Ghosts V} (s : Search) (guard : Guard V g) : Type 0 where
  pub read : IsReadBy s.who.now s.arrival.now
  pub signed : is_peer_kind (plain s.arrival.now.view.body) ≡ true
  pub guards : IsGuardOf s.who.now.session guard

-- if an admitted KEY opens the admitted CASE of the same side badly, evidence against its sender is kept
abbrev pub KeysAreCaught : Member → Knowledge → Type 0
KeysAreCaught me k =
    (x : Exchange) (role : Role) (d e : Datagram) (g : KeyGiven) (c : Briefcase) → k.heard kinds.Key x role ≡ Some d
    → d.message.body ≡ Key g → k.heard kinds.Case x role ≡ Some e → e.message.body ≡ Case c → is_bad (opening_of me.session (table_of k) x c g.key) ≡ true
    → is_some (k.evidence d.message.from) ≡ true

-- The search reads this knowledge, by which the datagram is to be searched for evidence.
pub record GoesBy (k : Knowledge) (s : Search) : Type 0 where
  pub recalls : Recalls (searcher s) k s.ledger.now
  pub table : table_of k ≡ digests_of s.table.now.lists
  pub sound : IsSound (searcher s) k
  pub caught : KeysAreCaught (searcher s) k
  pub tried : is_tried (searcher s) k (searched s) ≡ true

-- the evidence of an earlier datagram followed by the searched one, if there is one
abbrev pub pair_behind : Search → Option (Bor (List ℕ)) → Option (List (List ℕ))
pair_behind s earlier = option_map (λ heard. heard ∷ s.arrival.now.bytes.now ∷ []) (option_copied earlier)
