-- In a push nothing of the other kinds is written.
use Rattle.std.proofs.Common.{◌≡◌, ◌∙◌, None, refl, ap}
use Rattle.std.specs.Prelude.{option_map}
use Rattle.bar_window.specs.declared.exchange.Exchange.{Exchange}
use Rattle.bar_window.specs.declared.exchange.XKind.TheVariants.{Push}
use Rattle.bar_wire.specs.Datagram.{Request, Response, Divulge}
use Rattle.bar_wire.specs.declared.kind.Kind.{Kind}
use Rattle.bar_wire.specs.declared.kind.Kind.TheVariants as kinds
use Rattle.bar_rules.specs.Member.{Member}
use Rattle.bar_rules.specs.Secrets.{seed_of, commitment_of}
use Rattle.bar_rules.specs.Peer.Agreement.{IsRecent}
use Rattle.bar_rules.specs.Peer.Knowledge.{Knowledge}
use Rattle.bar_rules.specs.Peer.Writing.{body_now}
use Rattle.bar_ledger.specs.declared.ledger.Ledger.{Ledger}
use Rattle.bar_ledger.specs.Code.Lookups.{knows_commit, knows_answer, commit_of, history_of}
use Rattle.bar_ledger.specs.Code.Recalls.{Recalls}
use Rattle.bar_exchange.proofs.Knowing.{no_part}
use Rattle.bar_exchange.proofs.Begun.{no_commit, no_history}

pub no_body : (me : Member) (k : Knowledge) (l : Ledger) (x : Exchange) (kind : Kind) → Recalls me k l → IsRecent me k x.round → x.kind ≡ Push
    → (kind ≡ kinds.Query → ⊥) → (kind ≡ kinds.Reply → ⊥) → (kind ≡ kinds.Case → ⊥) → (kind ≡ kinds.KeyReq → ⊥) → (kind ≡ kinds.Key → ⊥)
    → body_now me k kind x ≡ None
no_body me k l x kinds.Request h recent is query reply case key_request key =
    ap (option_map (λ a. Request x.round (seed_of me x.round) (commitment_of me.session x a.0 a.1)))
    (h.revealed x recent ∙ no_part knows_commit commit_of Push no_commit me l x (h.kept x) is)
no_body me k l x kinds.Divulge h recent is query reply case key_request key =
    ap (option_map (λ a. Divulge x.round a.0 a.1)) (h.revealed x recent ∙ no_part knows_commit commit_of Push no_commit me l x (h.kept x) is)
no_body me k l x kinds.Response h recent is query reply case key_request key =
    ap (option_map (λ hb. Response x.round hb)) (h.answers x recent ∙ no_part knows_answer history_of Push no_history me l x (h.kept x) is)
no_body me k l x kinds.Manifest h recent is query reply case key_request key = refl
no_body me k l x kinds.Block h recent is query reply case key_request key = refl
no_body me k l x kinds.Evidence h recent is query reply case key_request key = refl
no_body me k l x kinds.Evict h recent is query reply case key_request key = refl
no_body me k l x kinds.Query h recent is query reply case key_request key = absurd (query refl)
no_body me k l x kinds.Reply h recent is query reply case key_request key = absurd (reply refl)
no_body me k l x kinds.Case h recent is query reply case key_request key = absurd (case refl)
no_body me k l x kinds.KeyReq h recent is query reply case key_request key = absurd (key_request refl)
no_body me k l x kinds.Key h recent is query reply case key_request key = absurd (key refl)
