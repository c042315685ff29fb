-- In a balanced exchange nothing of the other kinds is written.
use Rattle.std.proofs.Common.{◌≡◌, ◌∙◌, None, refl, ap}
use Rattle.std.specs.Prelude.{option_map}
use Rattle.bar_window.specs.declared.exchange.Exchange.{Exchange}
use Rattle.bar_window.specs.declared.exchange.XKind.TheVariants.{Balanced}
use Rattle.bar_wire.specs.Datagram.{Query, Reply}
use Rattle.bar_wire.specs.declared.kind.Kind.{Kind}
use Rattle.bar_wire.specs.declared.kind.Kind.TheVariants as kinds
use Rattle.bar_rules.specs.Member.{Member}
use Rattle.bar_rules.specs.Secrets.{seed_of}
use Rattle.bar_rules.specs.Peer.Agreement.{IsRecent}
use Rattle.bar_rules.specs.Peer.Knowledge.{Knowledge}
use Rattle.bar_rules.specs.Peer.Writing.{body_now}
use Rattle.bar_ledger.specs.declared.ledger.Ledger.{Ledger}
use Rattle.bar_ledger.specs.Code.Lookups.{knows_offer, knows_answer, offer_of, reply_of}
use Rattle.bar_ledger.specs.Code.Recalls.{Recalls}
use Rattle.bar_exchange.proofs.Knowing.{no_part}
use Rattle.bar_exchange.proofs.Begun.{no_offer, no_reply}

pub no_body : (me : Member) (k : Knowledge) (l : Ledger) (x : Exchange) (kind : Kind) → Recalls me k l → IsRecent me k x.round → x.kind ≡ Balanced
    → (kind ≡ kinds.Request → ⊥) → (kind ≡ kinds.Response → ⊥) → (kind ≡ kinds.Divulge → ⊥) → (kind ≡ kinds.Case → ⊥)
    → (kind ≡ kinds.KeyReq → ⊥) → (kind ≡ kinds.Key → ⊥) → body_now me k kind x ≡ None
no_body me k l x kinds.Query h recent is request response divulge case key_request key =
    ap (option_map (λ q. Query x.round (seed_of me x.round) q.0 q.1))
    (h.offers x recent ∙ no_part knows_offer offer_of Balanced no_offer me l x (h.kept x) is)
no_body me k l x kinds.Reply h recent is request response divulge case key_request key =
    ap (option_map (λ t. Reply x.round t.0 t.1 t.2)) (h.replies x recent ∙ no_part knows_answer reply_of Balanced no_reply me l x (h.kept x) is)
no_body me k l x kinds.Manifest h recent is request response divulge case key_request key = refl
no_body me k l x kinds.Block h recent is request response divulge case key_request key = refl
no_body me k l x kinds.Evidence h recent is request response divulge case key_request key = refl
no_body me k l x kinds.Evict h recent is request response divulge case key_request key = refl
no_body me k l x kinds.Request h recent is request response divulge case key_request key = absurd (request refl)
no_body me k l x kinds.Response h recent is request response divulge case key_request key = absurd (response refl)
no_body me k l x kinds.Divulge h recent is request response divulge case key_request key = absurd (divulge refl)
no_body me k l x kinds.Case h recent is request response divulge case key_request key = absurd (case refl)
no_body me k l x kinds.KeyReq h recent is request response divulge case key_request key = absurd (key_request refl)
no_body me k l x kinds.Key h recent is request response divulge case key_request key = absurd (key refl)
