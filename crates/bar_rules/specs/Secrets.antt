-- What is derived from a member's secret, and how a partner is chosen.
use Rattle.std.specs.Prelude.{ℕ, Bool, List}
use Rattle.bar_window.specs.declared.update.UpdateId.{UpdateId}
use Rattle.bar_window.specs.declared.exchange.Exchange.{Exchange}
use Rattle.bar_window.specs.declared.exchange.Role.{Role}
use Rattle.bar_window.specs.declared.exchange.XKind.{XKind}
use Rattle.bar_wire.specs.Grammar.{words_of}
use Rattle.bar_lms.specs.Schemes.{signed_by}
use Rattle.bar_seeds.specs.declared.secrets.Secrets.{Secrets}
use Rattle.bar_seeds.specs.Seeds as seeds
use Rattle.bar_seeds.specs.Partners as partners
use Rattle.bar_seeds.specs.Derived as derived
use Rattle.bar_session.specs.Fits.{secrets_in}
use Rattle.bar_session.specs.Points.{anchor_in}
use Rattle.bar_rules.specs.Member.{Session, Member}

abbrev pub secrets_of : Member → Secrets
secrets_of me = secrets_in me.session me.party me.secret

-- the nonce of an exchange, and the key of the briefcase that a side of it seals
abbrev pub nonce_of : Member → Exchange → List ℕ
nonce_of me x = derived.nonce_of (secrets_of me) x

abbrev pub briefcase_key : Member → Exchange → Role → List ℕ
briefcase_key me x role = derived.briefcase_key (secrets_of me) x role

-- the commitment to a nonce and a history
abbrev pub commitment_of : Session → Exchange → List ℕ → List UpdateId → List ℕ
commitment_of s x nonce ha = derived.commitment_of (words_of s.shape) s.shape.life s.shape.id x nonce ha

-- the seed of a round
abbrev pub seed_of : Member → ℕ → List ℕ
seed_of me round = seeds.seed_of (secrets_of me) me.session.shape.rounds round

-- whether it is a peer's seed of a round
abbrev pub is_seed : Session → ℕ → ℕ → List ℕ → Bool
is_seed s peer round seed = seeds.is_seed s.shape.id (anchor_in s peer) peer round seed

-- the partner that a seed chooses for a peer
abbrev pub partner_of : Session → List ℕ → XKind → ℕ → ℕ
partner_of s seed kind peer = partners.partner_of s.shape.id s.shape.peers seed kind peer

-- the signature with a leaf of the key derived from a secret
abbrev pub signature_of : Member → ℕ → List ℕ → List ℕ
signature_of me leaf message = signed_by me.session.top me.session.params me.session.shape.id me.secret leaf message
