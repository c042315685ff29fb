-- The text written again from a key that was accepted.
use Rattle.std.specs.Prelude.{ℕ, Bool, List, option_map}
use Rattle.bar_lms.specs.Params.{lms_type, ots_type}
use Rattle.bar_seeds.specs.declared.secrets.Secrets.{Secrets}
use Rattle.bar_roster.specs.KeyText.{any_key_data, key_text_of}
use Rattle.bar_session.specs.SessionData.{SessionData}

-- the text of a party's secret in a session, spent or not
abbrev pub text_of : SessionData → Secrets → Bool → List ℕ
text_of s k spent =
    key_text_of (any_key_data k.party s.shape.id s.shape.rounds (lms_type s.params.height) (ots_type s.params.ots)
    (option_map lms_type s.top) k.secret spent)

-- the most bytes of a text of a key
abbrev pub longest_text : ℕ
longest_text = 248
