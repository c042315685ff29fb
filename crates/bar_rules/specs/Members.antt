-- The party of a session to which secrets belong.
use Rattle.bar_session.specs.SessionData.{SessionData}
use Rattle.bar_seeds.specs.declared.secrets.Secrets.{Secrets}
use Rattle.bar_rules.specs.Member.{Member}

abbrev pub member_by : SessionData → Secrets → Member
member_by session secrets = record { session = session; party = secrets.party; secret = secrets.secret }
