-- What a briefcase and a key show.
use Rattle.std.proofs.Common.{◌≡◌, ◌∙◌, ◌&&◌, Bool, true, false, Option, refl, ap}
use Rattle.std.specs.Bool.{then_some}
use Rattle.std.specs.Option.{option_map_or}
use Rattle.bar_window.specs.declared.exchange.Exchange.{Exchange}
use Rattle.bar_terms.specs.Table.{Table, no_lists}
use Rattle.bar_case.specs.declared.findings.Opening.{Opening}
use Rattle.bar_wire.specs.Datagram.{Message, Briefcase, KeyGiven, exchange_by}
use Rattle.bar_rules.specs.Member.{Session}
use Rattle.bar_rules.specs.Values.{counts_ok, opening_of, terms_ok}

shown : (f : Opening → Bool) (valid counted : Bool) (o : Opening)
    → option_map_or f (then_some (valid && counted) o) false ≡ ((valid && counted) && f o)
shown f true true o = refl
shown f true false o = refl
shown f false counted o = refl

-- what a test says of an opening of the briefcase's exchange
pub opening_told : (f : Opening → Bool) (s : Session) (table : Table) (m : Message) (c : Briefcase) (k : KeyGiven) (x : Exchange) (o : Option Opening)
    → x ≡ exchange_by c.round c.kind c.role m.from m.to
    → o ≡ then_some (terms_ok s no_lists x c.terms && counts_ok s c) (opening_of s table x c k.key)
    → option_map_or f o false ≡ ((terms_ok s no_lists (exchange_by c.round c.kind c.role m.from m.to) c.terms && counts_ok s c)
    && f (opening_of s table (exchange_by c.round c.kind c.role m.from m.to) c k.key))
opening_told f s table m c k x o is opened =
    ap (λ o. option_map_or f o false) opened
    ∙ ap (λ x. option_map_or f (then_some (terms_ok s no_lists x c.terms && counts_ok s c) (opening_of s table x c k.key)) false) is
    ∙ shown f (terms_ok s no_lists (exchange_by c.round c.kind c.role m.from m.to) c.terms) (counts_ok s c)
    (opening_of s table (exchange_by c.round c.kind c.role m.from m.to) c k.key)

-- a test that holds, before others
pub before_one : (a b : Bool) → a ≡ true → b ≡ (a && b)
before_one a b e = rw e refl

pub before_three : (a b c d : Bool) → a ≡ true → ((b && c) && d) ≡ (((a && b) && c) && d)
before_three a b c d e = rw e refl
