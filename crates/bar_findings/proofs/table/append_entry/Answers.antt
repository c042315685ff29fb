use Rattle.std.proofs.Common.{sym, ap, ◌∙◌}
use Rattle.std.specs.Option.{option_copied}
use Rattle.bar_bytes.specs.Code.Rooms.{kept_in}
use Rattle.bar_findings.proofs.Writing.{entry-there, short-there}
use Rattle.bar_findings.proofs.table.append_entry.Goals as goal

pub returns-in-Some : goal.returns-in-Some
returns-in-Some g c = λ w was short.
    entry-there c.args.name.now _ c.in-Some.manifest.now _ _ _ (sym c.get.ensures ∙ ap option_copied c.in-Some.is)
    (c.append_manifest.ensures w was
    (short-there (kept_in c.args.manifests.now c.args.round) c.in-Some.manifest.now (sym c.get.ensures ∙ ap option_copied c.in-Some.is)
    (short c.args.round)))
