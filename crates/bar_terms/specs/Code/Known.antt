-- The values that the code's digests represent.
use Rattle.bar_terms.specs.Table.{Digest, Known, PastEnd, NoManifest}
use Rattle.bar_terms.specs.declared.table.Digest.{Digest as TableDigest}
use Rattle.bar_terms.specs.declared.table.Digest.TheVariants as code

abbrev pub plain_digest : TableDigest → Digest
plain_digest (code.Known d) = Known d.now
plain_digest code.PastEnd = PastEnd
plain_digest code.NoManifest = NoManifest
