use Rattle.std.proofs.Common.{rules, ◌≡◌, ◌∙◌, ap, subst, length}
use Rattle.hex.specs.Hex.{IsBytes}
use Rattle.std.specs.Prelude.{is_some}
use Rattle.bar_roster.specs.declared.key_fields.KeyData.{KeyData}
use Rattle.bar_roster.specs.KeyText.{key_read, key_text_of}
use Rattle.bar_roster.proofs.KeyReadBack.{IsWritable, key_read-written}
use Rattle.bar_roster.proofs.key_fields.KeyData.text.Goals as goal

pub returns-clause-reads_back : goal.returns-clause-reads_back
returns-clause-reads_back c ranges =
    let k : KeyData = c.args.self.now in
    let text : c.into_bytes.result.items ≡ key_text_of k = search rules in
    let id_length : length k.id ≡ 8 = search rules in
    let secret_length : length k.secret ≡ 32 = search rules in
    let id_same : c.as_slice.result.now ≡ k.id = search rules in
    let secret_same : c.as_slice-2.result.now ≡ k.secret = search rules in
    let whole : IsWritable k = record {
      range = ranges;
      id_bytes = subst IsBytes id_same c.hex_digits.ensures.bytes;
      id_length = id_length;
      secret_bytes = subst IsBytes secret_same c.hex_digits-2.ensures.bytes;
      secret_length = secret_length;
    } in
    ap (key_read (is_some k.top)) text ∙ key_read-written k whole
