use Rattle.std.specs.Str.{is_utf8}
use Rattle.std.proofs.Common.{◌∙◌, ap, string_bytes, sym}
use Rattle.std.proofs.lemmas.Str.{IsUtf8-string_bytes, is_utf8-from_IsUtf8}
use Rattle.script_text.proofs.file_name.FileName.as_str.Goals as goal

pub returns-clause-utf8 : goal.returns-clause-utf8
returns-clause-utf8 c =
    let name = c.self.inside.name in ap is_utf8 (sym c.self.view_is) ∙ is_utf8-from_IsUtf8 (string_bytes name) (IsUtf8-string_bytes name)
