use Rattle.std.specs.Prelude.{slice_get}
use Rattle.std.proofs.Common.{◌≡◌, Some, length, sym, ap, ◌∙◌, arith}
use Rattle.segment_defs.specs.Version.{text_in}
use Rattle.version_reduce.specs.Texts.{fields_of}
use Rattle.version_reduce.specs.Converted.{converted_text}
use Rattle.version_reduce.proofs.ConvertLemmas.{HaveRoom-converted}
use Rattle.version_reduce.proofs.conversion.ConversionStep.apply.Goals as goal

pub converted_data-requires-clause-room : goal.converted_data-requires-clause-room
converted_data-requires-clause-room c = λ place field here.
    let definitions = c.args.self.now.definitions.now in
    let rows = c.args.self.now.rows.now in
    let head = c.args.head in
    let fields = fields_of definitions head in
    let sdata = c.as_slice.result.now in
    let fields_are = c.fields_of-fields.ensures.fields in
    let at : slice_get fields place ≡ Some field = ap (λ fs. slice_get fs place) (sym fields_are) ∙ here in
    let text_is = ap (λ type. converted_text rows type place (text_in c.fields_of-fields.result.now sdata place)) (ap (λ s. s.type) c.head.view_is)
    ∙ ap (λ fs. converted_text rows head.type place (text_in fs sdata place)) fields_are
    ∙ ap (λ bytes. converted_text rows head.type place (text_in fields bytes place)) (c.as_slice.ensures ∙ ap (λ s. s.sdata) c.head.view_is) in
    omega (arith, HaveRoom-converted definitions rows head c.requires.0 c.requires.1 place field at, ap length text_is)
