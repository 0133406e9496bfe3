use Rattle.std.proofs.Common.{◌≡◌, ◌+◌, ◌-◌, suc, length, Some, ap, sym, ◌∙◌, arith}
use Rattle.std.specs.Prelude.{slice_get}
use Rattle.segment_defs.specs.Version.{width_of}
use Rattle.segment_defs.proofs.WidthLemmas.{laid_out-end}
use Rattle.segment_defs.proofs.version.Version.width.Goals as goal
use Rattle.segment_defs.proofs.version.Version.width.Goals.{After-from-in-Some}

is_width : (c : After-from-in-Some) → c.from.result + c.from-in-Some.result ≡ width_of c.args.self.now.fields
is_width c =
    let fields = c.args.self.now.fields in
    let last = c.in-Some.last.now in
    let here : slice_get fields (length fields - 1) ≡ Some last = ap (λ fs. slice_get fs (length fs - 1)) (sym c.as_slice.ensures)
    ∙ sym c.in-Some.ensures.value in
    let long : suc (length fields - 1) ≡ length fields = omega (arith, ap length c.as_slice.ensures, c.in-Some.ensures.item.3.0) in
    omega (arith, laid_out-end 0 fields (length fields - 1) last c.requires.laid_out long here, c.from.ensures, c.from-in-Some.ensures)

pub overflow_add-result : goal.overflow_add-result
overflow_add-result c = omega (arith, is_width c, c.requires.fits)

pub returns-in-Some : goal.returns-in-Some
returns-in-Some c = is_width c
