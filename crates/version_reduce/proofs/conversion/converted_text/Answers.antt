use Rattle.std.proofs.Common.{◌∙◌, sym, arith}
use Rattle.version_reduce.proofs.ConvertLemmas.{row-passes, row-replaces, none-replaces}
use Rattle.version_reduce.proofs.conversion.converted_text.Goals as goal

pub loop-row-preserved : goal.loop-row-preserved
loop-row-preserved c =
    row-passes c.args.rows.now c.args.segment c.args.field c.args.value.now c.loop-row.row-index c.loop-row.invariant c.row-item.result c.loop-row-test.true
    c.row-item.is
    (sym c.if-replaces.ensures)

pub returns : goal.returns
returns c = none-replaces c.args.rows.now c.args.segment c.args.field c.args.value.now c.loop-row.row-index c.loop-row.invariant (omega arith)

pub returns-then-replaces : goal.returns-then-replaces
returns-then-replaces c =
    c.as_slice.ensures
    ∙ row-replaces c.args.rows.now c.args.segment c.args.field c.args.value.now c.loop-row.row-index c.loop-row.invariant c.row-item.result c.loop-row-test.true
    c.row-item.is
    (sym c.if-replaces.ensures)
