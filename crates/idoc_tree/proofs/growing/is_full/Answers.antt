use Rattle.std.proofs.lemmas.Bool.{lt-leb}
use Rattle.std.specs.Prelude.{◌-◌}
use Rattle.std.proofs.Common.{◌∙◌, sym, length, arith}
use Rattle.std.proofs.lemmas.Option.{slice_get-get_or}
use Rattle.std.proofs.Math.ListN.{get_or}
use Rattle.idoc_tree.proofs.SiblingLemmas.{is_full-nodes, not_full-nodes}
use Rattle.idoc_tree.proofs.growing.is_full.Goals as goal

pub returns-then-max-among : goal.returns-then-max-among
returns-then-max-among c =
    let among = c.args.among.now in
    let at = length among - c.args.max in
    c.eq.ensures
    ∙ sym (is_full-nodes c.args.segment c.args.max among (get_or among at c.index-among-among.result) c.requires.last c.requires.least c.if-max-among.true
    (slice_get-get_or among at c.index-among-among.result (omega arith)))

pub returns-else-max-among : goal.returns-else-max-among
returns-else-max-among c =
    lt-leb c.args.max (length c.args.among.now) c.if-max-among.false
    ∙ sym (not_full-nodes c.args.segment c.args.max c.args.among.now c.if-max-among.false)
