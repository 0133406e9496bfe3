use Rattle.std.specs.Prelude.{All}
use Rattle.std.proofs.Common.{sym, subst}
use Rattle.log_tables.specs.Read.{IsProper}
use Rattle.log_reading.proofs.ProperLemmas.{AreProper-entries}
use Rattle.document_state.proofs.LogRulesLemmas.{commit-few}
use Rattle.unit_landscape.specs.Volumes.{moments_in}
use Rattle.landscape.proofs.ReadingLemmas.{read-log}
use Rattle.landscape.proofs.landscape.opening.read_volume.Goals as goal

pub read_log-read-requires-clause-few : goal.read_log-read-requires-clause-few
read_log-read-requires-clause-few g c = commit-few c.rules.result.now.systems

pub read_log-read-requires-clause-proper : goal.read_log-read-requires-clause-proper
read_log-read-requires-clause-proper g c =
    subst (λ log. All IsProper log) (sym c.log.ensures.log)
    (AreProper-entries (moments_in c.args.volume.now) (c.args.volume.now).log c.moments.ensures.each c.log.ensures.entries)

pub returns-in-Ok-Ok : goal.returns-in-Ok-Ok
returns-in-Ok-Ok g c =
    let read = rw c.in-Ok-Ok.field-0-is at c.in-Ok-Ok.ensures in
    read-log c.args.text.now c.args.volume.now c.moments.ensures.each c.rules.result.now c.moments.result.now c.log.result.now c.args.system
    c.rules.ensures c.moments.ensures.moments c.log.ensures.log c.requires.number c.in-Ok-Ok.its c.into_tables.result c.into_tables.ensures
    read.0 read.1
