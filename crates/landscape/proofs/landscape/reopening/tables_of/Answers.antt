use Rattle.std.specs.Prelude.{All}
use Rattle.std.specs.Option.{option_copied}
use Rattle.std.proofs.Common.{◌≡◌, Some, ap, sym, subst, ◌∙◌}
use Rattle.trfc_protocol.specs.declared.world.World.{World}
use Rattle.trfc_protocol.specs.Worlds.{log_of}
use Rattle.log_tables.specs.Read.{IsProper}
use Rattle.unit_landscape.specs.Reopening.{AreTablesLooked, rest_found}
use Rattle.document_state.specs.Tables.{AreTablesOf}
use Rattle.document_state.specs.declared.document_tables.DocumentTables.{DocumentTables}
use Rattle.document_state.specs.declared.model_rules.ModelRules.{ModelRules}
use Rattle.document_state.proofs.LogRulesLemmas.{commit-few}
use Rattle.unit_journal.specs.Looking.{system_of}
use Rattle.landscape.proofs.BegunLemmas.{meaning}
use Rattle.landscape.proofs.ReopenedLemmas.{proper-found, proper-kept, read-kept, tables-kept, tables-taken}
use Rattle.landscape.proofs.landscape.reopening.tables_of.Goals as goal

pub read_log-requires : goal.read_log-requires
read_log-requires g c =
    let kept = c.args.units.now in
    let looked = c.args.looked.now in
    let log_is : c.log-log.result.now ≡ log_of kept.world (system_of looked) =
    c.log-log.ensures ∙ ap (λ (w : World ModelRules). log_of w c.system-system.result) c.world-world.ensures.world
    ∙ ap (log_of kept.world) c.system-system.ensures in
    record {
      proper = subst (All IsProper) (sym log_is)
          (proper-kept g.V.Volumes.disk kept c.world-world.ensures.safe c.world-world.ensures.kept.on_volumes looked c.requires.down);
    }

pub take-requires-clause-few : goal.take-requires-clause-few
take-requires-clause-few g c = commit-few c.world-world.result.now.rules.systems

pub take-requires-clause-proper : goal.take-requires-clause-proper
take-requires-clause-proper g c =
    let kept = c.args.units.now in
    let looked = c.args.looked.now in
    let found : rest_found kept.world looked ≡ Some c.in-Some.next.now =
    ap (λ (w : World ModelRules). rest_found w looked) (sym c.world-world.ensures.world) ∙ sym c.in-Some.ensures in
    proper-found g.V.Volumes.disk kept c.world-world.ensures.safe c.world-world.ensures.kept.on_volumes looked c.requires.down c.in-Some.next.now found

pub take-requires-clause-read : goal.take-requires-clause-read
take-requires-clause-read g c =
    read-kept g.V.Volumes.disk c.args.units.now c.world-world.ensures.safe c.world-world.ensures.kept.on_volumes c.args.looked.now c.requires.down
    (λ (tables : DocumentTables) log. AreTablesOf log tables) c.world-world.result.now c.world-world.ensures.world c.system-system.result
    c.system-system.ensures c.log-log.result.now c.log-log.ensures c.in_ok-its.its c.in_ok-its.field-0-1 c.in_ok-its.ensures

pub returns : goal.returns
returns g c =
    let kept = c.args.units.now in
    subst (AreTablesLooked (λ (tables : DocumentTables) log. AreTablesOf log tables) (meaning kept.world.rules) kept.world c.args.looked.now)
    (sym c.into_tables-2.ensures)
    (tables-taken g.V.Volumes.disk kept c.world-world.ensures.safe c.world-world.ensures.kept.on_volumes c.args.looked.now c.requires.down
    (λ (tables : DocumentTables) log. AreTablesOf log tables) c.world-world.result.now c.world-world.ensures.world c.system-system.result
    c.system-system.ensures c.log-log.result.now c.log-log.ensures c.take.new.its c.in-Some.next.now c.in_ok-take.field-0 (sym c.in-Some.ensures)
    c.in_ok-take.ensures.may c.in_ok-take.ensures.read)

pub returns-in_default : goal.returns-in_default
returns-in_default g c =
    let kept = c.args.units.now in
    subst (AreTablesLooked (λ (tables : DocumentTables) log. AreTablesOf log tables) (meaning kept.world.rules) kept.world c.args.looked.now)
    (sym c.into_tables.ensures)
    (tables-kept g.V.Volumes.disk kept c.world-world.ensures.safe c.world-world.ensures.kept.on_volumes c.args.looked.now c.requires.down
    (λ (tables : DocumentTables) log. AreTablesOf log tables) c.world-world.result.now c.world-world.ensures.world c.system-system.result
    c.system-system.ensures c.log-log.result.now c.log-log.ensures c.in_ok-its.its c.in_ok-its.field-0-1 c.in_ok-its.ensures
    (sym c.found_in.ensures ∙ ap option_copied c.in_default.is))
