use Rattle.ale_host.proofs.EndingLemmas.{is-loaded}
use Rattle.ale_host.proofs.loading.read_behind_model.Goals as goal

pub returns-in-Ok-said_commands-clause-says : goal.returns-in-Ok-said_commands-clause-says
returns-in-Ok-said_commands-clause-says c =
    is-loaded c.args.masters c.args.said c.in-Ok.all c.in-Ok-said_commands.commands c.prepared_from.result c.requires.text c.requires.says
    c.requires.names c.in-Ok.ensures.says c.in-Ok-said_commands.ensures.says c.prepared_from.ensures
