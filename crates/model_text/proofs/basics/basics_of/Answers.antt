use Rattle.toml.specs.View.{table_view}
use Rattle.model_text.specs.Model.{basics_of, basics_on}
use Rattle.model_text.proofs.SystemRules.{releases_at-keeps}
use Rattle.model_text.proofs.basics.basics_of.Goals as goal

pub structure_of-requires : goal.structure_of-requires
structure_of-requires c =
    rw c.in_ok-releases.ensures.named (releases_at-keeps (table_view c.args.table.now) c.in_ok-releases.releases.things c.in_ok-releases.ensures.given).few

pub returns-in-Err : goal.returns-in-Err
unfolding basics_of basics_on
returns-in-Err c =
    rw (c.in_ok-releases.ensures.given, c.in_ok-systems.ensures.given, ← c.in_ok-releases.ensures.named)
    (c.in-Err.ensures.given c.in_ok-systems.systems.things)

pub returns-in-Ok : goal.returns-in-Ok
unfolding basics_of basics_on
returns-in-Ok c =
    rw (c.in_ok-releases.ensures.given, c.in_ok-systems.ensures.given, c.together.ensures, ← c.in_ok-releases.ensures.named)
    (c.in-Ok.ensures.given c.in_ok-systems.systems.things)
