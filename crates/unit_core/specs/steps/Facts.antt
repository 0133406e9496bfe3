-- What a record tells of the unit of an id: the step of `executed`, `done_in`, `ended_in` and `forgotten_in`.
use Rattle.std.specs.Prelude.{Option}
use Rattle.ale_base.specs.Tid.{TidOf}
use Rattle.unit_core.specs.declared.records.Record.{Record}
use Rattle.unit_core.specs.declared.filters.Fact.{Fact}
use Rattle.unit_core.specs.declared.filters.Fact.TheVariants.{Executed, Done, Ended, Forgotten}
use Rattle.unit_core.specs.Filters.{executed_by, done_by, ended_by, forgotten_by}

-- the id of which a record tells this
abbrev pub told_by : Fact → Record → Option TidOf
told_by Executed = executed_by
told_by Done = done_by
told_by Ended = ended_by
told_by Forgotten = forgotten_by
