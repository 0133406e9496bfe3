-- The table of ids that a log stands for.
use Rattle.std.specs.Prelude.{◌≡◌, Bool, not, ◌&&◌, List}
use Rattle.ale_base.specs.Tid.{TidOf}
use Rattle.unit_core.specs.declared.records.Record.{Record}
use Rattle.unit_core.specs.Filters.{received, forgotten_in}
use Rattle.unit_core.specs.Queues.{is_listed, is_among}

-- whether a log says of an id that its unit was received and is not forgotten
abbrev pub is_known : TidOf → List Record → Bool
is_known tid log = is_among tid (received log) && not (is_listed tid (forgotten_in log))

-- ids are those of a log: it knows of each one that is there, and of no other
pub record AreTidsOf (log : List Record) (tids : List TidOf) : Type 0 where
  pub known : (tid : TidOf) → is_listed tid tids ≡ is_known tid log
