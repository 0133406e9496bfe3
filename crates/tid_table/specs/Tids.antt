-- What calls change in a table of ids. A table is seen as a list, whose order says nothing.
use Rattle.std.specs.Prelude.{◌≡◌, not, ◌&&◌, ◌||◌, List}
use Rattle.ale_base.specs.Tid.{TidOf, is_tid}
use Rattle.unit_core.specs.Queues.{is_listed}

-- an id is there from now on; of every other one it is as before
pub record Enters (tid : TidOf) (before after : List TidOf) : Type 0 where
  pub enters : (other : TidOf) → is_listed other after ≡ (is_tid tid other || is_listed other before)

-- an id is not there from now on; of every other one it is as before
pub record Forgets (tid : TidOf) (before after : List TidOf) : Type 0 where
  pub forgets : (other : TidOf) → is_listed other after ≡ (not (is_tid tid other) && is_listed other before)
