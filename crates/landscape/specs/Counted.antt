-- How much the logs of systems hold.
use Rattle.std.specs.Prelude.{ℕ, zero, suc, ◌+◌, ◌-◌, ◌^◌, min, List, fold, length}
use Rattle.ale_base.specs.declared.system_no.TheConstants.SystemNo.{MAX}
use Rattle.unit_core.specs.declared.records.Record.{Record}
use Rattle.unit_core.specs.declared.records.Record.TheVariants.{Commit, Ended}
use Rattle.trfc_protocol.specs.declared.world.World.{World}
use Rattle.trfc_protocol.specs.Worlds.{log_of}
use Rattle.document_state.specs.declared.model_rules.ModelRules.{ModelRules}
use Rattle.document_state.specs.Meaning.{model_meaning}
use Rattle.unit_landscape.specs.Counted.{committed_total, received_total, executed_total}
use Rattle.landscape.specs.declared.counts.Counts.{Counts}
use Rattle.landscape.specs.declared.counts.Sums.{Sums}

-- so many more; a number stops at the greatest one of 64 bits
abbrev pub more : ℕ → ℕ → ℕ
more many n = min (n + many) (2 ^ 64 - 1)

-- nothing is counted
abbrev pub none : Sums
none = record { masters = 0; ended = 0 }

-- what a record adds: a Commit its masters, an Ended one unit that has ended
abbrev pub noted : Sums → Record → Sums
noted sums (Commit origin docs) = record sums { masters = more (length docs) sums.masters }
noted sums (Ended tid) = record sums { ended = more 1 sums.ended }
noted sums _ = sums

-- what is counted in a log
abbrev pub sums_of : List Record → Sums
sums_of log = fold noted none log

-- both together
abbrev pub added : Sums → Sums → Sums
added one other = record { masters = more other.masters one.masters; ended = more other.ended one.ended }

-- what is counted in the logs of the first systems together
unfoldable pub sums_to : World ModelRules → ℕ → Sums
sums_to world zero = none
sums_to world (suc number) = added (sums_to world number) (sums_of (log_of world (suc number)))

-- how much the logs of all systems hold, those of systems that are down too
abbrev pub held_by : World ModelRules → Counts
held_by world = record {
  masters = (sums_to world MAX).masters;
  units = committed_total (model_meaning world.rules.systems) world;
  received = received_total (model_meaning world.rules.systems) world;
  executed = executed_total (model_meaning world.rules.systems) world;
  ended = (sums_to world MAX).ended;
}
