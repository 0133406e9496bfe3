-- What an operator is shown of the queues of a log. This project's own.
use Rattle.std.specs.Prelude.{◌≡◌, ℕ, List, [], ◌++◌, map, Option}
use Rattle.ale_base.specs.Tid.{TidOf}
use Rattle.ale_base.specs.declared.way.Way.{Way}
use Rattle.ale_base.specs.declared.way.Way.TheVariants.{Outgoing, Incoming}
use Rattle.unit_core.specs.declared.ale_unit.AleUnit.{AleUnit}
use Rattle.unit_core.specs.declared.records.Record.{Record}
use Rattle.plain_queues.specs.declared.queue_count.QueueCount.{QueueCount}
use Rattle.plain_queues.specs.Queues.{QueuesOf}
use Rattle.plain_queues.specs.LogQueues.{AreQueuesOf}
use Rattle.plain_queues.specs.Lines.{AreLinesOf}
use Rattle.status_log.specs.declared.line.QueueLine.{QueueLine}
use Rattle.said_models.specs.OfLog.{model_of}
use Rattle.listings.specs.SystemNames.{name_under}

-- the name that the line of a queue has beside its own: outbound that of the destination, inbound none
abbrev pub partner_of : Way → List Record → QueueCount → List ℕ
partner_of Outgoing log count = name_under (model_of log) count.key.partner
partner_of Incoming log count = []

-- the line of a queue of a direction
abbrev pub queue_line : Way → List Record → QueueCount → QueueLine
queue_line way log count =
    record { way = way; partner = partner_of way log count; name = count.key.name; count = count.count; status = count.status }

-- the queues of a direction that hold a unit, in order, with their counts and statuses: those of a log, of the units that it commits and
-- of the claims
pub record AreCountsOf (way : Way) (committed : List AleUnit) (log : List Record) (claims : TidOf → Option ℕ) (counts : List QueueCount) : Type 0 where
  pub queues : QueuesOf
  pub of_log : AreQueuesOf way committed log claims queues
  pub are : AreLinesOf queues counts

-- lines are those of the queues of a log: the outbound ones, and then the inbound ones
pub record AreQueueLines (committed : List AleUnit) (log : List Record) (sent arrived : TidOf → Option ℕ) (lines : List QueueLine) : Type 0 where
  pub outgoing : List QueueCount
  pub incoming : List QueueCount
  pub out_are : AreCountsOf Outgoing committed log sent outgoing
  pub in_are : AreCountsOf Incoming committed log arrived incoming
  pub lines_are : lines ≡ map (queue_line Outgoing log) outgoing ++ map (queue_line Incoming log) incoming
