-- What is known behind a log: the outbound documents and units, and the application. Each record is taken under the model in force there.
use Rattle.std.specs.Prelude.{List, []}
use Rattle.std.specs.Option.{option_map_or}
use Rattle.unit_core.specs.declared.ale_unit.AleUnit.{AleUnit}
use Rattle.unit_core.specs.declared.records.Record.{Record}
use Rattle.said_models.specs.OfLog.{models_of, model_of}
use Rattle.outbound_build.specs.declared.added.Added.{Added}
use Rattle.outbound_build.specs.Committed.{adds}
use Rattle.outbound_build.specs.Statuses.{Tracked, tracked_of}
use Rattle.inbound_post.specs.declared.prepared.DocPosting.{DocPosting}
use Rattle.inbound_post.specs.Prepared.{prepared}
use Rattle.inbound_post.specs.Application.{Past, past_of}

-- the outbound documents and units of a log, with the statuses of the documents
abbrev pub sent_by : List Record → Tracked
sent_by log = tracked_of (models_of log) log

-- what the application of a log is
abbrev pub applied_by : List Record → Past
applied_by log = past_of (models_of log) log

-- what one more record adds to the outbound documents and units
abbrev pub added_behind : List Record → Record → Added
added_behind log next = adds (models_of log) (sent_by log).past next

-- what becomes of the documents of a unit that is executed behind a log, by the model in force there
abbrev pub postings_behind : List Record → AleUnit → List DocPosting
postings_behind log unit = option_map_or (λ model. (prepared model (applied_by log).system unit).postings) (model_of log) []
