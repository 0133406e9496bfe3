-- What the tables of a log answer is what the law of the protocol asks.
use Rattle.std.specs.Prelude.{is_some, not, ◌&&◌}
use Rattle.std.specs.Option.{option_map_or}
use Rattle.std.proofs.Common.{◌≡◌, ℕ, Bool, true, false, Option, Some, None, List, refl, ap, ◌∙◌}
use Rattle.ale_base.specs.Tid.{TidOf}
use Rattle.ale_base.specs.declared.way.Way.{Way}
use Rattle.ale_base.specs.declared.way.Way.TheVariants.{Outgoing, Incoming}
use Rattle.unit_core.specs.declared.ale_unit.AleUnit.{AleUnit}
use Rattle.unit_core.specs.declared.records.Record.{Record}
use Rattle.unit_core.specs.declared.records.Record.TheVariants.{Mark, Done, Execute, Fail}
use Rattle.unit_core.specs.Filters.{received, is_marked}
use Rattle.unit_core.specs.Queues.{unit_named, is_among, is_outstanding}
use Rattle.unit_core.proofs.TidLemmas.{unit_named-Some}
use Rattle.std.proofs.lemmas.Bool.{and_parts}
use Rattle.plain_queues.specs.Queues.{unit_of}
use Rattle.plain_queues.specs.Offered.{is_free}
use Rattle.plain_queues.specs.LogQueues.{through, heads_all, is_free_by, HaveOneSender}
use Rattle.system_tables.specs.Tables.{queues_of}
use Rattle.system_tables.proofs.AskingLemmas.{free-tables, outstanding-tables}
use Rattle.trfc_protocol.specs.Meaning.{Meaning}
use Rattle.trfc_protocol.specs.Legal.{is_free_outbound, is_free_inbound, is_open, is_open_at, offers_received, may_follow, IsLawful}
use Rattle.trfc_protocol.specs.Legal.{is_free as is_free_that}
use Rattle.trfc_protocol.proofs.LegalLemmas.{committed-at}
use Rattle.log_tables.specs.Places.{unit_at, place_of}
use Rattle.log_tables.specs.OfLog.{LogTablesOf, no_claims, IsRead}
use Rattle.log_tables.specs.Held.{IsFreeFor}
use Rattle.log_tables.proofs.PlacesLemmas.{among-named}
use Rattle.log_tables.proofs.JoinsLegalLemmas.{others}

and-along : (a b c : Bool) → (a && (b && c)) ≡ ((a && b) && c)
and-along true b c = refl
and-along false b c = refl

-- with no claims a unit is free by the queues exactly where it is by the law
free-that : (way : Way) (all : List AleUnit) (log : List Record) (tid : TidOf) (found : Option AleUnit) → unit_named tid all ≡ found
    → option_map_or (is_free_by way all log no_claims) found false
    ≡ is_free_that (through way log) (is_marked way tid log) (heads_all way (through way log) all) found
free-that way all log tid None at = refl
free-that way all log tid (Some unit) at =
    and-along (is_outstanding (through way log) unit) (not (is_marked way unit.tid log)) (heads_all way (through way log) all unit)
    ∙ ap (λ t. (is_outstanding (through way log) unit && not (is_marked way t log)) && heads_all way (through way log) all unit)
    (unit_named-Some tid all unit at).1

open-that : (tids : List TidOf) (found : Option AleUnit) → option_map_or (is_outstanding tids) found false ≡ is_open tids found
open-that tids None = refl
open-that tids (Some unit) = refl

module _ {A : Type 0} (rules : Meaning) (lawful : IsLawful rules) (stands : A → List Record → Type 0) (system : ℕ) (log : List Record) (its : LogTablesOf A)
    (read : IsRead rules stands system log its) where
  -- the units that a system commits have one sender
  one-sender : HaveOneSender Outgoing (rules.committed system log)
  one-sender = (system, λ unit has. (committed-at rules lawful system log read.legal unit has).1.sender)

  -- a unit may be sent exactly where it is free in the outbound queues
  pub free-out : (tid : TidOf) → is_free tid its.tables.outgoing ≡ is_free_outbound (rules.committed system log) log tid
  free-out tid =
      free-tables stands Outgoing (rules.committed system log) log no_claims no_claims its.tables tid one-sender read.tables
      ∙ free-that Outgoing (rules.committed system log) log tid (unit_named tid (rules.committed system log)) refl

  -- and may be executed exactly where it is free in the inbound ones
  pub free-in : (tid : TidOf) → is_free tid its.tables.incoming ≡ is_free_inbound log tid
  free-in tid =
      free-tables stands Incoming (rules.committed system log) log no_claims no_claims its.tables tid tt read.tables
      ∙ free-that Incoming (received log) log tid (unit_named tid (received log)) refl

  -- a unit is outstanding exactly where it is in the queues
  pub open-at : (way : Way) (tid : TidOf) → is_some (unit_of tid (queues_of way its.tables)) ≡ is_open_at rules system log way tid
  open-at Outgoing tid =
      outstanding-tables stands Outgoing (rules.committed system log) log no_claims no_claims its.tables tid read.tables
      ∙ open-that (through Outgoing log) (unit_named tid (rules.committed system log))
  open-at Incoming tid =
      outstanding-tables stands Incoming (rules.committed system log) log no_claims no_claims its.tables tid read.tables
      ∙ open-that (through Incoming log) (unit_named tid (received log))

  -- a unit was received exactly where its id has a place
  pub received-at : (tid : TidOf) → is_among tid (received log) ≡ is_some (unit_at log (place_of its.places tid))
  received-at tid = among-named tid (received log) ∙ ap is_some (read.places.there tid)

  -- the unit whose claim a record ends is free
  pub free-for-out : (next : Record) → may_follow rules system log next ≡ true → IsFreeFor Outgoing next its.tables.outgoing
  free-for-out (Done tid) may = free-out tid ∙ others rules system log (Done tid) refl may
  free-for-out (Mark tid cause) may = free-out tid ∙ others rules system log (Mark tid cause) refl may
  free-for-out next may = tt

  pub free-for-in : (next : Record) → may_follow rules system log next ≡ true → IsFreeFor Incoming next its.tables.incoming
  free-for-in (Execute tid) may =
      free-in tid ∙ (and_parts (is_free_inbound log tid) (offers_received rules system log tid) (others rules system log (Execute tid) refl may)).0
  free-for-in (Fail tid) may =
      free-in tid ∙ (and_parts (is_free_inbound log tid) (not (offers_received rules system log tid)) (others rules system log (Fail tid) refl may)).0
  free-for-in next may = tt
