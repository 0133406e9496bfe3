-- Rules that list each system's units beforehand.
use Rattle.std.specs.Prelude.{ℕ, zero, suc, ◌+◌, Bool, true, false, not, ◌==◌, ◌&&◌, ◌||◌, nat_le, nat_lt, nat_eq, List, [], ◌∷◌, length, take, codes}
use Rattle.std.specs.Prelude.{slice_index_or, slice_get, if◌then◌else◌}
use Rattle.std.specs.Option.{option_to_list}
use Rattle.std.specs.Cmp.Lexicographic.{pointwise}
use Rattle.ale_base.specs.declared.system_no.TheConstants.SystemNo.{MAX}
use Rattle.ale_base.specs.declared.tid.TheConstants.Tid.{MAX_UNIT}
use Rattle.unit_core.specs.declared.ale_unit.AleUnit.{AleUnit}
use Rattle.unit_core.specs.declared.records.Record.{Record}
use Rattle.unit_core.specs.declared.records.Record.TheVariants.{Commit}
use Rattle.unit_core.specs.Queues.{are_different}
use Rattle.trfc_protocol.specs.Meaning.{Meaning}
use Rattle.trfc_protocol.specs.Legal.{is_model}

-- the most queues of a unit in one direction
abbrev pub most_queues : ℕ
most_queues = 8

-- whether this is unit k of a system: its id says so, the system sends it, another one receives it, the names of its
-- queues differ, and its outbound ones are few
abbrev pub is_unit : ℕ → ℕ → ℕ → AleUnit → Bool
is_unit systems system k unit =
    (unit.tid.system == system) && (unit.tid.unit == k) && (unit.sender == system)
    && nat_le 1 unit.receiver && nat_le unit.receiver systems && not (unit.receiver == system)
    && are_different unit.outq && are_different unit.inq && nat_le (length unit.outq) most_queues

-- whether these are the units of a system from unit k on
abbrev pub are_units : ℕ → ℕ → ℕ → List AleUnit → Bool
are_units systems system k [] = true
are_units systems system k (unit ∷ units) = is_unit systems system k unit && are_units systems system (k + 1) units

-- whether these are the units of the systems from this one on, at most 65,536 of each
abbrev pub are_lists : ℕ → ℕ → List (List AleUnit) → Bool
are_lists systems system [] = true
are_lists systems system (units ∷ lists) =
    nat_le (length units) MAX_UNIT && are_units systems system 1 units && are_lists systems (system + 1) lists

-- whether these are the units of one to sixteen systems
abbrev pub are_listed : List (List AleUnit) → Bool
are_listed lists = nat_le 1 (length lists) && nat_le (length lists) MAX && are_lists (length lists) 1 lists

-- the list of a system, and none where there is no such system
abbrev pub list_of : List (List AleUnit) → ℕ → List AleUnit
list_of lists zero = []
list_of lists (suc k) = slice_index_or lists k []

-- whether the record is a Commit
abbrev pub is_commit_record : Record → Bool
is_commit_record (Commit origin docs) = true
is_commit_record _ = false

-- the number of Commit records of a log
abbrev pub commits_of : List Record → ℕ
commits_of [] = 0
commits_of (next ∷ log) = (if is_commit_record next then 1 else 0) + commits_of log

-- the unit of a list that a record commits behind a log, and none where it is no Commit
abbrev pub units_by : List AleUnit → List Record → Record → List AleUnit
units_by list log next = if is_commit_record next then option_to_list (slice_get list (commits_of log)) else []

-- The k-th Commit of a system commits the k-th unit of its list, and may follow while there is one. A Model may always
-- follow, no other record of the application may, and one function is offered.
abbrev pub listed_meaning : List (List AleUnit) → Meaning
listed_meaning lists = record {
  systems = length lists;
  committed = λ system log. take (commits_of log) (list_of lists system);
  allows = λ system log next. is_model next || (is_commit_record next && nat_lt (commits_of log) (length (list_of lists system)));
  offers = λ system log function. pointwise nat_eq function (codes "IDOC_INBOUND_ASYNCHRONOUS");
}
