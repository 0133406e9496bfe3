-- The moments of a log of which each record is good are in order, as the journals of all systems keep them.
use Rattle.std.specs.Prelude.{slice_get}
use Rattle.std.specs.List.{AllByRecursion}
use Rattle.std.proofs.Common.{◌≡◌, ◌≤◌, ◌<◌, ℕ, zero, suc, Option, Some, None, List, [], ◌∷◌, length, get_or, refl, arith}
use Rattle.std.proofs.lemmas.Option.{slice_get-get_or}
use Rattle.unit_core.specs.declared.records.Record.{Record}
use Rattle.unit_core.specs.declared.records.Record.TheVariants.{Dispatch}
use Rattle.unit_journal.specs.OnDisk.{AreInOrder, MayFollow}
use Rattle.trfc_protocol.specs.Meaning.{Meaning}
use Rattle.log_reading.specs.Bad.{moment_at, moment_before}
use Rattle.log_reading.specs.Reading.{AreGoodTo}

joined : (first second third : Option ℕ) → MayFollow first second → MayFollow second third → MayFollow first third
joined None second third before after = tt
joined (Some a) None third before after = absurd before
joined (Some a) (Some b) None before after = absurd after
joined (Some a) (Some b) (Some c) before after = omega (arith, before, after)

-- what may follow the second of two moments may follow the first
all-joined : (first second : Option ℕ) (moments : List (Option ℕ)) → MayFollow first second → AllByRecursion (MayFollow second) moments
    → AllByRecursion (MayFollow first) moments
all-joined first second [] follows all = tt
all-joined first second (moment ∷ moments) follows all = (joined first second moment follows all.0, all-joined first second moments follows all.1)

-- moments of which each may follow the one before it are in order
pub AreInOrder-each : (moments : List (Option ℕ)) → ((place : ℕ) → place < length moments → MayFollow (moment_before moments place) (moment_at moments place))
    → AreInOrder moments
AreInOrder-each [] each = tt
AreInOrder-each (moment ∷ []) each = (tt, tt)
AreInOrder-each (moment ∷ second ∷ moments) each =
    let behind : AreInOrder (second ∷ moments) = AreInOrder-each (second ∷ moments) tail in
    let next : MayFollow moment second = each 1 (omega arith) in
    ((next, all-joined moment second moments next behind.0), behind)
  where
    tail : (place : ℕ) → place < length (second ∷ moments) → MayFollow (moment_before (second ∷ moments) place) (moment_at (second ∷ moments) place)
    tail zero within = tt
    tail (suc place) within = each (suc (suc place)) (omega (arith, within))

-- so are those of a log of which each record is good
pub AreInOrder-good : (rules : Meaning) (system : ℕ) (text : List ℕ) (moments : List (Option ℕ)) (log : List Record) → length moments ≡ length log
    → AreGoodTo rules system text moments log (length log) → AreInOrder moments
AreInOrder-good rules system text moments log same good =
    AreInOrder-each moments (λ place within.
    let inside : place < length log = omega (arith, same, within) in
    (good place (get_or log place Dispatch) inside (slice_get-get_or log place Dispatch inside)).in_time)
