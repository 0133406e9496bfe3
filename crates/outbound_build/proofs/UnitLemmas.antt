-- Every unit of a log: its number, and what the rules of the models make of it.
use Rattle.std.specs.Prelude.{fold, slice_get}
use Rattle.std.specs.List.{AllByRecursion}
use Rattle.std.specs.Option.{option_map_or}
use Rattle.std.proofs.Common.{◌≡◌, ℕ, zero, suc, ◌+◌, ◌≤◌, Option, Some, None, List, [], ◌∷◌, ◌++◌, length, refl, ◌∙◌, subst, arith}
use Rattle.ale_base.proofs.ListLemmas.{AllByRecursion-append, AllByRecursion-at}
use Rattle.dist_model.specs.declared.lists.Lists.{Lists}
use Rattle.unit_core.specs.declared.records.Record.{Record}
use Rattle.unit_core.specs.declared.records.Record.TheVariants.{Genesis, Model}
use Rattle.log_models.specs.InForce.{in_force, models_after, system_after}
use Rattle.outbound_build.specs.declared.added.OutUnit.{OutUnit}
use Rattle.outbound_build.specs.declared.parcel.Parcel.{Parcel}
use Rattle.outbound_build.specs.Added.{added_by, batch_of, numbered}
use Rattle.outbound_build.specs.Committed.{IsLogOf, Past, adds, no_more, no_past, past_after, past_of, units_of}
use Rattle.outbound_build.specs.Units.{AreNumbered, HasNumber, IsModelOf, IsSendable}
use Rattle.outbound_build.proofs.LogLemmas.{IsCounted, counted-after, past-keeps}
use Rattle.outbound_build.proofs.ParcelLemmas.{MayBeSent, batch-good}

AreNumbered-append : (system number : ℕ) (first second : List OutUnit) → AreNumbered system number first → AreNumbered system (number + length first) second
    → AreNumbered system number (first ++ second)
AreNumbered-append system number [] second one two = let same : number + 0 ≡ number = omega arith in subst (λ (n : ℕ). AreNumbered system n second) same two
AreNumbered-append system number (unit ∷ first) second one two =
    let same : number + suc (length first) ≡ suc number + length first = omega arith in
    (one.0, AreNumbered-append system (suc number) first second one.1 (subst (λ (n : ℕ). AreNumbered system n second) same two))

numbered-AreNumbered : (system number : ℕ) (parcels : List Parcel) → AreNumbered system number (numbered system number parcels)
numbered-AreNumbered system number [] = tt
numbered-AreNumbered system number (parcel ∷ parcels) = (record { tid = refl; sender = refl }, numbered-AreNumbered system (suc number) parcels)

AreNumbered-at : (system number : ℕ) (units : List OutUnit) (k : ℕ) (one : OutUnit) → AreNumbered system number units → slice_get units k ≡ Some one
    → HasNumber system (number + k) one.unit
AreNumbered-at system number [] k one all here = absurd (cc)
AreNumbered-at system number (first ∷ others) zero one all here =
    let same : first ≡ one = cc in
    let plain : number ≡ number + 0 = omega arith in
    subst (λ (n : ℕ). HasNumber system n one.unit) plain (subst (λ (u : OutUnit). HasNumber system number u.unit) same all.0)
AreNumbered-at system number (first ∷ others) (suc k) one all here =
    let same : suc number + k ≡ number + suc k = omega arith in
    subst (λ (n : ℕ). HasNumber system n one.unit) same (AreNumbered-at system (suc number) others k one all.1 here)

-- behind the Genesis of a system
record IsPastOf (system : ℕ) (past : Past) : Type 0 where
  pub begun : 1 ≤ past.models
  pub of : past.system ≡ system
  pub counted : IsCounted past
  pub all : AreNumbered system 1 past.units

models-stay : (models : ℕ) (next : Record) → 1 ≤ models → 1 ≤ models_after models next
models-stay models (Genesis system text) some = omega arith
models-stay models (Model text) some = omega arith
models-stay models _ some = some

system-stays : (models system : ℕ) (next : Record) → 1 ≤ models → system_after models system next ≡ system
system-stays zero system next some = absurd (omega arith)
system-stays (suc models) system next some = refl

adds-numbered : (models : List Lists) (system : ℕ) (past : Past) (next : Record) → IsPastOf system past
    → AreNumbered system (1 + length past.units) (adds models past next).units
adds-numbered models system past next is = under (in_force models past.models)
  where
    under : (o : Option Lists)
        → AreNumbered system (1 + length past.units) (option_map_or (λ model. added_by model past.system past.outbox next) o no_more).units
    under None = tt
    under (Some model) =
        let same : suc past.outbox.units ≡ 1 + length past.units = omega (arith, is.counted.units) in
        subst (λ (n : ℕ). AreNumbered system n (numbered past.system (suc past.outbox.units) (batch_of model past.system past.outbox next).parcels)) same
        (subst (λ (s : ℕ). AreNumbered s (suc past.outbox.units)
        (numbered past.system (suc past.outbox.units) (batch_of model past.system past.outbox next).parcels)) is.of
        (numbered-AreNumbered past.system (suc past.outbox.units) (batch_of model past.system past.outbox next).parcels))

past-stays : (models : List Lists) (system : ℕ) (past : Past) (next : Record) → IsPastOf system past → IsPastOf system (past_after models past next)
past-stays models system past next is = record {
  begun = models-stay past.models next is.begun;
  of = system-stays past.models past.system next is.begun ∙ is.of;
  counted = counted-after models past next is.counted;
  all = AreNumbered-append system 1 past.units (adds models past next).units is.all (adds-numbered models system past next is);
}

past-all : (models : List Lists) (system : ℕ) (log : List Record) (past : Past) → IsPastOf system past → IsPastOf system (fold (past_after models) past log)
past-all models system [] past is = is
past-all models system (next ∷ rest) past is = past-all models system rest (past_after models past next) (past-stays models system past next is)

-- the units of the log of a system are numbered from 1
pub units-numbered : (models : List Lists) (system : ℕ) (log : List Record) → IsLogOf system log → AreNumbered system 1 (units_of models log)
unfolding past_of
units-numbered models system [] of = tt
units-numbered models system (Genesis number text ∷ rest) of =
    (past-all models system rest (past_after models no_past (Genesis number text)) (record {
      begun = omega arith;
      of = of;
      counted = counted-after models no_past (Genesis number text) (record { documents = refl; units = refl });
      all = tt;
    })).all
units-numbered models system (_ ∷ rest) of = absurd of

-- the unit at place k has the number after k, and is the system's
pub unit-at : (models : List Lists) (system : ℕ) (log : List Record) (k : ℕ) (one : OutUnit) → IsLogOf system log
    → slice_get (units_of models log) k ≡ Some one → HasNumber system (suc k) one.unit
unit-at models system log k one of here =
    let same : 1 + k ≡ suc k = omega arith in
    subst (λ (n : ℕ). HasNumber system n one.unit) same (AreNumbered-at system 1 (units_of models log) k one (units-numbered models system log of) here)

numbered-sendable : (systems system number : ℕ) (parcels : List Parcel) → AllByRecursion (MayBeSent systems system) parcels
    → AllByRecursion (λ one. IsSendable systems one.unit) (numbered system number parcels)
numbered-sendable systems system number [] all = tt
numbered-sendable systems system number (parcel ∷ parcels) all = (all.0 number, numbered-sendable systems system (suc number) parcels all.1)

adds-sendable : (systems : ℕ) (models : List Lists) (past : Past) (next : Record) → AllByRecursion (IsModelOf systems) models
    → AllByRecursion (λ one. IsSendable systems one.unit) (adds models past next).units
adds-sendable systems models past next each = of_count past.models
  where
    under : (model : Lists) → IsModelOf systems model → AllByRecursion (λ one. IsSendable systems one.unit) (added_by model past.system past.outbox next).units
    under model of =
        numbered-sendable systems past.system (suc past.outbox.units) (batch_of model past.system past.outbox next).parcels
        (batch-good systems past.system model of past.outbox next)

    of_place : (place : ℕ) (o : Option Lists) → slice_get models place ≡ o
        → AllByRecursion (λ one. IsSendable systems one.unit) (option_map_or (λ model. added_by model past.system past.outbox next) o no_more).units
    of_place place None here = tt
    of_place place (Some model) here = under model (AllByRecursion-at (IsModelOf systems) models place model each here)

    of_count : (count : ℕ)
        → AllByRecursion (λ one. IsSendable systems one.unit)
        (option_map_or (λ model. added_by model past.system past.outbox next) (in_force models count) no_more).units
    of_count zero = tt
    of_count (suc place) = of_place place (slice_get models place) refl

-- each unit of a log whose models are of so many systems may be sent
pub units-sendable : (systems : ℕ) (models : List Lists) (log : List Record) → AllByRecursion (IsModelOf systems) models
    → AllByRecursion (λ one. IsSendable systems one.unit) (units_of models log)
units-sendable systems models log each =
    past-keeps models (λ past. AllByRecursion (λ one. IsSendable systems one.unit) past.units) tt
    (λ past next all. AllByRecursion-append (λ (one : OutUnit). IsSendable systems one.unit) past.units (adds models past next).units all
    (adds-sendable systems models past next each)) log
