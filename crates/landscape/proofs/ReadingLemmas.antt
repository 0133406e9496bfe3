-- The log that a volume holds, as it is read.
use Rattle.std.proofs.Common.{◌≡◌, ℕ, Option, List, length, sym, subst}
use Rattle.unit_core.specs.declared.records.Record.{Record}
use Rattle.log_tables.specs.OfLog.{IsRead, LogTablesOf, no_claims}
use Rattle.log_reading.specs.declared.bad.BadRecord.{BadRecord}
use Rattle.log_reading.specs.Reading.{AreGoodTo, IsFirstBad}
use Rattle.system_tables.specs.Tables.{TablesOf}
use Rattle.system_tables.specs.OfLog.{AreTablesOf}
use Rattle.unit_landscape.specs.Volumes.{VolumeOf, moments_in}
use Rattle.document_state.specs.Tables.{AreTablesOf as AreDocumentTables}
use Rattle.document_state.specs.declared.document_tables.DocumentTables.{DocumentTables}
use Rattle.document_state.specs.declared.model_rules.ModelRules.{ModelRules}
use Rattle.landscape.specs.steps.Opening.{IsBadIn, IsReadLog, rules_of, system_of}

module _ {V : Type 0} (text : List ℕ) (volume : VolumeOf ModelRules DocumentTables V) (each : length (moments_in volume) ≡ length volume.log)
    (rules : ModelRules) (moments : List (Option ℕ)) (log : List Record) (system : ℕ) (same_rules : rules ≡ volume.kept.world.rules)
    (same_moments : moments ≡ moments_in volume) (same_log : log ≡ volume.log) (here : system ≡ system_of volume) where
  -- what is so of what was lent of a volume is so of the volume
  lent : (P : ModelRules → ℕ → List (Option ℕ) → List Record → Type 0) → P rules system moments log
      → P volume.kept.world.rules (system_of volume) (moments_in volume) volume.log
  lent P is =
      subst (λ r. P r (system_of volume) (moments_in volume) volume.log) same_rules
      (subst (λ s. P rules s (moments_in volume) volume.log) here
      (subst (λ m. P rules system m volume.log) same_moments
      (subst (λ l. P rules system moments l) same_log is)))

  abbrev AreItsTables : TablesOf DocumentTables → Type 0
  AreItsTables tables = AreTablesOf (λ (own : DocumentTables) records. AreDocumentTables records own)
      ((rules_of volume.kept.world.rules).committed (system_of volume) volume.log) volume.log no_claims no_claims tables

  -- each record is good, and the tables are those of the log
  pub read-log : (its : LogTablesOf DocumentTables) (tables : TablesOf DocumentTables) → tables ≡ its.tables
      → AreGoodTo (rules_of rules) system text moments log (length log)
      → IsRead (rules_of rules) (λ (tables : DocumentTables) records. AreDocumentTables records tables) system log its → IsReadLog text volume tables
  read-log its tables same good read =
      let known = lent (λ r s m l. AreGoodTo (rules_of r) s text m l (length l)) good in
      let all = lent (λ r s m l. IsRead (rules_of r) (λ (tables : DocumentTables) records. AreDocumentTables records tables) s l its) read in
      record {
        good = record { each = each; good = known };
        legal = all.legal;
        tables = subst AreItsTables (sym same) all.tables;
      }

  -- or a record is the first that is bad
  pub read-bad : (bad : BadRecord) → IsFirstBad (rules_of rules) system text moments log bad → IsBadIn text volume system bad
  read-bad bad is = record {
    here = here;
    each = each;
    is = subst (λ s. IsFirstBad (rules_of volume.kept.world.rules) s text (moments_in volume) volume.log bad) (sym here)
        (lent (λ r s m l. IsFirstBad (rules_of r) s text m l bad) is);
  }
