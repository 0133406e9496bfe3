-- What is known of the tables of a system that is up.
use Rattle.std.specs.Prelude.{slice_get}
use Rattle.std.specs.Option.{option_map}
use Rattle.std.proofs.Common.{◌≡◌, ℕ, ◌-◌, ◌≤◌, true, false, Option, Some, List, length, sym, ap, subst, ◌∙◌}
use Rattle.dist_model.specs.declared.lists.Lists.{Lists}
use Rattle.unit_core.specs.declared.records.Record.{Record}
use Rattle.said_models.specs.OfLog.{model_of}
use Rattle.trfc_protocol.specs.declared.world.World.{World}
use Rattle.trfc_protocol.specs.Legal.{IsLegal}
use Rattle.trfc_protocol.specs.Worlds.{is_up, log_of}
use Rattle.system_tables.specs.Tables.{TablesOf}
use Rattle.unit_landscape.specs.InStep.{AreInStepWith}
use Rattle.unit_landscape.proofs.InStepLemmas.{stands_up}
use Rattle.unit_landscape.proofs.AnswersLemmas.{tables-at, tables-there}
use Rattle.unit_landscape.specs.Kept.{IsLandscape}
use Rattle.document_state.specs.declared.document_tables.DocumentTables.{DocumentTables}
use Rattle.document_state.specs.Tables.{AreTablesOf}
use Rattle.document_state.specs.declared.model_rules.ModelRules.{ModelRules}
use Rattle.document_state.specs.Meaning.{model_meaning}
use Rattle.document_state.proofs.LegalLogLemmas.{sent-system, applied-system, has-model}
use Rattle.landscape.specs.Begun.{IsBegun, AreBegun}
use Rattle.landscape.specs.Standing.{StandAt, StandIfUp}
use Rattle.landscape.proofs.JudgedLemmas.{model-kept}
use Rattle.landscape.proofs.BegunLemmas.{meaning}

-- what a legal log is that begins with a model of so many systems
pub record HasModel (systems system : ℕ) (log : List Record) : Type 0 where
  pub model : Lists
  pub in_force : model_of log ≡ Some model
  pub many : length model.systems ≡ systems

pub begun-model : (text : List ℕ) (systems system : ℕ) (log : List Record) → IsLegal (model_meaning systems) system log → IsBegun text systems system log
    → HasModel systems system log
begun-model text systems system log legal begun =
    let first = subst (IsLegal (model_meaning systems) system) begun.first legal in
    let has = has-model systems system text begun.rest begun.model first begun.says begun.many in
    subst (HasModel systems system) (sym begun.first) (record { model = has.0; in_force = has.1; many = has.2 })

module _ (world : World ModelRules) (is : IsLandscape meaning world) (begun : AreBegun world) where
  pub legal-log : (system : ℕ) → IsLegal (model_meaning world.rules.systems) system (log_of world system)
  legal-log system = (is.safe.sound (λ s. false)).legal system

  -- a system that is up has a model in force
  pub up-model : (system : ℕ) → is_up world system ≡ true → HasModel world.rules.systems system (log_of world system)
  up-model system up =
      let standing = stands_up world.systems system up in
      begun-model begun.text world.rules.systems system (log_of world system) (legal-log system)
      (begun.each system standing.least (let most = standing.most in let all = is.safe.systems in subst (λ n. system ≤ n) all most))

  module _ (tables : List (TablesOf DocumentTables)) (are : AreInStepWith (λ one log. AreTablesOf log one) meaning world tables) where
    -- the tables of a system that is up stand for its log
    pub stand-at : (system : ℕ) (its : TablesOf DocumentTables) → is_up world system ≡ true → slice_get tables (system - 1) ≡ Some its → StandAt world system
        its.application
    stand-at system its up here =
        let of = up-model system up in
        let legal = legal-log system in
        record {
          up = up;
          stand = (tables-at (λ one log. AreTablesOf log one) (meaning world.rules) world tables are system up its here).application;
          legal = legal;
          model = of.model;
          in_force = of.in_force;
          kept = model-kept (log_of world system) of.model of.in_force;
          many = of.many;
          sent = sent-system world.rules.systems system (log_of world system) legal of.model of.in_force;
          applied = applied-system world.rules.systems system (log_of world system) legal of.model of.in_force;
        }

    pub stand-if-up : (system : ℕ) (found : Option DocumentTables) → is_up world system ≡ true
        → found ≡ option_map (λ (its : TablesOf DocumentTables). its.application) (slice_get tables (system - 1)) → StandIfUp world system found
    stand-if-up system found up is_found =
        let there = tables-there (λ one log. AreTablesOf log one) (meaning world.rules) world tables are system up in
        subst (StandIfUp world system)
        (sym (is_found ∙ ap (option_map (λ (its : TablesOf DocumentTables). its.application)) there.1)) (stand-at system there.0 up there.1)
