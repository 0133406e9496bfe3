-- Logs that begin with a model begin so for good, since logs only grow.
use Rattle.std.proofs.Common.{ℕ, ◌≤◌, List, ◌++◌, sym, ap, subst, ◌∙◌}
use Rattle.ale_base.specs.Prefix.{IsPrefix}
use Rattle.unit_core.specs.declared.records.Record.{Record}
use Rattle.trfc_protocol.specs.declared.world.World.{World}
use Rattle.trfc_protocol.specs.Legal.{IsLawful}
use Rattle.trfc_protocol.specs.Meaning.{Meaning}
use Rattle.trfc_protocol.specs.Worlds.{log_of}
use Rattle.document_state.specs.declared.model_rules.ModelRules.{ModelRules}
use Rattle.document_state.specs.Meaning.{model_meaning}
use Rattle.document_state.specs.LawfulLemmas.{lawful}
use Rattle.landscape.specs.Begun.{IsBegun, AreBegun}
use Rattle.unit_landscape.specs.Crashes.{HasGrown}

-- what the rules of a landscape mean
abbrev pub meaning : ModelRules → Meaning
meaning rules = model_meaning rules.systems

pub is_lawful : (rules : ModelRules) → IsLawful (meaning rules)
is_lawful rules = lawful rules.systems rules.least rules.most

pub IsBegun-grows : (text : List ℕ) (systems system : ℕ) (log longer : List Record) → IsPrefix log longer → IsBegun text systems system log
    → IsBegun text systems system longer
IsBegun-grows text systems system log longer more is = record {
  rest = is.rest ++ more.0;
  model = is.model;
  first = sym more.1 ∙ ap (λ l. l ++ more.0) is.first;
  says = is.says;
  many = is.many;
}

-- where logs have only grown, they have begun as before
unfoldable pub begun-grown : (before after : World ModelRules) → AreBegun before → HasGrown before after → AreBegun after
begun-grown before after begun grown = record {
  text = begun.text;
  each = λ system least most.
      subst (λ (r : ModelRules). IsBegun begun.text r.systems system (log_of after system)) (sym grown.rules)
      (IsBegun-grows begun.text before.rules.systems system (log_of before system) (log_of after system) (grown.logs system)
      (begun.each system least (subst (λ (r : ModelRules). system ≤ r.systems) grown.rules most)));
}
