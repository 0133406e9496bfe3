use Rattle.std.proofs.Common.{◌≡◌, List, [], drop}
use Rattle.toml.specs.Data.{Data}
use Rattle.toml.specs.View.{items_view}
use Rattle.model_keys.specs.Each.{each}
use Rattle.model_profiles.specs.QueueRules.{rule_of}
use Rattle.dist_model.specs.declared.outbound.QueueRule.{QueueRule}
use Rattle.model_profiles.proofs.queue_rules.rules_of.Given as goal

abbrev pub invariant-loop-place : goal.invariant-loop-place
invariant-loop-place l =
    let read = λ (done : List QueueRule) (d : Data). rule_of l.on.types l.on.definitions l.entries l.outmod d in
    each l.key read l.place l.rules (items_view (drop l.place l.values)) ≡ each l.key read 0 [] (items_view l.values)
