use Rattle.std.proofs.Common.{◌≡◌, ◌++◌, ◌∷◌, List, []}
use Rattle.toml.specs.Data.{Data}
use Rattle.model_profiles.specs.QueueRules.{rule_of}
use Rattle.dist_model.specs.declared.outbound.QueueRule.{QueueRule}
use Rattle.model_keys.proofs.EachLemmas.{loop-goes, loop-fails, loop-ends}
use Rattle.model_profiles.proofs.queue_rules.rules_of.Goals as goal

pub returns-in-Err : goal.returns-in-Err
returns-in-Err c =
    loop-fails c.args.key.now (λ (done : List QueueRule) (d : Data). rule_of c.args.on.now.types c.args.on.now.definitions c.args.entries.now c.args.outmod d)
    c.args.values.now c.loop-place.place _ c.in-Err.error c.within.result
    c.loop-place.rules c.index-values-place.result c.index-values-place.is c.loop-place-test.true c.in-Err.ensures c.within.ensures c.loop-place.invariant

pub loop-place-preserved : goal.loop-place-preserved
loop-place-preserved c =
    let pushed : c.push.new.self ≡ c.loop-place.rules ++ c.in-Ok.rule ∷ [] = c.in_ok-push-in-Ok.ensures.ok in
    rw pushed (loop-goes c.args.key.now (λ (done : List QueueRule) (d : Data).
    rule_of c.args.on.now.types c.args.on.now.definitions c.args.entries.now c.args.outmod d) c.args.values.now c.loop-place.place _ c.loop-place.rules
    c.index-values-place.result c.in-Ok.rule c.index-values-place.is c.loop-place-test.true c.in-Ok.ensures c.loop-place.invariant)

pub returns : goal.returns
returns c =
    loop-ends c.args.key.now (λ (done : List QueueRule) (d : Data). rule_of c.args.on.now.types c.args.on.now.definitions c.args.entries.now c.args.outmod d)
    c.args.values.now c.loop-place.place _ c.loop-place.rules c.loop-place-test.false c.loop-place.invariant
