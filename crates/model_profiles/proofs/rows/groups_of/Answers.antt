use Rattle.std.proofs.Common.{◌≡◌, ◌++◌, ◌∷◌, List, []}
use Rattle.toml.specs.Data.{Data}
use Rattle.model_profiles.specs.Rows.{group_of}
use Rattle.model_profiles.specs.declared.keys.TheConstants.{GROUP}
use Rattle.dist_model.specs.declared.row.Group.{Group}
use Rattle.model_keys.proofs.EachLemmas.{loop-goes, loop-fails, loop-ends}
use Rattle.model_profiles.proofs.rows.groups_of.Goals as goal

pub returns-in-Err : goal.returns-in-Err
returns-in-Err c =
    loop-fails GROUP.now (λ (done : List Group) (d : Data). group_of c.args.on.now.definitions c.args.on.now.filters c.args.message d) c.args.values.now
    c.loop-place.place _ c.in-Err.error c.within.result
    c.loop-place.groups c.index-values-place.result c.index-values-place.is c.loop-place-test.true c.in-Err.ensures c.within.ensures c.loop-place.invariant

pub loop-place-preserved : goal.loop-place-preserved
loop-place-preserved c =
    let pushed : c.push.new.self ≡ c.loop-place.groups ++ c.in-Ok.group ∷ [] = c.in_ok-push-in-Ok.ensures.ok in
    rw pushed (loop-goes GROUP.now (λ (done : List Group) (d : Data). group_of c.args.on.now.definitions c.args.on.now.filters c.args.message d)
    c.args.values.now
    c.loop-place.place _ c.loop-place.groups
    c.index-values-place.result c.in-Ok.group c.index-values-place.is c.loop-place-test.true c.in-Ok.ensures c.loop-place.invariant)

pub returns : goal.returns
returns c =
    loop-ends GROUP.now (λ (done : List Group) (d : Data). group_of c.args.on.now.definitions c.args.on.now.filters c.args.message d) c.args.values.now
    c.loop-place.place _ c.loop-place.groups c.loop-place-test.false c.loop-place.invariant
