use Rattle.idoc_tree.specs.Nodes.{forest_of}
use Rattle.idoc_tree.proofs.LineLemmas.{Spells-nodes, Spells-fitted}
use Rattle.idoc_tree.proofs.SpellsLemmas.{one_forest}
use Rattle.std.proofs.Common.{◌≡◌, Ok, Err, Result, sym, ap, ◌∙◌}
use Rattle.std.proofs.lemmas.Result.{err_from_is_err_and}
use Rattle.idoc_tree.specs.declared.fault.SyntaxFault.{SyntaxFault}
use Rattle.idoc_tree.proofs.BuildsLemmas.{one_answer_of, Builds-built}
use Rattle.idoc_tree.proofs.building.build.Goals as goal

pub returns-in_err-forest-clause-one_answer : goal.returns-in_err-forest-clause-one_answer
returns-in_err-forest-clause-one_answer c = one_answer_of c.args.definitions.now c.args.ty.now.segments c.requires.kept.preorder c.args.lines.now

pub returns-in_err-forest-clause-one_forest : goal.returns-in_err-forest-clause-one_forest
returns-in_err-forest-clause-one_forest c = one_forest c.args.definitions.now c.args.ty.now.segments c.requires.kept.preorder c.args.lines.now

pub returns-clause-one_answer : goal.returns-clause-one_answer
returns-clause-one_answer c = one_answer_of c.args.definitions.now c.args.ty.now.segments c.requires.kept.preorder c.args.lines.now

pub returns-clause-one_forest : goal.returns-clause-one_forest
returns-clause-one_forest c = one_forest c.args.definitions.now c.args.ty.now.segments c.requires.kept.preorder c.args.lines.now

pub returns-clause-nodes : goal.returns-clause-nodes
returns-clause-nodes c = Spells-nodes c.args.definitions.now c.requires.definitions c.args.ty.now.segments c.args.lines.now
    (forest_of c.in_ok-forest.forest.items) c.in_ok-forest.ensures.nodes.0

pub returns-clause-fitted : goal.returns-clause-fitted
returns-clause-fitted c = Spells-fitted c.args.definitions.now c.requires.definitions c.args.ty.now.segments c.args.lines.now
    (forest_of c.in_ok-forest.forest.items) c.in_ok-forest.ensures.nodes.0

same_fault : {T : Type 0} (fault other : SyntaxFault) → ◌≡◌ {A = Result T SyntaxFault} (Err fault) (Err other) → fault ≡ other
same_fault fault other same = cc

pub returns-clause-computed : goal.returns-clause-computed
returns-clause-computed c = Builds-built c.args.definitions.now c.args.ty.now.segments c.requires.kept.preorder c.args.lines.now
    (Ok (forest_of c.in_ok-forest.forest.items)) c.in_ok-forest.ensures.nodes

pub returns-in_err-forest-clause-computed_fault : goal.returns-in_err-forest-clause-computed_fault
returns-in_err-forest-clause-computed_fault c = λ fault returned other.
    let exit = err_from_is_err_and c.from_residual.result c.from_residual.ensures.1 in
    let same : ◌≡◌ {A = SyntaxFault} exit.0 fault = same_fault exit.0 fault (sym exit.1 ∙ returned) in
    Builds-built c.args.definitions.now c.args.ty.now.segments c.requires.kept.preorder c.args.lines.now (Err fault)
    (c.in_err-forest.ensures.first_fault fault (ap Err (sym exit.2 ∙ same)) other)
