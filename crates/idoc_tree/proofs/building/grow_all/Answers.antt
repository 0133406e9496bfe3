use Rattle.std.specs.Prelude.{◌≡◌, ◌<◌, slice_get, length}
use Rattle.std.proofs.Common.{None, Err, Result, refl, zero-add, sym, ap, subst, ◌∙◌}
use Rattle.std.proofs.lemmas.Result.{err_from_is_err_and}
use Rattle.segment_defs.specs.IdocType.{IsEntry}
use Rattle.idoc_tree.specs.declared.fault.SyntaxFault.{SyntaxFault}
use Rattle.idoc_tree.specs.Nodes.{forest_of}
use Rattle.idoc_tree.specs.Valid.{families}
use Rattle.idoc_tree.specs.steps.Lacking.{first_lack}
use Rattle.idoc_tree.specs.Builds.{IsFirstFault, SpellsInOrder}
use Rattle.ale_base.proofs.ListLemmas.{AllByRecursion-weaker}
use Rattle.ale_base.specs.Text.{told_length}
use Rattle.idoc_tree.specs.declared.fault.SyntaxFault.TheVariants.{Missing}
use Rattle.idoc_tree.proofs.LackLemmas.{first_lack-known}
use Rattle.idoc_tree.proofs.BuildsLemmas.{refused_turn, grown_turn, all_stand, missing_of_all, complete}
use Rattle.idoc_tree.proofs.building.grow_all.Goals as goal
use Rattle.idoc_tree.proofs.building.grow_all.Goals.{In_default}

same_fault : {T : Type 0} (fault other : SyntaxFault) → ◌≡◌ {A = Result T SyntaxFault} (Err fault) (Err other) → fault ≡ other
same_fault fault other same = cc

pub returns-in_err-grow-clause-first_fault : goal.returns-in_err-grow-clause-first_fault
returns-in_err-grow-clause-first_fault c = λ fault returned other.
    let exit = err_from_is_err_and c.from_residual.result c.from_residual.ensures.1 in
    let same : ◌≡◌ {A = SyntaxFault} exit.0 fault = same_fault exit.0 fault (sym exit.1 ∙ returned) in
    refused_turn c.args.definitions.now c.args.ty.now.segments c.args.lines.now c.loop-index.index c.index-lines-index.result
    (forest_of c.loop-index.forest.items) c.loop-index-test.true c.index-lines-index.is c.loop-index.invariant fault
    (c.in_err-grow.ensures.fault fault (ap Err (sym exit.2 ∙ same)) other)

pub loop-index-preserved : goal.loop-index-preserved
loop-index-preserved c =
    grown_turn c.args.definitions.now c.args.ty.now.segments c.args.lines.now c.loop-index.index c.index-lines-index.result
    (forest_of c.loop-index.forest.items) c.loop-index-test.true c.index-lines-index.is c.loop-index.invariant c.requires.kept.apart
    (forest_of c.grow.new.forest.items) c.in_ok-grow.ensures.ok

pub index-requires : goal.index-requires
index-requires c =
    let definitions = c.args.definitions.now in
    let entries = c.args.ty.now.segments in
    let lack = c.in-Some.ensures.some c.in-Some.segment refl in
    subst (λ n. n < length definitions.types) (sym (c.from.ensures ∙ c.segment.view_is))
    (first_lack-known (λ type. type < length definitions.types) entries (families None (forest_of c.deref.result.now)) c.in-Some.segment lack.0
    (AllByRecursion-weaker (IsEntry definitions) (λ entry. entry.segment < length definitions.types) entries (λ entry kept. kept.known) c.requires.kept.each)
    lack.2)

pub returns-in-Some-clause-first_fault : goal.returns-in-Some-clause-first_fault
returns-in-Some-clause-first_fault c = λ fault returned other.
    let definitions = c.args.definitions.now in
    let entries = c.args.ty.now.segments in
    let lines = c.args.lines.now in
    let lack = c.in-Some.ensures.some c.in-Some.segment refl in
    let same : ◌≡◌ {A = SyntaxFault} (Missing c.in_ok-name.name c.told_length.result) fault = same_fault (Missing c.in_ok-name.name c.told_length.result) fault
    returned in
    subst (IsFirstFault definitions entries lines) same
    (missing_of_all definitions entries lines (forest_of c.loop-index.forest.items) c.in-Some.segment lack.0 c.index.result.now c.in_ok-name.name
    c.told_length.result
    (all_stand definitions entries lines c.loop-index.index (forest_of c.loop-index.forest.items) c.loop-index-test.false c.loop-index.invariant)
    (sym (ap (λ nodes. first_lack entries (families None (forest_of nodes))) c.deref.ensures.value) ∙ lack.2)
    (ap (slice_get definitions.types) (sym (c.from.ensures ∙ c.segment.view_is)) ∙ c.index.ensures)
    (c.in_ok-name.ensures ∙ c.as_slice.ensures)
    (c.told_length.ensures ∙ ap told_length (lack.1 ∙ zero-add lack.0)))

stood : (c : In_default) → SpellsInOrder c.args.definitions.now c.args.ty.now.segments c.args.lines.now (forest_of c.loop-index.forest.items)
stood c = all_stand c.args.definitions.now c.args.ty.now.segments c.args.lines.now c.loop-index.index
    (forest_of c.loop-index.forest.items) c.loop-index-test.false c.loop-index.invariant

pub returns-clause-nodes : goal.returns-clause-nodes
returns-clause-nodes c =
    let own = (goal.at.returns-clause-nodes c).In_default in
    complete c.args.definitions.now c.args.ty.now.segments c.args.lines.now (forest_of c.loop-index.forest.items) (stood own)
    (sym (ap (λ nodes. first_lack c.args.ty.now.segments (families None (forest_of nodes))) c.deref.ensures.value) ∙ (c.in_default.ensures.none refl).0)
