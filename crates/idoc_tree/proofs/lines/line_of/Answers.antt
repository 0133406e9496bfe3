use Rattle.std.proofs.Common.{◌≡◌, sym, ap, ◌∙◌}
use Rattle.ale_base.specs.Blanks.{trimmed}
use Rattle.segment_defs.specs.Definitions.{version_of}
use Rattle.idoc_tree.specs.declared.node.Node.TheViews.{out-Node}
use Rattle.idoc_tree.specs.Nodes.{tree_of}
use Rattle.idoc_tree.specs.Lines.{name_of}
use Rattle.idoc_tree.proofs.NodeLemmas.{root_of, tree_of-out}
use Rattle.idoc_tree.proofs.LineLemmas.{line-IsDataRecord, line-is}
use Rattle.idoc_tree.proofs.lines.line_of.Goals as goal
use Rattle.idoc_tree.proofs.lines.line_of.Goals.{In_ok-from_slice-in-Some}

own_root : (c : In_ok-from_slice-in-Some) → (tree_of c.args.node.now).root ≡ root_of (out-Node c.args.node.now)
own_root c = ap (λ t. t.root) (tree_of-out c.args.node.now)

named : (c : In_ok-from_slice-in-Some) → c.in-Some.segnam
    ≡ trimmed (name_of (version_of c.args.definitions.now (tree_of c.args.node.now).root.type (tree_of c.args.node.now).root.version))
named c =
    c.in-Some.ensures.text ∙ ap trimmed c.as_slice.ensures
    ∙ ap (λ v. trimmed (name_of v)) (sym c.version-definition.ensures)
    ∙ ap (λ r. trimmed (name_of (version_of c.args.definitions.now r.type r.version))) (sym (own_root c))

pub invariant_of-result : goal.invariant_of-result
invariant_of-result c =
    let own = (goal.at.invariant_of-result c).In_ok-from_slice-in-Some in
    line-IsDataRecord c.args.definitions.now (tree_of c.args.node.now).root c.in-Some.segnam c.in_ok-from_slice-in-Some.field-0 c.requires.definitions
    c.requires.node (named own)
    (c.in_ok-from_slice-in-Some.ensures ∙ c.as_slice-in-Some.ensures ∙ ap (λ r. r.sdata) (sym (own_root own)))

pub returns : goal.returns
returns c =
    let own = (goal.at.returns c).In_ok-from_slice-in-Some in
    line-is c.args.definitions.now (tree_of c.args.node.now).root c.in-Some.segnam c.in_ok-from_slice-in-Some.field-0 c.requires.definitions c.requires.node
    (named own)
    (c.in_ok-from_slice-in-Some.ensures ∙ c.as_slice-in-Some.ensures ∙ ap (λ r. r.sdata) (sym (own_root own)))
