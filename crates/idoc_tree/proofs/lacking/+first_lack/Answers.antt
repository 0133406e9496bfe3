use Rattle.std.specs.Prelude.{◌≡◌, ◌+◌, ◌-◌, ◌≤◌, suc, length, false, is_some}
use Rattle.std.proofs.Common.{ℕ, Some, None, Option, refl, sym, ap, ◌∙◌, arith, drop}
use Rattle.std.specs.Option.{option_map}
use Rattle.idoc_tree.specs.declared.node.Node.TheViews.{out-Node}
use Rattle.idoc_tree.specs.Forest.{preorder}
use Rattle.idoc_tree.specs.Nodes.{forest_of}
use Rattle.idoc_tree.specs.Valid.{families, families_below}
use Rattle.idoc_tree.specs.steps.Lacking.{first_lack}
use Rattle.idoc_tree.proofs.NodeLemmas.{root_of, forest_of-drop}
use Rattle.idoc_tree.proofs.LackLemmas.{shifted, shifted-shifted, first_lack-tree, first_lack-own, length-tree, lack-later}
use Rattle.idoc_tree.proofs.lacking.+first_lack.Goals as goal

is_none : {A : Type 0} (o : Option A) → is_some o ≡ false → o ≡ None
is_none None none = refl
is_none (Some x) none = cc

pub returns-then-is_some-2-clause-some : goal.returns-then-is_some-2-clause-some
returns-then-is_some-2-clause-some t c = λ type is.
    let entries = c.args.ty.now.segments in
    let nodes = c.args.nodes.now in
    let at = c.loop-node.node-index in
    let root = root_of (out-Node c.node-item.result) in
    let under = forest_of (out-Node c.node-item.result).children.items in
    let after = forest_of (drop (at + 1) nodes) in
    let before = c.loop-node.number - c.args.number.now in
    let found = c.first_lack-lack.ensures.some type is in
    let place = found.0 in
    let own = sym (ap (λ ns. first_lack entries (families (Some root.type) (forest_of ns))) c.deref.ensures.value) ∙ found.2 in
    let here = ap (λ f. first_lack entries (families_below f)) (forest_of-drop nodes at c.node-item.result c.loop-node-test.true c.node-item.is)
    ∙ first_lack-own entries root under after (type, place) own in
    let all = c.loop-node.invariant.lack ∙ ap (shifted before) here in
    let none = sym c.lack_of-lack.ensures ∙ is_none c.lack_of-lack.result (sym c.is_some.ensures ∙ c.if-is_some.false) in
    let later : c.args.number.now ≤ c.loop-node.number = c.loop-node.invariant.later in
    let number : c.first_lack-lack.new.number ≡ c.loop-node.number + 1 + place = found.1 in
    (suc (before + place), omega (arith, later, number), lack-later _ _ none ∙ ap (option_map (λ (lack : ℕ × ℕ). (lack.0, suc lack.1))) all)

pub loop-node-preserved : goal.loop-node-preserved
loop-node-preserved t c =
    let entries = c.args.ty.now.segments in
    let nodes = c.args.nodes.now in
    let at = c.loop-node.node-index in
    let root = root_of (out-Node c.node-item.result) in
    let under = forest_of (out-Node c.node-item.result).children.items in
    let after = forest_of (drop (at + 1) nodes) in
    let before = c.loop-node.number - c.args.number.now in
    let here = forest_of-drop nodes at c.node-item.result c.loop-node-test.true c.node-item.is in
    let told = c.first_lack-lack.ensures.none (is_none c.first_lack-lack.result (sym c.is_some-in-loop-node.ensures ∙ c.if-is_some-2.false)) in
    let lacks = sym (ap (λ ns. first_lack entries (families (Some root.type) (forest_of ns))) c.deref.ensures.value) ∙ told.0 in
    let number : c.first_lack-lack.new.number ≡ c.loop-node.number + 1 + length (preorder under) = told.1
    ∙ ap (λ ns. c.loop-node.number + 1 + length (preorder (forest_of ns))) c.deref.ensures.value in
    let later : c.args.number.now ≤ c.loop-node.number = c.loop-node.invariant.later in
    let count = c.loop-node.invariant.count in
    let long : length (preorder (forest_of (drop at nodes))) ≡ 1 + length (preorder under) + length (preorder after) = ap (λ f. length (preorder f)) here
    ∙ length-tree entries root under after in
    let sum : before + (1 + length (preorder under)) ≡ c.first_lack-lack.new.number - c.args.number.now = omega (arith, later, number) in
    record {
      later = omega (arith, later, number);
      count = omega (arith, count, long, number);
      lack =
          c.loop-node.invariant.lack
          ∙ ap (shifted before) (ap (λ f. first_lack entries (families_below f)) here ∙ first_lack-tree entries root under after lacks)
          ∙ shifted-shifted before (1 + length (preorder under)) (first_lack entries (families_below after))
          ∙ ap (λ n. shifted n (first_lack entries (families_below after))) sum;
    }
