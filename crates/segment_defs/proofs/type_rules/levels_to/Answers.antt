use Rattle.std.proofs.Common.{◌≡◌, ◌⊎◌, inl, inr, [], ◌<◌, length, sym, subst, rules}
use Rattle.segment_defs.specs.IdocType.{path_behind}
use Rattle.segment_defs.proofs.TypeRuleLemmas.{IsWalk, walk-begins, walk-within, walk-counts, walk-passes, walk-smaller, walk-ends}
use Rattle.segment_defs.proofs.type_rules.levels_to.Goals as goal
use Rattle.segment_defs.proofs.type_rules.levels_to.Goals.{Joined-levels-gt0, After-map-above, then-levels-gt0, else-levels-gt0+else-at-place}

pub loop-above-init : goal.loop-above-init
loop-above-init c =
    walk-begins c.args.entries.now c.args.place c.checked_sub-above.result c.requires c.checked_sub-above.ensures

within : (c : Joined-levels-gt0) → c.in-Some.at < length c.args.entries.now
within c =
    walk-within c.args.entries.now c.args.place c.loop-above.levels c.in-Some.at _ c.loop-above.above c.in-Some.is c.loop-above.invariant

pub bounds-entries-at : goal.bounds-entries-at
bounds-entries-at c = within (goal.at.bounds-entries-at c).Joined-levels-gt0

pub bounds-entries-at-after-levels-gt0 : goal.bounds-entries-at-after-levels-gt0
bounds-entries-at-after-levels-gt0 c = within (goal.at.bounds-entries-at-after-levels-gt0 c).Joined-levels-gt0

pub offset_bounds-entries-at : goal.offset_bounds-entries-at
offset_bounds-entries-at c = let small = within (goal.at.offset_bounds-entries-at c).Joined-levels-gt0 in search rules

parent : (c : After-map-above) → c.map-above.result ≡ c.index-entries-at.result.parent
parent c = search rules

pub loop-above-preserved : goal.loop-above-preserved
loop-above-preserved c =
    let entries = c.args.entries.now in
    let entry = c.index-entries-at.result in
    let whole = path_behind 0 [] entries in
    elim c.if-levels-gt0.branch [
      | then-levels-gt0 w ↦
          let why : (0 < c.loop-above.levels) ⊎ (c.in-Some.at ≡ c.args.place) = elim w.then-levels-gt0.either [ inl some ↦ inl some | inr same ↦ inr same.1 ] in
          subst (λ levels. IsWalk entries c.args.place levels c.map-above.result whole) (sym w.levels-is)
          (walk-counts entries c.args.place c.loop-above.levels c.in-Some.at whole c.loop-above.above c.in-Some.is c.loop-above.invariant entry
          c.index-entries-at.is c.map-above.result (parent c) why)
      | else-levels-gt0+else-at-place w ↦
          subst (λ levels. IsWalk entries c.args.place levels c.map-above.result whole) (sym w.levels-is)
          (walk-passes entries c.args.place c.loop-above.levels c.in-Some.at whole c.loop-above.above c.in-Some.is c.loop-above.invariant entry
          c.index-entries-at.is c.map-above.result (parent c) w.if-levels-gt0.false w.if-at-place.false)
    ]

pub loop-above-smaller : goal.loop-above-smaller
loop-above-smaller c =
    walk-smaller c.args.entries.now c.args.place c.loop-above.levels c.in-Some.at _ c.loop-above.above c.in-Some.is c.loop-above.invariant
    c.index-entries-at.result c.index-entries-at.is c.map-above.result (parent (goal.at.loop-above-smaller c).After-map-above)

pub returns : goal.returns
returns c =
    walk-ends c.args.entries.now c.args.place c.loop-above.levels (path_behind 0 [] c.args.entries.now) c.loop-above.above c.in_default.is
    c.loop-above.invariant
