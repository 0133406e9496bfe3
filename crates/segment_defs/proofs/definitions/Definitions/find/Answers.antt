use Rattle.std.proofs.Common.{◌≡◌, ℕ, Option, Some, None, arith, sym, subst}
use Rattle.std.specs.Prelude.{◌↔◌, Contains}
use Rattle.std.specs.List.{flat_map}
use Rattle.std.proofs.lemmas.Grind.{common_steps}
use Rattle.segment_defs.specs.Definitions.{StandsFor, names_of, found_in}
use Rattle.segment_defs.proofs.DefinitionsLemmas.{none-found, stands_for-found}
use Rattle.segment_defs.proofs.definitions.Definitions.find.Goals as goal

pub returns-in-Some-named-clause-stands_for : goal.returns-in-Some-named-clause-stands_for
returns-in-Some-named-clause-stands_for c =
    let is : ◌≡◌ {A = Option (ℕ × ℕ)} (Some (c.loop-place.place, c.in-Some-named.version)) (found_in c.args.name.now c.args.self.now.types) = grind
    (arith, common_steps) in
    λ segment version. subst (λ (found : Option (ℕ × ℕ)). (found ≡ Some (segment, version)) ↔ StandsFor c.args.self.now c.args.name.now segment version)
    (sym is)
    (stands_for-found c.args.self.now c.args.name.now segment version c.requires)

pub returns-in-Some-named-clause-none : goal.returns-in-Some-named-clause-none
returns-in-Some-named-clause-none c =
    let is : ◌≡◌ {A = Option (ℕ × ℕ)} (Some (c.loop-place.place, c.in-Some-named.version)) (found_in c.args.name.now c.args.self.now.types) = grind
    (arith, common_steps) in
    subst (λ (found : Option (ℕ × ℕ)). (found ≡ None) ↔ (Contains (flat_map names_of c.args.self.now.types) c.args.name.now → ⊥)) (sym is)
    (none-found c.args.self.now c.args.name.now c.requires)

pub returns-clause-stands_for : goal.returns-clause-stands_for
returns-clause-stands_for c =
    let is : ◌≡◌ {A = Option (ℕ × ℕ)} None (found_in c.args.name.now c.args.self.now.types) = grind (arith, common_steps) in
    λ segment version. subst (λ (found : Option (ℕ × ℕ)). (found ≡ Some (segment, version)) ↔ StandsFor c.args.self.now c.args.name.now segment version)
    (sym is)
    (stands_for-found c.args.self.now c.args.name.now segment version c.requires)

pub returns-clause-none : goal.returns-clause-none
returns-clause-none c =
    let is : ◌≡◌ {A = Option (ℕ × ℕ)} None (found_in c.args.name.now c.args.self.now.types) = grind (arith, common_steps) in
    subst (λ (found : Option (ℕ × ℕ)). (found ≡ None) ↔ (Contains (flat_map names_of c.args.self.now.types) c.args.name.now → ⊥)) (sym is)
    (none-found c.args.self.now c.args.name.now c.requires)
