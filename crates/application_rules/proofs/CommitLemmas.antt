-- What a Commit that may follow a log has.
use Rattle.std.specs.Prelude.{is_none, nat_le}
use Rattle.std.specs.List.{AllByRecursion, list_all}
use Rattle.std.proofs.Common.{◌≡◌, ℕ, ◌≤◌, true, Option, List, [], ◌∷◌, length, arith}
use Rattle.std.proofs.lemmas.Bool.{and_parts}
use Rattle.std.proofs.lemmas.Bool.Decides.{nat_tests}
use Rattle.dist_model.specs.declared.lists.Lists.{Lists}
use Rattle.unit_core.specs.declared.raw_unit_doc.RawUnitDoc.{RawUnitDoc}
use Rattle.unit_core.specs.declared.records.Record.TheVariants.{Commit}
use Rattle.outbound_build.specs.Units.{HasShort, IsShort}
use Rattle.object_store.specs.Objects.{ObjectsOf}
use Rattle.change_pointers.specs.declared.pointer.Pointer.{Pointer}
use Rattle.application_rules.specs.declared.commits.TheConstants.{MOST_SEGMENTS}
use Rattle.application_rules.specs.Commits.{are_of, may_be_committed, may_commit}
use Rattle.application_rules.specs.Masters.{master_fault}

within : (a b : ℕ) → nat_le a b ≡ true → a ≤ b
within a b is = grind (arith, nat_tests, is)

all_short : (model : Lists) (docs : List RawUnitDoc) → list_all (may_be_committed model) docs ≡ true → AllByRecursion (IsShort MOST_SEGMENTS) docs
all_short model [] all = tt
all_short model (doc ∷ docs) all =
    let parts = and_parts (may_be_committed model doc) (list_all (may_be_committed model) docs) all in
    let own = and_parts (nat_le (length doc.segments) MOST_SEGMENTS) (is_none (master_fault model doc)) parts.0 in
    (within (length doc.segments) MOST_SEGMENTS own.0, all_short model docs parts.1)

-- the documents of a Commit that may follow a log are short
pub commit-short : (model : Lists) (objects : ObjectsOf) (pointers : List Pointer) (origin : Option (List ℕ)) (docs : List RawUnitDoc)
    → may_commit model objects pointers origin docs ≡ true → HasShort MOST_SEGMENTS (Commit origin docs)
commit-short model objects pointers origin docs may =
    all_short model docs (and_parts (are_of model objects pointers origin docs) (list_all (may_be_committed model) docs) may).1
