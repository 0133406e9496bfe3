-- What is at each of some texts: entries in byte order of the texts, each text once.
use Rattle.std.specs.Prelude.{ℕ, List, Option}
use Rattle.std.specs.BTreeMap.{insert_entry}
use Rattle.std.specs.List.Sorted.{IsStrictlySortedBy}
use Rattle.std.specs.Map.{keys_of, lookup, remove_entry}
use Rattle.std.specs.Cmp.Lexicographic.{slice_cmp}
use Rattle.std.specs.Ordering.{nat_cmp}
use Rattle.ale_base.specs.Text.{is_text}

-- what is at a text
abbrev pub entry_at : {X : Type 0} → List ℕ → List (List ℕ × X) → Option X
entry_at text entries = lookup (is_text text) entries

-- this is at a text from now on: in the place of what was there, or in byte order between the others
abbrev pub with_entry : {X : Type 0} → List ℕ → X → List (List ℕ × X) → List (List ℕ × X)
with_entry text value entries = insert_entry (slice_cmp nat_cmp) entries text value

-- nothing is at a text from now on
abbrev pub without_entry : {X : Type 0} → List ℕ → List (List ℕ × X) → List (List ℕ × X)
without_entry text entries = remove_entry (is_text text) entries

-- the texts ascend in byte order, each once
abbrev pub IsAscending : {X : Type 0} → List (List ℕ × X) → Type 0
IsAscending entries = IsStrictlySortedBy (slice_cmp nat_cmp) (keys_of entries)
