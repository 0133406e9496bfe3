-- What stands at a key of a table, by the kinds of keys.
use Rattle.std.specs.Prelude.{ℕ, suc, ℤ, pos, negsuc, Bool, true, ◌&&◌, List, [], ◌++◌, codes, position, Option, Some, None, Result, Ok, Err, nat_le}
use Rattle.std.specs.Prelude.{if◌then◌else◌}
use Rattle.std.specs.List.{list_any}
use Rattle.toml.specs.Data.{Data, Items, no_items, item, Members, no_members, member, get_member, as_str, as_integer, as_bool, as_array, as_table}
use Rattle.ale_base.specs.Text.{is_text}
use Rattle.segment_defs.specs.Name.{is_name_within, is_segment_name}
use Rattle.model_keys.specs.declared.finding.Cause.TheVariants.{Missing, Unknown, Wrong, Twice, Limit}
use Rattle.model_keys.specs.declared.finding.Finding.{Finding}
use Rattle.model_keys.specs.Finding.{◌>>=◌, required, at}

-- all keys are known; they stand in byte order. A text stands before the key in the path to one that is not
unfoldable pub only_known : List ℕ → List (List ℕ) → Members → Result Bool Finding
only_known before known no_members = Ok true
only_known before known (member key d rest) =
    if list_any (is_text key) known then only_known before known rest else Err (at Unknown (before ++ key))

-- a table, where an entry has to be one
unfoldable pub table_of : Data → Result Members Finding
table_of d = required Wrong [] (as_table d)

-- the table of an entry, all of whose keys are known
unfoldable pub entry_of : List (List ℕ) → Data → Result Members Finding
entry_of known d = do
  table ← table_of d
  all ← only_known (codes ".") known table
  Ok table

-- what stands at a key that has to be there
unfoldable pub value_at : List ℕ → Members → Result Data Finding
value_at key table = required Missing key (get_member key table)

-- what a key holds, read so, or another value where the key is absent
abbrev pub or_else : {A : Type 0} → A → (Data → Result A Finding) → Option Data → Result A Finding
or_else other read None = Ok other
or_else other read (Some d) = read d

-- how many elements a list has
abbrev pub items_len : Items → ℕ
items_len no_items = 0
items_len (item d rest) = suc (items_len rest)

-- a list of at most so many elements
unfoldable pub list_of : ℕ → List ℕ → Data → Result Items Finding
list_of most key d = do
  ds ← required Wrong key (as_array d)
  if nat_le (items_len ds) most then Ok ds else Err (at Limit key)

-- the same of a list that is not empty
unfoldable pub some_list_of : ℕ → List ℕ → Data → Result Items Finding
some_list_of most key d = do
  ds ← list_of most key d
  if nat_le 1 (items_len ds) then Ok ds else Err (at Wrong key)

-- a list of any length
unfoldable pub any_list_at : List ℕ → Members → Result Items Finding
any_list_at key table = do
  d ← value_at key table
  required Wrong key (as_array d)

-- the same of a list whose key may be absent: no elements then
unfoldable pub any_list_or_none_at : List ℕ → Members → Result Items Finding
any_list_or_none_at key table = or_else no_items (λ d. required Wrong key (as_array d)) (get_member key table)

-- the same of the list at a key that has to be there
unfoldable pub list_at : ℕ → List ℕ → Members → Result Items Finding
list_at most key table = do
  d ← value_at key table
  list_of most key d

-- and of one that is not empty
unfoldable pub some_list_at : ℕ → List ℕ → Members → Result Items Finding
some_list_at most key table = do
  d ← value_at key table
  some_list_of most key d

-- and of one whose key may be absent: no elements then
unfoldable pub list_or_none_at : ℕ → List ℕ → Members → Result Items Finding
list_or_none_at most key table = or_else no_items (list_of most key) (get_member key table)

-- a name of at most so many bytes
unfoldable pub name_of : ℕ → List ℕ → Data → Result (List ℕ) Finding
name_of longest path d = do
  text ← required Wrong path (as_str d)
  if is_name_within longest text then Ok text else Err (at Wrong path)

-- the same at a key that has to be there
unfoldable pub name_at : ℕ → List ℕ → Members → Result (List ℕ) Finding
name_at longest key table = do
  d ← value_at key table
  name_of longest key d

-- a name of a segment type or of a definition
unfoldable pub segment_name_of : List ℕ → Data → Result (List ℕ) Finding
segment_name_of path d = do
  text ← required Wrong path (as_str d)
  if is_segment_name text then Ok text else Err (at Wrong path)

-- the same at a key that has to be there
unfoldable pub segment_name_at : List ℕ → Members → Result (List ℕ) Finding
segment_name_at key table = do
  d ← value_at key table
  segment_name_of key d

-- the place of the segment type of a name
unfoldable pub segment_type_at : List ℕ → List (List ℕ) → Members → Result ℕ Finding
segment_type_at key types table = do
  name ← segment_name_at key table
  required Unknown key (position (is_text name) types)

-- the place of a name among some
unfoldable pub reference_at : ℕ → List ℕ → List (List ℕ) → Members → Result ℕ Finding
reference_at longest key names table = do
  name ← name_at longest key table
  required Unknown key (position (is_text name) names)

-- a name that none of some others is
unfoldable pub new_name : List ℕ → List (List ℕ) → List ℕ → Result (List ℕ) Finding
new_name path names name = if list_any (is_text name) names then Err (at Twice path) else Ok name

-- a name of at most so many bytes that none of some others is
unfoldable pub new_name_of : ℕ → List ℕ → List (List ℕ) → Data → Result (List ℕ) Finding
new_name_of longest path names d = do
  name ← name_of longest path d
  new_name path names name

-- the same at a key that has to be there
unfoldable pub new_name_at : ℕ → List ℕ → List (List ℕ) → Members → Result (List ℕ) Finding
new_name_at longest key names table = do
  d ← value_at key table
  new_name_of longest key names d

-- the same of a name of a segment type or of a definition
unfoldable pub new_segment_name_at : List ℕ → List (List ℕ) → Members → Result (List ℕ) Finding
new_segment_name_at key names table = do
  name ← segment_name_at key table
  new_name key names name

-- a number of a range
abbrev pub number_in : ℕ → ℕ → List ℕ → ℤ → Result ℕ Finding
number_in least most path (pos n) = if nat_le least n && nat_le n most then Ok n else Err (at Wrong path)
number_in least most path (negsuc n) = Err (at Wrong path)

-- a whole number of a range
unfoldable pub number_of : ℕ → ℕ → List ℕ → Data → Result ℕ Finding
number_of least most path d = do
  z ← required Wrong path (as_integer d)
  number_in least most path z

-- a truth value
unfoldable pub bool_of : List ℕ → Data → Result Bool Finding
bool_of path d = required Wrong path (as_bool d)

-- the truth value at a key, or another one where the key is absent
unfoldable pub bool_or_at : Bool → List ℕ → Members → Result Bool Finding
bool_or_at other key table = or_else other (bool_of key) (get_member key table)
