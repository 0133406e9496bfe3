-- What stands at a key of a table, and no order of checks.
use Rattle.std.specs.Prelude.{◌≡◌, ℕ, List, [], ◌∷◌, ◌++◌, Some, slice_get, MatchOption}
use Rattle.toml.specs.Data.{Data, Items, no_items, item, Members, get_member, as_str, as_array}
use Rattle.ale_base.specs.Blanks.{trimmed}

-- this text stands at a key
abbrev pub HasText : List ℕ → Members → List ℕ → Type 0
HasText key table text = (d : Data) × (get_member key table ≡ Some d) × (as_str d ≡ Some text)

-- this list stands at a key
abbrev pub HasList : List ℕ → Members → Items → Type 0
HasList key table ds = (d : Data) × (get_member key table ≡ Some d) × (as_array d ≡ Some ds)

-- the same, or the key is absent and the list has no elements
abbrev pub HasListOrNone : List ℕ → Members → Items → Type 0
HasListOrNone key table ds = MatchOption (get_member key table) (ds ≡ no_items) (λ d. as_array d ≡ Some ds)

-- the elements of a list say some values one for one, each behind those before it
abbrev pub OneForOne : {A : Type 0} → (List A → Data → A → Type 0) → List A → Items → List A → Type 0
OneForOne says before no_items [] = Unit {0}
OneForOne says before (item d ds) (value ∷ values) = says before d value × OneForOne says (before ++ value ∷ []) ds values
OneForOne says before no_items (value ∷ values) = ⊥
OneForOne says before (item d ds) [] = ⊥

-- the list at a key says these values one for one
abbrev pub SaysList : {A : Type 0} → (List A → Data → A → Type 0) → List ℕ → Members → List A → Type 0
SaysList says key table values = (ds : Items) × HasList key table ds × OneForOne says [] ds values

-- the same, or the key is absent and there are none
abbrev pub SaysListOrNone : {A : Type 0} → (List A → Data → A → Type 0) → List ℕ → Members → List A → Type 0
SaysListOrNone says key table values = (ds : Items) × HasListOrNone key table ds × OneForOne says [] ds values

-- a name
abbrev pub SaysName : List (List ℕ) → Data → List ℕ → Type 0
SaysName before d name = as_str d ≡ Some name

-- a list of names
abbrev pub SaysNames : List (List ℕ) → Data → Type 0
SaysNames names d = (ds : Items) × (as_array d ≡ Some ds) × OneForOne SaysName [] ds names

-- the name at a key is the one at this place among some
abbrev pub SaysPlace : List (List ℕ) → List ℕ → Members → ℕ → Type 0
SaysPlace names key table place = (name : List ℕ) × HasText key table name × (slice_get names place ≡ Some name)

-- the same of a name that stands there by itself
abbrev pub IsPlaceNamed : List (List ℕ) → Data → ℕ → Type 0
IsPlaceNamed names d place = (name : List ℕ) × (as_str d ≡ Some name) × (slice_get names place ≡ Some name)

-- a text that is this value of a field: the blanks at its end are no part of the value
abbrev pub IsValueText : Data → List ℕ → Type 0
IsValueText d value = (text : List ℕ) × (as_str d ≡ Some text) × (trimmed text ≡ value)
