-- Keys that are there and that are not, and lists of values.
use Rattle.std.proofs.Common.{◌≡◌, ℕ, suc, ◌<◌, ◌≤◌, length, List, [], ◌∷◌, Some, None, Ok, Err, refl, ap, le-leb, nat_le, false, arith, Vec, Global}
use Rattle.std.proofs.lemmas.Bool.Decides.{nat_tests}
use Rattle.toml.specs.Data.{Data, Members, get_member}
use Rattle.toml.specs.View.{view, items_view}
use Rattle.toml.specs.declared.value.Value.{Value, Array as ArrayCase}
use Rattle.toml.proofs.Views.{view-Array}
use Rattle.model_keys.specs.declared.finding.Cause.TheVariants.{Missing, Limit}
use Rattle.model_keys.specs.Finding.{at}
use Rattle.model_keys.specs.Keys.{value_at, items_len, list_of, some_list_of}

pub value_at-there : (key : List ℕ) (table : Members) (d : Data) → Some d ≡ get_member key table → value_at key table ≡ Ok d
unfolding value_at
value_at-there key table d is = rw (← is)

pub value_at-absent : (key : List ℕ) (table : Members) → None ≡ get_member key table → value_at key table ≡ Err (at Missing key)
unfolding value_at
value_at-absent key table is = rw (← is)

-- a list of values has as many elements as its data
pub items_len_view : (vs : List Value) → items_len (items_view vs) ≡ length vs
items_len_view [] = refl
items_len_view (v ∷ vs) = ap suc (items_len_view vs)

not-leb : (a b : ℕ) → b < a → nat_le a b ≡ false
not-leb a b h = grind (arith, nat_tests)

pub list_of-long : (most : ℕ) (key : List ℕ) (v : Value) (array : Vec Value Global) → v ≡ ArrayCase array → most < length array.items →
    list_of most key (view v) ≡ Err (at Limit key)
unfolding list_of
list_of-long most key v array is long = rw (is, view-Array array, items_len_view array.items, not-leb (length array.items) most long)

pub list_of-short : (most : ℕ) (key : List ℕ) (v : Value) (array : Vec Value Global) → v ≡ ArrayCase array → length array.items ≤ most →
    list_of most key (view v) ≡ Ok (items_view array.items)
unfolding list_of
list_of-short most key v array is short = rw (is, view-Array array, items_len_view array.items, le-leb (length array.items) most short)

pub some_list_of-some : (most : ℕ) (key : List ℕ) (d : Data) (vs : List Value) → list_of most key d ≡ Ok (items_view vs) → 1 ≤ length vs →
    some_list_of most key d ≡ Ok (items_view vs)
unfolding some_list_of
some_list_of-some most key d vs is some = rw (is, items_len_view vs, le-leb 1 (length vs) some)
