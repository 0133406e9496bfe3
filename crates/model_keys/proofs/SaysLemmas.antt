-- What a text says of values that were read.
use Rattle.std.specs.Prelude.{codes, slice_get, MatchOption}
use Rattle.std.specs.Option.{option_and_then}
use Rattle.std.proofs.Common.{◌≡◌, ℕ, suc, nat_eq, Bool, true, false, Option, Some, None, Result, Ok, List, [], ◌∷◌, ◌++◌, position, get_or, refl, sym, ap}
use Rattle.std.proofs.Common.{subst, ◌∙◌, append_assoc, append-nil, arith}
use Rattle.std.proofs.lemmas.Bool.Decides.{nat_tests}
use Rattle.std.proofs.lemmas.List.Quantifiers.{position-Some}
use Rattle.std.proofs.lemmas.Option.{slice_get-get_or}
use Rattle.toml.specs.Data.{Data, Items, no_items, item, Members, get_member, as_bool, as_array, as_table}
use Rattle.model_keys.specs.declared.finding.Cause.TheVariants.{Wrong}
use Rattle.model_keys.specs.declared.finding.Finding.{Finding}
use Rattle.model_keys.specs.Finding.{◌>>=◌, required, within}
use Rattle.model_keys.specs.Each.{each}
use Rattle.model_keys.specs.Keys.{any_list_at, any_list_or_none_at, bool_of, entry_of, list_of, only_known, or_else, table_of, value_at}
use Rattle.model_keys.specs.Says.{HasList, HasListOrNone, OneForOne}
use Rattle.model_keys.proofs.KeepsLemmas.{from_bind, list_of-keeps, required-ok, value_at-keeps, within-ok}

-- the elements of a list that was read say its values one for one
module _ {A : Type 0} (key : List ℕ) (read : List A → Data → Result A Finding) (says : List A → Data → A → Type 0)
    (one : (done : List A) (d : Data) (a : A) → read done d ≡ Ok a → says done d a) where
  pub each-says : (place : ℕ) (done : List A) (ds : Items) (all : List A) → each key read place done ds ≡ Ok all →
      (more : List A) × (all ≡ done ++ more) × OneForOne says done ds more
  unfolding each
  each-says place done no_items all h = let e : done ≡ all = cc in ([], sym e ∙ sym (append-nil done), tt)
  each-says place done (item d ds) all h =
      let (a, is, rest) = from_bind (within key place (read done d)) (λ a. each key read (suc place) (done ++ a ∷ []) ds) all h in
      let (more, e, says_more) = each-says (suc place) (done ++ a ∷ []) ds all rest in
      (a ∷ more, e ∙ append_assoc done (a ∷ []) more, (one done d a (within-ok key place (read done d) a is), says_more))

  pub all-says : (ds : Items) (all : List A) → each key read 0 [] ds ≡ Ok all → OneForOne says [] ds all
  all-says ds all h = let (more, e, says_more) = each-says 0 [] ds all h in subst (OneForOne says [] ds) (sym e) says_more

-- an entry is a table
pub entry_of-table : (known : List (List ℕ)) (d : Data) (table : Members) → entry_of known d ≡ Ok table → as_table d ≡ Some table
unfolding entry_of table_of
entry_of-table known d table h =
    let (found, t, g) = from_bind (required Wrong [] (as_table d)) (λ found. only_known (codes ".") known found >>= (λ all. Ok found)) table h in
    let (all, k, e) = from_bind (only_known (codes ".") known found) (λ all. Ok found) table g in
    let same : found ≡ table = cc in
    required-ok Wrong [] (as_table d) found t ∙ ap Some same

-- a list of any length
pub any_list_at-says : (key : List ℕ) (table : Members) (ds : Items) → any_list_at key table ≡ Ok ds → HasList key table ds
unfolding any_list_at
any_list_at-says key table ds h =
    let (d, t, g) = from_bind (value_at key table) (λ d. required Wrong key (as_array d)) ds h in
    (d, value_at-keeps key table d t, required-ok Wrong key (as_array d) ds g)

-- the place of a number among some
pub position-number : (number : ℕ) (numbers : List ℕ) (place : ℕ) → position (nat_eq number) numbers ≡ Some place → slice_get numbers place ≡ Some number
position-number number numbers place found =
    let at = position-Some (nat_eq number) numbers place number found in
    slice_get-get_or numbers place number at.0 ∙ ap Some (sym (same number (get_or numbers place number) at.1))
  where
    same : (a b : ℕ) → nat_eq a b ≡ true → a ≡ b
    same a b is = grind (arith, nat_tests)

-- what was found by two steps
pub and_then-found : {A B : Type 0} (f : A → Option B) (o : Option A) (y : B) → option_and_then f o ≡ Some y → (x : A) × (o ≡ Some x) × (f x ≡ Some y)
and_then-found f (Some x) y h = (x, refl, h)
and_then-found f None y h = absurd (cc)

-- a truth value, or none
pub bool_found-says : (key : List ℕ) (found : Option Data) (is : Bool) → or_else false (bool_of key) found ≡ Ok is →
    MatchOption found (is ≡ false) (λ d. as_bool d ≡ Some is)
unfolding bool_of
bool_found-says key None is h = cc
bool_found-says key (Some d) is h = required-ok Wrong key (as_bool d) is h

-- a list, or none
pub list_or_none-says : (most : ℕ) (key : List ℕ) (found : Option Data) (ds : Items) → or_else no_items (list_of most key) found ≡ Ok ds →
    MatchOption found (ds ≡ no_items) (λ d. as_array d ≡ Some ds)
list_or_none-says most key None ds h = cc
list_or_none-says most key (Some d) ds h = (list_of-keeps most key d ds h).0

-- a list of any length, or none
pub any_list_or_none_at-says : (key : List ℕ) (table : Members) (ds : Items) → any_list_or_none_at key table ≡ Ok ds → HasListOrNone key table ds
unfolding any_list_or_none_at
any_list_or_none_at-says key table ds h = found (get_member key table) h
  where
    found : (o : Option Data) → or_else no_items (λ d. required Wrong key (as_array d)) o ≡ Ok ds → MatchOption o (ds ≡ no_items) (λ d. as_array d ≡ Some ds)
    found None is = cc
    found (Some d) is = required-ok Wrong key (as_array d) ds is
