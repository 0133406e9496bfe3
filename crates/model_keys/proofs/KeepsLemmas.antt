-- What is known of a value that a reading gave.
use Rattle.std.specs.Prelude.{IsTrue}
use Rattle.std.specs.List.{list_any}
use Rattle.std.proofs.Common.{◌≡◌, ℕ, ℤ, pos, negsuc, suc, ◌+◌, ◌≤◌, ◌&&◌, nat_le, Bool, true, false, cond, Option, Some, None, Result, Ok, Err, List, [], ◌∷◌}
use Rattle.std.proofs.Common.{◌++◌, length, position, refl, sym, ap, subst, ◌∙◌, arith}
use Rattle.std.proofs.lemmas.Bool.{and_parts}
use Rattle.std.proofs.lemmas.Bool.Decides.{nat_tests}
use Rattle.std.proofs.lemmas.List.{length-append}
use Rattle.toml.specs.Data.{Data, Items, no_items, item, Members, get_member, as_str, as_array, as_integer}
use Rattle.ale_base.specs.Text.{is_text}
use Rattle.segment_defs.specs.Name.{is_name_within, is_segment_name}
use Rattle.segment_defs.proofs.NameLemmas.{position-name}
use Rattle.model_keys.specs.declared.finding.Cause.{Cause}
use Rattle.model_keys.specs.declared.finding.Cause.TheVariants.{Missing, Unknown, Wrong, Twice, Limit}
use Rattle.model_keys.specs.declared.finding.Finding.{Finding}
use Rattle.model_keys.specs.Finding.{◌>>=◌, at, check, required, within}
use Rattle.model_keys.specs.Each.{each}
use Rattle.model_keys.specs.Says.{HasList, HasText, SaysPlace}
use Rattle.model_keys.specs.Keys.{items_len, list_of, list_or_none_at, name_at, name_of, new_name, new_name_at, new_name_of, new_segment_name_at, number_in}
use Rattle.model_keys.specs.Keys.{number_of, or_else, reference_at, segment_name_at, segment_name_of, segment_type_at, some_list_at, some_list_of, value_at}

-- a reading that went on gave a value
pub from_bind : {A B : Type 0} (r : Result A Finding) (f : A → Result B Finding) (y : B) → (r >>= f) ≡ Ok y → (x : A) × (r ≡ Ok x) × (f x ≡ Ok y)
from_bind (Ok x) f y h = (x, refl, h)
from_bind (Err e) f y h = absurd (cc)

pub within-ok : {A : Type 0} (key : List ℕ) (place : ℕ) (r : Result A Finding) (a : A) → within key place r ≡ Ok a → r ≡ Ok a
within-ok key place (Ok x) a h = h
within-ok key place (Err e) a h = absurd (cc)

-- a test that lets a value pass
pub tested : {A : Type 0} (b : Bool) (x y : A) (f : Finding) → cond b (Ok x) (Err f) ≡ Ok y → (b ≡ true) × (x ≡ y)
tested true x y f h = (refl, cc)
tested false x y f h = absurd (cc)

pub untested : {A : Type 0} (b : Bool) (x y : A) (f : Finding) → cond b (Err f) (Ok x) ≡ Ok y → (b ≡ false) × (x ≡ y)
untested false x y f h = (refl, cc)
untested true x y f h = absurd (cc)

pub required-ok : {A : Type 0} (cause : Cause) (path : List ℕ) (o : Option A) (x : A) → required cause path o ≡ Ok x → o ≡ Some x
required-ok cause path (Some y) x h = cc
required-ok cause path None x h = absurd (cc)

pub check-ok : (cause : Cause) (path : List ℕ) (test y : Bool) → check cause path test ≡ Ok y → test ≡ true
check-ok cause path true y h = refl
check-ok cause path false y h = absurd (cc)

module _ {A : Type 0} (key : List ℕ) (read : List A → Data → Result A Finding) where
  -- what holds of no elements, and of one more where it holds of those before it, holds of all
  pub each-invariant : (I : List A → Type 0) → ((done : List A) (d : Data) (a : A) → I done → read done d ≡ Ok a → I (done ++ a ∷ []))
      → (place : ℕ) (done : List A) (ds : Items) (all : List A) → I done → each key read place done ds ≡ Ok all → I all
  unfolding each
  each-invariant I step place done no_items all so_far h = let e : done ≡ all = cc in subst I e so_far
  each-invariant I step place done (item d ds) all so_far h =
      let (a, is, rest) = from_bind (within key place (read done d)) (λ a. each key read (suc place) (done ++ a ∷ []) ds) all h in
      each-invariant I step (suc place) (done ++ a ∷ []) ds all (step done d a so_far (within-ok key place (read done d) a is)) rest

  -- one element is read of each
  pub each-length : (place : ℕ) (done : List A) (ds : Items) (all : List A) → each key read place done ds ≡ Ok all → length all ≡ length done + items_len ds
  unfolding each
  each-length place done no_items all h = let e : done ≡ all = cc in sym (ap length e) ∙ omega arith
  each-length place done (item d ds) all h =
      let (a, is, rest) = from_bind (within key place (read done d)) (λ a. each key read (suc place) (done ++ a ∷ []) ds) all h in
      each-length (suc place) (done ++ a ∷ []) ds all rest ∙ omega (arith, length-append done (a ∷ []))

-- names of a form
pub name_of-keeps : (longest : ℕ) (path : List ℕ) (d : Data) (name : List ℕ) → name_of longest path d ≡ Ok name →
    (as_str d ≡ Some name) × IsTrue (is_name_within longest name)
unfolding name_of
name_of-keeps longest path d name h =
    let (text, t, g) = from_bind (required Wrong path (as_str d)) (λ text. cond (is_name_within longest text) (Ok text) (Err (at Wrong path))) name h in
    let (passes, e) = tested (is_name_within longest text) text name (at Wrong path) g in
    (required-ok Wrong path (as_str d) text t ∙ ap Some e, subst (λ n. IsTrue (is_name_within longest n)) e passes)

pub segment_name_of-keeps : (path : List ℕ) (d : Data) (name : List ℕ) → segment_name_of path d ≡ Ok name →
    (as_str d ≡ Some name) × IsTrue (is_segment_name name)
unfolding segment_name_of
segment_name_of-keeps path d name h =
    let (text, t, g) = from_bind (required Wrong path (as_str d)) (λ text. cond (is_segment_name text) (Ok text) (Err (at Wrong path))) name h in
    let (passes, e) = tested (is_segment_name text) text name (at Wrong path) g in
    (required-ok Wrong path (as_str d) text t ∙ ap Some e, subst (λ n. IsTrue (is_segment_name n)) e passes)

pub value_at-keeps : (key : List ℕ) (table : Members) (d : Data) → value_at key table ≡ Ok d → get_member key table ≡ Some d
unfolding value_at
value_at-keeps key table d h = required-ok Missing key (get_member key table) d h

pub name_at-keeps : (longest : ℕ) (key : List ℕ) (table : Members) (name : List ℕ) → name_at longest key table ≡ Ok name →
    HasText key table name × IsTrue (is_name_within longest name)
unfolding name_at
name_at-keeps longest key table name h =
    let (d, t, g) = from_bind (value_at key table) (λ d. name_of longest key d) name h in
    let (is, named) = name_of-keeps longest key d name g in
    ((d, value_at-keeps key table d t, is), named)

pub segment_name_at-keeps : (key : List ℕ) (table : Members) (name : List ℕ) → segment_name_at key table ≡ Ok name →
    HasText key table name × IsTrue (is_segment_name name)
unfolding segment_name_at
segment_name_at-keeps key table name h =
    let (d, t, g) = from_bind (value_at key table) (λ d. segment_name_of key d) name h in
    let (is, named) = segment_name_of-keeps key d name g in
    ((d, value_at-keeps key table d t, is), named)

-- a new name
pub new_name-keeps : (path : List ℕ) (names : List (List ℕ)) (text name : List ℕ) → new_name path names text ≡ Ok name →
    (text ≡ name) × (list_any (is_text name) names ≡ false)
unfolding new_name
new_name-keeps path names text name h =
    let (new, e) = untested (list_any (is_text text) names) text name (at Twice path) h in
    (e, subst (λ n. list_any (is_text n) names ≡ false) e new)

-- a new name of this form at a key
pub record IsNewAt (key : List ℕ) (table : Members) (names : List (List ℕ)) (name : List ℕ) : Type 0 where
  pub text : HasText key table name
  pub new : list_any (is_text name) names ≡ false

pub new_name_of-keeps : (longest : ℕ) (path : List ℕ) (names : List (List ℕ)) (d : Data) (name : List ℕ) → new_name_of longest path names d ≡ Ok name
    → (as_str d ≡ Some name) × IsTrue (is_name_within longest name) × (list_any (is_text name) names ≡ false)
unfolding new_name_of
new_name_of-keeps longest path names d name h =
    let (text, t, g) = from_bind (name_of longest path d) (λ text. new_name path names text) name h in
    let (e, new) = new_name-keeps path names text name g in
    let (is, named) = name_of-keeps longest path d text t in
    (is ∙ ap Some e, subst (λ n. IsTrue (is_name_within longest n)) e named, new)

pub new_name_at-keeps : (longest : ℕ) (key : List ℕ) (names : List (List ℕ)) (table : Members) (name : List ℕ) → new_name_at longest key names table ≡ Ok name
    → IsNewAt key table names name × IsTrue (is_name_within longest name)
unfolding new_name_at
new_name_at-keeps longest key names table name h =
    let (d, t, g) = from_bind (value_at key table) (λ d. new_name_of longest key names d) name h in
    let (is, named, new) = new_name_of-keeps longest key names d name g in
    (record { text = (d, value_at-keeps key table d t, is); new = new }, named)

pub new_segment_name_at-keeps : (key : List ℕ) (names : List (List ℕ)) (table : Members) (name : List ℕ) → new_segment_name_at key names table ≡ Ok name
    → IsNewAt key table names name × IsTrue (is_segment_name name)
unfolding new_segment_name_at
new_segment_name_at-keeps key names table name h =
    let (text, t, g) = from_bind (segment_name_at key table) (λ text. new_name key names text) name h in
    let (e, new) = new_name-keeps key names text name g in
    let (is, named) = segment_name_at-keeps key table text t in
    (record { text = subst (HasText key table) e is; new = new }, subst (λ n. IsTrue (is_segment_name n)) e named)

-- what a name refers to
pub reference_at-keeps : (longest : ℕ) (key : List ℕ) (names : List (List ℕ)) (table : Members) (place : ℕ) → reference_at longest key names table ≡ Ok place
    → SaysPlace names key table place
unfolding reference_at
reference_at-keeps longest key names table place h =
    let (name, t, g) = from_bind (name_at longest key table) (λ name. required Unknown key (position (is_text name) names)) place h in
    (name, (name_at-keeps longest key table name t).0, position-name name names place (required-ok Unknown key (position (is_text name) names) place g))

pub segment_type_at-keeps : (key : List ℕ) (types : List (List ℕ)) (table : Members) (place : ℕ) → segment_type_at key types table ≡ Ok place
    → SaysPlace types key table place
unfolding segment_type_at
segment_type_at-keeps key types table place h =
    let (name, t, g) = from_bind (segment_name_at key table) (λ name. required Unknown key (position (is_text name) types)) place h in
    (name, (segment_name_at-keeps key table name t).0, position-name name types place (required-ok Unknown key (position (is_text name) types) place g))

pub list_of-keeps : (most : ℕ) (key : List ℕ) (d : Data) (ds : Items) → list_of most key d ≡ Ok ds → (as_array d ≡ Some ds) × (items_len ds ≤ most)
unfolding list_of
list_of-keeps most key d ds h =
    let (es, t, g) = from_bind (required Wrong key (as_array d)) (λ es. cond (nat_le (items_len es) most) (Ok es) (Err (at Limit key))) ds h in
    let (few, e) = tested (nat_le (items_len es) most) es ds (at Limit key) g in
    (required-ok Wrong key (as_array d) es t ∙ ap Some e, subst (λ es. items_len es ≤ most) e (least (items_len es) most few))
  where
    least : (a b : ℕ) → nat_le a b ≡ true → a ≤ b
    least a b is = grind (arith, nat_tests)

pub some_list_at-keeps : (most : ℕ) (key : List ℕ) (table : Members) (ds : Items) → some_list_at most key table ≡ Ok ds →
    HasList key table ds × (1 ≤ items_len ds) × (items_len ds ≤ most)
unfolding some_list_at some_list_of
some_list_at-keeps most key table ds h =
    let (d, t, g) = from_bind (value_at key table) (λ d. list_of most key d >>= (λ es. cond (nat_le 1 (items_len es)) (Ok es) (Err (at Wrong key)))) ds h in
    let (es, l, k) = from_bind (list_of most key d) (λ es. cond (nat_le 1 (items_len es)) (Ok es) (Err (at Wrong key))) ds g in
    let (some, e) = tested (nat_le 1 (items_len es)) es ds (at Wrong key) k in
    let (is, few) = list_of-keeps most key d es l in
    ((d, value_at-keeps key table d t, is ∙ ap Some e), subst (λ es. 1 ≤ items_len es) e (least 1 (items_len es) some), subst (λ es. items_len es ≤ most) e few)
  where
    least : (a b : ℕ) → nat_le a b ≡ true → a ≤ b
    least a b is = grind (arith, nat_tests)

pub list_or_none_at-keeps : (most : ℕ) (key : List ℕ) (table : Members) (ds : Items) → list_or_none_at most key table ≡ Ok ds → items_len ds ≤ most
unfolding list_or_none_at
list_or_none_at-keeps most key table ds h = found (get_member key table) h
  where
    found : (o : Option Data) → or_else no_items (list_of most key) o ≡ Ok ds → items_len ds ≤ most
    found None is = let e : no_items ≡ ds = cc in subst (λ es. items_len es ≤ most) e (omega arith)
    found (Some d) is = (list_of-keeps most key d ds is).1

-- a number of a range
number_in-keeps : (least most : ℕ) (path : List ℕ) (z : ℤ) (n : ℕ) → number_in least most path z ≡ Ok n → (z ≡ pos n) × (least ≤ n) × (n ≤ most)
number_in-keeps least most path (pos k) n h =
    let (is, e) = tested (nat_le least k && nat_le k most) k n (at Wrong path) h in
    let parts = and_parts (nat_le least k) (nat_le k most) is in
    (ap pos e, subst (λ i. least ≤ i) e (under least k parts.0), subst (λ i. i ≤ most) e (under k most parts.1))
  where
    under : (a b : ℕ) → nat_le a b ≡ true → a ≤ b
    under a b is = grind (arith, nat_tests)
number_in-keeps least most path (negsuc k) n h = absurd (cc)

pub number_of-keeps : (least most : ℕ) (path : List ℕ) (d : Data) (n : ℕ) → number_of least most path d ≡ Ok n →
    (as_integer d ≡ Some (pos n)) × (least ≤ n) × (n ≤ most)
unfolding number_of
number_of-keeps least most path d n h =
    let (z, t, g) = from_bind (required Wrong path (as_integer d)) (λ z. number_in least most path z) n h in
    let (e, low, high) = number_in-keeps least most path z n g in
    (required-ok Wrong path (as_integer d) z t ∙ ap Some e, low, high)
