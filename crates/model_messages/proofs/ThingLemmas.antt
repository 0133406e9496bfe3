-- What names refer to, and the parts of a text.
use Rattle.std.specs.Prelude.{slice_get, IfOk}
use Rattle.std.proofs.Common.{◌≡◌, ℕ, suc, ◌+◌, ◌==◌, true, Result, Ok, Err, Some, List, ◌∷◌, ◌++◌, take, drop, get_or, position, sym, ap, subst, ◌∙◌}
use Rattle.std.proofs.Common.{drop-cons, arith}
use Rattle.std.proofs.lemmas.Bool.Decides.{nat_tests}
use Rattle.std.proofs.lemmas.List.{take-append-drop}
use Rattle.std.proofs.lemmas.List.Quantifiers.{position-Some}
use Rattle.toml.specs.Data.{Members}
use Rattle.segment_defs.specs.declared.limits.TheConstants.{LONGEST_NAME}
use Rattle.model_keys.specs.declared.finding.Cause.TheVariants.{Unknown}
use Rattle.model_keys.specs.declared.finding.Finding.{Finding}
use Rattle.model_keys.specs.declared.finding.ReadError.{ReadError}
use Rattle.model_keys.specs.Finding.{required, Gives}
use Rattle.model_keys.specs.Keys.{reference_at}
use Rattle.model_keys.specs.Says.{SaysPlace}
use Rattle.model_keys.proofs.KeepsLemmas.{from_bind, reference_at-keeps, required-ok}
use Rattle.model_messages.specs.Things.{thing_at}

-- what a reading gave is its value
pub read_same : {A : Type 0} (x y : A) → ◌≡◌ {A = Result A Finding} (Ok x) (Ok y) → x ≡ y
read_same x y h = cc

-- a value that a function returned is what its reading gave
pub given-holds : {A : Type 0} (reading : Result A Finding) (P : A → Type 0) → ((a : A) → reading ≡ Ok a → P a) → (r : Result A ReadError) →
    Gives (λ a. a) r reading → IfOk r P
given-holds reading P holds (Ok a) is = holds a is
given-holds reading P holds (Err error) is = tt

-- a thing that was found is the one at its place, whose name stands at the key
pub thing_at-keeps : {A : Type 0} (key : List ℕ) (names : List (List ℕ)) (things : List A) (table : Members) (found : ℕ × A) →
    thing_at key names things table ≡ Ok found
    → SaysPlace names key table found.0 × (slice_get things found.0 ≡ Some found.1)
unfolding thing_at
thing_at-keeps {A} key names things table found h =
    let (place, p, h1) = from_bind (reference_at LONGEST_NAME key names table) _ found h in
    let (thing, t, h2) = from_bind (required Unknown key (slice_get things place)) _ found h1 in
    let e : ◌≡◌ {A = ℕ × A} (place, thing) found = cc in
    subst (λ (f : ℕ × A). SaysPlace names key table f.0 × (slice_get things f.0 ≡ Some f.1)) e
    (reference_at-keeps LONGEST_NAME key names table place p, required-ok Unknown key (slice_get things place) thing t)

-- a text by the place of the first byte that is this one
pub split_at : (byte : ℕ) (text : List ℕ) (place : ℕ) → position (λ b. b == byte) text ≡ Some place → text ≡ take place text ++ byte ∷ drop (place + 1) text
split_at byte text place found =
    let at = position-Some (λ b. b == byte) text place 0 found in
    let here : get_or text place 0 ≡ byte = is_byte (get_or text place 0) at.1 in
    let next : place + 1 ≡ suc place = omega arith in
    let rest : drop place text ≡ byte ∷ drop (place + 1) text = drop-cons text place 0 at.0 ∙ ap (λ b. b ∷ drop (suc place) text) here
    ∙ ap (λ k. byte ∷ drop k text) (sym next) in
    sym (take-append-drop place text) ∙ ap (λ bytes. take place text ++ bytes) rest
  where
    is_byte : (b : ℕ) → b == byte ≡ true → b ≡ byte
    is_byte b is = grind (arith, nat_tests)
