-- Lemmas on the spelling of transaction ids.
use Rattle.std.specs.Cmp.Lexicographic.{bytes_decides}
use Rattle.std.proofs.Common.{◌≡◌, ℕ, ◌≤◌, nat_le, ◌&&◌, true, List, Option, Some, None, length, take, drop, refl, sym, subst, ap, ◌∙◌, arith, eqb, inl, inr}
use Rattle.std.proofs.lemmas.Bool.{leb-true, le-leb, and_parts, and_from, cases_eq, eq-eqb, ne_eqb}
use Rattle.std.proofs.lemmas.Option.{cond_some}
use Rattle.ale_base.specs.Hexadecimal.{digits_of, number_of}
use Rattle.ale_base.specs.Text.{is_text}
use Rattle.ale_base.specs.Tid.{TidOf, IsTid, is_tid, spelling, has_range, tid_of}
use Rattle.ale_base.proofs.HexadecimalLemmas.{number_of-digits_of}

take-spelling : (tid : TidOf) → take 8 (spelling tid) ≡ digits_of 8 tid.system
unfolding digits_of
take-spelling tid = refl

drop-spelling : (tid : TidOf) → drop 4 (drop 8 (spelling tid)) ≡ digits_of 12 tid.unit
unfolding digits_of
drop-spelling tid = refl

-- the numbers that the digits of an id spell are its own
pub number_of-system : (bytes : List ℕ) (tid : TidOf) → IsTid tid → bytes ≡ spelling tid → tid.system ≡ number_of (take 8 bytes)
number_of-system bytes tid is same =
    let small : tid.system ≤ 16 = is.system_most in
    let spelled : number_of (take 8 bytes) ≡ tid.system = ap (λ (bs : List ℕ). number_of (take 8 bs)) same ∙ ap number_of (take-spelling tid)
    ∙ number_of-digits_of 8 tid.system (omega arith) in
    cc

pub number_of-unit : (bytes : List ℕ) (tid : TidOf) → IsTid tid → bytes ≡ spelling tid → tid.unit ≡ number_of (drop 4 (drop 8 bytes))
number_of-unit bytes tid is same =
    let small : tid.unit ≤ 65536 = is.unit_most in
    let spelled : number_of (drop 4 (drop 8 bytes)) ≡ tid.unit = ap (λ (bs : List ℕ). number_of (drop 4 (drop 8 bs))) same ∙ ap number_of (drop-spelling tid)
    ∙ number_of-digits_of 12 tid.unit (omega arith) in
    cc

pub length-spelling : (tid : TidOf) → length (spelling tid) ≡ 24
unfolding digits_of
length-spelling tid = refl

pub Some-injective : (a b : TidOf) → Some a ≡ Some b → a ≡ b
Some-injective a b same = cc

range_of : (id : TidOf) → IsTid id → has_range id ≡ true
range_of id is =
    and_from _ _ (and_from _ _ (le-leb 1 id.system is.system_least) (le-leb id.system 16 is.system_most))
    (and_from _ _ (le-leb 1 id.unit is.unit_least) (le-leb id.unit 65536 is.unit_most))

in_range : (id : TidOf) → has_range id ≡ true → IsTid id
in_range id is =
    let one = and_parts (nat_le 1 id.system && nat_le id.system 16) _ is in
    let system = and_parts (nat_le 1 id.system) _ one.0 in
    let unit = and_parts (nat_le 1 id.unit) _ one.1 in
    record {
      system_least = leb-true 1 id.system system.0;
      system_most = leb-true id.system 16 system.1;
      unit_least = leb-true 1 id.unit unit.0;
      unit_most = leb-true id.unit 65536 unit.1;
    }

-- the bytes of an id are read as it
pub tid_of-spelled : (bytes : List ℕ) (id : TidOf) → IsTid id → bytes ≡ spelling id → tid_of bytes ≡ Some id
unfolding tid_of
tid_of-spelled bytes id is same =
    let system : number_of (take 8 bytes) ≡ id.system = sym (number_of-system bytes id is same) in
    let unit : number_of (drop 4 (drop 8 bytes)) ≡ id.unit = sym (number_of-unit bytes id is same) in
    let test : (has_range id && is_text (spelling id) bytes) ≡ true =
    and_from _ _ (range_of id is) ((bytes_decides (spelling id) bytes).1 (sym same)) in
    rw (system, unit, test) refl

-- what is read as an id is its bytes
pub tid_of-read : (bytes : List ℕ) (id : TidOf) → tid_of bytes ≡ Some id → IsTid id × (spelling id ≡ bytes)
unfolding tid_of
tid_of-read bytes id read =
    let here : TidOf = record { system = number_of (take 8 bytes); unit = number_of (drop 4 (drop 8 bytes)) } in
    let found = cond_some (has_range here && is_text (spelling here) bytes) here id read in
    let parts = and_parts (has_range here) _ found.0 in
    subst (λ (t : TidOf). IsTid t × (spelling t ≡ bytes)) found.1
    (in_range here parts.0, (bytes_decides (spelling here) bytes).0 parts.1)

-- a reading of ids that is exact in both directions is this one
pub same_tid : (bytes : List ℕ) (r : Option TidOf) → ((id : TidOf) → r ≡ Some id → IsTid id × (bytes ≡ spelling id))
    → ((id : TidOf) → IsTid id → bytes ≡ spelling id → r ≡ Some id) → r ≡ tid_of bytes
same_tid bytes (Some id) reads spelled = let is = reads id refl in sym (tid_of-spelled bytes id is.0 is.1)
same_tid bytes None reads spelled =
    sym (no_tid (tid_of bytes) (λ id is. let p = tid_of-read bytes id is in let some = spelled id p.0 (sym p.1) in absurd cc))
  where
    no_tid : (o : Option TidOf) → ((id : TidOf) → o ≡ Some id → ⊥) → o ≡ None
    no_tid (Some id) never = absurd (never id refl)
    no_tid None never = refl

eqb_turned : (a b : ℕ) → eqb a b ≡ eqb b a
eqb_turned a b =
    elim (cases_eq a b) [
      | inl same ↦ eq-eqb a b same ∙ sym (eq-eqb b a (sym same))
      | inr differs ↦ ne_eqb a b differs ∙ sym (ne_eqb b a (λ same. differs (sym same)))
    ]

-- whether two ids are the same does not mind their order
pub is_tid-turned : (a b : TidOf) → is_tid a b ≡ is_tid b a
is_tid-turned a b =
    ap (λ t. t && eqb a.unit b.unit) (eqb_turned a.system b.system)
    ∙ ap (λ t. eqb b.system a.system && t) (eqb_turned a.unit b.unit)
