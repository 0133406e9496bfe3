-- The laws hold of rules that list the units.
use Rattle.std.specs.Prelude.{take, slice_index_or, IsTrue}
use Rattle.std.proofs.Common.{◌≡◌, ℕ, zero, suc, ◌+◌, ◌<◌, ◌≤◌, ◌==◌, true, false, not, ◌&&◌, nat_le, List, [], ◌∷◌, ◌++◌, length, refl, sym, ap, subst, ◌∙◌}
use Rattle.std.proofs.Common.{arith, add_assoc, cond}
use Rattle.std.proofs.lemmas.Bool.{and_parts, eqb-true, leb-true, not-true, eqb-false}
use Rattle.std.proofs.lemmas.List.{length-take}
use Rattle.ale_base.specs.declared.system_no.TheConstants.SystemNo.{MAX}
use Rattle.ale_base.specs.declared.tid.TheConstants.Tid.{MAX_UNIT}
use Rattle.unit_core.specs.declared.ale_unit.AleUnit.{AleUnit}
use Rattle.unit_core.specs.declared.records.Record.{Record}
use Rattle.unit_core.specs.declared.records.Record.TheVariants.{Commit}
use Rattle.ale_base.specs.Prefix.{IsPrefix}
use Rattle.unit_core.specs.Queues.{are_different}
use Rattle.trfc_protocol.specs.Legal.{IsUnitAt, IsLawful, is_commit}
use Rattle.protocol_scenes.specs.ListedRules.{most_queues, is_unit, are_units, are_lists, are_listed, list_of, is_commit_record, commits_of, listed_meaning}

is_unit-at : (systems system k : ℕ) (unit : AleUnit) → is_unit systems system (k + 1) unit ≡ true → IsUnitAt systems system k unit
is_unit-at systems system k unit is =
    let few = nat_le (length unit.outq) most_queues in
    let inbound = are_different unit.inq in
    let outbound = are_different unit.outq in
    let other = not (unit.receiver == system) in
    let most = nat_le unit.receiver systems in
    let least = nat_le 1 unit.receiver in
    let from = unit.sender == system in
    let number = unit.tid.unit == (k + 1) in
    let home = unit.tid.system == system in
    let p = and_parts (home && number && from && least && most && other && outbound && inbound) few is in
    let n = and_parts (home && number && from && least && most && other && outbound) inbound p.0 in
    let m = and_parts (home && number && from && least && most && other) outbound n.0 in
    let a = and_parts (home && number && from && least && most) other m.0 in
    let b = and_parts (home && number && from && least) most a.0 in
    let c = and_parts (home && number && from) least b.0 in
    let d = and_parts (home && number) from c.0 in
    let e = and_parts home number d.0 in
    let its_system : unit.tid.system ≡ system = eqb-true unit.tid.system system e.0 in
    let its_number : unit.tid.unit ≡ k + 1 = eqb-true unit.tid.unit (k + 1) e.1 in
    record {
      tid = λ i. record { system = its_system i; unit = its_number i };
      sender = eqb-true unit.sender system d.1;
      receiver_least = leb-true 1 unit.receiver c.1;
      receiver_most = leb-true unit.receiver systems b.1;
      other = eqb-false unit.receiver system (not-true (unit.receiver == system) a.1);
      outbound_names = m.1;
      inbound_names = n.1;
    }

pub are_units-at : (systems system k : ℕ) (units : List AleUnit) → are_units systems system (k + 1) units ≡ true → (j : ℕ) (d : AleUnit) → j < length units
    → IsUnitAt systems system (k + j) (slice_index_or units j d)
are_units-at systems system k [] are j d within = absurd (omega arith)
are_units-at systems system k (u ∷ us) are zero d within =
    let parts = and_parts (is_unit systems system (k + 1) u) (are_units systems system (k + 1 + 1) us) are in
    let same : k ≡ k + 0 = omega arith in
    subst (λ (n : ℕ). IsUnitAt systems system n u) same (is_unit-at systems system k u parts.0)
are_units-at systems system k (u ∷ us) are (suc j) d within =
    let parts = and_parts (is_unit systems system (k + 1) u) (are_units systems system (k + 1 + 1) us) are in
    let moved : k + 1 + j ≡ k + suc j = omega arith in
    subst (λ (n : ℕ). IsUnitAt systems system n (slice_index_or us j d)) moved (are_units-at systems system (k + 1) us parts.1 j d (omega arith))

-- a list of the lists is that of its system
are_lists-at : (systems first : ℕ) (lists : List (List AleUnit)) → are_lists systems first lists ≡ true → (j : ℕ)
    → (length (slice_index_or lists j []) ≤ MAX_UNIT) × (are_units systems (first + j) 1 (slice_index_or lists j []) ≡ true)
are_lists-at systems first [] are j = (omega arith, refl)
are_lists-at systems first (l ∷ ls) are zero =
    let a = and_parts (nat_le (length l) MAX_UNIT && are_units systems first 1 l) (are_lists systems (first + 1) ls) are in
    let b = and_parts (nat_le (length l) MAX_UNIT) (are_units systems first 1 l) a.0 in
    let same : first ≡ first + 0 = omega arith in
    (leb-true (length l) MAX_UNIT b.0, subst (λ (n : ℕ). are_units systems n 1 l ≡ true) same b.1)
are_lists-at systems first (l ∷ ls) are (suc j) =
    let a = and_parts (nat_le (length l) MAX_UNIT && are_units systems first 1 l) (are_lists systems (first + 1) ls) are in
    let moved : first + 1 + j ≡ first + suc j = omega arith in
    let there = are_lists-at systems (first + 1) ls a.1 j in
    (there.0, subst (λ (n : ℕ). are_units systems n 1 (slice_index_or ls j []) ≡ true) moved there.1)

-- the units of each list, by the test that they passed
pub list_of-at : (lists : List (List AleUnit)) → are_listed lists ≡ true → (system : ℕ)
    → (length (list_of lists system) ≤ MAX_UNIT) × (are_units (length lists) system 1 (list_of lists system) ≡ true)
list_of-at lists are zero = (omega arith, refl)
list_of-at lists are (suc k) =
    let a = and_parts (nat_le 1 (length lists) && nat_le (length lists) MAX) (are_lists (length lists) 1 lists) are in
    let there = are_lists-at (length lists) 1 lists a.1 k in
    let moved : 1 + k ≡ suc k = omega arith in
    (there.0, subst (λ (n : ℕ). are_units (length lists) n 1 (slice_index_or lists k []) ≡ true) moved there.1)

pub index-take : (units : List AleUnit) (n j : ℕ) (d : AleUnit) → j < length (take n units)
    → (j < length units) × (slice_index_or (take n units) j d ≡ slice_index_or units j d)
index-take [] zero j d within = absurd (omega arith)
index-take [] (suc n) j d within = absurd (omega arith)
index-take (u ∷ us) zero j d within = absurd (omega arith)
index-take (u ∷ us) (suc n) zero d within = (omega arith, refl)
index-take (u ∷ us) (suc n) (suc j) d within = let there = index-take us n j d (omega arith) in (omega arith, there.1)

-- the first none of some units are none
take-none : (units : List AleUnit) → take 0 units ≡ []
take-none [] = refl
take-none (u ∷ us) = refl

take-further : (units : List AleUnit) (n m : ℕ) → IsPrefix (take n units) (take (n + m) units)
take-further [] zero m = (take (0 + m) [], refl)
take-further [] (suc n) m = let more : suc n + m ≡ suc (n + m) = omega arith in rw more ([], refl)
take-further (u ∷ us) zero m = (take (0 + m) (u ∷ us), refl)
take-further (u ∷ us) (suc n) m =
    let more : suc n + m ≡ suc (n + m) = omega arith in
    let there = take-further us n m in
    rw more (there.0, ap (λ xs. u ∷ xs) there.1)

-- one more record adds its own Commit
pub commits_of-push : (log : List Record) (next : Record) → commits_of (log ++ next ∷ []) ≡ commits_of log + commits_of (next ∷ [])
commits_of-push [] next = let none : commits_of (next ∷ []) ≡ 0 + commits_of (next ∷ []) = omega arith in none
commits_of-push (x ∷ xs) next =
    ap (λ (n : ℕ). cond (is_commit_record x) 1 0 + n) (commits_of-push xs next)
    ∙ sym (add_assoc (cond (is_commit_record x) 1 0) (commits_of xs) (commits_of (next ∷ [])))

none_committed : (next : Record) → is_commit next ≡ false → commits_of (next ∷ []) ≡ 0
none_committed (Commit origin docs) is = cc
none_committed _ is = refl

-- the laws hold
pub lawful : (lists : List (List AleUnit)) → IsTrue (are_listed lists) → IsLawful (listed_meaning lists)
lawful lists are =
    let a = and_parts (nat_le 1 (length lists) && nat_le (length lists) MAX) (are_lists (length lists) 1 lists) are in
    let b = and_parts (nat_le 1 (length lists)) (nat_le (length lists) MAX) a.0 in
    record {
      systems_least = leb-true 1 (length lists) b.0;
      systems_most = leb-true (length lists) MAX b.1;
      nothing_at_first = λ system. take-none (list_of lists system);
      numbered = λ system log legal k d within.
          let there = index-take (list_of lists system) (commits_of log) k d within in
          let from_one : 0 + k ≡ k = omega arith in
          subst (IsUnitAt (length lists) system k) (sym there.1)
          (subst (λ (n : ℕ). IsUnitAt (length lists) system n (slice_index_or (list_of lists system) k d)) from_one
          (are_units-at (length lists) system 0 (list_of lists system) (list_of-at lists are system).1 k d there.0));
      most = λ system log legal. let few : length (list_of lists system) ≤ MAX_UNIT = (list_of-at lists are system).0 in omega
          (arith, length-take (commits_of log) (list_of lists system));
      commits = λ system log next goes is.
          subst (λ (n : ℕ). IsPrefix (take (commits_of log) (list_of lists system)) (take n (list_of lists system))) (sym (commits_of-push log next))
          (take-further (list_of lists system) (commits_of log) (commits_of (next ∷ [])));
      commits_nothing = λ system log next is.
          let none : commits_of log + 0 ≡ commits_of log = omega arith in
          ap (λ (n : ℕ). take n (list_of lists system))
          (commits_of-push log next ∙ ap (λ (n : ℕ). commits_of log + n) (none_committed next is) ∙ none);
      offers_stay = λ system log next function goes is. refl;
    }
