-- Rules that list units, at the tables of a log: what a record commits, and how many queues units have.
use Rattle.std.specs.Prelude.{slice_get, slice_index_or, IsTrue, ◌&&◌}
use Rattle.std.specs.Option.{option_to_list}
use Rattle.std.proofs.Common.{◌≡◌, ℕ, zero, suc, map, ◌+◌, ◌<◌, true, not, ◌==◌, nat_le, Some, List, [], ◌∷◌, ◌++◌, length, take, All}
use Rattle.std.proofs.Common.{refl, sym, ap, subst, ◌∙◌, arith, append-nil}
use Rattle.std.proofs.lemmas.Bool.{and_parts, leb-true, ltb-true}
use Rattle.std.proofs.lemmas.List.{take_all}
use Rattle.std.proofs.lemmas.List.Elements.{All-nil, All-cons, All-take, All-contains}
use Rattle.std.proofs.lemmas.Option.{slice_get_within, get_or_from_slice_get}
use Rattle.ale_base.proofs.ListLemmas.{slice_get-within, take_next}
use Rattle.ale_base.specs.declared.way.Way.TheVariants.{Outgoing}
use Rattle.unit_core.specs.declared.ale_unit.AleUnit.{AleUnit}
use Rattle.unit_core.specs.declared.records.Record.{Record}
use Rattle.unit_core.specs.declared.records.Record.TheVariants.{Commit}
use Rattle.unit_core.specs.Queues.{are_different}
use Rattle.unit_core.specs.Systems.{of_system, AreNumbered}
use Rattle.system_tables.specs.Joins.{HasQueues}
use Rattle.trfc_protocol.specs.Legal.{may_follow, IsUnitAt}
use Rattle.log_tables.specs.Read.{CommitFew}
use Rattle.log_tables.proofs.JoinsLegalLemmas.{others}
use Rattle.protocol_scenes.specs.ListedRules.{most_queues, is_unit, are_units, are_listed, list_of, commits_of, units_by, listed_meaning}
use Rattle.protocol_scenes.specs.ListedRulesLemmas.{are_units-at, commits_of-push, index-take, list_of-at}

-- one unit more of a list
one-more : (list : List AleUnit) (n : ℕ) → n < length list → take (n + 1) list ≡ take n list ++ option_to_list (slice_get list n)
one-more list n within =
    let next = slice_get-within list n within in
    take_next list n next.0 next.1 ∙ ap (λ found. take n list ++ option_to_list found) (sym next.1)

-- a record that may follow a log commits the next unit of the list, or none
pub committed-more : (lists : List (List AleUnit)) (system : ℕ) (log : List Record) (next : Record)
    → may_follow (listed_meaning lists) system log next ≡ true
    → take (commits_of (log ++ next ∷ [])) (list_of lists system) ≡ take (commits_of log) (list_of lists system) ++ units_by (list_of lists system) log next
committed-more lists system log (Commit origin docs) ok =
    let list = list_of lists system in
    let n = commits_of log in
    let within : n < length list = ltb-true n (length list) (others (listed_meaning lists) system log (Commit origin docs) refl ok) in
    let one : commits_of (log ++ Commit origin docs ∷ []) ≡ n + 1 = commits_of-push log (Commit origin docs) in
    ap (λ m. take m list) one ∙ one-more list n within
committed-more lists system log next ok =
    let none : commits_of (log ++ next ∷ []) ≡ commits_of log = commits_of-push log next ∙ omega arith in
    ap (λ m. take m (list_of lists system)) none ∙ sym (append-nil (take (commits_of log) (list_of lists system)))

few_queues : (systems system k : ℕ) (unit : AleUnit) → is_unit systems system k unit ≡ true → HasQueues Outgoing unit
few_queues systems system k unit is =
    let few = nat_le (length unit.outq) most_queues in
    let inbound = are_different unit.inq in
    let outbound = are_different unit.outq in
    let front = (unit.tid.system == system) && (unit.tid.unit == k) && (unit.sender == system) && nat_le 1 unit.receiver && nat_le unit.receiver systems
    && not (unit.receiver == system) in
    let p = and_parts (front && outbound && inbound) few is in
    let n = and_parts (front && outbound) inbound p.0 in
    record { few = leb-true (length unit.outq) most_queues p.1; different = (and_parts front outbound n.0).1 }

all_few : (systems system k : ℕ) (units : List AleUnit) → are_units systems system k units ≡ true → All (HasQueues Outgoing) units
all_few systems system k [] are = All-nil (HasQueues Outgoing)
all_few systems system k (unit ∷ units) are =
    let parts = and_parts (is_unit systems system k unit) (are_units systems system (k + 1) units) are in
    All-cons (HasQueues Outgoing) unit units (few_queues systems system k unit parts.0) (all_few systems system (k + 1) units parts.1)

-- each unit that these rules commit has few outbound queues, which differ
pub CommitFew-listed : (lists : List (List AleUnit)) → IsTrue (are_listed lists) → CommitFew (listed_meaning lists)
CommitFew-listed lists are = record {
  each = λ system log legal unit there.
      All-contains (HasQueues Outgoing) (take (commits_of log) (list_of lists system)) unit
      (All-take (HasQueues Outgoing) (commits_of log) (list_of lists system)
      (all_few (length lists) system 1 (list_of lists system) (list_of-at lists are system).1)) there;
}

-- ---- the first units of each list

front-of : (lists : List (List AleUnit)) (count system : ℕ) → of_system (map (take count) lists) system ≡ take count (list_of lists system)
front-of lists count zero = sym (take_all count [] (omega arith))
front-of lists count (suc k) = at lists k
  where
    at : (ls : List (List AleUnit)) (j : ℕ) → slice_index_or (map (take count) ls) j [] ≡ take count (slice_index_or ls j [])
    at [] j = sym (take_all count [] (omega arith))
    at (l ∷ ls) zero = refl
    at (l ∷ ls) (suc j) = at ls j

-- they are numbered
pub AreNumbered-fronts : (lists : List (List AleUnit)) (count : ℕ) → IsTrue (are_listed lists) → (fronts : List (List AleUnit)) → fronts ≡ map (take count) lists
    → AreNumbered (of_system fronts)
AreNumbered-fronts lists count are fronts same = record {
  numbered = λ system k unit at.
      let list = list_of lists system in
      let here : slice_get (take count list) k ≡ Some unit =
      subst (λ (us : List AleUnit). slice_get us k ≡ Some unit) (ap (λ (fs : List (List AleUnit)). of_system fs system) same ∙ front-of lists count system) at in
      let there = index-take list count k unit (slice_get_within (take count list) k unit here) in
      let its : slice_index_or list k unit ≡ unit = sym there.1 ∙ get_or_from_slice_get (take count list) k unit unit here in
      let from_one : 0 + k ≡ k = omega arith in
      let unit_at : IsUnitAt (length lists) system k unit =
      subst (IsUnitAt (length lists) system k) its
      (subst (λ (n : ℕ). IsUnitAt (length lists) system n (slice_index_or list k unit)) from_one
      (are_units-at (length lists) system 0 list (list_of-at lists are system).1 k unit there.0)) in
      record { tid = unit_at.tid; sender = unit_at.sender };
}
