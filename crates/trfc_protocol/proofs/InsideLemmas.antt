-- What legality gives of one log by itself, without its rules; and that units are numbered.
use Rattle.std.specs.Prelude.{slice_get, slice_index_or}
use Rattle.std.proofs.Common.{◌≡◌, ◌↔◌, ℕ, ◌+◌, ◌==◌, ◌&&◌, not, Bool, true, false, Option, Some, None, List, [], ◌∷◌, ◌++◌, refl, subst}
use Rattle.std.proofs.lemmas.Bool.{and_parts, not-true}
use Rattle.std.proofs.lemmas.Option.{slice_get_within, get_or_from_slice_get}
use Rattle.ale_base.specs.Tid.{TidOf}
use Rattle.unit_core.specs.declared.ale_unit.AleUnit.{AleUnit}
use Rattle.unit_core.specs.declared.records.Record.{Record}
use Rattle.unit_core.specs.declared.records.Record.TheVariants.{Genesis, Accept, Execute, Direct}
use Rattle.ale_base.specs.declared.way.Way.TheVariants.{Incoming}
use Rattle.unit_core.specs.Filters.{received, executed, is_marked}
use Rattle.unit_core.specs.Queues.{is_listed, is_among, unit_named, heads_inbound}
use Rattle.unit_core.specs.Once.{Once}
use Rattle.unit_core.proofs.TidLemmas.{unit_named-Some}
use Rattle.trfc_protocol.specs.Meaning.{Meaning}
use Rattle.trfc_protocol.proofs.LegalLemmas.{is_free-parts}
use Rattle.trfc_protocol.specs.Legal.{is_empty, is_new, is_free_inbound, offers_received, may_begin, may_follow, may_follow_others, AllFollow, IsLegal, IsLawful}
use Rattle.unit_core.specs.Systems.{AreNumbered}
use Rattle.unit_core.specs.Inside.{JoinsInside, AllJoinInside, IsLegalInside}

empty-nil : {A : Type 0} (xs : List A) → is_empty xs ≡ true → xs ≡ []
empty-nil [] is = refl
empty-nil (x ∷ xs) is = cc

new-among : (system : ℕ) (log : List Record) (unit : AleUnit) → is_new system log unit ≡ true → is_among unit.tid (received log) ≡ false
new-among system log unit new =
    not-true (is_among unit.tid (received log)) (and_parts (unit.receiver == system) (not (is_among unit.tid (received log))) new).1

-- a record that may begin a log
begins : (system : ℕ) (next : Record) → may_begin system next ≡ true → JoinsInside [] next
begins system (Genesis number text) may = record { new = λ unit takes. cc; direct = λ unit same. cc; free = λ tid same. cc }
begins system _ may = cc

-- a record that may follow one that is not empty
follows : (rules : Meaning) (system : ℕ) (log : List Record) (next : Record) → may_follow_others rules system log next ≡ true → JoinsInside log next
follows rules system log (Accept unit) may =
    let new = new-among system log unit (and_parts (is_new system log unit) (not (is_empty unit.inq)) may).0 in
    record {
      new = λ u takes. let same : unit ≡ u = cc in subst (λ (v : AleUnit). is_among v.tid (received log) ≡ false) same new;
      direct = λ u same. cc;
      free = λ tid same. cc;
    }
follows rules system log (Direct unit) may =
    let both = (and_parts (is_new system log unit && is_empty unit.inq) (rules.offers system log unit.function) may).0 in
    let parts = and_parts (is_new system log unit) (is_empty unit.inq) both in
    let new = new-among system log unit parts.0 in
    let none : unit.inq ≡ [] = empty-nil unit.inq parts.1 in
    record {
      new = λ u takes. let same : unit ≡ u = cc in subst (λ (v : AleUnit). is_among v.tid (received log) ≡ false) same new;
      direct = λ u same. let its : unit ≡ u = cc in subst (λ (v : AleUnit). v.inq ≡ []) its none;
      free = λ tid same. cc;
    }
follows rules system log (Execute tid) may =
    let is_free_so = (and_parts (is_free_inbound log tid) (offers_received rules system log tid) may).0 in
    let found = is_free-parts (executed log) (is_marked Incoming tid log) (heads_inbound (executed log) (received log)) (unit_named tid (received log)) is_free_so in
    let its : found.0.tid ≡ tid = (unit_named-Some tid (received log) found.0 found.1).1 in
    record {
      new = λ u takes. cc;
      direct = λ u same. cc;
      free = λ other same.
          let id : tid ≡ other = cc in
          subst (λ (t : TidOf). (unit : AleUnit) × (unit_named t (received log) ≡ Some unit) × (is_listed t (executed log) ≡ false)
          × (heads_inbound (executed log) (received log) unit ≡ true)) id
          (found.0, found.1, subst (λ (t : TidOf). is_listed t (executed log) ≡ false) its found.2, found.4);
    }
follows rules system log _ may = record { new = λ u takes. cc; direct = λ u same. cc; free = λ tid same. cc }

joins : (rules : Meaning) (system : ℕ) (log : List Record) (next : Record) → may_follow rules system log next ≡ true → JoinsInside log next
joins rules system [] next may = begins system next may
joins rules system (first ∷ rest) next may = follows rules system (first ∷ rest) next may

all_join : (rules : Meaning) (system : ℕ) (before rest : List Record) → AllFollow rules system before rest → AllJoinInside before rest
all_join rules system before [] all = tt
all_join rules system before (next ∷ rest) all = (joins rules system before next all.0, all_join rules system (before ++ next ∷ []) rest all.1)

-- a log that is legal by the rules is legal by itself
pub IsLegalInside-legal : (rules : Meaning) (system : ℕ) (log : List Record) → IsLegal rules system log → IsLegalInside log
IsLegalInside-legal rules system log legal = all_join rules system [] log legal

-- the units that legal logs commit are numbered
pub AreNumbered-legal : (rules : Meaning) (logs : ℕ → List Record) (committed : ℕ → List AleUnit) → IsLawful rules → ((system : ℕ) → IsLegal rules system (logs system))
    → ((system : ℕ) → committed system ≡ rules.committed system (logs system)) → AreNumbered committed
AreNumbered-legal rules logs committed lawful legal are = record {
  numbered = λ system k unit at.
      let units = rules.committed system (logs system) in
      let there : slice_get units k ≡ Some unit = subst (λ (us : List AleUnit). slice_get us k ≡ Some unit) (are system) at in
      let its = lawful.numbered system (logs system) (legal system) k unit (slice_get_within units k unit there) in
      let same : slice_index_or units k unit ≡ unit = get_or_from_slice_get units k unit unit there in
      record {
        tid = subst (λ (u : AleUnit). u.tid ≡ record { system = system; unit = k + 1 }) same its.tid;
        sender = subst (λ (u : AleUnit). u.sender ≡ system) same its.sender;
      };
}

-- the law over the units that the rules tell is that over those that are the same
pub same_law : (rules : Meaning) (logs : ℕ → List Record) (committed : ℕ → List AleUnit) (P : Type 0)
    → ((system : ℕ) → committed system ≡ rules.committed system (logs system)) → P ↔ Once committed logs
    → P ↔ Once (λ system. rules.committed system (logs system)) logs
same_law rules logs committed P are law =
    let same : committed ≡ (λ system. rules.committed system (logs system)) = λ i system. are system i in
    subst (λ (c : ℕ → List AleUnit). P ↔ Once c logs) same law
