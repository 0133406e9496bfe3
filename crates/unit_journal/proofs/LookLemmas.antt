-- What looking at the volume of a system that is down finds, from what its opening gives.
use Rattle.std.specs.Prelude.{slice_get, slice_set, slice_index_or, Result, Ok, Err, IfOk, IsErrAnd, IsTrue, ◌↔◌}
use Rattle.std.specs.Option.{unwrap_or}
use Rattle.std.proofs.Common.{◌≡◌, ◌≢◌, ◌+◌, ◌-◌, ◌<◌, ◌≤◌, ◌⊎◌, inl, inr, ⊎_elim, ℕ, zero, suc, Bool, true, false, Option, Some, None, List, [], ◌∷◌, ◌++◌, length, take, drop, map, refl, sym, ap, ◌∙◌, subst, arith, append_assoc, length-append, length-drop, take-append-drop}
use Rattle.std.proofs.lemmas.List.{append-nil, nil_from_length, map-append}
use Rattle.std.proofs.lemmas.Option.{same_Some}
use Rattle.ale_base.proofs.ListLemmas.{AllByRecursion-at, take_next, split_at, slice_get-behind, slice_get-first, slice_get-within}
use Rattle.ale_volumes.specs.Disk.{Disk, LeftSince}
use Rattle.ale_volumes.specs.Volume.{IsImage}
use Rattle.ale_volumes.specs.Clock.{LeavesOnly}
use Rattle.ale_volumes.proofs.ClockLemmas.{weaker}
use Rattle.byte_journal.specs.Log as bodies_log
use Rattle.byte_journal.specs.Settled.{IsLeftByOpening}
use Rattle.byte_journal.proofs.OneAnswer.{has_one_answer}
use Rattle.unit_core.specs.declared.records.Record.{Record}
use Rattle.unit_codec.specs.declared.entry.Entry.{Entry}
use Rattle.unit_codec.specs.Condition.{IsWritable, IsWritableEntry}
use Rattle.unit_codec.specs.Entries.{EntryHasSpelling, entry_with, entry_spelling}
use Rattle.unit_codec.proofs.ConditionLemmas.{entry-condition}
use Rattle.unit_codec.proofs.EntryLemmas.{entry_spelling-same}
use Rattle.unit_journal.specs.declared.journal.UnitJournal.{UnitJournal}
use Rattle.unit_journal.specs.declared.fault.LogFault.{LogFault}
use Rattle.unit_journal.specs.declared.fault.LogFault.TheVariants.{Volume as LogVolume, Damaged, Unread, OutOfMemory as LogMemory}
use Rattle.unit_journal.specs.declared.fault.LookFault.{LookFault}
use Rattle.unit_journal.specs.declared.fault.LookFault.TheVariants.{Volume, Changed, OutOfMemory}
use Rattle.unit_journal.specs.declared.looked.Looked.{Looked}
use Rattle.unit_journal.specs.Fault.{look_fault_of}
use Rattle.unit_journal.specs.Log.{AreEntries, bodies_of, Stands}
use Rattle.unit_journal.specs.Settled as settled
use Rattle.unit_journal.specs.Settled.{IsOn, IsSettled}
use Rattle.unit_journal.specs.declared.journals.SystemJournals.{SystemJournals}
use Rattle.unit_journal.specs.OnDisk.{HaveMoments, moments_at, rest_at, moments_of, entries_of, entries_at, StandsFound, IsKept, IsOnDisk}
use Rattle.unit_journal.specs.OnDisk.{last_moment, MayFollow, AreInOrder, MayBeLeft, IsLeftOnDisk}
use Rattle.unit_journal.specs.Looking.{WasWritten, with_left, entries_found, log_found, moments_found, BeginApart, IsFirstApart, ChangedAt, Answers}
use Rattle.unit_journal.specs.Looking.{is_found, with_looked, IsLooked}
use Rattle.unit_journal.specs.steps.Compared.{EndsHere, Shares, Finds, IsLookOf, Compares}
use Rattle.unit_journal.proofs.LogLemmas.{one_answer}
use Rattle.unit_journal.proofs.OrderLemmas.{moments-entries, AreInOrder-more}
use Rattle.unit_journal.proofs.PlaceLemmas.{entries_of-push, got-set_at}
use Rattle.unit_journal.proofs.WriteLemmas.{within-place}

-- ---- entries and their spellings

-- spellings are the same exactly where their entries are
pub spelled-same : (a b : Entry) (one other : List ℕ) (same : Bool) → EntryHasSpelling a → EntryHasSpelling b
    → one ≡ entry_spelling a → other ≡ entry_spelling b → (IsTrue same ↔ (one ≡ other)) → (IsTrue same ↔ (a ≡ b))
spelled-same a b one other same fits fits_too is is_too tells = (
  λ yes. entry_spelling-same a b fits fits_too (sym is ∙ tells.0 yes ∙ is_too),
  λ equal. tells.1 (is ∙ ap entry_spelling equal ∙ sym is_too),
)

pub entries_of-at : (moments : List (Option ℕ)) (log : List Record) (k : ℕ) (moment : Option ℕ) (what : Record)
    → slice_get moments k ≡ Some moment → slice_get log k ≡ Some what → slice_get (entries_of moments log) k ≡ Some (entry_with moment what)
entries_of-at [] log k moment what here there = absurd cc
entries_of-at (m ∷ moments) [] k moment what here there = absurd cc
entries_of-at (m ∷ moments) (r ∷ log) zero moment what here there =
    ap (λ (x : Option ℕ). Some (entry_with x r)) (same_Some m moment here) ∙ ap (λ (y : Record). Some (entry_with moment y)) (same_Some r what there)
entries_of-at (m ∷ moments) (r ∷ log) (suc k) moment what here there = entries_of-at moments log k moment what here there

pub length-entries : (moments : List (Option ℕ)) (log : List Record) → length moments ≡ length log → length (entries_of moments log) ≡ length log
length-entries [] [] each = refl
length-entries [] (r ∷ log) each = absurd (omega arith)
length-entries (m ∷ moments) [] each = absurd (omega arith)
length-entries (m ∷ moments) (r ∷ log) each = ap suc (length-entries moments log (omega arith))

-- what was read can be written again
pub writable-found : (found : List Entry) (k : ℕ) (entry : Entry) → AreEntries found → slice_get found k ≡ Some entry → IsWritableEntry entry
writable-found found k entry are here = entry-condition entry (AllByRecursion-at EntryHasSpelling found k entry are here)

pub writable-kept : (moments : List (Option ℕ)) (log : List Record) (k : ℕ) (what : Record) → length moments ≡ length log
    → AreEntries (entries_of moments log) → k < length log → slice_get log k ≡ Some what → IsWritable what
writable-kept moments log k what each are within here =
    let moment = slice_get-within moments k (omega (arith, each, within)) in
    writable-found (entries_of moments log) k (entry_with moment.0 what) are (entries_of-at moments log k moment.0 what moment.1 here)

-- what is read at a place is there
pub at-place : (xs : List (Option ℕ)) (k : ℕ) → k < length xs → slice_get xs k ≡ Some (slice_index_or xs k None)
at-place [] k within = absurd (omega arith)
at-place (x ∷ xs) zero within = refl
at-place (x ∷ xs) (suc k) within = at-place xs k (omega arith)

pub entry-at : (moments : List (Option ℕ)) (log : List Record) (k : ℕ) (what : Record) → length moments ≡ length log → k < length log
    → slice_get log k ≡ Some what → slice_get (entries_of moments log) k ≡ Some (entry_with (slice_index_or moments k None) what)
entry-at moments log k what each within here =
    entries_of-at moments log k (slice_index_or moments k None) what (at-place moments k (omega (arith, each, within))) here

-- ---- the front that two lists share

cancel : (front xs ys : List Entry) → front ++ xs ≡ front ++ ys → xs ≡ ys
cancel [] xs ys same = same
cancel (f ∷ front) xs ys same = cancel front xs ys (cc)

-- the lists are the same up to this place
pub record IsSharedTo (found kept : List Entry) (count : ℕ) : Type 0 where
  pub same : take count found ≡ take count kept
  pub in_found : count ≤ length found
  pub in_kept : count ≤ length kept

pub shared-none : (found kept : List Entry) → IsSharedTo found kept 0
shared-none found kept = record { same = refl; in_found = omega arith; in_kept = omega arith }

pub shared-more : (found kept : List Entry) (count : ℕ) (a b : Entry) → IsSharedTo found kept count → count < length found → count < length kept
    → slice_get found count ≡ Some a → slice_get kept count ≡ Some b → a ≡ b → IsSharedTo found kept (count + 1)
shared-more found kept count a b so_far within within_too here there equal = record {
  same = take_next found count a here ∙ ap (λ (l : List Entry). l ++ a ∷ []) so_far.same
      ∙ ap (λ (x : Entry). take count kept ++ x ∷ []) equal ∙ sym (take_next kept count b there);
  in_found = omega (arith, within);
  in_kept = omega (arith, within_too);
}

length-front : (xs : List Entry) (n : ℕ) → n ≤ length xs → n ≡ length (take n xs)
length-front xs zero within = refl
length-front [] (suc n) within = absurd (omega arith)
length-front (x ∷ xs) (suc n) within = ap suc (length-front xs n (omega arith))

pub shared-apart : (found kept : List Entry) (count : ℕ) (a b : Entry) → IsSharedTo found kept count
    → slice_get found count ≡ Some a → slice_get kept count ≡ Some b → a ≢ b → Shares found kept count
shared-apart found kept count a b so_far here there differs = record {
  front = take count found;
  behind = a ∷ drop (count + 1) found;
  other = b ∷ drop (count + 1) kept;
  found_whole = split_at found count a here;
  kept_whole = split_at kept count b there ∙ ap (λ (l : List Entry). l ++ b ∷ drop (count + 1) kept) (sym so_far.same);
  ends = differs;
  here = length-front found count so_far.in_found;
}

EndsHere-none : (xs : List Entry) → EndsHere xs []
EndsHere-none [] = tt
EndsHere-none (x ∷ xs) = tt

nothing-behind : (xs : List Entry) (n : ℕ) → length xs ≤ n → drop n xs ≡ []
nothing-behind xs n past = nil_from_length (drop n xs) (omega (arith, past, length-drop n xs))

pub shared-ends : (found kept : List Entry) (count : ℕ) → IsSharedTo found kept count → (length found ≤ count) ⊎ (length kept ≤ count)
    → Shares found kept count
shared-ends found kept count so_far over = record {
  front = take count found;
  behind = drop count found;
  other = drop count kept;
  found_whole = sym (take-append-drop count found);
  kept_whole = sym (take-append-drop count kept) ∙ ap (λ (l : List Entry). l ++ drop count kept) (sym so_far.same);
  ends = ⊎_elim
      (λ past. subst (λ (l : List Entry). EndsHere l (drop count kept)) (sym (nothing-behind found count past)) tt)
      (λ past. subst (λ (l : List Entry). EndsHere (drop count found) l) (sym (nothing-behind kept count past)) (EndsHere-none (drop count found)))
      over;
  here = length-front found count so_far.in_found;
}

-- ---- what the comparison finds

with_left-behind : (front other : List Entry) (moment : Option ℕ) (rest : Option Record) → with_left (front ++ other) moment rest ≡ front ++ with_left other moment rest
with_left-behind front other moment None = refl
with_left-behind front other moment (Some next) = append_assoc front other (entry_with moment next ∷ [])

apart-missing : (behind other : List Entry) (moment : Option ℕ) (rest : Option Record) → EndsHere behind other → 0 < length other
    → BeginApart behind (with_left other moment rest)
apart-missing behind [] moment rest ends some = absurd (omega arith)
apart-missing [] (o ∷ other) moment None ends some = tt
apart-missing [] (o ∷ other) moment (Some next) ends some = tt
apart-missing (b ∷ behind) (o ∷ other) moment None ends some = ends
apart-missing (b ∷ behind) (o ∷ other) moment (Some next) ends some = ends

not-same : (behind other : List Entry) → EndsHere behind other → 0 < length other → behind ≢ other
not-same behind [] ends some = absurd (omega arith)
not-same [] (o ∷ other) ends some = λ same. absurd cc
not-same (b ∷ behind) (o ∷ other) ends some = λ same. ends (cc)

-- the front that is shared ends within the log
pub finds-missing : (found entries : List Entry) (moment : Option ℕ) (rest : Option Record) (count : ℕ) → Shares found entries count
    → count < length entries → (found ≢ entries) × IsFirstApart found (with_left entries moment rest) (count + 1)
finds-missing found entries moment rest count s within =
    let long : length entries ≡ length s.front + length s.other = ap (λ (l : List Entry). length l) s.kept_whole ∙ length-append s.front s.other in
    let some : 0 < length s.other = omega (arith, long, within, s.here) in (
      λ same. not-same s.behind s.other s.ends some (cancel s.front s.behind s.other (sym s.found_whole ∙ same ∙ s.kept_whole)),
      record {
        front = s.front;
        behind = s.behind;
        other = with_left s.other moment rest;
        found_whole = s.found_whole;
        kept_whole = ap (λ (l : List Entry). with_left l moment rest) s.kept_whole ∙ with_left-behind s.front s.other moment rest;
        apart = apart-missing s.behind s.other moment rest s.ends some;
        here = omega (arith, s.here);
      },
    )

-- all of the log is at the front of what was found
pub record IsFront (found entries behind : List Entry) (count : ℕ) : Type 0 where
  pub whole : found ≡ entries ++ behind
  pub here : count ≡ length entries

pub finds-front : (found entries : List Entry) (count : ℕ) → Shares found entries count → length entries ≤ count
    → (behind : List Entry) × IsFront found entries behind count
finds-front found entries count s past =
    let long : length entries ≡ length s.front + length s.other = ap (λ (l : List Entry). length l) s.kept_whole ∙ length-append s.front s.other in
    let none : s.other ≡ [] = nil_from_length s.other (omega (arith, long, past, s.here)) in
    let all : entries ≡ s.front = s.kept_whole ∙ ap (λ (l : List Entry). s.front ++ l) none ∙ append-nil s.front in (
      s.behind,
      record {
        whole = s.found_whole ∙ ap (λ (l : List Entry). l ++ s.behind) (sym all);
        here = s.here ∙ ap (λ (l : List Entry). length l) (sym all);
      },
    )

-- nothing is behind the log
pub finds-log : (found entries : List Entry) (count : ℕ) → Shares found entries count → length entries ≤ count → slice_get found count ≡ None
    → found ≡ entries
finds-log found entries count s past none =
    let f = finds-front found entries count s past in
    let there : slice_get f.0 (count - length entries) ≡ None =
    sym (slice_get-behind entries f.0 count past) ∙ ap (λ (l : List Entry). slice_get l count) (sym f.1.whole) ∙ none in
    let first : slice_get f.0 0 ≡ None = ap (λ (n : ℕ). slice_get f.0 n) (let h = f.1.here in omega (arith, h)) ∙ there in
    f.1.whole ∙ ap (λ (l : List Entry). entries ++ l) (no-first f.0 first) ∙ append-nil entries
  where
    no-first : (xs : List Entry) → slice_get xs 0 ≡ None → xs ≡ []
    no-first [] none = refl
    no-first (x ∷ xs) none = absurd cc

-- an entry is behind the log
pub finds-entry : (found entries : List Entry) (count : ℕ) (entry : Entry) → Shares found entries count → length entries ≤ count
    → slice_get found count ≡ Some entry → (more : List Entry) × IsFront found entries (entry ∷ more) count
finds-entry found entries count entry s past here =
    let f = finds-front found entries count s past in
    let there : slice_get f.0 (count - length entries) ≡ Some entry =
    sym (slice_get-behind entries f.0 count past) ∙ ap (λ (l : List Entry). slice_get l count) (sym f.1.whole) ∙ here in
    let first : slice_get f.0 0 ≡ Some entry = ap (λ (n : ℕ). slice_get f.0 n) (let h = f.1.here in omega (arith, h)) ∙ there in
    let split = slice_get-first f.0 entry first in
    (split.0, record { whole = f.1.whole ∙ ap (λ (l : List Entry). entries ++ l) split.1; here = f.1.here })

module _ (found entries : List Entry) (count : ℕ) (entry : Entry) (more : List Entry) (front : IsFront found entries (entry ∷ more) count) where
  longer : found ≢ entries
  longer = λ same.
      let long : length entries ≡ length (entries ++ entry ∷ more) = ap (λ (l : List Entry). length l) (sym same ∙ front.whole) in
      omega (arith, long, length-append entries (entry ∷ more))

  -- and none was being written
  pub finds-one_more : (moment : Option ℕ) → (found ≢ entries) × IsFirstApart found (with_left entries moment None) (count + 1)
  finds-one_more moment = (
    longer,
    record {
      front = entries;
      behind = entry ∷ more;
      other = [];
      found_whole = front.whole;
      kept_whole = sym (append-nil entries);
      apart = tt;
      here = let h = front.here in omega (arith, h);
    },
  )

  -- and it is another than the one that was being written
  pub finds-other : (moment : Option ℕ) (next : Record) → entry ≢ entry_with moment next
      → (found ≢ entries) × IsFirstApart found (with_left entries moment (Some next)) (count + 1)
  finds-other moment next differs = (
    longer,
    record {
      front = entries;
      behind = entry ∷ more;
      other = entry_with moment next ∷ [];
      found_whole = front.whole;
      kept_whole = refl;
      apart = differs;
      here = let h = front.here in omega (arith, h);
    },
  )

  last-apart : (behind : List Entry) → 0 < length behind → BeginApart behind []
  last-apart [] some = absurd (omega arith)
  last-apart (b ∷ behind) some = tt

  -- it is the one that was being written
  module _ (moment : Option ℕ) (next : Record) (same : entry ≡ entry_with moment next) where
    whole-with : found ≡ (entries ++ entry_with moment next ∷ []) ++ more
    whole-with = front.whole ∙ ap (λ (e : Entry). entries ++ e ∷ more) same ∙ sym (append_assoc entries (entry_with moment next ∷ []) more)

    -- and another is behind it
    pub finds-too_many : count + 1 < length found → (found ≢ entries) × IsFirstApart found (with_left entries moment (Some next)) (count + 2)
    finds-too_many within =
        let long : length found ≡ length (entries ++ entry ∷ more) = ap (λ (l : List Entry). length l) front.whole in
        let h = front.here in (
          longer,
          record {
            front = entries ++ entry_with moment next ∷ [];
            behind = more;
            other = [];
            found_whole = whole-with;
            kept_whole = sym (append-nil (entries ++ entry_with moment next ∷ []));
            apart = last-apart more (omega (arith, long, within, h, length-append entries (entry ∷ more)));
            here = omega (arith, h, length-append entries (entry_with moment next ∷ []));
          },
        )

    -- and the last
    pub finds-rest : length found ≤ count + 1 → found ≡ with_left entries moment (Some next)
    finds-rest past =
        let long : length found ≡ length (entries ++ entry ∷ more) = ap (λ (l : List Entry). length l) front.whole in
        let h = front.here in
        let none : more ≡ [] = nil_from_length more (omega (arith, long, past, h, length-append entries (entry ∷ more))) in
        whole-with ∙ ap (λ (l : List Entry). (entries ++ entry_with moment next ∷ []) ++ l) none ∙ append-nil (entries ++ entry_with moment next ∷ [])

-- ---- what a look answers

-- a journal that was not opened, for a log that is known
answers-unopened : (bytes : List ℕ) (entries : List Entry) (moment : Option ℕ) (rest : Option Record) (fault : LogFault)
    → settled.Answers bytes (Err fault) → Answers bytes entries moment rest (Err (look_fault_of fault))
answers-unopened bytes entries moment rest LogVolume answers = tt
answers-unopened bytes entries moment rest (Damaged place) answers = inl (refl, place, answers)
answers-unopened bytes entries moment rest (Unread number) answers = inr (inl answers)
answers-unopened bytes entries moment rest LogMemory answers = tt

-- and what comes of it
pub answers-failed : (bytes : List ℕ) (entries : List Entry) (moment : Option ℕ) (rest : Option Record) (fault : LogFault)
    (result : Result Looked LookFault) → IsErrAnd result (λ e. e ≡ look_fault_of fault)
    → settled.Answers bytes (Err fault) → Answers bytes entries moment rest result
answers-failed bytes entries moment rest fault (Ok looked) is answers = absurd is
answers-failed bytes entries moment rest fault (Err other) is answers =
    subst (λ (f : LookFault). Answers bytes entries moment rest (Err f)) (sym is) (answers-unopened bytes entries moment rest fault answers)

-- entries that were compared
pub answers-compared : (bytes : List ℕ) (system : ℕ) (journal : UnitJournal) (found entries : List Entry) (moment : Option ℕ) (rest : Option Record)
    (result : Result Looked LookFault) → Stands bytes found → Compares system journal found entries moment rest result
    → Answers bytes entries moment rest result
answers-compared bytes system journal found entries moment rest (Ok looked) stands is = subst (λ (l : List Entry). Stands bytes l) is.same stands
answers-compared bytes system journal found entries moment rest (Err (Changed number)) stands is =
    inr (inr (record { found = found; stands = stands; other = is.0; first = is.1 }))
answers-compared bytes system journal found entries moment rest (Err Volume) stands is = absurd is
answers-compared bytes system journal found entries moment rest (Err OutOfMemory) stands is = tt

-- ---- a volume as a crash may have left it was not changed

not-apart : (xs : List Entry) → BeginApart xs xs → ⊥
not-apart [] apart = apart
not-apart (x ∷ xs) apart = apart refl

not-first : (entries : List Entry) (number : ℕ) → IsFirstApart entries entries number → ⊥
not-first entries number first =
    let same : first.behind ≡ first.other = cancel first.front first.behind first.other (sym first.found_whole ∙ first.kept_whole) in
    not-apart first.other (subst (λ (l : List Entry). BeginApart l first.other) same first.apart)

-- what stands for the log, perhaps with one record more, stands for one of the two
either : (bytes : List ℕ) (entries : List Entry) (moment : Option ℕ) (rest : Option Record) → StandsFound bytes entries moment rest
    → (log : List Entry) × Stands bytes log × ((log ≡ entries) ⊎ (log ≡ with_left entries moment rest))
either bytes entries moment None stands = (entries, stands, inl refl)
either bytes entries moment (Some next) (inl before) = (entries, before, inl refl)
either bytes entries moment (Some next) (inr after) = (entries ++ entry_with moment next ∷ [], after.1, inr refl)

pub not-changed : (bytes : List ℕ) (entries : List Entry) (moment : Option ℕ) (rest : Option Record) (number : ℕ)
    → StandsFound bytes entries moment rest → ChangedAt bytes entries moment rest number → ⊥
not-changed bytes entries moment rest number left (inl damaged) =
    let its = either bytes entries moment rest left in
    (one_answer bytes).not_damaged its.0 damaged.1 its.1 damaged.2
not-changed bytes entries moment rest number left (inr (inl unread)) =
    let its = either bytes entries moment rest left in
    (one_answer bytes).not_unread its.0 number its.1 unread
not-changed bytes entries moment rest number left (inr (inr differs)) =
    let its = either bytes entries moment rest left in
    let same : its.0 ≡ differs.found = (one_answer bytes).one_log its.0 differs.found its.1 differs.stands in
    ⊎_elim
    (λ is. differs.other (sym same ∙ is))
    (λ is. not-first (with_left entries moment rest) number
    (subst (λ (l : List Entry). IsFirstApart l (with_left entries moment rest) number) (sym same ∙ is) differs.first))
    its.2

-- what reads as bytes that stand for a log stands for it
reads-stands : (bytes other : List ℕ) (log : List Entry) → bodies_log.ReadsAs bytes other → Stands bytes log → Stands other log
reads-stands bytes other log (inl same) stands = subst (λ (b : List ℕ). Stands b log) (sym same) stands
reads-stands bytes other log (inr reads) stands = record {
  bodies = subst (λ (l : List (List ℕ)). bodies_log.Stands other l)
      ((has_one_answer bytes).one_log reads.0 (bodies_of log) reads.1 stands.bodies) reads.2;
  entries = stands.entries;
}

-- and so does what reads as bytes that a crash may have left
pub reads-found : (bytes other : List ℕ) (entries : List Entry) (moment : Option ℕ) (rest : Option Record) → bodies_log.ReadsAs bytes other
    → StandsFound bytes entries moment rest → StandsFound other entries moment rest
reads-found bytes other entries moment None reads stands = reads-stands bytes other entries reads stands
reads-found bytes other entries moment (Some next) reads (inl before) = inl (reads-stands bytes other entries reads before)
reads-found bytes other entries moment (Some next) reads (inr after) =
    inr (after.0, reads-stands bytes other (entries ++ entry_with moment next ∷ []) reads after.1)

-- ---- what was found, entered

-- the moments of what was found
moments-of_found : (is : Bool) (moments : List (Option ℕ)) (log : List Record) (moment : Option ℕ) (rest : Option Record) → WasWritten is rest
    → length moments ≡ length log → moments_of (entries_found is (entries_of moments log) moment rest) ≡ moments_found is moments moment
moments-of_found false moments log moment rest was each = moments-entries moments log each
moments-of_found true moments log moment None was each = absurd was
moments-of_found true moments log moment (Some next) was each =
    map-append (λ (entry : Entry). entry.moment) (entries_of moments log) (entry_with moment next ∷ [])
    ∙ ap (λ (l : List (Option ℕ)). l ++ moment ∷ []) (moments-entries moments log each)

-- the entries of what was found
entries-of_found : (is : Bool) (moments : List (Option ℕ)) (log : List Record) (moment : Option ℕ) (rest : Option Record) → WasWritten is rest
    → length moments ≡ length log → entries_of (moments_found is moments moment) (log_found is log rest) ≡ entries_found is (entries_of moments log) moment rest
entries-of_found false moments log moment rest was each = refl
entries-of_found true moments log moment None was each = absurd was
entries-of_found true moments log moment (Some next) was each = entries_of-push moments log moment next each

-- a moment for each record of what was found
each-of_found : (is : Bool) (moments : List (Option ℕ)) (log : List Record) (moment : Option ℕ) (rest : Option Record) → WasWritten is rest
    → length moments ≡ length log → length (moments_found is moments moment) ≡ length (log_found is log rest)
each-of_found false moments log moment rest was each = each
each-of_found true moments log moment None was each = absurd was
each-of_found true moments log moment (Some next) was each =
    omega (arith, each, length-append moments (moment ∷ []), length-append log (next ∷ []))

module _ {D : Type 0} (disk : Disk D) (vols : D) (system : ℕ) (all : SystemJournals) (log : List Record) (rest : Option Record)
    (journal : UnitJournal) (found : List Entry) (looked : Looked)
    (have : HaveMoments all) (kept : IsKept (system - 1) all log rest)
    (look : IsLookOf system journal found (entries_at all (system - 1) log) (rest_at all (system - 1)) rest looked)
    (on : IsOn journal (system - 1) found) (settled_there : disk.told → IsSettled disk vols journal found) where
  at : looked.system - 1 ≡ system - 1
  at = ap (λ (n : ℕ). n - 1) look.is_of

  within-moments : looked.system - 1 < length all.moments
  within-moments = within-place all.moments (looked.system - 1) (system - 1) (moments_at all (system - 1)) at kept.noted

  noted-there : slice_get (with_looked looked all).moments (system - 1) ≡ Some looked.moments
  noted-there = got-set_at all.moments (looked.system - 1) (system - 1) looked.moments at within-moments

  moments-there : moments_at (with_looked looked all) (system - 1) ≡ looked.moments
  moments-there = ap (λ (f : Option (List (Option ℕ))). unwrap_or f []) noted-there

  moments-are : moments_at (with_looked looked all) (system - 1) ≡ moments_found (is_found looked) (moments_at all (system - 1)) (rest_at all (system - 1))
  moments-are = moments-there ∙ look.moments ∙ ap (λ (l : List Entry). moments_of l) look.same
      ∙ moments-of_found (is_found looked) (moments_at all (system - 1)) log (rest_at all (system - 1)) rest look.written kept.each

  entries-are : entries_at (with_looked looked all) (system - 1) (log_found (is_found looked) log rest) ≡ found
  entries-are = ap (λ (l : List (Option ℕ)). entries_of l (log_found (is_found looked) log rest)) moments-are
      ∙ entries-of_found (is_found looked) (moments_at all (system - 1)) log (rest_at all (system - 1)) rest look.written kept.each
      ∙ sym look.same

  pub IsLooked-opened : IsLooked disk vols system all log rest looked
  IsLooked-opened = record {
    is_of = look.is_of;
    written = look.written;
    moments = moments-are;
    on_disk = record {
      journal = looked.journal;
      here = got-set_at all.journals (looked.system - 1) (system - 1) looked.journal at (omega (arith, within-moments, have));
      noted = noted-there ∙ ap (λ (l : List (Option ℕ)). Some l) (sym moments-there);
      each = ap (λ (l : List (Option ℕ)). length l) moments-are
          ∙ each-of_found (is_found looked) (moments_at all (system - 1)) log (rest_at all (system - 1)) rest look.written kept.each;
      on = subst (λ (l : List Entry). IsOn looked.journal (system - 1) l) (sym entries-are)
          (subst (λ (j : UnitJournal). IsOn j (system - 1) found) (sym look.opened) on);
      settled = λ tells. subst (λ (l : List Entry). IsSettled disk vols looked.journal l) (sym entries-are)
          (subst (λ (j : UnitJournal). IsSettled disk vols j found) (sym look.opened) (settled_there tells));
    };
  }

-- what a look that found something found
pub looked-if : {D : Type 0} (disk : Disk D) (vols : D) (system : ℕ) (all : SystemJournals) (log : List Record) (rest : Option Record)
    (journal : UnitJournal) (found : List Entry) (result : Result Looked LookFault)
    → HaveMoments all → IsKept (system - 1) all log rest
    → IsOn journal (system - 1) found → (disk.told → IsSettled disk vols journal found)
    → Compares system journal found (entries_at all (system - 1) log) (rest_at all (system - 1)) rest result
    → IfOk result (λ looked. IsLooked disk vols system all log rest looked)
looked-if disk vols system all log rest journal found (Ok looked) have kept on settled_there is =
    IsLooked-opened disk vols system all log rest journal found looked have kept is on settled_there
looked-if disk vols system all log rest journal found (Err fault) have kept on settled_there is = tt

-- While a volume that a crash may have left so is looked at, a crash leaves it so.
pub looked-any_moment : {D : Type 0} (disk : Disk D) (old new : D) (place : ℕ) (all : SystemJournals) (log : List Record) (rest : Option Record)
    → disk.told → IsImage (disk.volume old place) (disk.volume old place).contents
    → LeavesOnly disk old new place (IsLeftByOpening (disk.volume old place)) → IsLeftOnDisk disk old place all log rest
    → LeavesOnly disk old new place (λ image. StandsFound image (entries_at all place log) (rest_at all place) rest)
looked-any_moment disk old new place all log rest tells reads leaves left =
    let bytes = (disk.volume old place).contents in
    let entries = entries_at all place log in
    weaker disk old new place (IsLeftByOpening (disk.volume old place)) (λ image. StandsFound image entries (rest_at all place) rest)
    (λ image by_opening. ⊎_elim
    (λ was. left.left tells image was)
    (λ same. reads-found bytes image entries (rest_at all place) rest same (left.left tells bytes reads))
    by_opening) leaves

-- A volume that a crash may have left so is left so through an opening, whatever it answers.
pub IsLeft-looked : {D : Type 0} (disk : Disk D) (old new : D) (place n : ℕ) (all : SystemJournals) (log : List Record) (rest : Option Record)
    → n ≡ place
    → (disk.told → IsImage (disk.volume old n) (disk.volume old n).contents)
    → (disk.told → (image : List ℕ) → disk.moment old ≤ disk.moment new → IsImage (disk.volume new place) image
    → LeftSince disk new place (disk.moment old) image)
    → (disk.told → LeavesOnly disk old new n (IsLeftByOpening (disk.volume old n)))
    → IsLeftOnDisk disk old place all log rest → IsLeftOnDisk disk new place all log rest
IsLeft-looked disk old new place n all log rest at read_is_image counts_now leaves left = record {
  kept = left.kept;
  left = λ tells image is.
      let only =
      looked-any_moment disk old new place all log rest tells
      (subst (λ (m : ℕ). IsImage (disk.volume old m) (disk.volume old m).contents) at (read_is_image tells))
      (subst (λ (m : ℕ). LeavesOnly disk old new m (IsLeftByOpening (disk.volume old m))) at (leaves tells)) left in
      only.each image (counts_now tells image only.later is);
}

-- ---- one answer

one-front : (front front_too behind behind_too other other_too : List Entry) → front ++ behind ≡ front_too ++ behind_too
    → front ++ other ≡ front_too ++ other_too → BeginApart behind other → BeginApart behind_too other_too → length front ≡ length front_too
one-front [] [] behind behind_too other other_too same same_too apart apart_too = refl
one-front [] (f ∷ front) behind behind_too other other_too same same_too apart apart_too =
    absurd (subst (λ (l : List Entry). BeginApart l (f ∷ front ++ other_too)) same
    (subst (λ (l : List Entry). BeginApart behind l) same_too apart) refl)
one-front (f ∷ front) [] behind behind_too other other_too same same_too apart apart_too =
    absurd (subst (λ (l : List Entry). BeginApart l (f ∷ front ++ other)) (sym same)
    (subst (λ (l : List Entry). BeginApart behind_too l) (sym same_too) apart_too) refl)
one-front (f ∷ front) (g ∷ front_too) behind behind_too other other_too same same_too apart apart_too =
    let rest : front ++ behind ≡ front_too ++ behind_too = cc in
    let rest_too : front ++ other ≡ front_too ++ other_too = cc in
    ap suc (one-front front front_too behind behind_too other other_too rest rest_too apart apart_too)

-- One entry at most is the first that differs.
pub IsFirstApart-one : (found kept : List Entry) (number other : ℕ) → IsFirstApart found kept number → IsFirstApart found kept other → number ≡ other
IsFirstApart-one found kept number other first first_too =
    let same = one-front first.front first_too.front first.behind first_too.behind first.other first_too.other (sym first.found_whole ∙ first_too.found_whole)
    (sym first.kept_whole ∙ first_too.kept_whole) first.apart first_too.apart in
    first.here ∙ ap (λ (n : ℕ). n + 1) same ∙ sym first_too.here

-- Bytes that stand for the log, with the record or without, are not changed.
pub ChangedAt-neither : (bytes : List ℕ) (entries : List Entry) (moment : Option ℕ) (rest : Option Record) (number : ℕ) (found : Bool)
    → ChangedAt bytes entries moment rest number → Stands bytes (entries_found found entries moment rest) → ⊥
ChangedAt-neither bytes entries moment rest number found (inl damaged) stands = (one_answer bytes).not_damaged _ damaged.1 stands damaged.2
ChangedAt-neither bytes entries moment rest number found (inr (inl unread)) stands = (one_answer bytes).not_unread _ number stands unread
ChangedAt-neither bytes entries moment rest number false (inr (inr differs)) stands =
    differs.other ((one_answer bytes).one_log differs.found entries differs.stands stands)
ChangedAt-neither bytes entries moment rest number true (inr (inr differs)) stands =
    let whole = with_left entries moment rest in
    not-first whole number (subst (λ (l : List Entry). IsFirstApart l whole number) ((one_answer bytes).one_log differs.found whole differs.stands stands)
    differs.first)

-- Bytes are changed at one number at most.
pub ChangedAt-one : (bytes : List ℕ) (entries : List Entry) (moment : Option ℕ) (rest : Option Record) (number other : ℕ)
    → ChangedAt bytes entries moment rest number → ChangedAt bytes entries moment rest other → number ≡ other
ChangedAt-one bytes entries moment rest number other (inl a) (inl b) = a.0 ∙ sym b.0
ChangedAt-one bytes entries moment rest number other (inl a) (inr (inl b)) = absurd ((one_answer bytes).one_fault a.1 other a.2 b)
ChangedAt-one bytes entries moment rest number other (inl a) (inr (inr b)) = absurd ((one_answer bytes).not_damaged b.found a.1 b.stands a.2)
ChangedAt-one bytes entries moment rest number other (inr (inl a)) (inl b) = absurd ((one_answer bytes).one_fault b.1 number b.2 a)
ChangedAt-one bytes entries moment rest number other (inr (inl a)) (inr (inl b)) = (one_answer bytes).one_number number other a b
ChangedAt-one bytes entries moment rest number other (inr (inl a)) (inr (inr b)) = absurd ((one_answer bytes).not_unread b.found number b.stands a)
ChangedAt-one bytes entries moment rest number other (inr (inr a)) (inl b) = absurd ((one_answer bytes).not_damaged a.found b.1 a.stands b.2)
ChangedAt-one bytes entries moment rest number other (inr (inr a)) (inr (inl b)) = absurd ((one_answer bytes).not_unread a.found other a.stands b)
ChangedAt-one bytes entries moment rest number other (inr (inr a)) (inr (inr b)) =
    let whole = with_left entries moment rest in
    IsFirstApart-one b.found whole number other
    (subst (λ (l : List Entry). IsFirstApart l whole number) ((one_answer bytes).one_log a.found b.found a.stands b.stands) a.first) b.first

-- ---- the moments stay in order

-- The moments of a log that are in order are so with what a look found entered.
pub AreInOrder-looked : {D : Type 0} (disk : Disk D) (vols : D) (system : ℕ) (all : SystemJournals) (log : List Record) (rest : Option Record)
    (looked : Looked) → IsKept (system - 1) all log rest → IsLooked disk vols system all log rest looked
    → AreInOrder (moments_at all (system - 1)) → AreInOrder (moments_at (with_looked looked all) (system - 1))
AreInOrder-looked disk vols system all log rest looked kept is order =
    subst (λ (l : List (Option ℕ)). AreInOrder l) (sym is.moments)
    (in-order (is_found looked) rest (moments_at all (system - 1)) log (rest_at all (system - 1)) kept.each is.written kept.behind order)
  where
    in-order : (found : Bool) (rest : Option Record) (moments : List (Option ℕ)) (log : List Record) (moment : Option ℕ) → length moments ≡ length log
        → WasWritten found rest → MayBeLeft (entries_of moments log) moment rest → AreInOrder moments → AreInOrder (moments_found found moments moment)
    in-order false rest moments log moment each was may order = order
    in-order true None moments log moment each was may order = absurd was
    in-order true (Some next) moments log moment each was may order =
        AreInOrder-more moments moment order (subst (λ (l : List (Option ℕ)). MayFollow (last_moment l) moment) (moments-entries moments log each) may.1)
