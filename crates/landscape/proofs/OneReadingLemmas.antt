-- Volumes are read as one set of logs at most. So volumes that hold sound logs are not refused.
use Rattle.std.specs.Prelude.{map}
use Rattle.std.proofs.Common.{◌≡◌, inl, inr, ℕ, suc, ◌≤◌, Option, List, [], ◌∷◌, ◌++◌, length, refl, sym, ap, subst, ◌∙◌, arith}
use Rattle.std.proofs.lemmas.Bool.{cases_lt}
use Rattle.ale_volumes.specs.Disk.{Disk}
use Rattle.byte_journal.specs.Log.{DamagedAt}
use Rattle.byte_journal.proofs.OneAnswer.{has_one_answer}
use Rattle.unit_core.specs.declared.records.Record.{Record}
use Rattle.unit_codec.specs.declared.entry.Entry.{Entry}
use Rattle.unit_codec.specs.Entries.{entry_spelling}
use Rattle.unit_codec.proofs.EntryLemmas.{entry_spelling-same}
use Rattle.unit_journal.specs.Log.{AreEntries, IsNoEntry, Stands, UnreadAt, bodies_of}
use Rattle.unit_journal.specs.OnDisk.{entries_of}
use Rattle.unit_journal.proofs.OrderLemmas.{moments-entries}
use Rattle.unit_journal.proofs.PlaceLemmas.{entries_of-records}
use Rattle.log_reading.specs.Reading.{AreGoodTo}
use Rattle.log_reading.proofs.AnswerLemmas.{good-no_bad}
use Rattle.once_check.specs.declared.breach.Breach.{Breach}
use Rattle.once_check.specs.Breaches.{IsFirstBreach}
use Rattle.once_check.proofs.LawLemmas.{none-breaks}
use Rattle.document_state.specs.Meaning.{model_meaning}
use Rattle.landscape.specs.declared.open_end.OpenWhy.{OpenWhy}
use Rattle.landscape.specs.declared.open_end.OpenWhy.TheVariants as why
use Rattle.landscape.specs.declared.open_end.Refused.{Refused}
use Rattle.landscape.specs.declared.open_end.Refused.TheVariants as refused
use Rattle.landscape.specs.Opened.{AreHeld, AreRefused, AreWithin, HoldSoundLogs, IsRefusedAt, Logs, MayBegin, WhyEnded}
use Rattle.landscape.specs.Opened.{bytes_in, committed_in}

-- ---- bytes stand for one log

-- entries of the same bodies are the same
same-entries : (log other : List Entry) → AreEntries log → AreEntries other → bodies_of log ≡ bodies_of other → log ≡ other
same-entries [] [] are are_too same = refl
same-entries [] (b ∷ other) are are_too same = absurd cc
same-entries (a ∷ log) [] are are_too same = absurd cc
same-entries (a ∷ log) (b ∷ other) are are_too same =
    let first : entry_spelling a ≡ entry_spelling b = cc in
    let rest : bodies_of log ≡ bodies_of other = cc in
    let head = entry_spelling-same a b are.0 are_too.0 first in
    let tail = same-entries log other are.1 are_too.1 rest in
    cc

-- entries have no body that spells none
none-unread : (log front : List Entry) (body : List ℕ) (rest : List (List ℕ)) → AreEntries log → IsNoEntry body
    → bodies_of log ≡ bodies_of front ++ body ∷ rest → ⊥
none-unread [] [] body rest are unread same = absurd cc
none-unread [] (b ∷ front) body rest are unread same = absurd cc
none-unread (a ∷ log) [] body rest are unread same = unread a are.0 (let first : entry_spelling a ≡ body = cc in sym first)
none-unread (a ∷ log) (b ∷ front) body rest are unread same = none-unread log front body rest are.1 unread (cc)

module _ (bytes : List ℕ) where
  pub one-log : (log other : List Entry) → Stands bytes log → Stands bytes other → log ≡ other
  one-log log other stands its =
      same-entries log other stands.entries its.entries ((has_one_answer bytes).one_log (bodies_of log) (bodies_of other) stands.bodies its.bodies)

  not-damaged : (log : List Entry) (place : ℕ) → Stands bytes log → DamagedAt bytes place → ⊥
  not-damaged log place stands damaged = (has_one_answer bytes).not_both (bodies_of log) place stands.bodies damaged

  not-unread : (log : List Entry) (number : ℕ) → Stands bytes log → UnreadAt bytes number → ⊥
  not-unread log number stands unread =
      let f = unread.first in
      none-unread log f.front f.body f.rest stands.entries f.unread
      ((has_one_answer bytes).one_log (bodies_of log) unread.bodies stands.bodies unread.stands ∙ f.whole)

  -- so they stand for the records of one log, and for one moment of each
  module _ (moments other_moments : List (Option ℕ)) (log other : List Record) (each : length moments ≡ length log)
      (other_each : length other_moments ≡ length other) (stands : Stands bytes (entries_of moments log))
      (its : Stands bytes (entries_of other_moments other)) where
    same : entries_of moments log ≡ entries_of other_moments other
    same = one-log (entries_of moments log) (entries_of other_moments other) stands its

    one-records : log ≡ other
    one-records =
        sym (entries_of-records moments log each)
        ∙ ap (map (λ (entry : Entry). entry.what)) same
        ∙ entries_of-records other_moments other other_each

    one-moments : moments ≡ other_moments
    one-moments =
        sym (moments-entries moments log each)
        ∙ ap (map (λ (entry : Entry). entry.moment)) same
        ∙ moments-entries other_moments other other_each

-- ---- volumes hold one set of logs

-- each record of the first systems, so many, has a moment
abbrev pub HaveTheirMoments : ℕ → Logs → Type 0
HaveTheirMoments count logs = (system : ℕ) → 1 ≤ system → system ≤ count → length (logs.moments system) ≡ length (logs.records system)

module _ (bytes : ℕ → List ℕ) (count : ℕ) (one other : Logs) (each : HaveTheirMoments count one) (other_each : HaveTheirMoments count other)
    (held : AreHeld count bytes one) (its : AreHeld count bytes other) (system : ℕ) (least : 1 ≤ system) (most : system ≤ count) where
  -- the records of a system are the same in both
  pub held-records : one.records system ≡ other.records system
  held-records =
      one-records (bytes system) (one.moments system) (other.moments system) (one.records system) (other.records system) (each system least most)
      (other_each system least most) (held system least most) (its system least most)

  -- and so are their moments
  pub held-moments : one.moments system ≡ other.moments system
  held-moments =
      one-moments (bytes system) (one.moments system) (other.moments system) (one.records system) (other.records system) (each system least most)
      (other_each system least most) (held system least most) (its system least most)

-- ---- volumes that hold sound logs are not refused

module _ (systems : ℕ) (text : List ℕ) (bytes : ℕ → List ℕ) (hold : HoldSoundLogs systems text bytes) where
  abbrev logs : Logs
  logs = hold.0

  each : HaveTheirMoments systems logs
  each system least most = (hold.1.good system least most).each

  -- the records are those of any other logs that the volumes hold
  same-records : (other : Logs) → HaveTheirMoments systems other → AreHeld systems bytes other → AreWithin systems text other.records
      → logs.records ≡ other.records
  same-records other other_each held within = λ i system. here system i
    where
      here : (system : ℕ) → logs.records system ≡ other.records system
      here system = elim (cases_lt 0 system) [
        | inl least ↦ elim (cases_lt systems system) [
          | inl more ↦ hold.1.within system (λ one most. omega (arith, more, most))
              ∙ sym (within system (λ one most. omega (arith, more, most)))
          | inr most ↦ held-records bytes systems logs other each other_each hold.2 held system (omega (arith, least)) (omega (arith, most))
        ]
        | inr none ↦ hold.1.within system (λ one most. omega (arith, none, one)) ∙ sym (within system (λ one most. omega (arith, none, one)))
      ]

  -- no volume is refused by itself
  not-refused_at : (system : ℕ) (by : Refused) → 1 ≤ system → system ≤ systems → IsRefusedAt systems text system (bytes system) by → ⊥
  not-refused_at system (refused.Damaged its place) least most is = not-damaged (bytes system) _ place (hold.2 system least most) is.1
  not-refused_at system (refused.Unread its number) least most is = not-unread (bytes system) _ number (hold.2 system least most) is.1
  not-refused_at system (refused.Bad its bad) least most is =
      let bad_log = is.1 in
      let records = one-records (bytes system) (logs.moments system) bad_log.moments (logs.records system) bad_log.log (each system least most)
      bad_log.each (hold.2 system least most) bad_log.stands in
      let moments = one-moments (bytes system) (logs.moments system) bad_log.moments (logs.records system) bad_log.log (each system least most)
      bad_log.each (hold.2 system least most) bad_log.stands in
      let good = (hold.1.good system least most).good in
      good-no_bad (model_meaning systems) system text bad_log.moments bad_log.log bad
      (subst (λ (m : List (Option ℕ)). AreGoodTo (model_meaning systems) system text m bad_log.log (length bad_log.log)) moments
      (subst (λ (l : List Record). AreGoodTo (model_meaning systems) system text (logs.moments system) l (length l)) records good))
      bad_log.is
  not-refused_at system (refused.Breach breach) least most is = is

  -- nor are all of them together
  not-breached : (other : Logs) (breach : Breach) → HaveTheirMoments systems other → AreHeld systems bytes other → AreWithin systems text other.records
      → IsFirstBreach (committed_in systems text other.records) other.records breach → ⊥
  not-breached other breach other_each held within first =
      let same = same-records other other_each held within in
      none-breaks (committed_in systems text logs.records) logs.records hold.1.once breach
      (subst (λ (by : ℕ → List Record). IsFirstBreach (committed_in systems text by) by breach) (sym same) first)

  -- Volumes that hold sound logs are not refused.
  pub not-refused : (by : Refused) → AreRefused systems text bytes by → ⊥
  not-refused (refused.Damaged its place) is = not-refused_at (suc is.count) (refused.Damaged its place) (omega arith) (let less = is.less in omega (arith, less)) is.is
  not-refused (refused.Unread its number) is = not-refused_at (suc is.count) (refused.Unread its number) (omega arith) (let less = is.less in omega (arith, less)) is.is
  not-refused (refused.Bad its bad) is = not-refused_at (suc is.count) (refused.Bad its bad) (omega arith) (let less = is.less in omega (arith, less)) is.is
  not-refused (refused.Breach breach) is =
      not-breached is.0 breach (λ system least most. (is.1 system least most).good.each) (λ system least most. (is.1 system least most).stands)
      is.2 is.3

-- so an opening of them ends otherwise
pub ends-sound : {V : Type 0} (disk : Disk V) (many : ℕ) (text : List ℕ) (set : Option ℕ) (before after : V) (end : OpenWhy)
    → WhyEnded disk many text set before after end → disk.told → HoldSoundLogs many text (bytes_in disk before) → MayBegin end
ends-sound disk many text set before after why.Volume is tells hold = tt
ends-sound disk many text set before after (why.Refused by) is tells hold = not-refused many text (bytes_in disk before) hold by (is tells)
ends-sound disk many text set before after why.OutOfMemory is tells hold = tt
