use Rattle.std.specs.Prelude.{Err, slice_get, slice_index_or, slice_set}
use Rattle.std.specs.Option.{unwrap_or}
use Rattle.std.proofs.Common.{◌≡◌, ◌-◌, ◌<◌, inl, ℕ, Option, Some, None, List, [], ◌∷◌, ◌++◌, refl, sym, ap, ◌∙◌, subst}
use Rattle.byte_journal.specs.declared.fault.AppendFault.TheVariants as AppendFault
use Rattle.std.specs.Result.{result_err}
use Rattle.std.proofs.lemmas.Option.{same_Some}
use Rattle.ale_volumes.specs.Clock.{KeepsOthers, LeavesOnly}
use Rattle.ale_volumes.proofs.ClockLemmas.{started}
use Rattle.unit_codec.specs.Entries.{entry_with}
use Rattle.unit_journal.specs.declared.journal.UnitJournal.{UnitJournal}
use Rattle.unit_journal.specs.Settled.{IsBeforeOrAfter, IsSettled}
use Rattle.unit_journal.specs.declared.journals.SystemJournals.{SystemJournals}
use Rattle.unit_journal.specs.OnDisk.{moments_at, next_moment, entries_at, IsOnDisk, IsLeftOnDisk}
use Rattle.unit_journal.specs.Changes.{LeftBy, OnlyAt}
use Rattle.unit_journal.specs.steps.Moments.{rests_after}
use Rattle.unit_journal.proofs.PlaceLemmas.{got-set_at, set-got, noted-here, length-noted}
use Rattle.unit_journal.proofs.KeptLemmas.{IsOnDisk-stands}
use Rattle.unit_journal.proofs.WriteLemmas.{LeftBy-failed, OnlyAt-failed, OnlyAt-written, left-unless, unchanged-but}
use Rattle.unit_journal.proofs.WriteLemmas.{within-place, on-here, settled-here}
use Rattle.unit_journal.proofs.WriteLemmas.{IsOnDisk-written, IsOnDisk-unwritten, IsLeft-torn, full-here}
use Rattle.unit_journal.proofs.journals.SystemJournals.write.Goals as goal

pub returns-in_err-note-clause-unwritten : goal.returns-in_err-note-clause-unwritten
returns-in_err-note-clause-unwritten g c = λ log on_disk is.
    let V = g.V.Volumes in
    subst (λ (moments : List (List (Option ℕ))). IsOnDisk V.disk c.args.vols.now (c.args.system - 1)
    (record c.args.self.now { moments = moments }) log)
    (sym c.in_err-note.ensures.err) on_disk

pub returns-in_err-note-clause-any_moment : goal.returns-in_err-note-clause-any_moment
returns-in_err-note-clause-any_moment g c = λ tells log on_disk.
    let V = g.V.Volumes in
    let old = c.args.vols.now in
    let place = c.args.system - 1 in
    started V.disk old place _
    (λ image left. inl (IsOnDisk-stands V.disk old place c.args.self.now log tells on_disk image (g.met.V.Volumes.only_now tells old place image left)))

pub at_mut-requires : goal.at_mut-requires
at_mut-requires g c =
    let all = c.args.self.now in
    let place = c.args.system - 1 in
    let k = c.get.result - 1 in
    let at : k ≡ place = ap (λ (n : ℕ). n - 1) c.get.ensures.number in
    let up = c.requires.on_disk.1 in
    within-place all.journals k place up.journal at up.here

pub take_back-requires : goal.take_back-requires
take_back-requires g c =
    let all = c.args.self.now in
    let moment = c.next_moment-moment.result in
    let place = c.args.system - 1 in
    let k = c.get.result - 1 in
    let at : k ≡ place = ap (λ (n : ℕ). n - 1) c.get.ensures.number in
    let up = c.requires.on_disk.1 in
    let within = within-place all.moments k place (moments_at all place) at up.noted in
    subst (λ (n : ℕ). k < n) (sym (length-noted all.moments c.note.new.moments k moment c.in_ok-note.ensures.ok)) within

pub returns-in-Ok-clause-written : goal.returns-in-Ok-clause-written
returns-in-Ok-clause-written g c = λ log on_disk.
    let V = g.V.Volumes in
    let old = c.args.vols.now in
    let all = c.args.self.now in
    let moment = c.next_moment-moment.result in
    let place = c.args.system - 1 in
    let k = c.get.result - 1 in
    let at : k ≡ place = ap (λ (n : ℕ). n - 1) c.get.ensures.number in
    let was = c.at_mut.result.now in
    let here : slice_get all.journals place ≡ Some was = ap (λ (i : ℕ). slice_get all.journals i) (sym at) ∙ c.at_mut.ensures.value in
    let up = c.requires.on_disk.1 in
    let within = within-place all.moments k place (moments_at all place) at up.noted in
    let room = within-place all.journals k place up.journal at up.here in
    let now = c.append.new.self in
    let after : SystemJournals = record all { journals = slice_set all.journals k now; moments = c.note.new.moments } in
    IsOnDisk-written V.disk old place all log was here on_disk c.append.new.vols after c.args.next.now moment now
    (got-set_at all.journals k place now at room)
    (noted-here all.moments c.note.new.moments k place moment at within c.in_ok-note.ensures.ok)
    c.in-Ok.ensures.spelled (record { volume = c.in-Ok.ensures.moves_on.0; at_end = c.in-Ok.ensures.moves_on.1 }) c.in-Ok.ensures.added

pub returns-in-Ok-clause-one : goal.returns-in-Ok-clause-one
returns-in-Ok-clause-one g c =
    let all = c.args.self.now in
    let moment = c.next_moment-moment.result in
    let place = c.args.system - 1 in
    let k = c.get.result - 1 in
    let at : k ≡ place = ap (λ (n : ℕ). n - 1) c.get.ensures.number in
    let now = c.append.new.self in
    subst (λ (i : ℕ). OnlyAt i all (record all { journals = slice_set all.journals k now; moments = c.note.new.moments })) at
    (OnlyAt-written k all now c.note.new.moments moment c.in_ok-note.ensures.ok)

pub returns-in-Ok-clause-grown : goal.returns-in-Ok-clause-grown
returns-in-Ok-clause-grown g c =
    let all = c.args.self.now in
    let moment = c.next_moment-moment.result in
    let place = c.args.system - 1 in
    let k = c.get.result - 1 in
    let at : k ≡ place = ap (λ (n : ℕ). n - 1) c.get.ensures.number in
    let up = c.requires.on_disk.1 in
    let within = within-place all.moments k place (moments_at all place) at up.noted in
    ap (λ (found : Option (List (Option ℕ))). unwrap_or found [])
    (noted-here all.moments c.note.new.moments k place moment at within c.in_ok-note.ensures.ok)
    ∙ ap (λ (m : Option ℕ). moments_at all place ++ m ∷ []) c.next_moment-moment.ensures

pub returns-in-Err-clause-torn : goal.returns-in-Err-clause-torn
returns-in-Err-clause-torn g c = λ log on_disk is.
    let V = g.V.Volumes in
    let old = c.args.vols.now in
    let new = c.append.new.vols in
    let all = c.args.self.now in
    let moment = c.next_moment-moment.result in
    let place = c.args.system - 1 in
    let k = c.get.result - 1 in
    let at : k ≡ place = ap (λ (n : ℕ). n - 1) c.get.ensures.number in
    let was = c.at_mut.result.now in
    let here : slice_get all.journals place ≡ Some was = ap (λ (i : ℕ). slice_get all.journals i) (sym at) ∙ c.at_mut.ensures.value in
    let up = c.requires.on_disk.1 in
    let within = within-place all.moments k place (moments_at all place) at up.noted in
    let same =
    unchanged-but all (slice_set all.journals k c.append.new.self) c.take_back.new.moments c.keep_rest.new.rests c.keep_rest.new.rests
    (set-got all.journals k was c.append.new.self c.at_mut.ensures.value c.in-Err.ensures.moves_on)
    (c.take_back.ensures all.moments moment within c.in_ok-note.ensures.ok) refl in
    let entries = entries_at all place log in
    let settled = settled-here V.disk old place all log was here on_disk in
    let entry = entry_with moment c.args.next.now in
    let leaves : V.disk.told → LeavesOnly V.disk old new place (IsBeforeOrAfter entries entry) =
    λ tells. subst (λ (n : ℕ). LeavesOnly V.disk old new n (IsBeforeOrAfter entries entry))
    (on-here V.disk old place all log was here on_disk).volume
    (c.append.ensures.any_moment tells entries (settled tells)) in
    let fault : c.in-Err.fault ≡ AppendFault.Volume = same_Some c.in-Err.fault AppendFault.Volume (ap result_err is) in
    let found : slice_index_or c.keep_rest.new.rests place None ≡ moment =
    ap (λ (i : ℕ). slice_index_or c.keep_rest.new.rests i None) (sym at) ∙ c.keep_rest.ensures.found fault in
    subst (λ (after : SystemJournals). IsLeftOnDisk V.disk new place after log (Some c.args.next.now)) (sym same)
    (IsLeft-torn V.disk old place all log was here on_disk new c.args.next.now moment c.requires.entry c.next_moment-moment.ensures
    (λ tells image later image_is. g.met.V.Volumes.counts_now tells new place (V.disk.moment old) image later image_is) leaves c.keep_rest.new.rests found)

pub returns-in-Err-clause-unwritten : goal.returns-in-Err-clause-unwritten
returns-in-Err-clause-unwritten g c = λ log on_disk is.
    let V = g.V.Volumes in
    let old = c.args.vols.now in
    let new = c.append.new.vols in
    let all = c.args.self.now in
    let moment = c.next_moment-moment.result in
    let place = c.args.system - 1 in
    let k = c.get.result - 1 in
    let at : k ≡ place = ap (λ (n : ℕ). n - 1) c.get.ensures.number in
    let was = c.at_mut.result.now in
    let here : slice_get all.journals place ≡ Some was = ap (λ (i : ℕ). slice_get all.journals i) (sym at) ∙ c.at_mut.ensures.value in
    let up = c.requires.on_disk.1 in
    let within = within-place all.moments k place (moments_at all place) at up.noted in
    let same =
    unchanged-but all (slice_set all.journals k c.append.new.self) c.take_back.new.moments c.keep_rest.new.rests
    (rests_after all.rests k moment c.in-Err.fault)
    (set-got all.journals k was c.append.new.self c.at_mut.ensures.value c.in-Err.ensures.moves_on)
    (c.take_back.ensures all.moments moment within c.in_ok-note.ensures.ok) c.keep_rest.ensures.kept in
    let fault : c.in-Err.fault ≡ AppendFault.OutOfMemory = same_Some c.in-Err.fault AppendFault.OutOfMemory (ap result_err is) in
    let all_same = same ∙ left-unless all place k moment at c.next_moment-moment.ensures c.in-Err.fault fault in
    let entries = entries_at all place log in
    let settled = settled-here V.disk old place all log was here on_disk in
    subst (λ (after : SystemJournals). IsOnDisk V.disk new place after log) (sym all_same)
    (IsOnDisk-unwritten V.disk old place all log was here on_disk new
    (λ tells. subst (λ (journal : UnitJournal). IsSettled V.disk new journal entries) c.in-Err.ensures.moves_on
    (c.in-Err.ensures.no_memory tells entries (settled tells) is)))

pub returns-in-Err-clause-full : goal.returns-in-Err-clause-full
returns-in-Err-clause-full g c = λ log on_disk length not_memory.
    let V = g.V.Volumes in
    let old = c.args.vols.now in
    let all = c.args.self.now in
    let moment = c.next_moment-moment.result in
    let place = c.args.system - 1 in
    let k = c.get.result - 1 in
    let at : k ≡ place = ap (λ (n : ℕ). n - 1) c.get.ensures.number in
    let was = c.at_mut.result.now in
    let here : slice_get all.journals place ≡ Some was = ap (λ (i : ℕ). slice_get all.journals i) (sym at) ∙ c.at_mut.ensures.value in
    full-here was (entries_at all place log) moment (next_moment all place) c.args.next.now length
    (on-here V.disk old place all log was here on_disk).at_end c.next_moment-moment.ensures (c.in-Err.ensures.full length not_memory)

pub returns-in-Err-clause-left : goal.returns-in-Err-clause-left
returns-in-Err-clause-left g c =
    let all = c.args.self.now in
    let moment = c.next_moment-moment.result in
    let place = c.args.system - 1 in
    let k = c.get.result - 1 in
    let at : k ≡ place = ap (λ (n : ℕ). n - 1) c.get.ensures.number in
    let was = c.at_mut.result.now in
    let up = c.requires.on_disk.1 in
    let within = within-place all.moments k place (moments_at all place) at up.noted in
    let same =
    unchanged-but all (slice_set all.journals k c.append.new.self) c.take_back.new.moments c.keep_rest.new.rests
    (rests_after all.rests k moment c.in-Err.fault)
    (set-got all.journals k was c.append.new.self c.at_mut.ensures.value c.in-Err.ensures.moves_on)
    (c.take_back.ensures all.moments moment within c.in_ok-note.ensures.ok) c.keep_rest.ensures.kept in
    subst (λ (after : SystemJournals). LeftBy {T = Unit {0}} place all after (Err c.in-Err.fault)) (sym same)
    (LeftBy-failed all place k moment at c.next_moment-moment.ensures (Unit {0}) c.in-Err.fault)

pub returns-in-Err-clause-one : goal.returns-in-Err-clause-one
returns-in-Err-clause-one g c =
    let all = c.args.self.now in
    let moment = c.next_moment-moment.result in
    let place = c.args.system - 1 in
    let k = c.get.result - 1 in
    let at : k ≡ place = ap (λ (n : ℕ). n - 1) c.get.ensures.number in
    let was = c.at_mut.result.now in
    let up = c.requires.on_disk.1 in
    let within = within-place all.moments k place (moments_at all place) at up.noted in
    let same =
    unchanged-but all (slice_set all.journals k c.append.new.self) c.take_back.new.moments c.keep_rest.new.rests
    (rests_after all.rests k moment c.in-Err.fault)
    (set-got all.journals k was c.append.new.self c.at_mut.ensures.value c.in-Err.ensures.moves_on)
    (c.take_back.ensures all.moments moment within c.in_ok-note.ensures.ok) c.keep_rest.ensures.kept in
    subst (λ (after : SystemJournals). OnlyAt place all after) (sym same)
    (OnlyAt-failed all place k moment at c.next_moment-moment.ensures c.in-Err.fault)

pub returns-in-Ok-clause-others : goal.returns-in-Ok-clause-others
returns-in-Ok-clause-others g c = λ tells.
    let V = g.V.Volumes in
    let old = c.args.vols.now in
    let all = c.args.self.now in
    let place = c.args.system - 1 in
    let k = c.get.result - 1 in
    let at : k ≡ place = ap (λ (n : ℕ). n - 1) c.get.ensures.number in
    let was = c.at_mut.result.now in
    let here : slice_get all.journals place ≡ Some was = ap (λ (i : ℕ). slice_get all.journals i) (sym at) ∙ c.at_mut.ensures.value in
    subst (KeepsOthers V.disk old c.append.new.vols) (on-here V.disk old place all c.requires.on_disk.0 was here c.requires.on_disk.1).volume
    (c.append.ensures.others tells)

pub returns-in-Err-clause-others : goal.returns-in-Err-clause-others
returns-in-Err-clause-others g c = λ tells.
    let V = g.V.Volumes in
    let old = c.args.vols.now in
    let all = c.args.self.now in
    let place = c.args.system - 1 in
    let k = c.get.result - 1 in
    let at : k ≡ place = ap (λ (n : ℕ). n - 1) c.get.ensures.number in
    let was = c.at_mut.result.now in
    let here : slice_get all.journals place ≡ Some was = ap (λ (i : ℕ). slice_get all.journals i) (sym at) ∙ c.at_mut.ensures.value in
    subst (KeepsOthers V.disk old c.append.new.vols) (on-here V.disk old place all c.requires.on_disk.0 was here c.requires.on_disk.1).volume
    (c.append.ensures.others tells)
