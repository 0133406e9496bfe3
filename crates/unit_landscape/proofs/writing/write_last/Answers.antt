use Rattle.std.specs.Option.{option_copied}
use Rattle.std.proofs.Common.{◌≡◌, ◌-◌, sym, ap, subst, ◌∙◌}
use Rattle.std.proofs.lemmas.Option.{same_Some, none-some}
use Rattle.ale_volumes.specs.Clock.{LeavesOnly}
use Rattle.unit_core.specs.declared.records.Record.{Record}
use Rattle.unit_codec.specs.Condition.{IsWritable}
use Rattle.unit_codec.specs.Entries.{entry_with}
use Rattle.unit_journal.specs.Settled.{IsBeforeOrAfter}
use Rattle.unit_journal.specs.OnDisk.{next_moment, entries_at}
use Rattle.unit_landscape.specs.steps.Writing.{IsWriteOf}
use Rattle.unit_landscape.proofs.writing.write_last.Goals as goal

pub unreachable-requires : goal.unreachable-requires
unreachable-requires g c =
    none-some c.requires.last.0 (sym (sym c.last.ensures ∙ ap option_copied c.in_default.is) ∙ c.requires.last.1)

pub write-requires-clause-entry : goal.write-requires-clause-entry
write-requires-clause-entry g c =
    let same : c.in-Some.next.now ≡ c.requires.last.0 =
    same_Some c.in-Some.next.now c.requires.last.0 (sym (ap option_copied c.in-Some.is) ∙ c.last.ensures ∙ c.requires.last.1) in
    subst IsWritable (sym same) c.requires.last.2

pub returns-clause-wrote : goal.returns-clause-wrote
returns-clause-wrote g c = λ next log last on_disk.
    let same : c.in-Some.next.now ≡ next = same_Some c.in-Some.next.now next (sym (ap option_copied c.in-Some.is) ∙ c.last.ensures ∙ last) in
    subst (λ (n : Record). IsWriteOf g.V.Volumes.disk c.args.vols.now c.write.new.vols (c.args.system - 1) c.args.journals.now
    c.write.new.self log n c.write.result) same
    (record {
      written = c.write.ensures.written log on_disk;
      torn = c.write.ensures.torn log on_disk;
      unwritten = c.write.ensures.unwritten log on_disk;
      full = c.write.ensures.full log on_disk;
      full_same = c.write.ensures.full_same;
      left = c.write.ensures.left;
      one = c.write.ensures.one;
      grown = c.write.ensures.grown;
      others = λ other differs tells. ((c.write.ensures.others tells).each other differs).known;
    })

pub returns-clause-any_moment : goal.returns-clause-any_moment
returns-clause-any_moment g c = λ tells next log last on_disk.
    let same : c.in-Some.next.now ≡ next = same_Some c.in-Some.next.now next (sym (ap option_copied c.in-Some.is) ∙ c.last.ensures ∙ last) in
    subst (λ n. LeavesOnly g.V.Volumes.disk c.args.vols.now c.write.new.vols (c.args.system - 1)
    (IsBeforeOrAfter (entries_at c.args.journals.now (c.args.system - 1) log) (entry_with (next_moment c.args.journals.now (c.args.system - 1)) n))) same
    (c.write.ensures.any_moment tells log on_disk)
