use Rattle.std.specs.Prelude.{slice_index_or, slice_get}
use Rattle.std.proofs.Common.{◌≡◌, ◌<◌, inl, inr, length, Some, None, refl, sym, subst, arith}
use Rattle.std.proofs.lemmas.Option.{slice_get_read}
use Rattle.unit_codec.specs.Entries.{entry_with}
use Rattle.unit_journal.specs.OnDisk.{entries_of}
use Rattle.unit_journal.proofs.LookLemmas.{writable-found, writable-kept, entry-at, length-entries, shared-more, shared-apart, shared-ends}
use Rattle.unit_journal.proofs.comparing.shared.Goals as goal

pub is_entry-requires-clause-entry : goal.is_entry-requires-clause-entry
is_entry-requires-clause-entry c =
    writable-found c.args.found.now c.loop-count.count c.index-found-count.result c.requires.found
    (slice_get_read c.args.found.now (length c.args.found.now) c.loop-count.count c.index-found-count.result refl c.loop-count-test.true
    c.index-found-count.is)

pub is_entry-requires-clause-what : goal.is_entry-requires-clause-what
is_entry-requires-clause-what c =
    writable-kept c.args.moments.now c.args.log.now c.loop-count.count c.index-log-count.result c.requires.each c.requires.kept c.if-count-log.true
    (slice_get_read c.args.log.now (length c.args.log.now) c.loop-count.count c.index-log-count.result refl c.if-count-log.true c.index-log-count.is)

pub returns-then-not-same : goal.returns-then-not-same
returns-then-not-same c =
    let n = c.loop-count.count in
    let moments = c.args.moments.now in
    let log = c.args.log.now in
    let what = c.index-log-count.result in
    shared-apart c.args.found.now (entries_of moments log) n c.index-found-count.result (entry_with (slice_index_or moments n None) what)
    c.loop-count.invariant
    (slice_get_read c.args.found.now (length c.args.found.now) n c.index-found-count.result refl c.loop-count-test.true c.index-found-count.is)
    (entry-at moments log n what c.requires.each c.if-count-log.true
    (slice_get_read log (length log) n what refl c.if-count-log.true c.index-log-count.is))
    (λ same. let yes = c.in_ok-same.ensures.1 same in let no = c.if-not-same.true in absurd cc)

pub loop-count-preserved : goal.loop-count-preserved
loop-count-preserved c =
    let n = c.loop-count.count in
    let moments = c.args.moments.now in
    let log = c.args.log.now in
    let what = c.index-log-count.result in
    shared-more c.args.found.now (entries_of moments log) n c.index-found-count.result (entry_with (slice_index_or moments n None) what)
    c.loop-count.invariant c.loop-count-test.true
    (subst (λ l. n < l) (sym (length-entries moments log c.requires.each)) c.if-count-log.true)
    (slice_get_read c.args.found.now (length c.args.found.now) n c.index-found-count.result refl c.loop-count-test.true c.index-found-count.is)
    (entry-at moments log n what c.requires.each c.if-count-log.true
    (slice_get_read log (length log) n what refl c.if-count-log.true c.index-log-count.is))
    (c.in_ok-same.ensures.0 c.if-not-same.false)

pub returns-else-count-log : goal.returns-else-count-log
returns-else-count-log c =
    let moments = c.args.moments.now in
    let log = c.args.log.now in
    shared-ends c.args.found.now (entries_of moments log) c.loop-count.count c.loop-count.invariant
    (inr (omega (arith, c.if-count-log.false, length-entries moments log c.requires.each)))

pub returns-after-loop-count : goal.returns-after-loop-count
returns-after-loop-count c =
    shared-ends c.args.found.now (entries_of c.args.moments.now c.args.log.now) c.loop-count.count c.loop-count.invariant
    (inl (omega (arith, c.loop-count-test.false)))
