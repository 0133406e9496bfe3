use Rattle.std.specs.Prelude.{true, Ok}
use Rattle.std.proofs.Common.{◌≡◌, ◌≢◌, ◌+◌, ◌<◌, ◌≤◌, length, refl, sym, subst, ap, ◌∙◌, arith}
use Rattle.std.specs.Option.{option_copied}
use Rattle.std.proofs.lemmas.Option.{slice_get_read, slice_get_past}
use Rattle.unit_journal.specs.OnDisk.{entries_of}
use Rattle.unit_journal.specs.Looking.{with_left, IsFirstApart}
use Rattle.unit_journal.specs.steps.Compared.{Finds}
use Rattle.unit_journal.proofs.LookLemmas.{writable-found, length-entries, finds-missing, finds-log, finds-entry, finds-too_many, finds-rest}
use Rattle.unit_journal.proofs.comparing.is_found.Goals as goal

pub returns-then-shared-log : goal.returns-then-shared-log
returns-then-shared-log c =
    let moments = c.args.moments.now in
    let log = c.args.log.now in
    let n = c.in_ok-shared.shared in
    finds-missing c.args.found.now (entries_of moments log) c.args.moment (option_copied c.args.rest) n c.in_ok-shared.ensures
    (subst (λ l. n < l) (sym (length-entries moments log c.requires.each)) c.if-shared-log.true)

pub is_entry-requires-clause-entry : goal.is_entry-requires-clause-entry
is_entry-requires-clause-entry c =
    writable-found c.args.found.now c.in_ok-shared.shared c.in-Some-Some.entry.now c.requires.found (slice_get_read c.args.found.now (length c.args.found.now) c.in_ok-shared.shared c.in-Some-Some.entry.now refl c.in-Some-Some.ensures.lookup.3.0
    c.in-Some-Some.ensures.lookup.1)

pub returns-in-None-default : goal.returns-in-None-default
returns-in-None-default c =
    let moments = c.args.moments.now in
    let log = c.args.log.now in (
      tt,
      finds-log c.args.found.now (entries_of moments log) c.in_ok-shared.shared c.in_ok-shared.ensures
          (omega (arith, c.if-shared-log.false, length-entries moments log c.requires.each))
          (slice_get_past c.args.found.now c.in_ok-shared.shared c.in-None-default.ensures.lookup.3),
    )

pub returns-then-shared-found : goal.returns-then-shared-found
returns-then-shared-found c =
    let moments = c.args.moments.now in
    let log = c.args.log.now in
    let entries = entries_of moments log in
    let n = c.in_ok-shared.shared in
    let f =
    finds-entry c.args.found.now entries n c.in-Some-Some.entry.now c.in_ok-shared.ensures
    (omega (arith, c.if-shared-log.false, length-entries moments log c.requires.each)) (slice_get_read c.args.found.now (length c.args.found.now) c.in_ok-shared.shared c.in-Some-Some.entry.now refl c.in-Some-Some.ensures.lookup.3.0
    c.in-Some-Some.ensures.lookup.1) in
    subst (λ r. (c.args.found.now ≢ entries) × IsFirstApart c.args.found.now (with_left entries c.args.moment r) (n + 2))
    (sym (ap (λ r. option_copied r) c.in-Some-Some.is-1))
    (finds-too_many c.args.found.now entries n c.in-Some-Some.entry.now f.0 f.1 c.args.moment c.in-Some-Some.next.now
    (c.in_ok-is_entry-in-Some-Some.ensures.0 c.if-not-branch.false) c.if-shared-found.true)

pub returns-else-shared-found : goal.returns-else-shared-found
returns-else-shared-found c =
    let moments = c.args.moments.now in
    let log = c.args.log.now in
    let entries = entries_of moments log in
    let n = c.in_ok-shared.shared in
    let f =
    finds-entry c.args.found.now entries n c.in-Some-Some.entry.now c.in_ok-shared.ensures
    (omega (arith, c.if-shared-log.false, length-entries moments log c.requires.each)) (slice_get_read c.args.found.now (length c.args.found.now) c.in_ok-shared.shared c.in-Some-Some.entry.now refl c.in-Some-Some.ensures.lookup.3.0
    c.in-Some-Some.ensures.lookup.1) in
    subst (λ r. Finds c.args.found.now entries c.args.moment r (Ok true)) (sym (ap (λ r. option_copied r) c.in-Some-Some.is-1)) (
      tt,
      finds-rest c.args.found.now entries n c.in-Some-Some.entry.now f.0 f.1 c.args.moment c.in-Some-Some.next.now
          (c.in_ok-is_entry-in-Some-Some.ensures.0 c.if-not-branch.false) (omega (arith, c.if-shared-found.false)),
    )
