use Rattle.std.proofs.Common.{map, ap, string_bytes}
use Rattle.ale_io.specs.Folder.{told_of}
use Rattle.worked_cases.proofs.GivenLemmas.{Ends-of}
use Rattle.worked_cases.proofs.tried.performed.Goals as goal

pub returns-in-Given-clause-gives : goal.returns-in-Given-clause-gives
returns-in-Given-clause-gives g c =
    let call = c.aleflow in
    let old = c.args.files.now in
    let clock = c.with_moments-clock in
    let words = c.as_slice in
    let same = ap (λ texts. map string_bytes texts) words.ensures.value in
    let new = ap (λ clock. clock.calls) clock.ensures in
    rw c.in-Given.is
    (Ends-of (told_of old.files) c.args.vols call.result.vols call.new.clock call.new.files.calls.faults
    (map string_bytes words.result.now) (map string_bytes c.in-Given.words.items) old.calls.faults clock.result same c.requires.quiet new
    call.result.status c.args.out.now.bytes.items call.new.out.bytes.items c.args.out.now.calls.faults call.new.out.calls.faults c.requires.empty
    call.ensures.ended call.ensures.write_fault)
