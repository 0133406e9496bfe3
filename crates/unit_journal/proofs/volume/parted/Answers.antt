use Rattle.std.proofs.Common.{◌≡◌, ℕ, Option, List, [], ◌∷◌, ◌++◌, length, ap, ◌∙◌, arith, length-append}
use Rattle.unit_core.specs.declared.records.Record.{Record}
use Rattle.unit_codec.specs.declared.entry.Entry.{Entry}
use Rattle.unit_journal.specs.OnDisk.{entries_of}
use Rattle.unit_journal.proofs.PlaceLemmas.{entries_of-push}
use Rattle.unit_journal.proofs.volume.parted.Goals as goal

pub loop-entry-preserved : goal.loop-entry-preserved
loop-entry-preserved c =
    let moments = c.loop-entry.moments in
    let log = c.loop-entry.log in
    let entry = c.in-Some.entry in
    let more : c.push.new.self ≡ moments ++ entry.moment ∷ [] = c.in_ok-push.ensures.ok in
    let longer : c.push-in-loop-entry.new.self ≡ log ++ entry.what ∷ [] = c.in_ok-push-2.ensures.ok in
    let each : length moments ≡ length log = c.loop-entry.invariant.each in
    record {
      each =
          let moments_long : length c.push.new.self ≡ length (moments ++ entry.moment ∷ []) = ap length more in
          let log_long : length c.push-in-loop-entry.new.self ≡ length (log ++ entry.what ∷ []) = ap length longer in
          omega (arith, length-append moments (entry.moment ∷ []), length-append log (entry.what ∷ []));
      are =
          ap (λ (l : List (Option ℕ)). entries_of l c.push-in-loop-entry.new.self) more
          ∙ ap (λ (l : List Record). entries_of (moments ++ entry.moment ∷ []) l) longer
          ∙ entries_of-push moments log entry.moment entry.what each
          ∙ ap (λ (l : List Entry). l ++ entry ∷ []) c.loop-entry.invariant.are;
    }
