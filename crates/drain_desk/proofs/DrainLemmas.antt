-- Workers begin and end: claims are given up, and what is still offered is shipped and executed.
use Rattle.std.specs.List.{list_all}
use Rattle.std.proofs.Common.{◌≡◌, ◌+◌, ℕ, not, true, false, [], ◌++◌, Result, Ok, Err, inl, inr, refl, sym, ap, subst, ◌∙◌, arith}
use Rattle.std.proofs.lemmas.Bool.{and_from}
use Rattle.std.proofs.lemmas.List.Folds.{list_all-append}
use Rattle.ale_volumes.specs.Disk.{Disk}
use Rattle.ale_base.specs.declared.out_of_memory.OutOfMemory.{OutOfMemory}
use Rattle.trfc_protocol.specs.declared.event.Event.TheVariants as event
use Rattle.trfc_protocol.specs.declared.event.Action.TheVariants.{Revoke}
use Rattle.trfc_protocol.specs.declared.held.Held.{Held}
use Rattle.trfc_protocol.specs.declared.held.HeldKind.TheVariants.{Direct}
use Rattle.trfc_protocol.specs.declared.world.World.{World}
use Rattle.trfc_protocol.specs.Worlds.{is_kind}
use Rattle.unit_landscape.specs.KeptWorlds.{KeptOf}
use Rattle.unit_landscape.specs.LogAnswers.{KeepsVolumes}
use Rattle.document_state.specs.declared.document_tables.DocumentTables.{DocumentTables}
use Rattle.document_state.specs.declared.model_rules.ModelRules.{ModelRules}
use Rattle.unit_landscape.specs.Ends.{Happened}
use Rattle.unit_landscape.specs.Kept.{IsLandscape}
use Rattle.unit_works.specs.Drained.{is_round}
use Rattle.unit_works.specs.Events.{is_work}
use Rattle.unit_works.specs.Finished.{finished_in}
use Rattle.unit_works.specs.Worked.{HaveOnlyClaimed, Lines, Worked}
use Rattle.unit_works.specs.Rounds.{RoundsAs}
use Rattle.unit_works.proofs.DrainedLemmas.{acted-on, none-left, only-same, taken-none, taken-on}
use Rattle.unit_works.proofs.OnceLemmas.{once-on}
use Rattle.unit_works.proofs.StateLemmas.{happens-step}
use Rattle.unit_works.proofs.WentLemmas.{went-happened}
use Rattle.unit_works.proofs.WorkedLemmas.{is_lawful, meaning, on, part, still}
use Rattle.landscape.specs.Crashes.{LeavesSoundLogs}
use Rattle.drain_desk.specs.Desk.{AreGoingOn}
use Rattle.drain_desk.specs.steps.Closing.{ClosedAs, IsAdded}

module _ {V : Type 0} (disk : Disk V) (before after : KeptOf ModelRules DocumentTables V) (is : IsLandscape meaning before.world)
    (did : Happened (meaning before.world.rules) disk before after (event.Operator Revoke)) where
  -- claims that are given up leave the world but for them
  revoked-world : after.world ≡ record before.world { claims = [] }
  revoked-world =
      did.world
      ∙ happens-step (meaning before.world.rules) (is_lawful before.world.rules) before.world is.safe (event.Operator Revoke) refl (event.Operator Revoke) refl

  pub revoked-none : after.world.claims ≡ []
  revoked-none = ap (λ (w : World ModelRules). w.claims) revoked-world

  pub revoked-only : KeepsVolumes before after → HaveOnlyClaimed before after
  revoked-only keeps = record {
    world = revoked-world
        ∙ ap (λ claims. let w : World ModelRules = record before.world { claims = claims } in w) (sym revoked-none)
        ∙ ap (λ next. let w : World ModelRules = record before.world { claims = after.world.claims; next_number = next } in w)
        (sym (ap (λ (w : World ModelRules). w.next_number) revoked-world));
    journals = keeps.journals;
    vols = keeps.vols;
    causes = keeps.causes;
  }

  pub revoked-went : LeavesSoundLogs disk before after → Worked disk before after is_work true
  revoked-went leaves = went-happened meaning is_lawful disk is_work before after is leaves true (event.Operator Revoke) refl refl did

  -- what is still offered is shipped and executed behind workers
  pub rounds-behind : (began last : KeptOf ModelRules DocumentTables V) (lines lines_now lines_last : Lines) (n m : ℕ)
      → LeavesSoundLogs disk before after → KeepsVolumes before after
      → AreGoingOn disk began before lines lines_now n → RoundsAs disk after lines_now last lines_last (Ok m)
      → RoundsAs disk began lines last lines_last (Ok (n + m))
  rounds-behind began last lines lines_now lines_last n m leaves keeps going rounds =
      let gone = rounds.0 in
      let worked = gone.worked in
      let behind = acted-on disk [] worked.acts before after last lines_now lines_now lines_last (revoked-only keeps, refl) worked.did in (
        record {
          worked = record {
            went = on disk is_work true began after last (on disk is_work true began before after going.went (revoked-went leaves)) worked.went;
            taken = taken-on lines lines_now lines_last going.taken worked.taken;
            finished =
                let first = going.count in
                let last_of = worked.finished in
                let same : finished_in after.world ≡ finished_in before.world = ap finished_in revoked-world in
                omega (arith, first, last_of, same);
            claims = inr (none-left last.world.claims after.world.claims worked.claims revoked-none);
            acts = going.acts ++ worked.acts;
            did = acted-on disk going.acts worked.acts began before last lines lines_now lines_last going.did behind;
          };
          ships = list_all-append is_round going.acts worked.acts
              ∙ and_from (list_all is_round going.acts) (list_all is_round worked.acts) going.ships gone.ships;
          once = λ none tid.
              once-on disk going.acts worked.acts began before last lines lines_now lines_last behind gone.ships tid (going.once tid)
              (gone.once (ap (list_all (λ (held : Held). not (is_kind held.kind Direct))) revoked-none) tid);
        },
        rounds.1,
      )

  -- where memory is wanting, works were done
  pub rounds-short : (began last : KeptOf ModelRules DocumentTables V) (lines lines_now : Lines) (n : ℕ)
      → LeavesSoundLogs disk before after → AreGoingOn disk began before lines lines_now n → Worked disk after last is_work false
      → Worked disk began last is_work false
  rounds-short began last lines lines_now n leaves going went =
      on disk is_work false began after last (on disk is_work true began before after going.went (revoked-went leaves)) went

-- workers begin where no claim stands
pub going-first : {V : Type 0} (disk : Disk V) (began : KeptOf ModelRules DocumentTables V) (lines : Lines) → began.world.claims ≡ []
    → AreGoingOn disk began began lines lines 0
going-first disk began lines bare = record {
  went = still disk is_work true began began refl;
  taken = taken-none lines;
  count = omega arith;
  runs = ap (λ claims. list_all (λ (held : Held). not (is_kind held.kind Direct)) claims) bare;
  acts = [];
  did = (only-same disk began began refl, refl);
  ships = refl;
  once = λ tid. inl refl;
}

-- rounds that ended, of which no more is told than that they were works
pub rounds-work : {V : Type 0} (disk : Disk V) (before last : KeptOf ModelRules DocumentTables V) (lines lines_last : Lines)
    (result : Result ℕ OutOfMemory)
    → RoundsAs disk before lines last lines_last result → Worked disk before last is_work false
rounds-work disk before last lines lines_last (Ok m) rounds =
    let gone = rounds.0 in
    let worked = gone.worked in
    part disk is_work before last worked.went
rounds-work disk before last lines lines_last (Err short) rounds = rounds

-- claims were given up, and what was still offered was shipped and executed
pub closed : {V : Type 0} (disk : Disk V) (now revoked last : KeptOf ModelRules DocumentTables V) (lines_now lines_last : Lines) (n : ℕ)
    (more result : Result ℕ OutOfMemory) → IsLandscape meaning now.world
    → Happened (meaning now.world.rules) disk now revoked (event.Operator Revoke) → LeavesSoundLogs disk now revoked → KeepsVolumes now revoked
    → RoundsAs disk revoked lines_now last lines_last more → IsAdded n more result
    → ClosedAs disk now lines_now n last lines_last result
closed disk now revoked last lines_now lines_last n (Ok m) (Ok sum) is did leaves keeps rounds added = λ began lines going.
    subst (λ k. RoundsAs disk began lines last lines_last (Ok k)) (sym added)
    (rounds-behind disk now revoked is did began last lines lines_now lines_last n m leaves keeps going rounds)
closed disk now revoked last lines_now lines_last n (Err short) (Ok sum) is did leaves keeps rounds added = absurd added
closed disk now revoked last lines_now lines_last n more (Err short) is did leaves keeps rounds added = λ began lines going.
    rounds-short disk now revoked is did began last lines lines_now n leaves going (rounds-work disk revoked last lines_now lines_last more rounds)
