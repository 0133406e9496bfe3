-- What a desk keeps from call to call.
use Rattle.std.specs.Prelude.{IfSome}
use Rattle.std.specs.List.{list_all}
use Rattle.std.proofs.Common.{◌≡◌, ◌+◌, ℕ, Bool, true, false, Option, Some, None, List, [], ◌++◌, inl, refl, sym, ap, subst, ◌∙◌, arith}
use Rattle.std.proofs.lemmas.Bool.{and_from}
use Rattle.std.proofs.lemmas.List.Folds.{list_all-append}
use Rattle.ale_volumes.specs.Disk.{Disk}
use Rattle.ale_base.specs.Tid.{TidOf}
use Rattle.inbound_post.specs.declared.prepared.Prepared.{Prepared}
use Rattle.landscape.specs.Working.{IsPreparedFor}
use Rattle.unit_landscape.specs.KeptWorlds.{KeptOf}
use Rattle.document_state.specs.declared.document_tables.DocumentTables.{DocumentTables}
use Rattle.document_state.specs.declared.model_rules.ModelRules.{ModelRules}
use Rattle.unit_works.specs.Acts.{Act, HaveActed}
use Rattle.unit_works.specs.Claims.{NoneRuns}
use Rattle.unit_works.specs.Drained.{TakesOnce, is_round}
use Rattle.unit_works.specs.Events.{is_work}
use Rattle.unit_works.specs.Finished.{finished_in}
use Rattle.unit_works.specs.Worked.{HaveTaken, Lines, Worked}
use Rattle.unit_works.proofs.DrainedLemmas.{acted-on, taken-none, taken-on}
use Rattle.unit_works.proofs.OnceLemmas.{once-on}
use Rattle.unit_works.proofs.PreparedLemmas.{prepared-lasts}
use Rattle.unit_works.proofs.WorkedLemmas.{on}
use Rattle.drain_desk.specs.declared.began.Began.{Began}
use Rattle.drain_desk.specs.declared.claiming.Offer.{Offer}
use Rattle.drain_desk.specs.declared.work.Task.{Task}
use Rattle.drain_desk.specs.Desk.{AreGoingOn, Keeps}
use Rattle.drain_desk.specs.Work.{IsWork, MayGo, tid_of}
use Rattle.drain_desk.specs.steps.Acting.{HasActed}
use Rattle.drain_desk.specs.steps.Claiming.{Claims, IsOffer}
use Rattle.drain_desk.proofs.LastingLemmas.{IsBasis-before, MayGo-before, MayGo-lasts}

module _ {V : Type 0} (disk : Disk V) (began now next : KeptOf ModelRules DocumentTables V) (lines lines_now : Lines) where
  -- works go on
  going-on : (lines_next : Lines) (n m : ℕ) → AreGoingOn disk began now lines lines_now n → Worked disk now next is_work true
      → HaveTaken lines_now lines_next → finished_in next.world ≡ finished_in now.world + m → NoneRuns next.world.claims
      → (more : List Act) → HaveActed disk now lines_now more next lines_next → list_all is_round more ≡ true
      → ((tid : TidOf) → TakesOnce disk now lines_now next lines_next more tid) → AreGoingOn disk began next lines lines_next (n + m)
  going-on lines_next n m going went taken count runs more did ships once = record {
    went = on disk is_work true began now next going.went went;
    taken = taken-on lines lines_now lines_next going.taken taken;
    count = let first = going.count in omega (arith, first, count);
    runs = runs;
    acts = going.acts ++ more;
    did = acted-on disk going.acts more began now next lines lines_now lines_next going.did did;
    ships = list_all-append is_round going.acts more ∙ and_from (list_all is_round going.acts) (list_all is_round more) going.ships ships;
    once = λ tid. once-on disk going.acts more began now next lines lines_now lines_next did ships tid (going.once tid) (once tid);
  }

  -- a unit was claimed
  pub going-claimed : (n : ℕ) → AreGoingOn disk began now lines lines_now n → Claims disk now next true → AreGoingOn disk began next lines lines_now n
  going-claimed n going claims =
      let only = claims.only in
      let same : n + 0 ≡ n = omega arith in
      let count : finished_in next.world ≡ finished_in now.world + 0 = ap finished_in only.world ∙ omega arith in
      subst (AreGoingOn disk began next lines lines_now) same
      (going-on lines_now n 0 going claims.went (taken-none lines_now) count (claims.runs going.runs) [] (only, refl) refl (λ tid. inl refl))

  -- a work was done
  pub going-acted : (lines_next : Lines) (n m : ℕ) → AreGoingOn disk began now lines lines_now n → HasActed disk now next lines_now lines_next m
      → AreGoingOn disk began next lines lines_next (n + m)
  going-acted lines_next n m going acted =
      going-on lines_next n m going acted.went acted.taken acted.count (acted.runs going.runs) acted.acts acted.did acted.ships (acted.once going.runs)

  -- memory was wanting
  pub going-short : (n : ℕ) → AreGoingOn disk began now lines lines_now n → Worked disk now next is_work false → Worked disk began next is_work false
  going-short n going went = on disk is_work false began now next going.went went

module _ {V : Type 0} (disk : Disk V) (began now : KeptOf ModelRules DocumentTables V) (lines lines_now : Lines) (n : ℕ) where
  -- a desk at which no memory was wanting
  pub keeps-going : (is_short : Bool) → is_short ≡ false → Keeps disk began now lines lines_now is_short n → AreGoingOn disk began now lines lines_now n
  keeps-going is_short is keeps = subst (λ short. Keeps disk began now lines lines_now short n) is keeps

  pub going-keeps : (is_short : Bool) → is_short ≡ false → AreGoingOn disk began now lines lines_now n → Keeps disk began now lines lines_now is_short n
  going-keeps is_short is going = subst (λ short. Keeps disk began now lines lines_now short n) (sym is) going

module _ {V : Type 0} (disk : Disk V) (began : Began V) where
  -- what is known of a unit that was claimed since the workers began was so then
  pub work-made : (now next : KeptOf ModelRules DocumentTables V) (lines_now : Lines) (n : ℕ) (offer : Offer) (made : Began V) → made ≡ began
      → AreGoingOn disk began.landscape.value now began.wires.value lines_now n → Claims disk now next true → IsOffer next.world offer
      → IsWork made offer.task offer.basis
  work-made now next lines_now n offer made same going claims is =
      let went = on disk is_work true began.landscape.value now next going.went claims.went in
      subst (λ b. IsWork b offer.task offer.basis) (sym same) (record {
        may = MayGo-before began.landscape.value.world next.world went.logs went.committed offer.task is.may;
        base = IsBasis-before began.landscape.value.world next.world went.logs went.committed (tid_of offer.task) offer.basis is.base;
      })

  -- and is so now
  pub work-may : (now : KeptOf ModelRules DocumentTables V) (lines_now : Lines) (n : ℕ) (made : Began V) (task : Task) → made ≡ began
      → AreGoingOn disk began.landscape.value now began.wires.value lines_now n → MayGo made.landscape.value.world task → MayGo now.world task
  work-may now lines_now n made task same going may =
      let went = going.went in
      MayGo-lasts began.landscape.value.world now.world went.logs went.committed task
      (subst (λ (b : Began V). MayGo b.landscape.value.world task) same may)

  -- what was prepared for it is still so
  pub work-ready : (now : KeptOf ModelRules DocumentTables V) (lines_now : Lines) (n : ℕ) (made : Began V) (task : Task) (ready : Option Prepared)
      → made ≡ began → AreGoingOn disk began.landscape.value now began.wires.value lines_now n
      → IfSome ready (λ (its : Prepared). IsPreparedFor made.landscape.value.world (tid_of task) its.postings)
      → IfSome ready (λ (its : Prepared). IsPreparedFor now.world (tid_of task) its.postings)
  work-ready now lines_now n made task None same going is = tt
  work-ready now lines_now n made task (Some its) same going is =
      let went = going.went in
      prepared-lasts began.landscape.value.world now.world (tid_of task) its.postings went.logs (went.committed (tid_of task))
      (subst (λ (b : Began V). IsPreparedFor b.landscape.value.world (tid_of task) its.postings) same is)
