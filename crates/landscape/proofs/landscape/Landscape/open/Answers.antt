use Rattle.std.specs.Arc.{arc_value}
use Rattle.std.specs.Prelude.{⊤}
use Rattle.std.proofs.Common.{◌≡◌, ℕ, Some, List, length, refl, sym, subst, ◌∙◌, arith}
use Rattle.unit_landscape.specs.Beginning.{HaveBegun}
use Rattle.unit_landscape.specs.KeptWorlds.{KeptOf}
use Rattle.unit_landscape.proofs.ReopeningLemmas.{IsSafe-begun_all}
use Rattle.document_state.specs.declared.document_tables.DocumentTables.{DocumentTables}
use Rattle.document_state.specs.declared.model_rules.ModelRules.{ModelRules}
use Rattle.document_state.proofs.WritableLemmas.{commit-writable}
use Rattle.landscape.specs.Begun.{AreBegun}
use Rattle.landscape.specs.Crashes.{OpeningLeavesOpenable}
use Rattle.landscape.specs.Opened.{HasOpened, HoldSoundLogs, LeavesOpening, bytes_in}
use Rattle.landscape.specs.steps.Opening.{AreBegunSoFar, HasEnded, rules_of}
use Rattle.landscape.proofs.BegunLemmas.{is_lawful}
use Rattle.landscape.proofs.BeginningLemmas.{are-begun, has-opened, holds-sound, opened-left}
use Rattle.landscape.proofs.OpeningCrashLemmas.{ended-opens, ended-volumes, opening-openable}
use Rattle.landscape.proofs.landscape.Landscape.open.Goals as goal

pub reopened-requires-clause-safe : goal.reopened-requires-clause-safe
reopened-requires-clause-safe g c =
    let all = c.in_ok-kept.ensures.ends.all in
    IsSafe-begun_all rules_of is_lawful c.in_ok-kept.kept.world c.len-systems.result c.in_ok-kept.ensures.begun (omega (arith, all))

pub reopened-requires-clause-writable : goal.reopened-requires-clause-writable
reopened-requires-clause-writable g c = record { each = commit-writable c.in_ok-kept.kept.world.rules.systems }

pub new-requires : goal.new-requires
new-requires g c =
    let many : c.len-systems.result ≡ length (arc_value c.args.model).systems = (let
    a = c.len-systems.ensures in let b = c.as_lists.ensures.same in let d = c.deref.ensures in cc) in
    let text : c.as_slice.result.now ≡ c.args.text = (let a = c.as_slice.ensures in let b = c.text.view_is in cc) in
    let so_far =
    subst (λ m. AreBegunSoFar g.V.Volumes.disk m c.args.text (Some c.args.moment) c.args.vols m c.in_ok-kept.kept) many
    (subst (λ (t : List ℕ). AreBegunSoFar g.V.Volumes.disk c.len-systems.result t (Some c.args.moment) c.args.vols c.len-systems.result c.in_ok-kept.kept) text
    c.in_ok-kept.ensures.ends) in
    subst (λ (k : KeptOf ModelRules DocumentTables g.row.V.Denot). AreBegun k.world) (sym c.reopened.ensures)
    (are-begun g.V.Volumes.disk (length (arc_value c.args.model).systems) c.args.text (Some c.args.moment) c.args.vols c.in_ok-kept.kept
    (has-opened g.V.Volumes.disk (length (arc_value c.args.model).systems) c.args.text (Some c.args.moment) c.args.vols c.in_ok-kept.kept so_far
    (subst (λ m. HaveBegun rules_of m c.in_ok-kept.kept.world) many c.in_ok-kept.ensures.begun))
    (arc_value c.args.model) c.requires.said refl)

pub returns-clause-opened : goal.returns-clause-opened
returns-clause-opened g c =
    let many : c.len-systems.result ≡ length (arc_value c.args.model).systems = (let
    a = c.len-systems.ensures in let b = c.as_lists.ensures.same in let d = c.deref.ensures in cc) in
    let text : c.as_slice.result.now ≡ c.args.text = (let a = c.as_slice.ensures in let b = c.text.view_is in cc) in
    let so_far =
    subst (λ m. AreBegunSoFar g.V.Volumes.disk m c.args.text (Some c.args.moment) c.args.vols m c.in_ok-kept.kept) many
    (subst (λ (t : List ℕ). AreBegunSoFar g.V.Volumes.disk c.len-systems.result t (Some c.args.moment) c.args.vols c.len-systems.result c.in_ok-kept.kept) text
    c.in_ok-kept.ensures.ends) in
    subst (HasOpened g.V.Volumes.disk (length (arc_value c.args.model).systems) c.args.text (Some c.args.moment) c.args.vols) (sym (c.new.ensures ∙ c.reopened.ensures))
    (has-opened g.V.Volumes.disk (length (arc_value c.args.model).systems) c.args.text (Some c.args.moment) c.args.vols c.in_ok-kept.kept so_far
    (subst (λ m. HaveBegun rules_of m c.in_ok-kept.kept.world) many c.in_ok-kept.ensures.begun))

pub returns-clause-why : goal.returns-clause-why
returns-clause-why g c =
    let many : c.len-systems.result ≡ length (arc_value c.args.model).systems = (let
    a = c.len-systems.ensures in let b = c.as_lists.ensures.same in let d = c.deref.ensures in cc) in
    let text : c.as_slice.result.now ≡ c.args.text = (let a = c.as_slice.ensures in let b = c.text.view_is in cc) in
    let so_far =
    subst (λ m. AreBegunSoFar g.V.Volumes.disk m c.args.text (Some c.args.moment) c.args.vols m c.in_ok-kept.kept) many
    (subst (λ (t : List ℕ). AreBegunSoFar g.V.Volumes.disk c.len-systems.result t (Some c.args.moment) c.args.vols c.len-systems.result c.in_ok-kept.kept) text
    c.in_ok-kept.ensures.ends) in
    holds-sound g.V.Volumes.disk (length (arc_value c.args.model).systems) c.args.text (Some c.args.moment) c.args.vols c.in_ok-kept.kept so_far

pub returns-clause-not_refused : goal.returns-clause-not_refused
returns-clause-not_refused g c tells hold = tt

pub returns-clause-volumes : goal.returns-clause-volumes
returns-clause-volumes g c =
    let many : c.len-systems.result ≡ length (arc_value c.args.model).systems = (let
    a = c.len-systems.ensures in let b = c.as_lists.ensures.same in let d = c.deref.ensures in cc) in
    let text : c.as_slice.result.now ≡ c.args.text = (let a = c.as_slice.ensures in let b = c.text.view_is in cc) in
    let so_far =
    subst (λ m. AreBegunSoFar g.V.Volumes.disk m c.args.text (Some c.args.moment) c.args.vols m c.in_ok-kept.kept) many
    (subst (λ (t : List ℕ). AreBegunSoFar g.V.Volumes.disk c.len-systems.result t (Some c.args.moment) c.args.vols c.len-systems.result c.in_ok-kept.kept) text
    c.in_ok-kept.ensures.ends) in
    subst (λ (k : KeptOf ModelRules DocumentTables g.row.V.Denot). g.V.Volumes.disk.told
    → LeavesOpening g.V.Volumes.disk (length (arc_value c.args.model).systems) c.args.text (Some c.args.moment) c.args.vols k.vols
    (⊤ × HoldSoundLogs (length (arc_value c.args.model).systems) c.args.text (bytes_in g.V.Volumes.disk c.args.vols)) ⊥)
    (sym (c.new.ensures ∙ c.reopened.ensures))
    (opened-left g.V.Volumes.disk (length (arc_value c.args.model).systems) c.args.text (Some c.args.moment) c.args.vols c.in_ok-kept.kept so_far)

pub returns-clause-opens : goal.returns-clause-opens
returns-clause-opens g c =
    let many : c.len-systems.result ≡ length (arc_value c.args.model).systems = (let
    a = c.len-systems.ensures in let b = c.as_lists.ensures.same in let d = c.deref.ensures in cc) in
    let text : c.as_slice.result.now ≡ c.args.text = (let a = c.as_slice.ensures in let b = c.text.view_is in cc) in
    let so_far =
    subst (λ m. AreBegunSoFar g.V.Volumes.disk m c.args.text (Some c.args.moment) c.args.vols m c.in_ok-kept.kept) many
    (subst (λ (t : List ℕ). AreBegunSoFar g.V.Volumes.disk c.len-systems.result t (Some c.args.moment) c.args.vols c.len-systems.result c.in_ok-kept.kept) text
    c.in_ok-kept.ensures.ends) in
    subst (λ (k : KeptOf ModelRules DocumentTables g.row.V.Denot).
    OpeningLeavesOpenable g.V.Volumes.disk (length (arc_value c.args.model).systems) c.args.text c.args.vols k.vols)
    (sym (c.new.ensures ∙ c.reopened.ensures))
    (opening-openable g.V.Volumes.disk g.met.V.Volumes.read_is_image (length (arc_value c.args.model).systems) c.args.text (Some c.args.moment) c.args.vols c.in_ok-kept.kept.vols
    (⊤ × HoldSoundLogs (length (arc_value c.args.model).systems) c.args.text (bytes_in g.V.Volumes.disk c.args.vols)) ⊥
    (opened-left g.V.Volumes.disk (length (arc_value c.args.model).systems) c.args.text (Some c.args.moment) c.args.vols c.in_ok-kept.kept so_far))

pub returns-in_err-kept-clause-volumes : goal.returns-in_err-kept-clause-volumes
returns-in_err-kept-clause-volumes g c =
    let many : c.len-systems.result ≡ length (arc_value c.args.model).systems = (let
    a = c.len-systems.ensures in let b = c.as_lists.ensures.same in let d = c.deref.ensures in cc) in
    let text : c.as_slice.result.now ≡ c.args.text = (let a = c.as_slice.ensures in let b = c.text.view_is in cc) in
    let end = c.in_err-kept.field-0.0 in
    let ended =
    subst (λ m. HasEnded g.V.Volumes.disk m c.args.text (Some c.args.moment) c.args.vols end) many
    (subst (λ (t : List ℕ). HasEnded g.V.Volumes.disk c.len-systems.result t (Some c.args.moment) c.args.vols end) text c.in_err-kept.ensures.ends) in
    ended-volumes g.V.Volumes.disk (length (arc_value c.args.model).systems) c.args.text (Some c.args.moment) c.args.vols end ended c.from_residual.result
    c.from_residual.ensures.1

pub returns-in_err-kept-clause-opens : goal.returns-in_err-kept-clause-opens
returns-in_err-kept-clause-opens g c =
    let many : c.len-systems.result ≡ length (arc_value c.args.model).systems = (let
    a = c.len-systems.ensures in let b = c.as_lists.ensures.same in let d = c.deref.ensures in cc) in
    let text : c.as_slice.result.now ≡ c.args.text = (let a = c.as_slice.ensures in let b = c.text.view_is in cc) in
    let end = c.in_err-kept.field-0.0 in
    let ended =
    subst (λ m. HasEnded g.V.Volumes.disk m c.args.text (Some c.args.moment) c.args.vols end) many
    (subst (λ (t : List ℕ). HasEnded g.V.Volumes.disk c.len-systems.result t (Some c.args.moment) c.args.vols end) text c.in_err-kept.ensures.ends) in
    ended-opens g.V.Volumes.disk (length (arc_value c.args.model).systems) c.args.text (Some c.args.moment) c.args.vols end ended g.met.V.Volumes.read_is_image
    c.from_residual.result c.from_residual.ensures.1
