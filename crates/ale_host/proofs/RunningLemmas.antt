-- A run from the systems that were opened on.

use Rattle.std.proofs.Common.{◌≡◌, ◌≤◌, ℕ, suc, Option, None, Some, Ok, List, [], ◌∷◌, ◌++◌, length, map, inr, refl, sym, ap, subst, ◌∙◌}
use Rattle.std.proofs.Math.Path.{fun_ext}
use Rattle.std.proofs.lemmas.Bool.{leb-true}
use Rattle.std.specs.Arc.{arc_value}
use Rattle.ale_volumes.specs.Disk.{Disk, LeftSince}
use Rattle.ale_volumes.specs.Volume.{IsImage}
use Rattle.said_models.specs.Said.{said}
use Rattle.model_text.specs.Text.{answer_to}
use Rattle.model_text.specs.declared.reading.TheConstants.{MAX_BYTES}
use Rattle.dist_model.specs.declared.lists.Lists.{Lists}
use Rattle.unit_core.specs.declared.records.Record.{Record}
use Rattle.unit_core.specs.declared.raw_unit_doc.RawUnitDoc.{RawUnitDoc}
use Rattle.script_text.specs.declared.command.Command.{Command}
use Rattle.ale_base.specs.Tid.{TidOf}
use Rattle.trfc_protocol.specs.Start.{first_state}
use Rattle.unit_landscape.specs.Opening.{logs_of}
use Rattle.unit_landscape.specs.KeptWorlds.{KeptOf}
use Rattle.document_state.specs.declared.document_tables.DocumentTables.{DocumentTables}
use Rattle.document_state.specs.declared.model_rules.ModelRules.{ModelRules}
use Rattle.landscape.specs.Crashes.{GoesSoundly, LeavesSoundLogs}
use Rattle.landscape.specs.Opened.{HasOpened}
use Rattle.unit_works.specs.Wires.{letters_left}
use Rattle.unit_works.specs.Through.{IsClear}
use Rattle.runs.specs.declared.stage.Stage.{Stage}
use Rattle.runs.specs.Complete.{IsFree}
use Rattle.runs.specs.Turns.{down_from, first_down}
use Rattle.runs.specs.declared.inputs.Inputs.{Inputs}
use Rattle.idoc_file.specs.declared.raw_doc.RawDoc.{RawDoc}
use Rattle.ale_io.specs.Told.{Told}
use Rattle.ale_host.specs.declared.running.Report.{Report}
use Rattle.ale_host.specs.declared.running.Report.TheVariants.{Commands, Counts}
use Rattle.ale_host.specs.LoadModel.{load_model}
use Rattle.ale_host.specs.Running.{AskFor, KeepsSoundLogs, Opened, RanFrom, RunsTo}
use Rattle.ale_host.proofs.LeftLemmas.{keeps-sound, sound-first}

all_up : (number : ℕ) (logs : List (List Record)) → down_from number (map first_state logs) ≡ None
all_up number [] = refl
all_up number (log ∷ logs) = all_up (suc number) logs

-- systems that were opened are all up
pub opened-up : {V : Type 0} (disk : Disk V) (many : ℕ) (text : List ℕ) (set : Option ℕ) (before : V) (now : KeptOf ModelRules DocumentTables V)
    → HasOpened disk many text set before now → first_down now.world ≡ None
opened-up disk many text set before now opened = ap first_down opened.world ∙ all_up 1 (logs_of now.world)

-- what a run has is what its files say
pub runs-said : {V : Type 0} (disk : Disk V) (text text_said : List ℕ) (model model_said : Lists) (masters masters_said : List RawUnitDoc)
    (commands commands_said : List Command) (before after : V) (report : Report) (told told_said : List ℕ → Told) (failed failed_said failed_after : ℕ)
    (clock : Type 0) (given given_after : List ℕ) (status : ℕ) (printed sure : List ℕ)
    → ((name : List ℕ) → told name ≡ told_said name) → failed ≡ failed_said → text ≡ text_said → model ≡ model_said → masters ≡ masters_said →
    commands ≡ commands_said
    → RunsTo disk text model masters commands before after report told failed failed_after clock given given_after status printed sure
    → RunsTo disk text_said model_said masters_said commands_said before after report told_said failed_said failed_after clock given given_after status
    printed sure
runs-said disk text text_said model model_said masters masters_said commands commands_said before after report told told_said failed failed_said
    failed_after clock given given_after status printed sure tells counts texts models all_masters all_commands runs =
    subst (λ n. RunsTo disk text_said model_said masters_said commands_said before after report told_said n failed_after clock given given_after status
    printed sure) counts
    (subst (λ (t : List ℕ → Told). RunsTo disk text_said model_said masters_said commands_said before after report t failed failed_after clock given
    given_after status printed sure) (fun_ext tells)
    (subst (λ c. RunsTo disk text_said model_said masters_said c before after report told failed failed_after clock given given_after status printed
    sure) all_commands
    (subst (λ m. RunsTo disk text_said model_said m commands before after report told failed failed_after clock given given_after status printed
    sure) all_masters
    (subst (λ l. RunsTo disk text_said l masters commands before after report told failed failed_after clock given given_after status printed sure) models
    (subst (λ t. RunsTo disk t model masters commands before after report told failed failed_after clock given given_after status printed sure) texts
    runs)))))

-- the same of what was carried out
pub from-said : {V : Type 0} (disk : Disk V) (report : Report) (model model_said : Lists) (inputs : Inputs) (told : List ℕ → Told)
    (commands commands_said : List Command) (begun : KeptOf ModelRules DocumentTables V) (after : V) (failed failed_after : ℕ) (clock : Type 0)
    (given given_after : List ℕ) (status : ℕ) (printed sure : List ℕ) → model ≡ model_said → commands ≡ commands_said
    → RanFrom disk report model inputs told commands begun after failed failed_after clock given given_after status printed sure
    → RanFrom disk report model_said inputs told commands_said begun after failed failed_after clock given given_after status printed sure
from-said disk report model model_said inputs told commands commands_said begun after failed failed_after clock given given_after status printed sure
    models all_commands from =
    subst (λ c. RanFrom disk report model_said inputs told c begun after failed failed_after clock given given_after status printed sure) all_commands
    (subst (λ l. RanFrom disk report l inputs told commands begun after failed failed_after clock given given_after status printed sure) models from)

-- what is carried out is by the model that its text says
pub asks-said : (words : List (List ℕ)) (told : List ℕ → Told) (report : Report) (text : List ℕ) (model : Lists) (documents : List RawDoc)
    (commands : List Command) → AskFor words told report text model documents commands → answer_to text ≡ Ok model
asks-said words told Commands text model documents commands asks = asks.1.says_model
asks-said words told Counts text model documents commands asks = ap answer_to asks.2 ∙ asks.3.says_model

-- the text of a load's model is short
load-short : length load_model ≤ MAX_BYTES
unfolding load_model
load-short = leb-true (length load_model) MAX_BYTES refl

-- what is carried out has a text within the limit of a model's
pub asks-short : (words : List (List ℕ)) (told : List ℕ → Told) (report : Report) (text : List ℕ) (model : Lists) (documents : List RawDoc)
    (commands : List Command) → AskFor words told report text model documents commands → length text ≤ MAX_BYTES
asks-short words told Commands text model documents commands asks = asks.1.in_file.1
asks-short words told Counts text model documents commands asks = subst (λ (its : List ℕ). length its ≤ MAX_BYTES) (sym asks.2) load-short

-- nothing holds units up at first where no queue is stopped and no unit marked, since all systems are up and no letter was given
free-first : {V : Type 0} (begun : KeptOf ModelRules DocumentTables V) (first : Stage V) → first.landscape ≡ begun → first_down begun.world ≡ None
    → ((tid : TidOf) → letters_left first.wires tid ≡ []) → IsClear begun.world → IsFree first
free-first {V} begun first begins ups none clear = record {
  up = subst (λ (k : KeptOf ModelRules DocumentTables V). first_down k.world ≡ None) (sym begins) ups;
  clear = subst (λ (k : KeptOf ModelRules DocumentTables V). IsClear k.world) (sym begins) clear;
  none = none;
}

-- a run from the systems that were opened
pub ran-from : {V : Type 0} (disk : Disk V)
    → (disk.told → (vols : V) (n : ℕ) (image : List ℕ) → LeftSince disk vols n (disk.moment vols) image → IsImage (disk.volume vols n) image)
    → (disk.told → (vols : V) (n t : ℕ) (image : List ℕ) → t ≤ disk.moment vols → IsImage (disk.volume vols n) image → LeftSince disk vols n t image)
    → (disk.told → (vols : V) (n : ℕ) → IsImage (disk.volume vols n) (disk.volume vols n).contents)
    → (text : List ℕ) (model : Lists) (masters : List RawUnitDoc) (commands commands_then : List Command)
    (before after : V) (report report_then : Report) (told : List ℕ → Told) (failed failed_after : ℕ) (clock : Type 0) (given given_then given_after
    : List ℕ) (status : ℕ) (printed sure : List ℕ)
    (moment : ℕ)
    (begun : KeptOf ModelRules DocumentTables V) (inputs : Inputs) → said text ≡ Some model → Opened disk text model masters commands before after
    moment begun
    → arc_value inputs.model ≡ model → inputs.masters ≡ masters → (clock → given_then ≡ given ++ moment ∷ []) → commands_then ≡ commands
    → report_then ≡ report → RanFrom disk report_then (arc_value inputs.model) inputs told commands_then begun after failed failed_after clock
    given_then given_after status printed sure
    → RunsTo disk text model masters commands before after report told failed failed_after clock given given_after status printed sure
ran-from {V} disk only_now counts_now read_is_image text model masters commands commands_then before after report report_then told failed
    failed_after clock given given_then
    given_after status printed sure moment begun inputs says opened names masters_are asked same reports from =
    let its : RanFrom disk report model inputs told commands begun after failed failed_after clock given_then given_after status printed sure =
    subst (λ one. RanFrom disk one model inputs told commands begun after failed failed_after clock given_then given_after status printed sure) reports
    (from-said disk report_then (arc_value inputs.model) model inputs told commands_then commands begun after failed failed_after clock given_then
    given_after status printed sure
    names same from) in
    let run = its.run in
    let sound = subst (λ (k : KeptOf ModelRules DocumentTables V). LeavesSoundLogs disk k k × GoesSoundly disk k its.left.landscape) its.begins
    (sound-first disk inputs told its.first its.turns its.left run.sound) in
    inr (record {
      moment = moment;
      begun = begun;
      opened = opened;
      inputs = inputs;
      names = names;
      masters_are = masters_are;
      given_then = given_then;
      asked = asked;
      from = its;
      keeps = subst (KeepsSoundLogs disk (length model.systems) text begun) (sym its.volumes)
          (keeps-sound disk only_now counts_now read_is_image (length model.systems) text model (Some moment) before begun its.left.landscape opened.world
          says refl sound.0 sound.1 its.safe its.on_volumes);
      complete = λ clear.
          run.complete (free-first begun its.first its.begins (opened-up disk (length model.systems) text (Some moment) before begun opened.world)
          its.no_letters clear);
    })
