-- What a run leaves of its volumes holds sound logs of its text, at each moment since the systems were opened.
use Rattle.std.proofs.Common.{◌≡◌, inl, inr, ℕ, ◌-◌, ◌≤◌, Option, Some, List, [], ◌∷◌, length, refl, sym, ap, subst, ◌∙◌, arith}
use Rattle.std.proofs.lemmas.Bool.{cases_lt}
use Rattle.ale_io.specs.Told.{Told}
use Rattle.ale_volumes.specs.Disk.{Disk, LeftSince}
use Rattle.ale_volumes.specs.Volume.{IsImage}
use Rattle.said_models.specs.Said.{said}
use Rattle.dist_model.specs.declared.lists.Lists.{Lists}
use Rattle.unit_landscape.specs.Crashes.{HasGrown}
use Rattle.unit_landscape.specs.Kept.{IsLandscape}
use Rattle.unit_landscape.specs.KeptWorlds.{KeptOf}
use Rattle.unit_landscape.specs.OnVolumes.{AreOnVolumes}
use Rattle.document_state.specs.declared.document_tables.DocumentTables.{DocumentTables}
use Rattle.document_state.specs.declared.model_rules.ModelRules.{ModelRules}
use Rattle.landscape.specs.Begun.{AreBegun}
use Rattle.landscape.specs.Crashes.{GoesSoundly, LeavesSoundLogs}
use Rattle.landscape.specs.Opened.{HasOpened, HoldSoundLogs, bytes_in}
use Rattle.landscape.proofs.BeginningLemmas.{are-begun}
use Rattle.landscape.proofs.BegunLemmas.{begun-grown, meaning}
use Rattle.landscape.proofs.CrashOpensLemmas.{holds-now, opens-later, opens-left}
use Rattle.landscape.proofs.SoundLemmas.{sound-none}
use Rattle.runs.specs.declared.inputs.Inputs.{Inputs}
use Rattle.runs.specs.declared.stage.Stage.{Stage}
use Rattle.runs.specs.Run.{IsSoundFrom, IsSoundFromEach}
use Rattle.runs.specs.Turns.{Turn}
use Rattle.ale_host.specs.Running.{KeepsSoundLogs}

-- what is so from each stage of a run is so from the first
pub sound-first : {V : Type 0} (disk : Disk V) (inputs : Inputs) (told : List ℕ → Told) (before : Stage V) (turns : List (Turn V)) (after : Stage V)
    → IsSoundFromEach disk inputs told before turns after → IsSoundFrom disk inputs told before after
sound-first disk inputs told before [] after sound = sound
sound-first disk inputs told before (turn ∷ turns) after sound = sound.0

module _ {V : Type 0} (disk : Disk V)
    (only_now : disk.told → (vols : V) (n : ℕ) (image : List ℕ) → LeftSince disk vols n (disk.moment vols) image → IsImage (disk.volume vols n) image)
    (counts_now : disk.told → (vols : V) (n t : ℕ) (image : List ℕ) → t ≤ disk.moment vols → IsImage (disk.volume vols n) image
    → LeftSince disk vols n t image)
    (read_is_image : disk.told → (vols : V) (n : ℕ) → IsImage (disk.volume vols n) (disk.volume vols n).contents)
    (many : ℕ) (text : List ℕ) (model : Lists) (moment_set : Option ℕ) (before : V) (begun left : KeptOf ModelRules DocumentTables V)
    (opened : HasOpened disk many text moment_set before begun) (says : said text ≡ Some model) (its : length model.systems ≡ many)
    (first : LeavesSoundLogs disk begun begun) (goes : GoesSoundly disk begun left) where
  -- all logs begin with the text
  abbrev begins : AreBegun begun.world
  begins = are-begun disk many text moment_set before begun opened model says its

  all : length begun.world.systems ≡ begun.world.rules.systems
  all = opened.count ∙ sym opened.all

  few : (system : ℕ) → system ≤ length begun.world.systems → system ≤ many
  few system most = let count = opened.count in omega (arith, most, count)

  at-first : (images : ℕ → List ℕ) → HoldSoundLogs begun.world.rules.systems begins.text images → HoldSoundLogs many text images
  unfolding are-begun
  at-first images hold = subst (λ m. HoldSoundLogs m text images) opened.all hold

  at-last : (grown : HasGrown begun.world left.world) (images : ℕ → List ℕ)
      → HoldSoundLogs left.world.rules.systems (begun-grown begun.world left.world begins grown).text images → HoldSoundLogs many text images
  unfolding are-begun begun-grown
  at-last grown images hold =
      subst (λ m. HoldSoundLogs m text images) (ap (λ (rules : ModelRules). rules.systems) grown.rules ∙ opened.all) hold

  since : disk.told → (moment : ℕ) → disk.moment begun.vols ≤ moment → moment ≤ disk.moment left.vols → (images : ℕ → List ℕ)
      → ((system : ℕ) → 1 ≤ system → system ≤ many → disk.left_at left.vols (system - 1) moment (images system)) → HoldSoundLogs many text images
  since tells moment least most images each = elim (cases_lt (disk.moment begun.vols) moment) [
    | inl later ↦ at-first images (opens-later disk begun left all goes tells begins moment later most images
        (λ system low high. each system low (few system high)))
    | inr now ↦ at-first images (opens-left disk begun begun all first tells begins images (λ system low high. record {
      moment = moment;
      least = least;
      most = now;
      left = ((goes tells).past system low high moment (images system) now).0 (each system low (few system high));
    }))
  ]

  -- what a run leaves of its volumes holds sound logs of its text
  pub keeps-sound : IsLandscape meaning left.world → AreOnVolumes disk left.vols left.world.systems left.journals
      → KeepsSoundLogs disk many text begun left.vols
  keeps-sound is on_volumes = record {
    since = since;
    now = λ tells.
        let opens = opens-left disk left left is.safe.systems (sound-none disk only_now left left refl is on_volumes) in
        let grown = (goes tells).grown in
        at-last grown (bytes_in disk left.vols)
        (holds-now disk counts_now read_is_image left opens tells (begun-grown begun.world left.world begins grown));
  }
