-- A run goes on by one command, and ends.
use Rattle.std.proofs.Common.{◌≡◌, ℕ, ◌+◌, ◌<◌, ◌≤◌, Option, None, Some, Result, Ok, Err, List, []}
use Rattle.std.proofs.Common.{◌∷◌, ◌++◌, length, take, drop, get_or, refl, sym, ap, subst, ◌∙◌, append-nil, append_assoc, take-append-drop}
use Rattle.std.specs.Prelude.{⊤, MatchOption}
use Rattle.std.specs.Option.{unwrap_or}
use Rattle.std.proofs.lemmas.List.{take_more, drop_more, take_all}
use Rattle.std.specs.Io.KnownBytes.{Appends}
use Rattle.std.proofs.KnownBytes.{Appends-nil, Appends-trans}
use Rattle.std.proofs.Math.Path.{fun_ext}
use Rattle.std.proofs.Math.Seq.{take-append-add}
use Rattle.ale_io.specs.Told.{Told}
use Rattle.ale_volumes.specs.Disk.{Disk}
use Rattle.ale_base.specs.Faults.{Rose}
use Rattle.ale_io.specs.Written.{AppendsFront}
use Rattle.script_text.specs.declared.command.Command.{Command}
use Rattle.runs.specs.declared.answered.Answered.{Answered}
use Rattle.runs.specs.declared.halt.Halt.{Halt}
use Rattle.runs.specs.declared.halt.Halt.TheVariants as halt
use Rattle.runs.specs.declared.inputs.Inputs.{Inputs}
use Rattle.runs.specs.declared.run_end.RunEnd.{RunEnd}
use Rattle.runs.specs.declared.run_end.RunEnd.TheVariants as end
use Rattle.runs.specs.declared.stage.Stage.{Stage}
use Rattle.runs.specs.declared.turns.TurnEnd.{TurnEnd}
use Rattle.runs.specs.declared.turns.TurnEnd.TheVariants as turn
use Rattle.runs.specs.Does.{IsCarriedOut}
use Rattle.runs.specs.Complete.{AllGoThrough, IsComplete, IsFree}
use Rattle.runs.specs.Run.{AreAsked, Ends, Follow, IsSoundFromEach, Run}
use Rattle.runs.specs.Turns.{Turn, at_moment, commands_of, moments_of, text_of, last_failed, last_stage, first_faulted, first_overran, length_at}
use Rattle.runs.specs.Text.{shown}
use Rattle.runs.specs.steps.Keeping.{KeepsFree}
use Rattle.runs.specs.Put.{IsPut, IsPart, IsCut, IsPutAt}
use Rattle.runs.specs.steps.Put.{IsReported, IsTurn, GivesOne, end_behind, halted_as, last_end_of}
use Rattle.landscape.specs.Crashes.{GoesSoundly, LeavesSoundLogs}
use Rattle.landscape.proofs.SoundLemmas.{goes-none, goes-on}
use Rattle.unit_landscape.specs.Kept.{IsLandscape}
use Rattle.unit_works.proofs.WorkedLemmas.{meaning}
use Rattle.runs.proofs.CompleteLemmas.{AllHoldNothing, hold-first, keeps-free, through-last}

-- ---- one turn more at the end

commands_of-push : {V : Type 0} (turns : List (Turn V)) (next : Turn V) → commands_of (turns ++ next ∷ []) ≡ commands_of turns ++ next.command ∷ []
commands_of-push [] next = refl
commands_of-push (first ∷ turns) next = ap (λ commands. first.command ∷ commands) (commands_of-push turns next)

moments_of-push : {V : Type 0} (turns : List (Turn V)) (next : Turn V) → moments_of (turns ++ next ∷ []) ≡ moments_of turns ++ next.moment ∷ []
moments_of-push [] next = refl
moments_of-push (first ∷ turns) next = ap (λ moments. first.moment ∷ moments) (moments_of-push turns next)

pub text_of-push : {V : Type 0} (turns : List (Turn V)) (next : Turn V) → text_of (turns ++ next ∷ []) ≡ text_of turns ++ shown next.command next.answered
    next.after
text_of-push [] next = append-nil (shown next.command next.answered next.after)
text_of-push (first ∷ turns) next =
    ap (λ text. shown first.command first.answered first.after ++ text) (text_of-push turns next)
    ∙ sym (append_assoc (shown first.command first.answered first.after) (text_of turns) (shown next.command next.answered next.after))

last_stage-push : {V : Type 0} (before : Stage V) (turns : List (Turn V)) (next : Turn V) → last_stage before (turns ++ next ∷ []) ≡ next.after
last_stage-push before [] next = refl
last_stage-push before (first ∷ turns) next = last_stage-push first.after turns next

last_failed-push : {V : Type 0} (failed : ℕ) (turns : List (Turn V)) (next : Turn V) → last_failed failed (turns ++ next ∷ []) ≡ next.failed
last_failed-push failed [] next = refl
last_failed-push failed (first ∷ turns) next = last_failed-push first.failed turns next

Follow-push : {V : Type 0} (disk : Disk V) (inputs : Inputs) (files : List ℕ → Told) (before : Stage V) (failed : ℕ) (turns : List (Turn V)) (next : Turn V)
    → Follow disk inputs files before failed turns
    → IsCarriedOut disk inputs (at_moment next.moment (last_stage before turns)) (Ok next.answered) next.after files (last_failed failed turns) next.failed
    next.command.form → Follow disk inputs files before failed (turns ++ next ∷ [])
Follow-push disk inputs files before failed [] next follow does = (does, tt)
Follow-push disk inputs files before failed (first ∷ turns) next follow does =
    (follow.0, Follow-push disk inputs files first.after first.failed turns next follow.1 does)

-- ---- what a crash leaves, from each stage on

-- a run goes on behind its turns
IsSoundFromEach-on : {V : Type 0} (disk : Disk V) (inputs : Inputs) (files : List ℕ → Told) (before : Stage V) (turns : List (Turn V)) (mid after : Stage V)
    → IsSoundFromEach disk inputs files before turns mid → GoesSoundly disk mid.landscape after.landscape → IsSoundFromEach disk inputs files before
    turns after
IsSoundFromEach-on disk inputs files before [] mid after so_far more = (so_far.0, goes-on disk before.landscape mid.landscape after.landscape so_far.1 more)
IsSoundFromEach-on disk inputs files before (turn ∷ turns) mid after so_far more = (
  (so_far.0.0, goes-on disk before.landscape mid.landscape after.landscape so_far.0.1 more),
  IsSoundFromEach-on disk inputs files turn.after turns mid after so_far.1 more,
)

-- by one turn more
IsSoundFromEach-push : {V : Type 0} (disk : Disk V) (inputs : Inputs) (files : List ℕ → Told) (before : Stage V) (turns : List (Turn V)) (next : Turn V)
    → IsSoundFromEach disk inputs files before turns next.after → LeavesSoundLogs disk next.after.landscape next.after.landscape
    → IsSoundFromEach disk inputs files before (turns ++ next ∷ []) next.after
IsSoundFromEach-push disk inputs files before [] next sound now =
    (sound, (now, goes-none disk next.after.landscape next.after.landscape refl refl))
IsSoundFromEach-push disk inputs files before (turn ∷ turns) next sound now =
    (sound.0, IsSoundFromEach-push disk inputs files turn.after turns next sound.1 now)

-- ---- what was put

AppendsFront-then : (a b c : Option (List ℕ)) (first second : List ℕ) → Appends a b first → AppendsFront b c second → AppendsFront a c (first ++ second)
AppendsFront-then a b c first second appends front = (
  length first + front.0,
  subst (Appends a c) (sym (take-append-add first second front.0)) (Appends-trans a b c first (take front.0 second)
      appends front.1),
)

pub IsPut-then : (a b c : Option (List ℕ)) (faults faults_b faults_c : ℕ) (first second : List ℕ) → IsPut a b faults faults_b first → IsPut b c faults_b
    faults_c second
    → IsPut a c faults faults_c (first ++ second)
IsPut-then a b c faults faults_b faults_c first second one two =
    record { appends = Appends-trans a b c first second one.appends two.appends; quiet = two.quiet ∙ one.quiet }

-- nothing is put of a command that is not answered
pub reported-halted : (its : Halt) (answer : Result Answered Halt) (text : Answered → List ℕ) (old : Option (List ℕ)) (faults : ℕ) → answer ≡ Err its
    → IsReported (halted_as its) answer text old old faults faults
reported-halted (halt.Changed system number) answer text old faults is = (is, record { appends = Appends-nil old; quiet = refl })
reported-halted halt.OutOfMemory answer text old faults is = record { appends = Appends-nil old; quiet = refl }

pub IsPart-then : (a b c : Option (List ℕ)) (faults faults_b faults_c : ℕ) (first second : List ℕ) → IsPut a b faults faults_b first → IsPart b c faults_b
    faults_c second
    → IsPart a c faults faults_c (first ++ second)
IsPart-then a b c faults faults_b faults_c first second one two =
    record { appends = AppendsFront-then a b c first second one.appends two.appends; rose = subst (λ n. Rose n faults_c) one.quiet two.rose }

-- a text that was put whole, and a front of the next one
pub IsCut-then : (a b c : Option (List ℕ)) (faults faults_b faults_c : ℕ) (first second : List ℕ) → IsPut a b faults faults_b first
    → IsPart b c faults_b faults_c second → IsCut a c faults faults_c first second
IsCut-then a b c faults faults_b faults_c first second one two = record {
  count = two.appends.0;
  appends = Appends-trans a b c first (take two.appends.0 second) one.appends two.appends.1;
  rose = subst (λ n. Rose n faults_c) one.quiet two.rose;
}

-- ---- one command

done-of : {V : Type 0} (disk : Disk V) (inputs : Inputs) (files : List ℕ → Told) (failed failed_after moment : ℕ) (command : Command) (before began
    after : Stage V) (answer : Result Answered Halt)
    (answered : Answered) → began ≡ at_moment moment before → answer ≡ Ok answered → IsCarriedOut disk inputs began answer after files failed
    failed_after command.form
    → IsCarriedOut disk inputs (at_moment moment before) (Ok answered) after files failed failed_after command.form
done-of disk inputs files failed failed_after moment command before began after answer answered begins is does =
    subst (λ stage. IsCarriedOut disk inputs stage (Ok answered) after files failed failed_after command.form) begins
    (subst (λ one. IsCarriedOut disk inputs began one after files failed failed_after command.form) is does)

-- what a command did, by what was put of it
pub turn-of : {V : Type 0} (disk : Disk V) (inputs : Inputs) (files : List ℕ → Told) (failed failed_after : ℕ) (how : TurnEnd) (moment : ℕ) (command
    : Command) (before began after : Stage V)
    (answer : Result Answered Halt) (old new : Option (List ℕ)) (put put_new : ℕ) → began ≡ at_moment moment before
    → IsLandscape meaning after.landscape.world → IsCarriedOut disk inputs began answer after files failed failed_after command.form
    → IsReported how answer (λ answered. shown command answered after) old new put put_new
    → IsTurn disk inputs files failed failed_after how moment command before after old new put put_new
turn-of disk inputs files failed failed_after turn.Done moment command before began after answer old new put put_new begins is does text =
    let done = done-of disk inputs files failed failed_after moment command before began after answer text.0 begins text.1 does in
    (text.0, done, text.2, keeps-free disk inputs files failed failed_after moment before after text.0 command.form is done.does)
turn-of disk inputs files failed failed_after turn.WriteFailed moment command before began after answer old new put put_new begins is does text =
    let done = done-of disk inputs files failed failed_after moment command before began after answer text.0 begins text.1 does in
    (text.0, done, text.2, keeps-free disk inputs files failed failed_after moment before after text.0 command.form is done.does)
turn-of disk inputs files failed failed_after (turn.Changed system number) moment command before began after answer old new put put_new begins is
    does text = (
      subst (λ stage. IsCarriedOut disk inputs stage (Err (halt.Changed system number)) after files failed failed_after command.form) begins
          (subst (λ one. IsCarriedOut disk inputs began one after files failed failed_after command.form) text.0 does),
      text.1,
    )
turn-of disk inputs files failed failed_after turn.OutOfMemory moment command before began after answer old new put put_new begins is does text =
    (answer, subst (λ stage. IsCarriedOut disk inputs stage answer after files failed failed_after command.form) begins does, text)

-- it is told of the same files
pub turn-files : {V : Type 0} (disk : Disk V) (inputs : Inputs) (files same : List ℕ → Told) → ((name : List ℕ) → same name ≡ files name)
    → (failed failed_after : ℕ) (how : TurnEnd) (moment : ℕ) (command : Command) (before after : Stage V) (old new : Option (List ℕ)) (put put_new : ℕ)
    → IsTurn disk inputs same failed failed_after how moment command before after old new put put_new
    → IsTurn disk inputs files failed failed_after how moment command before after old new put put_new
turn-files disk inputs files same is failed failed_after how moment command before after old new put put_new =
    subst (λ (f : List ℕ → Told). IsTurn disk inputs f failed failed_after how moment command before after old new put put_new) (fun_ext is)

-- ---- the loop over the commands

-- the first i commands were done, and their text was put
pub record SoFar {V : Type 0} (disk : Disk V) (inputs : Inputs) (files : List ℕ → Told) (commands : List Command) (i : ℕ) (before now : Stage V)
    (failed failed_now : ℕ) (old new : Option (List ℕ)) (put put_now : ℕ) (told : Type 0) (given given_now : List ℕ) : Type 0 where
  pub turns : List (Turn V)
  pub these : commands_of turns ≡ take i commands
  pub follow : Follow disk inputs files before failed turns
  pub last : now ≡ last_stage before turns
  pub last_files : failed_now ≡ last_failed failed turns
  pub put_is : IsPut old new put put_now (text_of turns)
  pub asked : told → given_now ≡ given ++ moments_of turns
  pub free : IsFree before → AllHoldNothing turns → IsFree now
  pub through : IsFree before → AllGoThrough turns
  pub sound : IsSoundFromEach disk inputs files before turns now

abbrev turned : {V : Type 0} → Command → ℕ → Answered → Stage V → ℕ → Turn V
turned command moment answered after failed = record { command = command; moment = moment; answered = answered; after = after; failed = failed }

-- a run that ended so, and what it put
abbrev pub HasRun : {V : Type 0} → Disk V → Inputs → (List ℕ → Told) → List Command → Stage V → Stage V → ℕ → ℕ → RunEnd → Option (List ℕ)
    → Option (List ℕ) → ℕ → ℕ → Type 0 → List ℕ → List ℕ → Type 0
HasRun {V} disk inputs files commands before after failed failed_after its old new put put_new told given given_new =
    (turns : List (Turn V)) × (run : Run disk inputs files commands before after failed failed_after its turns) × IsPutAt its old new put put_new turns
    × AreAsked told given given_new turns run.halted

module _ {V : Type 0} (disk : Disk V) (inputs : Inputs) (files : List ℕ → Told) (commands : List Command) (before : Stage V) (failed : ℕ)
    (old : Option (List ℕ)) (put : ℕ) (given : List ℕ) where
  pub SoFar-start : (told : Type 0) → LeavesSoundLogs disk before.landscape before.landscape
      → SoFar disk inputs files commands 0 before before failed failed old old put put told given given
  SoFar-start told now = record {
    turns = [];
    these = refl;
    follow = tt;
    last = refl;
    last_files = refl;
    put_is = record { appends = Appends-nil old; quiet = refl };
    asked = λ tells. sym (append-nil given);
    free = λ free held. free;
    through = λ free. tt;
    sound = (now, goes-none disk before.landscape before.landscape refl refl);
  }

  pub Run-whole : (i : ℕ) (after : Stage V) (failed_after : ℕ) (new : Option (List ℕ)) (put_new : ℕ) (told : Type 0) (given_new : List ℕ)
      → SoFar disk inputs files commands i before after failed failed_after old new put put_new told given given_new → length commands ≤ i
      → (its : RunEnd) → its ≡ last_end_of (length_at after) (first_faulted after) (first_overran after)
      → HasRun disk inputs files commands before after failed failed_after its old new put put_new told given given_new
  Run-whole i after failed_after new put_new told given_new so_far all its is = of (first_faulted after) (first_overran after) refl refl is
    where
      ended : (an_end : RunEnd) → Ends disk inputs files (last_failed failed so_far.turns) failed_after an_end [] [] before so_far.turns after →
          IsPutAt an_end old new put put_new so_far.turns
          → HasRun disk inputs files commands before after failed failed_after an_end old new put put_new told given given_new
      ended an_end ends was_put = (
        so_far.turns,
        record {
          left = [];
          these = sym (take_all i commands all) ∙ sym so_far.these ∙ sym (append-nil (commands_of so_far.turns));
          follow = so_far.follow;
          halted = [];
          ends = ends;
          complete = so_far.through;
          sound = so_far.sound;
        },
        was_put,
        λ tells. so_far.asked tells ∙ ap (λ moments. given ++ moments) (sym (append-nil (moments_of so_far.turns))),
      )

      of : (faulted overran : Option ℕ) → first_faulted after ≡ faulted → first_overran after ≡ overran
          → its ≡ last_end_of (length_at after) faulted overran
          → HasRun disk inputs files commands before after failed failed_after its old new put put_new told given given_new
      of (Some system) overran fault over same =
          subst (λ (e : RunEnd). HasRun disk inputs files commands before after failed failed_after e old new put put_new told given given_new) (sym same)
          (ended (end.DownByFault system) (refl, refl, so_far.last_files, so_far.last, fault) so_far.put_is)
      of None (Some system) fault over same =
          subst (λ (e : RunEnd). HasRun disk inputs files commands before after failed failed_after e old new put put_new told given given_new) (sym same)
          (ended (end.DownFull system (length_at after system)) (refl, refl, so_far.last_files, so_far.last, fault, over, refl) so_far.put_is)
      of None None fault over same =
          subst (λ (e : RunEnd). HasRun disk inputs files commands before after failed failed_after e old new put put_new told given given_new) (sym same)
          (ended end.Whole (refl, refl, so_far.last_files, so_far.last, fault, over) so_far.put_is)

  module _ (i : ℕ) (command d : Command) (mid after : Stage V) (failed_mid failed_after : ℕ) (mid_put new : Option (List ℕ)) (put_mid put_new : ℕ)
      (told_mid told : Type 0)
      (given_mid given_new : List ℕ)
      (so_far : SoFar disk inputs files commands i before mid failed failed_mid old mid_put put put_mid told_mid given given_mid) (below : i < length
      commands)
      (is : command ≡ get_or commands i d)
      (still : told → told_mid) (moment : ℕ) (gives : GivesOne told given_mid given_new moment)
      (goes : GoesSoundly disk mid.landscape after.landscape) (now : LeavesSoundLogs disk after.landscape after.landscape) where
    sound_on : IsSoundFromEach disk inputs files before so_far.turns after
    sound_on = IsSoundFromEach-on disk inputs files before so_far.turns mid after so_far.sound goes

    sound_pushed : (answered : Answered) → IsSoundFromEach disk inputs files before (so_far.turns ++ turned command moment answered after
        failed_after ∷ []) after
    sound_pushed answered = IsSoundFromEach-push disk inputs files before so_far.turns (turned command moment answered after failed_after) sound_on now

    asked_more : told → given_new ≡ given ++ (moments_of so_far.turns ++ moment ∷ [])
    asked_more tells =
        gives tells ∙ ap (λ those. those ++ moment ∷ []) (so_far.asked (still tells)) ∙ append_assoc given (moments_of so_far.turns) (moment ∷ [])

    pushed : (answered : Answered) → commands_of (so_far.turns ++ turned command moment answered after failed_after ∷ []) ≡ take i commands ++ command ∷ []
    pushed answered = commands_of-push so_far.turns (turned command moment answered after failed_after) ∙ ap (λ done. done ++ command ∷ []) so_far.these

    taken : take (i + 1) commands ≡ take i commands ++ command ∷ []
    taken = take_more commands i d below ∙ ap (λ one. take i commands ++ one ∷ []) (sym is)

    followed : (answered : Answered) → IsCarriedOut disk inputs (at_moment moment mid) (Ok answered) after files failed_mid failed_after command.form
        → Follow disk inputs files before failed (so_far.turns ++ turned command moment answered after failed_after ∷ [])
    followed answered does =
        Follow-push disk inputs files before failed so_far.turns (turned command moment answered after failed_after) so_far.follow
        (subst (λ n. IsCarriedOut disk inputs (at_moment moment (last_stage before so_far.turns)) (Ok answered) after files n failed_after command.form)
        so_far.last_files
        (subst (λ stage. IsCarriedOut disk inputs (at_moment moment stage) (Ok answered) after files failed_mid failed_after command.form) so_far.last does))

    text_pushed : (answered : Answered) → text_of (so_far.turns ++ turned command moment answered after failed_after ∷ []) ≡ text_of so_far.turns
        ++ shown command answered after
    text_pushed answered = text_of-push so_far.turns (turned command moment answered after failed_after)

    asked_pushed : (answered : Answered) → told → given_new ≡ given ++ moments_of (so_far.turns ++ turned command moment answered after failed_after ∷ [])
    asked_pushed answered tells =
        asked_more tells ∙ ap (λ moments. given ++ moments) (sym (moments_of-push so_far.turns (turned command moment answered after failed_after)))

    -- behind each drain each unit went its whole way
    completed : (answered : Answered) → KeepsFree mid after command.form → IsComplete before (so_far.turns ++ turned command moment answered after
        failed_after ∷ [])
    completed answered keeps free =
        through-last (turned command moment answered after failed_after) so_far.turns (so_far.through free)
        (λ held holds drain. (keeps holds.command holds.up holds.offered (so_far.free free held)).1 drain)

    -- all of the commands are those that were done, and those behind them
    split : (answered : Answered) → commands ≡ commands_of (so_far.turns ++ turned command moment answered after failed_after ∷ []) ++ drop (i + 1) commands
    split answered = sym (take-append-drop (i + 1) commands) ∙ ap (λ done. done ++ drop (i + 1) commands) (taken ∙ sym (pushed answered))

    SoFar-done : (answered : Answered) → IsCarriedOut disk inputs (at_moment moment mid) (Ok answered) after files failed_mid failed_after command.form
        → IsPut mid_put new put_mid put_new (shown command answered after) → KeepsFree mid after command.form
        → SoFar disk inputs files commands (i + 1) before after failed failed_after old new put put_new told given given_new
    SoFar-done answered does text keeps = record {
      turns = so_far.turns ++ turned command moment answered after failed_after ∷ [];
      these = pushed answered ∙ sym taken;
      follow = followed answered does;
      last = sym (last_stage-push before so_far.turns (turned command moment answered after failed_after));
      last_files = sym (last_failed-push failed so_far.turns (turned command moment answered after failed_after));
      put_is = subst (IsPut old new put put_new) (sym (text_pushed answered))
          (IsPut-then old mid_put new put put_mid put_new (text_of so_far.turns) (shown command answered after) so_far.put_is text);
      asked = asked_pushed answered;
      free = λ free all.
          let held = hold-first (turned command moment answered after failed_after) so_far.turns all in
          (keeps held.1.command held.1.up held.1.offered (so_far.free free held.0)).0;
      through = completed answered keeps;
      sound = sound_pushed answered;
    }

    asked_done : (answered : Answered) → AreAsked told given given_new (so_far.turns ++ turned command moment answered after failed_after ∷ []) []
    asked_done answered tells =
        asked_pushed answered tells
        ∙ ap (λ moments. given ++ moments) (sym (append-nil (moments_of (so_far.turns ++ turned command moment answered after failed_after ∷ []))))

    abbrev Ended : RunEnd → Type 0
    Ended its = HasRun disk inputs files commands before after failed failed_after its old new put put_new told given given_new

    abbrev DoneWith : Answered → Type 0
    DoneWith answered = IsCarriedOut disk inputs (at_moment moment mid) (Ok answered) after files failed_mid failed_after command.form

    put_whole : (answered : Answered) → IsPut mid_put new put_mid put_new (shown command answered after)
        → IsPut old new put put_new (text_of (so_far.turns ++ turned command moment answered after failed_after ∷ []))
    put_whole answered text = subst (IsPut old new put put_new) (sym (text_pushed answered))
        (IsPut-then old mid_put new put put_mid put_new (text_of so_far.turns) (shown command answered after) so_far.put_is text)

    left_last : (answered : Answered) → after ≡ last_stage before (so_far.turns ++ turned command moment answered after failed_after ∷ [])
    left_last answered = sym (last_stage-push before so_far.turns (turned command moment answered after failed_after))

    files_last : (answered : Answered) → failed_after ≡ last_failed failed (so_far.turns ++ turned command moment answered after failed_after ∷ [])
    files_last answered = sym (last_failed-push failed so_far.turns (turned command moment answered after failed_after))

    -- a run that ended behind the command
    ran : (answered : Answered) → DoneWith answered → KeepsFree mid after command.form → (its : RunEnd)
        → Ends disk inputs files (last_failed failed (so_far.turns ++ turned command moment answered after failed_after ∷ [])) failed_after its
        (drop (i + 1) commands) [] before (so_far.turns ++ turned command moment answered after failed_after ∷ []) after
        → Run disk inputs files commands before after failed failed_after its (so_far.turns ++ turned command moment answered after failed_after ∷ [])
    ran answered does keeps its ends = record {
      left = drop (i + 1) commands;
      these = split answered;
      follow = followed answered does;
      halted = [];
      ends = ends;
      complete = completed answered keeps;
      sound = sound_pushed answered;
    }

    -- the text of the command was not taken whole
    Run-unwritten : (answered : Answered) → DoneWith answered → IsPart mid_put new put_mid put_new (shown command answered after)
        → KeepsFree mid after command.form → Ended end.WriteFailed
    unfolding ran
    Run-unwritten answered does part keeps = (
      so_far.turns ++ turned command moment answered after failed_after ∷ [],
      ran answered does keeps end.WriteFailed (refl, files_last answered, left_last answered),
      (
        so_far.turns,
        (
          turned command moment answered after failed_after,
          refl,
          IsCut-then old mid_put new put put_mid put_new (text_of so_far.turns) (shown command answered after) so_far.put_is part,
        ),
      ),
      asked_done answered,
    )

    -- the command was not answered
    unanswered : (its : RunEnd)
        → Ends disk inputs files (last_failed failed so_far.turns) failed_after its (command ∷ drop (i + 1) commands) (moment ∷ []) before so_far.turns after
        → Run disk inputs files commands before after failed failed_after its so_far.turns
    unanswered its ends = record {
      left = command ∷ drop (i + 1) commands;
      these = sym (take-append-drop i commands)
          ∙ ap (λ rest. take i commands ++ rest) (drop_more commands i d below ∙ ap (λ one. one ∷ drop (i + 1) commands) (sym is))
          ∙ ap (λ done. done ++ command ∷ drop (i + 1) commands) (sym so_far.these);
      follow = so_far.follow;
      halted = moment ∷ [];
      ends = ends;
      complete = so_far.through;
      sound = sound_on;
    }

    none_more : IsPut mid_put new put_mid put_new [] → IsPut old new put put_new (text_of so_far.turns)
    none_more none =
        subst (IsPut old new put put_new) (append-nil (text_of so_far.turns))
        (IsPut-then old mid_put new put put_mid put_new (text_of so_far.turns) [] so_far.put_is none)

    halted_so : (answer : Result Answered Halt)
        → IsCarriedOut disk inputs (at_moment moment mid) answer after files failed_mid failed_after command.form
        → IsCarriedOut disk inputs (at_moment moment (last_stage before so_far.turns)) answer after files (last_failed failed so_far.turns) failed_after
        command.form
    halted_so answer does =
        subst (λ n. IsCarriedOut disk inputs (at_moment moment (last_stage before so_far.turns)) answer after files n failed_after command.form)
        so_far.last_files
        (subst (λ stage. IsCarriedOut disk inputs (at_moment moment stage) answer after files failed_mid failed_after command.form) so_far.last does)

    -- memory ran out in the command, or behind it
    Run-halted : (answer : Result Answered Halt) → IsCarriedOut disk inputs (at_moment moment mid) answer after files failed_mid failed_after command.form
        → IsPut mid_put new put_mid put_new [] → Ended end.OutOfMemory
    unfolding unanswered
    Run-halted answer does none = (
      so_far.turns,
      unanswered end.OutOfMemory
          (moment, refl, (answer, halted_so answer does)),
      none_more none,
      asked_more,
    )

    -- the command found another log than was kept
    Run-changed : (system number : ℕ) → IsCarriedOut disk inputs (at_moment moment mid) (Err (halt.Changed system number)) after files failed_mid
        failed_after command.form
        → IsPut mid_put new put_mid put_new [] → Ended (end.Changed system number)
    unfolding unanswered
    Run-changed system number does none = (
      so_far.turns,
      unanswered (end.Changed system number) (
        moment,
        refl,
        halted_so (Err (halt.Changed system number)) does,
      ),
      none_more none,
      asked_more,
    )

    pub Run-behind : (how : TurnEnd) → IsTurn disk inputs files failed_mid failed_after how moment command mid after mid_put new put_mid put_new →
        (its : RunEnd) → end_behind how ≡ Some its
        → Ended its
    Run-behind turn.Done did its same = absurd (subst (λ (o : Option RunEnd). MatchOption o ⊤ (λ some. ⊥)) same tt)
    Run-behind turn.WriteFailed did its same = subst Ended (ap (λ (o : Option RunEnd). unwrap_or o its) same) (Run-unwritten did.0 did.1 did.2 did.3)
    Run-behind (turn.Changed system number) did its same =
        subst Ended (ap (λ (o : Option RunEnd). unwrap_or o its) same) (Run-changed system number did.0 did.1)
    Run-behind turn.OutOfMemory did its same = subst Ended (ap (λ (o : Option RunEnd). unwrap_or o its) same) (Run-halted did.0 did.1 did.2)

    pub SoFar-next : (how : TurnEnd) → IsTurn disk inputs files failed_mid failed_after how moment command mid after mid_put new put_mid put_new →
        end_behind how ≡ None
        → SoFar disk inputs files commands (i + 1) before after failed failed_after old new put put_new told given given_new
    SoFar-next turn.Done did same = SoFar-done did.0 did.1 did.2 did.3
    SoFar-next turn.WriteFailed did same = absurd (subst (λ (o : Option RunEnd). MatchOption o ⊥ (λ some. ⊤)) same tt)
    SoFar-next (turn.Changed system number) did same = absurd (subst (λ (o : Option RunEnd). MatchOption o ⊥ (λ some. ⊤)) same tt)
    SoFar-next turn.OutOfMemory did same = absurd (subst (λ (o : Option RunEnd). MatchOption o ⊥ (λ some. ⊤)) same tt)
