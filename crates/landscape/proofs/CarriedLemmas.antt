-- What a command asks for may be appended, and is carried out as it asks.
use Rattle.std.specs.Prelude.{if◌then◌else◌, map, Result, Ok, Err}
use Rattle.std.specs.Option.{option_map_or}
use Rattle.std.proofs.Common.{◌≡◌, ◌⊎◌, inl, inr, ℕ, ◌==◌, ◌&&◌, Bool, true, false, Option, Some, None, List, [], ◌∷◌, ◌++◌, length, refl, sym, ap, subst, ◌∙◌}
use Rattle.std.proofs.lemmas.Bool.{and_from, eq-eqb}
use Rattle.ale_volumes.specs.Disk.{Disk}
use Rattle.dist_model.specs.declared.lists.Lists.{Lists}
use Rattle.outbound_build.specs.declared.added.Added.{Added}
use Rattle.outbound_build.specs.declared.added.OutUnit.{OutUnit}
use Rattle.outbound_build.specs.Committed.{committed_of}
use Rattle.unit_core.specs.declared.ale_unit.AleUnit.{AleUnit}
use Rattle.unit_core.specs.declared.records.Record.{Record}
use Rattle.unit_core.specs.declared.records.Record.TheVariants as log
use Rattle.said_models.specs.OfLog.{models_of}
use Rattle.status_log.specs.declared.refusal.Refusal.{Refusal}
use Rattle.status_log.specs.declared.refusal.Refusal.TheVariants as refusal
use Rattle.trfc_protocol.specs.declared.event.Event.{Event}
use Rattle.trfc_protocol.specs.declared.event.Event.TheVariants as event
use Rattle.trfc_protocol.specs.declared.world.World.{World}
use Rattle.trfc_protocol.specs.Legal.{is_commit, is_model, may_follow, may_follow_others}
use Rattle.trfc_protocol.specs.RecordOf.{record_of, record_if}
use Rattle.trfc_protocol.specs.Worlds.{is_up, log_of}
use Rattle.unit_landscape.specs.declared.append_end.AppendEnd.{AppendEnd}
use Rattle.unit_landscape.specs.declared.append_end.AppendEnd.TheVariants as end
use Rattle.unit_landscape.specs.KeptWorlds.{KeptOf}
use Rattle.unit_landscape.specs.Appending.{at}
use Rattle.unit_landscape.specs.Ends.{AppendsAs}
use Rattle.unit_landscape.specs.LogAnswers.{KeepsVolumes}
use Rattle.unit_landscape.specs.Writes.{WritesOnly}
use Rattle.unit_landscape.specs.Kept.{IsLandscape}
use Rattle.unit_landscape.proofs.OperatingLemmas.{up-others}
use Rattle.document_state.specs.declared.document_tables.DocumentTables.{DocumentTables}
use Rattle.document_state.specs.declared.made.Made.{Made}
use Rattle.document_state.specs.declared.made.Made.TheVariants as made
use Rattle.document_state.specs.Made.{GoesWith}
use Rattle.document_state.specs.OfLog.{added_behind}
use Rattle.document_state.specs.declared.model_rules.ModelRules.{ModelRules}
use Rattle.document_state.specs.Allowed.{allowed, allowed_under}
use Rattle.document_state.specs.LawfulLemmas.{committed-push}
use Rattle.landscape.specs.declared.wanted.Brings.{Brings}
use Rattle.landscape.specs.declared.wanted.Changes.{Changes}
use Rattle.landscape.specs.declared.wanted.Commits.{Commits}
use Rattle.landscape.specs.Asked.{Asked}
use Rattle.landscape.specs.steps.Judged.{IsOrNone, IsWanted, JudgedAs, JudgedChanges, JudgedCommits, JudgedCommitsOrNone, WantsChanges, WantsCommits}
use Rattle.landscape.specs.steps.Judged.{JudgedModelOrNone}
use Rattle.landscape.specs.steps.Judged.{is_applications}
use Rattle.landscape.specs.declared.counts.Gathered.{Gathered}
use Rattle.landscape.specs.Carried.{CarriedAs, DiskAsked, asked_at, counts_asked, counts_of}
use Rattle.landscape.specs.Standing.{StandAt}
use Rattle.landscape.specs.steps.Ready.{AsksChanges, AsksCommits, EndedAs, FailedAs, IsAsked, ReadyChanges, ReadyCommits, ReadyCommitsOrNone, ended_of}
use Rattle.landscape.specs.steps.Ready.{ReadyModelOrNone}
use Rattle.landscape.proofs.BegunLemmas.{meaning, is_lawful}

-- ---- what is asked for is ready

module _ (world : World ModelRules) (system : ℕ) where
  -- what is allowed under the model in force is allowed
  pub allowed-by : (tables : DocumentTables) (stand : StandAt world system tables) (next : Record) → allowed_under (log_of world system) stand.model next ≡ true
      → allowed world.rules.systems (log_of world system) next ≡ true
  allowed-by tables stand next may =
      ap (λ found. option_map_or (λ (m : Lists). (length m.systems == world.rules.systems) && allowed_under (log_of world system) m next) found false)
      stand.in_force
      ∙ and_from (length stand.model.systems == world.rules.systems) (allowed_under (log_of world system) stand.model next)
      (eq-eqb (length stand.model.systems) world.rules.systems stand.many) may

  -- a system that is up asks as its log says
  asked-up : (asked : List Record → Asked) → is_up world system ≡ true → asked_at world system asked ≡ asked (log_of world system)
  asked-up asked up = ap (λ b. if b then asked (log_of world system) else Err refusal.N2) up

  pub asked-down : (asked : List Record → Asked) → is_up world system ≡ false → asked_at world system asked ≡ Err refusal.N2
  asked-down asked down = ap (λ b. if b then asked (log_of world system) else Err refusal.N2) down

  -- one that is down refuses
  pub judged-down : {W : Type 0} (wants : W → Type 0) (asked : List Record → Asked) (why : Refusal) → (why ≡ refusal.N2) × (is_up world system ≡ false)
      → JudgedAs wants (asked_at world system asked) (Err why)
  judged-down wants asked why down =
      subst (λ (r : Refusal). JudgedAs wants (asked_at world system asked) (Err r)) (sym down.0) (asked-down asked down.1)

  module _ (asked : List Record → Asked) (tables : DocumentTables) (stand : StandAt world system tables)
      (may : (next : Record) → asked (log_of world system) ≡ Ok (Some next) → allowed_under (log_of world system) stand.model next ≡ true) where
    is-asked : (kind : Record → Bool) (next : Record) (made : Made) → IsWanted (log_of world system) (asked (log_of world system)) kind next made
        → IsAsked world system (asked_at world system asked) kind next made
    is-asked kind next made is = record {
      record_asked = asked-up asked stand.up ∙ is.record_asked;
      ready = record {
        up = stand.up;
        its_kind = is.its_kind;
        may = allowed-by tables stand next (may next is.record_asked);
        goes = is.goes;
        writable = is.writable;
      };
    }

    -- what was judged by the tables of a system that is up is judged so at the system
    lifted : {W : Type 0} (wants asks : W → Type 0) → ((wanted : W) → wants wanted → asks wanted) → (judged : Result W Refusal)
        → JudgedAs wants (asked (log_of world system)) judged → JudgedAs asks (asked_at world system asked) judged
    lifted wants asks each (Ok wanted) is = each wanted is
    lifted wants asks each (Err refusal.OutOfMemory) is = tt
    lifted wants asks each (Err refusal.Volume) is = is
    lifted wants asks each (Err (refusal.N10 size)) is = is
    lifted wants asks each (Err why) is = asked-up asked stand.up ∙ is

    -- and is ready
    pub commits-ready : (judged : Result Commits Refusal) → JudgedCommits (log_of world system) (asked (log_of world system)) judged
        → ReadyCommits world system (asked_at world system asked) judged
    commits-ready judged is =
        lifted (WantsCommits (log_of world system) (asked (log_of world system))) (AsksCommits world system (asked_at world system asked))
        (λ wanted wants. is-asked is_commit wanted.next (made.Sent wanted.added) wants) judged is

    -- the same of one that may ask for nothing
    or_none : {W : Type 0} (kind : Record → Bool) (next : W → Record) (made : W → Made) (judged : Result (Option W) Refusal)
        → JudgedAs (IsOrNone (λ (wanted : W). IsWanted (log_of world system) (asked (log_of world system)) kind (next wanted) (made wanted))
        (asked (log_of world system))) (asked (log_of world system)) judged
        → JudgedAs (IsOrNone (λ (wanted : W). IsAsked world system (asked_at world system asked) kind (next wanted) (made wanted))
        (asked_at world system asked)) (asked_at world system asked) judged
    or_none {W = W} kind next made judged is =
        lifted (IsOrNone (λ (wanted : W). IsWanted (log_of world system) (asked (log_of world system)) kind (next wanted) (made wanted))
        (asked (log_of world system)))
        (IsOrNone (λ (wanted : W). IsAsked world system (asked_at world system asked) kind (next wanted) (made wanted)) (asked_at world system asked))
        each judged is
      where
        each : (wanted : Option W)
            → IsOrNone (λ (one : W). IsWanted (log_of world system) (asked (log_of world system)) kind (next one) (made one)) (asked (log_of world system)) wanted
            → IsOrNone (λ (one : W). IsAsked world system (asked_at world system asked) kind (next one) (made one)) (asked_at world system asked) wanted
        each None none = asked-up asked stand.up ∙ none
        each (Some wanted) wants = is-asked kind (next wanted) (made wanted) wants

    pub commits_or_none-ready : (judged : Result (Option Commits) Refusal) → JudgedCommitsOrNone (log_of world system) (asked (log_of world system)) judged
        → ReadyCommitsOrNone world system (asked_at world system asked) judged
    commits_or_none-ready = or_none is_commit (λ (wanted : Commits). wanted.next) (λ (wanted : Commits). made.Sent wanted.added)

    pub model_or_none-ready : (judged : Result (Option Brings) Refusal) → JudgedModelOrNone (log_of world system) (asked (log_of world system)) judged
        → ReadyModelOrNone world system (asked_at world system asked) judged
    model_or_none-ready = or_none is_model (λ (wanted : Brings). wanted.next) (λ (wanted : Brings). made.Brought (Some wanted.model))

    pub changes-ready : (judged : Result Changes Refusal) → JudgedChanges (log_of world system) (asked (log_of world system)) judged
        → ReadyChanges world system (asked_at world system asked) judged
    changes-ready judged is =
        lifted (WantsChanges (log_of world system) (asked (log_of world system))) (AsksChanges world system (asked_at world system asked))
        (λ wanted wants. is-asked is_applications wanted.next made.Nothing wants) judged is

-- ---- a record that is ready may be committed

module _ (world : World ModelRules) (is : IsLandscape meaning world) (system : ℕ) (next : Record) where
  follows : is_commit next ≡ true → is_up world system ≡ true → allowed world.rules.systems (log_of world system) next ≡ true
      → may_follow (meaning world.rules) system (log_of world system) next ≡ true
  follows kind up may = up-others (meaning world.rules) (is_lawful world.rules) world is.safe system next up ∙ of next kind may
    where
      of : (next : Record) → is_commit next ≡ true → allowed world.rules.systems (log_of world system) next ≡ true
          → may_follow_others (meaning world.rules) system (log_of world system) next ≡ true
      of (log.Commit origin docs) kind may = may
      of log.Dispatch kind may = may
      of _ kind may = absurd (cc)

  -- a Commit or a Dispatch that is allowed is the record of its event
  pub commit-possible : is_commit next ≡ true → is_up world system ≡ true → allowed world.rules.systems (log_of world system) next ≡ true
      → record_of (meaning world.rules) world (event.Commit system next) ≡ Some (at system next)
  commit-possible kind up may =
      ap (λ b. record_if (b && is_commit next && may_follow (meaning world.rules) system (log_of world system) next) system next) up
      ∙ ap (λ b. record_if (b && may_follow (meaning world.rules) system (log_of world system) next) system next) kind
      ∙ ap (λ b. record_if b system next) (follows kind up may)

-- what goes with a record that commits documents is what it adds
pub goes-added : (records : List Record) (next : Record) (added : Added) → is_commit next ≡ true → GoesWith records next (made.Sent added) → added ≡ added_behind
    records next
goes-added records (log.Commit origin docs) added kind goes = goes
goes-added records log.Dispatch added kind goes = goes
goes-added records _ added kind goes = absurd (cc)

-- so the longer log commits the units of what goes with it
pub commit-commits : (records : List Record) (next : Record) (added : Added) (units : List AleUnit) → is_commit next ≡ true → GoesWith records next
    (made.Sent added)
    → units ≡ map (λ (one : OutUnit). one.unit) added.units
    → committed_of (models_of (records ++ next ∷ [])) (records ++ next ∷ []) ≡ committed_of (models_of records) records ++ units
commit-commits records next added units kind goes are =
    committed-push records next
    ∙ ap (λ (more : List AleUnit). committed_of (models_of records) records ++ more)
    (ap (λ (a : Added). map (λ (one : OutUnit). one.unit) a.units) (sym (goes-added records next added kind goes)) ∙ sym are)

-- ---- how it ends

module _ {V : Type 0} (disk : Disk V) (before after : KeptOf ModelRules DocumentTables V) (system : ℕ) (event : Record → Event) where
  -- how its appending ended
  pub ended-as : {T : Type 0} (next : Record) (result : Result T AppendEnd) → AppendsAs (meaning before.world.rules) disk before after (event next)
      (at system next) result
      → EndedAs disk before after system event next (ended_of result)
  ended-as next (Ok done) did = did
  ended-as next (Err end.Volume) did = did
  ended-as next (Err (end.Full size)) did = did
  ended-as next (Err end.Before) did = inl did
  ended-as next (Err end.After) did = inr did

  -- a record that is asked for was not appended: so the command ends
  pub asked-failed : {T : Type 0} (P : T → Type 0) (asked : Asked) (next : Record) → asked ≡ Ok (Some next) → (why : Refusal)
      → FailedAs disk before after system event next why → CarriedAs disk before after system event asked P (Err why)
  asked-failed P asked next is refusal.Volume did = (next, is, did)
  asked-failed P asked next is (refusal.N10 size) did = (next, is, did)
  asked-failed P asked next is refusal.OutOfMemory did = elim did [
    | inl stays ↦ inl stays
    | inr behind ↦ inr (next, is, behind)
  ]
  asked-failed P asked next is _ did = absurd did

-- a command that was judged to be refused, or to want memory, changed nothing
pub refused : {V W T : Type 0} (disk : Disk V) (before : KeptOf ModelRules DocumentTables V) (system : ℕ) (event : Record → Event) (P : T → Type 0)
    (wants : W → Type 0) (asked : Asked) (why : Refusal)
    → JudgedAs wants asked (Err why) → CarriedAs disk before before system event asked P (Err why)
refused disk before system event P wants asked refusal.OutOfMemory is =
    inl (record { world = refl; tables = refl; journals = refl; no_faults = λ place. refl; causes = refl })
refused disk before system event P wants asked refusal.Volume is = absurd is
refused disk before system event P wants asked (refusal.N10 size) is = absurd is
refused disk before system event P wants asked why is = (is, refl)

-- how many were made
pub counted : (records : List Record) (asked : Asked) (next : Record) (counts : Gathered) → asked ≡ Ok (Some next) → counts ≡ counts_of records next
    → counts ≡ counts_asked records asked
counted records asked next counts is are = are ∙ sym (ap (counts_asked records) is)

-- which volume is called
pub disk-asked : {V : Type 0} (disk : Disk V) (before after : KeptOf ModelRules DocumentTables V) (system : ℕ) (asked : Asked) (next : Record)
    → asked ≡ Ok (Some next) → KeepsVolumes before after ⊎ WritesOnly disk before after (at system next) → DiskAsked disk before after system asked
disk-asked disk before after system asked next is (inl keeps) = inl keeps
disk-asked disk before after system asked next is (inr writes) = inr (next, is, writes)
