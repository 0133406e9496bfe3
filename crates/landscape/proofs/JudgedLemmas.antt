-- How what a command asks for comes about, by the model in force and what was found under it.
use Rattle.std.specs.Prelude.{if◌then◌else◌, nat_le, nat_lt, slice_get, Ok, Err}
use Rattle.std.specs.List.{filter_map}
use Rattle.std.specs.Option.{option_and_then, option_map, option_map_or}
use Rattle.std.proofs.Common.{◌≡◌, ◌≢◌, inl, inr, ℕ, zero, suc, ◌+◌, ◌≤◌, ◌<◌, Bool, true, false, Option, Some, None, List, [], ◌∷◌, length, refl, sym, ap, subst, ◌∙◌}
use Rattle.std.proofs.Common.{arith}
use Rattle.std.proofs.lemmas.Bool.Decides.{nat_tests}
use Rattle.std.proofs.lemmas.List.{length-map}
use Rattle.std.proofs.lemmas.List.Elements.{All-contains, All-from_recursion}
use Rattle.std.proofs.lemmas.Option.{same_Some, slice_get_within}
use Rattle.ale_base.proofs.ListLemmas.{AllByRecursion-at, AllByRecursion-of, slice_get-within}
use Rattle.ale_base.specs.declared.tid.TheConstants.Tid.{MAX_UNIT}
use Rattle.dist_model.specs.declared.lists.Lists.{Lists}
use Rattle.dist_model.specs.declared.message.Message.{Message}
use Rattle.dist_model.specs.Message.{IsReduced, message_names}
use Rattle.dist_model.specs.Model.{IsModel, message_named}
use Rattle.dist_model.proofs.LookupLemmas.{message-named}
use Rattle.unit_core.specs.declared.raw_unit_doc.RawUnitDoc.{RawUnitDoc}
use Rattle.unit_core.specs.declared.records.Record.{Record}
use Rattle.unit_core.specs.declared.records.Record.TheVariants.{Commit, Dispatch, Model}
use Rattle.log_models.specs.InForce.{in_force, models_in}
use Rattle.said_models.specs.Said.{said}
use Rattle.model_growth.specs.declared.growth.Unkept.{Unkept}
use Rattle.model_growth.specs.Growth.{first_unkept}
use Rattle.model_growth.specs.Paths.{path_of}
use Rattle.said_models.specs.OfLog.{differs, model_of, models_of, text_of}
use Rattle.said_models.proofs.OfLogLemmas.{models_of-texts}
use Rattle.said_models.proofs.SaidLemmas.{said-kept}
use Rattle.status_log.specs.declared.refusal.Refusal.{Refusal}
use Rattle.status_log.specs.declared.refusal.Refusal.TheVariants.{N4, N10, N11, N12, N13, N15, OutOfMemory, Volume}
use Rattle.application_rules.specs.Gathered.{gathered}
use Rattle.application_rules.specs.Masters.{master_fault}
use Rattle.outbound_build.specs.declared.added.Added.{Added}
use Rattle.trfc_protocol.specs.Legal.{is_commit}
use Rattle.document_state.specs.Made.{GoesWith}
use Rattle.document_state.specs.declared.made.Made.TheVariants.{Sent}
use Rattle.document_state.specs.OfLog.{applied_by, sent_by, added_behind}
use Rattle.document_state.specs.Allowed.{waits_any}
use Rattle.landscape.specs.Asked.{Asked, asked_dispatch, asked_gather, asked_send, by_model, gathered_for, gathered_or_none, sent_or_refused, units_with}
use Rattle.landscape.specs.Asked.{asked_model, waiting_in, with_room}
use Rattle.landscape.specs.Remodelled.{MayAs}
use Rattle.landscape.specs.steps.Judged.{IsMaster, JudgedAs, JudgedCommits, JudgedCommitsOrNone}

-- where there is no model in force all names are unknown
pub without-model : (log : List Record) (asked : Lists → Asked) → model_of log ≡ None → by_model log asked ≡ Err N12
without-model log asked none = ap (λ found. option_map_or asked found (Err N12)) none

-- there is room for as many units as there may be, and for no more
pub room-there : (log : List Record) (next : Record) → length (sent_by log).past.units + length (added_behind log next).units ≤ 65536
    → with_room log next ≡ Ok (Some next)
room-there log next few =
    let count = length (sent_by log).past.units + length (added_behind log next).units in
    let has : nat_le count MAX_UNIT ≡ true = grind (arith, nat_tests, few) in
    ap (λ b. if b then Ok (Some next) else Err (N11 (units_with log next))) has

pub room-wanting : (log : List Record) (next : Record) (count : ℕ) → count ≡ length (sent_by log).past.units + length (added_behind log next).units →
    65536 < count
    → with_room log next ≡ Err (N11 count)
room-wanting log next count counts many =
    let most = length (sent_by log).past.units + length (added_behind log next).units in
    let not : nat_le most MAX_UNIT ≡ false = grind (arith, nat_tests, counts, many) in
    ap (λ b. if b then Ok (Some next) else Err (N11 (units_with log next))) not ∙ ap (λ n. Err (N11 n)) (sym counts)

module _ (log : List Record) (model : Lists) (is : model_of log ≡ Some model) where
  -- under the model in force
  pub under-model : (asked : Lists → Asked) → by_model log asked ≡ asked model
  under-model asked = ap (λ found. option_map_or asked found (Err N12)) is

  -- a master is committed alone where it may be one
  pub send-good : (master : RawUnitDoc) → master_fault model master ≡ None → asked_send log master ≡ with_room log (Commit None (master ∷ []))
  send-good master good =
      under-model (λ m. sent_or_refused (with_room log) master (master_fault m master)) ∙ ap (sent_or_refused (with_room log) master) good

  -- and is refused for its fault
  pub send-refused : (T : Type 0) (master : RawUnitDoc) (why : Refusal) → IsMaster {T = T} (master_fault model master) (Err why)
      → JudgedCommits log (asked_send log master) (Err why)
  send-refused T master N12 fault = under-model (λ m. sent_or_refused (with_room log) master (master_fault m master))
      ∙ ap (sent_or_refused (with_room log) master) fault
  send-refused T master (N4 syntax) fault =
      under-model (λ m. sent_or_refused (with_room log) master (master_fault m master)) ∙ ap (sent_or_refused (with_room log) master) fault
  send-refused T master OutOfMemory fault = tt
  send-refused T master _ fault = absurd fault

  -- a name stands for a message type
  pub gather-known : (name : List ℕ) (message : ℕ) (type : Message) → message_named name model ≡ Some message → slice_get model.messages message ≡ Some type
      → asked_gather log name ≡ gathered_for log model message type
  gather-known name message type named here =
      under-model (λ m. option_map_or (λ n. option_map_or (gathered_for log m n) (slice_get m.messages n) (Ok None)) (message_named name m) (Err N12))
      ∙ ap (λ found. option_map_or (λ n. option_map_or (gathered_for log model n) (slice_get model.messages n) (Ok None)) found (Err N12)) named
      ∙ ap (λ found. option_map_or (gathered_for log model message) found (Ok None)) here

  -- or for none
  pub gather-unknown : (name : List ℕ) → message_named name model ≡ None → asked_gather log name ≡ Err N12
  gather-unknown name none =
      under-model (λ m. option_map_or (λ n. option_map_or (gathered_for log m n) (slice_get m.messages n) (Ok None)) (message_named name m) (Err N12))
      ∙ ap (λ found. option_map_or (λ n. option_map_or (gathered_for log model n) (slice_get model.messages n) (Ok None)) found (Err N12)) none

-- a refusal of a command that asks for a record is one of a command that may ask for nothing
pub refused-or_none : (log : List Record) (asked judged_so : Asked) (why : Refusal) → asked ≡ judged_so → JudgedCommits log judged_so (Err why)
    → JudgedCommitsOrNone log asked (Err why)
refused-or_none log asked judged_so why same judged = of why (subst (λ (a : Asked). JudgedCommits log a (Err why)) (sym same) judged)
  where
    of : (why : Refusal) → JudgedCommits log asked (Err why) → JudgedCommitsOrNone log asked (Err why)
    of OutOfMemory is = tt
    of Volume is = is
    of (N10 size) is = is
    of why is = is

-- what a record that commits documents adds goes with it
pub sent-goes : (log : List Record) (next : Record) (added : Added) → is_commit next ≡ true → added ≡ added_behind log next → GoesWith log next (Sent added)
sent-goes log (Commit origin docs) added kind is = is
sent-goes log Dispatch added kind is = is
sent-goes log _ added kind is = absurd (cc)

-- a model in force keeps what a model keeps
pub model-kept : (log : List Record) (model : Lists) → model_of log ≡ Some model → IsModel model
model-kept log model is = of (models_in log) is
  where
    of : (count : ℕ) → in_force (models_of log) count ≡ Some model → IsModel model
    of zero none = absurd (let lies : ◌≡◌ {A = Option Lists} None (Some model) = none in cc)
    of (suc last) here =
        AllByRecursion-at IsModel (models_of log) last model
        (models_of-texts IsModel log (AllByRecursion-of (λ text. (m : Lists) → said text ≡ Some m → IsModel m) said-kept (filter_map text_of log))) here

-- what is gathered is committed, where it is something
pub gathered-some : (commits : Record → Asked) (name : List ℕ) (docs : List RawUnitDoc) → ((docs ≡ []) → ⊥)
    → gathered_or_none commits name docs ≡ commits (Commit (Some name) docs)
gathered-some commits name [] some = absurd (some refl)
gathered-some commits name (doc ∷ docs) some = refl

-- what waits is dispatched, where something waits
pub dispatch-some : (log : List Record) (model : Lists) → model_of log ≡ Some model → ((sent_by log).past.outbox.waiting ≡ [] → ⊥)
    → asked_dispatch log ≡ with_room log Dispatch
dispatch-some log model is some =
    under-model log model is (λ m. if waits_any log then with_room log Dispatch else Ok None)
    ∙ ap (λ b. if b then with_room log Dispatch else Ok None) (of (sent_by log).past.outbox.waiting some)
  where
    of : {W : Type 0} (waiting : List W) → (waiting ≡ [] → ⊥) → nat_lt 0 (length waiting) ≡ true
    of [] some = absurd (some refl)
    of (one ∷ others) some = let least : 1 ≤ length (one ∷ others) = omega arith in grind (arith, nat_tests, least)

-- a message type that lists fields whose changes make documents gathers
pub gathers : (log : List Record) (model : Lists) (message : ℕ) (type : Message) → (type.pointers ≡ [] → ⊥)
    → gathered_for log model message type
    ≡ gathered_or_none (with_room log) type.name (gathered model (applied_by log).application.objects (applied_by log).application.pointers message)
gathers log model message type some =
    ap (λ b. if b then gathered_or_none (with_room log) type.name
    (gathered model (applied_by log).application.objects (applied_by log).application.pointers message) else Ok None)
    (of type.pointers some)
  where
    of : (places : List ℕ) → (places ≡ [] → ⊥) → nat_le 1 (length places) ≡ true
    of [] some = absurd (some refl)
    of (place ∷ others) some = let least : 1 ≤ length (place ∷ others) = omega arith in grind (arith, nat_tests, least)

pub not_empty : {A : Type 0} (xs : List A) → (xs ≡ [] → ⊥) → 1 ≤ length xs
not_empty [] some = absurd (some refl)
not_empty (x ∷ xs) some = omega arith

-- a name stands for a message type of the model
pub named-within : (model : Lists) → IsModel model → (name : List ℕ) (message : ℕ) → message_named name model ≡ Some message → message < length model.messages
named-within model kept name message named = elim ((message-named model kept name (message_named name model) refl message).0 named) [
  | inl own ↦
      let within = slice_get_within (message_names model.messages) message name own in
      let count = length-map model.messages (λ (m : Message). m.name) in
      omega (arith, within, count)
  | inr reduced ↦
      let each = All-from_recursion (IsReduced model.definitions model.types model.messages) model.reduced kept.reduced.each in
      let is = All-contains (IsReduced model.definitions model.types model.messages) model.reduced reduced.one each reduced.among in
      let basic = is.basic in
      let same = reduced.basic in
      omega (arith, basic, same)
]

-- so there is one of its number
pub named-there : (model : Lists) → IsModel model → (name : List ℕ) (message : ℕ) → message_named name model ≡ Some message
    → (type : Message) × (slice_get model.messages message ≡ Some type)
named-there model kept name message named = slice_get-within model.messages message (named-within model kept name message named)

-- ---- a model that is to come into force

-- what may be done was answered by why it may not, as the command asks
pub judged-may : (T : Type 0) {W : Type 0} (wants : W → Type 0) (asked : Asked) (why : Option Refusal) → ((size : ℕ) → why ≢ Some (N10 size)) → why ≢ Some Volume
    → ((refusal : Refusal) → why ≡ Some refusal → asked ≡ Err refusal) → (refusal : Refusal) → MayAs {T = T} why (Err refusal)
    → JudgedAs wants asked (Err refusal)
judged-may T wants asked why no_full no_volume says OutOfMemory is = tt
judged-may T wants asked why no_full no_volume says Volume is = absurd (no_volume is)
judged-may T wants asked why no_full no_volume says (N10 size) is = absurd (no_full size is)
judged-may T wants asked why no_full no_volume says refusal is = says refusal is

-- by what of a model in force it does not keep
abbrev pub by_part : Option Unkept → Option Refusal
by_part found = option_map (λ part. N15 (path_of part)) found

-- where nothing of it is not kept
pub all-kept : (found : Option Unkept) → by_part found ≡ None → found ≡ None
all-kept None none = refl
all-kept (Some part) lies = absurd (cc)

module _ (log : List Record) (model new : Lists) (text : List ℕ) (is : model_of log ≡ Some model) where
  -- what becomes of it where another text is in force, by what of the model in force is not kept
  abbrev rest : Option Unkept → Bool → Asked
  rest found waits = option_map_or (λ part. Err (N15 (path_of part))) found (if waits then Err (N13 (waiting_in log)) else Ok (Some (Model text)))

  differs-asked : (b : Bool) → differs text log ≡ b → asked_model log new text ≡ (if b then rest (first_unkept model new) (waits_any log) else Ok None)
  differs-asked b test =
      under-model log model is (λ m. if differs text log then rest (first_unkept m new) (waits_any log) else Ok None)
      ∙ ap (λ b. if b then rest (first_unkept model new) (waits_any log) else Ok None) test

  -- nothing, where this text is in force
  pub same-asked : differs text log ≡ false → asked_model log new text ≡ Ok None
  same-asked = differs-asked false

  -- the model in force is this one
  pub unkept-is : by_part (option_and_then (λ old. first_unkept old new) (model_of log)) ≡ by_part (first_unkept model new)
  unkept-is = ap (λ found. by_part (option_and_then (λ old. first_unkept old new) found)) is

  -- what it does not keep refuses it
  pub judged-unkept : (T : Type 0) {W : Type 0} (wants : W → Type 0) → differs text log ≡ true → (refusal : Refusal)
      → MayAs {T = T} (by_part (first_unkept model new)) (Err refusal) → JudgedAs wants (asked_model log new text) (Err refusal)
  judged-unkept T wants test refusal may =
      judged-may T wants (asked_model log new text) (by_part (first_unkept model new)) (λ size. no-full (first_unkept model new) size)
      (no-volume (first_unkept model new)) says refusal may
    where
      no-full : (found : Option Unkept) (size : ℕ) → by_part found ≢ Some (N10 size)
      no-full None size = λ lies. absurd (cc)
      no-full (Some part) size = λ lies. absurd (cc)

      no-volume : (found : Option Unkept) → by_part found ≢ Some Volume
      no-volume None = λ lies. absurd (cc)
      no-volume (Some part) = λ lies. absurd (cc)

      found-says : (found : Option Unkept) (refusal : Refusal) → by_part found ≡ Some refusal → rest found (waits_any log) ≡ Err refusal
      found-says None refusal lies = absurd (cc)
      found-says (Some part) refusal same = ap (λ r. Err r) (same_Some (N15 (path_of part)) refusal same)

      says : (refusal : Refusal) → by_part (first_unkept model new) ≡ Some refusal → asked_model log new text ≡ Err refusal
      says refusal same = differs-asked true test ∙ found-says (first_unkept model new) refusal same

  waiting-asked : (b : Bool) → differs text log ≡ true → first_unkept model new ≡ None → waits_any log ≡ b → asked_model log new text ≡ rest None b
  waiting-asked b test none waits =
      differs-asked true test ∙ ap (λ found. rest found (waits_any log)) none ∙ ap (rest None) waits

  -- that documents wait refuses it
  pub judged-waiting : (T : Type 0) {W : Type 0} (wants : W → Type 0) → differs text log ≡ true → first_unkept model new ≡ None → (refusal : Refusal)
      → MayAs {T = T} (if waits_any log then Some (N13 (waiting_in log)) else None) (Err refusal) → JudgedAs wants (asked_model log new text) (Err refusal)
  judged-waiting T wants test none refusal may = of (waits_any log) refl may
    where
      of : (b : Bool) → waits_any log ≡ b → MayAs {T = T} (if b then Some (N13 (waiting_in log)) else None) (Err refusal)
          → JudgedAs wants (asked_model log new text) (Err refusal)
      of true waits may =
          judged-may T wants (asked_model log new text) (Some (N13 (waiting_in log))) (λ size lies. absurd (cc)) (λ lies. absurd (cc))
          (λ why same. waiting-asked true test none waits ∙ ap (λ r. Err r) (same_Some (N13 (waiting_in log)) why same)) refusal may
      of false waits may =
          judged-may T wants (asked_model log new text) None (λ size lies. absurd (cc)) (λ lies. absurd (cc)) (λ why lies. absurd (cc)) refusal may

  -- and else its record is asked for
  pub model-asked : differs text log ≡ true → first_unkept model new ≡ None → (if waits_any log then Some (N13 (waiting_in log)) else None) ≡ None
      → asked_model log new text ≡ Ok (Some (Model text))
  model-asked test none ready = waiting-asked false test none (of (waits_any log) ready)
    where
      of : (b : Bool) → (if b then Some (N13 (waiting_in log)) else None) ≡ None → b ≡ false
      of true lies = absurd (cc)
      of false ready = refl
