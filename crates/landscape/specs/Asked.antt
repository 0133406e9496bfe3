-- What a command asks for at a system that is up, by its log: the record that is appended, none where there is nothing to append, or why
-- it is refused. Where several reasons apply, an unknown name comes first, then a fault of syntax, then want of room; and that there is no
-- such document comes before that its status is another. This project's own.
use Rattle.std.specs.Prelude.{ℕ, ◌+◌, ◌&&◌, Bool, List, [], ◌∷◌, Option, Some, None, Result, Ok, Err, if◌then◌else◌, length, nat_le, slice_get}
use Rattle.std.specs.Option.{option_map_or}
use Rattle.ale_base.specs.declared.change.Change.{Change}
use Rattle.dist_model.specs.declared.lists.Lists.{Lists}
use Rattle.dist_model.specs.declared.message.Message.{Message}
use Rattle.dist_model.specs.Model.{message_named}
use Rattle.unit_core.specs.declared.raw_unit_doc.RawUnitDoc.{RawUnitDoc}
use Rattle.unit_core.specs.declared.records.Record.{Record}
use Rattle.unit_core.specs.declared.records.Record.TheVariants.{Commit, Dispatch, Put, App, Repost, Model}
use Rattle.model_growth.specs.Growth.{first_unkept}
use Rattle.model_growth.specs.Paths.{path_of}
use Rattle.said_models.specs.OfLog.{differs, model_of}
use Rattle.status_log.specs.declared.refusal.Refusal.{Refusal}
use Rattle.status_log.specs.declared.refusal.Refusal.TheVariants as refusal
use Rattle.status_log.specs.declared.refusal.Refusal.TheVariants.{N3, N4, N8, N11, N12, N13, N15}
use Rattle.change_pointers.specs.Noted.{noted_by}
use Rattle.application_rules.specs.declared.fault.MasterFault.{MasterFault}
use Rattle.application_rules.specs.declared.fault.MasterFault.TheVariants.{Syntax, Unknown, OutOfMemory}
use Rattle.application_rules.specs.Masters.{master_fault}
use Rattle.application_rules.specs.Gathered.{gathered}
use Rattle.application_rules.specs.Puts.{may_put}
use Rattle.document_state.specs.OfLog.{sent_by, applied_by, added_behind}
use Rattle.document_state.specs.Allowed.{has_room, stands_at, waits_any}

-- what a command asks for: a record, or none, or why it is refused
abbrev pub Asked : Type 0
Asked = Result (Option Record) Refusal

-- what is gathered: nothing where no object waits
abbrev pub gathered_or_none : (Record → Asked) → List ℕ → List RawUnitDoc → Asked
gathered_or_none commits name [] = Ok None
gathered_or_none commits name (doc ∷ docs) = commits (Commit (Some name) (doc ∷ docs))

-- a master that is sent: why it may not be one, if so
abbrev pub sent_or_refused : (Record → Asked) → RawUnitDoc → Option MasterFault → Asked
sent_or_refused commits master None = commits (Commit None (master ∷ []))
sent_or_refused commits master (Some (Syntax fault)) = Err (N4 fault)
sent_or_refused commits master (Some Unknown) = Err N12
sent_or_refused commits master (Some OutOfMemory) = Err refusal.OutOfMemory

module _ (log : List Record) where
  -- what is asked for under the model in force; without one all names are unknown
  abbrev pub by_model : (Lists → Asked) → Asked
  by_model asked = option_map_or asked (model_of log) (Err N12)

  -- how many units there would be with a record
  abbrev pub units_with : Record → ℕ
  units_with next = length (sent_by log).past.units + length (added_behind log next).units

  -- a record that makes units, where there is room for them
  abbrev pub with_room : Record → Asked
  with_room next = if has_room log next then Ok (Some next) else Err (N11 (units_with next))

  -- a master is sent: it is committed alone, with no origin
  abbrev pub asked_send : RawUnitDoc → Asked
  asked_send master = by_model (λ model. sent_or_refused with_room master (master_fault model master))

  -- an object gets values
  abbrev pub asked_put : Change → Asked
  asked_put change = by_model (λ model. if may_put model change.kind change.key change.fields then Ok (Some (Put change.kind change.key change.fields)) else Err
      N12)

  -- how many change pointers are noted where an object gets values
  abbrev pub pointers_noted : Change → ℕ
  pointers_noted change =
      option_map_or (λ model. length (noted_by model (applied_by log).application.objects change.kind change.key change.fields)) (model_of log) 0

  -- the masters of a message type that are gathered: those of the objects that wait for it, where it lists fields whose changes make
  -- documents
  abbrev pub gathered_for : Lists → ℕ → Message → Asked
  gathered_for model message type =
      if nat_le 1 (length type.pointers)
      then gathered_or_none with_room type.name (gathered model (applied_by log).application.objects (applied_by log).application.pointers message)
      else Ok None

  -- objects that wait for a message type are gathered; the name of a reduced one stands for its basic one
  abbrev pub asked_gather : List ℕ → Asked
  asked_gather name =
      by_model (λ model. option_map_or (λ message. option_map_or (gathered_for model message) (slice_get model.messages message) (Ok None))
      (message_named name model) (Err N12))

  -- what waits is dispatched, where something waits
  abbrev pub asked_dispatch : Asked
  asked_dispatch = by_model (λ model. if waits_any log then with_room Dispatch else Ok None)

  -- how many documents wait to be dispatched
  abbrev pub waiting_in : ℕ
  waiting_in = length (sent_by log).past.outbox.waiting

  -- a model that a text says is to come into force, where the text in force is another one: it keeps what runs, and no document waits
  abbrev pub asked_model : Lists → List ℕ → Asked
  asked_model new text =
      by_model (λ model. if differs text log then option_map_or (λ part. Err (N15 (path_of part)))
      (first_unkept model new) (if waits_any log then Err (N13 waiting_in) else Ok (Some (Model text))) else Ok None)

  -- whether there is an inbound document of this number
  abbrev pub has_inbound : ℕ → Bool
  has_inbound doc = nat_le 1 doc && nat_le doc (length (applied_by log).application.documents)

  -- an inbound document of this number is passed to the application again, where its last status has this code
  abbrev pub asked_pass : Record → ℕ → ℕ → Asked
  asked_pass next code doc = if has_inbound doc then (if stands_at log code doc then Ok (Some next) else Err N8) else Err N3

  -- one that waits for the application is posted
  abbrev pub asked_app : ℕ → Asked
  asked_app doc = asked_pass (App (record { 0 = doc })) 64 doc

  -- one that was not posted is posted again
  abbrev pub asked_repost : ℕ → Asked
  asked_repost doc = asked_pass (Repost (record { 0 = doc })) 51 doc
