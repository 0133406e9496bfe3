-- How a command is judged by the tables of its system.
use Rattle.std.specs.Prelude.{◌≡◌, ⊤, Bool, true, false, List, Option, Some, None, Result, Ok, Err}
use Rattle.unit_core.specs.declared.records.Record.{Record}
use Rattle.unit_core.specs.declared.records.Record.TheVariants.{Put, App, Repost}
use Rattle.unit_codec.specs.Condition.{IsWritable}
use Rattle.status_log.specs.declared.refusal.Refusal.{Refusal}
use Rattle.status_log.specs.declared.refusal.Refusal.TheVariants.{N4, N10, N12, Volume, OutOfMemory}
use Rattle.application_rules.specs.declared.fault.MasterFault.{MasterFault}
use Rattle.application_rules.specs.declared.fault.MasterFault.TheVariants.{Syntax, Unknown}
use Rattle.trfc_protocol.specs.Legal.{is_commit, is_model}
use Rattle.document_state.specs.declared.made.Made.{Made}
use Rattle.document_state.specs.declared.made.Made.TheVariants.{Nothing, Brought, Sent}
use Rattle.document_state.specs.Made.{GoesWith}
use Rattle.landscape.specs.declared.wanted.Brings.{Brings}
use Rattle.landscape.specs.declared.wanted.Changes.{Changes}
use Rattle.landscape.specs.declared.wanted.Commits.{Commits}
use Rattle.landscape.specs.Asked.{Asked}

-- the records that an operator asks of the application: a Put, an App and a Repost
abbrev pub is_applications : Record → Bool
is_applications (Put kind key fields) = true
is_applications (App doc) = true
is_applications (Repost doc) = true
is_applications _ = false

-- what a command wants that is known to want something, or to ask for nothing
abbrev pub IsOrNone : {W : Type 0} → (W → Type 0) → Asked → Option W → Type 0
IsOrNone wants asked None = asked ≡ Ok None
IsOrNone wants asked (Some wanted) = wants wanted

-- a command was judged as it asks, and what it wants is so; memory may have been wanting, and no volume is called
abbrev pub JudgedAs : {W : Type 0} → (W → Type 0) → Asked → Result W Refusal → Type 0
JudgedAs wants asked (Ok wanted) = wants wanted
JudgedAs wants asked (Err OutOfMemory) = ⊤
JudgedAs wants asked (Err Volume) = ⊥
JudgedAs wants asked (Err (N10 size)) = ⊥
JudgedAs wants asked (Err refusal) = asked ≡ Err refusal

-- a log, and what a command asks for there
module _ (log : List Record) (asked : Asked) where
  -- a record of this kind is asked for, what was made goes with it, and it can be written
  pub record IsWanted (kind : Record → Bool) (next : Record) (made : Made) : Type 0 where
    pub record_asked : asked ≡ Ok (Some next)
    pub its_kind : kind next ≡ true
    pub goes : GoesWith log next made
    pub writable : IsWritable next

  -- documents are to be committed, and this is what they add
  abbrev pub WantsCommits : Commits → Type 0
  WantsCommits wanted = IsWanted is_commit wanted.next (Sent wanted.added)

  -- the application is to be changed
  abbrev pub WantsChanges : Changes → Type 0
  WantsChanges wanted = IsWanted is_applications wanted.next Nothing

  -- a model is to come into force
  abbrev pub WantsModel : Brings → Type 0
  WantsModel wanted = IsWanted is_model wanted.next (Brought (Some wanted.model))

  -- a command that commits documents was judged as it asks
  abbrev pub JudgedCommits : Result Commits Refusal → Type 0
  JudgedCommits judged = JudgedAs WantsCommits asked judged

  -- the same of one that may ask for nothing
  abbrev pub JudgedCommitsOrNone : Result (Option Commits) Refusal → Type 0
  JudgedCommitsOrNone judged = JudgedAs (IsOrNone WantsCommits asked) asked judged

  -- the same of one that may bring a model
  abbrev pub JudgedModelOrNone : Result (Option Brings) Refusal → Type 0
  JudgedModelOrNone judged = JudgedAs (IsOrNone WantsModel asked) asked judged

  -- the same of one that changes the application
  abbrev pub JudgedChanges : Result Changes Refusal → Type 0
  JudgedChanges judged = JudgedAs WantsChanges asked judged

-- whether a document may be a master, by its fault as one
abbrev pub IsMaster : {T : Type 0} → Option MasterFault → Result T Refusal → Type 0
IsMaster fault (Ok done) = fault ≡ None
IsMaster fault (Err OutOfMemory) = ⊤
IsMaster fault (Err N12) = fault ≡ Some Unknown
IsMaster fault (Err (N4 syntax)) = fault ≡ Some (Syntax syntax)
IsMaster fault (Err refusal) = ⊥
