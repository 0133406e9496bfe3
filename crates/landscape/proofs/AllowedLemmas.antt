-- What a command asks for may follow the log, by the model in force behind it.
use Rattle.std.specs.Prelude.{if◌then◌else◌, is_none, nat_le, slice_get}
use Rattle.std.specs.List.{list_all}
use Rattle.std.specs.Option.{option_map_or}
use Rattle.std.proofs.Common.{◌≡◌, ℕ, ◌≤◌, Bool, true, false, not, Option, Some, None, Ok, Err, List, [], ◌∷◌, length, refl, sym, ap, subst, ◌∙◌, arith}
use Rattle.std.proofs.lemmas.Bool.{and_from}
use Rattle.std.proofs.lemmas.Bool.Decides.{nat_tests}
use Rattle.std.proofs.lemmas.Option.{same_Some}
use Rattle.ale_base.specs.declared.change.Change.{Change}
use Rattle.dist_model.specs.declared.lists.Lists.{Lists}
use Rattle.dist_model.specs.declared.message.Message.{Message}
use Rattle.dist_model.specs.Model.{IsModel, message_named}
use Rattle.unit_core.specs.declared.raw_unit_doc.RawUnitDoc.{RawUnitDoc}
use Rattle.unit_core.specs.declared.records.Record.{Record}
use Rattle.unit_core.specs.declared.records.Record.TheVariants.{Commit, Dispatch, Put, App, Repost, Model}
use Rattle.model_growth.specs.declared.growth.Unkept.{Unkept}
use Rattle.model_growth.specs.Growth.{first_unkept}
use Rattle.model_growth.specs.Paths.{path_of}
use Rattle.said_models.specs.Said.{said}
use Rattle.said_models.specs.OfLog.{differs, model_of}
use Rattle.status_log.specs.declared.refusal.Refusal.{Refusal}
use Rattle.status_log.specs.declared.refusal.Refusal.TheVariants as refusal
use Rattle.status_log.specs.declared.refusal.Refusal.TheVariants.{N3, N4, N8, N11, N12, N13, N15}
use Rattle.change_pointers.specs.Master.{MakesDocuments}
use Rattle.application_rules.specs.declared.commits.TheConstants.{MOST_SEGMENTS}
use Rattle.application_rules.specs.declared.fault.MasterFault.{MasterFault}
use Rattle.application_rules.specs.declared.fault.MasterFault.TheVariants.{Syntax, Unknown, OutOfMemory}
use Rattle.application_rules.specs.Masters.{master_fault}
use Rattle.application_rules.specs.Gathered.{gathered}
use Rattle.application_rules.specs.Commits.{are_of, may_be_committed, may_commit}
use Rattle.application_rules.specs.Puts.{may_put}
use Rattle.application_rules.proofs.FollowLemmas.{gathered-may}
use Rattle.document_state.specs.OfLog.{applied_by}
use Rattle.document_state.specs.Allowed.{allowed_under, has_room, may_replace, stands_at, waits_any}
use Rattle.landscape.specs.Asked.{Asked, asked_app, asked_dispatch, asked_gather, asked_model, asked_pass, asked_put, asked_repost, asked_send, gathered_for}
use Rattle.landscape.specs.Asked.{gathered_or_none, has_inbound, sent_or_refused, units_with, waiting_in, with_room}

-- a command asks for this record
abbrev pub Gives : Asked → Record → Type 0
Gives asked next = asked ≡ Ok (Some next)

-- a test whose other outcome gives no record passed
passed : (b : Bool) (asked : Asked) (refused : Asked) (next : Record) → (Gives refused next → ⊥) → Gives (if b then asked else refused) next
    → (b ≡ true) × Gives asked next
passed true asked refused next not is = (refl, is)
passed false asked refused next not is = absurd (not is)

no-refusal : (why : Refusal) (next : Record) → Gives (Err why) next → ⊥
no-refusal why next is = cc

no-none : (next : Record) → Gives (Ok None) next → ⊥
no-none next is = cc

given : (one next : Record) → Gives (Ok (Some one)) next → one ≡ next
given one next is = cc

least : (n : ℕ) → nat_le 1 n ≡ true → 1 ≤ n
least n is = grind (arith, nat_tests, is)

within : (n most : ℕ) → n ≤ most → nat_le n most ≡ true
within n most is = grind (arith, nat_tests, is)

module _ (log : List Record) (model : Lists) (is : model_of log ≡ Some model) where
  -- under the model in force
  under : (asked : Lists → Asked) (next : Record) → Gives (option_map_or asked (model_of log) (Err N12)) next → Gives (asked model) next
  under asked next gives = sym (ap (λ found. option_map_or asked found (Err N12)) is) ∙ gives

  -- there is room for what is committed
  roomy : (one next : Record) → Gives (with_room log one) next → (has_room log one ≡ true) × (one ≡ next)
  roomy one next gives =
      let parts = passed (has_room log one) (Ok (Some one)) (Err (N11 (units_with log one))) next (no-refusal (N11 (units_with log one)) next) gives in
      (parts.0, given one next parts.1)

  -- a Commit of documents that may be committed
  commit-may : (origin : Option (List ℕ)) (docs : List RawUnitDoc) (next : Record) →
      may_commit model (applied_by log).application.objects (applied_by log).application.pointers origin docs ≡ true
      → Gives (with_room log (Commit origin docs)) next → allowed_under log model next ≡ true
  commit-may origin docs next may gives =
      let parts = roomy (Commit origin docs) next gives in
      subst (λ one. allowed_under log model one ≡ true) parts.1
      (and_from (may_commit model (applied_by log).application.objects (applied_by log).application.pointers origin docs)
      (has_room log (Commit origin docs)) may parts.0)

  master-may : (master : RawUnitDoc) → length master.segments ≤ MOST_SEGMENTS → master_fault model master ≡ None
      → may_commit model (applied_by log).application.objects (applied_by log).application.pointers None (master ∷ []) ≡ true
  master-may master short good =
      let one = and_from (nat_le (length master.segments) MOST_SEGMENTS) (is_none (master_fault model master))
      (within (length master.segments) MOST_SEGMENTS short) (ap is_none good) in
      and_from (are_of model (applied_by log).application.objects (applied_by log).application.pointers None (master ∷ []))
      (list_all (may_be_committed model) (master ∷ [])) refl
      (and_from (may_be_committed model master) true one refl)

  -- a master that is sent may be committed
  pub send-may : (master : RawUnitDoc) (next : Record) → length master.segments ≤ MOST_SEGMENTS → Gives (asked_send log master) next
      → allowed_under log model next ≡ true
  send-may master next short gives = of (master_fault model master) refl
      (under (λ m. sent_or_refused (with_room log) master (master_fault m master)) next gives)
    where
      of : (found : Option MasterFault) → master_fault model master ≡ found → Gives (sent_or_refused (with_room log) master found) next
          → allowed_under log model next ≡ true
      of None good sent = commit-may None (master ∷ []) next (master-may master short good) sent
      of (Some (Syntax fault)) fault_is sent = absurd (no-refusal (N4 fault) next sent)
      of (Some Unknown) fault_is sent = absurd (no-refusal N12 next sent)
      of (Some OutOfMemory) fault_is sent = absurd (no-refusal refusal.OutOfMemory next sent)

  -- so may what is gathered
  module _ (kept : IsModel model) where
    gathered-allowed : (message : ℕ) (type : Message) (next : Record) → slice_get model.messages message ≡ Some type →
        Gives (gathered_for log model message type) next
        → allowed_under log model next ≡ true
    gathered-allowed message type next here gives =
        let docs = gathered model (applied_by log).application.objects (applied_by log).application.pointers message in
        let parts = passed (nat_le 1 (length type.pointers)) (gathered_or_none (with_room log) type.name docs) (Ok None) next (no-none next) gives in
        let makes : MakesDocuments model message = record { type = type; here = here; listed = least (length type.pointers) parts.0 } in
        of docs refl makes parts.1
      where
        of : (docs : List RawUnitDoc) → gathered model (applied_by log).application.objects (applied_by log).application.pointers message ≡ docs →
            (makes : MakesDocuments model message)
            → Gives (gathered_or_none (with_room log) type.name docs) next → allowed_under log model next ≡ true
        of [] are makes sent = absurd (no-none next sent)
        of (doc ∷ docs) are makes sent =
            let made : makes.type ≡ type = same_Some makes.type type (sym makes.here ∙ here) in
            let some : 1 ≤ length (gathered model (applied_by log).application.objects (applied_by log).application.pointers message) = let count = ap length
            are in omega (arith, count) in
            let may = gathered-may model message kept makes (applied_by log).application.objects (applied_by log).application.pointers some in
            commit-may (Some type.name) (doc ∷ docs) next
            (ap (λ docs. may_commit model (applied_by log).application.objects (applied_by log).application.pointers (Some type.name) docs) (sym are)
            ∙ ap (λ (t : Message). may_commit model (applied_by log).application.objects (applied_by log).application.pointers (Some t.name)
            (gathered model (applied_by log).application.objects (applied_by log).application.pointers message)) (sym made)
            ∙ may) sent

    pub gather-may : (name : List ℕ) (next : Record) → Gives (asked_gather log name) next → allowed_under log model next ≡ true
    gather-may name next gives =
        of (message_named name model)
        (under (λ m. option_map_or (λ message. option_map_or (gathered_for log m message) (slice_get m.messages message) (Ok None)) (message_named name m)
        (Err N12)) next gives)
      where
        at : (message : ℕ) (found : Option Message) → slice_get model.messages message ≡ found →
            Gives (option_map_or (gathered_for log model message) found (Ok None)) next
            → allowed_under log model next ≡ true
        at message None here sent = absurd (no-none next sent)
        at message (Some type) here sent = gathered-allowed message type next here sent

        of : (found : Option ℕ) → Gives (option_map_or (λ message. option_map_or (gathered_for log model message) (slice_get model.messages message) (Ok None))
            found (Err N12)) next
            → allowed_under log model next ≡ true
        of None sent = absurd (no-refusal N12 next sent)
        of (Some message) sent = at message (slice_get model.messages message) refl sent

  -- so may what waits
  pub dispatch-may : (next : Record) → Gives (asked_dispatch log) next → allowed_under log model next ≡ true
  dispatch-may next gives =
      let parts = passed (waits_any log) (with_room log Dispatch) (Ok None) next (no-none next)
      (under (λ m. if waits_any log then with_room log Dispatch else Ok None) next gives) in
      let room = roomy Dispatch next parts.1 in
      subst (λ one. allowed_under log model one ≡ true) room.1 (and_from (waits_any log) (has_room log Dispatch) parts.0 room.0)

  -- an object may get the values
  pub put-may : (change : Change) (next : Record) → Gives (asked_put log change) next → allowed_under log model next ≡ true
  put-may change next gives =
      let one = Put change.kind change.key change.fields in
      let parts = passed (may_put model change.kind change.key change.fields) (Ok (Some one)) (Err N12) next (no-refusal N12 next)
      (under (λ m. if may_put m change.kind change.key change.fields then Ok (Some one) else Err N12) next gives) in
      subst (λ one. allowed_under log model one ≡ true) (given one next parts.1) parts.0

  pass-may : (one next : Record) (code doc : ℕ) → Gives (asked_pass log one code doc) next → (stands_at log code doc ≡ true) × (one ≡ next)
  pass-may one next code doc gives =
      let there = passed (has_inbound log doc) (if stands_at log code doc then Ok (Some one) else Err N8) (Err N3) next (no-refusal N3 next) gives in
      let stands = passed (stands_at log code doc) (Ok (Some one)) (Err N8) next (no-refusal N8 next) there.1 in
      (stands.0, given one next stands.1)

  -- a document may be passed to the application again
  pub app-may : (doc : ℕ) (next : Record) → Gives (asked_app log doc) next → allowed_under log model next ≡ true
  app-may doc next gives =
      let parts = pass-may (App (record { 0 = doc })) next 64 doc gives in
      subst (λ one. allowed_under log model one ≡ true) parts.1 parts.0

  pub repost-may : (doc : ℕ) (next : Record) → Gives (asked_repost log doc) next → allowed_under log model next ≡ true
  repost-may doc next gives =
      let parts = pass-may (Repost (record { 0 = doc })) next 51 doc gives in
      subst (λ one. allowed_under log model one ≡ true) parts.1 parts.0

  -- a model may come into force that keeps what runs, where no document waits
  pub model-may : (new : Lists) (text : List ℕ) (next : Record) → said text ≡ Some new → Gives (asked_model log new text) next
      → allowed_under log model next ≡ true
  model-may new text next says gives =
      let asks = λ (found : Option Unkept). option_map_or (λ part. Err (N15 (path_of part))) found (if waits_any log then Err (N13 (waiting_in log)) else
      Ok (Some (Model text))) in
      let parts = passed (differs text log) (asks (first_unkept model new)) (Ok None) next (no-none next)
      (under (λ m. if differs text log then asks (first_unkept m new) else Ok None) next gives) in
      keeps (first_unkept model new) refl parts.1
    where
      waits : first_unkept model new ≡ None → (b : Bool) → waits_any log ≡ b
          → Gives (if b then Err (N13 (waiting_in log)) else Ok (Some (Model text))) next → allowed_under log model next ≡ true
      waits kept true is gives = absurd (no-refusal (N13 (waiting_in log)) next gives)
      waits kept false is gives =
          subst (λ one. allowed_under log model one ≡ true) (given (Model text) next gives)
          (and_from (not (waits_any log)) (may_replace model text) (ap not is)
          (ap (λ found. option_map_or (λ n. is_none (first_unkept model n)) found false) says ∙ ap is_none kept))

      keeps : (found : Option Unkept) → first_unkept model new ≡ found
          → Gives (option_map_or (λ part. Err (N15 (path_of part))) found (if waits_any log then Err (N13 (waiting_in log)) else Ok (Some (Model text)))) next
          → allowed_under log model next ≡ true
      keeps (Some part) is gives = absurd (no-refusal (N15 (path_of part)) next gives)
      keeps None is gives = waits is (waits_any log) refl gives
