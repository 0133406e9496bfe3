-- Every outbound document of a log: its number.
use Rattle.std.specs.Prelude.{⊤, fold, slice_get, ◌==◌, if◌then◌else◌}
use Rattle.std.specs.Option.{option_map_or}
use Rattle.std.proofs.Common.{◌≡◌, ℕ, zero, suc, ◌+◌, Bool, true, false, Option, Some, None, Result, Ok, Err, List, [], ◌∷◌, ◌++◌, length, refl, ◌∙◌, subst}
use Rattle.std.proofs.Common.{arith}
use Rattle.ale_base.specs.declared.queue_name.NameFault.{NameFault}
use Rattle.dist_model.specs.declared.lists.Lists.{Lists}
use Rattle.dist_model.specs.declared.outbound.Outbound.{Outbound}
use Rattle.dist_model.specs.Model.{outbound_of, receivers_of}
use Rattle.log_models.specs.InForce.{in_force}
use Rattle.unit_core.specs.declared.raw_unit_doc.RawUnitDoc.{RawUnitDoc}
use Rattle.unit_core.specs.declared.records.Record.{Record}
use Rattle.unit_core.specs.declared.records.Record.TheVariants.{Commit, Dispatch}
use Rattle.outbound_build.specs.declared.added.Fate.{Fate}
use Rattle.outbound_build.specs.declared.added.Fate.TheVariants.{Sent, Waits, Refused}
use Rattle.outbound_build.specs.declared.added.OutDocument.{OutDocument}
use Rattle.outbound_build.specs.declared.batch.Batch.{Batch}
use Rattle.outbound_build.specs.declared.outbox.Outbox.{Outbox}
use Rattle.outbound_build.specs.declared.parcel.Parcel.{Parcel}
use Rattle.outbound_build.specs.declared.queue_lists.QueueLists.{QueueLists}
use Rattle.outbound_build.specs.Document.{Document, carried}
use Rattle.outbound_build.specs.QueueNames.{queues_by}
use Rattle.outbound_build.specs.Sent.{sent}
use Rattle.outbound_build.specs.Added.{Master, added_by, batch_of, master_of, no_batch, parcel_of, with_document, with_master, with_row, with_rows, with_sent}
use Rattle.outbound_build.specs.Added.{with_unit}
use Rattle.outbound_build.specs.Committed.{Past, adds, documents_of, no_more, past_of}
use Rattle.outbound_build.proofs.LogLemmas.{IsCounted, counted-after, past-keeps}

-- documents are numbered on from this number
abbrev AreFrom : ℕ → List OutDocument → Type 0
AreFrom number [] = ⊤
AreFrom number (one ∷ others) = (one.number.0 ≡ number) × AreFrom (suc number) others

AreFrom-append : (number : ℕ) (first second : List OutDocument) → AreFrom number first → AreFrom (number + length first) second
    → AreFrom number (first ++ second)
AreFrom-append number [] second one two = let same : number + 0 ≡ number = omega arith in subst (λ (n : ℕ). AreFrom n second) same two
AreFrom-append number (document ∷ first) second one two =
    let same : number + suc (length first) ≡ suc number + length first = omega arith in
    (one.0, AreFrom-append (suc number) first second one.1 (subst (λ (n : ℕ). AreFrom n second) same two))

AreFrom-at : (number : ℕ) (documents : List OutDocument) (k : ℕ) (one : OutDocument) → AreFrom number documents → slice_get documents k ≡ Some one
    → one.number.0 ≡ number + k
AreFrom-at number [] k one all here = absurd (cc)
AreFrom-at number (first ∷ others) zero one all here =
    let same : first ≡ one = cc in
    let plain : number ≡ number + 0 = omega arith in
    subst (λ (d : OutDocument). d.number.0 ≡ number) same all.0 ∙ plain
AreFrom-at number (first ∷ others) (suc k) one all here =
    let same : suc number + k ≡ number + suc k = omega arith in
    AreFrom-at (suc number) others k one all.1 here ∙ same

either_has : {A : Type 0} (P : A → Type 0) (b : Bool) (x y : A) → P x → P y → P (if b then x else y)
either_has P true x y one two = one
either_has P false x y one two = two

module _ (model : Lists) (system before : ℕ) where
  -- the documents of a batch follow those before it
  abbrev Follows : Batch → Type 0
  Follows batch = AreFrom (suc before) batch.documents

  with_document-follows : (number row : ℕ) (document : RawUnitDoc) (fate : Fate) (parcels : List Parcel) (batch : Batch)
      → number ≡ suc before + length batch.documents → Follows batch → Follows (with_document number row document fate parcels batch)
  with_document-follows number row document fate parcels batch next all =
      AreFrom-append (suc before) batch.documents (record { number = record { 0 = number }; row = row; fate = fate; document = document } ∷ []) all (next, tt)

  with_unit-follows : (number row : ℕ) (profile : Outbound) (document : RawUnitDoc) (batch : Batch) (queues : Result QueueLists NameFault)
      → number ≡ suc before + length batch.documents → Follows batch → Follows (with_unit number row profile document batch queues)
  with_unit-follows number row profile document batch (Ok queues) next all =
      with_document-follows number row document Sent (parcel_of profile queues (record { 0 = number } ∷ []) (document ∷ []) ∷ []) batch next all
  with_unit-follows number row profile document batch (Err fault) next all = with_document-follows number row document (Refused fault) [] batch next all

  with_sent-follows : (number row : ℕ) (profile : Outbound) (batch : Batch) (document : Document) → number ≡ suc before + length batch.documents
      → Follows batch → Follows (with_sent model number row profile batch document)
  with_sent-follows number row profile batch document next all =
      either_has Follows (profile.outmod == 4) (with_document number row (carried model.definitions document) Waits [] batch)
      (with_unit number row profile (carried model.definitions document) batch (queues_by model document.forest profile))
      (with_document-follows number row (carried model.definitions document) Waits [] batch next all)
      (with_unit-follows number row profile (carried model.definitions document) batch (queues_by model document.forest profile) next all)

  with_row-follows : (master : Document) (batch : Batch) (row : ℕ) → Follows batch → Follows (with_row model before master batch row)
  with_row-follows master batch row all = of_profile (outbound_of model row)
    where
      number : ℕ
      number = before + length batch.documents + 1

      next : before + length batch.documents + 1 ≡ suc before + length batch.documents
      next = omega arith

      of_sent : (profile : Outbound) (o : Option Document) → Follows (option_map_or (with_sent model number row profile batch) o batch)
      of_sent profile None = all
      of_sent profile (Some document) = with_sent-follows number row profile batch document next all

      of_profile : (o : Option Outbound)
          → Follows (option_map_or (λ profile. option_map_or (with_sent model number row profile batch) (sent model row number master) batch) o batch)
      of_profile None = all
      of_profile (Some profile) = of_sent profile (sent model row number master)

  rows-follow : (master : Document) (batch : Batch) (rows : List ℕ) → Follows batch → Follows (fold (with_row model before master) batch rows)
  rows-follow master batch [] all = all
  rows-follow master batch (row ∷ rows) all =
      rows-follow master (with_row model before master batch row) rows (with_row-follows master batch row all)

  with_master-follows : (batch : Batch) (o : Option Master) → Follows batch → Follows (option_map_or (with_rows model system before batch) o batch)
  with_master-follows batch None all = all
  with_master-follows batch (Some master) all = rows-follow master.document batch (receivers_of system master.message model) all

  masters-follow : (batch : Batch) (docs : List RawUnitDoc) → Follows batch → Follows (fold (with_master model system before) batch docs)
  masters-follow batch [] all = all
  masters-follow batch (doc ∷ docs) all =
      masters-follow (with_master model system before batch doc) docs (with_master-follows batch (master_of model doc) all)

batch-follows : (model : Lists) (system : ℕ) (outbox : Outbox) (next : Record)
    → AreFrom (suc outbox.documents) (batch_of model system outbox next).documents
batch-follows model system outbox (Commit origin docs) = masters-follow model system outbox.documents no_batch docs tt
batch-follows model system outbox Dispatch = tt
batch-follows model system outbox _ = tt

-- the documents behind some records are numbered from 1
record IsNumberedPast (past : Past) : Type 0 where
  pub counted : IsCounted past
  pub all : AreFrom 1 past.documents

adds-follow : (models : List Lists) (past : Past) (next : Record) → IsCounted past → AreFrom (1 + length past.documents) (adds models past next).documents
adds-follow models past next is = under (in_force models past.models)
  where
    under : (o : Option Lists)
        → AreFrom (1 + length past.documents) (option_map_or (λ model. added_by model past.system past.outbox next) o no_more).documents
    under None = tt
    under (Some model) =
        let same : suc past.outbox.documents ≡ 1 + length past.documents = omega (arith, is.documents) in
        subst (λ (n : ℕ). AreFrom n (batch_of model past.system past.outbox next).documents) same (batch-follows model past.system past.outbox next)

past-numbered : (models : List Lists) (log : List Record) → IsNumberedPast (past_of models log)
past-numbered models log =
    past-keeps models IsNumberedPast (record { counted = record { documents = refl; units = refl }; all = tt })
    (λ past next is. record {
      counted = counted-after models past next is.counted;
      all = AreFrom-append 1 past.documents (adds models past next).documents is.all (adds-follow models past next is.counted);
    }) log

-- the document at place k has the number after k
pub documents-numbered : (models : List Lists) (log : List Record) (k : ℕ) (one : OutDocument) → slice_get (documents_of models log) k ≡ Some one
    → one.number.0 ≡ suc k
documents-numbered models log k one here =
    let same : 1 + k ≡ suc k = omega arith in
    AreFrom-at 1 (documents_of models log) k one (past-numbered models log).all here ∙ same
