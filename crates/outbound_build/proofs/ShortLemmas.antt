-- Documents of a log have no more segments than the masters that were committed.
use Rattle.std.specs.Prelude.{fold, map, filter, slice_get, ◌==◌, option_and_then, if◌then◌else◌}
use Rattle.std.specs.List.{AllByRecursion, cons_option}
use Rattle.std.specs.Option.{option_map_or}
use Rattle.std.proofs.Common.{◌≡◌, ℕ, zero, suc, ◌+◌, ◌≤◌, Bool, true, false, Option, Some, None, Result, Ok, Err, List, [], ◌∷◌, length, refl, ap, subst}
use Rattle.std.proofs.Common.{arith}
use Rattle.std.proofs.lemmas.List.{length-map}
use Rattle.ale_base.proofs.ListLemmas.{AllByRecursion-append, AllByRecursion-at, AllByRecursion-flat_map, AllByRecursion-map, AllByRecursion-of}
use Rattle.ale_base.specs.declared.queue_name.NameFault.{NameFault}
use Rattle.dist_model.specs.declared.lists.Lists.{Lists}
use Rattle.dist_model.specs.declared.outbound.Outbound.{Outbound}
use Rattle.dist_model.specs.Model.{IsModel, outbound_of, receivers_of}
use Rattle.dist_model.specs.Named.{idoc_type_name_of}
use Rattle.idoc_tree.specs.declared.fault.SyntaxFault.{SyntaxFault}
use Rattle.idoc_tree.specs.Forest.{Forest, preorder}
use Rattle.idoc_tree.specs.Lines.{line_of}
use Rattle.idoc_reading.specs.Reading.{ReadDocument, read_by_type}
use Rattle.idoc_reading.proofs.ReadingLemmas.{read-each}
use Rattle.unit_core.specs.declared.raw_unit_doc.RawUnitDoc.{RawUnitDoc}
use Rattle.unit_core.specs.declared.records.Record.{Record}
use Rattle.unit_core.specs.declared.records.Record.TheVariants.{Commit, Dispatch}
use Rattle.log_models.specs.InForce.{in_force}
use Rattle.outbound_build.specs.declared.added.Added.{Added}
use Rattle.outbound_build.specs.declared.added.Fate.{Fate}
use Rattle.outbound_build.specs.declared.added.Fate.TheVariants.{Sent, Waits, Refused}
use Rattle.outbound_build.specs.declared.added.OutDocument.{OutDocument}
use Rattle.outbound_build.specs.declared.added.OutUnit.{OutUnit}
use Rattle.outbound_build.specs.declared.added.Waiting.{Waiting}
use Rattle.outbound_build.specs.declared.batch.Batch.{Batch}
use Rattle.outbound_build.specs.declared.outbox.Outbox.{Outbox}
use Rattle.outbound_build.specs.declared.parcel.Parcel.{Parcel}
use Rattle.outbound_build.specs.declared.queue_lists.QueueLists.{QueueLists}
use Rattle.outbound_build.specs.Document.{Document, carried}
use Rattle.outbound_build.specs.QueueNames.{queues_by}
use Rattle.outbound_build.specs.Sent.{sent}
use Rattle.outbound_build.specs.Added.{Master, added_by, batch_of, built_master, dispatched, may_be_of, no_batch, numbered, packed, packed_for}
use Rattle.outbound_build.specs.Added.{master_read, packets, rows_of, still_waiting, waiting_for, waits_as, waits_of, with_document, with_master, with_row}
use Rattle.outbound_build.specs.Added.{with_rows, with_sent, with_unit}
use Rattle.outbound_build.specs.Committed.{Past, adds, no_more, no_past, past_after, past_of, units_of}
use Rattle.outbound_build.specs.Units.{HasShort, IsShort}
use Rattle.outbound_build.proofs.PacketLemmas.{packets-all}
use Rattle.outbound_build.proofs.SizeLemmas.{size, size-sent}

-- a fold keeps what each of its steps keeps
fold-step : {A B : Type 0} (P : B → Type 0) (f : B → A → B) (b : B) (xs : List A) → ((c : B) (x : A) → P c → P (f c x)) → P b → P (fold f b xs)
fold-step P f b [] step is = is
fold-step P f b (x ∷ xs) step is = fold-step P f (f b x) xs step (step b x is)

All-filter : {A : Type 0} (P : A → Type 0) (test : A → Bool) (xs : List A) → AllByRecursion P xs → AllByRecursion P (filter test xs)
All-filter P test [] all = tt
All-filter {A} P test (x ∷ xs) all = by_test (test x) (All-filter P test xs all.1)
  where
    by_test : (b : Bool) → AllByRecursion P (filter test xs) → AllByRecursion P (if b then x ∷ filter test xs else filter test xs)
    by_test true rest = (all.0, rest)
    by_test false rest = rest

-- the documents of a batch have at most so many segments: those that are told, and those that units carry
record IsShortBatch (most : ℕ) (batch : Batch) : Type 0 where
  pub documents : AllByRecursion (λ one. IsShort most one.document) batch.documents
  pub parcels : AllByRecursion (λ parcel. AllByRecursion (IsShort most) parcel.docs) batch.parcels

module _ (most : ℕ) (model : Lists) (kept : IsModel model) where
  with_document-short : (number row : ℕ) (document : RawUnitDoc) (fate : Fate) (parcels : List Parcel) (batch : Batch) → IsShort most document
      → AllByRecursion (λ parcel. AllByRecursion (IsShort most) parcel.docs) parcels → IsShortBatch most batch
      → IsShortBatch most (with_document number row document fate parcels batch)
  with_document-short number row document fate parcels batch short all is = record {
    documents = AllByRecursion-append (λ (one : OutDocument). IsShort most one.document) batch.documents _ is.documents (short, tt);
    parcels = AllByRecursion-append (λ (parcel : Parcel). AllByRecursion (IsShort most) parcel.docs) batch.parcels parcels is.parcels all;
  }

  with_unit-short : (number row : ℕ) (profile : Outbound) (document : RawUnitDoc) (batch : Batch) (queues : Result QueueLists NameFault) → IsShort most document
      → IsShortBatch most batch → IsShortBatch most (with_unit number row profile document batch queues)
  with_unit-short number row profile document batch (Ok queues) short is = with_document-short number row document Sent _ batch short ((short, tt), tt) is
  with_unit-short number row profile document batch (Err fault) short is = with_document-short number row document (Refused fault) [] batch short tt is

  with_sent-short : (number row : ℕ) (profile : Outbound) (batch : Batch) (document : Document) → size document.forest ≤ most
      → IsShortBatch most batch → IsShortBatch most (with_sent model number row profile batch document)
  with_sent-short number row profile batch document short is = by_mode (profile.outmod == 4)
    where
      few : IsShort most (carried model.definitions document)
      few = omega (arith, length-map (preorder document.forest) (line_of model.definitions), short)

      by_mode : (b : Bool) → IsShortBatch most (if b then with_document number row (carried model.definitions document) Waits [] batch
          else with_unit number row profile (carried model.definitions document) batch (queues_by model document.forest profile))
      by_mode true = with_document-short number row (carried model.definitions document) Waits [] batch few tt is
      by_mode false = with_unit-short number row profile (carried model.definitions document) batch (queues_by model document.forest profile) few is

  with_row-short : (before : ℕ) (master : Document) (batch : Batch) (row : ℕ) → size master.forest ≤ most → IsShortBatch most batch
      → IsShortBatch most (with_row model before master batch row)
  with_row-short before master batch row short is = of_profile (outbound_of model row)
    where
      number : ℕ
      number = before + length batch.documents + 1

      of_sent : (profile : Outbound) (o : Option Document) → sent model row number master ≡ o
          → IsShortBatch most (option_map_or (with_sent model number row profile batch) o batch)
      of_sent profile None made = is
      of_sent profile (Some document) made =
          with_sent-short number row profile batch document (omega (arith, size-sent model row number master document made, short)) is

      of_profile : (o : Option Outbound)
          → IsShortBatch most (option_map_or (λ profile. option_map_or (with_sent model number row profile batch) (sent model row number master) batch) o batch)
      of_profile None = is
      of_profile (Some profile) = of_sent profile (sent model row number master) refl

  with_rows-short : (system before : ℕ) (batch : Batch) (master : Master) → size master.document.forest ≤ most → IsShortBatch most batch
      → IsShortBatch most (with_rows model system before batch master)
  with_rows-short system before batch master short is =
      fold-step (IsShortBatch most) (with_row model before master.document) batch (receivers_of system master.message model)
      (λ b row so_far. with_row-short before master.document b row short so_far) is

  read-short : (doc : RawUnitDoc) (read : ReadDocument) (master : Master) → read_by_type model doc.control doc.segments ≡ Some read
      → master_read model doc.control read ≡ Some master → size master.document.forest ≤ length doc.segments
  read-short doc read master found is = by_type (may_be_of doc.control (idoc_type_name_of model read.message)) is
    where
      by_built : (r : Result Forest SyntaxFault) → read.made ≡ r → built_master read.message doc.control r ≡ Some master
          → size master.document.forest ≤ length doc.segments
      by_built (Err fault) made is = absurd (cc)
      by_built (Ok forest) made is =
          let same : forest ≡ master.document.forest = ap (λ (o : Option Master). option_map_or (λ (m : Master). m.document.forest) o forest) is in
          subst (λ (f : Forest). size f ≤ length doc.segments) same
          (omega (arith, read-each model doc.control doc.segments read forest kept found made))

      by_type : (b : Bool) → (if b then built_master read.message doc.control read.made else None) ≡ Some master
          → size master.document.forest ≤ length doc.segments
      by_type true is = by_built read.made refl is
      by_type false is = absurd (cc)

  with_master-short : (system before : ℕ) (batch : Batch) (doc : RawUnitDoc) → IsShort most doc → IsShortBatch most batch
      → IsShortBatch most (with_master model system before batch doc)
  with_master-short system before batch doc short is = of_reading (read_by_type model doc.control doc.segments) refl
    where
      of_master : (read : ReadDocument) → read_by_type model doc.control doc.segments ≡ Some read
          → (o : Option Master) → master_read model doc.control read ≡ o → IsShortBatch most (option_map_or (with_rows model system before batch) o batch)
      of_master read found None made = is
      of_master read found (Some master) made =
          with_rows-short system before batch master (omega (arith, read-short doc read master found made, short)) is

      of_reading : (o : Option ReadDocument) → read_by_type model doc.control doc.segments ≡ o
          → IsShortBatch most (option_map_or (with_rows model system before batch) (option_and_then (master_read model doc.control) o) batch)
      of_reading None found = is
      of_reading (Some read) found = of_master read found (master_read model doc.control read) refl

  masters-short : (system before : ℕ) (batch : Batch) (docs : List RawUnitDoc) → AllByRecursion (IsShort most) docs → IsShortBatch most batch
      → IsShortBatch most (fold (with_master model system before) batch docs)
  masters-short system before batch [] all is = is
  masters-short system before batch (doc ∷ docs) all is =
      masters-short system before (with_master model system before batch doc) docs all.1 (with_master-short system before batch doc all.0 is)

  packed-short : (profile : Outbound) (found : List (List Waiting)) → AllByRecursion (λ packet. AllByRecursion (λ one. IsShort most one.document) packet) found
      → AllByRecursion (λ parcel. AllByRecursion (IsShort most) parcel.docs) (map (packed profile) found)
  packed-short profile [] all = tt
  packed-short profile (packet ∷ found) all =
      (AllByRecursion-map (IsShort most) (λ (one : Waiting). one.document) packet all.0, packed-short profile found all.1)

  packed_for-short : (waiting : List Waiting) → AllByRecursion (λ one. IsShort most one.document) waiting → (row : ℕ)
      → AllByRecursion (λ parcel. AllByRecursion (IsShort most) parcel.docs) (packed_for model waiting row)
  packed_for-short waiting all row = of_profile (outbound_of model row)
    where
      of_profile : (o : Option Outbound) → AllByRecursion (λ parcel. AllByRecursion (IsShort most) parcel.docs)
          (option_map_or (λ profile. map (packed profile) (packets profile.packet (waiting_for row waiting))) o [])
      of_profile None = tt
      of_profile (Some profile) =
          packed-short profile (packets profile.packet (waiting_for row waiting))
          (packets-all (λ (one : Waiting). IsShort most one.document) profile.packet (waiting_for row waiting)
          (All-filter (λ (one : Waiting). IsShort most one.document) (λ one. one.row == row) waiting all))

  dispatched-short : (system : ℕ) (waiting : List Waiting) → AllByRecursion (λ one. IsShort most one.document) waiting
      → AllByRecursion (λ parcel. AllByRecursion (IsShort most) parcel.docs) (dispatched model system waiting)
  dispatched-short system waiting all =
      (AllByRecursion-flat_map (λ (parcel : Parcel). AllByRecursion (IsShort most) parcel.docs) (packed_for model waiting) (rows_of system model)).0
      (AllByRecursion-of (λ (row : ℕ). AllByRecursion (λ (parcel : Parcel). AllByRecursion (IsShort most) parcel.docs) (packed_for model waiting row))
      (packed_for-short waiting all) (rows_of system model))

  batch-short : (system : ℕ) (outbox : Outbox) (next : Record) → HasShort most next → AllByRecursion (λ one. IsShort most one.document) outbox.waiting
      → IsShortBatch most (batch_of model system outbox next)
  batch-short system outbox (Commit origin docs) short all = masters-short system outbox.documents no_batch docs short (record { documents = tt; parcels = tt })
  batch-short system outbox Dispatch short all = record { documents = tt; parcels = dispatched-short system outbox.waiting all }
  batch-short system outbox _ short all = record { documents = tt; parcels = tt }

-- what a record adds has at most so many segments in each document
record IsShortMore (most : ℕ) (more : Added) : Type 0 where
  pub documents : AllByRecursion (λ one. IsShort most one.document) more.documents
  pub units : AllByRecursion (λ one. AllByRecursion (IsShort most) one.unit.docs) more.units

numbered-short : (most system number : ℕ) (parcels : List Parcel) → AllByRecursion (λ parcel. AllByRecursion (IsShort most) parcel.docs) parcels
    → AllByRecursion (λ one. AllByRecursion (IsShort most) one.unit.docs) (numbered system number parcels)
numbered-short most system number [] all = tt
numbered-short most system number (parcel ∷ parcels) all = (all.0, numbered-short most system (suc number) parcels all.1)

adds-short : (most : ℕ) (models : List Lists) (past : Past) (next : Record) → AllByRecursion IsModel models → HasShort most next
    → AllByRecursion (λ one. IsShort most one.document) past.outbox.waiting → IsShortMore most (adds models past next)
adds-short most models past next each short waiting = of_count past.models
  where
    of_place : (place : ℕ) (o : Option Lists) → slice_get models place ≡ o
        → IsShortMore most (option_map_or (λ model. added_by model past.system past.outbox next) o no_more)
    of_place place None here = record { documents = tt; units = tt }
    of_place place (Some model) here =
        let batch = batch_of model past.system past.outbox next in
        let is = batch-short most model (AllByRecursion-at IsModel models place model each here) past.system past.outbox next short waiting in
        record { documents = is.documents; units = numbered-short most past.system (suc past.outbox.units) batch.parcels is.parcels }

    of_count : (count : ℕ) → IsShortMore most (option_map_or (λ model. added_by model past.system past.outbox next) (in_force models count) no_more)
    of_count zero = record { documents = tt; units = tt }
    of_count (suc place) = of_place place (slice_get models place) refl

waits-short : (most : ℕ) (documents : List OutDocument) → AllByRecursion (λ one. IsShort most one.document) documents
    → AllByRecursion (λ one. IsShort most one.document) (waits_of documents)
waits-short most [] all = tt
waits-short most (document ∷ documents) all = of_fate document.fate (waits-short most documents all.1)
  where
    of_fate : (fate : Fate) → AllByRecursion (λ one. IsShort most one.document) (waits_of documents)
        → AllByRecursion (λ one. IsShort most one.document) (cons_option (waits_as document fate) (waits_of documents))
    of_fate Waits rest = (all.0, rest)
    of_fate Sent rest = rest
    of_fate (Refused fault) rest = rest

still-short : (most : ℕ) (next : Record) (waiting : List Waiting) → AllByRecursion (λ one. IsShort most one.document) waiting
    → AllByRecursion (λ one. IsShort most one.document) (still_waiting next waiting)
still-short most Dispatch waiting all = tt
still-short most _ waiting all = all

-- the documents that wait and those of the units have at most so many segments
record IsShortPast (most : ℕ) (past : Past) : Type 0 where
  pub waiting : AllByRecursion (λ one. IsShort most one.document) past.outbox.waiting
  pub units : AllByRecursion (λ one. AllByRecursion (IsShort most) one.unit.docs) past.units

past-short : (most : ℕ) (models : List Lists) (log : List Record) (past : Past) → AllByRecursion IsModel models → AllByRecursion (HasShort most) log
    → IsShortPast most past
    → IsShortPast most (fold (past_after models) past log)
past-short most models [] past each short is = is
past-short most models (next ∷ rest) past each short is =
    let more = adds-short most models past next each short.0 is.waiting in
    past-short most models rest (past_after models past next) each short.1 (record {
      waiting =
          AllByRecursion-append (λ (one : Waiting). IsShort most one.document) (still_waiting next past.outbox.waiting)
          (waits_of (adds models past next).documents)
          (still-short most next past.outbox.waiting is.waiting) (waits-short most (adds models past next).documents more.documents);
      units =
          AllByRecursion-append (λ (one : OutUnit). AllByRecursion (IsShort most) one.unit.docs) past.units (adds models past next).units is.units more.units;
    })

-- where the masters of a log have at most so many segments, so have the documents of its units
pub units-short : (most : ℕ) (models : List Lists) (log : List Record) → AllByRecursion IsModel models → AllByRecursion (HasShort most) log
    → AllByRecursion (λ one. AllByRecursion (IsShort most) one.unit.docs) (units_of models log)
unfolding past_of
units-short most models log each short = (past-short most models log no_past each short (record { waiting = tt; units = tt })).units
