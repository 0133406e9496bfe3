-- The documents that a record makes are for their rows, the documents of its units for the units' receivers, and what waits behind it for the
-- rows that it waits for.
use Rattle.std.specs.Prelude.{Contains, slice_get, nat_eq, fold, map, filter, ◌==◌, ◌&&◌, if◌then◌else◌}
use Rattle.std.specs.List.{AllByRecursion, cons_option, list_all}
use Rattle.std.specs.Option.{ForSome, option_map, option_map_or}
use Rattle.std.proofs.Common.{nat_le, ◌≡◌, ℕ, zero, suc, ◌+◌, ◌-◌, ◌≤◌, Bool, true, false, cond, Option, Some, None, Result, Ok, Err, List, [], ◌∷◌}
use Rattle.std.proofs.Common.{◌++◌, length, inl, inr, refl, sym, ap, subst, ◌∙◌, arith}
use Rattle.std.proofs.lemmas.Bool.{and_parts, eqb-true}
use Rattle.std.proofs.lemmas.Option.{same_Some, slice_get-map}
use Rattle.ale_base.specs.Blanks.{trimmed}
use Rattle.ale_base.proofs.ListLemmas.{AllByRecursion-append, AllByRecursion-at, AllByRecursion-flat_map, AllByRecursion-map, AllByRecursion-of, Contains-at}
use Rattle.ale_base.proofs.ListLemmas.{AllByRecursion-weaker, slice_get-within}
use Rattle.ale_base.specs.declared.queue_name.NameFault.{NameFault}
use Rattle.idoc_record.specs.declared.control_field.ControlField.{ControlField}
use Rattle.idoc_record.specs.declared.control_field.ControlField.TheVariants.{Mestyp, Rcvprn, Rcvprt, Sndprn, Sndprt}
use Rattle.idoc_record.specs.Control.{control_with, field_of}
use Rattle.idoc_record.proofs.FieldsLemmas.{field_of-control_with}
use Rattle.segment_defs.specs.Name.{is_name_byte, is_name_within}
use Rattle.segment_defs.proofs.NameLemmas.{name-trimmed}
use Rattle.dist_model.specs.declared.lists.Lists.{Lists}
use Rattle.dist_model.specs.declared.outbound.Outbound.{Outbound}
use Rattle.dist_model.specs.declared.row.Row.{Row}
use Rattle.dist_model.specs.declared.system.System.{System}
use Rattle.dist_model.specs.declared.message.Message.{Message}
use Rattle.dist_model.specs.declared.message.Reduced.{Reduced}
use Rattle.dist_model.specs.Message.{IsMessage, IsReduced}
use Rattle.dist_model.specs.Model.{HasSystem, IsModel, StandsForMessage, goes_from, outbound_of, receivers_of}
use Rattle.dist_model.specs.Named.{message_name, reduced_name, system_name}
use Rattle.dist_model.specs.Outbound.{IsOutbound, IsReductionOf}
use Rattle.dist_model.specs.System.{IsSystem}
use Rattle.idoc_tree.specs.Forest.{Forest, no_trees, tree}
use Rattle.unit_core.specs.declared.raw_unit_doc.RawUnitDoc.{RawUnitDoc}
use Rattle.unit_core.specs.declared.records.Record.{Record}
use Rattle.unit_core.specs.declared.records.Record.TheVariants.{Commit, Dispatch}
use Rattle.version_reduce.proofs.ProfileLemmas.{is_outbound, outbound_of-Contains}
use Rattle.outbound_build.specs.declared.added.Fate.{Fate}
use Rattle.outbound_build.specs.declared.added.Fate.TheVariants.{Sent, Waits, Refused}
use Rattle.outbound_build.specs.declared.added.OutDocument.{OutDocument}
use Rattle.outbound_build.specs.declared.added.Waiting.{Waiting}
use Rattle.outbound_build.specs.declared.batch.Batch.{Batch}
use Rattle.outbound_build.specs.declared.outbox.Outbox.{Outbox}
use Rattle.outbound_build.specs.declared.parcel.Parcel.{Parcel}
use Rattle.outbound_build.specs.declared.queue_lists.QueueLists.{QueueLists}
use Rattle.outbound_build.specs.Added.{Master, batch_of, dispatched, master_of, no_batch, numbered, packed, packed_for, packets, parcel_of, rows_of}
use Rattle.outbound_build.specs.Added.{still_waiting, waiting_for, waits_as, waits_of, with_document, with_master, with_row, with_rows}
use Rattle.outbound_build.specs.Added.{with_sent, with_unit}
use Rattle.outbound_build.specs.Addressed.{AreAddressed, AreMadeFor, AreUnitsAddressed, IsAddressed, IsForRow}
use Rattle.outbound_build.specs.ControlRecord.{control_text, sent_name}
use Rattle.outbound_build.specs.Document.{Document, carried}
use Rattle.outbound_build.specs.QueueNames.{queues_by}
use Rattle.outbound_build.specs.Sent.{kept_by, made_of, sent}
use Rattle.outbound_build.proofs.ControlLemmas.{texts-room}
use Rattle.outbound_build.proofs.PacketLemmas.{packets-all}
use Rattle.outbound_build.proofs.RowLemmas.{HasAt, places_from-pass, profile-row}
use Rattle.outbound_build.proofs.SentLemmas.{sent-by}

either_has : {A : Type 0} (P : A → Type 0) (b : Bool) (x y : A) → P x → P y → P (if b then x else y)
either_has P true x y one two = one
either_has P false x y one two = two

-- what holds of each element holds of each that passes
all-filter : {A : Type 0} (P Q : A → Type 0) (test : A → Bool) (xs : List A) → ((x : A) → P x → test x ≡ true → Q x) → AllByRecursion P xs
    → AllByRecursion Q (filter test xs)
all-filter P Q test [] told all = tt
all-filter {A} P Q test (x ∷ xs) told all = by_test (all-filter P Q test xs told all.1) (test x) refl
  where
    by_test : AllByRecursion Q (filter test xs) → (b : Bool) → test x ≡ b → AllByRecursion Q (cond b (x ∷ filter test xs) (filter test xs))
    by_test rest true is = (told x all.0 is, rest)
    by_test rest false is = rest

-- the text of a field that has the name of a system of the model names it
names-system : (model : Lists) → IsModel model → (number : ℕ) (text : List ℕ) → 1 ≤ number → number ≤ length model.systems
    → text ≡ trimmed (system_name model number) → HasSystem model text number
names-system model kept zero text least most is = absurd (omega (arith, least))
names-system model kept (suc place) text least most is =
    let name : System → List ℕ = λ system. system.name in
    let got = slice_get-within model.systems place (omega (arith, most)) in
    let keeps = AllByRecursion-at IsSystem model.systems place got.0 kept.systems.each got.1 in
    let before : suc place - 1 ≡ place = omega arith in
    let own : system_name model (suc place) ≡ name got.0
    = ap (λ (o : Option System). option_map_or name o []) (ap (λ (n : ℕ). slice_get model.systems n) before ∙ got.1) in
    record {
      place = place;
      counted = refl;
      named = slice_get-map name model.systems place ∙ ap (option_map name) got.1
          ∙ ap Some (sym (is ∙ ap trimmed own ∙ name-trimmed (name got.0) (bytes (name got.0) keeps.named)));
    }
  where
    bytes : (text : List ℕ) → is_name_within 10 text ≡ true → list_all is_name_byte text ≡ true
    bytes text is =
        let rest = and_parts (nat_le 1 (length text)) (nat_le (length text) 10 && list_all is_name_byte text) is in
        (and_parts (nat_le (length text) 10) (list_all is_name_byte text) rest.1).1

-- the text of a field that has the name of what a profile sends stands for the profile's message type
names-message : (model : Lists) → IsModel model → (profile : Outbound) → Contains model.outbound profile → (text : List ℕ)
    → text ≡ trimmed (sent_name model profile) → StandsForMessage model text profile.message
names-message model kept profile among text is = by_reduced profile.reduced own.reduction is
  where
    own : IsOutbound (length model.releases) (length model.systems) model.definitions model.types model.messages model.reduced profile
    own = is_outbound model profile kept among

    by_reduced : (o : Option ℕ) → ForSome o (IsReductionOf model.reduced profile.message)
        → text ≡ trimmed (option_map_or (reduced_name model) o (message_name model profile.message)) → StandsForMessage model text profile.message
    by_reduced None none same =
        let name : Message → List ℕ = λ message. message.name in
        let got = slice_get-within model.messages profile.message own.way.message in
        let keeps = AllByRecursion-at (IsMessage model.definitions model.types model.kinds) model.messages profile.message got.0 kept.messages.each got.1 in
        let named : message_name model profile.message ≡ name got.0 = ap (λ (o : Option Message). option_map_or name o []) got.1 in
        inl (slice_get-map name model.messages profile.message ∙ ap (option_map name) got.1
        ∙ ap Some (sym (same ∙ ap trimmed named ∙ name-trimmed (name got.0) keeps.named.bytes)))
    by_reduced (Some place) reduction same =
        let is_of = reduction place refl in
        let one = is_of.one in
        let keeps = AllByRecursion-at (IsReduced model.definitions model.types model.messages) model.reduced place one kept.reduced.each is_of.here in
        let named : reduced_name model place ≡ one.name = ap (λ (o : Option Reduced). option_map_or (λ (r : Reduced). r.name) o []) is_of.here in
        inr (record {
          one = one;
          among = Contains-at model.reduced place one is_of.here;
          named = sym (same ∙ ap trimmed named ∙ name-trimmed one.name keeps.named.bytes);
          basic = is_of.own;
        })

made-control : (model : Lists) (profile : Outbound) (number : ℕ) (control : List ℕ) (kept : Forest) (document : Document)
    → made_of model profile number control kept ≡ Some document → document.control ≡ control_with (control_text model profile number control)
made-control model profile number control no_trees document made = absurd (cc)
made-control model profile number control (tree root below after) document made = ap (λ (its : Document). its.control) (sym (same_Some _ document made))

module _ (model : Lists) (kept : IsModel model) (system : ℕ) where
  -- what a profile makes is from its sender to its receiver
  profile-addressed : (profile : Outbound) (number : ℕ) (master : List ℕ) (document : RawUnitDoc) → Contains model.outbound profile
      → document.control ≡ control_with (control_text model profile number master) → IsAddressed model profile.sender profile.receiver document
  profile-addressed profile number master document among is =
      let ends = (is_outbound model profile kept among).way.ends in
      record {
        sends = names-system model kept profile.sender _ ends.sender_from ends.sender_to (read Sndprn);
        sends_as = read Sndprt;
        receives = names-system model kept profile.receiver _ ends.receiver_from ends.receiver_to (read Rcvprn);
        receives_as = read Rcvprt;
      }
    where
      texts : ControlField → List ℕ
      texts = control_text model profile number master

      read : (field : ControlField) → field_of document.control field ≡ trimmed (texts field)
      read field = ap (λ (bytes : List ℕ). field_of bytes field) is ∙ field_of-control_with texts field (texts-room model profile number master kept among)

  -- what a profile makes is named by its message type, or by a reduced one of it
  profile-named : (profile : Outbound) (number : ℕ) (master : List ℕ) (document : RawUnitDoc) → Contains model.outbound profile
      → document.control ≡ control_with (control_text model profile number master)
      → StandsForMessage model (field_of document.control Mestyp) profile.message
  profile-named profile number master document among is =
      let texts : ControlField → List ℕ = control_text model profile number master in
      names-message model kept profile among (field_of document.control Mestyp)
      (ap (λ (bytes : List ℕ). field_of bytes Mestyp) is ∙ field_of-control_with texts Mestyp (texts-room model profile number master kept among))

  -- a profile of a row goes where the row goes
  row-addressed : (row : ℕ) (of : Row) (profile : Outbound) (document : RawUnitDoc) → slice_get model.rows row ≡ Some of → of.sender ≡ system
      → outbound_of model row ≡ Some profile → IsAddressed model profile.sender profile.receiver document → IsAddressed model system of.receiver document
  row-addressed row of profile document here own found is =
      let way = profile-row model row of profile here found in
      subst (λ (s : ℕ). IsAddressed model s of.receiver document) (way.sender ∙ own)
      (subst (λ (r : ℕ). IsAddressed model profile.sender r document) way.receiver is)

  -- and what is for a row is for the receiver of the row's profile
  for-profile : (row : ℕ) (profile : Outbound) (document : RawUnitDoc) → outbound_of model row ≡ Some profile → IsForRow model system row document
      → IsAddressed model system profile.receiver document
  for-profile row profile document found is =
      subst (λ (r : ℕ). IsAddressed model system r document) (sym (profile-row model row is.of profile is.here found).receiver) is.addressed

  -- what is sent by a row of the system is for it
  sent-for : (row number : ℕ) (of : Row) (profile : Outbound) (master document : Document) → slice_get model.rows row ≡ Some of → of.sender ≡ system
      → outbound_of model row ≡ Some profile → sent model row number master ≡ Some document
      → IsForRow model system row (carried model.definitions document)
  sent-for row number of profile master document here own found made =
      let document_made = carried model.definitions document in
      let control = made-control model profile number master.control (kept_by model row master) document
      (sym (sent-by model row number master profile found) ∙ made) in
      record {
        of = of;
        here = here;
        own = own;
        addressed = row-addressed row of profile document_made here own found
            (profile-addressed profile number master.control document_made (outbound_of-Contains model row profile found) control);
        named = subst (StandsForMessage model (field_of document_made.control Mestyp)) (profile-row model row of profile here found).message
            (profile-named profile number master.control document_made (outbound_of-Contains model row profile found) control);
      }

  -- a parcel is for its receiver
  abbrev IsParcelAddressed : Parcel → Type 0
  IsParcelAddressed parcel = AllByRecursion (IsAddressed model system parcel.receiver) parcel.docs

  -- the documents of a batch are for their rows, and its parcels for their receivers
  record IsBatchAddressed (batch : Batch) : Type 0 where
    pub made : AreMadeFor model system batch.documents
    pub parcels : AllByRecursion IsParcelAddressed batch.parcels

  document-addressed : (number row : ℕ) (document : RawUnitDoc) (fate : Fate) (parcels : List Parcel) (batch : Batch) → IsForRow model system row document
      → AllByRecursion IsParcelAddressed parcels → IsBatchAddressed batch → IsBatchAddressed (with_document number row document fate parcels batch)
  document-addressed number row document fate parcels batch is more all = record {
    made = AllByRecursion-append (λ (one : OutDocument). IsForRow model system one.row one.document) batch.documents
        (record { number = record { 0 = number }; row = row; fate = fate; document = document } ∷ []) all.made (is, tt);
    parcels = AllByRecursion-append IsParcelAddressed batch.parcels parcels all.parcels more;
  }

  unit-addressed : (number row : ℕ) (profile : Outbound) (document : RawUnitDoc) (batch : Batch) (queues : Result QueueLists NameFault)
      → IsForRow model system row document → IsAddressed model system profile.receiver document → IsBatchAddressed batch
      → IsBatchAddressed (with_unit number row profile document batch queues)
  unit-addressed number row profile document batch (Err fault) is to all = document-addressed number row document (Refused fault) [] batch is tt all
  unit-addressed number row profile document batch (Ok queues) is to all =
      document-addressed number row document Sent (parcel_of profile queues (record { 0 = number } ∷ []) (document ∷ []) ∷ []) batch is ((to, tt), tt) all

  sent-addressed : (number row : ℕ) (profile : Outbound) (batch : Batch) (document : Document) → IsForRow model system row (carried model.definitions document)
      → IsAddressed model system profile.receiver (carried model.definitions document) → IsBatchAddressed batch
      → IsBatchAddressed (with_sent model number row profile batch document)
  sent-addressed number row profile batch document is to all =
      either_has IsBatchAddressed (profile.outmod == 4)
      (with_document number row (carried model.definitions document) Waits [] batch)
      (with_unit number row profile (carried model.definitions document) batch (queues_by model document.forest profile))
      (document-addressed number row (carried model.definitions document) Waits [] batch is tt all)
      (unit-addressed number row profile (carried model.definitions document) batch (queues_by model document.forest profile) is to all)

  row-batch : (before : ℕ) (master : Document) (batch : Batch) (row : ℕ) (of : Row) → slice_get model.rows row ≡ Some of → of.sender ≡ system
      → IsBatchAddressed batch → IsBatchAddressed (with_row model before master batch row)
  row-batch before master batch row of here own all = of_profile (outbound_of model row) refl
    where
      number : ℕ
      number = before + length batch.documents + 1

      of_sent : (profile : Outbound) → outbound_of model row ≡ Some profile → (o : Option Document) → sent model row number master ≡ o
          → IsBatchAddressed (option_map_or (with_sent model number row profile batch) o batch)
      of_sent profile found None made = all
      of_sent profile found (Some document) made =
          let is = sent-for row number of profile master document here own found made in
          sent-addressed number row profile batch document is (for-profile row profile (carried model.definitions document) found is) all

      of_profile : (o : Option Outbound) → outbound_of model row ≡ o
          → IsBatchAddressed
          (option_map_or (λ profile. option_map_or (with_sent model number row profile batch) (sent model row number master) batch) o batch)
      of_profile None found = all
      of_profile (Some profile) found = of_sent profile found (sent model row number master) refl

  rows-batch : (before message : ℕ) (master : Document) (batch : Batch) (rows : List ℕ) → AllByRecursion (HasAt (goes_from system message) model.rows) rows
      → IsBatchAddressed batch → IsBatchAddressed (fold (with_row model before master) batch rows)
  rows-batch before message master batch [] each all = all
  rows-batch before message master batch (row ∷ rows) each all =
      let of = each.0.element in
      let own = sym (eqb-true system of.sender (and_parts (nat_eq system of.sender) (nat_eq message of.message) each.0.passes).0) in
      rows-batch before message master (with_row model before master batch row) rows each.1
      (row-batch before master batch row of each.0.here own all)

  master-batch : (before : ℕ) (batch : Batch) (o : Option Master) → IsBatchAddressed batch
      → IsBatchAddressed (option_map_or (with_rows model system before batch) o batch)
  master-batch before batch None all = all
  master-batch before batch (Some master) all =
      rows-batch before master.message master.document batch (receivers_of system master.message model)
      (places_from-pass (goes_from system master.message) 0 [] model.rows refl) all

  masters-batch : (before : ℕ) (batch : Batch) (docs : List RawUnitDoc) → IsBatchAddressed batch
      → IsBatchAddressed (fold (with_master model system before) batch docs)
  masters-batch before batch [] all = all
  masters-batch before batch (doc ∷ docs) all =
      masters-batch before (with_master model system before batch doc) docs (master-batch before batch (master_of model doc) all)

  -- what is collected for a row is for the row's receiver
  packed_for-addressed : (waiting : List Waiting) → AreAddressed model system waiting → (row : ℕ)
      → AllByRecursion IsParcelAddressed (packed_for model waiting row)
  packed_for-addressed waiting all row = of_profile (outbound_of model row) refl
    where
      of_profile : (o : Option Outbound) → outbound_of model row ≡ o
          → AllByRecursion IsParcelAddressed (option_map_or (λ profile. map (packed profile) (packets profile.packet (waiting_for row waiting))) o [])
      of_profile None found = tt
      of_profile (Some profile) found =
          let to : Waiting → Type 0 = λ one. IsAddressed model system profile.receiver one.document in
          let each = all-filter (λ (one : Waiting). IsForRow model system one.row one.document) to (λ one. one.row == row) waiting
          (λ one is same.
          let own : one.row ≡ row = eqb-true one.row row same in
          for-profile row profile one.document found (subst (λ (r : ℕ). IsForRow model system r one.document) own is)) all in
          AllByRecursion-map IsParcelAddressed (packed profile) (packets profile.packet (waiting_for row waiting))
          (AllByRecursion-weaker (AllByRecursion to) (λ packet. IsParcelAddressed (packed profile packet)) (packets profile.packet (waiting_for row waiting))
          (λ packet is. AllByRecursion-map (IsAddressed model system profile.receiver) (λ (one : Waiting). one.document) packet is)
          (packets-all to profile.packet (waiting_for row waiting) each))

  dispatched-addressed : (waiting : List Waiting) → AreAddressed model system waiting → AllByRecursion IsParcelAddressed (dispatched model system waiting)
  dispatched-addressed waiting all =
      (AllByRecursion-flat_map IsParcelAddressed (packed_for model waiting) (rows_of system model)).0
      (AllByRecursion-of (λ row. AllByRecursion IsParcelAddressed (packed_for model waiting row)) (packed_for-addressed waiting all) (rows_of system model))

  numbered-addressed : (number : ℕ) (parcels : List Parcel) → AllByRecursion IsParcelAddressed parcels
      → AreUnitsAddressed model system (numbered system number parcels)
  numbered-addressed number [] all = tt
  numbered-addressed number (parcel ∷ parcels) all = (record { sender = refl; docs = all.0 }, numbered-addressed (suc number) parcels all.1)

  -- the documents that a record makes are for their rows
  pub added-made : (outbox : Outbox) (next : Record) → AreMadeFor model system (batch_of model system outbox next).documents
  added-made outbox (Commit origin docs) = (masters-batch outbox.documents no_batch docs (record { made = tt; parcels = tt })).made
  added-made outbox Dispatch = tt
  added-made outbox _ = tt

  -- the units that it adds are for their receivers: those of a Dispatch, where what waited is addressed
  pub added-addressed : (outbox : Outbox) (number : ℕ) (next : Record) → (next ≡ Dispatch → AreAddressed model system outbox.waiting)
      → AreUnitsAddressed model system (numbered system number (batch_of model system outbox next).parcels)
  added-addressed outbox number (Commit origin docs) waits =
      numbered-addressed number _ (masters-batch outbox.documents no_batch docs (record { made = tt; parcels = tt })).parcels
  added-addressed outbox number Dispatch waits = numbered-addressed number _ (dispatched-addressed outbox.waiting (waits refl))
  added-addressed outbox number _ waits = tt

-- what waits of documents that were made for their rows is addressed
pub waits-addressed : (model : Lists) (system : ℕ) (documents : List OutDocument) → AreMadeFor model system documents
    → AreAddressed model system (waits_of documents)
waits-addressed model system [] all = tt
waits-addressed model system (one ∷ documents) all = by_fate (waits-addressed model system documents all.1) one.fate
  where
    by_fate : AreAddressed model system (waits_of documents) → (fate : Fate)
        → AreAddressed model system (cons_option (waits_as one fate) (waits_of documents))
    by_fate rest Waits = (all.0, rest)
    by_fate rest Sent = rest
    by_fate rest (Refused fault) = rest

-- and so is what waits behind a record
pub after-addressed : (model : Lists) (system : ℕ) (next : Record) (waiting : List Waiting) (documents : List OutDocument)
    → AreAddressed model system waiting → AreMadeFor model system documents
    → AreAddressed model system (still_waiting next waiting ++ waits_of documents)
after-addressed model system Dispatch waiting documents all made = waits-addressed model system documents made
after-addressed model system next waiting documents all made =
    AllByRecursion-append (λ (one : Waiting). IsForRow model system one.row one.document) waiting (waits_of documents) all
    (waits-addressed model system documents made)
