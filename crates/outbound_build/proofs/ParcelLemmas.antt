-- What a model makes of the masters and waiting documents of a system may be sent.
use Rattle.std.specs.Prelude.{fold, nat_eq, map, Contains, ◌==◌, if◌then◌else◌}
use Rattle.std.specs.List.{AllByRecursion}
use Rattle.std.specs.Option.{option_map_or}
use Rattle.std.proofs.Common.{◌≡◌, ℕ, zero, suc, ◌+◌, ◌≤◌, Bool, true, false, Option, Some, None, Result, Ok, Err, List, [], ◌∷◌, ◌++◌, length, drop, refl, ap}
use Rattle.std.proofs.Common.{sym, ◌∙◌, subst, arith, length-drop}
use Rattle.std.proofs.lemmas.Bool.{and_parts, eqb-true}
use Rattle.std.proofs.lemmas.List.{length-take, length-map}
use Rattle.ale_base.proofs.ListLemmas.{AllByRecursion-append, AllByRecursion-flat_map, AllByRecursion-map, AllByRecursion-weaker}
use Rattle.ale_base.specs.declared.doc_num.DocNum.{DocNum}
use Rattle.ale_base.specs.declared.queue_name.NameFault.{NameFault}
use Rattle.dist_model.specs.declared.lists.Lists.{Lists}
use Rattle.dist_model.specs.declared.outbound.Outbound.{Outbound}
use Rattle.dist_model.specs.declared.outbound.QueueRule.{QueueRule}
use Rattle.dist_model.specs.declared.row.Row.{Row}
use Rattle.dist_model.specs.Model.{goes_from, outbound_of, receivers_of}
use Rattle.unit_core.specs.declared.raw_unit_doc.RawUnitDoc.{RawUnitDoc}
use Rattle.unit_core.specs.declared.records.Record.{Record}
use Rattle.unit_core.specs.declared.records.Record.TheVariants.{Commit, Dispatch}
use Rattle.outbound_build.specs.declared.added.Waiting.{Waiting}
use Rattle.outbound_build.specs.declared.batch.Batch.{Batch}
use Rattle.outbound_build.specs.declared.outbox.Outbox.{Outbox}
use Rattle.outbound_build.specs.declared.parcel.Parcel.{Parcel}
use Rattle.outbound_build.specs.declared.queue_lists.QueueLists.{QueueLists}
use Rattle.outbound_build.specs.declared.added.Fate.TheVariants.{Waits}
use Rattle.outbound_build.specs.Document.{Document, carried}
use Rattle.outbound_build.specs.QueueNames.{first_fault, named_by, named_once, queues_by, queues_named}
use Rattle.outbound_build.specs.Sent.{sent}
use Rattle.outbound_build.specs.Added.{Master, batch_of, collected_queues, dispatched, master_of, no_batch, packed, packed_for, packets, parcel_of, rows_of}
use Rattle.outbound_build.specs.Added.{unit_of, waiting_for, with_document, with_master, with_row, with_rows, with_sent, with_unit}
use Rattle.outbound_build.specs.Units.{AreQueues, IsModelOf, IsSendable}
use Rattle.outbound_build.proofs.OnceLemmas.{once-AreQueues}
use Rattle.outbound_build.proofs.PacketLemmas.{packets-first, packets-none}
use Rattle.outbound_build.proofs.RowLemmas.{HasAt, places_from-pass, profile-row}
use Rattle.version_reduce.proofs.ProfileLemmas.{is_outbound, outbound_of-Contains}

-- a parcel may be sent by a system, whichever number it gets
abbrev pub MayBeSent : ℕ → ℕ → Parcel → Type 0
MayBeSent systems system parcel = (number : ℕ) → IsSendable systems (unit_of system number parcel).unit

-- a profile of a model makes such parcels
pub parcel-sendable : (systems system : ℕ) (model : Lists) (profile : Outbound) (queues : QueueLists) (numbers : List DocNum) (docs : List RawUnitDoc)
    → IsModelOf systems model
    → Contains model.outbound profile → profile.sender ≡ system → AreQueues queues.outq → AreQueues queues.inq → 1 ≤ length docs → length docs ≤ 1000
    → MayBeSent systems system (parcel_of profile queues numbers docs)
parcel-sendable systems system model profile queues numbers docs of among sender outq inq least most number =
    let is = is_outbound model profile of.kept among in
    let within = of.most in
    let ends = is.way.ends in
    record {
      receiver_least = ends.receiver_from;
      receiver_most = omega (arith, ends.receiver_to, within);
      other = λ same. ends.differ (sender ∙ sym same);
      function = is.function.least;
      outq = outq;
      inq = inq;
      docs_least = least;
      docs_most = most;
    }

-- the queues that rules name are queues of their directions
queues-good : (outbound inbound : List (List ℕ)) (queues : QueueLists) → length outbound ≤ 8 → length inbound ≤ 8 → queues_named outbound inbound ≡ Ok queues
    → AreQueues queues.outq × AreQueues queues.inq
queues-good outbound inbound queues few_out few_in is = told (first_fault (outbound ++ inbound)) is
  where
    told : (o : Option NameFault) → option_map_or Err o (Ok (record { outq = named_once outbound; inq = named_once inbound })) ≡ Ok queues
        → AreQueues queues.outq × AreQueues queues.inq
    told (Some fault) is = cc
    told None is =
        let same : record { outq = named_once outbound; inq = named_once inbound } ≡ queues = cc in (
          subst AreQueues (ap (λ (q : QueueLists). q.outq) same) (once-AreQueues outbound few_out),
          subst AreQueues (ap (λ (q : QueueLists). q.inq) same) (once-AreQueues inbound few_in),
        )

-- all parcels of a batch may be sent
abbrev pub AllMayBeSent : ℕ → ℕ → Batch → Type 0
AllMayBeSent systems system batch = AllByRecursion (MayBeSent systems system) batch.parcels

either_has : {A : Type 0} (P : A → Type 0) (b : Bool) (x y : A) → P x → P y → P (if b then x else y)
either_has P true x y one two = one
either_has P false x y one two = two

-- a fold keeps what each of its steps keeps
fold-keeps : {A B : Type 0} (P : B → Type 0) (Q : A → Type 0) (f : B → A → B) (b : B) (xs : List A) → AllByRecursion Q xs
    → ((c : B) (x : A) → Q x → P c → P (f c x)) → P b → P (fold f b xs)
fold-keeps P Q f b [] each step is = is
fold-keeps P Q f b (x ∷ xs) each step is = fold-keeps P Q f (f b x) xs each.1 step (step b x each.0 is)

-- a packet has some documents, and at most so many
record IsSized (size : ℕ) (packet : List Waiting) : Type 0 where
  pub least : 1 ≤ length packet
  pub most : length packet ≤ size

packets-sized : (size : ℕ) → 1 ≤ size → (n : ℕ) (waiting : List Waiting) → length waiting ≤ n → AllByRecursion (IsSized size) (packets size waiting)
packets-sized size some n [] less = subst (AllByRecursion (IsSized size)) (sym (packets-none size some)) tt
packets-sized size some zero (one ∷ waiting) less = absurd (omega arith)
packets-sized size some (suc n) (one ∷ waiting) less =
    let all = one ∷ waiting in
    let any : 1 ≤ length all = omega arith in
    subst (AllByRecursion (IsSized size)) (sym (packets-first size all some any)) (
      record { least = omega (arith, length-take size all); most = omega (arith, length-take size all) },
      packets-sized size some n (drop size all) (omega (arith, length-drop size all)),
    )

module _ (systems system : ℕ) (model : Lists) (of : IsModelOf systems model) where
  with_unit-good : (number row : ℕ) (profile : Outbound) (document : RawUnitDoc) (batch : Batch) (queues : Result QueueLists NameFault)
      → Contains model.outbound profile → profile.sender ≡ system
      → ((q : QueueLists) → queues ≡ Ok q → AreQueues q.outq × AreQueues q.inq) → AllMayBeSent systems system batch
      → AllMayBeSent systems system (with_unit number row profile document batch queues)
  with_unit-good number row profile document batch (Err fault) among sender good all = AllByRecursion-append (MayBeSent systems system) batch.parcels [] all tt
  with_unit-good number row profile document batch (Ok queues) among sender good all =
      let q = good queues refl in
      let numbers : List DocNum = record { 0 = number } ∷ [] in
      AllByRecursion-append (MayBeSent systems system) batch.parcels (parcel_of profile queues numbers (document ∷ []) ∷ []) all
      (parcel-sendable systems system model profile queues numbers (document ∷ []) of among sender q.0 q.1 (omega arith) (omega arith), tt)

  with_sent-good : (number row : ℕ) (profile : Outbound) (batch : Batch) (document : Document) → Contains model.outbound profile → profile.sender ≡ system
      → AllMayBeSent systems system batch → AllMayBeSent systems system (with_sent model number row profile batch document)
  with_sent-good number row profile batch document among sender all =
      let is = is_outbound model profile of.kept among in
      let name = named_by model.definitions document.forest in
      either_has (AllMayBeSent systems system) (profile.outmod == 4) (with_document number row (carried model.definitions document) Waits [] batch)
      (with_unit number row profile (carried model.definitions document) batch (queues_by model document.forest profile))
      (AllByRecursion-append (MayBeSent systems system) batch.parcels [] all tt)
      (with_unit-good number row profile (carried model.definitions document) batch (queues_by model document.forest profile) among sender
      (λ q named. queues-good (map name profile.outq) (map name profile.inq) q (omega (arith, length-map profile.outq name, is.outq.few))
      (omega (arith, length-map profile.inq name, is.inq.few)) named) all)

  with_row-good : (before : ℕ) (master : Document) (row : ℕ) (batch : Batch)
      → ((profile : Outbound) → outbound_of model row ≡ Some profile → profile.sender ≡ system)
      → AllMayBeSent systems system batch → AllMayBeSent systems system (with_row model before master batch row)
  with_row-good before master row batch own all = of_profile (outbound_of model row) refl
    where
      number : ℕ
      number = before + length batch.documents + 1

      of_sent : (profile : Outbound) → outbound_of model row ≡ Some profile → (o : Option Document)
          → AllMayBeSent systems system (option_map_or (with_sent model number row profile batch) o batch)
      of_sent profile found None = all
      of_sent profile found (Some document) =
          with_sent-good number row profile batch document (outbound_of-Contains model row profile found) (own profile found) all

      of_profile : (o : Option Outbound) → outbound_of model row ≡ o
          → AllMayBeSent systems system
          (option_map_or (λ profile. option_map_or (with_sent model number row profile batch) (sent model row number master) batch) o batch)
      of_profile None found = all
      of_profile (Some profile) found = of_sent profile found (sent model row number master)

  receiver-own : (message row : ℕ) → HasAt (goes_from system message) model.rows row → (profile : Outbound) → outbound_of model row ≡ Some profile
      → profile.sender ≡ system
  receiver-own message row has profile found =
      let own = has.element in
      (profile-row model row own profile has.here found).sender
      ∙ sym (eqb-true system own.sender (and_parts (nat_eq system own.sender) (nat_eq message own.message) has.passes).0)

  with_rows-good : (before : ℕ) (batch : Batch) (master : Master) → AllMayBeSent systems system batch
      → AllMayBeSent systems system (with_rows model system before batch master)
  with_rows-good before batch master all =
      fold-keeps (AllMayBeSent systems system) (HasAt (goes_from system master.message) model.rows) (with_row model before master.document) batch
      (receivers_of system master.message model)
      (places_from-pass (goes_from system master.message) 0 [] model.rows refl)
      (λ b row has so_far. with_row-good before master.document row b (receiver-own master.message row has) so_far) all

  with_master-good : (before : ℕ) (batch : Batch) (o : Option Master) → AllMayBeSent systems system batch
      → AllMayBeSent systems system (option_map_or (with_rows model system before batch) o batch)
  with_master-good before batch None all = all
  with_master-good before batch (Some master) all = with_rows-good before batch master all

  masters-good : (before : ℕ) (batch : Batch) (docs : List RawUnitDoc) → AllMayBeSent systems system batch
      → AllMayBeSent systems system (fold (with_master model system before) batch docs)
  masters-good before batch [] all = all
  masters-good before batch (doc ∷ docs) all =
      masters-good before (with_master model system before batch doc) docs (with_master-good before batch (master_of model doc) all)

  packed-good : (profile : Outbound) → Contains model.outbound profile → profile.sender ≡ system → (packet : List Waiting) → IsSized profile.packet packet
      → MayBeSent systems system (packed profile packet)
  packed-good profile among sender packet sized =
      let is = is_outbound model profile of.kept among in
      let text = λ (rule : QueueRule). rule.text in
      let document = λ (one : Waiting). one.document in
      parcel-sendable systems system model profile (collected_queues profile) (map (λ one. one.number) packet) (map document packet) of among sender
      (once-AreQueues (map text profile.outq) (omega (arith, length-map profile.outq text, is.outq.few)))
      (once-AreQueues (map text profile.inq) (omega (arith, length-map profile.inq text, is.inq.few)))
      (omega (arith, length-map packet document, sized.least)) (omega (arith, length-map packet document, sized.most, is.few))

  packed_for-good : (waiting : List Waiting) (row : ℕ) → HasAt (λ (r : Row). nat_eq system r.sender) model.rows row
      → AllByRecursion (MayBeSent systems system) (packed_for model waiting row)
  packed_for-good waiting row has = of_profile (outbound_of model row) refl
    where
      own : List Waiting
      own = waiting_for row waiting

      of_profile : (o : Option Outbound) → outbound_of model row ≡ o
          → AllByRecursion (MayBeSent systems system) (option_map_or (λ profile. map (packed profile) (packets profile.packet (waiting_for row waiting))) o [])
      of_profile None found = tt
      of_profile (Some profile) found =
          let among = outbound_of-Contains model row profile found in
          let sender = (profile-row model row has.element profile has.here found).sender ∙ sym (eqb-true system has.element.sender has.passes) in
          AllByRecursion-map (MayBeSent systems system) (packed profile) (packets profile.packet own)
          (AllByRecursion-weaker (IsSized profile.packet) (λ packet. MayBeSent systems system (packed profile packet)) (packets profile.packet own)
          (packed-good profile among sender)
          (packets-sized profile.packet (is_outbound model profile of.kept among).some (length own) own (omega arith)))

  dispatched-good : (waiting : List Waiting) → AllByRecursion (MayBeSent systems system) (dispatched model system waiting)
  dispatched-good waiting =
      let sends = λ (r : Row). nat_eq system r.sender in
      (AllByRecursion-flat_map (MayBeSent systems system) (packed_for model waiting) (rows_of system model)).0
      (AllByRecursion-weaker (HasAt sends model.rows) (λ row. AllByRecursion (MayBeSent systems system) (packed_for model waiting row)) (rows_of system model)
      (packed_for-good waiting)
      (places_from-pass sends 0 [] model.rows refl))

  -- all that a record makes may be sent
  pub batch-good : (outbox : Outbox) (next : Record) → AllMayBeSent systems system (batch_of model system outbox next)
  batch-good outbox (Commit origin docs) = masters-good outbox.documents no_batch docs tt
  batch-good outbox Dispatch = dispatched-good outbox.waiting
  batch-good outbox _ = tt
