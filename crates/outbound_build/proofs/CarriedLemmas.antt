-- The units that a record adds carry each document once that is sent at once or that waits, and lose none.
use Rattle.std.specs.Prelude.{fold, map, nat_eq, nat_lt, not, option_and_then, position, slice_get, ◌==◌, ◌||◌, if◌then◌else◌}
use Rattle.std.specs.List.{AllByRecursion, flat_map, list_any, position_or_len}
use Rattle.std.specs.Option.{option_map_or}
use Rattle.std.proofs.Common.{◌≡◌, ℕ, zero, suc, ◌+◌, ◌<◌, ◌≤◌, Bool, true, false, cond, Option, Some, None, Result, Ok, Err, List, [], ◌∷◌, ◌++◌}
use Rattle.std.proofs.Common.{length, take, drop, refl, sym, ap, subst, ◌∙◌, arith}
use Rattle.std.proofs.Common.{append_assoc, length-drop}
use Rattle.std.proofs.lemmas.Bool.{cond-true}
use Rattle.std.proofs.lemmas.Bool.Decides.{nat_tests}
use Rattle.std.proofs.lemmas.List.{append-nil, length-map, length-take, map-append, take-append-drop}
use Rattle.ale_base.proofs.ListLemmas.{AllByRecursion-at, slice_get-within}
use Rattle.ale_base.proofs.MemberLemmas.{filter_map-None, filter_map-Some}
use Rattle.ale_base.specs.declared.doc_num.DocNum.{DocNum}
use Rattle.ale_base.specs.declared.queue_name.NameFault.{NameFault}
use Rattle.dist_model.specs.declared.lists.Lists.{Lists}
use Rattle.dist_model.specs.declared.outbound.Outbound.{Outbound}
use Rattle.dist_model.specs.declared.row.Row.{Row}
use Rattle.dist_model.specs.Model.{HasProfile, IsModel, outbound_of, receivers_of}
use Rattle.dist_model.specs.Way.{outbound_way, outbound_ways, row_way, same_way}
use Rattle.unit_core.specs.declared.raw_unit_doc.RawUnitDoc.{RawUnitDoc}
use Rattle.unit_core.specs.declared.records.Record.{Record}
use Rattle.unit_core.specs.declared.records.Record.TheVariants.{Commit, Dispatch}
use Rattle.version_reduce.proofs.ProfileLemmas.{is_outbound, outbound_of-Contains}
use Rattle.outbound_build.specs.declared.added.Fate.{Fate}
use Rattle.outbound_build.specs.declared.added.Fate.TheVariants.{Sent, Waits, Refused}
use Rattle.outbound_build.specs.declared.added.OutDocument.{OutDocument}
use Rattle.outbound_build.specs.declared.added.Waiting.{Waiting}
use Rattle.outbound_build.specs.declared.batch.Batch.{Batch}
use Rattle.outbound_build.specs.declared.outbox.Outbox.{Outbox}
use Rattle.outbound_build.specs.declared.parcel.Parcel.{Parcel}
use Rattle.outbound_build.specs.declared.queue_lists.QueueLists.{QueueLists}
use Rattle.outbound_build.specs.Added.{Master, batch_of, dispatched, master_of, no_batch, numbered, packed, packed_for, packets, parcel_of, rows_of}
use Rattle.outbound_build.specs.Added.{waiting_for, with_document, with_master, with_row, with_rows, with_sent, with_unit}
use Rattle.outbound_build.specs.Carried.{AreCarried, AreFilled, AreLoads, AreLoadsByRow, IsFilled, load_of, sent_as, sent_in, waits_for}
use Rattle.outbound_build.specs.Document.{Document, carried}
use Rattle.outbound_build.specs.QueueNames.{queues_by}
use Rattle.outbound_build.specs.Sent.{sent}
use Rattle.outbound_build.proofs.PacketLemmas.{packets-first, packets-none}
use Rattle.outbound_build.proofs.RowLemmas.{HasAt, places_from-pass}

either_has : {A : Type 0} (P : A → Type 0) (b : Bool) (x y : A) → P x → P y → P (if b then x else y)
either_has P true x y one two = one
either_has P false x y one two = two

-- what a parcel carries
abbrev parcel_load : Parcel → List DocNum × List RawUnitDoc
parcel_load parcel = (parcel.numbers, parcel.docs)

-- a unit carries what its parcel does
loads-numbered : (system number : ℕ) (parcels : List Parcel) → map load_of (numbered system number parcels) ≡ map parcel_load parcels
loads-numbered system number [] = refl
loads-numbered system number (parcel ∷ parcels) =
    ap (λ (loads : List (List DocNum × List RawUnitDoc)). parcel_load parcel ∷ loads) (loads-numbered system (suc number) parcels)

-- loads, and loads behind them
loads-append : (first second : List (List DocNum × List RawUnitDoc)) (ones others : List (DocNum × RawUnitDoc)) → AreLoads first ones → AreLoads second others
    → AreLoads (first ++ second) (ones ++ others)
loads-append [] second ones others none two = subst (λ (ds : List (DocNum × RawUnitDoc)). AreLoads second (ds ++ others)) (sym none) two
loads-append (load ∷ first) second ones others one two = (
  one.0,
  one.1 ++ others,
  ap (λ (ds : List (DocNum × RawUnitDoc)). ds ++ others) one.2 ∙ append_assoc one.0 one.1 others,
  one.3,
  loads-append first second one.1 others one.4 two,
)

-- ---- what is sent at once

-- the parcels of a batch carry what it sends at once
abbrev CarriesSent : Batch → Type 0
CarriesSent batch = AreLoads (map parcel_load batch.parcels) (sent_in batch.documents)

document-carried : (number row : ℕ) (document : RawUnitDoc) (fate : Fate) (parcels : List Parcel) (batch : Batch) (more : List (DocNum × RawUnitDoc))
    → sent_in (with_document number row document fate parcels batch).documents ≡ sent_in batch.documents ++ more
    → AreLoads (map parcel_load parcels) more → CarriesSent batch → CarriesSent (with_document number row document fate parcels batch)
document-carried number row document fate parcels batch more same new all =
    subst (λ (loads : List (List DocNum × List RawUnitDoc)). AreLoads loads (sent_in (with_document number row document fate parcels batch).documents))
    (sym (map-append parcel_load batch.parcels parcels))
    (subst (AreLoads (map parcel_load batch.parcels ++ map parcel_load parcels)) (sym same)
    (loads-append (map parcel_load batch.parcels) (map parcel_load parcels) (sent_in batch.documents) more all new))

not-sent : (number row : ℕ) (document : RawUnitDoc) (fate : Fate) (batch : Batch)
    → sent_as (record { number = record { 0 = number }; row = row; fate = fate; document = document }) fate ≡ None
    → CarriesSent batch → CarriesSent (with_document number row document fate [] batch)
not-sent number row document fate batch none all =
    document-carried number row document fate [] batch []
    (filter_map-None (λ (one : OutDocument). sent_as one one.fate) batch.documents
    (record { number = record { 0 = number }; row = row; fate = fate; document = document }) none ∙ sym (append-nil (sent_in batch.documents))) refl all

unit-carried : (number row : ℕ) (profile : Outbound) (document : RawUnitDoc) (batch : Batch) (queues : Result QueueLists NameFault) → CarriesSent batch
    → CarriesSent (with_unit number row profile document batch queues)
unit-carried number row profile document batch (Err fault) all = not-sent number row document (Refused fault) batch refl all
unit-carried number row profile document batch (Ok queues) all =
    let one : DocNum × RawUnitDoc = (record { 0 = number }, document) in
    document-carried number row document Sent (parcel_of profile queues (record { 0 = number } ∷ []) (document ∷ []) ∷ []) batch (one ∷ [])
    (filter_map-Some (λ (d : OutDocument). sent_as d d.fate) batch.documents
    (record { number = record { 0 = number }; row = row; fate = Sent; document = document }) one refl)
    (one ∷ [], [], refl, record { numbers = refl; docs = refl }, refl) all

sent-carried : (model : Lists) (number row : ℕ) (profile : Outbound) (batch : Batch) (document : Document) → CarriesSent batch
    → CarriesSent (with_sent model number row profile batch document)
sent-carried model number row profile batch document all =
    either_has CarriesSent (profile.outmod == 4)
    (with_document number row (carried model.definitions document) Waits [] batch)
    (with_unit number row profile (carried model.definitions document) batch (queues_by model document.forest profile))
    (not-sent number row (carried model.definitions document) Waits batch refl all)
    (unit-carried number row profile (carried model.definitions document) batch (queues_by model document.forest profile) all)

row-carried : (model : Lists) (before : ℕ) (master : Document) (batch : Batch) (row : ℕ) → CarriesSent batch
    → CarriesSent (with_row model before master batch row)
row-carried model before master batch row all = of_profile (outbound_of model row)
  where
    number : ℕ
    number = before + length batch.documents + 1

    of_sent : (profile : Outbound) (o : Option Document) → CarriesSent (option_map_or (with_sent model number row profile batch) o batch)
    of_sent profile None = all
    of_sent profile (Some document) = sent-carried model number row profile batch document all

    of_profile : (o : Option Outbound)
        → CarriesSent (option_map_or (λ profile. option_map_or (with_sent model number row profile batch) (sent model row number master) batch) o batch)
    of_profile None = all
    of_profile (Some profile) = of_sent profile (sent model row number master)

rows-carried : (model : Lists) (before : ℕ) (master : Document) (batch : Batch) (rows : List ℕ) → CarriesSent batch
    → CarriesSent (fold (with_row model before master) batch rows)
rows-carried model before master batch [] all = all
rows-carried model before master batch (row ∷ rows) all =
    rows-carried model before master (with_row model before master batch row) rows (row-carried model before master batch row all)

master-carried : (model : Lists) (system before : ℕ) (batch : Batch) (o : Option Master) → CarriesSent batch
    → CarriesSent (option_map_or (with_rows model system before batch) o batch)
master-carried model system before batch None all = all
master-carried model system before batch (Some master) all =
    rows-carried model before master.document batch (receivers_of system master.message model) all

masters-carried : (model : Lists) (system before : ℕ) (batch : Batch) (docs : List RawUnitDoc) → CarriesSent batch
    → CarriesSent (fold (with_master model system before) batch docs)
masters-carried model system before batch [] all = all
masters-carried model system before batch (doc ∷ docs) all =
    masters-carried model system before (with_master model system before batch doc) docs (master-carried model system before batch (master_of model doc) all)

-- ---- what waits

-- the number and the document of one that waits
abbrev pair : Waiting → DocNum × RawUnitDoc
pair one = (one.number, one.document)

first-pairs : (packet : List Waiting) → map (λ one. one.number) packet ≡ map (λ one. one.0) (map pair packet)
first-pairs [] = refl
first-pairs (one ∷ packet) = ap (λ (ns : List DocNum). one.number ∷ ns) (first-pairs packet)

second-pairs : (packet : List Waiting) → map (λ one. one.document) packet ≡ map (λ one. one.1) (map pair packet)
second-pairs [] = refl
second-pairs (one ∷ packet) = ap (λ (ds : List RawUnitDoc). one.document ∷ ds) (second-pairs packet)

-- packets are what was cut
packets-carried : (profile : Outbound) → 1 ≤ profile.packet → (n : ℕ) (waiting : List Waiting) → length waiting ≤ n
    → AreLoads (map parcel_load (map (packed profile) (packets profile.packet waiting))) (map pair waiting)
packets-carried profile some n [] less =
    subst (λ (ps : List (List Waiting)). AreLoads (map parcel_load (map (packed profile) ps)) []) (sym (packets-none profile.packet some)) refl
packets-carried profile some zero (one ∷ waiting) less = absurd (omega (arith, less))
packets-carried profile some (suc n) (one ∷ waiting) less =
    let all = one ∷ waiting in
    let size = profile.packet in
    let any : 1 ≤ length all = omega arith in
    subst (λ (ps : List (List Waiting)). AreLoads (map parcel_load (map (packed profile) ps)) (map pair all)) (sym (packets-first size all some any)) (
      map pair (take size all),
      map pair (drop size all),
      ap (map pair) (sym (take-append-drop size all)) ∙ map-append pair (take size all) (drop size all),
      record { numbers = first-pairs (take size all); docs = second-pairs (take size all) },
      packets-carried profile some n (drop size all) (omega (arith, length-drop size all, some, less)),
    )

-- how many documents the packet of so many has
packet-length : (profile : Outbound) (all : List Waiting)
    → length (parcel_load (packed profile (take profile.packet all))).1 ≡ length (take profile.packet all)
packet-length profile all = length-map (take profile.packet all) (λ (one : Waiting). one.document)

-- the first packet is full, unless no document is behind it
first-filled : (profile : Outbound) → 1 ≤ profile.packet → (all rest : List Waiting) → 1 ≤ length all → drop profile.packet all ≡ rest
    → IsFilled profile.packet (parcel_load (packed profile (take profile.packet all))) (map parcel_load (map (packed profile) (packets profile.packet rest)))
first-filled profile some all [] any is =
    let size = profile.packet in
    let first = parcel_load (packed profile (take size all)) in
    let none : length (drop size all) ≡ 0 = ap length is in
    let whole : length (take size all) ≡ length all = length-append-parts in
    let few : length all ≤ size = omega (arith, none, length-drop size all) in
    subst (λ (ps : List (List Waiting)). IsFilled size first (map parcel_load (map (packed profile) ps))) (sym (packets-none size some))
    (omega (arith, any, whole, packet-length profile all), omega (arith, few, whole, packet-length profile all))
  where
    length-append-parts : length (take profile.packet all) ≡ length all
    length-append-parts =
        omega (arith, length-take profile.packet all, length-drop profile.packet all, ap length is)
first-filled profile some all (one ∷ rest) any is =
    let size = profile.packet in
    let first = parcel_load (packed profile (take size all)) in
    let left : length (drop size all) ≡ suc (length rest) = ap length is in
    let full : length (take size all) ≡ size = omega (arith, length-take size all, length-drop size all, left) in
    subst (λ (ps : List (List Waiting)). IsFilled size first (map parcel_load (map (packed profile) ps)))
    (sym (packets-first size (one ∷ rest) some (omega arith))) (packet-length profile all ∙ full)

-- packets are full, all but the last
packets-filled : (profile : Outbound) → 1 ≤ profile.packet → (n : ℕ) (waiting : List Waiting) → length waiting ≤ n
    → AreFilled profile.packet (map parcel_load (map (packed profile) (packets profile.packet waiting)))
packets-filled profile some n [] less =
    subst (λ (ps : List (List Waiting)). AreFilled profile.packet (map parcel_load (map (packed profile) ps))) (sym (packets-none profile.packet some)) tt
packets-filled profile some zero (one ∷ waiting) less = absurd (omega (arith, less))
packets-filled profile some (suc n) (one ∷ waiting) less =
    let all = one ∷ waiting in
    let size = profile.packet in
    let any : 1 ≤ length all = omega arith in
    subst (λ (ps : List (List Waiting)). AreFilled size (map parcel_load (map (packed profile) ps))) (sym (packets-first size all some any)) (
      first-filled profile some all (drop size all) any refl,
      packets-filled profile some n (drop size all) (omega (arith, length-drop size all, some, less)),
    )

found-within : {A : Type 0} (test : A → Bool) (xs : List A) → list_any test xs ≡ true → position_or_len test xs < length xs
found-within test [] is = absurd (cc)
found-within {A} test (x ∷ xs) is = by_test (found-within test xs) (test x) is
  where
    by_test : (list_any test xs ≡ true → position_or_len test xs < length xs) → (b : Bool) → b || list_any test xs ≡ true
        → cond (not b) (1 + position_or_len test xs) 0 < suc (length xs)
    by_test rest true is = omega arith
    by_test rest false is = let less = rest is in omega (arith, less)

-- each row of a model has a profile
row-profile : (model : Lists) → IsModel model → (row : ℕ) (of : Row) → slice_get model.rows row ≡ Some of
    → (profile : Outbound) × (outbound_of model row ≡ Some profile)
row-profile model kept row of here =
    let test = same_way (row_way of) in
    let ways = outbound_ways model.outbound in
    let less = found-within test ways (AllByRecursion-at (HasProfile model.outbound) model.rows row of kept.profiled here) in
    let place = position_or_len test ways in
    let many : length ways ≡ length model.outbound = length-map model.outbound (λ (p : Outbound). outbound_way p) in
    let got = slice_get-within model.outbound place (omega (arith, less, many)) in
    let under : nat_lt place (length ways) ≡ true = grind (arith, nat_tests, less) in (
      got.0,
      ap (option_and_then (λ (r : Row). option_and_then (slice_get model.outbound) (position (same_way (row_way r)) (outbound_ways model.outbound)))) here
          ∙ ap (option_and_then (slice_get model.outbound)) (cond-true (nat_lt place (length ways)) (Some place) None under) ∙ got.1,
    )

module _ (model : Lists) (kept : IsModel model) where
  -- what is packed of a row is what waits for it
  row-packed : (waiting : List Waiting) (row : ℕ) (of : Row) → slice_get model.rows row ≡ Some of
      → AreLoads (map parcel_load (packed_for model waiting row)) (waits_for row waiting)
  row-packed waiting row of here =
      let found = row-profile model kept row of here in
      let own = waiting_for row waiting in
      let profile = found.0 in
      let some = (is_outbound model profile kept (outbound_of-Contains model row profile found.1)).some in
      subst (λ (o : Option Outbound). AreLoads (map parcel_load (option_map_or (λ p. map (packed p) (packets p.packet own)) o [])) (map pair own))
      (sym found.1) (packets-carried profile some (length own) own (omega arith))

  -- in packets of its profile's size
  row-filled : (waiting : List Waiting) (row : ℕ) (profile : Outbound) → outbound_of model row ≡ Some profile
      → AreFilled profile.packet (map parcel_load (packed_for model waiting row))
  row-filled waiting row profile found =
      let own = waiting_for row waiting in
      let some = (is_outbound model profile kept (outbound_of-Contains model row profile found)).some in
      subst (λ (o : Option Outbound). AreFilled profile.packet (map parcel_load (option_map_or (λ p. map (packed p) (packets p.packet own)) o [])))
      (sym found) (packets-filled profile some (length own) own (omega arith))

  rows-packed : (waiting : List Waiting) (test : Row → Bool) (rows : List ℕ) → AllByRecursion (HasAt test model.rows) rows
      → AreLoadsByRow model waiting rows (map parcel_load (flat_map (packed_for model waiting) rows))
  rows-packed waiting test [] each = refl
  rows-packed waiting test (row ∷ rows) each = (
    map parcel_load (packed_for model waiting row),
    map parcel_load (flat_map (packed_for model waiting) rows),
    map-append parcel_load (packed_for model waiting row) (flat_map (packed_for model waiting) rows),
    row-packed waiting row each.0.element each.0.here,
    row-filled waiting row,
    rows-packed waiting test rows each.1,
  )

  -- the units that a record adds carry what they should
  pub added-carried : (system : ℕ) (outbox : Outbox) (number : ℕ) (next : Record)
      → AreCarried model system outbox.waiting next (record {
        documents = (batch_of model system outbox next).documents;
        units = numbered system number (batch_of model system outbox next).parcels;
      })
  added-carried system outbox number (Commit origin docs) =
      let batch = batch_of model system outbox (Commit origin docs) in
      subst (λ (loads : List (List DocNum × List RawUnitDoc)). AreLoads loads (sent_in batch.documents))
      (sym (loads-numbered system number batch.parcels)) (masters-carried model system outbox.documents no_batch docs refl)
  added-carried system outbox number Dispatch =
      let sends = λ (r : Row). nat_eq system r.sender in (
        refl,
        subst (AreLoadsByRow model outbox.waiting (rows_of system model)) (sym (loads-numbered system number (dispatched model system outbox.waiting)))
            (rows-packed outbox.waiting sends (rows_of system model) (places_from-pass sends 0 [] model.rows refl)),
      )
  added-carried system outbox number _ = (refl, refl)
