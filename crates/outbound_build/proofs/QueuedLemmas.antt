-- The queues of the units that a record adds.
use Rattle.std.specs.Prelude.{Contains, fold, map, nat_eq, ◌==◌, ◌||◌, ◌⊎◌, ◌↔◌, if◌then◌else◌}
use Rattle.std.specs.Cmp.Lexicographic.{bytes_decides, pointwise}
use Rattle.std.specs.List.{AllByRecursion}
use Rattle.std.specs.Option.{option_map_or}
use Rattle.std.proofs.Common.{◌≡◌, ℕ, suc, ◌+◌, Bool, true, false, cond, Option, Some, None, Result, Ok, Err, List, [], ◌∷◌, ◌++◌, length, inl, inr, refl, sym}
use Rattle.std.proofs.Common.{ap, subst, ◌∙◌, append-nil}
use Rattle.ale_base.proofs.ListLemmas.{AllByRecursion-append, AllByRecursion-flat_map, AllByRecursion-map, AllByRecursion-of}
use Rattle.ale_base.proofs.MemberLemmas.{Contains-cons, Contains-here, Contains-map, Contains-map_back, Contains-nil, Contains-there, list_any-found}
use Rattle.ale_base.specs.declared.doc_num.DocNum.{DocNum}
use Rattle.ale_base.specs.declared.queue_name.NameFault.{NameFault}
use Rattle.segment_defs.specs.declared.definitions.Definitions.{Definitions}
use Rattle.dist_model.specs.declared.filter.FieldPlace.{FieldPlace}
use Rattle.dist_model.specs.declared.lists.Lists.{Lists}
use Rattle.dist_model.specs.declared.outbound.Outbound.{Outbound}
use Rattle.dist_model.specs.declared.outbound.QueueRule.{QueueRule}
use Rattle.dist_model.specs.Model.{outbound_of, receivers_of}
use Rattle.idoc_tree.specs.Forest.{Forest}
use Rattle.unit_core.specs.declared.raw_unit_doc.RawUnitDoc.{RawUnitDoc}
use Rattle.unit_core.specs.declared.records.Record.{Record}
use Rattle.unit_core.specs.declared.records.Record.TheVariants.{Commit, Dispatch}
use Rattle.unit_core.specs.Queues.{has_name}
use Rattle.version_reduce.proofs.ProfileLemmas.{outbound_of-Contains}
use Rattle.outbound_build.specs.declared.added.Waiting.{Waiting}
use Rattle.outbound_build.specs.declared.added.Fate.TheVariants.{Waits}
use Rattle.outbound_build.specs.declared.batch.Batch.{Batch}
use Rattle.outbound_build.specs.declared.outbox.Outbox.{Outbox}
use Rattle.outbound_build.specs.declared.parcel.Parcel.{Parcel}
use Rattle.outbound_build.specs.declared.queue_lists.QueueLists.{QueueLists}
use Rattle.outbound_build.specs.Added.{Master, batch_of, dispatched, master_of, no_batch, numbered, packed, packed_for, packets, parcel_of}
use Rattle.outbound_build.specs.Added.{rows_of, unit_of, waiting_for, with_document, with_master, with_row, with_rows, with_sent, with_unit}
use Rattle.outbound_build.specs.Document.{Document, carried}
use Rattle.outbound_build.specs.Queued.{AreNamesOf, AreQueued, AreTextsOf, IsNameOf, IsQueuedByDocument, IsQueuedByTexts}
use Rattle.outbound_build.specs.QueueNames.{first_fault, is_blank, named_by, named_once, queues_by, queues_named, text_in, with_name}
use Rattle.outbound_build.specs.Sent.{sent}

bare_name : (name : List ℕ) → is_blank name ≡ true → name ≡ []
bare_name [] is = refl
bare_name (byte ∷ bytes) is = absurd (cc)

some_name : (name : List ℕ) → is_blank name ≡ false → name ≡ [] → ⊥
some_name name is none = let blank : is_blank [] ≡ false = subst (λ n. is_blank n ≡ false) none is in cc

-- a name that is not empty is among those that it is added to, and all of them still are
with-there : (names : List (List ℕ)) (new name : List ℕ) → ((new ≡ name) × (name ≡ [] → ⊥)) ⊎ Contains names name → Contains (with_name names new) name
with-there names new name one = step (is_blank new) (has_name new names) refl refl one
  where
    behind : (xs : List (List ℕ)) → Contains (xs ++ new ∷ []) new
    behind [] = Contains-here new []
    behind (x ∷ xs) = Contains-there x (xs ++ new ∷ []) new (behind xs)

    front : (xs : List (List ℕ)) → Contains xs name → Contains (xs ++ new ∷ []) name
    front [] among = absurd (Contains-nil name among)
    front (x ∷ xs) among = elim (Contains-cons x xs name among) [
      | inl here ↦ subst (Contains (x ∷ (xs ++ new ∷ []))) here (Contains-here x (xs ++ new ∷ []))
      | inr there ↦ Contains-there x (xs ++ new ∷ []) name (front xs there)
    ]

    step : (blank known : Bool) → is_blank new ≡ blank → has_name new names ≡ known → ((new ≡ name) × (name ≡ [] → ⊥)) ⊎ Contains names name
        → Contains (cond (blank || known) names (names ++ new ∷ [])) name
    step true known is has (inl own) = absurd (own.1 (sym own.0 ∙ bare_name new is))
    step true known is has (inr among) = among
    step false true is has (inl own) =
        let found = list_any-found (λ other. pointwise nat_eq other new) names has in
        subst (Contains names) ((bytes_decides found.0 new).0 found.2 ∙ own.0) found.1
    step false true is has (inr among) = among
    step false false is has (inl own) = subst (Contains (names ++ new ∷ [])) own.0 (behind names)
    step false false is has (inr among) = front names among

-- and no others
there-with : (names : List (List ℕ)) (new name : List ℕ) → Contains (with_name names new) name → ((new ≡ name) × (name ≡ [] → ⊥)) ⊎ Contains names name
there-with names new name among = step (is_blank new) (has_name new names) refl among
  where
    parts : (xs : List (List ℕ)) → Contains (xs ++ new ∷ []) name → (new ≡ name) ⊎ Contains xs name
    parts [] among = elim (Contains-cons new [] name among) [
      | inl here ↦ inl here
      | inr none ↦ inr none
    ]
    parts (x ∷ xs) among = elim (Contains-cons x (xs ++ new ∷ []) name among) [
      | inl here ↦ inr (subst (Contains (x ∷ xs)) here (Contains-here x xs))
      | inr there ↦ elim (parts xs there) [
        | inl own ↦ inl own
        | inr front ↦ inr (Contains-there x xs name front)
      ]
    ]

    step : (blank known : Bool) → is_blank new ≡ blank → Contains (cond (blank || known) names (names ++ new ∷ [])) name
        → ((new ≡ name) × (name ≡ [] → ⊥)) ⊎ Contains names name
    step true known is among = inr among
    step false true is among = inr among
    step false false is among = elim (parts names among) [
      | inl own ↦ inl (own, λ none. some_name new is (own ∙ none))
      | inr front ↦ inr front
    ]

once-there : (names more : List (List ℕ)) (name : List ℕ) → (Contains more name × (name ≡ [] → ⊥)) ⊎ Contains names name →
    Contains (fold with_name names more) name
once-there names [] name (inl among) = absurd (Contains-nil name among.0)
once-there names [] name (inr among) = among
once-there names (new ∷ more) name (inl among) = elim (Contains-cons new more name among.0) [
  | inl here ↦ once-there (with_name names new) more name (inr (with-there names new name (inl (here, among.1))))
  | inr there ↦ once-there (with_name names new) more name (inl (there, among.1))
]
once-there names (new ∷ more) name (inr among) = once-there (with_name names new) more name (inr (with-there names new name (inr among)))

there-once : (names more : List (List ℕ)) (name : List ℕ) → Contains (fold with_name names more) name →
    (Contains more name × (name ≡ [] → ⊥)) ⊎ Contains names name
there-once names [] name among = inr among
there-once names (new ∷ more) name among = elim (there-once (with_name names new) more name among) [
  | inl there ↦ inl (Contains-there new more name there.0, there.1)
  | inr with ↦ elim (there-with names new name with) [
    | inl own ↦ inl (subst (Contains (new ∷ more)) own.0 (Contains-here new more), own.1)
    | inr before ↦ inr before
  ]
]

-- what is named once is what is named and not empty
once-Contains : (names : List (List ℕ)) (name : List ℕ) → Contains (named_once names) name ↔ (Contains names name × (name ≡ [] → ⊥))
once-Contains names name = (
  λ among. elim (there-once [] names name among) [
    | inl there ↦ there
    | inr none ↦ absurd (Contains-nil name none)
  ],
  λ there. once-there [] names name (inl there),
)

-- the names that rules make of a forest
names-of : (definitions : Definitions) (forest : Forest) (rules : List QueueRule) → AreNamesOf definitions forest rules
    (named_once (map (named_by definitions forest) rules))
names-of definitions forest rules name = (
  λ among.
      let there = (once-Contains (map (named_by definitions forest) rules) name).0 among in
      let found = Contains-map_back (named_by definitions forest) rules name there.0 in (
        found.0,
        found.1,
        record {
          some = there.1;
          plain = λ none. sym found.2 ∙ ap (λ o. found.0.text ++ option_map_or (text_in definitions forest) o []) none ∙ append-nil found.0.text;
          of_field = λ place is. sym found.2 ∙ ap (λ o. found.0.text ++ option_map_or (text_in definitions forest) o []) is;
        },
      ),
  λ made.
      (once-Contains (map (named_by definitions forest) rules) name).1 (
        subst (Contains (map (named_by definitions forest) rules)) (by_place made.0 made.2 made.0.place refl)
            (Contains-map (named_by definitions forest) rules made.0 made.1),
        made.2.some,
      ),
)
  where
    by_place : (rule : QueueRule) → IsNameOf definitions forest rule name → (o : Option FieldPlace) → rule.place ≡ o → named_by definitions forest rule ≡ name
    by_place rule is None here =
        ap (λ o. rule.text ++ option_map_or (text_in definitions forest) o []) here ∙ append-nil rule.text ∙ sym (is.plain here)
    by_place rule is (Some place) here = ap (λ o. rule.text ++ option_map_or (text_in definitions forest) o []) here ∙ sym (is.of_field place here)

-- the texts of rules
texts-of : (rules : List QueueRule) → AreTextsOf rules (named_once (map (λ rule. rule.text) rules))
texts-of rules name = (
  λ among.
      let there = (once-Contains (map (λ (rule : QueueRule). rule.text) rules) name).0 among in
      let found = Contains-map_back (λ (rule : QueueRule). rule.text) rules name there.0 in
      (found.0, found.1, found.2, there.1),
  λ made.
      (once-Contains (map (λ (rule : QueueRule). rule.text) rules) name).1
      (subst (Contains (map (λ (rule : QueueRule). rule.text) rules)) made.2 (Contains-map (λ (rule : QueueRule). rule.text) rules made.0 made.1), made.3),
)

-- the queues by two lists of names are these, once each
queues-are : (outbound inbound : List (List ℕ)) (queues : QueueLists) → queues_named outbound inbound ≡ Ok queues
    → record { outq = named_once outbound; inq = named_once inbound } ≡ queues
queues-are outbound inbound queues is = told (first_fault (outbound ++ inbound)) is
  where
    told : (o : Option NameFault) → option_map_or Err o (Ok (record { outq = named_once outbound; inq = named_once inbound })) ≡ Ok queues
        → record { outq = named_once outbound; inq = named_once inbound } ≡ queues
    told (Some fault) is = cc
    told None is = cc

-- a parcel whose unit is in the queues of its document, whichever number it gets
abbrev ByDocument : Lists → ℕ → Parcel → Type 0
ByDocument model system parcel = (number : ℕ) → IsQueuedByDocument model (unit_of system number parcel).unit

-- a parcel whose unit is in the queues of the rules
abbrev ByTexts : Lists → ℕ → Parcel → Type 0
ByTexts model system parcel = (number : ℕ) → IsQueuedByTexts model (unit_of system number parcel).unit

either_has : {A : Type 0} (P : A → Type 0) (b : Bool) (x y : A) → P x → P y → P (if b then x else y)
either_has P true x y one two = one
either_has P false x y one two = two

module _ (model : Lists) (system : ℕ) where
  -- the parcel of a document that is sent at once
  document-queued : (profile : Outbound) (document : Document) (numbers : List DocNum) (queues : QueueLists) → Contains model.outbound profile
      → queues_by model document.forest profile ≡ Ok queues
      → ByDocument model system (parcel_of profile queues numbers (carried model.definitions document ∷ []))
  document-queued profile document numbers queues among is number =
      let same = queues-are (map (named_by model.definitions document.forest) profile.outq) (map (named_by model.definitions document.forest) profile.inq)
      queues is in
      record {
        profile = profile;
        among = among;
        receiver = refl;
        document = document;
        docs = refl;
        outq = subst (AreNamesOf model.definitions document.forest profile.outq) (ap (λ (q : QueueLists). q.outq) same)
            (names-of model.definitions document.forest profile.outq);
        inq = subst (AreNamesOf model.definitions document.forest profile.inq) (ap (λ (q : QueueLists). q.inq) same)
            (names-of model.definitions document.forest profile.inq);
      }

  unit-queued : (number row : ℕ) (profile : Outbound) (document : Document) (batch : Batch) (queues : Result QueueLists NameFault)
      → Contains model.outbound profile → queues_by model document.forest profile ≡ queues → AllByRecursion (ByDocument model system) batch.parcels
      → AllByRecursion (ByDocument model system) (with_unit number row profile (carried model.definitions document) batch queues).parcels
  unit-queued number row profile document batch (Err fault) among is all = AllByRecursion-append (ByDocument model system) batch.parcels [] all tt
  unit-queued number row profile document batch (Ok queues) among is all =
      AllByRecursion-append (ByDocument model system) batch.parcels
      (parcel_of profile queues (record { 0 = number } ∷ []) (carried model.definitions document ∷ []) ∷ []) all
      (document-queued profile document (record { 0 = number } ∷ []) queues among is, tt)

  sent-queued : (number row : ℕ) (profile : Outbound) (batch : Batch) (document : Document) → Contains model.outbound profile
      → AllByRecursion (ByDocument model system) batch.parcels
      → AllByRecursion (ByDocument model system) (with_sent model number row profile batch document).parcels
  sent-queued number row profile batch document among all =
      either_has (λ (b : Batch). AllByRecursion (ByDocument model system) b.parcels) (profile.outmod == 4)
      (with_document number row (carried model.definitions document) Waits [] batch)
      (with_unit number row profile (carried model.definitions document) batch (queues_by model document.forest profile))
      (AllByRecursion-append (ByDocument model system) batch.parcels [] all tt)
      (unit-queued number row profile document batch (queues_by model document.forest profile) among refl all)

  row-queued : (before : ℕ) (master : Document) (batch : Batch) (row : ℕ) → AllByRecursion (ByDocument model system) batch.parcels
      → AllByRecursion (ByDocument model system) (with_row model before master batch row).parcels
  row-queued before master batch row all = of_profile (outbound_of model row) refl
    where
      number : ℕ
      number = before + length batch.documents + 1

      of_sent : (profile : Outbound) → outbound_of model row ≡ Some profile → (o : Option Document)
          → AllByRecursion (ByDocument model system) (option_map_or (with_sent model number row profile batch) o batch).parcels
      of_sent profile found None = all
      of_sent profile found (Some document) = sent-queued number row profile batch document (outbound_of-Contains model row profile found) all

      of_profile : (o : Option Outbound) → outbound_of model row ≡ o
          → AllByRecursion (ByDocument model system)
          (option_map_or (λ profile. option_map_or (with_sent model number row profile batch) (sent model row number master) batch) o batch).parcels
      of_profile None found = all
      of_profile (Some profile) found = of_sent profile found (sent model row number master)

  rows-queued : (before : ℕ) (master : Document) (batch : Batch) (rows : List ℕ) → AllByRecursion (ByDocument model system) batch.parcels
      → AllByRecursion (ByDocument model system) (fold (with_row model before master) batch rows).parcels
  rows-queued before master batch [] all = all
  rows-queued before master batch (row ∷ rows) all =
      rows-queued before master (with_row model before master batch row) rows (row-queued before master batch row all)

  master-queued : (before : ℕ) (batch : Batch) (o : Option Master) → AllByRecursion (ByDocument model system) batch.parcels
      → AllByRecursion (ByDocument model system) (option_map_or (with_rows model system before batch) o batch).parcels
  master-queued before batch None all = all
  master-queued before batch (Some master) all = rows-queued before master.document batch (receivers_of system master.message model) all

  masters-queued : (before : ℕ) (batch : Batch) (docs : List RawUnitDoc) → AllByRecursion (ByDocument model system) batch.parcels
      → AllByRecursion (ByDocument model system) (fold (with_master model system before) batch docs).parcels
  masters-queued before batch [] all = all
  masters-queued before batch (doc ∷ docs) all =
      masters-queued before (with_master model system before batch doc) docs (master-queued before batch (master_of model doc) all)

  -- the parcel of what was collected
  packed-queued : (profile : Outbound) → Contains model.outbound profile → (packet : List Waiting) → ByTexts model system (packed profile packet)
  packed-queued profile among packet number = record {
    profile = profile;
    among = among;
    receiver = refl;
    outq = texts-of profile.outq;
    inq = texts-of profile.inq;
  }

  packed_for-queued : (waiting : List Waiting) (row : ℕ) → AllByRecursion (ByTexts model system) (packed_for model waiting row)
  packed_for-queued waiting row = of_profile (outbound_of model row) refl
    where
      of_profile : (o : Option Outbound) → outbound_of model row ≡ o
          → AllByRecursion (ByTexts model system) (option_map_or (λ profile. map (packed profile) (packets profile.packet (waiting_for row waiting))) o [])
      of_profile None found = tt
      of_profile (Some profile) found =
          AllByRecursion-map (ByTexts model system) (packed profile) (packets profile.packet (waiting_for row waiting))
          (AllByRecursion-of (λ packet. ByTexts model system (packed profile packet)) (packed-queued profile (outbound_of-Contains model row profile found))
          (packets profile.packet (waiting_for row waiting)))

  dispatched-queued : (waiting : List Waiting) → AllByRecursion (ByTexts model system) (dispatched model system waiting)
  dispatched-queued waiting =
      (AllByRecursion-flat_map (ByTexts model system) (packed_for model waiting) (rows_of system model)).0
      (AllByRecursion-of (λ row. AllByRecursion (ByTexts model system) (packed_for model waiting row)) (packed_for-queued waiting) (rows_of system model))

  numbered-documents : (number : ℕ) (parcels : List Parcel) → AllByRecursion (ByDocument model system) parcels
      → AllByRecursion (λ one. IsQueuedByDocument model one.unit) (numbered system number parcels)
  numbered-documents number [] all = tt
  numbered-documents number (parcel ∷ parcels) all = (all.0 number, numbered-documents (suc number) parcels all.1)

  numbered-texts : (number : ℕ) (parcels : List Parcel) → AllByRecursion (ByTexts model system) parcels
      → AllByRecursion (λ one. IsQueuedByTexts model one.unit) (numbered system number parcels)
  numbered-texts number [] all = tt
  numbered-texts number (parcel ∷ parcels) all = (all.0 number, numbered-texts (suc number) parcels all.1)

  -- the units that a record adds are in the queues of their documents, or of the rules
  pub added-queued : (outbox : Outbox) (number : ℕ) (next : Record) → AreQueued model next (numbered system number (batch_of model system outbox next).parcels)
  added-queued outbox number (Commit origin docs) = numbered-documents number _ (masters-queued outbox.documents no_batch docs tt)
  added-queued outbox number Dispatch = numbered-texts number _ (dispatched-queued outbox.waiting)
  added-queued outbox number _ = tt
