-- What has a spelling meets the condition on writing, so what was read can be written.
use Rattle.std.specs.Prelude.{IfSome}
use Rattle.std.specs.List.{AllByRecursion}
use Rattle.std.specs.Cmp.Lexicographic.{pointwise}
use Rattle.std.proofs.Common.{◌≡◌, ℕ, Bool, true, false, not, nat_eq, ◌==◌, Option, Some, None, List, [], ◌∷◌, ◌++◌, length, refl, sym, ◌∙◌}
use Rattle.std.proofs.lemmas.Bool.{leb-true, eqb-true, eq-eqb}
use Rattle.std.proofs.lemmas.List.Folds.{list_any-append}
use Rattle.ale_base.proofs.ListLemmas.{AllByRecursion-weaker}
use Rattle.ale_base.specs.declared.change.FieldValue.{FieldValue}
use Rattle.ale_base.specs.declared.way.Way.{Way}
use Rattle.ale_base.specs.declared.way.Way.TheVariants.{Outgoing, Incoming}
use Rattle.unit_core.specs.Queues.{has_name, are_different}
use Rattle.unit_core.specs.declared.ale_unit.AleUnit.{AleUnit}
use Rattle.unit_core.specs.declared.raw_unit_doc.RawUnitDoc.{RawUnitDoc}
use Rattle.unit_core.specs.declared.records.Record.{Record}
use Rattle.unit_core.specs.declared.records.Record.TheVariants.{Genesis, Commit, Dispatch, Mark, Done, Ended, Accept, Execute, Direct, Fail, Forget, Stop}
use Rattle.unit_core.specs.declared.records.Record.TheVariants.{Start, Retry, Put, App, Repost, Model}
use Rattle.unit_codec.specs.Kind.{number, sized, listed, optional, AllFollow}
use Rattle.unit_codec.specs.Fields.{is_name, is_other, name, text, destination, document, documents, segments, sender, receiver, function, queues, a_unit}
use Rattle.unit_codec.specs.Fields.{field_value, field_values}
use Rattle.unit_codec.specs.Records.{genesis, commit, stop, put, a_record}
use Rattle.unit_codec.specs.declared.entry.Entry.{Entry}
use Rattle.unit_codec.specs.Entries.{an_entry}
use Rattle.unit_codec.specs.Condition.{IsWritableEntry, IsName, IsText, IsDocument, AreDocuments, AreQueues, IsUnit, HasDestination, IsFieldValue, AreCounted}
use Rattle.unit_codec.specs.Condition.{IsWritable}
use Rattle.unit_codec.proofs.RuleLemmas.{parts, both, is_between-parts}
use Rattle.unit_codec.proofs.ListLemmas.{or_false, differs-back}

name-condition : (value : List ℕ) → name.Fits value → IsName value
unfolding name
name-condition value fits = is_between-parts 1 30 (length value) fits.1

text-condition : (value : List ℕ) → text.Fits value → IsText value
unfolding text sized
text-condition value fits = fits

origin-condition : (origin : Option (List ℕ)) → IfSome origin name.Fits → IfSome origin IsName
origin-condition None fits = tt
origin-condition (Some value) fits = name-condition value fits

document-condition : (value : RawUnitDoc) → document.Fits value → IsDocument value
unfolding document segments listed
document-condition value fits = leb-true (length value.segments) 10000 fits.1.0.1

documents-condition : (values : List RawUnitDoc) → documents.Fits values → AreDocuments values
unfolding documents listed number
documents-condition values fits = (
  (leb-true 1 (length values) fits.0.1, fits.0.0),
  AllByRecursion-weaker document.Fits IsDocument values document-condition
      fits.1,
)

field_value-condition : (value : FieldValue) → field_value.Fits value → IsFieldValue value
unfolding field_value
field_value-condition value fits = (name-condition value.field fits.0, text-condition value.value fits.1)

field_values-condition : (values : List FieldValue) → field_values.Fits values → AreCounted values × AllByRecursion IsFieldValue values
unfolding field_values listed number
field_values-condition values fits = (
  (leb-true 1 (length values) fits.0.1, fits.0.0),
  AllByRecursion-weaker field_value.Fits IsFieldValue values
      field_value-condition fits.1,
)

destination-condition : (direction : Way) (to : ℕ) → (destination direction).Fits to → HasDestination direction to
unfolding destination
destination-condition Outgoing to fits = tt
destination-condition Incoming to fits = eqb-true to 0 fits.1

-- ---- names that differ

not_false : (b : Bool) → not b ≡ true → b ≡ false
not_false true is = absurd cc
not_false false is = refl

-- names that follow each other are none of those before them
new-follow : (front names : List (List ℕ)) → AllFollow is_other front names → AllByRecursion (λ x. has_name x front ≡ false) names
new-follow front [] follow = tt
new-follow front (x ∷ names) follow = (
  not_false (has_name x front) follow.0,
  AllByRecursion-weaker (λ y. has_name y (front ++ x ∷ []) ≡ false)
      (λ y. has_name y front ≡ false) names (shorter front x) (new-follow (front ++ x ∷ []) names follow.1),
)
  where
    shorter : (front : List (List ℕ)) (x y : List ℕ) → has_name y (front ++ x ∷ []) ≡ false → has_name y front ≡ false
    shorter front x y none = (or_false (has_name y front) (has_name y (x ∷ [])) (sym (list_any-append (λ z. pointwise nat_eq z y) front (x ∷ [])) ∙ none)).0

-- a name is none of these where each of these is none of it alone
none-one : (x : List ℕ) (names : List (List ℕ)) → AllByRecursion (λ y. has_name y (x ∷ []) ≡ false) names → has_name x names ≡ false
none-one x [] new = refl
none-one x (y ∷ names) new = rw (differs-back y x (or_false (pointwise nat_eq x y) false new.0).0) (none-one x names new.1)

different-follow : (front names : List (List ℕ)) → AllFollow is_other front names → are_different names ≡ true
different-follow front [] follow = refl
different-follow front (x ∷ names) follow =
    let new = new-follow (front ++ x ∷ []) names follow.1 in
    let alone = AllByRecursion-weaker (λ y. has_name y (front ++ x ∷ []) ≡ false) (λ y. has_name y (x ∷ []) ≡ false) names (last front x) new in
    both (not (has_name x names)) (are_different names) (rw (none-one x names alone) refl) (different-follow (front ++ x ∷ []) names follow.1)
  where
    last : (front : List (List ℕ)) (x y : List ℕ) → has_name y (front ++ x ∷ []) ≡ false → has_name y (x ∷ []) ≡ false
    last front x y none = (or_false (has_name y front) (has_name y (x ∷ [])) (sym (list_any-append (λ z. pointwise nat_eq z y) front (x ∷ [])) ∙ none)).1

queues-condition : (names : List (List ℕ)) → queues.Fits names → AreQueues names
unfolding queues listed
queues-condition names fits = (leb-true (length names) 8 fits.0.1, different-follow [] names fits.2)

-- ---- units and records

unit-condition : (unit : AleUnit) → a_unit.Fits unit → IsUnit unit
unfolding a_unit sender receiver function
unit-condition unit fits =
    let other = parts _ (not (unit.receiver == unit.sender)) fits.1.1.0.1 in
    record {
      sender = eqb-true unit.sender unit.tid.system fits.1.0.1;
      receiver = λ same. let is : (unit.receiver == unit.sender) ≡ true = eq-eqb unit.receiver unit.sender same in let f = not_false
          (unit.receiver == unit.sender) other.1 in absurd cc;
      function = (is_between-parts 1 30 (length unit.function) (parts (is_name unit.function) _ fits.1.1.1.0.1).0).0;
      outq = queues-condition unit.outq fits.1.1.1.1.0;
      inq = queues-condition unit.inq fits.1.1.1.1.1.0;
      docs = documents-condition unit.docs fits.1.1.1.1.1.1;
    }

-- a record that has a spelling meets the condition on writing it
pub record-condition : (what : Record) → a_record.Fits what → IsWritable what
unfolding a_record genesis commit optional stop put
record-condition (Genesis system model) fits = text-condition model fits.1
record-condition (Commit origin docs) fits = (origin-condition origin fits.0, documents-condition docs fits.1)
record-condition Dispatch fits = tt
record-condition (Mark id why) fits = tt
record-condition (Done id) fits = tt
record-condition (Ended id) fits = tt
record-condition (Accept unit) fits = unit-condition unit fits
record-condition (Execute id) fits = tt
record-condition (Direct unit) fits = unit-condition unit fits
record-condition (Fail id) fits = tt
record-condition (Forget id) fits = tt
record-condition (Stop direction to called) fits = destination-condition direction to fits.1.0
record-condition (Start direction to called) fits = destination-condition direction to fits.1.0
record-condition (Retry direction id) fits = tt
record-condition (Put kind key fields) fits =
    let values = field_values-condition fields fits.1.1 in
    (name-condition kind fits.0, text-condition key fits.1.0, values.0, values.1)
record-condition (App doc) fits = tt
record-condition (Repost doc) fits = tt
record-condition (Model model) fits = text-condition model fits

pub entry-condition : (entry : Entry) → an_entry.Fits entry → IsWritableEntry entry
unfolding an_entry
entry-condition entry fits = record-condition entry.what fits.1
