-- The fields of a control record side by side, written and read in any pair.
use Rattle.std.specs.Prelude.{◌==◌, ◌&&◌, if◌then◌else◌, codes}
use Rattle.std.proofs.Common.{◌≡◌, ℕ, ◌+◌, ◌-◌, ◌≤◌, Bool, true, false, nat_le, ◌||◌, ◌⊎◌, inl, inr, Option, Some, None, List, [], ◌∷◌, ◌++◌, length, take}
use Rattle.std.proofs.Common.{drop, refl, sym, ap, subst, ◌∙◌, arith, length-append}
use Rattle.std.proofs.lemmas.Bool.{le-leb, eqb-true, eq-eqb, cases_Bool, cond-true, cond-false, and_parts}
use Rattle.std.proofs.lemmas.Option.{same_Some}
use Rattle.std.proofs.lemmas.List.{drop_all, length-take, length-drop, drop-drop, take-append-drop}
use Rattle.std.proofs.Math.Bool.{or-true, true-or}
use Rattle.std.proofs.Math.Seq.{take-append_seam, drop-append-add}
use Rattle.ale_base.specs.Blanks.{trimmed, padded}
use Rattle.ale_base.specs.TrimmedLemmas.{trimmed-trimmed, trimmed-padded, padded-trimmed_at, length-padded}
use Rattle.idoc_record.specs.declared.control_field.ControlField.{ControlField}
use Rattle.idoc_record.specs.declared.control_field.ControlField.TheVariants.{Tabnam}
use Rattle.idoc_record.specs.ControlField.{span_of, all_fields, is_field}
use Rattle.idoc_record.specs.Parts.{part, with_text}
use Rattle.idoc_record.specs.Control.{field_of, fields_joined, control_with, HasRoom, written_at, blank_text}
use Rattle.idoc_record.proofs.PartLemmas.{is_apart, length-text_at, length-with_text, text_at-same, part-apart}

-- each of these fields begins where the one before it ends, the first at this offset, and the last ends with the record
abbrev are_side_by_side : ℕ → List ControlField → Bool
are_side_by_side offset [] = offset == 524
are_side_by_side offset (field ∷ fields) = (span_of field).offset == offset && are_side_by_side (offset + (span_of field).length) fields

abbrev AreSideBySide : ℕ → List ControlField → Type 0
AreSideBySide offset [] = offset ≡ 524
AreSideBySide offset (field ∷ fields) = ((span_of field).offset ≡ offset) × AreSideBySide (offset + (span_of field).length) fields

side_by_side-decided : (offset : ℕ) (fields : List ControlField) → are_side_by_side offset fields ≡ true → AreSideBySide offset fields
side_by_side-decided offset [] is = eqb-true offset 524 is
side_by_side-decided offset (field ∷ fields) is =
    let parts = and_parts ((span_of field).offset == offset) (are_side_by_side (offset + (span_of field).length) fields) is in
    (eqb-true (span_of field).offset offset parts.0, side_by_side-decided (offset + (span_of field).length) fields parts.1)

are_all : are_side_by_side 0 all_fields ≡ true
unfolding all_fields
are_all = refl

all-side_by_side : AreSideBySide 0 all_fields
all-side_by_side = side_by_side-decided 0 all_fields are_all

-- the first of some fields that begins at an offset
abbrev first_at : ℕ → List ControlField → Option ControlField
first_at offset [] = None
first_at offset (field ∷ fields) = if (span_of field).offset == offset then Some field else first_at offset fields

-- each field stands in the list of all, and no other begins where it does
among_all : (field : ControlField) → first_at (span_of field).offset all_fields ≡ Some field
unfolding all_fields
among_all Tabnam = refl
among_all _ = refl

first_at-cases : (first : ControlField) (fields : List ControlField) (offset : ℕ) (field : ControlField) → first_at offset (first ∷ fields) ≡ Some field
    → (first ≡ field) ⊎ (first_at offset fields ≡ Some field)
first_at-cases first fields offset field here =
    elim (cases_Bool ((span_of first).offset == offset)) [
      | inl is ↦ inl (same_Some first field (sym (cond-true ((span_of first).offset == offset) (Some first) (first_at offset fields) is) ∙ here))
      | inr other ↦ inr (sym (cond-false ((span_of first).offset == offset) (Some first) (first_at offset fields) other) ∙ here)
    ]

-- a field is the one that its offset tells
is_field-same : (field other : ControlField) → is_field field other ≡ true → field ≡ other
is_field-same field other is =
    same_Some field other (sym (among_all field) ∙ ap (λ n. first_at n all_fields) (eqb-true (span_of field).offset (span_of other).offset is)
    ∙ among_all other)

is_field-self : (field : ControlField) → is_field field field ≡ true
is_field-self field = eq-eqb (span_of field).offset (span_of field).offset refl

ends-within : (offset : ℕ) (fields : List ControlField) → AreSideBySide offset fields → offset ≤ 524
ends-within offset [] side = omega arith
ends-within offset (field ∷ fields) side = omega (arith, ends-within (offset + (span_of field).length) fields side.1)

begins-from : (offset : ℕ) (fields : List ControlField) (at : ℕ) (field : ControlField) → AreSideBySide offset fields → first_at at fields ≡ Some field
    → offset ≤ (span_of field).offset
begins-from offset [] at field side here = cc
begins-from offset (first ∷ fields) at field side here =
    elim (first_at-cases first fields at field here) [
      | inl same ↦ omega (arith, side.0, ap (λ f. (span_of f).offset) same)
      | inr there ↦ omega (arith, begins-from (offset + (span_of first).length) fields at field side.1 there)
    ]

field-within_at : (offset : ℕ) (fields : List ControlField) (at : ℕ) (field : ControlField) → AreSideBySide offset fields → first_at at fields ≡ Some field
    → (span_of field).offset + (span_of field).length ≤ 524
field-within_at offset [] at field side here = cc
field-within_at offset (first ∷ fields) at field side here =
    elim (first_at-cases first fields at field here) [
      | inl same ↦ subst (λ f. (span_of f).offset + (span_of f).length ≤ 524) same
          (omega (arith, side.0, ends-within (offset + (span_of first).length) fields side.1))
      | inr there ↦ field-within_at (offset + (span_of first).length) fields at field side.1 there
    ]

-- each field ends within the record
pub field-within : (field : ControlField) → (span_of field).offset + (span_of field).length ≤ 524
field-within field = field-within_at 0 all_fields (span_of field).offset field all-side_by_side (among_all field)

apart-left : (p q : ControlField) → (span_of q).offset + (span_of q).length ≤ (span_of p).offset → is_apart (span_of p) (span_of q) ≡ true
apart-left p q before =
    ap (λ b. b || nat_le ((span_of p).offset + (span_of p).length) (span_of q).offset)
    (le-leb ((span_of q).offset + (span_of q).length) (span_of p).offset before)
    ∙ true-or (nat_le ((span_of p).offset + (span_of p).length) (span_of q).offset)

apart-right : (p q : ControlField) → (span_of p).offset + (span_of p).length ≤ (span_of q).offset → is_apart (span_of p) (span_of q) ≡ true
apart-right p q behind =
    ap (λ b. nat_le ((span_of q).offset + (span_of q).length) (span_of p).offset || b)
    (le-leb ((span_of p).offset + (span_of p).length) (span_of q).offset behind)
    ∙ or-true (nat_le ((span_of q).offset + (span_of q).length) (span_of p).offset)

first-ends : (offset : ℕ) (first : ControlField) (fields : List ControlField) (field other : ControlField) → AreSideBySide offset (first ∷ fields)
    → first ≡ field → first_at (span_of other).offset fields ≡ Some other → (span_of field).offset + (span_of field).length ≤ (span_of other).offset
first-ends offset first fields field other side same there =
    subst (λ f. (span_of f).offset + (span_of f).length ≤ (span_of other).offset) same
    (omega (arith, side.0, begins-from (offset + (span_of first).length) fields (span_of other).offset other side.1 there))

same_or_apart : (offset : ℕ) (fields : List ControlField) (field other : ControlField) → AreSideBySide offset fields →
    first_at (span_of field).offset fields ≡ Some field
    → first_at (span_of other).offset fields ≡ Some other → (field ≡ other) ⊎ (is_apart (span_of field) (span_of other) ≡ true)
same_or_apart offset [] field other side one two = cc
same_or_apart offset (first ∷ fields) field other side one two =
    elim (first_at-cases first fields (span_of field).offset field one) [
      | inl same ↦ elim (first_at-cases first fields (span_of other).offset other two) [
        | inl too ↦ inl (sym same ∙ too)
        | inr there ↦ inr (apart-right field other (first-ends offset first fields field other side same there))
      ]
      | inr here ↦ elim (first_at-cases first fields (span_of other).offset other two) [
        | inl same ↦ inr (apart-left field other (first-ends offset first fields other field side same here))
        | inr there ↦ same_or_apart (offset + (span_of first).length) fields field other side.1 here there
      ]
    ]

-- two fields are one, or their places are apart
pub fields-apart : (field other : ControlField) → (field ≡ other) ⊎ (is_apart (span_of field) (span_of other) ≡ true)
fields-apart field other = same_or_apart 0 all_fields field other all-side_by_side (among_all field) (among_all other)

-- a field that is written reads the text
pub field_of-written : (control text : List ℕ) (field : ControlField) → length control ≡ 524 → length text ≤ (span_of field).length
    → field_of (with_text (span_of field) text control) field ≡ trimmed text
field_of-written control text field whole fits = text_at-same (span_of field) text control fits (omega (arith, field-within field))

-- each other field reads as before
pub field_of-other : (control text : List ℕ) (field other : ControlField) → length control ≡ 524 → length text ≤ (span_of field).length
    → is_field field other ≡ false → field_of (with_text (span_of field) text control) other ≡ field_of control other
field_of-other control text field other whole fits differ =
    elim (fields-apart field other) [
      | inl same ↦ absurd (let never : true ≡ false = sym (is_field-self field) ∙ ap (is_field field) same ∙ differ in cc)
      | inr apart ↦ ap trimmed (part-apart (span_of field) (span_of other) text control fits (omega (arith, field-within field)) apart)
    ]

take_front : (n : ℕ) (front rest : List ℕ) → length front ≡ n → take n (front ++ rest) ≡ front
take_front n front rest same = subst (λ (m : ℕ). take m (front ++ rest) ≡ front) same (take-append_seam front rest)

drop_front : (n more : ℕ) (front rest : List ℕ) → length front ≡ n → drop (n + more) (front ++ rest) ≡ drop more rest
drop_front n more front rest same = subst (λ (m : ℕ). drop (m + more) (front ++ rest) ≡ drop more rest) same (drop-append-add front rest more)

fields_joined-part : (fields : List ControlField) (texts : ControlField → List ℕ) (offset skipped : ℕ) (field : ControlField) → AreSideBySide offset fields →
    HasRoom texts
    → first_at (span_of field).offset fields ≡ Some field → (span_of field).offset ≡ offset + skipped
    → take (span_of field).length (drop skipped (fields_joined fields texts)) ≡ padded (span_of field).length (texts field)
fields_joined-part [] texts offset skipped field side room here at = cc
fields_joined-part (first ∷ fields) texts offset skipped field side room here at =
    let front = padded (span_of first).length (texts first) in
    let rest = fields_joined fields texts in
    let long : length front ≡ (span_of first).length = length-padded (span_of first).length (texts first) (room first) in
    elim (first_at-cases first fields (span_of field).offset field here) [
      | inl same ↦
          let none : 0 ≡ skipped = omega (arith, side.0, ap (λ f. (span_of f).offset) same) in
          subst (λ f. take (span_of f).length (drop skipped (front ++ rest)) ≡ padded (span_of f).length (texts f)) same
          (subst (λ n. take (span_of first).length (drop n (front ++ rest)) ≡ front) none (take_front (span_of first).length front rest long))
      | inr there ↦
          let left = skipped - (span_of first).length in
          let split : skipped ≡ (span_of first).length + left = omega
          (arith, begins-from (offset + (span_of first).length) fields (span_of field).offset field side.1 there) in
          ap (λ n. take (span_of field).length (drop n (front ++ rest))) split
          ∙ ap (take (span_of field).length) (drop_front (span_of first).length left front rest long)
          ∙ fields_joined-part fields texts (offset + (span_of first).length) left field side.1 room there (omega arith)
    ]

-- a field of a record that is made of texts reads its text
pub field_of-control_with : (texts : ControlField → List ℕ) (field : ControlField) → HasRoom texts → field_of (control_with texts) field ≡ trimmed (texts field)
field_of-control_with texts field room =
    ap trimmed (fields_joined-part all_fields texts 0 (span_of field).offset field all-side_by_side room (among_all field) (omega arith))
    ∙ trimmed-padded (span_of field).length (texts field)

length-fields_joined : (offset : ℕ) (fields : List ControlField) (texts : ControlField → List ℕ) → AreSideBySide offset fields → HasRoom texts
    → offset + length (fields_joined fields texts) ≡ 524
length-fields_joined offset [] texts side room = omega (arith, side)
length-fields_joined offset (field ∷ fields) texts side room =
    omega (
      arith,
      length-append (padded (span_of field).length (texts field)) (fields_joined fields texts),
      length-padded (span_of field).length (texts field) (room field),
      length-fields_joined (offset + (span_of field).length) fields texts side.1 room,
    )

-- a record that is made of texts has its length
pub length-control_with : (texts : ControlField → List ℕ) → HasRoom texts → length (control_with texts) ≡ 524
length-control_with texts room = omega (arith, length-fields_joined 0 all_fields texts all-side_by_side room)

joined-read : (offset : ℕ) (fields : List ControlField) (bytes : List ℕ) → AreSideBySide offset fields → length bytes ≡ 524
    → fields_joined fields (field_of bytes) ≡ drop offset bytes
joined-read offset [] bytes side whole = sym (drop_all offset bytes (omega (arith, side)))
joined-read offset (field ∷ fields) bytes side whole =
    let size = (span_of field).length in
    let own = take size (drop (span_of field).offset bytes) in
    let ends = ends-within (offset + size) fields side.1 in
    let long : length own ≡ size = omega (
      arith,
      length-take size (drop (span_of field).offset bytes),
      length-drop
          (span_of field).offset bytes,
      side.0,
      ends,
    ) in
    ap (λ front. front ++ fields_joined fields (field_of bytes)) (padded-trimmed_at size own long)
    ∙ ap (λ rest. own ++ rest) (joined-read (offset + size) fields bytes side.1 whole ∙ sym (drop-drop size offset bytes))
    ∙ ap (λ at. take size (drop at bytes) ++ drop size (drop offset bytes)) side.0
    ∙ take-append-drop size (drop offset bytes)

-- each record of this length is made of the texts of its fields
pub control_with-read : (bytes : List ℕ) → length bytes ≡ 524 → control_with (field_of bytes) ≡ bytes
control_with-read bytes whole = joined-read 0 all_fields bytes all-side_by_side whole

fields_joined-same : (fields : List ControlField) (texts others : ControlField → List ℕ)
    → ((field : ControlField) → padded (span_of field).length (texts field) ≡ padded (span_of field).length (others field)) →
    fields_joined fields texts ≡ fields_joined fields others
fields_joined-same [] texts others same = refl
fields_joined-same (field ∷ fields) texts others same =
    ap (λ front. front ++ fields_joined fields texts) (same field)
    ∙ ap (λ rest. padded (span_of field).length (others field) ++ rest) (fields_joined-same fields texts others same)

-- 524 bytes with the table's name at their front
abbrev pub blank_bytes : List ℕ
blank_bytes = padded 524 (codes "EDI_DC40")

blank_bytes-read : (field : ControlField) → field_of blank_bytes field ≡ blank_text field
blank_bytes-read Tabnam = refl
blank_bytes-read _ = refl

fields_joined-each : (fields : List ControlField) (texts others : ControlField → List ℕ) → ((field : ControlField) → texts field ≡ others field)
    → fields_joined fields texts ≡ fields_joined fields others
fields_joined-each fields texts others same = fields_joined-same fields texts others (λ field. ap (padded (span_of field).length) (same field))

-- they are the record that holds the table's name alone
pub blank-control : blank_bytes ≡ control_with blank_text
blank-control = sym (control_with-read blank_bytes refl) ∙ fields_joined-each all_fields (field_of blank_bytes) blank_text blank_bytes-read

padded-text : (width : ℕ) (text : List ℕ) → length text ≤ width → padded width (trimmed text) ≡ padded width text
padded-text width text fits = ap (padded width) (sym (trimmed-padded width text)) ∙ padded-trimmed_at width (padded width text) (length-padded width text fits)

-- texts that are the same but for blanks at their ends make the same record
pub control_with-same : (texts others : ControlField → List ℕ) → HasRoom texts → HasRoom others →
    ((field : ControlField) → trimmed (texts field) ≡ trimmed (others field))
    → control_with texts ≡ control_with others
control_with-same texts others room too same =
    fields_joined-same all_fields texts others
    (λ field. sym (padded-text (span_of field).length (texts field) (room field)) ∙ ap (padded (span_of field).length) (same field)
    ∙ padded-text (span_of field).length (others field) (too field))

-- one text more that has room in its field
pub HasRoom-written : (field : ControlField) (text : List ℕ) (texts : ControlField → List ℕ) → length text ≤ (span_of field).length → HasRoom texts →
    HasRoom (written_at field text texts)
HasRoom-written field text texts fits room other =
    elim (cases_Bool (is_field field other)) [
      | inl is ↦ omega (arith, ap length (cond-true (is_field field other) text (texts other) is), ap (λ f. (span_of f).length) (is_field-same field other is))
      | inr differ ↦ omega (arith, ap length (cond-false (is_field field other) text (texts other) differ), room other)
    ]

-- a field written into a record that is made of texts makes the record with this text in its place
pub control_with-written : (field : ControlField) (text : List ℕ) (texts : ControlField → List ℕ) → length text ≤ (span_of field).length → HasRoom texts
    → with_text (span_of field) text (control_with texts) ≡ control_with (written_at field text texts)
control_with-written field text texts fits room =
    let control = control_with texts in
    let bytes = with_text (span_of field) text control in
    let whole : length control ≡ 524 = length-control_with texts room in
    let long : length bytes ≡ 524 = length-with_text (span_of field) text control fits (omega (arith, field-within field)) ∙ whole in
    let reads : (other : ControlField) → trimmed (field_of bytes other) ≡ trimmed (written_at field text texts other)
    = λ other. elim (cases_Bool (is_field field other)) [
      | inl is ↦
          let same = is_field-same field other is in
          trimmed-trimmed (part (span_of other) bytes)
          ∙ ap (field_of bytes) (sym same) ∙ field_of-written control text field whole fits
          ∙ ap trimmed (sym (cond-true (is_field field other) text (texts other) is))
      | inr differ ↦
          trimmed-trimmed (part (span_of other) bytes)
          ∙ field_of-other control text field other whole fits differ ∙ field_of-control_with texts other room
          ∙ ap trimmed (sym (cond-false (is_field field other) text (texts other) differ))
    ] in
    sym (control_with-read bytes long)
    ∙ control_with-same (field_of bytes) (written_at field text texts) (λ other. length-text_at (span_of other) bytes)
    (HasRoom-written field text texts fits room) reads
