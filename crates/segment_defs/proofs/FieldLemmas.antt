-- Data that are made of the texts of fields, and the texts that are read in them again.
use Rattle.std.specs.Prelude.{slice_get, replicate}
use Rattle.std.specs.Option.{option_map_or}
use Rattle.std.proofs.Common.{◌≡◌, ℕ, zero, suc, ◌+◌, ◌-◌, ◌≤◌, Some, List, [], ◌∷◌, ◌++◌, length, take, drop, refl, sym, ap, subst, ◌∙◌, arith, append_assoc}
use Rattle.std.proofs.Common.{append-nil, length-append}
use Rattle.std.proofs.lemmas.Option.{same_Some}
use Rattle.std.proofs.lemmas.List.{take_all, length-take, length-drop, drop-drop, drop-take, take-take}
use Rattle.std.proofs.lemmas.List.Sums.{sum_by-cons}
use Rattle.std.proofs.Math.Seq.{take-append_seam, drop-append-add, take-add}
use Rattle.ale_base.specs.Blanks.{trimmed, padded}
use Rattle.ale_base.specs.TrimmedLemmas.{trimmed-trimmed, length-trimmed, padded-trimmed, padded-trimmed_at, trimmed-padded, trimmed-take-padded}
use Rattle.ale_base.specs.TrimmedLemmas.{trimmed-drop-padded, length-padded}
use Rattle.segment_defs.specs.declared.field.Field.{Field}
use Rattle.segment_defs.specs.declared.version.Version.{Version}
use Rattle.segment_defs.specs.Version.{width_of, AreLaidOut, field_text, fitted, text_in, texts_joined, data_of, HaveRoom}

trimmed-take-trimmed : (n : ℕ) (bytes : List ℕ) → trimmed (take n bytes) ≡ trimmed (take n (trimmed bytes))
trimmed-take-trimmed n bytes =
    subst (λ bs. trimmed (take n bs) ≡ trimmed (take n (trimmed bytes))) (padded-trimmed bytes) (trimmed-take-padded n (length bytes) (trimmed bytes))

trimmed-drop-trimmed : (n : ℕ) (bytes : List ℕ) → trimmed (drop n bytes) ≡ trimmed (drop n (trimmed bytes))
trimmed-drop-trimmed n bytes =
    subst (λ bs. trimmed (drop n bs) ≡ trimmed (drop n (trimmed bytes))) (padded-trimmed bytes) (trimmed-drop-padded n (length bytes) (trimmed bytes))

-- the bytes before the blanks at the end
pub take-trimmed : (bytes : List ℕ) → take (length (trimmed bytes)) bytes ≡ trimmed bytes
take-trimmed bytes =
    subst (λ bs. take (length (trimmed bytes)) bs ≡ trimmed bytes) (padded-trimmed bytes)
    (take-append_seam (trimmed bytes) (replicate (length bytes - length (trimmed bytes)) 32))

-- a field is the same in data without the blanks at their end
pub field_text-trimmed : (bytes : List ℕ) (field : Field) → field_text (trimmed bytes) field ≡ field_text bytes field
field_text-trimmed bytes field =
    trimmed-take-trimmed field.length (drop field.offset (trimmed bytes))
    ∙ ap (λ text. trimmed (take field.length text)) (sym (trimmed-drop-trimmed field.offset bytes))
    ∙ sym (trimmed-take-trimmed field.length (drop field.offset bytes))

-- the text of a field is no longer than the field
pub length-field_text : (sdata : List ℕ) (field : Field) → length (field_text sdata field) ≤ field.length
length-field_text sdata field =
    omega (arith, length-trimmed (take field.length (drop field.offset sdata)), length-take field.length (drop field.offset sdata))

-- the text of the field at a place
pub text_in-at : (fields : List Field) (sdata : List ℕ) (place : ℕ) (field : Field) → slice_get fields place ≡ Some field →
    text_in fields sdata place ≡ field_text sdata field
text_in-at fields sdata place field here = ap (λ f. option_map_or (field_text sdata) f []) here

-- the texts of fields have room in them
pub HaveRoom-text_in : (fields : List Field) (sdata : List ℕ) → HaveRoom fields (text_in fields sdata)
HaveRoom-text_in fields sdata place field here =
    omega (arith, ap length (text_in-at fields sdata place field here), length-field_text sdata field)

-- fields that are laid out from an offset begin no earlier
laid_out-from : (offset : ℕ) (fields : List Field) (place : ℕ) (field : Field) → AreLaidOut offset fields → slice_get fields place ≡ Some field →
    offset ≤ field.offset
laid_out-from offset [] place field laid here = cc
laid_out-from offset (first ∷ fields) zero field laid here =
    let at : field.offset ≡ first.offset = ap (λ f. f.offset) (sym (same_Some first field here)) in
    omega (arith, laid.0)
laid_out-from offset (first ∷ fields) (suc place) field laid here =
    omega (arith, laid_out-from (offset + first.length) fields place field laid.1 here)

-- a field ends where all of them do, or earlier
laid_out-within : (offset : ℕ) (fields : List Field) (place : ℕ) (field : Field) → AreLaidOut offset fields → slice_get fields place ≡ Some field
    → field.offset + field.length ≤ offset + width_of fields
laid_out-within offset [] place field laid here = cc
laid_out-within offset (first ∷ fields) zero field laid here =
    let same : first ≡ field = same_Some first field here in
    let at : field.offset ≡ first.offset = ap (λ f. f.offset) (sym same) in
    let long : field.length ≡ first.length = ap (λ f. f.length) (sym same) in
    omega (arith, laid.0, sum_by-cons (λ (f : Field). f.length) first fields)
laid_out-within offset (first ∷ fields) (suc place) field laid here =
    omega (arith, laid_out-within (offset + first.length) fields place field laid.1 here, sum_by-cons (λ (f : Field). f.length) first fields)

take_front : (n : ℕ) (front rest : List ℕ) → length front ≡ n → take n (front ++ rest) ≡ front
take_front n front rest same = subst (λ (m : ℕ). take m (front ++ rest) ≡ front) same (take-append_seam front rest)

drop_front : (n more : ℕ) (front rest : List ℕ) → length front ≡ n → drop (n + more) (front ++ rest) ≡ drop more rest
drop_front n more front rest same = subst (λ (m : ℕ). drop (m + more) (front ++ rest) ≡ drop more rest) same (drop-append-add front rest more)

-- the part of a field in the joined texts, from the offset of the first field on
texts_joined-part : (fields : List Field) (texts : ℕ → List ℕ) (offset skipped place : ℕ) (field : Field) → AreLaidOut offset fields → HaveRoom fields texts
    → slice_get fields place ≡ Some field → field.offset ≡ offset + skipped → take field.length (drop skipped (texts_joined fields texts))
    ≡ padded field.length (texts place)
texts_joined-part [] texts offset skipped place field laid room here at = cc
texts_joined-part (first ∷ fields) texts offset skipped zero field laid room here at =
    let same : first ≡ field = same_Some first field here in
    let begins : field.offset ≡ first.offset = ap (λ f. f.offset) (sym same) in
    let none : 0 ≡ skipped = omega (arith, laid.0) in
    let joined = texts_joined (first ∷ fields) texts in
    subst (λ f. take f.length (drop skipped joined) ≡ padded f.length (texts 0)) same
    (subst (λ n. take first.length (drop n joined) ≡ padded first.length (texts 0)) none
    (take_front first.length (padded first.length (texts 0)) (texts_joined fields (λ p. texts (suc p)))
    (length-padded first.length (texts 0) (room 0 first refl))))
texts_joined-part (first ∷ fields) texts offset skipped (suc place) field laid room here at =
    let front = padded first.length (texts 0) in
    let rest = texts_joined fields (λ p. texts (suc p)) in
    let left = skipped - first.length in
    let split : skipped ≡ first.length + left = omega (arith, laid_out-from (offset + first.length) fields place field laid.1 here) in
    ap (λ n. take field.length (drop n (front ++ rest))) split
    ∙ ap (take field.length) (drop_front first.length left front rest (length-padded first.length (texts 0) (room 0 first refl)))
    ∙ texts_joined-part fields (λ p. texts (suc p)) (offset + first.length) left place field laid.1 (λ p f is. room (suc p) f is) here (omega arith)

-- a field of data that are made of texts reads its text
pub field_text-data_of : (fields : List Field) (texts : ℕ → List ℕ) (place : ℕ) (field : Field) → AreLaidOut 0 fields → HaveRoom fields texts
    → slice_get fields place ≡ Some field → field_text (data_of fields texts) field ≡ trimmed (texts place)
field_text-data_of fields texts place field laid room here =
    field_text-trimmed (texts_joined fields texts) field
    ∙ ap trimmed (texts_joined-part fields texts 0 field.offset place field laid room here (omega arith))
    ∙ trimmed-padded field.length (texts place)

-- joined texts are as wide as their fields
pub length-texts_joined : (fields : List Field) (texts : ℕ → List ℕ) → HaveRoom fields texts → length (texts_joined fields texts) ≡ width_of fields
length-texts_joined [] texts room = refl
length-texts_joined (field ∷ fields) texts room =
    let front : length (padded field.length (texts 0)) ≡ field.length = length-padded field.length (texts 0) (room 0 field refl) in
    let rest : length (texts_joined fields (λ p. texts (suc p))) ≡ width_of fields = length-texts_joined fields (λ p. texts (suc p))
    (λ p f is. room (suc p) f is) in
    let both : length (texts_joined (field ∷ fields) texts) ≡ length (padded field.length (texts 0)) + length (texts_joined fields (λ p. texts (suc p)))
    = length-append (padded field.length (texts 0)) (texts_joined fields (λ p. texts (suc p))) in
    let width : width_of (field ∷ fields) ≡ field.length + width_of fields = sum_by-cons (λ (f : Field). f.length) field fields in
    omega arith

-- data that are made of texts are no longer than their fields
pub length-data_of : (fields : List Field) (texts : ℕ → List ℕ) → HaveRoom fields texts → length (data_of fields texts) ≤ width_of fields
length-data_of fields texts room = omega (arith, length-trimmed (texts_joined fields texts), length-texts_joined fields texts room)

-- data that are made of texts end in no blank
pub trimmed-data_of : (fields : List Field) (texts : ℕ → List ℕ) → trimmed (data_of fields texts) ≡ data_of fields texts
trimmed-data_of fields texts = trimmed-trimmed (texts_joined fields texts)

-- data that are made of texts of a definition's fields are as the definition has them
pub fitted-data_of : (version : Version) (texts : ℕ → List ℕ) → HaveRoom version.fields texts → fitted version (data_of version.fields texts)
    ≡ data_of version.fields texts
fitted-data_of version texts room =
    ap trimmed (take_all (width_of version.fields) (data_of version.fields texts) (length-data_of version.fields texts room))
    ∙ trimmed-data_of version.fields texts

-- texts that are the same in their fields make the same
pub texts_joined-same : (fields : List Field) (texts others : ℕ → List ℕ)
    → ((place : ℕ) (field : Field) → slice_get fields place ≡ Some field → padded field.length (texts place) ≡ padded field.length (others place))
    → texts_joined fields texts ≡ texts_joined fields others
texts_joined-same [] texts others same = refl
texts_joined-same (field ∷ fields) texts others same =
    ap (λ front. front ++ texts_joined fields (λ p. texts (suc p))) (same 0 field refl)
    ∙ ap (λ rest. padded field.length (others 0) ++ rest) (texts_joined-same fields (λ p. texts (suc p)) (λ p. others (suc p)) (λ p f is. same (suc p) f is))

-- texts that are the same at each field make the same data
pub data_of-same : (fields : List Field) (texts others : ℕ → List ℕ) →
    ((place : ℕ) (field : Field) → slice_get fields place ≡ Some field → texts place ≡ others place)
    → data_of fields texts ≡ data_of fields others
data_of-same fields texts others same =
    ap trimmed (texts_joined-same fields texts others (λ place field here. ap (padded field.length) (same place field here)))

-- the texts of one field more
pub texts_joined-push : (fields : List Field) (field : Field) (texts : ℕ → List ℕ)
    → texts_joined (fields ++ field ∷ []) texts ≡ texts_joined fields texts ++ padded field.length (texts (length fields))
texts_joined-push [] field texts = append-nil (padded field.length (texts 0))
texts_joined-push (first ∷ fields) field texts =
    ap (λ rest. padded first.length (texts 0) ++ rest) (texts_joined-push fields field (λ p. texts (suc p)))
    ∙ sym (append_assoc (padded first.length (texts 0)) (texts_joined fields (λ p. texts (suc p))) (padded field.length (texts (suc (length fields)))))

-- the texts that bytes have in fields are joined to these bytes again, where they are long enough
joined-read : (fields : List Field) (offset : ℕ) (bytes : List ℕ) → AreLaidOut offset fields → offset + width_of fields ≤ length bytes
    → texts_joined fields (text_in fields bytes) ≡ take (width_of fields) (drop offset bytes)
joined-read [] offset bytes laid long = refl
joined-read (field ∷ fields) offset bytes laid long =
    let width : width_of (field ∷ fields) ≡ field.length + width_of fields = sum_by-cons (λ (f : Field). f.length) field fields in
    let part = take field.length (drop field.offset bytes) in
    let whole : length part ≡ field.length = omega (arith, length-take field.length (drop field.offset bytes), length-drop field.offset bytes, laid.0) in
    ap (λ front. front ++ texts_joined fields (text_in fields bytes)) (padded-trimmed_at field.length part whole)
    ∙ ap (λ rest. part ++ rest) (joined-read fields (offset + field.length) bytes laid.1 (omega arith))
    ∙ ap (λ at. take field.length (drop at bytes) ++ take (width_of fields) (drop (offset + field.length) bytes)) laid.0
    ∙ ap (λ rest. take field.length (drop offset bytes) ++ take (width_of fields) rest) (sym (drop-drop field.length offset bytes))
    ∙ sym (take-add field.length (width_of fields) (drop offset bytes))
    ∙ ap (λ n. take n (drop offset bytes)) (sym width)

-- the part of a field is the same in bytes that are cut behind it
cut-part : (width : ℕ) (sdata : List ℕ) (offset count : ℕ) → offset + count ≤ width →
    take count (drop offset (take width sdata)) ≡ take count (drop offset sdata)
cut-part width sdata offset count fits =
    let left = width - offset in
    let split : offset + left ≡ width = omega arith in
    ap (take count) (ap (λ n. drop offset (take n sdata)) (sym split) ∙ drop-take offset left sdata)
    ∙ take-take count left (drop offset sdata) (omega arith)

-- data that are made of the texts which other data have in the fields of a definition are those data as the definition has them
pub data_of-read : (version : Version) (sdata : List ℕ) → AreLaidOut 0 version.fields → data_of version.fields (text_in version.fields sdata)
    ≡ fitted version sdata
data_of-read version sdata laid =
    let fields = version.fields in
    let width = width_of fields in
    let bytes = padded width (take width sdata) in
    let long : length bytes ≡ width = length-padded width (take width sdata) (omega (arith, length-take width sdata)) in
    let same = λ (place : ℕ) (field : Field) (here : slice_get fields place ≡ Some field).
    text_in-at fields sdata place field here
    ∙ sym (ap trimmed (cut-part width sdata field.offset field.length (omega (arith, laid_out-within 0 fields place field laid here))))
    ∙ trimmed-take-trimmed field.length (drop field.offset (take width sdata))
    ∙ sym (ap (λ text. trimmed (take field.length text)) (trimmed-drop-padded field.offset width (take width sdata)))
    ∙ sym (trimmed-take-trimmed field.length (drop field.offset bytes))
    ∙ sym (text_in-at fields bytes place field here) in
    data_of-same fields (text_in fields sdata) (text_in fields bytes) same
    ∙ ap trimmed (joined-read fields 0 bytes laid (omega arith) ∙ take_all width bytes (omega arith))
    ∙ trimmed-padded width (take width sdata)

-- a field of data reads the same as a definition has the data
pub field_text-fitted : (version : Version) (sdata : List ℕ) (place : ℕ) (field : Field) → AreLaidOut 0 version.fields
    → slice_get version.fields place ≡ Some field → field_text (fitted version sdata) field ≡ field_text sdata field
field_text-fitted version sdata place field laid here =
    let fields = version.fields in
    ap (λ bytes. field_text bytes field) (sym (data_of-read version sdata laid))
    ∙ field_text-data_of fields (text_in fields sdata) place field laid (HaveRoom-text_in fields sdata) here
    ∙ ap trimmed (text_in-at fields sdata place field here)
    ∙ trimmed-trimmed (take field.length (drop field.offset sdata))
