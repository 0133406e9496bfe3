-- The texts of the control record have room in their fields, and are allowed there.
use Rattle.std.specs.Prelude.{slice_get, IsTrue, nat_le, ◌&&◌, ◌==◌, ◌/◌, ◌%◌, ◌+◌, ◌<◌, Contains, fold}
use Rattle.std.specs.Char.{is_ascii_digit}
use Rattle.std.specs.List.{AllByRecursion, list_all}
use Rattle.std.specs.Option.{option_map_or}
use Rattle.std.proofs.Common.{◌≡◌, ◌⊎◌, inl, inr, ℕ, zero, suc, ◌≤◌, Option, Some, None, Bool, List, [], ◌∷◌, ◌++◌, length, take, get_or, true, refl, ap, sym}
use Rattle.std.proofs.Common.{◌∙◌, arith}
use Rattle.std.proofs.lemmas.Bool.{leb-true, and_parts, cases_Bool, cond-true, cond-false}
use Rattle.std.proofs.lemmas.Bool.Decides.{nat_tests}
use Rattle.std.proofs.lemmas.List.{take_more}
use Rattle.std.proofs.lemmas.List.Elements.{All-from_recursion}
use Rattle.std.proofs.lemmas.List.Folds.{list_all-append}
use Rattle.std.proofs.lemmas.List.Sums.{fold_push}
use Rattle.ale_base.specs.Blanks.{trimmed, before_trimmed}
use Rattle.idoc_record.specs.declared.control_field.ControlField.{ControlField}
use Rattle.idoc_record.specs.declared.control_field.ControlField.TheVariants.{Tabnam, Mandt, Docnum, Direct, Idoctyp, Mestyp, Mescod, Mesfct, Sndprn, Rcvpor}
use Rattle.idoc_record.specs.declared.control_field.ControlField.TheVariants.{Rcvprn, Credat, Cretim, Refint, Refgrp, Refmes, Arckey, Serial}
use Rattle.idoc_record.specs.declared.control_field.TheConstants.ControlField.{ALL}
use Rattle.idoc_record.specs.ControlField.{span_of, all_fields}
use Rattle.idoc_record.specs.Parts.{with_text}
use Rattle.idoc_record.specs.Digits.{decimal_digits}
use Rattle.idoc_record.specs.Control.{HasRoom, IsAllowed, blank_text, control_with, field_of, written_at}
use Rattle.idoc_record.proofs.FieldsLemmas.{HasRoom-written, control_with-written, control_with-same, field_of-control_with}
use Rattle.outbound_build.specs.steps.Texts.{written_all}
use Rattle.idoc_record.proofs.PartLemmas.{length-text_at}
use Rattle.idoc_record.proofs.WrittenLemmas.{length-decimal_digits}
use Rattle.dist_model.specs.declared.lists.Lists.{Lists}
use Rattle.dist_model.specs.declared.message.Message.{Message}
use Rattle.dist_model.specs.declared.outbound.Outbound.{Outbound}
use Rattle.dist_model.specs.Model.{IsModel}
use Rattle.segment_defs.specs.Name.{is_name_within}
use Rattle.version_reduce.proofs.ProfileLemmas.{is_outbound}
use Rattle.dist_model.specs.Named.{idoc_type_name, message_name, reduced_name}
use Rattle.outbound_build.specs.ControlRecord.{HasBlanks, blank_fields, control_text}

-- a text of the element at a place is no longer than those of all
option-fits : {A : Type 0} (P : A → Type 0) (f : A → List ℕ) (most : ℕ) (xs : List A) → AllByRecursion P xs → ((x : A) → P x → length (f x) ≤ most) → (k : ℕ)
    → length (option_map_or f (slice_get xs k) []) ≤ most
option-fits P f most [] all fits k = omega arith
option-fits P f most (x ∷ xs) all fits zero = fits x all.0
option-fits P f most (x ∷ xs) all fits (suc k) = option-fits P f most xs all.1 fits k

within-fits : (most : ℕ) (name : List ℕ) → IsTrue (is_name_within most name) → length name ≤ most
within-fits most name is = leb-true (length name) most (and_parts _ _ (and_parts (nat_le 1 (length name)) _ is).1).0

type-fits : (model : Lists) (o : Option Message) → IsModel model
    → length (option_map_or (λ is. idoc_type_name model is.idoctype) o []) ≤ 30
type-fits model None kept = omega arith
type-fits model (Some is) kept = option-fits _ (λ type. type.name) 30 model.types kept.types.each (λ type keeps. keeps.named.most) is.idoctype

sent-fits : (model : Lists) (profile : Outbound) (o : Option ℕ) → IsModel model
    → length (option_map_or (reduced_name model) o (message_name model profile.message)) ≤ 30
sent-fits model profile None kept = option-fits _ (λ is. is.name) 30 model.messages kept.messages.each (λ is keeps. keeps.named.most) profile.message
sent-fits model profile (Some place) kept = option-fits _ (λ one. one.name) 30 model.reduced kept.reduced.each (λ one keeps. keeps.named.most) place

port-fits : (port : List ℕ) → (port ≡ []) ⊎ IsTrue (is_name_within 10 port) → length port ≤ 10
port-fits port (inl bare) = let none : length port ≡ 0 = ap length bare in omega arith
port-fits port (inr is) = within-fits 10 port is

-- each text of a control record has room in its field
pub texts-room : (model : Lists) (profile : Outbound) (number : ℕ) (master : List ℕ) → IsModel model → Contains model.outbound profile
    → HasRoom (control_text model profile number master)
texts-room model profile number master kept among Mandt =
    option-fits _ (λ system. system.client) 3 model.systems kept.systems.each (λ system keeps. omega (arith, keeps.client.three)) _
texts-room model profile number master kept among Docnum = omega (arith, length-decimal_digits 16 number)
texts-room model profile number master kept among Idoctyp = type-fits model (slice_get model.messages profile.message) kept
texts-room model profile number master kept among Mestyp = sent-fits model profile profile.reduced kept
texts-room model profile number master kept among Sndprn =
    option-fits _ (λ system. system.name) 10 model.systems kept.systems.each (λ system keeps. within-fits 10 system.name keeps.named) _
texts-room model profile number master kept among Rcvprn =
    option-fits _ (λ system. system.name) 10 model.systems kept.systems.each (λ system keeps. within-fits 10 system.name keeps.named) _
texts-room model profile number master kept among Rcvpor = port-fits profile.port (is_outbound model profile kept among).port
texts-room model profile number master kept among Mescod = length-text_at (span_of Mescod) master
texts-room model profile number master kept among Mesfct = length-text_at (span_of Mesfct) master
texts-room model profile number master kept among Credat = length-text_at (span_of Credat) master
texts-room model profile number master kept among Cretim = length-text_at (span_of Cretim) master
texts-room model profile number master kept among Refint = length-text_at (span_of Refint) master
texts-room model profile number master kept among Refgrp = length-text_at (span_of Refgrp) master
texts-room model profile number master kept among Refmes = length-text_at (span_of Refmes) master
texts-room model profile number master kept among Arckey = length-text_at (span_of Arckey) master
texts-room model profile number master kept among Serial = length-text_at (span_of Serial) master
texts-room model profile number master kept among _ = omega arith

digit_is : (number : ℕ) → is_ascii_digit (48 + number % 10) ≡ true
digit_is number = let small : number % 10 < 10 = omega arith in grind (arith, nat_tests)

all_digits : (count number : ℕ) → list_all is_ascii_digit (decimal_digits count number) ≡ true
unfolding decimal_digits
all_digits zero number = refl
all_digits (suc count) number =
    list_all-append is_ascii_digit (decimal_digits count (number / 10)) ((48 + number % 10) ∷ [])
    ∙ ap (λ b. b && list_all is_ascii_digit ((48 + number % 10) ∷ [])) (all_digits count (number / 10))
    ∙ ap (λ b. b && true) (digit_is number)

before-all : (p : ℕ → Bool) (b : ℕ) (bs : List ℕ) → p b ≡ true → list_all p bs ≡ true → list_all p (before_trimmed b bs) ≡ true
before-all p b [] here all = elim (cases_Bool (b == 32)) [
  | inl blank ↦ ap (list_all p) (cond-true (b == 32) [] (b ∷ []) blank)
  | inr other ↦ ap (list_all p) (cond-false (b == 32) [] (b ∷ []) other) ∙ ap (λ t. t && true) here
]
before-all p b (c ∷ cs) here all = ap (λ t. t && list_all p (c ∷ cs)) here ∙ all

trimmed-all : (p : ℕ → Bool) (bs : List ℕ) → list_all p bs ≡ true → list_all p (trimmed bs) ≡ true
trimmed-all p [] all = refl
trimmed-all p (b ∷ bs) all = let parts = and_parts (p b) (list_all p bs) all in before-all p b (trimmed bs) parts.0 (trimmed-all p bs parts.1)

-- each text of a control record may stand in its field
pub texts-allowed : (model : Lists) (profile : Outbound) (number : ℕ) (master : List ℕ) (field : ControlField)
    → IsAllowed field (trimmed (control_text model profile number master field))
texts-allowed model profile number master Tabnam = refl
texts-allowed model profile number master Docnum = trimmed-all is_ascii_digit (decimal_digits 16 number) (all_digits 16 number)
texts-allowed model profile number master Direct = refl
texts-allowed model profile number master _ = tt

blank-room : HasRoom blank_text
blank-room Tabnam = omega arith
blank-room _ = omega arith

all-room_from : (texts before : ControlField → List ℕ) (fields : List ControlField) → HasRoom texts → HasRoom before
    → HasRoom (fold (λ so_far field. written_at field (texts field) so_far) before fields)
all-room_from texts before [] room so_far = so_far
all-room_from texts before (field ∷ fields) room so_far =
    all-room_from texts (written_at field (texts field) before) fields room (HasRoom-written field (texts field) before (room field) so_far)

all-room : (texts : ControlField → List ℕ) (fields : List ControlField) → HasRoom texts → HasRoom (written_all texts fields)
all-room texts fields room = all-room_from texts blank_text fields room blank-room

-- one more field that is written
pub written-more : (texts : ControlField → List ℕ) (fields : List ControlField) (field : ControlField) → HasRoom texts
    → with_text (span_of field) (texts field) (control_with (written_all texts fields)) ≡ control_with (written_all texts (fields ++ field ∷ []))
written-more texts fields field room =
    control_with-written field (texts field) (written_all texts fields) (room field) (all-room texts fields room)
    ∙ ap control_with (sym (fold_push (λ (so_far : ControlField → List ℕ) (f : ControlField). written_at f (texts f) so_far) blank_text fields field))

all-written : (texts : ControlField → List ℕ) (field : ControlField) → written_all texts all_fields field ≡ texts field
unfolding all_fields
all-written texts Tabnam = refl
all-written texts _ = refl

-- where all fields are written, each has its text
pub written-whole : (texts : ControlField → List ℕ) → HasRoom texts → control_with (written_all texts all_fields) ≡ control_with texts
written-whole texts room =
    control_with-same (written_all texts all_fields) texts (all-room texts all_fields room) room (λ field. ap trimmed (all-written texts field))

-- the list of all fields in code
pub all_is : ALL ≡ all_fields
unfolding all_fields
all_is = refl

-- one more element is taken
pub one_more_taken : {A : Type 0} (xs : List A) (at : ℕ) (d : A) → at < length xs → take (at + 1) xs ≡ take at xs ++ get_or xs at d ∷ []
one_more_taken xs at d within = take_more xs at d within

-- the fields that must be blank are, whatever the master has there
pub texts-blank : (model : Lists) (profile : Outbound) (number : ℕ) (master : List ℕ) → IsModel model → Contains model.outbound profile
    → HasBlanks (control_with (control_text model profile number master))
texts-blank model profile number master kept among =
    All-from_recursion (λ field. field_of (control_with texts) field ≡ []) blank_fields
    (each blank_fields (refl, (refl, (refl, (refl, (refl, (refl, (refl, (refl, (refl, (refl, (refl, (refl, (refl, (refl, tt)))))))))))))))
  where
    texts : ControlField → List ℕ
    texts = control_text model profile number master

    each : (fields : List ControlField) → AllByRecursion (λ field. texts field ≡ []) fields
        → AllByRecursion (λ field. field_of (control_with texts) field ≡ []) fields
    each [] bare = tt
    each (field ∷ fields) bare =
        (field_of-control_with texts field (texts-room model profile number master kept among) ∙ ap trimmed bare.0, each fields bare.1)
