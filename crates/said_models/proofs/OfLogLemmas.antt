-- The models of a log with one more record.
use Rattle.std.specs.Prelude.{slice_get, fold}
use Rattle.std.specs.List.{AllByRecursion, filter_map}
use Rattle.std.specs.Option.{option_map_or}
use Rattle.std.proofs.Common.{◌≡◌, ℕ, zero, suc, ◌+◌, ◌≤◌, ◌<◌, ◌⊎◌, inl, inr, Option, Some, None, List, [], ◌∷◌, ◌++◌, length, refl, sym, ap, ◌∙◌, arith}
use Rattle.std.proofs.Common.{length-append}
use Rattle.std.proofs.lemmas.List.{append-nil}
use Rattle.ale_base.proofs.ListLemmas.{slice_get-within}
use Rattle.ale_base.proofs.MemberLemmas.{filter_map-None, filter_map-Some}
use Rattle.ale_base.proofs.OptionLemmas.{none_or_some}
use Rattle.dist_model.specs.declared.lists.Lists.{Lists}
use Rattle.unit_core.specs.declared.records.Record.{Record}
use Rattle.unit_core.specs.declared.records.Record.TheVariants.{Genesis, Model}
use Rattle.log_models.specs.InForce.{in_force, models_after, models_in}
use Rattle.log_models.proofs.InForceLemmas.{in_force-before}
use Rattle.said_models.specs.Said.{said}
use Rattle.said_models.specs.OfLog.{text_of, said_all, models_of, model_of}

-- ---- texts and their models

-- a text behind others says one model more where each of them says one, and else none
record Grows (texts : List (List ℕ)) (text : List ℕ) : Type 0 where
  more : List Lists
  grown : said_all (texts ++ text ∷ []) ≡ said_all texts ++ more
  whole : (more ≡ []) ⊎ (length (said_all texts) ≡ length texts)

grows : (texts : List (List ℕ)) (text : List ℕ) → Grows texts text
grows [] text = record { more = said_all (text ∷ []); grown = refl; whole = inr refl }
grows (first ∷ texts) text = of (grows texts text) (said first) refl
  where
    of : Grows texts text → (found : Option Lists) → said first ≡ found → Grows (first ∷ texts) text
    of rest None is = record {
      more = [];
      grown = ap (λ o. option_map_or (λ model. model ∷ said_all (texts ++ text ∷ [])) o []) is
          ∙ sym (append-nil (said_all (first ∷ texts)) ∙ ap (λ o. option_map_or (λ model. model ∷ said_all texts) o []) is);
      whole = inl refl;
    }
    of rest (Some model) is =
        let here : said_all (first ∷ texts) ≡ model ∷ said_all texts = ap (λ o. option_map_or (λ model. model ∷ said_all texts) o []) is in
        record {
          more = rest.more;
          grown = ap (λ o. option_map_or (λ model. model ∷ said_all (texts ++ text ∷ [])) o []) is ∙ ap (λ all. model ∷ all) rest.grown
              ∙ sym (ap (λ all. all ++ rest.more) here);
          whole = elim rest.whole [
            | inl none ↦ inl none
            | inr all ↦ inr (ap length here ∙ ap suc all)
          ];
        }

-- there are at most as many models as texts
said_all-few : (texts : List (List ℕ)) → length (said_all texts) ≤ length texts
said_all-few [] = omega arith
said_all-few (text ∷ texts) = of (said_all-few texts) (said text) refl
  where
    of : length (said_all texts) ≤ length texts → (found : Option Lists) → said text ≡ found
        → length (said_all (text ∷ texts)) ≤ length (text ∷ texts)
    of fewer None is =
        let none : length (said_all (text ∷ texts)) ≡ 0 = ap (λ o. length (option_map_or (λ model. model ∷ said_all texts) o [])) is in
        omega (arith, none)
    of fewer (Some model) is =
        let here : length (said_all (text ∷ texts)) ≡ suc (length (said_all texts))
        = ap (λ o. length (option_map_or (λ model. model ∷ said_all texts) o [])) is in
        omega (arith, here, fewer)

-- what is true of the model that each text says is true of those of the texts
said_all-each : (P : Lists → Type 0) (texts : List (List ℕ)) → AllByRecursion (λ text. (model : Lists) → said text ≡ Some model → P model) texts
    → AllByRecursion P (said_all texts)
said_all-each P [] each = tt
said_all-each P (text ∷ texts) each = of (said_all-each P texts each.1) (said text) refl
  where
    of : AllByRecursion P (said_all texts) → (found : Option Lists) → said text ≡ found
        → AllByRecursion P (option_map_or (λ model. model ∷ said_all texts) found [])
    of rest None is = tt
    of rest (Some model) is = (each.0 model is, rest)

-- ---- the log

-- a record has a text exactly where a model comes into force by it
counted : (log : List Record) (count : ℕ) → fold models_after count log ≡ count + length (filter_map text_of log)
counted [] count = omega arith
counted (Genesis system text ∷ log) count = let rest = counted log (suc count) in omega (arith, rest)
counted (Model text ∷ log) count = let rest = counted log (suc count) in omega (arith, rest)
counted (_ ∷ log) count = counted log count

-- there are as many texts as models
pub texts-counted : (log : List Record) → length (filter_map text_of log) ≡ models_in log
texts-counted log = let all : models_in log ≡ 0 + length (filter_map text_of log) = counted log 0 in omega (arith, all)

-- the models of a log with one more record are those before, and perhaps one more: only where each text before says one
pub record Grown (log : List Record) (next : Record) : Type 0 where
  pub more : List Lists
  pub grown : models_of (log ++ next ∷ []) ≡ models_of log ++ more
  pub whole : (more ≡ []) ⊎ (models_in log ≤ length (models_of log))

-- a record without a text leaves the models
pub models_of-stay : (log : List Record) (next : Record) → text_of next ≡ None → models_of (log ++ next ∷ []) ≡ models_of log
models_of-stay log next none = ap said_all (filter_map-None text_of log next none)

pub models_of-grown : (log : List Record) (next : Record) → Grown log next
models_of-grown log next = elim (none_or_some (text_of next)) [
  | inl none ↦ record {
    more = [];
    grown = models_of-stay log next none ∙ sym (append-nil (models_of log));
    whole = inl refl;
  }
  | inr some ↦
      let one = grows (filter_map text_of log) some.0 in
      record {
        more = one.more;
        grown = ap said_all (filter_map-Some text_of log next some.0 some.1) ∙ one.grown;
        whole = elim one.whole [
          | inl nothing ↦ inl nothing
          | inr all ↦ let count = texts-counted log in inr (omega (arith, all, count))
        ];
      }
]

-- what goes by the models of a log alone is told by those of a longer log too
pub of-grown : {X : Type 0} (of : List Lists → List Record → X)
    → ((models more : List Lists) (log : List Record) → models_in log ≤ length models → of (models ++ more) log ≡ of models log)
    → (log : List Record) (next : Record) → of (models_of (log ++ next ∷ [])) log ≡ of (models_of log) log
of-grown of before log next =
    let one = models_of-grown log next in
    ap (λ models. of models log) one.grown ∙ elim one.whole [
      | inl nothing ↦ ap (λ more. of (models_of log ++ more) log) nothing ∙ ap (λ models. of models log) (append-nil (models_of log))
      | inr all ↦ before (models_of log) one.more log all
    ]

-- what is true of the model that each text of a log says is true of those of the log
pub models_of-texts : (P : Lists → Type 0) (log : List Record) →
    AllByRecursion (λ text. (model : Lists) → said text ≡ Some model → P model) (filter_map text_of log)
    → AllByRecursion P (models_of log)
models_of-texts P log each = said_all-each P (filter_map text_of log) each

-- ---- the model in force

-- under which model the record behind a log is taken, by the models of the longer log
pub in_force-grown : (log : List Record) (next : Record) → in_force (models_of (log ++ next ∷ [])) (models_in log) ≡ model_of log
in_force-grown log next = of-grown (λ models log. in_force models (models_in log))
    (λ models more log within. in_force-before models more (models_in log) within) log next

-- a record without a text leaves the model in force
pub model_of-stay : (log : List Record) (next : Record) → text_of next ≡ None → model_of (log ++ next ∷ []) ≡ model_of log
model_of-stay log next none =
    ap (in_force (models_of (log ++ next ∷ []))) (texts_stay) ∙ in_force-grown log next
  where
    texts_stay : models_in (log ++ next ∷ []) ≡ models_in log
    texts_stay = sym (texts-counted (log ++ next ∷ [])) ∙ ap length (filter_map-None text_of log next none) ∙ texts-counted log

-- ---- a text comes into force

one_said : (found : Option Lists) → slice_get (option_map_or (λ model. model ∷ []) found []) 0 ≡ found
one_said None = refl
one_said (Some model) = refl

-- where each text before says a model, it is what the text says
behind-known : (texts : List (List ℕ)) (text : List ℕ) → length (said_all texts) ≡ length texts
    → slice_get (said_all (texts ++ text ∷ [])) (length texts) ≡ said text
behind-known [] text all = one_said (said text)
behind-known (first ∷ texts) text all = of (behind-known texts text) (said first) refl
  where
    of : (length (said_all texts) ≡ length texts → slice_get (said_all (texts ++ text ∷ [])) (length texts) ≡ said text)
        → (found : Option Lists) → said first ≡ found → slice_get (said_all ((first ∷ texts) ++ text ∷ [])) (length (first ∷ texts)) ≡ said text
    of rest None is =
        let none : length (said_all (first ∷ texts)) ≡ 0 = ap (λ o. length (option_map_or (λ model. model ∷ said_all texts) o [])) is in
        absurd (omega (arith, none, all))
    of rest (Some model) is =
        let here : length (said_all (first ∷ texts)) ≡ suc (length (said_all texts))
        = ap (λ o. length (option_map_or (λ model. model ∷ said_all texts) o [])) is in
        ap (λ o. slice_get (option_map_or (λ model. model ∷ said_all (texts ++ text ∷ [])) o []) (suc (length texts))) is
        ∙ rest (omega (arith, here, all))

get-beyond : {A : Type 0} (xs : List A) (i : ℕ) → length xs ≤ i → slice_get xs i ≡ None
get-beyond [] i beyond = refl
get-beyond (x ∷ xs) zero beyond = absurd (omega (arith, beyond))
get-beyond (x ∷ xs) (suc i) beyond = get-beyond xs i (omega (arith, beyond))

get-there : {A : Type 0} (xs : List A) (i : ℕ) (x : A) → slice_get xs i ≡ Some x → i < length xs
get-there [] i x got = absurd (cc)
get-there (y ∷ xs) zero x got = omega arith
get-there (y ∷ xs) (suc i) x got = let within = get-there xs i x got in omega (arith, within)

-- there are at most as many models as texts of a log
pub models-few : (log : List Record) → length (models_of log) ≤ models_in log
models-few log = let few = said_all-few (filter_map text_of log) in let count = texts-counted log in omega (arith, few, count)

-- the model in force behind a text is found behind the models of the log
text-at : (log : List Record) (next : Record) (text : List ℕ) → text_of next ≡ Some text
    → model_of (log ++ next ∷ []) ≡ slice_get (said_all (filter_map text_of log ++ text ∷ [])) (length (filter_map text_of log))
text-at log next text is =
    let more : filter_map text_of (log ++ next ∷ []) ≡ filter_map text_of log ++ text ∷ [] = filter_map-Some text_of log next text is in
    let count : models_in (log ++ next ∷ []) ≡ suc (length (filter_map text_of log)) =
    sym (texts-counted (log ++ next ∷ [])) ∙ ap length more
    ∙ (let one = length-append (filter_map text_of log) (text ∷ []) in omega (arith, one)) in
    ap (in_force (models_of (log ++ next ∷ []))) count ∙ ap (λ texts. slice_get (said_all texts) (length (filter_map text_of log))) more

-- the first text of a log brings what it says into force
pub model_of-first : (log : List Record) (next : Record) (text : List ℕ) → text_of next ≡ Some text → models_in log ≡ 0
    → model_of (log ++ next ∷ []) ≡ said text
model_of-first log next text is none =
    let few = said_all-few (filter_map text_of log) in
    let count = texts-counted log in
    text-at log next text is ∙ behind-known (filter_map text_of log) text (omega (arith, few, count, none))

-- where a model is in force, a further text brings what it says into force
pub model_of-known : (log : List Record) (next : Record) (text : List ℕ) (model : Lists) → text_of next ≡ Some text
    → model_of log ≡ Some model → model_of (log ++ next ∷ []) ≡ said text
model_of-known log next text model is before =
    text-at log next text is ∙ behind-known (filter_map text_of log) text (whole (models_in log) refl)
  where
    whole : (count : ℕ) → models_in log ≡ count → length (said_all (filter_map text_of log)) ≡ length (filter_map text_of log)
    whole zero none = let lies : None ≡ Some model = sym (ap (in_force (models_of log)) none) ∙ before in absurd (cc)
    whole (suc last) some =
        let within = get-there (models_of log) last model (sym (ap (in_force (models_of log)) some) ∙ before) in
        let few = said_all-few (filter_map text_of log) in
        let count = texts-counted log in
        omega (arith, within, few, count, some)

le_or_lt : (a b : ℕ) → (a ≤ b) ⊎ (b < a)
le_or_lt zero b = inl (omega arith)
le_or_lt (suc a) zero = inr (omega arith)
le_or_lt (suc a) (suc b) = elim (le_or_lt a b) [
  | inl within ↦ inl (omega (arith, within))
  | inr beyond ↦ inr (omega (arith, beyond))
]

-- where a text says no model, no further one brings a model into force
pub model_of-unknown : (log : List Record) (next : Record) (text : List ℕ) → text_of next ≡ Some text → 1 ≤ models_in log
    → model_of log ≡ None → model_of (log ++ next ∷ []) ≡ None
model_of-unknown log next text is begun none = text-at log next text is ∙ beyond
  where
    texts : List (List ℕ)
    texts = filter_map text_of log

    short : (count : ℕ) → models_in log ≡ count → length (models_of log) < models_in log
    short zero same = absurd (omega (arith, begun, same))
    short (suc last) same =
        elim (le_or_lt (suc last) (length (models_of log))) [
          | inl within ↦
              let got = slice_get-within (models_of log) last (omega (arith, within)) in
              let lies : Some got.0 ≡ None = sym got.1 ∙ sym (ap (in_force (models_of log)) same) ∙ none in absurd (cc)
          | inr beyond ↦ omega (arith, beyond, same)
        ]

    beyond : slice_get (said_all (texts ++ text ∷ [])) (length texts) ≡ None
    beyond =
        let one = grows texts text in
        let fewer = short (models_in log) refl in
        let count = texts-counted log in
        elim one.whole [
          | inl nothing ↦
              ap (λ all. slice_get all (length texts)) (one.grown ∙ ap (λ more. said_all texts ++ more) nothing ∙ append-nil (said_all texts))
              ∙ get-beyond (said_all texts) (length texts) (omega (arith, fewer, count))
          | inr all ↦ absurd (omega (arith, all, fewer, count))
        ]
