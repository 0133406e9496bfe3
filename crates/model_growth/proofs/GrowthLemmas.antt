-- No part of an old model is unkept exactly where a new one keeps all of it.
use Rattle.std.specs.Prelude.{if◌then◌else◌}
use Rattle.std.specs.Cmp.Lexicographic.{pointwise}
use Rattle.std.specs.List.{starts_with}
use Rattle.std.specs.Option.{option_map, option_or}
use Rattle.std.proofs.Common.{◌≡◌, ◌↔◌, ℕ, Bool, true, false, not, Option, Some, None, List, refl, sym, ◌∙◌}
use Rattle.ale_base.specs.Text.{is_text}
use Rattle.dist_model.specs.declared.lists.Lists.{Lists}
use Rattle.model_growth.specs.declared.growth.Unkept.{Unkept}
use Rattle.model_growth.specs.declared.growth.Unkept.TheVariants as unkept
use Rattle.model_growth.specs.Tests.{keeps_idoc_type, keeps_kind, keeps_message, keeps_reduced, keeps_system, keeps_type}
use Rattle.model_growth.specs.Kept.{AllKept, IdocTypeKept, KindKept, MessageKept, ReducedKept, TypeKept}
use Rattle.model_growth.specs.Growth.{first_lost, first_unkept, first_unkept_entry, IsGrown, name_and_client}
use Rattle.model_growth.proofs.DecidedLemmas.{IsDecided, map_decided, none_lost, prefix_decided, text_decided}
use Rattle.model_growth.proofs.KeptLemmas.{idoc_type_decided, kind_decided, message_decided, reduced_decided, system_decided, type_decided}

-- there is none of two exactly where there is neither
or_none : {A : Type 0} (first second : Option A) → (option_or first second ≡ None) ↔ ((first ≡ None) × (second ≡ None))
or_none None second = (λ none. (refl, none), λ none. none.1)
or_none (Some x) second = (λ never. cc, λ none. none.0)

-- an entry is told exactly where there is one
told_none : {A B : Type 0} (tell : A → B) (found : Option A) → (option_map tell found ≡ None) ↔ (found ≡ None)
told_none tell None = (λ _. refl, λ _. refl)
told_none tell (Some x) = (λ never. cc, λ never. cc)

-- nothing is told of what passes, and what is next counts
passed_none : {A : Type 0} (passes : Bool) (told : A) (next : Option A)
    → ((if not passes then Some told else next) ≡ None) ↔ ((passes ≡ true) × (next ≡ None))
passed_none true told next = (λ none. (refl, none), λ both. both.1)
passed_none false told next = (λ never. cc, λ both. cc)

-- of one list: none is told exactly where each entry is kept
list_none : {A : Type 0} (keeps : A → A → Bool) (Kept : A → A → Type 0) → ((a b : A) → IsDecided (keeps a b) (Kept a b))
    → (tell : ℕ → Unkept) (entries others : List A)
    → (option_map tell (first_lost keeps entries others) ≡ None) ↔ AllKept Kept entries others
list_none keeps Kept decided tell entries others =
    let told = told_none tell (first_lost keeps entries others) in
    let lost = none_lost keeps Kept decided others entries in
    (λ none. lost.0 (told.0 none), λ all. told.1 (lost.1 all))

-- each entry is kept
pub record EntriesKept (old new : Lists) : Type 0 where
  pub segments : AllKept TypeKept old.definitions.types new.definitions.types
  pub idoc_types : AllKept (IdocTypeKept old new) old.types new.types
  pub kinds : AllKept (KindKept old new) old.kinds new.kinds
  pub messages : AllKept (MessageKept old new) old.messages new.messages
  pub reduced : AllKept (ReducedKept old new) old.reduced new.reduced

no_entry_unkept : (old new : Lists) → (first_unkept_entry old new ≡ None) ↔ EntriesKept old new
no_entry_unkept old new =
    let types = option_map unkept.Segment (first_lost keeps_type old.definitions.types new.definitions.types) in
    let idoc_types = option_map unkept.IdocType (first_lost (keeps_idoc_type old new) old.types new.types) in
    let kinds = option_map unkept.Kind (first_lost (keeps_kind old new) old.kinds new.kinds) in
    let messages = option_map unkept.Message (first_lost (keeps_message old new) old.messages new.messages) in
    let reduced = option_map unkept.Reduced (first_lost (keeps_reduced old new) old.reduced new.reduced) in
    let first = list_none keeps_type TypeKept type_decided unkept.Segment old.definitions.types new.definitions.types in
    let second = list_none (keeps_idoc_type old new) (IdocTypeKept old new) (idoc_type_decided old new) unkept.IdocType old.types new.types in
    let third = list_none (keeps_kind old new) (KindKept old new) (kind_decided old new) unkept.Kind old.kinds new.kinds in
    let fourth = list_none (keeps_message old new) (MessageKept old new) (message_decided old new) unkept.Message old.messages new.messages in
    let fifth = list_none (keeps_reduced old new) (ReducedKept old new) (reduced_decided old new) unkept.Reduced old.reduced new.reduced in
    let or4 = or_none messages reduced in
    let or3 = or_none kinds (option_or messages reduced) in
    let or2 = or_none idoc_types (option_or kinds (option_or messages reduced)) in
    let or1 = or_none types (option_or idoc_types (option_or kinds (option_or messages reduced))) in (
      λ none.
          let a = or1.0 none in
          let b = or2.0 a.1 in
          let c = or3.0 b.1 in
          let d = or4.0 c.1 in
          record { segments = first.0 a.0; idoc_types = second.0 b.0; kinds = third.0 c.0; messages = fourth.0 d.0; reduced = fifth.0 d.1 },
      λ kept. or1.1 (
        first.1 kept.segments,
        or2.1 (
          second.1 kept.idoc_types,
          or3.1 (third.1 kept.kinds, or4.1 (fourth.1 kept.messages, fifth.1 kept.reduced)),
        ),
      ),
    )

-- no part is unkept exactly where the new model keeps all
pub none_unkept : (old new : Lists) → (first_unkept old new ≡ None) ↔ IsGrown old new
none_unkept old new =
    let releases = prefix_decided is_text text_decided old.releases new.releases in
    let systems = map_decided keeps_system name_and_client name_and_client system_decided old.systems new.systems in
    let entries = no_entry_unkept old new in
    let inner = passed_none (pointwise keeps_system old.systems new.systems) unkept.Systems (first_unkept_entry old new) in
    let outer = passed_none (starts_with is_text new.releases old.releases) unkept.Releases
    (if not (pointwise keeps_system old.systems new.systems) then Some unkept.Systems else first_unkept_entry old new) in (
      λ none.
          let a = outer.0 none in
          let b = inner.0 a.1 in
          let e = entries.0 b.1 in
          record {
            releases = releases.is a.0;
            systems = systems.is b.0;
            segments = e.segments;
            idoc_types = e.idoc_types;
            kinds = e.kinds;
            messages = e.messages;
            reduced = e.reduced;
          },
      λ grown. outer.1 (
        releases.back grown.releases,
        inner.1 (
          systems.back grown.systems,
          entries.1 (record {
            segments = grown.segments;
            idoc_types = grown.idoc_types;
            kinds = grown.kinds;
            messages = grown.messages;
            reduced = grown.reduced;
          }),
        ),
      ),
    )

-- what is told is none exactly where the new model keeps all
pub grown_by_first : (old new : Lists) (told : Option Unkept) → told ≡ first_unkept old new → (told ≡ None) ↔ IsGrown old new
grown_by_first old new told first =
    let grown = none_unkept old new in
    (λ none. grown.0 (sym first ∙ none), λ all. first ∙ grown.1 all)
