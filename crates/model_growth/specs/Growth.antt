-- When a model may replace another one of the same landscape: it keeps what running logs refer to.
use Rattle.std.specs.Prelude.{◌≡◌, ℕ, Bool, not, List, map, position, Option, Some, if◌then◌else◌}
use Rattle.std.specs.Cmp.Lexicographic.{pointwise}
use Rattle.std.specs.List.{list_any, starts_with}
use Rattle.std.specs.Option.{option_map, option_or}
use Rattle.ale_base.specs.Prefix.{IsPrefix}
use Rattle.ale_base.specs.Text.{is_text}
use Rattle.dist_model.specs.declared.lists.Lists.{Lists}
use Rattle.dist_model.specs.declared.system.System.{System}
use Rattle.model_growth.specs.declared.growth.Unkept.{Unkept}
use Rattle.model_growth.specs.declared.growth.Unkept.TheVariants as unkept
use Rattle.model_growth.specs.Tests.{keeps_idoc_type, keeps_kind, keeps_message, keeps_reduced, keeps_system, keeps_type}
use Rattle.model_growth.specs.Kept.{AllKept, IdocTypeKept, KindKept, MessageKept, ReducedKept, TypeKept}

-- what must stay of a system: its name and its client
abbrev pub name_and_client : System → List ℕ × List ℕ
name_and_client system = (system.name, system.client)

-- A model keeps another one. Its releases begin with those of the other, its systems are the same in the same order, and
-- each segment type, IDoc type, kind, message type and reduced message type of the other stands in it.
pub record IsGrown (old new : Lists) : Type 0 where
  pub releases : IsPrefix old.releases new.releases
  pub systems : map name_and_client old.systems ≡ map name_and_client new.systems
  pub segments : AllKept TypeKept old.definitions.types new.definitions.types
  pub idoc_types : AllKept (IdocTypeKept old new) old.types new.types
  pub kinds : AllKept (KindKept old new) old.kinds new.kinds
  pub messages : AllKept (MessageKept old new) old.messages new.messages
  pub reduced : AllKept (ReducedKept old new) old.reduced new.reduced

-- the place of the first entry that none of the others keeps
abbrev pub first_lost : {A : Type 0} → (A → A → Bool) → List A → List A → Option ℕ
first_lost keeps entries others = position (λ entry. not (list_any (keeps entry) others)) entries

-- the first entry of an old model that a new one does not keep, list by list
abbrev pub first_unkept_entry : Lists → Lists → Option Unkept
first_unkept_entry old new =
    option_or (option_map unkept.Segment (first_lost keeps_type old.definitions.types new.definitions.types))
    (option_or (option_map unkept.IdocType (first_lost (keeps_idoc_type old new) old.types new.types))
    (option_or (option_map unkept.Kind (first_lost (keeps_kind old new) old.kinds new.kinds))
    (option_or (option_map unkept.Message (first_lost (keeps_message old new) old.messages new.messages))
    (option_map unkept.Reduced (first_lost (keeps_reduced old new) old.reduced new.reduced)))))

-- the first part of an old model that a new one does not keep
abbrev pub first_unkept : Lists → Lists → Option Unkept
first_unkept old new =
    if not (starts_with is_text new.releases old.releases) then Some unkept.Releases
    else if not (pointwise keeps_system old.systems new.systems) then Some unkept.Systems
    else first_unkept_entry old new
