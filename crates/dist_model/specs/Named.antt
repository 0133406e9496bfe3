-- What numbers of a model stand for, by name. Each is no bytes where nothing has the number.
use Rattle.std.specs.Prelude.{ℕ, ◌-◌, List, [], Option, slice_get}
use Rattle.std.specs.Option.{option_map_or}
use Rattle.dist_model.specs.declared.lists.Lists.{Lists}
use Rattle.dist_model.specs.declared.system.System.{System}

-- the system of a number, counted from 1
abbrev pub system_at : Lists → ℕ → Option System
system_at model number = slice_get model.systems (number - 1)

-- the name of a system
abbrev pub system_name : Lists → ℕ → List ℕ
system_name model number = option_map_or (λ system. system.name) (system_at model number) []

-- the name of a segment type
abbrev pub segment_name : Lists → ℕ → List ℕ
segment_name model segment = option_map_or (λ type. type.name) (slice_get model.definitions.types segment) []

-- the name of an IDoc type
abbrev pub idoc_type_name : Lists → ℕ → List ℕ
idoc_type_name model place = option_map_or (λ type. type.name) (slice_get model.types place) []

-- the name of a kind
abbrev pub kind_name : Lists → ℕ → List ℕ
kind_name model place = option_map_or (λ kind. kind.name) (slice_get model.kinds place) []

-- the name of a message type
abbrev pub message_name : Lists → ℕ → List ℕ
message_name model message = option_map_or (λ is. is.name) (slice_get model.messages message) []

-- the name of the IDoc type of a message type
abbrev pub idoc_type_name_of : Lists → ℕ → List ℕ
idoc_type_name_of model message = option_map_or (λ is. idoc_type_name model is.idoctype) (slice_get model.messages message) []

-- the name of a reduced message type
abbrev pub reduced_name : Lists → ℕ → List ℕ
reduced_name model reduced = option_map_or (λ one. one.name) (slice_get model.reduced reduced) []
