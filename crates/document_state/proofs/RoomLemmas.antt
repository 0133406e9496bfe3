-- Whether there is room for what a record adds, and whether a text may replace the model.
use Rattle.std.specs.Prelude.{true, false, is_none, Some}
use Rattle.std.specs.Option.{option_map_or}
use Rattle.std.proofs.Common.{◌≡◌, ℕ, ◌+◌, ◌≤◌, ◌<◌, List, length, sym, ap, arith}
use Rattle.std.proofs.lemmas.Bool.Decides.{nat_tests}
use Rattle.dist_model.specs.declared.lists.Lists.{Lists}
use Rattle.unit_core.specs.declared.records.Record.{Record}
use Rattle.model_growth.specs.Growth.{first_unkept}
use Rattle.said_models.specs.Said.{said}
use Rattle.document_state.specs.OfLog.{sent_by, added_behind}
use Rattle.document_state.specs.Allowed.{has_room, may_replace}

-- there is room for as many units as there may be, and for no more
module _ (log : List Record) (next : Record) where
  pub room-few : length (sent_by log).past.units + length (added_behind log next).units ≤ 65536 → true ≡ has_room log next
  room-few few = grind (arith, nat_tests, few)

  pub room-many : (count : ℕ) → count ≡ length (sent_by log).past.units + length (added_behind log next).units → 65536 < count → false ≡ has_room log next
  room-many count counts many = grind (arith, nat_tests, counts, many)

-- a text that says a model may replace another one where that one is kept
pub replaces-said : (model : Lists) (text : List ℕ) (new : Lists) → said text ≡ Some new → is_none (first_unkept model new) ≡ may_replace model text
replaces-said model text new says = sym (ap (λ found. option_map_or (λ other. is_none (first_unkept model other)) found false) says)
