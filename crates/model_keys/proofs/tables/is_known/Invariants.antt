use Rattle.std.proofs.Common.{◌≡◌, map, drop}
use Rattle.std.specs.List.{list_any}
use Rattle.ale_base.specs.Text.{is_text}
use Rattle.model_keys.proofs.tables.is_known.Given as goal

abbrev pub invariant-loop-name : goal.invariant-loop-name
invariant-loop-name l =
    list_any (is_text l.key) (map (λ name. name.now) (drop l.name-index l.known)) ≡ list_any (is_text l.key) (map (λ name. name.now) l.known)
