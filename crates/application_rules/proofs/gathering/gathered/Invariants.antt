use Rattle.std.specs.List.{filter_map}
use Rattle.std.specs.Option.{option_map}
use Rattle.std.proofs.Common.{◌≡◌, ◌++◌, drop}
use Rattle.change_pointers.specs.Master.{object_master}
use Rattle.change_pointers.specs.declared.pointer.ObjectKey.{ObjectKey}
use Rattle.application_rules.specs.Gathered.{carried_master, gathered}
use Rattle.application_rules.proofs.gathering.gathered.Given as goal

-- the documents so far, and those of the objects left
abbrev pub invariant-loop-key : goal.invariant-loop-key
invariant-loop-key l =
    l.docs
    ++ filter_map (λ (object : ObjectKey). option_map (carried_master l.model.definitions) (object_master l.model l.message l.objects object))
    (drop l.key-index l.keys)
    ≡ gathered l.model l.objects l.fn.pointers l.message
