use Rattle.std.proofs.Common.{◌≡◌, ◌++◌, map, drop}
use Rattle.system_tables.proofs.adding.keys_with.Given as goal

-- the keys so far, and those of the names that are left
abbrev pub invariant-loop-name : goal.invariant-loop-name
invariant-loop-name l =
    l.keys.items ++ map (λ name. record { partner = l.partner; name = name }) (drop l.name-index l.names)
    ≡ map (λ name. record { partner = l.partner; name = name }) l.names
