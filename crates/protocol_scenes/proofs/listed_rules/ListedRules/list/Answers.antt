use Rattle.std.specs.Prelude.{slice_get}
use Rattle.std.proofs.Common.{◌≡◌, ℕ, zero, suc, ◌-◌, ◌≤◌, None, List, [], sym, ap, ◌∙◌, arith}
use Rattle.unit_core.specs.declared.ale_unit.AleUnit.{AleUnit}
use Rattle.protocol_scenes.specs.ListedRules.{list_of}
use Rattle.trfc_protocol.proofs.WorldLemmas.{less_one, get_past}
use Rattle.protocol_scenes.proofs.listed_rules.ListedRules.list.Goals as goal

list_of-None : (lists : List (List AleUnit)) (system : ℕ) → 1 ≤ system → slice_get lists (system - 1) ≡ None → list_of lists system ≡ []
list_of-None lists zero least none = absurd (omega arith)
list_of-None lists (suc k) least none = get_past lists k [] (rw (less_one k) at none)

pub returns-in-None : goal.returns-in-None
returns-in-None c = sym (list_of-None c.args.self.now.units c.args.system (c.get.ensures.least)
    (sym (ap (λ (n : ℕ). slice_get c.args.self.now.units (n - 1)) c.get.ensures.number) ∙ sym c.in-None.ensures))
