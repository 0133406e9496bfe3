-- Rows and the ways of profiles.
use Rattle.std.specs.List.{AllByRecursion, list_any}
use Rattle.std.proofs.Common.{◌≡◌, Bool, List, [], Ok, ap}
use Rattle.ale_base.proofs.ListLemmas.{AllByRecursion-weaker}
use Rattle.dist_model.specs.Triple.{same_triple}
use Rattle.dist_model.specs.declared.outbound.Outbound.{Outbound}
use Rattle.dist_model.specs.declared.row.Row.{Row}
use Rattle.dist_model.specs.Model.{HasProfile}
use Rattle.dist_model.specs.Way.{outbound_ways, row_way, same_way, Way}
use Rattle.model_keys.specs.declared.finding.Cause.TheVariants.{Missing}
use Rattle.model_keys.specs.Finding.{check}
use Rattle.model_keys.proofs.KeepsLemmas.{check-ok}
use Rattle.model_text.specs.declared.keys.TheConstants.{ROW}
use Rattle.model_text.specs.Profiled.{all_profiled, profiled}
use Rattle.model_text.proofs.CheckedLemmas.{checked-keeps}

-- a row has one of some ways as it has one of others that are found as these are
pub profiled-same : (ways others : List Way) → ((way : Way) → list_any (same_triple way) ways ≡ list_any (same_triple way) others) → (row : Row) →
    profiled ways row ≡ profiled others row
unfolding profiled
profiled-same ways others same row = ap (check Missing []) (same (row_way row))

profiled-keeps : (profiles : List Outbound) (row : Row) → (b : Bool) × (profiled (outbound_ways profiles) row ≡ Ok b) → HasProfile profiles row
unfolding profiled
profiled-keeps profiles row (b, is) = check-ok Missing [] (list_any (same_way (row_way row)) (outbound_ways profiles)) b is

-- where the check passes each row has a profile
pub all_profiled-keeps : (profiles : List Outbound) (rows : List Row) (y : Bool) → all_profiled profiles rows ≡ Ok y → AllByRecursion (HasProfile profiles) rows
all_profiled-keeps profiles rows y h =
    AllByRecursion-weaker (λ row. (b : Bool) × (profiled (outbound_ways profiles) row ≡ Ok b)) (HasProfile profiles) rows (profiled-keeps profiles)
    (checked-keeps ROW.now (profiled (outbound_ways profiles)) 0 rows y h)
