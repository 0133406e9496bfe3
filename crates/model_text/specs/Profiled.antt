-- Rows and their profiles of what is sent.
use Rattle.std.specs.Prelude.{Bool, List, [], Result}
use Rattle.std.specs.List.{list_any}
use Rattle.dist_model.specs.declared.outbound.Outbound.{Outbound}
use Rattle.dist_model.specs.declared.row.Row.{Row}
use Rattle.dist_model.specs.Way.{outbound_ways, row_way, same_way, Way}
use Rattle.model_keys.specs.declared.finding.Finding.{Finding}
use Rattle.model_keys.specs.declared.finding.Cause.TheVariants.{Missing}
use Rattle.model_keys.specs.Finding.{check}
use Rattle.model_text.specs.declared.keys.TheConstants.{ROW}
use Rattle.model_text.specs.Checked.{checked}

-- a row has one of these ways
unfoldable pub profiled : List Way → Row → Result Bool Finding
profiled ways row = check Missing [] (list_any (same_way (row_way row)) ways)

-- each row has the way of a profile
abbrev pub all_profiled : List Outbound → List Row → Result Bool Finding
all_profiled profiles rows = checked ROW.now (profiled (outbound_ways profiles)) 0 rows
