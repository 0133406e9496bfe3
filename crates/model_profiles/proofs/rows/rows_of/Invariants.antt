use Rattle.std.proofs.Common.{◌≡◌, List, [], drop}
use Rattle.toml.specs.Data.{Data}
use Rattle.toml.specs.View.{items_view}
use Rattle.model_keys.specs.Each.{each}
use Rattle.model_profiles.specs.Rows.{row_of, row_ways}
use Rattle.model_profiles.specs.declared.keys.TheConstants.{ROW}
use Rattle.dist_model.specs.declared.row.Row.{Row}
use Rattle.model_profiles.proofs.rows.rows_of.Given as goal

abbrev pub invariant-loop-place : goal.invariant-loop-place
invariant-loop-place l =
    let read = λ (done : List Row) (d : Data). row_of l.on.systems l.on.definitions l.on.messages l.on.filters (row_ways done) d in
    (l.ways ≡ row_ways l.rows)
    × (each ROW.now read l.place l.rows (items_view (drop l.place l.values)) ≡ each ROW.now read 0 [] (items_view l.values))
