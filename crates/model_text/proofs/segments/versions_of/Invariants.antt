use Rattle.std.proofs.Common.{◌≡◌, ◌≤◌, ◌++◌, ℕ, List, [], drop}
use Rattle.toml.specs.Data.{Data}
use Rattle.toml.specs.View.{items_view}
use Rattle.segment_defs.specs.declared.limits.TheConstants.{MOST_BYTES}
use Rattle.segment_defs.specs.declared.version.Version.{Version}
use Rattle.segment_defs.specs.Version.{width_of}
use Rattle.model_keys.specs.Each.{each}
use Rattle.model_text.specs.declared.keys.TheConstants.{VERSION}
use Rattle.model_text.specs.Fields.{field_names}
use Rattle.dist_model.specs.Field.{last_fields}
use Rattle.model_text.specs.Segments.{version_names, version_of}
use Rattle.model_text.proofs.segments.versions_of.Given as goal

-- what the tables hold behind some definitions
pub record IsSoFar (before names fields : List (List ℕ)) (versions : List Version) : Type 0 where
  pub named : names ≡ before ++ version_names versions
  pub fields_named : fields ≡ field_names (last_fields versions)
  pub narrow : width_of (last_fields versions) ≤ MOST_BYTES

abbrev pub invariant-loop-place : goal.invariant-loop-place
invariant-loop-place l =
    let read = λ (done : List Version) (d : Data). version_of l.releases (l.fn.names ++ version_names done) done d in
    IsSoFar l.fn.names l.names l.fields l.versions
    × (each VERSION.now read l.place l.versions (items_view (drop l.place l.values)) ≡ each VERSION.now read 0 [] (items_view l.values))
