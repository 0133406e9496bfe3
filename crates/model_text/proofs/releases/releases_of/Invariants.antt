use Rattle.std.proofs.Common.{◌≡◌, ℕ, List, [], drop}
use Rattle.toml.specs.Data.{Data}
use Rattle.toml.specs.View.{items_view}
use Rattle.model_keys.specs.Each.{each}
use Rattle.dist_model.specs.declared.limits.TheConstants.{LONGEST_RELEASE}
use Rattle.model_keys.specs.Keys.{new_name_of}
use Rattle.model_text.specs.declared.keys.TheConstants.{RELEASES}
use Rattle.model_text.proofs.releases.releases_of.Given as goal

abbrev pub invariant-loop-place : goal.invariant-loop-place
invariant-loop-place l =
    let read = λ (done : List (List ℕ)) (d : Data). new_name_of LONGEST_RELEASE [] done d in
    (l.names ≡ l.releases) × (each RELEASES.now read l.place l.releases (items_view (drop l.place l.values))
    ≡ each RELEASES.now read 0 [] (items_view l.values))
