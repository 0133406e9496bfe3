-- The section `releases`: names, all different, in order.
use Rattle.std.specs.Prelude.{ℕ, List, [], Result}
use Rattle.toml.specs.Data.{Items, Members}
use Rattle.dist_model.specs.declared.limits.TheConstants.{LONGEST_RELEASE, MOST_RELEASES}
use Rattle.model_keys.specs.declared.finding.Finding.{Finding}
use Rattle.model_keys.specs.Finding.{◌>>=◌}
use Rattle.model_keys.specs.Each.{each}
use Rattle.model_keys.specs.Keys.{new_name_of, some_list_at}
use Rattle.model_text.specs.declared.keys.TheConstants.{RELEASES}

-- the names of a list, each a new one behind those before it
abbrev pub releases_of : Items → Result (List (List ℕ)) Finding
releases_of ds = each RELEASES.now (λ done d. new_name_of LONGEST_RELEASE [] done d) 0 [] ds

-- the releases of a text, of which there is one at least
unfoldable pub releases_at : Members → Result (List (List ℕ)) Finding
releases_at table = do
  ds ← some_list_at MOST_RELEASES RELEASES.now table
  releases_of ds
