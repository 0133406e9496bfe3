use Rattle.std.proofs.Common.{◌≡◌, List, [], drop}
use Rattle.toml.specs.Data.{Data}
use Rattle.toml.specs.View.{items_view}
use Rattle.model_keys.specs.Each.{each}
use Rattle.model_profiles.specs.Inbound.{inbound_triples, inbound_of}
use Rattle.model_profiles.specs.declared.keys.TheConstants.{INBOUND}
use Rattle.dist_model.specs.declared.inbound.Inbound.{Inbound}
use Rattle.model_profiles.proofs.inbound.inbounds_of.Given as goal

abbrev pub invariant-loop-place : goal.invariant-loop-place
invariant-loop-place l =
    let read = λ (done : List Inbound) (d : Data). inbound_of l.systems l.names (inbound_triples l.names done) d in
    (l.others ≡ inbound_triples l.names l.profiles)
    × (each INBOUND.now read l.place l.profiles (items_view (drop l.place l.values)) ≡ each INBOUND.now read 0 [] (items_view l.values))
