use Rattle.std.proofs.Common.{◌≡◌, List, [], drop}
use Rattle.toml.specs.Data.{Data}
use Rattle.toml.specs.View.{items_view}
use Rattle.model_keys.specs.Each.{each}
use Rattle.model_profiles.specs.Outbound.{outbound_of}
use Rattle.model_profiles.specs.declared.keys.TheConstants.{OUTBOUND}
use Rattle.dist_model.specs.declared.outbound.Outbound.{Outbound}
use Rattle.dist_model.specs.Way.{outbound_ways}
use Rattle.model_profiles.proofs.outbound.outbounds_of.Given as goal

abbrev pub invariant-loop-place : goal.invariant-loop-place
invariant-loop-place l =
    let read = λ (done : List Outbound) (d : Data).
    outbound_of l.basis.releases.now l.basis.systems.now l.basis.types.now l.basis.definitions.now l.basis.idoc_types.now l.basis.messages.now
    l.basis.reduced.now (outbound_ways done) d in
    (l.ways ≡ outbound_ways l.profiles)
    × (each OUTBOUND.now read l.place l.profiles (items_view (drop l.place l.values)) ≡ each OUTBOUND.now read 0 [] (items_view l.values))
