-- What is kept behind some records: steps on the way to `past_of` of `Committed`.
use Rattle.std.specs.Prelude.{List, [], ◌++◌, map}
use Rattle.std.specs.Option.{option_map_or}
use Rattle.dist_model.specs.declared.lists.Lists.{Lists}
use Rattle.unit_core.specs.declared.records.Record.{Record}
use Rattle.log_models.specs.InForce.{in_force, models_after, system_after}
use Rattle.outbound_build.specs.declared.added.Added.{Added}
use Rattle.outbound_build.specs.declared.committing.Behind.{Behind}
use Rattle.outbound_build.specs.Added.{added_by, after}
use Rattle.outbound_build.specs.Committed.{Past, empty_outbox, no_more}

-- what is kept of it
abbrev pub kept_of : Past → Behind
kept_of past = record { models = past.models; system = past.system; outbox = past.outbox; units = map (λ one. one.unit) past.units }

-- nothing is behind
abbrev pub begun : Behind
begun = record { models = 0; system = 0; outbox = empty_outbox; units = [] }

-- what one more record adds
abbrev pub more_of : List Lists → Behind → Record → Added
more_of models behind next =
    option_map_or (λ model. added_by model behind.system behind.outbox next) (in_force models behind.models) no_more

-- what is kept behind one more record that adds this
abbrev pub with_more : Behind → Record → Added → Behind
with_more behind next more =
    record {
      models = models_after behind.models next;
      system = system_after behind.models behind.system next;
      outbox = after next more behind.outbox;
      units = behind.units ++ map (λ one. one.unit) more.units;
    }
