-- What the profiles of what is sent refer to: parts of a model, and the names of these.
use Rattle.std.specs.Prelude.{◌≡◌, ◌≤◌, ◌++◌, length}
use Rattle.segment_defs.specs.Definitions.{AreDefinitions}
use Rattle.dist_model.specs.declared.limits.TheConstants.{MOST_MESSAGES, MOST_REDUCED, MOST_RELEASES, MOST_SYSTEMS}
use Rattle.dist_model.specs.Message.{message_names, reduced_names}
use Rattle.model_profiles.specs.declared.basis.Basis.{Basis}

-- one or more releases, and not more of them, of systems and of message types than a model has; definitions that keep their
-- rules; and lists of names that are those of the things
pub record IsBasis (basis : Basis) : Type 0 where
  pub some_releases : 1 ≤ length basis.releases.now
  pub few_releases : length basis.releases.now ≤ MOST_RELEASES
  pub few_systems : length basis.systems.now ≤ MOST_SYSTEMS
  pub definitions_are : AreDefinitions basis.definitions.now
  pub typed : length basis.types.now ≡ length basis.definitions.now.types
  pub few_messages : length basis.messages.now ≤ MOST_MESSAGES
  pub messages_named : basis.message_names.now ≡ message_names basis.messages.now
  pub few_reduced : length basis.reduced.now ≤ MOST_REDUCED
  pub all_named : basis.all_names.now ≡ message_names basis.messages.now ++ reduced_names basis.reduced.now
