-- The rules that the parts of a model keep while it is read, with the names of its things: for the private functions that
-- read it. Those of the whole are `IsModel` of the models' crate.
use Rattle.std.specs.Prelude.{◌≡◌, ◌++◌, length}
use Rattle.std.specs.List.{AllByRecursion}
use Rattle.segment_defs.specs.Definitions.{AreDefinitions}
use Rattle.dist_model.specs.Kind.{AreKinds}
use Rattle.dist_model.specs.Message.{AreMessages, AreReduced, message_names, reduced_names}
use Rattle.dist_model.specs.Filter.{AreFilters}
use Rattle.dist_model.specs.Model.{AreIdocTypes, AreReleases, AreSystems, idoc_type_names, IsReleased, system_names, type_names}
use Rattle.model_profiles.specs.declared.basis.Basis.{Basis}
use Rattle.model_text.specs.declared.basics.Basics.{Basics}
use Rattle.model_text.specs.declared.basics.Structure.{Structure}
use Rattle.model_text.specs.declared.subjects.Subjects.{Subjects}

-- segment types and IDoc types with the names of each
pub record IsNamed (structure : Structure) : Type 0 where
  pub segments : structure.segments.names ≡ type_names structure.segments.things
  pub types : structure.types.names ≡ idoc_type_names structure.types.things

-- releases, systems, segment types and IDoc types that keep their rules
pub record IsBasics (on : Basics) : Type 0 where
  pub releases : AreReleases on.releases
  pub release_names : on.release_names ≡ on.releases
  pub systems : AreSystems on.systems
  pub system_names : on.system_names ≡ system_names on.systems
  pub definitions : AreDefinitions on.definitions
  pub segment_names : on.segment_names ≡ type_names on.definitions.types
  pub released : AllByRecursion (IsReleased (length on.releases)) on.definitions.types
  pub types : AreIdocTypes on.definitions on.types
  pub type_names : on.type_names ≡ idoc_type_names on.types

-- kinds, message types, reduced ones and filters that keep their rules
pub record AreSubjects (on : Basics) (of : Subjects) : Type 0 where
  pub kinds : AreKinds on.definitions of.kinds
  pub messages : AreMessages on.definitions on.types of.kinds of.messages
  pub named : of.message_names ≡ message_names of.messages
  pub reduced : AreReduced on.definitions on.types of.messages of.reduced
  pub all_named : of.all_names ≡ message_names of.messages ++ reduced_names of.reduced
  pub filters : AreFilters on.definitions on.types of.messages of.filters

-- what profiles refer to is of these parts
pub record IsBasisOf (on : Basics) (of : Subjects) (basis : Basis) : Type 0 where
  pub releases : basis.releases.now ≡ on.release_names
  pub systems : basis.systems.now ≡ on.system_names
  pub types : basis.types.now ≡ on.segment_names
  pub definitions : basis.definitions.now ≡ on.definitions
  pub idoc_types : basis.idoc_types.now ≡ on.types
  pub messages : basis.messages.now ≡ of.messages
  pub message_names : basis.message_names.now ≡ of.message_names
  pub reduced : basis.reduced.now ≡ of.reduced
  pub all_names : basis.all_names.now ≡ of.all_names
