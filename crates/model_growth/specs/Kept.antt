-- What it is that an entry of a new model keeps one of an old model: the same values, where names stand for numbers of entries. Numbers
-- of fields and of releases stay, since definitions and releases only grow.
use Rattle.std.specs.Prelude.{◌≡◌, List, map, Contains}
use Rattle.std.specs.List.{AllByRecursion}
use Rattle.ale_base.specs.Prefix.{IsPrefix}
use Rattle.segment_defs.specs.declared.idoc_type.IdocType.{IdocType}
use Rattle.segment_defs.specs.declared.segment_type.SegmentType.{SegmentType}
use Rattle.dist_model.specs.declared.kind.Kind.{Kind}
use Rattle.dist_model.specs.declared.lists.Lists.{Lists}
use Rattle.dist_model.specs.declared.message.Message.{Message}
use Rattle.dist_model.specs.declared.message.Reduced.{Reduced}
use Rattle.dist_model.specs.Named.{idoc_type_name, kind_name, message_name, segment_name}
use Rattle.model_growth.specs.Named.{named_entry, named_field}

-- a segment type stands in another one: that has its name, and begins with all its definitions
pub record TypeKept (type other : SegmentType) : Type 0 where
  pub named : type.name ≡ other.name
  pub versions : IsPrefix type.versions other.versions

-- an IDoc type has the name of another one, and its entries
pub record IdocTypeKept (old new : Lists) (type other : IdocType) : Type 0 where
  pub named : type.name ≡ other.name
  pub entries : map (named_entry old) type.segments ≡ map (named_entry new) other.segments

-- a kind has the name of another one, its segment type and its key
pub record KindKept (old new : Lists) (kind other : Kind) : Type 0 where
  pub named : kind.name ≡ other.name
  pub segment : segment_name old kind.segment ≡ segment_name new other.segment
  pub key : kind.key ≡ other.key

-- a message type has the name of another one, its IDoc type and kind, and does and needs the same
pub record MessageKept (old new : Lists) (message other : Message) : Type 0 where
  pub named : message.name ≡ other.name
  pub idoc_type : idoc_type_name old message.idoctype ≡ idoc_type_name new other.idoctype
  pub kind : kind_name old message.kind ≡ kind_name new other.kind
  pub posting : message.posting ≡ other.posting
  pub required : message.required ≡ other.required
  pub pointers : message.pointers ≡ other.pointers

-- a reduced message type has the name of another one, its message type, and keeps the same fields
pub record ReducedKept (old new : Lists) (reduced other : Reduced) : Type 0 where
  pub named : reduced.name ≡ other.name
  pub message : message_name old reduced.message ≡ message_name new other.message
  pub keep : map (named_field old) reduced.keep ≡ map (named_field new) other.keep

-- for each entry there is one among others that keeps it
abbrev pub AllKept : {A : Type 0} → (A → A → Type 0) → List A → List A → Type 0
AllKept {A} kept entries others = AllByRecursion (λ entry. (other : A) × Contains others other × kept entry other) entries
