-- Whether an entry of a new model keeps one of an old model: the same values, where names stand for numbers of entries.
use Rattle.std.specs.Prelude.{◌==◌, ◌&&◌, Bool, true, false, nat_eq}
use Rattle.std.specs.Bool.{beq}
use Rattle.std.specs.Cmp.Lexicographic.{pointwise}
use Rattle.std.specs.List.{starts_with}
use Rattle.std.specs.Option.{option_eq}
use Rattle.ale_base.specs.Text.{is_text}
use Rattle.segment_defs.specs.declared.field.Field.{Field}
use Rattle.segment_defs.specs.declared.idoc_type.IdocType.{IdocType}
use Rattle.segment_defs.specs.declared.idoc_type.TypePlace.{TypePlace}
use Rattle.segment_defs.specs.declared.segment_type.SegmentType.{SegmentType}
use Rattle.segment_defs.specs.declared.version.Version.{Version}
use Rattle.dist_model.specs.declared.filter.FieldPlace.{FieldPlace}
use Rattle.dist_model.specs.declared.kind.Kind.{Kind}
use Rattle.dist_model.specs.declared.lists.Lists.{Lists}
use Rattle.dist_model.specs.declared.message.Message.{Message}
use Rattle.dist_model.specs.declared.message.PostingMode.{PostingMode}
use Rattle.dist_model.specs.declared.message.PostingMode.TheVariants.{Upsert, Insert}
use Rattle.dist_model.specs.declared.message.Reduced.{Reduced}
use Rattle.dist_model.specs.declared.system.System.{System}
use Rattle.dist_model.specs.Named.{idoc_type_name, kind_name, message_name, segment_name}

-- whether two systems have one name and one client
abbrev pub keeps_system : System → System → Bool
keeps_system system other = is_text system.name other.name && pointwise nat_eq system.client other.client

-- whether two fields are the same
abbrev pub same_field : Field → Field → Bool
same_field field other = is_text field.name other.name && (field.offset == other.offset) && (field.length == other.length)

-- whether two definitions are the same
abbrev pub same_version : Version → Version → Bool
same_version version other =
    is_text version.name other.name && (version.release == other.release) && pointwise same_field version.fields other.fields

-- whether a segment type stands in another one: that has its name, and begins with all its definitions
abbrev pub keeps_type : SegmentType → SegmentType → Bool
keeps_type type other = is_text type.name other.name && starts_with same_version other.versions type.versions

-- whether two entries of IDoc types are the same
abbrev pub keeps_entry : Lists → Lists → TypePlace → TypePlace → Bool
keeps_entry old new entry other =
    is_text (segment_name old entry.segment) (segment_name new other.segment) && option_eq nat_eq entry.parent other.parent
    && beq entry.mandatory other.mandatory && (entry.min == other.min) && (entry.max == other.max)

-- whether two IDoc types are the same
abbrev pub keeps_idoc_type : Lists → Lists → IdocType → IdocType → Bool
keeps_idoc_type old new type other = is_text type.name other.name && pointwise (keeps_entry old new) type.segments other.segments

-- whether two kinds are the same
abbrev pub keeps_kind : Lists → Lists → Kind → Kind → Bool
keeps_kind old new kind other =
    is_text kind.name other.name && is_text (segment_name old kind.segment) (segment_name new other.segment) && (kind.key == other.key)

-- whether two postings do the same
abbrev pub same_posting : PostingMode → PostingMode → Bool
same_posting Upsert Upsert = true
same_posting Upsert Insert = false
same_posting Insert Upsert = false
same_posting Insert Insert = true

-- whether two message types are the same
abbrev pub keeps_message : Lists → Lists → Message → Message → Bool
keeps_message old new message other =
    is_text message.name other.name && is_text (idoc_type_name old message.idoctype) (idoc_type_name new other.idoctype)
    && is_text (kind_name old message.kind) (kind_name new other.kind) && same_posting message.posting other.posting
    && pointwise nat_eq message.required other.required && pointwise nat_eq message.pointers other.pointers

-- whether two fields of segment types are the same
abbrev pub keeps_field : Lists → Lists → FieldPlace → FieldPlace → Bool
keeps_field old new place other = is_text (segment_name old place.segment) (segment_name new other.segment) && (place.field == other.field)

-- whether two reduced message types are the same
abbrev pub keeps_reduced : Lists → Lists → Reduced → Reduced → Bool
keeps_reduced old new reduced other =
    is_text reduced.name other.name && is_text (message_name old reduced.message) (message_name new other.message)
    && pointwise (keeps_field old new) reduced.keep other.keep
