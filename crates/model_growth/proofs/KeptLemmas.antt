-- An entry of a new model keeps one of an old model exactly where its test says so.
use Rattle.std.specs.Prelude.{nat_eq}
use Rattle.std.proofs.Common.{◌≡◌, refl, ap}
use Rattle.std.proofs.lemmas.Bool.{false≢true}
use Rattle.segment_defs.specs.declared.field.Field.{Field}
use Rattle.segment_defs.specs.declared.idoc_type.IdocType.{IdocType}
use Rattle.segment_defs.specs.declared.idoc_type.TypePlace.{TypePlace}
use Rattle.segment_defs.specs.declared.segment_type.SegmentType.{SegmentType}
use Rattle.segment_defs.specs.declared.version.Version.{Version}
use Rattle.dist_model.specs.declared.filter.FieldPlace.{FieldPlace}
use Rattle.dist_model.specs.declared.kind.Kind.{Kind}
use Rattle.dist_model.specs.declared.lists.Lists.{Lists}
use Rattle.dist_model.specs.declared.message.Message.{Message}
use Rattle.dist_model.specs.declared.message.PostingMode.{PostingMode}
use Rattle.dist_model.specs.declared.message.PostingMode.TheVariants.{Upsert, Insert}
use Rattle.dist_model.specs.declared.message.Reduced.{Reduced}
use Rattle.dist_model.specs.declared.system.System.{System}
use Rattle.dist_model.specs.Named.{idoc_type_name, kind_name, message_name, segment_name}
use Rattle.model_growth.specs.Named.{named_entry, named_field}
use Rattle.model_growth.specs.Tests.{keeps_entry, keeps_field, keeps_idoc_type, keeps_kind, keeps_message, keeps_reduced, keeps_system, keeps_type, same_field}
use Rattle.model_growth.specs.Tests.{same_posting, same_version}
use Rattle.model_growth.specs.Kept.{IdocTypeKept, KindKept, MessageKept, ReducedKept, TypeKept}
use Rattle.model_growth.specs.Growth.{name_and_client}
use Rattle.model_growth.proofs.DecidedLemmas.{IsDecided, bool_decided, both_decided, decided_as, list_decided, map_decided, number_decided, option_decided}
use Rattle.model_growth.proofs.DecidedLemmas.{prefix_decided, text_decided}

pub system_decided : (system other : System) → IsDecided (keeps_system system other) (name_and_client system ≡ name_and_client other)
system_decided system other =
    decided_as (λ same. λ i. (same.0 i, same.1 i)) (λ same. (ap (λ p. p.0) same, ap (λ p. p.1) same))
    (both_decided (text_decided system.name other.name) (text_decided system.client other.client))

field_decided : (field other : Field) → IsDecided (same_field field other) (field ≡ other)
field_decided field other =
    decided_as
    (λ same. λ i. record { name = same.0.0 i; offset = same.0.1 i; length = same.1 i })
    (λ same. ((ap (λ f. f.name) same, ap (λ f. f.offset) same), ap (λ f. f.length) same))
    (both_decided (both_decided (text_decided field.name other.name) (number_decided field.offset other.offset))
    (number_decided field.length other.length))

version_decided : (version other : Version) → IsDecided (same_version version other) (version ≡ other)
version_decided version other =
    decided_as
    (λ same. λ i. record { name = same.0.0 i; release = same.0.1 i; fields = same.1 i })
    (λ same. ((ap (λ v. v.name) same, ap (λ v. v.release) same), ap (λ v. v.fields) same))
    (both_decided (both_decided (text_decided version.name other.name) (number_decided version.release other.release))
    (list_decided same_field field_decided version.fields other.fields))

pub type_decided : (type other : SegmentType) → IsDecided (keeps_type type other) (TypeKept type other)
type_decided type other =
    decided_as (λ both. record { named = both.0; versions = both.1 }) (λ kept. (kept.named, kept.versions))
    (both_decided (text_decided type.name other.name) (prefix_decided same_version version_decided type.versions other.versions))

entry_decided : (old new : Lists) (entry other : TypePlace) → IsDecided (keeps_entry old new entry other) (named_entry old entry ≡ named_entry new other)
entry_decided old new entry other =
    decided_as
    (λ same. λ i. (same.0.0.0.0 i, same.0.0.0.1 i, same.0.0.1 i, same.0.1 i, same.1 i))
    (λ same. ((((ap (λ e. e.0) same, ap (λ e. e.1) same), ap (λ e. e.2) same), ap (λ e. e.3) same), ap (λ e. e.4) same))
    (both_decided (both_decided (both_decided (both_decided
    (text_decided (segment_name old entry.segment) (segment_name new other.segment))
    (option_decided entry.parent other.parent))
    (bool_decided entry.mandatory other.mandatory))
    (number_decided entry.min other.min))
    (number_decided entry.max other.max))

pub idoc_type_decided : (old new : Lists) (type other : IdocType) → IsDecided (keeps_idoc_type old new type other) (IdocTypeKept old new type other)
idoc_type_decided old new type other =
    decided_as (λ both. record { named = both.0; entries = both.1 }) (λ kept. (kept.named, kept.entries))
    (both_decided (text_decided type.name other.name)
    (map_decided (keeps_entry old new) (named_entry old) (named_entry new) (entry_decided old new) type.segments other.segments))

pub kind_decided : (old new : Lists) (kind other : Kind) → IsDecided (keeps_kind old new kind other) (KindKept old new kind other)
kind_decided old new kind other =
    decided_as
    (λ all. record { named = all.0.0; segment = all.0.1; key = all.1 }) (λ kept. ((kept.named, kept.segment), kept.key))
    (both_decided (both_decided (text_decided kind.name other.name)
    (text_decided (segment_name old kind.segment) (segment_name new other.segment)))
    (number_decided kind.key other.key))

posting_decided : (posting other : PostingMode) → IsDecided (same_posting posting other) (posting ≡ other)
posting_decided Upsert Upsert = record { is = λ _. refl; back = λ _. refl }
posting_decided Upsert Insert = record { is = λ never. absurd (false≢true never); back = λ never. cc }
posting_decided Insert Upsert = record { is = λ never. absurd (false≢true never); back = λ never. cc }
posting_decided Insert Insert = record { is = λ _. refl; back = λ _. refl }

pub message_decided : (old new : Lists) (message other : Message) → IsDecided (keeps_message old new message other) (MessageKept old new message other)
message_decided old new message other =
    decided_as
    (λ all. record {
      named = all.0.0.0.0.0;
      idoc_type = all.0.0.0.0.1;
      kind = all.0.0.0.1;
      posting = all.0.0.1;
      required = all.0.1;
      pointers = all.1;
    })
    (λ kept. (((((kept.named, kept.idoc_type), kept.kind), kept.posting), kept.required), kept.pointers))
    (both_decided (both_decided (both_decided (both_decided (both_decided
    (text_decided message.name other.name)
    (text_decided (idoc_type_name old message.idoctype) (idoc_type_name new other.idoctype)))
    (text_decided (kind_name old message.kind) (kind_name new other.kind)))
    (posting_decided message.posting other.posting))
    (list_decided nat_eq number_decided message.required other.required))
    (list_decided nat_eq number_decided message.pointers other.pointers))

place_decided : (old new : Lists) (place other : FieldPlace) → IsDecided (keeps_field old new place other) (named_field old place ≡ named_field new other)
place_decided old new place other =
    decided_as (λ same. λ i. (same.0 i, same.1 i)) (λ same. (ap (λ p. p.0) same, ap (λ p. p.1) same))
    (both_decided (text_decided (segment_name old place.segment) (segment_name new other.segment)) (number_decided place.field other.field))

pub reduced_decided : (old new : Lists) (reduced other : Reduced) → IsDecided (keeps_reduced old new reduced other) (ReducedKept old new reduced other)
reduced_decided old new reduced other =
    decided_as
    (λ all. record { named = all.0.0; message = all.0.1; keep = all.1 }) (λ kept. ((kept.named, kept.message), kept.keep))
    (both_decided (both_decided (text_decided reduced.name other.name)
    (text_decided (message_name old reduced.message) (message_name new other.message)))
    (map_decided (keeps_field old new) (named_field old) (named_field new) (place_decided old new) reduced.keep other.keep))
