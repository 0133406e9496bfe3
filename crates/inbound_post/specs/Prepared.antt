-- What a receiver makes of the documents of a unit, by the unit and the model alone. SAP Library, ALE: an inbound partner profile
-- says whether a document is posted at once or in the background.
use Rattle.std.specs.Prelude.{◌≡◌, ℕ, ◌-◌, ⊤, Bool, List, [], map, find, slice_get, Contains}
use Rattle.std.specs.List.{list_any}
use Rattle.std.specs.Option.{option_map_or}
use Rattle.ale_base.specs.Text.{is_text}
use Rattle.idoc_record.specs.declared.control_field.ControlField.TheVariants.{Mestyp}
use Rattle.idoc_record.specs.Control.{field_of}
use Rattle.dist_model.specs.declared.inbound.Inbound.{Inbound}
use Rattle.dist_model.specs.declared.inbound.InboundMode.{InboundMode}
use Rattle.dist_model.specs.declared.inbound.InboundMode.TheVariants.{Immediate, Background}
use Rattle.dist_model.specs.declared.lists.Lists.{Lists}
use Rattle.dist_model.specs.Inbound.{is_inbound}
use Rattle.unit_core.specs.declared.ale_unit.AleUnit.{AleUnit}
use Rattle.unit_core.specs.declared.raw_unit_doc.RawUnitDoc.{RawUnitDoc}
use Rattle.object_store.specs.declared.posting.Posting.{Posting}
use Rattle.inbound_post.specs.declared.prepared.DocPosting.{DocPosting}
use Rattle.inbound_post.specs.declared.prepared.DocPosting.TheVariants.{Post, Waits, Errors}
use Rattle.inbound_post.specs.declared.prepared.Prepared.{Prepared}
use Rattle.inbound_post.specs.Reading.{posting}

-- the functions that a system offers
abbrev pub functions_of : Lists → ℕ → List (List ℕ)
functions_of model system = option_map_or (λ is. is.functions) (slice_get model.systems (system - 1)) []

-- whether a system offers a function
abbrev pub offers : Lists → ℕ → List ℕ → Bool
offers model system function = list_any (λ own. is_text own function) (functions_of model system)

-- a document that has a posting is posted at once, or waits, by the mode of its profile
abbrev pub by_mode : InboundMode → Posting → DocPosting
by_mode Immediate posting = Post posting
by_mode Background posting = Waits

-- What becomes of a document that a receiver gets from a sender: an error where there is no profile for the two and MESTYP, or it
-- has no posting; and else as the profile says.
abbrev pub posting_from : Lists → ℕ → ℕ → RawUnitDoc → DocPosting
posting_from model receiver sender doc =
    option_map_or (λ profile. option_map_or (by_mode profile.mode) (posting model doc) Errors)
    (find (is_inbound receiver sender (field_of doc.control Mestyp)) model.inbound) Errors

-- what a receiver makes of a unit
abbrev pub prepared : Lists → ℕ → AleUnit → Prepared
prepared model receiver unit =
    record {
      offered = offers model receiver unit.function;
      postings = map (posting_from model receiver unit.sender) unit.docs;
    }

-- a model has a profile of exactly this receiver, this sender and the MESTYP of a document, with this mode
pub record HasProfile (model : Lists) (receiver sender : ℕ) (doc : RawUnitDoc) (mode : InboundMode) : Type 0 where
  pub profile : Inbound
  pub among : Contains model.inbound profile
  pub receives : profile.receiver ≡ receiver
  pub sends : profile.sender ≡ sender
  pub named : profile.message ≡ field_of doc.control Mestyp
  pub as_said : profile.mode ≡ mode

-- a document is posted, or waits, by a profile for it, that says so
abbrev pub IsByProfile : Lists → ℕ → ℕ → RawUnitDoc → DocPosting → Type 0
IsByProfile model receiver sender doc (Post posting) = HasProfile model receiver sender doc Immediate
IsByProfile model receiver sender doc Waits = HasProfile model receiver sender doc Background
IsByProfile model receiver sender doc Errors = ⊤
