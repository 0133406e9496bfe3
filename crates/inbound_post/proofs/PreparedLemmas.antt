-- What becomes of a document is by the profile that is found for it.
use Rattle.std.specs.Prelude.{nat_eq, Contains, find}
use Rattle.std.specs.List.{AllZip}
use Rattle.std.specs.Option.{option_map_or}
use Rattle.std.specs.Cmp.Lexicographic.{bytes_decides}
use Rattle.std.proofs.Common.{◌≡◌, ℕ, Bool, true, Option, Some, None, List, [], ◌∷◌, map, cond, inl, inr, refl, sym, ap, subst, ◌∙◌}
use Rattle.std.proofs.lemmas.Bool.{and_parts, cases_Bool, eqb-true}
use Rattle.std.proofs.lemmas.List.Elements.{Contains-append_left, Contains-append_right, Contains-push}
use Rattle.ale_base.specs.Text.{is_text}
use Rattle.idoc_record.specs.declared.control_field.ControlField.TheVariants.{Mestyp}
use Rattle.idoc_record.specs.Control.{field_of}
use Rattle.dist_model.specs.declared.inbound.Inbound.{Inbound}
use Rattle.dist_model.specs.declared.inbound.InboundMode.{InboundMode}
use Rattle.dist_model.specs.declared.inbound.InboundMode.TheVariants.{Immediate, Background}
use Rattle.dist_model.specs.declared.lists.Lists.{Lists}
use Rattle.dist_model.specs.Inbound.{is_inbound}
use Rattle.unit_core.specs.declared.raw_unit_doc.RawUnitDoc.{RawUnitDoc}
use Rattle.object_store.specs.declared.posting.Posting.{Posting}
use Rattle.inbound_post.specs.Reading.{posting}
use Rattle.inbound_post.specs.Prepared.{HasProfile, IsByProfile, by_mode, posting_from}
use Rattle.inbound_post.specs.declared.prepared.DocPosting.TheVariants.{Errors}

-- what is found is among the profiles, and passes the test
found : (test : Inbound → Bool) (profiles : List Inbound) (profile : Inbound) → find test profiles ≡ Some profile
    → Contains profiles profile × (test profile ≡ true)
found test [] profile none = absurd (cc)
found test (first ∷ others) profile is = elim (cases_Bool (test first)) [
  | inl passes ↦
      let own : first ≡ profile = one first profile (sym (ap (λ b. cond b (Some first) (find test others)) passes) ∙ is) in
      (subst (Contains (first ∷ others)) own (Contains-append_left (first ∷ []) others first (Contains-push [] first)), ap test (sym own) ∙ passes)
  | inr fails ↦
      let rest = found test others profile (sym (ap (λ b. cond b (Some first) (find test others)) fails) ∙ is) in
      (Contains-append_right (first ∷ []) others profile rest.0, rest.1)
]
  where
    one : (a b : Inbound) → Some a ≡ Some b → a ≡ b
    one a b same = cc

module _ (model : Lists) (receiver sender : ℕ) (doc : RawUnitDoc) where
  -- the profile that is found is exactly for the document
  its_profile : (profile : Inbound) (mode : InboundMode) → find (is_inbound receiver sender (field_of doc.control Mestyp)) model.inbound ≡ Some profile
      → profile.mode ≡ mode → HasProfile model receiver sender doc mode
  its_profile profile mode is says =
      let has = found (is_inbound receiver sender (field_of doc.control Mestyp)) model.inbound profile is in
      let parts = and_parts (nat_eq receiver profile.receiver) _ has.1 in
      let others = and_parts (nat_eq sender profile.sender) (is_text (field_of doc.control Mestyp) profile.message) parts.1 in
      record {
        profile = profile;
        among = has.0;
        receives = sym (eqb-true receiver profile.receiver parts.0);
        sends = sym (eqb-true sender profile.sender others.0);
        named = sym ((bytes_decides (field_of doc.control Mestyp) profile.message).0 others.1);
        as_said = says;
      }

  by_profile : (profile : Inbound) (mode : InboundMode) (made : Option Posting)
      → find (is_inbound receiver sender (field_of doc.control Mestyp)) model.inbound ≡ Some profile → profile.mode ≡ mode
      → IsByProfile model receiver sender doc (option_map_or (by_mode mode) made Errors)
  by_profile profile mode None is says = tt
  by_profile profile Immediate (Some made) is says = its_profile profile Immediate is says
  by_profile profile Background (Some made) is says = its_profile profile Background is says

  by_found : (profile : Option Inbound) → find (is_inbound receiver sender (field_of doc.control Mestyp)) model.inbound ≡ profile
      → IsByProfile model receiver sender doc (option_map_or (λ its. option_map_or (by_mode its.mode) (posting model doc) Errors) profile Errors)
  by_found None is = tt
  by_found (Some profile) is = by_profile profile profile.mode (posting model doc) is refl

-- each document of a unit is posted, or waits, by a profile for it
pub all-by_profile : (model : Lists) (receiver sender : ℕ) (docs : List RawUnitDoc)
    → AllZip (IsByProfile model receiver sender) docs (map (posting_from model receiver sender) docs)
all-by_profile model receiver sender [] = tt
all-by_profile model receiver sender (doc ∷ docs) = (by_found model receiver sender doc _ refl, all-by_profile model receiver sender docs)
