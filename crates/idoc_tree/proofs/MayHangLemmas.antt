-- A record makes the forest grow exactly where its segment may be hung into it.
use Rattle.std.specs.Prelude.{nat_le}
use Rattle.std.proofs.Common.{◌≡◌, ℕ, ◌⊎◌, Bool, true, false, cond, Option, Some, None, Result, Ok, Err, List, refl, ap, sym, inl, inr, ◌∙◌}
use Rattle.idoc_record.specs.Data.{DataRecord}
use Rattle.segment_defs.specs.declared.definitions.Definitions.{Definitions}
use Rattle.segment_defs.specs.declared.idoc_type.TypePlace.{TypePlace}
use Rattle.segment_defs.specs.IdocType.{place_in, entry_of, type_above}
use Rattle.idoc_tree.specs.declared.fault.SyntaxFault.{SyntaxFault}
use Rattle.idoc_tree.specs.declared.fault.SyntaxFault.TheVariants.{Misplaced, TooMany}
use Rattle.ale_base.specs.Text.{told_length}
use Rattle.idoc_tree.specs.Forest.{Segment, Forest, count_of}
use Rattle.idoc_tree.specs.Spells.{segment_of}
use Rattle.idoc_tree.specs.Siblings.{siblings, has_later}
use Rattle.idoc_tree.specs.steps.Growing.{hung, grown_among, grown_at, grown_by, grown}

-- a segment may be hung into a forest: it comes in time among its siblings, and there is room
pub record MayHang (entries : List TypePlace) (segment : Segment) (forest : Forest) : Type 0 where
  pub entry : TypePlace
  pub entry_at : entry_of entries segment.type ≡ Some entry
  pub among : List Segment
  pub siblings_are : siblings (type_above entries entry) forest ≡ Some among
  pub in_time : has_later entries (place_in entries segment.type) among ≡ false
  pub room : nat_le entry.max (count_of segment.type among) ≡ false

-- which way a choice went
pub chosen : {A : Type 0} (b : Bool) (x y z : A) → cond b x y ≡ z → ((b ≡ true) × (x ≡ z)) ⊎ ((b ≡ false) × (y ≡ z))
chosen true x y z same = inl (refl, same)
chosen false x y z same = inr (refl, same)

-- a record that makes the forest grow
pub record Grows (definitions : Definitions) (entries : List TypePlace) (line : DataRecord) (forest grown : Forest) : Type 0 where
  pub segment : Segment
  pub known : segment_of definitions line ≡ Some segment
  pub may : MayHang entries segment forest
  pub is : grown ≡ hung (type_above entries may.entry) segment forest

module _ (definitions : Definitions) (entries : List TypePlace) (number : ℕ) (line : DataRecord) (forest : Forest) where
  grows_among : (after : Forest) (segment : Segment) (entry : TypePlace) (among : Option (List Segment)) → segment_of definitions line ≡ Some segment →
      entry_of entries segment.type ≡ Some entry → siblings (type_above entries entry) forest ≡ among → grown_among entries number segment entry forest among
      ≡ Ok after → Grows definitions entries line forest after
  grows_among after segment entry None known entry_at siblings_are grew = cc
  grows_among after segment entry (Some among) known entry_at siblings_are grew =
      elim (chosen (has_later entries (place_in entries segment.type) among) _ _ _ grew) [
        | inl late ↦ cc
        | inr early ↦
            elim (chosen (nat_le entry.max (count_of segment.type among)) _ _ _ early.1) [
              | inl full ↦ cc
              | inr room ↦ record {
                segment = segment;
                known = known;
                may = record { entry = entry; entry_at = entry_at; among = among; siblings_are = siblings_are; in_time = early.0; room = room.0 };
                is = cc;
              }
            ]
      ]

  grows_at : (after : Forest) (segment : Segment) (entry : Option TypePlace) → segment_of definitions line ≡ Some segment →
      entry_of entries segment.type ≡ entry → grown_at entries number segment forest entry ≡ Ok after → Grows definitions entries line forest after
  grows_at after segment None known entry_at grew = cc
  grows_at after segment (Some entry) known entry_at grew =
      grows_among after segment entry (siblings (type_above entries entry) forest) known entry_at refl grew

  grows_by : (after : Forest) (segment : Option Segment) → segment_of definitions line ≡ segment → grown_by entries number forest segment ≡ Ok after →
      Grows definitions entries line forest after
  grows_by after None known grew = cc
  grows_by after (Some segment) known grew = grows_at after segment (entry_of entries segment.type) known refl grew

  -- where the forest grows, it does so by a segment that may be hung into it
  pub grown-Ok : (after : Forest) → grown definitions entries number line forest ≡ Ok after → Grows definitions entries line forest after
  grown-Ok after grew = grows_by after (segment_of definitions line) refl grew

  -- and where one may be, it grows
  pub grown-Grows : (after : Forest) → Grows definitions entries line forest after → grown definitions entries number line forest ≡ Ok after
  grown-Grows after grows =
      let may = grows.may in
      let segment = grows.segment in
      let late : Result Forest SyntaxFault = Err (Misplaced (told_length number)) in
      let full : Result Forest SyntaxFault = Err (TooMany (told_length number)) in
      let more : Result Forest SyntaxFault = Ok (hung (type_above entries may.entry) segment forest) in
      ap (grown_by entries number forest) grows.known
      ∙ ap (grown_at entries number segment forest) may.entry_at
      ∙ ap (grown_among entries number segment may.entry forest) may.siblings_are
      ∙ ap (λ b. cond b late (cond (nat_le may.entry.max (count_of segment.type may.among)) full more)) may.in_time
      ∙ ap (λ b. cond b full more) may.room
      ∙ ap Ok (sym grows.is)
