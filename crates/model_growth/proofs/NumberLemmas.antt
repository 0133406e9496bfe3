-- The numbers that the segment types and the message types of a model have in another one that keeps it.
use Rattle.std.specs.Prelude.{Contains, map, slice_get}
use Rattle.std.specs.List.{AllByRecursion, IsDistinct}
use Rattle.std.specs.Option.{option_map, option_map_or}
use Rattle.std.proofs.Common.{◌≡◌, ◌⊎◌, inl, inr, ℕ, suc, ◌+◌, ◌-◌, ◌<◌, Bool, Option, Some, None, List, [], ◌∷◌, length, refl, sym, ap, ◌∙◌, arith}
use Rattle.std.proofs.lemmas.List.{length-map}
use Rattle.std.proofs.lemmas.Option.{same_Some, slice_get-map, slice_get_within}
use Rattle.ale_base.specs.Text.{is_text}
use Rattle.ale_base.proofs.ListLemmas.{AllByRecursion-at, place_of, slice_get-front, slice_get-within}
use Rattle.ale_base.proofs.OptionLemmas.{none_or_some}
use Rattle.segment_defs.specs.declared.definitions.Definitions.{Definitions}
use Rattle.segment_defs.specs.declared.idoc_type.IdocType.{IdocType}
use Rattle.segment_defs.specs.declared.idoc_type.TypePlace.{TypePlace}
use Rattle.segment_defs.specs.declared.segment_type.SegmentType.{SegmentType}
use Rattle.segment_defs.specs.declared.version.Version.{Version}
use Rattle.segment_defs.specs.Definitions.{AreDefinitions, StandsFor, found_in}
use Rattle.segment_defs.specs.IdocType.{IsEntry, IsIdocType}
use Rattle.segment_defs.specs.SegmentType.{IsSegmentType}
use Rattle.segment_defs.proofs.DefinitionsLemmas.{StandsFor-found, found-StandsFor}
use Rattle.segment_defs.proofs.NameLemmas.{position-only}
use Rattle.dist_model.specs.declared.lists.Lists.{Lists}
use Rattle.dist_model.specs.declared.message.Message.{Message}
use Rattle.dist_model.specs.declared.message.Reduced.{Reduced}
use Rattle.dist_model.specs.Message.{IsMessage, IsReduced, entries_at, message_entries, message_names}
use Rattle.dist_model.specs.Model.{IsModel, StandsForMessage, idoc_type_names, message_named}
use Rattle.dist_model.proofs.LookupLemmas.{message-named}
use Rattle.model_growth.specs.Growth.{IsGrown}
use Rattle.model_growth.specs.Kept.{IdocTypeKept, MessageKept, ReducedKept, TypeKept}
use Rattle.model_growth.specs.Named.{named_entry}

-- a type's own name stands for its newest definition
newest : (definitions : Definitions) → AreDefinitions definitions → (place : ℕ) (type : SegmentType) → slice_get definitions.types place ≡ Some type
    → found_in type.name definitions.types ≡ Some (place, length type.versions - 1)
newest definitions are place type here =
    let some = (AllByRecursion-at IsSegmentType definitions.types place type are.each here).some in
    let got = slice_get-within type.versions (length type.versions - 1) (omega (arith, some)) in
    found-StandsFor definitions type.name place (length type.versions - 1) are (record {
      type = type;
      type_at = here;
      definition = got.0;
      definition_at = got.1;
      named = inr (refl, omega (arith, some));
    })

-- types of one name are one
types-apart : (definitions : Definitions) → AreDefinitions definitions → (i j : ℕ) (a b : SegmentType) → slice_get definitions.types i ≡ Some a
    → slice_get definitions.types j ≡ Some b → a.name ≡ b.name → i ≡ j
types-apart definitions are i j a b at_i at_j same =
    let one = newest definitions are i a at_i in
    let two = newest definitions are j b at_j in
    ap (λ (found : ℕ × ℕ). found.0) (same_Some (i, length a.versions - 1) (j, length b.versions - 1)
    (sym one ∙ ap (λ (name : List ℕ). found_in name definitions.types) same ∙ two))

-- of names that stand once, a name has one place
place-only : (names : List (List ℕ)) → IsDistinct is_text names → (i j : ℕ) (name : List ℕ) → slice_get names i ≡ Some name → slice_get names j ≡ Some name
    → i ≡ j
place-only names apart i j name at_i at_j = same_Some i j (sym (position-only name names i apart at_i) ∙ position-only name names j apart at_j)

-- an entry with these values
entry-is : (entry : TypePlace) (segment : ℕ) (parent : Option ℕ) (mandatory : Bool) (min max : ℕ) → entry.segment ≡ segment → entry.parent ≡ parent
    → entry.mandatory ≡ mandatory → entry.min ≡ min → entry.max ≡ max
    → entry ≡ record { segment = segment; parent = parent; mandatory = mandatory; min = min; max = max }
entry-is entry segment parent mandatory min max one two three four five =
    ap (λ (s : ℕ). record { segment = s; parent = entry.parent; mandatory = entry.mandatory; min = entry.min; max = entry.max }) one
    ∙ ap (λ (p : Option ℕ). record { segment = segment; parent = p; mandatory = entry.mandatory; min = entry.min; max = entry.max }) two
    ∙ ap (λ (m : Bool). record { segment = segment; parent = parent; mandatory = m; min = entry.min; max = entry.max }) three
    ∙ ap (λ (n : ℕ). record { segment = segment; parent = parent; mandatory = mandatory; min = n; max = entry.max }) four
    ∙ ap (λ (n : ℕ). record { segment = segment; parent = parent; mandatory = mandatory; min = min; max = n }) five

module _ (old new : Lists) where
  -- the number of a segment type of the old model in the new one; another number for what is no type
  abbrev pub renamed : ℕ → ℕ
  renamed place =
      option_map_or
      (λ type. option_map_or (λ found. found.0) (found_in type.name new.definitions.types) (place + length new.definitions.types))
      (slice_get old.definitions.types place) (place + length new.definitions.types)

module _ (old new : Lists) (old_kept : IsModel old) (new_kept : IsModel new) (grown : IsGrown old new) where
  -- the type of this number is kept under its new one
  renamed-at : (place : ℕ) (type : SegmentType) → slice_get old.definitions.types place ≡ Some type
      → (other : SegmentType) × (slice_get new.definitions.types (renamed old new place) ≡ Some other) × TypeKept type other
  renamed-at place type here =
      let kept = AllByRecursion-at (λ (one : SegmentType). (other : SegmentType) × Contains new.definitions.types other × TypeKept one other)
      old.definitions.types place type grown.segments here in
      let at = place_of new.definitions.types kept.0 kept.1 in
      let beyond = place + length new.definitions.types in
      let is : renamed old new place ≡ at.0
      = ap (λ (o : Option SegmentType). option_map_or
      (λ one. option_map_or (λ found. found.0) (found_in one.name new.definitions.types) beyond) o beyond) here
      ∙ ap (λ (name : List ℕ). option_map_or (λ (found : ℕ × ℕ). found.0) (found_in name new.definitions.types) beyond) kept.2.named
      ∙ ap (λ (o : Option (ℕ × ℕ)). option_map_or (λ found. found.0) o beyond) (newest new.definitions new_kept.definitions at.0 kept.0 at.1) in
      (kept.0, ap (slice_get new.definitions.types) is ∙ at.1, kept.2)

  renamed-beyond : (place : ℕ) → slice_get old.definitions.types place ≡ None → renamed old new place ≡ place + length new.definitions.types
  renamed-beyond place none =
      let beyond = place + length new.definitions.types in
      ap (λ (o : Option SegmentType). option_map_or
      (λ one. option_map_or (λ found. found.0) (found_in one.name new.definitions.types) beyond) o beyond) none

  -- different types have different numbers
  pub renamed-apart : (a b : ℕ) → renamed old new a ≡ renamed old new b → a ≡ b
  renamed-apart a b same = of (none_or_some (slice_get old.definitions.types a)) (none_or_some (slice_get old.definitions.types b))
    where
      types : List SegmentType
      types = old.definitions.types

      mixed : (c d : ℕ) (type : SegmentType) → slice_get old.definitions.types c ≡ Some type → slice_get old.definitions.types d ≡ None
          → renamed old new c ≡ renamed old new d → ⊥
      mixed c d type here none alike =
          let at = renamed-at c type here in
          let less = slice_get_within new.definitions.types (renamed old new c) at.0 at.1 in
          let beyond = renamed-beyond d none in
          omega (arith, less, beyond, alike)

      of : (slice_get old.definitions.types a ≡ None) ⊎ ((type : SegmentType) × (slice_get old.definitions.types a ≡ Some type))
          → (slice_get old.definitions.types b ≡ None) ⊎ ((type : SegmentType) × (slice_get old.definitions.types b ≡ Some type)) → a ≡ b
      of (inl none) (inl also) =
          let one = renamed-beyond a none in
          let two = renamed-beyond b also in
          omega (arith, one, two, same)
      of (inl none) (inr some) = absurd (mixed b a some.0 some.1 none (sym same))
      of (inr some) (inl none) = absurd (mixed a b some.0 some.1 none same)
      of (inr one) (inr two) =
          let first = renamed-at a one.0 one.1 in
          let second = renamed-at b two.0 two.1 in
          let alike : first.0 ≡ second.0
          = same_Some first.0 second.0 (sym first.1 ∙ ap (slice_get new.definitions.types) same ∙ second.1) in
          types-apart old.definitions old_kept.definitions a b one.0 two.0 one.1 two.1
          (first.2.named ∙ ap (λ (type : SegmentType). type.name) alike ∙ sym second.2.named)

  -- a name of a segment type or a definition stands for the same type
  pub found-renamed : (name : List ℕ) (segment version : ℕ) → found_in name old.definitions.types ≡ Some (segment, version)
      → (other : ℕ) × (found_in name new.definitions.types ≡ Some (renamed old new segment, other))
  found-renamed name segment version found =
      let stands = StandsFor-found old.definitions name segment version old_kept.definitions found in
      by_name stands (renamed-at segment stands.type stands.type_at) stands.named
    where
      by_name : (stands : StandsFor old.definitions name segment version)
          → ((other : SegmentType) × (slice_get new.definitions.types (renamed old new segment) ≡ Some other) × TypeKept stands.type other)
          → (stands.definition.name ≡ name) ⊎ ((stands.type.name ≡ name) × (suc version ≡ length stands.type.versions))
          → (other : ℕ) × (found_in name new.definitions.types ≡ Some (renamed old new segment, other))
      by_name stands at (inl own) =
          let versions = stands.type.versions in
          let prefix = at.2.versions in
          let less = slice_get_within versions version stands.definition stands.definition_at in (
            version,
            found-StandsFor new.definitions name (renamed old new segment) version new_kept.definitions (record {
              type = at.0;
              type_at = at.1;
              definition = stands.definition;
              definition_at = ap (λ (vs : List Version). slice_get vs version) (sym prefix.1)
                  ∙ slice_get-front versions prefix.0 version less ∙ stands.definition_at;
              named = inl own;
            }),
          )
      by_name stands at (inr own) = (
        length at.0.versions - 1,
        ap (λ (n : List ℕ). found_in n new.definitions.types) (sym own.0 ∙ at.2.named)
            ∙ newest new.definitions new_kept.definitions (renamed old new segment) at.0 at.1,
      )

  -- entries of one name are one, but for the number of their type
  entry-renamed : (entry other : TypePlace) → entry.segment < length old.definitions.types → other.segment < length new.definitions.types
      → named_entry old entry ≡ named_entry new other → other ≡ record entry { segment = renamed old new entry.segment }
  entry-renamed entry other within less same =
      let own = slice_get-within old.definitions.types entry.segment within in
      let its = slice_get-within new.definitions.types other.segment less in
      let at = renamed-at entry.segment own.0 own.1 in
      let name : SegmentType → List ℕ = λ type. type.name in
      let named : own.0.name ≡ its.0.name
      = sym (ap (λ (o : Option SegmentType). option_map_or name o []) own.1) ∙ ap (λ t. t.0) same
      ∙ ap (λ (o : Option SegmentType). option_map_or name o []) its.1 in
      let place : renamed old new entry.segment ≡ other.segment
      = types-apart new.definitions new_kept.definitions (renamed old new entry.segment) other.segment at.0 its.0 at.1 its.1 (sym at.2.named ∙ named) in
      entry-is other (renamed old new entry.segment) entry.parent entry.mandatory entry.min entry.max (sym place) (sym (ap (λ t. t.1) same))
      (sym (ap (λ t. t.2) same)) (sym (ap (λ t. t.3) same)) (sym (ap (λ t. t.4) same))

  entries-renamed : (some others : List TypePlace) → AllByRecursion (IsEntry old.definitions) some → AllByRecursion (IsEntry new.definitions) others
      → map (named_entry old) some ≡ map (named_entry new) others
      → others ≡ map (λ (entry : TypePlace). record entry { segment = renamed old new entry.segment }) some
  entries-renamed [] [] are also same = refl
  entries-renamed [] (other ∷ others) are also same = absurd (cc)
  entries-renamed (entry ∷ some) [] are also same = absurd (cc)
  entries-renamed (entry ∷ some) (other ∷ others) are also same =
      let change : TypePlace → TypePlace = λ one. record one { segment = renamed old new one.segment } in
      let head : named_entry old entry ≡ named_entry new other = cc in
      let tail : map (named_entry old) some ≡ map (named_entry new) others = cc in
      ap (λ (e : TypePlace). e ∷ others) (entry-renamed entry other are.0.known also.0.known head)
      ∙ ap (λ (es : List TypePlace). change entry ∷ es) (entries-renamed some others are.1 also.1 tail)

  -- a message type is kept at a place of the new model, with the entries of its IDoc type
  message-kept : (message : ℕ) (one : Message) → slice_get old.messages message ≡ Some one
      → (place : ℕ) × (other : Message) × (slice_get new.messages place ≡ Some other) × MessageKept old new one other
  message-kept message one here =
      let kept = AllByRecursion-at (λ (m : Message). (other : Message) × Contains new.messages other × MessageKept old new m other) old.messages message one
      grown.messages here in
      let at = place_of new.messages kept.0 kept.1 in
      (at.0, kept.0, at.1, kept.2)

  entries-kept : (message place : ℕ) (one other : Message) → slice_get old.messages message ≡ Some one → slice_get new.messages place ≡ Some other
      → MessageKept old new one other
      → message_entries new.types new.messages place
      ≡ map (λ (entry : TypePlace). record entry { segment = renamed old new entry.segment }) (message_entries old.types old.messages message)
  entries-kept message place one other here there kept =
      let change : TypePlace → TypePlace = λ entry. record entry { segment = renamed old new entry.segment } in
      let is = AllByRecursion-at (IsMessage old.definitions old.types old.kinds) old.messages message one old_kept.messages.each here in
      let also = AllByRecursion-at (IsMessage new.definitions new.types new.kinds) new.messages place other new_kept.messages.each there in
      let name : IdocType → List ℕ = λ type. type.name in
      let stays = AllByRecursion-at (λ (t : IdocType). (u : IdocType) × Contains new.types u × IdocTypeKept old new t u) old.types one.idoctype is.type
      grown.idoc_types is.typed in
      let at = place_of new.types stays.0 stays.1 in
      let named : is.type.name ≡ also.type.name
      = sym (ap (λ (o : Option IdocType). option_map_or name o []) is.typed) ∙ kept.idoc_type
      ∙ ap (λ (o : Option IdocType). option_map_or name o []) also.typed in
      let same_place : at.0 ≡ other.idoctype
      = place-only (idoc_type_names new.types) new_kept.types.apart at.0 other.idoctype also.type.name
      (slice_get-map name new.types at.0 ∙ ap (option_map name) at.1 ∙ ap Some (sym stays.2.named ∙ named))
      (slice_get-map name new.types other.idoctype ∙ ap (option_map name) also.typed) in
      let same_type : stays.0 ≡ also.type = same_Some stays.0 also.type (sym at.1 ∙ ap (slice_get new.types) same_place ∙ also.typed) in
      let old_rules = AllByRecursion-at (IsIdocType old.definitions) old.types one.idoctype is.type old_kept.types.each is.typed in
      let new_rules = AllByRecursion-at (IsIdocType new.definitions) new.types other.idoctype also.type new_kept.types.each also.typed in
      let entries = entries-renamed is.type.segments also.type.segments old_rules.each new_rules.each
      (stays.2.entries ∙ ap (λ (t : IdocType). map (named_entry new) t.segments) same_type) in
      ap (λ (o : Option Message). option_map_or (λ m. entries_at new.types m.idoctype) o []) there
      ∙ ap (λ (o : Option IdocType). option_map_or (λ type. type.segments) o []) also.typed
      ∙ entries
      ∙ sym (ap (map change) (ap (λ (o : Option Message). option_map_or (λ m. entries_at old.types m.idoctype) o []) here
      ∙ ap (λ (o : Option IdocType). option_map_or (λ type. type.segments) o []) is.typed))

  -- a name stands for a message type of the new model whose IDoc type has the same entries
  pub message-renamed : (name : List ℕ) (message : ℕ) → message_named name old ≡ Some message
      → (place : ℕ) × (message_named name new ≡ Some place)
      × (message_entries new.types new.messages place
      ≡ map (λ (entry : TypePlace). record entry { segment = renamed old new entry.segment }) (message_entries old.types old.messages message))
  message-renamed name message found = by_name ((message-named old old_kept name (message_named name old) refl message).0 found)
    where
      name_of : Message → List ℕ
      name_of m = m.name

      kept_with : (one : Message) → slice_get old.messages message ≡ Some one
          → ((place : ℕ) (other : Message) → slice_get new.messages place ≡ Some other → MessageKept old new one other → StandsForMessage new name place)
          → (place : ℕ) × (message_named name new ≡ Some place)
          × (message_entries new.types new.messages place
          ≡ map (λ (entry : TypePlace). record entry { segment = renamed old new entry.segment }) (message_entries old.types old.messages message))
      kept_with one here stands =
          let kept = message-kept message one here in (
            kept.0,
            (message-named new new_kept name (message_named name new) refl kept.0).1 (stands kept.0 kept.1 kept.2 kept.3),
            entries-kept message kept.0 one kept.1 here kept.2 kept.3,
          )

      by_name : StandsForMessage old name message
          → (place : ℕ) × (message_named name new ≡ Some place)
          × (message_entries new.types new.messages place
          ≡ map (λ (entry : TypePlace). record entry { segment = renamed old new entry.segment }) (message_entries old.types old.messages message))
      by_name (inl own) =
          let less = slice_get_within (message_names old.messages) message name own in
          let many = length-map old.messages name_of in
          let got = slice_get-within old.messages message (omega (arith, less, many)) in
          let called : got.0.name ≡ name
          = same_Some got.0.name name (sym (slice_get-map name_of old.messages message ∙ ap (option_map name_of) got.1) ∙ own) in
          kept_with got.0 got.1
          (λ place other there kept. inl (slice_get-map name_of new.messages place ∙ ap (option_map name_of) there ∙ ap Some (sym kept.named ∙ called)))
      by_name (inr reduced) =
          let at_old = place_of old.reduced reduced.one reduced.among in
          let keeps = AllByRecursion-at (IsReduced old.definitions old.types old.messages) old.reduced at_old.0 reduced.one old_kept.reduced.each at_old.1 in
          let basic = reduced.basic in
          let less = keeps.basic in
          let got = slice_get-within old.messages message (omega (arith, less, basic)) in
          let stays = AllByRecursion-at (λ (r : Reduced). (other : Reduced) × Contains new.reduced other × ReducedKept old new r other) old.reduced at_old.0
          reduced.one grown.reduced at_old.1 in
          let at_new = place_of new.reduced stays.0 stays.1 in
          let also = AllByRecursion-at (IsReduced new.definitions new.types new.messages) new.reduced at_new.0 stays.0 new_kept.reduced.each at_new.1 in
          let base = slice_get-within new.messages stays.0.message also.basic in
          let called : got.0.name ≡ base.0.name
          = sym (ap (λ (k : ℕ). option_map_or name_of (slice_get old.messages k) []) basic ∙ ap (λ (o : Option Message). option_map_or name_of o []) got.1)
          ∙ stays.2.message ∙ ap (λ (o : Option Message). option_map_or name_of o []) base.1 in
          kept_with got.0 got.1
          (λ place other there kept. inr (record {
            one = stays.0;
            among = stays.1;
            named = sym stays.2.named ∙ reduced.named;
            basic = place-only (message_names new.messages) new_kept.messages.apart stays.0.message place base.0.name
                (slice_get-map name_of new.messages stays.0.message ∙ ap (option_map name_of) base.1)
                (slice_get-map name_of new.messages place ∙ ap (option_map name_of) there ∙ ap Some (sym kept.named ∙ called));
          }))
