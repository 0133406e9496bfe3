-- What is made of lines: soundness of each step, and that there is one answer.
use Rattle.std.proofs.lemmas.Bool.{le-leb, leb-true}
use Rattle.std.specs.Prelude.{nat_le, nat_eq, slice_get}
use Rattle.std.specs.Option.{option_map}
use Rattle.std.specs.List.{AllByRecursion, IsDistinct}
use Rattle.std.proofs.Common.{◌≡◌, ℕ, zero, suc, ◌+◌, ◌≤◌, ◌<◌, cond, Option, Some, None, Result, Ok, Err, List, [], ◌∷◌, ◌++◌, map, length, refl, ap, sym}
use Rattle.std.proofs.Common.{subst, inl, inr, ◌∙◌, arith, get_or, take, drop, drop-cons, take-append-drop, length-append, append_assoc, append-nil}
use Rattle.std.proofs.lemmas.Option.{same_Some}
use Rattle.std.proofs.lemmas.List.{take_more, take_all, length-take-le}
use Rattle.ale_base.proofs.SnocLemmas.{Snoc, none, some, snoc}
use Rattle.idoc_record.specs.Data.{DataRecord}
use Rattle.ale_base.specs.Text.{told_length}
use Rattle.segment_defs.specs.declared.segment_type.SegmentType.{SegmentType}
use Rattle.segment_defs.specs.declared.definitions.Definitions.{Definitions}
use Rattle.segment_defs.specs.declared.idoc_type.TypePlace.{TypePlace}
use Rattle.segment_defs.specs.IdocType.{place_in, entry_of, type_above, parent_of, IsPreorder}
use Rattle.ale_base.proofs.OptionLemmas.{option_map-Some}
use Rattle.idoc_tree.specs.declared.fault.SyntaxFault.{SyntaxFault}
use Rattle.idoc_tree.specs.declared.fault.SyntaxFault.TheVariants.{UnknownSegment, Misplaced, TooMany, Missing, OutOfMemory}
use Rattle.idoc_tree.specs.Forest.{Segment, Forest, no_trees, count_of}
use Rattle.idoc_tree.specs.Spells.{segment_of}
use Rattle.idoc_tree.specs.Valid.{families}
use Rattle.idoc_tree.specs.steps.Lacking.{first_lack}
use Rattle.idoc_tree.specs.Siblings.{siblings, has_later}
use Rattle.idoc_tree.specs.steps.Growing.{hung, grown_among, grown_at, grown_by, grown}
use Rattle.idoc_tree.specs.Builds.{SpellsInOrder, IsMisplaced, foreign, closed, late, IsTooMany, IsUnknown, Faulty, IsRefusedAt, IsMissing, IsFirstFault}
use Rattle.idoc_tree.specs.Builds.{Builds}
use Rattle.idoc_tree.specs.FromRecords.{go_on, name_in, grown_all, missing_of, built}
use Rattle.idoc_tree.proofs.MayHangLemmas.{chosen, grown-Ok, grown-Grows}
use Rattle.idoc_tree.proofs.LackLemmas.{no_lack-enough, enough-no_lack, lack_among-first, lack_among-at, first_lack-first, first_lack-at, first_lack-known}
use Rattle.ale_base.proofs.ListLemmas.{slice_get-within}
use Rattle.idoc_tree.proofs.SpellsLemmas.{Grows-stands, SpellsInOrder-last, Spells-none, none-stands}

-- what a step may be wrong with, by the fault that it answers
abbrev pub IsWrong : Definitions → List TypePlace → ℕ → Forest → DataRecord → SyntaxFault → Type 0
IsWrong definitions entries number forest line (UnknownSegment told) = (told ≡ told_length number) × IsUnknown definitions forest line
IsWrong definitions entries number forest line (Misplaced told) = (told ≡ told_length number) × Faulty definitions (IsMisplaced entries) forest line
IsWrong definitions entries number forest line (TooMany told) = (told ≡ told_length number) × Faulty definitions (IsTooMany entries) forest line
IsWrong definitions entries number forest line (Missing name told) = ⊥
IsWrong definitions entries number forest line OutOfMemory = ⊥

module _ (definitions : Definitions) (entries : List TypePlace) (number : ℕ) (line : DataRecord) (forest : Forest) where
  abbrev Wrong : SyntaxFault → Type 0
  Wrong fault = IsWrong definitions entries number forest line fault

  same_fault : (fault other : SyntaxFault) → ◌≡◌ {A = Result Forest SyntaxFault} (Err fault) (Err other) → Wrong fault → Wrong other
  same_fault fault other same wrong = let is : fault ≡ other = cc in subst Wrong is wrong

  above_known : (type : ℕ) (entry : TypePlace) → entry_of entries type ≡ Some entry → parent_of entries type ≡ Some (type_above entries entry)
  above_known type entry entry_at = ap (option_map (type_above entries)) entry_at

  wrong_among : (fault : SyntaxFault) (segment : Segment) (entry : TypePlace) (among : Option (List Segment)) → segment_of definitions line ≡ Some segment →
      entry_of entries segment.type ≡ Some entry → siblings (type_above entries entry) forest ≡ among → grown_among entries number segment entry forest among
      ≡ Err fault → Wrong fault
  wrong_among fault segment entry None known entry_at siblings_are wrong =
      same_fault (Misplaced (told_length number)) fault wrong
      (refl, record { segment = segment; known = known; wrong = closed (type_above entries entry) (above_known segment.type entry entry_at) siblings_are })
  wrong_among fault segment entry (Some among) known entry_at siblings_are wrong =
      elim (chosen (has_later entries (place_in entries segment.type) among) _ _ _ wrong) [
        | inl too_late ↦ same_fault (Misplaced (told_length number)) fault too_late.1 (
          refl,
          record {
            segment = segment;
            known = known;
            wrong = late (type_above entries entry) among
                (above_known segment.type entry entry_at) siblings_are too_late.0;
          },
        )
        | inr early ↦
            elim (chosen (nat_le entry.max (count_of segment.type among)) _ _ _ early.1) [
              | inl full ↦ same_fault (TooMany (told_length number)) fault full.1 (
                refl,
                record {
                  segment = segment;
                  known = known;
                  wrong = record {
                    entry = entry;
                    entry_at = entry_at;
                    above = type_above entries entry;
                    parent = above_known segment.type entry entry_at;
                    among = among;
                    siblings_are = siblings_are;
                    in_time = early.0;
                    full = leb-true entry.max (count_of segment.type among) full.0;
                  };
                },
              )
              | inr room ↦ cc
            ]
      ]

  no_parent : (type : ℕ) → entry_of entries type ≡ None → parent_of entries type ≡ None
  no_parent type absent = ap (option_map (type_above entries)) absent

  wrong_at : (fault : SyntaxFault) (segment : Segment) (entry : Option TypePlace) → segment_of definitions line ≡ Some segment →
      entry_of entries segment.type ≡ entry → grown_at entries number segment forest entry ≡ Err fault → Wrong fault
  wrong_at fault segment None known entry_at wrong =
      same_fault (Misplaced (told_length number)) fault wrong
      (refl, record { segment = segment; known = known; wrong = foreign (no_parent segment.type entry_at) })
  wrong_at fault segment (Some entry) known entry_at wrong =
      wrong_among fault segment entry (siblings (type_above entries entry) forest) known entry_at refl wrong

  wrong_by : (fault : SyntaxFault) (segment : Option Segment) → segment_of definitions line ≡ segment → grown_by entries number forest segment ≡ Err fault →
      Wrong fault
  wrong_by fault None known wrong = same_fault (UnknownSegment (told_length number)) fault wrong (refl, known)
  wrong_by fault (Some segment) known wrong = wrong_at fault segment (entry_of entries segment.type) known refl wrong

  -- a fault that a step answers is there
  pub grown-Err : (fault : SyntaxFault) → grown definitions entries number line forest ≡ Err fault → Wrong fault
  grown-Err fault wrong = wrong_by fault (segment_of definitions line) refl wrong

  absent_entry : (type : ℕ) (entry : Option TypePlace) → entry_of entries type ≡ entry → parent_of entries type ≡ None → entry_of entries type ≡ None
  absent_entry type None is none_above = is
  absent_entry type (Some entry) is none_above = let there = above_known type entry is in cc

  by_entry : (segment : Segment) (entry : TypePlace) → segment_of definitions line ≡ Some segment → entry_of entries segment.type ≡ Some entry →
      grown definitions entries number line forest ≡ grown_among entries number segment entry forest (siblings (type_above entries entry) forest)
  by_entry segment entry known entry_at = ap (grown_by entries number forest) known ∙ ap (grown_at entries number segment forest) entry_at

  grown-misplaced : (segment : Segment) → segment_of definitions line ≡ Some segment → IsMisplaced entries forest segment.type →
      grown definitions entries number line forest ≡ Err (Misplaced (told_length number))
  grown-misplaced segment known (foreign none_above) =
      ap (grown_by entries number forest) known
      ∙ ap (grown_at entries number segment forest) (absent_entry segment.type (entry_of entries segment.type) refl none_above)
  grown-misplaced segment known (closed above parent siblings_are) =
      let entry = option_map-Some (type_above entries) (entry_of entries segment.type) above parent in
      by_entry segment entry.0 known entry.1 ∙ ap (λ a. grown_among entries number segment entry.0 forest (siblings a forest)) entry.2
      ∙ ap (grown_among entries number segment entry.0 forest) siblings_are
  grown-misplaced segment known (late above among parent siblings_are is_late) =
      let entry = option_map-Some (type_above entries) (entry_of entries segment.type) above parent in
      let too_late : Result Forest SyntaxFault = Err (Misplaced (told_length number)) in
      let full : Result Forest SyntaxFault = Err (TooMany (told_length number)) in
      let more : Result Forest SyntaxFault = Ok (hung (type_above entries entry.0) segment forest) in
      by_entry segment entry.0 known entry.1 ∙ ap (λ a. grown_among entries number segment entry.0 forest (siblings a forest)) entry.2
      ∙ ap (grown_among entries number segment entry.0 forest) siblings_are
      ∙ ap (λ b. cond b too_late (cond (nat_le (entry.0).max (count_of segment.type among)) full more)) is_late

  grown-too_many : (segment : Segment) → segment_of definitions line ≡ Some segment → IsTooMany entries forest segment.type →
      grown definitions entries number line forest ≡ Err (TooMany (told_length number))
  grown-too_many segment known many =
      let entry = many.entry in
      let same : type_above entries entry ≡ many.above = same_Some (type_above entries entry) many.above (sym (above_known segment.type entry many.entry_at)
      ∙ many.parent) in
      let too_late : Result Forest SyntaxFault = Err (Misplaced (told_length number)) in
      let full : Result Forest SyntaxFault = Err (TooMany (told_length number)) in
      let more : Result Forest SyntaxFault = Ok (hung (type_above entries entry) segment forest) in
      by_entry segment entry known many.entry_at ∙ ap (λ a. grown_among entries number segment entry forest (siblings a forest)) same
      ∙ ap (grown_among entries number segment entry forest) many.siblings_are
      ∙ ap (λ b. cond b too_late (cond (nat_le entry.max (count_of segment.type many.among)) full more)) many.in_time
      ∙ ap (λ b. cond b full more) (le-leb entry.max (count_of segment.type many.among) many.full)

  -- and a step answers the fault that is there
  pub grown-wrong : (fault : SyntaxFault) → Wrong fault → grown definitions entries number line forest ≡ Err fault
  grown-wrong (UnknownSegment told) wrong = ap (grown_by entries number forest) wrong.1 ∙ ap (λ n. Err (UnknownSegment n)) (sym wrong.0)
  grown-wrong (Misplaced told) wrong = grown-misplaced (wrong.1).segment (wrong.1).known (wrong.1).wrong ∙ ap (λ n. Err (Misplaced n)) (sym wrong.0)
  grown-wrong (TooMany told) wrong = grown-too_many (wrong.1).segment (wrong.1).known (wrong.1).wrong ∙ ap (λ n. Err (TooMany n)) (sym wrong.0)
  grown-wrong (Missing name told) wrong = absurd wrong
  grown-wrong OutOfMemory wrong = absurd wrong

module _ (definitions : Definitions) (entries : List TypePlace) where
  after_some : (number : ℕ) (first : Result Forest SyntaxFault) (lines more : List DataRecord) (forest : Forest) →
      ((next : Forest) → grown_all definitions entries (suc number) next lines ≡ Ok forest → grown_all definitions entries (suc number) next (lines ++ more)
      ≡ grown_all definitions entries (suc number + length lines) forest more) → go_on first (λ next. grown_all definitions entries (suc number) next lines)
      ≡ Ok forest → go_on first (λ next. grown_all definitions entries (suc number) next (lines ++ more))
      ≡ grown_all definitions entries (number + suc (length lines)) forest more
  after_some number (Ok next) lines more forest rest grew =
      let sum : suc number + length lines ≡ number + suc (length lines) = omega arith in
      rest next grew ∙ ap (λ n. grown_all definitions entries n forest more) sum
  after_some number (Err fault) lines more forest rest grew = cc

  -- lines behind those that gave a forest
  grown_all-append : (number : ℕ) (start : Forest) (lines more : List DataRecord) (forest : Forest) → grown_all definitions entries number start lines
      ≡ Ok forest → grown_all definitions entries number start (lines ++ more) ≡ grown_all definitions entries (number + length lines) forest more
  grown_all-append number start [] more forest grew =
      let none_more : number ≡ number + 0 = omega arith in
      let is : start ≡ forest = cc in
      ap (λ f. grown_all definitions entries number f more) is ∙ ap (λ n. grown_all definitions entries n forest more) none_more
  grown_all-append number start (line ∷ lines) more forest grew =
      after_some number (grown definitions entries number line start) lines more forest (λ next. grown_all-append (suc number) next lines more forest) grew

  -- lines that stand give their forest
  stands_grown : IsPreorder 0 [] entries → (count : ℕ) (lines : List DataRecord) (forest : Forest) → length lines ≡ count → Snoc lines →
      SpellsInOrder definitions entries lines forest → grown_all definitions entries 1 no_trees lines ≡ Ok forest
  stands_grown kept count _ forest long none stands = ap Ok (sym (Spells-none definitions entries forest stands.spells))
  stands_grown kept zero _ forest long (some front line) stands = absurd (omega (arith, length-append front (line ∷ [])))
  stands_grown kept (suc count) _ forest long (some front line) stands =
      let stood = SpellsInOrder-last definitions entries kept front line forest stands in
      let shorter : length front ≡ count = omega (arith, length-append front (line ∷ [])) in
      grown_all-append 1 no_trees front (line ∷ []) stood.front (stands_grown kept count front stood.front shorter (snoc front) stood.stands)
      ∙ ap (λ first. go_on first (λ next. grown_all definitions entries (suc (1 + length front)) next []))
      (grown-Grows definitions entries (1 + length front) line stood.front forest stood.grows)

  -- the records and one more spell a forest in order where the forest grows by it
  pub SpellsInOrder-grown : IsPreorder 0 [] entries → (lines : List DataRecord) (forest : Forest) → SpellsInOrder definitions entries lines forest →
      grown_all definitions entries 1 no_trees lines ≡ Ok forest
  SpellsInOrder-grown kept lines forest = stands_grown kept (length lines) lines forest refl (snoc lines)

  refused_grown : IsPreorder 0 [] entries → (fault : SyntaxFault) (before after : List DataRecord) (line : DataRecord) (forest : Forest) →
      SpellsInOrder definitions entries before forest → IsWrong definitions entries (suc (length before)) forest line fault →
      grown_all definitions entries 1 no_trees (before ++ line ∷ after) ≡ Err fault
  refused_grown kept fault before after line forest stands wrong =
      let count : 1 + length before ≡ suc (length before) = omega arith in
      grown_all-append 1 no_trees before (line ∷ after) forest (SpellsInOrder-grown kept before forest stands)
      ∙ ap (λ n. grown_all definitions entries n forest (line ∷ after)) count
      ∙ ap (λ first. go_on first (λ next. grown_all definitions entries (suc (suc (length before))) next after))
      (grown-wrong definitions entries (suc (length before)) line forest fault wrong)

  answered : (lines : List DataRecord) (made : Result Forest SyntaxFault) → grown_all definitions entries 1 no_trees lines ≡ made →
      built definitions entries lines ≡ go_on made (λ forest. missing_of definitions (first_lack entries (families None forest)) forest)
  answered lines made is = ap (λ made. go_on made (λ forest. missing_of definitions (first_lack entries (families None forest)) forest)) is

  refused_answer : IsPreorder 0 [] entries → (fault : SyntaxFault) (lines : List DataRecord) (told : ℕ) (Wrong : Forest → DataRecord → Type 0) →
      ((number : ℕ) (forest : Forest) (line : DataRecord) → told ≡ told_length number → Wrong forest line →
      IsWrong definitions entries number forest line fault) → IsRefusedAt definitions entries lines told Wrong → built definitions entries lines ≡ Err fault
  refused_answer kept fault lines told Wrong is_wrong refused =
      answered lines (Err fault) (ap (grown_all definitions entries 1 no_trees) refused.split
      ∙ refused_grown kept fault refused.before refused.after refused.line refused.forest refused.stands
      (is_wrong (suc (length refused.before)) refused.forest refused.line refused.told refused.wrong))

  -- what is made of lines is the answer
  pub Builds-built : IsPreorder 0 [] entries → (lines : List DataRecord) (made : Result Forest SyntaxFault) → Builds definitions entries lines made →
      built definitions entries lines ≡ made
  Builds-built kept lines (Ok forest) builds =
      answered lines (Ok forest) (SpellsInOrder-grown kept lines forest (record { spells = builds.0; fits = (builds.1).fits }))
      ∙ ap (λ lack. missing_of definitions lack forest) (enough-no_lack entries (families None forest) (builds.1).enough)
  Builds-built kept lines (Err (UnknownSegment told)) builds =
      refused_answer kept (UnknownSegment told) lines told (IsUnknown definitions) (λ number forest line is wrong. (is, wrong)) builds
  Builds-built kept lines (Err (Misplaced told)) builds =
      refused_answer kept (Misplaced told) lines told (Faulty definitions (IsMisplaced entries)) (λ number forest line is wrong. (is, wrong)) builds
  Builds-built kept lines (Err (TooMany told)) builds =
      refused_answer kept (TooMany told) lines told (Faulty definitions (IsTooMany entries)) (λ number forest line is wrong. (is, wrong)) builds
  Builds-built kept lines (Err (Missing name told)) builds =
      answered lines (Ok builds.forest) (SpellsInOrder-grown kept lines builds.forest builds.stands)
      ∙ ap (λ lack. missing_of definitions lack builds.forest)
      (first_lack-at entries (families None builds.forest) builds.place builds.family (builds.entry).segment builds.family_at builds.families_before
      (lack_among-at entries builds.family entries builds.at builds.entry builds.entry_at builds.lacks builds.entries_before))
      ∙ ap (λ type. Err (Missing (name_in type) (told_length builds.place))) builds.type_at
      ∙ ap (λ n. Err (Missing n (told_length builds.place))) (sym builds.named)
      ∙ ap (λ n. Err (Missing name n)) (sym builds.told)
  Builds-built kept lines (Err OutOfMemory) builds = absurd builds

  -- of lines one thing is made at most
  pub one_answer_of : IsPreorder 0 [] entries → (lines : List DataRecord) (first second : Result Forest SyntaxFault) → Builds definitions entries lines first →
      Builds definitions entries lines second → first ≡ second
  one_answer_of kept lines first second one other = sym (Builds-built kept lines first one) ∙ Builds-built kept lines second other

  -- a fault that a step answers is the first of all lines
  pub refused_at : (fault : SyntaxFault) (lines before after : List DataRecord) (line : DataRecord) (forest : Forest) → lines ≡ before ++ line ∷ after →
      SpellsInOrder definitions entries before forest → grown definitions entries (suc (length before)) line forest ≡ Err fault →
      IsFirstFault definitions entries lines fault
  refused_at fault lines before after line forest split stands wrong =
      told_by fault (grown-Err definitions entries (suc (length before)) line forest fault wrong)
    where
      told_by : (fault : SyntaxFault) → IsWrong definitions entries (suc (length before)) forest line fault → IsFirstFault definitions entries lines fault
      told_by (UnknownSegment told) is = record
          { before = before; line = line; after = after; split = split; told = is.0; forest = forest; stands = stands; wrong = is.1 }
      told_by (Misplaced told) is = record {
        before = before;
        line = line;
        after = after;
        split = split;
        told = is.0;
        forest = forest;
        stands = stands;
        wrong = is.1;
      }
      told_by (TooMany told) is = record {
        before = before;
        line = line;
        after = after;
        split = split;
        told = is.0;
        forest = forest;
        stands = stands;
        wrong = is.1;
      }
      told_by (Missing name told) is = absurd is
      told_by OutOfMemory is = absurd is

  -- lines that stand with nothing missing are a valid forest
  pub complete : (lines : List DataRecord) (forest : Forest) → SpellsInOrder definitions entries lines forest →
      first_lack entries (families None forest) ≡ None → Builds definitions entries lines (Ok forest)
  complete lines forest stands lacks =
      (stands.spells, record { fits = stands.fits; enough = no_lack-enough entries (families None forest) lacks })

  -- a step goes on with lines that stand
  pub grown_stands : IsDistinct nat_eq (map (λ entry. entry.segment) entries) →
      (lines : List DataRecord) (line : DataRecord) (forest after : Forest) (number : ℕ) → grown definitions entries number line forest ≡ Ok after →
      SpellsInOrder definitions entries lines forest → SpellsInOrder definitions entries (lines ++ line ∷ []) after
  grown_stands apart lines line forest after number grew stands =
      Grows-stands definitions entries lines line forest after apart (grown-Ok definitions entries number line forest after grew) stands

module _ (definitions : Definitions) (entries : List TypePlace) (lines : List DataRecord) (at : ℕ) (line : DataRecord) (forest : Forest)
    (within : at < length lines) (here : line ≡ get_or lines at line) (stands : SpellsInOrder definitions entries (take at lines) forest) where
  before_count : length (take at lines) ≡ at
  before_count = omega (arith, length-take-le at lines)

  at_line : lines ≡ take at lines ++ line ∷ drop (suc at) lines
  at_line = sym (take-append-drop at lines) ∙ ap (λ rest. take at lines ++ rest) (drop-cons lines at line within ∙ ap (λ l. l ∷ drop (suc at) lines) (sym here))

  -- one turn over lines that are told by their numbers from 1
  pub refused_turn : (fault : SyntaxFault) → grown definitions entries (at + 1) line forest ≡ Err fault → IsFirstFault definitions entries lines fault
  refused_turn fault wrong =
      let number : at + 1 ≡ suc (length (take at lines)) = omega (arith, before_count) in
      refused_at definitions entries fault lines (take at lines) (drop (suc at) lines) line forest at_line stands
      (sym (ap (λ n. grown definitions entries n line forest) number) ∙ wrong)

  -- where the next record makes the forest grow, the records up to it spell a forest in order
  pub grown_turn : IsDistinct nat_eq (map (λ entry. entry.segment) entries) → (after : Forest) → grown definitions entries (at + 1) line forest ≡ Ok after →
      SpellsInOrder definitions entries (take (at + 1) lines) after
  grown_turn apart after grew =
      subst (λ some. SpellsInOrder definitions entries some after) (sym (take_more lines at line within ∙ ap (λ l. take at lines ++ l ∷ []) (sym here)))
      (grown_stands definitions entries apart (take at lines) line forest after (at + 1) grew stands)

-- lines that spell a forest in order, of which a family lacks a type
pub missing_of_all : (definitions : Definitions) (entries : List TypePlace) (lines : List DataRecord) (forest : Forest) (type place : ℕ)
    (segment_type : SegmentType) (name : List ℕ) (told : ℕ) → SpellsInOrder definitions entries lines forest →
    first_lack entries (families None forest) ≡ Some (type, place) → slice_get definitions.types type ≡ Some segment_type → name ≡ segment_type.name →
    told ≡ told_length place → IsMissing definitions entries lines name told
missing_of_all definitions entries lines forest type place segment_type name told stands lacks type_at named is =
    let family = first_lack-first entries (families None forest) type place lacks in
    let first = lack_among-first entries family.family entries type family.lack in
    record {
      forest = forest;
      stands = stands;
      place = place;
      family = family.family;
      family_at = family.family_at;
      families_before = family.before;
      at = first.at;
      entry = first.entry;
      entry_at = first.entry_at;
      lacks = first.lacks;
      entries_before = first.before;
      type = segment_type;
      type_at = ap (slice_get definitions.types) first.is ∙ type_at;
      named = named;
      told = is;
    }

-- when all lines are gone through, all of them spell the forest
pub all_stand : (definitions : Definitions) (entries : List TypePlace) (lines : List DataRecord) (at : ℕ) (forest : Forest) → length lines ≤ at →
    SpellsInOrder definitions entries (take at lines) forest → SpellsInOrder definitions entries lines forest
all_stand definitions entries lines at forest past stands = subst (λ some. SpellsInOrder definitions entries some forest) (take_all at lines past) stands

module _ (definitions : Definitions) (entries : List TypePlace) (apart : IsDistinct nat_eq (map (λ entry. entry.segment) entries)) where
  -- what is to be shown of lines that are gone through up to a point
  abbrev Rest : List DataRecord → Result Forest SyntaxFault → Type 0
  Rest lines (Ok forest) = SpellsInOrder definitions entries lines forest
  Rest lines (Err fault) = IsFirstFault definitions entries lines fault

  gone_on : (before : List DataRecord) (line : DataRecord) (lines : List DataRecord) (start : Forest) (next : Result Forest SyntaxFault) →
      SpellsInOrder definitions entries before start → grown definitions entries (suc (length before)) line start ≡ next →
      ((forest : Forest) → SpellsInOrder definitions entries (before ++ line ∷ []) forest →
      Rest ((before ++ line ∷ []) ++ lines) (grown_all definitions entries (suc (length (before ++ line ∷ []))) forest lines)) →
      Rest (before ++ line ∷ lines) (go_on next (λ forest. grown_all definitions entries (suc (suc (length before))) forest lines))
  gone_on before line lines start (Err fault) stands grew rest = refused_at definitions entries fault (before ++ line ∷ lines) before lines line start refl
      stands grew
  gone_on before line lines start (Ok forest) stands grew rest =
      let count : suc (length (before ++ line ∷ [])) ≡ suc (suc (length before)) = omega (arith, length-append before (line ∷ [])) in
      subst (λ n. Rest (before ++ line ∷ lines) (grown_all definitions entries n forest lines)) count
      (subst (λ all. Rest all (grown_all definitions entries (suc (length (before ++ line ∷ []))) forest lines)) (append_assoc before (line ∷ []) lines)
      (rest forest (grown_stands definitions entries apart before line start forest (suc (length before)) grew stands)))

  grown_rest : (lines before : List DataRecord) (start : Forest) → SpellsInOrder definitions entries before start →
      Rest (before ++ lines) (grown_all definitions entries (suc (length before)) start lines)
  grown_rest [] before start stands = subst (λ all. SpellsInOrder definitions entries all start) (sym (append-nil before)) stands
  grown_rest (line ∷ lines) before start stands =
      gone_on before line lines start (grown definitions entries (suc (length before)) line start) stands refl
      (λ forest more. grown_rest lines (before ++ line ∷ []) forest more)

  answered_rest : (known : AllByRecursion (λ entry. entry.segment < length definitions.types) entries) (lines : List DataRecord)
      (made : Result Forest SyntaxFault) → Rest lines made →
      Builds definitions entries lines (go_on made (λ forest. missing_of definitions (first_lack entries (families None forest)) forest))
  answered_rest known lines (Err fault) rest = rest
  answered_rest known lines (Ok forest) rest = judged (first_lack entries (families None forest)) refl
    where
      judged : (lack : Option (ℕ × ℕ)) → first_lack entries (families None forest) ≡ lack →
          Builds definitions entries lines (missing_of definitions lack forest)
      judged None lacks = complete definitions entries lines forest rest lacks
      judged (Some lack) lacks =
          let there = slice_get-within definitions.types lack.0
          (first_lack-known (λ type. type < length definitions.types) entries (families None forest) lack.0 lack.1 known lacks) in
          missing_of_all definitions entries lines forest lack.0 lack.1 there.0 (name_in (slice_get definitions.types lack.0))
          (told_length lack.1) rest lacks there.1 (ap name_in there.1) refl

  -- the answer is what is made of lines, so something is
  pub built-Builds : AllByRecursion (λ entry. entry.segment < length definitions.types) entries → (lines : List DataRecord) →
      Builds definitions entries lines (built definitions entries lines)
  built-Builds known lines = answered_rest known lines (grown_all definitions entries 1 no_trees lines)
      (grown_rest lines [] no_trees (none-stands definitions entries))
