-- Data records of segments, and the segments that they stand for again.
use Rattle.std.specs.Prelude.{not, IsTrue}
use Rattle.std.specs.Option.{option_map}
use Rattle.std.specs.List.{AllByRecursion}
use Rattle.std.proofs.Common.{◌≡◌, ℕ, ◌≤◌, Some, None, List, [], ◌∷◌, map, length, take, refl, ap, sym, subst, ◌∙◌, arith}
use Rattle.std.proofs.lemmas.List.{length-take}
use Rattle.ale_base.specs.Blanks.{trimmed}
use Rattle.ale_base.specs.TrimmedLemmas.{trimmed-trimmed, length-trimmed}
use Rattle.idoc_record.specs.Data.{DataRecord, IsDataRecord, is_no_segment}
use Rattle.segment_defs.specs.declared.version.Version.{Version}
use Rattle.segment_defs.specs.declared.definitions.Definitions.{Definitions}
use Rattle.segment_defs.specs.declared.idoc_type.TypePlace.{TypePlace}
use Rattle.segment_defs.specs.Name.{IsSegmentName}
use Rattle.segment_defs.proofs.NameLemmas.{name-trimmed}
use Rattle.segment_defs.specs.Version.{width_of, fitted}
use Rattle.segment_defs.specs.Definitions.{AreDefinitions, found_in, version_of}
use Rattle.segment_defs.proofs.DefinitionsLemmas.{found-exists, found-definition, version-IsVersion, fitted-fitted}
use Rattle.ale_base.proofs.OptionLemmas.{option_map-Some}
use Rattle.idoc_tree.specs.Forest.{Segment, Forest, no_trees, tree, preorder, AllNodes}
use Rattle.idoc_tree.specs.Spells.{fitted_by, segment_found, segment_of, Hangs, Spells}
use Rattle.idoc_tree.specs.Lines.{IsNode, IsFitted, name_of, line_of, lines_of}
use Rattle.ale_base.proofs.ListLemmas.{AllByRecursion-append, AllByRecursion-parts}
use Rattle.idoc_tree.proofs.ForestLemmas.{AllNodes-weaker}

-- of each segment, and of each in the list of all
pub AllNodes-preorder : (P : Segment → Type 0) (forest : Forest) → AllNodes P forest → AllByRecursion P (preorder forest)
AllNodes-preorder P no_trees all = tt
AllNodes-preorder P (tree root below after) all =
    (all.0, AllByRecursion-append P (preorder below) (preorder after) (AllNodes-preorder P below all.1) (AllNodes-preorder P after all.2))

-- what holds of each segment in preorder holds of each segment of the forest
pub preorder-AllNodes : (P : Segment → Type 0) (forest : Forest) → AllByRecursion P (preorder forest) → AllNodes P forest
preorder-AllNodes P no_trees all = tt
preorder-AllNodes P (tree root below after) all =
    let parts = AllByRecursion-parts P (preorder below) (preorder after) all.1 in
    (all.0, preorder-AllNodes P below parts.0, preorder-AllNodes P after parts.1)

names_segment : (name : List ℕ) → IsSegmentName name → IsTrue (not (is_no_segment name))
names_segment [] named = absurd (nothing_short named.named.least)
  where
    nothing_short : 1 ≤ length {A = ℕ} [] → ⊥
    nothing_short least = omega arith
names_segment (byte ∷ name) named = named.own

fitted-short : (definition : Version) (sdata : List ℕ) → length (fitted definition sdata) ≤ width_of definition.fields
fitted-short definition sdata =
    omega (arith, length-trimmed (take (width_of definition.fields) sdata), length-take (width_of definition.fields) sdata)

-- the data record of a segment is one
pub line-IsDataRecord : (definitions : Definitions) (segment : Segment) (segnam sdata : List ℕ) → AreDefinitions definitions → IsNode definitions segment →
    segnam ≡ trimmed (name_of (version_of definitions segment.type segment.version)) → sdata ≡ segment.sdata →
    IsDataRecord (record { segnam = segnam; sdata = sdata })
line-IsDataRecord definitions segment segnam sdata kept node is same =
    let version = version-IsVersion definitions segment.type segment.version node.definition kept node.here in
    let name = node.definition.name in
    let own : segnam ≡ name = is ∙ ap (λ v. trimmed (name_of v)) node.here ∙ name-trimmed name (version.named.named.bytes) in
    record {
      named = subst (λ n. length n ≤ 30) (sym own) version.named.named.most;
      segnam = subst (λ n. IsTrue (not (is_no_segment n))) (sym own) (names_segment name version.named);
      ends = ap trimmed own ∙ name-trimmed name version.named.named.bytes ∙ sym own;
      fits = subst (λ d. length d ≤ 1000) (sym same) node.short;
      sdata = subst (λ d. trimmed d ≡ d) (sym same) node.ends;
    }

-- the name and the data of a node are the data record of its segment
pub line-is : (definitions : Definitions) (segment : Segment) (segnam sdata : List ℕ) → AreDefinitions definitions → IsNode definitions segment →
    segnam ≡ trimmed (name_of (version_of definitions segment.type segment.version)) → sdata ≡ segment.sdata →
    ◌≡◌ {A = DataRecord} (record { segnam = segnam; sdata = sdata }) (line_of definitions segment)
line-is definitions segment segnam sdata kept node is same =
    let version = version-IsVersion definitions segment.type segment.version node.definition kept node.here in
    let own : segnam ≡ name_of (version_of definitions segment.type segment.version) = is ∙ ap (λ v. trimmed (name_of v)) node.here
    ∙ name-trimmed node.definition.name (version.named.named.bytes) ∙ ap name_of (sym node.here) in
    ap (λ (n : List ℕ). record { segnam = n; sdata = sdata }) own
    ∙ ap (λ (d : List ℕ). record { segnam = name_of (version_of definitions segment.type segment.version); sdata = d }) same

-- a segment's record stands for the segment
pub segment_of-line_of : (definitions : Definitions) (segment : Segment) → AreDefinitions definitions → IsNode definitions segment →
    IsFitted definitions segment → segment_of definitions (line_of definitions segment) ≡ Some segment
segment_of-line_of definitions segment kept node data_fit =
    ap (λ v. option_map (segment_found definitions segment.sdata) (found_in (name_of v) definitions.types)) node.here
    ∙ ap (option_map (segment_found definitions segment.sdata)) (found-definition definitions segment.type segment.version node.definition kept node.here)
    ∙ ap (λ d. Some (segment_with segment d)) data_fit
  where
    segment_with : Segment → List ℕ → Segment
    segment_with segment sdata = record { type = segment.type; version = segment.version; sdata = sdata }

segments_again : (definitions : Definitions) (segments : List Segment) → AreDefinitions definitions → AllByRecursion (IsNode definitions) segments →
    AllByRecursion (IsFitted definitions) segments → map (segment_of definitions) (map (line_of definitions) segments) ≡ map Some segments
segments_again definitions [] kept nodes fit = refl
segments_again definitions (segment ∷ segments) kept nodes fit =
    ap (λ i. i ∷ map (segment_of definitions) (map (line_of definitions) segments)) (segment_of-line_of definitions segment kept nodes.0 fit.0)
    ∙ ap (λ is. Some segment ∷ is) (segments_again definitions segments kept nodes.1 fit.1)

-- the records of a forest spell it
pub lines_of-spell : (definitions : Definitions) (entries : List TypePlace) (forest : Forest) → AreDefinitions definitions →
    AllNodes (IsNode definitions) forest → AllNodes (IsFitted definitions) forest → Hangs entries None forest →
    Spells definitions entries (lines_of definitions forest) forest
lines_of-spell definitions entries forest kept nodes fit hangs =
    record {
      segments = segments_again definitions (preorder forest) kept (AllNodes-preorder (IsNode definitions) forest nodes)
          (AllNodes-preorder (IsFitted definitions) forest fit);
      hangs = hangs;
    }

module _ (definitions : Definitions) (kept : AreDefinitions definitions) where
  found_node : (sdata : List ℕ) (found : ℕ × ℕ) (definition : Version) → version_of definitions found.0 found.1 ≡ Some definition →
      IsNode definitions (segment_found definitions sdata found) × IsFitted definitions (segment_found definitions sdata found)
  found_node sdata found definition here =
      let cut : fitted_by (version_of definitions found.0 found.1) sdata ≡ fitted definition sdata = ap (λ v. fitted_by v sdata) here in
      let version = version-IsVersion definitions found.0 found.1 definition kept here in
      let short : length (fitted definition sdata) ≤ 1000 = omega (arith, fitted-short definition sdata, version.fields.fits) in (
        record {
          definition = definition;
          here = here;
          short = subst (λ d. length d ≤ 1000) (sym cut) short;
          ends = subst (λ d. trimmed d ≡ d) (sym cut) (trimmed-trimmed (take (width_of definition.fields) sdata));
        },
        ap (λ v. fitted_by v (fitted_by (version_of definitions found.0 found.1) sdata)) here ∙ ap (fitted definition) cut ∙ fitted-fitted definition sdata
            ∙ sym cut,
      )

  -- what a record stands for is a segment of the definitions, with data that fit
  pub segment_of-IsNode : (line : DataRecord) (segment : Segment) → segment_of definitions line ≡ Some segment →
      IsNode definitions segment × IsFitted definitions segment
  segment_of-IsNode line segment is =
      let found = option_map-Some (segment_found definitions line.sdata) (found_in line.segnam definitions.types) segment is in
      let there = found-exists definitions line.segnam (found.0).0 (found.0).1 kept found.1 in
      subst (λ i. IsNode definitions i × IsFitted definitions i) found.2 (found_node line.sdata found.0 there.0 there.1)

  segments_nodes : (lines : List DataRecord) (segments : List Segment) → map (segment_of definitions) lines ≡ map Some segments →
      AllByRecursion (λ segment. IsNode definitions segment × IsFitted definitions segment) segments
  segments_nodes lines [] same = tt
  segments_nodes [] (segment ∷ segments) same = cc
  segments_nodes (line ∷ lines) (segment ∷ segments) same =
      let first : segment_of definitions line ≡ Some segment = cc in
      let rest : map (segment_of definitions) lines ≡ map Some segments = cc in
      (segment_of-IsNode line segment first, segments_nodes lines segments rest)

  spelled_nodes : (entries : List TypePlace) (lines : List DataRecord) (forest : Forest) → Spells definitions entries lines forest →
      AllNodes (λ segment. IsNode definitions segment × IsFitted definitions segment) forest
  spelled_nodes entries lines forest spells = preorder-AllNodes _ forest (segments_nodes lines (preorder forest) spells.segments)

  -- so are those of a forest that records spell
  pub Spells-nodes : (entries : List TypePlace) (lines : List DataRecord) (forest : Forest) → Spells definitions entries lines forest →
      AllNodes (IsNode definitions) forest
  Spells-nodes entries lines forest spells = AllNodes-weaker _ _ forest (λ segment both. both.0) (spelled_nodes entries lines forest spells)

  -- the data of segments that records spell are as their definitions have them
  pub Spells-fitted : (entries : List TypePlace) (lines : List DataRecord) (forest : Forest) → Spells definitions entries lines forest →
      AllNodes (IsFitted definitions) forest
  Spells-fitted entries lines forest spells = AllNodes-weaker _ _ forest (λ segment both. both.1) (spelled_nodes entries lines forest spells)
