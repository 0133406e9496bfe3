-- Each outbound document of a log is in one place: in one unit, among what waits, or among what was refused.
use Rattle.std.specs.Prelude.{filter, map, nat_eq, slice_get, ◌==◌, if◌then◌else◌}
use Rattle.std.specs.List.{cons_option, flat_map}
use Rattle.std.proofs.Common.{◌≡◌, ◌≢◌, ◌⊎◌, inl, inr, ℕ, zero, suc, ◌+◌, ◌<◌, ◌≤◌, Bool, true, false, cond, Some, List, [], ◌∷◌, ◌++◌, length, refl}
use Rattle.std.proofs.Common.{sym, ap, ◌∙◌, arith}
use Rattle.std.proofs.lemmas.Bool.Decides.{eqb_tells}
use Rattle.std.proofs.lemmas.List.{map-append}
use Rattle.std.proofs.lemmas.List.Concat.{flat_map-append}
use Rattle.std.proofs.lemmas.List.Elements.{filter_map-append}
use Rattle.std.proofs.lemmas.List.Sums.{sum_by-append, sum_by-cons}
use Rattle.ale_base.specs.declared.doc_num.DocNum.{DocNum}
use Rattle.dist_model.specs.declared.lists.Lists.{Lists}
use Rattle.dist_model.specs.declared.row.Row.{Row}
use Rattle.dist_model.specs.Model.{places_from}
use Rattle.unit_core.specs.declared.raw_unit_doc.RawUnitDoc.{RawUnitDoc}
use Rattle.unit_core.specs.declared.records.Record.{Record}
use Rattle.unit_core.specs.declared.records.Record.TheVariants.{Commit, Dispatch}
use Rattle.outbound_build.specs.declared.added.Added.{Added}
use Rattle.outbound_build.specs.declared.added.Fate.{Fate}
use Rattle.outbound_build.specs.declared.added.Fate.TheVariants.{Sent, Waits, Refused}
use Rattle.outbound_build.specs.declared.added.OutDocument.{OutDocument}
use Rattle.outbound_build.specs.declared.added.OutUnit.{OutUnit}
use Rattle.outbound_build.specs.declared.added.Waiting.{Waiting}
use Rattle.outbound_build.specs.Added.{rows_of, still_waiting, waits_as, waits_of}
use Rattle.outbound_build.specs.Addressed.{AreAddressed, IsForRow}
use Rattle.outbound_build.specs.Carried.{AreCarried, AreLoads, AreLoadsByRow, load_of, sent_as, sent_in, waits_for}
use Rattle.outbound_build.specs.Committed.{Past, documents_of, no_more, past_of, past_with}
use Rattle.outbound_build.specs.Once.{IsEachOnce, places_of, refused_as, refused_in, times}
use Rattle.outbound_build.proofs.DocumentLemmas.{documents-numbered}

nothing-before : (n m : ℕ) → n ≡ m → 0 + n ≡ m
nothing-before n m same = omega (arith, same)

module _ (number : ℕ) where
  -- one, where a number is this one
  abbrev hit : DocNum → ℕ
  hit one = cond (one.0 == number) 1 0

  times-append : (ones others : List DocNum) → times number (ones ++ others) ≡ times number ones + times number others
  times-append ones others = sum_by-append hit ones others

  times-cons : (one : DocNum) (others : List DocNum) → times number (one ∷ others) ≡ hit one + times number others
  times-cons one others = sum_by-cons hit one others

  -- ---- what loads carry

  -- the numbers in loads
  abbrev numbers_in : List (List DocNum × List RawUnitDoc) → List DocNum
  numbers_in loads = flat_map (λ load. load.0) loads

  -- a number stands in loads as often as in what they are
  loads-times : (loads : List (List DocNum × List RawUnitDoc)) (documents : List (DocNum × RawUnitDoc)) → AreLoads loads documents
      → times number (numbers_in loads) ≡ times number (map (λ one. one.0) documents)
  loads-times [] documents none = ap (λ (ds : List (DocNum × RawUnitDoc)). times number (map (λ one. one.0) ds)) (sym none)
  loads-times (load ∷ loads) documents are =
      let first : DocNum × RawUnitDoc → DocNum = λ one. one.0 in
      times-append load.0 (numbers_in loads)
      ∙ ap (λ (ns : List DocNum). times number ns + times number (numbers_in loads)) are.3.numbers
      ∙ ap (λ (n : ℕ). times number (map first are.0) + n) (loads-times loads are.1 are.4)
      ∙ sym (times-append (map first are.0) (map first are.1))
      ∙ ap (times number) (sym (map-append first are.0 are.1))
      ∙ ap (λ (ds : List (DocNum × RawUnitDoc)). times number (map first ds)) (sym are.2)

  -- how often it stands in what waits for some rows
  abbrev rows_times : List Waiting → List ℕ → ℕ
  rows_times waiting [] = 0
  rows_times waiting (row ∷ rows) = times number (map (λ one. one.0) (waits_for row waiting)) + rows_times waiting rows

  by_row-times : (model : Lists) (waiting : List Waiting) (rows : List ℕ) (loads : List (List DocNum × List RawUnitDoc))
      → AreLoadsByRow model waiting rows loads → times number (numbers_in loads) ≡ rows_times waiting rows
  by_row-times model waiting [] loads none = ap (λ (ls : List (List DocNum × List RawUnitDoc)). times number (numbers_in ls)) none
  by_row-times model waiting (row ∷ rows) loads are =
      ap (λ (ls : List (List DocNum × List RawUnitDoc)). times number (numbers_in ls)) are.2
      ∙ ap (times number) (flat_map-append (λ (load : List DocNum × List RawUnitDoc). load.0) are.0 are.1)
      ∙ times-append (numbers_in are.0) (numbers_in are.1)
      ∙ ap (λ (n : ℕ). n + times number (numbers_in are.1)) (loads-times are.0 (waits_for row waiting) are.3)
      ∙ ap (λ (n : ℕ). times number (map (λ one. one.0) (waits_for row waiting)) + n) (by_row-times model waiting rows are.1 are.5)

  -- ---- rows

  -- a count at each row that is this one
  abbrev at_rows : ℕ → ℕ → List ℕ → ℕ
  at_rows row count [] = 0
  at_rows row count (one ∷ rows) = cond (row == one) count 0 + at_rows row count rows

  at_rows-none : {A : Type 0} (test : A → Bool) (place row count : ℕ) (xs : List A) → row < place → at_rows row count (places_from test place xs) ≡ 0
  at_rows-none test place row count [] less = refl
  at_rows-none {A} test place row count (x ∷ xs) less = by_test (at_rows-none test (suc place) row count xs (omega (arith, less))) (test x)
    where
      here : cond (row == place) count 0 ≡ 0
      here = elim (eqb_tells row place) [
        | inl (is, same) ↦ absurd (omega (arith, less, same))
        | inr (is, differ) ↦ ap (λ (b : Bool). cond b count 0) is
      ]

      by_test : at_rows row count (places_from test (suc place) xs) ≡ 0 → (b : Bool)
          → at_rows row count (if b then place ∷ places_from test (suc place) xs else places_from test (suc place) xs) ≡ 0
      by_test rest true =
          ap (λ (n : ℕ). n + at_rows row count (places_from test (suc place) xs)) here
          ∙ nothing-before (at_rows row count (places_from test (suc place) xs)) 0 rest
      by_test rest false = rest

  -- the place of an element that passes is among the places once
  at_rows-once : {A : Type 0} (test : A → Bool) (place k count : ℕ) (xs : List A) (x : A) → slice_get xs k ≡ Some x → test x ≡ true
      → at_rows (place + k) count (places_from test place xs) ≡ count
  at_rows-once test place k count [] x here passes = absurd (cc)
  at_rows-once {A} test place zero count (first ∷ xs) x here passes =
      ap (λ (b : Bool). at_rows (place + 0) count (if b then place ∷ places_from test (suc place) xs else places_from test (suc place) xs)) yes
      ∙ ap (λ (n : ℕ). n + at_rows (place + 0) count (places_from test (suc place) xs)) own
      ∙ ap (λ (n : ℕ). count + n) (at_rows-none test (suc place) (place + 0) count xs (omega arith)) ∙ omega arith
    where
      yes : test first ≡ true
      yes = let same : first ≡ x = cc in ap test same ∙ passes

      own : cond (place + 0 == place) count 0 ≡ count
      own = elim (eqb_tells (place + 0) place) [
        | inl (is, same) ↦ ap (λ (b : Bool). cond b count 0) is
        | inr (is, differ) ↦ absurd (differ (omega arith))
      ]
  at_rows-once {A} test place (suc k) count (first ∷ xs) x here passes =
      by_test
      (ap (λ (row : ℕ). at_rows row count (places_from test (suc place) xs)) shift ∙ at_rows-once test (suc place) k count xs x here passes)
      (test first)
    where
      shift : place + suc k ≡ suc place + k
      shift = omega arith

      other : cond (place + suc k == place) count 0 ≡ 0
      other = elim (eqb_tells (place + suc k) place) [
        | inl (is, same) ↦ absurd (omega (arith, same))
        | inr (is, differ) ↦ ap (λ (b : Bool). cond b count 0) is
      ]

      by_test : at_rows (place + suc k) count (places_from test (suc place) xs) ≡ count → (b : Bool)
          → at_rows (place + suc k) count (if b then place ∷ places_from test (suc place) xs else places_from test (suc place) xs) ≡ count
      by_test rest true =
          ap (λ (n : ℕ). n + at_rows (place + suc k) count (places_from test (suc place) xs)) other
          ∙ nothing-before (at_rows (place + suc k) count (places_from test (suc place) xs)) count rest
      by_test rest false = rest

  -- one more that waits is among what waits for its row
  one-waits : (row : ℕ) (one : Waiting) (waiting : List Waiting)
      → times number (map (λ d. d.0) (waits_for row (one ∷ waiting)))
      ≡ cond (one.row == row) (hit one.number) 0 + times number (map (λ d. d.0) (waits_for row waiting))
  one-waits row one waiting = by_row (one.row == row)
    where
      rest : List Waiting
      rest = filter (λ w. w.row == row) waiting

      first : DocNum × RawUnitDoc → DocNum
      first d = d.0

      pair : Waiting → DocNum × RawUnitDoc
      pair w = (w.number, w.document)

      by_row : (b : Bool)
          → times number (map first (map pair (cond b (one ∷ rest) rest))) ≡ cond b (hit one.number) 0 + times number (map first (map pair rest))
      by_row true = times-cons one.number (map first (map pair rest))
      by_row false = sym (nothing-before (times number (map first (map pair rest))) (times number (map first (map pair rest))) refl)

  rows-more : (one : Waiting) (waiting : List Waiting) (rows : List ℕ)
      → rows_times (one ∷ waiting) rows ≡ at_rows one.row (hit one.number) rows + rows_times waiting rows
  rows-more one waiting [] = omega arith
  rows-more one waiting (row ∷ rows) =
      swapped (times number (map (λ d. d.0) (waits_for row (one ∷ waiting)))) (rows_times (one ∷ waiting) rows)
      (cond (one.row == row) (hit one.number) 0) (times number (map (λ d. d.0) (waits_for row waiting)))
      (at_rows one.row (hit one.number) rows) (rows_times waiting rows)
      (one-waits row one waiting) (rows-more one waiting rows)
    where
      swapped : (a b c d e f : ℕ) → a ≡ c + d → b ≡ e + f → a + b ≡ c + e + (d + f)
      swapped a b c d e f one two = omega (arith, one, two)

  rows-none : (rows : List ℕ) → rows_times [] rows ≡ 0
  rows-none [] = refl
  rows-none (row ∷ rows) = nothing-before (rows_times [] rows) 0 (rows-none rows)

  -- what waits for the rows of a system is all that waits, where each is for its row
  rows-all : (model : Lists) (system : ℕ) (waiting : List Waiting) → AreAddressed model system waiting
      → rows_times waiting (rows_of system model) ≡ times number (map (λ one. one.number) waiting)
  rows-all model system [] all = rows-none (rows_of system model)
  rows-all model system (one ∷ waiting) all =
      rows-more one waiting (rows_of system model)
      ∙ ap (λ (n : ℕ). n + rows_times waiting (rows_of system model)) own
      ∙ ap (λ (n : ℕ). hit one.number + n) (rows-all model system waiting all.1)
      ∙ sym (times-cons one.number (map (λ w. w.number) waiting))
    where
      is : IsForRow model system one.row one.document
      is = all.0

      sends : Row → Bool
      sends row = nat_eq system row.sender

      passes : sends is.of ≡ true
      passes = elim (eqb_tells system is.of.sender) [
        | inl (is_so, same) ↦ is_so
        | inr (is_not, differ) ↦ absurd (differ (sym is.own))
      ]

      plain : 0 + one.row ≡ one.row
      plain = omega arith

      own : at_rows one.row (hit one.number) (rows_of system model) ≡ hit one.number
      own =
          ap (λ (row : ℕ). at_rows row (hit one.number) (rows_of system model)) (sym plain)
          ∙ at_rows-once sends 0 one.row (hit one.number) model.rows is.of is.here passes

  -- ---- what becomes of documents

  -- a number of documents stands among what is sent at once, what waits and what is refused
  fates-times : (documents : List OutDocument)
      → times number (map (λ one. one.0) (sent_in documents)) + times number (map (λ one. one.number) (waits_of documents))
      + times number (refused_in documents)
      ≡ times number (map (λ one. one.number) documents)
  fates-times [] = refl
  fates-times (one ∷ documents) = by_fate (fates-times documents) one.fate ∙ sym (times-cons one.number (map (λ d. d.number) documents))
    where
      first : (h s w r all : ℕ) (more : ℕ) → s + w + r ≡ all → more ≡ h + s → more + w + r ≡ h + all
      first h s w r all more is has = omega (arith, is, has)

      second : (h s w r all : ℕ) (more : ℕ) → s + w + r ≡ all → more ≡ h + w → s + more + r ≡ h + all
      second h s w r all more is has = omega (arith, is, has)

      third : (h s w r all : ℕ) (more : ℕ) → s + w + r ≡ all → more ≡ h + r → s + w + more ≡ h + all
      third h s w r all more is has = omega (arith, is, has)

      sent : ℕ
      sent = times number (map (λ d. d.0) (sent_in documents))

      waits : ℕ
      waits = times number (map (λ d. d.number) (waits_of documents))

      refused : ℕ
      refused = times number (refused_in documents)

      all : ℕ
      all = times number (map (λ d. d.number) documents)

      by_fate : sent + waits + refused ≡ all → (fate : Fate)
          → times number (map (λ d. d.0) (cons_option (sent_as one fate) (sent_in documents)))
          + times number (map (λ d. d.number) (cons_option (waits_as one fate) (waits_of documents)))
          + times number (cons_option (refused_as one fate) (refused_in documents))
          ≡ hit one.number + all
      by_fate is Sent = first (hit one.number) sent waits refused all _ is (times-cons one.number (map (λ d. d.0) (sent_in documents)))
      by_fate is Waits = second (hit one.number) sent waits refused all _ is (times-cons one.number (map (λ d. d.number) (waits_of documents)))
      by_fate is (Refused fault) = third (hit one.number) sent waits refused all _ is (times-cons one.number (refused_in documents))

  -- ---- one more record

  -- what units carry is what their loads have
  units-numbers : (units : List OutUnit) → flat_map (λ one. one.documents) units ≡ numbers_in (map load_of units)
  units-numbers [] = refl
  units-numbers (one ∷ units) = ap (λ (ns : List DocNum). one.documents ++ ns) (units-numbers units)

  -- the units of a record carry what waited and waits no more, and what it sends at once
  carried-times : (model : Lists) (system : ℕ) (waiting : List Waiting) (next : Record) (added : Added) → AreCarried model system waiting next added
      → (next ≡ Dispatch → AreAddressed model system waiting)
      → times number (flat_map (λ one. one.documents) added.units) + times number (map (λ one. one.number) (still_waiting next waiting))
      ≡ times number (map (λ one. one.number) waiting) + times number (map (λ one. one.0) (sent_in added.documents))
  carried-times model system waiting (Commit origin docs) added are waits =
      turned _ _ _ (ap (times number) (units-numbers added.units) ∙ loads-times (map load_of added.units) (sent_in added.documents) are)
    where
      turned : (a b c : ℕ) → a ≡ c → a + b ≡ b + c
      turned a b c same = omega (arith, same)
  carried-times model system waiting Dispatch added are waits =
      whole _ _ _ (ap (times number) (units-numbers added.units) ∙ by_row-times model waiting (rows_of system model) (map load_of added.units) are.1
      ∙ rows-all model system waiting (waits refl))
      (ap (λ (ds : List OutDocument). times number (map (λ one. one.0) (sent_in ds))) are.0)
    where
      whole : (a b c : ℕ) → a ≡ b → c ≡ 0 → a + 0 ≡ b + c
      whole a b c same none = omega (arith, same, none)
  carried-times model system waiting _ added are waits =
      nothing _ _ _ (ap (λ (us : List OutUnit). times number (flat_map (λ one. one.documents) us)) are.1)
      (ap (λ (ds : List OutDocument). times number (map (λ one. one.0) (sent_in ds))) are.0)
    where
      nothing : (a b c : ℕ) → a ≡ 0 → c ≡ 0 → a + b ≡ b + c
      nothing a b c one two = omega (arith, one, two)

-- each number stands in as many places as documents have it
pub record IsPlaced (past : Past) : Type 0 where
  pub same : (number : ℕ) → places_of past number ≡ times number (map (λ one. one.number) past.documents)

-- one more record keeps that, where its units carry what waited and waits no more, and what it sends at once
placed-by : (past : Past) (next : Record) (added : Added)
    → ((number : ℕ) → times number (flat_map (λ one. one.documents) added.units)
    + times number (map (λ one. one.number) (still_waiting next past.outbox.waiting))
    ≡ times number (map (λ one. one.number) past.outbox.waiting) + times number (map (λ one. one.0) (sent_in added.documents)))
    → IsPlaced past → IsPlaced (past_with past next added)
placed-by past next added carries placed = record {
  same = λ number.
      let units = flat_map (λ (one : OutUnit). one.documents) past.units in
      let more = flat_map (λ (one : OutUnit). one.documents) added.units in
      let of_waiting : Waiting → DocNum = λ one. one.number in
      let of_document : OutDocument → DocNum = λ one. one.number in
      let still = still_waiting next past.outbox.waiting in
      joined _ _ _ _ _ _ _ _ _ _ _ _ _ _
      (ap (times number) (flat_map-append (λ (one : OutUnit). one.documents) past.units added.units) ∙ times-append number units more)
      (ap (times number) (map-append of_waiting still (waits_of added.documents))
      ∙ times-append number (map of_waiting still) (map of_waiting (waits_of added.documents)))
      (ap (times number) (filter_map-append (λ (one : OutDocument). refused_as one one.fate) past.documents added.documents)
      ∙ times-append number (refused_in past.documents) (refused_in added.documents))
      (ap (times number) (map-append of_document past.documents added.documents)
      ∙ times-append number (map of_document past.documents) (map of_document added.documents))
      (placed.same number) (carries number) (fates-times number added.documents);
}
  where
    joined : (units0 units1 waits0 waits1 refused0 refused1 all0 all1 sent now_units now_waits now_refused now_all still : ℕ)
        → now_units ≡ units0 + units1 → now_waits ≡ still + waits1 → now_refused ≡ refused0 + refused1 → now_all ≡ all0 + all1
        → units0 + waits0 + refused0 ≡ all0 → units1 + still ≡ waits0 + sent → sent + waits1 + refused1 ≡ all1
        → now_units + now_waits + now_refused ≡ now_all
    joined units0 units1 waits0 waits1 refused0 refused1 all0 all1 sent now_units now_waits now_refused now_all still one two three four placed carried fates =
        omega (arith, one, two, three, four, placed, carried, fates)

-- so it does where its units carry what they should
pub placed-with : (model : Lists) (system : ℕ) (past : Past) (next : Record) (added : Added) → AreCarried model system past.outbox.waiting next added
    → (next ≡ Dispatch → AreAddressed model system past.outbox.waiting) → IsPlaced past → IsPlaced (past_with past next added)
placed-with model system past next added are waits placed =
    placed-by past next added (λ number. carried-times number model system past.outbox.waiting next added are waits) placed

-- and where it adds nothing, and what waits stays
pub placed-still : (past : Past) (next : Record) → still_waiting next past.outbox.waiting ≡ past.outbox.waiting → IsPlaced past
    → IsPlaced (past_with past next no_more)
placed-still past next stays placed =
    placed-by past next no_more
    (λ number. plain _ _ (ap (λ (waiting : List Waiting). times number (map (λ one. one.number) waiting)) stays)) placed
  where
    plain : (a b : ℕ) → a ≡ b → 0 + a ≡ b + 0
    plain a b same = omega (arith, same)

-- ---- each document

-- documents that are numbered on from a place have each number once
numbered-none : (number place : ℕ) (documents : List OutDocument)
    → ((k : ℕ) (one : OutDocument) → slice_get documents k ≡ Some one → one.number.0 ≡ place + k)
    → number < place → times number (map (λ one. one.number) documents) ≡ 0
numbered-none number place [] numbered less = refl
numbered-none number place (one ∷ documents) numbered less =
    let rest = numbered-none number (suc place) documents
    (λ k other here. let shift : place + suc k ≡ suc place + k = omega arith in numbered (suc k) other here ∙ shift) (omega (arith, less)) in
    times-cons number one.number (map (λ d. d.number) documents) ∙ ap (λ (n : ℕ). n + times number (map (λ d. d.number) documents)) own
    ∙ nothing-before (times number (map (λ d. d.number) documents)) 0 rest
  where
    own : hit number one.number ≡ 0
    own = elim (eqb_tells one.number.0 number) [
      | inl (is, same) ↦ absurd (let at = numbered 0 one refl in omega (arith, less, same, at))
      | inr (is, differ) ↦ ap (λ (b : Bool). cond b 1 0) is
    ]

numbered-once : (number place : ℕ) (documents : List OutDocument)
    → ((k : ℕ) (one : OutDocument) → slice_get documents k ≡ Some one → one.number.0 ≡ place + k)
    → place ≤ number → number < place + length documents → times number (map (λ one. one.number) documents) ≡ 1
numbered-once number place [] numbered least most = absurd (omega (arith, least, most))
numbered-once number place (one ∷ documents) numbered least most =
    times-cons number one.number (map (λ d. d.number) documents) ∙ by_number (eqb_tells one.number.0 number)
    (λ over. numbered-once number (suc place) documents behind over (omega (arith, most)))
    (λ less. numbered-none number (suc place) documents behind less)
  where
    behind : (k : ℕ) (other : OutDocument) → slice_get documents k ≡ Some other → other.number.0 ≡ suc place + k
    behind k other here = let shift : place + suc k ≡ suc place + k = omega arith in numbered (suc k) other here ∙ shift

    rest : ℕ
    rest = times number (map (λ d. d.number) documents)

    at : one.number.0 ≡ place + 0
    at = numbered 0 one refl

    by_number : ((one.number.0 == number ≡ true) × (one.number.0 ≡ number)) ⊎ ((one.number.0 == number ≡ false) × (one.number.0 ≢ number))
        → (suc place ≤ number → rest ≡ 1) → (number < suc place → rest ≡ 0) → hit number one.number + rest ≡ 1
    by_number (inl (is, same)) over none =
        let bare = none (omega (arith, same, at)) in
        ap (λ (b : Bool). cond b 1 0 + rest) is ∙ ap (λ (n : ℕ). 1 + n) bare
    by_number (inr (is, differ)) over none =
        let whole = over (omega (arith, differ, at, least)) in
        ap (λ (b : Bool). cond b 1 0 + rest) is ∙ nothing-before rest 1 whole

-- a number behind those of the documents is none of theirs
numbered-beyond : (number place : ℕ) (documents : List OutDocument)
    → ((k : ℕ) (one : OutDocument) → slice_get documents k ≡ Some one → one.number.0 ≡ place + k)
    → place + length documents ≤ number → times number (map (λ one. one.number) documents) ≡ 0
numbered-beyond number place [] numbered past = refl
numbered-beyond number place (one ∷ documents) numbered past =
    let rest = numbered-beyond number (suc place) documents
    (λ k other here. let shift : place + suc k ≡ suc place + k = omega arith in numbered (suc k) other here ∙ shift) (omega (arith, past)) in
    times-cons number one.number (map (λ d. d.number) documents) ∙ ap (λ (n : ℕ). n + times number (map (λ d. d.number) documents)) own
    ∙ nothing-before (times number (map (λ d. d.number) documents)) 0 rest
  where
    own : hit number one.number ≡ 0
    own = elim (eqb_tells one.number.0 number) [
      | inl (is, same) ↦ absurd (let at = numbered 0 one refl in omega (arith, past, same, at))
      | inr (is, differ) ↦ ap (λ (b : Bool). cond b 1 0) is
    ]

-- each document of a log is in one place, and no place has a number that is none of theirs
pub each-once : (models : List Lists) (log : List Record) → IsPlaced (past_of models log) → IsEachOnce (past_of models log)
each-once models log placed = record {
  once = λ number least most. placed.same number ∙ numbered-once number 1 (documents_of models log) numbered least (omega (arith, most));
  none = λ number other. placed.same number ∙ by_side number other;
}
  where
    numbered : (k : ℕ) (one : OutDocument) → slice_get (documents_of models log) k ≡ Some one → one.number.0 ≡ 1 + k
    numbered k one here = let shift : suc k ≡ 1 + k = omega arith in documents-numbered models log k one here ∙ shift

    by_side : (number : ℕ) → (number < 1) ⊎ (length (documents_of models log) < number) → times number (map (λ one. one.number) (documents_of models log)) ≡ 0
    by_side number (inl low) = numbered-none number 1 (documents_of models log) numbered low
    by_side number (inr past) = numbered-beyond number 1 (documents_of models log) numbered (omega (arith, past))
