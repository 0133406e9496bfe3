-- Each outbound document of a log is in one unit, or waits, or was refused: by the numbers of documents. This project's own.
use Rattle.std.specs.Prelude.{◌≡◌, ◌⊎◌, ℕ, ◌+◌, ◌<◌, ◌≤◌, ◌==◌, List, map, length, Option, Some, None}
use Rattle.std.specs.List.{count_by, filter_map, flat_map}
use Rattle.ale_base.specs.declared.doc_num.DocNum.{DocNum}
use Rattle.outbound_build.specs.declared.added.Fate.{Fate}
use Rattle.outbound_build.specs.declared.added.Fate.TheVariants.{Refused}
use Rattle.outbound_build.specs.declared.added.OutDocument.{OutDocument}
use Rattle.outbound_build.specs.Committed.{Past}

-- how often a number stands among the numbers of documents
abbrev pub times : ℕ → List DocNum → ℕ
times number numbers = count_by (λ one. one.0 == number) numbers

-- the number of a document that was refused
abbrev pub refused_as : OutDocument → Fate → Option DocNum
refused_as document (Refused fault) = Some document.number
refused_as document _ = None

-- the numbers of the documents that were refused
abbrev pub refused_in : List OutDocument → List DocNum
refused_in documents = filter_map (λ document. refused_as document document.fate) documents

-- in how many places a number stands: in the units, among what waits, and among what was refused
abbrev pub places_of : Past → ℕ → ℕ
places_of past number =
    times number (flat_map (λ one. one.documents) past.units) + times number (map (λ one. one.number) past.outbox.waiting)
    + times number (refused_in past.documents)

-- the number of each document stands in one place, and no other number stands in any
pub record IsEachOnce (past : Past) : Type 0 where
  pub once : (number : ℕ) → 1 ≤ number → number ≤ length past.documents → places_of past number ≡ 1
  pub none : (number : ℕ) → (number < 1) ⊎ (length past.documents < number) → places_of past number ≡ 0
