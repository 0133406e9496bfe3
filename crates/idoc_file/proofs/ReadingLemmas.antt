-- What a reader stands for, line by line.
use Rattle.std.proofs.Common.{◌≡◌, ℕ, ◌+◌, ◌≤◌, Option, Some, None, false, is_some, nat_eq, List, [], ◌∷◌, ◌++◌, length, refl, sym, ap, subst, ◌∙◌, arith}
use Rattle.std.proofs.Common.{append_assoc, append-nil, length-append}
use Rattle.std.specs.List.{AllByRecursion}
use Rattle.std.proofs.lemmas.Bool.{false≢true}
use Rattle.idoc_file.specs.declared.raw_doc.RawDoc.{RawDoc}
use Rattle.idoc_file.specs.declared.file_fault.FileFault.{FileFault}
use Rattle.idoc_file.specs.declared.lines_read.LinesRead.{LinesRead}
use Rattle.ale_base.specs.Lines.{lines_of, without_return, IsNoEnd}
use Rattle.idoc_file.specs.DocumentFile.{AreDocuments, IsFirstBad, first_fault}
use Rattle.idoc_file.specs.Reading.{AreReadWith, AreRead, IsReading}
use Rattle.ale_base.proofs.ListLemmas.{AllByRecursion-append}
use Rattle.ale_base.proofs.LinesLemmas.{lines_of-ended, lines_of-unended, length-lines_of}

-- a line with a fault is the first bad one
pub IsFirstBad-here : (lines : List (List ℕ)) (line : List ℕ) (read : List RawDoc) (number : ℕ) (fault : FileFault) → AreDocuments lines read →
    number ≡ length lines + 1
    → first_fault number read line ≡ Some fault → IsFirstBad (lines ++ line ∷ []) fault
IsFirstBad-here lines line read number fault are is why = record {
  before = lines;
  line = line;
  behind = [];
  stands = refl;
  read = read;
  are = are;
  why = subst (λ (n : ℕ). first_fault n read line ≡ Some fault) is why;
}

-- and stays it with lines behind it
pub IsFirstBad-more : (lines more : List (List ℕ)) (fault : FileFault) → IsFirstBad lines fault → IsFirstBad (lines ++ more) fault
IsFirstBad-more lines more fault bad = record {
  before = bad.before;
  line = bad.line;
  behind = bad.behind ++ more;
  stands = ap (λ front. front ++ more) bad.stands ∙ append_assoc bad.before (bad.line ∷ bad.behind) more;
  read = bad.read;
  are = bad.are;
  why = bad.why;
}

-- where there is no fault
pub AreRead-good : (read : LinesRead) (lines : List (List ℕ)) → is_some read.fault ≡ false → AreRead read lines →
    AreDocuments lines read.documents × (read.count ≡ length lines)
AreRead-good read lines good are = good_with read.fault read lines good are
  where
    good_with : (fault : Option FileFault) (read : LinesRead) (lines : List (List ℕ)) → is_some fault ≡ false → AreReadWith fault read lines
        → AreDocuments lines read.documents × (read.count ≡ length lines)
    good_with None read lines good are = are
    good_with (Some fault) read lines good are = absurd (false≢true (sym good))

-- equal parts stand for equal bytes
pub IsReading-same : (read after : LinesRead) (unfinished line bytes more : List ℕ) → read ≡ after → unfinished ≡ line → bytes ≡ more →
    IsReading read unfinished bytes → IsReading after line more
IsReading-same read after unfinished line bytes more same_read same_line same_bytes is =
    subst (λ (r : LinesRead). IsReading r line more) same_read
    (subst (λ (l : List ℕ). IsReading read l more) same_line
    (subst (λ (b : List ℕ). IsReading read unfinished b) same_bytes is))

module _ (read : LinesRead) (unfinished bytes : List ℕ) (is : IsReading read unfinished bytes) where
  -- bytes that do not end the line
  pub IsReading-kept : (rest : List ℕ) → AllByRecursion IsNoEnd rest → IsReading read (unfinished ++ rest) (bytes ++ rest)
  IsReading-kept rest no_end = record {
    lines = is.lines;
    goes_on = λ more. ap lines_of (append_assoc bytes rest more) ∙ is.goes_on (rest ++ more)
        ∙ ap (λ behind. is.lines ++ lines_of behind) (sym (append_assoc unfinished rest more));
    no_end = AllByRecursion-append IsNoEnd unfinished rest is.no_end no_end;
    are = is.are;
  }

  -- bytes that end it
  pub IsReading-ended : (after : LinesRead) (end : List ℕ) → AllByRecursion IsNoEnd end
      → AreRead after (is.lines ++ without_return (unfinished ++ end) ∷ []) → IsReading after [] (bytes ++ (end ++ 10 ∷ []))
  IsReading-ended after end no_end are =
      let line = unfinished ++ end in
      let unended = AllByRecursion-append IsNoEnd unfinished end is.no_end no_end in
      record {
        lines = is.lines ++ without_return line ∷ [];
        goes_on = λ more.
            ap lines_of (append_assoc bytes (end ++ 10 ∷ []) more)
            ∙ is.goes_on ((end ++ 10 ∷ []) ++ more)
            ∙ ap (λ behind. is.lines ++ lines_of (unfinished ++ behind)) (append_assoc end (10 ∷ []) more)
            ∙ ap (λ behind. is.lines ++ lines_of behind) (sym (append_assoc unfinished end (10 ∷ more)))
            ∙ ap (λ behind. is.lines ++ behind) (lines_of-ended line more unended)
            ∙ sym (append_assoc is.lines (without_return line ∷ []) (lines_of more));
        no_end = tt;
        are = are;
      }

  all_lines : lines_of bytes ≡ is.lines ++ lines_of unfinished
  all_lines = ap lines_of (sym (append-nil bytes)) ∙ is.goes_on [] ∙ ap (λ behind. is.lines ++ lines_of behind) (append-nil unfinished)

  -- there are no more lines than bytes
  pub IsReading-few : length is.lines ≤ length bytes
  IsReading-few = omega (arith, length-lines_of bytes, ap length all_lines, length-append is.lines (lines_of unfinished))

  -- the bytes end with a line
  pub IsReading-all : unfinished ≡ [] → AreRead read (lines_of bytes)
  IsReading-all none =
      subst (AreRead read) (sym (append-nil is.lines) ∙ ap (λ behind. is.lines ++ lines_of behind) (sym none) ∙ sym all_lines) is.are

  -- or the last line lacks its end
  pub IsReading-last : nat_eq (length unfinished) 0 ≡ false → lines_of bytes ≡ is.lines ++ unfinished ∷ []
  IsReading-last some = all_lines ∙ ap (λ behind. is.lines ++ behind) (lines_of-unended unfinished some is.no_end)
