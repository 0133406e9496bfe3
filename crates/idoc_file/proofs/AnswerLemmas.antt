-- Lines have one answer.
use Rattle.std.proofs.Common.{◌≡◌, ℕ, ◌+◌, ◌⊎◌, inl, inr, Some, None, Result, Ok, Err, List, [], ◌∷◌, ◌++◌, length, refl, sym, ap, subst, ◌∙◌, append_assoc}
use Rattle.std.proofs.Common.{append-nil}
use Rattle.idoc_file.specs.declared.raw_doc.RawDoc.{RawDoc}
use Rattle.idoc_file.specs.declared.file_fault.FileFault.{FileFault}
use Rattle.idoc_file.specs.DocumentFile.{AreDocuments, IsFirstBad, IsAnswer, first_fault}
use Rattle.idoc_file.proofs.DocumentLemmas.{follows, same_documents}

-- two elements of one list: they stand at one place, or one of them behind the other
compare_places : {A : Type 0} (xs ys zs ws : List A) (x y : A) → xs ++ x ∷ zs ≡ ys ++ y ∷ ws
    → ((xs ≡ ys) × (x ≡ y)) ⊎ (((mid : List A) × (ys ≡ xs ++ x ∷ mid)) ⊎ ((mid : List A) × (xs ≡ ys ++ y ∷ mid)))
compare_places [] [] zs ws x y same = inl (refl, cc)
compare_places [] (b ∷ bs) zs ws x y same = let first : b ≡ x = cc in inr (inl (bs, ap (λ c. c ∷ bs) first))
compare_places (a ∷ more) [] zs ws x y same = let first : a ≡ y = cc in inr (inr (more, ap (λ c. c ∷ more) first))
compare_places (a ∷ more) (b ∷ bs) zs ws x y same =
    let first : a ≡ b = cc in
    let others : more ++ x ∷ zs ≡ bs ++ y ∷ ws = cc in
    elim (compare_places more bs zs ws x y others) [
      | inl here ↦ let fronts = here.0 in inl ((λ i. first i ∷ fronts i), here.1)
      | inr (inl (mid, is)) ↦ inr (inl (mid, λ i. sym first i ∷ is i))
      | inr (inr (mid, is)) ↦ inr (inr (mid, λ i. first i ∷ is i))
    ]

-- the first lines of documents are those of documents
front_of : (front back : List (List ℕ)) (documents : List RawDoc) → AreDocuments (front ++ back) documents → (before : List RawDoc) × AreDocuments front before
front_of front [] documents are = (documents, subst (λ lines. AreDocuments lines documents) (append-nil front) are)
front_of front (line ∷ back) documents are =
    let more = front_of (front ++ line ∷ []) back documents (subst (λ lines. AreDocuments lines documents) (sym (append_assoc front (line ∷ []) back)) are) in
    let before = follows front line more.0 more.1 in
    (before.before, before.are)

module _ (lines : List (List ℕ)) (fault : FileFault) (bad : IsFirstBad lines fault) where
  -- up to the first bad line the lines are those of no documents
  unread : (documents : List RawDoc) → AreDocuments (bad.before ++ bad.line ∷ []) documents → ⊥
  unread documents are =
      let before = follows bad.before bad.line documents are in
      let same : before.before ≡ bad.read = same_documents bad.before before.before bad.read before.are bad.are in
      let none : first_fault (length bad.before + 1) bad.read bad.line ≡ None =
      subst (λ (read : List RawDoc). first_fault (length bad.before + 1) read bad.line ≡ None) same before.good in
      let both : None ≡ Some fault = sym none ∙ bad.why in
      absurd (cc)

  -- nor are more lines
  unread_further : (behind : List (List ℕ)) (documents : List RawDoc) → AreDocuments (bad.before ++ bad.line ∷ behind) documents → ⊥
  unread_further behind documents are =
      let front = front_of (bad.before ++ bad.line ∷ []) behind documents
      (subst (λ all. AreDocuments all documents) (sym (append_assoc bad.before (bad.line ∷ []) behind)) are) in
      unread front.0 front.1

  -- so the lines are those of no documents
  pub not_documents : (documents : List RawDoc) → AreDocuments lines documents → ⊥
  not_documents documents are = unread_further bad.behind documents (subst (λ all. AreDocuments all documents) bad.stands are)

-- there is one first bad line, and it has one first fault
pub fault_once : (lines : List (List ℕ)) (one other : FileFault) → IsFirstBad lines one → IsFirstBad lines other → one ≡ other
fault_once lines one other bad another =
    elim (compare_places bad.before another.before bad.behind another.behind bad.line another.line (sym bad.stands ∙ another.stands)) [
      | inl here ↦
          let fronts = here.0 in
          let line = here.1 in
          let read : bad.read ≡ another.read = same_documents another.before bad.read another.read (subst (λ front. AreDocuments front bad.read) fronts bad.are)
          another.are in
          let same : first_fault (length bad.before + 1) bad.read bad.line ≡ first_fault (length another.before + 1) another.read another.line =
          λ i. first_fault (length (fronts i) + 1) (read i) (line i) in
          let both : Some one ≡ Some other = sym bad.why ∙ same ∙ another.why in
          cc
      | inr (inl (mid, is)) ↦ absurd (unread_further lines one bad mid another.read (subst (λ front. AreDocuments front another.read) is another.are))
      | inr (inr (mid, is)) ↦ absurd (unread_further lines other another mid bad.read (subst (λ front. AreDocuments front bad.read) is bad.are))
    ]

-- documents or a fault, and one of them
pub one_answer : (lines : List (List ℕ)) (one other : Result (List RawDoc) FileFault) → IsAnswer lines one → IsAnswer lines other → one ≡ other
one_answer lines (Ok documents) (Ok others) are_one are_other = ap Ok (same_documents lines documents others are_one are_other)
one_answer lines (Ok documents) (Err fault) are_one are_other = absurd (not_documents lines fault are_other documents are_one)
one_answer lines (Err fault) (Ok documents) are_one are_other = absurd (not_documents lines fault are_one documents are_other)
one_answer lines (Err one) (Err other) are_one are_other = ap Err (fault_once lines one other are_one are_other)
