-- The last line of a run, and the text of its turns before it.
use Rattle.std.proofs.Common.{◌≡◌, ◌≢◌, ℕ, ◌+◌, ◌<◌, ◌≤◌, List, [], ◌∷◌, ◌++◌, Option, length, take, arith, inl, refl, sym, ap, subst, ◌∙◌, append-nil}
use Rattle.std.specs.Io.KnownBytes.{Appends}
use Rattle.std.proofs.KnownBytes.{Appends-trans}
use Rattle.ale_base.specs.Faults.{Rose}
use Rattle.std.proofs.Math.Seq.{take-append-add}
use Rattle.ale_io.specs.Written.{AppendsFront}
use Rattle.dist_model.specs.declared.lists.Lists.{Lists}
use Rattle.runs.specs.declared.run_end.RunEnd.{RunEnd}
use Rattle.runs.specs.declared.run_end.RunEnd.TheVariants as end
use Rattle.runs.specs.Turns.{Turn, text_of}
use Rattle.runs.specs.Text.{shown}
use Rattle.runs.specs.Put.{IsPut, IsPart, IsCut, IsPutAt}
use Rattle.runs.proofs.RunLemmas.{IsPut-then, text_of-push}
use Rattle.ale_host.specs.EndsSo.{IsFront}
use Rattle.ale_host.specs.Running.{EndsWith, IsSure}
use Rattle.ale_host.specs.Closing.{IsClosed, IsUnwritten}

le-add : (m n : ℕ) → m ≤ m + n
le-add m n = omega arith

module _ (model : Lists) (old new : Option (List ℕ)) (faults faults_new : ℕ) where
  unwritten-of : (its : RunEnd) → its ≢ end.WriteFailed → (status : ℕ) (line : List ℕ) → EndsWith model its status line → IsPart old new faults faults_new line
      → IsUnwritten model its old new faults faults_new
  unwritten-of end.Whole other status line ends part = (status, (line, ends, part))
  unwritten-of (end.DownByFault system) other status line ends part = (status, (line, ends, part))
  unwritten-of (end.DownFull system size) other status line ends part = (status, (line, ends, part))
  unwritten-of (end.Changed system number) other status line ends part = (status, (line, ends, part))
  unwritten-of end.WriteFailed other status line ends part = absurd (other refl)
  unwritten-of end.OutOfMemory other status line ends part = (status, (line, ends, part))

  -- a line that is put closes a run
  pub closed-put : (its : RunEnd) → its ≢ end.WriteFailed → (status result : ℕ) (line : List ℕ) → EndsWith model its status line
      → (result ≢ 6 → (result ≡ status) × Appends old new line × (faults_new ≡ faults)) → (result ≡ 6 → Rose faults faults_new × AppendsFront old new line)
      → IsClosed model its result old new faults faults_new
  closed-put its other status result line ends taken failed = record {
    whole = λ not_6. let put = taken not_6 in (line, subst (λ n. EndsWith model its n line) (sym put.0) ends, record { appends = put.1; quiet = put.2 });
    part = λ is_6. let put = failed is_6 in unwritten-of its other status line ends (record { appends = put.1; rose = put.0 });
    unwritten = λ same. absurd (other same);
  }

module _ {V : Type 0} (model : Lists) (a b c : Option (List ℕ)) (faults faults_b faults_c : ℕ) (turns : List (Turn V)) (status : ℕ) where
  -- the text of a run was put whole, and its last line too
  abbrev Whole : RunEnd → Type 0
  Whole its = (line : List ℕ) × EndsWith model its status line × IsSure its turns (text_of turns) × IsPut a c faults faults_c (text_of turns ++ line)

  pub whole-put : (its : RunEnd) → IsPutAt its a b faults faults_b turns → IsClosed model its status b c faults_b faults_c → status ≢ 6 → Whole its
  whole-put end.Whole put closed not_6 = let last = closed.whole not_6 in
      (last.0, last.1, refl, IsPut-then a b c faults faults_b faults_c (text_of turns) last.0 put last.2)
  whole-put (end.DownByFault system) put closed not_6 = let last = closed.whole not_6 in
      (last.0, last.1, refl, IsPut-then a b c faults faults_b faults_c (text_of turns) last.0 put last.2)
  whole-put (end.DownFull system size) put closed not_6 = let last = closed.whole not_6 in
      (last.0, last.1, refl, IsPut-then a b c faults faults_b faults_c (text_of turns) last.0 put last.2)
  whole-put (end.Changed system number) put closed not_6 = let last = closed.whole not_6 in
      (last.0, last.1, refl, IsPut-then a b c faults faults_b faults_c (text_of turns) last.0 put last.2)
  whole-put end.WriteFailed put closed not_6 = absurd (not_6 (closed.unwritten refl))
  whole-put end.OutOfMemory put closed not_6 = let last = closed.whole not_6 in
      (last.0, last.1, refl, IsPut-then a b c faults faults_b faults_c (text_of turns) last.0 put last.2)

  -- a front of the text of a run was put, or a front of its last line behind it
  abbrev Part : RunEnd → Type 0
  Part its = (its_status : ℕ) × ((line : List ℕ) × ((sure : List ℕ) × EndsWith model its its_status line × IsSure its turns sure
      × IsFront a c faults faults_c (text_of turns ++ line) sure))

  -- the text of all turns was put, and a front of the last line
  with-line : (line : List ℕ) → IsPut a b faults faults_b (text_of turns) → IsPart b c faults_b faults_c line
      → IsFront a c faults faults_c (text_of turns ++ line) (text_of turns)
  with-line line put part = record {
    count = length (text_of turns) + part.appends.0;
    least = le-add (length (text_of turns)) part.appends.0;
    appends = subst (Appends a c) (sym (take-append-add (text_of turns) line part.appends.0))
        (Appends-trans a b c (text_of turns) (take part.appends.0 line) put.appends part.appends.1);
    rose = subst (λ n. Rose n faults_c) put.quiet part.rose;
  }

  -- the text of the last turn was not taken whole
  cut-turn : (done : List (Turn V)) (last : Turn V) → turns ≡ done ++ last ∷ []
      → IsCut a b faults faults_b (text_of done) (shown last.command last.answered last.after) → IsPut b c faults_b faults_c []
      → IsFront a c faults faults_c (text_of turns ++ []) (text_of done)
  cut-turn done last is cut none = record {
    count = length (text_of done) + cut.count;
    least = le-add (length (text_of done)) cut.count;
    appends =
        subst (λ (text : List ℕ). Appends a c (take (length (text_of done) + cut.count) text))
        (sym (append-nil (text_of turns) ∙ ap text_of is ∙ text_of-push done last))
        (subst (Appends a c) (sym (take-append-add (text_of done) (shown last.command last.answered last.after) cut.count))
        (subst (Appends a c) (append-nil (text_of done ++ take cut.count (shown last.command last.answered last.after)))
        (Appends-trans a b c (text_of done ++ take cut.count (shown last.command last.answered last.after)) [] cut.appends none.appends)));
    rose = subst (λ n. Rose faults n) (sym none.quiet) cut.rose;
  }

  pub part-put : (its : RunEnd) → IsPutAt its a b faults faults_b turns → IsClosed model its status b c faults_b faults_c → status ≡ 6 → Part its
  part-put end.Whole put closed is_6 = let last = closed.part is_6 in (last.0, (last.1.0, (text_of turns, last.1.1, refl, with-line last.1.0 put last.1.2)))
  part-put (end.DownByFault system) put closed is_6 = let last = closed.part is_6 in
      (last.0, (last.1.0, (text_of turns, last.1.1, refl, with-line last.1.0 put last.1.2)))
  part-put (end.DownFull system size) put closed is_6 = let last = closed.part is_6 in
      (last.0, (last.1.0, (text_of turns, last.1.1, refl, with-line last.1.0 put last.1.2)))
  part-put (end.Changed system number) put closed is_6 = let last = closed.part is_6 in
      (last.0, (last.1.0, (text_of turns, last.1.1, refl, with-line last.1.0 put last.1.2)))
  part-put end.WriteFailed put closed is_6 =
      (6, ([], (text_of put.0, inl (refl, refl), (put.0, (put.1.0, put.1.1, refl)), cut-turn put.0 put.1.0 put.1.1 put.1.2 (closed.part is_6))))
  part-put end.OutOfMemory put closed is_6 = let last = closed.part is_6 in
      (last.0, (last.1.0, (text_of turns, last.1.1, refl, with-line last.1.0 put last.1.2)))

pub fault-other : (system : ℕ) → end.DownByFault system ≢ end.WriteFailed
fault-other system = λ same. absurd (cc)

pub full-other : (system size : ℕ) → end.DownFull system size ≢ end.WriteFailed
full-other system size = λ same. absurd (cc)

pub changed-other : (system number : ℕ) → end.Changed system number ≢ end.WriteFailed
changed-other system number = λ same. absurd (cc)

pub short-other : end.OutOfMemory ≢ end.WriteFailed
short-other = λ same. absurd (cc)

none-rose : Rose 0 0 → ⊥
none-rose rose = let more : 0 < 0 = rose (λ same. omega (arith, same)) in omega (arith, more)

-- where no write can fail none did
pub none-failed : {V : Type 0} (its : RunEnd) (before after : Option (List ℕ)) (turns : List (Turn V)) → IsPutAt its before after 0 0 turns
    → its ≢ end.WriteFailed
none-failed end.Whole before after turns put = λ same. absurd (cc)
none-failed (end.DownByFault system) before after turns put = fault-other system
none-failed (end.DownFull system size) before after turns put = full-other system size
none-failed (end.Changed system number) before after turns put = changed-other system number
none-failed end.OutOfMemory before after turns put = short-other
none-failed end.WriteFailed before after turns put = absurd (none-rose put.1.2.rose)
