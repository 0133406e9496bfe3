-- What the lists keep where a unit is written and stays in its queues.
use Rattle.std.specs.Prelude.{slice_get, slice_set}
use Rattle.std.specs.Option.{is_none}
use Rattle.std.proofs.Common.{◌≡◌, ◌≤◌, ℕ, true, false, Option, Some, None, List, length, inl, inr, refl, sym, ap, subst, ◌∙◌}
use Rattle.std.proofs.lemmas.Bool.Decides.{eqb_tells}
use Rattle.std.proofs.lemmas.List.{length-set}
use Rattle.multi_queue.specs.declared.board.Board.{Board}
use Rattle.multi_queue.specs.declared.entry.Entry.{Entry}
use Rattle.multi_queue.specs.declared.entry.Lane.{Lane}
use Rattle.multi_queue.specs.Counted.{IsCounted, AreKept, HeadsAll, count_but, differ, has}
use Rattle.multi_queue.specs.Seen.{number_of, IsPlaced, IsQueues}
use Rattle.multi_queue.proofs.CountedLemmas.{set-here, set-there, standing-same}
use Rattle.multi_queue.proofs.SeenLemmas.{IsFlag}

-- the unit that was at a place before, and all that it has still
record Was (units : List Entry) (r : ℕ) (x : Entry) : Type 0 where
  unit : Entry
  stood : slice_get units r ≡ Some unit
  flag : IsFlag unit x

flag-back : (units : List Entry) (p r : ℕ) (u v x : Entry) → slice_get units p ≡ Some u → IsFlag u v → slice_get (slice_set units p v) r ≡ Some x →
    Was units r x
flag-back units p r u v x got flag now = elim (eqb_tells p r) [
  | inl e ↦
      let same : v ≡ x = cc (set-here units p u v got, now, e.1) in
      record { unit = u; stood = subst (λ i. slice_get units i ≡ Some u) e.1 got; flag = subst (λ (y : Entry). IsFlag u y) same flag }
  | inr e ↦ record { unit = x; stood = sym (set-there units p r v e.1) ∙ now; flag = record { tid = refl; queues = refl; live = refl } }
]

-- the unit that was at a place before, and the queues that it has still
record WasIn (units : List Entry) (r : ℕ) (x : Entry) : Type 0 where
  unit : Entry
  stood : slice_get units r ≡ Some unit
  queues : x.queues ≡ unit.queues

back-in : (units : List Entry) (p r : ℕ) (u v x : Entry) → slice_get units p ≡ Some u → v.queues ≡ u.queues → slice_get (slice_set units p v) r ≡ Some x →
    WasIn units r x
back-in units p r u v x got same now = elim (eqb_tells p r) [
  | inl e ↦
      let here : v ≡ x = cc (set-here units p u v got, now, e.1) in
      record { unit = u; stood = subst (λ i. slice_get units i ≡ Some u) e.1 got; queues = ap (λ (y : Entry). y.queues) (sym here) ∙ same }
  | inr e ↦ record { unit = x; stood = sym (set-there units p r v e.1) ∙ now; queues = refl }
]

-- the counts do not change where a unit stays in its queues
pub same-counted : (units : List Entry) (lanes : List Lane) (heads : List ℕ) (p : ℕ) (u v : Entry) → slice_get units p ≡ Some u → v.queues ≡ u.queues
    → IsCounted None units lanes heads → IsCounted None (slice_set units p v) lanes heads
same-counted units lanes heads p u v got same it = record {
  all = it.all ∙ sym (length-set units p v);
  lines = λ q w a. it.lines q w a ∙ sym (standing-same q 0 units p u v got (ap (λ l. has q l) same));
  counts = λ r x h a b. let y = back-in units p r u v x got same a in it.counts r y.unit h y.stood b ∙ ap (λ l. count_but None lanes r l) (sym y.queues);
  differ = λ r x a. let y = back-in units p r u v x got same a in ap (λ l. differ l) y.queues ∙ it.differ r y.unit y.stood;
  few = λ r x a. let y = back-in units p r u v x got same a in subst (λ (l : List ℕ). length l ≤ 8) (sym y.queues) (it.few r y.unit y.stood);
  known = λ r x q a b. let y = back-in units p r u v x got same a in it.known r y.unit q y.stood (ap (λ l. has q l) (sym y.queues) ∙ b);
}

pub flag-heads : (units : List Entry) (p r : ℕ) (u v : Entry) → slice_get units p ≡ Some u → IsFlag u v → HeadsAll r units → HeadsAll r (slice_set units p v)
flag-heads units p r u v got flag it = record {
  first = λ x q a h. let y = flag-back units p r u v x got flag a in
      ap (λ l. slice_get l 0) (standing-same q 0 units p u v got (ap (λ l. has q l) flag.queues))
      ∙ it.first y.unit q y.stood (ap (λ l. has q l) (sym y.flag.queues) ∙ h);
}

flag-placed : (units : List Entry) (places : ℕ × ℕ → Option ℕ) (p : ℕ) (u v : Entry) → slice_get units p ≡ Some u → IsFlag u v → IsPlaced units places →
    IsPlaced (slice_set units p v) places
flag-placed units places p u v got flag it = record {
  there = λ number r names.
      let old = it.there number r names in
      elim (eqb_tells p r) [
        | inl e ↦
            let same : u ≡ old.0 = cc (got, old.1, e.1) in (
              v,
              subst (λ i. slice_get (slice_set units p v) i ≡ Some v) e.1 (set-here units p u v got),
              ap number_of flag.tid
                  ∙ ap (λ (y : Entry). number_of y.tid) same ∙ old.2,
            )
        | inr e ↦ (old.0, set-there units p r v e.1 ∙ old.1, old.2)
      ];
  placed = λ r x a l. let y = flag-back units p r u v x got flag a in
      ap (λ t. places (number_of t)) y.flag.tid ∙ it.placed r y.unit y.stood (sym y.flag.live ∙ l);
}

-- a claim or a mark may be written where the board follows, and where a unit that is claimed then is live and heads its queues
pub flag-keeps : (units : List Entry) (lanes : List Lane) (board : Board) (units2 : List Entry) (lanes2 : List Lane) (board2 : Board)
    (places : ℕ × ℕ → Option ℕ) (names : ℕ × List ℕ → Option ℕ) (p : ℕ) (u v : Entry) → slice_get units p ≡ Some u → IsFlag u v
    → (is_none v.claim ≡ false → (u.live ≡ true) × HeadsAll p units)
    → IsQueues units lanes board places names → units2 ≡ slice_set units p v → lanes2 ≡ lanes → AreKept None units2 lanes2 board2
    → IsQueues units2 lanes2 board2 places names
flag-keeps units lanes board units2 lanes2 board2 places names p u v got flag claims it written same kept =
    subst (λ (l : List Entry). IsQueues l lanes2 board2 places names) (sym written)
    (subst (λ (l : List Lane). IsQueues (slice_set units p v) l board2 places names) (sym same) (record {
      kept = subst (λ (l : List Lane). AreKept None (slice_set units p v) l board2) same
          (subst (λ (l : List Entry). AreKept None l lanes2 board2) written kept);
      placed = flag-placed units places p u v got flag it.placed;
      named = it.named;
      gone = λ r x a l. let y = flag-back units p r u v x got flag a in y.flag.queues ∙ it.gone r y.unit y.stood (sym y.flag.live ∙ l);
      claims = λ r x a f. elim (eqb_tells p r) [
        | inl e ↦
            let same : v ≡ x = cc (set-here units p u v got, a, e.1) in
            let its = claims (subst (λ (y : Entry). is_none y.claim ≡ false) (sym same) f) in (
              ap (λ (y : Entry). y.live) (sym same) ∙ flag.live
                  ∙ its.0,
              subst (λ i. HeadsAll i (slice_set units p v)) e.1 (flag-heads units p p u v got flag its.1),
            )
        | inr e ↦
            let old = it.claims r x (sym (set-there units p r v e.1) ∙ a) f in
            (old.0, flag-heads units p r u v got flag old.1)
      ];
    }))
