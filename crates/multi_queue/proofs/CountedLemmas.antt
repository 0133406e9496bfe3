use Rattle.std.proofs.Common.{◌≡◌, ◌≢◌, ◌<◌, ◌+◌, ◌-◌, ℕ, Bool, true, false, is_some, find, filter, not, ◌&&◌, ◌||◌, eqb, cond, Option, Some, None, List, []}
use Rattle.std.proofs.Common.{◌∷◌, ◌++◌, length, take, drop, get_or, slice_get, slice_set, refl, suc, sym, zero, ap, ◌∙◌, arith, ◌≤◌, subst, zero-add}
use Rattle.std.specs.Option.{is_none}
use Rattle.std.proofs.lemmas.Option.{slice_get_within}
use native.Mathlib.Numerals.{unary_clauses}
use Rattle.std.proofs.lemmas.List.{length-set, length-take-le, length-append}
use Rattle.std.proofs.Math.Seq.{take-append_seam}
use Rattle.std.proofs.Common.{◌⊎◌, inl, inr}
use Rattle.std.proofs.lemmas.Bool.{eq-eqb}
use Rattle.std.proofs.lemmas.Bool.Decides.{eqb_tells}
use Rattle.std.proofs.lemmas.Grind.{common_steps}
use Rattle.ale_base.proofs.ListLemmas.{slice_get-within}
use Rattle.multi_queue.specs.declared.board.Board.{Board}
use Rattle.multi_queue.specs.declared.entry.Entry.{Entry}
use Rattle.multi_queue.specs.declared.entry.Lane.{Lane}
use Rattle.multi_queue.specs.Counted.{has, differ, standing, is_first, tells, is_but, count_but, IsCounted, cut, HeadsAll, cost, cost_at, cost_of, looks}
use Rattle.multi_queue.specs.Counted.{Leaves, IsCut, Leaving, left_at, left_of, is_closed, first_closed, first_closed_of, is_live, is_in, is_ready, IsBoardBut}
use Rattle.multi_queue.specs.Counted.{IsClaimedAt, KeepsLanes, Parting, IsLastDead, Joined, IsIn}

-- what is not in the list is counted alike
pub count-absent : (b : ℕ) (lanes : List Lane) (p : ℕ) (qs : List ℕ) → has b qs ≡ false → count_but None lanes p qs ≡ count_but (Some b) lanes p qs
count-absent b lanes p [] h = refl
count-absent b lanes p (q ∷ qs) h = grind (arith, common_steps, count-absent b lanes p qs)

-- one queue counts once
pub count-one : (b : ℕ) (lanes : List Lane) (p : ℕ) (qs : List ℕ) → differ qs ≡ true
    → count_but None lanes p qs ≡ count_but (Some b) lanes p qs + cond (has b qs && tells p (slice_get lanes b)) 1 0
count-one b lanes p [] h = refl
count-one b lanes p (q ∷ qs) h = grind (arith, common_steps, count-one b lanes p qs, count-absent b lanes p qs)

pub set-here : {X : Type 0} (xs : List X) (i : ℕ) (x y : X) → slice_get xs i ≡ Some x → slice_get (slice_set xs i y) i ≡ Some y
set-here [] i x y h = absurd (cc)
set-here (z ∷ xs) zero x y h = refl
set-here (z ∷ xs) (suc i) x y h = set-here xs i x y h

pub set-there : {X : Type 0} (xs : List X) (i j : ℕ) (y : X) → i ≢ j → slice_get (slice_set xs i y) j ≡ slice_get xs j
set-there [] i j y h = refl
set-there (z ∷ xs) zero zero y h = absurd (h refl)
set-there (z ∷ xs) zero (suc j) y h = refl
set-there (z ∷ xs) (suc i) zero y h = refl
set-there (z ∷ xs) (suc i) (suc j) y h = set-there xs i j y (λ e. h (ap (λ n. suc n) e))

pub count-none : (b : ℕ) (lanes : List Lane) (p : ℕ) (qs : List ℕ) → differ qs ≡ true → tells p (slice_get lanes b) ≡ false
    → count_but None lanes p qs ≡ count_but (Some b) lanes p qs
count-none b lanes p qs d h = grind (arith, common_steps, count-one b lanes p qs d)

pub count-yes : (b : ℕ) (lanes : List Lane) (p : ℕ) (qs : List ℕ) → differ qs ≡ true → has b qs ≡ true → tells p (slice_get lanes b) ≡ true
    → count_but None lanes p qs ≡ count_but (Some b) lanes p qs + 1
count-yes b lanes p qs d h t = grind (arith, common_steps, count-one b lanes p qs d)

-- what a queue is does not matter where it does not count
pub count-other : (b : ℕ) (lanes : List Lane) (lane : Lane) (p : ℕ) (qs : List ℕ)
    → count_but (Some b) (slice_set lanes b lane) p qs ≡ count_but (Some b) lanes p qs
count-other b lanes lane p [] = refl
count-other b lanes lane p (q ∷ qs) =
    elim (eqb_tells b q) [
      | inl e ↦ rw e.0 (ap (λ n. 0 + n) (count-other b lanes lane p qs))
      | inr e ↦ rw (set-there lanes b q lane e.1) (ap (λ n. cond (not (eqb b q) && tells p (slice_get lanes q)) 1 0 + n) (count-other b lanes lane p qs))
    ]

pub get_here : (u : Entry) (us : List Entry) (p n : ℕ) → p ≡ n → slice_get (u ∷ us) (p - n) ≡ Some u
get_here u us p n h = let e : p - n ≡ 0 = omega arith in rw e refl

pub get_later : (u : Entry) (us : List Entry) (p n : ℕ) (v : Entry) → n + 1 ≤ p → slice_get us (p - (n + 1)) ≡ Some v → slice_get (u ∷ us) (p - n) ≡ Some v
get_later u us p n v le h = let e : p - n ≡ suc (p - (n + 1)) = omega arith in rw e h

-- the first of a queue stands there
pub first-stands : (q n : ℕ) (units : List Entry) (p : ℕ) → slice_get (standing q n units) 0 ≡ Some p
    → (u : Entry) × ((n ≤ p) × (slice_get units (p - n) ≡ Some u) × (has q u.queues ≡ true))
first-stands q n [] p h = absurd (cc)
first-stands q n (u ∷ us) p h =
    elim (has q u.queues) as (λ b. has q u.queues ≡ b → slice_get (cond b (n ∷ standing q (n + 1) us) (standing q (n + 1) us)) 0 ≡ Some p
    → (v : Entry) × ((n ≤ p) × (slice_get (u ∷ us) (p - n) ≡ Some v) × (has q v.queues ≡ true))) [
      | true ↦ λ e g. let same : n ≡ p = cc in (u, (omega arith, get_here u us p n (omega arith), e))
      | false ↦ λ e g. let below = first-stands q
          (n + 1) us p g in (below.0, (omega (arith, below.1.0), get_later u us p n below.0 below.1.0 below.1.1, below.1.2))
    ] refl h

-- where a queue counts for nobody, it counts alike
pub none-counts : (q : ℕ) (units : List Entry) (lanes : List Lane) (heads : List ℕ)
    → ((p : ℕ) → tells p (slice_get lanes q) ≡ false) → IsCounted None units lanes heads → IsCounted (Some q) units lanes heads
none-counts q units lanes heads none it = record {
  all = it.all;
  lines = it.lines;
  differ = it.differ;
  few = it.few;
  known = it.known;
  counts = λ p u h a b. let one = count-none q lanes p u.queues (it.differ p u a) (none p) in it.counts p u h a b ∙ one;
}

pub none-counts_back : (q : ℕ) (units : List Entry) (lanes : List Lane) (heads : List ℕ)
    → ((p : ℕ) → tells p (slice_get lanes q) ≡ false) → IsCounted (Some q) units lanes heads → IsCounted None units lanes heads
none-counts_back q units lanes heads none it = record {
  all = it.all;
  lines = it.lines;
  differ = it.differ;
  few = it.few;
  known = it.known;
  counts = λ p u h a b. let one = count-none q lanes p u.queues (it.differ p u a) (none p) in it.counts p u h a b ∙ sym one;
}

pub first-none : (b : Bool) (line : List ℕ) (p : ℕ) → slice_get line 0 ≡ None → (not b && is_first p line) ≡ false
first-none b [] p e = grind arith
first-none b (x ∷ xs) p e = absurd (cc)

tells-no : (lane : Lane) → lane.stopped ≡ true ⊎ (slice_get lane.line 0 ≡ None) → (p : ℕ) → tells p (Some lane) ≡ false
tells-no lane (inl e) p = rw e refl
tells-no lane (inr e) p = first-none lane.stopped lane.line p e

pub first-is : (line : List ℕ) (p r : ℕ) → slice_get line 0 ≡ Some p → is_first r line ≡ eqb r p
first-is [] p r h = absurd (cc)
first-is (x ∷ xs) p r h = let e : x ≡ p = cc in rw e refl

-- a closed queue, or one with no unit
pub closed-counts : (q : ℕ) (units : List Entry) (lanes : List Lane) (heads : List ℕ) (lane : Lane) → slice_get lanes q ≡ Some lane
    → lane.stopped ≡ true ⊎ (slice_get lane.line 0 ≡ None) → IsCounted None units lanes heads → IsCounted (Some q) units lanes heads
closed-counts q units lanes heads lane got closed it = none-counts q units lanes heads (λ p. rw got (tells-no lane closed p)) it

pub closed-counts_back : (q : ℕ) (units : List Entry) (lanes : List Lane) (heads : List ℕ) (lane : Lane) → slice_get lanes q ≡ Some lane
    → lane.stopped ≡ true ⊎ (slice_get lane.line 0 ≡ None) → IsCounted (Some q) units lanes heads → IsCounted None units lanes heads
closed-counts_back q units lanes heads lane got closed it = none-counts_back q units lanes heads (λ p. rw got (tells-no lane closed p)) it

pub count-le : (but : Option ℕ) (lanes : List Lane) (p : ℕ) (qs : List ℕ) → count_but but lanes p qs ≤ length qs
count-le but lanes p [] = omega arith
count-le but lanes p (q ∷ qs) = grind (arith, common_steps, count-le but lanes p qs)

-- the first unit of an open queue
pub record Fronts (q : ℕ) (units : List Entry) (lanes : List Lane) (p : ℕ) : Type 0 where
  pub unit : Entry
  pub stands : slice_get units p ≡ Some unit
  pub has_q : has q unit.queues ≡ true
  pub tells_only : (r : ℕ) → tells r (slice_get lanes q) ≡ eqb r p

pub fronts : (but : Option ℕ) (q : ℕ) (units : List Entry) (lanes : List Lane) (heads : List ℕ) (lane : Lane) (p : ℕ) → slice_get lanes q ≡ Some lane
    → lane.stopped ≡ false → slice_get lane.line 0 ≡ Some p → IsCounted but units lanes heads → Fronts q units lanes p
fronts but q units lanes heads lane p got moves h it =
    let line = it.lines q lane got in
    let stands = first-stands q 0 units p (ap (λ l. slice_get l 0) (sym line) ∙ h) in
    record {
      unit = stands.0;
      stands = simp unary_clauses at stands.1.1;
      has_q = stands.1.2;
      tells_only = λ r. rw got (rw moves (first-is lane.line p r h));
    }

pub lowered : (q : ℕ) (units : List Entry) (lanes : List Lane) (heads : List ℕ) (p h : ℕ) → Fronts q units lanes p → slice_get heads p ≡ Some h
    → IsCounted None units lanes heads → (1 ≤ h) × IsCounted (Some q) units lanes (slice_set heads p (h - 1))
lowered q units lanes heads p h at got it =
    let this = it.counts p at.unit h at.stands got in
    let one = count-yes q lanes p at.unit.queues (it.differ p at.unit at.stands) at.has_q (at.tells_only p ∙ eq-eqb p p refl) in (
      omega arith,
      record {
        all = length-set heads p (h - 1) ∙ it.all;
        lines = it.lines;
        differ = it.differ;
        few = it.few;
        known = it.known;
        counts = λ r u k a b. elim (eqb_tells r p) [
          | inl e ↦
              let here = set-here heads p h (h - 1) got in
              let eu : at.unit ≡ u = cc (at.stands, a, e.1) in
              let ek : k ≡ h - 1 = cc (here, b, e.1) in
              let now : k ≡ count_but (Some q) lanes p at.unit.queues = omega (arith, this, one, ek) in
              subst (λ v. k ≡ count_but (Some q) lanes r (v.queues)) eu (subst (λ v. k ≡ count_but (Some q) lanes v at.unit.queues) (sym e.1) now)
          | inr e ↦
              let old = it.counts r u k a (sym (set-there heads p r (h - 1) (λ i. e.1 (sym i))) ∙ b) in
              old ∙ count-none q lanes r u.queues (it.differ r u a) (at.tells_only r ∙ e.0)
        ];
      },
    )

pub raised : (q : ℕ) (units : List Entry) (lanes : List Lane) (heads : List ℕ) (p h : ℕ) → Fronts q units lanes p → slice_get heads p ≡ Some h
    → IsCounted (Some q) units lanes heads → (h < 8) × IsCounted None units lanes (slice_set heads p (h + 1))
raised q units lanes heads p h at got it =
    let this = it.counts p at.unit h at.stands got in
    let one = count-yes q lanes p at.unit.queues (it.differ p at.unit at.stands) at.has_q (at.tells_only p ∙ eq-eqb p p refl) in (
      omega (arith, this, one, count-le None lanes p at.unit.queues, it.few p at.unit at.stands),
      record {
        all = length-set heads p (h + 1) ∙ it.all;
        lines = it.lines;
        differ = it.differ;
        few = it.few;
        known = it.known;
        counts = λ r u k a b. elim (eqb_tells r p) [
          | inl e ↦
              let here = set-here heads p h (h + 1) got in
              let eu : at.unit ≡ u = cc (at.stands, a, e.1) in
              let ek : k ≡ h + 1 = cc (here, b, e.1) in
              let now : k ≡ count_but None lanes p at.unit.queues = omega (arith, this, one, ek) in
              subst (λ v. k ≡ count_but None lanes r (v.queues)) eu (subst (λ v. k ≡ count_but None lanes v at.unit.queues) (sym e.1) now)
          | inr e ↦
              let old = it.counts r u k a (sym (set-there heads p r (h + 1) (λ i. e.1 (sym i))) ∙ b) in
              old ∙ sym (count-none q lanes r u.queues (it.differ r u a) (at.tells_only r ∙ e.0))
        ];
      },
    )

pub standing-same : (q n : ℕ) (units : List Entry) (p : ℕ) (u v : Entry) → slice_get units p ≡ Some u → has q v.queues ≡ has q u.queues
    → standing q n (slice_set units p v) ≡ standing q n units
standing-same q n [] p u v got same = refl
standing-same q n (x ∷ xs) zero u v got same = let e : x ≡ u = cc in rw e (rw same refl)
standing-same q n (x ∷ xs) (suc p) u v got same = rw (standing-same q (n + 1) xs p u v got same) refl

pub standing-gone : (q n : ℕ) (units : List Entry) (p : ℕ) (u v : Entry) → slice_get units p ≡ Some u → has q v.queues ≡ false
    → slice_get (standing q n units) 0 ≡ Some (n + p) → standing q n (slice_set units p v) ≡ drop 1 (standing q n units)
standing-gone q n [] p u v got gone first = refl
standing-gone q n (x ∷ xs) zero u v got gone first = rw gone (
    elim (has q x.queues) as (λ b. slice_get (cond b (n ∷ standing q (n + 1) xs) (standing q (n + 1) xs)) 0 ≡ Some (n + 0)
    → standing q (n + 1) xs ≡ drop 1 (cond b (n ∷ standing q (n + 1) xs) (standing q (n + 1) xs))) [
      | true ↦ λ h. refl
      | false ↦ λ h. absurd (let later = first-stands q (n + 1) xs (n + 0) h in omega (arith, later.1.0))
    ] first)
standing-gone q n (x ∷ xs) (suc p) u v got gone first =
    elim (has q x.queues) as (λ b. slice_get (cond b (n ∷ standing q (n + 1) xs) (standing q (n + 1) xs)) 0 ≡ Some (n + suc p)
    → cond b (n ∷ standing q (n + 1) (slice_set xs p v)) (standing q (n + 1) (slice_set xs p v))
    ≡ drop 1 (cond b (n ∷ standing q (n + 1) xs) (standing q (n + 1) xs))) [
      | true ↦ λ h. absurd (let e : n ≡ n + suc p = cc in omega arith)
      | false ↦ λ h. let e : n + suc p ≡ n + 1 + p = omega arith in standing-gone q (n + 1) xs p u v got gone (h ∙ ap (λ i. Some i) e)
    ] first

-- a unit and a queue changed together, where the queue does not count
pub record Changes (q p : ℕ) (units : List Entry) (lanes : List Lane) (u v : Entry) (w : Lane) : Type 0 where
  pub unit : slice_get units p ≡ Some u
  pub others : (r : ℕ) → q ≢ r → has r v.queues ≡ has r u.queues
  pub count : count_but (Some q) lanes p v.queues ≡ count_but (Some q) lanes p u.queues
  pub differ : differ v.queues ≡ true
  pub few : length v.queues ≤ 8
  pub known : (r : ℕ) → has r v.queues ≡ true → r < length lanes
  pub line : w.line ≡ standing q 0 (slice_set units p v)

pub changed : (q p : ℕ) (units : List Entry) (lanes : List Lane) (heads : List ℕ) (u v : Entry) (old w : Lane) → slice_get lanes q ≡ Some old
    → Changes q p units lanes u v w → IsCounted (Some q) units lanes heads → IsCounted (Some q) (slice_set units p v) (slice_set lanes q w) heads
changed q p units lanes heads u v old w got to it = record {
  all = it.all ∙ sym (length-set units p v);
  lines = λ r x a. elim (eqb_tells q r) [
    | inl e ↦
        let here = set-here lanes q old w got in
        let same : w ≡ x = cc (here, a, e.1) in
        subst (λ i. x.line ≡ standing i 0 (slice_set units p v)) e.1 (subst (λ (y : Lane). y.line ≡ standing q 0 (slice_set units p v)) same to.line)
    | inr e ↦ it.lines r x (sym (set-there lanes q r w e.1) ∙ a) ∙ sym (standing-same r 0 units p u v to.unit (to.others r e.1))
  ];
  counts = λ r x k a b. elim (eqb_tells p r) [
    | inl e ↦
        let same : v ≡ x = cc (set-here units p u v to.unit, a, e.1) in
        let old_count = it.counts p u k to.unit (subst (λ i. slice_get heads i ≡ Some k) (sym e.1) b) in
        let new = old_count ∙ sym to.count ∙ sym (count-other q lanes w p v.queues) in
        subst (λ (y : Entry). k ≡ count_but (Some q) (slice_set lanes q w) r y.queues) same
        (subst (λ i. k ≡ count_but (Some q) (slice_set lanes q w) i v.queues) e.1 new)
    | inr e ↦ it.counts r x k (sym (set-there units p r v e.1) ∙ a) b ∙ sym (count-other q lanes w r x.queues)
  ];
  differ = λ r x a. elim (eqb_tells p r) [
    | inl e ↦ let same : v ≡ x = cc (set-here units p u v to.unit, a, e.1) in subst (λ (y : Entry). differ y.queues ≡ true) same to.differ
    | inr e ↦ it.differ r x (sym (set-there units p r v e.1) ∙ a)
  ];
  few = λ r x a. elim (eqb_tells p r) [
    | inl e ↦ let same : v ≡ x = cc (set-here units p u v to.unit, a, e.1) in subst (λ (y : Entry). length y.queues ≤ 8) same to.few
    | inr e ↦ it.few r x (sym (set-there units p r v e.1) ∙ a)
  ];
  known = λ r x i a b. elim (eqb_tells p r) [
    | inl e ↦
        let same : v ≡ x = cc (set-here units p u v to.unit, a, e.1) in
        let h = subst (λ (y : Entry). has i y.queues ≡ true) (sym same) b in
        omega (arith, to.known i h, length-set lanes q w)
    | inr e ↦ omega (arith, it.known r x i (sym (set-there units p r v e.1) ∙ a) b, length-set lanes q w)
  ];
}

-- the queue alone
pub changed-lane : (q : ℕ) (units : List Entry) (lanes : List Lane) (heads : List ℕ) (old w : Lane) → slice_get lanes q ≡ Some old → w.line ≡ old.line
    → IsCounted (Some q) units lanes heads → IsCounted (Some q) units (slice_set lanes q w) heads
changed-lane q units lanes heads old w got same_line it = record {
  all = it.all;
  differ = it.differ;
  few = it.few;
  known = λ r x i a b. omega (arith, it.known r x i a b, length-set lanes q w);
  lines = λ r x a. elim (eqb_tells q r) [
    | inl e ↦
        let same : w ≡ x = cc (set-here lanes q old w got, a, e.1) in
        subst (λ i. x.line ≡ standing i 0 units) e.1 (subst (λ (y : Lane). y.line ≡ standing q 0 units) same (same_line ∙ it.lines q old got))
    | inr e ↦ it.lines r x (sym (set-there lanes q r w e.1) ∙ a)
  ];
  counts = λ r x k a b. it.counts r x k a b ∙ sym (count-other q lanes w r x.queues);
}

pub has-snoc : (r q : ℕ) (xs : List ℕ) → has r (xs ++ q ∷ []) ≡ (has r xs || eqb r q)
has-snoc r q [] = grind arith
has-snoc r q (x ∷ xs) = grind (arith, common_steps, has-snoc r q xs)

pub count-snoc : (q p : ℕ) (lanes : List Lane) (xs : List ℕ) → count_but (Some q) lanes p (xs ++ q ∷ []) ≡ count_but (Some q) lanes p xs
count-snoc q p lanes [] = grind (arith, common_steps)
count-snoc q p lanes (x ∷ xs) = ap (λ n. cond (not (is_but (Some q) x) && tells p (slice_get lanes x)) 1 0 + n) (count-snoc q p lanes xs)

pub differ-snoc : (q : ℕ) (xs : List ℕ) → differ (xs ++ q ∷ []) ≡ true → (differ xs ≡ true) × (has q xs ≡ false)
differ-snoc q [] h = (refl, refl)
differ-snoc q (x ∷ xs) h =
    let both : (has x (xs ++ q ∷ []) ≡ false) × (differ (xs ++ q ∷ []) ≡ true) = grind (arith, common_steps) in
    let rest = differ-snoc q xs both.1 in
    grind (arith, common_steps, has-snoc x q xs, both.0, rest.0, rest.1)

pub cutting : (q p : ℕ) (units : List Entry) (lanes : List Lane) (heads : List ℕ) (u : Entry) (old w : Lane) → slice_get lanes q ≡ Some old
    → slice_get units p ≡ Some u → u.queues ≡ take (length u.queues - 1) u.queues ++ q ∷ [] → slice_get (standing q 0 units) 0 ≡ Some p
    → w.line ≡ drop 1 old.line → IsCounted (Some q) units lanes heads → Changes q p units lanes u (cut u) w
cutting q p units lanes heads u old w got at_p ends first line it =
    let both = differ-snoc q (take (length u.queues - 1) u.queues) (ap (λ l. differ l) (sym ends) ∙ it.differ p u at_p) in
    record {
      unit = at_p;
      others = λ r ne. let e : eqb r q ≡ false = grind arith in sym (ap (λ l. has r l) ends ∙ has-snoc r q (take (length u.queues - 1) u.queues)
          ∙ rw e (grind arith));
      count = sym (ap (λ l. count_but (Some q) lanes p l) ends ∙ count-snoc q p lanes (take (length u.queues - 1) u.queues));
      differ = both.0;
      few = let f = it.few p u at_p in omega (arith, length-take-le (length u.queues - 1) u.queues);
      known = λ r h. it.known p u r at_p (ap (λ l. has r l) ends ∙ has-snoc r q (take (length u.queues - 1) u.queues) ∙ rw h refl);
      line = line ∙ ap (λ l. drop 1 l) (it.lines q old got)
          ∙ sym (standing-gone q 0 units p u (cut u) at_p both.1 (first ∙ ap (λ i. Some i) (sym (zero-add p))));
    }

pub has-last : (q : ℕ) (xs : List ℕ) → has q (xs ++ q ∷ []) ≡ true
has-last q xs = grind (arith, common_steps, has-snoc q q xs, eq-eqb q q refl)

pub has-ends : (u : Entry) (q : ℕ) → u.queues ≡ take (length u.queues - 1) u.queues ++ q ∷ [] → has q u.queues ≡ true
has-ends u q ends = ap (λ l. has q l) ends ∙ has-last q (take (length u.queues - 1) u.queues)

pub record Cuts (q p : ℕ) (units : List Entry) (u : Entry) : Type 0 where
  pub unit : slice_get units p ≡ Some u
  pub ends : u.queues ≡ take (length u.queues - 1) u.queues ++ q ∷ []
  pub apart : has q (take (length u.queues - 1) u.queues) ≡ false

pub cut-same : (q p r : ℕ) (units : List Entry) (u : Entry) → Cuts q p units u → has r (cut u).queues ≡ true
    → standing r 0 (slice_set units p (cut u)) ≡ standing r 0 units
cut-same q p r units u cuts h =
    standing-same r 0 units p u (cut u) cuts.unit (h ∙ sym (ap (λ l. has r l) cuts.ends ∙ has-snoc r q (take (length u.queues - 1) u.queues) ∙ rw h refl))

pub cut-heads : (q p : ℕ) (units : List Entry) (u : Entry) → Cuts q p units u → HeadsAll p units → HeadsAll p (slice_set units p (cut u))
cut-heads q p units u cuts all = record {
  first = λ v r got h.
      let same : cut u ≡ v = cc (set-here units p u (cut u) cuts.unit, got) in
      let k = subst (λ (y : Entry). has r y.queues ≡ true) (sym same) h in
      ap (λ l. slice_get l 0) (cut-same q p r units u cuts k)
      ∙ all.first u r cuts.unit (ap (λ l. has r l) cuts.ends ∙ has-snoc r q (take (length u.queues - 1) u.queues) ∙ rw k refl);
}

pub cost-snoc : (units : List Entry) (q : ℕ) (xs : List ℕ) →
    cost units (xs ++ q ∷ []) ≡ cost units xs + (1 + cond (is_some (slice_get (standing q 0 units) 1)) 1 0)
cost-snoc units q [] = omega arith
cost-snoc units q (x ∷ xs) = omega (arith, cost-snoc units q xs)

pub cost-same : (units units2 : List Entry) (xs : List ℕ) → ((r : ℕ) → has r xs ≡ true → standing r 0 units2 ≡ standing r 0 units) →
    cost units2 xs ≡ cost units xs
cost-same units units2 [] h = refl
cost-same units units2 (x ∷ xs) h =
    let here = h x (rw (eq-eqb x x refl) refl) in
    let rest = cost-same units units2 xs (λ r k. h r (rw k (grind arith))) in
    rw here (ap (λ n. 1 + cond (is_some (slice_get (standing x 0 units) 1)) 1 0 + n) rest)

pub get-drop_one : (xs : List ℕ) → slice_get (drop 1 xs) 0 ≡ slice_get xs 1
get-drop_one [] = refl
get-drop_one (x ∷ xs) = refl

pub cut-cost : (q p : ℕ) (units : List Entry) (u : Entry) → Cuts q p units u → HeadsAll p units
    → 1 + looks q (slice_set units p (cut u)) + cost_at p (slice_set units p (cut u)) ≡ cost_at p units
cut-cost q p units u cuts all =
    let rest = take (length u.queues - 1) u.queues in
    let first = all.first u q cuts.unit (has-ends u q cuts.ends) in
    let gone = standing-gone q 0 units p u (cut u) cuts.unit cuts.apart (first ∙ ap (λ i. Some i) (sym (zero-add p))) in
    let look : looks q (slice_set units p (cut u)) ≡ cond (is_some (slice_get (standing q 0 units) 1)) 1 0 =
    ap (λ l. cond (is_some (slice_get l 0)) 1 0) gone ∙ ap (λ o. cond (is_some o) 1 0) (get-drop_one (standing q 0 units)) in
    let after : cost_at p (slice_set units p (cut u)) ≡ cost (slice_set units p (cut u)) rest =
    ap (λ o. cost_of (slice_set units p (cut u)) o) (set-here units p u (cut u) cuts.unit) in
    let same = cost-same units (slice_set units p (cut u)) rest (λ r h. cut-same q p r units u cuts h) in
    let before : cost_at p units ≡ cost units u.queues = ap (λ o. cost_of units o) cuts.unit in
    let split = ap (λ l. cost units l) cuts.ends ∙ cost-snoc units q rest in
    omega (arith, look, after, same, before, split)

pub cuts : (but : Option ℕ) (q p : ℕ) (units : List Entry) (lanes : List Lane) (heads : List ℕ) (u : Entry) → slice_get units p ≡ Some u
    → u.queues ≡ take (length u.queues - 1) u.queues ++ q ∷ [] → IsCounted but units lanes heads → Cuts q p units u
cuts but q p units lanes heads u at_p ends it = record {
  unit = at_p;
  ends = ends;
  apart = (differ-snoc q (take (length u.queues - 1) u.queues) (ap (λ l. differ l) (sym ends) ∙ it.differ p u at_p)).1;
}

pub set-get : (units : List Entry) (p : ℕ) (u : Entry) → slice_get units p ≡ Some u → slice_set units p u ≡ units
set-get [] p u h = refl
set-get (x ∷ xs) zero u h = let e : x ≡ u = cc in rw e refl
set-get (x ∷ xs) (suc p) u h = ap (λ l. x ∷ l) (set-get xs p u h)

pub set-twice : (units : List Entry) (p : ℕ) (u v : Entry) → slice_set (slice_set units p u) p v ≡ slice_set units p v
set-twice [] p u v = refl
set-twice (x ∷ xs) zero u v = refl
set-twice (x ∷ xs) (suc p) u v = ap (λ l. x ∷ l) (set-twice xs p u v)

pub leaves-none : (p : ℕ) (units : List Entry) → Leaves p units units
leaves-none p units = record { leaves = λ u got. (u.queues, sym (set-get units p u got)) }

pub leaves-more : (p : ℕ) (a b c : List Entry) → Leaves p a b → IsCut p b c → Leaves p a c
leaves-more p a b c some more = record {
  leaves = λ u got.
      let one = some.leaves u got in
      let v : Entry = record u { queues = one.0 } in
      let at_v : slice_get b p ≡ Some v = ap (λ l. slice_get l p) one.1 ∙ set-here a p u v got in
      let two = more.cuts v at_v in
      ((cut v).queues, two ∙ ap (λ l. slice_set l p (cut v)) one.1 ∙ set-twice a p v (cut v));
}

pub leaves-fewer : (q p : ℕ) (b c : List Entry) → Leaving q p b → IsCut p b c → left_at p c < left_at p b
leaves-fewer q p b c it more =
    let two = more.cuts it.unit it.stands in
    let after : left_at p c ≡ length (cut it.unit).queues = ap (λ l. left_of (slice_get l p)) two
    ∙ ap (λ o. left_of o) (set-here b p it.unit (cut it.unit) it.stands) in
    let before : left_at p b ≡ length it.unit.queues = ap (λ o. left_of o) it.stands in
    let some = ap (λ l. length l) it.ends ∙ length-append (take (length it.unit.queues - 1) it.unit.queues) (q ∷ []) in
    omega (arith, after, before, some)

pub join-under : (b : Bool) (n : ℕ) (xs : List ℕ) (m : ℕ) → cond b (n ∷ (xs ++ m ∷ [])) (xs ++ m ∷ []) ≡ cond b (n ∷ xs) xs ++ m ∷ []
join-under true n xs m = refl
join-under false n xs m = refl

pub snoc-differ : (q : ℕ) (xs : List ℕ) → has q xs ≡ false → differ xs ≡ true → differ (xs ++ q ∷ []) ≡ true
snoc-differ q [] h d = refl
snoc-differ q (x ∷ xs) h d = grind (arith, common_steps, snoc-differ q xs, has-snoc x q xs)

pub standing-joined : (q n : ℕ) (units : List Entry) (p : ℕ) (u v : Entry) → slice_get units p ≡ Some u → length units ≡ p + 1 → has q u.queues ≡ false →
    has q v.queues ≡ true
    → standing q n (slice_set units p v) ≡ standing q n units ++ (n + p) ∷ []
standing-joined q n [] p u v got last old new = absurd (cc)
standing-joined q n (x ∷ []) zero u v got last old new = let e : x ≡ u = cc in let z : n + 0
    ≡ n = omega arith in rw e (rw old (rw new (ap (λ i. i ∷ []) (sym z))))
standing-joined q n (x ∷ y ∷ ys) zero u v got last old new = absurd (omega arith)
standing-joined q n (x ∷ xs) (suc p) u v got last old new =
    let rest = standing-joined q (n + 1) xs p u v got (omega arith) old new in
    let e : n + 1 + p ≡ n + suc p = omega arith in
    rw rest (rw e (join-under (has q x.queues) n (standing q (n + 1) xs) (n + suc p)))

pub joining : (q p : ℕ) (units : List Entry) (lanes : List Lane) (heads : List ℕ) (u : Entry) (old w : Lane) → slice_get lanes q ≡ Some old → q < length lanes
    → slice_get units p ≡ Some u → length units ≡ p + 1 → has q u.queues ≡ false → length u.queues < 8
    → w.line ≡ old.line ++ p ∷ [] → IsCounted (Some q) units lanes heads → Changes q p units lanes u (record u { queues = u.queues ++ q ∷ [] }) w
joining q p units lanes heads u old w got known at_p last apart few line it = record {
  unit = at_p;
  others = λ r ne. let e : eqb r q ≡ false = grind arith in has-snoc r q u.queues ∙ rw e (grind arith);
  count = count-snoc q p lanes u.queues;
  differ = snoc-differ q u.queues apart (it.differ p u at_p);
  few = omega (arith, length-append u.queues (q ∷ []));
  known = λ r h. elim (eqb_tells r q) [
    | inl e ↦ omega (arith, e.1)
    | inr e ↦ it.known p u r at_p (sym (has-snoc r q u.queues ∙ rw e.0 (grind arith)) ∙ h)
  ];
  line = line ∙ ap (λ l. l ++ p ∷ []) (it.lines q old got) ∙ ap (λ i. standing q 0 units ++ i ∷ []) (sym (zero-add p))
      ∙ sym (standing-joined q 0 units p u (record u { queues = u.queues ++ q ∷ [] }) at_p last apart (has-last q u.queues));
}

pub open-all : (lanes : List Lane) (units : List Entry) (p : ℕ) (qs : List ℕ) →
    ((q : ℕ) → has q qs ≡ true → tells p (slice_get lanes q) ≡ not (is_closed lanes units p q))
    → (find (is_closed lanes units p) qs ≡ None → count_but None lanes p qs ≡ length qs) × (count_but None lanes p qs ≡ length qs →
    find (is_closed lanes units p) qs ≡ None)
open-all lanes units p [] h = (λ _. refl, λ _. refl)
open-all lanes units p (q ∷ qs) h =
    let here = h q (rw (eq-eqb q q refl) refl) in
    let rest = open-all lanes units p qs (λ r k. h r (rw k (grind arith))) in
    let most = count-le None lanes p qs in
    elim (is_closed lanes units p q) as (λ b. tells p (slice_get lanes q) ≡ not b →
    (cond b (Some q) (find (is_closed lanes units p) qs) ≡ None → count_but None lanes p (q ∷ qs) ≡ length (q ∷ qs)) × (count_but None lanes p (q ∷ qs)
    ≡ length (q ∷ qs) → cond b (Some q) (find (is_closed lanes units p) qs) ≡ None)) [
      | true ↦ λ e. (
        λ n. absurd (cc),
        λ m. absurd
            (let z : count_but None lanes p (q ∷ qs) ≡ 0 + count_but None lanes p qs = rw e refl in omega (arith, z, m, most)),
      )
      | false ↦ λ e. let z : count_but None lanes p (q ∷ qs) ≡ 1 + count_but None lanes p qs = rw e refl in
          (λ n. omega (arith, z, rest.0 n), λ m. rest.1 (omega (arith, z, m)))
    ] here

pub take-snoc : {X : Type 0} (xs : List X) (x : X) → take (length (xs ++ x ∷ []) - 1) (xs ++ x ∷ []) ≡ xs
take-snoc xs x = let e : length (xs ++ x ∷ []) - 1 ≡ length xs = omega (arith, length-append xs (x ∷ [])) in rw e (take-append_seam xs (x ∷ []))

pub de_morgan : (a b : Bool) → (not a && b) ≡ not (a || not b)
de_morgan true b = refl
de_morgan false true = refl
de_morgan false false = refl

pub closed-tells : (p q : ℕ) (units : List Entry) (lanes : List Lane) (heads : List ℕ) (u : Entry) → slice_get units p ≡ Some u →
    IsCounted None units lanes heads
    → has q u.queues ≡ true → tells p (slice_get lanes q) ≡ not (is_closed lanes units p q)
closed-tells p q units lanes heads u got it h =
    let lt = it.known p u q got h in
    let w = slice_get-within lanes q lt in
    let line = it.lines q w.0 w.1 in
    rw w.1 (rw line (de_morgan w.0.stopped (is_first p (standing q 0 units))))

pub open-is : (p : ℕ) (units : List Entry) (lanes : List Lane) (heads : List ℕ) (u : Entry) (h : ℕ) → slice_get units p ≡ Some u → slice_get heads p ≡ Some h
    → IsCounted None units lanes heads → (h ≡ length u.queues → first_closed lanes units p ≡ None) × (first_closed lanes units p ≡ None → h ≡ length u.queues)
open-is p units lanes heads u h got here it =
    let both = open-all lanes units p u.queues (λ q k. closed-tells p q units lanes heads u got it k) in
    let count = it.counts p u h got here in
    let e : first_closed lanes units p ≡ find (is_closed lanes units p) u.queues = ap (λ o. first_closed_of lanes units p o) got in
    (λ a. e ∙ both.1 (sym count ∙ a), λ b. count ∙ both.0 (sym e ∙ b))

pub has-at : (xs : List ℕ) (i : ℕ) → i < length xs → has (get_or xs i 0) xs ≡ true
has-at [] i h = absurd (omega arith)
has-at (x ∷ xs) zero h = rw (eq-eqb x x refl) refl
has-at (x ∷ xs) (suc i) h = rw (has-at xs i (omega arith)) (grind (arith, common_steps))

pub set-get_lane : (lanes : List Lane) (p : ℕ) (w : Lane) → slice_get lanes p ≡ Some w → slice_set lanes p w ≡ lanes
set-get_lane [] p w h = refl
set-get_lane (x ∷ xs) zero w h = let e : x ≡ w = cc in rw e refl
set-get_lane (x ∷ xs) (suc p) w h = ap (λ l. x ∷ l) (set-get_lane xs p w h)

pub skip-find : (q : ℕ) (x : Entry) (xs : List Entry) → has q x.queues ≡ false → find (is_in q) (cond x.live (x ∷ xs) xs) ≡ find (is_in q) xs
skip-find q x xs e = elim x.live as (λ b. find (is_in q) (cond b (x ∷ xs) xs) ≡ find (is_in q) xs) [ true ↦ rw e refl | false ↦ refl ]

-- the head of a queue by places is the first unit of it that is not finished: units from place n on
pub first-seen : (q n : ℕ) (units : List Entry) (p : ℕ) → ((v : Entry) (i : ℕ) → slice_get units i ≡ Some v → has q v.queues ≡ true → v.live ≡ true)
    → slice_get (standing q n units) 0 ≡ Some (n + p) → find (is_in q) (filter is_live units) ≡ slice_get units p
first-seen q n [] p live h = absurd (cc)
first-seen q n (x ∷ xs) p live h =
    elim (has q x.queues) as (λ b. has q x.queues ≡ b → slice_get (cond b (n ∷ standing q (n + 1) xs) (standing q (n + 1) xs)) 0 ≡ Some (n + p)
    → find (is_in q) (cond x.live (x ∷ filter is_live xs) (filter is_live xs)) ≡ slice_get (x ∷ xs) p) [
      | true ↦ λ e k. let z : p ≡ 0 = (let s : n ≡ n + p = cc in omega arith) in rw z (rw (live x 0 refl e) (rw e refl))
      | false ↦ λ e k.
          let below = first-stands q (n + 1) xs (n + p) k in
          let one : n + 1 + (p - 1) ≡ n + p = omega (arith, below.1.0) in
          let rest = first-seen q (n + 1) xs (p - 1) (λ v i g. live v (suc i) g) (k ∙ ap (λ i. Some i) (sym one)) in
          let back : p ≡ suc (p - 1) = omega (arith, below.1.0) in
          skip-find q x (filter is_live xs) e ∙ rest ∙ sym (ap (λ i. slice_get (x ∷ xs) i) back)
    ] refl h

pub apart-of : (p r : ℕ) → not (eqb p r) ≡ true → p ≢ r
apart-of p r h e = absurd (let t = eq-eqb p r e in cc (h, ap (λ b. not b) t))

pub board-heads : (p k : ℕ) (units : List Entry) (board : Board) → IsBoardBut None units board →
    IsBoardBut (Some p) units (record board { heads = slice_set board.heads p k })
board-heads p k units board it = record {
  tree = it.tree;
  fits = it.fits;
  room = it.room;
  all = length-set board.heads p k ∙ it.all;
  ready = λ r other small. it.ready r refl small ∙ sym (ap (λ o. is_ready (slice_get units r) o) (set-there board.heads p r k (apart-of p r other)));
}

pub board-units : (p : ℕ) (u : Entry) (units : List Entry) (board : Board) → IsBoardBut None units board → IsBoardBut (Some p) (slice_set units p u) board
board-units p u units board it = record {
  tree = it.tree;
  fits = it.fits;
  room = omega (arith, it.room, length-set units p u);
  all = it.all ∙ sym (length-set units p u);
  ready = λ r other small. it.ready r refl small ∙ sym (ap (λ o. is_ready o (slice_get board.heads r)) (set-there units p r u (apart-of p r other)));
}

-- a claimed unit, or one that is not live, is not offered, whatever its count is
pub claimed-busy : (u : Entry) (o : Option ℕ) → is_none u.claim ≡ false → is_ready (Some u) o ≡ false
claimed-busy u None busy = refl
claimed-busy u (Some h) busy = grind (arith, common_steps)

pub dead-idle : (u : Entry) (o : Option ℕ) → u.live ≡ false → is_ready (Some u) o ≡ false
dead-idle u None dead = refl
dead-idle u (Some h) dead = grind (arith, common_steps)

-- a unit that is not offered before or after may be changed
pub board-idle : (p : ℕ) (u v : Entry) (units : List Entry) (board : Board) → slice_get units p ≡ Some u
    → ((o : Option ℕ) → is_ready (Some u) o ≡ false) → ((o : Option ℕ) → is_ready (Some v) o ≡ false)
    → IsBoardBut None units board → IsBoardBut None (slice_set units p v) board
board-idle p u v units board got before after it = record {
  tree = it.tree;
  fits = it.fits;
  room = omega (arith, it.room, length-set units p v);
  all = it.all ∙ sym (length-set units p v);
  ready = λ r other small. elim (eqb_tells p r) [
    | inl e ↦
        let at_r : slice_get units r ≡ Some u = subst (λ i. slice_get units i ≡ Some u) e.1 got in
        let now_r : slice_get (slice_set units p v) r ≡ Some v = subst (λ i. slice_get (slice_set units p v) i ≡ Some v) e.1 (set-here units p u v got) in
        it.ready r refl small ∙ ap (λ o. is_ready o (slice_get board.heads r)) at_r ∙ before (slice_get board.heads r)
        ∙ sym (after (slice_get board.heads r)) ∙ sym (ap (λ o. is_ready o (slice_get board.heads r)) now_r)
    | inr e ↦ it.ready r refl small ∙ sym (ap (λ o. is_ready o (slice_get board.heads r)) (set-there units p r v e.1))
  ];
}

-- one queue has other entries
pub lanes-line : (q : ℕ) (lanes : List Lane) (x : Lane) (line : List ℕ) → slice_get lanes q ≡ Some x →
    KeepsLanes lanes (slice_set lanes q (record x { line = line }))
lanes-line q lanes x line got = record {
  count = length-set lanes q (record x { line = line });
  keeps = λ r a b before after. elim (eqb_tells q r) [
    | inl e ↦
        let xa : x ≡ a = cc (got, before, e.1) in
        let xb : record x { line = line } ≡ b = cc (set-here lanes q x (record x { line = line }) got, after, e.1) in
        (sym (ap (λ (y : Lane). y.key) xb) ∙ ap (λ (y : Lane). y.key) xa, sym (ap (λ (y : Lane). y.stopped) xb) ∙ ap (λ (y : Lane). y.stopped) xa)
    | inr e ↦
        let same : a ≡ b = cc (set-there lanes q r (record x { line = line }) e.1, before, after) in
        (sym (ap (λ (y : Lane). y.key) same), sym (ap (λ (y : Lane). y.stopped) same))
  ];
}

pub lanes-same : (lanes : List Lane) → KeepsLanes lanes lanes
lanes-same lanes = record {
  count = refl;
  keeps = λ q x y a b.
      let same : x ≡ y = cc (a, b) in (sym (ap (λ (l : Lane). l.key) same), sym (ap (λ (l : Lane). l.stopped) same));
}

pub lanes-more : (a b c : List Lane) → KeepsLanes a b → KeepsLanes b c → KeepsLanes a c
lanes-more a b c first second = record {
  count = second.count ∙ first.count;
  keeps = λ q x y got now.
      let mid = slice_get-within b q (omega (arith, slice_get_within a q x got, first.count)) in
      let one = first.keeps q x mid.0 got mid.1 in
      let two = second.keeps q mid.0 y mid.1 now in
      (two.0 ∙ one.0, two.1 ∙ one.1);
}

-- a claimed unit is still claimed when its queues are fewer
pub cut-claimed : (p : ℕ) (units after : List Entry) (u : Entry) → slice_get units p ≡ Some u → IsCut p units after → is_none u.claim ≡ false →
    IsClaimedAt p after
cut-claimed p units after u got cuts busy = record {
  claimed = λ v now.
      let same : cut u ≡ v = cc (set-here units p u (cut u) got, ap (λ (l : List Entry). slice_get l p) (cuts.cuts u got), now) in
      sym (ap (λ (w : Entry). is_none w.claim) same) ∙ busy;
}

-- ---- the last unit leaves a queue

pub parting : (q p : ℕ) (units : List Entry) (lanes : List Lane) (heads : List ℕ) (u : Entry) (old w : Lane) → slice_get lanes q ≡ Some old
    → slice_get units p ≡ Some u → length units ≡ p + 1 → u.queues ≡ take (length u.queues - 1) u.queues ++ q ∷ []
    → w.line ≡ take (length old.line - 1) old.line → IsCounted (Some q) units lanes heads → Changes q p units lanes u (cut u) w
parting q p units lanes heads u old w got at_p last ends line it =
    let rest = take (length u.queues - 1) u.queues in
    let both = differ-snoc q rest (ap (λ l. differ l) (sym ends) ∙ it.differ p u at_p) in
    let after = slice_set units p (cut u) in
    let long : length after ≡ p + 1 = length-set units p (cut u) ∙ last in
    let joined = standing-joined q 0 after p (cut u) u (set-here units p u (cut u) at_p) long both.1 (has-ends u q ends) in
    let back : standing q 0 units ≡ standing q 0 after ++ (0 + p) ∷ [] =
    ap (λ (l : List Entry). standing q 0 l) (sym (set-twice units p (cut u) u ∙ set-get units p u at_p)) ∙ joined in
    record {
      unit = at_p;
      others = λ r ne. let e : eqb r q ≡ false = grind arith in sym (ap (λ l. has r l) ends ∙ has-snoc r q rest ∙ rw e (grind arith));
      count = sym (ap (λ l. count_but (Some q) lanes p l) ends ∙ count-snoc q p lanes rest);
      differ = both.0;
      few = let f = it.few p u at_p in omega (arith, length-take-le (length u.queues - 1) u.queues);
      known = λ r h. it.known p u r at_p (ap (λ l. has r l) ends ∙ has-snoc r q rest ∙ rw h refl);
      line = line ∙ ap (λ (l : List ℕ). take (length l - 1) l) (it.lines q old got ∙ back) ∙ take-snoc (standing q 0 after) (0 + p);
    }

-- the last unit stays the last, and not live, whatever its queues are
pub leaves-last : (p : ℕ) (units after : List Entry) (u : Entry) → slice_get units p ≡ Some u → Leaves p units after → IsLastDead p units → IsLastDead p after
leaves-last p units after u got leaves it =
    let one = leaves.leaves u got in
    record {
      last = ap (λ (l : List Entry). length l) one.1 ∙ length-set units p (record u { queues = one.0 }) ∙ it.last;
      dead = λ v now.
          let same : record u { queues = one.0 } ≡ v = cc
          (set-here units p u (record u { queues = one.0 }) got, ap (λ (l : List Entry). slice_get l p) one.1, now) in
          sym (ap (λ (w : Entry). w.live) same) ∙ it.dead u got;
    }

pub leaves-both : (p : ℕ) (a b c : List Entry) → Leaves p a b → Leaves p b c → Leaves p a c
leaves-both p a b c some more = record {
  leaves = λ u got.
      let one = some.leaves u got in
      let v : Entry = record u { queues = one.0 } in
      let at_v : slice_get b p ≡ Some v = ap (λ l. slice_get l p) one.1 ∙ set-here a p u v got in
      let two = more.leaves v at_v in
      (two.0, two.1 ∙ ap (λ l. slice_set l p (record v { queues = two.0 })) one.1 ∙ set-twice a p v (record v { queues = two.0 }));
}

pub cut-leaves : (p : ℕ) (b c : List Entry) → IsCut p b c → Leaves p b c
cut-leaves p b c cuts = record { leaves = λ u got. ((cut u).queues, cuts.cuts u got) }

pub parts-fewer : (q p : ℕ) (b c : List Entry) → Parting q p b → IsCut p b c → left_at p c < left_at p b
parts-fewer q p b c it more =
    let two = more.cuts it.unit it.stands in
    let after : left_at p c ≡ length (cut it.unit).queues = ap (λ l. left_of (slice_get l p)) two
    ∙ ap (λ o. left_of o) (set-here b p it.unit (cut it.unit) it.stands) in
    let before : left_at p b ≡ length it.unit.queues = ap (λ o. left_of o) it.stands in
    let some = ap (λ l. length l) it.ends ∙ length-append (take (length it.unit.queues - 1) it.unit.queues) (q ∷ []) in
    omega (arith, after, before, some)

-- ---- the last unit joins queues one after the other

pub left-none : (p : ℕ) (units : List Entry) (u : Entry) → slice_get units p ≡ Some u → left_at p units ≡ 0 → u.queues ≡ []
left-none p units u got none = empty u.queues (sym (ap (λ o. left_of o) got) ∙ none)
  where
    empty : (xs : List ℕ) → length xs ≡ 0 → xs ≡ []
    empty [] e = refl
    empty (x ∷ xs) e = absurd (omega arith)

has-append : (q : ℕ) (xs ys : List ℕ) → has q (xs ++ ys) ≡ (has q xs || has q ys)
has-append q [] ys = refl
has-append q (x ∷ xs) ys = grind (arith, common_steps, has-append q xs ys)

-- a number of a list in which none is twice is not among those before it
pub differ-take : (xs : List ℕ) (i : ℕ) → differ xs ≡ true → i < length xs → has (get_or xs i 0) (take i xs) ≡ false
differ-take [] i apart within = absurd (omega arith)
differ-take (x ∷ xs) zero apart within = refl
differ-take (x ∷ xs) (suc i) apart within =
    let both : (has x xs ≡ false) × (differ xs ≡ true) = grind (arith, common_steps) in
    let rest = differ-take xs i both.1 (omega arith) in
    let here : has (get_or xs i 0) xs ≡ true = has-at xs i (omega arith) in
    elim (eqb_tells (get_or xs i 0) x) [
      | inl e ↦ absurd (let no : has (get_or xs i 0) xs ≡ false = ap (λ v. has v xs) e.1 ∙ both.0 in cc (no, here))
      | inr e ↦ rw e.0 rest
    ]

pub take_more : (xs : List ℕ) (i : ℕ) → i < length xs → take (i + 1) xs ≡ take i xs ++ get_or xs i 0 ∷ []
take_more [] i within = absurd (omega arith)
take_more (x ∷ xs) zero within = refl
take_more (x ∷ xs) (suc i) within = let e : suc i + 1 ≡ suc (i + 1) = omega arith in ap (λ n. take n (x ∷ xs)) e
    ∙ ap (λ l. x ∷ l) (take_more xs i (omega arith))

-- the unit at a place is in one queue more
pub joined-in : (q p : ℕ) (some more : List ℕ) (units after : List Entry) (u : Entry) → slice_get units p ≡ Some u → more ≡ some ++ q ∷ []
    → IsIn p some units → Joined q p units after → IsIn p more after
joined-in q p some more units after u got is it joined = record {
  is_in = λ v now.
      let w : Entry = record u { queues = u.queues ++ q ∷ [] } in
      let same : w ≡ v = cc (set-here units p u w got, ap (λ (l : List Entry). slice_get l p) (joined.joined u got), now) in
      sym (ap (λ (x : Entry). x.queues) same) ∙ ap (λ l. l ++ q ∷ []) (it.is_in u got) ∙ sym is;
}
