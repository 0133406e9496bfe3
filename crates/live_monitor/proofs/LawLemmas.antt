-- Each step of a pass keeps the law of the cell.
use Rattle.std.proofs.Common.{◌≡◌, ℕ, zero, suc, ◌+◌, ◌^◌, ◌<◌, ◌≢◌, ◌⊎◌, inl, inr, ⊎_elim, List, [], ◌∷◌, ◌++◌, set, sym, refl, ◌∙◌, subst, arith, le_trans, zero-le}
use Rattle.std.specs.Bool.{⊤}
use mathlib.Core.Option.{some, some-injective, some-ne-none}
use lib.ListN.{get_elem?}
use Rattle.std.proofs.Math.Nat.{max-le}
use Rattle.atomic_table.proofs.Lists.{at_set, at_snoc, set_else}
use Rattle.crossbeam_utils.specs.Register.{Turns, Forks, Merges}
use Rattle.live_monitor.specs.declared.totals.Totals.{Totals}
use Rattle.live_monitor.specs.declared.cell.Role.{Role}
use Rattle.live_monitor.specs.declared.cell.Role.TheVariants.{Founder, Writer, Reader, Spent}
use Rattle.live_monitor.specs.declared.cell.View.{View}
use Rattle.live_monitor.specs.Totals.{AreInOrder, AreAtLeast}
use Rattle.live_monitor.specs.Law.{risen, zero_totals, founder, writer, reader, spent, told, joined, hearing, Knows, KnowsAs, IsRunning, Kept, Stored, Loaded, Recalled}

-- a pass that stores or loads
abbrev IsWorking : View → Type 0
IsWorking v = (v.role ≡ Writer) ⊎ (v.role ≡ Reader)

abbrev IsFounder : Role → Type 0
IsFounder Founder = ⊤
IsFounder Writer = ⊥
IsFounder Reader = ⊥
IsFounder Spent = ⊥

founder-rests : IsWorking founder → ⊥
founder-rests (inl is) = subst IsFounder is tt
founder-rests (inr is) = subst IsFounder is tt

-- where a pass works, the cell has started
started : (words : List ℕ) (views : List View) (seat : ℕ) (v : View) → IsWorking v → Kept words views → get_elem? views seat ≡ some v
    → (start : Totals) × IsRunning start words views
started words views seat v works (inr running) at = running
started words views zero v works (inl fresh) at =
    absurd (founder-rests (subst IsWorking (sym (some-injective founder v (subst (λ (vs : List View). get_elem? vs 0 ≡ some v) fresh.1 at))) works))
started words views (suc seat) v works (inl fresh) at =
    absurd (some-ne-none v (sym (subst (λ (vs : List View). get_elem? vs (suc seat) ≡ some v) fresh.1 at)))

-- each is at least itself, and at least what one at least it is at least
least-same : (t : Totals) → AreAtLeast t t
least-same t = (omega arith, omega arith, omega arith)

least-zero : (t : Totals) → AreAtLeast t zero_totals
least-zero t = (zero-le, zero-le, zero-le)

least-trans : (a b c : Totals) → AreAtLeast a b → AreAtLeast b c → AreAtLeast a c
least-trans a b c f g = (le_trans g.0 f.0, le_trans g.1 f.1, le_trans g.2 f.2)

-- what a pass that works knows in either role: the start, and that the words stand for no less than it has seen
abbrev HasSeen : Totals → List ℕ → View → Type 0
HasSeen start words v = (v.start ≡ start) × AreAtLeast (risen start words) v.seen

has-seen : (start : Totals) (words : List ℕ) (seat : ℕ) (v : View) → IsWorking v → Knows start words seat v → HasSeen start words v
has-seen start words seat v (inl is) knows =
    let k = subst (KnowsAs start words seat v.start v.seen v.heard) is knows in
    (k.1, subst (λ (t : Totals). AreAtLeast (risen start words) t) (sym k.2) (least-same (risen start words)))
has-seen start words seat v (inr is) knows = subst (KnowsAs start words seat v.start v.seen v.heard) is knows

-- where the words go up, each other pass still knows what it knew
knows-more : (start : Totals) (words after : List ℕ) (seat : ℕ) (its_start seen heard : Totals) (role : Role) → AreAtLeast (risen start after) (risen start words) → role ≢ Writer
    → KnowsAs start words seat its_start seen heard role → KnowsAs start after seat its_start seen heard role
knows-more start words after seat its_start seen heard Founder up other knows = knows
knows-more start words after seat its_start seen heard Writer up other knows = absurd (other refl)
knows-more start words after seat its_start seen heard Reader up other knows = (knows.0, least-trans (risen start after) (risen start words) seen up knows.1)
knows-more start words after seat its_start seen heard Spent up other knows = tt

-- a view is changed to one that knows what its role says
changed : (start : Totals) (words : List ℕ) (views : List View) (seat : ℕ) (w : View) → Knows start words seat w
    → ((j : ℕ) (u : View) → get_elem? views j ≡ some u → Knows start words j u)
    → (j : ℕ) (u : View) → get_elem? (set views seat w) j ≡ some u → Knows start words j u
changed start words views seat w knows each j u at = ⊎_elim
    (λ (mine : (j ≡ seat) × (w ≡ u)). subst (Knows start words j) mine.1 (subst (λ (i : ℕ). Knows start words i w) (sym mine.0) knows))
    (λ (other : (j ≢ seat) × (get_elem? views j ≡ some u)). each j u other.1)
    (at_set views seat j w u at)

-- a pass is added that knows what its role says at any seat
added : (start : Totals) (words : List ℕ) (views : List View) (w : View) → ((j : ℕ) → Knows start words j w)
    → ((j : ℕ) (u : View) → get_elem? views j ≡ some u → Knows start words j u)
    → (j : ℕ) (u : View) → get_elem? (views ++ w ∷ []) j ≡ some u → Knows start words j u
added start words views w knows each j u at = ⊎_elim
    (λ (old : get_elem? views j ≡ some u). each j u old)
    (λ (new : w ≡ u). subst (Knows start words j) new (knows j))
    (at_snoc views w u j at)

-- where nothing rose, the words stand for the totals at the start
risen-none : (start : Totals) → risen start (0 ∷ 0 ∷ 0 ∷ []) ≡ start
risen-none start =
    let c : start.committed + 0 ≡ start.committed = omega arith in
    let a : start.accepted + 0 ≡ start.accepted = omega arith in
    let e : start.executed + 0 ≡ start.executed = omega arith in
    λ i. record { committed = c i; accepted = a i; executed = e i }

-- a cell starts: its founder becomes the writer, and a reader is added
pub opens : (seat : ℕ) (start : Totals) → AreInOrder start → start.committed < 2 ^ 64 → Forks Kept seat founder (writer start start) (reader start start)
opens seat start order fits words views (inr running) at = absurd (running.1.each seat founder at)
opens (suc seat) start order fits words views (inl fresh) at = absurd (some-ne-none founder (sym (subst (λ (vs : List View). get_elem? vs (suc seat) ≡ some founder) fresh.1 at)))
opens zero start order fits words views (inl fresh) at =
    subst (λ (vs : List View). Kept words (set vs 0 (writer start start) ++ reader start start ∷ [])) (sym fresh.1)
    (subst (λ (ws : List ℕ). Kept ws (writer start start ∷ reader start start ∷ [])) (sym fresh.0)
    (inr (
      start,
      record {
        ordered = subst AreInOrder (sym (risen-none start)) order;
        fits = subst (λ (t : Totals). t.committed < 2 ^ 64) (sym (risen-none start)) fits;
        each = first-two start;
      },
    )))
  where
    first-two : (start : Totals) (j : ℕ) (u : View) → get_elem? (writer start start ∷ reader start start ∷ []) j ≡ some u → Knows start (0 ∷ 0 ∷ 0 ∷ []) j u
    first-two start zero u at = subst (Knows start (0 ∷ 0 ∷ 0 ∷ []) 0) (some-injective (writer start start) u at)
        (refl, refl, sym (risen-none start), least-zero (risen start (0 ∷ 0 ∷ 0 ∷ [])))
    first-two start (suc zero) u at =
        subst (Knows start (0 ∷ 0 ∷ 0 ∷ []) 1) (some-injective (reader start start) u at)
        (refl, subst (λ (t : Totals). AreAtLeast t start) (sym (risen-none start)) (least-same start))
    first-two start (suc (suc j)) u at = absurd (some-ne-none u (sym at))

-- the writer stores words that go up
pub stores : (seat : ℕ) (v : View) (after : List ℕ) → v.role ≡ Writer → AreInOrder (risen v.start after) → AreAtLeast (risen v.start after) v.seen → (risen v.start after).committed < 2 ^ 64
    → Turns Kept seat v (λ _. after) Stored
stores seat v after is order rises fits words views kept at =
    let running = started words views seat v (inl is) kept at in
    let start : Totals = running.0 in
    let law = running.1 in
    let mine = subst (KnowsAs start words seat v.start v.seen v.heard) is (law.each seat v at) in
    let w : View = writer v.start (risen v.start after) in
    let up : AreAtLeast (risen v.start after) (risen v.start words) =
    subst (λ (s : Totals). AreAtLeast (risen v.start after) (risen s words)) (sym mine.1) (subst (λ (t : Totals). AreAtLeast (risen v.start after) t) mine.2 rises) in
    let each : (j : ℕ) (u : View) → get_elem? views j ≡ some u → Knows v.start words j u = subst (λ (s : Totals). (j : ℕ) (u : View) → get_elem? views j ≡ some u → Knows s words j u) (sym mine.1) law.each in (
      w,
      inr (
        v.start,
        record {
          ordered = order;
          fits = fits;
          each = λ j u has. ⊎_elim
              (λ (here : (j ≡ seat) × (w ≡ u)). subst (Knows v.start after j) here.1 (here.0 ∙ mine.0, refl, refl, least-zero (risen v.start after)))
              (λ (there : (j ≢ seat) × (get_elem? views j ≡ some u)).
              knows-more v.start words after j u.start u.seen u.heard u.role up
              (λ (role : u.role ≡ Writer). there.0 ((subst (KnowsAs v.start words j u.start u.seen u.heard) role (each j u there.1)).0 ∙ sym mine.0)) (each j u there.1))
              (at_set views seat j w u has);
        },
      ),
      refl,
    )

-- a reader loads
pub loads : (seat : ℕ) (v : View) → v.role ≡ Reader → Turns Kept seat v (λ words. words) Loaded
loads seat v is words views kept at =
    let running = started words views seat v (inr is) kept at in
    let law = running.1 in
    let mine = has-seen running.0 words seat v (inr is) (law.each seat v at) in
    let now : IsRunning v.start words views = subst (λ (s : Totals). IsRunning s words views) (sym mine.0) law in
    let w : View = reader v.start (risen v.start words) in (
      w,
      inr (
        v.start,
        record {
          ordered = now.ordered;
          fits = now.fits;
          each = changed v.start words views seat w (refl, least-same (risen v.start words)) now.each;
        },
      ),
      (refl, now.ordered, subst (λ (s : Totals). AreAtLeast (risen s words) v.seen) (sym mine.0) mine.1, now.fits),
    )

-- a pass that works tells a new reader
pub tells : (seat : ℕ) (v : View) → IsWorking v → Forks Kept seat v v (told v)
tells seat v works words views kept at =
    let running = started words views seat v works kept at in
    let start : Totals = running.0 in
    let law = running.1 in
    let mine = has-seen start words seat v works (law.each seat v at) in
    inr (
      start,
      record {
        ordered = law.ordered;
        fits = law.fits;
        each = added start words (set views seat v) (told v) (λ j. mine) (changed start words views seat v (law.each seat v at) law.each);
      },
    )

-- a reader takes in what another one has seen, which is spent
pub joins : (seat : ℕ) (v : View) (other : ℕ) (w : View) → v.role ≡ Reader → w.role ≡ Reader → Merges Kept seat v other w (joined v w) spent
joins seat v other w is is_too words views kept at apart there =
    let running = started words views seat v (inr is) kept at in
    let start : Totals = running.0 in
    let law = running.1 in
    let mine = has-seen start words seat v (inr is) (law.each seat v at) in
    let theirs = has-seen start words other w (inr is_too) (law.each other w (sym (set_else views seat other (joined v w) apart) ∙ there)) in
    let a = mine.1 in
    let b = theirs.1 in
    let both : AreAtLeast (risen start words) (joined v w).seen = (max-le a.0 b.0, max-le a.1 b.1, max-le a.2 b.2) in
    inr (
      start,
      record {
        ordered = law.ordered;
        fits = law.fits;
        each = changed start words (set views seat (joined v w)) other spent tt (changed start words views seat (joined v w) (mine.0, both) law.each);
      },
    )

-- the writer hears what a reader has seen, whose pass is spent
pub hears : (seat : ℕ) (v : View) (other : ℕ) (w : View) → v.role ≡ Writer → w.role ≡ Reader → Merges Kept seat v other w (hearing v w) spent
hears seat v other w is is_too words views kept at apart there =
    let running = started words views seat v (inl is) kept at in
    let start : Totals = running.0 in
    let law = running.1 in
    let mine = subst (KnowsAs start words seat v.start v.seen v.heard) is (law.each seat v at) in
    let theirs = has-seen start words other w (inr is_too) (law.each other w (sym (set_else views seat other (hearing v w) apart) ∙ there)) in
    inr (
      start,
      record {
        ordered = law.ordered;
        fits = law.fits;
        each = changed start words (set views seat (hearing v w)) other spent tt
            (changed start words views seat (hearing v w) (mine.0, mine.1, mine.2, theirs.1) law.each);
      },
    )

-- the writer loads, and recalls what it stored last
pub recalls : (seat : ℕ) (v : View) → v.role ≡ Writer → Turns Kept seat v (λ words. words) Recalled
recalls seat v is words views kept at =
    let running = started words views seat v (inl is) kept at in
    let start : Totals = running.0 in
    let law = running.1 in
    let mine = subst (KnowsAs start words seat v.start v.seen v.heard) is (law.each seat v at) in
    let w : View = writer v.start v.seen in (
      w,
      inr (
        start,
        record {
          ordered = law.ordered;
          fits = law.fits;
          each = changed start words views seat w (mine.0, mine.1, mine.2, least-zero (risen start words)) law.each;
        },
      ),
      (refl, subst (λ (t : Totals). AreAtLeast t v.heard) (sym mine.2) mine.3),
    )
