-- The law of the cell. Its three words are by how much the totals rose since the start.
use Rattle.std.specs.Prelude.{◌≡◌, ℕ, ◌+◌, ◌^◌, ◌<◌, ◌⊎◌, List, [], ◌∷◌, slice_index, ⊤}
use mathlib.Core.Option.{some}
use lib.ListN.{get_elem?}
use Rattle.live_monitor.specs.declared.totals.Totals.{Totals}
use Rattle.live_monitor.specs.declared.cell.Role.{Role}
use Rattle.live_monitor.specs.declared.cell.Role.TheVariants.{Founder, Writer, Reader, Spent}
use Rattle.live_monitor.specs.declared.cell.View.{View}
use Rattle.live_monitor.specs.Totals.{AreInOrder, AreAtLeast, larger}

-- the totals that the words stand for, of a cell that started with these
abbrev pub risen : Totals → List ℕ → Totals
risen start words = record {
  committed = start.committed + slice_index words 0;
  accepted = start.accepted + slice_index words 1;
  executed = start.executed + slice_index words 2;
}

abbrev pub zero_totals : Totals
zero_totals = record { committed = 0; accepted = 0; executed = 0 }

-- the view of the pass that comes with the cell
abbrev pub founder : View
founder = record { role = Founder; start = zero_totals; seen = zero_totals; heard = zero_totals }

-- the view of the writer, by the totals at the start and those that it stored last
abbrev pub writer : Totals → Totals → View
writer start last = record { role = Writer; start = start; seen = last; heard = zero_totals }

-- the view of a reader, by the totals at the start and those that it saw last
abbrev pub reader : Totals → Totals → View
reader start seen = record { role = Reader; start = start; seen = seen; heard = zero_totals }

-- the view of a pass that was joined to another
abbrev pub spent : View
spent = record { role = Spent; start = zero_totals; seen = zero_totals; heard = zero_totals }

-- what a pass tells another one: it has seen the same
abbrev pub told : View → View
told view = reader view.start view.seen

-- two readers together have seen the larger totals
abbrev pub joined : View → View → View
joined one other = reader one.start (larger one.seen other.seen)

-- a writer hears what a reader has seen
abbrev pub hearing : View → View → View
hearing one other = record { role = Writer; start = one.start; seen = one.seen; heard = other.seen }

-- What is known of a pass by its role. The one writer has the first seat, the words are what it stored last, and what it has heard
-- of a reader is at most that; what a reader has seen is at most the words.
abbrev pub KnowsAs : Totals → List ℕ → ℕ → Totals → Totals → Totals → Role → Type 0
KnowsAs start words seat its_start seen heard Founder = ⊥
KnowsAs start words seat its_start seen heard Writer = (seat ≡ 0) × (its_start ≡ start) × (seen ≡ risen start words) × AreAtLeast (risen start words) heard
KnowsAs start words seat its_start seen heard Reader = (its_start ≡ start) × AreAtLeast (risen start words) seen
KnowsAs start words seat its_start seen heard Spent = ⊤

abbrev pub Knows : Totals → List ℕ → ℕ → View → Type 0
Knows start words seat view = KnowsAs start words seat view.start view.seen view.heard view.role

-- the law once the cell has its writer: the totals are in order and fit their words, and each pass knows what its role says
pub record IsRunning (start : Totals) (words : List ℕ) (views : List View) : Type 0 where
  pub ordered : AreInOrder (risen start words)
  pub fits : (risen start words).committed < 2 ^ 64
  pub each : (seat : ℕ) (view : View) → get_elem? views seat ≡ some view → Knows start words seat view

-- the law: no pass but the founder is there and nothing rose, or the cell has its writer
abbrev pub Kept : List ℕ → List View → Type 0
Kept words views = ((words ≡ 0 ∷ 0 ∷ 0 ∷ []) × (views ≡ founder ∷ [])) ⊎ ((start : Totals) × IsRunning start words views)

-- a store: the writer has stored what the words then stand for
abbrev pub Stored : View → List ℕ → List ℕ → View → Type 0
Stored before words after view = view ≡ writer before.start (risen before.start after)

-- a load: the reader has seen what the words stand for, which is in order, fits, and is at least what it had seen
abbrev pub Loaded : View → List ℕ → List ℕ → View → Type 0
Loaded before words after view =
    (view ≡ reader before.start (risen before.start words)) × AreInOrder (risen before.start words)
    × AreAtLeast (risen before.start words) before.seen × ((risen before.start words).committed < 2 ^ 64)

-- the writer recalls: what it has heard of a reader is at most what it stored last
abbrev pub Recalled : View → List ℕ → List ℕ → View → Type 0
Recalled before words after view = (view ≡ writer before.start before.seen) × AreAtLeast before.seen before.heard
