use Rattle.std.specs.Prelude.{◌≡◌, ◌≢◌, ◌<◌, ◌≤◌, ◌+◌, ◌-◌, ◌*◌, ◌/◌, ◌^◌, ℕ, Bool, true, false, ◌||◌, Option, Some, None, List, length, slice_get}

abbrev pub bit_of : Option Bool → Bool
bit_of None = false
bit_of (Some b) = b

-- the bit of a node, false where there is none
abbrev pub bit : List Bool → ℕ → Bool
bit nodes i = bit_of (slice_get nodes i)

-- nodes from 1 on, two below each one below 2 ^ height, the leaves behind them; each but one is true where one below it is
pub record IsTreeBut (but height : ℕ) (nodes : List Bool) : Type 0 where
  pub size : length nodes ≡ 2 * 2 ^ height
  pub joins : (i : ℕ) → 1 ≤ i → i < 2 ^ height → i ≢ but → bit nodes i ≡ (bit nodes (2 * i) || bit nodes (2 * i + 1))

-- the lane down to the first true leaf, n steps below the root
pub record IsOnWay (height n at : ℕ) (nodes : List Bool) : Type 0 where
  pub low : 2 ^ n ≤ at
  pub high : at < 2 * 2 ^ n
  pub is_true : bit nodes at ≡ true
  pub below : (i : ℕ) → 2 ^ height ≤ i → bit nodes i ≡ true → at ≤ i / 2 ^ (height - n)
