-- Names of queues.
use Rattle.std.specs.Prelude.{◌≡◌, ℕ, ◌<◌, ◌≤◌, List, [], length, slice_index, All}
use Rattle.ale_base.specs.declared.queue_name.NameFault.{NameFault}
use Rattle.ale_base.specs.declared.queue_name.NameFault.TheVariants.{Empty, TooLong, BadByte}

-- a byte that a name may have: none of them is a blank or a control character
abbrev pub IsNameByte : ℕ → Type 0
IsNameByte byte = (33 ≤ byte) × (byte ≤ 126)

-- a name of a queue has 1 to 24 bytes, each from 33 to 126
pub record IsQueueName (name : List ℕ) : Type 0 where
  pub least : 1 ≤ length name
  pub most : length name ≤ 24
  pub graphic : All IsNameByte name

-- at this place stands the first byte that no name has
pub record IsFirstOther (bytes : List ℕ) (place : ℕ) : Type 0 where
  pub within : place < length bytes
  pub before : (k : ℕ) → k < place → IsNameByte (slice_index bytes k)
  pub other : IsNameByte (slice_index bytes place) → ⊥

-- the first fault of bytes that are no name
abbrev pub HasFault : List ℕ → NameFault → Type 0
HasFault bytes Empty = bytes ≡ []
HasFault bytes TooLong = 24 < length bytes
HasFault bytes (BadByte place) = (length bytes ≤ 24) × IsFirstOther bytes place
