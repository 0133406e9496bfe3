-- What is true of the calls on pointers, in other words than the definitions that they are equal to. This project's own.
use Rattle.std.specs.Prelude.{◌≡◌, ℕ, ◌⊎◌, ◌↔◌, List, [], ◌∷◌, Contains, Some, slice_get}
use Rattle.std.specs.List.{AllByRecursion, AllZip}
use Rattle.std.specs.List.Sorted.{IsStrictlySortedBy}
use Rattle.std.specs.Cmp.Lexicographic.{slice_cmp}
use Rattle.std.specs.Ordering.{nat_cmp, ordering_then}
use Rattle.dist_model.specs.declared.lists.Lists.{Lists}
use Rattle.dist_model.specs.declared.message.Message.{Message}
use Rattle.change_pointers.specs.declared.pointer.Pointer.{Pointer}
use Rattle.change_pointers.specs.declared.pointer.ObjectKey.{ObjectKey}

-- each element of a list is in one of two others, in its order, and nothing else is in them
abbrev pub AreParts : {A : Type 0} → List A → List A → List A → Type 0
AreParts [] ones others = (ones ≡ []) × (others ≡ [])
AreParts {A} (x ∷ xs) ones others =
    ((rest : List A) × (ones ≡ x ∷ rest) × AreParts xs rest others) ⊎ ((rest : List A) × (others ≡ x ∷ rest) × AreParts xs ones rest)

-- Clearing a message type: of the pointers that were there, some go and the others stay in their order. All that go are of the message
-- type, and none that stays is.
pub record ClearsAlone (message : ℕ) (old new : List Pointer) : Type 0 where
  pub gone : List Pointer
  pub parts : AreParts old gone new
  pub own : AllByRecursion (λ pointer. pointer.message ≡ message) gone
  pub others : AllByRecursion (λ pointer. pointer.message ≡ message → ⊥) new

-- a pointer of a message type is of an object
pub record IsAwaited (message : ℕ) (pointers : List Pointer) (object : ObjectKey) : Type 0 where
  pub pointer : Pointer
  pub among : Contains pointers pointer
  pub of_message : pointer.message ≡ message
  pub kind : pointer.kind ≡ object.kind
  pub key : pointer.key ≡ object.key

-- The objects that wait for a message type: they ascend by kind, and by key where the kinds are the same, so that none is there twice;
-- and an object is among them exactly where a pointer of the message type is of it.
pub record AreWaiting (message : ℕ) (pointers : List Pointer) (objects : List ObjectKey) : Type 0 where
  pub ascending : IsStrictlySortedBy (λ a b. ordering_then (slice_cmp nat_cmp a.kind b.kind) (slice_cmp nat_cmp a.key b.key)) objects
  pub each : (object : ObjectKey) → Contains objects object ↔ IsAwaited message pointers object

-- message types of two models that have one name
pub record AreNamesakes (before : Lists) (message : ℕ) (after : Lists) (other : ℕ) : Type 0 where
  pub type : Message
  pub here : slice_get before.messages message ≡ Some type
  pub namesake : Message
  pub there : slice_get after.messages other ≡ Some namesake
  pub named : namesake.name ≡ type.name

-- a pointer under another model: it is of the same field of the same object, for the message type of the same name
pub record IsCarriedOver (before after : Lists) (old new : Pointer) : Type 0 where
  pub kind : new.kind ≡ old.kind
  pub key : new.key ≡ old.key
  pub field : new.field ≡ old.field
  pub message : AreNamesakes before old.message after new.message

-- Pointers under another model: some stay, in their order, and each of these is carried over; the others go, and the message type of
-- each of them has no namesake in that model.
pub record FollowNames (before after : Lists) (old new : List Pointer) : Type 0 where
  pub kept : List Pointer
  pub gone : List Pointer
  pub parts : AreParts old kept gone
  pub carried : AllZip (IsCarriedOver before after) kept new
  pub lost : AllByRecursion (λ pointer. (other : ℕ) → AreNamesakes before pointer.message after other → ⊥) gone
