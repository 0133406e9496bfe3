-- One name of a queue: a step on the way to `named_once` of `QueueNames`.
use Rattle.std.specs.Prelude.{◌≡◌, ℕ, List, [], Option, Some, None, false}
use Rattle.outbound_build.specs.QueueNames.{fault_of, is_blank}

-- a name that is the one of a queue
pub record IsNamed (name queue : List ℕ) : Type 0 where
  pub same : queue ≡ name
  pub some : is_blank name ≡ false
  pub faultless : fault_of name ≡ None

-- a name names no queue since it has no bytes, or this one
abbrev pub Names : List ℕ → Option (List ℕ) → Type 0
Names name None = name ≡ []
Names name (Some queue) = IsNamed name queue
