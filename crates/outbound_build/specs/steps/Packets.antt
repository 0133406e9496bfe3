-- What a Dispatch goes by: steps on the way to `dispatched` of `Added`.
use Rattle.std.specs.Prelude.{◌≡◌, ℕ, ◌<◌, ◌≤◌, List, length, map, None, Some, slice_get}
use Rattle.dist_model.specs.declared.outbound.Outbound.{Outbound}
use Rattle.outbound_build.specs.declared.added.Waiting.{Waiting}
use Rattle.outbound_build.specs.Added.{waiting_for}
use Rattle.outbound_build.specs.QueueNames.{first_fault}

-- for each row the documents that wait for it
abbrev pub AreWaitingFor : List Waiting → List (List Waiting) → Type 0
AreWaitingFor waiting lists = (row : ℕ) → row < length lists → slice_get lists row ≡ Some (waiting_for row waiting)

-- a profile by which documents may be collected: a packet holds one or more, and the texts of its rules are no bad names
pub record IsCollecting (profile : Outbound) : Type 0 where
  pub some : 1 ≤ profile.packet
  pub outq : first_fault (map (λ rule. rule.text) profile.outq) ≡ None
  pub inq : first_fault (map (λ rule. rule.text) profile.inq) ≡ None
