-- Transaction ids.
use Rattle.std.specs.Prelude.{ℕ, ◌≤◌, ◌==◌, ◌&&◌, nat_le, Bool, ◌++◌, List, take, drop, codes, Option, Some, None, if◌then◌else◌}
use Rattle.ale_base.specs.Hexadecimal.{digits_of, number_of}
use Rattle.ale_base.specs.Text.{is_text}

-- a unit of work of a system
pub record TidOf : Type 0 where
  pub system : ℕ
  pub unit : ℕ

-- the 24 bytes of a transaction id: the system in 8 hexadecimal digits, `0001`, and the unit in 12
abbrev pub spelling : TidOf → List ℕ
spelling tid = digits_of 8 tid.system ++ codes "0001" ++ digits_of 12 tid.unit

-- there are 16 systems, and units from 1 to 65,536
pub record IsTid (tid : TidOf) : Type 0 where
  pub system_least : 1 ≤ tid.system
  pub system_most : tid.system ≤ 16
  pub unit_least : 1 ≤ tid.unit
  pub unit_most : tid.unit ≤ 65536

-- whether two ids are the same
abbrev pub is_tid : TidOf → TidOf → Bool
is_tid a b = (a.system == b.system) && (a.unit == b.unit)

-- the numbers of an id are in their ranges
abbrev pub has_range : TidOf → Bool
has_range tid = (nat_le 1 tid.system && nat_le tid.system 16) && (nat_le 1 tid.unit && nat_le tid.unit 65536)

-- the id that these bytes spell, if they spell one
unfoldable pub tid_of : List ℕ → Option TidOf
tid_of bytes =
    let tid : TidOf = record { system = number_of (take 8 bytes); unit = number_of (drop 4 (drop 8 bytes)) } in
    if has_range tid && is_text (spelling tid) bytes then Some tid else None
