-- Acts, and lists of them: a unit is shipped under a letter, executed by its receiver, or confirmed under a letter. An act is whole, or it is
-- cut, where a system fell in it.
use Rattle.std.specs.Prelude.{◌≡◌, ◌==◌, ◌&&◌, ℕ, false, Bool, true, List, [], ◌∷◌, Some, not}
use Rattle.ale_volumes.specs.Disk.{Disk}
use Rattle.ale_base.specs.Tid.{TidOf, is_tid}
use Rattle.unit_core.specs.declared.ale_unit.AleUnit.{AleUnit}
use Rattle.trfc_protocol.specs.Worlds.{committed_unit}
use Rattle.trfc_protocol.specs.Offered.{answer_to, offers_received_now}
use Rattle.trfc_protocol.specs.declared.world.World.{World}
use Rattle.unit_landscape.specs.Calls.{receiver_of}
use Rattle.unit_landscape.specs.KeptWorlds.{KeptOf}
use Rattle.document_state.specs.declared.document_tables.DocumentTables.{DocumentTables}
use Rattle.document_state.specs.declared.model_rules.ModelRules.{ModelRules}
use Rattle.document_state.specs.Meaning.{model_meaning}
use Rattle.unit_works.specs.declared.letter.Letter.{Letter}
use Rattle.unit_works.specs.declared.letter.Letter.TheVariants.{LostConfirmation, ReceiverFalls}
use Rattle.unit_works.specs.Wires.{letters_left, next_letter}
use Rattle.unit_works.specs.Events.{is_confirmation, is_execution, is_shipping}
use Rattle.unit_works.specs.Trips.{AppendedAs, ShippedSo, execution, confirmation, may_ship, may_execute, is_due, forgot}
use Rattle.unit_works.specs.Worked.{HasTaken, HaveOnlyClaimed, Lines, Worked}

module _ {V : Type 0} (disk : Disk V) (before after : KeptOf ModelRules DocumentTables V) where
  -- A unit took its next letter, which is this one, and was shipped under it, as its receiver answered before: the records of that shipment
  -- were appended; or it was cut, as where the letter felled the receiver.
  pub record WasShipped (lines lines_after : Lines) (tid : TidOf) (letter : Letter) (whole : Bool) : Type 0 where
    pub unit : AleUnit
    pub committed : committed_unit (model_meaning before.world.rules.systems) before.world tid ≡ Some unit
    pub next : letter ≡ next_letter (letters_left lines tid)
    pub taken : HasTaken tid lines lines_after
    pub went : Worked disk before after (is_shipping letter) true
    pub grew : ShippedSo before after letter (answer_to (model_meaning before.world.rules.systems) before.world unit) unit whole

  -- so was a unit that may be shipped
  pub record HasShipped (lines lines_after : Lines) (tid : TidOf) (letter : Letter) (whole : Bool) : Type 0 where
    pub may : may_ship (model_meaning before.world.rules.systems) before.world tid ≡ true
    pub was : WasShipped lines lines_after tid letter whole

  -- A unit that may be executed at a system was: the record of that was appended, or it was cut.
  pub record HasExecuted (system : ℕ) (tid : TidOf) (whole : Bool) : Type 0 where
    pub may : may_execute before.world system tid ≡ true
    pub went : Worked disk before after is_execution true
    pub grew : AppendedAs before after
        (execution (offers_received_now (model_meaning before.world.rules.systems) before.world system tid) system tid) whole

  -- A unit whose confirmation was due took its next letter, which is this one, and was confirmed under it: the records of that were appended,
  -- or it was cut.
  pub record HasConfirmed (lines lines_after : Lines) (tid : TidOf) (letter : Letter) (whole : Bool) : Type 0 where
    pub unit : AleUnit
    pub committed : committed_unit (model_meaning before.world.rules.systems) before.world tid ≡ Some unit
    pub due : is_due before.world unit ≡ true
    pub next : letter ≡ next_letter (letters_left lines tid)
    pub taken : HasTaken tid lines lines_after
    pub went : Worked disk before after is_confirmation true
    pub grew : AppendedAs before after (confirmation letter (forgot before.world unit) unit) whole

-- an act: a unit is shipped under a letter, is executed at a system, or is confirmed under a letter; it was whole, or was cut
pub data Act : Type 0 where
  ship : TidOf → Letter → Bool → Act
  execute : ℕ → TidOf → Bool → Act
  confirm : TidOf → Letter → Bool → Act

-- in an act the unit of an id took a letter: it was shipped or confirmed
abbrev pub takes : TidOf → Act → Bool
takes tid (ship other letter whole) = is_tid other tid
takes tid (confirm other letter whole) = is_tid other tid
takes tid (execute system other whole) = false

-- an act on the unit of an id loses its confirmation
abbrev pub loses : TidOf → Act → Bool
loses tid (ship other LostConfirmation whole) = is_tid other tid
loses tid (confirm other LostConfirmation whole) = is_tid other tid
loses tid _ = false

-- an act felled a system: a unit addressed to it took the letter that does so
abbrev pub fells_it : World ModelRules → ℕ → Act → Bool
fells_it world system (ship tid ReceiverFalls false) = receiver_of (model_meaning world.rules.systems) world tid == system
fells_it world system _ = false

-- a system fell in an act
abbrev pub is_cut : Act → Bool
is_cut (ship tid letter whole) = not whole
is_cut (execute system tid whole) = not whole
is_cut (confirm tid letter whole) = not whole

-- each act but the last was cut
abbrev pub each_but_last_cut : List Act → Bool
each_but_last_cut [] = true
each_but_last_cut (act ∷ []) = true
each_but_last_cut (act ∷ more) = is_cut act && each_but_last_cut more

module _ {V : Type 0} (disk : Disk V) where
  -- an act was done
  abbrev pub Acted : KeptOf ModelRules DocumentTables V → Lines → Act → KeptOf ModelRules DocumentTables V → Lines → Type 0
  Acted before lines (ship tid letter whole) after lines_after = HasShipped disk before after lines lines_after tid letter whole
  Acted before lines (execute system tid whole) after lines_after = HasExecuted disk before after system tid whole × (lines_after ≡ lines)
  Acted before lines (confirm tid letter whole) after lines_after = HasConfirmed disk before after lines lines_after tid letter whole

  -- acts were done one after the other, and nothing else but that claims were made or given up between them
  abbrev pub HaveActed : KeptOf ModelRules DocumentTables V → Lines → List Act → KeptOf ModelRules DocumentTables V → Lines → Type 0
  HaveActed before lines [] after lines_after = HaveOnlyClaimed before after × (lines_after ≡ lines)
  HaveActed before lines (act ∷ acts) after lines_after =
      (start : KeptOf ModelRules DocumentTables V) × (between : KeptOf ModelRules DocumentTables V) × (lines_between : Lines)
      × HaveOnlyClaimed before start
      × Acted start lines act between lines_between
      × HaveActed between lines_between acts after lines_after
