-- A system that fell in acts, and is told to have been felled, was felled by one of them.
use Rattle.std.specs.List.{list_any}
use Rattle.std.specs.Option.{option_map_or}
use Rattle.std.proofs.Common.{◌≡◌, ◌≤◌, ◌==◌, ◌||◌, ℕ, Bool, true, false, Some, List, [], ◌∷◌, inl, inr, refl, sym, ap, ◌∙◌}
use Rattle.std.proofs.Math.Bool.{or-true}
use Rattle.std.proofs.lemmas.Bool.{both_ways, cases_Bool, cases_eq, eq-eqb}
use Rattle.ale_volumes.specs.Disk.{Disk}
use Rattle.ale_base.specs.Tid.{TidOf}
use Rattle.unit_core.specs.declared.ale_unit.AleUnit.{AleUnit}
use Rattle.trfc_protocol.specs.declared.answer.Answer.{Answer}
use Rattle.trfc_protocol.specs.declared.world.World.{World}
use Rattle.trfc_protocol.specs.Offered.{answer_to, offers_received_now}
use Rattle.trfc_protocol.specs.RecordOf.{Writing}
use Rattle.trfc_protocol.specs.Worlds.{committed_unit, is_up}
use Rattle.unit_landscape.specs.Calls.{receiver_of}
use Rattle.unit_landscape.specs.Causes.{cause_in}
use Rattle.unit_landscape.specs.declared.cause.Cause.{Cause}
use Rattle.unit_landscape.specs.declared.cause.Cause.TheVariants.{Crashed, Faulted, Overran}
use Rattle.unit_landscape.specs.KeptWorlds.{KeptOf, cause_at}
use Rattle.document_state.specs.declared.document_tables.DocumentTables.{DocumentTables}
use Rattle.document_state.specs.declared.model_rules.ModelRules.{ModelRules}
use Rattle.unit_works.specs.declared.letter.Letter.{Letter}
use Rattle.unit_works.specs.declared.letter.Letter.TheVariants.{Whole, LostRequest, LostReply, Twice, LostConfirmation, ReceiverFalls}
use Rattle.unit_works.specs.Acts.{Act, Acted, HaveActed, confirm, execute, fells_it, ship}
use Rattle.unit_works.specs.Trips.{AppendedAs, ShippedSo, confirmation, execution, fells, forgot, shipment}
use Rattle.unit_works.specs.Worked.{Lines}
use Rattle.unit_works.proofs.ClearLemmas.{acted-same, all-same}
use Rattle.unit_works.proofs.LossLemmas.{acted-went, only-committed, only-up}
use Rattle.unit_works.proofs.WentLemmas.{up-least}
use Rattle.unit_works.proofs.WorkedLemmas.{meaning}

-- ---- one act

module _ {R A V : Type 0} (before after : KeptOf R A V) (system : ℕ) (up : is_up before.world system ≡ true) (down : is_up after.world system ≡ false)
    (told : cause_at after system ≡ Crashed) where
  -- a system that fell as it was to append a record is told to be down by that
  appended-not : (added : List Writing) (whole : Bool) → AppendedAs before after added whole → ⊥
  appended-not added true did = both_ways (is_up before.world system) (sym (did.stand system).0 ∙ down) up
  appended-not added false did =
      let cut = did.4 in
      let next : Writing = did.2 in
      elim (cases_eq system next.system) [
        | inl same ↦
            let its : cause_at after next.system ≡ Crashed = ap (λ s. cause_at after s) (sym same) ∙ told in
            elim cut.why [
              | inl failed ↦ let wrong : Faulted ≡ Crashed = sym failed.told ∙ its in cc
              | inr full ↦ let wrong : Overran full.size ≡ Crashed = sym full.told ∙ its in cc
            ]
        | inr differs ↦ both_ways (is_up before.world system) (sym (cut.others system differs).0 ∙ down) up
      ]

  -- a system that fell in a shipment was felled by its letter, and is the receiver of the unit
  shipped-fells : (letter : Letter) (given : Answer) (unit : AleUnit) (whole : Bool) → ShippedSo before after letter given unit whole
      → (whole ≡ false) × (fells letter given ≡ true) × (unit.receiver ≡ system)
  shipped-fells letter given unit true did = absurd (appended-not (shipment letter given unit) true did.0)
  shipped-fells letter given unit false did = elim did [
    | inl cut ↦ absurd (appended-not (shipment letter given unit) false cut)
    | inr felled ↦
        let fell = felled.1 in
        elim (cases_eq system unit.receiver) [
          | inl same ↦ (refl, felled.0, sym same)
          | inr differs ↦ absurd (both_ways (is_up before.world system) (sym (fell.others system differs).0 ∙ down) up)
        ]
  ]

-- one letter alone fells a receiver
fells-is : (letter : Letter) (given : Answer) → fells letter given ≡ true → letter ≡ ReceiverFalls
fells-is ReceiverFalls given is = refl
fells-is Whole given is = cc
fells-is LostRequest given is = cc
fells-is LostReply given is = cc
fells-is Twice given is = cc
fells-is LostConfirmation given is = cc

module _ {V : Type 0} (disk : Disk V) where
  -- a system that was felled in an act was by it
  acted-felled : (before after : KeptOf ModelRules DocumentTables V) (lines lines_after : Lines) (act : Act) → Acted disk before lines act after lines_after
      → (last : World ModelRules)
      → ((tid : TidOf) → committed_unit (meaning last.rules) last tid ≡ committed_unit (meaning before.world.rules) before.world tid)
      → (system : ℕ) → is_up before.world system ≡ true → is_up after.world system ≡ false → cause_at after system ≡ Crashed
      → fells_it last system act ≡ true
  acted-felled before after lines lines_after (ship tid letter whole) did last same system up down told =
      let was = did.was in
      let unit : AleUnit = was.unit in
      let given = answer_to (meaning before.world.rules) before.world unit in
      let so = shipped-fells before after system up down told letter given unit whole was.grew in
      ap (λ b. fells_it last system (ship tid letter b)) so.0
      ∙ ap (λ l. fells_it last system (ship tid l false)) (fells-is letter given so.1)
      ∙ ap (λ found. option_map_or (λ (u : AleUnit). u.receiver) found 0 == system) (same tid ∙ was.committed)
      ∙ eq-eqb unit.receiver system so.2
  acted-felled before after lines lines_after (execute place tid whole) did last same system up down told =
      let executed = did.0 in
      absurd (appended-not before after system up down told
      (execution (offers_received_now (meaning before.world.rules) before.world place tid) place tid) whole executed.grew)
  acted-felled before after lines lines_after (confirm tid letter whole) did last same system up down told =
      absurd (appended-not before after system up down told (confirmation letter (forgot before.world did.unit) did.unit) whole did.grew)

  -- ---- lists of acts

  -- why a system is down stays so
  stays-told : (acts : List Act) (before after : KeptOf ModelRules DocumentTables V) (lines lines_after : Lines)
      → HaveActed disk before lines acts after lines_after → (system : ℕ) → 1 ≤ system → is_up before.world system ≡ false
      → cause_at after system ≡ cause_at before system
  stays-told [] before after lines lines_after did system least down = let only = did.0 in ap (λ all. cause_in all system) only.causes
  stays-told (act ∷ acts) before after lines lines_after did system least down =
      let start : KeptOf ModelRules DocumentTables V = did.0 in
      let between : KeptOf ModelRules DocumentTables V = did.1 in
      let only = did.3 in
      let went = acted-went disk start between lines did.2 act did.4 in
      let stays = went.stays system least (only-up before start only system ∙ down) in
      stays-told acts between after did.2 lines_after did.5 system least stays.down
      ∙ stays.cause ∙ ap (λ all. cause_in all system) only.causes

  -- so a system that was felled in acts was by one of them
  pub all-felled : (acts : List Act) (before after : KeptOf ModelRules DocumentTables V) (lines lines_after : Lines)
      → HaveActed disk before lines acts after lines_after
      → (system : ℕ) → is_up before.world system ≡ true → is_up after.world system ≡ false → cause_at after system ≡ Crashed
      → list_any (fells_it after.world system) acts ≡ true
  all-felled [] before after lines lines_after did system up down told =
      absurd (both_ways (is_up before.world system) (sym (only-up before after did.0 system) ∙ down) up)
  all-felled (act ∷ acts) before after lines lines_after did system up down told =
      let start : KeptOf ModelRules DocumentTables V = did.0 in
      let between : KeptOf ModelRules DocumentTables V = did.1 in
      let up_then = only-up before start did.3 system ∙ up in
      elim (cases_Bool (is_up between.world system)) [
        | inl still ↦
            ap (λ b. fells_it after.world system act || b) (all-felled acts between after did.2 lines_after did.5 system still down told)
            ∙ or-true (fells_it after.world system act)
        | inr fell ↦
            ap (λ b. b || list_any (fells_it after.world system) acts)
            (acted-felled start between lines did.2 act did.4 after.world
            (λ tid. all-same disk acts between after did.2 lines_after did.5 tid ∙ acted-same disk start between lines did.2 act did.4 tid)
            system up_then fell
            (sym (stays-told acts between after did.2 lines_after did.5 system (up-least before.world system up) fell) ∙ told))
      ]
