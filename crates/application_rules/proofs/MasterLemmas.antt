-- What may be a master is what is read as one.
use Rattle.std.specs.Prelude.{if◌then◌else◌, is_none, is_some, option_and_then}
use Rattle.std.proofs.Common.{◌≡◌, ◌↔◌, ℕ, Bool, true, false, Option, Some, None, Result, Ok, Err, List, refl, sym, ap, ◌∙◌}
use Rattle.idoc_tree.specs.declared.fault.SyntaxFault.{SyntaxFault}
use Rattle.idoc_tree.specs.Forest.{Forest}
use Rattle.dist_model.specs.declared.lists.Lists.{Lists}
use Rattle.dist_model.specs.Named.{idoc_type_name_of}
use Rattle.idoc_reading.specs.Reading.{ReadDocument, read_by_type}
use Rattle.unit_core.specs.declared.raw_unit_doc.RawUnitDoc.{RawUnitDoc}
use Rattle.outbound_build.specs.Added.{built_master, master_of, master_read, may_be_of}
use Rattle.application_rules.specs.declared.fault.MasterFault.{MasterFault}
use Rattle.application_rules.specs.declared.fault.MasterFault.TheVariants.{Unknown}
use Rattle.application_rules.specs.Masters.{fault_read, master_fault, reading_fault, syntax_fault}

built-agrees : (message : ℕ) (control : List ℕ) (r : Result Forest SyntaxFault) → is_some (built_master message control r) ≡ is_none (syntax_fault r)
built-agrees message control (Ok forest) = refl
built-agrees message control (Err fault) = refl

read-agrees : (model : Lists) (control : List ℕ) (read : ReadDocument) → is_some (master_read model control read) ≡ is_none (fault_read model control read)
read-agrees model control read = of (may_be_of control (idoc_type_name_of model read.message))
  where
    of : (b : Bool) → is_some (if b then built_master read.message control read.made else None)
        ≡ is_none (if b then syntax_fault read.made else Some Unknown)
    of true = built-agrees read.message control read.made
    of false = refl

-- a document is read as a master exactly where it has no fault as one
pub master-agrees : (model : Lists) (doc : RawUnitDoc) → is_some (master_of model doc) ≡ is_none (master_fault model doc)
master-agrees model doc = of (read_by_type model doc.control doc.segments)
  where
    of : (o : Option ReadDocument) → is_some (option_and_then (master_read model doc.control) o) ≡ is_none (reading_fault model doc.control o)
    of None = refl
    of (Some read) = read-agrees model doc.control read

none_is : (o : Option MasterFault) → is_none o ≡ true → o ≡ None
none_is None is = refl
none_is (Some fault) is = absurd (cc)

-- the same, as facts
pub master-read : (model : Lists) (doc : RawUnitDoc) → (is_some (master_of model doc) ≡ true) ↔ (master_fault model doc ≡ None)
master-read model doc = (
  λ read. none_is (master_fault model doc) (sym (master-agrees model doc) ∙ read),
  λ none. master-agrees model doc ∙ ap is_none none,
)
