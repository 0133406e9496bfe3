use Rattle.std.proofs.Common.{sym, subst}
use Rattle.segment_defs.specs.Version.{AreFields}
use Rattle.segment_defs.proofs.DefinitionsLemmas.{version-IsVersion}
use Rattle.version_reduce.proofs.TextLemmas.{no_fields}
use Rattle.version_reduce.proofs.texts.fields_of.Goals as goal

pub returns-in-None-clause-kept : goal.returns-in-None-clause-kept
returns-in-None-clause-kept c = no_fields

pub returns-in-Some-clause-kept : goal.returns-in-Some-clause-kept
returns-in-Some-clause-kept c =
    subst AreFields (sym c.as_slice.ensures) (version-IsVersion c.args.definitions.now _ _ c.in-Some.version.now c.requires (sym c.in-Some.ensures)).fields
