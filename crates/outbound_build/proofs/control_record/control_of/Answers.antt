use Rattle.std.proofs.Common.{ap, sym, subst, ◌∙◌}
use Rattle.idoc_record.specs.Control.{control_with}
use Rattle.outbound_build.specs.ControlRecord.{HasBlanks, control_text}
use Rattle.outbound_build.specs.steps.Texts.{written_all}
use Rattle.outbound_build.proofs.ControlLemmas.{all_is, texts-blank, texts-room, written-whole}
use Rattle.outbound_build.proofs.control_record.control_of.Goals as goal

pub returns-clause-texts : goal.returns-clause-texts
returns-clause-texts c =
    let texts = control_text c.args.lists.now c.args.profile.now c.args.number.0 c.args.master.now in
    c.with_texts.ensures ∙ ap (λ fields. control_with (written_all texts fields)) all_is
    ∙ written-whole texts (texts-room c.args.lists.now c.args.profile.now c.args.number.0 c.args.master.now c.requires.model c.requires.profile)

pub returns-clause-blank : goal.returns-clause-blank
returns-clause-blank c =
    subst HasBlanks (sym (returns-clause-texts c)) (texts-blank c.args.lists.now c.args.profile.now c.args.number.0 c.args.master.now c.requires.model
    c.requires.profile)
