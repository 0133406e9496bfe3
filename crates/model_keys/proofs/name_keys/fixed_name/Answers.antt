use Rattle.std.proofs.Common.{◌∙◌}
use Rattle.segment_defs.proofs.NameLemmas.{IsName_decided, name-trimmed}
use Rattle.model_keys.proofs.name_keys.fixed_name.Goals as goal

pub returns : goal.returns
returns c =
    let name = c.args.name.now in
    rw c.unwrap.ensures at c.of.ensures.text ∙ name-trimmed name ((IsName_decided name).0 c.requires).bytes
