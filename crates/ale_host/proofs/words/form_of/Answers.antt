use Rattle.std.proofs.Common.{string_bytes, sym, ◌∙◌}
use Rattle.ale_host.proofs.WordsLemmas.{form_of-two}
use Rattle.ale_host.proofs.words.form_of.Goals as goal

pub returns-in-len2 : goal.returns-in-len2
returns-in-len2 c = record {
  form = c.pass_form.ensures.form
      ∙ sym (form_of-two string_bytes c.args.words.now c.command-item.result c.in-len2.len_at_least c.in-len2.len_below c.command-item.is);
  few = c.pass_form.ensures.few;
}
