use Rattle.std.specs.Prelude.{◌==◌}
use Rattle.std.proofs.Common.{◌≡◌, ℕ, length, ap, sym, ◌∙◌}
use Rattle.std.proofs.lemmas.Bool.{eqb-false}
use Rattle.idoc_record.specs.Control.{control_with}
use Rattle.dist_model.specs.declared.lists.Lists.{Lists}
use Rattle.outbound_build.specs.ControlRecord.{control_text}
use Rattle.idoc_tree.specs.Nodes.{forest_of}
use Rattle.outbound_build.proofs.SentLemmas.{one-written, some-kept}
use Rattle.outbound_build.proofs.sending.made_of.Goals as goal

pub returns-clause-document : goal.returns-clause-document
returns-clause-document c =
    let model = c.args.model.now in
    let profile = c.args.profile.now in
    let number = c.args.number.0 in
    let master = c.args.control.now in
    let nodes = c.args.kept.items in
    let some = eqb-false (length nodes) 0 (sym (ap (λ (n : ℕ). n == 0) c.args.kept.ok.0) ∙ sym c.is_empty.ensures ∙ c.if-is_empty.false) in
    let written : c.control_of-control.result ≡ control_with (control_text model profile number master)
    = c.control_of-control.ensures.texts ∙ ap (λ (lists : Lists). control_with (control_text lists profile number master)) c.as_lists.ensures.same in
    one-written model profile number master nodes some c.control_of-control.result (forest_of c.in_ok-forest.forest.items) written c.in_ok-forest.ensures.map

pub returns-clause-of_entries : goal.returns-clause-of_entries
returns-clause-of_entries c entries are whole kept =
    let nodes = c.args.kept.items in
    let some = eqb-false (length nodes) 0 (sym (ap (λ (n : ℕ). n == 0) c.args.kept.ok.0) ∙ sym c.is_empty.ensures ∙ c.if-is_empty.false) in
    c.in_ok-forest.ensures.of_entries entries are whole (some-kept c.args.model.now.definitions entries nodes some kept)
