use Rattle.std.specs.Option.{option_copied}
use Rattle.std.proofs.Common.{◌≡◌, ◌-◌, ◌∷◌, [], ℕ, suc, List, ap, sym, subst, ◌∙◌, arith}
use Rattle.ale_base.proofs.OnOkLemmas.{on_ok, on_ok_both}
use Rattle.status_log.specs.declared.status.Status.{Status}
use Rattle.status_log.specs.declared.status_at.StatusAt.{StatusAt}
use Rattle.status_log.specs.Statuses.{Adds, AddsAll, given, given_by, plain}
use Rattle.object_store.specs.Posting.{applied, outcome_of}
use Rattle.inbound_post.specs.declared.application_tables.ApplicationTables.{ApplicationTables}
use Rattle.inbound_post.specs.Application.{passed_again, status_of}
use Rattle.inbound_post.specs.Tables.{AreTablesOf}
use Rattle.inbound_post.proofs.TablesLemmas.{one_status, passed-tables, unread-tables}
use Rattle.inbound_post.proofs.application_tables.ApplicationTables.pass_again.Goals as goal

pub returns-in-None-2 : goal.returns-in-None-2
returns-in-None-2 c application are =
    let tables = c.args.self.now in
    let model = c.args.model.now in
    let place = c.args.doc.0 - 1 in
    let at : c.args.doc.0 ≡ suc place = omega (arith, c.if-doc-eq0.false) in
    let known = sym c.get.ensures ∙ ap option_copied c.in-Some.is in
    on_ok c.add.result c.add.ensures.ok (λ adds.
    let after : ApplicationTables = record tables { statuses = c.add.new.self } in
    let its = one_status c.args.doc.0 (given tables.records (plain 56)) tables.statuses c.add.new.self
    (subst (λ (s : Status). Adds c.args.doc.0 (given tables.records s) tables.statuses c.add.new.self) c.plain.ensures adds) in
    subst (λ (n : ℕ). AreTablesOf (passed_again model application n) after) (sym at)
    (unread-tables model application tables place c.in-Some.document.now c.add.new.self are known
    (sym c.in_ok-posting-in-Some.ensures.made ∙ c.in-None-2.is)
    (subst (λ (n : ℕ). AddsAll n (given_by tables.records (plain 56 ∷ [])) tables.statuses c.add.new.self) at its)))

pub returns-in-Some-2 : goal.returns-in-Some-2
returns-in-Some-2 c application are =
    let tables = c.args.self.now in
    let model = c.args.model.now in
    let place = c.args.doc.0 - 1 in
    let at : c.args.doc.0 ≡ suc place = omega (arith, c.if-doc-eq0.false) in
    let known = sym c.get.ensures ∙ ap option_copied c.in-Some.is in
    let made = c.in-Some-2.posting in
    let more : List StatusAt = given_by tables.records (plain 62 ∷ status_of (outcome_of made tables.objects) ∷ []) in
    on_ok c.pass.result (on_ok_both (c.pass.new.objects ≡ applied made tables.objects) (AddsAll c.args.doc.0 more tables.statuses c.pass.new.statuses)
    c.pass.result c.pass.ensures.objects c.pass.ensures.statuses) (λ both.
    let after : ApplicationTables = record tables { statuses = c.pass.new.statuses; objects = c.pass.new.objects } in
    subst (λ (n : ℕ). AreTablesOf (passed_again model application n) after) (sym at)
    (passed-tables model application tables place c.in-Some.document.now made c.pass.new.statuses c.pass.new.objects are known
    (sym c.in_ok-posting-in-Some.ensures.made ∙ c.in-Some-2.is)
    (subst (λ (n : ℕ). AddsAll n more tables.statuses c.pass.new.statuses) at both.1) both.0))
