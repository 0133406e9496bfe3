use Rattle.std.specs.BTreeMap.{is_at}
use Rattle.std.specs.Cmp.Lexicographic.{slice_cmp}
use Rattle.std.specs.Option.{is_some}
use Rattle.std.specs.Ordering.{nat_cmp}
use Rattle.std.proofs.Common.{Result, Ok, Err, OnErr, Some, None, [], sym, ap, ◌∙◌}
use Rattle.std.proofs.lemmas.Map.Steps.{set_value_same}
use Rattle.ale_base.proofs.OnOkLemmas.{on_ok}
use Rattle.object_store.specs.Texts.{with_entry}
use Rattle.object_store.proofs.EntryLemmas.{by_text, set-by_text, found-by_text}
use Rattle.object_store.proofs.text_map.TextMap+TextMap+V.insert_below.Goals as goal

pub returns-in-Some-clause-ok : goal.returns-in-Some-clause-ok
returns-in-Some-clause-ok g c =
    let entries = c.self.inside.tree.entries in
    let above = c.args.above.now in
    on_ok c.insert.result c.insert.ensures.ok (λ below.
    ap (by_text (λ key. key.items)) (c.get_mut.follows.holds c.insert.new.self).0
    ∙ set-by_text (λ key. key.items) above c.insert.new.self entries c.in-Some.ensures.ordered (ap is_some (sym c.in-Some.ensures.value))
    ∙ ap (λ inner. with_entry above inner (by_text (λ key. key.items) entries))
    (below ∙ ap (with_entry c.args.text.now c.args.value)
    (found-by_text (λ key. key.items) above (Some c.in-Some.below.now) [] entries c.args.self.now (sym c.in-Some.ensures.value) c.self.view_is))
    ∙ ap (with_entry above _) c.self.view_is)

on_err : {T E P Q : Type 0} (r : Result T E) → OnErr r P → (P → Q) → OnErr r Q
on_err (Ok x) here leads = tt
on_err (Err e) here leads = leads here

pub returns-in-Some-clause-err : goal.returns-in-Some-clause-err
returns-in-Some-clause-err g c =
    let entries = c.self.inside.tree.entries in
    on_err c.insert.result c.insert.ensures.err (λ same.
    ap (by_text (λ key. key.items))
    ((c.get_mut.follows.holds c.insert.new.self).0
    ∙ set_value_same (is_at (λ key. slice_cmp nat_cmp c.args.above.now key.items)) entries c.insert.new.self
    (sym c.in-Some.ensures.value ∙ ap Some (sym same)))
    ∙ c.self.view_is)

pub returns-in_ok-insert-in-None-clause-ok : goal.returns-in_ok-insert-in-None-clause-ok
returns-in_ok-insert-in-None-clause-ok g c =
    let entries = c.self.inside.tree.entries in
    let above = c.args.above.now in
    on_ok c.insert-in-None-2.result c.insert-in-None-2.ensures.ok (λ all.
    all
    ∙ ap (λ inner. with_entry above inner (by_text (λ key. key.items) c.get_mut.follows.lender-at-none.entries))
    (c.in_ok-insert-in-None.ensures.ok ∙ ap (with_entry c.args.text.now c.args.value)
    (c.new-below.ensures ∙ found-by_text (λ key. key.items) above None [] entries c.args.self.now (sym c.in-None.ensures.value) c.self.view_is))
    ∙ ap (with_entry above _) (ap (λ tree. by_text (λ key. key.items) tree.entries) c.get_mut.follows.holds-at-none ∙ c.self.view_is))
