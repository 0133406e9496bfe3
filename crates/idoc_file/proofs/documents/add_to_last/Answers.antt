use Rattle.std.specs.Prelude.{Result, Ok, Err, OnErr}
use Rattle.std.proofs.Common.{◌≡◌, ◌-◌, ◌+◌, [], ◌∷◌, ◌++◌, length, take, slice_set, sym, ap, ◌∙◌, arith}
use Rattle.idoc_file.specs.declared.raw_doc.RawDoc.{RawDoc}
use Rattle.ale_base.proofs.OnOkLemmas.{on_ok}
use Rattle.ale_base.proofs.SnocLemmas.{set-last}
use Rattle.idoc_file.proofs.documents.add_to_last.Goals as goal

-- what holds after an Err leads to what else holds after it
on_err : {T E P Q : Type 0} (r : Result T E) → OnErr r P → (P → Q) → OnErr r Q
on_err (Ok x) here leads = tt
on_err (Err e) here leads = leads here

pub returns-clause-added : goal.returns-clause-added
returns-clause-added c =
    let documents = c.args.documents.now in
    let last = c.at_mut.result.now in
    let n = c.len-last.result - 1 in
    let whole : n + 1 ≡ length documents = omega (arith, c.len-last.ensures, c.requires) in
    let changed : RawDoc = record { control = last.control; segments = c.push.new.self; line = last.line } in
    let parts = set-last documents n last changed whole c.at_mut.ensures.value in
    on_ok c.push.result c.push.ensures.ok (λ pushed. record {
      front = take n documents;
      document = last;
      was = parts.0;
      becomes = parts.1 ∙ ap (λ segments. take n documents ++ record { control = last.control; segments = segments; line = last.line } ∷ []) pushed;
    })

pub returns-clause-err : goal.returns-clause-err
returns-clause-err c =
    let documents = c.args.documents.now in
    let last = c.at_mut.result.now in
    let n = c.len-last.result - 1 in
    let whole : n + 1 ≡ length documents = omega (arith, c.len-last.ensures, c.requires) in
    let parts = set-last documents n last last whole c.at_mut.ensures.value in
    on_err c.push.result c.push.ensures.err (λ kept.
    ap (λ segments. slice_set documents n (record { control = last.control; segments = segments; line = last.line })) kept ∙ parts.1 ∙ sym parts.0)
