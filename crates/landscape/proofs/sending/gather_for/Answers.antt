use Rattle.std.proofs.Common.{◌≡◌, ◌∙◌, ℕ, List, Some, sym, ap, subst}
use Rattle.std.proofs.lemmas.Option.{same_Some}
use Rattle.std.specs.List.{AllByRecursion}
use Rattle.unit_codec.specs.Condition.{IsDocument}
use Rattle.std.specs.Prelude.{slice_get}
use Rattle.dist_model.specs.declared.lists.Lists.{Lists}
use Rattle.dist_model.specs.declared.message.Message.{Message}
use Rattle.object_store.specs.Objects.{ObjectsOf}
use Rattle.change_pointers.specs.declared.pointer.Pointer.{Pointer}
use Rattle.change_pointers.specs.Master.{MakesDocuments}
use Rattle.application_rules.specs.Gathered.{gathered}
use Rattle.document_state.specs.OfLog.{applied_by}
use Rattle.landscape.specs.Asked.{Asked, gathered_for, gathered_or_none, with_room}
use Rattle.landscape.specs.steps.Judged.{JudgedCommitsOrNone}
use Rattle.landscape.proofs.JudgedLemmas.{gathers, not_empty}
use Rattle.landscape.proofs.WritableLemmas.{gathered-short}
use Rattle.landscape.proofs.sending.gather_for.Goals as goal

pub commit_gathered-requires-clause-short : goal.commit_gathered-requires-clause-short
commit_gathered-requires-clause-short c =
    let makes : MakesDocuments c.args.model.now c.args.message = record {
      type = c.type_at-ty.result.now;
      here = subst (λ (m : Lists). slice_get m.messages c.args.message ≡ Some c.type_at-ty.result.now) c.as_lists-lists.ensures.same c.type_at-ty.ensures;
      listed = not_empty c.type_at-ty.result.now.pointers (λ none. let is_none = c.is_empty.ensures.1 none in let isnt = c.if-is_empty.false in cc);
    } in
    subst (AllByRecursion IsDocument) (sym c.in_ok-docs.ensures) (gathered-short c.args.model.now c.args.message c.as_lists-lists.ensures.kept makes _ _)

pub returns : goal.returns
returns c log are same is type here =
    let its : c.type_at-ty.result.now ≡ type = same_Some c.type_at-ty.result.now type
    (sym (subst (λ (m : Lists). slice_get m.messages c.args.message ≡ Some c.type_at-ty.result.now) c.as_lists-lists.ensures.same c.type_at-ty.ensures)
    ∙ here) in
    let asks = gathers log c.args.model.now c.args.message c.type_at-ty.result.now
    (λ none. let is_none = c.is_empty.ensures.1 none in let isnt = c.if-is_empty.false in cc) in
    let objects = c.objects.ensures (applied_by log).application (c.inbound.ensures log are) in
    let pointers = c.pointers.ensures (applied_by log).application (c.inbound-2.ensures log are) in
    let docs : gathered_or_none (with_room log) c.type_at-ty.result.now.name
    (gathered c.args.model.now (applied_by log).application.objects (applied_by log).application.pointers c.args.message)
    ≡ gathered_or_none (with_room log) c.as_slice.result.now c.in_ok-docs.docs
    = ap (gathered_or_none (with_room log) c.type_at-ty.result.now.name)
    (ap (λ (o : ObjectsOf). gathered c.args.model.now o (applied_by log).application.pointers c.args.message) (sym objects)
    ∙ ap (λ (p : List Pointer). gathered c.args.model.now c.objects.result.now p c.args.message) (sym pointers) ∙ sym c.in_ok-docs.ensures)
    ∙ ap (λ (name : List ℕ). gathered_or_none (with_room log) name c.in_ok-docs.docs) (sym c.as_slice.ensures) in
    subst (λ (t : Message). JudgedCommitsOrNone log (gathered_for log c.args.model.now c.args.message t) c.commit_gathered.result) its
    (subst (λ (asked : Asked). JudgedCommitsOrNone log asked c.commit_gathered.result) (sym (asks ∙ docs))
    (c.commit_gathered.ensures log are same c.args.model.now is))
