use Rattle.std.proofs.Common.{ℕ, List, ◌++◌, [], ◌∷◌, map, take, sym, ap, ◌∙◌, append_assoc}
use Rattle.std.proofs.lemmas.List.{map-append}
use Rattle.dist_model.specs.Model.{places_from}
use Rattle.change_pointers.specs.declared.pointer.Pointer.{Pointer}
use Rattle.change_pointers.specs.Noted.{lists_field, pointer_to}
use Rattle.change_pointers.proofs.MoreLemmas.{places_more_yes, places_more_no}
use Rattle.change_pointers.proofs.noting.push_pointers.Goals as goal
use Rattle.change_pointers.proofs.noting.push_pointers.Goals.{then-lists_field+in_ok-pointer_to+in_ok-push, else-lists_field}

pub loop-place-preserved : goal.loop-place-preserved
loop-place-preserved c =
    let front = c.args.pointers.now in
    let point = pointer_to c.args.kind.now c.args.key.now c.args.field.now in
    let test = lists_field c.args.lists.now c.args.kind.now c.args.field.now in
    let messages = c.as_slice-messages.result.now in
    let place = c.loop-place.place in
    let so_far = places_from test 0 (take place messages) in
    let listed = c.index-messages-place.result in
    elim c.if-lists_field.branch [
      | then-lists_field+in_ok-pointer_to+in_ok-push w ↦
          w.pointers-is
          ∙ w.in_ok-push.ensures.ok
          ∙ ap (λ (all : List Pointer). all ++ w.in_ok-pointer_to.field-0 ∷ []) c.loop-place.invariant
          ∙ ap (λ (pointer : Pointer). (front ++ map point so_far) ++ pointer ∷ []) w.in_ok-pointer_to.ensures
          ∙ append_assoc front (map point so_far) (point place ∷ [])
          ∙ ap (λ (more : List Pointer). front ++ more) (sym (map-append point so_far (place ∷ [])))
          ∙ ap (λ (places : List ℕ). front ++ map point places)
          (sym (places_more_yes test messages place listed c.loop-place-test.true c.index-messages-place.is
          (sym c.lists_field.ensures ∙ w.if-lists_field.true)))
      | else-lists_field w ↦
          w.pointers-is
          ∙ c.loop-place.invariant
          ∙ ap (λ (places : List ℕ). front ++ map point places)
          (sym (places_more_no test messages place listed c.loop-place-test.true c.index-messages-place.is
          (sym c.lists_field.ensures ∙ w.if-lists_field.false)))
    ]
