use Rattle.std.proofs.Common.{map, ap, ◌∙◌}
use Rattle.change_pointers.specs.Pointers.{with_object}
use Rattle.change_pointers.proofs.ObjectLemmas.{named, insert-named}
use Rattle.change_pointers.proofs.object_set.ObjectSet.add.Goals as goal

pub returns : goal.returns
returns c =
    let keys = c.self.inside.keys.keys in
    let pointer = c.args.pointer.now in
    ap (map (named (λ name. name.items))) c.in_ok-insert.ensures.keys
    ∙ insert-named (λ name. name.items) keys (c.in_ok-kind.kind, c.in_ok-key.key)
    ∙ ap (λ kind. with_object (map (named (λ name. name.items)) keys) (record { kind = kind; key = c.in_ok-key.key.items }))
    (c.in_ok-kind.ensures.items ∙ c.as_slice.ensures)
    ∙ ap (λ key. with_object (map (named (λ name. name.items)) keys) (record { kind = pointer.kind; key = key }))
    (c.in_ok-key.ensures.items ∙ c.as_slice-2.ensures)
    ∙ ap (λ objects. with_object objects (record { kind = pointer.kind; key = pointer.key })) c.self.view_is
