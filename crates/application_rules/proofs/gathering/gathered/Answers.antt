use Rattle.std.specs.List.{filter_map}
use Rattle.std.specs.Option.{option_map}
use Rattle.std.proofs.Common.{◌++◌, sym, ap, ◌∙◌}
use Rattle.change_pointers.specs.Pointers.{pending_of}
use Rattle.change_pointers.specs.Master.{object_master}
use Rattle.change_pointers.specs.declared.pointer.ObjectKey.{ObjectKey}
use Rattle.application_rules.specs.Gathered.{carried_master}
use Rattle.application_rules.proofs.GatheredLemmas.{map-filter_map}
use Rattle.application_rules.proofs.gathering.gathered.Goals as goal

pub loop-key-init : goal.loop-key-init
loop-key-init c =
    let model = c.args.model.now in
    let carry = carried_master model.definitions in
    let made = object_master model c.args.message c.args.objects.now in
    ap (λ docs. docs ++ filter_map (λ (object : ObjectKey). option_map carry (made object)) c.as_slice-keys.result.now) c.new-docs.ensures
    ∙ ap (filter_map (λ (object : ObjectKey). option_map carry (made object))) (c.as_slice-keys.ensures ∙ c.in_ok-pending.ensures.all)
    ∙ sym (map-filter_map carry made (pending_of c.args.message c.args.pointers.now))
