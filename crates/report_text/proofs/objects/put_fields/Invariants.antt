use Rattle.std.proofs.Common.{◌≡◌, ◌++◌, drop}
use Rattle.std.specs.List.{flat_map}
use Rattle.report_text.specs.Listing.{shown_field}
use Rattle.report_text.proofs.objects.put_fields.Given as goal

abbrev pub invariant-loop-field : goal.invariant-loop-field
invariant-loop-field l =
    l.text.items ++ flat_map shown_field (drop l.field-index l.fields)
    ≡ l.initial.text.items ++ flat_map shown_field l.fields
