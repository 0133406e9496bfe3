use Rattle.std.specs.Int.{w32}
use Rattle.std.proofs.Common.{length, []}
use Rattle.std.proofs.lemmas.Bool.{le-leb}
use Rattle.unit_codec.specs.Fields.{field_values, field_value, any, is_some_count}
use Rattle.unit_codec.proofs.ListLemmas.{listed-put, AllFollow-any}
use Rattle.unit_codec.proofs.documents.put_field_values.Goals as goal

pub returns : goal.returns
unfolding field_values
returns c =
    let values = c.args.values.now in
    listed-put w32 is_some_count field_value any values c.as_slice.result.now _ c.args.into.now.items c.put_four_bytes.new.into.items
    c.put_listed.new.into.items c.put_listed.result
    c.len.ensures c.as_slice.ensures (le-leb 1 (length values) c.requires.counted.0) (AllFollow-any [] values) c.in_ok-put_four_bytes.ensures
    c.put_listed.ensures
