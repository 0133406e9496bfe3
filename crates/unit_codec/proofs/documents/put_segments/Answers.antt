use Rattle.std.specs.Int.{w32}
use Rattle.std.proofs.Common.{length, []}
use Rattle.std.proofs.lemmas.Bool.{le-leb}
use Rattle.unit_codec.specs.Fields.{segments, segment, any, is_few}
use Rattle.unit_codec.proofs.ListLemmas.{listed-put, AllFollow-any}
use Rattle.unit_codec.proofs.documents.put_segments.Goals as goal

pub returns : goal.returns
unfolding segments
returns c =
    let values = c.args.values.now in
    listed-put w32 is_few segment any values c.as_slice.result.now _ c.args.into.now.items c.put_four_bytes.new.into.items c.put_listed.new.into.items
    c.put_listed.result
    c.len.ensures c.as_slice.ensures (le-leb (length values) 10000 c.requires) (AllFollow-any [] values) c.in_ok-put_four_bytes.ensures c.put_listed.ensures
