use Rattle.segment_defs.proofs.segment_type.SegmentType.is_valid.Goals as goal

pub returns-then-is_segment_name : goal.returns-then-is_segment_name
returns-then-is_segment_name c =
    let name = rw c.as_slice.ensures at c.is_segment_name.ensures.named in
    let versions = rw c.as_slice-then-is_segment_name.ensures at c.are_versions.ensures in (
      λ true. let parts = versions.0 true in record
          { named = name.0 c.if-is_segment_name.true; some = parts.0; few = parts.1; each = parts.2; continued = parts.3 },
      λ is. versions.1 (is.some, is.few, is.each, is.continued),
    )
