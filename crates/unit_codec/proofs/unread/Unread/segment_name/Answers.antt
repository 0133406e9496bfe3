use Rattle.std.proofs.Common.{sym}
use Rattle.unit_codec.proofs.RuleLemmas.{is_segment-parts}
use Rattle.unit_codec.proofs.unread.Unread.segment_name.Goals as goal

pub fixed_of-requires-clause-ends : goal.fixed_of-requires-clause-ends
fixed_of-requires-clause-ends c = (is_segment-parts c.in_ok-text.text.now (sym c.if-not-is_segment.ensures)).1
