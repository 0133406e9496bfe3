use Rattle.std.proofs.Common.{◌≡◌, ◌++◌, drop}
use Rattle.inbound_post.specs.Reading.{posted_fields}
use Rattle.inbound_post.proofs.reading.posted_fields.Given as goal

abbrev pub invariant-loop-place : goal.invariant-loop-place
invariant-loop-place l = l.posted ++ posted_fields l.key l.place l.sdata (drop l.place l.fields) ≡ posted_fields l.key 0 l.sdata l.fields
