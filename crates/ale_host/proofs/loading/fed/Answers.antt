use Rattle.std.proofs.Common.{arith}
use Rattle.ale_host.proofs.loading.fed.Goals as goal

pub feed-requires : goal.feed-requires
feed-requires c = record { fits = rw (c.new-reader.ensures.fed, c.as_slice.ensures) (omega (arith, c.in_ok-text.ensures.short, c.requires)) }
