use Rattle.std.proofs.Common.{◌+◌, ◌-◌, length}
use Rattle.byte_journal.specs.Log.{most_bytes}
use Rattle.byte_journal.proofs.read_durable.+read_on.Given as goal

-- the bytes that decide the log and were not read
abbrev pub decreases-read_on : goal.decreases-read_on
decreases-read_on g l = (most_bytes + 1) - length l.bytes.now.items
