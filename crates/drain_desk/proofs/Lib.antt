-- Lemmas on the desk of a drain. Each file stands on those before it.

-- what claims and works leave of what is known of a work
pub mod LastingLemmas
-- which works are still to be done, whatever is claimed or done
pub mod ToDoLemmas
-- units are claimed
pub mod ClaimingLemmas
-- works are done
pub mod ActingLemmas
-- what a desk keeps
pub mod DeskLemmas
-- workers begin and end
pub mod DrainLemmas
-- a desk and a work may go to another thread
pub mod SendLemmas
