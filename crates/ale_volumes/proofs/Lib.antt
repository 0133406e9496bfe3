-- What a crash leaves over a run of calls on a disk, and what the other volumes keep.
pub mod ClockLemmas
-- Counts of faults over several calls.
pub mod FaultsLemmas
-- What a crash leaves of a volume that was settled, and after a write or a sync.
pub mod ImageLemmas
-- A choice of what survives gives an image.
pub mod SurvivorsLemmas
-- Replaying a record: what a volume holds after its last sync.
mod ReplayLemmas
-- What volumes in memory keep beside their record stays true.
mod KeptLemmas
-- A write and a sync of volumes in memory, in the words of the trait.
mod StepsLemmas
