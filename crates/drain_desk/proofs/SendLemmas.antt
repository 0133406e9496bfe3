-- A desk and a work may go to another thread where the volumes may.
use denote.RattleType.{RattleType}
use denote.Param.Send.{IsSend, recorded_send, sendable, struct_send, view_send}
use denote.Struct.Declared as Declared
use Rattle.std.proofs.Crossing as crossing
use Rattle.std.specs.contracts.snapshot.Snapshot as Snapshot
use Rattle.std.proofs.alloc.Global.TheSendSync as global
use Rattle.ale_volumes.specs.declared.volumes.Volumes as Volumes
use Rattle.drain_desk.specs.contracts.began.Began as Began
use Rattle.drain_desk.specs.contracts.work.Work as Work
use Rattle.drain_desk.specs.contracts.desk.DrainDesk as DrainDesk
use Rattle.drain_desk.specs.contracts.desk.DrainDesk.TheInside as inside
use Rattle.drain_desk.specs.contracts.work.Work.TheInside as within
use Rattle.drain_desk.proofs.claiming.Offer.TheSendSync as offer
use Rattle.drain_desk.proofs.desk.Parts.TheSendSync as parts

Began-send : (T : RattleType) (ghosts : Volumes.Ghosts T.Denot) → IsSend T → IsSend (Began.the_field T ghosts).row
Began-send T ghosts s = search (crossing.crosses, sendable) depth 60 fits 20000

-- a desk may
pub DrainDesk-send : (T : RattleType) (ghosts : Volumes.Ghosts T.Denot) → IsSend T → IsSend (DrainDesk.the_row T ghosts)
DrainDesk-send T ghosts s =
    view_send (inside.the_row T ghosts) _ _ _ _
    (recorded_send _ _ _ (inside.the_type T ghosts).to_one
    (struct_send (Declared.shape (inside.the_type T ghosts))
    (global.the_field_send, (Began-send T ghosts s, (parts.the_field_send T ghosts s, tt)))))

origin-send : (T : RattleType) (ghosts : Volumes.Ghosts T.Denot) → IsSend T → IsSend (Snapshot.the_field (Began.the_row T ghosts)).row
origin-send T ghosts s = search (crossing.crosses, sendable) depth 60 fits 20000

-- and a work
pub Work-send : (T : RattleType) (ghosts : Volumes.Ghosts T.Denot) → IsSend T → IsSend (Work.the_row T ghosts)
Work-send T ghosts s =
    view_send (within.the_row T ghosts) _ _ _ _
    (recorded_send _ _ _ (within.the_type T ghosts).to_one
    (struct_send (Declared.shape (within.the_type T ghosts)) (offer.the_field_send, (origin-send T ghosts s, tt))))
