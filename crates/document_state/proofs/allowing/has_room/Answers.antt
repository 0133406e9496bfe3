use Rattle.std.proofs.Common.{Err, ap}
use Rattle.document_state.proofs.RoomLemmas.{room-few, room-many}
use Rattle.document_state.proofs.allowing.has_room.Goals as goal

pub returns-in-Ok : goal.returns-in-Ok
returns-in-Ok c log tables same model is = room-few log c.args.next.now (c.in-Ok.ensures.few log tables same model is)

pub returns-in-Err-TooMany : goal.returns-in-Err-TooMany
returns-in-Err-TooMany c log tables same model is =
    let over = c.in-Err-TooMany.ensures.too_many log tables same c.in-Err-TooMany.field-0-0 (ap Err c.in-Err-TooMany.field-0-is) in
    room-many log c.args.next.now c.in-Err-TooMany.field-0-0 over.0 over.1
