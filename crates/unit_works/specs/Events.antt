-- The events of works: which happen as a unit is shipped under a letter, executed or confirmed.
use Rattle.std.specs.Prelude.{Option, Some, None, Bool, true, false, not, if◌then◌else◌}
use Rattle.unit_core.specs.declared.records.Record.{Record}
use Rattle.unit_core.specs.declared.records.Record.TheVariants as log
use Rattle.trfc_protocol.specs.declared.event.Event.{Event}
use Rattle.trfc_protocol.specs.declared.event.Event.TheVariants as event
use Rattle.trfc_protocol.specs.declared.event.ReplyTo.TheVariants.{Claim, Forgotten}
use Rattle.trfc_protocol.specs.declared.event.Action.TheVariants.{Revoke}
use Rattle.unit_landscape.specs.declared.answers.Reply.{Reply}
use Rattle.unit_landscape.specs.declared.answers.Reply.TheVariants as reply
use Rattle.unit_works.specs.declared.letter.Letter.{Letter}
use Rattle.unit_works.specs.declared.letter.Letter.TheVariants.{Whole, LostRequest, LostReply, Twice, LostConfirmation, ReceiverFalls}

-- the records that works append: a unit is marked or done, is taken in, executed or run, fails, and its id is forgotten
abbrev pub is_works_record : Record → Bool
is_works_record (log.Mark tid cause) = true
is_works_record (log.Done tid) = true
is_works_record (log.Ended tid) = true
is_works_record (log.Accept unit) = true
is_works_record (log.Execute tid) = true
is_works_record (log.Direct unit) = true
is_works_record (log.Fail tid) = true
is_works_record (log.Forget tid) = true
is_works_record _ = false

-- a system that falls in a work may find nothing, or such a record
abbrev pub is_works_rest : Option Record → Bool
is_works_rest None = true
is_works_rest (Some next) = is_works_record next

-- an event that is a work: a unit is claimed, arrives, is run, is done or marked, is confirmed; or a system falls. It is no commitment, no
-- record of an operator, and no opening
abbrev pub is_work : Event → Bool
is_work (event.Claim tid) = true
is_work (event.Arrive tid) = true
is_work (event.Run tid) = true
is_work (event.Finish number) = true
is_work (event.Fail number) = true
is_work (event.Reply to) = true
is_work (event.LoseRequest number) = true
is_work (event.LoseReply number) = true
is_work (event.Confirm tid) = true
is_work (event.Operator Revoke) = true
is_work (event.Fall system kept) = is_works_rest kept
is_work _ = false

-- whether the request arrives under a letter
abbrev pub arrives_under : Letter → Bool
arrives_under LostRequest = false
arrives_under _ = true

-- whether the reply comes under a letter
abbrev pub is_answered_under : Letter → Bool
is_answered_under LostRequest = false
is_answered_under LostReply = false
is_answered_under ReceiverFalls = false
is_answered_under _ = true

-- whether the receiver falls under a letter, once it has handled the request
abbrev pub falls_under : Letter → Bool
falls_under ReceiverFalls = true
falls_under _ = false

-- whether the confirmation is sent under a letter
abbrev pub is_confirmed_under : Letter → Bool
is_confirmed_under Whole = true
is_confirmed_under Twice = true
is_confirmed_under _ = false

-- whether the confirmation of a unit that was done before is sent under its letter
abbrev pub is_sent_under : Letter → Bool
is_sent_under LostConfirmation = false
is_sent_under _ = true

-- what happens as a unit is shipped under a letter: it arrives and a run of it ends only where the request is not lost, its sender learns
-- of an answer only where none is lost, and its confirmation is sent only where that is not lost; and a system may fall
abbrev pub is_shipping : Letter → Event → Bool
is_shipping letter (event.Claim tid) = true
is_shipping letter (event.Arrive tid) = arrives_under letter
is_shipping letter (event.Finish number) = arrives_under letter
is_shipping letter (event.Fail number) = arrives_under letter
is_shipping letter (event.Reply (Claim number given)) = is_answered_under letter
is_shipping letter (event.LoseReply number) = true
is_shipping letter (event.Confirm tid) = is_confirmed_under letter
is_shipping letter (event.Reply (Forgotten tid)) = is_confirmed_under letter
is_shipping letter (event.Fall system kept) = is_works_rest kept
is_shipping letter _ = false

-- what happens as a unit is executed: it is claimed, and its execution ends; or a system falls
abbrev pub is_execution : Event → Bool
is_execution (event.Run tid) = true
is_execution (event.Finish number) = true
is_execution (event.Fail number) = true
is_execution (event.Fall system kept) = is_works_rest kept
is_execution _ = false

-- what happens as a unit is confirmed: its receiver forgets it and its sender learns of that; or a system falls
abbrev pub is_confirmation : Event → Bool
is_confirmation (event.Confirm tid) = true
is_confirmation (event.Reply (Forgotten tid)) = true
is_confirmation (event.Fall system kept) = is_works_rest kept
is_confirmation _ = false

-- what happens as a unit is claimed to be shipped
abbrev pub is_claim : Event → Bool
is_claim (event.Claim tid) = true
is_claim _ = false

-- what happens as a unit is claimed to be executed
abbrev pub is_run : Event → Bool
is_run (event.Run tid) = true
is_run _ = false

-- ---- what only private functions cite

-- nothing came back
abbrev pub is_lost : Reply → Bool
is_lost reply.Lost = true
is_lost _ = false

-- what happens as a unit arrives
abbrev pub is_arrival : Event → Bool
is_arrival (event.Arrive tid) = true
is_arrival (event.Fall system kept) = is_works_rest kept
is_arrival _ = false

-- what happens as a system falls
abbrev pub is_fall : Event → Bool
is_fall (event.Fall system kept) = is_works_rest kept
is_fall _ = false

-- what happens as the work of a claim ends
abbrev pub is_end : Event → Bool
is_end (event.Finish number) = true
is_end (event.Fail number) = true
is_end (event.Fall system kept) = is_works_rest kept
is_end _ = false

-- what happens as a unit is delivered under a letter: it arrives and a run of it ends, where its request is not lost
abbrev pub is_delivery : Letter → Event → Bool
is_delivery letter (event.Arrive tid) = arrives_under letter
is_delivery letter (event.Finish number) = arrives_under letter
is_delivery letter (event.Fail number) = arrives_under letter
is_delivery letter (event.Fall system kept) = is_works_rest kept
is_delivery letter _ = false

-- what happens as a unit is confirmed under a letter: nothing where its confirmation is lost
abbrev pub is_confirming : Letter → Event → Bool
is_confirming letter (event.Confirm tid) = is_confirmed_under letter
is_confirming letter (event.Reply (Forgotten tid)) = is_confirmed_under letter
is_confirming letter (event.Fall system kept) = is_works_rest kept
is_confirming letter _ = false

-- what is told of an answer under a letter: nothing came back where it is lost
abbrev pub told_of : Letter → Reply → Reply
told_of letter given = if is_answered_under letter then given else reply.Lost

-- what happens as such a reply comes
abbrev pub is_reply : Reply → Event → Bool
is_reply given (event.Reply (Claim number answer)) = not (is_lost given)
is_reply given (event.LoseReply number) = true
is_reply given (event.Fall system kept) = is_works_rest kept
is_reply given _ = false
