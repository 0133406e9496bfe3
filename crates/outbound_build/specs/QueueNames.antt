-- The queues that a document is in, by the rules of its profile. Queues are those of SAP's queued RFC; the rules are this
-- project's own.
use Rattle.std.specs.Prelude.{ℕ, ◌==◌, ◌&&◌, ◌||◌, Bool, true, false, not, List, [], ◌∷◌, ◌++◌, length, map, find, fold, position, nat_le, nat_lt, Option, Some}
use Rattle.std.specs.Prelude.{None, Result, Ok, Err, if◌then◌else◌}
use Rattle.std.specs.Option.{option_map, option_map_or, option_or}
use Rattle.ale_base.specs.declared.queue_name.NameFault.{NameFault}
use Rattle.ale_base.specs.declared.queue_name.NameFault.TheVariants.{TooLong, BadByte}
use Rattle.segment_defs.specs.declared.definitions.Definitions.{Definitions}
use Rattle.segment_defs.specs.Definitions.{text_of}
use Rattle.dist_model.specs.declared.filter.FieldPlace.{FieldPlace}
use Rattle.dist_model.specs.declared.lists.Lists.{Lists}
use Rattle.dist_model.specs.declared.outbound.Outbound.{Outbound}
use Rattle.dist_model.specs.declared.outbound.QueueRule.{QueueRule}
use Rattle.dist_model.specs.Model.{outbound_of}
use Rattle.idoc_tree.specs.Forest.{Segment, Forest, preorder}
use Rattle.unit_core.specs.Queues.{has_name}
use Rattle.outbound_build.specs.declared.queue_lists.QueueLists.{QueueLists}

-- the first segment of a type, in preorder
abbrev pub first_of : ℕ → Forest → Option Segment
first_of type forest = find (λ segment. segment.type == type) (preorder forest)

-- the text of a field in the first segment of its type, without blanks at its end; no bytes where there is none
abbrev pub text_in : Definitions → Forest → FieldPlace → List ℕ
text_in definitions forest place =
    option_map_or (λ segment. text_of definitions segment.type segment.version place.field segment.sdata) (first_of place.segment forest) []

-- what a rule makes: its text, and behind it the text of its field, if it has one
abbrev pub named_by : Definitions → Forest → QueueRule → List ℕ
named_by definitions forest rule = rule.text ++ option_map_or (text_in definitions forest) rule.place []

-- a byte that a name may have
abbrev pub is_name_byte : ℕ → Bool
is_name_byte byte = nat_le 33 byte && nat_le byte 126

-- why what a rule makes is no name of a queue: more than 24 bytes, or the first byte that no name has. No bytes are no
-- fault, since they name no queue.
abbrev pub fault_of : List ℕ → Option NameFault
fault_of name = if nat_lt 24 (length name) then Some TooLong else option_map BadByte (position (λ byte. not (is_name_byte byte)) name)

-- the fault of the first that has one
abbrev pub first_fault : List (List ℕ) → Option NameFault
first_fault [] = None
first_fault (name ∷ names) = option_or (fault_of name) (first_fault names)

-- whether there are no bytes
abbrev pub is_blank : List ℕ → Bool
is_blank [] = true
is_blank (byte ∷ bytes) = false

-- the names so far and one more, unless it has no bytes or is among them
abbrev pub with_name : List (List ℕ) → List ℕ → List (List ℕ)
with_name names name = if is_blank name || has_name name names then names else names ++ name ∷ []

-- the queues of these names: each once, at its first place
abbrev pub named_once : List (List ℕ) → List (List ℕ)
named_once names = fold with_name [] names

-- the queues by what the outbound and the inbound rules make, or the first fault, outbound rules first
abbrev pub queues_named : List (List ℕ) → List (List ℕ) → Result QueueLists NameFault
queues_named outbound inbound =
    option_map_or Err (first_fault (outbound ++ inbound)) (Ok (record { outq = named_once outbound; inq = named_once inbound }))

-- the queues of a document by a profile
abbrev pub queues_by : Lists → Forest → Outbound → Result QueueLists NameFault
queues_by model forest profile =
    queues_named (map (named_by model.definitions forest) profile.outq) (map (named_by model.definitions forest) profile.inq)

-- no queues
abbrev pub no_queues : QueueLists
no_queues = record { outq = []; inq = [] }

-- the queues of a document that a row of the model sends
abbrev pub queues_of : Lists → ℕ → Forest → Result QueueLists NameFault
queues_of model row forest = option_map_or (queues_by model forest) (outbound_of model row) (Ok no_queues)
