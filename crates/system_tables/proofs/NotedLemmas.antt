-- What one more record does to each table of a log: the table that was noted is that of the longer log.
use Rattle.std.proofs.Common.{◌≡◌, ℕ, true, Option, Some, List, [], ◌∷◌, ◌++◌, append-nil, refl, sym, ap, subst, ◌∙◌}
use Rattle.std.proofs.lemmas.List.{map-append}
use Rattle.ale_base.specs.Tid.{TidOf}
use Rattle.ale_base.specs.declared.way.Way.{Way}
use Rattle.ale_base.specs.declared.way.Way.TheVariants.{Outgoing, Incoming}
use Rattle.ale_base.proofs.MemberLemmas.{filter_map-None, filter_map-Some}
use Rattle.unit_core.specs.declared.ale_unit.AleUnit.{AleUnit}
use Rattle.unit_core.specs.declared.records.Record.{Record}
use Rattle.unit_core.specs.declared.records.Record.TheVariants.{Commit, Dispatch, Mark, Done, Ended, Accept, Execute, Direct, Fail, Forget, Stop, Start, Retry}
use Rattle.unit_core.specs.Filters.{received, taken_by}
use Rattle.unit_core.specs.Queues.{tids_of}
use Rattle.tid_table.specs.LogTids.{AreTidsOf}
use Rattle.tid_table.proofs.LogTidsLemmas.{AreTidsOf-other, AreTidsOf-taken, AreTidsOf-forget}
use Rattle.plain_queues.specs.Queues.{QueuesOf}
use Rattle.plain_queues.specs.Changes.{added, marked, finished, retried}
use Rattle.plain_queues.specs.LogQueues.{AreQueuesOf, LeavesQueues, TakesNone, added_all, keys_of, is_silent}
use Rattle.plain_queues.proofs.RecordLemmas.{AreQueuesOf-committed, AreQueuesOf-Done, AreQueuesOf-Mark, AreQueuesOf-Accept, AreQueuesOf-Direct}
use Rattle.plain_queues.proofs.RecordLemmas.{AreQueuesOf-Execute, AreQueuesOf-Fail, AreQueuesOf-Retry, AreQueuesOf-Stop, AreQueuesOf-Start, AreQueuesOf-silent}
use Rattle.system_tables.specs.Noted.{NotedOutgoing, NotedIncoming, NotedReceived, NotedSeen, NotedUnconfirmed}
use Rattle.system_tables.specs.OfLog.{AreUnconfirmedIn}
use Rattle.system_tables.specs.Joins.{Commits, JoinsSent, JoinsArrived, ClaimsAfter}
use Rattle.system_tables.proofs.UnconfirmedLemmas.{AreUnconfirmedIn-other, AreUnconfirmedIn-Done, AreUnconfirmedIn-Ended}

-- ---- the ids

-- a unit that was received joins at the end
received-taken : (log : List Record) (next : Record) (unit : AleUnit) (before after : List TidOf) → taken_by next ≡ Some unit → after ≡ before ++ unit.tid ∷ []
    → before ≡ tids_of (received log) → after ≡ tids_of (received (log ++ next ∷ []))
received-taken log next unit before after takes noted are =
    noted ∙ ap (λ tids. tids ++ unit.tid ∷ []) are ∙ sym (map-append (λ (unit : AleUnit). unit.tid) (received log) (unit ∷ []))
    ∙ ap tids_of (sym (filter_map-Some taken_by log next unit takes))

-- the ids that were received, after one more record
pub received-noted : (log : List Record) (next : Record) (before after : List TidOf) → NotedReceived next before after → before ≡ tids_of (received log)
    → after ≡ tids_of (received (log ++ next ∷ []))
received-noted log (Accept unit) before after noted are = received-taken log (Accept unit) unit before after refl noted are
received-noted log (Direct unit) before after noted are = received-taken log (Direct unit) unit before after refl noted are
received-noted log next before after noted are = noted ∙ are ∙ ap tids_of (sym (filter_map-None taken_by log next refl))

-- the ids that were received and not forgotten, after one more record
pub seen-noted : (log : List Record) (claim : Option ℕ) (claims : TidOf → Option ℕ) (next : Record) (before after : List TidOf)
    → JoinsArrived log claim claims next → NotedSeen next before after → AreTidsOf log before → AreTidsOf (log ++ next ∷ []) after
seen-noted log claim claims (Accept unit) before after joins noted are =
    AreTidsOf-taken log (Accept unit) unit before after refl refl joins.takes.not_forgotten noted are
seen-noted log claim claims (Direct unit) before after joins noted are =
    AreTidsOf-taken log (Direct unit) unit before after refl refl joins.not_forgotten noted are
seen-noted log claim claims (Forget tid) before after joins noted are = AreTidsOf-forget log tid before after noted are
seen-noted log claim claims next before after joins noted are =
    subst (AreTidsOf (log ++ next ∷ [])) (sym noted) (AreTidsOf-other log next before refl refl are)

-- the ids that are done and not ended, after one more record
pub unconfirmed-noted : (committed more : List AleUnit) (log : List Record) (claim : Option ℕ) (claims : TidOf → Option ℕ) (next : Record)
    (before after : List TidOf) → JoinsSent committed more log claim claims next → NotedUnconfirmed next before after → AreUnconfirmedIn log before
    → AreUnconfirmedIn (log ++ next ∷ []) after
unconfirmed-noted committed more log claim claims (Done tid) before after joins noted are = AreUnconfirmedIn-Done log tid before after joins.2 noted are
unconfirmed-noted committed more log claim claims (Ended tid) before after joins noted are = AreUnconfirmedIn-Ended log tid before after noted are
unconfirmed-noted committed more log claim claims next before after joins noted are =
    subst (AreUnconfirmedIn (log ++ next ∷ [])) (sym noted) (AreUnconfirmedIn-other log next before refl refl are)

-- ---- the queues

-- the same claims and the same queues, under other names
renamed : (way : Way) (committed : List AleUnit) (log : List Record) (claims later : TidOf → Option ℕ) (queues after : QueuesOf) → later ≡ claims
    → after ≡ queues → AreQueuesOf way committed log claims queues → AreQueuesOf way committed log later after
renamed way committed log claims later queues after same_claims same_queues are =
    subst (λ c. AreQueuesOf way committed log c after) (sym same_claims) (subst (AreQueuesOf way committed log claims) (sym same_queues) are)

-- no more units are committed
with_none : (committed more : List AleUnit) (log : List Record) (claims : TidOf → Option ℕ) (queues : QueuesOf) → more ≡ []
    → AreQueuesOf Outgoing committed log claims queues → AreQueuesOf Outgoing (committed ++ more) log claims queues
with_none committed more log claims queues none are =
    subst (λ more. AreQueuesOf Outgoing (committed ++ more) log claims queues) (sym none)
    (subst (λ all. AreQueuesOf Outgoing all log claims queues) (sym (append-nil committed)) are)

-- a record that commits units
committing : (committed more : List AleUnit) (log : List Record) (claims later : TidOf → Option ℕ) (next : Record) (queues after : QueuesOf)
    → LeavesQueues Outgoing next → Commits committed more log claims → later ≡ claims → after ≡ added_all Outgoing more queues
    → AreQueuesOf Outgoing committed log claims queues → AreQueuesOf Outgoing (committed ++ more) (log ++ next ∷ []) later after
committing committed more log claims later next queues after leaves joins same_claims noted are =
    renamed Outgoing (committed ++ more) (log ++ next ∷ []) claims later (added_all Outgoing more queues) after same_claims noted
    (AreQueuesOf-committed committed more log next claims queues leaves joins.new are)

-- a record that leaves the queues of a direction
silent : (way : Way) (committed : List AleUnit) (log : List Record) (claims later : TidOf → Option ℕ) (next : Record) (queues after : QueuesOf)
    → is_silent way next ≡ true → TakesNone way next → later ≡ claims → after ≡ queues → AreQueuesOf way committed log claims queues
    → AreQueuesOf way committed (log ++ next ∷ []) later after
silent way committed log claims later next queues after says none same_claims noted are =
    renamed way committed (log ++ next ∷ []) claims later queues after same_claims noted
    (AreQueuesOf-silent way committed log next claims queues says none are)

-- the outbound queues, after one more record
pub outgoing-noted : (committed more : List AleUnit) (log : List Record) (claim : Option ℕ) (sent arrived sent_after arrived_after : TidOf → Option ℕ)
    (next : Record) (queues after : QueuesOf) → JoinsSent committed more log claim sent next → ClaimsAfter next sent arrived sent_after arrived_after
    → NotedOutgoing next more queues after → AreQueuesOf Outgoing committed log sent queues
    → AreQueuesOf Outgoing (committed ++ more) (log ++ next ∷ []) sent_after after
outgoing-noted committed more log claim sent arrived sent_after arrived_after (Commit origin docs) queues after joins claims noted are =
    committing committed more log sent sent_after (Commit origin docs) queues after
    (record { none_through = refl; marks = λ tid before. refl; stops = λ destination name before. refl }) joins claims.0 noted are
outgoing-noted committed more log claim sent arrived sent_after arrived_after Dispatch queues after joins claims noted are =
    committing committed more log sent sent_after Dispatch queues after
    (record { none_through = refl; marks = λ tid before. refl; stops = λ destination name before. refl }) joins claims.0 noted are
outgoing-noted committed more log claim sent arrived sent_after arrived_after (Done tid) queues after joins claims noted are =
    with_none committed more (log ++ Done tid ∷ []) sent_after after joins.0
    (renamed Outgoing committed (log ++ Done tid ∷ []) sent_after sent_after (finished tid queues) after refl noted
    (AreQueuesOf-Done committed log tid sent sent_after queues claims.0 are))
outgoing-noted committed more log claim sent arrived sent_after arrived_after (Mark tid cause) queues after joins claims noted are =
    with_none committed more (log ++ Mark tid cause ∷ []) sent_after after joins.0
    (renamed Outgoing committed (log ++ Mark tid cause ∷ []) sent_after sent_after (marked cause tid queues) after refl noted
    (AreQueuesOf-Mark committed log tid cause sent sent_after queues claims.0 are))
outgoing-noted committed more log claim sent arrived sent_after arrived_after (Stop Outgoing destination name) queues after joins claims noted are =
    with_none committed more (log ++ Stop Outgoing destination name ∷ []) sent_after after joins
    (renamed Outgoing committed (log ++ Stop Outgoing destination name ∷ []) sent sent_after after after claims.0 refl
    (AreQueuesOf-Stop Outgoing committed log destination name sent queues after noted are))
outgoing-noted committed more log claim sent arrived sent_after arrived_after (Start Outgoing destination name) queues after joins claims noted are =
    with_none committed more (log ++ Start Outgoing destination name ∷ []) sent_after after joins
    (renamed Outgoing committed (log ++ Start Outgoing destination name ∷ []) sent sent_after after after claims.0 refl
    (AreQueuesOf-Start Outgoing committed log destination name sent queues after noted are))
outgoing-noted committed more log claim sent arrived sent_after arrived_after (Retry Outgoing tid) queues after joins claims noted are =
    with_none committed more (log ++ Retry Outgoing tid ∷ []) sent_after after joins
    (renamed Outgoing committed (log ++ Retry Outgoing tid ∷ []) sent sent_after (retried tid queues) after claims.0 noted
    (AreQueuesOf-Retry Outgoing committed log tid sent queues are))
outgoing-noted committed more log claim sent arrived sent_after arrived_after next queues after joins claims noted are =
    with_none committed more (log ++ next ∷ []) sent_after after joins
    (silent Outgoing committed log sent sent_after next queues after refl tt claims.0 noted are)

-- the inbound queues, after one more record
pub incoming-noted : (committed more : List AleUnit) (log : List Record) (claim : Option ℕ) (sent arrived sent_after arrived_after : TidOf → Option ℕ)
    (next : Record) (queues after : QueuesOf) → JoinsArrived log claim arrived next → ClaimsAfter next sent arrived sent_after arrived_after
    → NotedIncoming next queues after → AreQueuesOf Incoming committed log arrived queues
    → AreQueuesOf Incoming (committed ++ more) (log ++ next ∷ []) arrived_after after
incoming-noted committed more log claim sent arrived sent_after arrived_after (Accept unit) queues after joins claims noted are =
    renamed Incoming committed (log ++ Accept unit ∷ []) arrived arrived_after (added unit.tid (keys_of Incoming unit) queues) after claims.1 noted
    (AreQueuesOf-Accept committed log unit arrived queues joins.new are)
incoming-noted committed more log claim sent arrived sent_after arrived_after (Direct unit) queues after joins claims noted are =
    renamed Incoming committed (log ++ Direct unit ∷ []) arrived arrived_after queues after claims.1 noted
    (AreQueuesOf-Direct committed log unit arrived queues joins.not_received are)
incoming-noted committed more log claim sent arrived sent_after arrived_after (Execute tid) queues after joins claims noted are =
    renamed Incoming committed (log ++ Execute tid ∷ []) arrived_after arrived_after (finished tid queues) after refl noted
    (AreQueuesOf-Execute committed log tid arrived arrived_after queues claims.1 are)
incoming-noted committed more log claim sent arrived sent_after arrived_after (Fail tid) queues after joins claims noted are =
    subst (AreQueuesOf Incoming committed (log ++ Fail tid ∷ []) arrived_after) (sym noted)
    (AreQueuesOf-Fail committed log tid arrived arrived_after queues claims.1 are)
incoming-noted committed more log claim sent arrived sent_after arrived_after (Stop Incoming destination name) queues after joins claims noted are =
    renamed Incoming committed (log ++ Stop Incoming destination name ∷ []) arrived arrived_after after after claims.1 refl
    (AreQueuesOf-Stop Incoming committed log destination name arrived queues after noted are)
incoming-noted committed more log claim sent arrived sent_after arrived_after (Start Incoming destination name) queues after joins claims noted are =
    renamed Incoming committed (log ++ Start Incoming destination name ∷ []) arrived arrived_after after after claims.1 refl
    (AreQueuesOf-Start Incoming committed log destination name arrived queues after noted are)
incoming-noted committed more log claim sent arrived sent_after arrived_after (Retry Incoming tid) queues after joins claims noted are =
    renamed Incoming committed (log ++ Retry Incoming tid ∷ []) arrived arrived_after (retried tid queues) after claims.1 noted
    (AreQueuesOf-Retry Incoming committed log tid arrived queues are)
incoming-noted committed more log claim sent arrived sent_after arrived_after next queues after joins claims noted are =
    silent Incoming committed log arrived arrived_after next queues after refl refl claims.1 noted are
