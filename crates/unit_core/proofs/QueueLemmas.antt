-- A queue goes on in order: the unit that heads it is the next behind those that are through.
use Rattle.std.specs.Prelude.{find, Contains}
use Rattle.std.specs.Cmp.Lexicographic.{pointwise, bytes_decides}
use Rattle.std.proofs.lemmas.List.Folds.{list_any-append}
use Rattle.std.proofs.Common.{◌≡◌, ℕ, nat_eq, ◌==◌, Bool, true, false, ◌&&◌, Option, Some, None, List, [], ◌∷◌, ◌++◌, inl, inr, refl, sym, ap, subst, ◌∙◌}
use Rattle.std.proofs.lemmas.Bool.{cases_Bool, cond-true, cond-false, and_parts, and_from, and_cases, and_left, and_right, or_cases, or_left, or_parts}
use Rattle.std.proofs.lemmas.Bool.{both_ways, not-true, not-false, not_from_false, not_from_true, eqb-true}
use Rattle.std.proofs.lemmas.Option.{same_Some}
use Rattle.ale_base.specs.Tid.{TidOf, is_tid}
use Rattle.unit_core.specs.declared.ale_unit.AleUnit.{AleUnit}
use Rattle.unit_core.specs.declared.queue.Queue.{Queue}
use Rattle.unit_core.specs.declared.queue.Queue.TheVariants.{Outbound, Inbound}
use Rattle.unit_core.specs.Queues.{is_listed, is_among, is_outstanding, tids_of, stands_in, in_queue, has_name, head_of, has_tid, is_head, heads_outbound}
use Rattle.unit_core.specs.Queues.{heads_inbound}
use Rattle.ale_base.specs.Prefix.{IsPrefix}
use Rattle.unit_core.specs.Once.{NoneTwice}
use Rattle.ale_base.proofs.MemberLemmas.{Contains-here, Contains-there, Contains-filter_back, find-narrower, find-longer, find-filter, find-Some}
use Rattle.ale_base.proofs.MemberLemmas.{list_any-found, list_all-Contains, list_all-weaker}
use Rattle.ale_base.proofs.PrefixLemmas.{IsPrefix-cons, IsPrefix-parts}
use Rattle.unit_core.proofs.TidLemmas.{is_tid-true, is_tid-from, is_listed-append, is_among-listed, is_among-Contains, same_unit, NoneTwice-filter}

-- Of a list, the first element that is open is the next behind a front that has all that are not, and not the element
-- itself.
pub next_behind : (open_ : AleUnit → Bool) (front whole : List AleUnit) (unit : AleUnit) → IsPrefix front whole → NoneTwice (tids_of whole)
    → find open_ whole ≡ Some unit → ((v : AleUnit) → Contains whole v → open_ v ≡ false → is_among v.tid front ≡ true)
    → is_among unit.tid front ≡ false → IsPrefix (front ++ unit ∷ []) whole
next_behind open_ [] [] unit prefix none found closed new = cc
next_behind open_ [] (y ∷ ys) unit prefix none found closed new =
    elim (cases_Bool (open_ y)) [
      | inl pass ↦ (ys, ap (λ v. v ∷ ys) (sym (same_Some y unit (sym (cond-true (open_ y) (Some y) (find open_ ys) pass) ∙ found))))
      | inr miss ↦ absurd (both_ways false refl (closed y (Contains-here y ys) miss))
    ]
next_behind open_ (p ∷ ps) [] unit prefix none found closed new = cc
next_behind open_ (p ∷ ps) (y ∷ ys) unit prefix none found closed new =
    let parts = IsPrefix-parts p y ps ys prefix in
    elim (cases_Bool (open_ y)) [
      | inl pass ↦
          let same : y ≡ unit = same_Some y unit (sym (cond-true (open_ y) (Some y) (find open_ ys) pass) ∙ found) in
          absurd (both_ways (is_among unit.tid (p ∷ ps)) new
          (is_among-Contains unit (p ∷ ps) (subst (λ v. Contains (p ∷ ps) v) (parts.0 ∙ same) (Contains-here p ps))))
      | inr miss ↦
          IsPrefix-cons p y (ps ++ unit ∷ []) ys parts.0
          (next_behind open_ ps ys unit parts.1 none.1
          (sym (cond-false (open_ y) (Some y) (find open_ ys) miss) ∙ found)
          (λ v has is_closed. elim (or_cases (is_tid p.tid v.tid) (is_among v.tid ps) (closed v (Contains-there y ys v has) is_closed)) [
            | inl same ↦ absurd (both_ways (is_listed y.tid (tids_of ys)) none.0
                (sym (is_among-listed y.tid ys)
                ∙ subst (λ t. is_among t ys ≡ true) (sym (is_tid-true p.tid v.tid same) ∙ ap (λ u. u.tid) parts.0) (is_among-Contains v ys has)))
            | inr among ↦ among
          ])
          (or_parts (is_tid p.tid unit.tid) (is_among unit.tid ps) new).1)
    ]

-- ---- the head of a queue

-- there is a unit, and it has the id
pub has_tid-Some : (tid : TidOf) (found : Option AleUnit) → has_tid tid found ≡ true → (unit : AleUnit) × (found ≡ Some unit) × (unit.tid ≡ tid)
has_tid-Some tid None has = cc
has_tid-Some tid (Some unit) has = (unit, refl, is_tid-true unit.tid tid has)

-- a unit that is through stays so where more ids are through
pub is_outstanding-fewer : (through more : List TidOf) (unit : AleUnit) → is_outstanding through unit ≡ false → is_outstanding (through ++ more) unit ≡ false
is_outstanding-fewer through more unit closed =
    not_from_true (is_listed unit.tid (through ++ more))
    (list_any-append (λ other. is_tid other unit.tid) through more
    ∙ or_left (is_listed unit.tid through) (is_listed unit.tid more) (not-false (is_listed unit.tid through) closed))

-- a unit stays outstanding where the ids of others are through
pub is_outstanding-more : (through more : List TidOf) (unit : AleUnit) → is_outstanding through unit ≡ true → is_listed unit.tid more ≡ false
    → is_outstanding (through ++ more) unit ≡ true
is_outstanding-more through more unit open_ other =
    not_from_false (is_listed unit.tid (through ++ more)) (is_listed-append unit.tid through more (not-true (is_listed unit.tid through) open_) other)

-- a unit heads a queue still, where units come behind and others are through
pub is_head-keeps : (through more : List TidOf) (units behind : List AleUnit) (tid : TidOf) (queue : Queue) → is_listed tid more ≡ false
    → is_head through units tid queue ≡ true → is_head (through ++ more) (units ++ behind) tid queue ≡ true
is_head-keeps through more units behind tid queue other head =
    let first = has_tid-Some tid (head_of through units queue) head in
    let unit : AleUnit = first.0 in
    let passes = (find-Some (λ u. stands_in queue u && is_outstanding through u) units unit first.1).1 in
    let parts = and_parts (stands_in queue unit) (is_outstanding through unit) passes in
    let still : head_of (through ++ more) units queue ≡ Some unit =
    find-narrower (λ u. stands_in queue u && is_outstanding through u) (λ u. stands_in queue u && is_outstanding (through ++ more) u) units unit first.1
    (λ u out. elim (and_cases (stands_in queue u) (is_outstanding through u) out) [
      | inl elsewhere ↦ and_left (stands_in queue u) (is_outstanding (through ++ more) u) elsewhere
      | inr closed ↦ and_right (stands_in queue u) (is_outstanding (through ++ more) u) (is_outstanding-fewer through more u closed)
    ])
    (and_from (stands_in queue unit) (is_outstanding (through ++ more) unit) parts.0
    (is_outstanding-more through more unit parts.1 (subst (λ t. is_listed t more ≡ false) (sym first.2) other))) in
    ap (has_tid tid) (find-longer (λ u. stands_in queue u && is_outstanding (through ++ more) u) units behind unit still) ∙ is_tid-from unit.tid tid first.2

-- a unit heads its outbound queues still, where units come behind and others are through
pub heads_outbound-keeps : (through more : List TidOf) (units behind : List AleUnit) (unit : AleUnit) → is_listed unit.tid more ≡ false
    → heads_outbound through units unit ≡ true → heads_outbound (through ++ more) (units ++ behind) unit ≡ true
heads_outbound-keeps through more units behind unit other heads =
    list_all-weaker (λ name. is_head through units unit.tid (Outbound unit.sender unit.receiver name))
    (λ name. is_head (through ++ more) (units ++ behind) unit.tid (Outbound unit.sender unit.receiver name)) unit.outq
    (λ name. is_head-keeps through more units behind unit.tid (Outbound unit.sender unit.receiver name) other) heads

-- the same of its inbound queues
pub heads_inbound-keeps : (through more : List TidOf) (units behind : List AleUnit) (unit : AleUnit) → is_listed unit.tid more ≡ false
    → heads_inbound through units unit ≡ true → heads_inbound (through ++ more) (units ++ behind) unit ≡ true
heads_inbound-keeps through more units behind unit other heads =
    list_all-weaker (λ name. is_head through units unit.tid (Inbound name))
    (λ name. is_head (through ++ more) (units ++ behind) unit.tid (Inbound name)) unit.inq
    (λ name. is_head-keeps through more units behind unit.tid (Inbound name) other) heads

-- a name of a list, by the test
has_name-Contains : (name : List ℕ) (names : List (List ℕ)) → has_name name names ≡ true → Contains names name
has_name-Contains name names has =
    let found = list_any-found (λ other. pointwise nat_eq other name) names has in
    subst (Contains names) ((bytes_decides found.0 name).0 found.2) found.1

-- a unit that heads its queues heads each queue in which it stands
pub is_head-outbound : (through : List TidOf) (units : List AleUnit) (unit : AleUnit) (sender destination : ℕ) (name : List ℕ)
    → heads_outbound through units unit ≡ true → stands_in (Outbound sender destination name) unit ≡ true
    → is_head through units unit.tid (Outbound sender destination name) ≡ true
is_head-outbound through units unit sender destination name heads stands =
    let parts = and_parts ((unit.sender == sender) && (unit.receiver == destination)) (has_name name unit.outq) stands in
    let ends = and_parts (unit.sender == sender) (unit.receiver == destination) parts.0 in
    let from : unit.sender ≡ sender = eqb-true unit.sender sender ends.0 in
    let to : unit.receiver ≡ destination = eqb-true unit.receiver destination ends.1 in
    subst (λ s. is_head through units unit.tid (Outbound s destination name) ≡ true) from
    (subst (λ d. is_head through units unit.tid (Outbound unit.sender d name) ≡ true) to
    (list_all-Contains (λ n. is_head through units unit.tid (Outbound unit.sender unit.receiver n)) unit.outq name heads
    (has_name-Contains name unit.outq parts.1)))

-- the same of inbound queues
pub is_head-inbound : (through : List TidOf) (units : List AleUnit) (unit : AleUnit) (name : List ℕ)
    → heads_inbound through units unit ≡ true → stands_in (Inbound name) unit ≡ true → is_head through units unit.tid (Inbound name) ≡ true
is_head-inbound through units unit name heads stands =
    list_all-Contains (λ n. is_head through units unit.tid (Inbound n)) unit.inq name heads (has_name-Contains name unit.inq stands)

-- The unit that heads a queue is the next of it, behind a front that has all of the queue that are through.
pub next_of_queue : (through : List TidOf) (units front : List AleUnit) (queue : Queue) (unit : AleUnit) → NoneTwice (tids_of units)
    → IsPrefix front (in_queue queue units) → Contains units unit → is_head through units unit.tid queue ≡ true
    → ((v : AleUnit) → Contains units v → stands_in queue v ≡ true → is_listed v.tid through ≡ true → is_among v.tid front ≡ true)
    → is_among unit.tid front ≡ false → IsPrefix (front ++ unit ∷ []) (in_queue queue units)
next_of_queue through units front queue unit none prefix has head closed new =
    let first = has_tid-Some unit.tid (head_of through units queue) head in
    let is_there = find-Some (λ u. stands_in queue u && is_outstanding through u) units first.0 first.1 in
    let same : first.0 ≡ unit = same_unit units first.0 unit none is_there.0 has first.2 in
    next_behind (is_outstanding through) front (in_queue queue units) unit prefix (NoneTwice-filter (stands_in queue) units none)
    (find-filter (stands_in queue) (is_outstanding through) units ∙ first.1 ∙ ap Some same)
    (λ v kept out. let back = Contains-filter_back (stands_in queue) units v kept in
    closed v back.0 back.1 (not-false (is_listed v.tid through) out))
    new
