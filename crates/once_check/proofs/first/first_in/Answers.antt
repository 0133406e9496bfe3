use Rattle.std.specs.BTreeMap.{get}
use Rattle.std.specs.Prelude.{slice_get}
use Rattle.std.proofs.Common.{get_or, ◌≡◌, ◌^◌, ◌<◌, ℕ, List, Some, length, take, ap, subst, refl, arith}
use Rattle.std.proofs.lemmas.Option.{slice_get_read}
use Rattle.unit_core.specs.declared.records.Record.{Record}
use Rattle.unit_core.specs.Filters.{received}
use Rattle.unit_core.specs.Systems.{lent, of_system}
use Rattle.once_check.specs.steps.Places.{keys_cmp}
use Rattle.once_check.specs.steps.Judged.{IsJudgedSo}
use Rattle.once_check.proofs.PlacesLemmas.{counts-few}
use Rattle.once_check.proofs.FirstLemmas.{AreKeptTo-more, IsFirstIn-judged, IsUnbrokenIn-whole, received-few}
use Rattle.once_check.proofs.first.first_in.Goals as goal

pub judge-requires : goal.judge-requires
judge-requires c =
    let log : List Record = of_system (lent c.args.logs.now) c.args.system in
    let n = c.loop-place.place in
    let same : length c.list_of-log.result.now ≡ length log = ap length c.list_of-log.ensures in
    let within : n < length log = omega (arith, same) in
    let most : length log < 2 ^ 64 = omega (arith, same) in
    let few : length (received (take n log)) < length log = received-few log n (length log) within (omega arith) in
    λ sender receiver name proper.
    omega (arith, counts-few (received (take n log)) (get keys_cmp c.loop-place.counts) (length log) c.loop-place.invariant.counted few sender receiver name proper, most)

stands : (log whole : List Record) (n : ℕ) (next : Record) → log ≡ whole → n < length log → next ≡ get_or log n next → slice_get whole n ≡ Some next
stands log whole n next same within is = subst (λ (l : List Record). slice_get l n ≡ Some next) same (slice_get_read log (length log) n next refl within is)

pub returns-in-Some : goal.returns-in-Some
returns-in-Some c =
    IsFirstIn-judged (of_system (lent c.args.committed.now)) (of_system (lent c.args.logs.now)) c.args.all.now c.args.places.now c.args.system
    c.requires.numbered c.requires.told c.requires.placed c.loop-place.place (get keys_cmp c.loop-place.counts) c.index-log-place.result c.loop-place.invariant
    (stands c.list_of-log.result.now (of_system (lent c.args.logs.now) c.args.system) c.loop-place.place c.index-log-place.result c.list_of-log.ensures
    (omega arith) c.index-log-place.is)
    (get keys_cmp c.judge.new.counts) c.in-Some.clause
    (subst (IsJudgedSo (of_system (lent c.args.committed.now)) c.args.all.now c.args.places.now c.args.system c.index-log-place.result (get keys_cmp c.loop-place.counts)
    (get keys_cmp c.judge.new.counts)) c.in-Some.is c.in_ok-broken.ensures)

pub loop-place-preserved : goal.loop-place-preserved
loop-place-preserved c =
    AreKeptTo-more (of_system (lent c.args.committed.now)) (of_system (lent c.args.logs.now)) c.args.all.now c.args.places.now c.args.system
    c.requires.numbered c.requires.told c.requires.placed c.loop-place.place (get keys_cmp c.loop-place.counts) c.index-log-place.result c.loop-place.invariant
    (stands c.list_of-log.result.now (of_system (lent c.args.logs.now) c.args.system) c.loop-place.place c.index-log-place.result c.list_of-log.ensures
    (omega arith) c.index-log-place.is)
    (get keys_cmp c.judge.new.counts)
    (subst (IsJudgedSo (of_system (lent c.args.committed.now)) c.args.all.now c.args.places.now c.args.system c.index-log-place.result (get keys_cmp c.loop-place.counts)
    (get keys_cmp c.judge.new.counts)) c.in_default.is c.in_ok-broken.ensures)

pub returns : goal.returns
returns c =
    IsUnbrokenIn-whole (of_system (lent c.args.committed.now)) (of_system (lent c.args.logs.now)) c.args.all.now c.args.places.now c.args.system
    c.requires.numbered c.requires.told c.requires.placed c.loop-place.place (get keys_cmp c.loop-place.counts)
    (omega (arith, ap length c.list_of-log.ensures)) c.loop-place.invariant
