use Rattle.std.specs.Option.{is_none}
use Rattle.std.proofs.lemmas.Option.{slice_get_within}
use Rattle.std.proofs.Common.{◌≡◌, ◌<◌, arith, List, ℕ, Some, None, [], false, refl, sym, ap, ◌∙◌, slice_get, slice_set, length}
use Rattle.multi_queue.specs.declared.entry.Entry.{Entry}
use Rattle.multi_queue.specs.Counted.{Leaves, gone}
use Rattle.ale_base.proofs.ListLemmas.{slice_get-within}
use Rattle.multi_queue.proofs.CountedLemmas.{set-here, set-twice, left-none, board-idle, claimed-busy, dead-idle}
use Rattle.multi_queue.proofs.FlagLemmas.{same-counted}
use Rattle.multi_queue.proofs.counting.Counting.take_away.Goals as goal

-- the unit as it was before it left its queues
as-was : (p : ℕ) (before units : List Entry) (u x : Entry) (leaves : Leaves p before units) (got : slice_get before p ≡ Some u) → slice_get units p ≡ Some x
    → record u { queues = (leaves.leaves u got).0 } ≡ x
as-was p before units u x leaves got now =
    let one = leaves.leaves u got in
    let here = set-here before p u (record u { queues = one.0 }) got in
    let there : slice_get units p ≡ Some (record u { queues = one.0 }) = ap (λ (l : List Entry). slice_get l p) one.1 ∙ here in
    cc (there, now)

still-claimed : (p : ℕ) (before units : List Entry) (x : Entry) → p < length before → Leaves p before units → slice_get units p ≡ Some x
    → ((u : Entry) → slice_get before p ≡ Some u → is_none u.claim ≡ false) → is_none x.claim ≡ false
still-claimed p before units x within leaves now busy =
    let u = slice_get-within before p within in
    ap (λ (y : Entry). is_none y.claim) (sym (as-was p before units u.0 x leaves u.1 now)) ∙ busy u.0 u.1

as-gone : (p : ℕ) (before units : List Entry) (u x : Entry) → Leaves p before units → slice_get before p ≡ Some u → slice_get units p ≡ Some x → x.queues ≡ []
    → slice_set units p (record x { live = false; claim = None }) ≡ slice_set before p (gone u)
as-gone p before units u x leaves got now none =
    let one = leaves.leaves u got in
    let same = as-was p before units u x leaves got now in
    let empty : one.0 ≡ [] = ap (λ (y : Entry). y.queues) same ∙ none in
    ap (λ (y : Entry). slice_set units p (record y { live = false; claim = None })) (sym same)
    ∙ ap (λ (l : List Entry). slice_set l p (record u { queues = one.0; live = false; claim = None })) one.1
    ∙ set-twice before p (record u { queues = one.0 }) (record u { queues = one.0; live = false; claim = None })
    ∙ ap (λ (qs : List ℕ). slice_set before p (record u { queues = qs; live = false; claim = None })) empty

pub returns-clause-kept : goal.returns-clause-kept
returns-clause-kept g c =
    let was : Entry = c.at_mut-unit.result.now in
    let now : Entry = record was { live = false; claim = None } in
    let after = c.leave_all.new.self in
    let within = slice_get_within after.units c.args.place was c.at_mut-unit.ensures.value in
    let busy = still-claimed c.args.place c.args.self.now.units after.units was c.requires.within c.leave_all.ensures.others c.at_mut-unit.ensures.value
    c.requires.claimed.claimed in
    record {
      counted = same-counted after.units after.lanes after.board.heads c.args.place was now c.at_mut-unit.ensures.value refl c.leave_all.ensures.kept.counted;
      leaves = λ some. board-idle c.args.place was now after.units after.board c.at_mut-unit.ensures.value (λ o. claimed-busy was o busy)
          (λ o. dead-idle now o refl) (c.leave_all.ensures.kept.leaves (omega (arith, within)));
    }

pub returns-clause-units : goal.returns-clause-units
returns-clause-units g c = record {
  gone_at = λ u got.
      as-gone c.args.place c.args.self.now.units c.leave_all.new.self.units u c.at_mut-unit.result.now c.leave_all.ensures.others got
      c.at_mut-unit.ensures.value
      (left-none c.args.place c.leave_all.new.self.units c.at_mut-unit.result.now c.at_mut-unit.ensures.value c.leave_all.ensures.gone);
}
