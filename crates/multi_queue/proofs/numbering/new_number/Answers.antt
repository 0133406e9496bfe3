use Rattle.std.specs.BTreeMap.{get}
use Rattle.std.specs.Ordering.{is_eq}
use Rattle.std.specs.Option.{option_map}
use Rattle.std.proofs.Common.{◌≡◌, false, cond, [], ◌∷◌, ◌++◌, Some, List, ℕ, length, take, ap, sym, subst, ◌∙◌}
use Rattle.multi_queue.specs.declared.entry.Lane.{Lane}
use Rattle.multi_queue.specs.Counted.{Grows}
use Rattle.multi_queue.specs.Seen.{key_at, names_cmp, IsNamed}
use Rattle.std.proofs.Math.Seq.{take-append_seam}
use Rattle.multi_queue.proofs.LaneLemmas.{named-new, grows-none, get-end}
use Rattle.multi_queue.proofs.numbering.new_number.Goals as goal

pub returns-in-Ok-clause-named : goal.returns-in-Ok-clause-named
returns-in-Ok-clause-named c =
    let w : Lane = record { key = c.args.key.now; stopped = false; line = [] } in
    let e : c.push.new.self ≡ c.args.lanes.now ++ w ∷ [] = c.in_default.ensures.ok ∙ ap (λ (x : Lane). c.args.lanes.now ++ x ∷ []) c.new_lane.ensures in
    let others = subst (λ (n : ℕ). (name : ℕ × List ℕ) → get names_cmp c.insert.new.self name ≡ cond (is_eq (names_cmp c.name_of.result name)) (Some n)
    (get names_cmp c.args.names.now name))
    c.len-number.ensures c.in-Ok.ensures.updates.0 in
    let named = subst (λ (n : ℕ × List ℕ). (name : ℕ × List ℕ) →
    get names_cmp c.insert.new.self name ≡ cond (is_eq (names_cmp n name)) (Some (length c.args.lanes.now)) (get names_cmp c.args.names.now name))
    c.name_of.ensures.name others in
    let here = subst (λ (n : ℕ × List ℕ). get names_cmp c.insert.new.self n ≡ Some c.len-number.result) c.name_of.ensures.name c.in-Ok.ensures.updates.1
    ∙ ap (λ (n : ℕ). Some n) c.len-number.ensures in
    subst (λ (l : List Lane). IsNamed l (get names_cmp c.insert.new.self)) (sym e)
    (named-new c.args.lanes.now (get names_cmp c.args.names.now) (get names_cmp c.insert.new.self) w c.requires.named c.requires.new c.name_of.ensures.proper
    named here)

pub returns-in-Ok-clause-number : goal.returns-in-Ok-clause-number
returns-in-Ok-clause-number c =
    let w : Lane = record { key = c.args.key.now; stopped = false; line = [] } in
    let e : c.push.new.self ≡ c.args.lanes.now ++ w ∷ [] = c.in_default.ensures.ok ∙ ap (λ (x : Lane). c.args.lanes.now ++ x ∷ []) c.new_lane.ensures in
    ap (λ (l : List Lane). key_at l c.len-number.result) e ∙ ap (λ (n : ℕ). key_at (c.args.lanes.now ++ w ∷ []) n) c.len-number.ensures
    ∙ ap (option_map (λ (lane : Lane). lane.key)) (get-end c.args.lanes.now w)

pub returns-in-Err-insert-clause-grows : goal.returns-in-Err-insert-clause-grows
returns-in-Err-insert-clause-grows c =
    let e : c.truncate.new.self ≡ c.args.lanes.now = c.truncate.ensures ∙ ap (λ (n : ℕ). take n c.push.new.self) c.len-number.ensures
    ∙ ap (λ (l : List Lane). take (length c.args.lanes.now) l) c.in_default.ensures.ok ∙ take-append_seam c.args.lanes.now (c.new_lane.result ∷ []) in
    subst (λ (l : List Lane). Grows c.args.lanes.now l) (sym e) (grows-none c.args.lanes.now)
