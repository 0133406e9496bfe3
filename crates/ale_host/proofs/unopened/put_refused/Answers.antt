use Rattle.std.proofs.Common.{inl, inr, refl, ◌∙◌}
use Rattle.ale_host.specs.Running.{short_line}
use Rattle.ale_host.proofs.unopened.put_refused.Goals as goal

pub returns-in-Ok-clause-ended : goal.returns-in-Ok-clause-ended
returns-in-Ok-clause-ended g c = λ not_6.
    let put = c.put.ensures.ended not_6 in
    (c.as_slice.result.now, inl (put.0, c.as_slice.ensures.value ∙ c.in-Ok.ensures), record { appends = put.1; quiet = put.2 })

pub returns-in-Ok-clause-write_fault : goal.returns-in-Ok-clause-write_fault
returns-in-Ok-clause-write_fault g c = λ is_6.
    let part = c.put.ensures.write_fault is_6 in
    (7, (c.as_slice.result.now, inl (refl, c.as_slice.ensures.value ∙ c.in-Ok.ensures), record { appends = part.1; rose = part.0 }))

pub returns-in-Err-clause-ended : goal.returns-in-Err-clause-ended
returns-in-Err-clause-ended g c = λ not_6.
    let put = c.put-in-Err.ensures.ended not_6 in (short_line, inr (put.0, refl), record { appends = put.1; quiet = put.2 })

pub returns-in-Err-clause-write_fault : goal.returns-in-Err-clause-write_fault
returns-in-Err-clause-write_fault g c = λ is_6.
    let part = c.put-in-Err.ensures.write_fault is_6 in (9, (short_line, inr (refl, refl), record { appends = part.1; rose = part.0 }))
