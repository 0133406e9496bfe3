use Rattle.std.proofs.Common.{rules, ◌≡◌, ◌∙◌, subst, Err}
use Rattle.ale_volumes.specs.MemoryLemmas.{volume_now}
use Rattle.byte_journal.specs.Log.{Stands, DamagedAt}
use Rattle.byte_journal.specs.Settled.{Answers}
use Rattle.worked_cases.proofs.HeldLemmas.{held_alone}
use Rattle.worked_cases.proofs.held.log_of.Goals as goal

pub returns-in-Ok : goal.returns-in-Ok
returns-in-Ok c =
    let same : (volume_now c.in_ok-vols.vols 0).contents ≡ c.args.bytes.now =
    held_alone c.from_fn-one.result c.in_ok-one.field-0 c.in_ok-vols.vols (search rules) c.in_ok-vols.ensures ∙ c.in_ok-one.ensures in
    let told : Unit {0} = search rules in
    let opened = c.in-Ok.ensures in
    let stands : Stands c.args.bytes.now c.in-Ok.log = subst (λ bytes. Stands bytes c.in-Ok.log) same (opened.read told) in
    λ held other. (opened.one_answer c.args.bytes.now).one_log c.in-Ok.log held stands other

pub returns-in-Err-Damaged : goal.returns-in-Err-Damaged
returns-in-Err-Damaged c =
    let same : (volume_now c.in_ok-vols.vols 0).contents ≡ c.args.bytes.now =
    held_alone c.from_fn-one.result c.in_ok-one.field-0 c.in_ok-vols.vols (search rules) c.in_ok-vols.ensures ∙ c.in_ok-one.ensures in
    let told : Unit {0} = search rules in
    let opened = c.in-Err-Damaged.ensures in
    let read = subst (λ fault. Answers (volume_now c.in_ok-vols.vols 0).contents (Err fault)) c.in-Err-Damaged.field-0-is (opened.read told) in
    let damaged = subst (λ bytes. DamagedAt bytes c.in-Err-Damaged.field-0-0) same read in
    λ held stands. absurd ((opened.one_answer c.args.bytes.now).not_both held c.in-Err-Damaged.field-0-0 stands damaged)
