use Rattle.std.proofs.Common.{Err, inl, refl}
use Rattle.status_log.specs.declared.refusal.Refusal.TheVariants.{OutOfMemory}
use Rattle.runs.proofs.performing.operating.late.Goals as goal

-- nothing was called, for want of memory
pub returns-then-is_claimed-clause-does : goal.returns-then-is_claimed-clause-does
returns-then-is_claimed-clause-does g c =
    (Err OutOfMemory, inl (record { world = refl; tables = refl; journals = refl; no_faults = λ place. refl; causes = refl }), refl, refl)
