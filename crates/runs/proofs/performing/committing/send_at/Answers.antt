use Rattle.std.proofs.Common.{◌≡◌, Bool, true, false, Option, None, Some, Err, inl, refl, sym, ap, subst, ◌∙◌, if◌then◌else◌}
use Rattle.unit_core.specs.declared.raw_unit_doc.RawUnitDoc.{RawUnitDoc}
use Rattle.trfc_protocol.specs.declared.event.Event.TheVariants.{Commit}
use Rattle.trfc_protocol.specs.Worlds.{is_up, log_of}
use Rattle.status_log.specs.declared.refusal.Refusal.TheVariants.{N2, N3, OutOfMemory}
use Rattle.landscape.specs.Carried.{CarriedAs, asked_at, counts_asked, sent_counts}
use Rattle.runs.specs.Does.{asked_master, numbered}
use Rattle.runs.proofs.performing.committing.send_at.Goals as goal

pub returns-then-not-is_up-clause-does : goal.returns-then-not-is_up-clause-does
returns-then-not-is_up-clause-does g c =
    let world = c.args.stage.now.landscape.world in
    let asked = asked_master (numbered c.args.number c.args.inputs.now.masters) in
    let down : is_up world c.args.system ≡ false = sym c.is_up.ensures ∙ c.if-not-is_up.true in
    record {
      result = Err N2;
      carried = (ap (λ (up : Bool). if up then asked (log_of world c.args.system) else Err N2) down, refl);
      answer_is = c.refused.ensures.answer;
      letters = refl;
    }

pub returns-in_default-clause-does : goal.returns-in_default-clause-does
returns-in_default-clause-does g c =
    let world = c.args.stage.now.landscape.world in
    let log = log_of world c.args.system in
    let none : numbered c.args.number c.args.inputs.now.masters ≡ None = sym c.in_default.ensures in
    let up : is_up world c.args.system ≡ true = sym c.is_up.ensures ∙ c.if-not-is_up.false in
    record {
      result = Err N3;
      carried = (
        ap (λ (up : Bool). if up then asked_master (numbered c.args.number c.args.inputs.now.masters) log else Err N2) up
            ∙ ap (λ (found : Option RawUnitDoc). asked_master found log) none,
        refl,
      );
      answer_is = c.refused-in_default.ensures.answer;
      letters = refl;
    }

pub returns-then-len-gt-MOST_SEGMENTS-clause-does : goal.returns-then-len-gt-MOST_SEGMENTS-clause-does
returns-then-len-gt-MOST_SEGMENTS-clause-does g c =
    record {
      result = Err OutOfMemory;
      carried = inl (record { world = refl; tables = refl; journals = refl; no_faults = λ place. refl; causes = refl });
      answer_is = refl;
      letters = refl;
    }

pub returns-in-Err-clause-does : goal.returns-in-Err-clause-does
returns-in-Err-clause-does g c =
    let before = c.args.stage.now.landscape in
    let system = c.args.system in
    let asked = λ (found : Option RawUnitDoc). asked_at before.world system (asked_master found) in
    let one : numbered c.args.number c.args.inputs.now.masters ≡ Some c.in-Some.master.now = sym c.in-Some.ensures in
    record {
      result = Err c.in-Err.why;
      carried = subst
          (λ (found : Option RawUnitDoc). CarriedAs g.V.Volumes.disk before c.send.new.self system (Commit system) (asked found)
          (λ sent. sent ≡ sent_counts (counts_asked (log_of before.world system) (asked found))) (Err c.in-Err.why)) (sym one) c.in-Err.ensures.ends;
      answer_is = c.refused-in-Err.ensures.answer;
      letters = refl;
    }
