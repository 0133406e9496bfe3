use Rattle.std.proofs.Common.{◌≡◌, ◌+◌, length, arith, sym, ap, subst, ◌∙◌, map}
use Rattle.std.specs.List.{range_with_len}
use Rattle.std.proofs.lemmas.Grind.{common_steps}
use Rattle.std.proofs.lemmas.List.FromFn.{map-range_with_len_more}
use Rattle.trfc_protocol.specs.Safe.{Sound}
use Rattle.trfc_protocol.specs.Start.{genesis_log, genesis_logs}
use Rattle.unit_core.specs.Systems.{of_system}
use Rattle.trfc_protocol.proofs.StartLemmas.{Sound-genesis, length-genesis_logs}
use Rattle.trfc_protocol.proofs.world.World.begin.Goals as goal

pub loop-number-preserved : goal.loop-number-preserved
loop-number-preserved g c =
    grind (arith, common_steps, map-range_with_len_more (genesis_log c.args.text.now) 1 c.loop-number.number (c.loop-number.number + 1) (omega arith))

pub of_logs-requires : goal.of_logs-requires
of_logs-requires g c =
    let rules = g.R.Rules.meaning c.args.rules in
    let all : c.loop-number.number ≡ rules.systems = omega (arith, c.systems-number-end.ensures) in
    let same : c.loop-number.logs ≡ genesis_logs c.args.text.now rules.systems =
    c.loop-number.invariant ∙ ap (λ n. map (genesis_log c.args.text.now) (range_with_len 1 n)) all in
    record {
      all = ap length same ∙ length-genesis_logs c.args.text.now rules.systems;
      sound = subst (λ logs. Sound rules (of_system logs)) (sym same) (Sound-genesis c.args.text.now rules);
    }
