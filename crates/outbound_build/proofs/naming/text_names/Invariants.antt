use Rattle.std.specs.Prelude.{fold}
use Rattle.std.proofs.Common.{◌≡◌, None, drop, map}
use Rattle.outbound_build.specs.QueueNames.{first_fault, named_once, with_name}
use Rattle.outbound_build.proofs.naming.text_names.Given as goal

abbrev pub invariant-loop-rule : goal.invariant-loop-rule
invariant-loop-rule l = record {
  names : fold with_name l.names (map (λ rule. rule.text) (drop l.rule-index l.rules)) ≡ named_once (map (λ rule. rule.text) l.rules);
  faults : first_fault (map (λ rule. rule.text) (drop l.rule-index l.rules)) ≡ None;
}
