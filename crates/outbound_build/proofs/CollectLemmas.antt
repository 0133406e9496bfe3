-- Profiles by which documents are collected.
use Rattle.std.specs.List.{AllByRecursion}
use Rattle.std.specs.Option.{option_or}
use Rattle.std.proofs.Common.{◌≡◌, ◌⊎◌, inl, inr, ℕ, None, Some, List, [], ◌∷◌, map, refl, ap, ◌∙◌}
use Rattle.ale_base.specs.QueueName.{IsQueueName}
use Rattle.segment_defs.specs.declared.definitions.Definitions.{Definitions}
use Rattle.segment_defs.specs.declared.idoc_type.IdocType.{IdocType}
use Rattle.dist_model.specs.declared.lists.Lists.{Lists}
use Rattle.dist_model.specs.declared.message.Message.{Message}
use Rattle.dist_model.specs.declared.outbound.Outbound.{Outbound}
use Rattle.dist_model.specs.declared.outbound.QueueRule.{QueueRule}
use Rattle.dist_model.specs.Model.{IsModel, outbound_of}
use Rattle.dist_model.specs.Outbound.{IsQueueRule}
use Rattle.version_reduce.proofs.ProfileLemmas.{is_outbound, outbound_of-Contains}
use Rattle.outbound_build.specs.QueueNames.{fault_of, first_fault}
use Rattle.outbound_build.specs.steps.Packets.{IsCollecting}
use Rattle.outbound_build.proofs.NameLemmas.{name-faultless}

text-faultless : (text : List ℕ) → (text ≡ []) ⊎ IsQueueName text → fault_of text ≡ None
text-faultless text (inl bare) = ap fault_of bare
text-faultless text (inr is) = name-faultless text is

texts-faultless : (definitions : Definitions) (types : List IdocType) (messages : List Message) (message mode : ℕ) (rules : List QueueRule)
    → AllByRecursion (IsQueueRule definitions types messages message mode) rules → first_fault (map (λ rule. rule.text) rules) ≡ None
texts-faultless definitions types messages message mode [] all = refl
texts-faultless definitions types messages message mode (rule ∷ rules) all =
    ap (λ o. option_or o (first_fault (map (λ rule. rule.text) rules))) (text-faultless rule.text all.0.text)
    ∙ texts-faultless definitions types messages message mode rules all.1

-- by each profile of a model documents may be collected
pub collecting : (model : Lists) (row : ℕ) (profile : Outbound) → IsModel model → outbound_of model row ≡ Some profile → IsCollecting profile
collecting model row profile kept found =
    let is = is_outbound model profile kept (outbound_of-Contains model row profile found) in
    record {
      some = is.some;
      outq = texts-faultless model.definitions model.types model.messages profile.message profile.outmod profile.outq is.outq.each;
      inq = texts-faultless model.definitions model.types model.messages profile.message profile.outmod profile.inq is.inq.each;
    }
