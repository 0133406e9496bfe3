-- What is left where the segments of some types go.
use Rattle.std.specs.Prelude.{nat_eq, Contains}
use Rattle.std.proofs.Common.{◌≡◌, Bool, true, false, refl, sym, subst}
use Rattle.std.proofs.lemmas.Bool.{eq-eqb, eqb-true}
use Rattle.ale_base.proofs.MemberLemmas.{list_any-Contains, list_any-found}
use Rattle.dist_model.specs.declared.outbound.Outbound.{Outbound}
use Rattle.dist_model.specs.Outbound.{removes}
use Rattle.idoc_tree.specs.Forest.{Forest}
use Rattle.version_reduce.specs.Removed.{IsKeptWhole, LosesRemoved, removed}
use Rattle.version_reduce.proofs.ChangeLemmas.{map_nodes-same}
use Rattle.version_reduce.proofs.LeftLemmas.{left-of}

not_both : (b : Bool) → b ≡ true → b ≡ false → ⊥
not_both b one two = cc

-- only what the profile removes goes
pub removed-loses : (profile : Outbound) (forest : Forest) → LosesRemoved profile forest (removed profile forest)
removed-loses profile forest =
    subst (LosesRemoved profile forest) (map_nodes-same (removed profile forest))
    (left-of (λ segment. Contains profile.remove segment.type) (IsKeptWhole profile) (λ segment. removes profile segment.type) (λ segment. segment)
    (λ segment gone. let found = list_any-found (nat_eq segment.type) profile.remove gone in
    subst (Contains profile.remove) (sym (eqb-true segment.type found.0 found.2)) found.1)
    (λ segment stays. record {
      same = refl;
      stays = λ among. not_both _ (list_any-Contains (nat_eq segment.type) profile.remove segment.type among (eq-eqb segment.type segment.type refl)) stays;
    }) forest)
