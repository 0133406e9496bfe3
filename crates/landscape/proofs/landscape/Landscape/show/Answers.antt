use Rattle.std.proofs.Common.{◌≡◌, ℕ, ◌-◌, Bool, Option, Some, List, sym, ap, subst, ◌∙◌}
use Rattle.trfc_protocol.specs.declared.held.HeldKind.TheVariants.{Out, In}
use Rattle.trfc_protocol.specs.Worlds.{log_of, committed_by}
use Rattle.unit_journal.specs.OnDisk.{moments_at}
use Rattle.unit_landscape.specs.Claims.{claim_at}
use Rattle.unit_landscape.specs.KeptWorlds.{KeptOf}
use Rattle.document_state.specs.Meaning.{model_meaning}
use Rattle.document_state.specs.declared.document_tables.DocumentTables.{DocumentTables}
use Rattle.document_state.specs.declared.model_rules.ModelRules.{ModelRules}
use Rattle.listings.specs.Listings.{ListedAs, system_of}
use Rattle.landscape.specs.Shown.{AreShownBy, ShownIf}
use Rattle.landscape.proofs.landscape.Landscape.show.Goals as goal

pub returns-in-Some-clause-shown : goal.returns-in-Some-clause-shown
returns-in-Some-clause-shown g c =
    let kept = c.args.self.now in
    let system = system_of c.args.show.now in
    let committed = committed_by (model_meaning kept.world.rules.systems) kept.world system in
    let log = log_of kept.world system in
    let sent = claim_at Out system kept.world.claims in
    let arrived = claim_at In system kept.world.claims in
    let by = subst (λ (n : ℕ). AreShownBy kept.world n (Some c.in-Some.tables.now)) c.system_of-system.ensures c.in-Some.ensures in
    let moments : c.moments.result.now ≡ moments_at kept.journals (system - 1) =
    c.moments.ensures ∙ ap (λ (k : KeptOf ModelRules DocumentTables g.row.V.Denot). moments_at k.journals (c.system_of-system.result - 1)) c.self.view_is
    ∙ ap (λ (n : ℕ). moments_at kept.journals (n - 1)) c.system_of-system.ensures in
    subst (λ (up : Bool). ShownIf kept up c.args.show.now c.listing.result) (sym by.0)
    (subst (λ (ms : List (Option ℕ)). ListedAs committed log ms sent arrived c.args.show.now c.listing.result) moments
    (c.listing.ensures.listed committed log sent arrived by.1))
