use Rattle.std.proofs.Common.{suc, refl, sym, subst}
use Rattle.unit_journal.specs.OnDisk.{AreInOrder}
use Rattle.trfc_protocol.specs.Legal.{IsLegal}
use Rattle.system_tables.specs.OfLog.{AreTablesOf}
use Rattle.log_tables.specs.OfLog.{no_claims}
use Rattle.unit_landscape.specs.KeptWorlds.{kept_of}
use Rattle.unit_landscape.specs.Volumes.{place_in, moments_in}
use Rattle.unit_landscape.proofs.OpeningLemmas.{IsOpening-up}
use Rattle.unit_landscape.proofs.opening.volume.OpenedVolume.up.Goals as goal

pub invariant_of-result : goal.invariant_of-result
invariant_of-result g c =
    let is = sym c.self.view_is in
    IsOpening-up g.R.Rules.meaning g.A.Application.stands g.V.Volumes.disk
    (record { kept = kept_of c.self.inside.both c.self.inside.journals c.self.inside.vols; log = c.self.inside.log }) c.args.tables
    (c.add.new.both).world (c.add.new.both).tables c.self.invariant
    (subst (λ k. IsLegal (g.R.Rules.meaning k.kept.world.rules) (suc (place_in k)) k.log) is c.requires.legal)
    (subst (λ k. AreInOrder (moments_in k)) is c.requires.order)
    (subst (λ k. AreTablesOf g.A.Application.stands ((g.R.Rules.meaning k.kept.world.rules).committed (suc (place_in k)) k.log) k.log no_claims no_claims
    c.args.tables) is c.requires.tables)
    refl c.in-Ok.ensures.world c.in-Ok.ensures.tables
