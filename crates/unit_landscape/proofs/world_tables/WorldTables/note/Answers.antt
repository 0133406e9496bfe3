use Rattle.std.proofs.Common.{◌-◌, ap, subst, ◌∙◌}
use Rattle.std.proofs.lemmas.Option.{same_Some}
use Rattle.trfc_protocol.specs.Worlds.{last_of}
use Rattle.unit_core.specs.declared.records.Record.{Record}
use Rattle.system_tables.specs.Noted.{Noted}
use Rattle.unit_landscape.specs.Changed.{ChangedAt}
use Rattle.unit_landscape.proofs.world_tables.WorldTables.note.Goals as goal

pub returns-in-Some-claim-clause-noted : goal.returns-in-Some-claim-clause-noted
returns-in-Some-claim-clause-noted g c next is =
    subst (λ (n : Record). ChangedAt (Noted g.A.Application.stands (λ application log. g.A.Application.goes_with application log n c.args.extra) n
    c.args.more.now)
    (c.args.system - 1) c.args.self.now.tables c.note_at.new.tables)
    (same_Some c.in-Some.next.now next (c.in-Some.ensures ∙ ap last_of c.log.ensures ∙ is)) c.in_ok-note_at.ensures.noted

pub returns-in_default-claim-clause-noted : goal.returns-in_default-claim-clause-noted
returns-in_default-claim-clause-noted g c next is =
    subst (λ (n : Record). ChangedAt (Noted g.A.Application.stands (λ application log. g.A.Application.goes_with application log n c.args.extra) n
    c.args.more.now)
    (c.args.system - 1) c.args.self.now.tables c.note_at.new.tables)
    (same_Some c.in-Some.next.now next (c.in-Some.ensures ∙ ap last_of c.log.ensures ∙ is)) c.in_ok-note_at.ensures.noted
