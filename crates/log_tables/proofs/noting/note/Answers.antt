use Rattle.std.proofs.Common.{List, length, refl, sym, ap, subst, ◌∙◌}
use Rattle.ale_base.specs.declared.way.Way.TheVariants.{Outgoing, Incoming}
use Rattle.unit_core.specs.declared.records.Record.{Record}
use Rattle.log_tables.specs.OfLog.{LogTablesOf}
use Rattle.log_tables.specs.Held.{IsFreeFor}
use Rattle.log_tables.proofs.LawLemmas.{free-for-out, free-for-in}
use Rattle.log_tables.proofs.ReadLemmas.{can-note-at, IsRead-at}
use Rattle.log_tables.proofs.noting.note.Goals as goal

pub hold-requires-clause-outgoing : goal.hold-requires-clause-outgoing
hold-requires-clause-outgoing g c =
    subst (λ (its : LogTablesOf g.row.R-Tables.Denot). IsFreeFor Outgoing c.args.next.now its.tables.outgoing) (sym c.its.view_is)
    (free-for-out (g.R.Rules.meaning c.args.rules.now) (g.met.R.Rules.lawful c.args.rules.now) g.R.Tables.Application.stands c.args.system c.args.log.now
    c.args.its.now c.requires.read c.args.next.now c.requires.may)

pub hold-requires-clause-incoming : goal.hold-requires-clause-incoming
hold-requires-clause-incoming g c =
    subst (λ (its : LogTablesOf g.row.R-Tables.Denot). IsFreeFor Incoming c.args.next.now its.tables.incoming) (sym c.its.view_is)
    (free-for-in (g.R.Rules.meaning c.args.rules.now) (g.met.R.Rules.lawful c.args.rules.now) g.R.Tables.Application.stands c.args.system c.args.log.now
    c.args.its.now c.requires.read c.args.next.now c.requires.may)

pub brings-requires-clause-stands : goal.brings-requires-clause-stands
brings-requires-clause-stands g c =
    subst (λ (a : g.row.R-Tables.Denot). g.R.Tables.Application.stands a c.args.log.now)
    (ap (λ (its : LogTablesOf g.row.R-Tables.Denot). its.tables.application) (sym c.its.view_is) ∙ sym c.application.ensures)
    c.requires.read.tables.application

pub brings-requires-clause-may : goal.brings-requires-clause-may
brings-requires-clause-may g c = record { legal = c.requires.read.legal; may = c.requires.may }

pub note-requires : goal.note-requires
note-requires g c =
    record {
      can = can-note-at (g.R.Rules.meaning c.args.rules.now) (g.met.R.Rules.lawful c.args.rules.now) c.requires.few
          g.R.Tables.Application.stands
          c.args.system c.args.log.now c.args.its.now c.requires.read c.args.next.now c.requires.may c.requires.proper c.in_ok-units.field-0.units
          c.as_slice.result.now c.its.inside.tables c.hold.new.tables
          (ap (λ (its : LogTablesOf g.row.R-Tables.Denot). its.tables) c.its.view_is) c.hold.ensures c.as_slice.ensures c.in_ok-units.ensures.units;
    }

pub returns : goal.returns
returns g c =
    let goes = λ (a : g.row.R-Tables.Denot) (l : List Record). g.R.Tables.Application.goes_with a l c.args.next.now c.in_ok-units.field-0.extra in
    IsRead-at (g.R.Rules.meaning c.args.rules.now) (g.met.R.Rules.lawful c.args.rules.now) c.requires.few
    g.R.Tables.Application.stands
    c.args.system c.args.log.now c.args.its.now c.requires.read c.args.next.now c.requires.may c.requires.proper goes c.in_ok-units.field-0.units
    c.as_slice.result.now c.its.inside.tables c.hold.new.tables c.note.new.self c.take_over.new.self
    c.its.inside.places c.note_place.new.places
    c.its.inside.done c.note_done.new.done c.its.inside.forgotten c.note_forgotten.new.forgotten (length c.args.log.now)
    (ap (λ (its : LogTablesOf g.row.R-Tables.Denot). its.tables) c.its.view_is) c.hold.ensures c.as_slice.ensures c.in_ok-take_over.ensures.ok
    (ap (λ (its : LogTablesOf g.row.R-Tables.Denot). its.places) c.its.view_is)
    (ap (λ (its : LogTablesOf g.row.R-Tables.Denot). its.done) c.its.view_is)
    (ap (λ (its : LogTablesOf g.row.R-Tables.Denot). its.forgotten) c.its.view_is) refl c.in_ok-units.ensures.units
    (subst (λ (a : g.row.R-Tables.Denot). goes a c.args.log.now) c.application.ensures c.in_ok-units.ensures.extra) c.in_ok-note.ensures.noted c.in_ok-note_place.ensures
    c.in_ok-note_done.ensures c.in_ok-note_forgotten.ensures
