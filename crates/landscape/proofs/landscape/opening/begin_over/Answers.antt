use Rattle.landscape.proofs.landscape.opening.begin_over.Goals as goal

pub begin_all-requires-clause-all : goal.begin_all-requires-clause-all
begin_all-requires-clause-all g c = (c.in_ok-kept.ensures.ends c.args.moment c.args.vols c.in_ok-opening.ensures).all

pub returns-clause-ends : goal.returns-clause-ends
returns-clause-ends g c =
    c.begin_all.ensures.ends c.args.moment c.args.vols (c.in_ok-kept.ensures.ends c.args.moment c.args.vols c.in_ok-opening.ensures)
