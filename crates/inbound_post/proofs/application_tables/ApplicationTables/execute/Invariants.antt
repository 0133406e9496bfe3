use Rattle.std.proofs.Common.{◌≡◌, drop}
use Rattle.inbound_post.specs.Application.{Application, arrived_all}
use Rattle.inbound_post.specs.Tables.{AreTablesOf}
use Rattle.inbound_post.proofs.application_tables.ApplicationTables.execute.Given as goal

-- what comes of the documents left, in the tables as they are, is what comes of all
abbrev pub invariant-loop-doc : goal.invariant-loop-doc
invariant-loop-doc l =
    (application : Application) → AreTablesOf application l.fn.self
    → (so_far : Application) × AreTablesOf so_far l.self
    × (arrived_all l.fn.sender (drop l.doc-index l.fn.docs) l.left so_far ≡ arrived_all l.fn.sender l.fn.docs l.fn.postings application)
