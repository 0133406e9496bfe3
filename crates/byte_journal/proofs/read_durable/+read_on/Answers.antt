use Rattle.std.specs.Prelude.{replicate, OnOk}
use Rattle.std.proofs.Common.{rules, arith, ◌≡◌, ◌∙◌, ℕ, List, ◌≤◌, ◌+◌, ◌-◌, ◌++◌, min, length, take, drop, ap, sym, subst}
use Rattle.byte_journal.specs.Log.{most_bytes, front_of}
use Rattle.byte_journal.proofs.FrontLemmas.{front-all, front-again, front-filled}
use Rattle.byte_journal.proofs.ReadOnlyLemmas.{read-call, read-more, read-none}
use Rattle.ale_volumes.proofs.ClockLemmas.{others_joined}
use Rattle.byte_journal.proofs.read_durable.+read_on.Goals as goal

pub returns-then-length-so_far-clause-read : goal.returns-then-length-so_far-clause-read
returns-then-length-so_far-clause-read g t c = λ told is.
    let held = (g.V.Volumes.disk.volume c.args.vols.now c.args.n).contents in
    let few : min (length held) (most_bytes + 1) ≤ length c.args.bytes.now.items = search rules in
    front-all held c.args.bytes.now.items is few

pub returns-then-index-eq-OPEN_GATE-clause-read : goal.returns-then-index-eq-OPEN_GATE-clause-read
returns-then-index-eq-OPEN_GATE-clause-read g t c = λ told is.
    let held = (g.V.Volumes.disk.volume c.args.vols.now c.args.n).contents in
    let old = c.args.bytes.now.items in
    let n = c.resize.new.self.len in
    let size : n ≡ min (length held) (most_bytes + 1) = search rules in
    let long : length old ≤ n = search rules in
    let filled : c.resize.new.self.items ≡ take n old ++ replicate (n - length old) 0 = search rules in
    let part : c.split_at_mut-behind.result.0.now ≡ take (length old) c.resize.new.self.items = search rules in
    let read : c.read_at.new.into ≡ take (n - length old) (drop (length old) held) = search rules in
    let now : (g.V.Volumes.disk.volume c.read_at.new.self c.args.n).contents ≡ held = search rules in
    subst (λ (l : List ℕ). OnOk c.read_on.result (c.read_on.new.bytes.items ≡ front_of l)) now
    (c.read_on.ensures.read told (front-again _ _
    (front-filled held old c.resize.new.self.items c.split_at_mut-behind.result.0.now c.read_at.new.into _ n size long filled part read is
    ∙ ap front_of (sym now))))

pub returns-else-length-so_far-2-clause-read : goal.returns-else-length-so_far-2-clause-read
returns-else-length-so_far-2-clause-read g t c = λ told is.
    let held = (g.V.Volumes.disk.volume c.args.vols.now c.args.n).contents in
    let old = c.args.bytes.now.items in
    let n = c.resize.new.self.len in
    let size : n ≡ min (length held) (most_bytes + 1) = search rules in
    let long : length old ≤ n = search rules in
    let filled : c.resize.new.self.items ≡ take n old ++ replicate (n - length old) 0 = search rules in
    let part : c.split_at_mut-behind.result.0.now ≡ take (length old) c.resize.new.self.items = search rules in
    let read : c.read_at.new.into ≡ take (n - length old) (drop (length old) held) = search rules in
    front-filled held old c.resize.new.self.items c.split_at_mut-behind.result.0.now c.read_at.new.into _ n size long filled part read is

pub returns-in_err-length-clause-any_moment : goal.returns-in_err-length-clause-any_moment
returns-in_err-length-clause-any_moment g t c = λ told.
    let V = g.V.Volumes in
    let n = c.args.n in
    let old = c.args.vols.now in
    let mid = c.length.new.self in
    let begun = read-none V.disk n old (λ image left. g.met.V.Volumes.only_now told old n image left) in
    let asked = read-call V.disk n old old mid begun (c.length.ensures.time told) (c.length.ensures.same told) in
    asked

pub returns-then-length-so_far-clause-any_moment : goal.returns-then-length-so_far-clause-any_moment
returns-then-length-so_far-clause-any_moment g t c = λ told.
    let V = g.V.Volumes in
    let n = c.args.n in
    let old = c.args.vols.now in
    let mid = c.length.new.self in
    let begun = read-none V.disk n old (λ image left. g.met.V.Volumes.only_now told old n image left) in
    let asked = read-call V.disk n old old mid begun (c.length.ensures.time told) (c.length.ensures.same told) in
    asked

pub returns-in_err-resize-clause-any_moment : goal.returns-in_err-resize-clause-any_moment
returns-in_err-resize-clause-any_moment g t c = λ told.
    let V = g.V.Volumes in
    let n = c.args.n in
    let old = c.args.vols.now in
    let mid = c.length.new.self in
    let begun = read-none V.disk n old (λ image left. g.met.V.Volumes.only_now told old n image left) in
    let asked = read-call V.disk n old old mid begun (c.length.ensures.time told) (c.length.ensures.same told) in
    asked

pub returns-in_err-read_at-clause-any_moment : goal.returns-in_err-read_at-clause-any_moment
returns-in_err-read_at-clause-any_moment g t c = λ told.
    let V = g.V.Volumes in
    let n = c.args.n in
    let old = c.args.vols.now in
    let mid = c.length.new.self in
    let begun = read-none V.disk n old (λ image left. g.met.V.Volumes.only_now told old n image left) in
    let asked = read-call V.disk n old old mid begun (c.length.ensures.time told) (c.length.ensures.same told) in
    let new = c.read_at.new.self in
    let same = c.read_at.ensures.same told ∙ c.length.ensures.same told in
    read-call V.disk n old mid new asked (c.read_at.ensures.time told) same

pub returns-in_err-read_at-clause-others : goal.returns-in_err-read_at-clause-others
returns-in_err-read_at-clause-others g t c = λ told.
    others_joined g.V.Volumes.disk c.args.vols.now c.length.new.self c.read_at.new.self c.args.n (c.length.ensures.time told).later
    (c.length.ensures.others told) (c.read_at.ensures.others told)

pub returns-else-length-so_far-2-clause-any_moment : goal.returns-else-length-so_far-2-clause-any_moment
returns-else-length-so_far-2-clause-any_moment g t c = λ told.
    let V = g.V.Volumes in
    let n = c.args.n in
    let old = c.args.vols.now in
    let mid = c.length.new.self in
    let begun = read-none V.disk n old (λ image left. g.met.V.Volumes.only_now told old n image left) in
    let asked = read-call V.disk n old old mid begun (c.length.ensures.time told) (c.length.ensures.same told) in
    let new = c.read_at.new.self in
    let same = c.read_at.ensures.same told ∙ c.length.ensures.same told in
    read-call V.disk n old mid new asked (c.read_at.ensures.time told) same

pub returns-else-length-so_far-2-clause-others : goal.returns-else-length-so_far-2-clause-others
returns-else-length-so_far-2-clause-others g t c = λ told.
    others_joined g.V.Volumes.disk c.args.vols.now c.length.new.self c.read_at.new.self c.args.n (c.length.ensures.time told).later
    (c.length.ensures.others told) (c.read_at.ensures.others told)

pub returns-then-index-eq-OPEN_GATE-clause-any_moment : goal.returns-then-index-eq-OPEN_GATE-clause-any_moment
returns-then-index-eq-OPEN_GATE-clause-any_moment g t c = λ told.
    let V = g.V.Volumes in
    let n = c.args.n in
    let old = c.args.vols.now in
    let mid = c.length.new.self in
    let begun = read-none V.disk n old (λ image left. g.met.V.Volumes.only_now told old n image left) in
    let asked = read-call V.disk n old old mid begun (c.length.ensures.time told) (c.length.ensures.same told) in
    let new = c.read_at.new.self in
    let same = c.read_at.ensures.same told ∙ c.length.ensures.same told in
    let read = read-call V.disk n old mid new asked (c.read_at.ensures.time told) same in
    read-more V.disk n old new c.read_on.new.vols read same (c.read_on.ensures.any_moment told)

pub returns-then-index-eq-OPEN_GATE-clause-others : goal.returns-then-index-eq-OPEN_GATE-clause-others
returns-then-index-eq-OPEN_GATE-clause-others g t c = λ told.
    let V = g.V.Volumes in
    let n = c.args.n in
    let old = c.args.vols.now in
    let mid = c.length.new.self in
    let new = c.read_at.new.self in
    let asked = (c.length.ensures.time told).later in
    let read = (c.read_at.ensures.time told).later in
    others_joined V.disk old new c.read_on.new.vols n (omega (arith, asked, read))
    (others_joined V.disk old mid new n asked (c.length.ensures.others told) (c.read_at.ensures.others told)) (c.read_on.ensures.others told)
