use Rattle.std.specs.Prelude.{IfSome}
use Rattle.std.proofs.Common.{subst}
use Rattle.drain_desk.specs.steps.Claiming.{IsOffer}
use Rattle.drain_desk.proofs.DeskLemmas.{going-claimed, going-keeps, going-short, keeps-going, work-made}
use Rattle.drain_desk.proofs.desk.DrainDeskDesk.take.Goals as goal

pub invariant_of-result : goal.invariant_of-result
invariant_of-result g c =
    let began = c.self.inside.origin in
    let going = keeps-going g.V.Volumes.disk began.landscape.value c.self.inside.parts.landscape began.wires.value c.self.inside.parts.wires
    c.self.inside.parts.finished
    c.self.inside.parts.is_short c.if-self.false c.self.invariant in
    work-made g.V.Volumes.disk began c.self.inside.parts.landscape c.claim_any.new.landscape c.self.inside.parts.wires c.self.inside.parts.finished
    c.in-Ok-Some.offer
    c.of.result.value c.of.ensures going c.in-Ok-Some.ensures.claims
    (subst (λ found. IfSome found (IsOffer c.claim_any.new.landscape.world)) c.in-Ok-Some.field-0-is c.in-Ok-Some.ensures.offer)

pub invariant_of-self : goal.invariant_of-self
invariant_of-self g c =
    let began = c.self.inside.origin in
    let going = keeps-going g.V.Volumes.disk began.landscape.value c.self.inside.parts.landscape began.wires.value c.self.inside.parts.wires
    c.self.inside.parts.finished
    c.self.inside.parts.is_short c.if-self.false c.self.invariant in
    going-keeps g.V.Volumes.disk began.landscape.value c.claim_any.new.landscape began.wires.value c.self.inside.parts.wires c.self.inside.parts.finished
    c.self.inside.parts.is_short c.if-self.false
    (going-claimed g.V.Volumes.disk began.landscape.value c.self.inside.parts.landscape c.claim_any.new.landscape began.wires.value c.self.inside.parts.wires
    c.self.inside.parts.finished going c.in-Ok-Some.ensures.claims)

pub invariant_of-self-in-Err : goal.invariant_of-self-in-Err
invariant_of-self-in-Err g c =
    let began = c.self.inside.origin in
    let claims = c.in-Err.ensures.claims in
    let going = keeps-going g.V.Volumes.disk began.landscape.value c.self.inside.parts.landscape began.wires.value c.self.inside.parts.wires
    c.self.inside.parts.finished
    c.self.inside.parts.is_short c.if-self.false c.self.invariant in
    going-short g.V.Volumes.disk began.landscape.value c.self.inside.parts.landscape c.claim_any.new.landscape began.wires.value c.self.inside.parts.wires
    c.self.inside.parts.finished going claims.went
