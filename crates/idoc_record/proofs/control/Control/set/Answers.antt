use Rattle.std.proofs.Common.{◌≡◌, ◌++◌, ◌∙◌, sym, ap, subst}
use Rattle.idoc_record.specs.ControlField.{span_of}
use Rattle.idoc_record.specs.Parts.{with_text}
use Rattle.idoc_record.specs.Control.{IsControl}
use Rattle.idoc_record.proofs.PartLemmas.{with_text-parts}
use Rattle.idoc_record.proofs.ControlLemmas.{IsControl-written}
use Rattle.idoc_record.proofs.control.Control.set.Goals as goal
use Rattle.idoc_record.proofs.control.Control.set.Goals.{After-put_padded}

-- the parts joined again are the record with the text written
kept : (c : After-put_padded) → IsControl (c.split_at_mut-rest.result.0.now ++ (c.put_padded.new.into ++ c.split_at_mut-place.result.1.now))
kept c =
    let front = c.split_at_mut-rest.result.0.now in
    let after = c.split_at_mut-rest.result.1.now in
    let place = c.split_at_mut-place.result.0.now in
    let behind = c.split_at_mut-place.result.1.now in
    let joined = with_text-parts c.span-span.result c.args.value.now c.self.inside.bytes front after place behind c.split_at_mut-rest.ensures.front
    c.split_at_mut-rest.ensures.back c.split_at_mut-place.ensures.front_len c.split_at_mut-place.ensures.back in
    let same : front ++ (c.put_padded.new.into ++ behind) ≡ with_text (span_of c.args.field) c.args.value.now c.self.inside.bytes =
    ap (λ into. front ++ (into ++ behind)) c.put_padded.ensures ∙ joined
    ∙ ap (λ place. with_text place c.args.value.now c.self.inside.bytes) c.span-span.ensures.place in
    subst IsControl (sym same) (IsControl-written c.args.field c.args.value.now c.self.inside.bytes c.self.invariant c.requires.fits c.requires.allowed)

pub invariant_of-self : goal.invariant_of-self
invariant_of-self c = kept (goal.at.invariant_of-self c).After-put_padded

pub returns-clause-record : goal.returns-clause-record
returns-clause-record c = kept (goal.at.returns-clause-record c).After-put_padded
