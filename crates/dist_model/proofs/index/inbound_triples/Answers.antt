use Rattle.std.specs.Prelude.{Contains, position, slice_get}
use Rattle.std.proofs.Common.{◌≡◌, [], Some, ap, sym, ◌∙◌}
use Rattle.std.proofs.lemmas.Option.{slice_get-get_or}
use Rattle.ale_base.specs.Text.{is_text}
use Rattle.ale_base.proofs.ListLemmas.{AllByRecursion-at}
use Rattle.dist_model.specs.Triple.{same_triple}
use Rattle.dist_model.proofs.DistinctLemmas.{added_next, same_triple-symmetric}
use Rattle.dist_model.specs.declared.inbound.Inbound.{Inbound}
use Rattle.dist_model.specs.Index.{inbound_triple, name_place}
use Rattle.dist_model.proofs.IndexLemmas.{is_some, name_place-found, triple_same, triples-apart}
use Rattle.segment_defs.proofs.NameLemmas.{position-none}
use Rattle.dist_model.proofs.index.inbound_triples.Goals as goal

pub unwrap-name-requires : goal.unwrap-name-requires
unwrap-name-requires c =
    let profile = c.profile-item.result in
    let place = c.loop-profile.profile-index in
    let here : slice_get c.args.profiles.now place ≡ Some profile = slice_get-get_or c.args.profiles.now place profile c.loop-profile-test.true
    ∙ ap Some (sym c.profile-item.is) in
    let named : Contains c.args.names.now profile.message = AllByRecursion-at (λ (p : Inbound). Contains c.args.names.now p.message) c.args.profiles.now place
    profile c.requires.named here in
    let found : position (is_text profile.message) c.args.names.now ≡ c.place.result = ap (λ n. position (is_text n) c.args.names.now) (sym c.as_slice.ensures)
    ∙ sym c.place.ensures.place in
    is_some c.place.result (λ none. (position-none profile.message c.args.names.now).0 (found ∙ none) named)

pub loop-profile-preserved : goal.loop-profile-preserved
loop-profile-preserved c =
    let profile = c.profile-item.result in
    let found : position (is_text profile.message) c.args.names.now ≡ Some c.unwrap-name.result =
    ap (λ n. position (is_text n) c.args.names.now) (sym c.as_slice.ensures) ∙ sym c.place.ensures.place ∙ c.unwrap-name.ensures in
    added_next same_triple same_triple-symmetric (inbound_triple c.args.names.now) c.args.profiles.now c.loop-profile.profile-index profile
    (c.from-receiver.result, c.from-sender.result, c.unwrap-name.result) []
    c.loop-profile.triples c.add.new.self c.in_ok-add.field-0 (triples-apart c.args.names.now c.args.profiles.now c.requires.named c.requires.apart)
    c.profile-item.is
    (triple_same c.from-receiver.result c.from-sender.result c.unwrap-name.result profile.receiver profile.sender (name_place c.args.names.now profile.message)
    (c.from-receiver.ensures ∙ c.get.ensures.number) (c.from-sender.ensures ∙ c.get-in-loop-profile.ensures.number)
    (name_place-found c.args.names.now profile.message c.unwrap-name.result found))
    c.loop-profile-test.true c.loop-profile.invariant c.in_ok-add.ensures.new c.in_ok-add.ensures.added
