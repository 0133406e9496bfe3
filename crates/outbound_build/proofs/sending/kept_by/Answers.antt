use Rattle.std.proofs.Common.{◌≡◌, ℕ, ◌<◌, List, length, ap, sym, subst, ◌∙◌}
use Rattle.segment_defs.specs.declared.idoc_type.TypePlace.{TypePlace}
use Rattle.dist_model.specs.declared.lists.Lists.{Lists}
use Rattle.dist_model.specs.Model.{entries_for}
use Rattle.idoc_tree.specs.declared.node.Node.{Node}
use Rattle.idoc_tree.specs.Nodes.{forest_of}
use Rattle.filter_objects.specs.Passing.{groups_of}
use Rattle.filter_objects.specs.Kept.{IsKeptPart}
use Rattle.filter_objects.specs.FromLeaves.{kept_part}
use Rattle.version_reduce.proofs.ProfileLemmas.{is_outbound, outbound_of-Contains}
use Rattle.outbound_build.specs.Sent.{entries_of}
use Rattle.outbound_build.proofs.RowLemmas.{profile-message}
use Rattle.outbound_build.proofs.SentLemmas.{kept-of_entries}
use Rattle.outbound_build.proofs.sending.kept_by.Goals as goal

pub type_for-ty-requires-clause-known : goal.type_for-ty-requires-clause-known
type_for-ty-requires-clause-known c =
    let model = c.args.model.now in
    let profile = c.args.profile.now in
    let among = outbound_of-Contains model c.args.row profile c.requires.profile in
    subst (λ (lists : Lists). profile.message < length lists.messages) (sym c.as_lists.ensures.same)
    (is_outbound model profile c.as_lists.ensures.kept among).way.message

entries : (c : goal.In_ok-kept) → c.type_for-ty.result.now.segments ≡ entries_of c.args.model.now c.args.row c.args.master.now.control
entries c =
    let model = c.args.model.now in
    let control = c.args.master.now.control in
    c.type_for-ty.ensures.entries
    ∙ ap (λ (lists : Lists). entries_for lists c.args.profile.now.message control) c.as_lists.ensures.same
    ∙ ap (λ (m : ℕ). entries_for model m control) (profile-message model c.args.row c.args.profile.now c.requires.profile)

pub returns-clause-part : goal.returns-clause-part
returns-clause-part c =
    let model = c.args.model.now in
    let groups = groups_of model c.args.row in
    c.in_ok-kept.ensures.part
    ∙ ap (λ (es : List TypePlace). kept_part model es groups (forest_of c.as_slice.result.now)) (entries c)
    ∙ ap (λ (nodes : List Node). kept_part model (entries_of model c.args.row c.args.master.now.control) groups (forest_of nodes)) c.as_slice.ensures.value

pub returns-clause-of_entries : goal.returns-clause-of_entries
returns-clause-of_entries c =
    let model = c.args.model.now in
    let groups = groups_of model c.args.row in
    let kept = forest_of c.in_ok-kept.kept.items in
    let part = subst (λ (nodes : List Node). IsKeptPart model (entries_of model c.args.row c.args.master.now.control) groups (forest_of nodes) kept)
    c.as_slice.ensures.value
    (subst (λ (es : List TypePlace). IsKeptPart model es groups (forest_of c.as_slice.result.now) kept) (entries c) c.in_ok-kept.ensures.kept) in
    kept-of_entries model (entries_of model c.args.row c.args.master.now.control) groups (forest_of c.args.master.now.forest.items) kept part
