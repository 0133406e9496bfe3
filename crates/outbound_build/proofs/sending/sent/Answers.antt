use Rattle.std.proofs.Common.{◌≡◌, ℕ, subst}
use Rattle.std.specs.Option.{option_map}
use Rattle.dist_model.specs.Model.{entries_for}
use Rattle.dist_model.specs.Outbound.{LeavesWhole}
use Rattle.idoc_tree.specs.Nodes.{forest_of}
use Rattle.idoc_reading.proofs.EntryLemmas.{entries-are}
use Rattle.version_reduce.proofs.ProfileLemmas.{leaves_whole, outbound_of-Contains}
use Rattle.outbound_build.specs.Document.{document_of}
use Rattle.outbound_build.specs.Sent.{entries_of, message_of, sent}
use Rattle.outbound_build.proofs.RowLemmas.{profile-message}
use Rattle.outbound_build.proofs.SentLemmas.{adapted-part, none-kept, sent-kept}
use Rattle.outbound_build.proofs.sending.sent.Goals as goal

pub made_of-requires : goal.made_of-requires
made_of-requires c = outbound_of-Contains c.args.model.now c.args.row c.outbound-profile.result.now c.outbound-profile.ensures

pub returns-clause-of_entries : goal.returns-clause-of_entries
returns-clause-of_entries c is =
    let model = c.args.model.now in
    let profile = c.outbound-profile.result.now in
    let control = c.args.master.now.control in
    let kept = c.as_lists-rules.ensures.kept in
    let among = outbound_of-Contains model c.args.row profile c.outbound-profile.ensures in
    let whole : LeavesWhole model.definitions profile (entries_of model c.args.row control) =
    subst (λ (m : ℕ). LeavesWhole model.definitions profile (entries_for model m control))
    (profile-message model c.args.row profile c.outbound-profile.ensures) (leaves_whole model profile kept among) in
    c.in_ok-made.ensures.of_entries (entries_of model c.args.row control) (entries-are model (message_of model c.args.row) control kept) whole
    (c.in_ok-kept.ensures.of_entries is)

made_is : (c : goal.In_ok-made) → option_map document_of c.in_ok-made.made ≡ sent c.args.model.now c.args.row c.args.number.0 (document_of c.args.master.now)
made_is c =
    sent-kept c.args.model.now c.args.row c.args.number.0 (document_of c.args.master.now) c.outbound-profile.result.now c.in_ok-made.made
    (forest_of c.in_ok-kept.kept.items) c.outbound-profile.ensures c.in_ok-kept.ensures.part c.in_ok-made.ensures.document

pub returns-clause-kept : goal.returns-clause-kept
returns-clause-kept c =
    none-kept c.args.model.now c.args.row c.args.number.0 (document_of c.args.master.now) c.outbound-profile.result.now c.in_ok-made.made
    c.outbound-profile.ensures (made_is c)

pub returns-clause-part : goal.returns-clause-part
returns-clause-part c =
    adapted-part c.args.model.now c.args.row c.args.number.0 (document_of c.args.master.now) c.outbound-profile.result.now c.in_ok-made.made
    c.outbound-profile.ensures (made_is c)
