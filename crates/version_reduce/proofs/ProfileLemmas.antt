-- A profile of a model.
use Rattle.std.specs.Prelude.{slice_get, option_and_then, position, Contains}
use Rattle.std.specs.List.{AllByRecursion}
use Rattle.std.proofs.Common.{◌≡◌, ℕ, Option, Some, None, List, [], ◌∷◌, length, inl, inr, subst}
use Rattle.ale_base.proofs.ListLemmas.{Contains-at}
use Rattle.ale_base.proofs.MemberLemmas.{Contains-cons, Contains-nil}
use Rattle.dist_model.specs.declared.lists.Lists.{Lists}
use Rattle.dist_model.specs.declared.outbound.Outbound.{Outbound}
use Rattle.dist_model.specs.declared.row.Row.{Row}
use Rattle.dist_model.specs.Message.{message_entries}
use Rattle.dist_model.specs.Model.{IsModel, outbound_of}
use Rattle.dist_model.specs.Outbound.{IsOutbound, LeavesWhole}
use Rattle.dist_model.specs.Way.{outbound_ways, row_way, same_way}

-- what holds of each is true of a member
member-has : {A : Type 0} (P : A → Type 0) (xs : List A) (x : A) → AllByRecursion P xs → Contains xs x → P x
member-has P [] x all among = absurd (Contains-nil x among)
member-has P (y ∷ xs) x all among = elim (Contains-cons y xs x among) [
  | inl same ↦ subst P same all.0
  | inr behind ↦ member-has P xs x all.1 behind
]

-- it keeps the rules of a profile
pub is_outbound : (model : Lists) (profile : Outbound) → IsModel model → Contains model.outbound profile
    → IsOutbound (length model.releases) (length model.systems) model.definitions model.types model.messages model.reduced profile
is_outbound model profile kept among = member-has _ model.outbound profile kept.outbound.each among

-- it leaves nothing out that is mandatory
pub leaves_whole : (model : Lists) (profile : Outbound) → IsModel model → Contains model.outbound profile
    → LeavesWhole model.definitions profile (message_entries model.types model.messages profile.message)
leaves_whole model profile kept among =
    member-has (λ p. LeavesWhole model.definitions p (message_entries model.types model.messages p.message)) model.outbound profile kept.whole among

-- the profile of a row is one of the model's
pub outbound_of-Contains : (model : Lists) (row : ℕ) (profile : Outbound) → outbound_of model row ≡ Some profile → Contains model.outbound profile
outbound_of-Contains model row profile found = of_row (slice_get model.rows row) found
  where
    at_place : (o : Option ℕ) → option_and_then (slice_get model.outbound) o ≡ Some profile → Contains model.outbound profile
    at_place None found = absurd (cc)
    at_place (Some place) found = Contains-at model.outbound place profile found

    of_row : (o : Option Row) → option_and_then
        (λ row. option_and_then (slice_get model.outbound) (position (same_way (row_way row)) (outbound_ways model.outbound))) o ≡ Some profile
        → Contains model.outbound profile
    of_row None found = absurd (cc)
    of_row (Some row) found = at_place (position (same_way (row_way row)) (outbound_ways model.outbound)) found
