-- What the rules by models commit can be written.
use Rattle.std.specs.Prelude.{Contains}
use Rattle.std.specs.List.{AllByRecursion}
use Rattle.std.proofs.Common.{◌≡◌, ℕ, suc, inl, inr, true, List, [], ◌∷◌, sym, ap, subst, ◌∙◌, arith}
use Rattle.std.proofs.lemmas.Bool.{and_parts}
use Rattle.ale_base.specs.Tid.{TidOf}
use Rattle.ale_base.proofs.SnocLemmas.{AllByRecursion-snoc}
use Rattle.ale_base.proofs.ListLemmas.{AllByRecursion-weaker}
use Rattle.ale_base.proofs.MemberLemmas.{Contains-cons, Contains-nil, Contains-map_back}
use Rattle.unit_core.specs.declared.records.Record.{Record}
use Rattle.unit_core.specs.declared.records.Record.TheVariants as log
use Rattle.application_rules.specs.declared.commits.TheConstants.{MOST_SEGMENTS}
use Rattle.unit_codec.specs.Condition.{IsUnit}
use Rattle.said_models.specs.OfLog.{models_of}
use Rattle.outbound_build.specs.declared.added.OutUnit.{OutUnit}
use Rattle.outbound_build.specs.Committed.{units_of}
use Rattle.outbound_build.specs.Units.{AreNumbered, HasShort, IsModelOf, IsSendable, IsShort}
use Rattle.outbound_build.proofs.ShortLemmas.{units-short}
use Rattle.outbound_build.proofs.UnitLemmas.{units-numbered}
use Rattle.application_rules.specs.Commits.{may_commit}
use Rattle.application_rules.proofs.CommitLemmas.{commit-short}
use Rattle.document_state.specs.OfLog.{applied_by}
use Rattle.dist_model.specs.Model.{IsModel}
use Rattle.trfc_protocol.specs.Legal.{IsLegal, may_follow}
use Rattle.unit_core.specs.declared.ale_unit.AleUnit.{AleUnit}
use Rattle.document_state.specs.Allowed.{has_room}
use Rattle.document_state.specs.Meaning.{model_meaning}
use Rattle.document_state.specs.LawfulLemmas.{allows-by, legal-keeps, legal-models, legal-of, legal-sendable}

all-member : {A : Type 0} (P : A → Type 0) (xs : List A) (x : A) → AllByRecursion P xs → Contains xs x → P x
all-member P [] x all is = absurd (Contains-nil x is)
all-member P (y ∷ xs) x all is = elim (Contains-cons y xs x is) [
  | inl here ↦ subst P here all.0
  | inr there ↦ all-member P xs x all.1 there
]

-- each unit is sent by the system of its id
numbered-senders : (system number : ℕ) (units : List OutUnit) → AreNumbered system number units →
    AllByRecursion (λ one. one.unit.sender ≡ one.unit.tid.system) units
numbered-senders system number [] are = tt
numbered-senders system number (one ∷ units) are =
    ((are.0).sender ∙ sym (ap (λ (tid : TidOf). tid.system) (are.0).tid), numbered-senders system (suc number) units are.1)

module _ (systems : ℕ) where
  -- the masters of a record that may follow have at most 10,000 segments
  next-short : (system : ℕ) (before : List Record) (next : Record) → may_follow (model_meaning systems) system before next ≡ true → HasShort MOST_SEGMENTS next
  next-short system [] (log.Commit origin docs) may = absurd (let lies = may in cc)
  next-short system (first ∷ rest) (log.Commit origin docs) may =
      let by = allows-by systems (first ∷ rest) (log.Commit origin docs) may in
      let application = (applied_by (first ∷ rest)).application in
      commit-short by.0 application.objects application.pointers origin docs
      (and_parts (may_commit by.0 application.objects application.pointers origin docs) (has_room (first ∷ rest) (log.Commit origin docs)) by.3).0
  next-short system before _ may = tt

  -- the masters of a legal log have
  legal-short : (system : ℕ) (records : List Record) → IsLegal (model_meaning systems) system records → AllByRecursion (HasShort MOST_SEGMENTS) records
  legal-short system records legal =
      legal-keeps (model_meaning systems) system (AllByRecursion (HasShort MOST_SEGMENTS)) tt
      (λ before next may short. AllByRecursion-snoc (HasShort MOST_SEGMENTS) before next short (next-short system before next may)) records legal

  -- each document of a unit of a legal log has
  units-of-short : (system : ℕ) (records : List Record) → IsLegal (model_meaning systems) system records
      → AllByRecursion (λ one. AllByRecursion (IsShort MOST_SEGMENTS) one.unit.docs) (units_of (models_of records) records)
  units-of-short system records legal = elim (legal-models systems system records legal) [
    | inl each ↦
        units-short MOST_SEGMENTS (models_of records) records
        (AllByRecursion-weaker (IsModelOf systems) IsModel (models_of records) (λ model of. of.kept) each) (legal-short system records legal)
    | inr none ↦ subst (AllByRecursion (λ (one : OutUnit). AllByRecursion (IsShort MOST_SEGMENTS) one.unit.docs)) (sym none) tt
  ]

  -- each unit that a legal log commits can be written in the log of its receiver
  pub commit-writable : (system : ℕ) (records : List Record) → IsLegal (model_meaning systems) system records → (unit : AleUnit)
      → Contains ((model_meaning systems).committed system records) unit → IsUnit unit
  commit-writable system records legal unit is =
      let units = units_of (models_of records) records in
      let from = Contains-map_back (λ (one : OutUnit). one.unit) units unit is in
      let sender = all-member (λ (one : OutUnit). one.unit.sender ≡ one.unit.tid.system) units from.0
      (numbered-senders system 1 units (units-numbered (models_of records) system records (legal-of (model_meaning systems) system records legal))) from.1 in
      let may = all-member (λ (one : OutUnit). IsSendable systems one.unit) units from.0 (legal-sendable systems system records legal) from.1 in
      let short = all-member (λ (one : OutUnit). AllByRecursion (IsShort MOST_SEGMENTS) one.unit.docs) units from.0
      (units-of-short system records legal) from.1 in
      subst IsUnit from.2 (record {
        sender = sender;
        receiver = may.other;
        function = may.function;
        outq = (may.outq.few, may.outq.different);
        inq = (may.inq.few, may.inq.different);
        docs = ((may.docs_least, (let most = may.docs_most in omega (arith, most))), short);
      })
