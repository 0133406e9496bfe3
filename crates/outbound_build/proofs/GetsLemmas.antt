-- What documents get, one after the other.
use Rattle.std.specs.Prelude.{◌==◌, if◌then◌else◌}
use Rattle.std.proofs.Common.{◌≡◌, ℕ, Bool, true, false, List, [], ◌++◌, refl, ap, sym, ◌∙◌, append_assoc, append-nil}
use Rattle.std.proofs.lemmas.List.{map-append}
use Rattle.status_log.specs.declared.status.Status.{Status}
use Rattle.status_log.specs.declared.status_at.StatusAt.{StatusAt}
use Rattle.status_log.specs.Statuses.{AddsAll, given, given_by, statuses_of}
use Rattle.outbound_build.specs.Statuses.{if_of}
use Rattle.outbound_build.specs.steps.Adding.{Gets}

-- nobody gets anything
pub Gets-nothing : (by : ℕ) (table : List (List StatusAt)) → Gets by (λ doc. []) table table
Gets-nothing by table = record { got = λ doc. sym (append-nil (statuses_of doc table)) }

-- the same, told otherwise
pub Gets-same : (by : ℕ) (more others : ℕ → List Status) (before after : List (List StatusAt)) → ((doc : ℕ) → more doc ≡ others doc)
    → Gets by more before after → Gets by others before after
Gets-same by more others before after same gets = record {
  got = λ doc. gets.got doc ∙ ap (λ (m : List Status). statuses_of doc before ++ given_by by m) (same doc);
}

-- documents get some, and then others
pub Gets-both : (by : ℕ) (first second : ℕ → List Status) (before between after : List (List StatusAt)) → Gets by first before between
    → Gets by second between after → Gets by (λ doc. first doc ++ second doc) before after
Gets-both by first second before between after gets more = record {
  got = λ doc.
      more.got doc ∙ ap (λ (had : List StatusAt). had ++ given_by by (second doc)) (gets.got doc)
      ∙ append_assoc (statuses_of doc before) (given_by by (first doc)) (given_by by (second doc))
      ∙ ap (λ (new : List StatusAt). statuses_of doc before ++ new) (sym (map-append (given by) (first doc) (second doc)));
}

one_of : (by : ℕ) (b : Bool) (had : List StatusAt) (more : List Status) → (if b then had ++ given_by by more else had)
    ≡ had ++ given_by by (if b then more else [])
one_of by true had more = refl
one_of by false had more = sym (append-nil had)

-- one document gets some
pub Gets-one : (by number : ℕ) (more : List Status) (before after : List (List StatusAt)) → AddsAll number (given_by by more) before after →
    Gets by (λ doc. if_of doc number more) before after
Gets-one by number more before after adds = record { got = λ doc. adds.added doc ∙ one_of by (doc == number) (statuses_of doc before) more }
