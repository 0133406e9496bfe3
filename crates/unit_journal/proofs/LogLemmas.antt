-- Bytes stand for one log of entries, or are damaged, or have one body that is the first to spell no entry.
use Rattle.std.proofs.Common.{◌≡◌, ℕ, suc, List, [], ◌∷◌, ◌++◌, length, refl, sym, ap, ◌∙◌, arith}
use Rattle.byte_journal.specs.Log.{DamagedAt}
use Rattle.byte_journal.specs.Log as bodies
use Rattle.byte_journal.proofs.OneAnswer.{has_one_answer}
use Rattle.unit_codec.specs.declared.entry.Entry.{Entry}
use Rattle.unit_codec.specs.Entries.{entry_spelling}
use Rattle.unit_codec.proofs.EntryLemmas.{entry_spelling-same}
use Rattle.unit_journal.specs.Log.{AreEntries, bodies_of, IsNoEntry, HasOneAnswer}

-- entries of the same bodies are the same
same_entries : (log other : List Entry) → AreEntries log → AreEntries other → bodies_of log ≡ bodies_of other → log ≡ other
same_entries [] [] are are_too same = refl
same_entries [] (b ∷ other) are are_too same = absurd cc
same_entries (a ∷ log) [] are are_too same = absurd cc
same_entries (a ∷ log) (b ∷ other) are are_too same =
    let first : entry_spelling a ≡ entry_spelling b = cc in
    let rest : bodies_of log ≡ bodies_of other = cc in
    let head = entry_spelling-same a b are.0 are_too.0 first in
    let tail = same_entries log other are.1 are_too.1 rest in
    cc

-- entries have no body that spells none
none_unread : (log front : List Entry) (body : List ℕ) (rest : List (List ℕ)) → AreEntries log → IsNoEntry body →
    bodies_of log ≡ bodies_of front ++ body ∷ rest → ⊥
none_unread [] [] body rest are unread same = absurd cc
none_unread [] (b ∷ front) body rest are unread same = absurd cc
none_unread (a ∷ log) [] body rest are unread same = unread a are.0 (let first : entry_spelling a ≡ body = cc in sym first)
none_unread (a ∷ log) (b ∷ front) body rest are unread same = none_unread log front body rest are.1 unread (cc)

-- the first body that spells no entry is one
one_first : (front other : List Entry) (body next : List ℕ) (rest more : List (List ℕ)) → AreEntries front → AreEntries other → IsNoEntry body → IsNoEntry next
    → bodies_of front ++ body ∷ rest ≡ bodies_of other ++ next ∷ more → length front ≡ length other
one_first [] [] body next rest more are are_too unread unread_too same = refl
one_first [] (b ∷ other) body next rest more are are_too unread unread_too same = absurd (unread b are_too.0 (cc))
one_first (a ∷ front) [] body next rest more are are_too unread unread_too same = absurd
    (unread_too a are.0 (let first : entry_spelling a ≡ next = cc in sym first))
one_first (a ∷ front) (b ∷ other) body next rest more are are_too unread unread_too same =
    let rest_same : bodies_of front ++ body ∷ rest ≡ bodies_of other ++ next ∷ more = cc in
    ap suc (one_first front other body next rest more are.1 are_too.1 unread unread_too rest_same)

-- one log of bodies
one_log : (bytes : List ℕ) (log other : List (List ℕ)) → bodies.Stands bytes log → bodies.Stands bytes other → log ≡ other
one_log bytes log other = (has_one_answer bytes).one_log log other

pub one_answer : (bytes : List ℕ) → HasOneAnswer bytes
one_answer bytes = record {
  one_log = λ log other stands stands_too. same_entries log other stands.entries stands_too.entries
      (one_log bytes (bodies_of log) (bodies_of other) stands.bodies stands_too.bodies);
  not_damaged = λ log place stands damaged. (has_one_answer bytes).not_both (bodies_of log) place stands.bodies damaged;
  not_unread = λ log number stands unread.
      let f = unread.first in
      none_unread log f.front f.body f.rest stands.entries f.unread (one_log bytes (bodies_of log) unread.bodies stands.bodies unread.stands ∙ f.whole);
  one_place = (has_one_answer bytes).one_place;
  one_fault = λ place number damaged unread. (has_one_answer bytes).not_both unread.bodies place unread.stands damaged;
  one_number = λ number other unread unread_too.
      let f = unread.first in
      let g = unread_too.first in
      let same = sym f.whole ∙ one_log bytes unread.bodies unread_too.bodies unread.stands unread_too.stands ∙ g.whole in
      omega (arith, f.here, g.here, one_first f.front g.front f.body g.body f.rest g.rest f.read g.read f.unread g.unread same);
}
