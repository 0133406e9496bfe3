-- Reading the bodies of a log as entries.
use Rattle.std.proofs.Common.{◌≡◌, ℕ, ◌+◌, ◌<◌, List, [], ◌∷◌, ◌++◌, length, take, drop, get_or, refl, sym, ap, ◌∙◌, take-append-drop}
use Rattle.std.proofs.lemmas.List.{take_more, drop_more, map-append}
use Rattle.ale_base.proofs.ListLemmas.{AllByRecursion-append}
use Rattle.unit_codec.specs.declared.entry.Entry.{Entry}
use Rattle.unit_codec.specs.Entries.{EntryHasSpelling, entry_spelling}
use Rattle.unit_journal.specs.Log.{AreEntries, bodies_of, IsNoEntry, IsFirstUnread}

-- the bodies so far are the spellings of the entries so far
pub record IsReadTo (bodies : List (List ℕ)) (count : ℕ) (entries : List Entry) : Type 0 where
  pub spelled : take count bodies ≡ bodies_of entries
  pub read : AreEntries entries

pub read-more : (bodies : List (List ℕ)) (i : ℕ) (entries : List Entry) (body : List ℕ) (entry : Entry) → i < length bodies → body ≡ get_or bodies i body
    → IsReadTo bodies i entries → EntryHasSpelling entry → body ≡ entry_spelling entry → IsReadTo bodies (i + 1) (entries ++ entry ∷ [])
read-more bodies i entries body entry within item so_far is same = record {
  spelled = take_more bodies i body within ∙ ap (λ (b : List ℕ). take i bodies ++ b ∷ []) (sym item ∙ same)
      ∙ ap (λ (l : List (List ℕ)). l ++ entry_spelling entry ∷ []) so_far.spelled
      ∙ sym (map-append entry_spelling entries (entry ∷ []));
  read = AllByRecursion-append EntryHasSpelling entries (entry ∷ []) so_far.read (is, tt);
}

-- a body that spells no entry is the first one
pub read-unread : (bodies : List (List ℕ)) (i : ℕ) (entries : List Entry) (body : List ℕ) → i < length bodies → body ≡ get_or bodies i body
    → IsReadTo bodies i entries → IsNoEntry body → IsFirstUnread bodies (length entries + 1)
read-unread bodies i entries body within item so_far unread = record {
  front = entries;
  body = body;
  rest = drop (i + 1) bodies;
  whole = sym (take-append-drop i bodies) ∙ ap (λ (l : List (List ℕ)). l ++ drop i bodies) so_far.spelled
      ∙ ap (λ (l : List (List ℕ)). bodies_of entries ++ l) (drop_more bodies i body within ∙ ap (λ (b : List ℕ). b ∷ drop (i + 1) bodies) (sym item));
  read = so_far.read;
  here = refl;
  unread = unread;
}
