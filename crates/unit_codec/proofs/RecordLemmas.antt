-- The spelling of each record is exact.
use Rattle.std.specs.Int.{w8}
use Rattle.std.proofs.Common.{◌≡◌, ℕ, ◌<◌, ◌≤◌, Bool, true, false, cond, eqb, List, ◌++◌, length, Ok, Err, refl, sym, ap, subst, ◌∙◌, append_assoc, ⊎_elim, ◌⊎◌}
use Rattle.std.proofs.Common.{inl, inr, lit<, arith}
use Rattle.std.proofs.lemmas.Bool.{eqb-true}
use Rattle.unit_core.specs.declared.records.Record.{Record}
use Rattle.unit_core.specs.declared.records.Record.TheVariants.{Genesis, Commit, Dispatch, Mark, Done, Ended, Accept, Execute, Direct, Fail, Forget, Stop}
use Rattle.unit_core.specs.declared.records.Record.TheVariants.{Start, Retry, Put, App, Repost, Model}
use Rattle.unit_codec.specs.Reading.{Reading, ◌>>=◌}
use Rattle.unit_codec.specs.Kind.{Kind, byte, ◌then◌, optional}
use Rattle.unit_codec.specs.Fields.{name, text, way, cause, tid, queue, destination, doc_number, documents, a_unit, field_values}
use Rattle.unit_codec.specs.Records.{genesis, commit, nothing, mark, stop, retry, put, fields_at, record_at, a_record}
use Rattle.unit_codec.proofs.KindLemmas.{IsExact, AreBytes, bind_ok, bind_err, ok_is, err_is, not_err, rest_bytes, rest_within, number-fits, byte-exact}
use Rattle.unit_codec.proofs.KindLemmas.{then-exact, optional-exact}
use Rattle.unit_codec.proofs.FieldLemmas.{name-exact, text-exact, way-exact, cause-exact, tid-exact, queue-exact, destination-exact, doc_number-exact}
use Rattle.unit_codec.proofs.FieldLemmas.{documents-exact, a_unit-exact, field_values-exact}

-- ---- the fields of records

genesis-exact : IsExact genesis
unfolding genesis
genesis-exact = then-exact byte (λ _. text) byte-exact (λ _. text-exact)

commit-exact : IsExact commit
unfolding commit
commit-exact = then-exact (optional name) (λ _. documents) (optional-exact name name-exact) (λ _. documents-exact)

nothing-exact : IsExact nothing
unfolding nothing
nothing-exact = record {
  takes = λ bytes x are is. (tt, ap (λ (p : Unit {0} × List ℕ). p.1) (ok_is (tt, bytes) x is));
  again = λ x rest fits. refl;
  within = λ bytes left are is. absurd (not_err (tt, bytes) left is);
}

mark-exact : IsExact mark
unfolding mark
mark-exact = then-exact tid (λ _. cause) tid-exact (λ _. cause-exact)

stop-exact : IsExact stop
unfolding stop
stop-exact = then-exact way (λ w. destination w then λ _. queue) way-exact
    (λ w. then-exact (destination w) (λ _. queue) (destination-exact w) (λ _. queue-exact))

retry-exact : IsExact retry
unfolding retry
retry-exact = then-exact way (λ _. tid) way-exact (λ _. tid-exact)

put-exact : IsExact put
unfolding put
put-exact = then-exact name (λ _. text then λ _. field_values) name-exact (λ _. then-exact text (λ _. field_values) text-exact (λ _. field_values-exact))

-- ---- one record

-- one of two readings, by a test
chosen : {P : Type 0} (b : Bool) (one other z : Reading Record) → cond b one other ≡ z → (b ≡ true → one ≡ z → P) → (other ≡ z → P) → P
chosen true one other z is this that = this refl is
chosen false one other z is this that = that is

-- the byte and the bytes behind it are this record and what is left
abbrev Holds : ℕ → List ℕ → Record × List ℕ → Type 0
Holds tag bytes x = a_record.Fits x.0 × (byte.spell tag ++ bytes ≡ a_record.spell x.0 ++ x.1)

module _ {A : Type 0} (tag : ℕ) (kind : Kind A) (make : A → Record) (exact : IsExact kind) (fits : (a : A) → kind.Fits a → a_record.Fits (make a))
    (spells : (a : A) → a_record.spell (make a) ≡ byte.spell tag ++ kind.spell a) where
  fields_take : (n : ℕ) (bytes : List ℕ) (x : Record × List ℕ) → AreBytes bytes → eqb n tag ≡ true → fields_at kind make bytes ≡ Ok x → Holds n bytes x
  fields_take n bytes x are this is =
      let a = bind_ok (kind.read bytes) (λ y. Ok (make y.0, y.1)) x is in
      let t = exact.takes bytes a.0 are a.1 in
      subst (λ (y : Record × List ℕ). Holds n bytes y) (ok_is (make a.0.0, a.0.1) x a.2) (
        fits a.0.0 t.0,
        ap (λ (k : ℕ). byte.spell k ++ bytes) (eqb-true n tag this)
            ∙ ap (λ (l : List ℕ). byte.spell tag ++ l) t.1
            ∙ sym (append_assoc (byte.spell tag) (kind.spell a.0.0) a.0.1)
            ∙ ap (λ (l : List ℕ). l ++ a.0.1) (sym (spells a.0.0)),
      )

fields_within : {A : Type 0} (kind : Kind A) (make : A → Record) (exact : IsExact kind) (bytes : List ℕ) (k : ℕ) → AreBytes bytes →
    fields_at kind make bytes ≡ Err k → k ≤ length bytes
fields_within kind make exact bytes k are is =
    ⊎_elim (λ (e : kind.read bytes ≡ Err k). exact.within bytes k are e) (λ e. absurd (not_err (make e.0.0, e.0.1) k e.2))
    (bind_err (kind.read bytes) (λ y. Ok (make y.0, y.1)) k is)

record_take : (left tag : ℕ) (bytes : List ℕ) (x : Record × List ℕ) → AreBytes bytes → record_at left (tag, bytes) ≡ Ok x → Holds tag bytes x
unfolding a_record
record_take left tag bytes x are is =
    chosen (eqb tag 0x01) _ _ _ is (λ t e. fields_take 0x01 genesis (λ p. Genesis p.0 p.1) genesis-exact (λ a f. f) (λ a. refl) tag bytes x are t e) (λ is.
    chosen (eqb tag 0x02) _ _ _ is (λ t e. fields_take 0x02 commit (λ p. Commit p.0 p.1) commit-exact (λ a f. f) (λ a. refl) tag bytes x are t e) (λ is.
    chosen (eqb tag 0x03) _ _ _ is (λ t e. fields_take 0x03 nothing (λ _. Dispatch) nothing-exact (λ a f. f) (λ a. refl) tag bytes x are t e) (λ is.
    chosen (eqb tag 0x04) _ _ _ is (λ t e. fields_take 0x04 mark (λ p. Mark p.0 p.1) mark-exact (λ a f. f) (λ a. refl) tag bytes x are t e) (λ is.
    chosen (eqb tag 0x05) _ _ _ is (λ t e. fields_take 0x05 tid Done tid-exact (λ a f. f) (λ a. refl) tag bytes x are t e) (λ is.
    chosen (eqb tag 0x06) _ _ _ is (λ t e. fields_take 0x06 tid Ended tid-exact (λ a f. f) (λ a. refl) tag bytes x are t e) (λ is.
    chosen (eqb tag 0x07) _ _ _ is (λ t e. fields_take 0x07 a_unit Accept a_unit-exact (λ a f. f) (λ a. refl) tag bytes x are t e) (λ is.
    chosen (eqb tag 0x08) _ _ _ is (λ t e. fields_take 0x08 tid Execute tid-exact (λ a f. f) (λ a. refl) tag bytes x are t e) (λ is.
    chosen (eqb tag 0x09) _ _ _ is (λ t e. fields_take 0x09 a_unit Direct a_unit-exact (λ a f. f) (λ a. refl) tag bytes x are t e) (λ is.
    chosen (eqb tag 0x0A) _ _ _ is (λ t e. fields_take 0x0A tid Fail tid-exact (λ a f. f) (λ a. refl) tag bytes x are t e) (λ is.
    chosen (eqb tag 0x0B) _ _ _ is (λ t e. fields_take 0x0B tid Forget tid-exact (λ a f. f) (λ a. refl) tag bytes x are t e) (λ is.
    chosen (eqb tag 0x0C) _ _ _ is (λ t e. fields_take 0x0C stop (λ p. Stop p.0 p.1.0 p.1.1) stop-exact (λ a f. f) (λ a. refl) tag bytes x are t e) (λ is.
    chosen (eqb tag 0x0D) _ _ _ is (λ t e. fields_take 0x0D stop (λ p. Start p.0 p.1.0 p.1.1) stop-exact (λ a f. f) (λ a. refl) tag bytes x are t e) (λ is.
    chosen (eqb tag 0x0E) _ _ _ is (λ t e. fields_take 0x0E retry (λ p. Retry p.0 p.1) retry-exact (λ a f. f) (λ a. refl) tag bytes x are t e) (λ is.
    chosen (eqb tag 0x0F) _ _ _ is (λ t e. fields_take 0x0F put (λ p. Put p.0 p.1.0 p.1.1) put-exact (λ a f. f) (λ a. refl) tag bytes x are t e) (λ is.
    chosen (eqb tag 0x10) _ _ _ is (λ t e. fields_take 0x10 doc_number App doc_number-exact (λ a f. f) (λ a. refl) tag bytes x are t e) (λ is.
    chosen (eqb tag 0x11) _ _ _ is (λ t e. fields_take 0x11 doc_number Repost doc_number-exact (λ a f. f) (λ a. refl) tag bytes x are t e) (λ is.
    chosen (eqb tag 0x12) _ _ _ is (λ t e. fields_take 0x12 text Model text-exact (λ a f. f) (λ a. refl) tag bytes x are t e) (λ is. absurd cc))))))))))))))))))

record_within : (left tag : ℕ) (bytes : List ℕ) (k : ℕ) → AreBytes bytes → record_at left (tag, bytes) ≡ Err k → (k ≡ left) ⊎ (k ≤ length bytes)
record_within left tag bytes k are is =
    chosen (eqb tag 0x01) _ _ _ is (λ t e. inr (fields_within genesis (λ p. Genesis p.0 p.1) genesis-exact bytes k are e)) (λ is.
    chosen (eqb tag 0x02) _ _ _ is (λ t e. inr (fields_within commit (λ p. Commit p.0 p.1) commit-exact bytes k are e)) (λ is.
    chosen (eqb tag 0x03) _ _ _ is (λ t e. inr (fields_within nothing (λ _. Dispatch) nothing-exact bytes k are e)) (λ is.
    chosen (eqb tag 0x04) _ _ _ is (λ t e. inr (fields_within mark (λ p. Mark p.0 p.1) mark-exact bytes k are e)) (λ is.
    chosen (eqb tag 0x05) _ _ _ is (λ t e. inr (fields_within tid Done tid-exact bytes k are e)) (λ is.
    chosen (eqb tag 0x06) _ _ _ is (λ t e. inr (fields_within tid Ended tid-exact bytes k are e)) (λ is.
    chosen (eqb tag 0x07) _ _ _ is (λ t e. inr (fields_within a_unit Accept a_unit-exact bytes k are e)) (λ is.
    chosen (eqb tag 0x08) _ _ _ is (λ t e. inr (fields_within tid Execute tid-exact bytes k are e)) (λ is.
    chosen (eqb tag 0x09) _ _ _ is (λ t e. inr (fields_within a_unit Direct a_unit-exact bytes k are e)) (λ is.
    chosen (eqb tag 0x0A) _ _ _ is (λ t e. inr (fields_within tid Fail tid-exact bytes k are e)) (λ is.
    chosen (eqb tag 0x0B) _ _ _ is (λ t e. inr (fields_within tid Forget tid-exact bytes k are e)) (λ is.
    chosen (eqb tag 0x0C) _ _ _ is (λ t e. inr (fields_within stop (λ p. Stop p.0 p.1.0 p.1.1) stop-exact bytes k are e)) (λ is.
    chosen (eqb tag 0x0D) _ _ _ is (λ t e. inr (fields_within stop (λ p. Start p.0 p.1.0 p.1.1) stop-exact bytes k are e)) (λ is.
    chosen (eqb tag 0x0E) _ _ _ is (λ t e. inr (fields_within retry (λ p. Retry p.0 p.1) retry-exact bytes k are e)) (λ is.
    chosen (eqb tag 0x0F) _ _ _ is (λ t e. inr (fields_within put (λ p. Put p.0 p.1.0 p.1.1) put-exact bytes k are e)) (λ is.
    chosen (eqb tag 0x10) _ _ _ is (λ t e. inr (fields_within doc_number App doc_number-exact bytes k are e)) (λ is.
    chosen (eqb tag 0x11) _ _ _ is (λ t e. inr (fields_within doc_number Repost doc_number-exact bytes k are e)) (λ is.
    chosen (eqb tag 0x12) _ _ _ is (λ t e. inr (fields_within text Model text-exact bytes k are e)) (λ is. inl (err_is k left (sym is))))))))))))))))))))

-- a record is read again: its byte leads to the kind of its fields
fields_again : {A : Type 0} (tag : ℕ) (kind : Kind A) (make : A → Record) (exact : IsExact kind) (a : A) (rest : List ℕ) → tag < 256 → kind.Fits a
    → ((left : ℕ) (bytes : List ℕ) → record_at left (tag, bytes) ≡ fields_at kind make bytes) → a_record.read ((byte.spell tag ++ kind.spell a) ++ rest)
    ≡ Ok (make a, rest)
unfolding a_record
fields_again tag kind make exact a rest small fits leads =
    let bytes = kind.spell a ++ rest in
    let whole = byte.spell tag ++ bytes in
    let behind : record_at (length whole) (tag, bytes) ≡ Ok (make a, rest) = leads (length whole) bytes
    ∙ ap (λ (r : Reading _). r >>= λ x. Ok (make x.0, x.1)) (exact.again a rest fits) in
    let all : a_record.read whole ≡ Ok (make a, rest) = ap (λ (r : Reading ℕ). r >>= record_at (length whole))
    (byte-exact.again tag bytes (number-fits w8 tag small)) ∙ behind in
    ap a_record.read (append_assoc (byte.spell tag) (kind.spell a) rest) ∙ all

record_again : (what : Record) (rest : List ℕ) → a_record.Fits what → a_record.read (a_record.spell what ++ rest) ≡ Ok (what, rest)
unfolding a_record
record_again (Genesis system model) rest fits = fields_again 0x01 genesis (λ p. Genesis p.0 p.1) genesis-exact (system, model) rest (lit< tt) fits
    (λ left bytes. refl)
record_again (Commit origin docs) rest fits = fields_again 0x02 commit (λ p. Commit p.0 p.1) commit-exact (origin, docs) rest (lit< tt) fits
    (λ left bytes. refl)
record_again Dispatch rest fits = fields_again 0x03 nothing (λ _. Dispatch) nothing-exact tt rest (lit< tt) fits (λ left bytes. refl)
record_again (Mark id why) rest fits = fields_again 0x04 mark (λ p. Mark p.0 p.1) mark-exact (id, why) rest (lit< tt) fits (λ left bytes. refl)
record_again (Done id) rest fits = fields_again 0x05 tid Done tid-exact id rest (lit< tt) fits (λ left bytes. refl)
record_again (Ended id) rest fits = fields_again 0x06 tid Ended tid-exact id rest (lit< tt) fits (λ left bytes. refl)
record_again (Accept unit) rest fits = fields_again 0x07 a_unit Accept a_unit-exact unit rest (lit< tt) fits (λ left bytes. refl)
record_again (Execute id) rest fits = fields_again 0x08 tid Execute tid-exact id rest (lit< tt) fits (λ left bytes. refl)
record_again (Direct unit) rest fits = fields_again 0x09 a_unit Direct a_unit-exact unit rest (lit< tt) fits (λ left bytes. refl)
record_again (Fail id) rest fits = fields_again 0x0A tid Fail tid-exact id rest (lit< tt) fits (λ left bytes. refl)
record_again (Forget id) rest fits = fields_again 0x0B tid Forget tid-exact id rest (lit< tt) fits (λ left bytes. refl)
record_again (Stop direction to name) rest fits = fields_again 0x0C stop (λ p. Stop p.0 p.1.0 p.1.1) stop-exact (direction, (to, name)) rest (lit< tt) fits
    (λ left bytes. refl)
record_again (Start direction to name) rest fits = fields_again 0x0D stop (λ p. Start p.0 p.1.0 p.1.1) stop-exact (direction, (to, name)) rest (lit< tt) fits
    (λ left bytes. refl)
record_again (Retry direction id) rest fits = fields_again 0x0E retry (λ p. Retry p.0 p.1) retry-exact (direction, id) rest (lit< tt) fits (λ left bytes. refl)
record_again (Put kind key fields) rest fits = fields_again 0x0F put (λ p. Put p.0 p.1.0 p.1.1) put-exact (kind, (key, fields)) rest (lit< tt) fits
    (λ left bytes. refl)
record_again (App doc) rest fits = fields_again 0x10 doc_number App doc_number-exact doc rest (lit< tt) fits (λ left bytes. refl)
record_again (Repost doc) rest fits = fields_again 0x11 doc_number Repost doc_number-exact doc rest (lit< tt) fits (λ left bytes. refl)
record_again (Model model) rest fits = fields_again 0x12 text Model text-exact model rest (lit< tt) fits (λ left bytes. refl)

pub a_record-exact : IsExact a_record
unfolding a_record
a_record-exact = record {
  takes = λ bytes x are is.
      let a = bind_ok (byte.read bytes) (record_at (length bytes)) x is in
      let t = byte-exact.takes bytes a.0 are a.1 in
      let r = record_take (length bytes) a.0.0 a.0.1 x (rest_bytes byte byte-exact bytes a.0 are a.1) a.2 in
      (r.0, t.1 ∙ r.1);
  again = λ what rest fits. record_again what rest fits;
  within = λ bytes left are is.
      ⊎_elim (λ (e : byte.read bytes ≡ Err left). byte-exact.within bytes left are e)
      (λ e.
      ⊎_elim (λ (f : left ≡ length bytes). omega (arith, f)) (λ (f : left ≤ length e.0.1). omega (arith, f, rest_within byte byte-exact bytes e.0 are e.1))
      (record_within (length bytes) e.0.0 e.0.1 left (rest_bytes byte byte-exact bytes e.0 are e.1) e.2))
      (bind_err (byte.read bytes) (record_at (length bytes)) left is);
}
