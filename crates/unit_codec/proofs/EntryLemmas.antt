-- The spelling of entries is exact, and so is reading all of some bytes.
use Rattle.std.specs.Prelude.{IfSome, IfOk}
use Rattle.std.specs.Int.{w64}
use Rattle.std.proofs.Common.{◌<◌, ◌≡◌, ◌≢◌, ℕ, ◌-◌, ◌%◌, ◌≤◌, false, eqb, Option, Some, None, List, [], ◌∷◌, ◌++◌, length, Result, Ok, Err, refl, sym, ap}
use Rattle.std.proofs.Common.{subst, ◌∙◌, append_assoc, ⊎_elim, inl, inr, arith}
use Rattle.std.proofs.lemmas.Bool.Decides.{eqb_tells}
use Rattle.std.proofs.lemmas.List.{append-nil, nil_from_length, length-append}
use Rattle.unit_core.specs.declared.records.Record.{Record}
use Rattle.unit_core.specs.declared.records.Record.TheVariants.{Genesis, Commit, Dispatch, Mark, Done, Ended, Accept, Execute, Direct, Fail, Forget, Stop}
use Rattle.unit_core.specs.declared.records.Record.TheVariants.{Start, Retry, Put, App, Repost, Model}
use Rattle.unit_codec.specs.declared.entry.Entry.{Entry}
use Rattle.unit_codec.specs.declared.fault.CodecFault.{CodecFault}
use Rattle.unit_codec.specs.declared.fault.CodecFault.TheVariants.{Bad, OutOfMemory}
use Rattle.unit_codec.specs.declared.fault.FieldFault.{FieldFault}
use Rattle.unit_codec.specs.declared.fault.FieldFault.TheVariants as field
use Rattle.unit_codec.specs.Reading.{Reading, ◌>>=◌, Takes, IsWithin}
use Rattle.unit_codec.specs.Kind.{Kind, number}
use Rattle.unit_codec.specs.Records.{spelled_as, a_record}
use Rattle.unit_codec.specs.declared.reading.TheConstants.{MOMENT_BYTE}
use Rattle.unit_codec.specs.Entries.{moment_spelling, entry_at, entry_read, an_entry, whole}
use Rattle.unit_codec.proofs.KindLemmas.{IsExact, AreBytes, AreBytes-behind, bind_ok, bind_err, ok_is, not_err, rest_bytes, rest_within, wide64, number-exact}
use Rattle.unit_codec.proofs.RecordLemmas.{a_record-exact}

-- no record begins with the byte of a moment
no_moment : (what : Record) → eqb ((spelled_as what).tag % 256) MOMENT_BYTE ≡ false
no_moment (Genesis system model) = refl
no_moment (Commit origin docs) = refl
no_moment Dispatch = refl
no_moment (Mark id why) = refl
no_moment (Done id) = refl
no_moment (Ended id) = refl
no_moment (Accept unit) = refl
no_moment (Execute id) = refl
no_moment (Direct unit) = refl
no_moment (Fail id) = refl
no_moment (Forget id) = refl
no_moment (Stop direction to name) = refl
no_moment (Start direction to name) = refl
no_moment (Retry direction id) = refl
no_moment (Put kind key fields) = refl
no_moment (App doc) = refl
no_moment (Repost doc) = refl
no_moment (Model model) = refl

first_byte : (what : Record) → a_record.spell what ≡ ((spelled_as what).tag % 256) ∷ (spelled_as what).kind.spell (spelled_as what).values
unfolding a_record number
first_byte what = refl

moment-exact : IsExact (number w64)
moment-exact = number-exact w64 wide64

-- ---- one entry

entry_at-takes : (moment : Option ℕ) (bytes : List ℕ) (x : Entry × List ℕ) → AreBytes bytes → entry_at moment bytes ≡ Ok x
    → (x.0.moment ≡ moment) × a_record.Fits x.0.what × (bytes ≡ a_record.spell x.0.what ++ x.1)
entry_at-takes moment bytes x are is =
    let a = bind_ok (a_record.read bytes) (λ what. Ok (record { moment = moment; what = what.0 }, what.1)) x is in
    let t = a_record-exact.takes bytes a.0 are a.1 in
    let made : Entry × List ℕ = (record { moment = moment; what = a.0.0 }, a.0.1) in
    subst (λ (y : Entry × List ℕ). (y.0.moment ≡ moment) × a_record.Fits y.0.what × (bytes ≡ a_record.spell y.0.what ++ y.1)) (ok_is made x a.2)
    (refl, t.0, t.1)

entry_at-within : (moment : Option ℕ) (bytes : List ℕ) (left : ℕ) → AreBytes bytes → entry_at moment bytes ≡ Err left → left ≤ length bytes
entry_at-within moment bytes left are is =
    ⊎_elim (λ (e : a_record.read bytes ≡ Err left). a_record-exact.within bytes left are e)
    (λ e. absurd (not_err (record { moment = moment; what = e.0.0 }, e.0.1) left e.2))
    (bind_err (a_record.read bytes) (λ what. Ok (record { moment = moment; what = what.0 }, what.1)) left is)

-- without a moment
plain_takes : (bytes : List ℕ) (x : Entry × List ℕ) → AreBytes bytes → entry_at None bytes ≡ Ok x
    → (IfSome x.0.moment (number w64).Fits × a_record.Fits x.0.what) × (bytes ≡ (moment_spelling x.0.moment ++ a_record.spell x.0.what) ++ x.1)
plain_takes bytes x are is =
    let t = entry_at-takes None bytes x are is in (
      (subst (λ (m : Option ℕ). IfSome m (number w64).Fits) (sym t.0) tt, t.1),
      t.2
          ∙ ap (λ (m : Option ℕ). (moment_spelling m ++ a_record.spell x.0.what) ++ x.1) (sym t.0),
    )

an_entry-takes : (bytes : List ℕ) (x : Entry × List ℕ) → AreBytes bytes → entry_read bytes ≡ Ok x
    → (IfSome x.0.moment (number w64).Fits × a_record.Fits x.0.what) × (bytes ≡ (moment_spelling x.0.moment ++ a_record.spell x.0.what) ++ x.1)
unfolding number
an_entry-takes [] x are is = plain_takes [] x are is
an_entry-takes (first ∷ bytes) x are is =
    elim (eqb_tells first MOMENT_BYTE) [
      | inl here ↦
          (let behind : AreBytes bytes = AreBytes-behind (first ∷ []) bytes are in
          let rest : ((number w64).read bytes >>= λ moment. entry_at (Some moment.0) moment.1) ≡ Ok x =
          sym (let e : entry_read (first ∷ bytes) ≡ ((number w64).read bytes >>= λ moment. entry_at (Some moment.0) moment.1) = rw here.0 refl in e) ∙ is in
          let a = bind_ok ((number w64).read bytes) (λ moment. entry_at (Some moment.0) moment.1) x rest in
          let n = moment-exact.takes bytes a.0 behind a.1 in
          let t = entry_at-takes (Some a.0.0) a.0.1 x (rest_bytes (number w64) moment-exact bytes a.0 behind a.1) a.2 in
          let whole : first ∷ bytes ≡ (moment_spelling (Some a.0.0) ++ a_record.spell x.0.what) ++ x.1 =
          ap (λ (k : ℕ). k ∷ bytes) here.1 ∙ ap (λ (l : List ℕ). MOMENT_BYTE ∷ l) (n.1 ∙ ap (λ (l : List ℕ). (number w64).spell a.0.0 ++ l) t.2)
          ∙ sym (append_assoc (moment_spelling (Some a.0.0)) (a_record.spell x.0.what) x.1) in (
            (subst (λ (m : Option ℕ). IfSome m (number w64).Fits) (sym t.0) n.0, t.1),
            whole
                ∙ ap (λ (m : Option ℕ). (moment_spelling m ++ a_record.spell x.0.what) ++ x.1) (sym t.0),
          ))
      | inr other ↦
          plain_takes (first ∷ bytes) x are (sym (let e : entry_read (first ∷ bytes) ≡ entry_at None (first ∷ bytes) = rw other.0 refl in e) ∙ is)
    ]

an_entry-within : (bytes : List ℕ) (left : ℕ) → AreBytes bytes → entry_read bytes ≡ Err left → left ≤ length bytes
an_entry-within [] left are is = entry_at-within None [] left are is
an_entry-within (first ∷ bytes) left are is =
    elim (eqb_tells first MOMENT_BYTE) [
      | inl here ↦
          (let behind : AreBytes bytes = AreBytes-behind (first ∷ []) bytes are in
          let rest : ((number w64).read bytes >>= λ moment. entry_at (Some moment.0) moment.1) ≡ Err left =
          sym (let e : entry_read (first ∷ bytes) ≡ ((number w64).read bytes >>= λ moment. entry_at (Some moment.0) moment.1) = rw here.0 refl in e) ∙ is in
          ⊎_elim (λ (e : (number w64).read bytes ≡ Err left). omega (arith, moment-exact.within bytes left behind e))
          (λ e. omega (
            arith,
            entry_at-within (Some e.0.0) e.0.1 left (rest_bytes (number w64) moment-exact bytes e.0 behind e.1) e.2,
            rest_within
                (number w64) moment-exact bytes e.0 behind e.1,
          ))
          (bind_err ((number w64).read bytes) (λ moment. entry_at (Some moment.0) moment.1) left rest))
      | inr other ↦
          entry_at-within None (first ∷ bytes) left are (sym (let e : entry_read (first ∷ bytes) ≡ entry_at None (first ∷ bytes) = rw other.0 refl in e) ∙ is)
    ]

entry_at-again : (moment : Option ℕ) (what : Record) (rest : List ℕ) → a_record.Fits what → entry_at moment (a_record.spell what ++ rest)
    ≡ Ok (record { moment = moment; what = what }, rest)
entry_at-again moment what rest fits = rw (a_record-exact.again what rest fits) refl

entry_again : (moment : Option ℕ) (what : Record) (rest : List ℕ) → IfSome moment (number w64).Fits → a_record.Fits what
    → entry_read ((moment_spelling moment ++ a_record.spell what) ++ rest) ≡ Ok (record { moment = moment; what = what }, rest)
unfolding number
entry_again None what rest timed fits =
    let front = (spelled_as what).tag % 256 in
    let fields = (spelled_as what).kind.spell (spelled_as what).values in
    let same : a_record.spell what ++ rest ≡ front ∷ (fields ++ rest) = ap (λ (l : List ℕ). l ++ rest) (first_byte what) in
    let untimed : entry_read (front ∷ (fields ++ rest)) ≡ entry_at None (front ∷ (fields ++ rest)) = rw (no_moment what) refl in
    ap entry_read same ∙ untimed ∙ ap (entry_at None) (sym same) ∙ entry_at-again None what rest fits
entry_again (Some moment) what rest timed fits =
    let spelled = a_record.spell what ++ rest in
    let inner : ((number w64).read ((number w64).spell moment ++ spelled) >>= λ m. entry_at (Some m.0) m.1)
    ≡ Ok (record { moment = Some moment; what = what }, rest) =
    ap (λ (r : Reading ℕ). r >>= λ m. entry_at (Some m.0) m.1) (moment-exact.again moment spelled timed) ∙ entry_at-again (Some moment) what rest fits in
    ap entry_read (append_assoc (moment_spelling (Some moment)) (a_record.spell what) rest) ∙ inner

pub an_entry-exact : IsExact an_entry
unfolding an_entry
an_entry-exact = record {
  takes = λ bytes x are is. an_entry-takes bytes x are is;
  again = λ entry rest fits. entry_again entry.moment entry.what rest fits.0 fits.1;
  within = λ bytes left are is. an_entry-within bytes left are is;
}

-- ---- spellings

-- two entries of one spelling are the same
pub entry_spelling-same : (a b : Entry) → an_entry.Fits a → an_entry.Fits b → an_entry.spell a ≡ an_entry.spell b → a ≡ b
entry_spelling-same a b fits fits_too same =
    let one = an_entry-exact.again a [] fits in
    let other = an_entry-exact.again b [] fits_too in
    ap (λ (p : Entry × List ℕ). p.0) (ok_is (a, []) (b, []) (sym one ∙ ap (λ (l : List ℕ). an_entry.read (l ++ [])) same ∙ other))

-- a spelling has a byte at least
pub entry_spelling-some : (entry : Entry) → 0 < length (an_entry.spell entry)
unfolding an_entry
entry_spelling-some entry = omega (arith, length-append (moment_spelling entry.moment) (a_record.spell entry.what), ap length (first_byte entry.what))

-- ---- all of some bytes

whole_ok : {A : Type 0} (size : ℕ) (r : Reading A) (x : A) → whole size r ≡ Ok x → r ≡ Ok (x, [])
whole_ok size (Ok y) x is =
    elim (eqb_tells (length y.1) 0) [
      | inl none ↦ (let e : whole size (Ok y) ≡ Ok y.0 = rw none.0 refl in let same : y.0 ≡ x = (let f = sym e ∙ is in cc) in
          let nothing : y.1 ≡ [] = nil_from_length y.1 none.1 in ap (λ p. Ok p) (let pair : (y.0, y.1) ≡ (x, []) = cc in pair))
      | inr some ↦ (let e : whole size (Ok y) ≡ Err (Bad (size - length y.1)) = rw some.0 refl in absurd (let f = sym e ∙ is in cc))
    ]
whole_ok size (Err left) x is = absurd cc

-- what is read as a whole is spelled so, and what is spelled so is read as a whole
pub whole-found : {A : Type 0} (kind : Kind A) (bytes : List ℕ) (r : Result A CodecFault) → IsExact kind → AreBytes bytes →
    (r ≢ Err OutOfMemory → r ≡ whole (length bytes) (kind.read bytes))
    → IfOk r (λ x. kind.Fits x × (bytes ≡ kind.spell x))
whole-found kind bytes (Ok x) exact are read =
    let is = whole_ok (length bytes) (kind.read bytes) x (sym (read (λ e. cc))) in
    let t = exact.takes bytes (x, []) are is in
    (t.0, t.1 ∙ append-nil (kind.spell x))
whole-found kind bytes (Err fault) exact are read = tt

pub whole-only : {A : Type 0} (kind : Kind A) (bytes : List ℕ) (r : Result A CodecFault) → IsExact kind →
    (r ≢ Err OutOfMemory → r ≡ whole (length bytes) (kind.read bytes))
    → (x : A) → kind.Fits x → bytes ≡ kind.spell x → r ≢ Err OutOfMemory → r ≡ Ok x
whole-only kind bytes r exact read x fits same roomy =
    let is : kind.read bytes ≡ Ok (x, []) = ap kind.read (same ∙ sym (append-nil (kind.spell x))) ∙ exact.again x [] fits in
    read roomy ∙ ap (whole (length bytes)) is

-- ---- what a call took, or why it took nothing

module _ {A : Type 0} (kind : Kind A) (exact : IsExact kind) (bytes from rest : List ℕ) (are : AreBytes bytes) (same : from ≡ bytes) where
  pub fault-within : (fault : FieldFault) → Takes {X = A} {Y = A} (λ x. x) (Err fault) rest (kind.read from) → IsWithin (length bytes) fault
  fault-within (field.Bad left) takes = exact.within bytes left are (ap kind.read (sym same) ∙ takes)
  fault-within field.OutOfMemory takes = tt

  pub rest-within : (x : A) → kind.read from ≡ Ok (x, rest) → length rest ≤ length bytes
  rest-within x takes = rest_within kind exact bytes (x, rest) are (ap kind.read (sym same) ∙ takes)
