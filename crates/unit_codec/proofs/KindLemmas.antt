-- Kinds of fields whose spelling is exact: what is read is spelled so, and what is spelled so is read.
use Rattle.std.specs.Prelude.{IfSome}
use Rattle.std.specs.List.{flat_map, AllByRecursion}
use Rattle.std.specs.Int.{Width, w8, w16, w32, w64, byte_len, from_be_bytes, to_be_bytes}
use Rattle.std.proofs.Common.{◌≡◌, ℕ, zero, suc, ◌+◌, ◌^◌, ◌<◌, ◌≤◌, ◌⊎◌, inl, inr, ⊎_elim, ◌%◌, Bool, true, false, cond, ltb, IsTrue, Option, Some, None, List}
use Rattle.std.proofs.Common.{[], ◌∷◌, ◌++◌, length, take, drop, get_or, Ok, Err, refl, sym, ap, subst, ◌∙◌, append_assoc, arith, if◌then◌else◌}
use Rattle.std.proofs.lemmas.Bool.{cases_lt, ltb-false, le-ltb}
use Rattle.std.proofs.lemmas.Bool.Decides.{eqb_tells}
use Rattle.std.proofs.lemmas.List.{take_at, drop_at, take-append-drop, length-append, length-take, get_or-append-add, get_or-take, get_or_past, append-nil}
use Rattle.std.proofs.lemmas.Nat.{be_bytes_2, be_bytes_4, be_bytes_8, from_be_bytes-to_be_bytes_2, from_be_bytes-to_be_bytes_4, from_be_bytes-to_be_bytes_8}
use Rattle.unit_codec.specs.Reading.{Reading, ◌>>=◌, ruled, found}
use Rattle.unit_codec.specs.Kind.{Kind, part, plain, number, byte, sized, such_that, decoded, shaped, ◌then◌, optional, optional_spelling, optional_at}
use Rattle.unit_codec.specs.Kind.{listed_at, AllFollow, listed}

-- each is a byte
abbrev pub AreBytes : List ℕ → Type 0
AreBytes bytes = (i : ℕ) → get_or bytes i 0 < 256

pub AreBytes-behind : (front bytes : List ℕ) → AreBytes (front ++ bytes) → AreBytes bytes
AreBytes-behind front bytes are i = subst (λ (b : ℕ). b < 256) (get_or-append-add front bytes i 0) (are (length front + i))

AreBytes-take : (n : ℕ) (bytes : List ℕ) → AreBytes bytes → AreBytes (take n bytes)
AreBytes-take n bytes are i =
    elim (cases_lt i n) [
      | inl low ↦ subst (λ (b : ℕ). b < 256) (sym (get_or-take n bytes i 0 low)) (are i)
      | inr high ↦ subst (λ (b : ℕ). b < 256) (sym (get_or_past (take n bytes) i 0 (omega (arith, length-take n bytes)))) (omega arith)
    ]

AreBytes-front : (front bytes : List ℕ) → AreBytes (front ++ bytes) → AreBytes front
AreBytes-front front bytes are = subst AreBytes (take_at front bytes (length front) refl) (AreBytes-take (length front) (front ++ bytes) are)

-- the steps of a reading that came to a value, and of one that did not
pub bind_ok : {A B : Type 0} (r : Reading A) (next : A × List ℕ → Reading B) (y : B × List ℕ) → (r >>= next) ≡ Ok y →
    (x : A × List ℕ) × (r ≡ Ok x) × (next x ≡ Ok y)
bind_ok (Ok x) next y is = (x, refl, is)
bind_ok (Err left) next y is = absurd cc

pub bind_err : {A B : Type 0} (r : Reading A) (next : A × List ℕ → Reading B) (left : ℕ) → (r >>= next) ≡ Err left →
    (r ≡ Err left) ⊎ ((x : A × List ℕ) × (r ≡ Ok x) × (next x ≡ Err left))
bind_err (Ok x) next left is = inr (x, refl, is)
bind_err (Err k) next left is = inl (let same : k ≡ left = cc in cc)

pub ok_is : {A : Type 0} (x y : A × List ℕ) → (let r : Reading A = Ok x in r) ≡ Ok y → x ≡ y
ok_is x y is = cc

pub err_is : {A : Type 0} (k left : ℕ) → (let r : Reading A = Err k in r) ≡ Err left → k ≡ left
err_is k left is = cc

pub not_err : {A : Type 0} (x : A × List ℕ) (left : ℕ) → (let r : Reading A = Ok x in r) ≡ Err left → ⊥
not_err x left is = cc

-- What is read has a spelling, and it stands in front. What has a spelling is read, whatever follows. A bad field begins
-- within the bytes.
pub record IsExact {A : Type 0} (kind : Kind A) : Type 0 where
  pub takes : (bytes : List ℕ) (x : A × List ℕ) → AreBytes bytes → kind.read bytes ≡ Ok x → kind.Fits x.0 × (bytes ≡ kind.spell x.0 ++ x.1)
  pub again : (x : A) (rest : List ℕ) → kind.Fits x → kind.read (kind.spell x ++ rest) ≡ Ok (x, rest)
  pub within : (bytes : List ℕ) (left : ℕ) → AreBytes bytes → kind.read bytes ≡ Err left → left ≤ length bytes

-- what is left is bytes, and no more of them
pub rest_bytes : {A : Type 0} (kind : Kind A) (exact : IsExact kind) (bytes : List ℕ) (x : A × List ℕ) → AreBytes bytes → kind.read bytes ≡ Ok x → AreBytes x.1
rest_bytes kind exact bytes x are is = AreBytes-behind (kind.spell x.0) x.1 (subst AreBytes (exact.takes bytes x are is).1 are)

pub rest_within : {A : Type 0} (kind : Kind A) (exact : IsExact kind) (bytes : List ℕ) (x : A × List ℕ) → AreBytes bytes → kind.read bytes ≡ Ok x →
    length x.1 ≤ length bytes
rest_within kind exact bytes x are is =
    omega (arith, ap length (exact.takes bytes x are is).1, length-append (kind.spell x.0) x.1)

-- ---- so many bytes

part_ok : (left count : ℕ) (bytes : List ℕ) (x : List ℕ × List ℕ) → part left count bytes ≡ Ok x → (length x.0 ≡ count) × (bytes ≡ x.0 ++ x.1)
part_ok left count bytes x is =
    let g = cond_ok (ltb (length bytes) count) left (take count bytes, drop count bytes) x is in
    let long : count ≤ length bytes = ltb-false _ _ g.0 in
    subst (λ (p : List ℕ × List ℕ). (length p.0 ≡ count) × (bytes ≡ p.0 ++ p.1)) g.1
    (omega (arith, length-take count bytes), sym (take-append-drop count bytes))
  where
    cond_ok : (b : Bool) (left : ℕ) (x y : List ℕ × List ℕ) → cond b (Err left) (Ok x) ≡ Ok y → (b ≡ false) × (x ≡ y)
    cond_ok true left x y is = absurd cc
    cond_ok false left x y is = (refl, cc)

part_again : (left : ℕ) (text rest : List ℕ) (count : ℕ) → length text ≡ count → part left count (text ++ rest) ≡ Ok (text, rest)
part_again left text rest count long =
    let enough : ltb (length (text ++ rest)) count ≡ false = le-ltb _ _ (omega (arith, length-append text rest)) in
    rw (enough, take_at text rest count long, drop_at text rest count long) refl

part_err : (left count : ℕ) (bytes : List ℕ) (k : ℕ) → part left count bytes ≡ Err k → k ≡ left
part_err left count bytes k is = cond_err (ltb (length bytes) count) left (take count bytes, drop count bytes) k is
  where
    cond_err : (b : Bool) (left : ℕ) (x : List ℕ × List ℕ) (k : ℕ) → cond b (Err left) (Ok x) ≡ Err k → k ≡ left
    cond_err true left x k is = cc
    cond_err false left x k is = absurd cc

pub plain-exact : (count : ℕ) → IsExact (plain count)
unfolding plain
plain-exact count = record {
  takes = λ bytes x are is. part_ok (length bytes) count bytes x is;
  again = λ x rest fits. part_again (length (x ++ rest)) x rest count fits;
  within = λ bytes left are is. omega (arith, part_err (length bytes) count bytes left is);
}

-- ---- numbers

pub record IsWide (w : Width) : Type 0 where
  pub size : (n : ℕ) → length (to_be_bytes w n) ≡ byte_len w
  pub back : (bytes : List ℕ) → length bytes ≡ byte_len w → AreBytes bytes → to_be_bytes w (from_be_bytes w bytes) ≡ bytes
  pub again : (n : ℕ) → n < 256 ^ byte_len w → from_be_bytes w (to_be_bytes w n) ≡ n
  pub below : (bytes : List ℕ) → AreBytes bytes → from_be_bytes w bytes < 256 ^ byte_len w

pub wide8 : IsWide w8
wide8 = record {
  size = λ n. refl;
  back = λ bytes long are. one_byte bytes long are;
  again = λ n below. omega arith;
  below = λ bytes are. omega (arith, are 0);
}
  where
    one_byte : (bytes : List ℕ) → length bytes ≡ 1 → AreBytes bytes → to_be_bytes w8 (from_be_bytes w8 bytes) ≡ bytes
    one_byte [] long are = absurd (omega arith)
    one_byte (b ∷ []) long are = let small : b % 256 ≡ b = omega (arith, are 0) in ap (λ (n : ℕ). n ∷ []) small
    one_byte (b ∷ c ∷ bytes) long are = absurd (omega arith)

pub wide16 : IsWide w16
wide16 = record {
  size = λ n. refl;
  back = λ bytes long are. be_bytes_2 bytes _ long are refl;
  again = λ n below. from_be_bytes-to_be_bytes_2 n below;
  below = λ bytes are. omega (arith, are 0, are 1);
}

pub wide32 : IsWide w32
wide32 = record {
  size = λ n. refl;
  back = λ bytes long are. be_bytes_4 bytes _ long are refl;
  again = λ n below. from_be_bytes-to_be_bytes_4 n below;
  below = λ bytes are. omega (arith, are 0, are 1, are 2, are 3);
}

pub wide64 : IsWide w64
wide64 = record {
  size = λ n. refl;
  back = λ bytes long are. be_bytes_8 bytes _ long are refl;
  again = λ n below. from_be_bytes-to_be_bytes_8 n below;
  below = λ bytes are. omega (arith, are 0, are 1, are 2, are 3, are 4, are 5, are 6, are 7);
}

pub plain-fits : (count : ℕ) (bytes : List ℕ) → length bytes ≡ count → (plain count).Fits bytes
unfolding plain
plain-fits count bytes long = long

plain-part : (count : ℕ) (bytes : List ℕ) (x : List ℕ × List ℕ) → (plain count).read bytes ≡ Ok x → (length x.0 ≡ count) × (bytes ≡ x.0 ++ x.1)
unfolding plain
plain-part count bytes x is = part_ok (length bytes) count bytes x is

pub number-exact : (w : Width) → IsWide w → IsExact (number w)
unfolding number plain
number-exact w wide = record {
  takes = λ bytes x are is.
      let a = bind_ok ((plain (byte_len w)).read bytes) (λ y. Ok (from_be_bytes w y.0, y.1)) x is in
      let t = plain-part (byte_len w) bytes a.0 a.1 in
      let small = AreBytes-front a.0.0 a.0.1 (subst AreBytes t.1 are) in
      subst (λ (y : ℕ × List ℕ). (y.0 < 256 ^ byte_len w) × (bytes ≡ to_be_bytes w y.0 ++ y.1)) (ok_is (from_be_bytes w a.0.0, a.0.1) x a.2)
      (wide.below a.0.0 small, t.1 ∙ ap (λ (l : List ℕ). l ++ a.0.1) (sym (wide.back a.0.0 t.0 small)));
  again = λ n rest fits. rw (
    (plain-exact (byte_len w)).again (to_be_bytes w n) rest (plain-fits (byte_len w) (to_be_bytes w n) (wide.size n)),
    wide.again n
        fits,
  ) refl;
  within = λ bytes left are is.
      ⊎_elim (λ (e : (plain (byte_len w)).read bytes ≡ Err left). (plain-exact (byte_len w)).within bytes left are e)
      (λ e. absurd (not_err (from_be_bytes w e.0.0, e.0.1) left e.2))
      (bind_err ((plain (byte_len w)).read bytes) (λ y. Ok (from_be_bytes w y.0, y.1)) left is);
}

pub number-fits : (w : Width) (n : ℕ) → n < 256 ^ byte_len w → (number w).Fits n
unfolding number
number-fits w n below = below

-- ---- sized texts

pub sized-exact : (w : Width) → IsWide w → IsExact (sized w)
unfolding sized number plain
sized-exact w wide = record {
  takes = λ bytes x are is.
      let a = bind_ok ((number w).read bytes) (λ n. part (length bytes) n.0 n.1) x is in
      let n = (number-exact w wide).takes bytes a.0 are a.1 in
      let t = part_ok (length bytes) a.0.0 a.0.1 x a.2 in (
        subst (λ (k : ℕ). k < 256 ^ byte_len w) (sym t.0) n.0,
        n.1 ∙ ap (λ (l : List ℕ). to_be_bytes w a.0.0 ++ l) t.1 ∙ sym (append_assoc (to_be_bytes w a.0.0) x.0 x.1)
            ∙ ap (λ (k : ℕ). (to_be_bytes w k ++ x.0) ++ x.1) (sym t.0),
      );
  again = λ text rest fits.
      ap (λ (l : List ℕ). (number w).read l >>= λ n. part (length l) n.0 n.1) (append_assoc (to_be_bytes w (length text)) text rest)
      ∙ rw ((number-exact w wide).again (length text) (text ++ rest) fits) (part_again _ text rest (length text) refl);
  within = λ bytes left are is.
      ⊎_elim (λ (e : (number w).read bytes ≡ Err left). (number-exact w wide).within bytes left are e)
      (λ e. omega (arith, part_err (length bytes) e.0.0 e.0.1 left e.2))
      (bind_err ((number w).read bytes) (λ n. part (length bytes) n.0 n.1) left is);
}

-- ---- kinds made of others

ruled_ok : {A : Type 0} (left : ℕ) (follows : Bool) (x y : A × List ℕ) → ruled left follows x ≡ Ok y → (follows ≡ true) × (x ≡ y)
ruled_ok left true x y is = (refl, cc)
ruled_ok left false x y is = absurd cc

ruled_err : {A : Type 0} (left : ℕ) (follows : Bool) (x : A × List ℕ) (k : ℕ) → ruled left follows x ≡ Err k → k ≡ left
ruled_err left true x k is = absurd cc
ruled_err left false x k is = cc

found_ok : {A : Type 0} (left : ℕ) (o : Option A) (rest : List ℕ) (y : A × List ℕ) → found left o rest ≡ Ok y → (o ≡ Some y.0) × (rest ≡ y.1)
found_ok left (Some x) rest y is = let same : (x, rest) ≡ y = cc in (ap (λ p. Some p.0) same, ap (λ p. p.1) same)
found_ok left None rest y is = absurd cc

found_err : {A : Type 0} (left : ℕ) (o : Option A) (rest : List ℕ) (k : ℕ) → found left o rest ≡ Err k → k ≡ left
found_err left (Some x) rest k is = absurd cc
found_err left None rest k is = cc

pub such_that-exact : {A : Type 0} (kind : Kind A) (rule : A → Bool) → IsExact kind → IsExact (such_that kind rule)
such_that-exact kind rule exact = record {
  takes = λ bytes x are is.
      let a = bind_ok (kind.read bytes) (λ y. ruled (length bytes) (rule y.0) y) x is in
      let t = exact.takes bytes a.0 are a.1 in
      let r = ruled_ok (length bytes) (rule a.0.0) a.0 x a.2 in
      subst (λ (y : _). (kind.Fits y.0 × IsTrue (rule y.0)) × (bytes ≡ kind.spell y.0 ++ y.1)) r.1 ((t.0, r.0), t.1);
  again = λ x rest fits. rw (exact.again x rest fits.0, fits.1) refl;
  within = λ bytes left are is.
      ⊎_elim (λ (e : kind.read bytes ≡ Err left). exact.within bytes left are e) (λ e. omega (arith, ruled_err (length bytes) (rule e.0.0) e.0 left e.2))
      (bind_err (kind.read bytes) (λ y. ruled (length bytes) (rule y.0) y) left is);
}

pub decoded-exact : {A B : Type 0} (kind : Kind A) (decode : A → Option B) (encode : B → A) (Fits : B → Type 0) → IsExact kind
    → ((x : A) (y : B) → kind.Fits x → decode x ≡ Some y → Fits y × (encode y ≡ x)) → ((y : B) → Fits y → kind.Fits (encode y) × (decode (encode y) ≡ Some y)) →
    IsExact (decoded kind decode encode Fits)
decoded-exact {A} {B} kind decode encode Fits exact back again = record {
  takes = λ bytes y are is.
      let a = bind_ok (kind.read bytes) (λ x. found (length bytes) (decode x.0) x.1) y is in
      let t = exact.takes bytes a.0 are a.1 in
      let f = found_ok (length bytes) (decode a.0.0) a.0.1 y a.2 in
      let b = back a.0.0 y.0 t.0 f.0 in
      (b.0, t.1 ∙ ap (λ (x : A). kind.spell x ++ a.0.1) (sym b.1) ∙ ap (λ (l : List ℕ). kind.spell (encode y.0) ++ l) f.1);
  again = λ y rest fits. let e = again y fits in rw (exact.again (encode y) rest e.0, e.1) refl;
  within = λ bytes left are is.
      ⊎_elim (λ (e : kind.read bytes ≡ Err left). exact.within bytes left are e) (λ e. omega (arith, found_err (length bytes) (decode e.0.0) e.0.1 left e.2))
      (bind_err (kind.read bytes) (λ x. found (length bytes) (decode x.0) x.1) left is);
}

pub shaped-exact : {A B : Type 0} (kind : Kind A) (make : A → B) (parts : B → A) → IsExact kind → ((x : A) → parts (make x) ≡ x) →
    ((y : B) → make (parts y) ≡ y) → IsExact (shaped kind make parts)
shaped-exact {A} {B} kind make parts exact there back = record {
  takes = λ bytes y are is.
      let a = bind_ok (kind.read bytes) (λ x. Ok (make x.0, x.1)) y is in
      let t = exact.takes bytes a.0 are a.1 in
      subst (λ (p : B × List ℕ). kind.Fits (parts p.0) × (bytes ≡ kind.spell (parts p.0) ++ p.1)) (ok_is (make a.0.0, a.0.1) y a.2)
      (subst kind.Fits (sym (there a.0.0)) t.0, t.1 ∙ ap (λ (x : A). kind.spell x ++ a.0.1) (sym (there a.0.0)));
  again = λ y rest fits. rw (exact.again (parts y) rest fits, back y) refl;
  within = λ bytes left are is.
      ⊎_elim (λ (e : kind.read bytes ≡ Err left). exact.within bytes left are e) (λ e. absurd (not_err (make e.0.0, e.0.1) left e.2))
      (bind_err (kind.read bytes) (λ x. Ok (make x.0, x.1)) left is);
}

pub then-exact : {A B : Type 0} (first : Kind A) (second : A → Kind B) → IsExact first → ((x : A) → IsExact (second x)) → IsExact (first then second)
then-exact {A} {B} first second exact exacts = record {
  takes = λ bytes y are is.
      let a = bind_ok (first.read bytes) (λ x. (second x.0).read x.1 >>= λ z. Ok ((x.0, z.0), z.1)) y is in
      let b = bind_ok ((second a.0.0).read a.0.1) (λ z. Ok ((a.0.0, z.0), z.1)) y a.2 in
      let t = exact.takes bytes a.0 are a.1 in
      let u = (exacts a.0.0).takes a.0.1 b.0 (rest_bytes first exact bytes a.0 are a.1) b.1 in
      subst (λ (p : (A × B) × List ℕ). (first.Fits p.0.0 × (second p.0.0).Fits p.0.1) × (bytes ≡ (first.spell p.0.0 ++ (second p.0.0).spell p.0.1) ++ p.1))
      (ok_is ((a.0.0, b.0.0), b.0.1) y b.2)
      ((t.0, u.0), t.1 ∙ ap (λ (l : List ℕ). first.spell a.0.0 ++ l) u.1 ∙ sym (append_assoc (first.spell a.0.0) ((second a.0.0).spell b.0.0) b.0.1));
  again = λ p rest fits.
      ap (λ (l : List ℕ). first.read l >>= λ x. (second x.0).read x.1 >>= λ z. Ok ((x.0, z.0), z.1))
      (append_assoc (first.spell p.0) ((second p.0).spell p.1) rest)
      ∙ rw (exact.again p.0 ((second p.0).spell p.1 ++ rest) fits.0, (exacts p.0).again p.1 rest fits.1) refl;
  within = λ bytes left are is.
      ⊎_elim (λ (e : first.read bytes ≡ Err left). exact.within bytes left are e)
      (λ e.
      ⊎_elim (λ (f : (second e.0.0).read e.0.1 ≡ Err left).
      omega (arith, (exacts e.0.0).within e.0.1 left (rest_bytes first exact bytes e.0 are e.1) f, rest_within first exact bytes e.0 are e.1))
      (λ f. absurd (not_err ((e.0.0, f.0.0), f.0.1) left f.2))
      (bind_err ((second e.0.0).read e.0.1) (λ z. Ok ((e.0.0, z.0), z.1)) left e.2))
      (bind_err (first.read bytes) (λ x. (second x.0).read x.1 >>= λ z. Ok ((x.0, z.0), z.1)) left is);
}

pub byte-exact : IsExact byte
byte-exact = number-exact w8 wide8

-- ---- a value or none

optional_ok : {A : Type 0} (kind : Kind A) (exact : IsExact kind) (left : ℕ) (flag : ℕ × List ℕ) (x : Option A × List ℕ) → AreBytes flag.1 →
    optional_at kind left flag ≡ Ok x
    → IfSome x.0 kind.Fits × (byte.spell flag.0 ++ flag.1 ≡ optional_spelling kind x.0 ++ x.1)
optional_ok {A} kind exact left flag x are is =
    elim (eqb_tells flag.0 0) [
      | inl none ↦
          (let test = none.0 in
          let same : (None, flag.1) ≡ x = ok_is (None, flag.1) x (sym (let e : optional_at kind left flag ≡ Ok (None, flag.1) = rw test refl in e) ∙ is) in
          subst (λ (y : Option A × List ℕ). IfSome y.0 kind.Fits × (byte.spell flag.0 ++ flag.1 ≡ optional_spelling kind y.0 ++ y.1)) same
          (tt, ap (λ (k : ℕ). byte.spell k ++ flag.1) none.1))
      | inr some ↦
          (let test = some.0 in
          elim (eqb_tells flag.0 1) [
            | inl one ↦
                (let second = one.0 in
                let rest : (kind.read flag.1 >>= λ y. Ok (Some y.0, y.1))
                ≡ Ok x = sym (let e : optional_at kind left flag ≡ (kind.read flag.1 >>= λ y. Ok (Some y.0, y.1)) = rw (test, second) refl in e) ∙ is in
                let a = bind_ok (kind.read flag.1) (λ y. Ok (Some y.0, y.1)) x rest in
                let t = exact.takes flag.1 a.0 are a.1 in
                subst (λ (y : Option A × List ℕ). IfSome y.0 kind.Fits × (byte.spell flag.0 ++ flag.1 ≡ optional_spelling kind y.0 ++ y.1))
                (ok_is (Some a.0.0, a.0.1) x a.2) (
                  t.0,
                  ap (λ (k : ℕ). byte.spell k ++ flag.1) one.1 ∙ ap (λ (l : List ℕ). byte.spell 1 ++ l) t.1
                      ∙ sym (append_assoc (byte.spell 1) (kind.spell a.0.0) a.0.1),
                ))
            | inr other ↦
                (let second = other.0 in
                let e : optional_at kind left flag ≡ Err left = rw (test, second) refl in
                absurd (let f = sym e ∙ is in cc))
          ])
    ]

optional_err : {A : Type 0} (kind : Kind A) (exact : IsExact kind) (left : ℕ) (flag : ℕ × List ℕ) (k : ℕ) → AreBytes flag.1 →
    optional_at kind left flag ≡ Err k → (k ≡ left) ⊎ (k ≤ length flag.1)
optional_err {A} kind exact left flag k are is =
    elim (eqb_tells flag.0 0) [
      | inl none ↦
          (let test = none.0 in
          absurd (let f = sym is ∙ (let e : optional_at kind left flag ≡ Ok (None, flag.1) = rw test refl in e) in cc))
      | inr some ↦
          (let test = some.0 in
          elim (eqb_tells flag.0 1) [
            | inl one ↦
                (let second = one.0 in
                let rest : (kind.read flag.1 >>= λ y. Ok (Some y.0, y.1))
                ≡ Err k = sym (let e : optional_at kind left flag ≡ (kind.read flag.1 >>= λ y. Ok (Some y.0, y.1)) = rw (test, second) refl in e) ∙ is in
                ⊎_elim (λ (e : kind.read flag.1 ≡ Err k). inr (exact.within flag.1 k are e)) (λ e. absurd (not_err (Some e.0.0, e.0.1) k e.2))
                (bind_err (kind.read flag.1) (λ y. Ok (Some y.0, y.1)) k rest))
            | inr other ↦
                (let second = other.0 in
                inl (let e : optional_at kind left flag ≡ Err left = rw (test, second) refl in err_is k left (sym is ∙ e)))
          ])
    ]

pub optional-exact : {A : Type 0} (kind : Kind A) → IsExact kind → IsExact (optional kind)
unfolding optional
optional-exact kind exact = record {
  takes = λ bytes x are is.
      let a = bind_ok (byte.read bytes) (optional_at kind (length bytes)) x is in
      let t = byte-exact.takes bytes a.0 are a.1 in
      let o = optional_ok kind exact (length bytes) a.0 x (rest_bytes byte byte-exact bytes a.0 are a.1) a.2 in
      (o.0, t.1 ∙ o.1);
  again = λ x rest fits. optional_again kind exact x rest fits;
  within = λ bytes left are is.
      ⊎_elim (λ (e : byte.read bytes ≡ Err left). byte-exact.within bytes left are e)
      (λ e.
      ⊎_elim (λ (f : left ≡ length bytes). omega (arith, f)) (λ (f : left ≤ length e.0.1). omega (arith, f, rest_within byte byte-exact bytes e.0 are e.1))
      (optional_err kind exact (length bytes) e.0 left (rest_bytes byte byte-exact bytes e.0 are e.1) e.2))
      (bind_err (byte.read bytes) (optional_at kind (length bytes)) left is);
}
  where
    optional_again : {A : Type 0} (kind : Kind A) (exact : IsExact kind) (x : Option A) (rest : List ℕ) → IfSome x kind.Fits →
        (optional kind).read (optional_spelling kind x ++ rest) ≡ Ok (x, rest)
    optional_again kind exact None rest fits = rw (byte-exact.again 0 rest (number-fits w8 0 (omega arith))) refl
    optional_again kind exact (Some x) rest fits =
        ap (optional kind).read (append_assoc (byte.spell 1) (kind.spell x) rest)
        ∙ rw (byte-exact.again 1 (kind.spell x ++ rest) (number-fits w8 1 (omega arith)), exact.again x rest fits) refl

-- ---- lists

module _ {A : Type 0} (kind : Kind A) (rule : List A → A → Bool) (exact : IsExact kind) where
  listed_takes : (count : ℕ) (front : List A) (bytes : List ℕ) (x : List A × List ℕ) → AreBytes bytes → listed_at kind rule count front bytes ≡ Ok x
      → (xs : List A) × (x.0 ≡ front ++ xs) × (length xs ≡ count) × (AllByRecursion kind.Fits xs × AllFollow rule front xs) × (bytes ≡ flat_map kind.spell xs
      ++ x.1)
  unfolding listed_at
  listed_takes zero front bytes x are is =
      let same : (front, bytes) ≡ x = ok_is (front, bytes) x is in
      ([], sym (ap (λ (p : List A × List ℕ). p.0) same) ∙ sym (append-nil front), refl, (tt, tt), ap (λ (p : List A × List ℕ). p.1) same)
  listed_takes (suc count) front bytes x are is =
      let a = bind_ok (kind.read bytes) (λ y. ruled (length bytes) (rule front y.0) y >>= λ y. listed_at kind rule count (front ++ y.0 ∷ []) y.1) x is in
      let r = bind_ok (ruled (length bytes) (rule front a.0.0) a.0) (λ y. listed_at kind rule count (front ++ y.0 ∷ []) y.1) x a.2 in
      let g = ruled_ok (length bytes) (rule front a.0.0) a.0 r.0 r.1 in
      let rest : listed_at kind rule count (front ++ a.0.0 ∷ []) a.0.1
      ≡ Ok x = subst (λ (y : A × List ℕ). listed_at kind rule count (front ++ y.0 ∷ []) y.1 ≡ Ok x) (sym g.1) r.2 in
      let t = exact.takes bytes a.0 are a.1 in
      let more = listed_takes count (front ++ a.0.0 ∷ []) a.0.1 x (rest_bytes kind exact bytes a.0 are a.1) rest in (
        a.0.0 ∷ more.0,
        more.1 ∙ append_assoc front (a.0.0 ∷ []) more.0,
        ap suc more.2,
        ((t.0, more.3.0), (g.0, more.3.1)),
        t.1 ∙ ap (λ (l : List ℕ). kind.spell a.0.0 ++ l) more.4 ∙ sym (append_assoc (kind.spell a.0.0) (flat_map kind.spell more.0) x.1),
      )

  listed_again : (xs front : List A) (rest : List ℕ) → AllByRecursion kind.Fits xs → AllFollow rule front xs →
      listed_at kind rule (length xs) front (flat_map kind.spell xs ++ rest) ≡ Ok (front ++ xs, rest)
  unfolding listed_at
  listed_again [] front rest fit follow = ap (λ (l : List A). Ok (l, rest)) (sym (append-nil front))
  listed_again (x ∷ xs) front rest fit follow =
      ap (listed_at kind rule (suc (length xs)) front) (append_assoc (kind.spell x) (flat_map kind.spell xs) rest)
      ∙ rw (exact.again x (flat_map kind.spell xs ++ rest) fit.0, follow.0) (listed_again xs (front ++ x ∷ []) rest fit.1 follow.1)
      ∙ ap (λ (l : List A). Ok (l, rest)) (append_assoc front (x ∷ []) xs)

  listed_within : (count : ℕ) (front : List A) (bytes : List ℕ) (left : ℕ) → AreBytes bytes → listed_at kind rule count front bytes ≡ Err left →
      left ≤ length bytes
  unfolding listed_at
  listed_within zero front bytes left are is = absurd (not_err (front, bytes) left is)
  listed_within (suc count) front bytes left are is =
      ⊎_elim (λ (e : kind.read bytes ≡ Err left). exact.within bytes left are e)
      (λ e.
      ⊎_elim (λ (f : ruled (length bytes) (rule front e.0.0) e.0 ≡ Err left). omega (arith, ruled_err (length bytes) (rule front e.0.0) e.0 left f))
      (λ f.
      let g = ruled_ok (length bytes) (rule front e.0.0) e.0 f.0 f.1 in
      let rest : listed_at kind rule count (front ++ e.0.0 ∷ []) e.0.1
      ≡ Err left = subst (λ (y : A × List ℕ). listed_at kind rule count (front ++ y.0 ∷ []) y.1 ≡ Err left) (sym g.1) f.2 in
      omega (
        arith,
        listed_within count (front ++ e.0.0 ∷ []) e.0.1 left (rest_bytes kind exact bytes e.0 are e.1) rest,
        rest_within kind exact bytes e.0 are
            e.1,
      ))
      (bind_err (ruled (length bytes) (rule front e.0.0) e.0) (λ y. listed_at kind rule count (front ++ y.0 ∷ []) y.1) left e.2))
      (bind_err (kind.read bytes) (λ y. ruled (length bytes) (rule front y.0) y >>= λ y. listed_at kind rule count (front ++ y.0 ∷ []) y.1) left is)

  pub listed-exact : (count : Kind ℕ) → IsExact count → IsExact (listed count kind rule)
  unfolding listed
  listed-exact count exact_count = record {
    takes = λ bytes x are is.
        let a = bind_ok (count.read bytes) (λ n. listed_at kind rule n.0 [] n.1) x is in
        let n = exact_count.takes bytes a.0 are a.1 in
        let t = listed_takes a.0.0 [] a.0.1 x (rest_bytes count exact_count bytes a.0 are a.1) a.2 in
        let many : length x.0 ≡ a.0.0 = ap length t.1 ∙ t.2 in (
          (subst count.Fits (sym many) n.0, subst (AllByRecursion kind.Fits) (sym t.1) t.3.0, subst (AllFollow rule []) (sym t.1) t.3.1),
          n.1 ∙ ap (λ (l : List ℕ). count.spell a.0.0 ++ l) t.4 ∙ sym (append_assoc (count.spell a.0.0) (flat_map kind.spell t.0) x.1)
              ∙ ap (λ (k : ℕ). (count.spell k ++ flat_map kind.spell t.0) ++ x.1) (sym many)
              ∙ ap (λ (l : List A). (count.spell (length x.0) ++ flat_map kind.spell l) ++ x.1) (sym t.1),
        );
    again = λ xs rest fits.
        ap (listed count kind rule).read (append_assoc (count.spell (length xs)) (flat_map kind.spell xs) rest)
        ∙ rw (exact_count.again (length xs) (flat_map kind.spell xs ++ rest) fits.0) (listed_again xs [] rest fits.1 fits.2);
    within = λ bytes left are is.
        ⊎_elim (λ (e : count.read bytes ≡ Err left). exact_count.within bytes left are e)
        (λ e. omega (
          arith,
          listed_within e.0.0 [] e.0.1 left (rest_bytes count exact_count bytes e.0 are e.1) e.2,
          rest_within count exact_count bytes e.0 are
              e.1,
        ))
        (bind_err (count.read bytes) (λ n. listed_at kind rule n.0 [] n.1) left is);
  }
