-- Kinds of fields.
use Rattle.std.specs.Prelude.{◌≡◌, ℕ, zero, suc, ◌<◌, ◌^◌, ◌==◌, Bool, IsTrue, Option, Some, None, List, [], ◌∷◌, ◌++◌, length, take, drop, nat_lt, Ok, Err}
use Rattle.std.specs.Prelude.{if◌then◌else◌, IfSome}
use Rattle.std.specs.List.{flat_map, AllByRecursion}
use Rattle.std.specs.Int.{Width, w8, byte_len, from_be_bytes, to_be_bytes}
use Rattle.unit_codec.specs.Reading.{Reading, ◌>>=◌, ruled, found}

-- a kind of field: how a value is spelled, which values have a spelling, and how a value is read from the front of some bytes
pub record Kind (A : Type 0) : Type 1 where
  pub spell : A → List ℕ
  pub Fits : A → Type 0
  pub read : List ℕ → Reading A

-- ---- plain kinds

-- so many bytes, of a field that begins where `left` bytes are left
abbrev pub part : ℕ → ℕ → List ℕ → Reading (List ℕ)
part left count bytes = if nat_lt (length bytes) count then Err left else Ok (take count bytes, drop count bytes)

-- bytes as they are, so many
unfoldable pub plain : ℕ → Kind (List ℕ)
plain count = record { spell = λ bytes. bytes; Fits = λ bytes. length bytes ≡ count; read = λ bytes. part (length bytes) count bytes }

-- a number, the highest byte first
unfoldable pub number : Width → Kind ℕ
number w = record {
  spell = λ n. to_be_bytes w n;
  Fits = λ n. n < 256 ^ byte_len w;
  read = λ bytes. (plain (byte_len w)).read bytes >>= λ x. Ok (from_be_bytes w x.0, x.1);
}

-- a number of one byte
abbrev pub byte : Kind ℕ
byte = number w8

-- bytes behind their length, a number of this width
unfoldable pub sized : Width → Kind (List ℕ)
sized w = record {
  spell = λ text. to_be_bytes w (length text) ++ text;
  Fits = λ text. length text < 256 ^ byte_len w;
  read = λ bytes. (number w).read bytes >>= λ n. part (length bytes) n.0 n.1;
}

-- ---- kinds made of others

-- the values of a kind that follow a rule
abbrev pub such_that : {A : Type 0} → Kind A → (A → Bool) → Kind A
such_that kind rule = record {
  spell = kind.spell;
  Fits = λ x. kind.Fits x × IsTrue (rule x);
  read = λ bytes. kind.read bytes >>= λ x. ruled (length bytes) (rule x.0) x;
}

-- values that stand for others, some of which stand for none
abbrev pub decoded : {A B : Type 0} → Kind A → (A → Option B) → (B → A) → (B → Type 0) → Kind B
decoded kind decode encode Fits = record {
  spell = λ y. kind.spell (encode y);
  Fits = Fits;
  read = λ bytes. kind.read bytes >>= λ x. found (length bytes) (decode x.0) x.1;
}

-- the same values in another shape
abbrev pub shaped : {A B : Type 0} → Kind A → (A → B) → (B → A) → Kind B
shaped kind make parts = record {
  spell = λ y. kind.spell (parts y);
  Fits = λ y. kind.Fits (parts y);
  read = λ bytes. kind.read bytes >>= λ x. Ok (make x.0, x.1);
}

-- a value, and behind it one of a kind that may hang on it
infixr 20 ◌then◌
abbrev pub ◌then◌ : {A B : Type 0} → Kind A → (A → Kind B) → Kind (A × B)
first then second = record {
  spell = λ p. first.spell p.0 ++ (second p.0).spell p.1;
  Fits = λ p. first.Fits p.0 × (second p.0).Fits p.1;
  read = λ bytes. first.read bytes >>= λ x. (second x.0).read x.1 >>= λ y. Ok ((x.0, y.0), y.1);
}

abbrev pub optional_spelling : {A : Type 0} → Kind A → Option A → List ℕ
optional_spelling kind None = byte.spell 0
optional_spelling kind (Some x) = byte.spell 1 ++ kind.spell x

abbrev pub optional_at : {A : Type 0} → Kind A → ℕ → ℕ × List ℕ → Reading (Option A)
optional_at kind left flag =
    if flag.0 == 0 then Ok (None, flag.1)
    else (if flag.0 == 1 then (kind.read flag.1 >>= λ x. Ok (Some x.0, x.1))
    else Err left)

-- the byte 0 for no value, and the byte 1 before one
unfoldable pub optional : {A : Type 0} → Kind A → Kind (Option A)
optional kind = record {
  spell = optional_spelling kind;
  Fits = λ o. IfSome o kind.Fits;
  read = λ bytes. byte.read bytes >>= optional_at kind (length bytes);
}

-- Values one after another, so many, behind those in front. Each follows a rule by those before it.
unfoldable pub listed_at : {A : Type 0} → Kind A → (List A → A → Bool) → ℕ → List A → List ℕ → Reading (List A)
listed_at kind rule zero front bytes = Ok (front, bytes)
listed_at kind rule (suc count) front bytes =
    kind.read bytes >>= λ x. ruled (length bytes) (rule front x.0) x >>= λ x. listed_at kind rule count (front ++ x.0 ∷ []) x.1

-- behind those in front, each value follows the rule by those before it
abbrev pub AllFollow : {A : Type 0} → (List A → A → Bool) → List A → List A → Type 0
AllFollow rule front [] = Unit {0}
AllFollow rule front (x ∷ xs) = IsTrue (rule front x) × AllFollow rule (front ++ x ∷ []) xs

-- a list behind its count
unfoldable pub listed : {A : Type 0} → Kind ℕ → Kind A → (List A → A → Bool) → Kind (List A)
listed count kind rule = record {
  spell = λ xs. count.spell (length xs) ++ flat_map kind.spell xs;
  Fits = λ xs. count.Fits (length xs) × AllByRecursion kind.Fits xs × AllFollow rule [] xs;
  read = λ bytes. count.read bytes >>= λ n. listed_at kind rule n.0 [] n.1;
}

-- ---- what only private functions cite

-- a call appended the spelling of a value, which has one
pub record Puts {A : Type 0} (kind : Kind A) (x : A) (old new : List ℕ) : Type 0 where
  pub fits : kind.Fits x
  pub spelled : new ≡ old ++ kind.spell x

-- a call appended the spellings of values, each of which has one
pub record PutsAll {A : Type 0} (kind : Kind A) (xs : List A) (old new : List ℕ) : Type 0 where
  pub fit : AllByRecursion kind.Fits xs
  pub spelled : new ≡ old ++ flat_map kind.spell xs
