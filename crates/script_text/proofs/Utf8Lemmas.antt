-- Bytes that are UTF-8 or not, by the test.
use Rattle.std.specs.Prelude.{MatchResult}
use Rattle.std.specs.Result.{is_ok}
use Rattle.std.specs.Str.{IsUtf8, is_utf8}
use Rattle.std.proofs.Common.{◌≡◌, ℕ, false, cond, List, Some, None, Result, Ok, Err, ap, sym}
use Rattle.std.proofs.lemmas.Bool.{false_from_ne_true}
use Rattle.std.proofs.lemmas.Str.{IsUtf8-from_is_utf8, is_utf8-from_IsUtf8}
use Rattle.script_text.specs.Kinds.{file_name_of}

-- bytes that are none fail the test
no-utf8 : (bytes : List ℕ) → (IsUtf8 bytes → ⊥) → is_utf8 bytes ≡ false
no-utf8 bytes none = false_from_ne_true (is_utf8 bytes) (λ is. none (IsUtf8-from_is_utf8 bytes is))

-- a reading as UTF-8 tests it
pub read-utf8 : {T E : Type 0} (bytes : List ℕ) (Was : T → Type 0) (Why : E → Type 0) (read : Result T E)
    → MatchResult read (λ text. Was text × IsUtf8 bytes) (λ error. (IsUtf8 bytes → ⊥) × Why error) → is_ok read ≡ is_utf8 bytes
read-utf8 bytes Was Why (Ok text) is = sym (is_utf8-from_IsUtf8 bytes is.1)
read-utf8 bytes Was Why (Err error) is = sym (no-utf8 bytes is.0)

-- the name of a file is there exactly for these
pub file_name-some : (bytes : List ℕ) → IsUtf8 bytes → file_name_of bytes ≡ Some bytes
file_name-some bytes is = ap (λ b. cond b (Some bytes) None) (is_utf8-from_IsUtf8 bytes is)

pub file_name-none : (bytes : List ℕ) → (IsUtf8 bytes → ⊥) → file_name_of bytes ≡ None
file_name-none bytes none = ap (λ b. cond b (Some bytes) None) (no-utf8 bytes none)
