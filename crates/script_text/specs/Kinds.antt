-- The kinds of words that commands have.
use Rattle.std.specs.Prelude.{ℕ, ◌==◌, ◌&&◌, not, nat_le, Bool, true, false, List, [], ◌∷◌, length, codes, Option, Some, None, if◌then◌else◌}
use Rattle.std.specs.Char.{is_ascii_digit}
use Rattle.std.specs.Option.{is_some}
use Rattle.std.specs.List.{list_any, list_all}
use Rattle.std.specs.Str.{is_utf8}
use Rattle.ale_base.specs.Decimal.{decimal_value}
use Rattle.ale_base.specs.Text.{is_text}
use Rattle.ale_base.specs.Tid.{tid_of}
use Rattle.ale_base.specs.declared.change.FieldValue.{FieldValue}
use Rattle.script_text.specs.declared.kind.TheConstants.{MOST_DIGITS, MOST_LETTERS}
use Rattle.script_text.specs.declared.kind.Kind.{Kind}
use Rattle.script_text.specs.declared.kind.Kind.TheVariants.{The, Any, Number, Id, Letters, Utf8}
use Rattle.script_text.specs.declared.keyword.Keyword.{Keyword}
use Rattle.script_text.specs.declared.keyword.Keyword.TheVariants as keyword

-- how a keyword is written
abbrev pub text_of : Keyword → List ℕ
text_of keyword.Send = codes "send"
text_of keyword.Put = codes "put"
text_of keyword.Gather = codes "gather"
text_of keyword.Dispatch = codes "dispatch"
text_of keyword.Drain = codes "drain"
text_of keyword.Wire = codes "wire"
text_of keyword.Stop = codes "stop"
text_of keyword.Start = codes "start"
text_of keyword.Retry = codes "retry"
text_of keyword.Late = codes "late"
text_of keyword.App = codes "app"
text_of keyword.Repost = codes "repost"
text_of keyword.Crash = codes "crash"
text_of keyword.Open = codes "open"
text_of keyword.Remodel = codes "remodel"
text_of keyword.Show = codes "show"
text_of keyword.Out = codes "out"
text_of keyword.In = codes "in"
text_of keyword.Docs = codes "docs"
text_of keyword.Doc = codes "doc"
text_of keyword.History = codes "history"
text_of keyword.Units = codes "units"
text_of keyword.Queues = codes "queues"
text_of keyword.Objects = codes "objects"

-- a number has 1 to 15 digits, of which the first is no zero
abbrev pub is_number : List ℕ → Bool
is_number [] = false
is_number (b ∷ bs) = not (b == 48) && (nat_le (length (b ∷ bs)) MOST_DIGITS && list_all is_ascii_digit (b ∷ bs))

-- the number that a word spells, if it spells one
abbrev pub number_of : List ℕ → Option ℕ
number_of word = if is_number word then Some (decimal_value word) else None

-- a letter says what becomes of one shipment: all goes through, the request is lost, the reply is lost, the request arrives twice, the
-- confirmation is lost, the receiver falls once it has handled the request
abbrev pub is_letter : ℕ → Bool
is_letter b = list_any (λ letter. letter == b) (codes "oqrtcf")

-- there are 1 to 64 letters
abbrev pub are_letters : List ℕ → Bool
are_letters word = nat_le 1 (length word) && (nat_le (length word) MOST_LETTERS && list_all is_letter word)

-- the name of a file that a word is, if it is one
abbrev pub file_name_of : List ℕ → Option (List ℕ)
file_name_of word = if is_utf8 word then Some word else None

-- a word of a kind
abbrev pub is_of : Kind → List ℕ → Bool
is_of (The keyword) word = is_text word (text_of keyword)
is_of Any word = true
is_of Number word = is_some (number_of word)
is_of Id word = is_some (tid_of word)
is_of Letters word = are_letters word
is_of Utf8 word = is_utf8 word

-- `FIELD=VALUE`: there is an equals sign, and the first one splits the word
abbrev pub is_field : List ℕ → Bool
is_field word = list_any (λ b. b == 61) word

-- what is before the first equals sign, and what is behind it
abbrev pub before_sign : List ℕ → List ℕ
before_sign [] = []
before_sign (b ∷ bs) = if b == 61 then [] else b ∷ before_sign bs

abbrev pub behind_sign : List ℕ → List ℕ
behind_sign [] = []
behind_sign (b ∷ bs) = if b == 61 then bs else behind_sign bs

abbrev pub field_value : List ℕ → FieldValue
field_value word = record { field = before_sign word; value = behind_sign word }
