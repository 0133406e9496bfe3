-- The forms of commands: a table of how each is written, and what its words say.
use Rattle.std.specs.Prelude.{ℕ, ◌==◌, ◌&&◌, nat_lt, Bool, true, false, Option, Some, None, List, [], ◌∷◌, length, map, take, drop, find, codes}
use Rattle.std.specs.Option.{option_map, option_and_then}
use Rattle.std.specs.List.{list_all, slice_index_or}
use Rattle.ale_base.specs.Tid.{tid_of}
use Rattle.ale_base.specs.declared.change.Change.{Change}
use Rattle.ale_base.specs.declared.doc_num.DocNum.{DocNum}
use Rattle.ale_base.specs.declared.way.Way.{Way}
use Rattle.ale_base.specs.declared.way.Way.TheVariants.{Outgoing, Incoming}
use Rattle.script_text.specs.declared.form.Form.{Form}
use Rattle.script_text.specs.declared.form.Form.TheVariants as form
use Rattle.script_text.specs.declared.keyword.Keyword.TheVariants as keyword
use Rattle.script_text.specs.declared.kind.Kind.{Kind}
use Rattle.script_text.specs.declared.kind.Kind.TheVariants.{The, Any, Number, Id, Letters, Utf8}
use Rattle.script_text.specs.declared.shape.Shape.{Shape}
use Rattle.script_text.specs.declared.shape.Shape.TheVariants as shape
use Rattle.script_text.specs.Kinds.{number_of, file_name_of, is_of, is_field, field_value}

-- how a command is written: words of these kinds, one for one, and, where it takes fields, one or more words
-- `FIELD=VALUE` behind them
pub record Pattern : Type 0 where
  pub words : List Kind
  pub fields : Bool

abbrev pub just : List Kind → Pattern
just kinds = record { words = kinds; fields = false }

abbrev pub and_fields : List Kind → Pattern
and_fields kinds = record { words = kinds; fields = true }

-- the table: a row a shape
abbrev pub pattern_of : Shape → Pattern
pattern_of shape.Send = just (The keyword.Send ∷ Any ∷ Number ∷ [])
pattern_of shape.Put = and_fields (The keyword.Put ∷ Any ∷ Any ∷ Any ∷ [])
pattern_of shape.Gather = just (The keyword.Gather ∷ Any ∷ Any ∷ [])
pattern_of shape.Dispatch = just (The keyword.Dispatch ∷ Any ∷ [])
pattern_of shape.Drain = just (The keyword.Drain ∷ [])
pattern_of shape.Wire = just (The keyword.Wire ∷ Id ∷ Letters ∷ [])
pattern_of shape.StopOut = just (The keyword.Stop ∷ Any ∷ The keyword.Out ∷ Any ∷ Any ∷ [])
pattern_of shape.StopIn = just (The keyword.Stop ∷ Any ∷ The keyword.In ∷ Any ∷ [])
pattern_of shape.StartOut = just (The keyword.Start ∷ Any ∷ The keyword.Out ∷ Any ∷ Any ∷ [])
pattern_of shape.StartIn = just (The keyword.Start ∷ Any ∷ The keyword.In ∷ Any ∷ [])
pattern_of shape.Retry = just (The keyword.Retry ∷ Any ∷ Id ∷ [])
pattern_of shape.Late = just (The keyword.Late ∷ Id ∷ [])
pattern_of shape.App = just (The keyword.App ∷ Any ∷ Number ∷ [])
pattern_of shape.Repost = just (The keyword.Repost ∷ Any ∷ Number ∷ [])
pattern_of shape.Crash = just (The keyword.Crash ∷ Any ∷ [])
pattern_of shape.Open = just (The keyword.Open ∷ Any ∷ [])
pattern_of shape.Remodel = just (The keyword.Remodel ∷ Utf8 ∷ [])
pattern_of shape.ShowDocs = just (The keyword.Show ∷ The keyword.Docs ∷ Any ∷ [])
pattern_of shape.ShowDoc = just (The keyword.Show ∷ The keyword.Doc ∷ Any ∷ Number ∷ [])
pattern_of shape.ShowHistoryOut = just (The keyword.Show ∷ The keyword.History ∷ Any ∷ The keyword.Out ∷ Number ∷ [])
pattern_of shape.ShowHistoryIn = just (The keyword.Show ∷ The keyword.History ∷ Any ∷ The keyword.In ∷ Number ∷ [])
pattern_of shape.ShowUnits = just (The keyword.Show ∷ The keyword.Units ∷ Any ∷ [])
pattern_of shape.ShowQueues = just (The keyword.Show ∷ The keyword.Queues ∷ Any ∷ [])
pattern_of shape.ShowObjects = just (The keyword.Show ∷ The keyword.Objects ∷ Any ∷ [])

-- the words are of these kinds, one for one
abbrev pub are_of : List Kind → List (List ℕ) → Bool
are_of [] [] = true
are_of [] (word ∷ words) = false
are_of (kind ∷ kinds) [] = false
are_of (kind ∷ kinds) (word ∷ words) = is_of kind word && are_of kinds words

-- the words behind those of a pattern: none, or one at least, and each of them `FIELD=VALUE`
abbrev pub ends_with : Bool → List (List ℕ) → Bool
ends_with false words = length words == 0
ends_with true words = nat_lt 0 (length words) && list_all is_field words

-- the words are written as the pattern says
abbrev pub fits : Pattern → List (List ℕ) → Bool
fits pattern words =
    are_of pattern.words (take (length pattern.words) words) && ends_with pattern.fields (drop (length pattern.words) words)

-- the word at a place from 0
abbrev pub word_at : List (List ℕ) → ℕ → List ℕ
word_at words n = slice_index_or words n []

-- the number of a document at a place, if there is one
abbrev pub doc_at : List (List ℕ) → ℕ → Option DocNum
doc_at words n = option_map (λ (number : ℕ). record { 0 = number }) (number_of (word_at words n))

-- the change that a `put` says
abbrev pub change_of : List (List ℕ) → Change
change_of words = record { kind = word_at words 2; key = word_at words 3; fields = map field_value (drop 4 words) }

-- what the words say that ask what became of a document
abbrev pub history_said : Way → List (List ℕ) → Option Form
history_said way w = option_map (λ doc. form.ShowHistory (word_at w 2) way doc) (doc_at w 4)

-- what the words of a command say
abbrev pub said : Shape → List (List ℕ) → Option Form
said shape.Send w = option_map (λ number. form.Send (word_at w 1) number) (number_of (word_at w 2))
said shape.Put w = Some (form.Put (word_at w 1) (change_of w))
said shape.Gather w = Some (form.Gather (word_at w 1) (word_at w 2))
said shape.Dispatch w = Some (form.Dispatch (word_at w 1))
said shape.Drain w = Some form.Drain
said shape.Wire w = option_map (λ tid. form.Wire tid (word_at w 2)) (tid_of (word_at w 1))
said shape.StopOut w = Some (form.Stop (word_at w 1) (Some (word_at w 3)) (word_at w 4))
said shape.StopIn w = Some (form.Stop (word_at w 1) None (word_at w 3))
said shape.StartOut w = Some (form.Start (word_at w 1) (Some (word_at w 3)) (word_at w 4))
said shape.StartIn w = Some (form.Start (word_at w 1) None (word_at w 3))
said shape.Retry w = option_map (λ tid. form.Retry (word_at w 1) tid) (tid_of (word_at w 2))
said shape.Late w = option_map (λ tid. form.Late tid) (tid_of (word_at w 1))
said shape.App w = option_map (λ doc. form.App (word_at w 1) doc) (doc_at w 2)
said shape.Repost w = option_map (λ doc. form.Repost (word_at w 1) doc) (doc_at w 2)
said shape.Crash w = Some (form.Crash (word_at w 1))
said shape.Open w = Some (form.Open (word_at w 1))
said shape.Remodel w = option_map (λ file. form.Remodel file) (file_name_of (word_at w 1))
said shape.ShowDocs w = Some (form.ShowDocs (word_at w 2))
said shape.ShowDoc w = option_map (λ doc. form.ShowDoc (word_at w 2) doc) (doc_at w 3)
said shape.ShowHistoryOut w = history_said Outgoing w
said shape.ShowHistoryIn w = history_said Incoming w
said shape.ShowUnits w = Some (form.ShowUnits (word_at w 2))
said shape.ShowQueues w = Some (form.ShowQueues (word_at w 2))
said shape.ShowObjects w = Some (form.ShowObjects (word_at w 2))

-- all shapes, in the order of the table
abbrev pub shapes : List Shape
shapes =
    shape.Send ∷ shape.Put ∷ shape.Gather ∷ shape.Dispatch ∷ shape.Drain ∷ shape.Wire ∷ shape.StopOut ∷ shape.StopIn ∷ shape.StartOut ∷ shape.StartIn
    ∷ shape.Retry ∷ shape.Late ∷ shape.App ∷ shape.Repost ∷ shape.Crash ∷ shape.Open ∷ shape.Remodel ∷ shape.ShowDocs ∷ shape.ShowDoc
    ∷ shape.ShowHistoryOut ∷ shape.ShowHistoryIn ∷ shape.ShowUnits ∷ shape.ShowQueues ∷ shape.ShowObjects ∷ []

-- the first shape in which words are written, if they are written in one
unfoldable pub shape_of : List (List ℕ) → Option Shape
shape_of words = find (λ shape. fits (pattern_of shape) words) shapes

-- the command that words are
abbrev pub form_of : List (List ℕ) → Option Form
form_of words = option_and_then (λ shape. said shape words) (shape_of words)

-- the first word of a command
abbrev pub verb_of : Form → List ℕ
verb_of (form.Send sys number) = codes "send"
verb_of (form.Put sys change) = codes "put"
verb_of (form.Gather sys message) = codes "gather"
verb_of (form.Dispatch sys) = codes "dispatch"
verb_of form.Drain = codes "drain"
verb_of (form.Wire tid letters) = codes "wire"
verb_of (form.Stop sys destination queue) = codes "stop"
verb_of (form.Start sys destination queue) = codes "start"
verb_of (form.Retry sys tid) = codes "retry"
verb_of (form.Late tid) = codes "late"
verb_of (form.App sys doc) = codes "app"
verb_of (form.Repost sys doc) = codes "repost"
verb_of (form.Crash sys) = codes "crash"
verb_of (form.Open sys) = codes "open"
verb_of (form.Remodel file) = codes "remodel"
verb_of (form.ShowDocs sys) = codes "show"
verb_of (form.ShowDoc sys doc) = codes "show"
verb_of (form.ShowHistory sys way doc) = codes "show"
verb_of (form.ShowUnits sys) = codes "show"
verb_of (form.ShowQueues sys) = codes "show"
verb_of (form.ShowObjects sys) = codes "show"
