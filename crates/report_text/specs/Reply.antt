-- The line of a command: its number and first word, its reply, and how long each log is.
use Rattle.std.specs.Prelude.{ℕ, ◌+◌, ◌/◌, ◌%◌, ◌==◌, List, [], ◌∷◌, ◌++◌, codes, ⊤, if◌then◌else◌}
use Rattle.std.specs.List.{flat_map}
use Rattle.std.specs.Fmt.{decimal}
use Rattle.idoc_tree.specs.declared.fault.SyntaxFault.{SyntaxFault}
use Rattle.idoc_tree.specs.declared.fault.SyntaxFault.TheVariants as syntax
use Rattle.status_log.specs.declared.refusal.Refusal.{Refusal}
use Rattle.status_log.specs.declared.refusal.Refusal.TheVariants as refusal
use Rattle.status_log.specs.declared.status.Status.{Status}
use Rattle.status_log.specs.Refusal.{IsNumbered}
use Rattle.report_text.specs.declared.reply.Reply.{Reply}
use Rattle.report_text.specs.declared.reply.Reply.TheVariants.{Sent, Pointers, Gathered, Units, Models, Finished, Carried, New, Known, SysFail, Down, Posted, Lines}
use Rattle.report_text.specs.declared.reply.Reply.TheVariants.{Fault, Refused}

-- a word and a number behind a blank
abbrev pub counted : List ℕ → ℕ → List ℕ
counted word n = word ++ (codes " " ++ decimal n)

-- why segments are no document
abbrev pub shown_syntax : SyntaxFault → List ℕ
shown_syntax (syntax.UnknownSegment k) = counted (codes "UnknownSegment") k
shown_syntax (syntax.Misplaced k) = counted (codes "Misplaced") k
shown_syntax (syntax.TooMany k) = counted (codes "TooMany") k
shown_syntax (syntax.Missing name k) = codes "Missing " ++ counted name k
shown_syntax syntax.OutOfMemory = codes "OutOfMemory"

-- the number of a refusal, and what follows it: the fault of the syntax, the length of the journal, the count of units or of documents,
-- why a file says no model, or the path to what a new model does not keep
abbrev pub shown_refusal : Refusal → List ℕ
shown_refusal refusal.N1 = codes "1"
shown_refusal refusal.N2 = codes "2"
shown_refusal refusal.N3 = codes "3"
shown_refusal (refusal.N4 fault) = codes "4 " ++ shown_syntax fault
shown_refusal refusal.N5 = codes "5"
shown_refusal refusal.N6 = codes "6"
shown_refusal refusal.N7 = codes "7"
shown_refusal refusal.N8 = codes "8"
shown_refusal refusal.N9 = codes "9"
shown_refusal (refusal.N10 length) = counted (codes "10") length
shown_refusal (refusal.N11 count) = counted (codes "11") count
shown_refusal refusal.N12 = codes "12"
shown_refusal (refusal.N13 count) = counted (codes "13") count
shown_refusal (refusal.N14 words) = codes "14 " ++ words
shown_refusal (refusal.N15 path) = codes "15 " ++ path
shown_refusal refusal.Volume = []
shown_refusal refusal.OutOfMemory = []

-- a status in two digits
abbrev pub shown_code : ℕ → List ℕ
shown_code code = (48 + code / 10) ∷ (48 + code % 10) ∷ []

-- the last status of a document, and behind 51 why it was not posted
abbrev pub shown_posted : Status → List ℕ
shown_posted status = if status.code == 51 then counted (shown_code 51) status.reason else shown_code status.code

-- masters, documents and units that were made
abbrev pub shown_sent : ℕ → ℕ → List ℕ
shown_sent documents units = counted (codes "documents") documents ++ (codes " " ++ counted (codes "units") units)

abbrev pub shown_reply : Reply → List ℕ
shown_reply (Sent documents units) = shown_sent documents units
shown_reply (Pointers count) = counted (codes "pointers") count
shown_reply (Gathered masters documents units) = counted (codes "masters") masters ++ (codes " " ++ shown_sent documents units)
shown_reply (Units count) = counted (codes "units") count
shown_reply (Models count) = counted (codes "models") count
shown_reply (Finished count) = counted (codes "finished") count
shown_reply Carried = codes "ok"
shown_reply New = codes "new"
shown_reply Known = codes "known"
shown_reply SysFail = codes "sysfail"
shown_reply Down = codes "down"
shown_reply (Posted status) = shown_posted status
shown_reply (Lines count) = counted (codes "lines") count
shown_reply Fault = codes "fault"
shown_reply (Refused why) = codes "refused " ++ shown_refusal why

-- a refusal is printed where it has a number
abbrev pub IsPrintable : Reply → Type 0
IsPrintable (Refused why) = IsNumbered why
IsPrintable reply = ⊤

-- texts with something between them
abbrev pub joined : {A : Type 0} → List ℕ → (A → List ℕ) → List A → List ℕ
joined between shown [] = []
joined between shown (x ∷ xs) = shown x ++ flat_map (λ y. between ++ shown y) xs

-- how long each log is, in brackets
abbrev pub shown_lengths : List ℕ → List ℕ
shown_lengths lengths = codes " [" ++ (joined (codes " ") decimal lengths ++ codes "]\n")

-- the line of a command
abbrev pub reply_line : ℕ → List ℕ → Reply → List ℕ → List ℕ
reply_line line verb answer lengths =
    decimal line ++ (codes " " ++ (verb ++ (codes " -> " ++ (shown_reply answer ++ shown_lengths lengths))))
