-- What is printed of a run: of each command its reply, with how long each log is then, and what it lists. This project's own.
use Rattle.std.specs.Prelude.{ℕ, ⊤, List, [], ◌++◌, Option, Some, None, length, map}
use Rattle.trfc_protocol.specs.declared.world.SystemState.{SystemState}
use Rattle.trfc_protocol.specs.declared.world.World.{World}
use Rattle.document_state.specs.declared.model_rules.ModelRules.{ModelRules}
use Rattle.status_log.specs.declared.listing.Listing.{Listing}
use Rattle.report_text.specs.Reply.{reply_line}
use Rattle.report_text.specs.Reply.{IsPrintable as IsReplyPrintable}
use Rattle.report_text.specs.Listing.{listing_lines}
use Rattle.report_text.specs.Listing.{IsPrintable as IsListingPrintable}
use Rattle.script_text.specs.Forms.{verb_of}
use Rattle.script_text.specs.declared.command.Command.{Command}
use Rattle.runs.specs.declared.answered.Answered.{Answered}
use Rattle.runs.specs.declared.stage.Stage.{Stage}

-- how many records the log of each system has, in order of systems
abbrev pub log_lengths : World ModelRules → List ℕ
log_lengths world = map (λ (state : SystemState). length state.log) world.systems

-- the lines of a listing, where there is one
abbrev pub listed_text : Option Listing → List ℕ
listed_text (Some lines) = listing_lines lines
listed_text None = []

-- what is printed of a command that was answered so, and left this
abbrev pub shown : {V : Type 0} → Command → Answered → Stage V → List ℕ
shown command answered after =
    reply_line command.line (verb_of command.form) answered.reply (log_lengths after.landscape.world) ++ listed_text answered.listing

-- a listing, where there is one, can be printed
abbrev pub IsListedPrintable : Option Listing → Type 0
IsListedPrintable (Some lines) = IsListingPrintable lines
IsListedPrintable None = ⊤

-- an answer can be printed: a refusal has a number, and the places of segments fit their data records
pub record IsPrintable (answered : Answered) : Type 0 where
  pub reply : IsReplyPrintable answered.reply
  pub listing : IsListedPrintable answered.listing
