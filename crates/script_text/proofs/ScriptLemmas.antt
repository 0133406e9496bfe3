-- Lines one behind another.
use Rattle.std.proofs.Common.{◌≡◌, Ok, Err, List, [], ◌++◌, refl, sym, ap, ◌∙◌, append_assoc, append-nil}
use Rattle.script_text.specs.declared.command.Command.{Command}
use Rattle.script_text.specs.declared.fault.ScriptFault.{ScriptFault}
use Rattle.script_text.specs.Script.{Reading, both}

-- commands so far, those of the next line, and what comes behind
pub both_more : (front next : List Command) (line behind : Reading) → both (Ok front) line ≡ Ok next
    → both (Ok front) (both line behind) ≡ both (Ok next) behind
both_more front next (Err fault) behind read = absurd (cc)
both_more front next (Ok more) (Err fault) read = refl
both_more front next (Ok more) (Ok rest) read =
    let same : front ++ more ≡ next = cc in
    ap Ok (sym (append_assoc front more rest) ∙ ap (λ commands. commands ++ rest) same)

-- a fault of the next line
pub both_fault : (front : List Command) (line behind : Reading) (fault : ScriptFault) → line ≡ Err fault → both (Ok front) (both line behind) ≡ Err fault
both_fault front line behind fault is = rw is refl

pub both_nil : (front : List Command) → both (Ok front) (Ok []) ≡ Ok front
both_nil front = ap Ok (append-nil front)
