-- The texts of a load, by the number of its masters.
use Rattle.std.specs.Prelude.{ℕ, zero, suc, ◌+◌, ◌%◌, ◌==◌, List, [], ◌++◌, replicate, codes, if◌then◌else◌}
use Rattle.std.specs.Fmt.{decimal}
use Rattle.idoc_record.specs.Digits.{decimal_digits}

-- the control line of each document: its message type, 99 bytes from its begin
abbrev pub control_line : List ℕ
control_line = codes "EDI_DC40" ++ (replicate 91 32 ++ codes "ZMAT\n")

-- a material of six digits as a data line: its key, its type and its unit of measure in the fields of Z1MAT, 63 bytes from its begin
abbrev pub data_line : List ℕ → List ℕ → List ℕ
data_line digits kind = codes "Z1MAT" ++ (replicate 58 32 ++ (codes "M" ++ (digits ++ (replicate 11 32 ++ (kind ++ codes "ST\n")))))

-- what stands behind the number of the material of a place from 0
abbrev pub kind_of : ℕ → List ℕ
kind_of place = if place % 2 == 0 then codes "FERT" else codes "ROH "

-- the document of a place from 0: the material has the number that comes next
abbrev pub document : ℕ → List ℕ
document place = control_line ++ data_line (decimal_digits 6 (place + 1)) (kind_of place)

-- so many documents, one behind the other
unfoldable pub documents : ℕ → List ℕ
documents zero = []
documents (suc count) = documents count ++ document count

-- the command that sends the document of a place from 0
abbrev pub command : ℕ → List ℕ
command place = codes "send CORE " ++ (decimal (place + 1) ++ codes "\n")

-- the commands that send so many documents
unfoldable pub commands : ℕ → List ℕ
commands zero = []
commands (suc count) = commands count ++ command count

-- each document is sent, and then the systems are drained
abbrev pub script : ℕ → List ℕ
script count = commands count ++ codes "drain\n"

-- ---- what only private functions cite

-- what stands behind the digits of a document's number
abbrev pub type_of : ℕ → List ℕ
type_of place = replicate 11 32 ++ (kind_of place ++ codes "ST\n")

-- what stands before them
abbrev pub front : List ℕ
front = control_line ++ (codes "Z1MAT" ++ (replicate 58 32 ++ codes "M"))
