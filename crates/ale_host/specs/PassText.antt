-- What `pass` prints.
use Rattle.std.specs.Prelude.{ℕ, ◌+◌, List, [], ◌∷◌, ◌++◌, length, codes}
use Rattle.std.specs.Fmt.{decimal}
use Rattle.ale_base.specs.Tid.{spelling}
use Rattle.idoc_record.specs.declared.control_field.ControlField.{ControlField}
use Rattle.idoc_record.specs.declared.control_field.ControlField.TheVariants.{Sndprn, Rcvprn, Mestyp}
use Rattle.idoc_record.specs.Control.{field_of}
use Rattle.idoc_file.specs.declared.raw_doc.RawDoc.{RawDoc}

-- a text as it is printed, `-` where it is blank
abbrev pub shown : List ℕ → List ℕ
shown [] = codes "-"
shown (b ∷ bs) = b ∷ bs

-- a field of the control record as it is printed, and a blank behind it
abbrev pub shown_field : RawDoc → ControlField → List ℕ
shown_field document field = shown (field_of document.control field) ++ codes " "

-- the number of a document, and the id of the unit of this number at system 1
abbrev pub shown_unit : ℕ → List ℕ
shown_unit k = (decimal k ++ codes " ") ++ (spelling (record { system = 1; unit = k }) ++ codes " ")

-- sender, receiver and message type
abbrev pub shown_address : RawDoc → List ℕ
shown_address document = shown_field document Sndprn ++ (shown_field document Rcvprn ++ shown_field document Mestyp)

-- the number of data records, at the end of the line
abbrev pub shown_count : RawDoc → List ℕ
shown_count document = decimal (length document.segments) ++ codes "\n"

-- the line of document k
abbrev pub line_of : ℕ → RawDoc → List ℕ
line_of k document = shown_unit k ++ (shown_address document ++ shown_count document)

-- a line a document, in the order of the file, numbered from k
abbrev pub lines_from : ℕ → List RawDoc → List ℕ
lines_from k [] = []
lines_from k (document ∷ documents) = line_of k document ++ lines_from (k + 1) documents

-- a line a document, numbered from 1
abbrev pub pass_text : List RawDoc → List ℕ
pass_text documents = lines_from 1 documents
