-- Why no model was read of a file, in words, as it is told.
use Rattle.std.specs.Prelude.{ℕ, List, Option, Some, None, codes}
use Rattle.model_text.specs.Words.{fault_words}
use Rattle.model_files.specs.declared.end.ModelFileEnd.{ModelFileEnd}
use Rattle.model_files.specs.declared.end.ModelFileEnd.TheVariants.{Missing, TooLong, Failed, Refused, OutOfMemory}

-- the words; want of memory, which says nothing of the file, has none
abbrev pub words_of : ModelFileEnd → Option (List ℕ)
words_of Missing = Some (codes "missing")
words_of TooLong = Some (codes "too long")
words_of Failed = Some (codes "fault")
words_of (Refused fault) = Some (fault_words fault)
words_of OutOfMemory = None
