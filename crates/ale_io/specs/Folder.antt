-- Files in memory.
use Rattle.std.specs.Prelude.{ℕ, List, find}
use Rattle.std.specs.Option.{option_map_or}
use Rattle.ale_base.specs.Text.{is_text}
use Rattle.ale_io.specs.Told.{Told, no_file, file}
use Rattle.ale_io.specs.declared.map_files.StoredFile.{StoredFile}

-- what is told of a name: the bytes of the first file that has it, which is the one that counts
abbrev pub told_of : List StoredFile → List ℕ → Told
told_of files name =
    option_map_or (λ stored. file stored.bytes) (find (λ stored. is_text stored.name name) files) no_file
