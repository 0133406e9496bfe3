-- Texts that the cases of a folder share.
use Rattle.std.specs.Prelude.{ℕ, List, Option, find, nat_eq, string_bytes}
use Rattle.std.specs.Cmp.Lexicographic.{pointwise}
use Rattle.std.specs.Option.{option_map}
use Rattle.case_form.specs.declared.texts.Texts.{Texts}

-- the bytes of the first text of this name, if there is one
abbrev pub text_of : Texts → List ℕ → Option (List ℕ)
text_of texts name = option_map (λ file. file.bytes.items) (find (λ file. pointwise nat_eq (string_bytes file.name) name) texts.files.items)
