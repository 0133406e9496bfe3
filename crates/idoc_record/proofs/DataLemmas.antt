-- The fields of a data record, read from a line that is shorter.
use Rattle.std.proofs.Common.{◌≡◌, ℕ, ◌-◌, ◌≤◌, false, not, Result, Ok, List, length, take, drop, sym, ap, subst, ◌∙◌}
use Rattle.std.specs.Prelude.{min}
use Rattle.std.proofs.lemmas.List.{take_min, take_rest}
use Rattle.ale_base.specs.Blanks.{trimmed, padded}
use Rattle.ale_base.specs.TrimmedLemmas.{trimmed-take-padded, trimmed-drop-padded, trimmed-trimmed, length-padded}
use Rattle.idoc_record.specs.Parts.{part, text_at}
use Rattle.idoc_record.proofs.PartLemmas.{length-text_at}
use Rattle.idoc_record.specs.Data.{DataRecord, segnam, sdata, is_no_segment, IsDataLine}

-- the name stands at the front
pub text_at-segnam : (text : List ℕ) → text_at segnam (padded 1063 text) ≡ trimmed (take (min 30 (length text)) text)
text_at-segnam text = trimmed-take-padded 30 1063 text ∙ ap trimmed (sym (take_min 30 text))

-- the data stand behind the other fields
pub text_at-sdata : (text : List ℕ) → length text ≤ 1063 → text_at sdata (padded 1063 text) ≡ trimmed (drop 63 text)
text_at-sdata text fits =
    let bytes = padded 1063 text in
    let rest : take 1000 (drop 63 bytes) ≡ drop 63 bytes = subst (λ (n : ℕ). take (n - 63) (drop 63 bytes) ≡ drop 63 bytes) (length-padded 1063 text fits)
    (take_rest bytes 63) in
    ap trimmed rest ∙ trimmed-drop-padded 63 1063 text

-- what is read from a line is its data record
pub IsDataLine-read : (line : List ℕ) (data_record : DataRecord) → length (trimmed line) ≤ 1063 → is_no_segment data_record.segnam ≡ false
    → data_record.segnam ≡ text_at segnam (padded 1063 (trimmed line)) → data_record.sdata ≡ text_at sdata (padded 1063 (trimmed line)) →
    IsDataLine line data_record
IsDataLine-read line data_record fits named is_segnam is_sdata = record {
  fits = fits;
  segnam = is_segnam;
  sdata = is_sdata;
  kept = record {
    named = subst (λ (text : List ℕ). length text ≤ 30) (sym is_segnam) (length-text_at segnam (padded 1063 (trimmed line)));
    segnam = ap not named;
    ends = subst (λ (text : List ℕ). trimmed text ≡ text) (sym is_segnam) (trimmed-trimmed (part segnam (padded 1063 (trimmed line))));
    fits = subst (λ (text : List ℕ). length text ≤ 1000) (sym is_sdata) (length-text_at sdata (padded 1063 (trimmed line)));
    sdata = subst (λ (text : List ℕ). trimmed text ≡ text) (sym is_sdata) (trimmed-trimmed (part sdata (padded 1063 (trimmed line))));
  };
}

-- two answers that are equal have one value
pub Ok-injective : {E : Type 0} (a b : DataRecord) → ◌≡◌ {A = Result DataRecord E} (Ok a) (Ok b) → a ≡ b
Ok-injective a b same = cc
