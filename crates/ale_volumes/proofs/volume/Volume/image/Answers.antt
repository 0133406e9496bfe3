use Rattle.std.specs.Prelude.{length, drop, get_or, slice_index}
use Rattle.std.proofs.Common.{◌≡◌, ◌<◌, ◌≤◌, ◌+◌, ℕ, List, sym, ap, ◌∙◌, subst, rules}
use Rattle.std.proofs.lemmas.List.{drop_all}
use Rattle.ale_volumes.specs.declared.volume.UnsyncedWrite.{UnsyncedWrite}
use Rattle.ale_volumes.specs.Volume.{IsImage}
use Rattle.ale_volumes.specs.Survivors.{surviving, laid, laid_over}
use Rattle.ale_volumes.proofs.SurvivorsLemmas.{surviving-image, laid_more, length-laid_over}
use Rattle.ale_volumes.proofs.volume.Volume.image.Goals as goal

pub loop-i-preserved : goal.loop-i-preserved
loop-i-preserved c =
    let volume = c.args.self.now in
    let survivors = c.args.survivors.now in
    let i = c.loop-i.i in
    let image = c.loop-i.image.items in
    let write = c.write-item.result in
    let size = c.loop-i.invariant.size in
    let count : c.unwrap_or-count.result ≡ slice_index survivors.bytes i = search rules in
    let within : i < length volume.writes = search rules in
    let is : write ≡ get_or volume.writes i write = search rules in
    let grown : c.lay_over.new.image.items ≡ laid_over (length image) image write c.unwrap_or-count.result = c.in_ok-lay_over.ensures in
    let here : c.lay_over.new.image.items ≡ laid_over c.index.result.now image (get_or volume.writes i write) (slice_index survivors.bytes i) = cc in
    let more = laid_more c.index.result.now volume.writes survivors.bytes image i write within in
    record {
      size = ap length grown ∙ length-laid_over image write c.unwrap_or-count.result ∙ size;
      chosen = ap (λ (l : List ℕ). laid c.index.result.now (drop (i + 1) volume.writes) (drop (i + 1) survivors.bytes) l) here ∙ sym more
          ∙ c.loop-i.invariant.chosen;
    }

pub returns-clause-image : goal.returns-clause-image
returns-clause-image c =
    let volume = c.args.self.now in
    let i = c.loop-i.i in
    let past : length volume.writes ≤ i = search rules in
    let end = ap (λ (l : List UnsyncedWrite). laid c.index.result.now l (drop i c.args.survivors.now.bytes) c.loop-i.image.items)
    (drop_all i volume.writes past) in
    let same : c.from_vec.result ≡ surviving volume c.args.survivors.now = c.from_vec.ensures ∙ sym end ∙ c.loop-i.invariant.chosen in
    subst (IsImage c.args.self.now) (sym same) (surviving-image c.args.self.now c.args.survivors.now c.requires)
