use Rattle.std.proofs.Common.{◌≡◌, ℕ, suc, ◌+◌, ◌∷◌, ◌++◌, [], length, ap, sym, ◌∙◌, arith, length-append}
use Rattle.outbound_build.specs.Added.{numbered, unit_of}
use Rattle.outbound_build.proofs.NumberLemmas.{numbered-push}
use Rattle.outbound_build.proofs.numbering.numbered.Goals as goal

pub loop-parcel-preserved : goal.loop-parcel-preserved
loop-parcel-preserved c =
    let system = c.args.system in
    let before = c.args.before in
    let so_far = c.loop-parcel.yielded in
    let parcel = c.in-Some.parcel in
    let counted : c.loop-parcel.number ≡ before + length so_far = c.loop-parcel.invariant.counted in
    let number : c.loop-parcel.number + 1 ≡ suc before + length so_far = omega arith in
    record {
      counted = omega (arith, length-append so_far (parcel ∷ []));
      units =
          c.in_ok-push.ensures.ok
          ∙ ap (λ units. units ++ c.unit_of.result ∷ []) c.loop-parcel.invariant.units
          ∙ ap (λ unit. numbered system (suc before) so_far ++ unit ∷ []) (c.unit_of.ensures ∙ ap (λ (n : ℕ). unit_of system n parcel) number)
          ∙ sym (numbered-push system (suc before) so_far parcel);
    }
