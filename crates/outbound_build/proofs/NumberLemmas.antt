-- Units and their numbers.
use Rattle.std.proofs.Common.{◌≡◌, ℕ, suc, ◌+◌, List, [], ◌∷◌, ◌++◌, length, refl, ap, ◌∙◌, arith}
use Rattle.outbound_build.specs.declared.added.OutUnit.{OutUnit}
use Rattle.outbound_build.specs.declared.parcel.Parcel.{Parcel}
use Rattle.outbound_build.specs.Added.{numbered, unit_of}

-- one more unit has the number after those before it
pub numbered-push : (system number : ℕ) (parcels : List Parcel) (parcel : Parcel)
    → numbered system number (parcels ++ parcel ∷ []) ≡ numbered system number parcels ++ unit_of system (number + length parcels) parcel ∷ []
numbered-push system number [] parcel = let same : number ≡ number + 0 = omega arith in ap (λ (n : ℕ). unit_of system n parcel ∷ []) same
numbered-push system number (first ∷ others) parcel =
    let same : suc number + length others ≡ number + suc (length others) = omega arith in
    ap (λ (units : List OutUnit). unit_of system number first ∷ units) (numbered-push system (suc number) others parcel)
    ∙ ap (λ (n : ℕ). unit_of system number first ∷ (numbered system (suc number) others ++ unit_of system n parcel ∷ [])) same

-- as many units as parcels
pub length-numbered : (system number : ℕ) (parcels : List Parcel) → length (numbered system number parcels) ≡ length parcels
length-numbered system number [] = refl
length-numbered system number (first ∷ others) = ap suc (length-numbered system (suc number) others)
