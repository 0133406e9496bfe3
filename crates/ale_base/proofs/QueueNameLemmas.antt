-- Bytes that a name of a queue may have.
use Rattle.std.specs.Prelude.{All}
use Rattle.std.proofs.Common.{◌≡◌, ◌≢◌, ℕ, zero, suc, ◌<◌, ◌≤◌, List, [], ◌∷◌, length, ap, refl, ◌∙◌, arith}
use Rattle.ale_base.specs.Blanks.{trimmed, before_trimmed, padded}
use Rattle.ale_base.specs.TrimmedLemmas.{trimmed-last, trimmed-padded}
use Rattle.ale_base.specs.QueueName.{IsNameByte, IsQueueName}

no_blank : (byte : ℕ) → IsNameByte byte → byte ≢ 32
no_blank byte is = omega arith

-- a text of such bytes has no blank at its end
pub trimmed-graphic : (bytes : List ℕ) → All IsNameByte bytes → trimmed bytes ≡ bytes
trimmed-graphic [] all = refl
trimmed-graphic (b ∷ []) all = trimmed-last [] b (no_blank b (all 0 0 (omega arith)))
trimmed-graphic (b ∷ c ∷ cs) all = ap (before_trimmed b) (trimmed-graphic (c ∷ cs) (λ k d within. all (suc k) d (omega arith)))

-- a name is what is left of it and of blanks behind it
pub name-back : (name : List ℕ) → IsQueueName name → trimmed (padded 24 name) ≡ name
name-back name it = trimmed-padded 24 name ∙ trimmed-graphic name it.graphic
