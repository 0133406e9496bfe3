use Rattle.std.proofs.Common.{◌≡◌, subst, add-one, ◌∷◌, [], ◌++◌, drop, suc, sym, ap, ◌∙◌, append_assoc}
use Rattle.std.proofs.lemmas.Bool.{not-true, not-false}
use Rattle.inbound_post.specs.Reading.{posted_fields}
use Rattle.inbound_post.proofs.ReadingLemmas.{posted-more, posted-less}
use Rattle.inbound_post.proofs.reading.posted_fields.Goals as goal
use Rattle.inbound_post.proofs.reading.posted_fields.Goals.{then-is_posted+in_ok-value+in_ok-push, else-is_posted}

pub loop-place-preserved : goal.loop-place-preserved
loop-place-preserved c =
    let key = c.args.key in
    let sdata = c.args.sdata.now in
    let fields = c.args.fields.now in
    let place = c.loop-place.place in
    let field = c.index-fields-place.result in
    let rest = posted_fields key (suc place) sdata (drop (suc place) fields) in
    subst (λ n. c.if-is_posted.posted ++ posted_fields key n sdata (drop n fields) ≡ posted_fields key 0 sdata fields) (sym (add-one place))
    (elim c.if-is_posted.branch [
      | then-is_posted+in_ok-value+in_ok-push w ↦
          ap (λ list. list ++ rest) (w.posted-is ∙ w.in_ok-push.ensures.ok)
          ∙ append_assoc c.loop-place.posted (w.in_ok-value.value ∷ []) rest
          ∙ ap (λ value. c.loop-place.posted ++ value ∷ rest) w.in_ok-value.ensures
          ∙ ap (λ more. c.loop-place.posted ++ more) (sym (posted-more key place sdata fields field c.loop-place-test.true c.index-fields-place.is
          (not-true _ (sym c.is_posted.ensures ∙ w.if-is_posted.true))))
          ∙ c.loop-place.invariant
      | else-is_posted w ↦
          ap (λ list. list ++ rest) w.posted-is
          ∙ ap (λ more. c.loop-place.posted ++ more) (sym (posted-less key place sdata fields field c.loop-place-test.true c.index-fields-place.is
          (not-false _ (sym c.is_posted.ensures ∙ w.if-is_posted.false))))
          ∙ c.loop-place.invariant
    ])
