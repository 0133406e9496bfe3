use Rattle.std.proofs.Common.{◌≡◌, drop, length, rules}
use Rattle.std.specs.Bool.{Decides}
use Rattle.std.proofs.lemmas.Slice.Eq.{starts_is}
use Rattle.segment_defs.specs.declared.field.Field.{Field}
use Rattle.segment_defs.specs.contracts.field.FieldPartialEq.TheImpl as field
use Rattle.segment_defs.proofs.rules.continues.Goals as goal

pub returns-then-earlier-newer : goal.returns-then-earlier-newer
returns-then-earlier-newer c =
    let same : (a b : Field) → Decides (field.eq-value.it a b) (a ≡ b) = λ a b. search rules in
    let fields = c.as_slice.result.now in
    let earlier = c.as_slice-then-earlier-newer.result.now in
    let starts = starts_is same fields earlier c.starts_with.result c.starts_with.ensures.value in (
      λ true. record {
        later = c.if-earlier-newer.true;
        added = drop (length c.args.earlier.now.fields) c.args.newer.now.fields;
        fields = rw
            (c.as_slice.ensures, c.as_slice-then-earlier-newer.ensures) at (starts.0 true);
      },
      λ is.
          starts.1 is.added (rw (c.as_slice.ensures, c.as_slice-then-earlier-newer.ensures) is.fields),
    )
