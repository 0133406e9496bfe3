-- Facts that hold where a call answers Ok.
use Rattle.std.specs.Prelude.{Result, Ok, Err, OnOk}

-- what holds after an Ok leads to what else holds after it
pub on_ok : {T E P Q : Type 0} (r : Result T E) → OnOk r P → (P → Q) → OnOk r Q
on_ok (Ok x) here leads = leads here
on_ok (Err e) here leads = tt

pub on_ok_both : {T E : Type 0} (P Q : Type 0) (r : Result T E) → OnOk r P → OnOk r Q → OnOk r (P × Q)
on_ok_both P Q (Ok x) p q = (p, q)
on_ok_both P Q (Err e) p q = tt
