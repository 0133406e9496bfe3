-- Names of queues: which texts are names, and the first fault of others.
use Rattle.std.specs.Prelude.{◌&&◌, not, nat_le, nat_lt, position}
use Rattle.std.specs.Option.{option_map, option_map_or, option_or}
use Rattle.std.proofs.Common.{◌≡◌, inl, inr, ℕ, zero, suc, ◌<◌, Bool, true, false, get_or, Option, Some, None, Ok, Err, List, [], ◌∷◌, ◌++◌, length, refl, ap}
use Rattle.std.proofs.Common.{◌∙◌, arith}
use Rattle.std.proofs.lemmas.Bool.{le-ltb, lt-ltb, le-leb, leb-true, cases_Bool, cond-true, cond-false}
use Rattle.ale_base.specs.QueueName.{IsNameByte, IsQueueName, HasFault}
use Rattle.ale_base.specs.declared.queue_name.NameFault.{NameFault}
use Rattle.ale_base.specs.declared.queue_name.NameFault.TheVariants.{Empty, TooLong, BadByte}
use Rattle.segment_defs.proofs.NameLemmas.{position-here, position-behind}
use Rattle.outbound_build.specs.declared.queue_lists.QueueLists.{QueueLists}
use Rattle.outbound_build.specs.QueueNames.{is_name_byte, fault_of, is_blank, first_fault, named_once, queues_named}
use Rattle.outbound_build.specs.steps.Naming.{IsNamed}

abbrev lists_named : List (List ℕ) → List (List ℕ) → QueueLists
lists_named outbound inbound = record { outq = named_once outbound; inq = named_once inbound }

-- the first element that passes is at the first place at which one does
position-at : {A : Type 0} (test : A → Bool) (xs : List A) (place : ℕ) (d : A) → place < length xs → ((k : ℕ) → k < place → test (get_or xs k d) ≡ false)
    → test (get_or xs place d) ≡ true → position test xs ≡ Some place
position-at test [] place d within before here = absurd (omega arith)
position-at test (x ∷ xs) zero d within before here = position-here test x xs here
position-at test (x ∷ xs) (suc place) d within before here =
    position-behind test x xs (before 0 (omega arith))
    ∙ ap (option_map suc) (position-at test xs place d (omega arith) (λ k less. before (suc k) (omega arith)) here)

position-nowhere : {A : Type 0} (test : A → Bool) (xs : List A) (d : A) → ((k : ℕ) → k < length xs → test (get_or xs k d) ≡ false) → position test xs ≡ None
position-nowhere test [] d all = refl
position-nowhere test (x ∷ xs) d all =
    position-behind test x xs (all 0 (omega arith)) ∙ ap (option_map suc) (position-nowhere test xs d (λ k less. all (suc k) (omega arith)))

name_byte-no_other : (byte : ℕ) → IsNameByte byte → not (is_name_byte byte) ≡ false
name_byte-no_other byte is = ap not (ap (λ b. b && nat_le byte 126) (le-leb 33 byte is.0) ∙ le-leb byte 126 is.1)

other_byte : (byte : ℕ) → (IsNameByte byte → ⊥) → not (is_name_byte byte) ≡ true
other_byte byte other =
    elim (cases_Bool (nat_le 33 byte)) [
      | inl least ↦ elim (cases_Bool (nat_le byte 126)) [
        | inl most ↦ absurd (other (leb-true 33 byte least, leb-true byte 126 most))
        | inr over ↦ ap not (ap (λ b. b && nat_le byte 126) least ∙ over)
      ]
      | inr under ↦ ap not (ap (λ b. b && nat_le byte 126) under)
    ]

-- the name of a queue has no fault
pub name-faultless : (name : List ℕ) → IsQueueName name → fault_of name ≡ None
name-faultless name is =
    let short : nat_lt 24 (length name) ≡ false = le-ltb 24 (length name) is.most in
    let test : ℕ → Bool = λ byte. not (is_name_byte byte) in
    cond-false (nat_lt 24 (length name)) (Some TooLong) (option_map BadByte (position test name)) short
    ∙ ap (option_map BadByte) (position-nowhere test name 0 (λ k less. name_byte-no_other (get_or name k 0) (is.graphic k 0 less)))

pub name-some : (name : List ℕ) → (name ≡ [] → ⊥) → is_blank name ≡ false
name-some [] some = absurd (some refl)
name-some (byte ∷ bytes) some = refl

-- a text that is not empty and no name has this first fault
pub fault-of : (name : List ℕ) (fault : NameFault) → HasFault name fault → (name ≡ [] → ⊥) → fault_of name ≡ Some fault
fault-of name Empty is some = absurd (some is)
fault-of name TooLong is some =
    cond-true (nat_lt 24 (length name)) (Some TooLong) (option_map BadByte (position (λ byte. not (is_name_byte byte)) name)) (lt-ltb 24 (length name) is)
fault-of name (BadByte place) is some =
    let test : ℕ → Bool = λ byte. not (is_name_byte byte) in
    cond-false (nat_lt 24 (length name)) (Some TooLong) (option_map BadByte (position test name)) (le-ltb 24 (length name) is.0)
    ∙ ap (option_map BadByte) (position-at test name place 0 is.1.within
    (λ k less. name_byte-no_other (get_or name k 0) (is.1.before k less)) (other_byte (get_or name place 0) is.1.other))

-- the first fault of two lists is that of the first, or else that of the second
pub first_fault-append : (first second : List (List ℕ)) → first_fault (first ++ second) ≡ option_or (first_fault first) (first_fault second)
first_fault-append [] second = refl
first_fault-append (name ∷ names) second = ap (option_or (fault_of name)) (first_fault-append names second)
    ∙ grouped (fault_of name) (first_fault names) (first_fault second)
  where
    grouped : (a b c : Option NameFault) → option_or a (option_or b c) ≡ option_or (option_or a b) c
    grouped None b c = refl
    grouped (Some x) b c = refl

pub queue-named : (name queue : List ℕ) → queue ≡ name → IsQueueName name → IsNamed name queue
queue-named name queue same is =
    record {
      same = same;
      some = name-some name (λ none. let bare : length name ≡ 0 = ap length none in omega (arith, is.least));
      faultless = name-faultless name is;
    }

pub ruleset queue_of_name = (queue-named, fault-of)

-- the queues by two lists of names, or the first fault
pub queues-first : (outbound inbound : List (List ℕ)) (fault : NameFault) → first_fault outbound ≡ Some fault → queues_named outbound inbound ≡ Err fault
queues-first outbound inbound fault is =
    ap (λ o. option_map_or Err o (Ok (lists_named outbound inbound))) (first_fault-append outbound inbound ∙ ap (λ o. option_or o (first_fault inbound)) is)

pub queues-second : (outbound inbound : List (List ℕ)) (fault : NameFault) → first_fault outbound ≡ None → first_fault inbound ≡ Some fault
    → queues_named outbound inbound ≡ Err fault
queues-second outbound inbound fault none is =
    ap (λ o. option_map_or Err o (Ok (lists_named outbound inbound)))
    (first_fault-append outbound inbound ∙ ap (λ o. option_or o (first_fault inbound)) none ∙ is)

pub queues-both : (outbound inbound : List (List ℕ)) → first_fault outbound ≡ None → first_fault inbound ≡ None
    → queues_named outbound inbound ≡ Ok (lists_named outbound inbound)
queues-both outbound inbound none too =
    ap (λ o. option_map_or Err o (Ok (lists_named outbound inbound)))
    (first_fault-append outbound inbound ∙ ap (λ o. option_or o (first_fault inbound)) none ∙ too)

pub ruleset queues_of_names = (queues-first, queues-second, queues-both)
