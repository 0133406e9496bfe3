-- What the plain definitions see of the counting body.
use Rattle.std.specs.Prelude.{filter, find, slice_get, slice_set}
use Rattle.std.specs.List.{filter_map, cons_option}
use Rattle.std.specs.Option.{option_map}
use Rattle.std.proofs.Common.{◌≡◌, ◌<◌, ◌+◌, ℕ, zero, suc, Bool, true, false, ◌||◌, eqb, cond, Option, Some, None, List, [], ◌∷◌, length, map, inl, inr, refl}
use Rattle.std.proofs.Common.{sym, ap, subst, ◌∙◌, arith}
use Rattle.std.proofs.lemmas.Bool.{cases_Bool, false_from_ne_true, cond-true, cond-false, eq-eqb}
use Rattle.std.proofs.lemmas.Bool.Decides.{eqb_tells}
use Rattle.std.proofs.lemmas.Option.{same_Some}
use Rattle.ale_base.specs.Tid.{TidOf, is_tid}
use Rattle.unit_core.proofs.TidLemmas.{is_tid-true, is_tid-from, is_tid-same}
use Rattle.plain_queues.specs.declared.queue_key.QueueKey.{QueueKey}
use Rattle.plain_queues.specs.declared.queued_unit.QueuedUnit.{QueuedUnit}
use Rattle.plain_queues.specs.Keys.{is_key, has_key}
use Rattle.plain_queues.specs.Queues.{unit_of, head_of}
use Rattle.plain_queues.specs.Changes.{changed, changed_if}
use Rattle.plain_queues.proofs.OfferedLemmas.{is_key-same, is_key-true}
use Rattle.multi_queue.specs.declared.entry.Entry.{Entry}
use Rattle.multi_queue.specs.declared.entry.Lane.{Lane}
use Rattle.multi_queue.specs.Counted.{has, is_live, is_in}
use Rattle.multi_queue.specs.Seen.{key_at, seen_unit, seen, number_of, name_of, IsPlaced, IsNamed, IsAt, IsNowhere}
use Rattle.ale_base.proofs.ListLemmas.{slice_get-within}

-- ---- keys and numbers of queues

-- queues of one key have one number
pub one_number : (lanes : List Lane) (names : ℕ × List ℕ → Option ℕ) (q r : ℕ) (w v : Lane) → IsNamed lanes names → slice_get lanes q ≡ Some w →
    slice_get lanes r ≡ Some v
    → is_key w.key v.key ≡ true → q ≡ r
one_number lanes names q r w v it at_q at_r same =
    let first = it.named q w at_q in
    let second = it.named r v at_r in
    let key : w.key ≡ v.key = is_key-true w.key v.key same in
    same_Some q r (sym first ∙ ap (λ (k : QueueKey). names (name_of k)) key ∙ second)

same_key : (lanes : List Lane) (names : ℕ × List ℕ → Option ℕ) (q x : ℕ) (w v : Lane) → IsNamed lanes names → slice_get lanes q ≡ Some w →
    slice_get lanes x ≡ Some v
    → is_key v.key w.key ≡ eqb q x
same_key lanes names q x w v it at_q at_x =
    elim (eqb_tells q x) [
      | inl e ↦
          let same : v ≡ w = cc (at_q, at_x, e.1) in
          ap (λ (l : Lane). is_key l.key w.key) same ∙ is_key-same w.key ∙ sym e.0
      | inr e ↦ false_from_ne_true (is_key v.key w.key) (λ k. e.1 (sym (one_number lanes names x q v w it at_x at_q k))) ∙ sym e.0
    ]

-- the key of a queue is among those of some numbers exactly where its number is
pub has-key_at : (lanes : List Lane) (names : ℕ × List ℕ → Option ℕ) (q : ℕ) (w : Lane) (qs : List ℕ) → IsNamed lanes names → slice_get lanes q ≡ Some w
    → ((r : ℕ) → has r qs ≡ true → r < length lanes) → has_key w.key (filter_map (key_at lanes) qs) ≡ has q qs
has-key_at lanes names q w [] it at_q known = refl
has-key_at lanes names q w (x ∷ xs) it at_q known =
    let within : x < length lanes = known x (ap (λ b. b || has x xs) (eq-eqb x x refl)) in
    let here = slice_get-within lanes x within in
    let v : Lane = here.0 in
    let rest = has-key_at lanes names q w xs it at_q (λ r h. known r (ap (λ b. eqb r x || b) h ∙ either (eqb r x))) in
    ap (λ o. has_key w.key (cons_option o (filter_map (key_at lanes) xs))) (ap (option_map (λ (lane : Lane). lane.key)) here.1)
    ∙ ap (λ b. is_key v.key w.key || b) rest
    ∙ ap (λ b. b || has q xs) (same_key lanes names q x w v it at_q here.1)
  where
    either : (b : Bool) → (b || true) ≡ true
    either true = refl
    either false = refl

-- ---- what is found among units as they are seen

pub find-map : {X Y : Type 0} (p : Y → Bool) (f : X → Y) (xs : List X) → find p (map f xs) ≡ option_map f (find (λ x. p (f x)) xs)
find-map p f [] = refl
find-map p f (x ∷ xs) =
    elim (cases_Bool (p (f x))) [
      | inl pass ↦ rw pass refl
      | inr miss ↦ rw miss (find-map p f xs)
    ]

-- the unit of an id, as it is seen
pub unit_of-seen : (tid : TidOf) (units : List Entry) (lanes : List Lane)
    → unit_of tid (seen units lanes) ≡ option_map (seen_unit lanes) (find (λ (u : Entry). is_tid u.tid tid) (filter is_live units))
unit_of-seen tid units lanes = find-map (λ (u : QueuedUnit). is_tid u.tid tid) (seen_unit lanes) (filter is_live units)

find-agree : (p q : Entry → Bool) (units : List Entry) → ((k : ℕ) (u : Entry) → slice_get units k ≡ Some u → p u ≡ q u) →
    find p (filter is_live units) ≡ find q (filter is_live units)
find-agree p q [] agree = refl
find-agree p q (u ∷ us) agree =
    let rest = find-agree p q us (λ k v at_k. agree (suc k) v at_k) in
    elim u.live as (λ b. find p (cond b (u ∷ filter is_live us) (filter is_live us)) ≡ find q (cond b (u ∷ filter is_live us) (filter is_live us))) [
      | true ↦ ap (λ b. cond b (Some u) (find p (filter is_live us))) (agree 0 u refl) ∙ ap (cond (q u) (Some u)) rest
      | false ↦ rest
    ]

-- the head of a queue, as it is seen
pub head_of-seen : (units : List Entry) (lanes : List Lane) (names : ℕ × List ℕ → Option ℕ) (q : ℕ) (w : Lane) → IsNamed lanes names →
    slice_get lanes q ≡ Some w
    → ((k : ℕ) (u : Entry) (r : ℕ) → slice_get units k ≡ Some u → has r u.queues ≡ true → r < length lanes)
    → head_of w.key (seen units lanes) ≡ option_map (seen_unit lanes) (find (is_in q) (filter is_live units))
head_of-seen units lanes names q w it at_q known =
    find-map (λ (u : QueuedUnit). has_key w.key u.keys) (seen_unit lanes) (filter is_live units)
    ∙ ap (option_map (seen_unit lanes)) (find-agree (λ (u : Entry). has_key w.key (filter_map (key_at lanes) u.queues)) (is_in q) units
    (λ k u at_k. has-key_at lanes names q w u.queues it at_q (λ r h. known k u r at_k h)))

-- ---- a unit by its id

-- the live units of an id are all at one place
pub record Alone (tid : TidOf) (n : ℕ) (units : List Entry) (place : Option ℕ) : Type 0 where
  pub alone : (p : ℕ) (u : Entry) → slice_get units p ≡ Some u → u.live ≡ true → is_tid u.tid tid ≡ true → place ≡ Some (n + p)

pub alone-later : (tid : TidOf) (n : ℕ) (u : Entry) (us : List Entry) (place : Option ℕ) → Alone tid n (u ∷ us) place → Alone tid (n + 1) us place
alone-later tid n u us place it = record {
  alone = λ p v got live same.
      let e : n + suc p ≡ n + 1 + p = omega arith in it.alone (suc p) v got live same ∙ ap (λ i. Some i) e;
}

found-at : (tid : TidOf) (n : ℕ) (units : List Entry) (place : Option ℕ) (p : ℕ) (u : Entry) → Alone tid n units place → slice_get units p ≡ Some u →
    u.live ≡ true
    → is_tid u.tid tid ≡ true → find (λ (v : Entry). is_tid v.tid tid) (filter is_live units) ≡ Some u
found-at tid n [] place p u it got live its = cc
found-at tid n (v ∷ us) place zero u it got live its =
    let e : v ≡ u = cc in
    rw e (subst (λ b. find (λ (w : Entry). is_tid w.tid tid) (cond b (u ∷ filter is_live us) (filter is_live us)) ≡ Some u) (sym live)
    (cond-true (is_tid u.tid tid) (Some u) (find (λ (w : Entry). is_tid w.tid tid) (filter is_live us)) its))
found-at tid n (v ∷ us) place (suc p) u it got live its =
    let rest = found-at tid (n + 1) us place p u (alone-later tid n v us place it) got live its in
    elim v.live as (λ b. v.live ≡ b → find (λ (w : Entry). is_tid w.tid tid) (cond b (v ∷ filter is_live us) (filter is_live us)) ≡ Some u) [
      | true ↦ λ e. elim (cases_Bool (is_tid v.tid tid)) [
        | inl s ↦ absurd (let a = it.alone 0 v refl e s in let b = it.alone (suc p) u got live its in let c : n + 0 ≡ n + suc p = cc in omega arith)
        | inr s ↦ cond-false (is_tid v.tid tid) (Some v) (find (λ (w : Entry). is_tid w.tid tid) (filter is_live us)) s ∙ rest
      ]
      | false ↦ λ e. rest
    ] refl

found-nowhere : (tid : TidOf) (units : List Entry) → ((p : ℕ) (u : Entry) → slice_get units p ≡ Some u → u.live ≡ true → is_tid u.tid tid ≡ true → ⊥)
    → find (λ (v : Entry). is_tid v.tid tid) (filter is_live units) ≡ None
found-nowhere tid [] nowhere = refl
found-nowhere tid (v ∷ us) nowhere =
    let rest = found-nowhere tid us (λ p u got. nowhere (suc p) u got) in
    elim v.live as (λ b. v.live ≡ b → find (λ (w : Entry). is_tid w.tid tid) (cond b (v ∷ filter is_live us) (filter is_live us)) ≡ None) [
      | true ↦ λ e. elim (cases_Bool (is_tid v.tid tid)) [
        | inl s ↦ absurd (nowhere 0 v refl e s)
        | inr s ↦ cond-false (is_tid v.tid tid) (Some v) (find (λ (w : Entry). is_tid w.tid tid) (filter is_live us)) s ∙ rest
      ]
      | false ↦ λ e. rest
    ] refl

number-same : (a b : TidOf) → is_tid a b ≡ true → number_of a ≡ number_of b
number-same a b same = ap number_of (is_tid-true a b same)

-- the table tells at which place they are
pub alone-at : (tid : TidOf) (units : List Entry) (places : ℕ × ℕ → Option ℕ) → IsPlaced units places → Alone tid 0 units (places (number_of tid))
alone-at tid units places it = record {
  alone = λ q v at_q alive of_tid.
      let z : 0 + q ≡ q = omega arith in
      ap places (sym (number-same v.tid tid of_tid)) ∙ it.placed q v at_q alive ∙ ap (λ i. Some i) (sym z);
}

-- a live unit that the table names is the unit of its id
pub unit_of-here : (tid : TidOf) (units : List Entry) (lanes : List Lane) (places : ℕ × ℕ → Option ℕ) (p : ℕ) (u : Entry) → IsPlaced units places
    → places (number_of tid) ≡ Some p → slice_get units p ≡ Some u → u.live ≡ true → unit_of tid (seen units lanes) ≡ Some (seen_unit lanes u)
unit_of-here tid units lanes places p u it names got live =
    let there = it.there (number_of tid) p names in
    let same : there.0 ≡ u = cc (there.1, got) in
    let number : number_of u.tid ≡ number_of tid = subst (λ (v : Entry). number_of v.tid ≡ number_of tid) same there.2 in
    let its : is_tid u.tid tid ≡ true = is_tid-from u.tid tid (λ i. record { system = (number i).0; unit = (number i).1 }) in
    unit_of-seen tid units lanes ∙ ap (option_map (seen_unit lanes))
    (found-at tid 0 units (places (number_of tid)) p u (alone-at tid units places it) got live its)

-- where the table names a unit that is not live, or none, there is no unit of the id
pub unit_of-gone : (tid : TidOf) (units : List Entry) (lanes : List Lane) (places : ℕ × ℕ → Option ℕ) → IsPlaced units places
    → ((p : ℕ) (u : Entry) → places (number_of tid) ≡ Some p → slice_get units p ≡ Some u → u.live ≡ true → ⊥) → unit_of tid (seen units lanes) ≡ None
unit_of-gone tid units lanes places it gone =
    unit_of-seen tid units lanes ∙ ap (option_map (seen_unit lanes)) (found-nowhere tid units (λ q v at_q alive of_tid.
    gone q v (ap places (sym (number-same v.tid tid of_tid)) ∙ it.placed q v at_q alive) at_q alive))

-- ---- the claim or the mark of a unit is written

-- all but claim and mark is as before
pub record IsFlag (u v : Entry) : Type 0 where
  pub tid : v.tid ≡ u.tid
  pub queues : v.queues ≡ u.queues
  pub live : v.live ≡ u.live

-- no live unit of these has the id, so none changes
seen-unchanged : (change : QueuedUnit → QueuedUnit) (tid : TidOf) (lanes : List Lane) (units : List Entry)
    → ((p : ℕ) (u : Entry) → slice_get units p ≡ Some u → u.live ≡ true → is_tid u.tid tid ≡ true → ⊥)
    → map (changed_if change tid) (map (seen_unit lanes) (filter is_live units)) ≡ map (seen_unit lanes) (filter is_live units)
seen-unchanged change tid lanes [] nowhere = refl
seen-unchanged change tid lanes (v ∷ us) nowhere =
    let rest = seen-unchanged change tid lanes us (λ p u got. nowhere (suc p) u got) in
    elim v.live as (λ b. v.live ≡ b → map (changed_if change tid) (map (seen_unit lanes) (cond b (v ∷ filter is_live us) (filter is_live us)))
    ≡ map (seen_unit lanes) (cond b (v ∷ filter is_live us) (filter is_live us))) [
      | true ↦ λ e. elim (cases_Bool (is_tid v.tid tid)) [
        | inl its ↦ absurd (nowhere 0 v refl e its)
        | inr other ↦ ap (λ first. first ∷ map (changed_if change tid) (map (seen_unit lanes) (filter is_live us)))
            (cond-false (is_tid v.tid tid) (change (seen_unit lanes v)) (seen_unit lanes v) other)
            ∙ ap (λ l. seen_unit lanes v ∷ l) rest
      ]
      | false ↦ λ e. rest
    ] refl

-- the live unit at a place is changed, and so is the one of its id as it is seen
seen-set : (change : QueuedUnit → QueuedUnit) (lanes : List Lane) (n : ℕ) (units : List Entry) (p : ℕ) (u v : Entry) (place : Option ℕ) →
    Alone u.tid n units place
    → slice_get units p ≡ Some u → u.live ≡ true → IsFlag u v → seen_unit lanes v ≡ change (seen_unit lanes u)
    → map (seen_unit lanes) (filter is_live (slice_set units p v)) ≡ map (changed_if change u.tid) (map (seen_unit lanes) (filter is_live units))
seen-set change lanes n [] p u v place it got live flag is = cc
seen-set change lanes n (w ∷ us) zero u v place it got live flag is =
    let e : w ≡ u = cc in
    let alive : v.live ≡ true = flag.live ∙ live in
    let others = seen-unchanged change u.tid lanes us (λ q x g l s.
    let a = it.alone 0 w refl (ap (λ (y : Entry). y.live) e ∙ live) (ap (λ (y : Entry). is_tid y.tid u.tid) e ∙ is_tid-same u.tid) in
    let b = it.alone (suc q) x g l s in
    let c : n + 0 ≡ n + suc q = cc in omega arith) in
    ap (λ b. map (seen_unit lanes) (cond b (v ∷ filter is_live us) (filter is_live us))) alive
    ∙ ap (λ first. first ∷ map (seen_unit lanes) (filter is_live us))
    (is ∙ sym (cond-true (is_tid u.tid u.tid) (change (seen_unit lanes u)) (seen_unit lanes u) (is_tid-same u.tid)))
    ∙ ap (λ l. changed_if change u.tid (seen_unit lanes u) ∷ l) (sym others)
    ∙ sym (ap (λ b. map (changed_if change u.tid) (map (seen_unit lanes) (cond b (u ∷ filter is_live us) (filter is_live us)))) live)
    ∙ ap (λ (y : Entry). map (changed_if change u.tid) (map (seen_unit lanes) (filter is_live (y ∷ us)))) (sym e)
seen-set change lanes n (w ∷ us) (suc p) u v place it got live flag is =
    let rest = seen-set change lanes (n + 1) us p u v place (alone-later u.tid n w us place it) got live flag is in
    elim w.live as (λ b. w.live ≡ b → map (seen_unit lanes) (cond b (w ∷ filter is_live (slice_set us p v)) (filter is_live (slice_set us p v)))
    ≡ map (changed_if change u.tid) (map (seen_unit lanes) (cond b (w ∷ filter is_live us) (filter is_live us)))) [
      | true ↦ λ e. elim (cases_Bool (is_tid w.tid u.tid)) [
        | inl its ↦ absurd (let a = it.alone 0 w refl e its in let b = it.alone (suc p) u got live (is_tid-same u.tid) in let c : n + 0
            ≡ n + suc p = cc in omega arith)
        | inr other ↦ ap (λ l. seen_unit lanes w ∷ l) rest
            ∙ ap (λ first. first ∷ map (changed_if change u.tid) (map (seen_unit lanes) (filter is_live us)))
            (sym (cond-false (is_tid w.tid u.tid) (change (seen_unit lanes w)) (seen_unit lanes w) other))
      ]
      | false ↦ λ e. rest
    ] refl

-- what is seen after the claim or the mark of a live unit was written
pub seen-flag : (change : QueuedUnit → QueuedUnit) (units : List Entry) (lanes : List Lane) (places : ℕ × ℕ → Option ℕ) (p : ℕ) (u v : Entry) →
    IsPlaced units places
    → slice_get units p ≡ Some u → u.live ≡ true → IsFlag u v → seen_unit lanes v ≡ change (seen_unit lanes u)
    → seen (slice_set units p v) lanes ≡ changed change u.tid (seen units lanes)
seen-flag change units lanes places p u v it got live flag is =
    ap (λ (us : List QueuedUnit). record (seen units lanes) { units = us })
    (seen-set change lanes 0 units p u v (places (number_of u.tid)) (alone-at u.tid units places it) got live flag is)

-- where no live unit has the id, a change of it changes nothing
pub seen-nowhere : (change : QueuedUnit → QueuedUnit) (tid : TidOf) (units : List Entry) (lanes : List Lane) (places : ℕ × ℕ → Option ℕ) → IsPlaced units places
    → IsNowhere tid units places → changed change tid (seen units lanes) ≡ seen units lanes
seen-nowhere change tid units lanes places it gone =
    ap (λ (us : List QueuedUnit). record (seen units lanes) { units = us }) (seen-unchanged change tid lanes units (λ q v at_q alive of_tid.
    gone.nowhere q v (ap places (sym (number-same v.tid tid of_tid)) ∙ it.placed q v at_q alive) at_q alive))

-- the unit that is at the place of an id has this id
pub tid-at : (tid : TidOf) (units : List Entry) (places : ℕ × ℕ → Option ℕ) (p : ℕ) → IsPlaced units places → (at : IsAt tid units places p) → at.unit.tid ≡ tid
tid-at tid units places p it at =
    let there = it.there (number_of tid) p at.names in
    let same : there.0 ≡ at.unit = cc (there.1, at.stands) in
    let number : number_of at.unit.tid ≡ number_of tid = subst (λ (v : Entry). number_of v.tid ≡ number_of tid) same there.2 in
    λ i. record { system = (number i).0; unit = (number i).1 }
