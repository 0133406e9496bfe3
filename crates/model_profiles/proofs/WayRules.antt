-- Ways that were read: two systems that differ, and a message type.
use Rattle.std.specs.List.{list_any}
use Rattle.std.proofs.Common.{◌≡◌, ℕ, suc, ◌≤◌, nat_eq, cond, false, List, [], length, Ok, Err, subst, arith}
use Rattle.std.proofs.lemmas.Bool.Decides.{nat_tests}
use Rattle.std.proofs.lemmas.Option.{slice_get_within}
use Rattle.toml.specs.Data.{Members}
use Rattle.segment_defs.specs.declared.limits.TheConstants.{LONGEST_NAME}
use Rattle.dist_model.specs.declared.limits.TheConstants.{LONGEST_SYSTEM}
use Rattle.dist_model.specs.Triple.{same_triple}
use Rattle.dist_model.specs.Way.{same_way, AreTwoSystems, IsWay, Way}
use Rattle.model_keys.specs.declared.finding.Cause.TheVariants.{Twice, Wrong}
use Rattle.model_keys.specs.Finding.{at}
use Rattle.model_keys.specs.Keys.{reference_at}
use Rattle.model_keys.proofs.KeepsLemmas.{from_bind, reference_at-keeps, untested}
use Rattle.model_profiles.specs.declared.keys.TheConstants.{MESSAGE, RECEIVER, SENDER}
use Rattle.model_profiles.specs.Ways.{new_triple, new_way_at, other_system_at, system_at, way_at}
use Rattle.model_profiles.specs.Says.{SaysSystem, SaysWay}

pub system_at-says : (key : List ℕ) (systems : List (List ℕ)) (table : Members) (system : ℕ) → system_at key systems table ≡ Ok system →
    SaysSystem systems key table system
unfolding system_at
system_at-says key systems table system h =
    let (place, p, e) = from_bind (reference_at LONGEST_SYSTEM key systems table) _ system h in
    let same : suc place ≡ system = cc in
    (place, same, reference_at-keeps LONGEST_SYSTEM key systems table place p)

pub other_system_at-says : (key : List ℕ) (other : ℕ) (systems : List (List ℕ)) (table : Members) (system : ℕ) →
    other_system_at key other systems table ≡ Ok system
    → SaysSystem systems key table system × (other ≡ system → ⊥)
unfolding other_system_at
other_system_at-says key other systems table system h =
    let (found, p, g) = from_bind (system_at key systems table) (λ found. cond (nat_eq other found) (Err (at Wrong key)) (Ok found)) system h in
    let (differs, e) = untested (nat_eq other found) found system (at Wrong key) g in
    (subst (SaysSystem systems key table) e (system_at-says key systems table found p), subst (λ k. other ≡ k → ⊥) e (apart other found differs))
  where
    apart : (a b : ℕ) → nat_eq a b ≡ false → a ≡ b → ⊥
    apart a b differs same = grind (arith, nat_tests)

-- a system that is said is one of the systems
pub SaysSystem-within : (systems : List (List ℕ)) (key : List ℕ) (table : Members) (system : ℕ) → SaysSystem systems key table system →
    (1 ≤ system) × (system ≤ length systems)
SaysSystem-within systems key table system says =
    let (place, counted, (name, text, here)) = says in
    let within = slice_get_within systems place name here in
    (omega (arith, counted), omega (arith, counted, within))

pub two_systems : (systems : List (List ℕ)) (one two : List ℕ) (table : Members) (a b : ℕ) → SaysSystem systems one table a → SaysSystem systems two table b →
    (a ≡ b → ⊥)
    → AreTwoSystems (length systems) a b
two_systems systems one two table a b says others differ =
    let first = SaysSystem-within systems one table a says in
    let second = SaysSystem-within systems two table b others in
    record { sender_from = first.0; sender_to = first.1; receiver_from = second.0; receiver_to = second.1; differ = differ }

-- what is known of a way that was read
pub record IsReadWay (systems messages : List (List ℕ)) (table : Members) (way : Way) : Type 0 where
  pub is : IsWay (length systems) (length messages) way
  pub says : SaysWay systems messages table way

pub way_at-keeps : (systems messages : List (List ℕ)) (table : Members) (way : Way) → way_at systems messages table ≡ Ok way →
    IsReadWay systems messages table way
unfolding way_at
way_at-keeps systems messages table way h =
    let (sender, s, h1) = from_bind (system_at SENDER.now systems table) _ way h in
    let (receiver, r, h2) = from_bind (other_system_at RECEIVER.now sender systems table) _ way h1 in
    let (message, m, h3) = from_bind (reference_at LONGEST_NAME MESSAGE.now messages table) _ way h2 in
    let e : ◌≡◌ {A = Way} (sender, receiver, message) way = cc in
    let from = system_at-says SENDER.now systems table sender s in
    let (to, differ) = other_system_at-says RECEIVER.now sender systems table receiver r in
    let (name, text, here) = reference_at-keeps LONGEST_NAME MESSAGE.now messages table message m in
    subst (IsReadWay systems messages table) e (record {
      is = record {
        ends = two_systems systems SENDER.now RECEIVER.now table sender receiver from to differ;
        message = slice_get_within messages message name
            here;
      };
      says = record { sender = from; receiver = to; message = (name, text, here) };
    })

pub new_triple-keeps : (triples : List (ℕ × ℕ × ℕ)) (triple new : ℕ × ℕ × ℕ) → new_triple triples triple ≡ Ok new →
    (triple ≡ new) × (list_any (same_triple new) triples ≡ false)
unfolding new_triple
new_triple-keeps triples triple new h =
    let (apart, e) = untested (list_any (same_triple triple) triples) triple new (at Twice []) h in
    (e, subst (λ (t : ℕ × ℕ × ℕ). list_any (same_triple t) triples ≡ false) e apart)

pub new_way_at-keeps : (systems messages : List (List ℕ)) (ways : List Way) (table : Members) (way : Way) → new_way_at systems messages ways table ≡ Ok way
    → IsReadWay systems messages table way × (list_any (same_way way) ways ≡ false)
unfolding new_way_at
new_way_at-keeps systems messages ways table way h =
    let (found, f, g) = from_bind (way_at systems messages table) (λ found. new_triple ways found) way h in
    let (e, new) = new_triple-keeps ways found way g in
    (subst (IsReadWay systems messages table) e (way_at-keeps systems messages table found f), new)
