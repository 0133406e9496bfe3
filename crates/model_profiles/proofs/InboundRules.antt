-- Profiles of what is received that were read keep their rules, and are what their text says.
use Rattle.std.specs.Prelude.{slice_get, Contains, MatchOption}
use Rattle.std.specs.List.{AllByRecursion, IsDistinct, list_any}
use Rattle.std.specs.Option.{option_map_or}
use Rattle.std.proofs.Common.{◌≡◌, ℕ, ◌&&◌, ◌||◌, nat_eq, Bool, true, false, List, [], ◌∷◌, length, map, position, Option, Some, None, Ok, refl, sym, ap, subst}
use Rattle.std.proofs.Common.{◌∙◌, inl, inr, arith}
use Rattle.std.specs.Cmp.Lexicographic.{bytes_decides}
use Rattle.std.proofs.lemmas.Bool.{and_parts, cases_Bool, false≢true}
use Rattle.std.proofs.lemmas.Bool.Decides.{nat_tests}
use Rattle.std.proofs.lemmas.List.{length-map}
use Rattle.toml.specs.Data.{Data, no_items, Members, get_member, as_str}
use Rattle.ale_base.specs.Text.{is_text}
use Rattle.ale_base.proofs.ListLemmas.{Contains-at}
use Rattle.ale_base.proofs.SnocLemmas.{AllByRecursion-snoc}
use Rattle.dist_model.specs.Triple.{same_triple}
use Rattle.dist_model.proofs.DistinctLemmas.{IsDistinct-push}
use Rattle.segment_defs.specs.declared.limits.TheConstants.{LONGEST_NAME}
use Rattle.segment_defs.proofs.NameLemmas.{position-name}
use Rattle.dist_model.specs.declared.inbound.Inbound.{Inbound}
use Rattle.dist_model.specs.declared.inbound.InboundMode.{InboundMode}
use Rattle.dist_model.specs.declared.inbound.InboundMode.TheVariants.{Background, Immediate}
use Rattle.dist_model.specs.declared.limits.TheConstants.{MOST_INBOUND}
use Rattle.dist_model.specs.declared.system.System.{System}
use Rattle.dist_model.specs.Inbound.{same_inbound, AreInbound, IsInbound}
use Rattle.dist_model.specs.Index.{inbound_triple, name_place}
use Rattle.dist_model.specs.Model.{system_names}
use Rattle.model_keys.specs.declared.finding.Cause.TheVariants.{Unknown, Wrong}
use Rattle.model_keys.specs.Finding.{required}
use Rattle.model_keys.specs.Each.{each}
use Rattle.model_keys.specs.Keys.{entry_of, list_of, list_or_none_at, name_at, or_else}
use Rattle.model_keys.specs.Says.{HasText, SaysListOrNone}
use Rattle.model_keys.proofs.KeepsLemmas.{each-invariant, each-length, from_bind, list_or_none_at-keeps, name_at-keeps, required-ok}
use Rattle.model_keys.proofs.SaysLemmas.{all-says, entry_of-table, list_or_none-says}
use Rattle.model_profiles.specs.declared.keys.TheConstants.{BACKGROUND, IMMEDIATE, INBOUND, INBOUND_KEYS, MESSAGE, MODE, RECEIVER, SENDER}
use Rattle.model_profiles.specs.Inbound.{inbound_at, inbound_triples, inbound_of, mode_at, mode_in, mode_of, named_at, new_ends_at}
use Rattle.model_profiles.specs.Says.{mode_word, SaysInbound, SaysSystem}
use Rattle.model_profiles.specs.Ways.{new_triple, other_system_at, system_at}
use Rattle.model_profiles.proofs.WayRules.{new_triple-keeps, other_system_at-says, system_at-says, two_systems}

-- two profiles that are of the same receiver, sender and name
same_inbound-parts : (p q : Inbound) → same_inbound p q ≡ true → (p.receiver ≡ q.receiver) × (p.sender ≡ q.sender) × (p.message ≡ q.message)
same_inbound-parts p q is =
    let first = and_parts (nat_eq p.receiver q.receiver) (nat_eq p.sender q.sender && is_text p.message q.message) is in
    let second = and_parts (nat_eq p.sender q.sender) (is_text p.message q.message) first.1 in
    (same p.receiver q.receiver first.0, same p.sender q.sender second.0, (bytes_decides p.message q.message).0 second.1)
  where
    same : (a b : ℕ) → nat_eq a b ≡ true → a ≡ b
    same a b is = grind (arith, nat_tests)

same_number : (a b : ℕ) → a ≡ b → nat_eq a b ≡ true
same_number a b is = grind (arith, nat_tests)

parts-same_inbound : (p q : Inbound) → p.receiver ≡ q.receiver → p.sender ≡ q.sender → p.message ≡ q.message → same_inbound p q ≡ true
parts-same_inbound p q a b c = rw (same_number p.receiver q.receiver a, same_number p.sender q.sender b) ((bytes_decides p.message q.message).1 c)

same_inbound-symmetric : (p q : Inbound) → same_inbound p q ≡ false → same_inbound q p ≡ false
same_inbound-symmetric p q differs = elim (cases_Bool (same_inbound q p)) [
  | inl same ↦ let (a, b, c) = same_inbound-parts q p same in absurd (false≢true (sym differs ∙ parts-same_inbound p q (sym a) (sym b) (sym c)))
  | inr other ↦ other
]

-- profiles that are told apart differ
told_apart : (names : List (List ℕ)) (p q : Inbound) → same_triple (inbound_triple names p) (inbound_triple names q) ≡ false → same_inbound p q ≡ false
told_apart names p q differs = elim (cases_Bool (same_inbound p q)) [
  | inl same ↦
      let (a, b, c) = same_inbound-parts p q same in
      let keys : same_triple (inbound_triple names p) (inbound_triple names q) ≡ true =
      rw (same_number p.receiver q.receiver a, same_number p.sender q.sender b)
      (same_number (name_place names p.message) (name_place names q.message) (ap (name_place names) c)) in
      absurd (false≢true (sym differs ∙ keys))
  | inr other ↦ other
]

all_apart : (names : List (List ℕ)) (p : Inbound) (qs : List Inbound) → list_any (same_triple (inbound_triple names p)) (inbound_triples names qs) ≡ false →
    list_any (same_inbound p) qs ≡ false
all_apart names p [] none = refl
all_apart names p (q ∷ qs) none =
    let parts = or_false (same_triple (inbound_triple names p) (inbound_triple names q))
    (list_any (same_triple (inbound_triple names p)) (inbound_triples names qs)) none in
    rw (told_apart names p q parts.0) (all_apart names p qs parts.1)
  where
    or_false : (a b : Bool) → (a || b) ≡ false → (a ≡ false) × (b ≡ false)
    or_false false b none = (refl, none)
    or_false true b none = absurd (false≢true (sym none))

-- a name that was read, and its place
named_at-keeps : (names : List (List ℕ)) (table : Members) (named : List ℕ × ℕ) → named_at names table ≡ Ok named
    → HasText MESSAGE.now table named.0 × (slice_get names named.1 ≡ Some named.0) × (named.1 ≡ name_place names named.0)
unfolding named_at
named_at-keeps names table named h =
    let (name, n, h1) = from_bind (name_at LONGEST_NAME MESSAGE.now table) _ named h in
    let (place, p, h2) = from_bind (required Unknown MESSAGE.now (position (is_text name) names)) _ named h1 in
    let e : ◌≡◌ {A = List ℕ × ℕ} (name, place) named = cc in
    let found = required-ok Unknown MESSAGE.now (position (is_text name) names) place p in
    subst (λ (m : List ℕ × ℕ). HasText MESSAGE.now table m.0 × (slice_get names m.1 ≡ Some m.0) × (m.1 ≡ name_place names m.0)) e (
      (name_at-keeps LONGEST_NAME MESSAGE.now table name n).0,
      position-name name names place found,
      sym (ap (λ (o : Option ℕ). option_map_or (λ (k : ℕ). k) o 0) found),
    )

-- receiver, sender and name that were read
record AreEnds (systems names : List (List ℕ)) (others : List (ℕ × ℕ × ℕ)) (table : Members) (ends : ℕ × ℕ × List ℕ) : Type 0 where
  receiver : SaysSystem systems RECEIVER.now table ends.0
  sender : SaysSystem systems SENDER.now table ends.1
  differ : ends.0 ≡ ends.1 → ⊥
  text : HasText MESSAGE.now table ends.2
  among : Contains names ends.2
  new : list_any (same_triple (ends.0, ends.1, name_place names ends.2)) others ≡ false

new_ends_at-keeps : (systems names : List (List ℕ)) (others : List (ℕ × ℕ × ℕ)) (table : Members) (ends : ℕ × ℕ × List ℕ) →
    new_ends_at systems names others table ≡ Ok ends
    → AreEnds systems names others table ends
unfolding new_ends_at
new_ends_at-keeps systems names others table ends h =
    let (receiver, r, h1) = from_bind (system_at RECEIVER.now systems table) _ ends h in
    let (sender, s, h2) = from_bind (other_system_at SENDER.now receiver systems table) _ ends h1 in
    let (named, n, h3) = from_bind (named_at names table) _ ends h2 in
    let (triple, t, h4) = from_bind (new_triple others (receiver, sender, named.1)) _ ends h3 in
    let e : ◌≡◌ {A = ℕ × ℕ × List ℕ} (receiver, sender, named.0) ends = cc in
    let (says, differ) = other_system_at-says SENDER.now receiver systems table sender s in
    let (text, here, place) = named_at-keeps names table named n in
    let (same, new) = new_triple-keeps others (receiver, sender, named.1) triple t in
    subst (AreEnds systems names others table) e (record {
      receiver = system_at-says RECEIVER.now systems table receiver r;
      sender = says;
      differ = differ;
      text = text;
      among = Contains-at names named.1 named.0 here;
      new = subst (λ (k : ℕ). list_any (same_triple (receiver, sender, k)) others ≡ false) place
          (subst (λ (t : ℕ × ℕ × ℕ). list_any (same_triple t) others ≡ false) (sym same) new);
    })

-- a mode is that of its word
mode_in-word : (text : List ℕ) (mode : InboundMode) → mode_in text ≡ Some mode → text ≡ mode_word mode
mode_in-word text mode h = elim (cases_Bool (is_text text IMMEDIATE.now)) [
  | inl is ↦ let first : mode_in text ≡ Some Immediate = rw is refl in let e : Immediate ≡ mode = cc in subst (λ m. text ≡ mode_word m) e
      ((bytes_decides text IMMEDIATE.now).0 is)
  | inr not_it ↦ elim (cases_Bool (is_text text BACKGROUND.now)) [
    | inl is ↦ let second : mode_in text ≡ Some Background = rw (not_it, is) refl in let e : Background ≡ mode = cc in subst (λ m. text ≡ mode_word m) e
        ((bytes_decides text BACKGROUND.now).0 is)
    | inr other ↦ let none : mode_in text ≡ None = rw (not_it, other) refl in absurd (cc)
  ]
]

mode_found-says : (found : Option Data) (mode : InboundMode) → or_else Immediate mode_of found ≡ Ok mode →
    MatchOption found (mode ≡ Immediate) (λ d. as_str d ≡ Some (mode_word mode))
unfolding mode_of
mode_found-says None mode h = cc
mode_found-says (Some d) mode h =
    let (text, t, g) = from_bind (required Wrong MODE.now (as_str d)) (λ text. required Wrong MODE.now (mode_in text)) mode h in
    required-ok Wrong MODE.now (as_str d) text t ∙ ap Some (mode_in-word text mode (required-ok Wrong MODE.now (mode_in text) mode g))

-- one more profile
record IsNextInbound (systems names : List (List ℕ)) (before : List Inbound) (others : List (ℕ × ℕ × ℕ)) (d : Data) (profile : Inbound) : Type 0 where
  is : IsInbound (length systems) names profile
  new : list_any (same_triple (inbound_triple names profile)) others ≡ false
  says : SaysInbound systems before d profile

inbound_of-keeps : (systems names : List (List ℕ)) (before : List Inbound) (others : List (ℕ × ℕ × ℕ)) (d : Data) (profile : Inbound) →
    inbound_of systems names others d ≡ Ok profile
    → IsNextInbound systems names before others d profile
unfolding inbound_of mode_at
inbound_of-keeps systems names before others d profile h =
    let (table, t, h1) = from_bind (entry_of (map (λ key. key.now) INBOUND_KEYS) d) _ profile h in
    let (ends, n, h2) = from_bind (new_ends_at systems names others table) _ profile h1 in
    let (mode, m, h3) = from_bind (or_else Immediate mode_of (get_member MODE.now table)) _ profile h2 in
    let e : ◌≡◌ {A = Inbound} (record { receiver = ends.0; sender = ends.1; message = ends.2; mode = mode }) profile = cc in
    let are = new_ends_at-keeps systems names others table ends n in
    subst (IsNextInbound systems names before others d) e (record {
      is = record {
        ends = two_systems systems SENDER.now RECEIVER.now table ends.1 ends.0 are.sender are.receiver
            (λ same. are.differ (sym same));
        named = are.among;
      };
      new = are.new;
      says = record {
        table = table;
        is = entry_of-table (map (λ key. key.now) INBOUND_KEYS) d table t;
        receiver = are.receiver;
        sender = are.sender;
        message = are.text;
        mode = mode_found-says (get_member MODE.now table) mode m;
      };
    })

module _ (systems names : List (List ℕ)) where
  -- what the profiles so far are
  abbrev AreSoFar : List Inbound → Type 0
  AreSoFar profiles = AllByRecursion (IsInbound (length systems) names) profiles × IsDistinct same_inbound profiles

  inbound_at-kept : (table : Members) (profiles : List Inbound) → inbound_at systems names table ≡ Ok profiles →
      AreInbound (length systems) names profiles × SaysListOrNone (SaysInbound systems) INBOUND.now table profiles
  unfolding inbound_at list_or_none_at IsDistinct
  inbound_at-kept table profiles h =
      let read = λ (done : List Inbound) (d : Data). inbound_of systems names (inbound_triples names done) d in
      let (ds, l, g) = from_bind (or_else no_items (list_of MOST_INBOUND INBOUND.now) (get_member INBOUND.now table))
      (λ ds. each INBOUND.now read 0 [] ds) profiles h in
      let long = each-length INBOUND.now read 0 [] ds profiles g in
      let most = list_or_none_at-keeps MOST_INBOUND INBOUND.now table ds l in
      let kept = each-invariant INBOUND.now read AreSoFar
      (λ done d profile so_far is. let next = inbound_of-keeps systems names done (inbound_triples names done) d profile is in (
        AllByRecursion-snoc (IsInbound (length systems) names) done profile so_far.0 next.is,
        IsDistinct-push same_inbound same_inbound-symmetric done profile so_far.1 (all_apart names profile done next.new),
      ))
      0 [] ds profiles (tt, tt) g in (
        record { few = omega (arith, long, most); each = kept.0; apart = kept.1 },
        (
          ds,
          list_or_none-says MOST_INBOUND INBOUND.now (get_member INBOUND.now table) ds l,
          all-says INBOUND.now read (SaysInbound systems)
              (λ done d profile is. (inbound_of-keeps systems names done (inbound_triples names done) d profile is).says) ds profiles g,
        ),
      )

-- profiles that were read keep their rules
pub inbound_at-keeps : (systems : List System) (names : List (List ℕ)) (table : Members) (profiles : List Inbound) →
    inbound_at (system_names systems) names table ≡ Ok profiles → AreInbound (length systems) names profiles
inbound_at-keeps systems names table profiles h =
    subst (λ n. AreInbound n names profiles) (length-map systems (λ (s : System). s.name)) (inbound_at-kept (system_names systems) names table profiles h).0

-- and are what the text says
pub inbound_at-says : (systems names : List (List ℕ)) (table : Members) (profiles : List Inbound) → inbound_at systems names table ≡ Ok profiles →
    SaysListOrNone (SaysInbound systems) INBOUND.now table profiles
inbound_at-says systems names table profiles h = (inbound_at-kept systems names table profiles h).1
