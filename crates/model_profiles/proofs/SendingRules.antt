-- How documents are collected, by which release and reduction they are sent, and to which target: what was read keeps its
-- rules, and is what its text says.
use Rattle.std.specs.Prelude.{◌⊎◌, slice_get, IsTrue, MatchOption}
use Rattle.std.specs.Option.{ForSome, option_map_or}
use Rattle.std.proofs.Common.{◌≡◌, ℕ, pos, zero, suc, ◌-◌, ◌<◌, ◌≤◌, nat_eq, nat_lt, cond, Bool, true, false, List, [], ◌∷◌, ◌++◌, length, position, Option}
use Rattle.std.proofs.Common.{Some, None, Ok, Err, refl, sym, ap, subst, ◌∙◌, inl, inr, arith}
use Rattle.std.proofs.lemmas.Bool.{cases_Bool}
use Rattle.std.proofs.lemmas.Bool.Decides.{nat_tests}
use Rattle.std.proofs.lemmas.List.{length-map}
use Rattle.std.proofs.lemmas.Option.{slice_get_within}
use Rattle.toml.specs.Data.{Data, Members, get_member, as_str, as_integer}
use Rattle.ale_base.specs.Text.{is_text}
use Rattle.segment_defs.specs.declared.limits.TheConstants.{LONGEST_NAME}
use Rattle.segment_defs.specs.Name.{is_name_within, IsName}
use Rattle.segment_defs.proofs.NameLemmas.{IsName_decided, position-name}
use Rattle.dist_model.specs.declared.limits.TheConstants.{LONGEST_PORT, LONGEST_RELEASE, MOST_PACKET}
use Rattle.dist_model.specs.declared.message.Message.{Message}
use Rattle.dist_model.specs.declared.message.Reduced.{Reduced}
use Rattle.dist_model.specs.Message.{message_names, reduced_names}
use Rattle.dist_model.specs.Outbound.{IsReductionOf}
use Rattle.model_keys.specs.declared.finding.Cause.TheVariants.{Unknown, Wrong}
use Rattle.model_keys.specs.Finding.{at, required}
use Rattle.model_keys.specs.Keys.{name_of, number_of, or_else}
use Rattle.model_keys.specs.Says.{IsPlaceNamed}
use Rattle.model_keys.proofs.KeepsLemmas.{from_bind, name_of-keeps, number_of-keeps, required-ok, tested, untested}
use Rattle.model_keys.proofs.SaysLemmas.{and_then-found}
use Rattle.model_profiles.specs.declared.keys.TheConstants.{FUNCTION, OUTMOD, PACKET, PORT, REDUCED, RELEASE, STANDARD_FUNCTION}
use Rattle.model_profiles.specs.Outbound.{function_at, is_reduction, outmod_at, outmod_of, packet_at, packet_of, port_at, reduced_at, reduced_named, reduced_of}
use Rattle.model_profiles.specs.Outbound.{reduced_place, release_at, release_of, sending_at, target_at}
use Rattle.model_profiles.specs.Says.{SaysReduced}

-- 2 or 4
outmod_found-keeps : (found : Option Data) (outmod : ℕ) → or_else 2 outmod_of found ≡ Ok outmod
    → ((outmod ≡ 2) ⊎ (outmod ≡ 4)) × MatchOption found (outmod ≡ 2) (λ d. as_integer d ≡ Some (pos outmod))
unfolding outmod_of
outmod_found-keeps None outmod h = let e : 2 ≡ outmod = cc in (inl (sym e), sym e)
outmod_found-keeps (Some d) outmod h =
    let (number, n, g) = from_bind (number_of 2 4 OUTMOD.now d) (λ number. cond (nat_eq number 3) (Err (at Wrong OUTMOD.now)) (Ok number)) outmod h in
    let (other, e) = untested (nat_eq number 3) number outmod (at Wrong OUTMOD.now) g in
    let (is, low, high) = number_of-keeps 2 4 OUTMOD.now d number n in
    (subst (λ k. (k ≡ 2) ⊎ (k ≡ 4)) e (one_of number low high other), is ∙ ap (λ k. Some (pos k)) e)
  where
    one_of : (k : ℕ) → 2 ≤ k → k ≤ 4 → nat_eq k 3 ≡ false → (k ≡ 2) ⊎ (k ≡ 4)
    one_of k low high other = elim (cases_Bool (nat_eq k 2)) [
      | inl two ↦ inl (grind (arith, nat_tests, two))
      | inr more ↦ inr (grind (arith, nat_tests, more, other, low, high))
    ]

packet_found-keeps : (outmod : ℕ) (found : Option Data) (packet : ℕ) → or_else 1 (packet_of outmod) found ≡ Ok packet
    → (1 ≤ packet) × (packet ≤ MOST_PACKET) × (outmod ≡ 2 → packet ≡ 1) × MatchOption found (packet ≡ 1) (λ d. as_integer d ≡ Some (pos packet))
unfolding packet_of
packet_found-keeps outmod None packet h = let e : 1 ≡ packet = cc in (omega (arith, e), omega (arith, e), λ two. sym e, sym e)
packet_found-keeps outmod (Some d) packet h =
    let (number, n, g) = from_bind (number_of 1 MOST_PACKET PACKET.now d) (λ number. cond (nat_eq outmod 4) (Ok number) (Err (at Wrong PACKET.now))) packet h in
    let (four, e) = tested (nat_eq outmod 4) number packet (at Wrong PACKET.now) g in
    let (is, low, high) = number_of-keeps 1 MOST_PACKET PACKET.now d number n in (
      subst (λ k. 1 ≤ k) e low,
      subst (λ k. k ≤ MOST_PACKET) e high,
      λ two. absurd (not_both outmod four two),
      is ∙ ap (λ k. Some (pos k)) e,
    )
  where
    not_both : (k : ℕ) → nat_eq k 4 ≡ true → k ≡ 2 → ⊥
    not_both k four two = grind (arith, nat_tests)

release_found-keeps : (releases : List (List ℕ)) (found : Option Data) (release : ℕ) → 1 ≤ length releases →
    or_else (length releases - 1) (release_of releases) found ≡ Ok release
    → (release < length releases) × MatchOption found (release ≡ length releases - 1) (λ d. IsPlaceNamed releases d release)
unfolding release_of
release_found-keeps releases None release some h = let e : length releases - 1 ≡ release = cc in (omega (arith, e, some), sym e)
release_found-keeps releases (Some d) release some h =
    let (name, n, g) = from_bind (name_of LONGEST_RELEASE RELEASE.now d) (λ name. required Unknown RELEASE.now (position (is_text name) releases)) release h in
    let here = position-name name releases release (required-ok Unknown RELEASE.now (position (is_text name) releases) release g) in
    (slice_get_within releases release name here, (name, (name_of-keeps LONGEST_RELEASE RELEASE.now d name n).0, here))

-- what stands behind a list
get_behind : {A : Type 0} (xs ys : List A) (place : ℕ) (y : A) → length xs ≤ place → slice_get (xs ++ ys) place ≡ Some y →
    slice_get ys (place - length xs) ≡ Some y
get_behind [] ys place y past here = subst (λ k. slice_get ys k ≡ Some y) (sym e) here
  where
    e : place - 0 ≡ place
    e = omega arith
get_behind (x ∷ xs) ys zero y past here = absurd (omega (arith, past))
get_behind (x ∷ xs) ys (suc place) y past here =
    let e : suc place - suc (length xs) ≡ place - length xs = omega arith in
    subst (λ k. slice_get ys k ≡ Some y) (sym e) (get_behind xs ys place y (omega (arith, past)) here)

reduced_named-keeps : (messages : List Message) (reduced : List Reduced) (name : List ℕ) (place : ℕ) → reduced_named messages reduced name ≡ Some place
    → slice_get (reduced_names reduced) place ≡ Some name
reduced_named-keeps messages reduced name place h =
    let names = message_names messages ++ reduced_names reduced in
    let (found, f, g) = and_then-found (reduced_place (length messages)) (position (is_text name) names) place h in
    let (past, e) = behind found (nat_lt found (length messages)) refl g in
    let long : length (message_names messages) ≡ length messages = length-map messages (λ (m : Message). m.name) in
    let here = get_behind (message_names messages) (reduced_names reduced) found name (omega (arith, long, past)) (position-name name names found f) in
    subst (λ k. slice_get (reduced_names reduced) k ≡ Some name) (ap (λ n. found - n) long ∙ e) here
  where
    behind : (found : ℕ) (b : Bool) → b ≡ nat_lt found (length messages) → cond b None (Some (found - length messages)) ≡ Some place →
        (length messages ≤ found) × (found - length messages ≡ place)
    behind found true is h = absurd (cc)
    behind found false is h = (past found (length messages) (sym is), cc)
      where
        past : (a b : ℕ) → nat_lt a b ≡ false → b ≤ a
        past a b is = grind (arith, nat_tests)

-- a reduction that is one of a message type
is_reduction-keeps : (reduced : List Reduced) (message place : ℕ) → is_reduction reduced message place ≡ true → IsReductionOf reduced message place
is_reduction-keeps reduced message place is = found (slice_get reduced place) refl is
  where
    found : (o : Option Reduced) → slice_get reduced place ≡ o → option_map_or (λ (one : Reduced). nat_eq message one.message) o false ≡ true →
        IsReductionOf reduced message place
    found None here is = absurd (cc)
    found (Some one) here is = record { one = one; here = here; own = same message one.message is }
      where
        same : (a b : ℕ) → nat_eq a b ≡ true → b ≡ a
        same a b is = grind (arith, nat_tests)

reduced_found-keeps : (messages : List Message) (reduced : List Reduced) (message : ℕ) (found : Option Data) (reduction : Option ℕ) →
    or_else None (reduced_of messages reduced message) found ≡ Ok reduction
    → ForSome reduction (IsReductionOf reduced message) × MatchOption found (reduction ≡ None) (SaysReduced reduced reduction)
unfolding reduced_of
reduced_found-keeps messages reduced message None reduction h =
    let e : ◌≡◌ {A = Option ℕ} None reduction = cc in (subst (λ o. ForSome o (IsReductionOf reduced message)) e (λ place same. absurd (cc)), sym e)
reduced_found-keeps messages reduced message (Some d) reduction h =
    let (name, n, h1) = from_bind (name_of LONGEST_NAME REDUCED.now d) _ reduction h in
    let (place, p, g) = from_bind (required Unknown REDUCED.now (reduced_named messages reduced name))
    (λ place. cond (is_reduction reduced message place) (Ok (Some place)) (Err (at Wrong REDUCED.now))) reduction h1 in
    let (is, e) = tested (is_reduction reduced message place) (Some place) reduction (at Wrong REDUCED.now) g in
    let here = reduced_named-keeps messages reduced name place (required-ok Unknown REDUCED.now (reduced_named messages reduced name) place p) in (
      subst (λ o. ForSome o (IsReductionOf reduced message)) e
          (λ other same. let same_place : place ≡ other = cc in subst (IsReductionOf reduced message) same_place (is_reduction-keeps reduced message place is)),
      (place, sym e, (name, (name_of-keeps LONGEST_NAME REDUCED.now d name n).0, here)),
    )

module _ (releases : List (List ℕ)) (messages : List Message) (reduced : List Reduced) (message : ℕ) (table : Members) where
  -- mode, greatest number of documents, release and reduction
  pub record IsSending (sending : ℕ × ℕ × ℕ × Option ℕ) : Type 0 where
    pub mode : (sending.0 ≡ 2) ⊎ (sending.0 ≡ 4)
    pub some : 1 ≤ sending.1
    pub few : sending.1 ≤ MOST_PACKET
    pub single : sending.0 ≡ 2 → sending.1 ≡ 1
    pub release : sending.2 < length releases
    pub reduction : ForSome sending.3 (IsReductionOf reduced message)
    pub says_mode : MatchOption (get_member OUTMOD.now table) (sending.0 ≡ 2) (λ d. as_integer d ≡ Some (pos sending.0))
    pub says_packet : MatchOption (get_member PACKET.now table) (sending.1 ≡ 1) (λ d. as_integer d ≡ Some (pos sending.1))
    pub says_release : MatchOption (get_member RELEASE.now table) (sending.2 ≡ length releases - 1) (λ d. IsPlaceNamed releases d sending.2)
    pub says_reduction : MatchOption (get_member REDUCED.now table) (sending.3 ≡ None) (SaysReduced reduced sending.3)

  pub sending_at-keeps : (sending : ℕ × ℕ × ℕ × Option ℕ) → 1 ≤ length releases → sending_at releases messages reduced message table ≡ Ok sending →
      IsSending sending
  unfolding sending_at outmod_at packet_at release_at reduced_at
  sending_at-keeps sending some h =
      let (outmod, o, h1) = from_bind (or_else 2 outmod_of (get_member OUTMOD.now table)) _ sending h in
      let (packet, p, h2) = from_bind (or_else 1 (packet_of outmod) (get_member PACKET.now table)) _ sending h1 in
      let (release, r, h3) = from_bind (or_else (length releases - 1) (release_of releases) (get_member RELEASE.now table)) _ sending h2 in
      let (reduction, d, h4) = from_bind (or_else None (reduced_of messages reduced message) (get_member REDUCED.now table)) _ sending h3 in
      let e : ◌≡◌ {A = ℕ × ℕ × ℕ × Option ℕ} (outmod, packet, release, reduction) sending = cc in
      let (mode, says_mode) = outmod_found-keeps (get_member OUTMOD.now table) outmod o in
      let (low, high, single, says_packet) = packet_found-keeps outmod (get_member PACKET.now table) packet p in
      let (known, says_release) = release_found-keeps releases (get_member RELEASE.now table) release some r in
      let (of, says_reduction) = reduced_found-keeps messages reduced message (get_member REDUCED.now table) reduction d in
      subst IsSending e (record {
        mode = mode;
        some = low;
        few = high;
        single = single;
        release = known;
        reduction = of;
        says_mode = says_mode;
        says_packet = says_packet;
        says_release = says_release;
        says_reduction = says_reduction;
      })

port_found-keeps : (found : Option Data) (port : List ℕ) → or_else [] (name_of LONGEST_PORT PORT.now) found ≡ Ok port
    → ((port ≡ []) ⊎ IsTrue (is_name_within LONGEST_PORT port)) × MatchOption found (port ≡ []) (λ d. as_str d ≡ Some port)
port_found-keeps None port h = let e : [] ≡ port = cc in (inl (sym e), sym e)
port_found-keeps (Some d) port h = let (is, named) = name_of-keeps LONGEST_PORT PORT.now d port h in (inr named, is)

function_found-keeps : (found : Option Data) (function : List ℕ) → or_else STANDARD_FUNCTION.now (name_of LONGEST_NAME FUNCTION.now) found ≡ Ok function
    → IsName function × MatchOption found (function ≡ STANDARD_FUNCTION.now) (λ d. as_str d ≡ Some function)
function_found-keeps None function h =
    let e : STANDARD_FUNCTION.now ≡ function = cc in (subst IsName e ((IsName_decided STANDARD_FUNCTION.now).0 refl), sym e)
function_found-keeps (Some d) function h = let (is, named) = name_of-keeps LONGEST_NAME FUNCTION.now d function h in ((IsName_decided function).0 named, is)

-- port and function
pub record IsTarget (table : Members) (target : List ℕ × List ℕ) : Type 0 where
  pub port : (target.0 ≡ []) ⊎ IsTrue (is_name_within LONGEST_PORT target.0)
  pub function : IsName target.1
  pub says_port : MatchOption (get_member PORT.now table) (target.0 ≡ []) (λ d. as_str d ≡ Some target.0)
  pub says_function : MatchOption (get_member FUNCTION.now table) (target.1 ≡ STANDARD_FUNCTION.now) (λ d. as_str d ≡ Some target.1)

pub target_at-keeps : (table : Members) (target : List ℕ × List ℕ) → target_at table ≡ Ok target → IsTarget table target
unfolding target_at port_at function_at
target_at-keeps table target h =
    let (port, p, h1) = from_bind (or_else [] (name_of LONGEST_PORT PORT.now) (get_member PORT.now table)) _ target h in
    let (function, f, h2) = from_bind (or_else STANDARD_FUNCTION.now (name_of LONGEST_NAME FUNCTION.now) (get_member FUNCTION.now table)) _ target h1 in
    let e : ◌≡◌ {A = List ℕ × List ℕ} (port, function) target = cc in
    let (is_port, says_port) = port_found-keeps (get_member PORT.now table) port p in
    let (is_function, says_function) = function_found-keeps (get_member FUNCTION.now table) function f in
    subst (IsTarget table) e (record { port = is_port; function = is_function; says_port = says_port; says_function = says_function })
