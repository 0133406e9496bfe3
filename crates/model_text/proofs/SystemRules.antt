-- Releases and systems that were read keep their rules.
use Rattle.std.specs.Prelude.{IsTrue}
use Rattle.std.specs.Char.{is_ascii_digit}
use Rattle.std.specs.List.{AllByRecursion, IsDistinct, list_any}
use Rattle.std.proofs.Common.{◌≡◌, ℕ, ◌≤◌, ◌&&◌, Bool, true, false, cond, Option, Some, None, Ok, List, [], ◌∷◌, length, map, refl, sym, subst, arith}
use Rattle.std.proofs.lemmas.Bool.{and_parts}
use Rattle.std.proofs.lemmas.List.{map_push}
use Rattle.toml.specs.Data.{Data, Members, get_member, as_str}
use Rattle.ale_base.specs.Text.{is_text}
use Rattle.ale_base.proofs.SnocLemmas.{AllByRecursion-snoc}
use Rattle.segment_defs.specs.declared.limits.TheConstants.{LONGEST_NAME}
use Rattle.segment_defs.specs.Name.{is_name_within, IsName}
use Rattle.segment_defs.proofs.NameLemmas.{IsName_decided}
use Rattle.dist_model.specs.declared.limits.TheConstants.{LONGEST_RELEASE, LONGEST_SYSTEM, MOST_FUNCTIONS, MOST_RELEASES, MOST_SYSTEMS}
use Rattle.dist_model.specs.declared.system.System.{System}
use Rattle.dist_model.specs.System.{IsClient, IsSystem}
use Rattle.dist_model.specs.Model.{AreReleases, AreSystems, system_names}
use Rattle.model_keys.specs.declared.finding.Cause.TheVariants.{Wrong}
use Rattle.model_keys.specs.Finding.{required}
use Rattle.model_keys.specs.Each.{each}
use Rattle.model_keys.specs.Keys.{entry_of, list_of, new_name_at, new_name_of, or_else, some_list_at}
use Rattle.dist_model.proofs.DistinctLemmas.{is_text-symmetric, IsDistinct-push}
use Rattle.model_keys.proofs.KeepsLemmas.{each-invariant, each-length, from_bind, list_of-keeps, name_of-keeps, new_name_at-keeps, new_name_of-keeps}
use Rattle.model_keys.proofs.KeepsLemmas.{required-ok, some_list_at-keeps}
use Rattle.model_text.specs.declared.keys.TheConstants.{CLIENT, FUNCTIONS, NAME, RELEASES, STANDARD_CLIENT, STANDARD_FUNCTION, SYSTEM, SYSTEM_KEYS}
use Rattle.model_text.specs.Releases.{releases_at}
use Rattle.model_text.specs.Systems.{client_at, client_in, client_of, function_list, function_of, functions_at, system_of, systems_at}

abbrev IsReleaseName : List ℕ → Type 0
IsReleaseName name = IsTrue (is_name_within LONGEST_RELEASE name)

pub releases_at-keeps : (table : Members) (releases : List (List ℕ)) → releases_at table ≡ Ok releases → AreReleases releases
unfolding releases_at IsDistinct
releases_at-keeps table releases h =
    let (ds, l, g) = from_bind (some_list_at MOST_RELEASES RELEASES.now table)
    (λ ds. each RELEASES.now (λ done d. new_name_of LONGEST_RELEASE [] done d) 0 [] ds) releases h in
    let list = some_list_at-keeps MOST_RELEASES RELEASES.now table ds l in
    let read = λ (done : List (List ℕ)) (d : Data). new_name_of LONGEST_RELEASE [] done d in
    let long = each-length RELEASES.now read 0 [] ds releases g in
    let kept = each-invariant RELEASES.now read (λ done. AllByRecursion IsReleaseName done × IsDistinct is_text done)
    (λ done d name so_far is. let new = new_name_of-keeps LONGEST_RELEASE [] done d name is in
    (AllByRecursion-snoc IsReleaseName done name so_far.0 new.1, IsDistinct-push is_text is_text-symmetric done name so_far.1 new.2))
    0 [] ds releases (tt, tt) g in record {
      some = omega (arith, list.1, long);
      few = omega (arith, list.2, long);
      each = kept.0;
      apart = kept.1;
    }

-- three digits
digits_are : (a b c : ℕ) (client : List ℕ) → cond (is_ascii_digit a && (is_ascii_digit b && is_ascii_digit c)) (Some (a ∷ b ∷ c ∷ [])) None ≡ Some client →
    IsClient client
digits_are a b c client h =
    let (is, e) = tested_client (is_ascii_digit a && (is_ascii_digit b && is_ascii_digit c)) (a ∷ b ∷ c ∷ []) client h in
    let first = and_parts (is_ascii_digit a) (is_ascii_digit b && is_ascii_digit c) is in
    let second = and_parts (is_ascii_digit b) (is_ascii_digit c) first.1 in
    subst IsClient e (record { three = refl; digits = rw (first.0, second.0, second.1) refl })
  where
    tested_client : (b : Bool) (x client : List ℕ) → cond b (Some x) None ≡ Some client → (b ≡ true) × (x ≡ client)
    tested_client true x client h = (refl, cc)
    tested_client false x client h = absurd (cc)

client_in-keeps : (text client : List ℕ) → client_in text ≡ Some client → IsClient client
client_in-keeps [] client h = absurd (cc)
client_in-keeps (a ∷ []) client h = absurd (cc)
client_in-keeps (a ∷ b ∷ []) client h = absurd (cc)
client_in-keeps (a ∷ b ∷ c ∷ []) client h = digits_are a b c client h
client_in-keeps (a ∷ b ∷ c ∷ d ∷ rest) client h = absurd (cc)

client_of-keeps : (d : Data) (client : List ℕ) → client_of d ≡ Ok client → IsClient client
unfolding client_of
client_of-keeps d client h =
    let (text, t, g) = from_bind (required Wrong CLIENT.now (as_str d)) (λ text. required Wrong CLIENT.now (client_in text)) client h in
    client_in-keeps text client (required-ok Wrong CLIENT.now (client_in text) client g)

client_found-keeps : (found : Option Data) (client : List ℕ) → or_else STANDARD_CLIENT client_of found ≡ Ok client → IsClient client
client_found-keeps None client h = let e : STANDARD_CLIENT ≡ client = cc in subst IsClient e (record { three = refl; digits = refl })
client_found-keeps (Some d) client h = client_of-keeps d client h

-- functions have names, and are not too many
abbrev AreFunctions : List (List ℕ) → Type 0
AreFunctions functions = (length functions ≤ MOST_FUNCTIONS) × AllByRecursion IsName functions

functions_found-keeps : (found : Option Data) (functions : List (List ℕ)) → or_else (STANDARD_FUNCTION.now ∷ []) function_list found ≡ Ok functions →
    AreFunctions functions
functions_found-keeps None functions h =
    let e : STANDARD_FUNCTION.now ∷ [] ≡ functions = cc in
    subst AreFunctions e (omega arith, ((IsName_decided STANDARD_FUNCTION.now).0 refl, tt))
functions_found-keeps (Some d) functions h =
    let (ds, l, g) = from_bind (list_of MOST_FUNCTIONS FUNCTIONS.now d) (λ ds. each FUNCTIONS.now (λ done d. function_of d) 0 [] ds) functions h in
    let read = λ (done : List (List ℕ)) (d : Data). function_of d in
    let long = each-length FUNCTIONS.now read 0 [] ds functions g in
    let few = (list_of-keeps MOST_FUNCTIONS FUNCTIONS.now d ds l).1 in (
      omega (arith, long, few),
      each-invariant FUNCTIONS.now read (AllByRecursion IsName)
          (λ done d name so_far is. AllByRecursion-snoc IsName done name so_far ((IsName_decided name).0 (name_of-keeps LONGEST_NAME [] d name is).1))
          0 [] ds functions tt g,
    )

system_of-keeps : (names : List (List ℕ)) (d : Data) (system : System) → system_of names d ≡ Ok system →
    IsSystem system × (list_any (is_text system.name) names ≡ false)
unfolding system_of client_at functions_at
system_of-keeps names d system h =
    let (table, t, h1) = from_bind (entry_of (map (λ key. key.now) SYSTEM_KEYS) d) _ system h in
    let (name, n, h2) = from_bind (new_name_at LONGEST_SYSTEM NAME.now names table) _ system h1 in
    let (client, k, h3) = from_bind (or_else STANDARD_CLIENT client_of (get_member CLIENT.now table)) _ system h2 in
    let (functions, f, h4) = from_bind (or_else (STANDARD_FUNCTION.now ∷ []) function_list (get_member FUNCTIONS.now table)) _ system h3 in
    let e : ◌≡◌ {A = System} (record { name = name; client = client; functions = functions }) system = cc in
    let new = new_name_at-keeps LONGEST_SYSTEM NAME.now names table name n in
    let all = functions_found-keeps (get_member FUNCTIONS.now table) functions f in
    subst (λ (s : System). IsSystem s × (list_any (is_text s.name) names ≡ false)) e
    (record { named = new.1; client = client_found-keeps (get_member CLIENT.now table) client k; few = all.0; functions = all.1 }, new.0.new)

pub systems_at-keeps : (table : Members) (systems : List System) → systems_at table ≡ Ok systems → AreSystems systems
unfolding systems_at IsDistinct
systems_at-keeps table systems h =
    let (ds, l, g) = from_bind (some_list_at MOST_SYSTEMS SYSTEM.now table) (λ ds. each SYSTEM.now (λ done d. system_of (system_names done) d) 0 [] ds) systems
    h in
    let list = some_list_at-keeps MOST_SYSTEMS SYSTEM.now table ds l in
    let read = λ (done : List System) (d : Data). system_of (system_names done) d in
    let long = each-length SYSTEM.now read 0 [] ds systems g in
    let kept = each-invariant SYSTEM.now read (λ done. AllByRecursion IsSystem done × IsDistinct is_text (system_names done))
    (λ done d system so_far is. let own = system_of-keeps (system_names done) d system is in (
      AllByRecursion-snoc IsSystem done system so_far.0 own.0,
      subst (IsDistinct is_text) (sym (map_push (λ (s : System). s.name) done system))
          (IsDistinct-push is_text is_text-symmetric (system_names done) system.name so_far.1 own.1),
    ))
    0 [] ds systems (tt, tt) g in record {
      some = omega (arith, list.1, long);
      few = omega (arith, list.2, long);
      each = kept.0;
      apart = kept.1;
    }
