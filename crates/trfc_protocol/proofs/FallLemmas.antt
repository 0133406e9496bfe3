-- A safe world stays safe where a system falls, with a record that it was writing or without, and where it is opened.
use Rattle.std.specs.Prelude.{Contains, All}
use Rattle.std.proofs.Common.{◌≡◌, ◌≢◌, ℕ, ◌==◌, Bool, true, false, not, ◌&&◌, ◌||◌, Some, None, List, [], ◌∷◌, ◌++◌, inl, inr, refl, sym, ap, subst, ◌∙◌}
use Rattle.std.proofs.lemmas.Bool.{cases_Bool, cond_both, both_ways, eq-eqb, ne_eqb}
use Rattle.std.proofs.lemmas.List.Elements.{All-contains, All-nil, Contains-push}
use Rattle.ale_base.specs.Tid.{TidOf}
use Rattle.unit_core.specs.declared.records.Record.{Record}
use Rattle.unit_core.specs.Filters.{done_by, received, done_in}
use Rattle.unit_core.specs.Queues.{is_listed, is_among, unit_named, heads_outbound}
use Rattle.ale_base.proofs.OptionLemmas.{none_or_some}
use Rattle.ale_base.proofs.MemberLemmas.{filter_map-Some}
use Rattle.unit_core.proofs.TidLemmas.{is_listed-Contains}
use Rattle.unit_core.proofs.OnceLemmas.{WasTaken}
use Rattle.trfc_protocol.specs.declared.world.World.{World}
use Rattle.trfc_protocol.specs.declared.world.SystemState.{SystemState}
use Rattle.trfc_protocol.specs.declared.held.Held.{Held}
use Rattle.trfc_protocol.specs.declared.held.HeldKind.{HeldKind}
use Rattle.trfc_protocol.specs.declared.held.HeldKind.TheVariants.{Out, In, Direct}
use Rattle.trfc_protocol.specs.Meaning.{Meaning}
use Rattle.trfc_protocol.specs.Legal.{IsLegal, is_free_outbound, is_free_inbound, IsLawful}
use Rattle.trfc_protocol.specs.Worlds.{state_of, log_or_none, rest_or_none, up_or_not, log_with, log_found, log_of, log_under, is_up, committed_by, offers_at}
use Rattle.trfc_protocol.specs.Worlds.{offers_now, state_down, state_open, with_state, with_fall, one_fall_more}
use Rattle.trfc_protocol.specs.Happens.{falls_empty, opens}
use Rattle.trfc_protocol.specs.Safe.{is_due, Holds, AreApart, Sound, Safe}
use Rattle.trfc_protocol.proofs.WorldLemmas.{is_up-known, log_found-settled, length-with_state, state_of-here, state_of-elsewhere, at_each_state}
use Rattle.trfc_protocol.proofs.WorldLemmas.{kept-with_state, with_state-unknown}
use Rattle.trfc_protocol.proofs.LegalLemmas.{last_follows, committed-at}
use Rattle.trfc_protocol.proofs.ClaimLemmas.{All-from_Contains}
use Rattle.trfc_protocol.proofs.SoundLemmas.{Sound-same, not_done}
use Rattle.trfc_protocol.proofs.SafeLemmas.{Spares, MayWrite, IsRun-due, due-IsRun, sound_now, hold, committed_unit-is, under_longer, under_up, Sound-written}
use Rattle.trfc_protocol.proofs.SafeLemmas.{All-hold}
use Rattle.trfc_protocol.proofs.NextLemmas.{IsNext, stays}

-- a claim holds still where the logs and what is offered are the same, and what was up is up
module _ {R : Type 0} (rules : Meaning) (world after : World R) (logs : (system : ℕ) → log_of after system ≡ log_of world system)
    (offers : (system : ℕ) (function : List ℕ) → offers_now rules after system function ≡ offers_now rules world system function)
    (up : (system : ℕ) → is_up world system ≡ true → is_up after system ≡ true) (numbers : after.next_number ≡ world.next_number) where
  same_due : (held : Held) (kind : HeldKind) → is_due rules world held kind ≡ true → is_due rules after held kind ≡ true
  same_due held Out due =
      subst (λ log. ((held.system == held.tid.system) && is_free_outbound (rules.committed held.system log) log held.tid) ≡ true)
      (sym (logs held.system)) due
  same_due held In due = subst (λ log. is_free_inbound log held.tid ≡ true) (sym (logs held.system)) due
  same_due held Direct due =
      let run = IsRun-due rules world held.system held.tid due in
      due-IsRun rules after held.system held.tid (record {
        unit = run.unit;
        named = ap (λ log. unit_named held.tid (rules.committed held.tid.system log)) (logs held.tid.system) ∙ run.named;
        receiver = run.receiver;
        direct = run.direct;
        offers = offers held.system run.unit.function ∙ run.offers;
        new = ap (λ log. is_among run.unit.tid (received log)) (logs held.system) ∙ run.new;
        heads = subst (λ log. heads_outbound (done_in log) (rules.committed run.unit.tid.system log) run.unit ≡ true)
            (sym (logs run.unit.tid.system)) run.heads;
      })

  Holds-same : (held : Held) → Holds rules world held → Holds rules after held
  Holds-same held holds = record {
    up = up held.system holds.up;
    due = same_due held held.kind holds.due;
    number = rw numbers holds.number;
  }

no_false : {A : Type 0} → false ≡ true → A
no_false is = cc

module _ {R : Type 0} (rules : Meaning) (lawful : IsLawful rules) (world : World R) (safe : Safe rules world) where
  -- a system falls as it writes a record that it may write: all claims are gone, and under a choice the record is found
  pub Safe-fallen : (system : ℕ) (next : Record) → MayWrite rules world system next → Safe rules (with_fall world system (Some next))
  Safe-fallen system next write =
      let up = is_up-known world system write.up in
      let state : SystemState = up.0 in
      let known : state_of world.systems system ≡ Some state = up.1 in
      let base : World R = record world { claims = []; falls = one_fall_more world.falls } in
      let change : SystemState → SystemState = state_down (Some next) in
      let after : World R = with_state base system change in
      let none : rest_or_none (state_of world.systems system) ≡ None = safe.settled system write.up in
      let here : (choice : Bool) → log_found choice (state_of world.systems system) ≡ state.log = λ choice.
      log_found-settled choice (state_of world.systems system) none ∙ ap log_or_none known in
      record {
        systems = length-with_state base system change state known ∙ safe.systems;
        sound = λ choice.
            elim (cases_Bool (choice system)) [
              | inl found ↦ Sound-written rules lawful world safe system next write choice (log_under choice after) (record {
                here = ap (log_found (choice system)) (state_of-here base system change state known)
                    ∙ ap (λ c. log_found c (Some (change state))) found
                    ∙ sym (ap (λ log. log ++ next ∷ []) (here (choice system)));
                elsewhere = λ other differs. ap (log_found (choice other)) (state_of-elsewhere base system change state known other differs);
              })
              | inr lost ↦ Sound-same rules (log_under choice world) (log_under choice after)
                  (at_each_state base system change state known (λ s found. log_found (choice s) found ≡ log_under choice world s)
                  (ap (λ c. log_found c (Some (change state))) lost ∙ sym (here (choice system)))
                  (λ other differs. refl))
                  (safe.sound choice)
            ];
        settled = at_each_state base system change state known (λ _ found. up_or_not found ≡ true → rest_or_none found ≡ None) (λ is. no_false is)
            (λ other _. safe.settled other);
        hold = subst (All (Holds rules after)) (sym (kept-with_state base system change state known).0) (All-nil (Holds rules after));
        apart = subst AreApart (sym (kept-with_state base system change state known).0) tt;
      }

  -- under each choice, a system that has nothing to find is as it was without its rest
  without_rest : (system : ℕ) (base : World R) → base.systems ≡ world.systems → (state : SystemState) → state_of world.systems system ≡ Some state
      → (choice : ℕ → Bool) → Sound rules (log_under choice (with_state base system (state_down None)))
  without_rest system base same state known choice =
      let narrower : ℕ → Bool = λ s. choice s && not (s == system) in
      let known_base : state_of base.systems system ≡ Some state = ap (λ systems. state_of systems system) same ∙ known in
      Sound-same rules (log_under narrower world) (log_under choice (with_state base system (state_down None)))
      (at_each_state base system (state_down None) state known_base (λ s found. log_found (choice s) found ≡ log_under narrower world s)
      (log_found-settled (choice system) (Some (state_down None state)) refl
      ∙ sym (ap log_or_none known)
      ∙ sym (ap (λ c. log_found c (state_of world.systems system)) (no_more (choice system) (system == system) (eq-eqb system system refl))))
      (λ other differs. ap (λ systems. log_found (choice other) (state_of systems other)) same
      ∙ sym (ap (λ c. log_found c (state_of world.systems other)) (as_before (choice other) (other == system) (ne_eqb other system differs)))))
      (safe.sound narrower)
    where
      no_more : (choice here : Bool) → here ≡ true → (choice && not here) ≡ false
      no_more true true is = refl
      no_more false true is = refl
      no_more choice false is = no_false is

      as_before : (choice here : Bool) → here ≡ false → (choice && not here) ≡ choice
      as_before true false is = refl
      as_before false false is = refl
      as_before choice true is = cc

  -- a system that was up falls and leaves nothing to be found
  pub Safe-fallen_empty : (system : ℕ) → is_up world system ≡ true → Safe rules (with_fall world system None)
  Safe-fallen_empty system up =
      let is = is_up-known world system up in
      let base : World R = record world { claims = []; falls = one_fall_more world.falls } in
      let change : SystemState → SystemState = state_down None in
      let after : World R = with_state base system change in
      record {
        systems = length-with_state base system change is.0 is.1 ∙ safe.systems;
        sound = without_rest system base refl is.0 is.1;
        settled = at_each_state base system change is.0 is.1 (λ _ found. up_or_not found ≡ true → rest_or_none found ≡ None) (λ _. refl)
            (λ other _. safe.settled other);
        hold = subst (All (Holds rules after)) (sym (kept-with_state base system change is.0 is.1).0) (All-nil (Holds rules after));
        apart = subst AreApart (sym (kept-with_state base system change is.0 is.1).0) tt;
      }

  -- a system that is down loses what it might have found
  lost : (system : ℕ) (state : SystemState) → state_of world.systems system ≡ Some state → is_up world system ≡ false
      → Safe rules (with_state world system (state_down None))
  lost system state known down =
      let change : SystemState → SystemState = state_down None in
      let after : World R = with_state world system change in
      let kept = kept-with_state world system change state known in
      record {
        systems = length-with_state world system change state known ∙ safe.systems;
        sound = without_rest system world refl state known;
        settled = at_each_state world system change state known (λ _ found. up_or_not found ≡ true → rest_or_none found ≡ None) (λ _. refl)
            (λ other _. safe.settled other);
        hold = subst (All (Holds rules after)) (sym kept.0)
            (All-from_Contains (Holds rules after) world.claims (λ held has.
            Holds-same rules world after
            (at_each_state world system change state known (λ s found. log_or_none found ≡ log_of world s) (sym (ap log_or_none known)) (λ _ _. refl))
            (at_each_state world system change state known
            (λ s found. (function : List ℕ) → offers_at rules s found function ≡ offers_now rules world s function)
            (λ function. sym (ap (λ found. offers_at rules system found function) known)) (λ _ _ function. refl))
            (at_each_state world system change state known (λ s found. is_up world s ≡ true → up_or_not found ≡ true)
            (λ up. absurd (both_ways (is_up world system) down up)) (λ _ _ up. up))
            kept.1 held (hold rules lawful world safe held has)));
        apart = subst AreApart (sym kept.0) safe.apart;
      }

  -- a system falls and leaves nothing to be found
  pub Next-falls_empty : (system : ℕ) → IsNext rules world (falls_empty world system)
  Next-falls_empty system =
      cond_both (is_up world system) (with_fall world system None) (with_state world system (state_down None)) (IsNext rules world)
      (λ up. let is = is_up-known world system up in (
        Safe-fallen_empty system up,
        (kept-with_state (record world { claims = []; falls = one_fall_more world.falls }) system (state_down None) is.0 is.1).2,
      ))
      (λ down. elim (none_or_some (state_of world.systems system)) [
        | inl unknown ↦ subst (IsNext rules world) (sym (with_state-unknown world system (state_down None) unknown)) (stays rules lawful world safe)
        | inr is ↦ (lost system is.0 is.1 down, (kept-with_state world system (state_down None) is.0 is.1).2)
      ])

  -- under each choice, a system that was opened is as it was with its rest
  with_rest : (system : ℕ) (state : SystemState) → state_of world.systems system ≡ Some state
      → (choice : ℕ → Bool) → Sound rules (log_under choice (with_state world system state_open))
  with_rest system state known choice =
      let wider : ℕ → Bool = λ s. choice s || (s == system) in
      Sound-same rules (log_under wider world) (log_under choice (with_state world system state_open))
      (at_each_state world system state_open state known (λ s found. log_found (choice s) found ≡ log_under wider world s)
      (log_found-settled (choice system) (Some (state_open state)) refl
      ∙ sym (ap (log_found true) known)
      ∙ sym (ap (λ c. log_found c (state_of world.systems system)) (found_here (choice system) (system == system) (eq-eqb system system refl))))
      (λ other differs. sym (ap (λ c. log_found c (state_of world.systems other)) (as_before (choice other) (other == system) (ne_eqb other system differs)))))
      (safe.sound wider)
    where
      found_here : (choice here : Bool) → here ≡ true → (choice || here) ≡ true
      found_here true true is = refl
      found_here false true is = refl
      found_here choice false is = no_false is

      as_before : (choice here : Bool) → here ≡ false → (choice || here) ≡ choice
      as_before true false is = refl
      as_before false false is = refl
      as_before choice true is = cc

  -- the claims hold where a system is opened that found nothing
  held_as_is : (system : ℕ) (state : SystemState) → state_of world.systems system ≡ Some state → state.rest ≡ None
      → (held : Held) → Contains world.claims held → Holds rules (with_state world system state_open) held
  held_as_is system state known none held has =
      let log_stays : (state_open state).log ≡ state.log = ap (log_with state.log) none in
      Holds-same rules world (with_state world system state_open)
      (at_each_state world system state_open state known (λ s found. log_or_none found ≡ log_of world s)
      (log_stays ∙ sym (ap log_or_none known)) (λ _ _. refl))
      (at_each_state world system state_open state known
      (λ s found. (function : List ℕ) → offers_at rules s found function ≡ offers_now rules world s function)
      (λ function. ap (λ log. rules.offers system log function) log_stays ∙ sym (ap (λ found. offers_at rules system found function) known))
      (λ _ _ function. refl))
      (at_each_state world system state_open state known (λ s found. is_up world s ≡ true → up_or_not found ≡ true) (λ _. refl) (λ _ _ up. up))
      (kept-with_state world system state_open state known).1 held (hold rules lawful world safe held has)

  -- what a system may find, as its log under the choice that it is found
  found_whole : (system : ℕ) (state : SystemState) (next : Record) → state_of world.systems system ≡ Some state → state.rest ≡ Some next
      → log_under (λ _. true) world system ≡ log_of world system ++ next ∷ []
  found_whole system state next known rest =
      ap (log_found true) known ∙ ap (log_with state.log) rest ∙ sym (ap (λ found. log_or_none found ++ next ∷ []) known)

  -- what a system may find finishes no unit of which a direct run is under way, since that unit was not received
  not_finished : (system : ℕ) (next : Record) → log_under (λ _. true) world system ≡ log_of world system ++ next ∷ []
      → (held : Held) → Contains world.claims held → held.kind ≡ Direct → (t : TidOf) → done_by next ≡ Some t → t ≢ held.tid
  not_finished system next whole held has kind t finishes same =
      let further = log_under (λ _. true) world in
      let sound_further : Sound rules further = safe.sound (λ _. true) in
      let holds = hold rules lawful world safe held has in
      let has_done : Contains (done_in (further system)) t = subst (λ log. Contains (done_in log) t) (sym whole)
      (subst (λ tids. Contains tids t) (sym (filter_map-Some done_by (log_of world system) next t finishes))
      (Contains-push (done_in (log_of world system)) t)) in
      let was : WasTaken (λ s. rules.committed s (further s)) further system t =
      All-contains (WasTaken (λ s. rules.committed s (further s)) further system) (done_in (further system)) t
      (sound_further.once.done_was_taken system) has_done in
      let at = committed-at rules lawful system (further system) (sound_further.legal system) was.0 was.2 in
      let from : t.system ≡ system = sym (ap (λ (x : TidOf). x.system) was.1) ∙ ap (λ (x : TidOf). x.system) at.1.tid in
      let run = IsRun-due rules world held.system held.tid (subst (λ k. is_due rules world held k ≡ true) kind holds.due) in
      let is = committed_unit-is rules lawful world safe held.tid run.unit run.named in
      let sender : run.unit.sender ≡ system = is.2 ∙ sym (ap (λ (x : TidOf). x.system) same) ∙ from in
      let listed : is_listed run.unit.tid (done_in (further run.unit.sender)) ≡ true =
      subst (λ s. is_listed run.unit.tid (done_in (further s)) ≡ true) (sym sender)
      (subst (λ x. is_listed x (done_in (further system)) ≡ true) (same ∙ sym is.1) (is_listed-Contains t (done_in (further system)) has_done)) in
      not_done rules lawful (log_of world) further (sound_now rules lawful world safe) sound_further (under_longer rules lawful world safe (λ _. true))
      held.system run.unit (under_up rules lawful world safe (λ _. true) held.system holds.up) run.receiver
      (subst (λ s. Contains (committed_by rules world s) run.unit) (sym is.2) is.0) run.new listed

  -- what a system that is down may find is of no claim's unit
  rest_spares : (system : ℕ) (next : Record) → log_under (λ _. true) world system ≡ log_of world system ++ next ∷ []
      → is_up world system ≡ false → (held : Held) → Contains world.claims held → Spares system next held
  rest_spares system next whole down held has =
      let holds = hold rules lawful world safe held has in
      let elsewhere : held.system ≢ system = λ same. both_ways (is_up world system) down (subst (λ s. is_up world s ≡ true) same holds.up) in
      record {
        out = λ kind here. absurd (elsewhere here);
        in_ = λ kind here. absurd (elsewhere here);
        direct = λ kind. (not_finished system next whole held has kind, λ unit taken here. absurd (elsewhere here), λ here. absurd (elsewhere here));
      }

  -- the claims hold where a system is opened
  held_after : (system : ℕ) (state : SystemState) → state_of world.systems system ≡ Some state → is_up world system ≡ false
      → All (Holds rules (with_state world system state_open)) (with_state world system state_open).claims
  held_after system state known down =
      elim (none_or_some state.rest) [
        | inl none ↦ subst (All (Holds rules (with_state world system state_open))) (sym (kept-with_state world system state_open state known).0)
            (All-from_Contains (Holds rules (with_state world system state_open)) world.claims (held_as_is system state known none))
        | inr rest ↦
            let whole = found_whole system state rest.0 known rest.1 in
            All-hold rules lawful world safe world.claims system rest.0 state_open state known (ap (log_with state.log) rest.1) (λ _. refl)
            (last_follows rules system (log_of world system) rest.0 (subst (IsLegal rules system) whole ((safe.sound (λ _. true)).legal system)))
            (hold rules lawful world safe) (rest_spares system rest.0 whole down)
      ]

  -- a system that is down is opened
  opened : (system : ℕ) (state : SystemState) → state_of world.systems system ≡ Some state → is_up world system ≡ false
      → Safe rules (with_state world system state_open)
  opened system state known down = record {
    systems = length-with_state world system state_open state known ∙ safe.systems;
    sound = with_rest system state known;
    settled = at_each_state world system state_open state known (λ _ found. up_or_not found ≡ true → rest_or_none found ≡ None) (λ _. refl)
        (λ other _. safe.settled other);
    hold = held_after system state known down;
    apart = subst AreApart (sym (kept-with_state world system state_open state known).0) safe.apart;
  }

  pub Next-opens : (system : ℕ) → IsNext rules world (opens world system)
  Next-opens system =
      cond_both (is_up world system) world (with_state world system state_open) (IsNext rules world)
      (λ _. stays rules lawful world safe)
      (λ down. elim (none_or_some (state_of world.systems system)) [
        | inl unknown ↦ subst (IsNext rules world) (sym (with_state-unknown world system state_open unknown)) (stays rules lawful world safe)
        | inr is ↦ (opened system is.0 is.1 down, (kept-with_state world system state_open is.0 is.1).2)
      ])
