-- The first record of each system: that it can be appended and fits, and what the landscape is that begins so.
use Rattle.std.specs.Prelude.{slice_get, map, Result, Err}
use Rattle.std.specs.Int.{w32, to_be_bytes}
use Rattle.std.proofs.Common.{◌≡◌, ℕ, zero, suc, ◌+◌, ◌-◌, ◌≤◌, Option, Some, None, List, [], ◌∷◌, ◌++◌, length, refl, sym, ap, subst}
use Rattle.std.proofs.Common.{◌∙◌, arith, length-append}
use Rattle.std.proofs.lemmas.List.{append-nil}
use Rattle.ale_volumes.specs.Disk.{Disk}
use Rattle.ale_volumes.specs.Clock.{LeavesOnly}
use Rattle.byte_journal.specs.Log.{records}
use Rattle.unit_core.specs.declared.records.Record.{Record}
use Rattle.unit_core.specs.declared.records.Record.TheVariants.{Genesis}
use Rattle.unit_codec.specs.declared.entry.Entry.{Entry}
use Rattle.unit_codec.specs.Kind.{number, sized}
use Rattle.unit_codec.specs.Fields.{text as text_kind}
use Rattle.unit_codec.specs.Records.{genesis, a_record}
use Rattle.unit_codec.specs.Entries.{entry_with, entry_spelling, moment_spelling, an_entry}
use Rattle.unit_journal.specs.Settled.{IsBeforeOrAfter}
use Rattle.trfc_protocol.specs.declared.world.SystemState.{SystemState}
use Rattle.trfc_protocol.specs.Meaning.{Meaning}
use Rattle.trfc_protocol.specs.Legal.{IsLawful}
use Rattle.trfc_protocol.specs.Worlds.{state_of, log_or_none, up_or_not, log_of}
use Rattle.trfc_protocol.specs.Safe.{AreApart}
use Rattle.trfc_protocol.specs.Start.{first_state}
use Rattle.trfc_protocol.proofs.WorldLemmas.{less_one}
use Rattle.unit_journal.specs.declared.journals.SystemJournals.{SystemJournals}
use Rattle.unit_journal.specs.OnDisk.{moment_of, moments_at, last_moment, later, next_moment, entries_at, IsOnDisk}
use Rattle.unit_landscape.specs.KeptWorlds.{KeptOf, IsKept}
use Rattle.unit_landscape.specs.declared.append_end.AppendEnd.{AppendEnd}
use Rattle.unit_landscape.specs.declared.append_end.AppendEnd.TheVariants.{Full}
use Rattle.unit_landscape.specs.AppendEnds.{HasOneMore, FullAs, IsToAppend}
use Rattle.unit_landscape.specs.Beginning.{IsToBegin, HasFirst}
use Rattle.unit_landscape.proofs.OpeningLemmas.{entries-none}

-- ---- a Genesis is short

moment-short : (moment : Option ℕ) → length (moment_spelling moment) ≤ 9
unfolding number
moment-short None = omega arith
moment-short (Some moment) = omega arith

-- the spelling of a Genesis has at most 15 bytes beside its text
genesis-short : (moment : Option ℕ) (system : ℕ) (text : List ℕ) → length (entry_spelling (entry_with moment (Genesis system text))) ≤ length text + 15
unfolding an_entry a_record genesis text_kind number sized
genesis-short moment system text =
    omega (
      arith,
      moment-short moment,
      length-append (moment_spelling moment) (a_record.spell (Genesis system text)),
      length-append
          (to_be_bytes w32 (length text)) text,
    )

-- ---- a system that is to begin

-- the state of a system from 1 on is at its place
pub state-at : (systems : List SystemState) (system : ℕ) → 1 ≤ system → state_of systems system ≡ slice_get systems (system - 1)
state-at systems zero least = absurd (omega arith)
state-at systems (suc k) least = ap (slice_get systems) (sym (less_one k))

-- a list of no length has no items
no_items : {A : Type 0} (xs : List A) → length xs ≡ 0 → xs ≡ []
no_items [] long = refl
no_items (x ∷ xs) long = absurd (omega arith)

-- the moment that is set is the first of an empty log
later-none : (set : Option ℕ) → later set None ≡ set
later-none None = refl
later-none (Some moment) = refl

module _ {R A E V : Type 0} (meaning : R → Meaning) (lawful : (rules : R) → IsLawful (meaning rules)) (stands : A → List Record → Type 0)
    (goes_with : A → List Record → Record → E → Type 0) (disk : Disk V) (kept : KeptOf R A V) (system : ℕ) (text : List ℕ)
    (extra : E)
    (least : 1 ≤ system) (known : IsKept meaning stands disk kept) (is : IsToBegin stands goes_with kept system text extra) where
  its_state : state_of kept.world.systems system ≡ Some (first_state [])
  its_state = state-at kept.world.systems system least ∙ is.empty

  -- its log is empty
  its_log : log_of kept.world system ≡ []
  its_log = ap log_or_none its_state

  its_disk : IsOnDisk disk kept.vols (system - 1) kept.journals []
  its_disk = known.on_volumes.up (system - 1) (first_state []) is.empty refl

  its_moments : moments_at kept.journals (system - 1) ≡ []
  its_moments = no_items (moments_at kept.journals (system - 1)) its_disk.each

  -- its first moment is the one that is set
  pub first-moment : next_moment kept.journals (system - 1) ≡ moment_of kept.journals
  first-moment = ap (λ moments. later (moment_of kept.journals) (last_moment moments)) its_moments ∙ later-none (moment_of kept.journals)

  -- its log has no entries
  pub first-entries : entries_at kept.journals (system - 1) (log_of kept.world system) ≡ []
  first-entries = ap (entries_at kept.journals (system - 1)) its_log ∙ entries-none (moments_at kept.journals (system - 1))

  -- its Genesis may be appended
  pub to_append : (same : ℕ) → same ≡ system → IsToAppend meaning goes_with kept system (Genesis same text) [] None extra
  to_append same number = subst (λ n. IsToAppend meaning goes_with kept system (Genesis n text) [] None extra) (sym number) (record {
    writes = record {
      up = ap up_or_not its_state;
      apart = subst AreApart (sym is.no_claims) tt;
      writable = let most = is.text_most in omega (arith, most);
    };
    joins = record {
      commits = (lawful kept.world.rules).commits_nothing system (log_of kept.world system) (Genesis system text) refl
          ∙ sym (append-nil ((meaning kept.world.rules).committed system (log_of kept.world system)));
      joins = record { sending = refl; receiving = tt };
      ends = tt;
    };
    goes = λ its at.
        subst (λ log. goes_with its.application log (Genesis system text) extra) (sym its_log)
        (is.goes its at ((known.in_step.each (system - 1) (first_state []) its is.empty at).up refl).application);
  })

  -- the log has its Genesis's moment alone
  pub HasFirst-more : (after : SystemJournals) → HasOneMore (system - 1) kept.journals after → HasFirst (system - 1) kept.journals after
  HasFirst-more after more = record {
    one = more.one;
    first = more.grown ∙ ap (λ moments. moments ++ next_moment kept.journals (system - 1) ∷ []) its_moments ∙ ap (λ moment. moment ∷ []) first-moment;
  }

  -- a crash leaves the empty log, or the Genesis alone
  pub first-any_moment : (disk : Disk V) (new : V) (same : ℕ) → same ≡ system
      → LeavesOnly disk kept.vols new (system - 1)
      (IsBeforeOrAfter (entries_at kept.journals (system - 1) (log_of kept.world system))
      (entry_with (next_moment kept.journals (system - 1)) (Genesis same text)))
      → LeavesOnly disk kept.vols new (system - 1) (IsBeforeOrAfter [] (entry_with (moment_of kept.journals) (Genesis system text)))
  first-any_moment disk new same number leaves =
      let only : List Entry → Entry → Type 0 = λ entries entry. LeavesOnly disk kept.vols new (system - 1) (IsBeforeOrAfter entries entry) in
      subst (λ entries. only entries (entry_with (moment_of kept.journals) (Genesis system text))) first-entries
      (subst (λ m. only (entries_at kept.journals (system - 1) (log_of kept.world system)) (entry_with m (Genesis system text))) first-moment
      (subst (λ n. only (entries_at kept.journals (system - 1) (log_of kept.world system))
      (entry_with (next_moment kept.journals (system - 1)) (Genesis n text))) number
      leaves))

  -- its volume is large enough
  pub first-fits : {T : Type 0} (same : ℕ) (r : Result T AppendEnd) (end : AppendEnd) (size : ℕ)
      → FullAs (system - 1) kept.journals (log_of kept.world system) (Genesis same text) r → r ≡ Err end → end ≡ Full size → ⊥
  first-fits same r end size full is_err is_full =
      let result : r ≡ Err (Full size) = is_err ∙ ap Err is_full in
      let long = (full size (λ before. (let both = sym result ∙ before in cc))).0 result in
      let gate = ap (λ (entries : List Entry). length (records (map entry_spelling entries))) first-entries in
      let short = genesis-short (next_moment kept.journals (system - 1)) same text in
      let most = is.text_most in
      omega (arith, long.0, long.1, gate, short, most)
