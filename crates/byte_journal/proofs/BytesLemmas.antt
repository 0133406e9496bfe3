-- What an opening and an append leave of the bytes, by how their last step ended.
use Rattle.std.specs.Prelude.{Result, Ok, Err, OnOk, IsErrOf}
use Rattle.std.proofs.Common.{◌≡◌, ◌≢◌, inl, inr, ℕ, ◌+◌, ◌<◌, ◌≤◌, get_or, List, [], ◌∷◌, ◌++◌, length, take, drop, refl, sym, ◌∙◌, ap, subst, arith}
use Rattle.std.proofs.Common.{length-append, append_assoc}
use Rattle.std.proofs.lemmas.List.{drop_at, take-take, length-take}
use Rattle.ale_volumes.specs.declared.volume.Volume.{Volume}
use Rattle.ale_volumes.specs.declared.volume_end.VolumeEnd.{VolumeEnd}
use Rattle.ale_volumes.specs.declared.volume_end.VolumeEnd.TheVariants.{Failed, OutOfMemory as NoMemory}
use Rattle.ale_volumes.specs.Volume.{settled, overwritten, Torn}
use Rattle.ale_volumes.specs.MemoryLemmas.{take-overwritten}
use Rattle.byte_journal.specs.declared.fault.OpenFault.{OpenFault}
use Rattle.byte_journal.specs.declared.fault.OpenFault.TheVariants.{Damaged, Volume as OpenVolume, OutOfMemory as OpenMemory}
use Rattle.byte_journal.specs.declared.fault.AppendFault.{AppendFault}
use Rattle.byte_journal.specs.declared.fault.AppendFault.TheVariants.{OutOfMemory as AppendMemory}
use Rattle.byte_journal.specs.Log.{open_gate, framed}
use Rattle.byte_journal.specs.Fault.{open_fault_of, append_fault_of}
use Rattle.byte_journal.specs.steps.Reading.{ReadsTo}
use Rattle.byte_journal.specs.Bytes.{IsAsBeforeButForTheGate, LeavesOpened, LeavesAppended, staged, appended}
use Rattle.byte_journal.specs.steps.Closing.{LeavesClosed}
use Rattle.byte_journal.proofs.LogLemmas.{length-framed}
use Rattle.byte_journal.proofs.CloseLemmas.{closed_left, torn_left}

-- a result has one fault, or none
pub same_fault : {T E : Type 0} (result : Result T E) (fault other : E) → result ≡ Err fault → result ≡ Err other → fault ≡ other
same_fault result fault other is also = cc

pub not_err : {T E : Type 0} (result : Result T E) (value : T) (fault : E) → result ≡ Ok value → result ≡ Err fault → ⊥
not_err result value fault is other = cc

-- ---- opening

-- reading that ended with a fault leaves what was read, made durable
pub opened-unread : (old new : Volume) (fault : OpenFault) → new.contents ≡ old.contents → (¬ (fault ≡ OpenVolume) → new ≡ settled old.contents) →
    LeavesOpened old new (Err fault)
opened-unread old new (Damaged place) same durable = durable (λ is. cc)
opened-unread old new OpenVolume same durable = inl same
opened-unread old new OpenMemory same durable = durable (λ is. cc)

-- however closing the gate ended, it left no more than this
pub closed-leaves : (old new : Volume) (log : List (List ℕ)) (gate : ℕ) → ReadsTo old.contents log gate →
    ((gate < length old.contents) × (get_or old.contents gate 0 ≢ open_gate) → ⊥) → (result : Result (Unit {0}) VolumeEnd)
    → OnOk result (new ≡ settled (overwritten old.contents gate (0 ∷ []))) → Torn gate 1 old.contents new.contents → (IsErrOf result NoMemory → new ≡ old) →
    LeavesClosed old new result
closed-leaves old new log gate reads not_closed (Ok done) written torn refused =
    subst (λ (v : Volume). IsAsBeforeButForTheGate old.contents v.contents) (sym written) (closed_left old.contents log gate reads not_closed)
closed-leaves old new log gate reads not_closed (Err Failed) written torn refused = torn_left old.contents log gate reads not_closed new.contents torn
closed-leaves old new log gate reads not_closed (Err NoMemory) written torn refused = refused refl

-- closing the gate that ended with a fault leaves the same of what was there first
pub opened-unclosed : (old mid new : Volume) (end : VolumeEnd) (fault : OpenFault) → mid ≡ settled old.contents → fault ≡ open_fault_of end →
    LeavesClosed mid new (Err end) → LeavesOpened old new (Err fault)
opened-unclosed old mid new Failed fault durable is left =
    let same = ap (λ (v : Volume). v.contents) durable in
    subst (λ (f : OpenFault). LeavesOpened old new (Err f)) (sym is) (subst (λ (b : List ℕ). LeavesOpened (settled b) new (Err OpenVolume)) same left)
opened-unclosed old mid new NoMemory fault durable is left =
    subst (λ (f : OpenFault). LeavesOpened old new (Err f)) (sym is) (left ∙ durable)

-- ---- appending

-- where nothing was written all is as before
pub appended-none : (old : List ℕ) (gate : ℕ) (body : List ℕ) (fault : AppendFault) → fault ≡ AppendMemory → LeavesAppended old gate body old (Err fault)
appended-none old gate body fault is = subst (λ (f : AppendFault). LeavesAppended old gate body old (Err f)) (sym is) (inl refl)

-- the first write ended with a fault
pub appended-first : (old new : Volume) (gate : ℕ) (body block : List ℕ) (end : VolumeEnd) (fault : AppendFault) → block ≡ framed body ++ 0 ∷ [] →
    fault ≡ append_fault_of end
    → Torn (gate + 1) (length block) old.contents new.contents → (end ≡ NoMemory → new ≡ old) → LeavesAppended old.contents gate body new.contents (Err fault)
appended-first old new gate body block Failed fault is_block is torn refused =
    let size : length block ≡ length body + 5 = omega (arith, ap length is_block, length-append (framed body) (0 ∷ []), length-framed body) in
    subst (λ (f : AppendFault). LeavesAppended old.contents gate body new.contents (Err f)) (sym is)
    (inl (subst (λ (n : ℕ). Torn (gate + 1) n old.contents new.contents) size torn))
appended-first old new gate body block NoMemory fault is_block is torn refused =
    subst (λ (f : AppendFault). LeavesAppended old.contents gate body new.contents (Err f)) (sym is) (inl (ap (λ (v : Volume). v.contents) (refused refl)))

-- the second write ended with a fault
pub appended-second : (old : List ℕ) (mid new : Volume) (gate : ℕ) (body : List ℕ) (end : VolumeEnd) (fault : AppendFault) →
    mid.contents ≡ staged old gate body → fault ≡ append_fault_of end
    → Torn gate 1 mid.contents new.contents → (end ≡ NoMemory → new ≡ mid) → LeavesAppended old gate body new.contents (Err fault)
appended-second old mid new gate body Failed fault wrote is torn refused =
    subst (λ (f : AppendFault). LeavesAppended old gate body new.contents (Err f)) (sym is)
    (inr (subst (λ (b : List ℕ). Torn gate 1 b new.contents) wrote torn))
appended-second old mid new gate body NoMemory fault wrote is torn refused =
    subst (λ (f : AppendFault). LeavesAppended old gate body new.contents (Err f)) (sym is) (inr (ap (λ (v : Volume). v.contents) (refused refl) ∙ wrote))

-- with its gate open the record is appended
pub appended-done : (old : List ℕ) (gate : ℕ) (body : List ℕ) → gate + 1 ≤ length old → overwritten (staged old gate body) gate (open_gate ∷ [])
    ≡ appended old gate body
appended-done old gate body within =
    let block = framed body ++ 0 ∷ [] in
    let rest = drop (gate + 1 + length block) old in
    let size : gate + 1 + length block ≡ gate + 6 + length body = omega (arith, length-append (framed body) (0 ∷ []), length-framed body) in
    let before : take gate (staged old gate body) ≡ take gate old =
    sym (take-take gate (gate + 1) (staged old gate body) (omega arith))
    ∙ ap (λ (l : List ℕ). take gate l) (take-overwritten old (gate + 1) block within)
    ∙ take-take gate (gate + 1) old (omega arith) in
    let behind : drop (gate + 1) (staged old gate body) ≡ block ++ rest =
    ap (λ (l : List ℕ). drop (gate + 1) l) (append_assoc (take (gate + 1) old) block rest)
    ∙ drop_at (take (gate + 1) old) (block ++ rest) (gate + 1) (omega (arith, length-take (gate + 1) old)) in
    ap (λ (l : List ℕ). l ++ (open_gate ∷ []) ++ drop (gate + 1) (staged old gate body)) before
    ∙ ap (λ (l : List ℕ). take gate old ++ (open_gate ∷ []) ++ l) (behind ∙ append_assoc (framed body) (0 ∷ []) rest)
    ∙ append_assoc (take gate old) (open_gate ∷ []) (framed body ++ 0 ∷ rest)
    ∙ ap (λ (n : ℕ). take gate old ++ open_gate ∷ (framed body ++ 0 ∷ drop n old)) size
