use Rattle.std.proofs.Common.{◌≡◌, ℕ, [], ◌∷◌, ◌++◌, length, map, take, drop, ap, sym, ◌∙◌, append_assoc}
use Rattle.std.proofs.lemmas.Bool.{eqb-true}
use Rattle.std.proofs.lemmas.List.{take_min, drop_min, append-nil, nil_from_length}
use Rattle.outbound_build.specs.Added.{packed, packets}
use Rattle.outbound_build.proofs.PacketLemmas.{packets-first, packets-none, some_left}
use Rattle.outbound_build.proofs.packets.add_packets.Goals as goal

pub loop-rest-preserved : goal.loop-rest-preserved
loop-rest-preserved c =
    let profile = c.args.profile.now in
    let size = profile.packet in
    let rest = c.loop-rest.rest.now in
    let done = c.loop-rest.parcels in
    let parcel = c.in_ok-packed.field-0 in
    let front : c.split_at.result.0.now ≡ take size rest = c.split_at.ensures.front ∙ ap (λ (n : ℕ). take n rest) c.min.ensures ∙ take_min size rest in
    let back : c.split_at.result.1.now ≡ drop size rest = c.split_at.ensures.back ∙ ap (λ (n : ℕ). drop n rest) c.min.ensures ∙ drop_min size rest in
    let made : parcel ≡ packed profile (take size rest) = c.in_ok-packed.ensures ∙ ap (packed profile) front in
    ap (λ parcels. parcels ++ map (packed profile) (packets size c.split_at.result.1.now)) c.in_ok-push.ensures.ok
    ∙ ap (λ one. (done ++ one ∷ []) ++ map (packed profile) (packets size c.split_at.result.1.now)) made
    ∙ ap (λ left. (done ++ packed profile (take size rest) ∷ []) ++ map (packed profile) (packets size left)) back
    ∙ append_assoc done (packed profile (take size rest) ∷ []) (map (packed profile) (packets size (drop size rest)))
    ∙ ap (λ all. done ++ map (packed profile) all)
    (sym (packets-first size rest c.requires.some (some_left rest (sym c.is_empty.ensures ∙ c.loop-rest-test.true))))
    ∙ c.loop-rest.invariant

pub returns : goal.returns
returns c =
    let profile = c.args.profile.now in
    let size = profile.packet in
    let rest = c.loop-rest.rest.now in
    let done = c.loop-rest.parcels in
    let bare : rest ≡ [] = nil_from_length rest (eqb-true (length rest) 0 (sym c.is_empty.ensures ∙ c.loop-rest-test.false)) in
    sym (append-nil done)
    ∙ ap (λ all. done ++ map (packed profile) all) (sym (packets-none size c.requires.some) ∙ ap (packets size) (sym bare))
    ∙ c.loop-rest.invariant
