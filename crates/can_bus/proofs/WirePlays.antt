-- A wire that is driven as a list says has the levels that a disturbed run records.
use Rattle.std.specs.Prelude.{min, ◌↔◌, slice_get}
use Rattle.std.specs.List.{Any, list_any}
use Rattle.std.proofs.Common.{◌≡◌, ℕ, zero, suc, ◌+◌, ◌<◌, ◌≤◌, true, List, [], Some, length, get_or, refl, ap, sym, ◌∙◌, subst, arith, add-one}
use Rattle.std.proofs.lemmas.Option.{slice_get-get_or, get_or_from_slice_get, slice_get_within}
use Rattle.can_frame.specs.declared.level.Level.{Level}
use Rattle.can_frame.specs.declared.level.Level.TheVariants.{Recessive}
use Rattle.can_terms.specs.declared.hit.Hit.{Hit}
use Rattle.can_bus.specs.declared.offer.Offer.{Offer}
use Rattle.can_bus.specs.Disturbed.{FallsOnWire, begins_at, level_then, rest_before}
use Rattle.can_bus.specs.DisturbedPlay.{IsDisturbedPlay}
use Rattle.can_bus.specs.Run.{AreLevelsOf, BusState, CallState, begins_attempt, bus_step, hits_view, hits_wire, inverted_if, recorded as recorded_by, rest_after, wired_level}
use Rattle.can_bus.specs.WireSteps.{AreRecorded, WireState, is_struck, wire_after, wire_attempt, wire_begun, wire_level, wire_of, wire_seen, wire_step, wire_then}
use Rattle.can_bus.proofs.DisturbedTimes.{LatestIs, latest-none, latest-more, rest_before-none, rest_before-more, rest_after-capped, begins_attempt-capped, inverted-tells, inverted-told, view-decided, wire-decided}

-- the wire of a bus

pub bus-level : (hits : List Hit) (c : CallState) → recorded_by hits c ≡ wire_level hits (wire_of c) (wired_level c)
unfolding recorded_by
bus-level hits c = refl

pub bus-after : (hits : List Hit) (c : CallState) → wire_of (bus_step hits c) ≡ wire_step hits (wire_of c) (wired_level c)
unfolding bus_step recorded_by
bus-after hits c = refl

module _ (hits : List Hit) (before : ℕ) (wired recorded : List Level) where
  -- the wire at this time
  abbrev wire_at : ℕ → WireState
  wire_at t = wire_after hits wired t (wire_begun before)

  -- it has come to time t over these lists
  record Stands (t : ℕ) (w : WireState) : Type 0 where
    rest : w.rest ≡ min (rest_before before recorded t) 11
    time : w.time ≡ t
    latest : LatestIs before wired recorded t w.latest

  -- and has the level of this bit time
  abbrev Agrees : ℕ → WireState → Type 0
  Agrees t w = level_then recorded t ≡ wire_level hits w (level_then wired t)

  stands-none : before ≤ 11 → Stands 0 (wire_at 0)
  unfolding wire_after
  stands-none rested = record {
    rest = omega (arith, rested, rest_before-none before recorded);
    time = refl;
    latest = latest-none before wired recorded;
  }

  latest_at : (t : ℕ) (w : WireState) → Stands t w → LatestIs before wired recorded (t + 1) (wire_attempt w (level_then wired t))
  unfolding begins_at
  latest_at t w stands =
      let x : Level = level_then wired t in
      let begun : begins_at before wired recorded t ≡ begins_attempt w.rest x =
      sym (begins_attempt-capped (rest_before before recorded t) x) ∙ ap (λ rest. begins_attempt rest x) (sym stands.rest) in
      latest-more before wired recorded t (begins_attempt w.rest x) w.latest begun stands.latest

  stands-more : (t : ℕ) (w : WireState) → t < length recorded → Stands t w → Agrees t w → Stands (t + 1) (wire_step hits w (level_then wired t))
  stands-more t w within stands agrees = record {
    rest = ap (λ rest. rest_after rest (wire_level hits w (level_then wired t))) stands.rest
        ∙ ap (rest_after (min (rest_before before recorded t) 11)) (sym agrees)
        ∙ sym (rest_after-capped (rest_before before recorded t) (level_then recorded t))
        ∙ ap (λ n. min n 11) (sym (rest_before-more before recorded t within));
    time = ap (λ n. n + 1) stands.time;
    latest = latest_at t w stands;
  }

  -- whether a hit falls on it
  struck_at : (t : ℕ) (w : WireState) → Stands t w →
      (is_struck hits w (level_then wired t) ≡ true) ↔ Any (λ hit. FallsOnWire before wired recorded hit t) hits
  struck_at t w stands =
      subst (λ time. (list_any (hits_wire time (wire_attempt w (level_then wired t))) hits ≡ true) ↔ Any (λ hit. FallsOnWire before wired recorded hit t) hits)
      (sym stands.time) (wire-decided before wired recorded t (wire_attempt w (level_then wired t)) hits (latest_at t w stands))

  pub wire-none : wire_begun before ≡ wire_after hits wired 0 (wire_begun before)
  unfolding wire_after
  wire-none = refl

  pub wire-next : (t : ℕ) → wire_step hits (wire_after hits wired t (wire_begun before)) (level_then wired t) ≡ wire_after hits wired (suc t) (wire_begun before)
  unfolding wire_after
  wire-next t = refl

  stands_all : before ≤ 11 → ((t : ℕ) → t < length recorded → Stands t (wire_at t) → Agrees t (wire_at t)) → (t : ℕ) → t ≤ length recorded → Stands t (wire_at t)
  stands_all rested agrees zero h = stands-none rested
  stands_all rested agrees (suc t) h =
      let last : Stands t (wire_at t) = stands_all rested agrees t (omega (arith, h)) in
      let within : t < length recorded = omega (arith, h) in
      subst (λ k. Stands k (wire_at (suc t))) (add-one t)
      (subst (Stands (t + 1)) (wire-next t) (stands-more t (wire_at t) within last (agrees t within last)))

  -- levels that are recorded are its own
  pub recorded-levels : before ≤ 11 → AreRecorded hits before wired recorded → AreLevelsOf (λ t. wire_then hits wired t (wire_begun before)) recorded
  recorded-levels rested told t within =
      slice_get-get_or recorded t Recessive within ∙ ap Some (agrees t within (stands_all rested agrees t (omega (arith, within))))
    where
      agrees : (t : ℕ) → t < length recorded → Stands t (wire_at t) → Agrees t (wire_at t)
      agrees t within stands =
          inverted-told (is_struck hits (wire_at t) (level_then wired t)) (level_then wired t) (level_then recorded t) (struck_at t (wire_at t) stands) (told t within)

  module _ (rested : before ≤ 11) (own : AreLevelsOf (λ t. wire_then hits wired t (wire_begun before)) recorded) where
    owns : (t : ℕ) → t < length recorded → Agrees t (wire_at t)
    owns t within = get_or_from_slice_get recorded t (wire_then hits wired t (wire_begun before)) Recessive (own t within)

    stands-own : (t : ℕ) → t ≤ length recorded → Stands t (wire_at t)
    stands-own t within = stands_all rested (λ u inside stands. owns u inside) t within

    -- and its own are recorded
    pub levels-recorded : AreRecorded hits before wired recorded
    levels-recorded t within =
        inverted-tells (is_struck hits (wire_at t) (level_then wired t)) (level_then wired t) (level_then recorded t) (struck_at t (wire_at t) (stands-own t (omega (arith, within)))) (owns t within)

    -- for how long it has been recessive after them
    pub rest-behind : (wire_after hits wired (length recorded) (wire_begun before)).rest ≡ min (rest_before before recorded (length recorded)) 11
    rest-behind = (stands-own (length recorded) (omega arith)).rest

-- a disturbed play has the levels of a wire, and each port sees what the wire has it see

pub play-levels : (offers : List Offer) (hits : List Hit) (before after : BusState) (wired recorded : List Level) (seen : List (List Level)) (refused : ℕ) →
    before.rest ≤ 11 → IsDisturbedPlay offers hits before wired recorded seen after refused →
    AreLevelsOf (λ t. wire_then hits wired t (wire_begun before.rest)) recorded
play-levels offers hits before after wired recorded seen refused rested play = recorded-levels hits before.rest wired recorded rested play.records

pub play-views : (offers : List Offer) (hits : List Hit) (before after : BusState) (wired recorded : List Level) (seen : List (List Level)) (refused : ℕ) →
    before.rest ≤ 11 → IsDisturbedPlay offers hits before wired recorded seen after refused →
    (node : ℕ) (levels : List Level) → slice_get seen node ≡ Some levels →
    AreLevelsOf (λ t. wire_seen hits t (wire_then hits wired t (wire_begun before.rest)) node) levels
play-views offers hits before after wired recorded seen refused rested play node levels own t inside =
    let among : node < length seen = slice_get_within seen node levels own in
    let same : get_or seen node [] ≡ levels = get_or_from_slice_get seen node levels [] own in
    let long : length (get_or seen node []) ≡ length recorded = play.seen_long node [] among in
    let within : t < length recorded = omega (arith, inside, long, ap (λ own. length own) same) in
    let here : level_then recorded t ≡ wire_then hits wired t (wire_begun before.rest) =
    get_or_from_slice_get recorded t (wire_then hits wired t (wire_begun before.rest)) Recessive
    (play-levels offers hits before after wired recorded seen refused rested play t within) in
    slice_get-get_or levels t Recessive inside
    ∙ ap Some (inverted-told (list_any (hits_view t node) hits) (level_then recorded t) (level_then levels t) (view-decided t node hits) (play.sees node t levels own within)
    ∙ ap (inverted_if (list_any (hits_view t node) hits)) here)
