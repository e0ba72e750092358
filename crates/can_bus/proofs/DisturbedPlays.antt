-- A call, bit time by bit time, is a disturbed play over whole lists of levels, and there is one.
use Rattle.std.specs.Prelude.{slice_get, All}
use Rattle.std.specs.List.{list_any, range_with_len}
use Rattle.std.proofs.Common.{◌≡◌, ℕ, zero, suc, ◌+◌, ◌<◌, ◌≤◌, List, [], ◌∷◌, ◌++◌, Some, length, map, get_or, take, refl, ap, sym, ◌∙◌, arith, add-one}
use Rattle.std.proofs.lemmas.List.{ext_get_or, length-take-le, take_more}
use Rattle.std.proofs.lemmas.List.FromFn.{length-map-range_with_len, get_or-map-range_with_len}
use Rattle.std.proofs.lemmas.Option.{slice_get-get_or, get_or_from_slice_get, slice_get_within}
use Rattle.can_frame.specs.declared.level.Level.{Level}
use Rattle.can_frame.specs.declared.level.Level.TheVariants.{Recessive}
use Rattle.can_node.specs.Ports.{PortState, port_drives, port_step}
use Rattle.can_terms.specs.declared.hit.Hit.{Hit}
use Rattle.can_bus.specs.declared.offer.Offer.{Offer}
use Rattle.can_bus.specs.Disturbed.{level_then}
use Rattle.can_bus.specs.DisturbedPlay.{IsDisturbedPlay, WasPlayed, all_given, given, played_then, port_played, refusals}
use Rattle.can_bus.specs.Offers.{call_after, call_level, call_refused, offered_now, all_made}
use Rattle.can_bus.specs.Run.{AreLevelsOf, BusState, CallState, all_sampled, bus_step, hits_view, inverted_if, recorded as recorded_by, wired_level}
use Rattle.can_bus.specs.Wired.{wired as wired_of}
use Rattle.can_bus.specs.WireSteps.{WireState, wire_after, wire_begun, wire_level, wire_of, wire_step, wire_then}
use Rattle.can_bus.proofs.CallLemmas.{call-none, call-time}
use Rattle.can_bus.proofs.WirePlays.{bus-after, bus-level, levels-recorded, recorded-levels, rest-behind, wire-next, wire-none}
use Rattle.can_bus.proofs.DisturbedTimes.{inverted-tells, inverted-told, view-decided}
use Rattle.can_bus.proofs.GivenPorts.{call-refusals, made-given}

-- Ports that have seen this many levels.

port_played-last : (offers : List Offer) (t node : ℕ) (p : PortState) (levels : List Level) (x : Level) →
    port_played offers t node p (levels ++ x ∷ []) ≡ port_step (given offers (t + length levels) node (port_played offers t node p levels)) x
port_played-last offers t node p [] x = ap (λ u. port_step (given offers u node p) x) (let e : t ≡ t + 0 = omega arith in e)
port_played-last offers t node p (y ∷ levels) x =
    port_played-last offers (t + 1) node (port_step (given offers t node p) y) levels x
    ∙ ap (λ u. port_step (given offers u node (port_played offers (t + 1) node (port_step (given offers t node p) y) levels)) x)
    (let e : (t + 1) + length levels ≡ t + suc (length levels) = omega arith in e)

port_played-more : (offers : List Offer) (node : ℕ) (p : PortState) (levels : List Level) (t : ℕ) → t < length levels →
    port_step (given offers t node (port_played offers 0 node p (take t levels))) (level_then levels t) ≡ port_played offers 0 node p (take (t + 1) levels)
port_played-more offers node p levels t within =
    ap (λ u. port_step (given offers u node (port_played offers 0 node p (take t levels))) (level_then levels t))
    (let e : t ≡ 0 + length (take t levels) = omega (arith, length-take-le t levels (omega (arith, within))) in e)
    ∙ sym (ap (port_played offers 0 node p) (take_more levels t Recessive within) ∙ port_played-last offers 0 node p (take t levels) (level_then levels t))

port_played-none : (offers : List Offer) (node : ℕ) (p : PortState) (levels : List Level) → p ≡ port_played offers 0 node p (take 0 levels)
port_played-none offers node p [] = refl
port_played-none offers node p (x ∷ levels) = refl

played_then-none : (offers : List Offer) (k : ℕ) (ports : List PortState) (seen : List (List Level)) → length seen ≡ length ports → ports ≡ played_then offers 0 k ports seen
played_then-none offers k [] [] long = refl
played_then-none offers k [] (levels ∷ seen) long = refl
played_then-none offers k (p ∷ ports) [] long = absurd (omega (arith, long))
played_then-none offers k (p ∷ ports) (levels ∷ seen) long =
    ap (λ q. q ∷ ports) (port_played-none offers k p levels) ∙ ap (λ qs. port_played offers 0 k p (take 0 levels) ∷ qs) (played_then-none offers (k + 1) ports seen (omega (arith, long)))

-- all ports sample the levels that they see
played_then-more : (offers : List Offer) (hits : List Hit) (t : ℕ) (x : Level) (k : ℕ) (ports : List PortState) (seen : List (List Level)) →
    ((port : ℕ) (levels : List Level) → slice_get seen port ≡ Some levels → t < length levels) →
    ((port number : ℕ) (levels : List Level) → k + port ≡ number → slice_get seen port ≡ Some levels → level_then levels t ≡ inverted_if (list_any (hits_view t number) hits) x) →
    all_sampled hits t x k (all_given offers t k (played_then offers t k ports seen)) ≡ played_then offers (t + 1) k ports seen
played_then-more offers hits t x k [] [] long sees = refl
played_then-more offers hits t x k [] (levels ∷ seen) long sees = refl
played_then-more offers hits t x k (p ∷ ports) [] long sees = refl
played_then-more offers hits t x k (p ∷ ports) (levels ∷ seen) long sees =
    ap (λ q. q ∷ all_sampled hits t x (k + 1) (all_given offers t (k + 1) (played_then offers t (k + 1) ports seen)))
    (ap (port_step (given offers t k (port_played offers 0 k p (take t levels)))) (sym (sees 0 k levels (omega arith) refl)) ∙ port_played-more offers k p levels t (long 0 levels refl))
    ∙ ap (λ qs. port_played offers 0 k p (take (t + 1) levels) ∷ qs)
    (played_then-more offers hits t x (k + 1) ports seen (λ port. long (suc port)) (λ port number own e. sees (suc port) number own (omega (arith, e))))

-- what a port of this number sees in a bit time of a run
abbrev view_of : List Hit → ℕ → CallState → ℕ → Level
view_of hits t c port = inverted_if (list_any (hits_view t port) hits) (recorded_by hits c)

module _ (offers : List Offer) (hits : List Hit) (before : BusState) (wired recorded : List Level) (seen : List (List Level)) where
  -- the call in bit time t, and with the offers of that made
  abbrev call_at : ℕ → CallState
  call_at t = call_after offers hits t before

  abbrev now_at : ℕ → CallState
  now_at t = offered_now offers (call_at t)

  -- its wire
  abbrev wire_at : ℕ → WireState
  wire_at t = wire_after hits wired t (wire_begun before.rest)

  -- it has come to time t over these lists
  record Stands (t : ℕ) : Type 0 where
    ports : (call_at t).bus.ports ≡ played_then offers t 0 before.ports seen
    wire : wire_of (call_at t) ≡ wire_at t

  -- the lists have the levels of this bit time
  record Agrees (t : ℕ) : Type 0 where
    wires : level_then wired t ≡ wired_level (now_at t)
    records : level_then recorded t ≡ recorded_by hits (now_at t)
    views : (port : ℕ) (levels : List Level) → slice_get seen port ≡ Some levels → level_then levels t ≡ view_of hits t (now_at t) port

  record Fits : Type 0 where
    long : length wired ≡ length recorded
    seen_long : All (λ levels. length levels ≡ length recorded) seen
    each_port : length seen ≡ length before.ports
    rest : before.rest ≤ 11

  long_at : Fits → (t port : ℕ) (levels : List Level) → t < length recorded → slice_get seen port ≡ Some levels → t < length levels
  long_at fits t port levels within own =
      let inside : port < length seen = slice_get_within seen port levels own in
      let same : get_or seen port [] ≡ levels = get_or_from_slice_get seen port levels [] own in
      let long : length (get_or seen port []) ≡ length recorded = fits.seen_long port [] inside in
      omega (arith, within, long, ap (λ own. length own) same)

  -- the ports, with the offers made
  given_at : (t : ℕ) → Stands t → (now_at t).bus.ports ≡ all_given offers t 0 (played_then offers t 0 before.ports seen)
  given_at t stands =
      ap (λ time. all_made offers time (call_at t).bus.ports) (call-time offers hits before t) ∙ ap (all_made offers t) stands.ports ∙ made-given offers t (played_then offers t 0 before.ports seen)

  -- what is recorded is the level of the wire
  record_at : (t : ℕ) → Stands t → level_then wired t ≡ wired_level (now_at t) → recorded_by hits (now_at t) ≡ wire_then hits wired t (wire_begun before.rest)
  record_at t stands here =
      bus-level hits (now_at t) ∙ ap (λ w. wire_level hits w (wired_level (now_at t))) stands.wire ∙ ap (wire_level hits (wire_at t)) (sym here)

  stands-none : Fits → Stands 0
  stands-none fits = record {
    ports = ap (λ (c : CallState). c.bus.ports) (call-none offers hits before) ∙ played_then-none offers 0 before.ports seen fits.each_port;
    wire = ap wire_of (call-none offers hits before) ∙ wire-none hits before.rest wired recorded;
  }

  next_at : (t : ℕ) → call_at (suc t) ≡ bus_step hits (now_at t)
  unfolding call_after
  next_at t = refl

  sampled_at : (t : ℕ) → (bus_step hits (now_at t)).bus.ports ≡ all_sampled hits (call_at t).time (recorded_by hits (now_at t)) 0 (now_at t).bus.ports
  unfolding bus_step
  sampled_at t = refl

  stands-more : Fits → (t : ℕ) → t < length recorded → Stands t → Agrees t → Stands (suc t)
  stands-more fits t within stands agrees =
      let x : Level = recorded_by hits (now_at t) in
      record {
        ports = ap (λ (c : CallState). c.bus.ports) (next_at t) ∙ sampled_at t
            ∙ ap (λ time. all_sampled hits time x 0 (now_at t).bus.ports) (call-time offers hits before t) ∙ ap (all_sampled hits t x 0) (given_at t stands)
            ∙ played_then-more offers hits t x 0 before.ports seen (λ port levels own. long_at fits t port levels within own)
            (λ port number levels e own. agrees.views port levels own ∙ ap (λ n. view_of hits t (now_at t) n) (let same : port ≡ number = omega (arith, e) in same))
            ∙ ap (λ k. played_then offers k 0 before.ports seen) (add-one t);
        wire = ap wire_of (next_at t) ∙ bus-after hits (now_at t) ∙ ap (λ w. wire_step hits w (wired_level (now_at t))) stands.wire
            ∙ ap (wire_step hits (wire_at t)) (sym agrees.wires) ∙ wire-next hits before.rest wired recorded t;
      }

  stands_all : Fits → ((t : ℕ) → t < length recorded → Stands t → Agrees t) → (t : ℕ) → t ≤ length recorded → Stands t
  stands_all fits agrees zero h = stands-none fits
  stands_all fits agrees (suc t) h =
      let last : Stands t = stands_all fits agrees t (omega (arith, h)) in
      let within : t < length recorded = omega (arith, h) in
      stands-more fits t within last (agrees t within last)

  -- a disturbed run has the levels of the run
  module _ (after : BusState) (refused : ℕ) (rested : before.rest ≤ 11) (run : IsDisturbedPlay offers hits before wired recorded seen after refused) where
    own_levels : AreLevelsOf (λ t. wire_then hits wired t (wire_begun before.rest)) recorded
    own_levels = recorded-levels hits before.rest wired recorded rested run.records

    agrees_of : (t : ℕ) → t < length recorded → Stands t → Agrees t
    agrees_of t within stands =
        let here : level_then wired t ≡ wired_level (now_at t) = run.drives t within ∙ sym (ap (λ ports. wired_of (map port_drives ports)) (given_at t stands)) in
        let told : level_then recorded t ≡ recorded_by hits (now_at t) =
        get_or_from_slice_get recorded t (wire_then hits wired t (wire_begun before.rest)) Recessive (own_levels t within) ∙ sym (record_at t stands here) in
        record {
          wires = here;
          records = told;
          views = λ port levels own.
              inverted-told (list_any (hits_view t port) hits) (level_then recorded t) (level_then levels t) (view-decided t port hits) (run.sees port t levels own within)
              ∙ ap (inverted_if (list_any (hits_view t port) hits)) told;
        }

    stands_at : (t : ℕ) → t ≤ length recorded → Stands t
    stands_at t within = stands_all (record { long = run.long; seen_long = run.seen_long; each_port = run.each_port; rest = rested }) agrees_of t within

    agrees_at : (t : ℕ) → t < length recorded → Agrees t
    agrees_at t within = agrees_of t within (stands_at t (omega (arith, within)))

    rest_at : after.rest ≡ (call_at (length recorded)).bus.rest
    rest_at = run.keeps_rest ∙ sym (rest-behind hits before.rest wired recorded rested own_levels) ∙ sym (ap (λ (w : WireState). w.rest) (stands_at (length recorded) (omega arith)).wire)

  -- the same number of offers are refused
  refused_as : ((t : ℕ) → t ≤ length recorded → Stands t) → call_refused offers hits (length recorded) before ≡ refusals offers before.ports seen (length recorded) [] offers
  refused_as stands = call-refusals offers hits before seen (length recorded) (λ t within. (stands t (omega (arith, within))).ports)

  -- lists that have the levels of the run are a disturbed run
  run_of : Fits → ((t : ℕ) → t < length recorded → Agrees t) → IsDisturbedPlay offers hits before wired recorded seen (call_at (length recorded)).bus (call_refused offers hits (length recorded) before)
  run_of fits agrees =
      let stands = λ (t : ℕ) (within : t ≤ length recorded). stands_all fits (λ u inside _. agrees u inside) t within in
      let whole : Stands (length recorded) = stands (length recorded) (omega arith) in
      let own : AreLevelsOf (λ t. wire_then hits wired t (wire_begun before.rest)) recorded =
      λ t within. slice_get-get_or recorded t Recessive within ∙ ap Some ((agrees t within).records ∙ record_at t (stands t (omega (arith, within))) (agrees t within).wires) in
      record {
        long = fits.long;
        seen_long = fits.seen_long;
        each_port = fits.each_port;
        drives = λ t within. (agrees t within).wires ∙ ap (λ ports. wired_of (map port_drives ports)) (given_at t (stands t (omega (arith, within))));
        records = levels-recorded hits before.rest wired recorded fits.rest own;
        sees = λ port t levels own within.
            inverted-tells (list_any (hits_view t port) hits) (level_then recorded t) (level_then levels t) (view-decided t port hits)
            ((agrees t within).views port levels own ∙ ap (inverted_if (list_any (hits_view t port) hits)) (sym (agrees t within).records));
        leads = whole.ports;
        keeps_rest = ap (λ (w : WireState). w.rest) whole.wire ∙ rest-behind hits before.rest wired recorded fits.rest own;
        refuses = refused_as stands;
      }

-- The levels of a call.

-- the call in this bit time, with its offers made
abbrev call_then : List Offer → List Hit → BusState → ℕ → CallState
call_then offers hits before t = offered_now offers (call_after offers hits t before)

-- the levels on the wire
abbrev wires_of : List Offer → List Hit → BusState → ℕ → List Level
wires_of offers hits before n = map (λ t. wired_level (call_then offers hits before t)) (range_with_len 0 n)

-- what the port of this number sees
abbrev view_line : List Offer → List Hit → BusState → ℕ → ℕ → List Level
view_line offers hits before n port = map (λ t. view_of hits t (call_then offers hits before t) port) (range_with_len 0 n)

-- what each port sees
abbrev views_of : List Offer → List Hit → BusState → ℕ → List (List Level)
views_of offers hits before n = map (view_line offers hits before n) (range_with_len 0 (length before.ports))

view_at : (offers : List Offer) (hits : List Hit) (before : BusState) (n port : ℕ) (levels : List Level) → slice_get (views_of offers hits before n) port ≡ Some levels → levels ≡ view_line offers hits before n port
view_at offers hits before n port levels own =
    let most : length (views_of offers hits before n) ≡ length before.ports = length-map-range_with_len (view_line offers hits before n) 0 (length before.ports) in
    let inside : port < length (views_of offers hits before n) = slice_get_within (views_of offers hits before n) port levels own in
    let within : port < length before.ports = omega (arith, inside, most) in
    sym (get_or_from_slice_get (views_of offers hits before n) port levels [] own)
    ∙ get_or-map-range_with_len (view_line offers hits before n) 0 (length before.ports) port port [] within (omega arith)

views_long : (offers : List Offer) (hits : List Hit) (before : BusState) (n : ℕ) → All (λ levels. length levels ≡ n) (views_of offers hits before n)
views_long offers hits before n port d inside =
    let most : length (views_of offers hits before n) ≡ length before.ports = length-map-range_with_len (view_line offers hits before n) 0 (length before.ports) in
    let within : port < length before.ports = omega (arith, inside, most) in
    ap (λ levels. length levels) (get_or-map-range_with_len (view_line offers hits before n) 0 (length before.ports) port port d within (omega arith))
    ∙ length-map-range_with_len (λ t. view_of hits t (call_then offers hits before t) port) 0 n

-- a call is a disturbed play
pub call-played : (offers : List Offer) (hits : List Hit) (before : BusState) (recorded : List Level) → before.rest ≤ 11 →
    ((t : ℕ) → t < length recorded → slice_get recorded t ≡ Some (call_level offers hits t before)) → WasPlayed offers hits before recorded (call_after offers hits (length recorded) before).bus (call_refused offers hits (length recorded) before)
unfolding call_level
call-played offers hits before recorded rested told =
    let wired : List Level = wires_of offers hits before (length recorded) in
    let seen : List (List Level) = views_of offers hits before (length recorded) in
    let fits : Fits offers hits before wired recorded seen = record {
      long = length-map-range_with_len (λ t. wired_level (call_then offers hits before t)) 0 (length recorded);
      seen_long = views_long offers hits before (length recorded);
      each_port = length-map-range_with_len (view_line offers hits before (length recorded)) 0 (length before.ports);
      rest = rested;
    } in (
      wired,
      seen,
      run_of offers hits before wired recorded seen fits (λ t within. record {
        wires = get_or-map-range_with_len (λ u. wired_level (call_then offers hits before u)) 0 (length recorded) t t Recessive within (omega arith);
        records = get_or_from_slice_get recorded t (recorded_by hits (call_then offers hits before t)) Recessive (told t within);
        views = λ port levels own.
            ap (λ own. level_then own t) (view_at offers hits before (length recorded) port levels own)
            ∙ get_or-map-range_with_len (λ u. view_of hits u (call_then offers hits before u) port) 0 (length recorded) t t Recessive within (omega arith);
      }),
    )

-- every disturbed play has its levels
pub played-levels : (offers : List Offer) (hits : List Hit) (before after : BusState) (recorded : List Level) (refused : ℕ) → before.rest ≤ 11 → WasPlayed offers hits before recorded after refused →
    (t : ℕ) → t < length recorded → slice_get recorded t ≡ Some (call_level offers hits t before)
unfolding call_level
played-levels offers hits before after recorded refused rested run t within =
    let agrees : Agrees offers hits before run.0 recorded run.1 t = agrees_at offers hits before run.0 recorded run.1 after refused rested run.2 t within in
    slice_get-get_or recorded t Recessive within ∙ ap Some agrees.records

same_bus : (a b : BusState) → a.ports ≡ b.ports → a.rest ≡ b.rest → a ≡ b
same_bus a b ports rest =
    ap (λ ps. let bus : BusState = record { ports = ps; rest = a.rest } in bus) ports ∙ ap (λ r. let bus : BusState = record { ports = b.ports; rest = r } in bus) rest

-- its end
pub played-end : (offers : List Offer) (hits : List Hit) (before after : BusState) (recorded : List Level) (refused : ℕ) → before.rest ≤ 11 → WasPlayed offers hits before recorded after refused →
    after ≡ (call_after offers hits (length recorded) before).bus
played-end offers hits before after recorded refused rested run =
    let stands = stands_at offers hits before run.0 recorded run.1 after refused rested run.2 (length recorded) (omega arith) in
    same_bus after (call_after offers hits (length recorded) before).bus (run.2.leads ∙ sym stands.ports) (rest_at offers hits before run.0 recorded run.1 after refused rested run.2)

-- and refuses the same number of offers
pub played-refused : (offers : List Offer) (hits : List Hit) (before after : BusState) (recorded : List Level) (refused : ℕ) → before.rest ≤ 11 → WasPlayed offers hits before recorded after refused →
    refused ≡ call_refused offers hits (length recorded) before
played-refused offers hits before after recorded refused rested run =
    run.2.refuses ∙ sym (refused_as offers hits before run.0 recorded run.1 (stands_at offers hits before run.0 recorded run.1 after refused rested run.2))

-- two disturbed plays of the same number of bit times are one
pub played-one : (offers : List Offer) (hits : List Hit) (before one other : BusState) (wired wires recorded records : List Level) (seen views : List (List Level)) (few many : ℕ) → before.rest ≤ 11 →
    IsDisturbedPlay offers hits before wired recorded seen one few → IsDisturbedPlay offers hits before wires records views other many → length recorded ≡ length records →
    (recorded ≡ records) × (one ≡ other) × (wired ≡ wires) × (seen ≡ views) × (few ≡ many)
played-one offers hits before one other wired wires recorded records seen views few many rested first second long =
    let agrees = λ (t : ℕ) (within : t < length recorded). agrees_at offers hits before wired recorded seen one few rested first t within in
    let agree = λ (t : ℕ) (within : t < length recorded). agrees_at offers hits before wires records views other many rested second t (omega (arith, within, long)) in (
      ext_get_or Recessive recorded records long (λ t within. (agrees t within).records ∙ sym (agree t within).records),
      played-end offers hits before one recorded few rested (wired, seen, first)
          ∙ ap (λ n. (call_after offers hits n before).bus) long ∙ sym (played-end offers hits before other records many rested (wires, views, second)),
      ext_get_or Recessive wired wires (first.long ∙ long ∙ sym second.long)
          (λ t within. let inside : t < length recorded = omega (arith, within, first.long) in (agrees t inside).wires ∙ sym (agree t inside).wires),
      ext_get_or [] seen views (first.each_port ∙ sym second.each_port)
          (λ port within.
          let own : slice_get seen port ≡ Some (get_or seen port []) = slice_get-get_or seen port [] within in
          let inside : port < length views = omega (arith, within, first.each_port, second.each_port) in
          let other_own : slice_get views port ≡ Some (get_or views port []) = slice_get-get_or views port [] inside in
          let size : length (get_or seen port []) ≡ length recorded = first.seen_long port [] within in
          let other_size : length (get_or views port []) ≡ length records = second.seen_long port [] inside in
          ext_get_or Recessive (get_or seen port []) (get_or views port []) (size ∙ long ∙ sym other_size)
          (λ t h. let now : t < length recorded = omega (arith, h, size) in
          (agrees t now).views port (get_or seen port []) own ∙ sym ((agree t now).views port (get_or views port []) other_own))),
      played-refused offers hits before one recorded few rested (wired, seen, first)
          ∙ ap (λ n. call_refused offers hits n before) long ∙ sym (played-refused offers hits before other records many rested (wires, views, second)),
    )
