use Rattle.std.specs.Prelude.{◌⊎◌, IfErr, Ok}
use Rattle.std.proofs.Common.{◌≡◌, ◌+◌, ◌-◌, true, false, Some, length, map, get_or, drop, inl, inr, arith, rules, refl, sym, ap, subst, ◌∙◌}
use Rattle.std.proofs.lemmas.Bool.{cases_lt}
use Rattle.std.proofs.lemmas.Grind.{elements}
use Rattle.std.proofs.lemmas.List.{length-drop}
use Rattle.std.proofs.lemmas.Option.{slice_get-get_or}
use Rattle.can_frame.specs.declared.level.Level.TheVariants.{Recessive}
use Rattle.can_bus.specs.DisturbedPlay.{WasPlayed}
use Rattle.can_bus.specs.declared.call.Call.{Call}
use Rattle.can_terms.specs.Hits.{AreTaken}
use Rattle.can_bus.specs.Inputs.{IsFirstHitFault}
use Rattle.can_bus.specs.Offers.{IsFirstOfferFault, call_after, call_level, call_refused, offered_now, AreOffered, refused_at}
use Rattle.can_bus.specs.Run.{AreLevelsOf, CallState}
use Rattle.can_bus.specs.State.{bus_state}
use Rattle.can_bus.specs.Walks.{IsCall, IsReached, call_on}
use Rattle.can_bus.proofs.DisturbedPlays.{call-played}
use Rattle.can_bus.proofs.CallLemmas.{call-none, refused-none, refused-several}
use Rattle.can_bus.proofs.HitOrder.{taken-rising}
use Rattle.can_bus.proofs.NetworkCalls.{network-active, network-counts, network-has, network-logs, network-missed, network-refused, network-rests, network-tally, network-track, network-whole, untaken, valid-ports}
use Rattle.can_bus.proofs.OfferLemmas.{reached-first}
use Rattle.can_bus.proofs.StepLemmas.{first_ready, same_call}
use Rattle.can_bus.proofs.bus.Bus.play_disturbed.Goals as goal

pub returns-in_err-check_call-clause-taken : goal.returns-in_err-check_call-clause-taken
returns-in_err-check_call-clause-taken g c =
    let size : c.len.result ≡ length c.args.self.now.ports.items = search rules in
    let not_taken : AreOffered (length c.args.self.now.ports.items) c.args.offers.now × AreTaken (length c.args.self.now.ports.items) c.args.hits.now → ⊥ =
    λ both. let e : false ≡ true = c.in_err-check_call.ensures.taken.1 (subst (λ n. AreOffered n c.args.offers.now × AreTaken n c.args.hits.now) (sym size) both) in cc in
    (search rules, λ both. absurd (not_taken both))

pub returns-in_err-check_call-clause-fault : goal.returns-in_err-check_call-clause-fault
returns-in_err-check_call-clause-fault g c =
    let size : c.len.result ≡ length c.args.self.now.ports.items = search rules in
    subst (λ n. IfErr c.from_residual.result (λ fault. IsFirstOfferFault n c.args.offers.now fault ⊎ (AreOffered n c.args.offers.now × IsFirstHitFault n c.args.hits.now fault))) size (search rules)

pub returns-in_err-check_call-clause-answer : goal.returns-in_err-check_call-clause-answer
returns-in_err-check_call-clause-answer g c = untaken g.P.Port.port c.args.self.now.ports.items c.len.result _ c.args.offers.now c.args.hits.now (search rules) c.in_err-check_call.ensures.taken _

pub returns-in_err-check_call-clause-course : goal.returns-in_err-check_call-clause-course
returns-in_err-check_call-clause-course g c = untaken g.P.Port.port c.args.self.now.ports.items c.len.result _ c.args.offers.now c.args.hits.now (search rules) c.in_err-check_call.ensures.taken _

pub returns-in_err-check_call-clause-network_has : goal.returns-in_err-check_call-clause-network_has
returns-in_err-check_call-clause-network_has g c = untaken g.P.Port.port c.args.self.now.ports.items c.len.result _ c.args.offers.now c.args.hits.now (search rules) c.in_err-check_call.ensures.taken _

pub returns-in_err-check_call-clause-network_whole : goal.returns-in_err-check_call-clause-network_whole
returns-in_err-check_call-clause-network_whole g c = untaken g.P.Port.port c.args.self.now.ports.items c.len.result _ c.args.offers.now c.args.hits.now (search rules) c.in_err-check_call.ensures.taken _

pub returns-in_err-check_call-clause-network_tally : goal.returns-in_err-check_call-clause-network_tally
returns-in_err-check_call-clause-network_tally g c = untaken g.P.Port.port c.args.self.now.ports.items c.len.result _ c.args.offers.now c.args.hits.now (search rules) c.in_err-check_call.ensures.taken _

pub returns-in_err-check_call-clause-network_rests : goal.returns-in_err-check_call-clause-network_rests
returns-in_err-check_call-clause-network_rests g c = untaken g.P.Port.port c.args.self.now.ports.items c.len.result _ c.args.offers.now c.args.hits.now (search rules) c.in_err-check_call.ensures.taken _

pub returns-in_err-check_call-clause-network_active : goal.returns-in_err-check_call-clause-network_active
returns-in_err-check_call-clause-network_active g c = untaken g.P.Port.port c.args.self.now.ports.items c.len.result _ c.args.offers.now c.args.hits.now (search rules) c.in_err-check_call.ensures.taken _

pub loop-place-init : goal.loop-place-init
loop-place-init g c =
    let bus = bus_state g.P.Port.port c.args.self.now in
    record {
      state = ap (λ (k : Call). let now : CallState = record { bus = bus_state g.P.Port.port c.args.self.now; time = k.time; latest = k.latest } in now) c.new-call.ensures
          ∙ sym (call-none c.args.offers.now c.args.hits.now bus);
      levels = λ t d h. absurd (omega arith);
      count = refused-none c.args.offers.now c.args.hits.now bus;
      reached = reached-first c.args.offers.now;
      refused = omega arith;
      size = refl;
      call = subst (IsCall c.args.hits.now) (sym c.new-call.ensures) (first_ready c.args.hits.now);
      time = ap (λ (k : Call). k.time) c.new-call.ensures;
      long = refl;
      within = omega arith;
    }

pub make_all-requires-clause-offered : goal.make_all-requires-clause-offered
make_all-requires-clause-offered g c =
    let size : c.len.result ≡ length c.args.self.now.ports.items = search rules in
    subst (λ n. AreOffered n c.args.offers.now) (size ∙ sym c.loop-place.invariant.size) (c.in_ok-check_call.ensures.taken.0 (refl {a = true})).0

pub advance-place-requires-clause-offered : goal.advance-place-requires-clause-offered
advance-place-requires-clause-offered g c =
    let size : c.len.result ≡ length c.args.self.now.ports.items = search rules in
    subst (λ n. AreOffered n c.args.offers.now) (size ∙ sym (c.make_all.ensures.size ∙ c.loop-place.invariant.size)) (c.in_ok-check_call.ensures.taken.0 (refl {a = true})).0

pub advance-place-requires-clause-rising : goal.advance-place-requires-clause-rising
advance-place-requires-clause-rising g c = taken-rising c.len.result c.args.hits.now (c.in_ok-check_call.ensures.taken.0 (refl {a = true})).1

pub loop-place-preserved : goal.loop-place-preserved
loop-place-preserved g c =
    let S = g.P.Port.port in
    let offers = c.args.offers.now in
    let hits = c.args.hits.now in
    let bus = bus_state g.P.Port.port c.args.self.now in
    let start = call_on (bus_state g.P.Port.port c.make_all.new.self) c.loop-place.call in
    let time : c.loop-place.call.time ≡ c.loop-place.place = c.loop-place.invariant.time in
    let size : length c.loop-place.rec ≡ length c.args.rec.now = c.loop-place.invariant.long in
    let left : length (drop c.loop-place.place c.loop-place.rec) + c.loop-place.place ≡ length c.loop-place.rec = omega (arith, length-drop c.loop-place.place c.loop-place.rec) in
    let state-is : call_on (bus_state g.P.Port.port c.loop-place.self) c.loop-place.call ≡ call_after offers hits c.loop-place.place bus = c.loop-place.invariant.state in
    let made : start ≡ offered_now offers (call_after offers hits c.loop-place.place bus) =
    same_call {time = c.loop-place.call.time} {a = c.loop-place.call.latest} c.make_all.ensures.ports c.make_all.ensures.rest refl refl ∙ ap (offered_now offers) state-is in
    let begun : start ≡ offered_now offers (call_after offers hits c.loop-place.call.time bus) = made ∙ ap (λ t. offered_now offers (call_after offers hits t bus)) (sym time) in
    let one = refused-several offers hits bus c.loop-place.place 1 start made (λ t ports after before. absurd (omega (arith, after, before))) 1 (omega arith) (omega arith) in
    let first : c.make_all.new.progress.refused ≡ call_refused offers hits (c.loop-place.call.time + 1) bus =
    c.make_all.ensures.count ∙ ap (λ t. c.loop-place.progress.refused + refused_at offers t (map S c.loop-place.self.ports.items)) time
    ∙ ap (λ k. k + refused_at offers c.loop-place.place (map S c.loop-place.self.ports.items)) c.loop-place.invariant.count
    ∙ ap (λ (k : CallState). call_refused offers hits c.loop-place.place bus + refused_at offers c.loop-place.place k.bus.ports) state-is
    ∙ sym one ∙ ap (λ t. call_refused offers hits (t + 1) bus) (sym time) in
    record {
      state = c.advance-place.ensures.after bus begun ∙ ap (λ t. call_after offers hits (t + c.advance-place.result) bus) time;
      levels = λ t d h. elim (cases_lt t c.loop-place.place) [
        | inl early ↦
            let before : get_or c.loop-place.rec t d ≡ call_level c.args.offers.now c.args.hits.now t (bus_state g.P.Port.port c.args.self.now) = c.loop-place.invariant.levels t d early in
            first_of (grind (arith, elements), search rules)
        | inr late ↦
            let behind : c.loop-place.call.time + (t - c.loop-place.place) ≡ t = omega (arith, time, late) in
            let now : get_or c.advance-place.new.rec (t - c.loop-place.place) d ≡ call_level c.args.offers.now c.args.hits.now t (bus_state g.P.Port.port c.args.self.now) =
            c.advance-place.ensures.levels bus begun (t - c.loop-place.place) d (omega (arith, late, h)) ∙ ap (λ k. call_level offers hits k bus) behind in
            first_of (grind (arith, elements), search rules)
      ];
      count = c.advance-place.ensures.count bus begun first ∙ ap (λ t. call_refused offers hits (t + c.advance-place.result) bus) time;
      reached = subst (λ t. IsReached offers c.advance-place.new.progress.place (t + c.advance-place.result)) time c.advance-place.ensures.reached;
      refused = c.advance-place.ensures.refused;
      size = c.advance-place.ensures.ports ∙ c.make_all.ensures.size ∙ c.loop-place.invariant.size;
      call = c.advance-place.ensures.call;
      time = omega (arith, c.advance-place.ensures.time, time);
      long = first_of (omega arith, grind (arith, elements), search rules);
      within = first_of (omega (arith, c.advance-place.ensures.most, left, size), search rules);
    }

pub returns : goal.returns
returns g c =
    let S = g.P.Port.port in
    let items = c.args.self.now.ports.items in
    let offers = c.args.offers.now in
    let hits = c.args.hits.now in
    let bus = bus_state S c.args.self.now in
    let size : c.len.result ≡ length c.args.self.now.ports.items = search rules in
    let valid = valid-ports S (λ x. g.met.P.Port.valid x) items in
    let known = c.in_ok-check_call.ensures.known (refl {a = true}) in
    let end : c.loop-place.place ≡ length c.loop-place.rec = omega arith in
    let ran : bus_state S c.loop-place.self ≡ (call_after offers hits (length c.loop-place.rec) bus).bus =
    ap (λ (k : CallState). k.bus) c.loop-place.invariant.state ∙ ap (λ n. (call_after offers hits n bus).bus) end in
    let recorded : AreLevelsOf (λ t. call_level offers hits t bus) c.loop-place.rec =
    λ t h. slice_get-get_or c.loop-place.rec t Recessive h ∙ ap Some (c.loop-place.invariant.levels t Recessive (omega (arith, h, end))) in
    let counted : c.loop-place.progress.refused ≡ call_refused offers hits (length c.loop-place.rec) bus = c.loop-place.invariant.count ∙ ap (λ n. call_refused offers hits n bus) end in
    record {
      taken = (λ e. subst (λ n. AreOffered n offers × AreTaken n hits) size (c.in_ok-check_call.ensures.taken.0 (refl {a = true})), λ both. refl {a = true});
      fault = search rules;
      bus = ran;
      levels = recorded;
      disturbed = λ rested.
          subst (λ after. WasPlayed offers hits bus c.loop-place.rec after c.loop-place.progress.refused) (sym ran)
          (subst (λ count. WasPlayed offers hits bus c.loop-place.rec (call_after offers hits (length c.loop-place.rec) bus).bus count) (sym counted) (call-played offers hits bus c.loop-place.rec rested recorded));
      count = counted;
      known = c.in_ok-check_call.ensures.known;
      answer = λ course call. ap Ok (c.loop-place.invariant.count ∙ network-refused offers hits course bus valid known call c.loop-place.place);
      course = λ course call t within. recorded t within ∙ ap Some (network-track offers hits course bus valid known call t);
      network_logs = λ course call. network-logs offers hits course bus valid known call _ _ ran;
      network_has = λ course call. network-has offers hits course bus valid known call _ _ ran;
      network_whole = λ course call past. network-whole offers hits course bus valid known call _ _ ran past;
      network_tally = λ course call past. network-tally offers hits course bus valid known call _ _ ran past;
      network_active = λ course call. network-active offers hits course bus valid known call _ _ ran;
      network_counts = λ course call errors few. network-counts offers hits course bus valid known call _ _ ran errors few;
      network_missed = λ course call. network-missed offers hits course bus valid known call _ _ ran;
      network_rests = λ course call past. network-rests offers hits course bus valid known call _ _ ran past;
      unchanged = search rules;
      unrecorded = search rules;
    }
