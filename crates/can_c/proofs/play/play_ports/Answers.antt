use Rattle.std.proofs.Common.{◌≡◌, ◌≤◌, Some, length, map, inl, inr, refl, sym, ap, subst, ◌∙◌, arith}
use Rattle.std.proofs.lemmas.List.{take_all, take_at}
use Rattle.std.proofs.lemmas.Result.{err_from_is_err_and}
use Rattle.can_frame.specs.Levels.{level_code, levels_of_codes}
use Rattle.can_c.specs.declared.status.Status.{Status}
use Rattle.can_c.specs.Play.{IsPlayRefusal, bus_held, held_in, ports_held, ports_refusal}
use Rattle.can_c.specs.PlainInputs.{hits_of_plain, offers_of_plain}
use Rattle.can_c.proofs.PlayLemmas.{levels-of, network-given, network-same, played-is, played-levels, refused-ports, refused-run}
use Rattle.can_c.proofs.play.play_ports.Goals as goal

pub returns-in_err-check_ports-clause-why : goal.returns-in_err-check_ports-clause-why
returns-in_err-check_ports-clause-why c =
    let p = err_from_is_err_and c.from_residual.result c.from_residual.ensures.1 in
    rw p.1 (inr (inl (refused-ports (held_in c.args.handles.now) c.args.offers.now c.args.hits.now p.0 (c.in_err-check_ports.ensures.why ∙ ap Some (sym p.2)))))

pub run-requires : goal.run-requires
run-requires c = ap ports_refusal c.in_ok-check_ports.ensures.unchanged ∙ c.in_ok-check_ports.ensures.fits

-- what the bus says of the offers and hits that were read holds of the plain ones
pub returns-in_err-count-clause-why : goal.returns-in_err-count-clause-why
returns-in_err-count-clause-why c =
    let p = err_from_is_err_and c.from_residual-in_err-count.result c.from_residual-in_err-count.ensures.1 in
    rw p.1 (subst (λ (why : Status). IsPlayRefusal (held_in c.args.handles.now) c.args.offers.now c.args.hits.now why) (sym p.2)
    (refused-run c.args.handles.now c.check_ports.new.handles c.args.offers.now c.args.hits.now c.deref.result.now c.deref-2.result.now c.in_ok-check_ports.ensures.unchanged
    (c.deref.ensures.value ∙ c.in_ok-offers.ensures.offers) (c.deref-2.ensures.value ∙ c.in_ok-hits.ensures.hits)
    c.in_ok-check_ports.ensures.fits c.in_ok-offers.ensures.none c.in_ok-hits.ensures.none c.in_err-count.field-0.0 c.in_err-count.ensures.why))

pub returns-clause-taken : goal.returns-clause-taken
returns-clause-taken c =
    played-is c.args.handles.now c.check_ports.new.handles c.args.offers.now c.args.hits.now c.deref.result.now c.deref-2.result.now c.in_ok-check_ports.ensures.unchanged
    (c.deref.ensures.value ∙ c.in_ok-offers.ensures.offers) (c.deref-2.ensures.value ∙ c.in_ok-hits.ensures.hits)
    c.in_ok-check_ports.ensures.fits c.in_ok-offers.ensures.none c.in_ok-hits.ensures.none c.in_ok-count.ensures.offered c.in_ok-count.ensures.taken

pub returns-clause-levels : goal.returns-clause-levels
returns-clause-levels c =
    let all : length c.run.new.recorded ≡ c.in_ok-recorded.recorded.len = omega arith in
    let levels : c.deref-3.result.now ≡ c.run.new.recorded = c.deref-3.ensures.value ∙ take_at c.run.new.recorded _ _ all in
    let long : length c.write_codes.new.codes ≤ length c.deref-3.result.now = omega (arith, ap length levels, c.in_ok-recorded.ensures.len) in
    let codes : c.write_codes.new.codes ≡ map level_code c.run.new.recorded =
    sym (take_all (length c.deref-3.result.now) c.write_codes.new.codes long) ∙ c.write_codes.ensures.front ∙ ap (map level_code) levels in
    played-levels c.args.handles.now c.check_ports.new.handles c.args.offers.now c.args.hits.now c.deref.result.now c.deref-2.result.now c.in_ok-check_ports.ensures.unchanged
    (c.deref.ensures.value ∙ c.in_ok-offers.ensures.offers) (c.deref-2.ensures.value ∙ c.in_ok-hits.ensures.hits) c.run.new.recorded c.write_codes.new.codes codes c.in_ok-count.ensures.levels

pub returns-clause-network : goal.returns-clause-network
returns-clause-network c =
    let all : length c.run.new.recorded ≡ c.in_ok-recorded.recorded.len = omega arith in
    let levels : c.deref-3.result.now ≡ c.run.new.recorded = c.deref-3.ensures.value ∙ take_at c.run.new.recorded _ _ all in
    let long : length c.write_codes.new.codes ≤ length c.deref-3.result.now = omega (arith, ap length levels, c.in_ok-recorded.ensures.len) in
    let codes : c.write_codes.new.codes ≡ map level_code c.run.new.recorded =
    sym (take_all (length c.deref-3.result.now) c.write_codes.new.codes long) ∙ c.write_codes.ensures.front ∙ ap (map level_code) levels in
    network-same (offers_of_plain c.args.offers.now) (hits_of_plain c.args.hits.now) (bus_held (held_in c.check_ports.new.handles)) (bus_held (held_in c.args.handles.now)) c.run.new.recorded (levels_of_codes c.write_codes.new.codes)
    (ports_held (held_in c.run.new.handles)) (ports_held (held_in c.run.new.handles)) (ap bus_held c.in_ok-check_ports.ensures.unchanged) (levels-of c.run.new.recorded c.write_codes.new.codes codes) refl
    (network-given c.deref.result.now (offers_of_plain c.args.offers.now) c.deref-2.result.now (hits_of_plain c.args.hits.now) (bus_held (held_in c.check_ports.new.handles)) c.run.new.recorded (ports_held (held_in c.run.new.handles))
    (c.deref.ensures.value ∙ c.in_ok-offers.ensures.offers) (c.deref-2.ensures.value ∙ c.in_ok-hits.ensures.hits) c.in_ok-count.ensures.network)
