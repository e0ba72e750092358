use Rattle.std.proofs.lemmas.Result.{err_from_is_err_and}
use Rattle.toml.specs.Data.{table}
use Rattle.toml.specs.View.{table_view}
use Rattle.can_stream.specs.declared.field.HitList.TheVariants.{At, In, View}
use Rattle.document_values.specs.Demands.{followed}
use Rattle.can_scenario_text.specs.Scenarios.{list_demands}
use Rattle.document_values.proofs.DemandLemmas.{met-followed, unmet-first, unmet-later}
use Rattle.can_scenario_text.proofs.HitLemmas.{err_instead, SaysHits-three, taken_said}
use Rattle.can_scenario_text.proofs.scenario.hits.read_hits.Goals as goal

pub returns-in_err-read_list-clause-unmet : goal.returns-in_err-read_list-clause-unmet
returns-in_err-read_list-clause-unmet c =
    let document = table (table_view c.args.document.now) in
    let at = list_demands At c.args.ports document in
    let later = followed (list_demands In c.args.ports document) (list_demands View c.args.ports document) in
    let p = err_from_is_err_and c.from_residual.result c.from_residual.ensures.1 in
    rw (p.1, p.2) (λ wrong is. unmet-first wrong at later (c.in_err-read_list.ensures.unmet wrong (err_instead _ _ is)))

pub returns-in_err-read_list-2-clause-unmet : goal.returns-in_err-read_list-2-clause-unmet
returns-in_err-read_list-2-clause-unmet c =
    let document = table (table_view c.args.document.now) in
    let at = list_demands At c.args.ports document in
    let within = list_demands In c.args.ports document in
    let view = list_demands View c.args.ports document in
    let p = err_from_is_err_and c.from_residual-in_err-read_list-2.result c.from_residual-in_err-read_list-2.ensures.1 in
    rw (p.1, p.2) (λ wrong is. unmet-later wrong at (followed within view) c.in_ok-read_list.ensures.met (unmet-first wrong within view (c.in_err-read_list-2.ensures.unmet wrong (err_instead _ _ is))))

pub returns-in_err-read_list-3-clause-unmet : goal.returns-in_err-read_list-3-clause-unmet
returns-in_err-read_list-3-clause-unmet c =
    let document = table (table_view c.args.document.now) in
    let at = list_demands At c.args.ports document in
    let within = list_demands In c.args.ports document in
    let view = list_demands View c.args.ports document in
    let p = err_from_is_err_and c.from_residual-in_err-read_list-3.result c.from_residual-in_err-read_list-3.ensures.1 in
    rw (p.1, p.2) (λ wrong is.
    unmet-later wrong at (followed within view) c.in_ok-read_list.ensures.met
    (unmet-later wrong within view c.in_ok-read_list-2.ensures.met (c.in_err-read_list-3.ensures.unmet wrong (err_instead _ _ is))))

pub returns-clause-taken : goal.returns-clause-taken
returns-clause-taken c =
    let document = table (table_view c.args.document.now) in
    let says = SaysHits-three document _ _ _ c.read_list-3.new.hits.items c.new-hits.ensures.items c.in_ok-read_list.ensures.said c.in_ok-read_list-2.ensures.said c.in_ok-read_list-3.ensures.said in
    taken_said c.args.ports document c.read_list-3.new.hits.items says c.in_ok-read_list.ensures.met c.in_ok-read_list-2.ensures.met c.in_ok-read_list-3.ensures.met

pub returns-clause-met : goal.returns-clause-met
returns-clause-met c =
    let document = table (table_view c.args.document.now) in
    let at = list_demands At c.args.ports document in
    let within = list_demands In c.args.ports document in
    let view = list_demands View c.args.ports document in
    met-followed at (followed within view) c.in_ok-read_list.ensures.met (met-followed within view c.in_ok-read_list-2.ensures.met c.in_ok-read_list-3.ensures.met)
