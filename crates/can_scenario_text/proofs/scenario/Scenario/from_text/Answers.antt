use Rattle.std.proofs.Common.{◌≡◌, ◌≤◌, ℕ, length, map, subst, sym, ap, ◌∙◌, inr, codes, rules}
use Rattle.can_terms.specs.Hits.{AreTaken}
use Rattle.toml.specs.Data.{Data, table}
use Rattle.toml.specs.View.{view, table_view}
use Rattle.can_scenario_text.specs.declared.scenario.version.Version.{Version}
use Rattle.document_values.specs.Demands.{AllMet, IsFirstUnmet}
use Rattle.document_values.specs.Values.{named, ArePaired, IsNumber, IsRequired}
use Rattle.can_scenario_text.specs.Scenarios.{hits_demands, ports_demands, port_elements, top_demands, version_of, SaysPort}
use Rattle.document_values.proofs.ReadLists.{length-paired}
use Rattle.can_scenario_text.proofs.ScenarioParts.{ports-unmet, hits-unmet, scenario-met, port-count}
use Rattle.can_scenario_text.proofs.scenario.Scenario.from_text.Goals as goal

pub returns-in_err-ports-clause-wrong : goal.returns-in_err-ports-clause-wrong
returns-in_err-ports-clause-wrong c = λ wrong told.
    let document : Data = table (table_view c.in_ok-document.document) in
    let ds = map view c.in_ok-top.top.ports.now in
    let are : ds ≡ port_elements document = search rules in
    let top : AllMet (top_demands document) = search rules in
    let version : c.in_ok-top.top.version ≡ version_of document = search rules in
    let unmet : IsFirstUnmet wrong (ports_demands c.in_ok-top.top.version 0 ds) = search rules in
    let U : Version → Type 0 = λ v. IsFirstUnmet wrong (ports_demands v 0 ds) in
    inr (document, c.in_ok-document.ensures.said, ports-unmet wrong document ds are top (subst U version unmet))

pub returns-in_err-hits-clause-wrong : goal.returns-in_err-hits-clause-wrong
returns-in_err-hits-clause-wrong c = λ wrong told.
    let document : Data = table (table_view c.in_ok-document.document) in
    let ds = map view c.in_ok-top.top.ports.now in
    let are : ds ≡ port_elements document = search rules in
    let top : AllMet (top_demands document) = search rules in
    let version : c.in_ok-top.top.version ≡ version_of document = search rules in
    let len : length c.in_ok-ports.ports.items ≡ c.len.result = search rules in
    let count : length ds ≡ c.len.result = length-paired (SaysPort c.in_ok-top.top.version) _ _ c.in_ok-ports.ensures.said ∙ len in
    let unmet : IsFirstUnmet wrong (hits_demands c.len.result document) = search rules in
    let M : Version → Type 0 = λ v. AllMet (ports_demands v 0 ds) in
    inr (document, c.in_ok-document.ensures.said, hits-unmet wrong document ds c.len.result are count top (subst M version c.in_ok-ports.ensures.met) unmet)

pub invariant_of-result : goal.invariant_of-result
invariant_of-result c =
    let document : Data = table (table_view c.in_ok-document.document) in
    let are : map view c.in_ok-top.top.ports.now ≡ port_elements document = search rules in
    let top : AllMet (top_demands document) = search rules in
    let len : length c.in_ok-ports.ports.items ≡ c.len.result = search rules in
    let paired : length (map view c.in_ok-top.top.ports.now) ≡ length c.in_ok-ports.ports.items = length-paired (SaysPort c.in_ok-top.top.version) _ _ c.in_ok-ports.ensures.said in
    let same : length (port_elements document) ≡ length c.in_ok-ports.ports.items = sym (ap length are) ∙ paired in
    let counted : (1 ≤ length (port_elements document)) × (length (port_elements document) ≤ 64) = port-count (named (codes "port") document) top.1.1.1.0 in
    let T : ℕ → Type 0 = λ n. AreTaken n c.in_ok-hits.hits.items in
    let N : ℕ → Type 0 = λ n. (1 ≤ n) × (n ≤ 64) in
    let within = subst N same counted in
    record { some = within.0; few = within.1; taken = subst T (sym len) c.in_ok-hits.ensures.taken }

pub returns-clause-found : goal.returns-clause-found
returns-clause-found c =
    let document : Data = table (table_view c.in_ok-document.document) in
    let ds = map view c.in_ok-top.top.ports.now in
    let are : ds ≡ port_elements document = search rules in
    let top : AllMet (top_demands document) = search rules in
    let version : c.in_ok-top.top.version ≡ version_of document = search rules in
    let bits : IsRequired (IsNumber c.in_ok-top.top.bits) (named (codes "bits") document) = search rules in
    let len : length c.in_ok-ports.ports.items ≡ c.len.result = search rules in
    let count : length ds ≡ c.len.result = length-paired (SaysPort c.in_ok-top.top.version) _ _ c.in_ok-ports.ensures.said ∙ len in
    let M : Version → Type 0 = λ v. AllMet (ports_demands v 0 ds) in
    let S : Version → Type 0 = λ v. ArePaired (SaysPort v) ds c.in_ok-ports.ports.items in (
      document,
      c.in_ok-document.ensures.said,
      record {
        met = scenario-met document ds c.len.result are count top (subst M version c.in_ok-ports.ensures.met) c.in_ok-hits.ensures.met;
        bits = bits;
        ports = rw are at (subst S version c.in_ok-ports.ensures.said);
        hits = c.in_ok-hits.ensures.said;
      },
    )
