-- Bytes say one scenario.
use Rattle.std.specs.Prelude.{codes}
use Rattle.std.proofs.Common.{◌≡◌, ℕ, pos, Some, List, ◌++◌, sym, ap, ◌∙◌, subst}
use Rattle.toml.specs.Data.{Data, integer, array, item, no_items}
use Rattle.can_frame.specs.Parts.{Parts}
use Rattle.can_terms.specs.declared.hit.Hit.{Hit}
use Rattle.can_scenario_text.specs.declared.scenario.Scenario.{Scenario}
use Rattle.can_scenario_text.specs.declared.scenario.PortPlan.{PortPlan}
use Rattle.can_scenario_text.specs.declared.scenario.TimedFrame.{TimedFrame}
use Rattle.can_scenario_text.specs.declared.scenario.version.Version.{Version}
use Rattle.can_scenario_text.specs.declared.scenario.version.Version.TheVariants.{One, Two}
use Rattle.can_stream.specs.declared.field.HitList.{HitList}
use Rattle.can_stream.specs.declared.field.HitList.TheVariants.{At, In, View}
use Rattle.document_values.specs.Values.{SaysFrame, elements_in, named}
use Rattle.can_scenario_text.specs.Scenarios.{SaysTimedFrame, SaysQueueElement, version_of, SaysHit, SaysPort, SaysHits, SaysScenario, IsScenarioText, AreSamePorts, AreSameScenarios, port_elements}
use Rattle.document_values.proofs.OneReading.{one-document, required-number, said-number, said-whether, said-frame, paired-each, one-list}

-- ---- values

same-timed : (f g : TimedFrame) → f.time ≡ g.time → f.frame ≡ g.frame → f ≡ g
same-timed f g times frames =
    let at : ℕ → Parts → TimedFrame = λ time frame. record { time = time; frame = frame } in
    ap (λ t. at t f.frame) times ∙ ap (at g.time) frames

said-first : (d : Data) (f g : TimedFrame) → SaysQueueElement One d f → SaysQueueElement One d g → f ≡ g
said-first d f g a b =
    let frames : f.frame ≡ g.frame = said-frame d f.frame g.frame a.1 b.1 in
    let times : f.time ≡ g.time = a.0 ∙ sym b.0 in
    same-timed f g times frames

said-timed : (d : Data) (f g : TimedFrame) → SaysTimedFrame d f → SaysTimedFrame d g → f ≡ g
said-timed d f g a b =
    let pairs : array (item (integer (pos f.time)) (item a.frame no_items)) ≡ array (item (integer (pos g.time)) (item b.frame no_items)) = sym a.pair ∙ b.pair in
    let values : a.frame ≡ b.frame = cc in
    let times : f.time ≡ g.time = cc in
    let frames : f.frame ≡ g.frame = said-frame a.frame f.frame g.frame a.text (subst (λ d. SaysFrame d g.frame) (sym values) b.text) in
    same-timed f g times frames

said-element : (version : Version) (d : Data) (f g : TimedFrame) → SaysQueueElement version d f → SaysQueueElement version d g → f ≡ g
said-element One d f g a b = said-first d f g a b
said-element Two d f g a b = said-timed d f g a b

said-hit : (list : HitList) (d : Data) (a b : Hit) → SaysHit list d a → SaysHit list d b → a ≡ b
said-hit list d a b e f = let h : Some a ≡ Some b = sym e ∙ f in cc

-- ---- scenarios

one-port : (version : Version) (d : Data) (p q : PortPlan) → SaysPort version d p → SaysPort version d q → AreSamePorts p q
one-port version d p q a b = record {
  queue = one-list (SaysQueueElement version) (said-element version) (elements_in (named (codes "queue") d)) p.queue.items q.queue.items a.queue b.queue;
  log_room = said-number 64 p.log_room q.log_room (named (codes "log") d) a.log_room b.log_room;
  joins = said-whether p.joins q.joins (named (codes "join") d) a.joins b.joins;
  overloads = said-number 0 p.overloads q.overloads (named (codes "hold") d) a.overloads b.overloads;
}

one-hits : (document : Data) (a b : List Hit) → SaysHits document a → SaysHits document b → a ≡ b
one-hits document a b x y =
    let at = one-list (SaysHit At) (said-hit At) _ x.at y.at x.at_said y.at_said in
    let within = one-list (SaysHit In) (said-hit In) _ x.within y.within x.within_said y.within_said in
    let view = one-list (SaysHit View) (said-hit View) _ x.view y.view x.view_said y.view_said in
    x.all ∙ ap (λ h. h ++ (x.within ++ x.view)) at ∙ ap (λ h. y.at ++ (h ++ x.view)) within ∙ ap (λ h. y.at ++ (y.within ++ h)) view ∙ sym y.all

says-one : (document : Data) (s t : Scenario) → SaysScenario document s → SaysScenario document t → AreSameScenarios s t
says-one document s t a b = record {
  bits = required-number s.bits t.bits (named (codes "bits") document) a.bits b.bits;
  ports = paired-each (SaysPort (version_of document)) AreSamePorts (one-port (version_of document)) (port_elements document) s.ports.items t.ports.items a.ports b.ports;
  hits = one-hits document s.hits.items t.hits.items a.hits b.hits;
}

pub one-scenario : (bytes : List ℕ) (s t : Scenario) → IsScenarioText bytes s → IsScenarioText bytes t → AreSameScenarios s t
one-scenario bytes s t a b = says-one a.0 s t a.2 (subst (λ d. SaysScenario d t) (one-document bytes b.0 a.0 b.1 a.1) b.2)
