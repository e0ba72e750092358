use Rattle.std.proofs.Common.{◌≡◌, ◌++◌, ap, ◌∙◌, codes, decimal, refl, rules, arith}
use Rattle.can_fault.specs.Words.{state_word}
use Rattle.can_trace.specs.Report.{port_line, reported}
use Rattle.can_trace.proofs.ReportLines.{port_parts, pushed}
use Rattle.can_trace.proofs.report.written_port.Goals as goal

pub returns : goal.returns
unfolding port_line
returns g c =
    let port = reported (g.P.Port.port c.args.port.now) in
    let number = decimal c.args.number in
    let word = state_word port.state in
    let tec : c.from.result ≡ port.tec = first_of (cc, first_of (search rules, grind arith)) in
    let rec : c.from-2.result ≡ port.rec = first_of (cc, first_of (search rules, grind arith)) in
    let missed : c.from-3.result ≡ port.missed = first_of (cc, first_of (search rules, grind arith)) in
    let first : c.push_named.new.line.items ≡ codes "port " ++ number = pushed _ _ _ _ _ c.push_named.ensures.text refl c.new-line.ensures in
    let second : c.push.new.line.items ≡ (codes "port " ++ number) ++ codes " " = pushed _ _ _ _ _ c.push.ensures refl first in
    let third : c.push-2.new.line.items ≡ ((codes "port " ++ number) ++ codes " ") ++ word =
    pushed _ _ _ _ _ c.push-2.ensures (c.as_bytes.ensures.value ∙ c.word.ensures.word ∙ ap state_word c.state.ensures) second in
    let fourth : c.push_named-2.new.line.items ≡ (((codes "port " ++ number) ++ codes " ") ++ word) ++ (codes " tec " ++ decimal port.tec) =
    pushed _ _ _ _ _ c.push_named-2.ensures.text (ap (λ n. codes " tec " ++ decimal n) tec) third in
    let fifth : c.push_named-3.new.line.items ≡ ((((codes "port " ++ number) ++ codes " ") ++ word) ++ (codes " tec " ++ decimal port.tec)) ++ (codes " rec " ++ decimal port.rec) =
    pushed _ _ _ _ _ c.push_named-3.ensures.text (ap (λ n. codes " rec " ++ decimal n) rec) fourth in
    let sixth : c.push_named-4.new.line.items
    ≡ (((((codes "port " ++ number) ++ codes " ") ++ word) ++ (codes " tec " ++ decimal port.tec)) ++ (codes " rec " ++ decimal port.rec)) ++ (codes " missed " ++ decimal port.missed) =
    pushed _ _ _ _ _ c.push_named-4.ensures.text (ap (λ n. codes " missed " ++ decimal n) missed) fifth in
    c.push-3.ensures ∙ ap (λ t. t ++ codes "\n") sixth
    ∙ port_parts (codes "port ") number (codes " ") word (codes " tec ") (decimal port.tec) (codes " rec ") (decimal port.rec) (codes " missed ") (decimal port.missed) (codes "\n")
