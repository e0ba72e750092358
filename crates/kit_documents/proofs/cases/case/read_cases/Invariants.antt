use Rattle.std.proofs.Common.{◌≡◌, ◌≤◌, All, length, map, take}
use Rattle.toml.specs.View.{view}
use Rattle.document_values.proofs.ReadLists.{IsRead}
use Rattle.kit_documents.specs.Cases.{case_demands, longest_case, SaysCase}
use Rattle.kit_documents.proofs.cases.case.read_cases.Given as goal

abbrev pub invariant-loop-number : goal.invariant-loop-number
invariant-loop-number l =
    IsRead (λ number d. case_demands (take number (map view l.values)) number d) SaysCase l.values l.number l.cases.items
    × All (λ one. length one.script.tester.items ≤ longest_case) l.cases.items
    × (l.earlier.tables.now ≡ take l.number l.values)
