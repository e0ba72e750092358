use Rattle.document_values.proofs.DemandLemmas.{met-unmet, one-unmet}
use Rattle.kit_documents.specs.Cases.{cases_demands}
use Rattle.kit_documents.proofs.OneCase.{one-case}
use Rattle.kit_documents.proofs.laws.one_case.Goals as goal

pub returns-clause-case : goal.returns-clause-case
returns-clause-case c = one-case

pub returns-clause-no_field : goal.returns-clause-no_field
returns-clause-no_field c = λ ds wrong met unmet. met-unmet wrong (cases_demands ds) met unmet

pub returns-clause-one_field : goal.returns-clause-one_field
returns-clause-one_field c = λ ds wrong other a b. one-unmet wrong other (cases_demands ds) a b
