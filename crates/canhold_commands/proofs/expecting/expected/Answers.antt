use Rattle.std.proofs.Common.{rules}
use Rattle.canhold_commands.proofs.expecting.expected.Goals as goal

pub returns-in_err-document-clause-wrong : goal.returns-in_err-document-clause-wrong
returns-in_err-document-clause-wrong c = λ wrong is. c.in_err-document.ensures.wrong wrong (search rules)

pub returns-clause-found : goal.returns-clause-found
returns-clause-found c = record {
  document = c.in_ok-document.document;
  read = c.in_ok-document.ensures.read;
  tables = search rules;
}
