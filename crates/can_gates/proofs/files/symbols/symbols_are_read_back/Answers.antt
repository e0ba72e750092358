use Rattle.can_gates.proofs.NamesRead.{symbols_read}
use Rattle.can_gates.proofs.files.symbols.symbols_are_read_back.Goals as goal

pub returns : goal.returns
returns c = λ symbols are. symbols_read symbols are
