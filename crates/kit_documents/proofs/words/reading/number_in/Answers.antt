use Rattle.std.specs.Str.{bytes_eq}
use Rattle.std.proofs.Common.{◌≡◌, Ok, false, arith, rules}
use Rattle.std.proofs.lemmas.Fmt.{parse-decimal}
use Rattle.kit_documents.proofs.ReadPieces.{not-written}
use Rattle.kit_documents.proofs.words.reading.number_in.Goals as goal

pub returns-in-Err : goal.returns-in-Err
returns-in-Err c = λ n low is.
    let read : c.parse.result ≡ Ok n = parse-decimal 32 n c.args.digits.now c.parse.result low (omega (arith, low)) is c.parse.ensures.value.0 in
    absurd (cc)

pub returns-else-eq : goal.returns-else-eq
returns-else-eq c = λ n low is.
    let read : c.parse.result ≡ Ok n = parse-decimal 32 n c.args.digits.now c.parse.result low (omega (arith, low)) is c.parse.ensures.value.0 in
    let same : c.in-Ok.number ≡ n = cc in
    let other : bytes_eq c.format.result.now c.args.digits.now ≡ false = search rules in
    not-written c.args.digits.now c.format.result.now c.in-Ok.number n c.format.ensures.text other same is
