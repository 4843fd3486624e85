-- `line::put_decimal` meets its contract: the digits of crate io are those of the definition.
use Rattle.std.proofs.Common.{arith}
use Rattle.line.proofs.Lines.{fewest_short, put-digits}
use Rattle.line.proofs.put_decimal.Goals as goal

pub returns : goal.returns
returns c =
    let k = fewest_short c.args.n c.decimal-k.result (omega arith) c.decimal-k.ensures.len in
    put-digits c.decimal-k.new.out k c.decimal-k.ensures.len c.decimal-k.ensures.digits c.put.ensures
