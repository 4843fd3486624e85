-- `line::put_number` meets its contract: the bytes have room behind the digits.
use Rattle.std.proofs.Common.{arith}
use Rattle.line.proofs.Lines.{decimal-short}
use Rattle.line.proofs.put_number.Goals as goal

pub put-requires : goal.put-requires
put-requires c =
    let first = c.put_decimal-next.ensures in
    let l = decimal-short c.args.n in
    record { room = omega (arith, c.requires.room, first.end, first.size) }
