-- `line::refused_line` meets its contract: the number is put behind the word, and the place behind the number.
use Rattle.std.proofs.Common.{arith}
use Rattle.line.proofs.Lines.{number_short, refused-line}
use Rattle.line.proofs.refused_line.Goals as goal

-- 8 bytes, and a number of at most 20 digits with one byte more
pub put_number-requires : goal.put_number-requires
put_number-requires c =
    let w = c.put-next.ensures in
    let n = c.put_number-last.ensures in
    let l = number_short c.args.number 32 in
    record { room = omega (arith, c.requires.room, w.end, w.size, n.end, n.size) }

pub returns : goal.returns
returns c = refused-line _ _ c.requires.room c.put-next.ensures c.put_number-last.ensures c.put_number.ensures
