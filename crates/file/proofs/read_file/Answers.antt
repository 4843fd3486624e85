-- `file::read_file` meets its contract: refusal 1, then the words that were loaded, which are all of the file's.
-- Assumes nothing.
use mathlib.Core.Path.{sym, ◌∙◌}
use Rattle.file.proofs.Files.{bad-read, loaded-all, loaded-room, loaded-file}
use Rattle.file.proofs.read_file.Goals as goal

pub returns-then-bad_length : goal.returns-then-bad_length
returns-then-bad_length c = bad-read _ (sym c.bad_length.ensures ∙ c.if-bad_length.true)

pub slice_bounds-read_table-end : goal.slice_bounds-read_table-end
slice_bounds-read_table-end c = (loaded-all c.requires (sym c.bad_length.ensures ∙ c.if-bad_length.false) c.load-n.ensures).inside

pub slice_bounds-read_table-end-2 : goal.slice_bounds-read_table-end-2
slice_bounds-read_table-end-2 c = (loaded-all c.requires (sym c.bad_length.ensures ∙ c.if-bad_length.false) c.load-n.ensures).count

pub read_table-requires : goal.read_table-requires
read_table-requires c =
    let good = sym c.bad_length.ensures ∙ c.if-bad_length.false in
    loaded-room c.requires good (loaded-all c.requires good c.load-n.ensures)

pub returns : goal.returns
returns c = loaded-file c.requires (sym c.bad_length.ensures ∙ c.if-bad_length.false) c.load-n.ensures c.read_table.ensures
