-- `workbench::put_called` meets its contract: refusal 7, and then the replacement.
-- Assumes nothing.
use mathlib.Core.Path.{refl}
use native.Mathlib.Omega.{arith}
use Rattle.reader.proofs.Walks.{exit}
use Rattle.replacement.proofs.PutReads.{read_count, read-room, read_right, can-replace, unsteady-put}
use Rattle.workbench.proofs.put_called.Goals as goal

pub slice_bounds-fill_marked-end : goal.slice_bounds-fill_marked-end
slice_bounds-fill_marked-end c = c.requires.walk.rooms.inside

pub slice_bounds-fill_marked-end-2 : goal.slice_bounds-fill_marked-end-2
slice_bounds-fill_marked-end-2 c = read_count c.args.masks.now c.requires

pub fill_marked-requires : goal.fill_marked-requires
fill_marked-requires c = (read_right c.args.masks.now c.requires, read-room c.args.masks.now c.requires)

pub slice_bounds-find_fors-end : goal.slice_bounds-find_fors-end
slice_bounds-find_fors-end c = c.requires.walk.rooms.inside

pub slice_bounds-find_fors-end-2 : goal.slice_bounds-find_fors-end-2
slice_bounds-find_fors-end-2 c = read_count c.args.masks.now c.requires

pub slice_bounds-read_marked-end : goal.slice_bounds-read_marked-end
slice_bounds-read_marked-end c = c.requires.walk.rooms.inside

pub slice_bounds-read_marked-end-2 : goal.slice_bounds-read_marked-end-2
slice_bounds-read_marked-end-2 c = read_count c.args.masks.now c.requires

pub read_marked-requires : goal.read_marked-requires
read_marked-requires c = (c.fill_marked.ensures.0, c.find_fors-fors.ensures)

pub replace-requires : goal.replace-requires
replace-requires c =
    can-replace c.args.masks.now c.requires c.fill_marked.ensures.1 c.in_ok-read_marked.ensures refl
    (omega arith) c.find_fors-fors.ensures

pub returns-in_err-read_marked : goal.returns-in_err-read_marked
returns-in_err-read_marked c =
    unsteady-put c.args.masks.now c.requires c.fill_marked.ensures.1 c.in_err-read_marked.ensures refl
    (exit c.from_residual.ensures.1 refl)
