-- A record that stands aside: a row for it, and its role.
use Rattle.tree_effect.proofs.Effects.{aside_added, role_kept, next_note_end}
use Rattle.tree_effect.proofs.Registers.{aside_register}
use Rattle.tree_effect.proofs.stand_aside.Goals as goal

pub slice_bounds-fill_aside-end : goal.slice_bounds-fill_aside-end
slice_bounds-fill_aside-end c = search (next_note_end)

pub returns : goal.returns
returns c = (search (aside_added), search (role_kept), search (aside_register))
