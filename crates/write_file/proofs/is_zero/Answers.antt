-- A vector counts no record.
use mathlib.Core.Path.{◌≡◌, ◌∙◌}
use lib.ListN.{length}
use borrow.Author.Rules.{rules}
use Rattle.write_file.proofs.Ways.{zeros_blank}
use Rattle.write_file.proofs.is_zero.Goals as goal

pub returns : goal.returns
returns c =
    let n : length c.args.v.counts ≡ 8 = search rules in
    c.eq.ensures ∙ (rw n at (zeros_blank c.args.v.counts))
