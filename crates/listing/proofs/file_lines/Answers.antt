-- The lines of an accepted file: its head, its vector and its tree.
use Rattle.std.proofs.Common.{◌+◌, ◌≤◌, ◌++◌, length, arith, rules}
use Rattle.model.specs.Listing.{head_line, seen_line, tree_lines}
use Rattle.line_text.proofs.Chains.{first_of_three, second_of_three, last_of_three, wrote_three}
use Rattle.listing.proofs.Whole.{whole_is}
use Rattle.listing.proofs.file_lines.Goals as goal

pub head_line-a-requires : goal.head_line-a-requires
head_line-a-requires c =
    let room : 0 + length (head_line c.args.archive c.args.unit c.args.records ++ (seen_line c.args.v.counts ++ tree_lines c.args.tree.now)) ≤ length c.args.out.now = omega arith in
    first_of_three (whole_is _ _ _ _ _) 0 _ room

pub seen_line-b-requires : goal.seen_line-b-requires
seen_line-b-requires c =
    let room : 0 + length (head_line c.args.archive c.args.unit c.args.records ++ (seen_line c.args.v.counts ++ tree_lines c.args.tree.now)) ≤ length c.args.out.now = omega arith in
    second_of_three (whole_is _ _ _ _ _) room c.head_line-a.ensures

pub tree_lines-requires : goal.tree_lines-requires
tree_lines-requires c =
    let room : 0 + length (head_line c.args.archive c.args.unit c.args.records ++ (seen_line c.args.v.counts ++ tree_lines c.args.tree.now)) ≤ length c.args.out.now = omega arith in
    (search rules, search rules, search rules, last_of_three (whole_is _ _ _ _ _) room c.head_line-a.ensures c.seen_line-b.ensures)

pub returns : goal.returns
returns c =
    let room : 0 + length (head_line c.args.archive c.args.unit c.args.records ++ (seen_line c.args.v.counts ++ tree_lines c.args.tree.now)) ≤ length c.args.out.now = omega arith in
    wrote_three (whole_is _ _ _ _ _) room c.head_line-a.ensures c.seen_line-b.ensures c.tree_lines.ensures
