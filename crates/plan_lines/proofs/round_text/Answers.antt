-- All lines of a round.
use Rattle.std.proofs.Common.{◌+◌, ◌≤◌, length, arith, rules}
use Rattle.line_text.proofs.Chains.{first_of_two, last_of_two, wrote_two}
use Rattle.plan_model.specs.Plan.{round, round_text}
use Rattle.plan_lines.proofs.Lines.{round_is}
use Rattle.plan_lines.proofs.round_text.Goals as goal

pub unit_lines-m-requires : goal.unit_lines-m-requires
unit_lines-m-requires c =
    let room : 0 + length (round_text (round c.args.logs.now 0 c.args.skipped)) ≤ length c.args.out.now = omega (arith, c.requires.1) in
    (search rules, search rules, first_of_two (round_is _ _) 0 _ room)

pub pairs_skipped-requires : goal.pairs_skipped-requires
pairs_skipped-requires c =
    let room : 0 + length (round_text (round c.args.logs.now 0 c.args.skipped)) ≤ length c.args.out.now = omega (arith, c.requires.1) in
    (search rules, last_of_two (round_is _ _) room c.unit_lines-m.ensures)

pub returns : goal.returns
returns c =
    let room : 0 + length (round_text (round c.args.logs.now 0 c.args.skipped)) ≤ length c.args.out.now = omega (arith, c.requires.1) in
    wrote_two (round_is _ _) room c.unit_lines-m.ensures c.pairs_skipped.ensures
