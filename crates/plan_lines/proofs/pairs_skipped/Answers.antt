-- The pairs, then how many acts were skipped.
use Rattle.std.proofs.Common.{rules}
use Rattle.line_text.proofs.Chains.{first_of_two, last_of_two, wrote_two}
use Rattle.plan_lines.proofs.Lines.{pairs_skipped_is}
use Rattle.plan_lines.proofs.pairs_skipped.Goals as goal

pub pair_lines-m-requires : goal.pair_lines-m-requires
pair_lines-m-requires c = (search rules, search rules, first_of_two (pairs_skipped_is _ _) _ _ c.requires.1)

pub skipped_line-requires : goal.skipped_line-requires
skipped_line-requires c = last_of_two (pairs_skipped_is _ _) c.requires.1 c.pair_lines-m.ensures

pub returns : goal.returns
returns c = wrote_two (pairs_skipped_is _ _) c.requires.1 c.pair_lines-m.ensures c.skipped_line.ensures
