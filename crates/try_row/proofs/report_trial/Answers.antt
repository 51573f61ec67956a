-- The row was taken into the copy: the disputed entries of the tree before are noted, and the report is written.
use Rattle.try_row.proofs.Tried.{notes_within, all_reported}
use borrow.Author.Rules.{rules}
use Rattle.try_row.proofs.report_trial.Goals as goal

pub note_before-count-requires : goal.note_before-count-requires
note_before-count-requires c = (search, search, search rules)

pub report_by-requires : goal.report_by-requires
report_by-requires c =
    let k = c.requires.0.known in (
      record {
        known = record {
          long = search;
          based = k.based;
          sound = search;
          held_is = search;
          entries_are = k.entries_are;
          asides_are = k.asides_are;
        };
        used_is = search;
      },
      search (notes_within),
      search rules,
      search,
    )

pub returns : goal.returns
returns c = search (all_reported)
