-- The tree table: 86,020 bytes that show entries and asides.
--   0-1 how many entries, 2-3 how many asides; from 4 on 1,024 rows of 72 bytes for entries; from 73,732 on 1,024 rows of 12 bytes
--   for asides. Rows that are not used are zero.
-- Document 01, "Log, blocks and file": its length is the team's; document 02, K10: 1,024 of each.
-- Assumes nothing.
use Rattle.std.specs.Prelude.{ℕ, ◌+◌, Bool, true, false, cond, List, [], ◌∷◌, ◌++◌, eqb, get_or, length}
use Rattle.model.specs.Bytes.{two, part, padded}
use Rattle.model.specs.Record.{unit_of, number_of, identity_at}
use Rattle.model.specs.Replay.{Entry, Aside, Tree, is_disputed, present_ones}

-- an identity in four bytes: unit, zero, number
unfoldable pub identity_bytes : ℕ → List ℕ
identity_bytes k = unit_of k ∷ 0 ∷ two (number_of k)

-- 0 kind (1 folder, 2 trace), 1 disputed, 2-3 zero, 4-7 identity, 8-11 folder, 12-15 last contents record,
-- 16-19 last place record, 20-23 date, 24-55 label, 56-71 mark
unfoldable pub entry_row : ℕ → Entry → List ℕ
entry_row d e =
    (e.kind ∷ d ∷ 0 ∷ 0 ∷ [])
    ++ (identity_bytes e.made
    ++ (identity_bytes e.inside
    ++ (identity_bytes e.contents ++ (identity_bytes e.placing ++ (e.date ++ (e.label ++ e.mark))))))

-- 0-3 identity, 4 reason, 5 state (1 open, 2 settled), 6-7 zero, 8-11 marked entry, or zeros for none
unfoldable pub aside_row : Aside → List ℕ
aside_row a = identity_bytes a.who ++ ((a.reason ∷ cond a.is_open 1 2 ∷ 0 ∷ 0 ∷ []) ++ identity_bytes a.marked)

unfoldable pub entry_rows : List Aside → List Entry → List ℕ
entry_rows s [] = []
entry_rows s (e ∷ l) = entry_row (cond (is_disputed e.made s) 1 0) e ++ entry_rows s l

unfoldable pub aside_rows : List Aside → List ℕ
aside_rows [] = []
aside_rows (a ∷ l) = aside_row a ++ aside_rows l

-- the bytes that show a tree: the entries that are present, and all asides [F124]
unfoldable pub table_bytes : Tree → List ℕ
table_bytes t =
    two (length (present_ones t.entries))
    ++ (two (length t.asides)
    ++ (padded 73728 (entry_rows t.asides (present_ones t.entries)) ++ padded 12288 (aside_rows t.asides)))

-- ---- the table while records are replayed

-- rows for entries, those disputed by s with their flag, and rows for asides; the counts are zero
unfoldable pub flagged : List Aside → List Entry → List Aside → List ℕ
flagged s es l = (0 ∷ 0 ∷ 0 ∷ 0 ∷ []) ++ (padded 73728 (entry_rows s es) ++ padded 12288 (aside_rows l))

-- a row for every entry ever made, in order of making, and no flags
unfoldable pub work_bytes : Tree → List ℕ
work_bytes t = flagged [] t.entries t.asides

-- ---- reading rows

-- the entry in the 72 bytes at a place
unfoldable pub entry_in : List ℕ → ℕ → Entry
entry_in b at =
    record {
      made = identity_at b (at + 4);
      kind = get_or b at 0;
      inside = identity_at b (at + 8);
      label = part b (at + 24) 32;
      contents = identity_at b (at + 12);
      date = part b (at + 20) 4;
      mark = part b (at + 56) 16;
      placing = identity_at b (at + 16);
    }

-- the aside in the 12 bytes at a place
unfoldable pub aside_in : List ℕ → ℕ → Aside
aside_in b at =
    record { who = identity_at b at; reason = get_or b (at + 4) 0; marked = identity_at b (at + 8); is_open = eqb (get_or b (at + 5) 0) 1 }
