-- The example of document 01's reading program, and the same file with one byte changed.
-- Assumes nothing.
use Rattle.std.specs.Prelude.{ℕ, List, [], ◌∷◌, ◌++◌, replicate, set}
use Rattle.model.specs.Record.{Rec, root}
use Rattle.model.specs.File.{file_of}
use Rattle.model.specs.Examples.{◌·◌, march}

-- Bench
abbrev bench_label : List ℕ
bench_label = 66 ∷ 101 ∷ 110 ∷ 99 ∷ 104 ∷ []

-- Gain "A"
abbrev gain_label : List ℕ
gain_label = 71 ∷ 97 ∷ 105 ∷ 110 ∷ 32 ∷ 34 ∷ 65 ∷ 34 ∷ []

-- 0.1 makes folder Bench in 0.0, 3 March 2025; 0.2, seen 1 of unit 0, makes trace Gain "A" in 0.1, 4 March, mark bytes hexadecimal 11; 1.1,
-- a trace too, same seen, folder and label, mark bytes 22, 5 March
unfoldable pub paper_records : List Rec
paper_records =
    march 3 1 (0 · 1) [] root root bench_label []
    ∷ march 4 2 (0 · 2) (1 ∷ []) root (0 · 1) gain_label (replicate 16 17)
    ∷ march 5 2 (1 · 1) (1 ∷ []) root (0 · 1) gain_label (replicate 16 34)
    ∷ []

-- archive 7, unit 0
unfoldable pub paper_file : List ℕ
paper_file = file_of 7 0 paper_records

-- archive 7 unit 0 records 3
abbrev head_text : List ℕ
head_text = 97 ∷ 114 ∷ 99 ∷ 104 ∷ 105 ∷ 118 ∷ 101 ∷ 32 ∷ 55 ∷ 32 ∷ 117 ∷ 110 ∷ 105 ∷ 116 ∷ 32 ∷ 48 ∷ 32 ∷ 114 ∷ 101 ∷ 99 ∷ 111 ∷ 114 ∷ 100 ∷ 115 ∷ 32 ∷ 51 ∷ []

-- seen 2 1 0 0 0 0 0 0
abbrev seen_text : List ℕ
seen_text = 115 ∷ 101 ∷ 101 ∷ 110 ∷ 32 ∷ 50 ∷ 32 ∷ 49 ∷ 32 ∷ 48 ∷ 32 ∷ 48 ∷ 32 ∷ 48 ∷ 32 ∷ 48 ∷ 32 ∷ 48 ∷ 32 ∷ 48 ∷ []

-- folder 0.1 in 0.0 "Bench" 2025-03-03
abbrev folder_text : List ℕ
folder_text = 102 ∷ 111 ∷ 108 ∷ 100 ∷ 101 ∷ 114 ∷ 32 ∷ 48 ∷ 46 ∷ 49 ∷ 32 ∷ 105 ∷ 110 ∷ 32 ∷ 48 ∷ 46 ∷ 48 ∷ 32 ∷ 34 ∷ 66 ∷ 101 ∷ 110 ∷ 99 ∷ 104 ∷ 34 ∷ 32 ∷ 50 ∷ 48 ∷ 50 ∷ 53 ∷ 45 ∷ 48 ∷ 51 ∷ 45 ∷ 48 ∷ 51 ∷ []

-- trace 0.2 in 0.1 "Gain \"A\"" 2025-03-04 11111111111111111111111111111111 disputed
abbrev trace_text : List ℕ
trace_text = 116 ∷ 114 ∷ 97 ∷ 99 ∷ 101 ∷ 32 ∷ 48 ∷ 46 ∷ 50 ∷ 32 ∷ 105 ∷ 110 ∷ 32 ∷ 48 ∷ 46 ∷ 49 ∷ 32 ∷ 34 ∷ 71 ∷ 97 ∷ 105 ∷ 110 ∷ 32 ∷ 92 ∷ 34 ∷ 65 ∷ 92 ∷ 34 ∷ 34 ∷ 32 ∷ 50 ∷ 48 ∷ 50 ∷ 53 ∷ 45 ∷ 48 ∷ 51 ∷ 45 ∷ 48 ∷ 52 ∷ 32 ∷ 49 ∷ 49 ∷ 49 ∷ 49 ∷ 49 ∷ 49 ∷ 49 ∷ 49 ∷ 49 ∷ 49 ∷ 49 ∷ 49 ∷ 49 ∷ 49 ∷ 49 ∷ 49 ∷ 49 ∷ 49 ∷ 49 ∷ 49 ∷ 49 ∷ 49 ∷ 49 ∷ 49 ∷ 49 ∷ 49 ∷ 49 ∷ 49 ∷ 49 ∷ 49 ∷ 49 ∷ 49 ∷ 32 ∷ 100 ∷ 105 ∷ 115 ∷ 112 ∷ 117 ∷ 116 ∷ 101 ∷ 100 ∷ []

-- aside 1.1 reason 15 marks 0.2 open
abbrev aside_text : List ℕ
aside_text = 97 ∷ 115 ∷ 105 ∷ 100 ∷ 101 ∷ 32 ∷ 49 ∷ 46 ∷ 49 ∷ 32 ∷ 114 ∷ 101 ∷ 97 ∷ 115 ∷ 111 ∷ 110 ∷ 32 ∷ 49 ∷ 53 ∷ 32 ∷ 109 ∷ 97 ∷ 114 ∷ 107 ∷ 115 ∷ 32 ∷ 48 ∷ 46 ∷ 50 ∷ 32 ∷ 111 ∷ 112 ∷ 101 ∷ 110 ∷ []

unfoldable pub paper_text : List ℕ
paper_text = head_text ++ (10 ∷ (seen_text ++ (10 ∷ (folder_text ++ (10 ∷ (trace_text ++ (10 ∷ (aside_text ++ (10 ∷ [])))))))))

-- the first byte of the mark of 0.2 is 10, the sums are as they were
unfoldable pub damaged_file : List ℕ
damaged_file = set paper_file 172 16

-- refused 4 at 0
unfoldable pub damaged_text : List ℕ
damaged_text = 114 ∷ 101 ∷ 102 ∷ 117 ∷ 115 ∷ 101 ∷ 100 ∷ 32 ∷ 52 ∷ 32 ∷ 97 ∷ 116 ∷ 32 ∷ 48 ∷ 10 ∷ []
