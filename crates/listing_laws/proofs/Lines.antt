-- The greatest lengths of lines.
-- Assumes nothing.
use Prim.Native.Nat.{ℕ, zero, suc, ◌+◌, ◌*◌, ◌≤◌, ◌<◌}
use native.Mathlib.Omega.{arith}
use mathlib.Core.Path.{◌≡◌}
use mathlib.Core.List.{List, [], ◌∷◌, ◌++◌}
use lib.ListN.{length, get_or, length-append}
use Rattle.model.specs.Bytes.{word, part}
use Rattle.model.specs.Listing.{unit_word, records_word, at_word, in_word, reason_word, marks_word, decimal, identity_text, label_text, date_text, counts_text, kind_text, mark_text, disputed_text, marked_text, state_text, head_line, seen_line, refused_line, entry_line, aside_line, entry_lines, aside_lines, tree_lines}
use Rattle.byte_slice.proofs.Parts.{get_d_part}
use Rattle.byte_slice.proofs.Words.{word-part}
use Rattle.line_text.proofs.Decimal.{one_digit, decimal-length}
use Rattle.line_text.proofs.Lines.{date_length}
use Rattle.listing_laws.proofs.Texts.{two_digits_lem, three_digits, identity_few, label_length, kind_and_mark, disputed_length, marked_length, state_length, counts-length}

-- a unit of one digit, and up to three digits for the records
pub head_line_length : (archive u n : ℕ) → u < 10 → n < 1000 → length (head_line archive u n) ≤ 38
unfolding head_line
head_line_length archive u n h k =
    omega (
      arith,
      length-append (decimal archive) (unit_word ++ (decimal u ++ (records_word ++ (decimal n ++ (10 ∷ []))))),
      length-append (decimal u) (records_word ++ (decimal n ++ (10 ∷ []))),
      length-append (decimal n) (10 ∷ []),
      decimal-length archive,
      one_digit u h,
      three_digits n k,
    )

pub seen_line_length : (v : List ℕ) → length v ≡ 8 → ((i : ℕ) → i < 8 → get_or v i 0 < 100000) → length (seen_line v) ≤ 53
unfolding seen_line
seen_line_length v e h = omega (arith, length-append (counts_text v) (10 ∷ []), counts-length v (λ i g. h i (omega arith)))

pub refused_line_length : (n p : ℕ) → length (refused_line n p) ≤ 33
unfolding refused_line
refused_line_length n p =
    omega (
      arith,
      length-append (decimal n) (at_word ++ (decimal p ++ (10 ∷ []))),
      length-append (decimal p) (10 ∷ []),
      decimal-length n,
      decimal-length p,
    )

-- four bytes that spell an identity: a unit of one digit, a number of up to five
abbrev pub Few : List ℕ → ℕ → Type 0
Few row at = (get_or row at 0 < 10) × (word row (at + 2) < 100000)

few_part : (row : List ℕ) (at : ℕ) → Few row at → (get_or (part row at 4) 0 0 < 10) × (word (part row at 4) 2 < 100000)
few_part row at (u, n) =
    let z : at + 0 ≡ at = omega arith in
    (rw (get_d_part row at 4 0 (omega arith), z) u, rw (word-part row at 4 2 (omega arith)) n)

-- the line of a row of 12 bytes
pub aside_line_length : (row : List ℕ) → Few row 0 → get_or row 4 0 < 100 → Few row 8 → length (aside_line row) ≤ 46
unfolding aside_line
aside_line_length row a n b =
    let who : List ℕ = identity_text (part row 0 4) in
    let why : List ℕ = decimal (get_or row 4 0) in
    let marked : List ℕ = marked_text (part row 8 4) in
    let state : List ℕ = state_text (get_or row 5 0) in
    let (p, q) = few_part row 0 a in
    let (r, s) = few_part row 8 b in
    omega (
      arith,
      length-append who (reason_word ++ (why ++ (marks_word ++ (marked ++ (state ++ (10 ∷ [])))))),
      length-append why (marks_word ++ (marked ++ (state ++ (10 ∷ [])))),
      length-append marked (state ++ (10 ∷ [])),
      length-append state (10 ∷ []),
      identity_few (part row 0 4) p q,
      two_digits_lem (get_or row 4 0) n,
      marked_length (part row 8 4) r s,
      state_length (get_or row 5 0),
    )

-- the line of a row of 72 bytes
pub entry_line_length : (row : List ℕ) → Few row 4 → Few row 8 → length (entry_line row) ≤ 145
unfolding entry_line
entry_line_length row a b =
    let kind : List ℕ = kind_text (get_or row 0 0) in
    let own : List ℕ = identity_text (part row 4 4) in
    let folder : List ℕ = identity_text (part row 8 4) in
    let label : List ℕ = label_text (part row 24 32) in
    let date : List ℕ = date_text (part row 20 4) in
    let mark : List ℕ = mark_text (get_or row 0 0) (part row 56 16) in
    let disputed : List ℕ = disputed_text (get_or row 1 0) in
    let ends : List ℕ = mark ++ (disputed ++ (10 ∷ [])) in
    let (p, q) = few_part row 4 a in
    let (r, s) = few_part row 8 b in
    omega (
      arith,
      length-append kind (own ++ (in_word ++ (folder ++ (32 ∷ (label ++ (32 ∷ (date ++ ends))))))),
      length-append own (in_word ++ (folder ++ (32 ∷ (label ++ (32 ∷ (date ++ ends)))))),
      length-append folder (32 ∷ (label ++ (32 ∷ (date ++ ends)))),
      length-append label (32 ∷ (date ++ ends)),
      length-append date ends,
      length-append mark (disputed ++ (10 ∷ [])),
      length-append disputed (10 ∷ []),
      identity_few (part row 4 4) p q,
      identity_few (part row 8 4) r s,
      label_length row 24,
      date_length (part row 20 4),
      kind_and_mark (get_or row 0 0) row 56,
      disputed_length (get_or row 1 0),
    )

pub aside_lines_length : (t : List ℕ) (n : ℕ) → ((i : ℕ) → i < n → length (aside_line (part t (73732 + 12 * i) 12)) ≤ 46) → length (aside_lines t n) ≤ 46 * n
unfolding aside_lines
aside_lines_length t zero h = omega arith
aside_lines_length t (suc n) h =
    let row = part t (73732 + 12 * n) 12 in
    omega (arith, length-append (aside_lines t n) (aside_line row), aside_lines_length t n (λ i g. h i (omega arith)), h n (omega arith))

pub entry_lines_length : (t : List ℕ) (n : ℕ) → ((i : ℕ) → i < n → length (entry_line (part t (4 + 72 * i) 72)) ≤ 145) → length (entry_lines t n) ≤ 145 * n
unfolding entry_lines
entry_lines_length t zero h = omega arith
entry_lines_length t (suc n) h =
    let row = part t (4 + 72 * n) 72 in
    omega (arith, length-append (entry_lines t n) (entry_line row), entry_lines_length t n (λ i g. h i (omega arith)), h n (omega arith))

pub tree_lines_length : (t : List ℕ) (n m : ℕ) → word t 0 ≡ n → word t 2 ≡ m
    → ((i : ℕ) → i < n → length (entry_line (part t (4 + 72 * i) 72)) ≤ 145) → ((i : ℕ) → i < m → length (aside_line (part t (73732 + 12 * i) 12)) ≤ 46)
    → length (tree_lines t) ≤ 145 * n + 46 * m
unfolding tree_lines
tree_lines_length t n m e f h k =
    rw (e, f) (omega (arith, length-append (entry_lines t n) (aside_lines t m), entry_lines_length t n h, aside_lines_length t m k))
