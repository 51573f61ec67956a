-- The rows of the table that shows a sound state: how many there are, and how long their lines are.
-- Assumes nothing.
use Prim.Native.Nat.{ℕ, zero, suc, ◌+◌, ◌-◌, ◌*◌, ◌/◌, ◌%◌, ◌≤◌, ◌<◌}
use native.Mathlib.Omega.{arith}
use mathlib.Core.Path.{◌≡◌, refl, ap, ◌∙◌}
use mathlib.Core.Logic.{⊎_elim}
use mathlib.Core.Bool.{Bool, true, false, cond, ◌&&◌}
use mathlib.Core.List.{List, [], ◌∷◌, ◌++◌}
use lib.Dec.{eqb}
use lib.ListN.{length, get_or, replicate, length-append, length-replicate}
use Rattle.model.specs.Bytes.{word, two, part, padded}
use Rattle.model.specs.Record.{Rec, root, self_of, object_of}
use Rattle.model.specs.Replay.{Entry, Aside, Tree, is_present, changed, settled, new_entry, stored, renamed, moved, removed, step, replay_from, present_ones}
use Rattle.model.specs.Table.{identity_bytes, entry_row, aside_row, entry_rows, aside_rows, table_bytes}
use Rattle.model.specs.Listing.{entry_line, aside_line, tree_lines}
use Rattle.byte_slice.proofs.Parts.{part_front, part-behind}
use Rattle.byte_slice.proofs.Words.{word_two, word-behind}
use Rattle.log_laws.proofs.Members.{All, all_at}
use Rattle.tree_laws.specs.Trees.{NamedOrNone, EntryFits, AsideFits, SoundTree}
use Rattle.tree_laws.proofs.Steps.{cond_elim, step_elim, effect_elim}
use Rattle.tree_table.specs.Rows.{AllProper, flag_of}
use Rattle.tree_table.proofs.Rows.{rows_length, aside_rows_length}
use Rattle.tree_table.proofs.Writes.{rows_part, aside_rows_part}
use Rattle.index_laws.proofs.Exact.{all_has, has_all, has_present}
use Rattle.index_laws.proofs.Rowed.{named-range}
use Rattle.listing_laws.proofs.Lines.{entry_line_length, aside_line_length, tree_lines_length}

-- ---- a record leaves an entry or an aside, not both

length-changed : (g : Entry → Entry) (k : ℕ) (es : List Entry) → length (changed g k es) ≡ length es
unfolding changed
length-changed g k [] = refl
length-changed g k (e ∷ es) =
    cond_elim (λ (x : List Entry). length x ≡ suc (length es)) (eqb e.made k && is_present e) (g e ∷ es) (e ∷ changed g k es)
    (λ _. refl)
    (λ _. ap suc (length-changed g k es))

length-settled : (k : ℕ) (l : List Aside) → length (settled k l) ≡ length l
unfolding settled
length-settled k [] = refl
length-settled k (a ∷ l) =
    cond_elim (λ (x : List Aside). length x ≡ suc (length l)) (eqb a.who k)
    (record { who = a.who; reason = a.reason; marked = a.marked; is_open = false } ∷ l) (a ∷ settled k l)
    (λ _. refl)
    (λ _. ap suc (length-settled k l))

abbrev pub size : Tree → ℕ
size t = length t.entries + length t.asides

step_size : (t : Tree) (r : Rec) → size (step t r) ≤ suc (size t)
step_size t r =
    let P : Tree → Type 0 = λ (x : Tree). length x.entries + length x.asides ≤ suc (length t.entries + length t.asides) in
    step_elim P t r
    (λ _. effect_elim P r t
    (λ _. omega (arith, length-append t.entries (new_entry r ∷ [])))
    (λ _. omega (arith, length-changed (stored r) (object_of r) t.entries))
    (λ _. omega (arith, length-changed removed (object_of r) t.entries))
    (λ _. omega (arith, length-changed (renamed r) (object_of r) t.entries))
    (λ _. omega (arith, length-settled (object_of r) t.asides))
    (λ _. omega (arith, length-changed (moved r) (object_of r) t.entries)))
    (λ n k _. omega (arith, length-append t.asides (record { who = self_of r; reason = n; marked = k; is_open = true } ∷ [])))

pub replay_size : (t : Tree) (l : List Rec) → size (replay_from t l) ≤ size t + length l
unfolding replay_from
replay_size t [] = omega arith
replay_size t (r ∷ l) = omega (arith, step_size t r, replay_size (step t r) l)

step_asides : (t : Tree) (r : Rec) → length (step t r).asides ≤ suc (length t.asides)
step_asides t r =
    let P : Tree → Type 0 = λ (x : Tree). length x.asides ≤ suc (length t.asides) in
    step_elim P t r
    (λ _. effect_elim P r t (λ _. omega arith) (λ _. omega arith) (λ _. omega arith) (λ _. omega arith) (λ _. omega (arith, length-settled (object_of r) t.asides)) (λ _. omega arith))
    (λ n k _. omega (arith, length-append t.asides (record { who = self_of r; reason = n; marked = k; is_open = true } ∷ [])))

pub replay_asides : (t : Tree) (l : List Rec) → length (replay_from t l).asides ≤ length t.asides + length l
unfolding replay_from
replay_asides t [] = omega arith
replay_asides t (r ∷ l) = omega (arith, step_asides t r, replay_asides (step t r) l)

-- ---- the table's counts and rows

pub entries_counted : (t : Tree) → word (table_bytes t) 0 ≡ length (present_ones t.entries)
unfolding table_bytes
entries_counted t =
    word_two (length (present_ones t.entries))
    (two (length t.asides) ++ (padded 73728 (entry_rows t.asides (present_ones t.entries)) ++ padded 12288 (aside_rows t.asides)))

pub asides_counted : (t : Tree) → word (table_bytes t) 2 ≡ length t.asides
unfolding table_bytes
asides_counted t =
    let rest : List ℕ = padded 73728 (entry_rows t.asides (present_ones t.entries)) ++ padded 12288 (aside_rows t.asides) in
    word-behind (two (length (present_ones t.entries))) (two (length t.asides) ++ rest) 0 ∙ word_two (length t.asides) rest

-- row i of an entry, and of an aside
module _ (t : Tree) (few : length (present_ones t.entries) ≤ 1024) (a : AllProper (present_ones t.entries)) where
  row-at : (i : ℕ) (d : Entry) → i < length (present_ones t.entries)
      → part (table_bytes t) (4 + 72 * i) 72 ≡ entry_row (flag_of t.asides (get_or (present_ones t.entries) i d)) (get_or (present_ones t.entries) i d)
  unfolding table_bytes padded
  row-at i d h =
      let es : List Entry = present_ones t.entries in
      let s : List Aside = t.asides in
      let rows : List ℕ = entry_rows s es in
      let zeros : List ℕ = replicate (73728 - length rows) 0 in
      let behind : List ℕ = padded 12288 (aside_rows s) in
      let n = rows_length s es a in
      let m = length-append rows zeros in
      part-behind (two (length es) ++ two (length s)) ((rows ++ zeros) ++ behind) (72 * i) 72
      ∙ part_front (rows ++ zeros) behind (72 * i) 72 (omega arith)
      ∙ part_front rows zeros (72 * i) 72 (omega arith)
      ∙ rows_part s es i d h a

  aside-at : (i : ℕ) (d : Aside) → i < length t.asides → part (table_bytes t) (73732 + 12 * i) 12 ≡ aside_row (get_or t.asides i d)
  unfolding table_bytes padded
  aside-at i d h =
      let es : List Entry = present_ones t.entries in
      let s : List Aside = t.asides in
      let rows : List ℕ = entry_rows s es in
      let zeros : List ℕ = replicate (73728 - length rows) 0 in
      let notes : List ℕ = aside_rows s in
      let rest : List ℕ = replicate (12288 - length notes) 0 in
      let n = rows_length s es a in
      let front : List ℕ = two (length es) ++ (two (length s) ++ (rows ++ zeros)) in
      let m : length front ≡ 73732 = omega (arith, length-append rows zeros, length-replicate {A = ℕ} (73728 - length rows) 0) in
      let q : part (front ++ (notes ++ rest)) (length front + 12 * i) 12 ≡ part (notes ++ rest) (12 * i) 12 = part-behind front (notes ++ rest) (12 * i) 12 in
      (rw m at q) ∙ part_front notes rest (12 * i) 12 (omega (arith, aside_rows_length s)) ∙ aside_rows_part s i d h

-- ---- the lines of a sound tree whose vector counts numbers of 16 bits

abbrev pub Small : List ℕ → Type 0
Small v = (u : ℕ) → u < 8 → get_or v u 0 < 65536

named_few : (v : List ℕ) → Small v → (k : ℕ) → NamedOrNone v k → k < 524288
named_few v s k n = ⊎_elim (λ (z : k ≡ root). omega arith) (λ z. (named-range v s k z).high) n

row_line : (d : ℕ) (e : Entry) → e.made < 524288 → e.inside < 524288 → length (entry_line (entry_row d e)) ≤ 145
unfolding entry_row identity_bytes word
row_line d e a b = entry_line_length (entry_row d e) (omega arith, omega arith) (omega arith, omega arith)

note_line : (a : Aside) → a.who < 524288 → a.marked < 524288 → a.reason < 100 → length (aside_line (aside_row a)) ≤ 46
unfolding aside_row identity_bytes word
note_line a h k n = aside_line_length (aside_row a) (omega arith, omega arith) n (omega arith, omega arith)

module _ (v : List ℕ) (s : Small v) (t : Tree) (f : SoundTree v t) (few : length (present_ones t.entries) ≤ 1024) (a : AllProper (present_ones t.entries)) where
  present_fit : All (EntryFits v) (present_ones t.entries)
  present_fit =
      all_has (EntryFits v) (present_ones t.entries) (λ x i. has_all (EntryFits v) t.entries x f.entries_fit (has_present t.entries x i).0)

  entry_few : (i : ℕ) → i < length (present_ones t.entries) → length (entry_line (part (table_bytes t) (4 + 72 * i) 72)) ≤ 145
  entry_few i h =
      let none : Entry = record { made = 0; kind = 0; inside = 0; label = []; contents = 0; date = []; mark = []; placing = 0 } in
      let e : Entry = get_or (present_ones t.entries) i none in
      let F : EntryFits v e = all_at (EntryFits v) (present_ones t.entries) i none h present_fit in
      rw (row-at t few a i none h) (row_line (flag_of t.asides e) e (named-range v s e.made F.own_named).high (named_few v s e.inside F.folder_named))

  aside_few : (i : ℕ) → i < length t.asides → length (aside_line (part (table_bytes t) (73732 + 12 * i) 12)) ≤ 46
  aside_few i h =
      let none : Aside = record { who = 0; reason = 0; marked = 0; is_open = true } in
      let x : Aside = get_or t.asides i none in
      let F : AsideFits v x = all_at (AsideFits v) t.asides i none h f.asides_fit in
      let r : x.reason < 100 = ⊎_elim (λ (z : (12 ≤ x.reason) × (x.reason ≤ 18)). omega (arith, z.1)) (λ (z : x.reason ≡ 25). omega arith) F.a_reason in
      rw (aside-at t few a i none h) (note_line x (named-range v s x.who F.who_named).high (named_few v s x.marked F.mark_named) r)

  pub tree_lines_few : length (tree_lines (table_bytes t)) ≤ 145 * length (present_ones t.entries) + 46 * length t.asides
  tree_lines_few =
      tree_lines_length (table_bytes t) (length (present_ones t.entries)) (length t.asides) (entries_counted t) (asides_counted t) entry_few aside_few
