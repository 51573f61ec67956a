-- What a record does to an index, over plain values.
-- Assumes nothing.
use Prim.Native.Nat.{ℕ, ◌+◌, ◌-◌, ◌*◌, ◌≤◌, ◌<◌}
use native.Mathlib.Omega.{arith}
use mathlib.Core.Path.{◌≡◌, sym, ◌∙◌}
use mathlib.Core.Logic.{◌⊎◌, ⊎_elim}
use mathlib.Core.List.{List}
use Rattle.std.proofs.Math.Option.{none, some}
use lib.ListN.{take, drop}
use borrow.Author.Tests.{le-leb, lt-ltb, le-ltb}
use Rattle.byte_slice.proofs.Parts.{part_is}
use Rattle.model.specs.Bytes.{part}
use Rattle.model.specs.Record.{Rec, op, self_of, object_of, folder_of, label_of, uses_folder}
use Rattle.model.specs.Replay.{entry_of}
use Rattle.model.specs.Table.{entry_in}
use Rattle.record_uses.specs.declared.Operation.{Operation}
use Rattle.record_uses.specs.declared.Operation.TheVariants.{Remove, Rename, Move, Settle, Store}
use Rattle.record_uses.specs.Operations.{number_of}
use Rattle.tree_table.specs.Rows.{InRange, entries_from, row_in, tree_in}
use Rattle.tree_judge.specs.Judged.{Asks}
use Rattle.index_model.specs.Change.{put_in, take_out, move_in}
use Rattle.index_model.specs.Acting.{removed_in, renamed_in, moved_in, change_in}
use Rattle.index_laws.specs.Copied.{entry_row_at}
use Rattle.index_act.specs.Inside.{Inside}
use Rattle.index_act.specs.Moved.{put_elsewhere}

-- ---- the entry in a row

module _ (b T : List ℕ) (row : ℕ) where
  label_lent : take (4 + 72 * row + 24 + 32 - (4 + 72 * row + 24)) (drop (4 + 72 * row + 24) T) ≡ (entry_row_at T row).label
  unfolding entry_in
  label_lent = part_is T (4 + 72 * row + 24) 32

  pub removed : (x : List ℕ) (k : ℕ) → k ≡ (entry_row_at T row).inside
      → x ≡ take_out b k (take (4 + 72 * row + 24 + 32 - (4 + 72 * row + 24)) (drop (4 + 72 * row + 24) T))
      → x ≡ removed_in b (some (entry_row_at T row))
  unfolding removed_in
  removed x k e q = q ∙ rw (e, label_lent)

  pub moved : (r : Rec) (x : List ℕ) (k m g : ℕ) → k ≡ (entry_row_at T row).inside → m ≡ (entry_row_at T row).made
      → x ≡ move_in b k (take (4 + 72 * row + 24 + 32 - (4 + 72 * row + 24)) (drop (4 + 72 * row + 24) T)) g (take 32 (drop 32 r)) m
      → x ≡ put_elsewhere r g b (entry_row_at T row)
  unfolding put_elsewhere label_of part
  moved r x k m g e f q = q ∙ rw (e, f, label_lent)

pub row_there : (T : List ℕ) (n row : ℕ) → row < n → row_in T n row ≡ some (entry_row_at T row)
unfolding row_in
row_there T n row h = rw (lt-ltb row n h)

pub row_absent : (T : List ℕ) (n : ℕ) → row_in T n n ≡ none
unfolding row_in
row_absent T n = rw (le-ltb n n (omega arith))

pub folder_low : (T : List ℕ) (n row k : ℕ) → Inside T n → row < n → k ≡ (entry_row_at T row).inside → k < 524288
folder_low T n row k w h e = rw e (w.folder row h)

pub entry_low : (T : List ℕ) (n row : ℕ) → Inside T n → row < n → (entry_row_at T row).made < 524288
entry_low T n row w h = w.entry row h

-- ---- by operation

pub asked_folder : (r : Rec) (k : ℕ) → Asks r → op r ≤ 2 → k ≡ folder_of r → k < 524288
unfolding uses_folder
asked_folder r k a h e = ⊎_elim (λ (z : folder_of r ≡ 0). omega arith) (λ z. let u = z.high in omega arith) (a.folder (rw (le-leb (op r) 2 h)))

pub moved_folder : (r : Rec) (k : ℕ) → Asks r → (o : Operation) → number_of o ≡ op r → o ≡ Move → k ≡ folder_of r → k < 524288
unfolding uses_folder
moved_folder r k a o q z e =
    let h = rw z at q in
    ⊎_elim (λ (z : folder_of r ≡ 0). omega arith) (λ z. let u = z.high in omega arith) (a.folder (rw (← h)))

pub own_low : (r : Rec) (k : ℕ) → InRange (self_of r) → k ≡ self_of r → k < 524288
own_low r k a e = let u = a.high in omega arith

pub asked_object : (r : Rec) (k : ℕ) → Asks r → 2 < op r → k ≡ object_of r → InRange k
asked_object r k a h e = rw e (a.object h)

module _ (r : Rec) (T : List ℕ) (n m : ℕ) (b x : List ℕ) where
  pub change_make : op r ≤ 2 → (f k : ℕ) → f ≡ folder_of r → k ≡ self_of r → x ≡ put_in b f (take 32 (drop 32 r)) k → x ≡ change_in r (tree_in T n m) b
  unfolding change_in label_of part
  change_make o f k p q e = e ∙ rw (p, q, le-leb (op r) 2 o)

-- an entry that is not there leaves the index
module _ (r : Rec) (o : Operation) (v : number_of o ≡ op r) (T : List ℕ) (n m : ℕ) (b : List ℕ) (k : ℕ) (p : k ≡ object_of r) (q : row_in T n n ≡ entry_of k (entries_from T 0 n)) where
  gone : entry_of (object_of r) (entries_from T 0 n) ≡ none
  gone = rw p at (sym q ∙ row_absent T n)

  pub remove-absent : o ≡ Remove → b ≡ change_in r (tree_in T n m) b
  unfolding change_in tree_in removed_in
  remove-absent z = let h = rw z at v in rw (← h, gone)

  pub rename-absent : o ≡ Rename → b ≡ change_in r (tree_in T n m) b
  unfolding change_in tree_in renamed_in
  rename-absent z = let h = rw z at v in rw (← h, gone)

  pub move-absent : o ≡ Move → b ≡ change_in r (tree_in T n m) b
  unfolding change_in tree_in moved_in
  move-absent z = let h = rw z at v in rw (← h, gone)

module _ (r : Rec) (o : Operation) (v : number_of o ≡ op r) (T : List ℕ) (n m : ℕ) (b : List ℕ) (k row : ℕ) (p : k ≡ object_of r) (h : row < n) (q : row_in T n row ≡ entry_of k (entries_from T 0 n)) (x : List ℕ) where
  there : entry_of (object_of r) (entries_from T 0 n) ≡ some (entry_row_at T row)
  there = rw p at (sym q ∙ row_there T n row h)

  pub change_remove : o ≡ Remove → x ≡ removed_in b (some (entry_row_at T row)) → x ≡ change_in r (tree_in T n m) b
  unfolding change_in tree_in
  change_remove z e = let g = rw z at v in e ∙ rw (← g, there)

  pub change_rename : o ≡ Rename → (f : ℕ) → f ≡ (entry_row_at T row).inside → x ≡ put_elsewhere r f b (entry_row_at T row) → x ≡ change_in r (tree_in T n m) b
  unfolding change_in tree_in renamed_in put_elsewhere
  change_rename z f w e = let g = rw z at v in e ∙ rw (← g, there, w)

  pub change_move : o ≡ Move → (f : ℕ) → f ≡ folder_of r → x ≡ put_elsewhere r f b (entry_row_at T row) → x ≡ change_in r (tree_in T n m) b
  unfolding change_in tree_in moved_in put_elsewhere
  change_move z f w e = let g = rw z at v in e ∙ rw (← g, there, w)

-- a store and a settle leave the index
pub change_none : (r : Rec) (o : Operation) (T : List ℕ) (n m : ℕ) (b : List ℕ) → number_of o ≡ op r → (o ≡ Settle) ⊎ (o ≡ Store) → b ≡ change_in r (tree_in T n m) b
unfolding change_in
change_none r o T n m b e h = ⊎_elim (λ (z : o ≡ Settle). let f = rw z at e in rw (← f)) (λ (z : o ≡ Store). let f = rw z at e in rw (← f)) h
