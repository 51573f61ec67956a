-- The fields of one row, written one after another.
-- Assumes nothing.
use Prim.Native.Nat.{ℕ, ◌+◌, ◌/◌, ◌%◌, ◌≤◌}
use native.Mathlib.Numerals.{add-one}
use native.Mathlib.Nat.{add-zero}
use native.Mathlib.Omega.{arith}
use mathlib.Core.Path.{◌≡◌, refl, sym, ap, ◌∙◌}
use mathlib.Core.Bool.{false}
use mathlib.Core.List.{List, [], ◌∷◌, ◌++◌, append_assoc, append-nil}
use lib.ListN.{length, set, length-append}
use Rattle.model.specs.Bytes.{two, part, put_at}
use Rattle.model.specs.Record.{Rec, op, self_of, folder_of, date_bytes, label_of, mark_of}
use Rattle.model.specs.Replay.{Entry, Aside, new_entry, stored, renamed, moved, removed}
use Rattle.model.specs.Table.{identity_bytes, entry_row, aside_row}
use Rattle.byte_slice.proofs.Parts.{part_length, part_split}
use Rattle.byte_slice.proofs.PutAt.{put_whole, put_in_front, put_in_back, put_more, sets_put}
use Rattle.tree_table.specs.Rows.{new_aside, new_row, stored_row, renamed_row, moved_row, InRange, Proper}

-- a field in the place of another of its length
pub put_field : (p f q x : List ℕ) (n : ℕ) → length p ≡ n → length x ≡ length f → put_at (p ++ (f ++ q)) n x ≡ p ++ (x ++ q)
put_field p f q x n e h =
    let a = rw (add-zero (length p), e) at (put_in_back p (f ++ q) 0 x) in
    a ∙ ap (λ (l : List ℕ). p ++ l) (put_in_front f q 0 x (omega arith) ∙ ap (λ (l : List ℕ). l ++ q) (put_whole f x h))

-- ---- an identity

pub identity-put : (d m : List ℕ) (at k : ℕ) → at + 4 ≤ length d → m ≡ put_at (set (set d at (k % 8)) (at + 1) 0) (at + 2) (two (k / 8)) → m ≡ put_at d at (identity_bytes k)
unfolding identity_bytes
identity-put d m at k h e =
    let a : set (set d at (k % 8)) (at + 1) 0 ≡ put_at d at (k % 8 ∷ 0 ∷ []) = rw (add-one at) (sets_put d at (k % 8 ∷ 0 ∷ []) (omega arith)) in
    e ∙ rw a (put_more d at (k % 8 ∷ 0 ∷ []) (two (k / 8)) (omega arith))

-- a last field in the place of another
put_last : (p a b f x : List ℕ) (n : ℕ) → length p + length a + length b ≡ n → length x ≡ length f
    → put_at (p ++ (a ++ (b ++ f))) n x ≡ p ++ (a ++ (b ++ x))
put_last p a b f x n e h =
    let u = p ++ (a ++ b) in
    let c : (z : List ℕ) → p ++ (a ++ (b ++ z)) ≡ u ++ z = λ z. rw (append_assoc p (a ++ b) z, append_assoc a b z) in
    let l : length u ≡ n = omega (arith, length-append p (a ++ b), length-append a b) in
    let m = rw (append-nil f, append-nil x) at (put_field u f [] x n l h) in
    rw (c f, c x) m

-- ---- the rows of a record

-- two fields that stand apart, written one after the other
put_two : (p f q g t x y : List ℕ) (n m : ℕ) → length p ≡ n → length x ≡ length f → n + length x + length q ≡ m → length y ≡ length g
    → put_at (put_at (p ++ (f ++ (q ++ (g ++ t)))) n x) m y ≡ p ++ (x ++ (q ++ (y ++ t)))
put_two p f q g t x y n m e h k j =
    let u = p ++ (x ++ q) in
    let a : (z : List ℕ) → p ++ (x ++ (q ++ z)) ≡ u ++ z = λ z. rw (append_assoc p (x ++ q) z, append_assoc x q z) in
    let l : length u ≡ m = omega (arith, length-append p (x ++ q), length-append x q) in
    rw (put_field p f (q ++ (g ++ t)) x n e h, a (g ++ t), put_field u g t y m l j, ← a (y ++ t))

module _ (r : Rec) (n : length r ≡ 80) where
  date_length : length (date_bytes r) ≡ 4
  unfolding date_bytes
  date_length = part_length r 28 4 (omega arith)

  label_length : length (label_of r) ≡ 32
  unfolding label_of
  label_length = part_length r 32 32 (omega arith)

  mark_length : length (mark_of r) ≡ 16
  unfolding mark_of
  mark_length = part_length r 64 16 (omega arith)

  fields : part r 28 52 ≡ date_bytes r ++ (label_of r ++ mark_of r)
  unfolding date_bytes label_of mark_of
  fields = part_split r 28 4 48 ∙ rw (part_split r 32 32 16)

  pub store_entry : (d : ℕ) (e : Entry) → Proper e → stored_row (entry_row d e) r ≡ entry_row d (stored r e)
  unfolding stored_row entry_row stored identity_bytes
  store_entry d e p =
      let head : List ℕ = (e.kind ∷ d ∷ 0 ∷ 0 ∷ []) ++ (identity_bytes e.made ++ identity_bytes e.inside) in
      let x : List ℕ = identity_bytes (self_of r) in
      let h : List ℕ = identity_bytes e.placing in
      let y = p.date_long in
      let z = p.mark_long in
      let w = p.label_long in
      let f = put_two head (identity_bytes e.contents) h e.date (e.label ++ e.mark) x (date_bytes r) 12 20 refl refl refl (date_length ∙ sym y) in
      let g = put_last (head ++ (x ++ h)) (date_bytes r) e.label e.mark (mark_of r) 56 (omega (arith, date_length)) (mark_length ∙ sym z) in
      ap (λ (l : List ℕ). put_at l 56 (mark_of r)) f ∙ g

  pub rename_entry : (d : ℕ) (e : Entry) → Proper e → renamed_row (entry_row d e) r ≡ entry_row d (renamed r e)
  unfolding renamed_row entry_row renamed identity_bytes
  rename_entry d e p =
      let head : List ℕ = (e.kind ∷ d ∷ 0 ∷ 0 ∷ []) ++ (identity_bytes e.made ++ (identity_bytes e.inside ++ identity_bytes e.contents)) in
      let x : List ℕ = identity_bytes (self_of r) in
      let y = p.date_long in
      let w = p.label_long in
      put_two head (identity_bytes e.placing) e.date e.label e.mark x (label_of r) 16 24 refl refl (omega arith) (label_length ∙ sym w)

  pub move_entry : (d : ℕ) (e : Entry) → Proper e → moved_row (entry_row d e) r ≡ entry_row d (moved r e)
  unfolding moved_row entry_row renamed moved identity_bytes
  move_entry d e p =
      let head : List ℕ = (e.kind ∷ d ∷ 0 ∷ 0 ∷ []) ++ identity_bytes e.made in
      let tail : List ℕ = identity_bytes e.contents ++ (identity_bytes e.placing ++ (e.date ++ (e.label ++ e.mark))) in
      let x : List ℕ = identity_bytes (folder_of r) in
      let g : Entry = record { made = e.made; kind = e.kind; inside = folder_of r; label = e.label; contents = e.contents; date = e.date; mark = e.mark; placing = e.placing } in
      let q : Proper g = record { range = p.range; date_long = p.date_long; label_long = p.label_long; mark_long = p.mark_long } in
      ap (λ (l : List ℕ). renamed_row l r) (put_field head (identity_bytes e.inside) tail x 8 refl refl) ∙ rename_entry d g q

  -- a whole row, its fields written one after another
  pub new_row_lem : (row : List ℕ) → length row ≡ 72 → new_row row r ≡ entry_row 0 (new_entry r)
  unfolding new_row entry_row new_entry identity_bytes
  new_row_lem row h =
      let head : List ℕ = op r ∷ 0 ∷ 0 ∷ 0 ∷ [] in
      let x : List ℕ = identity_bytes (self_of r) in
      let y : List ℕ = identity_bytes (folder_of r) in
      let p1 = put_more row 0 head x (omega arith) in
      let p2 = put_more row 0 (head ++ x) y (omega arith) in
      let p3 = put_more row 0 (head ++ (x ++ y)) x (omega arith) in
      let p4 = put_more row 0 (head ++ (x ++ (y ++ x))) x (omega arith) in
      let p5 = put_more row 0 (head ++ (x ++ (y ++ (x ++ x)))) (date_bytes r ++ (label_of r ++ mark_of r)) (omega arith) in
      let z = date_bytes r ++ (label_of r ++ mark_of r) in
      let w = head ++ (x ++ (y ++ (x ++ (x ++ z)))) in
      let k : length w ≡ length row =
      omega (arith, length-append (date_bytes r) (label_of r ++ mark_of r), length-append (label_of r) (mark_of r), date_length, label_length, mark_length) in
      rw (fields, p1, p2, p3, p4, p5) (put_whole row w k)

  pub new_proper : InRange (self_of r) → Proper (new_entry r)
  unfolding new_entry
  new_proper h = record { range = h; date_long = date_length; label_long = label_length; mark_long = mark_length }

  pub stored_proper : (e : Entry) → Proper e → Proper (stored r e)
  unfolding stored
  stored_proper e h = record { range = h.range; date_long = date_length; label_long = h.label_long; mark_long = mark_length }

  pub renamed_proper : (e : Entry) → Proper e → Proper (renamed r e)
  unfolding renamed
  renamed_proper e h = record { range = h.range; date_long = h.date_long; label_long = label_length; mark_long = h.mark_long }

pub moved_proper : (r : Rec) → length r ≡ 80 → (e : Entry) → Proper e → Proper (moved r e)
unfolding moved
moved_proper r n e h = record { range = h.range; date_long = h.date_long; label_long = label_length r n; mark_long = h.mark_long }

pub removed_proper : (e : Entry) → Proper e → Proper (removed e)
unfolding removed
removed_proper e h = record { range = h.range; date_long = h.date_long; label_long = h.label_long; mark_long = h.mark_long }

pub remove_entry : (d : ℕ) (e : Entry) → set (entry_row d e) 0 0 ≡ entry_row d (removed e)
unfolding entry_row removed
remove_entry d e = refl

-- ---- the rows of asides

pub aside-written : (row a b m : List ℕ) (k n j : ℕ) → length row ≡ 12
    → a ≡ put_at row 0 (identity_bytes k)
    → b ≡ put_at a 4 (n ∷ 1 ∷ 0 ∷ 0 ∷ [])
    → m ≡ put_at b 8 (identity_bytes j)
    → m ≡ aside_row (new_aside k n j)
unfolding aside_row new_aside identity_bytes
aside-written row a b m k n j h ha hb hm =
    let x : List ℕ = identity_bytes k in
    let y : List ℕ = n ∷ 1 ∷ 0 ∷ 0 ∷ [] in
    let z : List ℕ = identity_bytes j in
    let p1 = put_more row 0 x y (omega arith) in
    let p2 = put_more row 0 (x ++ y) z (omega arith) in
    hm ∙ rw (hb, ha, p1, p2) (put_whole row (x ++ (y ++ z)) (sym h))

-- an aside that is settled
abbrev pub settled_one : Aside → Aside
settled_one a = record { who = a.who; reason = a.reason; marked = a.marked; is_open = false }

pub settle_aside : (a : Aside) → set (aside_row a) 5 2 ≡ aside_row (settled_one a)
unfolding aside_row identity_bytes
settle_aside a = refl
