-- Flags of disputed entries, one aside after another.
-- Assumes nothing.
use Prim.Native.Nat.{ℕ, zero, suc, ◌+◌, ◌-◌, ◌*◌, ◌≤◌, ◌<◌}
use native.Mathlib.Numerals.{add-one}
use native.Mathlib.Nat.{zero-add, sub-zero}
use native.Mathlib.Omega.{arith}
use mathlib.Core.Path.{◌≡◌, refl, sym, ap, subst, ◌∙◌}
use mathlib.Core.Logic.{◌⊎◌, inl, inr, ⊎_elim}
use mathlib.Core.Bool.{Bool, true, false, ◌&&◌, ◌||◌}
use mathlib.Core.List.{List, [], ◌∷◌, ◌++◌}
use lib.Dec.{eqb}
use lib.ListN.{get_or, length, set, take, drop}
use lib.Seq.{take-suc, take_all}
use borrow.Author.Tests.{eq-eqb, ne_eqb}
use borrow.Rule.Slice.PartMut.{put_mid}
use Rattle.model.specs.Bytes.{part, put_at}
use Rattle.model.specs.Record.{identity_at}
use Rattle.model.specs.Replay.{Entry, Aside, Tree, is_disputed}
use Rattle.model.specs.Table.{entry_row, entry_rows, aside_in, flagged, work_bytes}
use Rattle.byte_slice.proofs.Parts.{part_is}
use Rattle.byte_slice.proofs.PutAt.{put_in_back, mid_put}
use Rattle.tree_table.specs.Rows.{entries_from, asides_from, tree_in, flag_of, InRange, AllProper}
use Rattle.tree_table.proofs.Rows.{row-length, rows_length, tree_back}
use Rattle.tree_table.proofs.Writes.{rows_written, part-entry, flagged-long}
use Rattle.tree_table.proofs.Fields.{put_field}
use Rattle.tree_lookup.specs.Roles.{row_from, row_of, role_of, Absent, Lone, MarksFit, Works, Holds, Reads}
use Rattle.tree_lookup.proofs.Places.{row_absent, row-at, absent_at}
use Rattle.tree_lookup.proofs.Working.{blank_entry, blank_aside, proper_at, asides_at, role_row, role_no_row}
use Rattle.tree_finish.specs.Finishing.{Marked}

-- ---- one aside more

or_none : (p : Bool) → (p || false) ≡ p
or_none true = refl
or_none false = refl

or_assoc : (p q r : Bool) → (p || (q || r)) ≡ ((p || q) || r)
or_assoc true q r = refl
or_assoc false q r = refl

disputed_more : (k : ℕ) (s : List Aside) (a : Aside) → is_disputed k (s ++ (a ∷ [])) ≡ (is_disputed k s || (a.is_open && eqb a.marked k))
unfolding is_disputed
disputed_more k [] a = or_none (a.is_open && eqb a.marked k)
disputed_more k (x ∷ s) a = rw (disputed_more k s a) (or_assoc (x.is_open && eqb x.marked k) (is_disputed k s) (a.is_open && eqb a.marked k))

flag_same : (s : List Aside) (a : Aside) (e : Entry) → (a.is_open && eqb a.marked e.made) ≡ false → flag_of (s ++ (a ∷ [])) e ≡ flag_of s e
flag_same s a e h = rw (disputed_more e.made s a, h, or_none (is_disputed e.made s))

or_here : (p : Bool) → (p || true) ≡ true
or_here true = refl
or_here false = refl

flag_set : (s : List Aside) (a : Aside) (e : Entry) → a.is_open ≡ true → e.made ≡ a.marked → flag_of (s ++ (a ∷ [])) e ≡ 1
flag_set s a e h g = rw (disputed_more e.made s a, h, eq-eqb a.marked e.made (sym g), or_here (is_disputed e.made s))

apart_test : (a : Aside) (k : ℕ) → (k ≡ a.marked → ⊥) → (a.is_open && eqb a.marked k) ≡ false
apart_test a k h = rw (ne_eqb a.marked k (λ (z : a.marked ≡ k). h (sym z))) (go a.is_open)
  where
    go : (b : Bool) → (b && false) ≡ false
    go true = refl
    go false = refl

-- an aside that is not open, or marks no entry, changes no row
rows_closed : (s : List Aside) (a : Aside) (es : List Entry) → a.is_open ≡ false → entry_rows (s ++ (a ∷ [])) es ≡ entry_rows s es
unfolding entry_rows
rows_closed s a [] h = refl
rows_closed s a (e ∷ l) h = rw (flag_same s a e (rw h), rows_closed s a l h)

rows_absent : (s : List Aside) (a : Aside) (es : List Entry) → Absent a.marked es → entry_rows (s ++ (a ∷ [])) es ≡ entry_rows s es
unfolding entry_rows
rows_absent s a [] h = refl
rows_absent s a (e ∷ l) h = rw (flag_same s a e (apart_test a e.made h.0), rows_absent s a l h.1)

-- an open aside flags the row of the entry that it marks
rows_flagged : (s : List Aside) (a : Aside) (es : List Entry) (j : ℕ) (d : Entry) → a.is_open ≡ true → j < length es → (get_or es j d).made ≡ a.marked → Lone es → AllProper es
    → entry_rows (s ++ (a ∷ [])) es ≡ put_at (entry_rows s es) (72 * j) (entry_row 1 (get_or es j d))
unfolding entry_rows
rows_flagged s a [] j d o h g u p = absurd (omega arith)
rows_flagged s a (e ∷ l) zero d o h g u p =
    let x : entry_rows (s ++ (a ∷ [])) l ≡ entry_rows s l = rows_absent s a l (rw g at u.0) in
    rw (flag_set s a e o g, x) (sym (put_field [] (entry_row (flag_of s e) e) (entry_rows s l) (entry_row 1 e) 0 refl (row-length 1 e p.0 ∙ sym (row-length (flag_of s e) e p.0))))
rows_flagged s a (e ∷ l) (suc j) d o h g u p =
    let row = entry_row (flag_of s e) e in
    let n : 72 * suc j ≡ length row + 72 * j = omega (arith, row-length (flag_of s e) e p.0) in
    let f : flag_of (s ++ (a ∷ [])) e ≡ flag_of s e =
    flag_same s a e (apart_test a e.made (λ (z : e.made ≡ a.marked). absent_at e.made l j d u.0 (omega arith) (g ∙ sym z))) in
    rw (f, n, put_in_back row (entry_rows s l) (72 * j) (entry_row 1 (get_or l j d)), rows_flagged s a l j d o (omega arith) g u.1 p.1)

absent_zero : (es : List Entry) → AllProper es → Absent 0 es
absent_zero [] p = tt
absent_zero (e ∷ l) p = (λ (z : e.made ≡ 0). let q = p.0.range.low in omega arith, absent_zero l p.1)

marks_at : (l : List Aside) (i : ℕ) (d : Aside) → i < length l → MarksFit l → ((get_or l i d).marked ≡ 0) ⊎ InRange (get_or l i d).marked
marks_at [] i d h p = absurd (omega arith)
marks_at (a ∷ l) zero d h p = p.0
marks_at (a ∷ l) (suc i) d h p = marks_at l i d (omega arith) p.1

-- ---- the table

flagged_same : (s u : List Aside) (es : List Entry) (l : List Aside) → entry_rows u es ≡ entry_rows s es → flagged s es l ≡ flagged u es l
unfolding flagged
flagged_same s u es l e = rw e

flagged-row : (s : List Aside) (a : Aside) (es : List Entry) (l : List Aside) (j : ℕ) → AllProper es → length es ≤ 1024 → a.is_open ≡ true → j < length es
    → (get_or es j blank_entry).made ≡ a.marked → Lone es → put_at (flagged s es l) (4 + 72 * j) (entry_row 1 (get_or es j blank_entry)) ≡ flagged (s ++ (a ∷ [])) es l
unfolding flagged
flagged-row s a es l j p room o h g u =
    let e = get_or es j blank_entry in
    rows_written s es l p room (72 * j) (entry_row 1 e) (omega (arith, rows_length s es p, row-length 1 e (proper_at es j blank_entry h p)))
    ∙ rw (rows_flagged s a es j blank_entry o h g u p)

flag_part : (s : List Aside) (es : List Entry) (l : List Aside) (j : ℕ) (b : List ℕ) → b ≡ flagged s es l → AllProper es → length es ≤ 1024 → j < length es
    → set (part b (4 + 72 * j) 72) 1 1 ≡ entry_row 1 (get_or es j blank_entry)
unfolding entry_row
flag_part s es l j b e p room h = rw (e, part-entry s es l p room j blank_entry h)

-- ---- what `flag_one` is asked, over plain values

module _ (b register : List ℕ) (n m i : ℕ) (k : Marked (take i (asides_from b 0 m)) b register n m (tree_in b n m)) (h : i < m) where
  one_more : take (i + 1) (asides_from b 0 m) ≡ take i (asides_from b 0 m) ++ (aside_in b (73732 + 12 * i) ∷ [])
  unfolding tree_in
  one_more =
      let notes = k.works.notes in
      rw (add-one i, take-suc (asides_from b 0 m) i blank_aside (omega arith), asides_at b 0 m i blank_aside h, zero-add i)

  table-long : length b ≡ 86020
  unfolding tree_in
  table-long =
      let fit = k.works.rows_fit_lem in
      let notes = k.works.notes in
      let rows = k.works.rows in
      let nf = k.works.notes_fit in
      ap (λ (y : List ℕ). length y) k.bytes
      ∙ flagged-long (take i (asides_from b 0 m)) (entries_from b 0 n) (asides_from b 0 m) k.works.proper (omega arith) (omega arith)

  pub flag_reads : Reads b register n m
  flag_reads = record { long = table-long; rows_fit_lem = k.works.rows_fit_lem; notes_fit = k.works.notes_fit; apart = k.works.apart; named = k.works.named }

  pub state_inside : 73732 + 12 * i + 5 < length b
  state_inside =
      let nf = k.works.notes_fit in
      omega (arith, table-long)

  pub mark_inside : 73732 + 12 * i + 8 + 3 < length b
  mark_inside =
      let nf = k.works.notes_fit in
      omega (arith, table-long)

  same_rows : entry_rows (take i (asides_from b 0 m) ++ (aside_in b (73732 + 12 * i) ∷ [])) (entries_from b 0 n) ≡ entry_rows (take i (asides_from b 0 m)) (entries_from b 0 n)
      → Marked (take (i + 1) (asides_from b 0 m)) b register n m (tree_in b n m)
  unfolding tree_in
  same_rows e =
      let s = take i (asides_from b 0 m) in
      let u = s ++ (aside_in b (73732 + 12 * i) ∷ []) in
      rw one_more (record { bytes = k.bytes ∙ flagged_same s u (entries_from b 0 n) (asides_from b 0 m) e; works = k.works })

  pub flag_closed : (get_or b (73732 + 12 * i + 5) 0 ≡ 1 → ⊥) → Marked (take (i + 1) (asides_from b 0 m)) b register n m (tree_in b n m)
  unfolding aside_in
  flag_closed g =
      same_rows (rows_closed (take i (asides_from b 0 m)) (aside_in b (73732 + 12 * i)) (entries_from b 0 n) (ne_eqb (get_or b (73732 + 12 * i + 5) 0) 1 g))

  module _ (x : ℕ) (q : x ≡ identity_at b (73732 + 12 * i + 8)) where
    absent_rows : Absent x (entries_from b 0 n) → Marked (take (i + 1) (asides_from b 0 m)) b register n m (tree_in b n m)
    unfolding aside_in
    absent_rows g = same_rows (rows_absent (take i (asides_from b 0 m)) (aside_in b (73732 + 12 * i)) (entries_from b 0 n) (rw q at g))

    pub flag_none : x ≡ 0 → Marked (take (i + 1) (asides_from b 0 m)) b register n m (tree_in b n m)
    unfolding tree_in
    flag_none z = absent_rows (rw z (absent_zero (entries_from b 0 n) k.works.proper))

    pub mark_range : (x ≡ 0 → ⊥) → InRange x
    unfolding tree_in aside_in
    mark_range z =
        let notes = k.works.notes in
        let c : get_or (asides_from b 0 m) i blank_aside ≡ aside_in b (73732 + 12 * i) = rw (zero-add i) at (asides_at b 0 m i blank_aside h) in
        let a : (get_or (asides_from b 0 m) i blank_aside).marked ≡ x = ap (λ (y : Aside). y.marked) c ∙ sym q in
        ⊎_elim (λ (y : (get_or (asides_from b 0 m) i blank_aside).marked ≡ 0). absurd (z (sym a ∙ y)))
        (λ (y : InRange (get_or (asides_from b 0 m) i blank_aside).marked). rw a at y)
        (marks_at (asides_from b 0 m) i blank_aside (omega arith) k.works.marks)

    module _ (z : x ≡ 0 → ⊥) (role : ℕ) (r : role ≡ role_of x (tree_in b n m)) where
      no_row : (role ≡ 0) ⊎ (n < role) → Marked (take (i + 1) (asides_from b 0 m)) b register n m (tree_in b n m)
      unfolding tree_in row_of
      no_row g =
          absent_rows (row_absent x 0 (entries_from b 0 n) (role_no_row (work_bytes (tree_in b n m)) register n m (tree_in b n m) k.works x role r g))

      pub flag_no_role : role ≡ 0 → Marked (take (i + 1) (asides_from b 0 m)) b register n m (tree_in b n m)
      flag_no_role g = no_row (inl g)

      pub flag_aside : n < role → Marked (take (i + 1) (asides_from b 0 m)) b register n m (tree_in b n m)
      flag_aside g = no_row (inr g)

      pub flag_done : get_or b (73732 + 12 * i + 5) 0 ≡ 1 → (role ≡ 0 → ⊥) → role ≤ n → (ys : List ℕ)
          → ys ≡ set (take (4 + 72 * (role - 1) + 72 - (4 + 72 * (role - 1))) (drop (4 + 72 * (role - 1)) b)) 1 1
          → Marked
          (take (i + 1) (asides_from b 0 m))
          (put_mid (4 + 72 * (role - 1)) (4 + 72 * (role - 1) + 72 - (4 + 72 * (role - 1))) b ys)
          register
          n
          m
          (tree_in b n m)
      unfolding tree_in row_of aside_in
      flag_done o g f ys y =
          let s = take i (asides_from b 0 m) in
          let es = entries_from b 0 n in
          let l = asides_from b 0 m in
          let a = aside_in b (73732 + 12 * i) in
          let j = role - 1 in
          let w = k.works in
          let rows = w.rows in
          let fit = w.rows_fit_lem in
          let c : row_from x 0 es ≡ suc j = role_row (work_bytes (tree_in b n m)) register n m (tree_in b n m) w x role r (omega arith) f ∙ omega arith in
          let at = row-at x 0 es j blank_entry c in
          let d : (get_or es j blank_entry).made ≡ x = rw sub-zero at at.is in
          let v : ys ≡ entry_row 1 (get_or es j blank_entry) =
          y ∙ rw (part_is b (4 + 72 * j) 72) (flag_part s es l j b k.bytes w.proper (omega arith) (omega (arith, at.inside))) in
          let n72 : length ys ≡ 72 = ap (λ (q : List ℕ). length q) v ∙ row-length 1 (get_or es j blank_entry) (proper_at es j blank_entry (omega (arith, at.inside)) w.proper) in
          let u : put_at b (4 + 72 * j) (entry_row 1 (get_or es j blank_entry)) ≡ flagged (s ++ (a ∷ [])) es l =
          ap (λ (q : List ℕ). put_at q (4 + 72 * j) (entry_row 1 (get_or es j blank_entry))) k.bytes
          ∙ flagged-row s a es l j w.proper (omega arith) (eq-eqb (get_or b (73732 + 12 * i + 5) 0) 1 o) (omega (arith, at.inside)) (d ∙ q) w.lone in
          let e : put_mid (4 + 72 * j) (4 + 72 * j + 72 - (4 + 72 * j)) b ys ≡ flagged (take (i + 1) l) es l =
          mid_put (4 + 72 * j) 72 b ys n72 ∙ ap (λ (q : List ℕ). put_at b (4 + 72 * j) q) v ∙ u ∙ ap (λ (q : List Aside). flagged q es l) (sym one_more) in
          record { bytes = e; works = w }

-- ---- what `flag` is asked

marked_tree : (s : List Aside) (b register : List ℕ) (n m : ℕ) (t : Tree) → Marked s b register n m t → tree_in b n m ≡ t
marked_tree s b register n m t k =
    let f = k.works.rows_fit_lem in
    let p = k.works.rows in
    rw (← p, ← k.works.notes, k.bytes) (tree_back s t k.works.proper (omega arith))

pub no_flags : (b register : List ℕ) (n m : ℕ) → Holds b register n m → Marked (take 0 (asides_from b 0 m)) b register n m (tree_in b n m)
unfolding work_bytes
no_flags b register n m w = record { bytes = w.bytes; works = subst (λ (x : List ℕ). Works x register n m (tree_in b n m)) w.bytes w }

module _ (b₀ b register : List ℕ) (n m i : ℕ) (k : Marked (take i (asides_from b₀ 0 m)) b register n m (tree_in b₀ n m)) where
  same_tree : tree_in b n m ≡ tree_in b₀ n m
  same_tree = marked_tree (take i (asides_from b₀ 0 m)) b register n m (tree_in b₀ n m) k

  pub flag_turn : Marked (take i (asides_from b 0 m)) b register n m (tree_in b n m)
  unfolding tree_in
  flag_turn = subst (λ (x : Tree). Marked (take i x.asides) b register n m x) (sym same_tree) k

  pub flag_next : (b' : List ℕ) → Marked (take (i + 1) (asides_from b 0 m)) b' register n m (tree_in b n m) → Marked (take (i + 1) (asides_from b₀ 0 m)) b' register n m (tree_in b₀ n m)
  unfolding tree_in
  flag_next b' v = subst (λ (x : Tree). Marked (take (i + 1) x.asides) b' register n m x) same_tree v

  pub flags_end : i ≤ m → m ≤ i → Marked (asides_from b₀ 0 m) b register n m (tree_in b₀ n m)
  unfolding tree_in
  flags_end h g =
      let notes = k.works.notes in
      rw (take_all i (asides_from b₀ 0 m) (omega arith)) at k
