-- An index that is right stays right under each record, with no index made afresh.
-- Assumes nothing.
use Prim.Native.Nat.{ℕ, zero, suc, ◌+◌, ◌-◌, ◌≤◌, ◌<◌}
use native.Mathlib.Omega.{arith}
use mathlib.Core.Path.{◌≡◌, refl, sym, ap, ◌∙◌}
use mathlib.Core.Logic.{◌⊎◌, inl, inr, ⊎_elim}
use mathlib.Core.Bool.{Bool, true, false, cond, not, ◌&&◌}
use mathlib.Core.Option.{Option, none, some}
use mathlib.Core.List.{List, [], ◌∷◌, ◌++◌, append-nil}
use lib.Dec.{leb, eqb}
use lib.ListN.{get_or, length, length-append}
use borrow.Author.Tests.{le-leb, lt-leb, eq-eqb, ne_eqb}
use Rattle.byte_slice.proofs.Numbers.{bool_cases, cond_cases, and_true}
use Rattle.model.specs.Bytes.{two, padded}
use Rattle.model.specs.Record.{Rec, op, self_of, object_of, folder_of, label_of}
use Rattle.model.specs.Replay.{Entry, Tree, label_key, is_present, entry_of, new_entry, stored, renamed, moved, removed, changed, effect, present_ones}
use Rattle.log_laws.proofs.Members.{All}
use Rattle.tree_laws.specs.Replayed.{Has, makers}
use Rattle.tree_laws.proofs.Labels.{Apart, Clash, Named, has_made}
use Rattle.tree_laws.proofs.Steps.{effect_elim, with_entries}
use Rattle.index_model.specs.Index.{index_places, folder_key, entry_before, key_before, placed, ordered, index_row, index_rows, index_bytes, index_of, rows_in, seek, row_is}
use Rattle.index_model.specs.Change.{row_bytes, put_in, take_row, take_out, move_in}
use Rattle.index_model.specs.Acting.{removed_in, renamed_in, moved_in, change_in}
use Rattle.index_laws.proofs.Sorted.{Sorted, ordered_sorted, ordered_has, has_ordered}
use Rattle.index_laws.proofs.Reading.{Long, rows_counted, has_at, key_one}
use Rattle.index_laws.proofs.Exact.{Rowed, low_32, all_has, has_all, has_present, length-ordered, There, row_there}
use Rattle.index_laws.proofs.Unique.{SameKey, KeysApart, ordered_more, ordered_less, without}
use Rattle.index_laws.proofs.Changing.{put_right, row_less}

-- ---- lists with one in the middle

has_append : (a b : List Entry) (x : Entry) → Has x (a ++ b) → Has x a ⊎ Has x b
has_append [] b x i = inr i
has_append (e ∷ a) b x (inl q) = inl (inl q)
has_append (e ∷ a) b x (inr i) = ⊎_elim (λ j. inl (inr j)) (λ j. inr j) (has_append a b x i)

append_has : (a b : List Entry) (x : Entry) → Has x a ⊎ Has x b → Has x (a ++ b)
append_has [] b x (inl i) = absurd i
append_has [] b x (inr i) = i
append_has (e ∷ a) b x (inl (inl q)) = inl q
append_has (e ∷ a) b x (inl (inr i)) = inr (append_has a b x (inl i))
append_has (e ∷ a) b x (inr i) = inr (append_has a b x (inr i))

keys_less : (p : List Entry) (x : Entry) (q : List Entry) → KeysApart (p ++ (x ∷ q)) → KeysApart (p ++ q)
keys_less [] x q a = a.1
keys_less (e ∷ p) x q a =
    (λ y i. a.0 y (⊎_elim (λ j. append_has p (x ∷ q) y (inl j)) (λ j. append_has p (x ∷ q) y (inr (inr j))) (has_append p q y i)), keys_less p x q a.1)

keys_middle : (p : List Entry) (x : Entry) (q : List Entry) → KeysApart (p ++ (x ∷ q)) → (y : Entry) → Has y (p ++ q) → SameKey x y → ⊥
keys_middle [] x q a y i s = a.0 y i s
keys_middle (e ∷ p) x q a y (inl z) s =
    a.0 x (append_has p (x ∷ q) x (inr (inl refl)))
    (ap (λ (w : Entry). folder_key w.inside) (sym z) ∙ sym s.0, ap (λ (w : Entry). label_key w.label) (sym z) ∙ sym s.1)
keys_middle (e ∷ p) x q a y (inr i) s = keys_middle p x q a.1 y i s

module _ (p : List Entry) (x : Entry) (q : List Entry) where
  middle_has : (y : Entry) → Has y (p ++ (x ∷ q)) → (y ≡ x) ⊎ Has y (p ++ q)
  middle_has y i =
      ⊎_elim
      (λ j. inr (append_has p q y (inl j)))
      (⊎_elim (λ z. inl z) (λ j. inr (append_has p q y (inr j))))
      (has_append p (x ∷ q) y i)

  has_middle : (y : Entry) → (y ≡ x) ⊎ Has y (p ++ q) → Has y (p ++ (x ∷ q))
  has_middle y (inl z) = append_has p (x ∷ q) y (inr (inl z))
  has_middle y (inr i) = append_has p (x ∷ q) y (⊎_elim (λ j. inl j) (λ j. inr (inr j)) (has_append p q y i))

  length_middle : length (p ++ (x ∷ q)) ≡ suc (length (p ++ q))
  length_middle = omega (arith, length-append p (x ∷ q), length-append p q)

  module _ (few : length (p ++ (x ∷ q)) ≤ index_places) (rowed : All Rowed (p ++ (x ∷ q))) (keys : KeysApart (p ++ (x ∷ q))) (d : Entry) where
    rowed_at : (y : Entry) → Has y (p ++ (x ∷ q)) → Rowed y
    rowed_at y i = has_all Rowed (p ++ (x ∷ q)) y rowed i

    -- one entry more
    put_middle : put_in (index_bytes (ordered (p ++ q))) x.inside x.label x.made ≡ index_bytes (ordered (p ++ (x ∷ q)))
    put_middle =
        let l = ordered (p ++ q) in
        put_right l (omega (arith, length-ordered (p ++ q), length_middle))
        (all_has Long l (λ y i. (rowed_at y (has_middle y (inr (has_ordered (p ++ q) y i)))).0))
        (ordered_sorted (p ++ q)) x d (rowed_at x (has_middle x (inl refl))).0
        ∙ ap index_bytes (sym (ordered_more (p ++ q) (p ++ (x ∷ q)) x (keys_less p x q keys) keys (keys_middle p x q keys) middle_has has_middle))

    -- one entry less
    take_middle : take_out (index_bytes (ordered (p ++ (x ∷ q)))) x.inside x.label ≡ index_bytes (ordered (p ++ q))
    unfolding take_out
    take_middle =
        let m = p ++ (x ∷ q) in
        let l = ordered m in
        let lf : length l ≤ index_places = omega (arith, length-ordered m) in
        let long : All Long l = all_has Long l (λ y i. (rowed_at y (has_ordered m y i)).0) in
        let r = seek (index_bytes l) (folder_key x.inside) x.label in
        let xi = has_middle x (inl refl) in
        let w = row_there l lf long (ordered_sorted m) (λ y i. rowed_at y (has_ordered m y i)) x.inside (low_32 x.inside (rowed_at x xi).1) d x.label x (ordered_has m x xi) refl refl in
        let y = get_or l r d in
        let is : y ≡ x =
        ⊎_elim
        (λ z. z)
        (λ i. absurd (keys_middle p x q keys y i (ap folder_key (sym w.folder), sym w.label)))
        (middle_has y (has_ordered m y (has_at l r d w.low))) in
        let o : ordered (p ++ q) ≡ without r l =
        ordered_less m (p ++ q) r d w.low keys (keys_less p x q keys)
        (λ z i. (has_middle z (inr i), λ e. keys_middle p x q keys z i (ap (λ (v : Entry). folder_key v.inside) (sym (e ∙ is)), ap (λ (v : Entry). label_key v.label) (sym (e ∙ is)))))
        (λ z i n. ⊎_elim (λ e. absurd (n (e ∙ sym is))) (λ j. j) (middle_has z i)) in
        rw (w.found, rows_counted l lf long, row_less l long r d w.low lf, o)

-- ---- entries that have the same rows

abbrev SameRow : Entry → Entry → Type 0
SameRow e x = (e.inside ≡ x.inside) × (e.label ≡ x.label) × (e.made ≡ x.made)

abbrev Alike : List Entry → List Entry → Type 0
Alike [] [] = Unit {0}
Alike [] (x ∷ m) = ⊥
Alike (e ∷ l) [] = ⊥
Alike (e ∷ l) (x ∷ m) = SameRow e x × Alike l m

alike_self : (l : List Entry) → Alike l l
alike_self [] = tt
alike_self (e ∷ l) = ((refl, refl, refl), alike_self l)

alike_middle : (p : List Entry) (x y : Entry) (q : List Entry) → SameRow x y → Alike (p ++ (x ∷ q)) (p ++ (y ∷ q))
alike_middle [] x y q s = (s, alike_self q)
alike_middle (e ∷ p) x y q s = ((refl, refl, refl), alike_middle p x y q s)

before-alike : (y e z x : Entry) → SameRow y z → SameRow e x → entry_before y e ≡ entry_before z x
unfolding entry_before
before-alike y e z x (a, b, _) (c, d, _) = rw (a, b, c, d)

alike-placed : (e x : Entry) (l m : List Entry) → SameRow e x → Alike l m → Alike (placed e l) (placed x m)
unfolding placed
alike-placed e x [] [] s a = (s, tt)
alike-placed e x [] (z ∷ m) s a = absurd a
alike-placed e x (y ∷ l) [] s a = absurd a
alike-placed e x (y ∷ l) (z ∷ m) s a =
    let b = before-alike y e z x a.0 s in
    ⊎_elim
    (λ (c : entry_before y e ≡ true). let f : entry_before z x ≡ true = sym b ∙ c in rw (c, f) (a.0, alike-placed e x l m s a.1))
    (λ (c : entry_before y e ≡ false). let f : entry_before z x ≡ false = sym b ∙ c in rw (c, f) (s, a))
    (bool_cases (entry_before y e))

alike-ordered : (l m : List Entry) → Alike l m → Alike (ordered l) (ordered m)
unfolding ordered
alike-ordered [] [] a = tt
alike-ordered [] (x ∷ m) a = absurd a
alike-ordered (e ∷ l) [] a = absurd a
alike-ordered (e ∷ l) (x ∷ m) a = alike-placed e x (ordered l) (ordered m) a.0 (alike-ordered l m a.1)

alike-length : (l m : List Entry) → Alike l m → length l ≡ length m
alike-length [] [] a = refl
alike-length [] (x ∷ m) a = absurd a
alike-length (e ∷ l) [] a = absurd a
alike-length (e ∷ l) (x ∷ m) a = ap suc (alike-length l m a.1)

alike_rows : (l m : List Entry) → Alike l m → index_rows l ≡ index_rows m
unfolding index_rows index_row
alike_rows [] [] a = refl
alike_rows [] (x ∷ m) a = absurd a
alike_rows (e ∷ l) [] a = absurd a
alike_rows (e ∷ l) (x ∷ m) a = let (i, t, k) = a.0 in rw (i, t, k, alike_rows l m a.1)

alike_bytes : (l m : List Entry) → Alike l m → index_bytes l ≡ index_bytes m
unfolding index_bytes
alike_bytes l m a = rw (alike-length l m a, alike_rows l m a)

-- ---- the entry that a record changes

record Split (k : ℕ) (es : List Entry) (x : Entry) : Type 0 where
  front : List Entry
  back : List Entry
  is : es ≡ front ++ (x ∷ back)
  change : (g : Entry → Entry) → changed g k es ≡ front ++ (g x ∷ back)
  there : is_present x ≡ true

split : (k : ℕ) (es : List Entry) (x : Entry) → entry_of k es ≡ some x → Split k es x
unfolding entry_of changed
split k [] x e = absurd (let z : ◌≡◌ {A = ℕ} 0 1 = cc in omega arith)
split k (y ∷ es) x e =
    ⊎_elim
    (λ (c : (eqb y.made k && is_present y) ≡ true).
    let s : some y ≡ some x = rw c at e in
    let q : y ≡ x = cc in
    record {
      front = [];
      back = es;
      is = ap (λ (z : Entry). z ∷ es) q;
      change = λ g. rw c (ap (λ (z : Entry). g z ∷ es) q);
      there = ap is_present (sym q) ∙ (and_true (eqb y.made k) (is_present y) c).1;
    })
    (λ (c : (eqb y.made k && is_present y) ≡ false).
    let w = split k es x (rw c at e) in
    record {
      front = y ∷ w.front;
      back = w.back;
      is = ap (λ (l : List Entry). y ∷ l) w.is;
      change = λ g. rw c (ap (λ (l : List Entry). y ∷ l) (w.change g));
      there = w.there;
    })
    (bool_cases (eqb y.made k && is_present y))

changed-none : (g : Entry → Entry) (k : ℕ) (es : List Entry) → entry_of k es ≡ none → changed g k es ≡ es
unfolding entry_of changed
changed-none g k [] e = refl
changed-none g k (y ∷ es) e =
    ⊎_elim
    (λ (c : (eqb y.made k && is_present y) ≡ true). let s : some y ≡ none = rw c at e in absurd (let z : ◌≡◌ {A = ℕ} 0 1 = cc in omega arith))
    (λ (c : (eqb y.made k && is_present y) ≡ false). rw c (ap (λ (l : List Entry). y ∷ l) (changed-none g k es (rw c at e))))
    (bool_cases (eqb y.made k && is_present y))

present_middle : (a : List Entry) (x : Entry) (c : List Entry) → is_present x ≡ true → present_ones (a ++ (x ∷ c)) ≡ present_ones a ++ (x ∷ present_ones c)
unfolding present_ones
present_middle [] x c p = rw p
present_middle (e ∷ a) x c p =
    ⊎_elim
    (λ (q : is_present e ≡ true). rw q (ap (λ (l : List Entry). e ∷ l) (present_middle a x c p)))
    (λ (q : is_present e ≡ false). rw q (present_middle a x c p))
    (bool_cases (is_present e))

present_gone : (a : List Entry) (x : Entry) (c : List Entry) → is_present x ≡ false → present_ones (a ++ (x ∷ c)) ≡ present_ones a ++ present_ones c
unfolding present_ones
present_gone [] x c p = rw p
present_gone (e ∷ a) x c p =
    ⊎_elim
    (λ (q : is_present e ≡ true). rw q (ap (λ (l : List Entry). e ∷ l) (present_gone a x c p)))
    (λ (q : is_present e ≡ false). rw q (present_gone a x c p))
    (bool_cases (is_present e))

-- ---- entries that an index holds

pub record Fit (es : List Entry) : Type 0 where
  pub apart : Apart es
  pub named : Named es
  pub rowed : All Rowed (present_ones es)
  pub few : length (present_ones es) ≤ index_places

keys_of : (es : List Entry) → Apart es → Named es → All Rowed (present_ones es) → KeysApart (present_ones es)
unfolding present_ones makers
keys_of [] a n r = tt
keys_of (e ∷ es) a n r =
    let m : Named es = record { once = n.once.1; none-root = λ y i. n.none-root y (inr i) } in
    ⊎_elim
    (λ (c : is_present e ≡ true).
    let s : All Rowed (e ∷ present_ones es) = rw c at r in
    rw c (
      λ x i k.
          let (j, q) = has_present es x i in
          let low = (has_all Rowed (present_ones es) x s.1 i).1 in
          a.0 x j (record {
            here = c;
            there = q;
            folder = sym (key_one e.inside x.inside (low_32 e.inside s.0.1) (low_32 x.inside low) k.0);
            key = sym k.1;
            two = λ (z : x.made ≡ e.made). n.once.0 (rw z at (has_made es x j));
            first = n.none-root e (inl refl);
            second = n.none-root x (inr j);
          }),
      keys_of es a.1 m s.1,
    ))
    (λ (c : is_present e ≡ false). rw c (keys_of es a.1 m (rw c at r)))
    (bool_cases (is_present e))

module _ (es : List Entry) (fit : Fit es) where
  keys : KeysApart (present_ones es)
  keys = keys_of es fit.apart fit.named fit.rowed

removed_gone : (x : Entry) → is_present (removed x) ≡ false
unfolding is_present removed
removed_gone x = refl

renamed_there : (r : Rec) (x : Entry) → is_present x ≡ true → is_present (renamed r x) ≡ true
unfolding is_present renamed
renamed_there r x p = p

moved_there : (r : Rec) (x : Entry) → is_present x ≡ true → is_present (moved r x) ≡ true
unfolding is_present moved
moved_there r x p = p

stored_there : (r : Rec) (x : Entry) → is_present x ≡ true → is_present (stored r x) ≡ true
unfolding is_present stored
stored_there r x p = p

stored_same : (r : Rec) (x : Entry) → SameRow x (stored r x)
unfolding stored
stored_same r x = (refl, refl, refl)

new_there : (r : Rec) → 1 ≤ op r → is_present (new_entry r) ≡ true
unfolding is_present new_entry
new_there r h = rw (ne_eqb (op r) 0 (omega arith))

module _ (d : Entry) where
  make_right : (es : List Entry) (e : Entry) → Fit (es ++ (e ∷ [])) → is_present e ≡ true
      → put_in (index_bytes (ordered (present_ones es))) e.inside e.label e.made ≡ index_bytes (ordered (present_ones (es ++ (e ∷ []))))
  unfolding present_ones
  make_right es e fit p =
      let q : present_ones (es ++ (e ∷ [])) ≡ present_ones es ++ (e ∷ []) = present_middle es e [] p in
      let w = put_middle (present_ones es) e [] (rw q at fit.few) (rw q at fit.rowed) (rw q at (keys (es ++ (e ∷ [])) fit)) d in
      rw (append-nil (present_ones es), ← q) at w

  module _ (es : List Entry) (k : ℕ) (x : Entry) (e : entry_of k es ≡ some x) (fit : Fit es) where
    w : Split k es x
    w = split k es x e

    whole : present_ones es ≡ present_ones w.front ++ (x ∷ present_ones w.back)
    whole = ap present_ones w.is ∙ present_middle w.front x w.back w.there

    less : take_out (index_bytes (ordered (present_ones es))) x.inside x.label ≡ index_bytes (ordered (present_ones w.front ++ present_ones w.back))
    less =
        rw whole
        (take_middle (present_ones w.front) x (present_ones w.back) (rw whole at fit.few) (rw whole at fit.rowed) (rw whole at (keys es fit)) d)

    remove_right : take_out (index_bytes (ordered (present_ones es))) x.inside x.label ≡ index_bytes (ordered (present_ones (changed removed k es)))
    remove_right =
        let q : present_ones (changed removed k es) ≡ present_ones w.front ++ present_ones w.back =
        ap present_ones (w.change removed) ∙ present_gone w.front (removed x) w.back (removed_gone x) in
        less ∙ ap (λ (l : List Entry). index_bytes (ordered l)) (sym q)

    store_right : (r : Rec) → index_bytes (ordered (present_ones es)) ≡ index_bytes (ordered (present_ones (changed (stored r) k es)))
    store_right r =
        let q : present_ones (changed (stored r) k es) ≡ present_ones w.front ++ (stored r x ∷ present_ones w.back) =
        ap present_ones (w.change (stored r)) ∙ present_middle w.front (stored r x) w.back (stored_there r x w.there) in
        rw (whole, q)
        (alike_bytes (ordered (present_ones w.front ++ (x ∷ present_ones w.back))) (ordered (present_ones w.front ++ (stored r x ∷ present_ones w.back)))
        (alike-ordered (present_ones w.front ++ (x ∷ present_ones w.back)) (present_ones w.front ++ (stored r x ∷ present_ones w.back))
        (alike_middle (present_ones w.front) x (stored r x) (present_ones w.back) (stored_same r x))))

    rename_right : (r : Rec) → Fit (changed (renamed r) k es)
        → move_in (index_bytes (ordered (present_ones es))) x.inside x.label x.inside (label_of r) x.made ≡ index_bytes (ordered (present_ones (changed (renamed r) k es)))
    unfolding move_in renamed
    rename_right r fit' =
        let q : present_ones (changed (renamed r) k es) ≡ present_ones w.front ++ (renamed r x ∷ present_ones w.back) =
        ap present_ones (w.change (renamed r)) ∙ present_middle w.front (renamed r x) w.back (renamed_there r x w.there) in
        rw (less, q)
        (put_middle (present_ones w.front) (renamed r x) (present_ones w.back) (rw q at fit'.few) (rw q at fit'.rowed) (rw q at (keys (changed (renamed r) k es) fit')) d)

    move_right : (r : Rec) → Fit (changed (moved r) k es)
        → move_in (index_bytes (ordered (present_ones es))) x.inside x.label (folder_of r) (label_of r) x.made ≡ index_bytes (ordered (present_ones (changed (moved r) k es)))
    unfolding move_in moved
    move_right r fit' =
        let q : present_ones (changed (moved r) k es) ≡ present_ones w.front ++ (moved r x ∷ present_ones w.back) =
        ap present_ones (w.change (moved r)) ∙ present_middle w.front (moved r x) w.back (moved_there r x w.there) in
        rw (less, q)
        (put_middle (present_ones w.front) (moved r x) (present_ones w.back) (rw q at fit'.few) (rw q at fit'.rowed) (rw q at (keys (changed (moved r) k es) fit')) d)

  -- ---- a record

  module _ (r : Rec) (t : Tree) (one : 1 ≤ op r) (fit : Fit t.entries) where
    b : List ℕ
    b = index_bytes (ordered (present_ones t.entries))

    removes : (o : Option Entry) → entry_of (object_of r) t.entries ≡ o → removed_in b o ≡ index_bytes (ordered (present_ones (changed removed (object_of r) t.entries)))
    unfolding removed_in b
    removes none e = rw (changed-none removed (object_of r) t.entries e)
    removes (some x) e = remove_right t.entries (object_of r) x e fit

    stores : (o : Option Entry) → entry_of (object_of r) t.entries ≡ o → b ≡ index_bytes (ordered (present_ones (changed (stored r) (object_of r) t.entries)))
    unfolding b
    stores none e = rw (changed-none (stored r) (object_of r) t.entries e)
    stores (some x) e = store_right t.entries (object_of r) x e fit r

    renames : (o : Option Entry) → entry_of (object_of r) t.entries ≡ o → Fit (changed (renamed r) (object_of r) t.entries)
        → renamed_in r b o ≡ index_bytes (ordered (present_ones (changed (renamed r) (object_of r) t.entries)))
    unfolding renamed_in b
    renames none e f = rw (changed-none (renamed r) (object_of r) t.entries e)
    renames (some x) e f = rename_right t.entries (object_of r) x e fit r f

    moves : (o : Option Entry) → entry_of (object_of r) t.entries ≡ o → Fit (changed (moved r) (object_of r) t.entries)
        → moved_in r b o ≡ index_bytes (ordered (present_ones (changed (moved r) (object_of r) t.entries)))
    unfolding moved_in b
    moves none e f = rw (changed-none (moved r) (object_of r) t.entries e)
    moves (some x) e f = move_right t.entries (object_of r) x e fit r f

    -- what a record that fits does to the index leaves the index of the tree that it leaves
    pub effect-right : Fit (effect r t).entries → change_in r t (index_of t) ≡ index_of (effect r t)
    unfolding change_in index_of new_entry b
    effect-right =
        effect_elim (λ (x : Tree). Fit x.entries → change_in r t (index_of t) ≡ index_of x) r t
        (λ o f. rw (le-leb (op r) 2 o) (make_right t.entries (new_entry r) f (new_there r one)))
        (λ o f. rw (lt-leb (op r) 2 (omega arith), ne_eqb (op r) 4 (omega arith), ne_eqb (op r) 5 (omega arith), lt-leb 7 (op r) (omega arith)) (stores (entry_of (object_of r) t.entries) refl))
        (λ o f. rw (lt-leb (op r) 2 (omega arith), eq-eqb (op r) 4 o) (removes (entry_of (object_of r) t.entries) refl))
        (λ o f. rw (lt-leb (op r) 2 (omega arith), ne_eqb (op r) 4 (omega arith), eq-eqb (op r) 5 o) (renames (entry_of (object_of r) t.entries) refl f))
        (λ o f. rw (lt-leb (op r) 2 (omega arith), ne_eqb (op r) 4 (omega arith), ne_eqb (op r) 5 (omega arith), lt-leb 7 (op r) (omega arith)))
        (λ o f. rw (lt-leb (op r) 2 (omega arith), ne_eqb (op r) 4 (omega arith), ne_eqb (op r) 5 (omega arith), le-leb 7 (op r) (omega arith)) (moves (entry_of (object_of r) t.entries) refl f))
