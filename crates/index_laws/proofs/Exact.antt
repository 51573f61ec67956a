-- Looking up and listing in the index of entries find what the entries have.
-- Assumes nothing.
use Prim.Native.Nat.{ℕ, zero, suc, ◌+◌, ◌-◌, ◌≤◌, ◌<◌}
use native.Mathlib.Omega.{arith}
use mathlib.Core.Path.{◌≡◌, refl, sym, ap, ◌∙◌}
use mathlib.Core.Logic.{◌⊎◌, inl, inr, ⊎_elim, ◌↔◌}
use mathlib.Core.Bool.{Bool, true, false, cond, not, ◌&&◌, ◌||◌}
use mathlib.Core.Option.{Option, none, some}
use mathlib.Core.List.{List, [], ◌∷◌, ◌++◌}
use lib.Dec.{ltb, eqb}
use lib.ListN.{get_or, length, take, drop, replicate}
use lib.Seq.{drop-nil, take-nil}
use borrow.Author.Tests.{ltb-true, ltb-false, lt-ltb, le-ltb, eqb-true, eq-eqb, ne_eqb}
use Rattle.byte_slice.proofs.Numbers.{lt_or_ge, bool_cases, cond_cases, and_true, true_and, and_wrong, not_both, test_false, test_true}
use Rattle.record_label.proofs.Same.{same_key, key_same as same-of-key}
use Rattle.model.specs.Record.{root}
use Rattle.model.specs.Replay.{Entry, Tree, label_key, is_present, is_in, same_label, is_holder, holder_of, present_ones}
use Rattle.log_laws.proofs.Members.{All, all_at}
use Rattle.tree_laws.specs.Replayed.{Has, Distinct, makers}
use Rattle.tree_laws.proofs.Labels.{Apart, Named, holds_from, the_holder, holder_key, one_label}
use Rattle.index_model.specs.Index.{index_places, comes_before, folder_key, key_before, entry_before, placed, ordered, index_bytes, index_of, rows_in, folder_at, label_at, entry_at, row_before, row_is, seek, find_in, first_in, end_in, entries_in, list_in, in_folder, made_of}
use Rattle.index_laws.specs.Listed.{Rising, Listed}
use Rattle.index_laws.proofs.Sorted.{Sorted, ordered_sorted, ordered_has, has_ordered, has_placed, Sought, key_same, key_not_self, key_instead}
use Rattle.index_laws.proofs.Reading.{Long, rows_counted, folder_back, label_back, entry_back, before_back, entries_back, has_at, place_of, sorted_at, entry_keys, seek_finds, rows_rise, key_one, key_blank}

-- ---- members

-- the label has its length, the folder is an identity that four bytes hold
abbrev pub Rowed : Entry → Type 0
Rowed e = (length e.label ≡ 32) × (e.inside < 524288)

pub low_32 : (k : ℕ) → k < 524288 → k < 4294967296
low_32 k h = omega arith

pub all_has : {A : Type 0} (P : A → Type 0) (l : List A) → ((x : A) → Has x l → P x) → All P l
all_has P [] h = tt
all_has P (x ∷ l) h = (h x (inl refl), all_has P l (λ y i. h y (inr i)))

pub has_all : {A : Type 0} (P : A → Type 0) (l : List A) (x : A) → All P l → Has x l → P x
has_all P [] x a i = absurd i
has_all P (y ∷ l) x a (inl q) = rw q a.0
has_all P (y ∷ l) x a (inr i) = has_all P l x a.1 i

pub has_present : (es : List Entry) (x : Entry) → Has x (present_ones es) → Has x es × (is_present x ≡ true)
unfolding present_ones
has_present [] x i = absurd i
has_present (e ∷ es) x i =
    ⊎_elim
    (λ (c : is_present e ≡ true). ⊎_elim (λ (q : x ≡ e). (inl q, ap is_present q ∙ c)) (λ j. let (u, v) = has_present es x j in (inr u, v)) (rw c at i))
    (λ (c : is_present e ≡ false). let (u, v) = has_present es x (rw c at i) in (inr u, v))
    (bool_cases (is_present e))

pub present_has : (es : List Entry) (x : Entry) → Has x es → is_present x ≡ true → Has x (present_ones es)
unfolding present_ones
present_has [] x i p = absurd i
present_has (e ∷ es) x i p =
    ⊎_elim
    (λ (c : is_present e ≡ true). rw c (⊎_elim (λ q. inl q) (λ j. inr (present_has es x j p)) i))
    (λ (c : is_present e ≡ false). rw c (⊎_elim (λ (q : x ≡ e). absurd (not_both (is_present x) p (ap is_present q ∙ c))) (λ j. present_has es x j p) i))
    (bool_cases (is_present e))

length-placed : (e : Entry) (l : List Entry) → length (placed e l) ≡ suc (length l)
unfolding placed
length-placed e [] = refl
length-placed e (x ∷ l) =
    ⊎_elim
    (λ (c : entry_before x e ≡ true). rw c (ap suc (length-placed e l)))
    (λ (c : entry_before x e ≡ false). rw c)
    (bool_cases (entry_before x e))

pub length-ordered : (l : List Entry) → length (ordered l) ≡ length l
unfolding ordered
length-ordered [] = refl
length-ordered (e ∷ l) = length-placed e (ordered l) ∙ ap suc (length-ordered l)

-- ---- the holder of a label

holder_some : (k f : ℕ) (t : List ℕ) (es : List Entry) (h : Entry) → holder_of k f t es ≡ some h
    → Has h es × (is_present h ≡ true) × (h.inside ≡ f) × (label_key h.label ≡ label_key t)
unfolding holder_of
holder_some k f t [] h e = absurd (let z : ◌≡◌ {A = ℕ} 0 1 = cc in omega arith)
holder_some k f t (x ∷ es) h e =
    ⊎_elim
    (λ c.
    let q : h ≡ x = cc in
    let (u, v, w, _) = holds_from k f t x c.0 in
    (inl q, ap is_present q ∙ u, ap (λ (y : Entry). y.inside) q ∙ v, ap (λ (y : Entry). label_key y.label) q ∙ w))
    (λ c. let u = holder_some k f t es h (sym c.1 ∙ e) in (inr u.0, u.1, u.2, u.3))
    (cond_cases (is_holder k f t x) (some x) (holder_of k f t es))

made_some : (x : Entry) → x.made ≡ made_of (some x)
unfolding made_of
made_some x = refl

made_none : 0 ≡ made_of none
unfolding made_of
made_none = refl

-- ---- the entries of a folder

has_filter : (f : ℕ) (l : List Entry) (x : Entry) → Has x (in_folder f l) → Has x l × (is_in f x ≡ true)
unfolding in_folder
has_filter f [] x i = absurd i
has_filter f (e ∷ l) x i =
    ⊎_elim
    (λ (c : is_in f e ≡ true). ⊎_elim (λ (q : x ≡ e). (inl q, ap (is_in f) q ∙ c)) (λ j. let (u, v) = has_filter f l x j in (inr u, v)) (rw c at i))
    (λ (c : is_in f e ≡ false). let (u, v) = has_filter f l x (rw c at i) in (inr u, v))
    (bool_cases (is_in f e))

filter_has : (f : ℕ) (l : List Entry) (x : Entry) → Has x l → is_in f x ≡ true → Has x (in_folder f l)
unfolding in_folder
filter_has f [] x i p = absurd i
filter_has f (e ∷ l) x i p =
    ⊎_elim
    (λ (c : is_in f e ≡ true). rw c (⊎_elim (λ q. inl q) (λ j. inr (filter_has f l x j p)) i))
    (λ (c : is_in f e ≡ false). rw c (⊎_elim (λ (q : x ≡ e). absurd (not_both (is_in f x) p (ap (is_in f) q ∙ c))) (λ j. filter_has f l x j p) i))
    (bool_cases (is_in f e))

filter_sorted : (f : ℕ) (l : List Entry) → Sorted l → Sorted (in_folder f l)
unfolding in_folder
filter_sorted f [] s = tt
filter_sorted f (e ∷ l) s =
    ⊎_elim
    (λ (c : is_in f e ≡ true). rw c (λ x i. s.0 x (has_filter f l x i).0, filter_sorted f l s.1))
    (λ (c : is_in f e ≡ false). rw c (filter_sorted f l s.1))
    (bool_cases (is_in f e))

-- the entries of a folder that stand together
filtered : (f : ℕ) (l : List Entry) (a z : ℕ) (d : Entry) → a ≤ z → z ≤ length l
    → ((i : ℕ) → i < a → is_in f (get_or l i d) ≡ false)
    → ((i : ℕ) → a ≤ i → i < z → is_in f (get_or l i d) ≡ true)
    → ((i : ℕ) → z ≤ i → i < length l → is_in f (get_or l i d) ≡ false)
    → in_folder f l ≡ take (z - a) (drop a l)
unfolding in_folder
filtered f [] a z d h k p q s = sym (ap (take (z - a)) (drop-nil a) ∙ take-nil (z - a))
filtered f (e ∷ l) zero zero d h k p q s =
    rw (s 0 (omega arith) (omega arith)) (filtered f l 0 0 d (omega arith) (omega arith) (λ i x. absurd (omega arith)) (λ i x y. absurd (omega arith)) (λ i x y. s (suc i) (omega arith) (omega arith)))
filtered f (e ∷ l) zero (suc z) d h k p q s =
    let n : suc z - 0 ≡ suc z = omega arith in
    let m : z - 0 ≡ z = omega arith in
    let w = filtered f l 0 z d (omega arith) (omega arith) (λ i x. absurd (omega arith)) (λ i x y. q (suc i) (omega arith) (omega arith)) (λ i x y. s (suc i) (omega arith) (omega arith)) in
    rw (q 0 (omega arith) (omega arith), n) (ap (λ (y : List Entry). e ∷ y) (rw m at w))
filtered f (e ∷ l) (suc a) zero d h k p q s = absurd (omega arith)
filtered f (e ∷ l) (suc a) (suc z) d h k p q s =
    let n : suc z - suc a ≡ z - a = omega arith in
    rw (p 0 (omega arith), n)
    (filtered f l a z d (omega arith) (omega arith) (λ i x. p (suc i) (omega arith)) (λ i x y. q (suc i) (omega arith) (omega arith)) (λ i x y. s (suc i) (omega arith) (omega arith)))

in_present : (f : ℕ) (e : Entry) → is_in f e ≡ true → is_present e ≡ true
unfolding is_in
in_present f e p = (and_true (is_present e) (eqb e.inside f) p).0

in_inside : (f : ℕ) (e : Entry) → is_in f e ≡ true → e.inside ≡ f
unfolding is_in
in_inside f e p = eqb-true e.inside f (and_true (is_present e) (eqb e.inside f) p).1

-- ---- each once

pub has_maker : (l : List Entry) (k : ℕ) → Has k (makers l) → (x : Entry) × Has x l × (k ≡ x.made)
unfolding makers
has_maker [] k i = absurd i
has_maker (e ∷ l) k (inl q) = (e, inl refl, q)
has_maker (e ∷ l) k (inr i) = let (x, j, q) = has_maker l k i in (x, inr j, q)

pub maker_has : (l : List Entry) (k : ℕ) (x : Entry) → Has x l → k ≡ x.made → Has k (makers l)
unfolding makers
maker_has [] k x i q = absurd i
maker_has (e ∷ l) k x (inl p) q = inl (q ∙ ap (λ (y : Entry). y.made) p)
maker_has (e ∷ l) k x (inr i) q = inr (maker_has l k x i q)

-- makers of a list whose entries are among another's
among : (a c : List Entry) → ((x : Entry) → Has x a → Has x c) → (k : ℕ) → Has k (makers a) → Has k (makers c)
among a c h k i = let (x, j, q) = has_maker a k i in maker_has c k x (h x j) q

distinct_present : (es : List Entry) → Distinct (makers es) → Distinct (makers (present_ones es))
unfolding makers present_ones
distinct_present [] u = tt
distinct_present (e ∷ es) u =
    ⊎_elim
    (λ (c : is_present e ≡ true). rw c (λ i. u.0 (among (present_ones es) es (λ x j. (has_present es x j).0) e.made i), distinct_present es u.1))
    (λ (c : is_present e ≡ false). rw c (distinct_present es u.1))
    (bool_cases (is_present e))

distinct_filter : (f : ℕ) (l : List Entry) → Distinct (makers l) → Distinct (makers (in_folder f l))
unfolding makers in_folder
distinct_filter f [] u = tt
distinct_filter f (e ∷ l) u =
    ⊎_elim
    (λ (c : is_in f e ≡ true). rw c (λ i. u.0 (among (in_folder f l) l (λ x j. (has_filter f l x j).0) e.made i), distinct_filter f l u.1))
    (λ (c : is_in f e ≡ false). rw c (distinct_filter f l u.1))
    (bool_cases (is_in f e))

distinct-placed : (e : Entry) (l : List Entry) → (Has e.made (makers l) → ⊥) → Distinct (makers l) → Distinct (makers (placed e l))
unfolding makers placed
distinct-placed e [] n u = (n, tt)
distinct-placed e (x ∷ l) n u =
    ⊎_elim
    (λ (c : entry_before x e ≡ true).
    rw c (
      λ i.
          let (y, j, q) = has_maker (placed e l) x.made i in
          ⊎_elim
          (λ (p : y ≡ e). n (inl (sym (q ∙ ap (λ (z : Entry). z.made) p))))
          (λ m. u.0 (maker_has l x.made y m q))
          (has_placed e l y j),
      distinct-placed e l (λ i. n (inr i)) u.1,
    ))
    (λ (c : entry_before x e ≡ false). rw c (n, u))
    (bool_cases (entry_before x e))

distinct-ordered : (l : List Entry) → Distinct (makers l) → Distinct (makers (ordered l))
unfolding makers ordered
distinct-ordered [] u = tt
distinct-ordered (e ∷ l) u =
    distinct-placed e (ordered l) (λ i. u.0 (among (ordered l) l (λ x j. has_ordered l x j) e.made i)) (distinct-ordered l u.1)

-- ---- in label order

module _ (es : List Entry) (a : Apart es) (one : Named es) (f : ℕ) where
  text_rises : (e x : Entry) → Has e es → Has x es → is_in f e ≡ true → is_in f x ≡ true → entry_before x e ≡ false → (e.made ≡ x.made → ⊥)
      → comes_before (label_key e.label) (label_key x.label) ≡ true
  unfolding key_before
  text_rises e x i j p q s n =
      let k : folder_key e.inside ≡ folder_key x.inside = ap folder_key (in_inside f e p ∙ sym (in_inside f x q)) in
      test_true (comes_before (label_key e.label) (label_key x.label))
      (λ c.
      let m : key_before (folder_key e.inside) e.label (folder_key x.inside) x.label ≡ false =
      rw (le-ltb (folder_key e.inside) (folder_key x.inside) (omega arith), c, and_wrong (eqb (folder_key e.inside) (folder_key x.inside))) in
      let (u, v) = key_same (folder_key e.inside) e.label (folder_key x.inside) x.label m (entry_keys x e s) in
      n (ap (λ (y : Entry). y.made) (one_label es a one e x i j (in_present f e p) (in_present f x q) (in_inside f x q ∙ sym (in_inside f e p)) (sym v))))

  rising_of : (l : List Entry) → Sorted l → Distinct (makers l) → ((x : Entry) → Has x l → Has x es × (is_in f x ≡ true)) → Rising l
  unfolding makers
  rising_of [] s u h = tt
  rising_of (e ∷ l) s u h = (
    λ x i. text_rises e x (h e (inl refl)).0 (h x (inr i)).0 (h e (inl refl)).1 (h x (inr i)).1 (s.0 x i) (λ q. u.0 (maker_has l e.made x i q)),
    rising_of l s.1 u.1 (λ x i. h x (inr i)),
  )

-- ---- looking up

-- row r of entries in order has the folder and the label
pub record There (l : List Entry) (f : ℕ) (t : List ℕ) (d : Entry) (r : ℕ) : Type 0 where
  pub found : row_is (index_bytes l) f t r ≡ true
  pub low : r < length l
  pub folder : (get_or l r d).inside ≡ f
  pub label : label_key (get_or l r d).label ≡ label_key t

-- where an entry has the folder and the label, seeking finds a row that has them
pub row_there : (l : List Entry) (few : length l ≤ index_places) (long : All Long l) → Sorted l → ((x : Entry) → Has x l → Rowed x) → (f : ℕ) → f < 4294967296 → (d : Entry) (t : List ℕ)
    → (h : Entry) → Has h l → h.inside ≡ f → label_key h.label ≡ label_key t → There l f t d (seek (index_bytes l) (folder_key f) t)
unfolding row_is
row_there l few long sorted rowed f fits d t h i p q =
    let k = folder_key f in
    let r = seek (index_bytes l) k t in
    let w = seek_finds l few long sorted d k t in
    let (j, jn, je) = place_of l h d i in
    let not-j : row_before (index_bytes l) k t j ≡ false = before_back l few long j d jn k t ∙ rw (je, p) (key_instead k h.label t k t q ∙ key_not_self k t) in
    let rj : r ≤ j =
    ⊎_elim
    (λ (c : j < r). absurd (not_both (row_before (index_bytes l) k t j) (w.before j (omega arith) c) not-j))
    (λ c. c)
    (lt_or_ge j r) in
    let rn : r < length l = omega arith in
    let x = get_or l r d in
    let u : key_before (folder_key x.inside) x.label k t ≡ false = sym (before_back l few long r d rn k t) ∙ w.at rn in
    let v : key_before k t (folder_key x.inside) x.label ≡ false =
    sym (key_instead k h.label t (folder_key x.inside) x.label q) ∙ (rw (je, p) at (entry_keys (get_or l j d) x (sorted_at l sorted r j d rj jn))) in
    let (m, o) = key_same (folder_key x.inside) x.label k t u v in
    let xi : x.inside ≡ f = key_one x.inside f (low_32 x.inside (rowed x (has_at l r d rn)).1) fits m in
    record {
      found =
          rw (rows_counted l few long, lt-ltb r (length l) rn, folder_back l few long r d rn, label_back l few long r d rn, eq-eqb x.inside f xi)
          (same-of-key x.label t o);
      low = rn;
      folder = xi;
      label = o;
    }

module _ (es : List Entry) (few : length (present_ones es) ≤ index_places) (rowed : All Rowed (present_ones es)) where
  L : List Entry
  L = ordered (present_ones es)

  L_few : length L ≤ index_places
  unfolding L
  L_few = omega (arith, length-ordered (present_ones es))

  L_has : (x : Entry) → Has x L → Has x es × (is_present x ≡ true)
  unfolding L
  L_has x i = has_present es x (has_ordered (present_ones es) x i)

  has_L : (x : Entry) → Has x es → is_present x ≡ true → Has x L
  unfolding L
  has_L x i p = ordered_has (present_ones es) x (present_has es x i p)

  L_rowed : (x : Entry) → Has x L → Rowed x
  unfolding L
  L_rowed x i = has_all Rowed (present_ones es) x rowed (has_ordered (present_ones es) x i)

  L_long : All Long L
  L_long = all_has Long L (λ x i. (L_rowed x i).0)

  L_sorted : Sorted L
  unfolding L
  L_sorted = ordered_sorted (present_ones es)

  module _ (f : ℕ) (f-fits : f < 4294967296) (d : Entry) where
    module _ (t : List ℕ) where
      b : List ℕ
      b = index_bytes L

      r : ℕ
      r = seek b (folder_key f) t

      -- where an entry has the folder and the label, seeking finds a row that has them
      row-found : (h : Entry) → Has h L → h.inside ≡ f → label_key h.label ≡ label_key t → row_is b f t r ≡ true
      unfolding b r
      row-found h i p q = (row_there L L_few L_long L_sorted L_rowed f f-fits d t h i p q).found

      -- a row that has the folder and the label holds an entry that has them
      row-holds : row_is b f t r ≡ true → (x : Entry) × Has x L × (x.inside ≡ f) × (label_key x.label ≡ label_key t) × (entry_at b r ≡ x.made)
      unfolding row_is b r
      row-holds e =
          let k = folder_key f in
          let n = seek (index_bytes L) k t in
          let (u, v) = and_true (ltb n (rows_in (index_bytes L))) (eqb (folder_at (index_bytes L) n) f && same_label (label_at (index_bytes L) n) t) e in
          let (p, q) = and_true (eqb (folder_at (index_bytes L) n) f) (same_label (label_at (index_bytes L) n) t) v in
          let rn : n < length L = omega (arith, ltb-true n (rows_in (index_bytes L)) u, rows_counted L L_few L_long) in (
            get_or L n d,
            has_at L n d rn,
            sym (folder_back L L_few L_long n d rn) ∙ eqb-true (folder_at (index_bytes L) n) f p,
            ap label_key (sym (label_back L L_few L_long n d rn)) ∙ same_key (label_at (index_bytes L) n) t q,
            entry_back L L_few L_long n d rn,
          )

      -- looking up gives the holder's identity, or 0
      find_L : Apart es → Named es → find_in (index_bytes L) f t ≡ made_of (holder_of root f t es)
      unfolding find_in b r
      find_L a one =
          ⊎_elim
          (λ (c : row_is (index_bytes L) f t (seek (index_bytes L) (folder_key f) t) ≡ true).
          let (x, i, p, q, m) = row-holds c in
          let (j, k) = L_has x i in
          let h : holder_of root f t es ≡ some x = sym (holder_key root f x.label t q es) ∙ (rw p at (the_holder es a one x j k)) in
          rw (c, m, h) (made_some x))
          (λ (c : row_is (index_bytes L) f t (seek (index_bytes L) (folder_key f) t) ≡ false). rw c (missing c (holder_of root f t es) refl))
          (bool_cases (row_is (index_bytes L) f t (seek (index_bytes L) (folder_key f) t)))
        where
          missing : row_is (index_bytes L) f t (seek (index_bytes L) (folder_key f) t) ≡ false → (o : Option Entry) → holder_of root f t es ≡ o → 0 ≡ made_of o
          missing c none e = made_none
          missing c (some h) e =
              let u = holder_some root f t es h e in
              absurd (not_both (row_is (index_bytes L) f t (seek (index_bytes L) (folder_key f) t)) (row-found h (has_L h u.0 u.1) u.2 u.3) c)

      pub find_right : Apart es → Named es → find_in (index_bytes (ordered (present_ones es))) f t ≡ made_of (holder_of root f t es)
      unfolding L
      find_right a one = find_L a one

    -- ---- listing

    row-blank : (g i : ℕ) → i < length L → row_before (index_bytes L) g (replicate 32 0) i ≡ ltb (folder_key (get_or L i d).inside) g
    row-blank g i h =
        before_back L L_few L_long i d h g (replicate 32 0)
        ∙ key_blank (folder_key (get_or L i d).inside) (get_or L i d).label g (L_rowed (get_or L i d) (has_at L i d h)).0

    -- seeking without a label parts the rows of lesser folders from the others
    cut_to : (g : ℕ) → seek (index_bytes L) g (replicate 32 0) ≤ length L
    cut_to g = (seek_finds L L_few L_long L_sorted d g (replicate 32 0)).to

    cut_before : (g i : ℕ) → i < seek (index_bytes L) g (replicate 32 0) → folder_key (get_or L i d).inside < g
    cut_before g i h =
        let w = seek_finds L L_few L_long L_sorted d g (replicate 32 0) in
        ltb-true (folder_key (get_or L i d).inside) g (sym (row-blank g i (omega (arith, w.to))) ∙ w.before i (omega arith) h)

    cut_behind : (g i : ℕ) → seek (index_bytes L) g (replicate 32 0) ≤ i → i < length L → g ≤ folder_key (get_or L i d).inside
    cut_behind g i h k =
        let w = seek_finds L L_few L_long L_sorted d g (replicate 32 0) in
        let r = seek (index_bytes L) g (replicate 32 0) in
        ⊎_elim
        (λ (c : folder_key (get_or L i d).inside < g).
        let p : row_before (index_bytes L) g (replicate 32 0) i ≡ true = row-blank g i k ∙ lt-ltb (folder_key (get_or L i d).inside) g c in
        absurd (not_both (row_before (index_bytes L) g (replicate 32 0) r) (rows_rise L L_few L_long L_sorted d g (replicate 32 0) r i h k p) (w.at (omega arith))))
        (λ c. c)
        (lt_or_ge (folder_key (get_or L i d).inside) g)

    in_it : (i : ℕ) → i < length L → folder_key (get_or L i d).inside ≡ folder_key f → is_in f (get_or L i d) ≡ true
    unfolding is_in
    in_it i h e =
        let x = get_or L i d in
        let m = has_at L i d h in
        true_and (is_present x) (eqb x.inside f) (L_has x m).1 (eq-eqb x.inside f (key_one x.inside f (low_32 x.inside (L_rowed x m).1) f-fits e))

    not_in_it : (i : ℕ) → (folder_key (get_or L i d).inside ≡ folder_key f → ⊥) → is_in f (get_or L i d) ≡ false
    unfolding is_in
    not_in_it i n =
        let x = get_or L i d in
        test_false (is_present x && eqb x.inside f) (λ e. n (ap folder_key (eqb-true x.inside f (and_true (is_present x) (eqb x.inside f) e).1)))

    list_L : list_in (index_bytes L) f ≡ makers (in_folder f L)
    unfolding list_in first_in end_in
    list_L =
        let k = folder_key f in
        let a = seek (index_bytes L) k (replicate 32 0) in
        let z = seek (index_bytes L) (k + 1) (replicate 32 0) in
        let an = cut_to k in
        let zn = cut_to (k + 1) in
        let az : a ≤ z =
        ⊎_elim
        (λ (c : z < a). absurd (omega (arith, cut_before k z c, cut_behind (k + 1) z (omega arith) (omega arith))))
        (λ c. c)
        (lt_or_ge z a) in
        entries_back L L_few L_long d a (z - a) (omega arith)
        ∙ ap makers
        (sym
        (filtered f L a z d az zn
        (λ i h. not_in_it i (λ e. omega (arith, cut_before k i h)))
        (λ i h g. in_it i (omega arith) (let u = cut_behind k i h (omega arith) in let v = cut_before (k + 1) i g in omega arith))
        (λ i h g. not_in_it i (λ e. omega (arith, cut_behind (k + 1) i h g)))))

    in_there : (e : Entry) → Has e (in_folder f L) ↔ (Has e es × (is_in f e ≡ true))
    in_there e = (
      λ i. let (u, v) = has_filter f L e i in ((L_has e u).0, v),
      λ i. filter_has f L e (has_L e i.0 (in_present f e i.1)) i.1,
    )

    list_right_L : Apart es → Named es → Listed f es (list_in (index_bytes L) f)
    unfolding L
    list_right_L a one =
        let o : Distinct (makers (in_folder f L)) = distinct_filter f L (distinct-ordered (present_ones es) (distinct_present es one.once)) in
        record {
          rows = in_folder f L;
          are = list_L;
          each = in_there;
          once = rw list_L o;
          rising = rising_of es a one f (in_folder f L) (filter_sorted f L L_sorted) o (λ x i. (in_there x).0 i);
        }

    pub list_right : Apart es → Named es → Listed f es (list_in (index_bytes (ordered (present_ones es))) f)
    unfolding L
    list_right a one = list_right_L a one
