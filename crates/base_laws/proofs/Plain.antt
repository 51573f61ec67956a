-- The test of a base's tree holds exactly where the tree is what the plain words say. That n steps are enough is shown here.
-- Assumes nothing.
use Prim.Native.Nat.{ℕ, zero, suc, ◌+◌, ◌-◌, ◌≤◌, ◌<◌}
use native.Mathlib.Omega.{arith}
use mathlib.Core.Path.{◌≡◌, refl, sym, ◌∙◌}
use mathlib.Core.Logic.{⊎_elim}
use mathlib.Core.Bool.{Bool, true, false, cond, not, ◌&&◌, ◌||◌}
use mathlib.Core.List.{List}
use lib.Dec.{eqb, leb}
use borrow.Author.Tests.{eq-eqb, ne_eqb, eqb-true, le-leb, lt-leb, lt-ltb, le-ltb}
use Rattle.model.specs.Log.{all_to}
use Rattle.model.specs.Replay.{same_label}
use Rattle.byte_slice.proofs.Numbers.{lt_or_ge, eq_or_ne, bool_cases, and_true, true_and, not_both}
use Rattle.base_model.specs.Base.{last_to, base_entry, base_aside, id_at, is_id, id_new, one_name, name_new, place_of, is_folder_row, reaches, is_rooted, ids_fit}
use Rattle.base_links.proofs.Links.{last_le, last_passes}
use Rattle.base_laws.specs.Plain.{Reaches, Plain}
use Rattle.base_laws.proofs.Numbered.{differ_same}
use Rattle.base_laws.proofs.Pigeons.{pigeons}

-- ---- tests over numbers

pub all_at : (n : ℕ) (p : ℕ → Bool) → all_to n p ≡ true → (i : ℕ) → i < n → p i ≡ true
unfolding all_to
all_at zero p e i h = absurd (omega arith)
all_at (suc n) p e i h =
    let (a, b) = and_true (all_to n p) (p n) e in
    ⊎_elim
    (λ (k : i < n). all_at n p a i k)
    (λ k. let w : i ≡ n = omega arith in rw w b)
    (lt_or_ge i n)

pub all_of : (n : ℕ) (p : ℕ → Bool) → ((i : ℕ) → i < n → p i ≡ true) → all_to n p ≡ true
unfolding all_to
all_of zero p f = refl
all_of (suc n) p f = true_and (all_to n p) (p n) (all_of n p (λ i h. f i (omega arith))) (f n (omega arith))

module _ (p : ℕ → Bool) where
  -- none passes, by the test
  none-at : (i : ℕ) → last_to p i ≡ 0 → (j : ℕ) → j < i → p j ≡ true → ⊥
  unfolding last_to
  none-at zero e j h t = omega arith
  none-at (suc i) e j h t =
      ⊎_elim
      (λ (x : p i ≡ true). let z : suc i ≡ 0 = (rw x at e) in omega arith)
      (λ (x : p i ≡ false).
      ⊎_elim
      (λ (k : j < i). none-at i (rw x at e) j k t)
      (λ k. let w : j ≡ i = omega arith in not_both (p i) (rw w at t) x)
      (lt_or_ge j i))
      (bool_cases (p i))

  none_of : (i : ℕ) → ((j : ℕ) → j < i → p j ≡ true → ⊥) → last_to p i ≡ 0
  none_of i f =
      ⊎_elim
      (λ (h : 0 < last_to p i). absurd (f (last_to p i - 1) (omega (arith, last_le p i)) (last_passes p i h)))
      (λ h. omega arith)
      (lt_or_ge 0 (last_to p i))

  -- the only one that passes is found
  only : (n j : ℕ) → j < n → p j ≡ true → ((i : ℕ) → i < n → p i ≡ true → i ≡ j) → last_to p n ≡ suc j
  only n j h t f =
      ⊎_elim
      (λ (z : 0 < last_to p n).
      let e : last_to p n - 1 ≡ j = f (last_to p n - 1) (omega (arith, last_le p n)) (last_passes p n z) in
      omega arith)
      (λ z. absurd (none-at n (omega arith) j h t))
      (lt_or_ge 0 (last_to p n))

-- ---- reaching the root

module _ (b : List ℕ) (n : ℕ) where
  pub id_made : (j : ℕ) → j < n → id_at b n j ≡ (base_entry b j).made
  unfolding id_at
  id_made j h = rw (lt-ltb j n h)

  pub id_who : (j : ℕ) → n ≤ j → id_at b n j ≡ (base_aside b (j - n)).who
  unfolding id_at
  id_who j h = rw (le-ltb j n h)

  reach_zero : (f : ℕ) → reaches b n 0 f ≡ eqb f 0
  unfolding reaches
  reach_zero f = refl

  reach_suc : (s f : ℕ) → reaches b n (suc s) f ≡ (eqb f 0 || (is_folder_row b (place_of b n f) && reaches b n s (base_entry b (place_of b n f - 1)).inside))
  unfolding reaches
  reach_suc s f = refl

  folder_row : (f : ℕ) → is_folder_row b (place_of b n f) ≡ true → (0 < place_of b n f) × ((base_entry b (place_of b n f - 1)).kind ≡ 1)
  unfolding is_folder_row
  folder_row f e =
      let (x, y) = and_true (not (eqb (place_of b n f) 0)) (eqb (base_entry b (place_of b n f - 1)).kind 1) e in (
        ⊎_elim
            (λ h. h)
            (λ h. absurd (not_both (not (eqb (place_of b n f) 0)) x (rw (eq-eqb (place_of b n f) 0 (omega arith)))))
            (lt_or_ge 0 (place_of b n f)),
        eqb-true (base_entry b (place_of b n f - 1)).kind 1 y,
      )

  row_made : (f : ℕ) → 0 < place_of b n f → (place_of b n f - 1 < n) × ((base_entry b (place_of b n f - 1)).made ≡ f)
  unfolding place_of is_id
  row_made f h =
      let l : place_of b n f - 1 < n = omega (arith, last_le (is_id b n f) n) in
      (l, sym (id_made (place_of b n f - 1) l) ∙ eqb-true (id_at b n (place_of b n f - 1)) f (last_passes (is_id b n f) n h))

  -- the test says so
  pub reach_plain : (s f : ℕ) → reaches b n s f ≡ true → Reaches b n f
  reach_plain zero f e = Reaches.top (eqb-true f 0 (sym (reach_zero f) ∙ e))
  reach_plain (suc s) f e =
      ⊎_elim
      (λ (z : f ≡ 0). Reaches.top z)
      (λ (z : f ≡ 0 → ⊥).
      let g : (is_folder_row b (place_of b n f) && reaches b n s (base_entry b (place_of b n f - 1)).inside) ≡ true = (rw (ne_eqb f 0 z) at (sym (reach_suc s f) ∙ e)) in
      let (x, y) = and_true (is_folder_row b (place_of b n f)) (reaches b n s (base_entry b (place_of b n f - 1)).inside) g in
      let (h, k) = folder_row f x in
      let (l, m) = row_made f h in
      Reaches.up (place_of b n f - 1) z l m k (reach_plain s (base_entry b (place_of b n f - 1)).inside y))
      (eq_or_ne f 0)

-- ---- n steps are enough

-- how many steps a way has
unfoldable steps : {b : List ℕ} {n f : ℕ} → Reaches b n f → ℕ
steps (Reaches.top e) = 0
steps (Reaches.up j z l m k r) = suc (steps r)

-- the row from which d more steps go, and one
unfoldable row_on_lem : {b : List ℕ} {n f : ℕ} → Reaches b n f → ℕ → ℕ
row_on_lem (Reaches.top e) d = 0
row_on_lem (Reaches.up j z l m k r) d = cond (eqb d (steps r)) j (row_on_lem r d)

module _ (b : List ℕ) (n : ℕ) (lone : (i j : ℕ) → i < n → j < i → id_at b n j ≡ id_at b n i → ⊥) where
  same_row : (f i j : ℕ) → i < n → j < n → id_at b n i ≡ f → id_at b n j ≡ f → i ≡ j
  same_row f i j h g x y = differ_same (id_at b n) n (λ k l p q. lone l k q p) i j h g (x ∙ sym y)

  found-row : (f j : ℕ) → j < n → (base_entry b j).made ≡ f → place_of b n f ≡ suc j
  unfolding place_of is_id
  found-row f j h e =
      let m : id_at b n j ≡ f = id_made b n j h ∙ e in
      only (is_id b n f) n j h (eq-eqb (id_at b n j) f m) (λ i g t. same_row f i j g h (eqb-true (id_at b n i) f t) m)

  folder_here : (j : ℕ) → (base_entry b j).kind ≡ 1 → is_folder_row b (suc j) ≡ true
  unfolding is_folder_row
  folder_here j e =
      let s : suc j - 1 ≡ j = omega arith in
      rw (ne_eqb (suc j) 0 (λ z. omega arith), s, eq-eqb (base_entry b j).kind 1 e)

  later : (k s : ℕ) → leb k s ≡ leb (suc k) (suc s)
  later k s =
      ⊎_elim
      (λ h. lt-leb k s h ∙ sym (lt-leb (suc k) (suc s) (omega arith)))
      (λ h. le-leb k s h ∙ sym (le-leb (suc k) (suc s) (omega arith)))
      (lt_or_ge s k)

  exactly : {f : ℕ} (r : Reaches b n f) (s : ℕ) → reaches b n s f ≡ leb (steps r) s
  unfolding steps
  exactly {f} (Reaches.top e) zero = reach_zero b n f ∙ (eq-eqb f 0 e ∙ sym (le-leb 0 0 (omega arith)))
  exactly {f} (Reaches.top e) (suc s) = reach_suc b n s f ∙ (rw (eq-eqb f 0 e) (sym (le-leb 0 (suc s) (omega arith))))
  exactly {f} (Reaches.up j z l m k r) zero = reach_zero b n f ∙ (ne_eqb f 0 z ∙ sym (lt-leb (suc (steps r)) 0 (omega arith)))
  exactly {f} (Reaches.up j z l m k r) (suc s) =
      let e : suc j - 1 ≡ j = omega arith in
      reach_suc b n s f ∙ (rw (ne_eqb f 0 z, found-row f j l m, folder_here j k, e) (exactly r s ∙ later (steps r) s))

  row_on_is : {f : ℕ} (r : Reaches b n f) (d : ℕ) → d < steps r → (row_on_lem r d < n) × ((s : ℕ) → reaches b n s (base_entry b (row_on_lem r d)).made ≡ leb (suc d) s)
  unfolding steps row_on_lem
  row_on_is (Reaches.top e) d h = absurd (omega arith)
  row_on_is {f} (Reaches.up j z l m k r) d h =
      ⊎_elim
      (λ (e : d ≡ steps r). rw (eq-eqb d (steps r) e) (l, λ s. rw (m, e) (exactly (Reaches.up j z l m k r) s)))
      (λ (e : d ≡ steps r → ⊥). rw (ne_eqb d (steps r) e) (row_on_is r d (omega arith)))
      (eq_or_ne d (steps r))

  rows_differ : {f : ℕ} (r : Reaches b n f) (d e : ℕ) → d < e → e < steps r → row_on_lem r d ≡ row_on_lem r e → ⊥
  rows_differ r d e h l q =
      let x : reaches b n (suc d) (base_entry b (row_on_lem r d)).made ≡ true = (row_on_is r d (omega arith)).1 (suc d) ∙ le-leb (suc d) (suc d) (omega arith) in
      let y : reaches b n (suc d) (base_entry b (row_on_lem r e)).made ≡ false = (row_on_is r e l).1 (suc d) ∙ lt-leb (suc e) (suc d) (omega arith) in
      not_both (reaches b n (suc d) (base_entry b (row_on_lem r e)).made) (rw q at x) y

  enough : {f : ℕ} (r : Reaches b n f) → steps r ≤ n
  enough r = pigeons n (steps r) (row_on_lem r) (λ d h. (row_on_is r d h).0) (λ d e h l q. rows_differ r d e h l q)

  pub plain_reach : {f : ℕ} → Reaches b n f → reaches b n n f ≡ true
  plain_reach r = exactly r n ∙ le-leb (steps r) n (enough r)

-- ---- the tree

module _ (b : List ℕ) (n m : ℕ) where
  -- the test says what the plain words say
  pub plain_of : ids_fit b n m ≡ true → all_to n (name_new b) ≡ true → Plain b n m
  unfolding ids_fit id_new is_id name_new one_name is_rooted
  plain_of e f =
      let (x, y) = and_true (all_to (n + m) (id_new b n)) (all_to n (is_rooted b n)) e in
      record {
        lone = λ i j h l q.
            none-at (is_id b n (id_at b n i)) i (eqb-true (last_to (is_id b n (id_at b n i)) i) 0 (all_at (n + m) (id_new b n) x i h)) j l (eq-eqb (id_at b n j) (id_at b n i) q);
        named = λ i j h l p q.
            none-at (one_name b i) i (eqb-true (last_to (one_name b i) i) 0 (all_at n (name_new b) f i h)) j l
            (true_and (eqb (base_entry b j).inside (base_entry b i).inside) (same_label (base_entry b j).label (base_entry b i).label) (eq-eqb (base_entry b j).inside (base_entry b i).inside p) q);
        rooted = λ i h. reach_plain b n n (base_entry b i).inside (all_at n (is_rooted b n) y i h);
      }

  -- and holds where they hold
  pub ids_of : Plain b n m → ids_fit b n m ≡ true
  unfolding ids_fit id_new is_id is_rooted
  ids_of w =
      true_and
      (all_to (n + m) (id_new b n))
      (all_to n (is_rooted b n))
      (all_of
      (n + m)
      (id_new b n)
      (λ i h. eq-eqb (last_to (is_id b n (id_at b n i)) i) 0 (none_of (is_id b n (id_at b n i)) i (λ j l t. w.lone i j h l (eqb-true (id_at b n j) (id_at b n i) t)))))
      (all_of
      n
      (is_rooted b n)
      (λ i h. plain_reach b n (λ x y g k q. w.lone x y (omega arith) k q) (w.rooted i h)))

  pub names_of : Plain b n m → all_to n (name_new b) ≡ true
  unfolding name_new one_name
  names_of w =
      all_of
      n
      (name_new b)
      (λ i h.
      eq-eqb
      (last_to (one_name b i) i)
      0
      (none_of
      (one_name b i)
      i
      (λ j l t.
      let (p, q) = and_true (eqb (base_entry b j).inside (base_entry b i).inside) (same_label (base_entry b j).label (base_entry b i).label) t in
      w.named i j h l (eqb-true (base_entry b j).inside (base_entry b i).inside p) q)))
