-- What the code that climbs to the root is asked, over plain values, and what the table of folders means.
-- Assumes nothing.
use Prim.Native.Nat.{ℕ, zero, suc, ◌+◌, ◌-◌, ◌≤◌, ◌<◌}
use native.Mathlib.Omega.{arith}
use mathlib.Core.Path.{◌≡◌, refl, sym, ap, ◌∙◌}
use mathlib.Core.Logic.{⊎_elim}
use mathlib.Core.Bool.{Bool, true, false, cond, not, ◌&&◌, ◌||◌, false≢true}
use mathlib.Core.List.{List}
use lib.Dec.{eqb, leb}
use lib.ListN.{get_or, length, set, length-set}
use lib.Seq.{get_or-set_same, get_or-set_other}
use borrow.Author.Tests.{eq-eqb, ne_eqb, le-leb, not-true, not-false}
use Rattle.model.specs.Log.{all_to}
use Rattle.byte_slice.proofs.Numbers.{eq_or_ne}
use Rattle.base_model.specs.Base.{last_to, base_entry, is_id, place_of, is_folder_row, reaches, is_rooted, id_new, ids_fit}
use Rattle.base_links.proofs.Links.{last_le, all_same}
use Rattle.base_climb.specs.Climb.{climbs, climbs_from}
use Rattle.base_ids.specs.Ups.{up_of, Ups}

-- ---- where a folder stands

module _ (b : List ℕ) (n f : ℕ) where
  pub up_root : f ≡ 0 → 0 ≡ up_of b n f
  unfolding up_of
  up_root e = rw (eq-eqb f 0 e)

  module _ (d : f ≡ 0 → ⊥) where
    pub up_none : 0 ≡ last_to (is_id b n f) n → 513 ≡ up_of b n f
    unfolding up_of place_of is_folder_row
    up_none e = rw (ne_eqb f 0 d, ← e)

    module _ (row : ℕ) (e : row + 1 ≡ last_to (is_id b n f) n) {k : Bool} (g : k ≡ eqb (base_entry b row).kind 1) where
      one_above : row + 1 ≡ 0 → ⊥
      one_above z = absurd (omega arith)

      below : eqb (base_entry b (row + 1 - 1)).kind 1 ≡ k
      below = let s : row + 1 - 1 ≡ row = omega arith in rw s (sym g)

      pub up_other : not k ≡ true → 513 ≡ up_of b n f
      unfolding up_of place_of is_folder_row
      up_other h = rw (ne_eqb f 0 d, ← e, ne_eqb (row + 1) 0 one_above, below, not-true k h)

      pub up_folder : not k ≡ false → row + 1 ≡ up_of b n f
      unfolding up_of place_of is_folder_row
      up_folder h = rw (ne_eqb f 0 d, ← e, ne_eqb (row + 1) 0 one_above, below, not-false k h)

-- ---- the table

module _ (b : List ℕ) (n : ℕ) where
  pub ups_none : (ups : List ℕ) → length ups ≡ 512 → Ups b n ups 0
  ups_none ups e = record { long = e; up = λ j h. absurd (omega arith) }

  pub ups_more : (ups ups' : List ℕ) (i f u : ℕ) → Ups b n ups i → n ≤ 512 → i < n → f ≡ (base_entry b i).inside → u ≡ up_of b n f → ups' ≡ set ups i u → Ups b n ups' (i + 1)
  ups_more ups ups' i f u w few low e g p =
      record {
        long = ap (λ (l : List ℕ). length l) p ∙ (length-set ups i u ∙ w.long);
        up = λ j h.
            ⊎_elim
            (λ (z : j ≡ i). rw (p, z, get_or-set_same ups i u 0 (omega (arith, w.long)), ← e) g)
            (λ (z : j ≡ i → ⊥). rw (p, get_or-set_other ups i j u 0 z) (w.up j (omega arith)))
            (eq_or_ne j i);
      }

  pub ups_end : (ups : List ℕ) (i : ℕ) → i ≤ n → n ≤ i → Ups b n ups i → Ups b n ups n
  ups_end ups i h g w = let e : i ≡ n = omega arith in (rw e at w)

-- ---- a row of kind 1 is a row

folder_some : (b : List ℕ) (q : ℕ) → is_folder_row b q ≡ true → q ≡ 0 → ⊥
unfolding is_folder_row
folder_some b q e z = false≢true (sym (rw (eq-eqb q 0 z)) ∙ e)

-- ---- the table means what the definition says

module _ (b ups : List ℕ) (n : ℕ) (few : n ≤ 512) (w : Ups b n ups n) where
  row_low : (f : ℕ) → place_of b n f ≤ n
  unfolding place_of
  row_low f = last_le (is_id b n f) n

  reach_is : (s f : ℕ) → climbs ups s (up_of b n f) ≡ reaches b n s f
  unfolding climbs reaches up_of
  reach_is zero f =
      ⊎_elim
      (λ (e : f ≡ 0). rw (eq-eqb f 0 e))
      (λ (e : f ≡ 0 → ⊥). rw (ne_eqb f 0 e) (over (is_folder_row b (place_of b n f)) refl))
      (eq_or_ne f 0)
    where
      over : (t : Bool) → is_folder_row b (place_of b n f) ≡ t → eqb (cond t (place_of b n f) 513) 0 ≡ false
      over true e = ne_eqb (place_of b n f) 0 (folder_some b (place_of b n f) e)
      over false e = refl
  reach_is (suc s) f =
      ⊎_elim
      (λ (e : f ≡ 0). rw (eq-eqb f 0 e))
      (λ (e : f ≡ 0 → ⊥). rw (ne_eqb f 0 e) (over (is_folder_row b (place_of b n f)) refl (reach_is s (base_entry b (place_of b n f - 1)).inside)))
      (eq_or_ne f 0)
    where
      over : (t : Bool) → is_folder_row b (place_of b n f) ≡ t → climbs ups s (up_of b n (base_entry b (place_of b n f - 1)).inside) ≡ reaches b n s (base_entry b (place_of b n f - 1)).inside
          → (eqb (cond t (place_of b n f) 513) 0 || (leb (cond t (place_of b n f) 513) 512 && climbs ups s (get_or ups (cond t (place_of b n f) 513 - 1) 0))) ≡ (t && reaches b n s (base_entry b (place_of b n f - 1)).inside)
      over true e h =
          let z : place_of b n f ≡ 0 → ⊥ = folder_some b (place_of b n f) e in
          let l : place_of b n f ≤ 512 = omega (arith, row_low f) in
          rw (ne_eqb (place_of b n f) 0 z, le-leb (place_of b n f) 512 l, w.up (place_of b n f - 1) (omega (arith, row_low f))) h
      over false e h = refl

  pub rooted_is : all_to n (climbs_from ups n) ≡ all_to n (is_rooted b n)
  unfolding climbs_from is_rooted
  rooted_is = all_same n (climbs_from ups n) (is_rooted b n) (λ i h. rw (w.up i h) (reach_is n (base_entry b i).inside))

pub ids_are : (b ups : List ℕ) (n m : ℕ) {t u : Bool} → n ≤ 512 → Ups b n ups n → t ≡ all_to (n + m) (id_new b n) → u ≡ all_to n (climbs_from ups n) → (t && u) ≡ ids_fit b n m
unfolding ids_fit
ids_are b ups n m l w e f = rw (e, f, rooted_is b ups n l w)
