-- The records of two sound logs that agree, put together by rank, are sound, and they are all of both.
-- Assumes nothing.
use Prim.Native.Nat.{ℕ, suc, ◌+◌, ◌≤◌, ◌<◌}
use native.Mathlib.Omega.{arith}
use mathlib.Core.Path.{◌≡◌, refl, sym, ap, ◌∙◌, subst}
use mathlib.Core.Logic.{◌⊎◌, inl, inr, ⊎_elim}
use mathlib.Core.Bool.{true}
use mathlib.Core.List.{List, [], ◌∷◌}
use lib.ListN.{get_or, length}
use Rattle.model.specs.Record.{Rec, unit, num, seen, well_formed}
use Rattle.model.specs.Log.{rank, count, insert, vector_of, no_counts, lacking}
use Rattle.model.specs.Merge.{insert_all, union}
use Rattle.byte_slice.proofs.Numbers.{lt_or_ge}
use Rattle.log_laws.specs.Members.{Has, Sub, Agree}
use Rattle.log_laws.specs.Sound.{SoundAfter, Sound, Joins}
use Rattle.log_laws.proofs.Formed.{well_own, well_unit}
use Rattle.log_laws.proofs.Counts.{above_all, formed, unit_of_lem, own_of, number_held, find_held, count-nil, no_counts_lem}
use Rattle.log_laws.proofs.Same.{unique}
use Rattle.log_laws.proofs.Ids.{held-by_id, none-by_id}
use Rattle.log_laws.proofs.Insert.{insert_sound, has_insert, insert_has, length-insert}
use Rattle.log_laws.proofs.Lacking.{lacking-cons, lacking-nil}
use Rattle.log_laws.proofs.Seen.{saw}
use Rattle.log_laws.proofs.Tests.{vector_of_get_d}
use Rattle.merge_laws.specs.Both.{Both}

-- b: the second log; pre: what of it was looked at, last first; rs: what is still to come; acc: what is put together so far
pub record Going (a b pre rs acc : List Rec) : Type 0 where
  pub sound : Sound acc
  pub rest : SoundAfter no_counts pre rs
  pub inside : Sub rs b
  pub past : Sub pre b
  pub done : (s : Rec) → Has s b → Has s rs ⊎ Has s acc
  pub from : (s : Rec) → Has s acc → Has s a ⊎ Has s pre
  pub kept : Sub a acc

module _ (a b : List Rec) (sa : Sound a) (sb : Sound b) (agree : Agree a b) where
  module _ (pre : List Rec) (r : Rec) (rs acc : List Rec) (g : Going a b pre (r ∷ rs) acc) where
    pub mine : Has r b
    mine = g.inside r (inl refl)

    pub fr : well_formed r ≡ true
    fr = formed [] b r sb mine

    -- what r saw is there already
    there : (s : Rec) → Has s b → rank s < rank r → Has s acc
    there s i k =
        ⊎_elim
        (λ j.
        ⊎_elim
        (λ (q : s ≡ r). absurd (omega (arith, ap rank q)))
        (λ q. absurd (omega (arith, above_all (r ∷ pre) rs r s g.rest.1 (inl refl) q)))
        j)
        (λ j. j)
        (g.done s i)

    module _ (new : get_or (vector_of a) (unit r) 0 < num r) where
      pub fresh : (s : Rec) → Has s acc → unit s ≡ unit r → num s ≡ num r → ⊥
      fresh s i u n =
          ⊎_elim
          (λ j.
          let m : num s ≤ count (unit r) a = subst (λ (x : ℕ). num s ≤ count x a) u (number_held a s sa j) in
          omega (arith, vector_of_get_d a (unit r) (well_unit r fr)))
          (λ j.
          let q : s ≡ r = unique [] b sb s r (g.past s j) mine u n in
          omega (arith, above_all pre (r ∷ rs) s r g.rest j (inl refl), ap rank q))
          (g.from s i)

      within : (u : ℕ) → u < 8 → seen r u ≤ count u acc
      within u k =
          ⊎_elim
          (λ (p : 0 < seen r u).
          let w = saw b r sb mine u k p in
          let h : Has w.it acc = there w.it w.in_log w.below in
          let n : num w.it ≤ count (unit w.it) acc = number_held acc w.it g.sound h in
          let q : num w.it ≤ count u acc = subst (λ (x : ℕ). num w.it ≤ count x acc) w.of_unit n in
          omega (arith, w.numbered))
          (λ (p : seen r u ≤ 0). omega arith)
          (lt_or_ge 0 (seen r u))

      next : num r ≡ suc (count (unit r) acc)
      next =
          let o = well_own r fr in
          let low = within (unit r) (well_unit r fr) in
          ⊎_elim
          (λ (p : count (unit r) acc < num r). omega arith)
          (λ (p : num r ≤ count (unit r) acc).
          let (s, i, x, y) = find_held acc (unit r) (num r) g.sound (omega arith) p in
          absurd (fresh s i x y))
          (lt_or_ge (count (unit r) acc) (num r))

      closed : (s : Rec) → Has s acc → num s ≡ seen r (unit s) → (v : ℕ) → v < 8 → seen s v ≤ seen r v
      closed s i n v k =
          let us = unit_of_lem [] acc s g.sound i in
          let p : 0 < seen r (unit s) = omega (arith, own_of [] acc s g.sound i) in
          let w = saw b r sb mine (unit s) us p in
          let h : Has w.it acc = there w.it w.in_log w.below in
          let e : s ≡ w.it = unique [] acc g.sound s w.it i h (sym w.of_unit) (n ∙ sym w.numbered) in
          rw e (w.inside v k)

      pub joins : Joins no_counts [] acc r
      joins =
          record {
            formed = fr;
            next = omega (arith, next, count-nil (unit r), no_counts_lem (unit r));
            within = λ u k. omega (arith, within u k, count-nil u, no_counts_lem u);
            closed = λ s i. ⊎_elim (λ x. absurd x) (λ x. closed s x) i;
          }

      pub goes_new : Going a b (r ∷ pre) rs (insert r acc)
      goes_new =
          record {
            sound = insert_sound acc r g.sound joins;
            rest = g.rest.1;
            inside = λ s i. g.inside s (inr i);
            past = λ s i. ⊎_elim (λ (q : s ≡ r). rw q mine) (λ j. g.past s j) i;
            done = λ s i.
                ⊎_elim
                (λ j. ⊎_elim (λ (q : s ≡ r). inr (insert_has r acc s (inl q))) (λ j₁. inl j₁) j)
                (λ j. inr (insert_has r acc s (inr j)))
                (g.done s i);
            from = λ s i. ⊎_elim (λ (q : s ≡ r). inr (inl q)) (λ j. ⊎_elim (λ x. inl x) (λ x. inr (inr x)) (g.from s j)) (has_insert r acc s i);
            kept = λ s i. insert_has r acc s (inr (g.kept s i));
          }

    module _ (old : num r ≤ get_or (vector_of a) (unit r) 0) where
      pub held : Has r acc
      held =
          let o = well_own r fr in
          let (x, i, u, n) = find_held a (unit r) (num r) sa (omega arith) (omega (arith, vector_of_get_d a (unit r) (well_unit r fr))) in
          let q : x ≡ r = agree x r i mine u n in
          g.kept r (rw (← q) i)

      pub goes_held : Going a b (r ∷ pre) rs acc
      goes_held =
          record {
            sound = g.sound;
            rest = g.rest.1;
            inside = λ s j. g.inside s (inr j);
            past = λ s j. ⊎_elim (λ (y : s ≡ r). rw y mine) (λ z. g.past s z) j;
            done = λ s j. ⊎_elim (λ k. ⊎_elim (λ (y : s ≡ r). inr (rw y held)) (λ z. inl z) k) (λ k. inr k) (g.done s j);
            from = λ s j. ⊎_elim (λ z. inl z) (λ z. inr (inr z)) (g.from s j);
            kept = g.kept;
          }

  whole : (pre rs acc : List Rec) → Going a b pre rs acc → Both a b (insert_all acc (lacking (vector_of a) rs))
  unfolding insert_all
  whole pre [] acc g =
      rw (lacking-nil (vector_of a))
      (record {
        sound = g.sound;
        first = g.kept;
        second = λ s i. ⊎_elim (λ x. absurd x) (λ x. x) (g.done s i);
        from = λ s i. ⊎_elim (λ x. inl x) (λ x. inr (g.past s x)) (g.from s i);
      })
  whole pre (r ∷ rs) acc g =
      ⊎_elim
      (λ k. subst (λ (m : List Rec). Both a b (insert_all acc m)) (sym k.1) (whole (r ∷ pre) rs (insert r acc) (goes_new pre r rs acc g k.0)))
      (λ k. subst (λ (m : List Rec). Both a b (insert_all acc m)) (sym k.1) (whole (r ∷ pre) rs acc (goes_held pre r rs acc g k.0)))
      (lacking-cons (vector_of a) r rs)

  pub begins : Going a b [] b a
  begins = record { sound = sa; rest = sb; inside = λ s i. i; past = λ s i. absurd i; done = λ s i. inl i; from = λ s i. inl i; kept = λ s i. i }

  -- the union of two sound logs that agree is sound, and has the records of both and no others
  pub union_both : Both a b (union a b)
  unfolding union
  union_both = whole [] b a begins
