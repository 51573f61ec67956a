-- What judging a record by the tables says of taking it into the list of the records held.
-- Assumes nothing.
use Prim.Native.Nat.{ℕ, zero, suc, ◌+◌, ◌-◌, ◌≤◌, ◌<◌}
use native.Mathlib.Omega.{arith}
use mathlib.Core.Path.{◌≡◌, refl, sym, ap, ◌∙◌, subst}
use mathlib.Core.Logic.{◌⊎◌, inl, inr, ⊎_elim}
use mathlib.Core.Bool.{Bool, true, false, cond, ◌&&◌}
use mathlib.Core.Option.{none, some}
use mathlib.Core.List.{List, [], ◌∷◌, ◌++◌}
use lib.Dec.{ltb, eqb}
use lib.ListN.{get_or, length}
use borrow.Author.Tests.{lt-ltb, le-ltb, le-leb, lt-leb, ne_eqb}
use Rattle.model.specs.Bytes.{same_bytes}
use Rattle.model.specs.Vector.{covers}
use Rattle.model.specs.Record.{Rec, unit, num, seen_vector, well_formed}
use Rattle.model.specs.Log.{rank, insert, count_on, by_id, is_next, is_within, is_closed}
use Rattle.base_model.specs.Base.{is_listed}
use Rattle.call_model.specs.Outcome.{Took, refused, taken, take_new, take_held, is_folded, take_one}
use Rattle.byte_slice.proofs.Numbers.{lt_or_ge, eq_or_ne, bool_cases}
use Rattle.log_laws.proofs.Formed.{well_unit}
use Rattle.log_laws.proofs.Insert.{length-insert}
use Rattle.log_closure.specs.Tables.{position_of, Indexed}
use Rattle.log_admit.proofs.Counts.{Alike, alike_inside, count_few}
use Rattle.log_admit.proofs.Tables.{held_at, join_is, indexed_note, indexed_alike, indexed_where}
use Rattle.take_beside.specs.Judging.{Counted, Step, step, held_by, new_by, new_step, take_by, after}
use Rattle.take_beside.proofs.Checks.{new_free}

-- ---- insertion puts the record somewhere

put_somewhere : (r : Rec) (l : List Rec) → (a : List Rec) × (b : List Rec) × (l ≡ a ++ b) × (insert r l ≡ a ++ r ∷ b)
unfolding insert
put_somewhere r [] = ([], [], refl, refl)
put_somewhere r (x ∷ l) =
    ⊎_elim
    (λ (h : rank r < rank x). ([], x ∷ l, refl, rw (lt-ltb (rank r) (rank x) h)))
    (λ (h : rank x ≤ rank r).
    let (a, b, p, q) = put_somewhere r l in
    (x ∷ a, b, (λ i. x ∷ p i), rw (le-ltb (rank r) (rank x) h) (λ i. x ∷ q i)))
    (lt_or_ge (rank r) (rank x))

alike-put : (r : Rec) (l m a b : List Rec) → l ≡ a ++ b → m ≡ a ++ r ∷ b → by_id (unit r) (num r) l ≡ none → Alike (r ∷ l) m
alike-put r l m a b p q e = rw (q, p) (alike_inside r b a (rw p at e))

alike-insert : (r : Rec) (l : List Rec) → by_id (unit r) (num r) l ≡ none → Alike (r ∷ l) (insert r l)
alike-insert r l e =
    let (a, b, p, q) = put_somewhere r l in
    alike-put r l (insert r l) a b p q e

-- ---- the list afterwards

pub after_taken : (g : ℕ) (base : List ℕ) (l : List Rec) (r : Rec) (m : List Rec) → take_one g base l r ≡ taken m → after g base l r ≡ m
unfolding after
after_taken g base l r m e = rw (e, after)

-- 0 takes, another number refuses
took_new : ℕ → List Rec → Took
took_new zero l = taken l
took_new (suc n) l = refused (suc n)

module _ (base : List ℕ) (at : ℕ → Rec) (top : ℕ) (m : List Rec) (held places seens : List ℕ) (h : Indexed base at top m held places seens) (used : ℕ) (e : used ≡ length m) where
  pub counted : Counted base held used
  counted =
      record {
        behind = λ u k. omega (arith, held_at base at top m held places seens h u k);
        within = λ u k. omega (arith, held_at base at top m held places seens h u k, count_few u m);
      }

  -- a new record, by the tables and by the list
  new_is : (r : Rec) → unit r < 8 → take_new base m r ≡ took_new (new_by base held used places seens r) (insert r m)
  unfolding take_new new_by took_new
  new_is r u8 =
      rw (join_is base at top m held places seens h r u8, e)
      (go (is_next base m r && is_within base m r) (covers (seen_vector r) base) (is_closed base m r) (ltb (length m) 512))
    where
      go : (a d b c : Bool) → cond a (cond d (cond b (cond c (taken (insert r m)) (refused 11)) (refused 9)) (refused 27)) (refused 8)
          ≡ took_new (cond (eqb (cond a (cond b 0 9) 8) 8) 8 (cond d (cond (eqb (cond a (cond b 0 9) 8) 0) (cond c 0 11) (cond a (cond b 0 9) 8)) 27)) (insert r m)
      go true true true true = refl
      go true true true false = refl
      go true true false c = refl
      go true false true c = refl
      go true false false c = refl
      go false d b c = refl

  module _ (g : ℕ) (r : Rec) (p : ℕ) (lo : top ≤ p) (hi : p < 518) (q : at p ≡ r) where
    -- taken: the tables have the records held then
    pub record Accepts (o : Step) : Type 0 where
      pub zero_number : o.number ≡ 0
      pub takes : take_one g base m r ≡ taken (after g base m r)
      pub indexed : Indexed base at (suc p) (after g base m r) o.held o.places o.seens
      pub counts : o.used ≡ length (after g base m r)

    abbrev pub Refuses : Step → Type 0
    Refuses o = (o.number ≡ 0 → ⊥) × (take_one g base m r ≡ refused o.number)

    accepts : (o : Step) (l : List Rec) → o.number ≡ 0 → take_one g base m r ≡ taken l → Indexed base at (suc p) l o.held o.places o.seens → o.used ≡ length l → Accepts o
    accepts o l z t i c =
        let a : l ≡ after g base m r = sym (after_taken g base m r l t) in
        record {
          zero_number = z;
          takes = t ∙ ap taken a;
          indexed = subst (λ (x : List Rec). Indexed base at (suc p) x o.held o.places o.seens) a i;
          counts = c ∙ ap (λ (x : List Rec). length x) a;
        }

    module _ (w : well_formed r ≡ true) (y : is_listed g (unit r) ≡ true) where
      u8 : unit r < 8
      u8 = well_unit r w

      -- it comes before
      beside_before : num r ≤ get_or base (unit r) 0 → Accepts (step (held_by base at places r) held used places seens)
      unfolding take_one is_folded held_by
      beside_before k =
          let z = le-leb (num r) (get_or base (unit r) 0) k in
          accepts (step (held_by base at places r) held used places seens) m (rw z) (rw (w, y, z)) (indexed_where base at top m held places seens h at (suc p) (omega arith) hi (λ x y. refl)) e

      -- its identity is held
      beside_here : num r ≤ get_or held (unit r) 0 → get_or base (unit r) 0 < num r → Refuses (step (held_by base at places r) held used places seens) ⊎ Accepts (step (held_by base at places r) held used places seens)
      unfolding take_one is_folded take_held held_by
      beside_here k l =
          let d : ℕ = num r - get_or base (unit r) 0 in
          let s = h.stands (unit r) d u8 (omega arith) (omega (arith, held_at base at top m held places seens h (unit r) u8)) in
          let c : get_or base (unit r) 0 + d ≡ num r = omega arith in
          let f : by_id (unit r) (num r) m ≡ some (at (position_of places (unit r) d)) = rw c at s.found in
          let x = lt-leb (num r) (get_or base (unit r) 0) l in
          ⊎_elim
          (λ (z : same_bytes (at (position_of places (unit r) d)) r ≡ true). inr (accepts (step (held_by base at places r) held used places seens) m (rw (x, z)) (rw (w, y, x, f, z)) (indexed_where base at top m held places seens h at (suc p) (omega arith) hi (λ i j. refl)) e))
          (λ (z : same_bytes (at (position_of places (unit r) d)) r ≡ false). inl (rw (x, z) (λ i. omega (arith, i)), rw (w, y, x, f, z)))
          (bool_cases (same_bytes (at (position_of places (unit r) d)) r))

      beside_held : num r ≤ get_or held (unit r) 0 → Refuses (step (held_by base at places r) held used places seens) ⊎ Accepts (step (held_by base at places r) held used places seens)
      beside_held k = ⊎_elim (λ l. beside_here k l) (λ l. inr (beside_before l)) (lt_or_ge (get_or base (unit r) 0) (num r))

      -- its identity is not held
      absent : get_or held (unit r) 0 < num r → by_id (unit r) (num r) m ≡ none
      absent k = h.beyond (unit r) (num r) (omega (arith, held_at base at top m held places seens h (unit r) u8))

      one_new : get_or held (unit r) 0 < num r → take_one g base m r ≡ took_new (new_by base held used places seens r) (insert r m)
      unfolding take_one is_folded take_held
      one_new k =
          let l : get_or base (unit r) 0 < num r = omega (arith, held_at base at top m held places seens h (unit r) u8) in
          rw (w, y, lt-leb (num r) (get_or base (unit r) 0) l, absent k) (new_is r u8)

      indexed_insert : get_or held (unit r) 0 < num r → new_by base held used places seens r ≡ 0 → (o : Step) → o ≡ new_step base r p held used places seens → Indexed base at (suc p) (insert r m) o.held o.places o.seens
      unfolding new_step
      indexed_insert k z o f =
          let (n, free) = new_free r base held used places seens (new_by base held used places seens r) refl z in
          let n' : num r ≡ suc (count_on base (unit r) m) = n ∙ ap suc (held_at base at top m held places seens h (unit r) u8) in
          let i = indexed_note base at top m held places seens h r p u8 n' (omega arith) lo hi q in
          rw (f, z) (indexed_alike base at (suc p) (r ∷ m) _ _ _ i (insert r m) (alike-insert r m (absent k)) (omega (arith, length-insert r m)))

      beside_new : get_or held (unit r) 0 < num r → Refuses (new_step base r p held used places seens) ⊎ Accepts (new_step base r p held used places seens)
      unfolding new_step took_new
      beside_new k =
          ⊎_elim
          (λ (z : new_by base held used places seens r ≡ 0).
          let t : take_one g base m r ≡ taken (insert r m) = rw z at (one_new k) in
          inr (accepts (new_step base r p held used places seens) (insert r m) (rw z) t (indexed_insert k z (new_step base r p held used places seens) refl) (rw z (omega (arith, length-insert r m)))))
          (λ (z : new_by base held used places seens r ≡ 0 → ⊥). inl (rw (ne_eqb (new_by base held used places seens r) 0 z) (z, one_new k ∙ refuses (new_by base held used places seens r) z)))
          (eq_or_ne (new_by base held used places seens r) 0)
        where
          refuses : (n : ℕ) → (n ≡ 0 → ⊥) → took_new n (insert r m) ≡ refused n
          refuses zero i = absurd (i refl)
          refuses (suc n) i = refl

    refused_malformed : well_formed r ≡ false → take_one g base m r ≡ refused 7
    unfolding take_one
    refused_malformed w = rw w

    refused_unlisted : well_formed r ≡ true → is_listed g (unit r) ≡ false → take_one g base m r ≡ refused 26
    unfolding take_one
    refused_unlisted w y = rw (w, y)

    beside_listed : well_formed r ≡ true → is_listed g (unit r) ≡ true → (o : Step) → o ≡ take_by g base at r p held used places seens → Refuses o ⊎ Accepts o
    unfolding take_by
    beside_listed w y o f =
        ⊎_elim
        (λ (k : get_or held (unit r) 0 < num r). rw (f, w, y, lt-leb (num r) (get_or held (unit r) 0) k) (beside_new w y k))
        (λ (k : num r ≤ get_or held (unit r) 0). rw (f, w, y, le-leb (num r) (get_or held (unit r) 0) k) (beside_held w y k))
        (lt_or_ge (get_or held (unit r) 0) (num r))

    -- the two ways of a record
    pub beside : (o : Step) → o ≡ take_by g base at r p held used places seens → Refuses o ⊎ Accepts o
    unfolding take_by
    beside o f =
        ⊎_elim
        (λ (w : well_formed r ≡ true).
        ⊎_elim
        (λ (y : is_listed g (unit r) ≡ true). beside_listed w y o f)
        (λ (y : is_listed g (unit r) ≡ false). rw (f, w, y) (inl ((λ x. omega (arith, x)), refused_unlisted w y)))
        (bool_cases (is_listed g (unit r))))
        (λ (w : well_formed r ≡ false). rw (f, w) (inl ((λ x. omega (arith, x)), refused_malformed w)))
        (bool_cases (well_formed r))

    module _ (o : Step) (f : o ≡ take_by g base at r p held used places seens) where
      pub beside_refused : (o.number ≡ 0 → ⊥) → take_one g base m r ≡ refused o.number
      beside_refused z = ⊎_elim (λ (x : Refuses o). x.1) (λ (x : Accepts o). absurd (z x.zero_number)) (beside o f)

      pub beside_taken : o.number ≡ 0 → Accepts o
      beside_taken z = ⊎_elim (λ (x : Refuses o). absurd (x.0 z)) (λ (x : Accepts o). x) (beside o f)
