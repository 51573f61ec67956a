-- A record laid behind those held and judged there, over plain values.
-- Assumes nothing.
use Prim.Native.Nat.{ℕ, suc, ◌+◌, ◌-◌, ◌*◌, ◌≤◌, ◌<◌}
use native.Mathlib.Numerals.{add-one}
use native.Mathlib.Omega.{arith}
use mathlib.Core.Path.{◌≡◌, refl, sym, ap, ◌∙◌, subst}
use mathlib.Core.Logic.{inl, inr, ⊎_elim}
use mathlib.Core.Bool.{Bool, true, false}
use mathlib.Core.List.{List}
use lib.Dec.{leb, eqb}
use lib.ListN.{get_or, length, take, drop}
use Rattle.model.specs.Bytes.{put_at, same_bytes}
use Rattle.model.specs.Record.{Rec, unit, num, well_formed}
use Rattle.model.specs.Log.{insert, vector_on}
use Rattle.base_model.specs.Base.{is_listed, lists_all}
use Rattle.call_model.specs.Outcome.{refused, taken, take_one}
use Rattle.byte_slice.proofs.Numbers.{lt_or_ge, bool_cases}
use Rattle.byte_slice.proofs.Parts.{part_is}
use Rattle.byte_slice.proofs.PutAt.{part-put, part_put_before}
use Rattle.log_laws.specs.Sound.{SoundOn}
use Rattle.log_laws.proofs.Insert.{length-insert, has_insert, insert_sound_on}
use Rattle.take_laws.proofs.Take.{New, Known, one_fits, one_from}
use Rattle.call_laws.proofs.States.{lists_grown}
use Rattle.log_closure.specs.Tables.{Indexed, Placed}
use Rattle.log_admit.proofs.Tables.{indexed_placed, indexed_where}
use Rattle.log_check.specs.declared.Layout.TheVariants.{Log}
use Rattle.log_check.specs.Places.{offset_of, laid_at}
use Rattle.log_insert.specs.Where.{insert_to}
use Rattle.take_beside.specs.Judging.{Counted, Step, new_by, new_step, take_by, after}
use Rattle.take_judge.proofs.Beside.{counted, beside_refused, beside_taken}
use Rattle.take_row_store.specs.Grown.{new_at, held_in, Grown}
use Rattle.take_row_store.proofs.Runs.{held-alike, held-long, held_sound, grown_alike}
use Rattle.take_row_judge.specs.Kept.{Kept}

pub same_at : (work rec : List ℕ) (q : ℕ) (t : Bool) → t ≡ same_bytes (take (80 * q + 80 - 80 * q) (drop (80 * q) work)) rec → t ≡ same_bytes (laid_at Log work q) rec
unfolding laid_at offset_of
same_at work rec q t e = rw (part_is work (80 * q) 80) at e

-- ---- a record that adds none leaves the tables

abbrev Same : Step → List ℕ → List ℕ → List ℕ → Type 0
Same o held places seens = (o.held ≡ held) × (o.places ≡ places) × (o.seens ≡ seens)

module _ (m : ℕ) (v : List ℕ) (at : ℕ → Rec) (r : Rec) (p : ℕ) (held : List ℕ) (used : ℕ) (places seens : List ℕ) where
  new_same : (o : Step) → o ≡ new_step v r p held used places seens → o.used ≡ used → Same o held places seens
  unfolding new_step
  new_same o e q =
      ⊎_elim
      (λ (z : eqb (new_by v held used places seens r) 0 ≡ true).
      let f : o.used ≡ used + 1 = ap (λ (x : Step). x.used) e ∙ rw z in absurd (omega arith))
      (λ (z : eqb (new_by v held used places seens r) 0 ≡ false). rw (e, z) (refl, refl, refl))
      (bool_cases (eqb (new_by v held used places seens r) 0))

  listed_same : well_formed r ≡ true → is_listed m (unit r) ≡ true → (o : Step) → o ≡ take_by m v at r p held used places seens → o.used ≡ used → Same o held places seens
  unfolding take_by
  listed_same w y o e q =
      ⊎_elim
      (λ (l : leb (num r) (get_or held (unit r) 0) ≡ true). rw (e, w, y, l) (refl, refl, refl))
      (λ (l : leb (num r) (get_or held (unit r) 0) ≡ false). new_same o (e ∙ rw (w, y, l)) q)
      (bool_cases (leb (num r) (get_or held (unit r) 0)))

  stays : (o : Step) → o ≡ take_by m v at r p held used places seens → o.used ≡ used → Same o held places seens
  unfolding take_by
  stays o e q =
      ⊎_elim
      (λ (w : well_formed r ≡ true).
      ⊎_elim
      (λ (y : is_listed m (unit r) ≡ true). listed_same w y o e q)
      (λ (y : is_listed m (unit r) ≡ false). rw (e, w, y) (refl, refl, refl))
      (bool_cases (is_listed m (unit r))))
      (λ (w : well_formed r ≡ false). rw (e, w) (refl, refl, refl))
      (bool_cases (well_formed r))

-- ---- what is known of what is held

module _ (m : ℕ) (v : List ℕ) (l : List Rec) (start : ℕ) (work : List ℕ) (used : ℕ) (held places seens : List ℕ) (k : Kept m v l start work used held places seens) where
  pub kept-placed : Placed v held places
  kept-placed = indexed_placed v (laid_at Log work) used (held_in l start work used) held places seens k.indexed

  pub kept_counted : Counted v held used
  kept_counted = counted v (laid_at Log work) used (held_in l start work used) held places seens k.indexed used (held-long v l start work used k.grown)

  pub kept_few : used ≤ 512
  kept_few = k.grown.few

  -- ---- a record laid at the place used

  module _ (r : Rec) (n : length r ≡ 80) (long : length work ≡ 41440) (work' : List ℕ) (w : work' ≡ put_at work (80 * used) r) where
    pub below : (p : ℕ) → p < used → laid_at Log work p ≡ laid_at Log work' p
    unfolding laid_at offset_of
    below p h = rw w (sym (part_put_before work (80 * used) r (80 * p) 80 (omega arith) (omega (arith, kept_few))))

    here : laid_at Log work' used ≡ r
    unfolding laid_at offset_of
    here = rw w (rw n at (part-put work (80 * used) r (omega (arith, kept_few))))

    indexed : Indexed v (laid_at Log work') used (held_in l start work used) held places seens
    indexed = indexed_where v (laid_at Log work) used (held_in l start work used) held places seens k.indexed (laid_at Log work') used (omega arith) (omega (arith, kept_few)) below

    held_same : held_in l start work used ≡ held_in l start work' used
    held_same = held-alike l start work work' used below

    -- one record more is put in
    held_next : held_in l start work' (used + 1) ≡ insert r (held_in l start work used)
    unfolding held_in insert_to new_at
    held_next =
        let g = k.grown.from in
        let e : used + 1 - start ≡ suc (used - start) = omega arith in
        let f : start + (used - start) ≡ used = omega arith in
        rw (e, f, here, held_same)

    module _ (o : Step) (e : o ≡ take_by m v (laid_at Log work') r used held used places seens) where
      pub laid_refused : (o.number ≡ 0 → ⊥) → take_one m v (held_in l start work used) r ≡ refused o.number
      laid_refused z = beside_refused v (laid_at Log work') used (held_in l start work used) held places seens indexed used (held-long v l start work used k.grown) m r used (omega arith) (omega (arith, kept_few)) here o e z

      -- what is held after a record that passed
      pub record Passed : Type 0 where
        pub takes : take_one m v (held_in l start work used) r ≡ taken (held_in l start work' o.used)
        pub kept : Kept m v l start work' o.used o.held o.places o.seens
        pub grows : used ≤ o.used

      module _ (z : o.number ≡ 0) where
        long_is : used ≡ length (held_in l start work used)
        long_is = held-long v l start work used k.grown

        takes : take_one m v (held_in l start work used) r ≡ taken (after m v (held_in l start work used) r)
        takes =
            (beside_taken v (laid_at Log work') used (held_in l start work used) held places seens indexed used long_is m r used (omega arith) (omega (arith, kept_few)) here o e z).takes

        has_all : Indexed v (laid_at Log work') (suc used) (after m v (held_in l start work used) r) o.held o.places o.seens
        has_all =
            (beside_taken v (laid_at Log work') used (held_in l start work used) held places seens indexed used long_is m r used (omega arith) (omega (arith, kept_few)) here o e z).indexed

        counts : o.used ≡ length (after m v (held_in l start work used) r)
        counts =
            (beside_taken v (laid_at Log work') used (held_in l start work used) held places seens indexed used long_is m r used (omega arith) (omega (arith, kept_few)) here o e z).counts

        -- a record that was held
        once : after m v (held_in l start work used) r ≡ held_in l start work used → Passed
        once x =
            let u : o.used ≡ used = counts ∙ ap length x ∙ sym long_is in
            let s = stays m v (laid_at Log work') r used held used places seens o e u in
            let i : Kept m v l start work' used held places seens = record { grown = grown_alike v l start work used k.grown work' below; indexed = rw (← held_same) indexed; listed = rw (← held_same) k.listed } in
            record {
              takes = takes ∙ ap taken (x ∙ held_same ∙ ap (held_in l start work') (sym u));
              kept = rw (u, s.0, s.1, s.2) i;
              grows = omega arith;
            }

        -- a new one
        module _ (x : New v (held_in l start work used) r (after m v (held_in l start work used) r)) where
          used_is : o.used ≡ used + 1
          used_is = omega (arith, counts, ap length x.inserted, length-insert r (held_in l start work used), long_is)

          whole : SoundOn v (held_in l start work' (used + 1))
          whole = rw held_next (insert_sound_on v (held_in l start work used) r (held_sound v l start work used k.grown) x.joins)

          all : SoundOn v (insert_to l (new_at start work') (used + 1 - start))
          unfolding held_in
          all = whole

          more : Grown v l start work' (used + 1)
          more =
              let g = grown_alike v l start work used k.grown work' below in
              record {
                from = omega (arith, g.from);
                few = omega (arith, x.room, long_is);
                first = g.first;
                sound = λ j h.
                    ⊎_elim
                    (λ (c : used - start < j).
                    let f : j ≡ used + 1 - start = omega (arith, g.from) in
                    rw f all)
                    (λ (c : j ≤ used - start). g.sound j c)
                    (lt_or_ge (used - start) j);
              }

          all_listed : lists_all m (vector_on v (after m v (held_in l start work used) r)) ≡ true
          all_listed =
              let s = held_sound v l start work used k.grown in
              let y : is_listed m (unit r) ≡ true = (one_fits m v (held_in l start work used) r (after m v (held_in l start work used) r) takes).1 in
              rw x.inserted
              (lists_grown m v (held_in l start work used) (insert r (held_in l start work used)) s (insert_sound_on v (held_in l start work used) r s x.joins) k.listed
              (λ q i. ⊎_elim (λ (e : q ≡ r). inr (rw e y)) (λ j. inl j) (has_insert r (held_in l start work used) q i)))

          anew : Passed
          anew =
              let h : held_in l start work' o.used ≡ after m v (held_in l start work used) r = rw used_is (held_next ∙ sym x.inserted) in
              record {
                takes = takes ∙ ap taken (sym h);
                kept = record {
                  grown = rw used_is more;
                  indexed = rw h (subst (λ (t : ℕ). Indexed v (laid_at Log work') t (after m v (held_in l start work used) r) o.held o.places o.seens) (sym (used_is ∙ add-one used)) has_all);
                  listed = rw h all_listed;
                };
                grows = omega (arith, used_is);
              }

        pub laid_taken : Passed
        laid_taken =
            ⊎_elim
            (λ (x : Known v (held_in l start work used) r (after m v (held_in l start work used) r)). once x.0)
            (λ (x : New v (held_in l start work used) r (after m v (held_in l start work used) r)). anew x)
            (one_from m v (held_in l start work used) r (after m v (held_in l start work used) r) (held_sound v l start work used k.grown) takes)
