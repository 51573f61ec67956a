-- All records held: those folded, then those of the log. Where a new record goes, and what a take adds to all that is held.
-- Assumes nothing.
use Prim.Native.Nat.{ℕ, ◌+◌, ◌≤◌, ◌<◌}
use native.Mathlib.Omega.{arith}
use mathlib.Core.Path.{◌≡◌, refl, sym, ap, ◌∙◌, subst}
use mathlib.Core.Logic.{◌⊎◌, inl, inr, ⊎_elim}
use mathlib.Core.Bool.{true}
use mathlib.Core.List.{List, [], ◌∷◌, ◌++◌}
use lib.ListN.{get_or, length}
use lib.Seq.{ext_get_or}
use Rattle.model.specs.Record.{Rec, unit, num, seen, well_formed}
use Rattle.model.specs.Log.{rank, insert, count, vector_of, no_counts, count_on, vector_on}
use Rattle.base_model.specs.Base.{is_listed}
use Rattle.call_model.specs.Outcome.{Took, refused, taken, take_one, takes_all}
use Rattle.log_laws.specs.Members.{Has, Sub, Agree}
use Rattle.log_laws.specs.Sound.{Next, SoundAfter, SoundOn, Sound, Joins}
use Rattle.log_laws.proofs.Formed.{well_unit, well_own}
use Rattle.log_laws.proofs.Members.{has_append, append_has}
use Rattle.log_laws.proofs.Counts.{count-nil, count_plus, count-append, sound_front, seen_within, covering_above, find_held, no_counts_lem}
use Rattle.log_laws.proofs.Insert.{insert-cons, insert_sound}
use Rattle.log_laws.proofs.Tests.{vector_on-length, vector_on_get_d, vector_of-length, vector_of_get_d}
use Rattle.take_laws.specs.Held.{Counts}
use Rattle.take_laws.proofs.Take.{refused_taken, taken_same, folded_within, Known, New, one_from, take_all-nil, take_all_goes, take_all_stops, all_from}

-- what ranks above all of p goes behind p
pub insert-behind : (p l : List Rec) (r : Rec) → ((s : Rec) → Has s p → rank s < rank r) → insert r (p ++ l) ≡ p ++ insert r l
insert-behind [] l r h = refl
insert-behind (x ∷ p) l r h =
    ⊎_elim
    (λ k. absurd (omega (arith, h x (inl refl), k.0)))
    (λ k. k.1 ∙ ap (λ (t : List Rec). x ∷ t) (insert-behind p l r (λ s i. h s (inr i))))
    (insert-cons r x (p ++ l))

-- ---- a log on a base is sound if all records held are

-- the records p put onto pre, last first
unfoldable pub onto : List Rec → List Rec → List Rec
onto [] pre = pre
onto (x ∷ p) pre = onto p (x ∷ pre)

pub onto_count : (u : ℕ) (p pre : List Rec) → count u (onto p pre) ≡ count u p + count u pre
unfolding onto
onto_count u [] pre = omega (arith, count-nil u)
onto_count u (x ∷ p) pre = omega (arith, onto_count u p (x ∷ pre), count_plus u x pre, count_plus u x p)

back : (v : List ℕ) (pre p l : List Rec) → SoundAfter v pre (p ++ l) → SoundAfter v (onto p pre) l
unfolding onto
back v pre [] l h = h
back v pre (x ∷ p) l h = back v (x ∷ pre) p l h.1

-- records in front may go into the vector
shed_all : (v w : List ℕ) (q : List Rec) → ((u : ℕ) → u < 8 → get_or w u 0 ≡ count_on v u q) → (pre l : List Rec) → SoundAfter v (pre ++ q) l → SoundAfter w pre l
shed_all v w q c pre [] h = tt
shed_all v w q c pre (r ∷ l) h = (one h.0, shed_all v w q c (r ∷ pre) l h.1)
  where
    one : Next v (pre ++ q) r → Next w pre r
    one n =
        record {
          formed = n.formed;
          next = omega (arith, n.next, count-append (unit r) pre q, c (unit r) (well_unit r n.formed));
          within = λ u k. omega (arith, n.within u k, count-append u pre q, c u k);
          closed = λ s i. n.closed s (append_has pre q s (inl i));
          above = λ s i. n.above s (append_has pre q s (inl i));
        }

-- the records behind p are sound on the vector that counts p too
pub shed_on : (v w : List ℕ) (p l : List Rec) → ((u : ℕ) → u < 8 → get_or w u 0 ≡ count_on v u p) → SoundOn v (p ++ l) → SoundOn w l
shed_on v w p l c h = shed_all v w (onto p []) (λ u k. omega (arith, c u k, onto_count u p [], count-nil u)) [] l (back v [] p l h)

pub shed : (v : List ℕ) (p l : List Rec) → Counts v p → Sound (p ++ l) → SoundOn v l
shed v p l c h = shed_on no_counts v p l (λ u k. omega (arith, c u k, no_counts_lem u)) h

-- ---- the vector v counts the folded records p

module _ (v : List ℕ) (p : List Rec) (c : Counts v p) where
  -- the base vector and the log count all records held
  pub counts-held : (l : List Rec) (u : ℕ) → u < 8 → count_on v u l ≡ count u (p ++ l)
  counts-held l u k = omega (arith, c u k, count-append u p l)

  pub vector_held_lem : (l : List Rec) → vector_on v l ≡ vector_of (p ++ l)
  vector_held_lem l =
      let n = vector_on-length v l in
      ext_get_or 0 (vector_on v l) (vector_of (p ++ l)) (n ∙ sym (vector_of-length (p ++ l))) (λ u k.
      let b : u < 8 = omega arith in
      vector_on_get_d v l u b ∙ counts-held l u b ∙ sym (vector_of_get_d (p ++ l) u b))

  -- a new record that covers the base vector joins all records held, behind the folded ones
  module _ (l : List Rec) (r : Rec) (h : Sound (p ++ l)) (j : Joins v [] l r) (over : (u : ℕ) → u < 8 → get_or v u 0 ≤ seen r u) where
    above_folded : (s : Rec) → Has s p → rank s < rank r
    above_folded = covering_above p r (sound_front [] p l h) (λ u k. omega (arith, over u k, c u k))

    pub joins_all : Joins no_counts [] (p ++ l) r
    joins_all =
        record {
          formed = j.formed;
          next = omega (arith, j.next, count-append (unit r) p l, c (unit r) (well_unit r j.formed), count-nil (unit r), no_counts_lem (unit r));
          within = λ u k. omega (arith, j.within u k, count-append u p l, c u k, count-nil u, no_counts_lem u);
          closed = λ s i e w k.
              ⊎_elim
              (λ x. absurd x)
              (λ x. ⊎_elim (λ y. omega (arith, seen_within p s (sound_front [] p l h) y w k, over w k, c w k)) (λ y. j.closed s (inr y) e w k) (has_append p l s x))
              i;
        }

    pub insert_all_lem : insert r (p ++ l) ≡ p ++ insert r l
    insert_all_lem = insert-behind p l r above_folded

    pub sound_all : Sound (p ++ insert r l)
    sound_all = subst Sound insert_all_lem (insert_sound (p ++ l) r h joins_all)

  -- ---- taking

  -- a take leaves all records held sound
  pub take_sound : (m : ℕ) (rs l k : List Rec) → Sound (p ++ l) → takes_all m v l rs ≡ taken k → Sound (p ++ k)
  take_sound m [] l k h e = let q : k ≡ l = sym (taken_same (sym (take_all-nil m v l) ∙ e)) in rw q h
  take_sound m (r ∷ rs) l k h e = go (take_one m v l r) refl (λ x hx ex. take_sound m rs x k hx ex)
    where
      one : (x : List Rec) → Known v l r x ⊎ New v l r x → Sound (p ++ x)
      one x (inl (q, _)) = rw q h
      one x (inr n) = let q = n.inserted in rw q (sound_all l r h n.joins n.covering)

      go : (o : Took) → take_one m v l r ≡ o → ((x : List Rec) → Sound (p ++ x) → takes_all m v x rs ≡ taken k → Sound (p ++ k)) → Sound (p ++ k)
      go (refused n) q f = refused_taken (sym (take_all_stops m v l r rs n q) ∙ e)
      go (taken x) q f = f x (one x (one_from m v l r x (shed v p l c h) q)) (sym (take_all_goes m v l r rs x q) ∙ e)

  -- by the list m the log l becomes k: to all records held come records of rs, and if those agree with the folded ones, all of rs
  pub record Added (m : ℕ) (l rs k : List Rec) : Type 0 where
    pub sound : Sound (p ++ k)
    pub from : (s : Rec) → Has s (p ++ k) → Has s (p ++ l) ⊎ Has s rs
    pub kept : Sub (p ++ l) (p ++ k)
    pub got : Agree p rs → Sub rs (p ++ k)
    pub fit : (s : Rec) → Has s rs → (well_formed s ≡ true) × (is_listed m (unit s) ≡ true)
    pub room : length l ≤ 512 → length k ≤ 512

  pub take_adds : (m : ℕ) (rs l k : List Rec) → Sound (p ++ l) → takes_all m v l rs ≡ taken k → Added m l rs k
  take_adds m rs l k h e =
      let g = all_from m v rs l k (shed v p l c h) e in
      record {
        sound = take_sound m rs l k h e;
        from = λ s i.
            ⊎_elim
            (λ j. inl (append_has p l s (inl j)))
            (λ j. ⊎_elim (λ a. inl (append_has p l s (inr a))) (λ a. inr a) (g.from s j))
            (has_append p k s i);
        kept = λ s i. append_has p k s (⊎_elim (λ j. inl j) (λ j. inr (g.kept s j)) (has_append p l s i));
        got = λ agree s i.
            ⊎_elim
            (λ j. append_has p k s (inr j))
            (λ j.
            let (f, _) = g.fit s i in
            let (t, a, x, y) = find_held p (unit s) (num s) (sound_front [] p l h) (omega (arith, well_own s f)) (omega (arith, folded_within v s j, c (unit s) (well_unit s f))) in
            append_has p k s (inl (subst (λ (z : Rec). Has z p) (agree t s a i x y) a)))
            (g.got s i);
        fit = g.fit;
        room = g.room;
      }
