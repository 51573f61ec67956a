-- A log stays sound under another content mark of a make trace or a store.
-- Assumes nothing.
use Prim.Native.Nat.{ℕ, suc, ◌+◌, ◌-◌, ◌*◌, ◌≤◌, ◌<◌}
use native.Mathlib.Omega.{arith}
use mathlib.Core.Path.{◌≡◌, refl, sym, ap, ◌∙◌}
use mathlib.Core.Bool.{Bool, true, false, ◌&&◌}
use mathlib.Core.Logic.{◌⊎◌, inl, inr, ⊎_elim}
use mathlib.Core.List.{List, [], ◌∷◌}
use lib.Dec.{leb, eqb}
use lib.ListN.{get_or, length}
use borrow.Author.Tests.{leb-true}
use Rattle.byte_slice.proofs.Numbers.{eq_or_ne}
use Rattle.byte_slice.proofs.Words.{word_same}
use Rattle.model.specs.Bytes.{word}
use Rattle.model.specs.Record.{Rec, unit, op, num, seen, label_of, uses_mark, unused, names, object_fits, folder_fits, label_fits, mark_fits, date_fits, head_fits, well_formed}
use Rattle.model.specs.Log.{rank, count, no_counts, count_on}
use Rattle.log_laws.specs.Members.{Has}
use Rattle.log_laws.specs.Sound.{Next, SoundAfter, Sound}
use Rattle.log_laws.proofs.Sums.{sum_to-eq}
use Rattle.log_laws.proofs.Formed.{well_unit, well_length}
use Rattle.tree_laws.specs.Replayed.{Pairs}
use Rattle.tree_laws.proofs.Blind.{front_same, front_part}
use Rattle.mark_laws.specs.Marks.{mark_at, SameButMark, OneMarkApart}
use Rattle.mark_laws.proofs.Pairs.{pairs_at}

-- ---- one record

rank-alike : (r s : Rec) → unit r ≡ unit s → ((u : ℕ) → u < 8 → seen r u ≡ seen s u) → rank r ≡ rank s
unfolding rank
rank-alike r s e h = rw (sum_to-eq 8 (seen r) (seen s) h, e)

both : (b x y : Bool) → (b ≡ true → x ≡ y) → (b && x) ≡ (b && y)
both true x y h = h refl
both false x y h = refl

module _ (r s : Rec) (e : SameButMark r s) where
  byte : (i : ℕ) → i < 64 → get_or r i 0 ≡ get_or s i 0
  byte i h = front_same mark_at r s e i (omega arith)

  pair : (i : ℕ) → i + 1 < 64 → word r i ≡ word s i
  pair i h = word_same r s i i (byte i (omega arith)) (byte (i + 1) h)

  seen_at : (u : ℕ) → u < 8 → seen r u ≡ seen s u
  unfolding seen
  seen_at u h = pair (4 + 2 * u) (omega arith)

  unit-at : unit r ≡ unit s
  unfolding unit
  unit-at = byte 0 (omega arith)

  num-at : num r ≡ num s
  unfolding num
  num-at = pair 2 (omega arith)

  op-at : op r ≡ op s
  unfolding op
  op-at = byte 1 (omega arith)

  unused-at : (at n : ℕ) → at + n ≤ 64 → unused r at n ≡ unused s at n
  unfolding unused
  unused-at at n h = rw (front_part mark_at r s e at n (omega arith))

  names_at : (at : ℕ) → at + 3 < 64 → names r at ≡ names s at
  unfolding names
  names_at at h =
      rw (sym (byte at (omega arith)), sym (byte (at + 1) (omega arith)), sym (pair (at + 2) (omega arith)))
      (both (leb (get_or r at 0) 7)
      (eqb (get_or r (at + 1) 0) 0 && (leb 1 (word r (at + 2)) && leb (word r (at + 2)) (seen r (get_or r at 0))))
      (eqb (get_or r (at + 1) 0) 0 && (leb 1 (word r (at + 2)) && leb (word r (at + 2)) (seen s (get_or r at 0))))
      (λ z. rw (seen_at (get_or r at 0) (omega (arith, leb-true (get_or r at 0) 7 z)))))

  head_at : head_fits r ≡ head_fits s
  unfolding head_fits
  head_at =
      rw (sym unit-at, sym op-at, sym num-at)
      (both (leb (unit r) 7)
      (leb 1 (op r) && (leb (op r) 7 && (leb 1 (num r) && eqb (seen r (unit r)) (num r - 1))))
      (leb 1 (op r) && (leb (op r) 7 && (leb 1 (num r) && eqb (seen s (unit r)) (num r - 1))))
      (λ z. rw (seen_at (unit r) (omega (arith, leb-true (unit r) 7 z)))))

  mark_at_lem : (op r ≡ 2) ⊎ (op r ≡ 3) → mark_fits r ≡ mark_fits s
  unfolding mark_fits uses_mark
  mark_at_lem (inl o) = let o₁ : op s ≡ 2 = sym op-at ∙ o in rw (o, o₁)
  mark_at_lem (inr o) = let o₁ : op s ≡ 3 = sym op-at ∙ o in rw (o, o₁)

  formed_at : length r ≡ length s → (op r ≡ 2) ⊎ (op r ≡ 3) → well_formed r ≡ well_formed s
  unfolding well_formed object_fits folder_fits date_fits label_fits label_of
  formed_at n o =
      rw (
        n,
        head_at,
        mark_at_lem o,
        op-at,
        names_at 20 (omega arith),
        unused-at 20 4 (omega arith),
        names_at 24 (omega arith),
        unused-at 24 4 (omega arith),
        pair 28 (omega arith),
        byte 30 (omega arith),
        byte 31 (omega arith),
        front_part mark_at r s e 32 32 (omega arith),
        unused-at 32 32 (omega arith),
      )

  -- rank does not read the mark
  pub rank_but_mark : rank r ≡ rank s
  rank_but_mark = rank-alike r s unit-at seen_at

-- ---- records that stand alike in a log

-- as well formed as the other, and of the same unit, number and seen
record Twin (r s : Rec) : Type 0 where
  formed : well_formed r ≡ true → well_formed s ≡ true
  of_unit : unit r ≡ unit s
  of_num : num r ≡ num s
  of_seen : (u : ℕ) → u < 8 → seen r u ≡ seen s u

twin_self : (r : Rec) → Twin r r
twin_self r = record { formed = λ f. f; of_unit = refl; of_num = refl; of_seen = λ u h. refl }

twin_rank : (r s : Rec) → Twin r s → rank r ≡ rank s
twin_rank r s t = rank-alike r s t.of_unit t.of_seen

-- the records before, in two logs: as many of each unit, and each of the second the twin of one of the first
record Fronts (pre ere : List Rec) : Type 0 where
  counts : (u : ℕ) → count u pre ≡ count u ere
  twins : (y : Rec) → Has y ere → (x : Rec) × Has x pre × (unit x < 8) × Twin x y

fronts_cons : (pre ere : List Rec) (r s : Rec) → unit r < 8 → Twin r s → Fronts pre ere → Fronts (r ∷ pre) (s ∷ ere)
unfolding count
fronts_cons pre ere r s b t f =
    record {
      counts = λ u. rw (t.of_unit, f.counts u);
      twins = λ y i. ⊎_elim (λ (q : y ≡ s). (r, inl refl, b, rw q t)) (λ j. let (x, k, w, z) = f.twins y j in (x, inr k, w, z)) i;
    }

next_twin : (pre ere : List Rec) (r s : Rec) → Twin r s → Fronts pre ere → Next no_counts pre r → Next no_counts ere s
next_twin pre ere r s t f n =
    record {
      formed = t.formed n.formed;
      next = sym t.of_num ∙ n.next ∙ ap (λ (k : ℕ). suc (get_or no_counts (unit r) 0 + k)) (f.counts (unit r)) ∙ ap (λ (u : ℕ). suc (count_on no_counts u ere)) t.of_unit;
      within = λ u h. omega (arith, t.of_seen u h, f.counts u, n.within u h);
      closed = λ y i q v h.
          let (x, j, b, z) = f.twins y i in
          let c : num x ≡ seen r (unit x) = z.of_num ∙ q ∙ ap (seen s) (sym z.of_unit) ∙ sym (t.of_seen (unit x) b) in
          omega (arith, n.closed x j c v h, z.of_seen v h, t.of_seen v h);
      above = λ y i. let (x, j, b, z) = f.twins y i in omega (arith, n.above x j, twin_rank x y z, twin_rank r s t);
    }

sound_twins : (pre ere l m : List Rec) → Fronts pre ere → Pairs Twin l m → SoundAfter no_counts pre l → SoundAfter no_counts ere m
sound_twins pre ere [] [] f p h = tt
sound_twins pre ere [] (s ∷ m) f p h = absurd p
sound_twins pre ere (r ∷ l) [] f p h = absurd p
sound_twins pre ere (r ∷ l) (s ∷ m) f p h = (
  next_twin pre ere r s p.0 f h.0,
  sound_twins (r ∷ pre) (s ∷ ere) l m (fronts_cons pre ere r s (well_unit r h.0.formed) p.0 f) p.1 h.1,
)

-- ---- the logs

pub sound_apart : (i : ℕ) (l m : List Rec) → OneMarkApart i l m → length (get_or m i []) ≡ 80 → Sound l → Sound m
sound_apart i l m a n h =
    sound_twins [] [] l m (record { counts = λ u. refl; twins = λ y i. absurd i })
    (pairs_at Twin l m a.as_long twin_at) h
  where
    mark_twin : Twin (get_or l i []) (get_or m i [])
    mark_twin =
        let r : Rec = get_or l i [] in
        let s : Rec = get_or m i [] in
        let e = a.but_mark in
        record {
          formed = λ f. sym (formed_at r s e (well_length r f ∙ sym n) a.gives_mark) ∙ f;
          of_unit = unit-at r s e;
          of_num = num-at r s e;
          of_seen = seen_at r s e;
        }

    twin_at : (j : ℕ) → j < length l → Twin (get_or l j []) (get_or m j [])
    twin_at j b =
        ⊎_elim
        (λ (q : j ≡ i). rw q mark_twin)
        (λ (q : j ≡ i → ⊥). rw (sym (a.elsewhere j b q)) (twin_self (get_or l j [])))
        (eq_or_ne j i)
