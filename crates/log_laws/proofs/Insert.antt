-- A record that may join goes in at its rank, and the log stays sound.
-- Assumes nothing.
use Prim.Native.Nat.{ℕ, suc, ◌+◌, ◌≤◌, ◌<◌}
use native.Mathlib.Omega.{arith}
use mathlib.Core.Path.{◌≡◌, refl, sym, ap, ◌∙◌, subst}
use mathlib.Core.Logic.{◌⊎◌, inl, inr, ⊎_elim}
use mathlib.Core.List.{List, [], ◌∷◌, ◌++◌}
use lib.ListN.{get_or, length}
use borrow.Author.Tests.{lt-ltb, le-ltb}
use Rattle.model.specs.Record.{Rec, unit, num, seen}
use Rattle.model.specs.Log.{rank, insert, count, no_counts, count_on}
use Rattle.byte_slice.proofs.Numbers.{lt_or_ge, eq_or_ne}
use Rattle.log_laws.specs.Members.{Has}
use Rattle.log_laws.specs.Sound.{SoundAfter, SoundOn, Sound, Joins}
use Rattle.log_laws.proofs.Formed.{well_unit, well_own}
use Rattle.log_laws.proofs.Counts.{count-cons, count_other, count_plus, count_shift, find, formed_on, numbers_on, above_all_on, lower, rank-unit}

-- ---- what an insertion has

abbrev pub Inserted : Rec → Rec → List Rec → Type 0
Inserted r x l = ((rank r < rank x) × (insert r (x ∷ l) ≡ r ∷ x ∷ l)) ⊎ ((rank x ≤ rank r) × (insert r (x ∷ l) ≡ x ∷ insert r l))

pub insert-cons : (r x : Rec) (l : List Rec) → Inserted r x l
unfolding insert
insert-cons r x l =
    ⊎_elim
    (λ e. inl (e, rw (lt-ltb (rank r) (rank x) e)))
    (λ e. inr (e, rw (le-ltb (rank r) (rank x) e)))
    (lt_or_ge (rank r) (rank x))

pub insert-nil : (r : Rec) → insert r [] ≡ r ∷ []
unfolding insert
insert-nil r = refl

pub has_insert : (r : Rec) (l : List Rec) (s : Rec) → Has s (insert r l) → (s ≡ r) ⊎ Has s l
unfolding insert
has_insert r [] s h = h
has_insert r (x ∷ l) s h =
    ⊎_elim
    (λ k. subst (Has s) k.1 h)
    (λ k. deeper (subst (Has s) k.1 h) (λ i. has_insert r l s i))
    (insert-cons r x l)
  where
    deeper : Has s (x ∷ insert r l) → (Has s (insert r l) → (s ≡ r) ⊎ Has s l) → (s ≡ r) ⊎ Has s (x ∷ l)
    deeper (inl e) k = inr (inl e)
    deeper (inr i) k = ⊎_elim (λ e. inl e) (λ j. inr (inr j)) (k i)

pub insert_has : (r : Rec) (l : List Rec) (s : Rec) → (s ≡ r) ⊎ Has s l → Has s (insert r l)
unfolding insert
insert_has r [] s h = h
insert_has r (x ∷ l) s h =
    ⊎_elim
    (λ k. subst (Has s) (sym k.1) h)
    (λ k. subst (Has s) (sym k.1) (deeper h (λ i. insert_has r l s i)))
    (insert-cons r x l)
  where
    deeper : (s ≡ r) ⊎ Has s (x ∷ l) → ((s ≡ r) ⊎ Has s l → Has s (insert r l)) → Has s (x ∷ insert r l)
    deeper (inl e) k = inr (k (inl e))
    deeper (inr (inl e)) k = inl e
    deeper (inr (inr i)) k = inr (k (inr i))

pub length-insert : (r : Rec) (l : List Rec) → length (insert r l) ≡ suc (length l)
length-insert r [] = rw (insert-nil r)
length-insert r (x ∷ l) =
    ⊎_elim
    (λ k. ap (λ (t : List Rec). length t) k.1)
    (λ k. ap (λ (t : List Rec). length t) k.1 ∙ ap suc (length-insert r l))
    (insert-cons r x l)

pub count-insert : (u : ℕ) (r : Rec) (l : List Rec) → count u (insert r l) ≡ count u (r ∷ l)
count-insert u r [] = ap (count u) (insert-nil r)
count-insert u r (x ∷ l) =
    ⊎_elim
    (λ k. ap (count u) k.1)
    (λ k.
    ap (count u) k.1
    ∙ omega (arith, count-insert u r l, count_plus u x (insert r l), count_plus u r l, count_plus u r (x ∷ l), count_plus u x l))
    (insert-cons r x l)

-- what ranks above all goes last
pub insert_last : (l : List Rec) (r : Rec) → ((s : Rec) → Has s l → rank s < rank r) → insert r l ≡ l ++ (r ∷ [])
insert_last [] r h = insert-nil r
insert_last (x ∷ l) r h =
    ⊎_elim
    (λ k. absurd (omega (arith, h x (inl refl), k.0)))
    (λ k. k.1 ∙ ap (λ (t : List Rec). x ∷ t) (insert_last l r (λ s i. h s (inr i))))
    (insert-cons r x l)

-- ---- the place of a record that may join

-- if r ranks below all of l, what it saw stands before
early : (base : List ℕ) (pre l : List Rec) (r : Rec) → SoundAfter base pre l → Joins base pre l r → ((s : Rec) → Has s l → rank r < rank s) → (u : ℕ) → u < 8 → seen r u ≤ count_on base u pre
early base pre l r h j low u k =
    ⊎_elim
    (λ e.
    let (s, m, a, b) = find base pre l u (seen r u) h e (j.within u k) in
    let q : num s ≡ seen r (unit s) = b ∙ ap (seen r) (sym a) in
    let w : rank s < rank r = lower s r (formed_on base pre l s h m) q (j.closed s (inr m) q) in
    absurd (omega (arith, low s m)))
    (λ e. e)
    (lt_or_ge (count_on base u pre) (seen r u))

-- what stands before gets r besides
record Wider (r : Rec) (pre wide : List Rec) : Type 0 where
  others : (u : ℕ) → (unit r ≡ u → ⊥) → count u wide ≡ count u pre
  more : (u : ℕ) → count u pre ≤ count u wide
  members : (s : Rec) → Has s wide → (s ≡ r) ⊎ Has s pre

wider_one : (r : Rec) (pre : List Rec) → Wider r pre (r ∷ pre)
wider_one r pre =
    record {
      others = λ u d. count_other u r pre d;
      more = λ u. omega (arith, count_plus u r pre);
      members = λ s m. m;
    }

wider_cons : (r : Rec) (pre wide : List Rec) (x : Rec) → Wider r pre wide → Wider r (x ∷ pre) (x ∷ wide)
wider_cons r pre wide x w =
    record {
      others = λ u d. omega (arith, w.others u d, count_plus u x pre, count_plus u x wide);
      more = λ u. omega (arith, w.more u, count_plus u x pre, count_plus u x wide);
      members = mem;
    }
  where
    mem : (s : Rec) → Has s (x ∷ wide) → (s ≡ r) ⊎ Has s (x ∷ pre)
    mem s (inl e) = inr (inl e)
    mem s (inr m) = ⊎_elim (λ e. inl e) (λ i. inr (inr i)) (w.members s m)

-- what comes after is sound still
widen : (base : List ℕ) (r : Rec) (pre wide l : List Rec) → unit r < 8 → Wider r pre wide → SoundAfter base pre l → count_on base (unit r) pre < num r → count (unit r) l ≡ 0
    → ((s : Rec) → Has s l → rank r < rank s) → SoundAfter base wide l
widen base r pre wide [] b8 w h n z low = tt
widen base r pre wide (x ∷ l) b8 w h n z low = (
  record {
    formed = h.0.formed;
    next = omega (arith, h.0.next, w.others (unit x) away);
    within = λ u k. omega (arith, h.0.within u k, w.more u);
    closed = λ s m e. ⊎_elim (λ q. absurd (last s q e)) (λ i. h.0.closed s i e) (w.members s m);
    above = λ s m. ⊎_elim (λ q. rw q (low x (inl refl))) (λ i. h.0.above s i) (w.members s m);
  },
  widen base r (x ∷ pre) (x ∷ wide) l b8 (wider_cons r pre wide x w) h.1 (omega (arith, count_other (unit r) x pre (λ e. away (sym e)))) none
      (λ s m. low s (inr m)),
)
  where
    away : unit r ≡ unit x → ⊥
    away e = ⊎_elim (λ a. omega arith) (λ a. a.0 (sym e)) (count-cons (unit r) x l)

    none : count (unit r) l ≡ 0
    none = omega (arith, count_other (unit r) x l (λ e. away (sym e)))

    last : (s : Rec) → s ≡ r → num s ≡ seen x (unit s) → ⊥
    last s q e =
        let e' : num r ≡ seen x (unit r) = subst (λ (t : Rec). num t ≡ seen x (unit t)) q e in
        omega (arith, h.0.within (unit r) b8)

-- r before all of l
first : (base : List ℕ) (pre l : List Rec) (r : Rec) → SoundAfter base pre l → Joins base pre l r → ((s : Rec) → Has s pre → rank s < rank r)
    → ((s : Rec) → Has s l → rank r < rank s) → SoundAfter base pre (r ∷ l)
first base pre l r h j up low =
    let b8 = well_unit r j.formed in
    let e = early base pre l r h j low in
    let n : count (unit r) l ≡ 0 = omega (arith, e (unit r) b8, j.next, well_own r j.formed) in
    let m : num r ≡ suc (count_on base (unit r) pre) = omega (arith, j.next) in (
      record { formed = j.formed; next = m; within = e; closed = λ s i. j.closed s (inl i); above = up },
      widen base r pre (r ∷ pre) l b8 (wider_one r pre) h (omega arith) n low,
    )

-- no held record has r's rank
apart : (base : List ℕ) (pre l : List Rec) (x r : Rec) → SoundAfter base pre (x ∷ l) → Joins base pre (x ∷ l) r → rank x ≤ rank r → rank x < rank r
apart base pre l x r h j le =
    ⊎_elim
    (λ e. e)
    (λ e.
    let q : unit x ≡ unit r = rank-unit x r (well_unit x h.0.formed) (well_unit r j.formed) (omega arith) in
    ⊎_elim
    (λ n.
    let c : num x ≡ seen r (unit x) = n ∙ ap (seen r) (sym q) in
    lower x r h.0.formed c (j.closed x (inr (inl refl)) c))
    (λ n. between q n)
    (eq_or_ne (num x) (seen r (unit r))))
    (lt_or_ge (rank x) (rank r))
  where
    between : unit x ≡ unit r → (num x ≡ seen r (unit r) → ⊥) → rank x < rank r
    between q n =
        let own = well_own r j.formed in
        let t : num x ≤ count_on base (unit r) pre + count (unit r) (x ∷ l) = rw q at (numbers_on base pre (x ∷ l) x h (inl refl)).1 in
        let z : num x ≡ suc (count_on base (unit r) pre) = h.0.next ∙ ap (λ (w : ℕ). suc (count_on base w pre)) q in
        let lo : count_on base (unit r) (x ∷ pre) < seen r (unit r) =
        ⊎_elim (λ a. omega (arith, j.next)) (λ a. absurd (a.0 q)) (count-cons (unit r) x pre) in
        let hi : seen r (unit r) ≤ count_on base (unit r) (x ∷ pre) + count (unit r) l = omega (arith, count_shift (unit r) x pre l, j.next) in
        let (s, m, a, b) = find base (x ∷ pre) l (unit r) (seen r (unit r)) h.1 lo hi in
        let c : num s ≡ seen r (unit s) = b ∙ ap (seen r) (sym a) in
        let y : rank s < rank r = lower s r (formed_on base (x ∷ pre) l s h.1 m) c (j.closed s (inr (inr m)) c) in
        omega (arith, above_all_on base (x ∷ pre) l x s h.1 (inl refl) m)

joins_shift : (base : List ℕ) (pre l : List Rec) (x r : Rec) → Joins base pre (x ∷ l) r → Joins base (x ∷ pre) l r
joins_shift base pre l x r j =
    record {
      formed = j.formed;
      next = omega (arith, j.next, count_shift (unit r) x pre l);
      within = λ u k. omega (arith, j.within u k, count_shift u x pre l);
      closed = λ s m. j.closed s (move s m);
    }
  where
    move : (s : Rec) → Has s (x ∷ pre) ⊎ Has s l → Has s pre ⊎ Has s (x ∷ l)
    move s (inl (inl e)) = inr (inl e)
    move s (inl (inr m)) = inl m
    move s (inr m) = inr (inr m)

insert-after : (base : List ℕ) (pre l : List Rec) (r : Rec) → SoundAfter base pre l → Joins base pre l r → ((s : Rec) → Has s pre → rank s < rank r) → SoundAfter base pre (insert r l)
insert-after base pre [] r h j up = rw (insert-nil r) (first base pre [] r h j up (λ s m. absurd m))
insert-after base pre (x ∷ l) r h j up =
    ⊎_elim
    (λ k. subst (SoundAfter base pre) (sym k.1) (first base pre (x ∷ l) r h j up (below k.0)))
    (λ k.
    subst (SoundAfter base pre) (sym k.1)
    (h.0, insert-after base (x ∷ pre) l r h.1 (joins_shift base pre l x r j) (over (apart base pre l x r h j k.0))))
    (insert-cons r x l)
  where
    below : rank r < rank x → (s : Rec) → Has s (x ∷ l) → rank r < rank s
    below e s (inl q) = rw q e
    below e s (inr m) = omega (arith, above_all_on base (x ∷ pre) l x s h.1 (inl refl) m)

    over : rank x < rank r → (s : Rec) → Has s (x ∷ pre) → rank s < rank r
    over e s (inl q) = rw q e
    over e s (inr m) = up s m

-- a record that is next, whose seen is held and closed, goes in at its rank
pub insert_sound_on : (base : List ℕ) (l : List Rec) (r : Rec) → SoundOn base l → Joins base [] l r → SoundOn base (insert r l)
insert_sound_on base l r h j = insert-after base [] l r h j (λ s m. absurd m)

-- with no record before
pub insert_sound : (l : List Rec) (r : Rec) → Sound l → Joins no_counts [] l r → Sound (insert r l)
insert_sound = insert_sound_on no_counts
