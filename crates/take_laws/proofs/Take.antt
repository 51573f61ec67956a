-- What an accepted take leaves behind a base: a sound log with the block's records, but for those that are folded.
-- Assumes nothing.
use Prim.Native.Nat.{ℕ, ◌≤◌, ◌<◌}
use native.Mathlib.Omega.{arith}
use mathlib.Core.Path.{◌≡◌, refl, sym, ◌∙◌}
use mathlib.Core.Logic.{◌⊎◌, inl, inr, ⊎_elim}
use mathlib.Core.Bool.{Bool, true, false, cond, ◌&&◌}
use mathlib.Core.Option.{Option, none, some}
use mathlib.Core.List.{List, [], ◌∷◌}
use lib.Dec.{ltb}
use lib.ListN.{get_or, length}
use borrow.Author.Tests.{ltb-true, lt-ltb, le-leb, lt-leb, leb-true}
use Rattle.model.specs.Numbers.{malformed, not_next, not_closed, other_bytes, full_log, unlisted, below_base}
use Rattle.model.specs.Bytes.{same_bytes}
use Rattle.model.specs.Vector.{covers}
use Rattle.model.specs.Record.{Rec, unit, num, seen, seen_vector, well_formed}
use Rattle.model.specs.Log.{insert, no_counts, by_id, is_next, is_within, is_closed}
use Rattle.base_model.specs.Base.{is_listed}
use Rattle.call_model.specs.Outcome.{Took, refused, taken, take_new, take_held, is_folded, take_one, takes_all}
use Rattle.byte_slice.proofs.Numbers.{and_true, bool_cases}
use Rattle.byte_slice.proofs.Compare.{same_eq, same_refl}
use Rattle.vector.proofs.Dominance.{covers_at, all_covers}
use Rattle.log_laws.specs.Members.{Has, Sub}
use Rattle.log_laws.specs.Sound.{SoundAfter, SoundOn, Sound, Joins}
use Rattle.log_laws.proofs.Counts.{count-nil, formed_on, numbers_on}
use Rattle.log_laws.proofs.Insert.{insert_sound_on, has_insert, insert_has, length-insert}
use Rattle.log_laws.proofs.Same.{unique_on}
use Rattle.log_laws.proofs.Ids.{by_id_some, held_by_id_on}
use Rattle.log_laws.proofs.Tests.{seen_vector_get_d, next_test_on, next_from_on, within_test_on, within_from_on, closed_test_on, closed_from}

-- ---- a refusal is no success

pub refused_taken {ℓ} : {A : Type ℓ} {n : ℕ} {m : List Rec} → refused n ≡ taken m → A
refused_taken e = absurd (let z : ◌≡◌ {A = ℕ} 0 1 = cc in omega arith)

pub taken_same : {l m : List Rec} → taken l ≡ taken m → l ≡ m
taken_same e = cc

-- a check that did not refuse
pub passed : (b : Bool) (x : Took) (n : ℕ) (m : List Rec) → cond b x (refused n) ≡ taken m → (b ≡ true) × (x ≡ taken m)
passed true x n m e = (refl, e)
passed false x n m e = refused_taken e

-- ---- records that are folded, and those of the log

pub folded_within : (v : List ℕ) (r : Rec) → is_folded v r ≡ true → num r ≤ get_or v (unit r) 0
unfolding is_folded
folded_within v r e = leb-true (num r) (get_or v (unit r) 0) e

pub within_folded : (v : List ℕ) (r : Rec) → num r ≤ get_or v (unit r) 0 → is_folded v r ≡ true
unfolding is_folded
within_folded v r h = le-leb (num r) (get_or v (unit r) 0) h

pub beyond_folded : (v : List ℕ) (r : Rec) → get_or v (unit r) 0 < num r → is_folded v r ≡ false
unfolding is_folded
beyond_folded v r h = lt-leb (num r) (get_or v (unit r) 0) h

-- records on a base stand above it
pub above_base : (v : List ℕ) (pre l : List Rec) (s : Rec) → SoundAfter v pre l → Has s l → get_or v (unit s) 0 < num s
above_base v pre l s h i = omega (arith, (numbers_on v pre l s h i).0)

-- ---- a record that may join, by test

pub joins_from_on : (base : List ℕ) (l : List Rec) (r : Rec) → SoundOn base l → well_formed r ≡ true
    → is_next base l r ≡ true → is_within base l r ≡ true → is_closed base l r ≡ true → Joins base [] l r
joins_from_on base l r h f p q c =
    record {
      formed = f;
      next = omega (arith, next_from_on base l r p, count-nil (unit r));
      within = λ u k. omega (arith, within_from_on base l r q u k, count-nil u);
      closed = λ s i n. ⊎_elim (λ x. absurd x) (λ x. closed_from base l r (unique_on base [] l h) (λ t j. formed_on base [] l t h j) (λ t j. above_base base [] l t h j) c s x n) i;
    }

pub joins_from : (l : List Rec) (r : Rec) → Sound l → well_formed r ≡ true
    → is_next no_counts l r ≡ true → is_within no_counts l r ≡ true → is_closed no_counts l r ≡ true → Joins no_counts [] l r
joins_from = joins_from_on no_counts

-- ---- one record

-- the record r, whose seen covers the base vector, is new and was laid in
pub record New (v : List ℕ) (l : List Rec) (r : Rec) (k : List Rec) : Type 0 where
  pub inserted : k ≡ insert r l
  pub joins : Joins v [] l r
  pub covering : (u : ℕ) → u < 8 → get_or v u 0 ≤ seen r u
  pub room : length l < 512

pub new_from_lem : (v : List ℕ) (l : List Rec) (r : Rec) (k : List Rec) → SoundOn v l → well_formed r ≡ true → take_new v l r ≡ taken k → New v l r k
unfolding take_new
new_from_lem v l r k h f e =
    let last : Took = cond (ltb (length l) 512) (taken (insert r l)) (refused full_log) in
    let shut : Took = cond (is_closed v l r) last (refused not_closed) in
    let over : Took = cond (covers (seen_vector r) v) shut (refused below_base) in
    let (a, e₁) = passed (is_next v l r && is_within v l r) over not_next k e in
    let (b, e₂) = passed (covers (seen_vector r) v) shut below_base k e₁ in
    let (c, e₃) = passed (is_closed v l r) last not_closed k e₂ in
    let (d, e₄) = passed (ltb (length l) 512) (taken (insert r l)) full_log k e₃ in
    let (p, q) = and_true (is_next v l r) (is_within v l r) a in
    record {
      inserted = sym (taken_same e₄);
      joins = joins_from_on v l r h f p q c;
      covering = λ u j. omega (arith, seen_vector_get_d r u j, covers_at (seen_vector r) v b u j);
      room = ltb-true (length l) 512 d;
    }

-- the record r was folded or held, and nothing changed
abbrev pub Known : List ℕ → List Rec → Rec → List Rec → Type 0
Known v l r k = (k ≡ l) × ((is_folded v r ≡ true) ⊎ Has r l)

-- a record that is taken is well formed, and its unit is listed
pub one_fits : (m : ℕ) (v : List ℕ) (l : List Rec) (r : Rec) (k : List Rec) → take_one m v l r ≡ taken k → (well_formed r ≡ true) × (is_listed m (unit r) ≡ true)
unfolding take_one
one_fits m v l r k e =
    let one : Took = cond (is_folded v r) (taken l) (take_held v (by_id (unit r) (num r) l) l r) in
    let (f, e₁) = passed (well_formed r) (cond (is_listed m (unit r)) one (refused unlisted)) malformed k e in
    (f, (passed (is_listed m (unit r)) one unlisted k e₁).0)

-- it was folded or held, or it is new
pub one_from : (m : ℕ) (v : List ℕ) (l : List Rec) (r : Rec) (k : List Rec) → SoundOn v l → take_one m v l r ≡ taken k → Known v l r k ⊎ New v l r k
unfolding take_one take_held
one_from m v l r k h e =
    let (f, g) = one_fits m v l r k e in
    ⊎_elim
    (λ (a : is_folded v r ≡ true). inl (sym (taken_same (rw (f, g, a) at e)), inl a))
    (λ (a : is_folded v r ≡ false). held f (by_id (unit r) (num r) l) refl (rw (f, g, a) at e))
    (bool_cases (is_folded v r))
  where
    held : well_formed r ≡ true → (o : Option Rec) → by_id (unit r) (num r) l ≡ o → take_held v o l r ≡ taken k → Known v l r k ⊎ New v l r k
    held f none q d = inr (new_from_lem v l r k h f d)
    held f (some s) q d =
        let (b, d₁) = passed (same_bytes s r) (taken l) other_bytes k d in
        let (i, _, _) = by_id_some (unit r) (num r) l s q in
        inl (sym (taken_same d₁), inr (rw (sym (same_eq s r b)) i))

-- ---- and the other way round

-- a record of a unit that is not listed is refused
pub take-unlisted : (m : ℕ) (v : List ℕ) (l : List Rec) (r : Rec) → well_formed r ≡ true → is_listed m (unit r) ≡ false → take_one m v l r ≡ refused unlisted
unfolding take_one
take-unlisted m v l r f a = rw (f, a)

module _ (m : ℕ) (v : List ℕ) (l : List Rec) (r : Rec) (formed : well_formed r ≡ true) (listed : is_listed m (unit r) ≡ true) where
  -- a folded record is passed over
  pub take-folded : is_folded v r ≡ true → take_one m v l r ≡ taken l
  unfolding take_one
  take-folded a = rw (formed, listed, a)

  pub take-held : is_folded v r ≡ false → by_id (unit r) (num r) l ≡ some r → take_one m v l r ≡ taken l
  unfolding take_one take_held
  take-held a e = rw (formed, listed, a, e, same_refl r)

  -- a new one, next and within, that does not cover the base vector is below the base
  pub take_below : is_folded v r ≡ false → by_id (unit r) (num r) l ≡ none → is_next v l r ≡ true → is_within v l r ≡ true → covers (seen_vector r) v ≡ false → take_one m v l r ≡ refused below_base
  unfolding take_one take_held take_new
  take_below a e n i c = rw (formed, listed, a, e, n, i, c)

-- a record that may join, and covers the base vector, is taken
pub take_new_lem : (m : ℕ) (v : List ℕ) (l : List Rec) (r : Rec) → is_listed m (unit r) ≡ true → by_id (unit r) (num r) l ≡ none → Joins v [] l r
    → ((u : ℕ) → u < 8 → get_or v u 0 ≤ seen r u) → length l < 512 → take_one m v l r ≡ taken (insert r l)
unfolding take_one take_held take_new
take_new_lem m v l r a e j c k =
    rw (
      j.formed,
      a,
      beyond_folded v r (omega (arith, j.next)),
      e,
      next_test_on v l r (omega (arith, j.next, count-nil (unit r))),
      within_test_on v l r (λ u b. omega (arith, j.within u b, count-nil u)),
      all_covers (seen_vector r) v (λ u n. omega (arith, seen_vector_get_d r u n, c u n)),
      closed_test_on v l r (λ s i. j.closed s (inr i)),
      lt-ltb (length l) 512 k,
    )

-- ---- one after another

pub take_all-nil : (m : ℕ) (v : List ℕ) (l : List Rec) → takes_all m v l [] ≡ taken l
unfolding takes_all
take_all-nil m v l = refl

pub take_all_goes : (m : ℕ) (v : List ℕ) (l : List Rec) (r : Rec) (rs k : List Rec) → take_one m v l r ≡ taken k → takes_all m v l (r ∷ rs) ≡ takes_all m v k rs
unfolding takes_all
take_all_goes m v l r rs k e = rw (e, takes_all)

pub take_all_stops : (m : ℕ) (v : List ℕ) (l : List Rec) (r : Rec) (rs : List Rec) (n : ℕ) → take_one m v l r ≡ refused n → takes_all m v l (r ∷ rs) ≡ refused n
unfolding takes_all
take_all_stops m v l r rs n e = rw (e, takes_all)

-- k is l with the records rs that are not folded, and sound; the records rs are well formed, and the list m names their units
pub record Grown (m : ℕ) (v : List ℕ) (l rs k : List Rec) : Type 0 where
  pub sound : SoundOn v k
  pub from : (s : Rec) → Has s k → Has s l ⊎ Has s rs
  pub kept : Sub l k
  pub got : (s : Rec) → Has s rs → Has s k ⊎ (is_folded v s ≡ true)
  pub fit : (s : Rec) → Has s rs → (well_formed s ≡ true) × (is_listed m (unit s) ≡ true)
  pub room : length l ≤ 512 → length k ≤ 512

grown_one : (m : ℕ) (v : List ℕ) (l : List Rec) (r : Rec) (k : List Rec) → SoundOn v l → (well_formed r ≡ true) × (is_listed m (unit r) ≡ true) → Known v l r k ⊎ New v l r k → Grown m v l (r ∷ []) k
grown_one m v l r k h f (inl (e, i)) =
    record {
      sound = rw e h;
      from = λ s j. inl (rw e at j);
      kept = λ s j. rw e j;
      got = λ s j. ⊎_elim (λ (q : s ≡ r). rw (e, q) (⊎_elim (λ a. inr a) (λ a. inl a) i)) (λ q. absurd q) j;
      fit = λ s j. ⊎_elim (λ (q : s ≡ r). rw q f) (λ q. absurd q) j;
      room = λ n. rw e n;
    }
grown_one m v l r k h f (inr n) =
    let e = n.inserted in
    record {
      sound = rw e (insert_sound_on v l r h n.joins);
      from = λ s i. ⊎_elim (λ q. inr (inl q)) (λ q. inl q) (has_insert r l s (rw e at i));
      kept = λ s i. rw e (insert_has r l s (inr i));
      got = λ s i. inl (rw e (insert_has r l s (⊎_elim (λ q. inl q) (λ q. absurd q) i)));
      fit = λ s j. ⊎_elim (λ (q : s ≡ r). rw q f) (λ q. absurd q) j;
      room = λ _. rw (e, length-insert r l) n.room;
    }

pub all_from : (m : ℕ) (v : List ℕ) (rs l k : List Rec) → SoundOn v l → takes_all m v l rs ≡ taken k → Grown m v l rs k
all_from m v [] l k h e =
    let q : k ≡ l = sym (taken_same (sym (take_all-nil m v l) ∙ e)) in
    record {
      sound = rw q h;
      from = λ s i. inl (rw q at i);
      kept = λ s i. rw q i;
      got = λ s i. absurd i;
      fit = λ s i. absurd i;
      room = λ n. rw q n;
    }
all_from m v (r ∷ rs) l k h e = go (take_one m v l r) refl (λ x hx ex. all_from m v rs x k hx ex)
  where
    go : (o : Took) → take_one m v l r ≡ o → ((x : List Rec) → SoundOn v x → takes_all m v x rs ≡ taken k → Grown m v x rs k) → Grown m v l (r ∷ rs) k
    go (refused n) q f = refused_taken (sym (take_all_stops m v l r rs n q) ∙ e)
    go (taken x) q f =
        let g = grown_one m v l r x h (one_fits m v l r x q) (one_from m v l r x h q) in
        let d = f x g.sound (sym (take_all_goes m v l r rs x q) ∙ e) in
        record {
          sound = d.sound;
          from = λ s i. ⊎_elim (λ j. ⊎_elim (λ a. inl a) (λ a. ⊎_elim (λ b. inr (inl b)) (λ b. absurd b) a) (g.from s j)) (λ j. inr (inr j)) (d.from s i);
          kept = λ s i. d.kept s (g.kept s i);
          got = λ s i. ⊎_elim (λ j. ⊎_elim (λ a. inl (d.kept s a)) (λ a. inr a) (g.got s (inl j))) (λ j. d.got s j) i;
          fit = λ s i. ⊎_elim (λ j. g.fit s (inl j)) (λ j. d.fit s j) i;
          room = λ b. d.room (g.room b);
        }

-- records that are held or folded are taken again, and nothing changes
pub take_again : (m : ℕ) (v : List ℕ) (rs k : List Rec) → SoundOn v k → ((s : Rec) → Has s rs → (well_formed s ≡ true) × (is_listed m (unit s) ≡ true))
    → ((s : Rec) → Has s rs → Has s k ⊎ (is_folded v s ≡ true)) → takes_all m v k rs ≡ taken k
take_again m v [] k h f g = take_all-nil m v k
take_again m v (r ∷ rs) k h f g =
    take_all_goes m v k r rs k one ∙ take_again m v rs k h (λ s j. f s (inr j)) (λ s j. g s (inr j))
  where
    one : take_one m v k r ≡ taken k
    one =
        let (a, b) = f r (inl refl) in
        ⊎_elim
        (λ i. take-held m v k r a b (beyond_folded v r (above_base v [] k r h i)) (held_by_id_on v k r h i))
        (λ i. take-folded m v k r a b i)
        (g r (inl refl))

-- a block that was taken is taken again
pub taken_again : (m : ℕ) (v : List ℕ) (rs l k : List Rec) → SoundOn v l → takes_all m v l rs ≡ taken k → takes_all m v k rs ≡ taken k
taken_again m v rs l k h e = let g = all_from m v rs l k h e in take_again m v rs k g.sound g.fit g.got
