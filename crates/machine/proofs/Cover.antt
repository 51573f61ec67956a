-- Records of one log, taken one after another by a unit with a base: if the lacked ones first come in rising rank and none is missing,
-- each is taken, and in the end the taker covers the log.
-- Assumes nothing.
use Prim.Native.Nat.{ℕ, ◌+◌, ◌≤◌, ◌<◌, max}
use native.Mathlib.Omega.{arith}
use mathlib.Core.Path.{◌≡◌, refl, ap, ◌∙◌, subst}
use mathlib.Core.Logic.{inr, ⊎_elim}
use mathlib.Core.Bool.{true}
use mathlib.Core.List.{List, [], ◌∷◌, ◌++◌}
use lib.ListN.{get_or, length, length-append}
use Rattle.model.specs.Record.{Rec, unit, num, seen, well_formed}
use Rattle.model.specs.Log.{sum_to, insert, count}
use Rattle.base_model.specs.Base.{is_listed}
use Rattle.call_model.specs.Outcome.{taken, take_one, takes_all}
use Rattle.log_laws.specs.Members.{Has, Sub, Agree}
use Rattle.log_laws.specs.Sound.{Sound, Joins}
use Rattle.log_laws.proofs.Formed.{well_unit}
use Rattle.log_laws.proofs.Members.{has_append, append_has}
use Rattle.log_laws.proofs.Counts.{count-nil, no_counts_lem, count-append, sound_front, number_held}
use Rattle.log_laws.proofs.Insert.{insert_has, length-insert}
use Rattle.log_laws.proofs.Ids.{none-by_id, agree_by_id}
use Rattle.log_laws.proofs.Same.{unique}
use Rattle.take_laws.specs.Held.{Counts}
use Rattle.take_laws.proofs.Take.{within_folded, beyond_folded, above_base, take_new_lem, take-folded, take-held, take_all-nil, take_all_goes}
use Rattle.take_laws.proofs.Held.{shed, insert_all_lem}
use Rattle.machine.proofs.Ways as Ways

-- A: all records of the first; B₀: all that the taker holds at the point; used: records that agree, A's among them; m, v, p: the
-- taker's list, its base vector and the records that it has folded
module _ (A B₀ used : List Rec) (s_a : Sound A) (agree : Agree used used) (in_a : Sub A used) (m : ℕ) (v : List ℕ) (p : List Rec) (c : Counts v p)
    (listed : (r : Rec) → Has r A → is_listed m (unit r) ≡ true)
    (over : (r : Rec) → Has r A → (Has r B₀ → ⊥) → (u : ℕ) → u < 8 → get_or v u 0 ≤ seen r u)
    (fit : sum_to 8 (λ u. max (count u A) (count u B₀)) ≤ 512 + length p) where
  abbrev W : List Rec → List Rec → List Rec → Type 0
  W = Ways.Way A B₀ used s_a agree in_a

  -- l: the taker's log; acc: what it holds as `firsts` gathers it; rs: what is still to be taken
  pub record Way (l acc rs : List Rec) : Type 0 where
    pub way : W (p ++ l) acc rs
    pub kept : Sub B₀ (p ++ l)

  module _ (l acc : List Rec) (r : Rec) (rs : List Rec) (w : Way l acc (r ∷ rs)) where
    abbrev B : List Rec
    B = p ++ l

    i : Has r A
    i = Ways.passed A B₀ used s_a agree in_a B acc r rs w.way

    fr : well_formed r ≡ true
    fr = Ways.well A B₀ used s_a agree in_a B acc r rs w.way

    -- r is new
    module _ (new : (t : Rec) → Has t B → unit t ≡ unit r → num t ≡ num r → ⊥) where
      -- it joins what is held, and covers the base
      joins_on : Joins v [] l r
      joins_on =
          let j = Ways.joins A B₀ used s_a agree in_a B acc r rs w.way new in
          record {
            formed = fr;
            next = omega (arith, j.next, count-nil (unit r), no_counts_lem (unit r), count-append (unit r) p l, c (unit r) (well_unit r fr));
            within = λ u k. omega (arith, j.within u k, count-nil u, no_counts_lem u, count-append u p l, c u k);
            closed = λ s h n u k. ⊎_elim (λ x. absurd x) (λ x. j.closed s (inr (append_has p l s (inr x))) n u k) h;
          }

      covering : (u : ℕ) → u < 8 → get_or v u 0 ≤ seen r u
      covering = over r i (λ h. new r (w.kept r h) refl refl)

      turned : insert r (p ++ l) ≡ p ++ insert r l
      turned = insert_all_lem v p c l r w.way.sound joins_on covering

      free : length l < 512
      free =
          omega (
            arith,
            Ways.room_one A B₀ used s_a agree in_a B acc r rs w.way new,
            ap (λ (x : List Rec). length x) turned,
            length-append p (insert r l),
            length-insert r l,
          )

      way_new : (take_one m v l r ≡ taken (insert r l)) × Way (insert r l) (r ∷ acc) rs
      way_new = (
        take_new_lem m v l r (listed r i) (none-by_id (unit r) (num r) l (λ t h. new t (append_has p l t (inr h)))) joins_on covering free,
        record {
          way = subst (λ (x : List Rec). W x (r ∷ acc) rs) turned (Ways.way_put A B₀ used s_a agree in_a B acc r rs w.way new);
          kept = λ x h. subst (Has x) turned (insert_has r B x (inr (w.kept x h)));
        },
      )

    -- r is held, folded or not
    way_held : Has r B → (take_one m v l r ≡ taken l) × Way l acc rs
    way_held h = (
      ⊎_elim
          (λ q. take-folded m v l r fr (listed r i) (within_folded v r (omega (arith, number_held p r (sound_front [] p l w.way.sound) q, c (unit r) (well_unit r fr)))))
          (λ q. take-held m v l r fr (listed r i) (beyond_folded v r (above_base v [] l r (shed v p l c w.way.sound) q))
          (agree_by_id l r (λ x y a b. unique [] B w.way.sound x y (append_has p l x (inr a)) (append_has p l y (inr b))) q))
          (has_append p l r h),
      record { way = Ways.way_pass A B₀ used s_a agree in_a B acc r rs w.way h; kept = w.kept },
    )

    -- one record
    pub way_one : (k : List Rec) × (acc' : List Rec) × (take_one m v l r ≡ taken k) × Way k acc' rs
    way_one =
        ⊎_elim
        (λ h. let (x, q) = way_held h in (l, acc, x, q))
        (λ d. let (x, q) = way_new d in (insert r l, r ∷ acc, x, q))
        (Ways.way_cases A B₀ used s_a agree in_a B acc r rs w.way)

  -- a block
  pub way_all : (bs rest l acc : List Rec) → Way l acc (bs ++ rest) → (k : List Rec) × (acc' : List Rec) × (takes_all m v l bs ≡ taken k) × Way k acc' rest
  way_all [] rest l acc w = (l, acc, take_all-nil m v l, w)
  way_all (r ∷ bs) rest l acc w =
      let (x, acc₁, e, w₁) = way_one l acc r (bs ++ rest) w in
      let (k, acc₂, f, w₂) = way_all bs rest x acc₁ w₁ in
      (k, acc₂, take_all_goes m v l r bs x e ∙ f, w₂)

  -- all is taken: the taker covers
  pub way_end : (l acc : List Rec) → Way l acc [] → (u : ℕ) → count u A ≤ count u (p ++ l)
  way_end l acc w = Ways.way_end A B₀ used s_a agree in_a (p ++ l) acc w.way
