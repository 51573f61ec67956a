-- An act's record: its number, what it saw, that it ranks last, and that the log with it is sound; and when it is refused.
-- Assumes nothing.
use Prim.Native.Nat.{ℕ, suc, ◌+◌, ◌*◌, ◌≤◌, ◌<◌}
use native.Mathlib.Omega.{arith}
use mathlib.Core.Path.{◌≡◌, refl, sym, ap, ◌∙◌, subst}
use mathlib.Core.Logic.{◌⊎◌, inl, inr, ⊎_elim}
use mathlib.Core.Bool.{Bool, true, false, cond, ◌&&◌}
use mathlib.Core.List.{List, [], ◌∷◌, ◌++◌, append_assoc}
use lib.Dec.{ltb, eqb}
use lib.ListN.{get_or, length, take, drop, length-append, get_or-append}
use lib.Seq.{length-take-le, get_or-take}
use borrow.Author.Tests.{eqb-true, ltb-true, ltb-false, lt-ltb}
use Rattle.model.specs.Numbers.{malformed, stroke_in_label}
use Rattle.model.specs.Bytes.{word, two, blank, part}
use Rattle.model.specs.Vector.{vector_bytes}
use Rattle.model.specs.Record.{Rec, unit, op, num, seen, label_of, well_formed, has_stroke}
use Rattle.model.specs.Log.{rank, insert, count, count_on, vector_on}
use Rattle.model.specs.Replay.{Tree, judge, replay_from, reason_of}
use Rattle.base_model.specs.Base.{is_listed}
use Rattle.call_model.specs.Outcome.{stamped, wish_fits, wish_number, early_wish, act_number}
use Rattle.byte_slice.proofs.Numbers.{and_true, bool_cases, first_zero, first_stops}
use Rattle.byte_slice.proofs.Parts.{part-behind, part-drop}
use Rattle.byte_slice.proofs.Words.{word_at, word_front, word-behind}
use Rattle.vector.proofs.InBytes.{vector_bytes-length, vector_bytes-word}
use Rattle.log_laws.specs.Members.{Has}
use Rattle.log_laws.specs.Sound.{SoundOn, Sound, Joins}
use Rattle.log_laws.proofs.Counts.{count-nil, seen_within_on, covering_above_on}
use Rattle.log_laws.proofs.Insert.{insert_sound_on, insert_last}
use Rattle.log_laws.proofs.Tests.{vector_on_get_d}
use Rattle.take_laws.specs.Held.{Counts}
use Rattle.take_laws.proofs.Held.{shed, counts-held, sound_all}

-- ---- the wish with the next number and the held vector, field by field

module _ (u : ℕ) (v : List ℕ) (l : List Rec) (w : List ℕ) (n : length w ≡ 80) where
  two-long : length (take 2 w) ≡ 2
  two-long = length-take-le 2 w (omega arith)

  -- what stands behind the vector is the wish's own
  pub stamped_label : label_of (stamped u v l w) ≡ label_of w
  unfolding stamped label_of
  stamped_label =
      let head : List ℕ = take 2 w ++ (two (suc (count_on v u l)) ++ vector_bytes (vector_on v l)) in
      let k : length head ≡ 20 =
      omega (arith, length-append (take 2 w) (two (suc (count_on v u l)) ++ vector_bytes (vector_on v l)), two-long, vector_bytes-length (vector_on v l)) in
      let e : take 2 w ++ (two (suc (count_on v u l)) ++ (vector_bytes (vector_on v l) ++ drop 20 w)) ≡ head ++ drop 20 w =
      rw (append_assoc (take 2 w) (two (suc (count_on v u l)) ++ vector_bytes (vector_on v l)) (drop 20 w), append_assoc (two (suc (count_on v u l))) (vector_bytes (vector_on v l)) (drop 20 w)) in
      rw e ((rw k at (part-behind head (drop 20 w) 12 32)) ∙ part-drop w 20 12 32)

  pub stamped-unit : unit (stamped u v l w) ≡ get_or w 0 0
  unfolding stamped unit
  stamped-unit =
      get_or-append (take 2 w) (two (suc (count_on v u l)) ++ (vector_bytes (vector_on v l) ++ drop 20 w)) 0 0 (omega (arith, two-long)) ∙ get_or-take 2 w 0 0 (omega arith)

  pub stamped-op : op (stamped u v l w) ≡ get_or w 1 0
  unfolding stamped op
  stamped-op =
      get_or-append (take 2 w) (two (suc (count_on v u l)) ++ (vector_bytes (vector_on v l) ++ drop 20 w)) 0 1 (omega (arith, two-long)) ∙ get_or-take 2 w 1 0 (omega arith)

  -- as a plain number, 65,536 too
  pub stamped-num : num (stamped u v l w) ≡ suc (count_on v u l)
  unfolding stamped num
  stamped-num =
      ap (word (take 2 w ++ (two (suc (count_on v u l)) ++ (vector_bytes (vector_on v l) ++ drop 20 w)))) (sym two-long)
      ∙ word_at (take 2 w) (suc (count_on v u l)) (vector_bytes (vector_on v l) ++ drop 20 w)

  pub stamped-seen : (x : ℕ) → x < 8 → seen (stamped u v l w) x ≡ count_on v x l
  unfolding stamped seen
  stamped-seen x k =
      let p : List ℕ = take 2 w ++ two (suc (count_on v u l)) in
      let q : List ℕ = vector_bytes (vector_on v l) in
      let four : length p ≡ 4 = omega (arith, length-append (take 2 w) (two (suc (count_on v u l))), two-long) in
      let e : take 2 w ++ (two (suc (count_on v u l)) ++ (q ++ drop 20 w)) ≡ p ++ (q ++ drop 20 w) = sym (append_assoc (take 2 w) (two (suc (count_on v u l))) (q ++ drop 20 w)) in
      ap (λ (t : List ℕ). word t (4 + 2 * x)) e
      ∙ ap (λ (y : ℕ). word (p ++ (q ++ drop 20 w)) (y + 2 * x)) (sym four)
      ∙ word-behind p (q ++ drop 20 w) (2 * x)
      ∙ word_front q (drop 20 w) (2 * x) (omega (arith, vector_bytes-length (vector_on v l)))
      ∙ vector_bytes-word (vector_on v l) x k
      ∙ vector_on_get_d v l x k

  -- it covers the base vector
  pub act-covers : (x : ℕ) → x < 8 → get_or v x 0 ≤ seen (stamped u v l w) x
  act-covers x k = omega (arith, stamped-seen x k)

  -- it ranks above every record of the log
  pub act_last : SoundOn v l → (s : Rec) → Has s l → rank s < rank (stamped u v l w)
  act_last h = covering_above_on v l (stamped u v l w) h (λ x k. omega (arith, stamped-seen x k))

  pub act_joins : get_or w 0 0 ≡ u → well_formed (stamped u v l w) ≡ true → SoundOn v l → Joins v [] l (stamped u v l w)
  act_joins e f h =
      let r : Rec = stamped u v l w in
      let c : unit r ≡ u = stamped-unit ∙ e in
      let m : num r ≡ suc (count_on v (unit r) l) = stamped-num ∙ ap (λ (x : ℕ). suc (count_on v x l)) (sym c) in
      record {
        formed = f;
        next = omega (arith, count-nil (unit r));
        within = λ x k. omega (arith, stamped-seen x k, count-nil x);
        closed = λ s i _ x k. ⊎_elim (λ y. absurd y) (λ y. omega (arith, stamped-seen x k, seen_within_on v l s h y x k)) i;
      }

  -- so it is inserted at the end
  pub act_inserts : SoundOn v l → insert (stamped u v l w) l ≡ l ++ (stamped u v l w ∷ [])
  act_inserts h = insert_last l (stamped u v l w) (act_last h)

  pub act_sound : get_or w 0 0 ≡ u → well_formed (stamped u v l w) ≡ true → SoundOn v l → SoundOn v (l ++ (stamped u v l w ∷ []))
  act_sound e f h = subst (SoundOn v) (act_inserts h) (insert_sound_on v l (stamped u v l w) h (act_joins e f h))

  -- v counts the folded records p: the record has seen all records held, and with it they are sound
  module _ (p : List Rec) (c : Counts v p) where
    pub act_saw : (x : ℕ) → x < 8 → seen (stamped u v l w) x ≡ count x (p ++ l)
    act_saw x k = stamped-seen x k ∙ counts-held v p c l x k

    pub act-held : get_or w 0 0 ≡ u → well_formed (stamped u v l w) ≡ true → Sound (p ++ l) → Sound (p ++ (l ++ (stamped u v l w ∷ [])))
    act-held e f h =
        let below = shed v p l c h in
        subst (λ (x : List Rec). Sound (p ++ x)) (act_inserts below) (sound_all v p c l (stamped u v l w) h (act_joins e f below) act-covers)

-- ---- the checks of a wish

pub wish_fits_lem : (u : ℕ) (v : List ℕ) (l : List Rec) (w : List ℕ) → wish_fits u v l w ≡ true → (get_or w 0 0 ≡ u) × (well_formed (stamped u v l w) ≡ true)
unfolding wish_fits
wish_fits_lem u v l w e =
    let (a, b) = and_true (eqb (get_or w 0 0) u) (blank (part w 2 18) && well_formed (stamped u v l w)) e in
    let (c, d) = and_true (blank (part w 2 18)) (well_formed (stamped u v l w)) b in
    (eqb-true (get_or w 0 0) u a, d)

-- a check that answers a number, or 0 where it passes
passes : (b : Bool) (n : ℕ) → (n ≡ 0 → ⊥) → cond b 0 n ≡ 0 → b ≡ true
passes true n h e = refl
passes false n h e = absurd (h e)

stays : (b : Bool) (n : ℕ) → (n ≡ 0 → ⊥) → cond b n 0 ≡ 0 → b ≡ false
stays true n h e = absurd (h e)
stays false n h e = refl

-- a well-formed wish without a stroke passes the checks of a wish
pub wish_zero : (u : ℕ) (v : List ℕ) (l : List Rec) (w : List ℕ) → wish_number u v l w ≡ 0 → (wish_fits u v l w ≡ true) × (has_stroke (label_of w) ≡ false)
wish_zero u v l w e =
    let (a, b) = first_zero (cond (wish_fits u v l w) 0 malformed) (cond (has_stroke (label_of w)) stroke_in_label 0) e in
    (passes (wish_fits u v l w) malformed (λ z. omega arith) a, stays (has_stroke (label_of w)) stroke_in_label (λ z. omega arith) b)

-- ---- what is asked before the replay

-- the own unit is listed, the wish is well formed, its label has no stroke, a number and a place are free
pub record Free (m u : ℕ) (v : List ℕ) (l : List Rec) (w : List ℕ) : Type 0 where
  pub listed : is_listed m u ≡ true
  pub well : wish_fits u v l w ≡ true
  pub plain : has_stroke (label_of w) ≡ false
  pub numbered : count_on v u l < 65535
  pub room : length l < 512

pub free_early : (m u : ℕ) (v : List ℕ) (l : List Rec) (w : List ℕ) → Free m u v l w → early_wish m u v l w ≡ 0
unfolding early_wish
free_early m u v l w f = rw (f.listed, f.well, f.plain, lt-ltb (count_on v u l) 65535 f.numbered, lt-ltb (length l) 512 f.room)

-- one of them fails, and n is the number of the first that does: 26, 7, 24, 28, 11
abbrev pub Refused : ℕ → ℕ → List ℕ → List Rec → List ℕ → ℕ → Type 0
Refused m u v l w n =
    ((n ≡ 26) × (is_listed m u ≡ false))
    ⊎ (((n ≡ 7) × (is_listed m u ≡ true) × (wish_fits u v l w ≡ false))
    ⊎ (((n ≡ 24) × (is_listed m u ≡ true) × (wish_fits u v l w ≡ true) × (has_stroke (label_of w) ≡ true))
    ⊎ (((n ≡ 28) × (is_listed m u ≡ true) × (wish_fits u v l w ≡ true) × (has_stroke (label_of w) ≡ false) × (65535 ≤ count_on v u l))
    ⊎ ((n ≡ 11) × (is_listed m u ≡ true) × (wish_fits u v l w ≡ true) × (has_stroke (label_of w) ≡ false) × (count_on v u l < 65535) × (512 ≤ length l)))))

pub refused_elim : (P : ℕ → Type 0) → P 26 → P 7 → P 24 → P 28 → P 11 → (m u : ℕ) (v : List ℕ) (l : List Rec) (w : List ℕ) (n : ℕ) → Refused m u v l w n → P n
refused_elim P a b c d e m u v l w n (inl q) = subst P (sym q.0) a
refused_elim P a b c d e m u v l w n (inr (inl q)) = subst P (sym q.0) b
refused_elim P a b c d e m u v l w n (inr (inr (inl q))) = subst P (sym q.0) c
refused_elim P a b c d e m u v l w n (inr (inr (inr (inl q)))) = subst P (sym q.0) d
refused_elim P a b c d e m u v l w n (inr (inr (inr (inr q)))) = subst P (sym q.0) e

pub early_cases : (m u : ℕ) (v : List ℕ) (l : List Rec) (w : List ℕ) → Free m u v l w ⊎ Refused m u v l w (early_wish m u v l w)
unfolding early_wish
early_cases m u v l w = list (bool_cases (is_listed m u))
  where
    Cases : Type 0
    Cases = Free m u v l w ⊎ Refused m u v l w (early_wish m u v l w)

    room : is_listed m u ≡ true → wish_fits u v l w ≡ true → has_stroke (label_of w) ≡ false → ltb (count_on v u l) 65535 ≡ true
        → (ltb (length l) 512 ≡ true) ⊎ (ltb (length l) 512 ≡ false) → Cases
    room a b c d (inl e) = inl (record { listed = a; well = b; plain = c; numbered = ltb-true (count_on v u l) 65535 d; room = ltb-true (length l) 512 e })
    room a b c d (inr e) = inr (inr (inr (inr (inr (rw (a, b, c, d, e), a, b, c, ltb-true (count_on v u l) 65535 d, ltb-false (length l) 512 e)))))

    number : is_listed m u ≡ true → wish_fits u v l w ≡ true → has_stroke (label_of w) ≡ false
        → (ltb (count_on v u l) 65535 ≡ true) ⊎ (ltb (count_on v u l) 65535 ≡ false) → Cases
    number a b c (inl d) = room a b c d (bool_cases (ltb (length l) 512))
    number a b c (inr d) = inr (inr (inr (inr (inl (rw (a, b, c, d), a, b, c, ltb-false (count_on v u l) 65535 d)))))

    stroke : is_listed m u ≡ true → wish_fits u v l w ≡ true → (has_stroke (label_of w) ≡ true) ⊎ (has_stroke (label_of w) ≡ false) → Cases
    stroke a b (inl c) = inr (inr (inr (inl (rw (a, b, c), a, b, c))))
    stroke a b (inr c) = number a b c (bool_cases (ltb (count_on v u l) 65535))

    form : is_listed m u ≡ true → (wish_fits u v l w ≡ true) ⊎ (wish_fits u v l w ≡ false) → Cases
    form a (inl b) = stroke a b (bool_cases (has_stroke (label_of w)))
    form a (inr b) = inr (inr (inl (rw (a, b), a, b)))

    list : (is_listed m u ≡ true) ⊎ (is_listed m u ≡ false) → Cases
    list (inl a) = form a (bool_cases (wish_fits u v l w))
    list (inr a) = inr (inl (rw a, a))

-- what an act answers: of a wish that fails nothing the reason, of any other the first number
pub act_numbers : (m u : ℕ) (v : List ℕ) (t : Tree) (l : List Rec) (w : List ℕ)
    → (Free m u v l w × (act_number m u v t l w ≡ reason_of (judge (stamped u v l w) (replay_from t l)))) ⊎ Refused m u v l w (act_number m u v t l w)
unfolding act_number
act_numbers m u v t l w =
    ⊎_elim
    (λ f. inl (f, rw (free_early m u v l w f)))
    (λ (q : Refused m u v l w (early_wish m u v l w)).
    inr (subst (Refused m u v l w) (sym (first_stops (early_wish m u v l w) (reason_of (judge (stamped u v l w) (replay_from t l))) (refused_some m u v l w (early_wish m u v l w) q))) q))
    (early_cases m u v l w)
  where
    refused_some : (m u : ℕ) (v : List ℕ) (l : List Rec) (w : List ℕ) (n : ℕ) → Refused m u v l w n → n ≡ 0 → ⊥
    refused_some = refused_elim (λ (n : ℕ). n ≡ 0 → ⊥) (λ e. omega arith) (λ e. omega arith) (λ e. omega arith) (λ e. omega arith) (λ e. omega arith)

-- 0 means that nothing fails
pub act_zero : (m u : ℕ) (v : List ℕ) (t : Tree) (l : List Rec) (w : List ℕ) → act_number m u v t l w ≡ 0 → Free m u v l w
act_zero m u v t l w e =
    ⊎_elim
    (λ a. a.0)
    (λ a. absurd (refused_elim (λ (n : ℕ). n ≡ 0 → ⊥) (λ e. omega arith) (λ e. omega arith) (λ e. omega arith) (λ e. omega arith) (λ e. omega arith) m u v l w (act_number m u v t l w) a e))
    (act_numbers m u v t l w)
