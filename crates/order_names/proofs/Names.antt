-- Names in bytes, and marks.
-- Assumes nothing.
use Prim.Native.Nat.{ℕ, suc, ◌+◌, ◌-◌, ◌*◌, ◌≤◌, ◌<◌}
use native.Mathlib.Omega.{arith}
use mathlib.Core.Path.{◌≡◌, refl, sym, ap, ◌∙◌, subst}
use mathlib.Core.Bool.{Bool, true, false, cond, ◌&&◌}
use mathlib.Core.List.{List, [], ◌∷◌}
use lib.Dec.{leb, eqb}
use lib.ListN.{get_or, length, take, drop, set, length-take, length-drop}
use borrow.Author.Tests.{eq-eqb, ne_eqb, le-leb, lt-leb}
use Rattle.model.specs.Bytes.{word, part}
use Rattle.model.specs.Record.{identity, unit_of, number_of}
use Rattle.byte_slice.proofs.Numbers.{true_and, and_wrong}
use Rattle.byte_slice.proofs.Parts.{part_is, part_length, get_d_part}
use Rattle.log_closure.specs.Tables.{slot_of, position_of}
use Rattle.log_check.specs.Places.{offset_of, laid_at}
use Rattle.order_model.specs.Order.{name_in, name_at, names_from, name_count}
use Rattle.order_laws.specs.Marking.{is_ours, mark_slot, is_new, marks_all}
use Rattle.order_names.specs.Named.{place_named, named_at, Named}

-- ---- names

four-at : (b : List ℕ) (i j : ℕ) → j < 4 → get_or (part b (4 * i) 4) j 0 ≡ get_or b (4 * i + j) 0
four-at b i j h = get_d_part b (4 * i) 4 j h

four_first : (b : List ℕ) (i : ℕ) → get_or (part b (4 * i) 4) 0 0 ≡ get_or b (4 * i) 0
four_first b i = four-at b i 0 (omega arith) ∙ ap (λ (x : ℕ). get_or b x 0) (let e : 4 * i + 0 ≡ 4 * i = omega arith in e)

short_part : (b : List ℕ) (at : ℕ) → length b - at < 4 → length (part b at 4) ≡ 4 → ⊥
unfolding part
short_part b at h e = omega (arith, length-take 4 (drop at b), length-drop at b)

pub name_short : (b : List ℕ) (i : ℕ) → length b - 4 * i < 4 → 0 ≡ name_at b i
unfolding name_at name_in
name_short b i h = rw (ne_eqb (length (part b (4 * i) 4)) 4 (short_part b (4 * i) h))

pub name-unit : (b : List ℕ) (i : ℕ) → 7 < get_or b (4 * i) 0 → 0 ≡ name_at b i
unfolding name_at name_in
name-unit b i h =
    rw (lt-leb (get_or (part b (4 * i) 4) 0 0) 7 (omega (arith, four_first b i)), and_wrong (eqb (length (part b (4 * i) 4)) 4))

pub name_set : (b : List ℕ) (i : ℕ) → (get_or b (4 * i + 1) 0 ≡ 0 → ⊥) → 0 ≡ name_at b i
unfolding name_at name_in
name_set b i d =
    rw (
      ne_eqb (get_or (part b (4 * i) 4) 1 0) 0 (λ e. d (sym (four-at b i 1 (omega arith)) ∙ e)),
      and_wrong (leb (get_or (part b (4 * i) 4) 0 0) 7),
      and_wrong (eqb (length (part b (4 * i) 4)) 4),
    )

pub name-whole : (b : List ℕ) (i : ℕ) → 4 * i + 4 ≤ length b → get_or b (4 * i) 0 ≤ 7 → get_or b (4 * i + 1) 0 ≡ 0 → 8 * word b (4 * i + 2) + get_or b (4 * i) 0 ≡ name_at b i
unfolding name_at name_in identity word
name-whole b i n u z =
    let p = part b (4 * i) 4 in
    rw (
      eq-eqb (length p) 4 (part_length b (4 * i) 4 n),
      le-leb (get_or p 0 0) 7 (omega (arith, four_first b i)),
      eq-eqb (get_or p 1 0) 0 (four-at b i 1 (omega arith) ∙ z),
    )
    (omega (arith, four_first b i, four-at b i 2 (omega arith), four-at b i 3 (omega arith), ap (λ (x : ℕ). get_or b x 0) (let e : 4 * i + 3 ≡ 4 * i + 2 + 1 = omega arith in e)))

-- ---- marks

pub none_zero : (held marks : List ℕ) (k : ℕ) → number_of k ≡ 0 → is_new held marks k ≡ false
unfolding is_new is_ours
none_zero held marks k e = rw (lt-leb 1 (number_of k) (omega arith))

pub none_over : (held marks : List ℕ) (k : ℕ) → get_or held (unit_of k) 0 < number_of k → is_new held marks k ≡ false
unfolding is_new is_ours
none_over held marks k h = rw (lt-leb (number_of k) (get_or held (unit_of k) 0) h, and_wrong (leb 1 (number_of k)))

pub none_marked : (held marks : List ℕ) (k i : ℕ) → i ≡ slot_of (unit_of k) (number_of k) → (get_or marks i 0 ≡ 0 → ⊥) → is_new held marks k ≡ false
unfolding is_new mark_slot
none_marked held marks k i e d = rw (ne_eqb (get_or marks (slot_of (unit_of k) (number_of k)) 0) 0 (λ z. d (ap (λ (x : ℕ). get_or marks x 0) e ∙ z)), and_wrong (is_ours held k))

pub is_new_lem : (held marks : List ℕ) (k i : ℕ) → i ≡ slot_of (unit_of k) (number_of k) → (number_of k ≡ 0 → ⊥) → number_of k ≤ get_or held (unit_of k) 0 → get_or marks i 0 ≡ 0 → is_new held marks k ≡ true
unfolding is_new is_ours mark_slot
is_new_lem held marks k i e d h z =
    true_and (leb 1 (number_of k) && leb (number_of k) (get_or held (unit_of k) 0)) (eqb (get_or marks (slot_of (unit_of k) (number_of k)) 0) 0)
    (true_and (leb 1 (number_of k)) (leb (number_of k) (get_or held (unit_of k) 0)) (le-leb 1 (number_of k) (omega arith)) (le-leb (number_of k) (get_or held (unit_of k) 0) h))
    (eq-eqb (get_or marks (slot_of (unit_of k) (number_of k)) 0) 0 (ap (λ (x : ℕ). get_or marks x 0) (sym e) ∙ z))

-- what marking a name comes to
pub left_out : (held marks : List ℕ) (k : ℕ) (x : List ℕ) → is_new held marks k ≡ false → (false ≡ is_new held marks k) × (marks ≡ cond (is_new held marks k) x marks)
left_out held marks k x e = (sym e, rw e)

pub put_in : (held marks : List ℕ) (k i : ℕ) → i ≡ slot_of (unit_of k) (number_of k) → is_new held marks k ≡ true → (true ≡ is_new held marks k) × (set marks i 1 ≡ cond (is_new held marks k) (set marks (mark_slot k) 1) marks)
unfolding mark_slot
put_in held marks k i q e = (sym e, rw (e, q))

-- ---- the names from a place on

pub names_more : (b : List ℕ) (i n : ℕ) → i < n → names_from b i (n - i) ≡ name_at b i ∷ names_from b (i + 1) (n - (i + 1))
unfolding names_from
names_more b i n h = rw (let e : n - i ≡ suc (n - (i + 1)) = omega arith in e, let e : i + 1 ≡ suc i = omega arith in e)

pub names-done : (b : List ℕ) (i : ℕ) → names_from b i 0 ≡ []
unfolding names_from
names-done b i = refl

marks_next : (held m : List ℕ) (b : List ℕ) (i n : ℕ) (r : Bool) → i < n → r ≡ is_new held m (name_at b i) → marks_all held m (names_from b i (n - i)) ≡ (r && marks_all held (set m (mark_slot (name_at b i)) 1) (names_from b (i + 1) (n - (i + 1))))
unfolding marks_all
marks_next held m b i n r h f = ap (marks_all held m) (names_more b i n h) ∙ ap (λ (x : Bool). x && marks_all held (set m (mark_slot (name_at b i)) 1) (names_from b (i + 1) (n - (i + 1)))) (sym f)

pub marks_stop : (held m : List ℕ) (b : List ℕ) (i n k : ℕ) (t r : Bool) → i < n → k ≡ name_at b i → r ≡ is_new held m k → r ≡ false → marks_all held m (names_from b i (n - i)) ≡ t → false ≡ t
marks_stop held m b i n k t r h q f z e =
    let g : false ≡ is_new held m (name_at b i) = sym z ∙ f ∙ ap (is_new held m) q in
    sym (marks_next held m b i n false h g) ∙ e

pub marks_go : (held m : List ℕ) (b : List ℕ) (i n k : ℕ) (t r : Bool) (m' : List ℕ) → i < n → k ≡ name_at b i → r ≡ is_new held m k → r ≡ true → m' ≡ cond (is_new held m k) (set m (mark_slot k) 1) m → marks_all held m (names_from b i (n - i)) ≡ t → marks_all held m' (names_from b (i + 1) (n - (i + 1))) ≡ t
marks_go held m b i n k t r m' h q f z w e =
    let g : true ≡ is_new held m (name_at b i) = sym z ∙ f ∙ ap (is_new held m) q in
    let v : m' ≡ set m (mark_slot (name_at b i)) 1 = w ∙ ap (λ (x : Bool). cond x (set m (mark_slot k) 1) m) (sym f ∙ z) ∙ ap (λ (x : ℕ). set m (mark_slot x) 1) q in
    ap (λ (x : List ℕ). marks_all held x (names_from b (i + 1) (n - (i + 1)))) v ∙ sym (marks_next held m b i n true h g) ∙ e

pub marks_end : (held m : List ℕ) (b : List ℕ) (i n : ℕ) (t : Bool) → i ≡ n → marks_all held m (names_from b i (n - i)) ≡ t → true ≡ t
unfolding marks_all names_from
marks_end held m b i n t h e = subst (λ (j : ℕ). marks_all held m (names_from b i j) ≡ t) (let z : n - i ≡ 0 = omega arith in z) e

pub names-long : (b : List ℕ) (n : ℕ) → n ≡ name_count b → 4 * n < length b + 4
unfolding name_count
names-long b n e = omega arith

-- ---- positions

pub place_is : (list places : List ℕ) (i k p : ℕ) → k ≡ name_at list i → p ≡ position_of places (unit_of k) (number_of k) → p ≡ place_named list places i
unfolding place_named
place_is list places i k p q s = s ∙ ap (λ (x : ℕ). position_of places (unit_of x) (number_of x)) q

pub place_low : (list places : List ℕ) (n i k p : ℕ) → Named list places n → i < n → k ≡ name_at list i → p ≡ position_of places (unit_of k) (number_of k) → p < 512
place_low list places n i k p w h q s = omega (arith, w.inside i h, place_is list places i k p q s)

-- the 80 bytes of the record that is named, lent
pub named_lent : (log list places : List ℕ) (i p : ℕ) → p ≡ place_named list places i → take (80 * p + 80 - 80 * p) (drop (80 * p) log) ≡ named_at log list places i
unfolding named_at laid_at offset_of
named_lent log list places i p e = part_is log (80 * p) 80 ∙ rw e

module _ (list places : List ℕ) (n i : ℕ) (w : Named list places n) (h : i < n) where
  pub named_bytes : 4 * i < length list
  named_bytes = w.bytes i h

  pub named_table : length places ≡ 4096
  named_table = w.table

  module _ (k : ℕ) (q : k ≡ name_at list i) where
    pub named_some : 1 ≤ number_of k
    named_some = rw q (w.first i h)

    pub named_few : number_of k ≤ 512
    named_few = rw q (w.few i h)
