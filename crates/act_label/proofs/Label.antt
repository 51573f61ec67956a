-- What `label_number` and `field_number` are asked at each way out, over plain values.
-- Assumes nothing.
use Prim.Native.Nat.{ℕ, ◌-◌, ◌≤◌, ◌<◌}
use native.Mathlib.Omega.{arith}
use mathlib.Core.Path.{◌≡◌, refl, sym, ap, ◌∙◌}
use mathlib.Core.Bool.{Bool, true, false, not, ◌&&◌, ◌||◌}
use mathlib.Core.List.{List}
use lib.Dec.{leb, eqb}
use lib.ListN.{get_or, length, take, drop, length-drop, take-append-drop}
use lib.Seq.{take_all}
use borrow.Author.Tests.{leb-true, eqb-false, le-leb, ne_eqb, not-true, not-false}
use Rattle.model.specs.Bytes.{blank, part}
use Rattle.model.specs.Record.{Rec, op, label_of, text_length, printable, is_label, uses_label, unused, label_fits, has_stroke}
use Rattle.byte_slice.proofs.Numbers.{and_true, and_right, test_false, not_both}
use Rattle.log_laws.proofs.Formed.{blank_no_stroke}
use Rattle.act_label.specs.Label.{text_number, label_number, field_number}
use Rattle.act_label.proofs.Bytes.{stroke_append, whole_text}

-- ---- labels

-- what a label has
record Parts (t : List ℕ) : Type 0 where
  some_text : 1 ≤ text_length t
  first : get_or t 0 0 ≡ 32 → ⊥
  last : get_or t (text_length t - 1) 0 ≡ 32 → ⊥
  zeros : blank (drop (text_length t) t) ≡ true

parts_of : (t : List ℕ) → is_label t ≡ true → Parts t
unfolding is_label
parts_of t e =
    let n = text_length t in
    let (a, p) = and_true (leb 1 n) (printable (take n t) && (not (eqb (get_or t 0 0) 32) && (not (eqb (get_or t (n - 1) 0) 32) && blank (drop n t)))) e in
    let (b, q) = and_true (printable (take n t)) (not (eqb (get_or t 0 0) 32) && (not (eqb (get_or t (n - 1) 0) 32) && blank (drop n t))) p in
    let (c, r) = and_true (not (eqb (get_or t 0 0) 32)) (not (eqb (get_or t (n - 1) 0) 32) && blank (drop n t)) q in
    let (d, z) = and_true (not (eqb (get_or t (n - 1) 0) 32)) (blank (drop n t)) r in
    record {
      some_text = leb-true 1 n a;
      first = eqb-false (get_or t 0 0) 32 (not-true (eqb (get_or t 0 0) 32) c);
      last = eqb-false (get_or t (n - 1) 0) 32 (not-true (eqb (get_or t (n - 1) 0) 32) d);
      zeros = z;
    }

-- with them it is a label exactly if its text is printable
by_text : (t : List ℕ) → Parts t → is_label t ≡ printable (take (text_length t) t)
unfolding is_label
by_text t r =
    rw (le-leb 1 (text_length t) r.some_text, ne_eqb (get_or t 0 0) 32 r.first, ne_eqb (get_or t (text_length t - 1) 0) 32 r.last, r.zeros, and_right)

-- a stroke stands in the text, not behind it
stroke_in_text : (t : List ℕ) (n : ℕ) → blank (drop n t) ≡ true → has_stroke t ≡ has_stroke (take n t)
stroke_in_text t n z =
    ap has_stroke (sym (take-append-drop n t)) ∙ stroke_append (take n t) (drop n t) ∙ rw (blank_no_stroke (drop n t) z) (go (has_stroke (take n t)))
  where
    go : (b : Bool) → (b || false) ≡ b
    go true = refl
    go false = refl

-- ---- `label_number`

not_label : (t : List ℕ) → (is_label t ≡ true → ⊥) → 7 ≡ label_number t
unfolding label_number
not_label t h = rw (test_false (is_label t) h)

module _ (t : List ℕ) {n : ℕ} (e : n ≡ text_length t) (within : n ≤ length t) where
  pub no_text : n < 1 → 7 ≡ label_number t
  no_text h = not_label t (λ l. let a = (parts_of t l).some_text in omega arith)

  module _ (some : 1 ≤ n) where
    pub space_first : get_or t 0 0 ≡ 32 → 7 ≡ label_number t
    space_first h = not_label t (λ l. (parts_of t l).first h)

    module _ (f : get_or t 0 0 ≡ 32 → ⊥) where
      pub space_last : get_or t (n - 1) 0 ≡ 32 → 7 ≡ label_number t
      space_last h = not_label t (λ l. (parts_of t l).last (rw e at h))

      module _ (g : get_or t (n - 1) 0 ≡ 32 → ⊥) {b : Bool} (q : b ≡ blank (take (length t - n) (drop n t))) where
        rest_is : blank (drop n t) ≡ b
        rest_is = sym (q ∙ ap blank (take_all (length t - n) (drop n t) (omega (arith, length-drop n t))))

        pub more_behind : not b ≡ true → 7 ≡ label_number t
        more_behind h = not_label t (λ l. not_both b (sym rest_is ∙ rw (← e) at (parts_of t l).zeros) (not-true b h))

        pub by_the_table : {x : ℕ} → not b ≡ false → x ≡ text_number (take n t) (length (take n t)) → x ≡ label_number t
        unfolding label_number
        by_the_table h k =
            let z : blank (drop n t) ≡ true = rest_is ∙ not-false b h in
            let p : Parts t = record { some_text = rw (← e) some; first = f; last = rw (← e) g; zeros = rw (← e) z } in
            k ∙ whole_text (take n t) ∙ rw (by_text t p, ← e, stroke_in_text t n z)

-- ---- `field_number`

module _ (r : Rec) {u : Bool} (e : u ≡ uses_label (get_or r 1 0)) where
  pub label_used : {x : ℕ} → u ≡ true → x ≡ label_number (take (64 - 32) (drop 32 r)) → x ≡ field_number r
  unfolding field_number label_number label_fits label_of part op
  label_used h k = k ∙ rw (← e, h)

  module _ (h : u ≡ false) {b : Bool} (q : b ≡ blank (take (64 - 32) (drop 32 r))) where
    pub bytes_unused : not b ≡ true → 7 ≡ field_number r
    unfolding field_number label_fits unused part op
    bytes_unused k = rw (← e, h, ← q, not-true b k)

    pub zeros-unused : not b ≡ false → 0 ≡ field_number r
    unfolding field_number label_fits label_of unused part op
    zeros-unused k =
        let z : blank (take (64 - 32) (drop 32 r)) ≡ true = sym q ∙ not-false b k in
        rw (← e, h, z, blank_no_stroke (take (64 - 32) (drop 32 r)) z)
