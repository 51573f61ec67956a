-- Rows whose bytes are the same, but for the last contents and the last place record, show the same entry or aside.
-- Assumes nothing.
use Prim.Native.Nat.{ℕ, ◌/◌, ◌%◌}
use native.Mathlib.Omega.{arith}
use mathlib.Core.Path.{◌≡◌, refl, sym, ap, ◌∙◌}
use mathlib.Core.Bool.{Bool, true, false, cond, ◌&&◌}
use mathlib.Core.List.{List, [], ◌∷◌, ◌++◌}
use lib.ListN.{get_or, take, drop, length-append}
use lib.Seq.{take_all, take_at, drop_at}
use Rattle.model.specs.Bytes.{same_bytes, part}
use Rattle.model.specs.Replay.{Entry, Aside, is_disputed}
use Rattle.model.specs.Table.{identity_bytes, entry_row, aside_row, aside_in}
use Rattle.byte_slice.proofs.Numbers.{and_true, true_and}
use Rattle.byte_slice.proofs.Compare.{same_eq, eq_same}
use Rattle.tree_table.specs.Rows.{flag_of, Proper}
use Rattle.tree_table.proofs.Rows.{aside_back}
use Rattle.order_model.specs.Order.{entry_alike, aside_alike}
use Rattle.order_laws.specs.Claims.{SameEntry}
use Rattle.order_laws.proofs.Shown.{alike-entry, entry-alike, alike-aside, aside-alike}
use Rattle.order_laws.proofs.Marks.{both_ways}

-- kind, dispute, identity and folder
abbrev head_of : ℕ → Entry → List ℕ
head_of d e = (e.kind ∷ d ∷ 0 ∷ 0 ∷ []) ++ (identity_bytes e.made ++ identity_bytes e.inside)

-- date, label and mark
abbrev tail_of : Entry → List ℕ
tail_of e = e.date ++ (e.label ++ e.mark)

row_head : (d : ℕ) (e : Entry) → part (entry_row d e) 0 12 ≡ head_of d e
unfolding entry_row identity_bytes part
row_head d e = refl

row_tail : (d : ℕ) (e : Entry) → Proper e → part (entry_row d e) 20 52 ≡ tail_of e
unfolding entry_row identity_bytes part
row_tail d e s =
    let n4 = s.date_long in
    let n32 = s.label_long in
    let n16 = s.mark_long in
    take_all 52 (e.date ++ (e.label ++ e.mark)) (omega (arith, length-append e.date (e.label ++ e.mark), length-append e.label e.mark))

same_identity : (j k : ℕ) → j % 8 ≡ k % 8 → j / 8 % 256 ≡ k / 8 % 256 → j / 8 / 256 ≡ k / 8 / 256 → j ≡ k
same_identity j k p q r = omega arith

same_flag_lem : (a b : Bool) → cond {A = ℕ} a 1 0 ≡ cond b 1 0 → a ≡ b
same_flag_lem true true e = refl
same_flag_lem true false e = absurd (omega arith)
same_flag_lem false true e = absurd (omega arith)
same_flag_lem false false e = refl

module _ (s t : List Aside) (e f : Entry) (pe : Proper e) (pf : Proper f) where
  heads_mean : head_of (flag_of s e) e ≡ head_of (flag_of t f) f → (e.kind ≡ f.kind) × (flag_of s e ≡ flag_of t f) × (e.made ≡ f.made) × (e.inside ≡ f.inside)
  unfolding identity_bytes
  heads_mean h = (
    ap (λ (l : List ℕ). get_or l 0 0) h,
    ap (λ (l : List ℕ). get_or l 1 0) h,
    same_identity e.made f.made (ap (λ (l : List ℕ). get_or l 4 0) h) (ap (λ (l : List ℕ). get_or l 6 0) h) (ap (λ (l : List ℕ). get_or l 7 0) h),
    same_identity e.inside f.inside (ap (λ (l : List ℕ). get_or l 8 0) h) (ap (λ (l : List ℕ). get_or l 10 0) h) (ap (λ (l : List ℕ). get_or l 11 0) h),
  )

  first : (x : Entry) → Proper x → take 4 (tail_of x) ≡ x.date
  first x p = take_at x.date (x.label ++ x.mark) 4 p.date_long

  rest : (x : Entry) → Proper x → drop 4 (tail_of x) ≡ x.label ++ x.mark
  rest x p = drop_at x.date (x.label ++ x.mark) 4 p.date_long

  tails_mean : tail_of e ≡ tail_of f → (e.date ≡ f.date) × (e.label ≡ f.label) × (e.mark ≡ f.mark)
  tails_mean h =
      let r : e.label ++ e.mark ≡ f.label ++ f.mark = sym (rest e pe) ∙ ap (λ (l : List ℕ). drop 4 l) h ∙ rest f pf in (
        sym (first e pe) ∙ ap (λ (l : List ℕ). take 4 l) h ∙ first f pf,
        sym (take_at e.label e.mark 32 pe.label_long) ∙ ap (λ (l : List ℕ). take 32 l) r ∙ take_at f.label f.mark 32 pf.label_long,
        sym (drop_at e.label e.mark 32 pe.label_long) ∙ ap (λ (l : List ℕ). drop 32 l) r ∙ drop_at f.label f.mark 32 pf.label_long,
      )

  means_heads : SameEntry s t e f → head_of (flag_of s e) e ≡ head_of (flag_of t f) f
  means_heads h =
      rw (h.same_kind, h.same_dispute, h.same_made, h.same_folder)

  means_tails : SameEntry s t e f → tail_of e ≡ tail_of f
  means_tails h = rw (h.same_date, h.same_label, h.same_mark)

  -- two rows compared by their bytes
  pub rows_alike : (same_bytes (part (entry_row (flag_of s e) e) 0 12) (part (entry_row (flag_of t f) f) 0 12) && same_bytes (part (entry_row (flag_of s e) e) 20 52) (part (entry_row (flag_of t f) f) 20 52)) ≡ entry_alike s t e f
  rows_alike =
      rw (row_head (flag_of s e) e, row_head (flag_of t f) f, row_tail (flag_of s e) e pe, row_tail (flag_of t f) f pf)
      (both_ways (same_bytes (head_of (flag_of s e) e) (head_of (flag_of t f) f) && same_bytes (tail_of e) (tail_of f)) (entry_alike s t e f)
      (λ h.
      let (a, b) = and_true (same_bytes (head_of (flag_of s e) e) (head_of (flag_of t f) f)) (same_bytes (tail_of e) (tail_of f)) h in
      let (k, d, m, i) = heads_mean (same_eq (head_of (flag_of s e) e) (head_of (flag_of t f) f) a) in
      let (x, y, z) = tails_mean (same_eq (tail_of e) (tail_of f) b) in
      entry-alike s t e f
      (record {
        same_made = m;
        same_kind = k;
        same_folder = i;
        same_label = y;
        same_date = x;
        same_mark = z;
        same_dispute = same_flag_lem (is_disputed e.made s) (is_disputed f.made t) d;
      }))
      (λ h.
      let w = alike-entry s t e f h in
      true_and (same_bytes (head_of (flag_of s e) e) (head_of (flag_of t f) f)) (same_bytes (tail_of e) (tail_of f))
      (eq_same (head_of (flag_of s e) e) (head_of (flag_of t f) f) (means_heads w))
      (eq_same (tail_of e) (tail_of f) (means_tails w))))

pub asides_alike : (a b : Aside) → same_bytes (aside_row a) (aside_row b) ≡ aside_alike a b
asides_alike a b =
    both_ways (same_bytes (aside_row a) (aside_row b)) (aside_alike a b)
    (λ h.
    let q = same_eq (aside_row a) (aside_row b) h in
    aside-alike a b (sym (aside_back a []) ∙ ap (λ (r : List ℕ). aside_in (r ++ []) 0) q ∙ aside_back b []))
    (λ h. eq_same (aside_row a) (aside_row b) (ap aside_row (alike-aside a b h)))
