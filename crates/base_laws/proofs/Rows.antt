-- A row of a base that passes its test shows an entry or an aside that fits.
-- Assumes nothing.
use Prim.Native.Nat.{ℕ, ◌+◌, ◌*◌, ◌/◌, ◌%◌, ◌≤◌}
use native.Mathlib.Omega.{arith}
use mathlib.Core.Path.{◌≡◌, sym, ◌∙◌}
use mathlib.Core.Logic.{◌⊎◌, inl, inr, ⊎_elim}
use mathlib.Core.Bool.{true, ◌&&◌, ◌||◌}
use mathlib.Core.List.{List}
use lib.Dec.{leb, eqb}
use lib.ListN.{get_or, length}
use borrow.Author.Tests.{eqb-true, leb-true, ne_eqb}
use Rattle.model.specs.Bytes.{word, blank, part}
use Rattle.model.specs.Date.{is_date}
use Rattle.model.specs.Record.{identity, identity_at, is_label}
use Rattle.model.specs.Replay.{is_present}
use Rattle.model.specs.Table.{entry_in, aside_in}
use Rattle.base_model.specs.Base.{names_in, names_or_none, row_kind_fits, row_names_fit, row_date_fits, row_mark_fits, entry_fits, reason_fits, aside_fits}
use Rattle.byte_slice.proofs.Numbers.{and_true, or_true}
use Rattle.byte_slice.proofs.Parts.{get_d_part, part_length}
use Rattle.byte_slice.proofs.Compare.{blank_get_d}
use Rattle.byte_slice.proofs.Words.{word-part}
use Rattle.tree_laws.specs.Trees.{NamedIn, NamedOrNone, EntryFits, AsideFits}

-- ---- identities

parts_named : (v : List ℕ) (u w : ℕ) → u ≤ 7 → 1 ≤ w → w ≤ get_or v u 0 → NamedIn v (8 * w + u)
parts_named v u w h a b =
    let p : (8 * w + u) / 8 ≡ w = omega arith in
    let q : (8 * w + u) % 8 ≡ u = omega arith in
    rw (p, q) (a, b)

module _ (v b : List ℕ) (at : ℕ) where
  pub names-named : names_in v b at ≡ true → NamedIn v (identity_at b at)
  unfolding names_in identity_at identity
  names-named e =
      let u = get_or b at 0 in
      let w = word b (at + 2) in
      let (p, f) = and_true (leb u 7) (eqb (get_or b (at + 1) 0) 0 && (leb 1 w && leb w (get_or v u 0))) e in
      let (q, g) = and_true (eqb (get_or b (at + 1) 0) 0) (leb 1 w && leb w (get_or v u 0)) f in
      let (r, s) = and_true (leb 1 w) (leb w (get_or v u 0)) g in
      parts_named v u w (leb-true u 7 p) (leb-true 1 w r) (leb-true w (get_or v u 0) s)

  blank-root : blank (part b at 4) ≡ true → identity_at b at ≡ 0
  unfolding identity_at identity word
  blank-root e =
      let z0 : get_or b (at + 0) 0 ≡ 0 = sym (get_d_part b at 4 0 (omega arith)) ∙ blank_get_d (part b at 4) 0 e in
      let z2 : get_or b (at + 2) 0 ≡ 0 = sym (get_d_part b at 4 2 (omega arith)) ∙ blank_get_d (part b at 4) 2 e in
      let z3 : get_or b (at + 3) 0 ≡ 0 = sym (get_d_part b at 4 3 (omega arith)) ∙ blank_get_d (part b at 4) 3 e in
      let p : at + 0 ≡ at = omega arith in
      let q : at + 2 + 1 ≡ at + 3 = omega arith in
      let y0 : get_or b at 0 ≡ 0 = rw p at z0 in
      rw (q, y0, z2, z3)

  pub names_or_none_lem : names_or_none v b at ≡ true → NamedOrNone v (identity_at b at)
  unfolding names_or_none
  names_or_none_lem e =
      ⊎_elim
      (λ (z : blank (part b at 4) ≡ true). inl (blank-root z))
      (λ (n : names_in v b at ≡ true). inr (names-named n))
      (or_true (blank (part b at 4)) (names_in v b at) e)

-- ---- an entry

-- the five tests of the row of an entry
pub record EntryTests (v b : List ℕ) (at : ℕ) : Type 0 where
  pub kind_fits : row_kind_fits b at ≡ true
  pub names_fit : row_names_fit v b at ≡ true
  pub date_fits : row_date_fits b at ≡ true
  pub label_fits_lem : is_label (part b (at + 24) 32) ≡ true
  pub mark_fits_lem : row_mark_fits b at ≡ true

pub entry_tests : (v b : List ℕ) (at : ℕ) → entry_fits v b at ≡ true → EntryTests v b at
unfolding entry_fits
entry_tests v b at e =
    let (k, f) = and_true (row_kind_fits b at) (row_names_fit v b at && (row_date_fits b at && (is_label (part b (at + 24) 32) && row_mark_fits b at))) e in
    let (n, g) = and_true (row_names_fit v b at) (row_date_fits b at && (is_label (part b (at + 24) 32) && row_mark_fits b at)) f in
    let (d, h) = and_true (row_date_fits b at) (is_label (part b (at + 24) 32) && row_mark_fits b at) g in
    let (l, m) = and_true (is_label (part b (at + 24) 32)) (row_mark_fits b at) h in
    record { kind_fits = k; names_fit = n; date_fits = d; label_fits_lem = l; mark_fits_lem = m }

module _ (b : List ℕ) (at : ℕ) where
  kind_one_two : row_kind_fits b at ≡ true → (get_or b at 0 ≡ 1) ⊎ (get_or b at 0 ≡ 2)
  unfolding row_kind_fits
  kind_one_two e =
      let (k, _) = and_true (eqb (get_or b at 0) 1 || eqb (get_or b at 0) 2) (eqb (get_or b (at + 1) 0) 0 && eqb (word b (at + 2)) 0) e in
      ⊎_elim
      (λ (p : eqb (get_or b at 0) 1 ≡ true). inl (eqb-true (get_or b at 0) 1 p))
      (λ (p : eqb (get_or b at 0) 2 ≡ true). inr (eqb-true (get_or b at 0) 2 p))
      (or_true (eqb (get_or b at 0) 1) (eqb (get_or b at 0) 2) k)

  date_real : row_date_fits b at ≡ true
      → is_date (word (part b (at + 20) 4) 0) (get_or (part b (at + 20) 4) 2 0) (get_or (part b (at + 20) 4) 3 0) ≡ true
  unfolding row_date_fits
  date_real e =
      let p : at + 20 + 0 ≡ at + 20 = omega arith in
      let q : at + 20 + 2 ≡ at + 22 = omega arith in
      let r : at + 20 + 3 ≡ at + 23 = omega arith in
      rw (
        word-part b (at + 20) 4 0 (omega arith),
        get_d_part b (at + 20) 4 2 (omega arith),
        get_d_part b (at + 20) 4 3 (omega arith),
        p,
        q,
        r,
      ) e

  mark_blank : row_mark_fits b at ≡ true → get_or b at 0 ≡ 1 → blank (part b (at + 56) 16) ≡ true
  unfolding row_mark_fits
  mark_blank e k = rw (ne_eqb (get_or b at 0) 2 (λ z. omega arith)) at e

pub row_fits_lem : (v b : List ℕ) (at : ℕ) → at + 72 ≤ length b → entry_fits v b at ≡ true → EntryFits v (entry_in b at)
unfolding entry_in row_names_fit
row_fits_lem v b at h e =
    let t = entry_tests v b at e in
    let (n4, f) = and_true (names_in v b (at + 4)) (names_or_none v b (at + 8) && (names_in v b (at + 12) && names_in v b (at + 16))) t.names_fit in
    let (n8, g) = and_true (names_or_none v b (at + 8)) (names_in v b (at + 12) && names_in v b (at + 16)) f in
    let (n12, n16) = and_true (names_in v b (at + 12)) (names_in v b (at + 16)) g in
    record {
      a_kind = ⊎_elim (λ k. omega arith) (λ k. omega arith) (kind_one_two b at t.kind_fits);
      own_named = names-named v b (at + 4) n4;
      folder_named = names_or_none_lem v b (at + 8) n8;
      contents_named = names-named v b (at + 12) n12;
      placing_named = names-named v b (at + 16) n16;
      real_date = date_real b at t.date_fits;
      a_label = t.label_fits_lem;
      unmarked = λ k. mark_blank b at t.mark_fits_lem k;
      date_length = part_length b (at + 20) 4 (omega arith);
      label_length = part_length b (at + 24) 32 (omega arith);
      mark_length = part_length b (at + 56) 16 (omega arith);
    }

pub row_present : (v b : List ℕ) (at : ℕ) → entry_fits v b at ≡ true → is_present (entry_in b at) ≡ true
unfolding entry_in is_present
row_present v b at e =
    let t = entry_tests v b at e in
    let z : get_or b at 0 ≡ 0 → ⊥ = ⊎_elim (λ k y. omega arith) (λ k y. omega arith) (kind_one_two b at t.kind_fits) in
    rw (ne_eqb (get_or b at 0) 0 z)

-- ---- an aside

reason_of_lem : (b : List ℕ) (at : ℕ) → reason_fits b at ≡ true → ((12 ≤ get_or b (at + 4) 0) × (get_or b (at + 4) 0 ≤ 18)) ⊎ (get_or b (at + 4) 0 ≡ 25)
unfolding reason_fits
reason_of_lem b at e =
    let r = get_or b (at + 4) 0 in
    let (k, _) = and_true ((leb 12 r && leb r 18) || eqb r 25) ((eqb (get_or b (at + 5) 0) 1 || eqb (get_or b (at + 5) 0) 2) && eqb (word b (at + 6)) 0) e in
    ⊎_elim
    (λ (p : (leb 12 r && leb r 18) ≡ true). let (x, y) = and_true (leb 12 r) (leb r 18) p in inl (leb-true 12 r x, leb-true r 18 y))
    (λ (p : eqb r 25 ≡ true). inr (eqb-true r 25 p))
    (or_true (leb 12 r && leb r 18) (eqb r 25) k)

pub aside_fits_lem : (v b : List ℕ) (at : ℕ) → aside_fits v b at ≡ true → AsideFits v (aside_in b at)
unfolding aside_fits aside_in
aside_fits_lem v b at e =
    let (n, f) = and_true (names_in v b at) (reason_fits b at && names_or_none v b (at + 8)) e in
    let (r, m) = and_true (reason_fits b at) (names_or_none v b (at + 8)) f in
    record { who_named = names-named v b at n; a_reason = reason_of_lem b at r; mark_named = names_or_none_lem v b (at + 8) m }
