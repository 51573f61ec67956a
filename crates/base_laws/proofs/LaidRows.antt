-- A row that was laid in bytes is read back, and passes its test where the entry or the aside fits.
-- Assumes nothing.
use Prim.Native.Nat.{ℕ, ◌+◌, ◌/◌, ◌%◌, ◌≤◌, ◌<◌}
use native.Mathlib.Omega.{arith}
use mathlib.Core.Path.{◌≡◌, refl, sym, ap, ◌∙◌}
use mathlib.Core.Logic.{◌⊎◌, ⊎_elim}
use mathlib.Core.Bool.{Bool, true, false, cond, ◌||◌}
use mathlib.Core.List.{List, ◌++◌, append_assoc}
use lib.Dec.{eqb}
use lib.ListN.{get_or, length, take, drop, length-append}
use lib.Seq.{take_at, drop_at, take_all}
use borrow.Author.Tests.{le-leb}
use Rattle.model.specs.Bytes.{word, blank, part}
use Rattle.model.specs.Date.{is_date}
use Rattle.model.specs.Record.{identity, identity_at}
use Rattle.model.specs.Replay.{Entry, Aside}
use Rattle.model.specs.Table.{identity_bytes, entry_row, aside_row, entry_in, aside_in}
use Rattle.base_model.specs.Base.{names_in, names_or_none, row_kind_fits, row_names_fit, row_date_fits, row_mark_fits, entry_fits, reason_fits, aside_fits}
use Rattle.byte_slice.proofs.Parts.{get_d_part, part-part}
use Rattle.byte_slice.proofs.Words.{word-part}
use Rattle.tree_laws.specs.Trees.{NamedIn, NamedOrNone, EntryFits, AsideFits}

-- ---- an identity

-- four bytes at a place
record Four (s : List ℕ) (at k : ℕ) : Type 0 where
  unit_byte : get_or s at 0 ≡ k % 8
  zero_byte : get_or s (at + 1) 0 ≡ 0
  number_bytes : word s (at + 2) ≡ k / 8

module _ (s : List ℕ) (at k : ℕ) (e : part s at 4 ≡ identity_bytes k) where
  four : Four s at k
  unfolding word identity_bytes
  four =
      let a : get_or s (at + 0) 0 ≡ k % 8 = sym (get_d_part s at 4 0 (omega arith)) ∙ ap (λ (l : List ℕ). get_or l 0 0) e in
      let b : get_or s (at + 1) 0 ≡ 0 = sym (get_d_part s at 4 1 (omega arith)) ∙ ap (λ (l : List ℕ). get_or l 1 0) e in
      let c : get_or s (at + 2) 0 ≡ k / 8 % 256 = sym (get_d_part s at 4 2 (omega arith)) ∙ ap (λ (l : List ℕ). get_or l 2 0) e in
      let d : get_or s (at + 3) 0 ≡ k / 8 / 256 = sym (get_d_part s at 4 3 (omega arith)) ∙ ap (λ (l : List ℕ). get_or l 3 0) e in
      let z : at + 0 ≡ at = omega arith in
      let y : at + 2 + 1 ≡ at + 3 = omega arith in
      record { unit_byte = rw z at a; zero_byte = b; number_bytes = rw (y, c, d) (omega arith) }

  pub identity_back : identity_at s at ≡ k
  unfolding identity_at identity
  identity_back = rw (four.unit_byte, four.number_bytes) (omega arith)

  pub named-passes : (v : List ℕ) → NamedIn v k → names_in v s at ≡ true
  unfolding names_in
  named-passes v (a, b) =
      let h : k % 8 ≤ 7 = omega arith in
      rw (
        four.unit_byte,
        four.zero_byte,
        four.number_bytes,
        le-leb (k % 8) 7 h,
        le-leb 1 (k / 8) a,
        le-leb (k / 8) (get_or v (k % 8) 0) b,
      )

  root-blank : k ≡ 0 → blank (part s at 4) ≡ true
  unfolding identity_bytes blank
  root-blank z = rw (e, z)

  pub none_passes : (v : List ℕ) → NamedOrNone v k → names_or_none v s at ≡ true
  unfolding names_or_none
  none_passes v h =
      ⊎_elim
      (λ (z : k ≡ 0). rw (root-blank z))
      (λ (n : NamedIn v k). rw (named-passes v n) (or_right (blank (part s at 4))))
      h
    where
      or_right : (t : Bool) → (t || true) ≡ true
      or_right true = refl
      or_right false = refl

-- ---- the row of an entry

-- the fields of a row have their lengths
pub record Sized (e : Entry) : Type 0 where
  pub date_long : length e.date ≡ 4
  pub label_long : length e.label ≡ 32
  pub mark_long : length e.mark ≡ 16

module _ (a b c : List ℕ) (ha : length a ≡ 4) (hb : length b ≡ 32) (hc : length c ≡ 16) where
  first_field : take 4 (a ++ (b ++ c)) ≡ a
  first_field = take_at a (b ++ c) 4 ha

  second_field : take 32 (drop 4 (a ++ (b ++ c))) ≡ b
  second_field = rw (drop_at a (b ++ c) 4 ha) (take_at b c 32 hb)

  third_field : take 16 (drop 36 (a ++ (b ++ c))) ≡ c
  third_field =
      let n : length (a ++ b) ≡ 36 = omega (arith, length-append a b) in
      rw (← append_assoc a b c, drop_at (a ++ b) c 36 n) (take_all 16 c (omega arith))

pub row-length : (d : ℕ) (e : Entry) → Sized e → length (entry_row d e) ≡ 72
unfolding entry_row identity_bytes
row-length d e s =
    let n4 = s.date_long in
    let n32 = s.label_long in
    let n16 = s.mark_long in
    omega (arith, length-append e.date (e.label ++ e.mark), length-append e.label e.mark)

module _ (s : List ℕ) (at : ℕ) (e : Entry) (z : Sized e) (r : part s at 72 ≡ entry_row 0 e) where
  field : (k n : ℕ) → k + n ≤ 72 → part s (at + k) n ≡ part (entry_row 0 e) k n
  field k n h = sym (part-part s at 72 k n h) ∙ ap (λ (l : List ℕ). part l k n) r

  byte : (k : ℕ) → k < 72 → get_or s (at + k) 0 ≡ get_or (entry_row 0 e) k 0
  byte k h = sym (get_d_part s at 72 k h) ∙ ap (λ (l : List ℕ). get_or l k 0) r

  kind_byte : get_or s at 0 ≡ e.kind
  unfolding entry_row
  kind_byte = let y : at + 0 ≡ at = omega arith in (rw y at (byte 0 (omega arith)))

  made_bytes_lem : part s (at + 4) 4 ≡ identity_bytes e.made
  unfolding part entry_row identity_bytes
  made_bytes_lem = field 4 4 (omega arith)

  inside_bytes : part s (at + 8) 4 ≡ identity_bytes e.inside
  unfolding part entry_row identity_bytes
  inside_bytes = field 8 4 (omega arith)

  contents_bytes : part s (at + 12) 4 ≡ identity_bytes e.contents
  unfolding part entry_row identity_bytes
  contents_bytes = field 12 4 (omega arith)

  placing_bytes : part s (at + 16) 4 ≡ identity_bytes e.placing
  unfolding part entry_row identity_bytes
  placing_bytes = field 16 4 (omega arith)

  date_bytes_lem : part s (at + 20) 4 ≡ e.date
  unfolding part entry_row identity_bytes
  date_bytes_lem = field 20 4 (omega arith) ∙ first_field e.date e.label e.mark z.date_long z.label_long z.mark_long

  label_bytes : part s (at + 24) 32 ≡ e.label
  unfolding part entry_row identity_bytes
  label_bytes = field 24 32 (omega arith) ∙ second_field e.date e.label e.mark z.date_long z.label_long z.mark_long

  mark_bytes : part s (at + 56) 16 ≡ e.mark
  unfolding part entry_row identity_bytes
  mark_bytes = field 56 16 (omega arith) ∙ third_field e.date e.label e.mark z.date_long z.label_long z.mark_long

  pub entry_back : entry_in s at ≡ e
  unfolding entry_in
  entry_back = λ i.
      record {
        made = identity_back s (at + 4) e.made made_bytes_lem i;
        kind = kind_byte i;
        inside = identity_back s (at + 8) e.inside inside_bytes i;
        label = label_bytes i;
        contents = identity_back s (at + 12) e.contents contents_bytes i;
        date = date_bytes_lem i;
        mark = mark_bytes i;
        placing = identity_back s (at + 16) e.placing placing_bytes i;
      }

  kind_passes : (e.kind ≡ 1) ⊎ (e.kind ≡ 2) → row_kind_fits s at ≡ true
  unfolding row_kind_fits word entry_row
  kind_passes h =
      let b1 : get_or s (at + 1) 0 ≡ 0 = byte 1 (omega arith) in
      let b2 : get_or s (at + 2) 0 ≡ 0 = byte 2 (omega arith) in
      let b3 : get_or s (at + 3) 0 ≡ 0 = byte 3 (omega arith) in
      let y : at + 2 + 1 ≡ at + 3 = omega arith in
      ⊎_elim
      (λ (k : e.kind ≡ 1). rw (kind_byte, b1, y, b2, b3, k))
      (λ (k : e.kind ≡ 2). rw (kind_byte, b1, y, b2, b3, k))
      h

  date_passes : is_date (word e.date 0) (get_or e.date 2 0) (get_or e.date 3 0) ≡ true → row_date_fits s at ≡ true
  unfolding row_date_fits
  date_passes h =
      let p : at + 20 + 0 ≡ at + 20 = omega arith in
      let q : at + 20 + 2 ≡ at + 22 = omega arith in
      let t : at + 20 + 3 ≡ at + 23 = omega arith in
      let x : word s (at + 20 + 0) ≡ word e.date 0 = sym (word-part s (at + 20) 4 0 (omega arith)) ∙ ap (λ (l : List ℕ). word l 0) date_bytes_lem in
      let y : get_or s (at + 20 + 2) 0 ≡ get_or e.date 2 0 = sym (get_d_part s (at + 20) 4 2 (omega arith)) ∙ ap (λ (l : List ℕ). get_or l 2 0) date_bytes_lem in
      let w : get_or s (at + 20 + 3) 0 ≡ get_or e.date 3 0 = sym (get_d_part s (at + 20) 4 3 (omega arith)) ∙ ap (λ (l : List ℕ). get_or l 3 0) date_bytes_lem in
      rw (← p, ← q, ← t, x, y, w) h

  mark_passes : (e.kind ≡ 1) ⊎ (e.kind ≡ 2) → (e.kind ≡ 1 → blank e.mark ≡ true) → row_mark_fits s at ≡ true
  unfolding row_mark_fits
  mark_passes h u =
      ⊎_elim
      (λ (k : e.kind ≡ 1). rw (kind_byte, mark_bytes, k, u k))
      (λ (k : e.kind ≡ 2). rw (kind_byte, k))
      h

  pub entry-passes : (v : List ℕ) → EntryFits v e → (e.kind ≡ 1) ⊎ (e.kind ≡ 2) → entry_fits v s at ≡ true
  unfolding entry_fits row_names_fit
  entry-passes v f k =
      rw (
        kind_passes k,
        named-passes s (at + 4) e.made made_bytes_lem v f.own_named,
        none_passes s (at + 8) e.inside inside_bytes v f.folder_named,
        named-passes s (at + 12) e.contents contents_bytes v f.contents_named,
        named-passes s (at + 16) e.placing placing_bytes v f.placing_named,
        date_passes f.real_date,
        label_bytes,
        f.a_label,
        mark_passes k f.unmarked,
      )

-- ---- the row of an aside

pub aside-length : (a : Aside) → length (aside_row a) ≡ 12
unfolding aside_row identity_bytes
aside-length a = refl

open_back : (o : Bool) → eqb (cond o 1 2) 1 ≡ o
open_back true = refl
open_back false = refl

state_passes : (o : Bool) → (eqb (cond o 1 2) 1 || eqb (cond o 1 2) 2) ≡ true
state_passes true = refl
state_passes false = refl

module _ (s : List ℕ) (at : ℕ) (a : Aside) (r : part s at 12 ≡ aside_row a) where
  piece : (k n : ℕ) → k + n ≤ 12 → part s (at + k) n ≡ part (aside_row a) k n
  piece k n h = sym (part-part s at 12 k n h) ∙ ap (λ (l : List ℕ). part l k n) r

  cell : (k : ℕ) → k < 12 → get_or s (at + k) 0 ≡ get_or (aside_row a) k 0
  cell k h = sym (get_d_part s at 12 k h) ∙ ap (λ (l : List ℕ). get_or l k 0) r

  who_bytes : part s at 4 ≡ identity_bytes a.who
  unfolding part aside_row identity_bytes
  who_bytes = let y : at + 0 ≡ at = omega arith in (rw y at (piece 0 4 (omega arith)))

  marked_bytes : part s (at + 8) 4 ≡ identity_bytes a.marked
  unfolding part aside_row identity_bytes
  marked_bytes = piece 8 4 (omega arith)

  reason_byte : get_or s (at + 4) 0 ≡ a.reason
  unfolding aside_row identity_bytes
  reason_byte = cell 4 (omega arith)

  state_byte : get_or s (at + 5) 0 ≡ cond a.is_open 1 2
  unfolding aside_row identity_bytes
  state_byte = cell 5 (omega arith)

  pub aside_back : aside_in s at ≡ a
  unfolding aside_in
  aside_back = λ i.
      record {
        who = identity_back s at a.who who_bytes i;
        reason = reason_byte i;
        marked = identity_back s (at + 8) a.marked marked_bytes i;
        is_open = (ap (λ (x : ℕ). eqb x 1) state_byte ∙ open_back a.is_open) i;
      }

  reason_passes : ((12 ≤ a.reason) × (a.reason ≤ 18)) ⊎ (a.reason ≡ 25) → reason_fits s at ≡ true
  unfolding reason_fits word aside_row identity_bytes
  reason_passes h =
      let b6 : get_or s (at + 6) 0 ≡ 0 = cell 6 (omega arith) in
      let b7 : get_or s (at + 7) 0 ≡ 0 = cell 7 (omega arith) in
      let y : at + 6 + 1 ≡ at + 7 = omega arith in
      ⊎_elim
      (λ (k : (12 ≤ a.reason) × (a.reason ≤ 18)).
      rw (reason_byte, state_byte, state_passes a.is_open, y, b6, b7, le-leb 12 a.reason k.0, le-leb a.reason 18 k.1))
      (λ (k : a.reason ≡ 25). rw (reason_byte, state_byte, state_passes a.is_open, y, b6, b7, k))
      h

  pub aside-passes : (v : List ℕ) → AsideFits v a → aside_fits v s at ≡ true
  unfolding aside_fits
  aside-passes v f =
      rw (
        named-passes s at a.who who_bytes v f.who_named,
        reason_passes f.a_reason,
        none_passes s (at + 8) a.marked marked_bytes v f.mark_named,
      )
