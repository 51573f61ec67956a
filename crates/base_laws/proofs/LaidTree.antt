-- A sound tree laid in a base is read back from it, and the base is sound.
-- Assumes nothing.
use Prim.Native.Nat.{ℕ, zero, suc, ◌+◌, ◌-◌, ◌*◌, ◌/◌, ◌%◌, ◌≤◌, ◌<◌}
use native.Mathlib.Omega.{arith}
use mathlib.Core.Path.{◌≡◌, refl, sym, ap, ◌∙◌}
use mathlib.Core.Logic.{◌⊎◌, inl, inr, ⊎_elim}
use mathlib.Core.Bool.{true, not}
use mathlib.Core.List.{List, [], ◌∷◌, ◌++◌, append_assoc, append-nil}
use lib.Dec.{eqb}
use lib.ListN.{get_or, length, replicate, length-append, length-replicate}
use borrow.Author.Tests.{eq-eqb, le-leb}
use Rattle.model.specs.Bytes.{word, two, part, padded}
use Rattle.model.specs.Vector.{vector_at, vector_bytes}
use Rattle.model.specs.Replay.{Entry, Aside, is_present, is_disputed}
use Rattle.model.specs.Table.{entry_row, aside_row, entry_rows, aside_rows}
use Rattle.base_model.specs.Base.{Base, base_bytes, base_in, base_entry, base_aside, base_entries, base_asides, base_tree, base_vector, base_head_fits, entry_row_fits, aside_row_fits, rest_blank, rows_fit, sound_base}
use Rattle.byte_slice.proofs.Numbers.{eq_or_ne, not_both}
use Rattle.byte_slice.proofs.Parts.{part_middle}
use Rattle.byte_slice.proofs.Compare.{blank-zeros}
use Rattle.vector.proofs.InBytes.{vector_back, vector_bytes-length}
use Rattle.log_laws.proofs.Members.{All}
use Rattle.tree_laws.specs.Replayed.{Has}
use Rattle.tree_laws.specs.Trees.{EntryFits, AsideFits}
use Rattle.base_laws.specs.Plain.{Plain}
use Rattle.base_laws.specs.Laid.{Lays}
use Rattle.base_laws.proofs.Plain.{all_of, ids_of, names_of}
use Rattle.base_laws.proofs.Numbered.{entries_listed, asides_listed, listed_is}
use Rattle.base_laws.proofs.FromTree.{tree_plain}
use Rattle.base_laws.proofs.LaidRows.{Sized, row-length, aside-length, entry_back, entry-passes, aside_back, aside-passes}

-- ---- lists

part_at : (p s q : List ℕ) (at n : ℕ) → length p ≡ at → length s ≡ n → part (p ++ (s ++ q)) at n ≡ s
part_at p s q at n a b = rw (← a, ← b) (part_middle p s q)

all_get_d : {A : Type 0} (P : A → Type 0) (l : List A) → All P l → (j : ℕ) (d : A) → j < length l → P (get_or l j d)
all_get_d P [] h j d g = absurd (omega arith)
all_get_d P (x ∷ l) h zero d g = h.0
all_get_d P (x ∷ l) h (suc j) d g = all_get_d P l h.1 j d (omega arith)

get_d_has : {A : Type 0} (l : List A) (j : ℕ) (d : A) → j < length l → Has (get_or l j d) l
get_d_has [] j d g = absurd (omega arith)
get_d_has (x ∷ l) zero d g = inl refl
get_d_has (x ∷ l) (suc j) d g = inr (get_d_has l j d (omega arith))

-- ---- rows laid one behind another

all_sized : (v : List ℕ) (es : List Entry) → All (EntryFits v) es → All Sized es
all_sized v [] h = tt
all_sized v (e ∷ es) h = (
  record { date_long = h.0.date_length; label_long = h.0.label_length; mark_long = h.0.mark_length },
  all_sized v es h.1,
)

rows_length : (es : List Entry) → All Sized es → length (entry_rows [] es) ≡ 72 * length es
unfolding entry_rows is_disputed
rows_length [] h = refl
rows_length (e ∷ es) h = omega (arith, length-append (entry_row 0 e) (entry_rows [] es), row-length 0 e h.0, rows_length es h.1)

notes_length : (l : List Aside) → length (aside_rows l) ≡ 12 * length l
unfolding aside_rows
notes_length [] = refl
notes_length (a ∷ l) = omega (arith, length-append (aside_row a) (aside_rows l), aside-length a, notes_length l)

row-at : (es : List Entry) → All Sized es → (p q : List ℕ) (c : ℕ) → length p ≡ c → (j : ℕ) (d : Entry) → j < length es
    → part (p ++ (entry_rows [] es ++ q)) (c + 72 * j) 72 ≡ entry_row 0 (get_or es j d)
unfolding entry_rows is_disputed
row-at [] h p q c n j d l = absurd (omega arith)
row-at (e ∷ es) h p q c n zero d l =
    let y : length p ≡ c + 72 * 0 = omega arith in
    rw (append_assoc (entry_row 0 e) (entry_rows [] es) q) (part_at p (entry_row 0 e) (entry_rows [] es ++ q) (c + 72 * 0) 72 y (row-length 0 e h.0))
row-at (e ∷ es) h p q c n (suc j) d l =
    let row = entry_row 0 e in
    let rest = entry_rows [] es in
    let m : length (p ++ row) ≡ c + 72 = omega (arith, length-append p row, row-length 0 e h.0) in
    let y : c + 72 * suc j ≡ c + 72 + 72 * j = omega arith in
    let f = rw (append_assoc p row (rest ++ q), ← append_assoc row rest q) at (row-at es h.1 (p ++ row) q (c + 72) m j d (omega arith)) in
    rw y f

note_at : (as' : List Aside) (p q : List ℕ) (c : ℕ) → length p ≡ c → (j : ℕ) (d : Aside) → j < length as'
    → part (p ++ (aside_rows as' ++ q)) (c + 12 * j) 12 ≡ aside_row (get_or as' j d)
unfolding aside_rows
note_at [] p q c n j d l = absurd (omega arith)
note_at (a ∷ as') p q c n zero d l =
    let y : length p ≡ c + 12 * 0 = omega arith in
    rw (append_assoc (aside_row a) (aside_rows as') q) (part_at p (aside_row a) (aside_rows as' ++ q) (c + 12 * 0) 12 y (aside-length a))
note_at (a ∷ as') p q c n (suc j) d l =
    let row = aside_row a in
    let rest = aside_rows as' in
    let m : length (p ++ row) ≡ c + 12 = omega (arith, length-append p row, aside-length a) in
    let y : c + 12 * suc j ≡ c + 12 + 12 * j = omega arith in
    let f = rw (append_assoc p row (rest ++ q), ← append_assoc row rest q) at (note_at as' (p ++ row) q (c + 12) m j d (omega arith)) in
    rw y f

-- ---- the bytes in their parts

abbrev entries_of : Base → List Entry
entries_of x = x.tree.entries

abbrev asides_of_lem : Base → List Aside
asides_of_lem x = x.tree.asides

abbrev head_of : Base → List ℕ
head_of x = x.list ∷ 0 ∷ two (length (entries_of x)) ++ (two (length (asides_of_lem x)) ++ (0 ∷ 0 ∷ []))

abbrev front_of : Base → List ℕ
front_of x = head_of x ++ vector_bytes x.vector

abbrev rows_of : Base → List ℕ
rows_of x = entry_rows [] (entries_of x)

abbrev zeros_of : Base → List ℕ
zeros_of x = replicate (36864 - length (rows_of x)) 0

abbrev notes_of : Base → List ℕ
notes_of x = aside_rows (asides_of_lem x)

abbrev end_of : Base → List ℕ
end_of x = replicate (6144 - length (notes_of x)) 0

module _ (x : Base) where
  bytes_are : base_bytes x ≡ head_of x ++ (vector_bytes x.vector ++ ((rows_of x ++ zeros_of x) ++ (notes_of x ++ end_of x)))
  unfolding base_bytes padded
  bytes_are = refl

  bytes_rows : base_bytes x ≡ front_of x ++ (rows_of x ++ (zeros_of x ++ (notes_of x ++ end_of x)))
  bytes_rows =
      bytes_are
      ∙ (sym (append_assoc (head_of x) (vector_bytes x.vector) ((rows_of x ++ zeros_of x) ++ (notes_of x ++ end_of x)))
      ∙ ap (λ (l : List ℕ). front_of x ++ l) (append_assoc (rows_of x) (zeros_of x) (notes_of x ++ end_of x)))

  bytes_notes : base_bytes x ≡ (front_of x ++ (rows_of x ++ zeros_of x)) ++ (notes_of x ++ end_of x)
  bytes_notes =
      bytes_are
      ∙ (sym (append_assoc (head_of x) (vector_bytes x.vector) ((rows_of x ++ zeros_of x) ++ (notes_of x ++ end_of x)))
      ∙ sym (append_assoc (front_of x) (rows_of x ++ zeros_of x) (notes_of x ++ end_of x)))

  bytes_zeros : base_bytes x ≡ (front_of x ++ rows_of x) ++ (zeros_of x ++ (notes_of x ++ end_of x))
  bytes_zeros = bytes_rows ∙ sym (append_assoc (front_of x) (rows_of x) (zeros_of x ++ (notes_of x ++ end_of x)))

  bytes_end : base_bytes x ≡ ((front_of x ++ (rows_of x ++ zeros_of x)) ++ notes_of x) ++ (end_of x ++ [])
  bytes_end =
      bytes_notes
      ∙ (sym (append_assoc (front_of x ++ (rows_of x ++ zeros_of x)) (notes_of x) (end_of x))
      ∙ ap (λ (l : List ℕ). ((front_of x ++ (rows_of x ++ zeros_of x)) ++ notes_of x) ++ l) (sym (append-nil (end_of x))))

  front_length : length (front_of x) ≡ 24
  front_length = omega (arith, length-append (head_of x) (vector_bytes x.vector), vector_bytes-length x.vector)

  count_back : (n : ℕ) → n % 256 + 256 * (n / 256) ≡ n
  count_back n = omega arith

  entries_count : word (base_bytes x) 2 ≡ length (entries_of x)
  unfolding word base_bytes
  entries_count = count_back (length (entries_of x))

  asides_count : word (base_bytes x) 4 ≡ length (asides_of_lem x)
  unfolding word base_bytes
  asides_count = count_back (length (asides_of_lem x))

  zero_word : word (base_bytes x) 6 ≡ 0
  unfolding word base_bytes
  zero_word = refl

  zero_byte : get_or (base_bytes x) 1 0 ≡ 0
  unfolding base_bytes
  zero_byte = refl

  list_back : get_or (base_bytes x) 0 0 ≡ x.list
  unfolding base_bytes
  list_back = refl

  base_vector_lem : length x.vector ≡ 8 → base_vector (base_bytes x) ≡ x.vector
  unfolding base_vector
  base_vector_lem e =
      ap (λ (l : List ℕ). vector_at l 8) bytes_are
      ∙ vector_back (head_of x) x.vector ((rows_of x ++ zeros_of x) ++ (notes_of x ++ end_of x)) e

  module _ (w : Lays x) where
    sized : All Sized (entries_of x)
    sized = all_sized x.vector (entries_of x) w.sound.entries_fit

    zeros-length : length (zeros_of x) ≡ 36864 - 72 * length (entries_of x)
    zeros-length = length-replicate {A = ℕ} (36864 - length (rows_of x)) 0 ∙ rw (rows_length (entries_of x) sized)

    end_length : length (end_of x) ≡ 6144 - 12 * length (asides_of_lem x)
    end_length = length-replicate {A = ℕ} (6144 - length (notes_of x)) 0 ∙ rw (notes_length (asides_of_lem x))

    rows_end : length (front_of x ++ rows_of x) ≡ 24 + 72 * length (entries_of x)
    rows_end = omega (arith, length-append (front_of x) (rows_of x), front_length, rows_length (entries_of x) sized)

    notes_start : length (front_of x ++ (rows_of x ++ zeros_of x)) ≡ 36888
    notes_start =
        let few = w.few_entries in
        omega (
          arith,
          length-append (front_of x) (rows_of x ++ zeros_of x),
          length-append (rows_of x) (zeros_of x),
          front_length,
          rows_length (entries_of x) sized,
          zeros-length,
        )

    notes_end : length ((front_of x ++ (rows_of x ++ zeros_of x)) ++ notes_of x) ≡ 36888 + 12 * length (asides_of_lem x)
    notes_end = omega (arith, length-append (front_of x ++ (rows_of x ++ zeros_of x)) (notes_of x), notes_start, notes_length (asides_of_lem x))

    -- the bytes of a base are 43,032
    pub bytes_length : length (base_bytes x) ≡ 43032
    bytes_length =
        let few = w.few_asides in
        ap (λ (l : List ℕ). length l) bytes_end
        ∙ omega (
          arith,
          length-append ((front_of x ++ (rows_of x ++ zeros_of x)) ++ notes_of x) (end_of x ++ []),
          length-append (end_of x) [],
          notes_end,
          end_length,
        )

    entry_row_is : (j : ℕ) (d : Entry) → j < length (entries_of x) → part (base_bytes x) (24 + 72 * j) 72 ≡ entry_row 0 (get_or (entries_of x) j d)
    entry_row_is j d l =
        ap (λ (s : List ℕ). part s (24 + 72 * j) 72) bytes_rows
        ∙ row-at (entries_of x) sized (front_of x) (zeros_of x ++ (notes_of x ++ end_of x)) 24 front_length j d l

    aside-row : (j : ℕ) (d : Aside) → j < length (asides_of_lem x) → part (base_bytes x) (36888 + 12 * j) 12 ≡ aside_row (get_or (asides_of_lem x) j d)
    aside-row j d l =
        ap (λ (s : List ℕ). part s (36888 + 12 * j) 12) bytes_notes
        ∙ note_at (asides_of_lem x) (front_of x ++ (rows_of x ++ zeros_of x)) (end_of x) 36888 notes_start j d l

    entry_is : (j : ℕ) (d : Entry) → j < length (entries_of x) → base_entry (base_bytes x) j ≡ get_or (entries_of x) j d
    unfolding base_entry
    entry_is j d l =
        entry_back (base_bytes x) (24 + 72 * j) (get_or (entries_of x) j d) (all_get_d Sized (entries_of x) sized j d l) (entry_row_is j d l)

    aside_is : (j : ℕ) (d : Aside) → j < length (asides_of_lem x) → base_aside (base_bytes x) j ≡ get_or (asides_of_lem x) j d
    unfolding base_aside
    aside_is j d l = aside_back (base_bytes x) (36888 + 12 * j) (get_or (asides_of_lem x) j d) (aside-row j d l)

    entries_back : base_entries (base_bytes x) 0 (length (entries_of x)) ≡ entries_of x
    entries_back = entries_listed (base_bytes x) 0 (length (entries_of x))
        ∙ listed_is (base_entry (base_bytes x)) (entries_of x) 0 (λ j d l. let z : 0 + j ≡ j = omega arith in rw z (entry_is j d l))

    asides_back : base_asides (base_bytes x) 0 (length (asides_of_lem x)) ≡ asides_of_lem x
    asides_back = asides_listed (base_bytes x) 0 (length (asides_of_lem x))
        ∙ listed_is (base_aside (base_bytes x)) (asides_of_lem x) 0 (λ j d l. let z : 0 + j ≡ j = omega arith in rw z (aside_is j d l))

    pub tree_back : base_tree (base_bytes x) ≡ x.tree
    unfolding base_tree
    tree_back =
        let a = ap (λ (n : ℕ). base_entries (base_bytes x) 0 n) entries_count ∙ entries_back in
        let b = ap (λ (n : ℕ). base_asides (base_bytes x) 0 n) asides_count ∙ asides_back in
        λ i. record { entries = a i; asides = b i }

    -- what was laid in a base is read from it
    pub base_back : base_in (base_bytes x) ≡ x
    unfolding base_in
    base_back = λ i. record { list = list_back i; vector = base_vector_lem w.eight i; tree = tree_back i }

    -- ---- it is sound

    an_entry : Entry
    an_entry = record { made = 0; kind = 0; inside = 0; label = []; contents = 0; date = []; mark = []; placing = 0 }

    an_aside : Aside
    an_aside = record { who = 0; reason = 0; marked = 0; is_open = true }

    here : (i : ℕ) (d : Entry) → i < length (entries_of x) → is_present (get_or (entries_of x) i d) ≡ true
    here i d h = w.none-removed (get_or (entries_of x) i d) (get_d_has (entries_of x) i d h)

    kind_of : (e : Entry) → is_present e ≡ true → e.kind ≤ 2 → (e.kind ≡ 1) ⊎ (e.kind ≡ 2)
    unfolding is_present
    kind_of e p l =
        ⊎_elim
        (λ (z : e.kind ≡ 0). absurd (not_both (not (eqb e.kind 0)) p (rw (eq-eqb e.kind 0 z))))
        (λ (z : e.kind ≡ 0 → ⊥). ⊎_elim (λ (y : e.kind ≡ 1). inl y) (λ (y : e.kind ≡ 1 → ⊥). inr (omega arith)) (eq_or_ne e.kind 1))
        (eq_or_ne e.kind 0)

    entry_fits_lem : (i : ℕ) → i < length (entries_of x) → entry_row_fits (base_bytes x) i ≡ true
    unfolding entry_row_fits
    entry_fits_lem i h =
        let e = get_or (entries_of x) i an_entry in
        let f = all_get_d (EntryFits x.vector) (entries_of x) w.sound.entries_fit i an_entry h in
        rw (base_vector_lem w.eight)
        (entry-passes (base_bytes x) (24 + 72 * i) e (all_get_d Sized (entries_of x) sized i an_entry h) (entry_row_is i an_entry h) x.vector f
        (kind_of e (here i an_entry h) f.a_kind))

    aside_fits_lem : (i : ℕ) → i < length (asides_of_lem x) → aside_row_fits (base_bytes x) i ≡ true
    unfolding aside_row_fits
    aside_fits_lem i h =
        rw (base_vector_lem w.eight)
        (aside-passes (base_bytes x) (36888 + 12 * i) (get_or (asides_of_lem x) i an_aside) (aside-row i an_aside h) x.vector
        (all_get_d (AsideFits x.vector) (asides_of_lem x) w.sound.asides_fit i an_aside h))

    rest_blank_lem : rest_blank (base_bytes x) (length (entries_of x)) (length (asides_of_lem x)) ≡ true
    unfolding rest_blank
    rest_blank_lem =
        let a : part (base_bytes x) (24 + 72 * length (entries_of x)) (36864 - 72 * length (entries_of x)) ≡ zeros_of x =
        ap (λ (s : List ℕ). part s (24 + 72 * length (entries_of x)) (36864 - 72 * length (entries_of x))) bytes_zeros
        ∙ part_at (front_of x ++ rows_of x) (zeros_of x) (notes_of x ++ end_of x) (24 + 72 * length (entries_of x)) (36864 - 72 * length (entries_of x)) rows_end zeros-length in
        let b : part (base_bytes x) (36888 + 12 * length (asides_of_lem x)) (6144 - 12 * length (asides_of_lem x)) ≡ end_of x =
        ap (λ (s : List ℕ). part s (36888 + 12 * length (asides_of_lem x)) (6144 - 12 * length (asides_of_lem x))) bytes_end
        ∙ part_at ((front_of x ++ (rows_of x ++ zeros_of x)) ++ notes_of x) (end_of x) [] (36888 + 12 * length (asides_of_lem x)) (6144 - 12 * length (asides_of_lem x)) notes_end end_length in
        rw (a, b, blank-zeros (36864 - length (rows_of x)), blank-zeros (6144 - length (notes_of x)))

    plain : Plain (base_bytes x) (length (entries_of x)) (length (asides_of_lem x))
    plain =
        tree_plain
        x.vector
        (base_bytes x)
        (length (entries_of x))
        (length (asides_of_lem x))
        (rw (entries_back, asides_back) w.sound)
        (λ i h. rw (entry_is i an_entry h) (here i an_entry h))

    head_fits_lem : base_head_fits (base_bytes x) ≡ true
    unfolding base_head_fits
    head_fits_lem =
        rw (
          zero_byte,
          entries_count,
          le-leb (length (entries_of x)) 512 w.few_entries,
          asides_count,
          le-leb (length (asides_of_lem x)) 512 w.few_asides,
          zero_word,
        )

    rows_fit_is : rows_fit (base_bytes x) (length (entries_of x)) (length (asides_of_lem x)) ≡ true
    unfolding rows_fit
    rows_fit_is =
        rw (
          all_of (length (entries_of x)) (entry_row_fits (base_bytes x)) entry_fits_lem,
          all_of (length (asides_of_lem x)) (aside_row_fits (base_bytes x)) aside_fits_lem,
          rest_blank_lem,
        )

    pub base_sound : sound_base (base_bytes x) ≡ true
    unfolding sound_base
    base_sound =
        rw (
          entries_count,
          asides_count,
          head_fits_lem,
          rows_fit_is,
          ids_of (base_bytes x) (length (entries_of x)) (length (asides_of_lem x)) plain,
          names_of (base_bytes x) (length (entries_of x)) (length (asides_of_lem x)) plain,
        )
