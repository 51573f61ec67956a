-- What each way out of listing a file answers and leaves, over plain values.
-- Assumes nothing.
use Prim.Native.Nat.{ℕ, ◌+◌, ◌≤◌, ◌<◌}
use native.Mathlib.Omega.{arith}
use mathlib.Core.Path.{◌≡◌, sym, ap, ap₂, ◌∙◌}
use mathlib.Core.Logic.{⊎_elim}
use mathlib.Core.Bool.{true, false}
use mathlib.Core.List.{List, ◌++◌}
use lib.Dec.{eqb}
use lib.ListN.{length, replicate}
use borrow.Author.Tests.{eq-eqb, ne_eqb}
use Rattle.model.specs.Bytes.{word}
use Rattle.model.specs.Log.{records_of}
use Rattle.model.specs.Table.{table_bytes}
use Rattle.model.specs.File.{block_at}
use Rattle.model.specs.Block.{vector_in}
use Rattle.model.specs.Listing.{head_line, seen_line, tree_lines, refused_line}
use Rattle.base_model.specs.Base.{sound_state, held_on, tree_of}
use Rattle.call_model.specs.Read.{ReadBack, not_read, read_back}
use Rattle.call_model.specs.Outcome.{Outcome, outcome, show_of}
use Rattle.sab2_model.specs.Sab2.{is_sab2, either_fault}
use Rattle.sab2_model.specs.Calls.{read_sab2, read_either, read_either_of, either_listing, listed, listing_lent, listed_read, either_listed}
use Rattle.byte_slice.proofs.Numbers.{bool_cases}
use Rattle.call_laws.specs.Keeps.{Good}
use Rattle.call_laws.proofs.Calls.{guarded-passes}
use Rattle.sab2_laws.specs.Listed.{state_lines, Listed}
use Rattle.sab2_laws.proofs.Calls.{read_accepted}
use Rattle.sab2_laws.proofs.Listing as State
use Rattle.listing_laws.proofs.Rows.{entries_counted, asides_counted}
use Rattle.listing_laws.proofs.Lines.{refused_line_length}
use Rattle.listing_laws.proofs.Claims.{entries_few, asides_few, state_lines_fit, unit_read}
use Rattle.state_tree.specs.Small.{Small}
use Rattle.line_text.specs.Written.{Wrote}
use Rattle.read_file_check.specs.Outcome.{read_back_of}
use Rattle.listing.specs.Lists.{Lists}

-- ---- a lent length that is wrong

module _ (f log base tree text : List ℕ) (n p k : ℕ) (one : (n ≡ 1) × (p ≡ 0) × (k ≡ 0)) where
  pub wrong_log : (length log ≡ 40960 → ⊥) → listed n p k log base tree text ≡ either_listed f log base tree text
  unfolding either_listed listing_lent
  wrong_log a = rw (one.0, one.1, one.2, ne_eqb (length log) 40960 a)

  pub wrong_base : length log ≡ 40960 → (length base ≡ 43032 → ⊥) → listed n p k log base tree text ≡ either_listed f log base tree text
  unfolding either_listed listing_lent
  wrong_base a b = rw (one.0, one.1, one.2, eq-eqb (length log) 40960 a, ne_eqb (length base) 43032 b)

  pub wrong_tree : length log ≡ 40960 → length base ≡ 43032 → (length tree ≡ 86020 → ⊥) → listed n p k log base tree text ≡ either_listed f log base tree text
  unfolding either_listed listing_lent
  wrong_tree a b c = rw (one.0, one.1, one.2, eq-eqb (length log) 40960 a, eq-eqb (length base) 43032 b, ne_eqb (length tree) 86020 c)

  pub wrong_text : length log ≡ 40960 → length base ≡ 43032 → length tree ≡ 86020 → (length text ≡ 172544 → ⊥)
      → listed n p k log base tree text ≡ either_listed f log base tree text
  unfolding either_listed listing_lent
  wrong_text a b c d =
      rw (one.0, one.1, one.2, eq-eqb (length log) 40960 a, eq-eqb (length base) 43032 b, eq-eqb (length tree) 86020 c, ne_eqb (length text) 172544 d)

-- ---- the lines of a sound state

module _ (log base tree' : List ℕ) (table_is : tree' ≡ table_bytes (tree_of log base)) where
  module _ (long : length log ≡ 40960) (based : length base ≡ 43032) (sound : sound_state log base ≡ true) where
    good : Good log base
    good = record { long = (long, based); sound = sound }

    pub few_entries : word tree' 0 ≤ 1024
    few_entries = rw table_is (omega (arith, entries_counted (tree_of log base), entries_few log base good))

    pub few_asides : word tree' 2 ≤ 1024
    few_asides = rw table_is (omega (arith, asides_counted (tree_of log base), asides_few log base good))

    module _ (archive u n : ℕ) (v : List ℕ) (low : u ≤ 7) (count : n ≡ length (records_of log)) (held : v ≡ held_on log base) (small : Small v) where
      lines_length : length (head_line archive u n ++ (seen_line v ++ tree_lines tree')) ≤ 172123
      unfolding state_lines
      lines_length = rw (table_is, count, held) (state_lines_fit log base good (rw held at small.at) archive u low)

      pub lines_room : (text : List ℕ) → length text ≡ 172544 → length (head_line archive u n ++ (seen_line v ++ tree_lines tree')) ≤ length text
      lines_room text e = omega (arith, lines_length)

      pub lines_small : {text text' : List ℕ} {r : ℕ} → Wrote text text' 0 r (head_line archive u n ++ (seen_line v ++ tree_lines tree')) → r < 4294967296
      lines_small w = omega (arith, lines_length, w.next)

  pub state_listed : {archive u n : ℕ} {v text text' : List ℕ} {r : ℕ} → n ≡ length (records_of log) → v ≡ held_on log base
      → Wrote text text' 0 r (head_line archive u n ++ (seen_line v ++ tree_lines tree')) → Lists archive u log base tree' text text' r
  unfolding state_lines
  state_listed c h w = record { table = table_is; lines = rw (← c, ← h, ← table_is) w }

-- ---- the line of a refused file

pub refused_fits : (n p : ℕ) (text : List ℕ) → length text ≡ 172544 → 0 + length (refused_line n p) ≤ length text
refused_fits n p text e = omega (arith, refused_line_length n p)

pub refused_small : {text text' : List ℕ} {r : ℕ} (n p : ℕ) → Wrote text text' 0 r (refused_line n p) → r < 4294967296
refused_small n p w = omega (arith, refused_line_length n p, w.next)

pub refused_same : {text text' : List ℕ} {r m n p q : ℕ} → m ≡ n → q ≡ p → Wrote text text' 0 r (refused_line m q) → Wrote text text' 0 r (refused_line n p)
refused_same e f w = rw (← e, ← f) w

pub table_cleared : (tree : List ℕ) {o : List ℕ} → length tree ≡ 86020 → o ≡ replicate (length tree) 0 → o ≡ replicate 86020 0
table_cleared tree h e = e ∙ rw h

-- ---- what reading leaves, of either form

module _ (f : List ℕ) where
  place_read : (read_either f).place ≡ 0
  unfolding read_either read_sab2 read_back
  place_read = ⊎_elim (λ (s : is_sab2 f ≡ true). rw s) (λ (s : is_sab2 f ≡ false). rw s) (bool_cases (is_sab2 f))

  vector_read : (read_either f).vector ≡ vector_in (block_at f 0)
  unfolding read_either read_sab2 read_back
  vector_read = ⊎_elim (λ (s : is_sab2 f ≡ true). rw s) (λ (s : is_sab2 f ≡ false). rw s) (bool_cases (is_sab2 f))

-- the line of a file that is not read
refused_is : (log base f : List ℕ) → length log ≡ 40960 → length base ≡ 43032 → ((read_either_of log base f).number ≡ 0 → ⊥)
    → either_listing f ≡ refused_line (read_either_of log base f).number (read_either_of log base f).place
unfolding read_either_of read_either read_sab2 read_back not_read either_listing
refused_is log base f long based bad =
    ⊎_elim
    (λ (c : eqb (either_fault f).number 0 ≡ true). absurd (bad (number_none c)))
    (λ (c : eqb (either_fault f).number 0 ≡ false). rw (eq-eqb (length log) 40960 long, eq-eqb (length base) 43032 based, c))
    (bool_cases (eqb (either_fault f).number 0))
  where
    number_none : eqb (either_fault f).number 0 ≡ true → (read_either_of log base f).number ≡ 0
    number_none c =
        ⊎_elim
        (λ (s : is_sab2 f ≡ true). rw (eq-eqb (length log) 40960 long, eq-eqb (length base) 43032 based, c, s))
        (λ (s : is_sab2 f ≡ false). rw (eq-eqb (length log) 40960 long, eq-eqb (length base) 43032 based, c, s))
        (bool_cases (is_sab2 f))

-- the table of a good state
shows : (log base lent : List ℕ) → Good log base → length lent ≡ 86020 → (show_of log base lent).lent ≡ table_bytes (tree_of log base)
unfolding show_of
shows log base lent g n =
    ap (λ (o : Outcome). o.lent)
    (guarded-passes 0 log base lent (eqb (length lent) 86020) (outcome 0 0 log (table_bytes (tree_of log base)) 0) (eq-eqb (length lent) 86020 n) (omega arith) g)

-- ---- listing a file

module _ (f log base tree text log' base' v : List ℕ) (n p a u k : ℕ) (back : read_back_of n p a u k v log' base' ≡ read_either_of log base f)
    (long : length log ≡ 40960) (based : length base ≡ 43032) (wide : length tree ≡ 86020) (room : length text ≡ 172544) where
  whole : listing_lent log base tree text ≡ true
  unfolding listing_lent
  whole = rw (eq-eqb (length log) 40960 long, eq-eqb (length base) 43032 based, eq-eqb (length tree) 86020 wide, eq-eqb (length text) 172544 room)

  number_is : n ≡ (read_either_of log base f).number
  number_is = ap (λ (x : ReadBack). x.number) back

  -- a refused file leaves log and base, and the table is cleared
  pub refused_left : {tree' text' : List ℕ} {r : ℕ} → (n ≡ 0 → ⊥) → tree' ≡ replicate 86020 0 → Wrote text text' 0 r (refused_line n p)
      → listed n p r log' base' tree' text' ≡ either_listed f log base tree text
  unfolding either_listed listed_read
  refused_left {tree'} {text'} {r} bad clear w =
      let bad' : (read_either_of log base f).number ≡ 0 → ⊥ = λ z. bad (number_is ∙ z) in
      let e : refused_line n p ≡ either_listing f =
      ap₂ refused_line number_is (ap (λ (x : ReadBack). x.place) back) ∙ sym (refused_is log base f long based bad') in
      let size : r ≡ length (either_listing f) = w.next ∙ rw e (omega arith) in
      rw (whole, ne_eqb (read_either_of log base f).number 0 bad', ← back, clear, size, w.bytes, e)

  module _ (z : n ≡ 0) where
    faultless : (either_fault f).number ≡ 0
    faultless = (read_accepted log base f (sym number_is ∙ z)).0

    reads : read_back_of n p a u k v log' base' ≡ read_either f
    reads = back ∙ (read_accepted log base f (sym number_is ∙ z)).1

    state : Listed f
    state = State.listed f faultless

    log_is : log' ≡ (read_either f).log
    log_is = ap (λ (x : ReadBack). x.log) reads

    base_is : base' ≡ (read_either f).base
    base_is = ap (λ (x : ReadBack). x.base) reads

    -- what is left is a sound state of the stated lengths, with so many records and this vector
    good_left : Good log' base'
    good_left = rw (log_is, base_is) state.good

    pub long-left : length log' ≡ 40960
    long-left = good_left.long.0

    pub based_left : length base' ≡ 43032
    based_left = good_left.long.1

    pub sound_left : sound_state log' base' ≡ true
    sound_left = good_left.sound

    pub count_left : k ≡ length (records_of log')
    count_left = rw log_is (ap (λ (x : ReadBack). x.records) reads ∙ state.counted)

    pub held-left : v ≡ held_on log' base'
    held-left = rw (log_is, base_is) (ap (λ (x : ReadBack). x.vector) reads ∙ (vector_read f ∙ sym state.vector))

    pub unit_left : u ≤ 7
    unit_left = rw (ap (λ (x : ReadBack). x.sender) reads) (unit_read f faultless)

    lines_are : state_lines a u log' base' ≡ either_listing f
    lines_are = ap (λ (x : ReadBack). state_lines x.archive x.sender x.log x.base) reads ∙ sym state.lines

    place_none : p ≡ 0
    place_none = ap (λ (x : ReadBack). x.place) reads ∙ place_read f

    pub accepted_left : {tree' text' : List ℕ} {r : ℕ} → Lists a u log' base' tree' text text' r
        → listed 0 0 r log' base' tree' text' ≡ either_listed f log base tree text
    unfolding either_listed listed_read
    accepted_left {tree'} {text'} {r} w =
        let size : r ≡ length (either_listing f) = w.lines.next ∙ rw lines_are (omega arith) in
        let t : tree' ≡ (show_of log' base' tree).lent = w.table ∙ sym (shows log' base' tree good_left wide) in
        rw (whole, ← back, z, place_none, t, size, w.lines.bytes, lines_are)
