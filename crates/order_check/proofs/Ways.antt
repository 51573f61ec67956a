-- The ways out of checking an order, over plain values.
-- Assumes nothing.
use Prim.Native.Nat.{ℕ, zero, suc, ◌≤◌}
use native.Mathlib.Omega.{arith}
use mathlib.Core.Path.{◌≡◌, refl, sym, ◌∙◌}
use mathlib.Core.Bool.{Bool, true, false, not}
use mathlib.Core.List.{List}
use lib.Dec.{eqb}
use lib.ListN.{length, replicate}
use borrow.Author.Tests.{eqb-true, not-true, not-false}
use Rattle.model.specs.Bytes.{blank}
use Rattle.model.specs.Record.{Rec}
use Rattle.model.specs.Log.{no_counts, vector_of, records_of, sound_log}
use Rattle.model.specs.Replay.{empty_tree, replay}
use Rattle.model.specs.Table.{table_bytes}
use Rattle.base_model.specs.Base.{base_vector}
use Rattle.call_model.specs.Outcome.{guard_number, whole_number}
use Rattle.order_model.specs.Order.{names_given, each_once, all_held, names_all, in_order_of, seen_first, shown_alike, failed_of, Ordered, ordered, judged_order, order_lent, order_number, or_ordered, order_of}
use Rattle.byte_slice.proofs.Numbers.{and_true, first_stops}
use Rattle.log_laws.proofs.Tests.{vector_on-none}
use Rattle.encoding_laws.proofs.Logs.{sound_records, sound_few}
use Rattle.log_closure.specs.Tables.{Indexed}
use Rattle.log_check.specs.declared.Layout.TheVariants.{Log}
use Rattle.log_check.specs.Places.{laid_at}
use Rattle.log_check.specs.InOrder.{listed}
use Rattle.log_check.proofs.Lists.{listed-length}
use Rattle.tree_laws.specs.Replayed.{Distinct, selves}
use Rattle.tree_laws.proofs.Seen.{sound_distinct}
use Rattle.tree_replay.specs.Playable.{Playable}
use Rattle.base_head.specs.Head.{headed}
use Rattle.call_guard.specs.Opened.{opened, open_of}
use Rattle.call_guard.proofs.Opening.{number_is, open_lent, open_sound, open_held, open_folded}
use Rattle.order_laws.specs.Marking.{covers_each}
use Rattle.order_laws.proofs.Marks.{names_apart}
use Rattle.order_laws.proofs.Running.{in_order_distinct, in_order_named, seen_by_counts}
use Rattle.order_laws.proofs.Folded.{no_vector}
use Rattle.order_names.specs.Named.{Positions, named_at, Named}
use Rattle.order_names.proofs.Placed.{indexed_positions, is_named, named_member, named-unit, named_in_order}
use Rattle.order_seen.specs.Units.{Units}
use Rattle.order_tree.proofs.Playing.{order_playable}
use Rattle.order_rows.specs.Compared.{tables_alike, Table}
use Rattle.order_rows.proofs.Tables.{Showing, shows-table, alike_is, replay_showing}
use Rattle.order_check.specs.Given.{Given}

-- ---- the lent tables

module _ (ours theirs : List ℕ) where
  both_lent : order_lent ours theirs ≡ true → (length ours ≡ 86020) × (length theirs ≡ 86020)
  both_lent h =
      let (a, b) = and_true (eqb (length ours) 86020) (eqb (length theirs) 86020) h in
      (eqb-true (length ours) 86020 a, eqb-true (length theirs) 86020 b)

-- ---- a list that meets the first condition

module _ (log list places : List ℕ) (n : ℕ) (w : Given log list places n) where
  abbrev l : List Rec
  l = records_of log

  abbrev m : List Rec
  m = in_order_of (names_given list) l

  pub given_long : length log ≡ 40960
  given_long = w.long

  pub given_sound : sound_log log ≡ true
  given_sound = w.sound

  pub given_used : n ≡ length (records_of log)
  given_used = w.used

  pub given_few : n ≤ 512
  given_few = omega (arith, w.used, sound_few log)

  pub given_named : Named list places n
  given_named = is_named log list places n w.sound w.used w.table w.names

  pub given_units : Units log list places n
  given_units = record { small = named-unit log list places n w.sound w.used w.table w.names }

  in_order : listed (named_at log list places) 0 n ≡ in_order_of (names_given list) (records_of log)
  in_order = named_in_order log list places n w.sound w.used w.table w.names

  distinct : Distinct (selves (in_order_of (names_given list) (records_of log)))
  unfolding names_all
  distinct =
      let (a, b) = and_true (each_once (names_given list) l) (all_held (names_given list) l) w.names in
      in_order_distinct (names_given list) l (names_apart (names_given list) l a b)

  pub given_playable : Playable empty_tree (named_at log list places) n
  given_playable =
      order_playable (named_at log list places) n l (sound_records log w.sound) (sound_few log)
      (named_member log list places n w.sound w.used w.table w.names)
      (rw in_order distinct)

  pub given_seen : (r : Bool) → r ≡ covers_each (replicate 8 0) (listed (named_at log list places) 0 n) → r ≡ seen_first (in_order_of (names_given list) (records_of log))
  given_seen r e = (rw in_order at e) ∙ sym (seen_by_counts l (sound_records log w.sound) (names_given list) w.names)

  -- ---- the two tables

  pub given_other : (b : List ℕ) → b ≡ table_bytes (replay (listed (named_at log list places) 0 n)) → b ≡ table_bytes (replay (in_order_of (names_given list) (records_of log)))
  given_other b e = rw in_order at e

  ours_shows : Showing (replay (records_of log))
  ours_shows =
      let s = sound_records log w.sound in
      replay_showing l l s (sound_few log) (λ r i. i) (sound_distinct l s) (sound_few log)

  theirs_few : length (in_order_of (names_given list) (records_of log)) ≤ 512
  theirs_few = rw (← in_order, listed-length (named_at log list places) 0 n) given_few

  theirs_shows : Showing (replay (in_order_of (names_given list) (records_of log)))
  theirs_shows =
      replay_showing l m (sound_records log w.sound) (sound_few log) (λ r i. (in_order_named (names_given list) l r i).0) distinct theirs_few

  pub ours_table : (a : List ℕ) → a ≡ table_bytes (replay (records_of log)) → Table a
  ours_table a e = rw e (shows-table (replay (records_of log)) ours_shows)

  pub theirs_table : (b : List ℕ) → b ≡ table_bytes (replay (listed (named_at log list places) 0 n)) → Table b
  theirs_table b e = rw (given_other b e) (shows-table (replay (in_order_of (names_given list) (records_of log))) theirs_shows)

  pub given_alike : (a b : List ℕ) → a ≡ table_bytes (replay (records_of log)) → b ≡ table_bytes (replay (listed (named_at log list places) 0 n)) → (r : Bool) → r ≡ tables_alike a b
      → r ≡ shown_alike (replay (records_of log)) (replay (in_order_of (names_given list) (records_of log)))
  given_alike a b e f r q = q ∙ rw (e, given_other b f) (alike_is (replay (records_of log)) (replay (in_order_of (names_given list) (records_of log))) ours_shows theirs_shows)

-- ---- the conditions

pub judged_names : (ks : List ℕ) (l : List Rec) (ours theirs : List ℕ) (t : Bool) → t ≡ names_all ks l → not t ≡ true → ordered 0 0 1 ours theirs ≡ judged_order ks l ours theirs
unfolding judged_order failed_of
judged_names ks l ours theirs t e z = let f : names_all ks l ≡ false = sym e ∙ not-true t z in rw f

module _ (log list places ours theirs : List ℕ) (n : ℕ) (w : Given log list places n) (t : Bool) (e : t ≡ seen_first (in_order_of (names_given list) (records_of log))) where
  pub judged_seen : not t ≡ true → ordered 0 0 2 ours theirs ≡ judged_order (names_given list) (records_of log) ours theirs
  unfolding judged_order failed_of
  judged_seen z =
      let f : seen_first (in_order_of (names_given list) (records_of log)) ≡ false = sym e ∙ not-true t z in
      rw (w.names, f)

  module _ (z : not t ≡ false) (a b : List ℕ) (r : Bool) (q : r ≡ shown_alike (replay (records_of log)) (replay (in_order_of (names_given list) (records_of log)))) (x : a ≡ table_bytes (replay (records_of log))) (y : b ≡ table_bytes (replay (in_order_of (names_given list) (records_of log)))) where
    seen : seen_first (in_order_of (names_given list) (records_of log)) ≡ true
    seen = sym e ∙ not-false t z

    pub judged_differ : not r ≡ true → ordered 0 0 3 a b ≡ judged_order (names_given list) (records_of log) ours theirs
    unfolding judged_order failed_of
    judged_differ k = rw (x, y, w.names, seen, ← q, not-true r k)

    pub judged_alike : not r ≡ false → ordered 0 0 0 a b ≡ judged_order (names_given list) (records_of log) ours theirs
    unfolding judged_order failed_of
    judged_alike k = rw (x, y, w.names, seen, ← q, not-false r k)

pub names_given_lem : (log list places : List ℕ) (n : ℕ) (t : Bool) → length log ≡ 40960 → sound_log log ≡ true → n ≡ length (records_of log) → Positions log places n → t ≡ names_all (names_given list) (records_of log) → not t ≡ false → Given log list places n
names_given_lem log list places n t a b c d e z = record { long = a; sound = b; used = c; table = d; names = sym e ∙ not-false t z }

-- ---- the call

or_stops : (n : ℕ) (ours theirs : List ℕ) (o : Ordered) → (n ≡ 0 → ⊥) → ordered n 0 0 ours theirs ≡ or_ordered n ours theirs o
or_stops zero ours theirs o z = absurd (z refl)
or_stops (suc n) ours theirs o z = refl

-- an opening, whatever was lent
module _ (log base : List ℕ) (lent : Bool) {n m k j used : ℕ} {folded held : List ℕ} (e : opened n (headed m folded k j) held used ≡ open_of 0 log base lent true) (z : n ≡ 0) (t : Bool) (c : t ≡ blank folded) where
  none : blank (base_vector base) ≡ t
  none = sym (rw (open_folded 0 log base lent true e z) at c)

  module _ (h : t ≡ true) where
    plain : base_vector base ≡ no_counts
    plain = no_vector base (none ∙ h)

    pub order_sound : sound_log log ≡ true
    unfolding sound_log
    order_sound = rw plain at (open_sound 0 log base lent true e z)

    pub order_held : held ≡ vector_of (records_of log)
    order_held = open_held 0 log base lent true e z ∙ rw plain (vector_on-none (records_of log))

    pub order_places : (places seens : List ℕ) → Indexed (base_vector base) (laid_at Log log) used (records_of log) held places seens → Positions log places used
    order_places places seens f = indexed_positions log (base_vector base) held places seens used plain f

module _ (log base ours theirs : List ℕ) {n m k j used : ℕ} {folded held : List ℕ} (e : opened n (headed m folded k j) held used ≡ open_of 0 log base (order_lent ours theirs) true) where
  guard : n ≡ guard_number 0 log base (order_lent ours theirs) true
  guard = number_is 0 log base (order_lent ours theirs) true e

  pub order_refused : (list : List ℕ) → (n ≡ 0 → ⊥) → ordered n 0 0 ours theirs ≡ order_of log base list ours theirs
  unfolding order_of order_number
  order_refused list z =
      rw (← guard, first_stops n (whole_number (base_vector base)) z) (or_stops n ours theirs (judged_order (names_given list) (records_of log) ours theirs) z)

  module _ (z : n ≡ 0) where
    pub order_lent_lem : (length ours ≡ 86020) × (length theirs ≡ 86020)
    order_lent_lem = both_lent ours theirs (open_lent 0 log base (order_lent ours theirs) true e z)

    module _ (t : Bool) (c : t ≡ blank folded) where
      whole : blank (base_vector base) ≡ t
      whole = none log base (order_lent ours theirs) e z t c

      pub order_folded : (list : List ℕ) → t ≡ false → ordered 29 0 0 ours theirs ≡ order_of log base list ours theirs
      unfolding order_of order_number
      order_folded list h = rw (← guard, z, whole, h)

      pub order_passes : t ≡ true → (list : List ℕ) (o : Ordered) → o ≡ judged_order (names_given list) (records_of log) ours theirs → o ≡ order_of log base list ours theirs
      unfolding order_of order_number
      order_passes h list o q = q ∙ rw (← guard, z, whole, h)
