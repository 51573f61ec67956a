-- Where a list names all records of a sound log, the table of positions has each of them, and the records that it gives are those of the
-- list, in its order.
-- Assumes nothing.
use Prim.Native.Nat.{ℕ, zero, suc, ◌+◌, ◌*◌, ◌≤◌, ◌<◌}
use native.Mathlib.Omega.{arith}
use mathlib.Core.Path.{◌≡◌, refl, sym, ap, ◌∙◌, subst}
use mathlib.Core.Logic.{◌⊎◌, inl, inr}
use mathlib.Core.Bool.{true}
use mathlib.Core.Option.{Option, some}
use mathlib.Core.List.{List, [], ◌∷◌}
use lib.ListN.{get_or, length}
use Rattle.model.specs.Record.{Rec, unit_of, number_of, unit}
use Rattle.model.specs.Log.{count, by_id, no_counts, records_of, sound_log}
use Rattle.byte_slice.proofs.Numbers.{eq_or_ne, and_true}
use Rattle.log_laws.specs.Members.{Has as Member}
use Rattle.log_laws.proofs.Counts.{unit_of_lem, no_counts_lem}
use Rattle.log_laws.proofs.Ids.{by_id_some}
use Rattle.encoding_laws.proofs.Logs.{sound_records, sound_few}
use Rattle.log_closure.specs.Tables.{Indexed}
use Rattle.log_admit.proofs.Counts.{count_few}
use Rattle.log_check.specs.declared.Layout.TheVariants.{Log}
use Rattle.log_check.specs.Places.{laid_at}
use Rattle.log_check.specs.InOrder.{listed}
use Rattle.order_model.specs.Order.{name_at, names_from, name_count, names_given, each_once, is_held, all_held, names_all, found_first, in_order_of}
use Rattle.order_laws.proofs.Marks.{held_number, held_head, once_length}
use Rattle.order_names.specs.Named.{Positions, place_named, named_at, Named}
use Rattle.order_names.proofs.Whole.{names-length}

name-held : (b : List ℕ) (l : List Rec) (i n j : ℕ) → all_held (names_from b i n) l ≡ true → i ≤ j → j < i + n → is_held (name_at b j) l ≡ true
unfolding names_from
name-held b l i zero j e h k = absurd (omega arith)
name-held b l i (suc n) j e h k = go (eq_or_ne j i) (held_head (name_at b i) (names_from b (suc i) n) l e) (λ w x. name-held b l (suc i) n j w x (omega arith))
  where
    go : (j ≡ i) ⊎ (j ≡ i → ⊥) → (is_held (name_at b i) l ≡ true) × (all_held (names_from b (suc i) n) l ≡ true)
        → (all_held (names_from b (suc i) n) l ≡ true → suc i ≤ j → is_held (name_at b j) l ≡ true) → is_held (name_at b j) l ≡ true
    go (inl q) p f = subst (λ (x : ℕ). is_held (name_at b x) l ≡ true) (sym q) p.0
    go (inr d) p f = f p.1 (omega arith)

-- what the check of a log leaves has the positions, where nothing is folded
pub indexed_positions : (log v held places seens : List ℕ) (n : ℕ) → v ≡ no_counts → Indexed v (laid_at Log log) n (records_of log) held places seens → Positions log places n
indexed_positions log v held places seens n z ix =
    record {
      long = ix.places_long;
      below = λ u c h f g. (ix.stands u c h f g).below;
      found = λ u c h f g.
          let b : get_or v u 0 ≡ 0 = rw z (no_counts_lem u) in
          let e : get_or v u 0 + c ≡ c = omega arith in
          rw e at (ix.stands u c h f g).found;
    }

module _ (log list places : List ℕ) (n : ℕ) (s : sound_log log ≡ true) (m : n ≡ length (records_of log)) (p : Positions log places n) (a : names_all (names_given list) (records_of log) ≡ true) where
  all_parts : (each_once (names_given list) (records_of log) ≡ true) × (all_held (names_given list) (records_of log) ≡ true)
  unfolding names_all
  all_parts = and_true (each_once (names_given list) (records_of log)) (all_held (names_given list) (records_of log)) a

  names-count : n ≡ name_count list
  unfolding names_given
  names-count = m ∙ sym (once_length (names_given list) (records_of log) (sound_records log s) all_parts.0 all_parts.1) ∙ names-length list 0 (name_count list)

  names_inside : (i : ℕ) → i < n → 4 * i < length list
  unfolding name_count
  names_inside i h = omega (arith, names-count)

  held_at : (i : ℕ) → i < n → is_held (name_at list i) (records_of log) ≡ true
  unfolding names_given
  held_at i h = name-held list (records_of log) 0 (name_count list) i all_parts.1 (omega arith) (omega (arith, names-count))

  number_at : (i : ℕ) → i < n → (1 ≤ number_of (name_at list i)) × (number_of (name_at list i) ≤ count (unit_of (name_at list i)) (records_of log))
  number_at i h = held_number (records_of log) (name_at list i) (sound_records log s) (held_at i h)

  found_at : (i : ℕ) → i < n → by_id (unit_of (name_at list i)) (number_of (name_at list i)) (records_of log) ≡ some (named_at log list places i)
  unfolding named_at place_named
  found_at i h = p.found (unit_of (name_at list i)) (number_of (name_at list i)) (omega arith) (number_at i h).0 (number_at i h).1

  pub is_named : Named list places n
  unfolding place_named
  is_named =
      record {
        table = p.long;
        bytes = names_inside;
        first = λ i h. (number_at i h).0;
        few = λ i h. omega (arith, (number_at i h).1, count_few (unit_of (name_at list i)) (records_of log), sound_few log);
        inside = λ i h. omega (arith, p.below (unit_of (name_at list i)) (number_of (name_at list i)) (omega arith) (number_at i h).0 (number_at i h).1, sound_few log);
      }

  pub named_member : (i : ℕ) → i < n → Member (named_at log list places i) (records_of log)
  named_member i h = (by_id_some (unit_of (name_at list i)) (number_of (name_at list i)) (records_of log) (named_at log list places i) (found_at i h)).0

  pub named-unit : (i : ℕ) → i < n → unit (named_at log list places i) < 8
  named-unit i h = unit_of_lem [] (records_of log) (named_at log list places i) (sound_records log s) (named_member i h)

  named_from : (i k : ℕ) → i + k ≤ n → listed (named_at log list places) i k ≡ in_order_of (names_from list i k) (records_of log)
  unfolding listed names_from in_order_of found_first
  named_from i zero h = refl
  named_from i (suc k) h =
      ap (λ (x : List Rec). named_at log list places i ∷ x) (named_from (suc i) k (omega arith))
      ∙ ap (λ (o : Option Rec). found_first o (in_order_of (names_from list (suc i) k) (records_of log))) (sym (found_at i (omega arith)))

  pub named_in_order : listed (named_at log list places) 0 n ≡ in_order_of (names_given list) (records_of log)
  unfolding names_given
  named_in_order = named_from 0 n (omega arith) ∙ ap (λ (x : ℕ). in_order_of (names_from list 0 x) (records_of log)) names-count
