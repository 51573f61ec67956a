-- A working table after one change: a row changed, an aside settled.
-- Assumes nothing.
use Prim.Native.Nat.{ℕ, zero, suc, ◌+◌, ◌-◌, ◌*◌, ◌<◌}
use native.Mathlib.Omega.{arith}
use mathlib.Core.Path.{◌≡◌, refl, ◌∙◌}
use mathlib.Core.List.{List, [], ◌∷◌}
use lib.ListN.{get_or, length, set, length-set}
use Rattle.model.specs.Bytes.{part, put_at}
use Rattle.model.specs.Replay.{Entry, Aside, Tree, is_disputed}
use Rattle.model.specs.Table.{entry_row, aside_row, work_bytes}
use Rattle.tree_table.specs.Rows.{Proper, AllProper}
use Rattle.tree_table.proofs.Writes.{set-entry, part-entry, set-aside, part-aside}
use Rattle.tree_table.proofs.Fields.{settled_one}
use Rattle.tree_lookup.specs.Roles.{row_from, note_from, row_of, note_of, role_of, name_of, MarksFit, Home, Works}
use Rattle.tree_maps.specs.Keys.{Keyed}
use Rattle.tree_maps.proofs.Counts.{made_set}
use Rattle.tree_lookup.proofs.Places.{row-set, note_set, lone_set}
use Rattle.tree_lookup.proofs.Working.{blank_entry, blank_aside}
use Rattle.tree_lookup.proofs.Names.{named-kept, named_same, who_set}
use Rattle.tree_lookup.proofs.Homes.{housed_map, housed_set}
use Rattle.tree_amend.specs.Effects.{with_entries, with_asides}

-- ---- proper entries, and marks that fit

proper_set : (l : List Entry) (i : ℕ) (e : Entry) → Proper e → AllProper l → AllProper (set l i e)
proper_set [] i e h p = tt
proper_set (x ∷ l) zero e h p = (h, p.1)
proper_set (x ∷ l) (suc i) e h p = (p.0, proper_set l i e h p.1)

marks_set : (l : List Aside) (i : ℕ) (d : Aside) → MarksFit l → MarksFit (set l i (settled_one (get_or l i d)))
marks_set [] i d p = tt
marks_set (a ∷ l) zero d p = p
marks_set (a ∷ l) (suc i) d p = (p.0, marks_set l i d p.1)

-- ---- the changes

module _ (b register : List ℕ) (n m : ℕ) (t : Tree) (w : Works b register n m t) where
  pub works_part : (i : ℕ) → i < n → part b (4 + 72 * i) 72 ≡ entry_row 0 (get_or t.entries i blank_entry)
  unfolding work_bytes is_disputed
  works_part i h =
      let rows = w.rows in
      let fit = w.rows_fit_lem in
      rw w.bytes (part-entry [] t.entries t.asides w.proper (omega arith) i blank_entry (omega arith))

  pub works_part_aside : (i : ℕ) → i < m → part b (73732 + 12 * i) 12 ≡ aside_row (get_or t.asides i blank_aside)
  unfolding work_bytes
  works_part_aside i h =
      let rows = w.rows in
      let notes = w.notes in
      let fit = w.rows_fit_lem in
      rw w.bytes (part-aside [] t.entries t.asides w.proper (omega arith) i blank_aside (omega arith))

  -- row i holds another entry of the same identity, and the register goes with it
  pub works_change : (i : ℕ) (e : Entry) (l : List ℕ) → i < n → e.made ≡ (get_or t.entries i blank_entry).made → Proper e
      → Home e.inside t.entries → length l ≡ length register → ((s : ℕ) → s < 4097 → get_or l s 0 ≡ get_or register s 0) → Keyed l n (set t.entries i e)
      → Works (put_at b (4 + 72 * i) (entry_row 0 e)) l n m (with_entries t (set t.entries i e))
  unfolding with_entries work_bytes is_disputed row_of note_of role_of name_of
  works_change i e l h q p home long low key =
      let es = t.entries in
      let as' = t.asides in
      let rows = w.rows in
      let fit = w.rows_fit_lem in
      let same : (k : ℕ) → row_from k 0 (set es i e) ≡ row_from k 0 es = λ k. row-set k 0 es i e blank_entry q in
      record {
        bytes = rw w.bytes (set-entry [] es as' w.proper (omega arith) i e (omega arith) p);
        rows = length-set es i e ∙ w.rows;
        notes = w.notes;
        rows_fit_lem = fit;
        notes_fit = w.notes_fit;
        proper = proper_set es i e p w.proper;
        lone = lone_set es i e blank_entry q w.lone;
        marks = w.marks;
        apart = λ k. rw (same k) (w.apart k);
        housed = housed_map es (set es i e) (set es i e) (λ k y. rw (same k) y) (housed_set es es i e home w.housed);
        named =
            named_same l t (with_entries t (set es i e)) (named-kept register l t w.named long low) (length-set es i e) refl (λ k. rw (same k))
            (λ r. rw (made_set es i e blank_entry q (r - 1)));
        keyed = key;
      }

  -- an aside is settled
  pub works_settle : (i : ℕ) → i < m
      → Works
      (put_at b (73732 + 12 * i) (aside_row (settled_one (get_or t.asides i blank_aside))))
      register
      n
      m
      (with_asides t (set t.asides i (settled_one (get_or t.asides i blank_aside))))
  unfolding with_asides work_bytes row_of note_of role_of name_of
  works_settle i h =
      let es = t.entries in
      let l = t.asides in
      let a = settled_one (get_or l i blank_aside) in
      let rows = w.rows in
      let notes = w.notes in
      let fit = w.rows_fit_lem in
      let same : (k : ℕ) → note_from k 0 (set l i a) ≡ note_from k 0 l = λ k. note_set k 0 l i a blank_aside refl in
      record {
        bytes = rw w.bytes (set-aside [] es l w.proper (omega arith) i a (omega arith));
        rows = w.rows;
        notes = length-set l i a ∙ w.notes;
        rows_fit_lem = fit;
        notes_fit = w.notes_fit;
        proper = w.proper;
        lone = w.lone;
        marks = marks_set l i blank_aside w.marks;
        apart = λ k. rw (same k) (w.apart k);
        housed = w.housed;
        named =
            named_same register t (with_asides t (set l i a)) w.named refl (length-set l i a) (λ k. rw (same k))
            (λ r. rw (who_set l i a blank_aside refl (r - 1025)));
        keyed = w.keyed;
      }
