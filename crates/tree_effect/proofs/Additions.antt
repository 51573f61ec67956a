-- A working table after a row more: a new entry, a new aside.
-- Assumes nothing.
use Prim.Native.Nat.{ℕ, ◌+◌, ◌-◌, ◌*◌, ◌≤◌, ◌<◌}
use native.Mathlib.Omega.{arith}
use mathlib.Core.Path.{◌≡◌, refl, sym, ◌∙◌}
use mathlib.Core.Logic.{◌⊎◌, inl, inr, ⊎_elim}
use mathlib.Core.Bool.{true}
use mathlib.Core.List.{List, [], ◌∷◌, ◌++◌}
use lib.ListN.{length, length-append}
use Rattle.model.specs.Bytes.{put_at}
use Rattle.model.specs.Replay.{Entry, Aside, Tree, is_present, is_disputed}
use Rattle.model.specs.Table.{entry_row, aside_row, flagged, work_bytes}
use Rattle.byte_slice.proofs.Numbers.{eq_or_ne}
use Rattle.tree_table.specs.Rows.{InRange, Proper, AllProper}
use Rattle.tree_table.proofs.Writes.{add-entry, add-aside}
use Rattle.tree_lookup.specs.Roles.{row_from, note_from, row_of, note_of, behind_rows, role_of, name_of, HasRole, Named, MarksFit, Home, Works}
use Rattle.hash_chains.specs.Chains.{nodes_in}
use Rattle.tree_maps.specs.Keys.{folder_at, named, entered}
use Rattle.tree_maps.proofs.Counts.{made_more, made_new}
use Rattle.tree_maps.proofs.Keeping.{keyed_beside, keyed_made, named-long, named-behind, named_labels, entered-before, entered-long}
use Rattle.tree_lookup.proofs.Places.{row_absent, row_more, row_new, note_more, note_new, lone_more}
use Rattle.tree_lookup.proofs.Working.{behind_cases}
use Rattle.tree_lookup.proofs.Names.{row_few, role_within, name-row, name_note, who_more, who_new, named-kept, named_more}
use Rattle.tree_lookup.proofs.Homes.{place_folder, one_each, new_empty, home_other, housed_new}
use Rattle.tree_amend.specs.Effects.{with_entries, with_asides}

-- ---- proper entries, and marks that fit

proper_more : (l : List Entry) (e : Entry) → Proper e → AllProper l → AllProper (l ++ (e ∷ []))
proper_more [] e h p = (h, tt)
proper_more (x ∷ l) e h p = (p.0, proper_more l e h p.1)

marks_more : (l : List Aside) (a : Aside) → (a.marked ≡ 0) ⊎ InRange a.marked → MarksFit l → MarksFit (l ++ (a ∷ []))
marks_more [] a h p = (h, tt)
marks_more (x ∷ l) a h p = (p.0, marks_more l a h p.1)

-- ---- an identity that is new

module _ (k : ℕ) (t : Tree) (fresh : role_of k t ≡ 0) where
  pub fresh-row : row_of k t ≡ 0
  unfolding role_of
  fresh-row = omega arith

  pub fresh_note : note_of k t ≡ 0
  unfolding role_of
  fresh_note =
      ⊎_elim (λ (y : (note_of k t ≡ 0) × (behind_rows (note_of k t) ≡ 0)). y.0)
      (λ (y : (1 ≤ note_of k t) × (behind_rows (note_of k t) ≡ 1024 + note_of k t)). absurd (omega (arith, y.1)))
      (behind_cases (note_of k t))

-- ---- the roles

module _ (register : List ℕ) (t : Tree) (w : Named register t) (fit : length t.entries ≤ 1024) (apart : (k : ℕ) → (row_of k t ≡ 0) ⊎ (note_of k t ≡ 0)) (both : length t.entries + length t.asides < 1536) where
  -- a new entry is found by its role
  pub named_make : (e : Entry) → length t.entries < 1024 → role_of e.made t ≡ 0
      → Named (named register e.made (length t.entries + 1)) (with_entries t (t.entries ++ (e ∷ [])))
  unfolding with_entries row_of note_of role_of behind_rows
  named_make e h fresh =
      let es = t.entries in
      let n = length es in
      let k = e.made in
      let nr : row_from k 0 es ≡ 0 = fresh-row k t fresh in
      let nn : note_from k 0 t.asides ≡ 0 = fresh_note k t fresh in
      let u = with_entries t (es ++ (e ∷ [])) in
      let more : length (es ++ (e ∷ [])) ≡ n + 1 = length-append es (e ∷ []) in
      let new : role_of k u ≡ n + 1 = rw (row_new k 0 es e nr refl, nn) (omega arith) in
      let is : name_of u (n + 1) ≡ k = name-row u (n + 1) (omega arith) ∙ (let z : n + 1 - 1 ≡ length es = omega arith in rw z (made_new es e)) in
      let others : (j : ℕ) → (j ≡ k → ⊥) → role_of j u ≡ role_of j t = λ j q. rw (row_more j 0 es e (λ (z : k ≡ j). q (sym z))) in
      let names : (r : ℕ) → HasRole t r → name_of u r ≡ name_of t r =
      λ r q.
      ⊎_elim
      (λ (z : r ≤ length es). name-row u r (omega arith) ∙ made_more es e (r - 1) (omega (arith, q.0)) ∙ sym (name-row t r (omega arith)))
      (λ (z : 1024 < r). name_note u r z ∙ sym (name_note t r z))
      (role_within t fit apart r q).within in
      named_more register t u k (n + 1) w (omega (arith, w.count)) fresh new (omega arith) is others names (omega arith)

  -- and so is a new aside
  pub named-aside : (a : Aside) → role_of a.who t ≡ 0
      → Named (named register a.who (1025 + length t.asides)) (with_asides t (t.asides ++ (a ∷ [])))
  unfolding with_asides row_of note_of role_of behind_rows
  named-aside a fresh =
      let es = t.entries in
      let l = t.asides in
      let m = length l in
      let k = a.who in
      let nr : row_from k 0 es ≡ 0 = fresh-row k t fresh in
      let nn : note_from k 0 l ≡ 0 = fresh_note k t fresh in
      let u = with_asides t (l ++ (a ∷ [])) in
      let more : length (l ++ (a ∷ [])) ≡ m + 1 = length-append l (a ∷ []) in
      let new : role_of k u ≡ 1025 + m = rw (nr, note_new k 0 l a nn refl) (omega arith) in
      let is : name_of u (1025 + m) ≡ k = name_note u (1025 + m) (omega arith) ∙ (let z : 1025 + m - 1025 ≡ length l = omega arith in rw z (who_new l a)) in
      let others : (j : ℕ) → (j ≡ k → ⊥) → role_of j u ≡ role_of j t = λ j q. rw (note_more j 0 l a (λ (z : k ≡ j). q (sym z))) in
      let names : (r : ℕ) → HasRole t r → name_of u r ≡ name_of t r =
      λ r q.
      ⊎_elim (λ (z : r ≤ length es). name-row u r (omega arith) ∙ sym (name-row t r (omega arith)))
      (λ (z : 1024 < r). name_note u r z ∙ who_more l a (r - 1025) (omega (arith, (role_within t fit apart r q).most)) ∙ sym (name_note t r z))
      (role_within t fit apart r q).within in
      named_more register t u k (1025 + m) w (omega (arith, w.count)) fresh new (omega arith) is others names (omega arith)

-- ---- the rows

module _ (b register : List ℕ) (n m : ℕ) (t : Tree) (w : Works b register n m t) where
  -- a row for a new entry
  pub works_make : (e : Entry) (p : ℕ) → n < 1024 → n + m < 1536 → nodes_in 4097 register < 1536 → Proper e → is_present e ≡ true → role_of e.made t ≡ 0
      → Home e.inside t.entries → p ≡ row_of e.inside t
      → Works (put_at b (4 + 72 * n) (entry_row 0 e)) (entered (named register e.made (n + 1)) p e.inside e.label n) (n + 1) m (with_entries t (t.entries ++ (e ∷ [])))
  unfolding with_entries work_bytes is_disputed row_of note_of role_of behind_rows
  works_make e p h both room fit here fresh home place =
      let es = t.entries in
      let l = t.asides in
      let k = e.made in
      let rows = w.rows in
      let notes = w.notes in
      let nr : row_from k 0 es ≡ 0 = fresh-row k t fresh in
      let nn : note_from k 0 l ≡ 0 = fresh_note k t fresh in
      let low = fit.range.low in
      let c = w.named.chains in
      let r0 : nodes_in 0 register < 1536 = omega (arith, w.named.count) in
      let l1 = named register k (n + 1) in
      let l2 = entered l1 p e.inside e.label n in
      let u = with_entries t (es ++ (e ∷ [])) in
      let more : length (es ++ (e ∷ [])) ≡ n + 1 = length-append es (e ∷ []) ∙ rw rows refl in
      let b1 : b ≡ flagged [] es l = w.bytes in
      let key = keyed_beside register n es w.keyed l1 (named-long register k (n + 1)) (named-behind register k (n + 1) c r0) in
      let nodes : nodes_in 4097 l1 < 1536 = rw (named_labels register k (n + 1) c r0 w.keyed.chains) room in
      let within : p ≤ n = rw place (omega (arith, row_few e.inside t)) in
      let at : folder_at es p ≡ e.inside = rw place (place_folder es w.proper e.inside home) in
      record {
        bytes = rw (b1, ← rows) (add-entry [] es l w.proper (omega arith) e (omega arith) fit);
        rows = more;
        notes = w.notes;
        rows_fit_lem = omega arith;
        notes_fit = w.notes_fit;
        proper = proper_more es e fit w.proper;
        lone = lone_more es e (row_absent k 0 es nr) w.lone;
        marks = w.marks;
        apart = λ j.
            ⊎_elim (λ (q : j ≡ k). inr (rw q nn))
            (λ (q : j ≡ k → ⊥). rw (row_more j 0 es e (λ (z : k ≡ j). q (sym z))) (w.apart j))
            (eq_or_ne j k);
        housed = housed_new es e nr home w.housed;
        named =
            named-kept l1 l2 u (rw (← rows) (named_make register t w.named (omega arith) w.apart (omega arith) e (omega arith) fresh))
            (entered-long l1 p e.inside e.label n)
            (entered-before l1 p e.inside e.label n);
        keyed =
            keyed_made l1 n es key rows e p (one_each es w.proper w.lone) (omega arith) within at (new_empty k es low nr w.housed) (home_other k e.inside es low nr home) here nodes;
      }

  -- a row for a new aside
  pub works_aside : (a : Aside) → m < 1024 → n + m < 1536 → InRange a.who → role_of a.who t ≡ 0 → (a.marked ≡ 0) ⊎ InRange a.marked
      → Works (put_at b (73732 + 12 * m) (aside_row a)) (named register a.who (1025 + m)) n (m + 1) (with_asides t (t.asides ++ (a ∷ [])))
  unfolding with_asides work_bytes row_of note_of role_of behind_rows
  works_aside a h both own fresh mark =
      let es = t.entries in
      let l = t.asides in
      let k = a.who in
      let rows = w.rows in
      let notes = w.notes in
      let nr : row_from k 0 es ≡ 0 = fresh-row k t fresh in
      let nn : note_from k 0 l ≡ 0 = fresh_note k t fresh in
      let b1 : b ≡ flagged [] es l = w.bytes in
      let fit = w.rows_fit_lem in
      let c = w.named.chains in
      let r0 : nodes_in 0 register < 1536 = omega (arith, w.named.count) in
      let l1 = named register k (1025 + m) in
      let u = with_asides t (l ++ (a ∷ [])) in
      let more : length (l ++ (a ∷ [])) ≡ m + 1 = length-append l (a ∷ []) ∙ rw notes refl in
      record {
        bytes = rw (b1, ← notes) (add-aside [] es l w.proper (omega arith) a);
        rows = w.rows;
        notes = more;
        rows_fit_lem = fit;
        notes_fit = omega arith;
        proper = w.proper;
        lone = w.lone;
        marks = marks_more l a mark w.marks;
        apart = λ j.
            ⊎_elim (λ (q : j ≡ k). inl (rw q nr))
            (λ (q : j ≡ k → ⊥). rw (note_more j 0 l a (λ (z : k ≡ j). q (sym z))) (w.apart j))
            (eq_or_ne j k);
        housed = w.housed;
        named = rw (← notes) (named-aside register t w.named (omega arith) w.apart (omega arith) a fresh);
        keyed = keyed_beside register n es w.keyed l1 (named-long register k (1025 + m)) (named-behind register k (1025 + m) c r0);
      }
