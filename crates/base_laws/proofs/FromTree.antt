-- A base whose tree is sound, with no removed entry, is what the plain words ask.
-- Assumes nothing.
use Prim.Native.Nat.{ℕ, zero, suc, ◌+◌, ◌-◌, ◌≤◌, ◌<◌}
use native.Mathlib.Omega.{arith}
use mathlib.Core.Path.{◌≡◌, refl, sym, ap, ◌∙◌, subst}
use mathlib.Core.Logic.{◌⊎◌, ⊎_elim}
use mathlib.Core.Bool.{true}
use mathlib.Core.Option.{some}
use mathlib.Core.List.{List}
use Rattle.model.specs.Record.{root}
use Rattle.model.specs.Replay.{Entry, is_present, entry_of}
use Rattle.base_model.specs.Base.{base_entry, base_entries, base_asides, id_at}
use Rattle.byte_slice.proofs.Numbers.{lt_or_ge, eq_or_ne}
use Rattle.base_laws.specs.Plain.{Reaches, Plain}
use Rattle.tree_laws.specs.Replayed.{Has, makers}
use Rattle.tree_laws.specs.Roots.{Up, Stands}
use Rattle.tree_laws.specs.Trees.{SoundTree}
use Rattle.base_laws.proofs.Numbered.{at_has, once_differ, differ_same, made_at, who_at, entries_listed, makers-listed, whos-listed}
use Rattle.base_laws.proofs.Plain.{id_made, id_who}
use Rattle.base_laws.proofs.Trees.{some_same, found-row, row-found}

module _ (v b : List ℕ) (n m : ℕ) (w : SoundTree v (record { entries = base_entries b 0 n; asides = base_asides b 0 m })) (there : (i : ℕ) → i < n → is_present (base_entry b i) ≡ true) where
  made_apart : (j k : ℕ) → j < k → k < n → (base_entry b j).made ≡ (base_entry b k).made → ⊥
  made_apart j k l g e = once_differ (made_at b) 0 n j k (rw (makers-listed b 0 n) at w.lone.entries_once) (omega arith) l (omega arith) e

  made_has : (j : ℕ) → j < n → Has (base_entry b j).made (makers (base_entries b 0 n))
  made_has j h = rw (makers-listed b 0 n) (at_has (made_at b) j 0 n (omega arith) (omega arith))

  row_has : (j : ℕ) → j < n → Has (base_entry b j) (base_entries b 0 n)
  row_has j h = rw (entries_listed b 0 n) (at_has (base_entry b) j 0 n (omega arith) (omega arith))

  up_reach : (s k : ℕ) → Stands k (base_entries b 0 n) → Up s k (base_entries b 0 n) → Reaches b n k
  up_reach zero k st u = Reaches.top u
  up_reach (suc s) k st u =
      ⊎_elim
      (λ (z : k ≡ root). Reaches.top z)
      (λ (z : k ≡ root → ⊥).
      ⊎_elim
      (λ (y : k ≡ root). absurd (z y))
      (λ (y : (g : Entry) × (entry_of k (base_entries b 0 n) ≡ some g) × (g.kind ≡ 1)).
      let (g, p, folder) = y in
      let (e, q, on) = u in
      let r = found-row b k e 0 n q in
      let (is, made) = r.holds in
      let ge : e ≡ g = some_same (sym q ∙ p) in
      let kind : (base_entry b r.at).kind ≡ 1 = rw (← is, ge) folder in
      Reaches.up r.at z (omega (arith, r.below)) made kind (rw (← is) (up_reach s e.inside (w.rooted.stands k e q) on)))
      st)
      (eq_or_ne k root)

  row_rooted : (i : ℕ) → i < n → Reaches b n (base_entry b i).inside
  row_rooted i h =
      let k = (base_entry b i).made in
      let q : entry_of k (base_entries b 0 n) ≡ some (base_entry b i) =
      row-found b k i 0 n (omega arith) (omega arith) refl (there i h) (λ j x y p. differ_same (made_at b) n made_apart j i (omega arith) h p) in
      let (s, u) = w.rooted.up k (base_entry b i) q in
      go s k q u
    where
      go : (s k : ℕ) → entry_of k (base_entries b 0 n) ≡ some (base_entry b i) → Up s k (base_entries b 0 n) → Reaches b n (base_entry b i).inside
      go zero k q u =
          let r = found-row b k (base_entry b i) 0 n q in
          let (_, made) = r.holds in
          absurd
          (w.rooted.rootless
          (subst (λ (y : ℕ). Has y (makers (base_entries b 0 n))) (made ∙ u) (made_has r.at (omega (arith, r.below)))))
      go (suc s) k q u =
          let (e, p, on) = u in
          let same : base_entry b i ≡ e = some_same (sym q ∙ p) in
          rw same (up_reach s e.inside (w.rooted.stands k e p) on)

  ids_apart : (i j : ℕ) → i < n + m → j < i → id_at b n j ≡ id_at b n i → ⊥
  ids_apart i j h l e =
      ⊎_elim
      (λ (x : i < n). made_apart j i l x (sym (id_made b n j (omega arith)) ∙ (e ∙ id_made b n i x)))
      (λ (x : n ≤ i).
      ⊎_elim
      (λ (y : j < n).
      w.lone.not_both
      (base_entry b j).made
      (rw (sym (id_made b n j y) ∙ (e ∙ id_who b n i x)) (rw (whos-listed b 0 m) (at_has (who_at b) (i - n) 0 m (omega arith) (omega arith))))
      (made_has j y))
      (λ (y : n ≤ j).
      once_differ (who_at b) 0 m (j - n) (i - n) (rw (whos-listed b 0 m) at w.lone.asides_once) (omega arith) (omega arith) (omega arith) (sym (id_who b n j y) ∙ (e ∙ id_who b n i x)))
      (lt_or_ge j n))
      (lt_or_ge i n)

  pub tree_plain : Plain b n m
  tree_plain =
      record {
        lone = ids_apart;
        named = λ i j h l f t.
            let e : base_entry b i ≡ base_entry b j =
            w.one_label (base_entry b i) (base_entry b j) (row_has i h) (row_has j (omega arith)) (there i h)
            (there j (omega arith)) f t in
            made_apart j i l h (ap (λ (x : Entry). x.made) (sym e));
        rooted = row_rooted;
      }
