-- The tree of a sound base is a sound tree on the base vector.
-- Assumes nothing.
use Prim.Native.Nat.{ℕ, zero, suc, ◌+◌, ◌-◌, ◌*◌, ◌/◌, ◌≤◌, ◌<◌}
use native.Mathlib.Omega.{arith}
use mathlib.Core.Path.{◌≡◌, refl, sym, ◌∙◌, subst}
use mathlib.Core.Logic.{◌⊎◌, inl, inr, ⊎_elim}
use mathlib.Core.Bool.{true, false, ◌&&◌}
use mathlib.Core.Option.{none, some}
use mathlib.Core.List.{List}
use lib.Dec.{leb, eqb}
use lib.ListN.{get_or, length}
use borrow.Author.Tests.{eq-eqb, ne_eqb, eqb-true, leb-true}
use Rattle.model.specs.Bytes.{word}
use Rattle.model.specs.Record.{root}
use Rattle.model.specs.Log.{all_to}
use Rattle.model.specs.Replay.{Entry, is_present, entry_of, label_key, same_label}
use Rattle.base_model.specs.Base.{base_entry, base_aside, base_entries, base_asides, base_tree, base_vector, base_head_fits, entry_row_fits, aside_row_fits, rest_blank, rows_fit, id_at, name_new, ids_fit, sound_base}
use Rattle.byte_slice.proofs.Numbers.{lt_or_ge, eq_or_ne, bool_cases, and_true}
use Rattle.byte_slice.proofs.Compare.{same_eq, eq_same}
use Rattle.base_laws.specs.Plain.{Reaches, Plain}
use Rattle.tree_laws.specs.Replayed.{Has, Distinct, makers}
use Rattle.tree_laws.specs.Roots.{Up, Stands}
use Rattle.tree_laws.specs.Trees.{EntryFits, AsideFits, SoundTree}
use Rattle.base_laws.proofs.Numbered.{Some, first, later, has_at, all_listed, differ_once, differ_same, made_at, who_at, entries_listed, asides_listed, makers-listed, whos-listed}
use Rattle.base_laws.proofs.Plain.{all_at, id_made, id_who, plain_of}
use Rattle.base_laws.proofs.Rows.{row_fits_lem, row_present, aside_fits_lem}

pub some_same : {e x : Entry} → some e ≡ some x → e ≡ x
some_same q = cc

pub none_some {ℓ} : {A : Type ℓ} {e : Entry} → none ≡ some e → A
none_some q = absurd (let z : ◌≡◌ {A = ℕ} 0 1 = cc in omega arith)

same_turned : (s t : List ℕ) → same_label s t ≡ true → same_label t s ≡ true
unfolding same_label
same_turned s t e = eq_same (label_key t) (label_key s) (sym (same_eq (label_key s) (label_key t) e))

-- ---- the lists of rows

module _ (b : List ℕ) where
  -- an entry that is found stands in a row of its identity
  pub found-row : (k : ℕ) (e : Entry) (i n : ℕ) → entry_of k (base_entries b i n) ≡ some e
      → Some (λ j. (e ≡ base_entry b j) × ((base_entry b j).made ≡ k)) i n
  unfolding base_entries entry_of
  found-row k e i zero q = none_some q
  found-row k e i (suc n) q =
      let x = base_entry b i in
      ⊎_elim
      (λ (t : (eqb x.made k && is_present x) ≡ true).
      let (y, _) = and_true (eqb x.made k) (is_present x) t in
      first n (sym (some_same (rw t at q)), eqb-true x.made k y))
      (λ (t : (eqb x.made k && is_present x) ≡ false). later (found-row k e (suc i) n (rw t at q)))
      (bool_cases (eqb x.made k && is_present x))

  -- the only row of an identity is found
  pub row-found : (k j i n : ℕ) → i ≤ j → j < i + n → (base_entry b j).made ≡ k → is_present (base_entry b j) ≡ true
      → ((h : ℕ) → i ≤ h → h < i + n → (base_entry b h).made ≡ k → h ≡ j) → entry_of k (base_entries b i n) ≡ some (base_entry b j)
  unfolding base_entries entry_of
  row-found k j i zero l u m p only = absurd (omega arith)
  row-found k j i (suc n) l u m p only =
      ⊎_elim
      (λ (e : i ≡ j). rw (e, eq-eqb (base_entry b j).made k m, p))
      (λ (e : i ≡ j → ⊥).
      let d : (base_entry b i).made ≡ k → ⊥ = λ q. e (only i (omega arith) (omega arith) q) in
      rw (ne_eqb (base_entry b i).made k d) (row-found k j (suc i) n (omega arith) (omega arith) m p (λ h x y q. only h (omega arith) (omega arith) q)))
      (eq_or_ne i j)

-- ---- the tree

module _ (v b : List ℕ) (n m : ℕ) (w : Plain b n m) (fit : (i : ℕ) → i < n → EntryFits v (base_entry b i)) (there : (i : ℕ) → i < n → is_present (base_entry b i) ≡ true) where
  apart_entries : (j k : ℕ) → j < k → k < n → (base_entry b j).made ≡ (base_entry b k).made → ⊥
  apart_entries j k h l e = w.lone k j (omega arith) h (id_made b n j (omega arith) ∙ (e ∙ sym (id_made b n k l)))

  id_aside : (k : ℕ) → id_at b n (n + k) ≡ (base_aside b k).who
  id_aside k = let e : n + k - n ≡ k = omega arith in (rw e at (id_who b n (n + k) (omega arith)))

  apart_asides : (j k : ℕ) → j < k → k < m → (base_aside b j).who ≡ (base_aside b k).who → ⊥
  apart_asides j k h l e = w.lone (n + k) (n + j) (omega arith) (omega arith) (id_aside j ∙ (e ∙ sym (id_aside k)))

  apart_both : (j k : ℕ) → j < n → k < m → (base_entry b j).made ≡ (base_aside b k).who → ⊥
  apart_both j k h l e = w.lone (n + k) j (omega arith) (omega arith) (id_made b n j h ∙ (e ∙ sym (id_aside k)))

  makers_once : Distinct (makers (base_entries b 0 n))
  makers_once = rw (makers-listed b 0 n) (differ_once (made_at b) 0 n (λ j k h l g e. apart_entries j k l (omega arith) e))

  made_row : (k : ℕ) → Has k (makers (base_entries b 0 n)) → Some (λ j. k ≡ (base_entry b j).made) 0 n
  made_row k h = has_at (made_at b) k 0 n (rw (makers-listed b 0 n) at h)

  entry_row_lem : (e : Entry) → Has e (base_entries b 0 n) → Some (λ j. e ≡ base_entry b j) 0 n
  entry_row_lem e h = has_at (base_entry b) e 0 n (rw (entries_listed b 0 n) at h)

  found : (k j : ℕ) → j < n → (base_entry b j).made ≡ k → entry_of k (base_entries b 0 n) ≡ some (base_entry b j)
  found k j h e = row-found b k j 0 n (omega arith) (omega arith) e (there j h) (λ i x y q. differ_same (made_at b) n apart_entries i j (omega arith) h (q ∙ sym e))

  reach_up : {f : ℕ} → Reaches b n f → (s : ℕ) × Up s f (base_entries b 0 n)
  reach_up (Reaches.top e) = (0, e)
  reach_up {f} (Reaches.up j z l q k r) = let (s, u) = reach_up r in (suc s, (base_entry b j, found f j l q, u))

  reach_stands : {f : ℕ} → Reaches b n f → Stands f (base_entries b 0 n)
  reach_stands (Reaches.top e) = inl e
  reach_stands {f} (Reaches.up j z l q k r) = inr (base_entry b j, found f j l q, k)

  no_root : (k i : ℕ) → i < n → k ≡ (base_entry b i).made → k ≡ root → ⊥
  no_root k i h e z =
      let (a, _) = (fit i h).own_named in
      let y : (base_entry b i).made ≡ 0 = sym e ∙ z in
      let x : 0 / 8 ≡ 0 = omega arith in
      omega (arith, (rw (y, x) at a))

  one_of : (e x : Entry) → Has e (base_entries b 0 n) → Has x (base_entries b 0 n) → x.inside ≡ e.inside → same_label x.label e.label ≡ true → e ≡ x
  one_of e x p q f t =
      let s = entry_row_lem e p in
      let r = entry_row_lem x q in
      let i = s.at in
      let j = r.at in
      let hi : i < n = omega (arith, s.below) in
      let hj : j < n = omega (arith, r.below) in
      let ei : e ≡ base_entry b i = s.holds in
      let ej : x ≡ base_entry b j = r.holds in
      let f' : (base_entry b j).inside ≡ (base_entry b i).inside = rw (ei, ej) at f in
      let t' : same_label (base_entry b j).label (base_entry b i).label ≡ true = rw (ei, ej) at t in
      ⊎_elim
      (λ (l : j < i). absurd (w.named i j hi l f' t'))
      (λ l.
      ⊎_elim
      (λ (g : i < j). absurd (w.named j i hj g (sym f') (same_turned (base_entry b j).label (base_entry b i).label t')))
      (λ g. let z : i ≡ j = omega arith in ei ∙ (rw z (sym ej)))
      (lt_or_ge i j))
      (lt_or_ge j i)

  pub tree_sound : ((i : ℕ) → i < m → AsideFits v (base_aside b i)) → SoundTree v (record { entries = base_entries b 0 n; asides = base_asides b 0 m })
  tree_sound aside =
      record {
        lone =
            record {
              entries_once = makers_once;
              asides_once = rw (whos-listed b 0 m) (differ_once (who_at b) 0 m (λ j k h l g e. apart_asides j k l (omega arith) e));
              not_both = λ k p q.
                  let s = has_at (who_at b) k 0 m (rw (whos-listed b 0 m) at p) in
                  let r = made_row k q in
                  apart_both r.at s.at (omega (arith, r.below)) (omega (arith, s.below)) (sym r.holds ∙ s.holds);
            };
        rooted =
            record {
              alone = makers_once;
              rootless = λ h. let s = made_row root h in no_root root s.at (omega (arith, s.below)) s.holds refl;
              stands = λ k e q.
                  let s = found-row b k e 0 n q in
                  rw s.holds.0 (reach_stands (w.rooted s.at (omega (arith, s.below))));
              up = λ k e q.
                  let s = found-row b k e 0 n q in
                  let (t, u) = reach_up (w.rooted s.at (omega (arith, s.below))) in
                  (suc t, (e, q, subst (λ (y : Entry). Up t y.inside (base_entries b 0 n)) (sym s.holds.0) u));
            };
        one_label = λ e x p q y z f t. one_of e x p q f t;
        entries_fit = rw (entries_listed b 0 n) (all_listed (base_entry b) (EntryFits v) 0 n (λ j h g. fit j (omega arith)));
        asides_fit = rw (asides_listed b 0 m) (all_listed (base_aside b) (AsideFits v) 0 m (λ j h g. aside j (omega arith)));
      }

-- ---- from the test

-- what the test of a base tells
pub record Sound (b : List ℕ) : Type 0 where
  pub zero_byte : get_or b 1 0 ≡ 0
  pub zero_word : word b 6 ≡ 0
  pub few_entries : word b 2 ≤ 512
  pub few_asides : word b 4 ≤ 512
  pub entries_pass : all_to (word b 2) (entry_row_fits b) ≡ true
  pub asides_pass : all_to (word b 4) (aside_row_fits b) ≡ true
  pub rest : rest_blank b (word b 2) (word b 4) ≡ true
  pub ids_pass : ids_fit b (word b 2) (word b 4) ≡ true
  pub names-pass : all_to (word b 2) (name_new b) ≡ true

pub sound_tells : (b : List ℕ) → sound_base b ≡ true → Sound b
unfolding sound_base base_head_fits rows_fit
sound_tells b e =
    let n = word b 2 in
    let m = word b 4 in
    let (h, f) = and_true (base_head_fits b) (rows_fit b n m && (ids_fit b n m && all_to n (name_new b))) e in
    let (r, g) = and_true (rows_fit b n m) (ids_fit b n m && all_to n (name_new b)) f in
    let (i, l) = and_true (ids_fit b n m) (all_to n (name_new b)) g in
    let (h0, h1) = and_true (eqb (get_or b 1 0) 0) (leb n 512 && (leb m 512 && eqb (word b 6) 0)) h in
    let (hn, h2) = and_true (leb n 512) (leb m 512 && eqb (word b 6) 0) h1 in
    let (hm, h6) = and_true (leb m 512) (eqb (word b 6) 0) h2 in
    let (re, r1) = and_true (all_to n (entry_row_fits b)) (all_to m (aside_row_fits b) && rest_blank b n m) r in
    let (ra, rb) = and_true (all_to m (aside_row_fits b)) (rest_blank b n m) r1 in
    record {
      zero_byte = eqb-true (get_or b 1 0) 0 h0;
      zero_word = eqb-true (word b 6) 0 h6;
      few_entries = leb-true n 512 hn;
      few_asides = leb-true m 512 hm;
      entries_pass = re;
      asides_pass = ra;
      rest = rb;
      ids_pass = i;
      names-pass = l;
    }

pub sound_tree : (b : List ℕ) → length b ≡ 43032 → sound_base b ≡ true → SoundTree (base_vector b) (base_tree b)
unfolding base_tree entry_row_fits aside_row_fits base_entry base_aside
sound_tree b len e =
    let s = sound_tells b e in
    let n = word b 2 in
    let m = word b 4 in
    let passes : (i : ℕ) → i < n → entry_row_fits b i ≡ true = all_at n (entry_row_fits b) s.entries_pass in
    tree_sound
    (base_vector b)
    b
    n
    m
    (plain_of b n m s.ids_pass s.names-pass)
    (λ i h. row_fits_lem (base_vector b) b (24 + 72 * i) (omega (arith, s.few_entries)) (passes i h))
    (λ i h. row_present (base_vector b) b (24 + 72 * i) (passes i h))
    (λ i h. aside_fits_lem (base_vector b) b (36888 + 12 * i) (all_at m (aside_row_fits b) s.asides_pass i h))
