-- What a judgement does not read: dates and marks. A map of entries that keeps all else, and tells a date and a mark told otherwise the
-- same way again, changes no judgement; and records that give the same but for what it hides leave trees that are the same but for that.
-- Assumes nothing.
use Prim.Native.Nat.{ℕ, zero, suc, ◌+◌, ◌*◌, ◌/◌, ◌%◌, ◌≤◌, ◌<◌}
use mathlib.Core.Path.{◌≡◌, refl, sym, ap, ap₂, ◌∙◌}
use mathlib.Core.Bool.{Bool, true, false, cond, not, ◌&&◌, ◌||◌}
use mathlib.Core.Option.{Option, none, some}
use mathlib.Core.List.{List, [], ◌∷◌, ◌++◌}
use native.Mathlib.Omega.{arith}
use lib.Dec.{ltb, eqb}
use lib.ListN.{get_or, length, take}
use lib.Seq.{get_or-take}
use borrow.Author.Tests.{eqb-true, le-leb}
use Rattle.byte_slice.proofs.Numbers.{and_true}
use Rattle.byte_slice.proofs.Parts.{part-take}
use Rattle.byte_slice.proofs.Words.{word_same}
use Rattle.model.specs.Bytes.{word, part}
use Rattle.model.specs.Record.{Rec, root, identity, unit, num, seen, op, identity_at, self_of, object_of, folder_of, date_bytes, label_of, mark_of}
use Rattle.model.specs.Replay.{Entry, Aside, Tree, Verdict, fits, aside, is_present, entry_of, is_in, is_holder, holder_of, has_entries, unseen, free_label, is_folder, folder_stands, comes_to, is_below, judge_place, judge_make, judge_store, judge_remove, judge_rename, judge_move, judge_settle, judge, new_entry, stored, renamed, moved, removed, changed, settled, effect, apply, step, replay_from, present_ones}
use Rattle.tree_laws.specs.Replayed.{Pairs, trace_of, mapped, mapped_tree}
use Rattle.tree_laws.proofs.Steps.{effect_elim, effect_make, effect_store, effect_remove, effect_rename, effect_settle, effect_move}

-- ---- what a judgement reads of a record

pub record SameRead (r s : Rec) : Type 0 where
  pub op_same : op r ≡ op s
  pub self_same : self_of r ≡ self_of s
  pub object_same : object_of r ≡ object_of s
  pub folder_same : folder_of r ≡ folder_of s
  pub label_same : label_of r ≡ label_of s
  pub seen_same : (u : ℕ) → u < 8 → seen r u ≡ seen s u

pub same_self : (r : Rec) → SameRead r r
same_self r = record { op_same = refl; self_same = refl; object_same = refl; folder_same = refl; label_same = refl; seen_same = λ u h. refl }

pub front_same : (n : ℕ) (r s : Rec) → take n r ≡ take n s → (i : ℕ) → i < n → get_or r i 0 ≡ get_or s i 0
front_same n r s e i h = sym (get_or-take n r i 0 h) ∙ ap (λ (b : List ℕ). get_or b i 0) e ∙ get_or-take n s i 0 h

pub front_part : (c : ℕ) (r s : Rec) → take c r ≡ take c s → (at n : ℕ) → at + n ≤ c → part r at n ≡ part s at n
front_part c r s e at n h = sym (part-take r c at n h) ∙ ap (λ (b : List ℕ). part b at n) e ∙ part-take s c at n h

-- the bytes before the date and the label are all of it
module _ (r s : Rec) (b : (i : ℕ) → i < 28 → get_or r i 0 ≡ get_or s i 0) where
  front_word : (i : ℕ) → i + 1 < 28 → word r i ≡ word s i
  front_word i h = word_same r s i i (b i (omega arith)) (b (i + 1) h)

  pub read_same : label_of r ≡ label_of s → SameRead r s
  unfolding unit num seen op identity_at self_of object_of folder_of
  read_same l =
      record {
        op_same = b 1 (omega arith);
        self_same = ap₂ identity (b 0 (omega arith)) (front_word 2 (omega arith));
        object_same = ap₂ identity (b 20 (omega arith)) (front_word 22 (omega arith));
        folder_same = ap₂ identity (b 24 (omega arith)) (front_word 26 (omega arith));
        label_same = l;
        seen_same = λ u h. front_word (4 + 2 * u) (omega arith);
      }

unseen_same : (r s : Rec) → SameRead r s → (k : ℕ) → unseen r k ≡ unseen s k
unfolding unseen
unseen_same r s f k = ap (λ (n : ℕ). ltb n (k / 8)) (f.seen_same (k % 8) (omega arith))

-- ---- the same fields, the same judgement

module _ (r s : Rec) (f : SameRead r s) where
  make_same : (es : List Entry) → judge_make r es ≡ judge_make s es
  unfolding judge_make
  make_same es = rw (f.folder_same, f.label_same)

  store_same : (o : Option Entry) → judge_store r o ≡ judge_store s o
  unfolding judge_store
  store_same none = refl
  store_same (some e) = rw (unseen_same r s f e.contents)

  remove_same : (es : List Entry) (o : Option Entry) → judge_remove r es o ≡ judge_remove s es o
  unfolding judge_remove
  remove_same es none = refl
  remove_same es (some e) = rw (unseen_same r s f e.contents, unseen_same r s f e.placing)

  rename_same : (es : List Entry) (o : Option Entry) → judge_rename r es o ≡ judge_rename s es o
  unfolding judge_rename
  rename_same es none = refl
  rename_same es (some e) = rw (unseen_same r s f e.placing, f.label_same)

  place_same : (es : List Entry) (e : Entry) → judge_place r es e ≡ judge_place s es e
  unfolding judge_place
  place_same es e = rw (f.folder_same, f.label_same)

  move_same : (es : List Entry) (o : Option Entry) → judge_move r es o ≡ judge_move s es o
  unfolding judge_move
  move_same es none = refl
  move_same es (some e) = rw (unseen_same r s f e.placing, f.folder_same, place_same es e)

  settle_same : (l : List Aside) → judge_settle r l ≡ judge_settle s l
  unfolding judge_settle
  settle_same l = rw f.object_same

  pub judge_same : (t : Tree) → judge r t ≡ judge s t
  unfolding judge
  judge_same t =
      let es : List Entry = t.entries in
      rw (
        make_same es,
        store_same (entry_of (object_of r) es),
        remove_same es (entry_of (object_of r) es),
        rename_same es (entry_of (object_of r) es),
        settle_same t.asides,
        move_same es (entry_of (object_of r) es),
        f.op_same,
        f.object_same,
      )

-- ---- a map of entries that keeps all but dates and marks

-- a date or a mark told otherwise, from the entry's identity and the one that it has
abbrev pub Telling : Type 0
Telling = ℕ → List ℕ → List ℕ

module _ (d m : Telling) where
  unfoldable pub blind : Entry → Entry
  blind e =
      record {
        made = e.made;
        kind = e.kind;
        inside = e.inside;
        label = e.label;
        contents = e.contents;
        date = d e.made e.date;
        mark = m e.made e.mark;
        placing = e.placing;
      }

  unfoldable pub over : Option Entry → Option Entry
  over none = none
  over (some e) = some (blind e)

  over_cond : (b : Bool) (e : Entry) (x y : Option Entry) → x ≡ over y → cond b (some (blind e)) x ≡ over (cond b (some e) y)
  unfolding over
  over_cond true e x y h = refl
  over_cond false e x y h = h

  pub entry-map : (k : ℕ) (es : List Entry) → entry_of k (mapped blind es) ≡ over (entry_of k es)
  unfolding entry_of mapped over blind is_present
  entry-map k [] = refl
  entry-map k (e ∷ es) = over_cond (eqb e.made k && is_present e) e (entry_of k (mapped blind es)) (entry_of k es) (entry-map k es)

  holder_map : (k g : ℕ) (t : List ℕ) (es : List Entry) → holder_of k g t (mapped blind es) ≡ over (holder_of k g t es)
  unfolding holder_of is_holder mapped over blind is_in is_present
  holder_map k g t [] = refl
  holder_map k g t (e ∷ es) = over_cond (is_holder k g t e) e (holder_of k g t (mapped blind es)) (holder_of k g t es) (holder_map k g t es)

  has_map : (g : ℕ) (es : List Entry) → has_entries g (mapped blind es) ≡ has_entries g es
  unfolding has_entries mapped blind is_in is_present
  has_map g [] = refl
  has_map g (e ∷ es) = ap (λ (b : Bool). is_in g e || b) (has_map g es)

  free_map : (o : Option Entry) → free_label (over o) ≡ free_label o
  unfolding free_label over blind
  free_map none = refl
  free_map (some e) = refl

  free_holder : (k g : ℕ) (t : List ℕ) (es : List Entry) → free_label (holder_of k g t (mapped blind es)) ≡ free_label (holder_of k g t es)
  free_holder k g t es = ap free_label (holder_map k g t es) ∙ free_map (holder_of k g t es)

  is_map : (o : Option Entry) → is_folder (over o) ≡ is_folder o
  unfolding is_folder over blind
  is_map none = refl
  is_map (some e) = refl

  stands_map : (g : ℕ) (es : List Entry) → folder_stands g (mapped blind es) ≡ folder_stands g es
  unfolding folder_stands
  stands_map g es = rw (entry-map g es, is_map (entry_of g es))

  pub length-map : (es : List Entry) → length (mapped blind es) ≡ length es
  unfolding mapped
  length-map [] = refl
  length-map (e ∷ es) = ap suc (length-map es)

  comes_map : (n k g : ℕ) (es : List Entry) → comes_to n k g (mapped blind es) ≡ comes_to n k g es
  unfolding comes_to over blind
  comes_map zero k g es = refl
  comes_map (suc n) k g es = rw (entry-map g es) (go (entry_of g es) (λ i. comes_map n k i es))
    where
      go : (o : Option Entry) → ((i : ℕ) → comes_to n k i (mapped blind es) ≡ comes_to n k i es)
          → (eqb g k || elim (over o) [ none ↦ false | some x ↦ comes_to n k x.inside (mapped blind es) ]) ≡ (eqb g k || elim o [ none ↦ false | some x ↦ comes_to n k x.inside es ])
      go none h = refl
      go (some e) h = ap (λ (x : Bool). eqb g k || x) (h e.inside)

  below-map : (k g : ℕ) (es : List Entry) → is_below k g (mapped blind es) ≡ is_below k g es
  unfolding is_below
  below-map k g es = ap (λ (n : ℕ). comes_to (suc n) k g (mapped blind es)) (length-map es) ∙ comes_map (suc (length es)) k g es

  module _ (r : Rec) (es : List Entry) where
    make_map : judge_make r (mapped blind es) ≡ judge_make r es
    unfolding judge_make
    make_map = rw (stands_map (folder_of r) es, free_holder root (folder_of r) (label_of r) es)

    store_map : (o : Option Entry) → judge_store r (over o) ≡ judge_store r o
    unfolding judge_store over blind
    store_map none = refl
    store_map (some e) = refl

    remove_map : (o : Option Entry) → judge_remove r (mapped blind es) (over o) ≡ judge_remove r es o
    unfolding judge_remove over blind
    remove_map none = refl
    remove_map (some e) = rw (has_map e.made es)

    rename_map : (o : Option Entry) → judge_rename r (mapped blind es) (over o) ≡ judge_rename r es o
    unfolding judge_rename over blind
    rename_map none = refl
    rename_map (some e) = rw (free_holder e.made e.inside (label_of r) es)

    place_map : (e : Entry) → judge_place r (mapped blind es) (blind e) ≡ judge_place r es e
    unfolding judge_place blind
    place_map e = rw (below-map e.made (folder_of r) es, free_holder e.made (folder_of r) (label_of r) es)

    move_map : (o : Option Entry) → judge_move r (mapped blind es) (over o) ≡ judge_move r es o
    unfolding judge_move over blind
    move_map none = refl
    move_map (some e) = rw (stands_map (folder_of r) es, place_map e)

  pub judge-map : (r : Rec) (t : Tree) → judge r (mapped_tree blind t) ≡ judge r t
  unfolding judge mapped_tree
  judge-map r t =
      let es : List Entry = t.entries in
      let o : Option Entry = entry_of (object_of r) es in
      rw (make_map r es, entry-map (object_of r) es, store_map r es o, remove_map r es o, rename_map r es o, move_map r es o)

  -- the entries shown
  pub present_map : (es : List Entry) → present_ones (mapped blind es) ≡ mapped blind (present_ones es)
  unfolding present_ones mapped blind is_present
  present_map [] = refl
  present_map (e ∷ es) = go (not (eqb e.kind 0)) (present_map es)
    where
      go : (b : Bool) → present_ones (mapped blind es) ≡ mapped blind (present_ones es)
          → cond b (blind e ∷ present_ones (mapped blind es)) (present_ones (mapped blind es)) ≡ mapped blind (cond b (e ∷ present_ones es) (present_ones es))
      go true q = ap (λ (x : List Entry). blind e ∷ x) q
      go false q = q

-- ---- records that give the same but for what is told otherwise

-- judged as the other, and the date and the mark that they give are told alike
pub record Alike (d m : Telling) (r s : Rec) : Type 0 where
  pub read : SameRead r s
  pub date_alike : d (trace_of r) (date_bytes r) ≡ d (trace_of r) (date_bytes s)
  pub mark_alike : m (trace_of r) (mark_of r) ≡ m (trace_of r) (mark_of s)

pub alike_self : (d m : Telling) (r : Rec) → Alike d m r r
alike_self d m r = record { read = same_self r; date_alike = refl; mark_alike = refl }

-- told twice is told once
abbrev pub Settles : Telling → Type 0
Settles f = (k : ℕ) (x : List ℕ) → f k (f k x) ≡ f k x

module _ (d m : Telling) (p : Settles d) (q : Settles m) where
  abbrev g : Entry → Entry
  g = blind d m

  map-append : (l k : List Entry) → mapped g (l ++ k) ≡ mapped g l ++ mapped g k
  unfolding mapped
  map-append [] k = refl
  map-append (e ∷ l) k = ap (λ (x : List Entry). g e ∷ x) (map-append l k)

  twice : (e : Entry) → g (g e) ≡ g e
  unfolding blind
  twice e = rw (p e.made e.date, q e.made e.mark)

  map_twice : (es : List Entry) → mapped g (mapped g es) ≡ mapped g es
  unfolding mapped
  map_twice [] = refl
  map_twice (e ∷ es) = λ i. twice e i ∷ map_twice es i

  map-changed : (f h : Entry → Entry) (k : ℕ) → ((e : Entry) → e.made ≡ k → g (f e) ≡ g (h (g e))) → (es : List Entry)
      → mapped g (changed f k es) ≡ mapped g (changed h k (mapped g es))
  unfolding mapped changed blind is_present
  map-changed f h k c [] = refl
  map-changed f h k c (e ∷ es) =
      go (eqb e.made k && is_present e) (λ z. eqb-true e.made k (and_true (eqb e.made k) (is_present e) z).0) (map-changed f h k c es)
    where
      go : (b : Bool) → (b ≡ true → e.made ≡ k) → mapped g (changed f k es) ≡ mapped g (changed h k (mapped g es))
          → mapped g (cond b (f e ∷ es) (e ∷ changed f k es)) ≡ mapped g (cond b (h (g e) ∷ mapped g es) (g e ∷ changed h k (mapped g es)))
      go true z w = λ i. c e (z refl) i ∷ sym (map_twice es) i
      go false z w = λ i. sym (twice e) i ∷ w i

  module _ (r s : Rec) (a : Alike d m r s) where
    f : SameRead r s
    f = a.read

    new_alike : op r ≤ 2 → g (new_entry r) ≡ g (new_entry s)
    unfolding blind new_entry trace_of
    new_alike h =
        let o = le-leb (op r) 2 h in
        let x : d (self_of r) (date_bytes r) ≡ d (self_of r) (date_bytes s) = rw o at a.date_alike in
        let y : m (self_of r) (mark_of r) ≡ m (self_of r) (mark_of s) = rw o at a.mark_alike in
        rw (x, y, f.self_same, f.op_same, f.folder_same, f.label_same)

    stored-alike : op r ≡ 3 → (e : Entry) → e.made ≡ object_of r → g (stored r e) ≡ g (stored s (g e))
    unfolding blind stored trace_of
    stored-alike o e z =
        let x : d (object_of r) (date_bytes r) ≡ d (object_of r) (date_bytes s) = rw o at a.date_alike in
        let y : m (object_of r) (mark_of r) ≡ m (object_of r) (mark_of s) = rw o at a.mark_alike in
        rw (z, x, y, f.self_same)

    renamed-alike : (e : Entry) → g (renamed r e) ≡ g (renamed s (g e))
    unfolding blind renamed
    renamed-alike e = rw (p e.made e.date, q e.made e.mark, f.label_same, f.self_same)

    moved-alike : (e : Entry) → g (moved r e) ≡ g (moved s (g e))
    unfolding blind moved
    moved-alike e = rw (p e.made e.date, q e.made e.mark, f.folder_same, f.label_same, f.self_same)

    removed-alike : (e : Entry) → g (removed e) ≡ g (removed (g e))
    unfolding blind removed
    removed-alike e = rw (p e.made e.date, q e.made e.mark)

    changed-alike : (t h : Entry → Entry) → ((e : Entry) → e.made ≡ object_of r → g (t e) ≡ g (h (g e))) → (es : List Entry)
        → mapped g (changed t (object_of r) es) ≡ mapped g (changed h (object_of s) (mapped g es))
    changed-alike t h c es = map-changed t h (object_of r) c es ∙ ap (λ (k : ℕ). mapped g (changed h k (mapped g es))) f.object_same

    effect-alike : (t : Tree) → mapped_tree g (effect r t) ≡ mapped_tree g (effect s (mapped_tree g t))
    unfolding mapped_tree mapped
    effect-alike t =
        let es : List Entry = t.entries in
        let u : Tree = mapped_tree g t in
        let same-asides : List Entry → Tree = λ (l : List Entry). record { entries = l; asides = t.asides } in
        effect_elim (λ (x : Tree). mapped_tree g x ≡ mapped_tree g (effect s u)) r t
        (λ o.
        rw (effect_make s u (omega (arith, f.op_same)))
        (ap same-asides
        (map-append es (new_entry r ∷ [])
        ∙ (λ i. sym (map_twice es) i ++ (new_alike o i ∷ []))
        ∙ sym (map-append (mapped g es) (new_entry s ∷ [])))))
        (λ o. rw (effect_store s u (sym f.op_same ∙ o)) (ap same-asides (changed-alike (stored r) (stored s) (stored-alike o) es)))
        (λ o. rw (effect_remove s u (sym f.op_same ∙ o)) (ap same-asides (changed-alike removed removed (λ e _. removed-alike e) es)))
        (λ o. rw (effect_rename s u (sym f.op_same ∙ o)) (ap same-asides (changed-alike (renamed r) (renamed s) (λ e _. renamed-alike e) es)))
        (λ o.
        rw (effect_settle s u (sym f.op_same ∙ o))
        (λ i. record { entries = sym (map_twice es) i; asides = settled (f.object_same i) t.asides }))
        (λ o. rw (effect_move s u (omega (arith, f.op_same))) (ap same-asides (changed-alike (moved r) (moved s) (λ e _. moved-alike e) es)))

    pub step-alike : (t : Tree) → mapped_tree g (step t r) ≡ mapped_tree g (step (mapped_tree g t) s)
    unfolding step apply mapped_tree
    step-alike t =
        rw (judge-map d m s t, sym (judge_same r s f t)) (go (judge r t))
      where
        go : (v : Verdict) → mapped_tree g (apply v r t) ≡ mapped_tree g (apply v s (mapped_tree g t))
        go fits = effect-alike t
        go (aside n k) =
            λ i. record {
              entries = sym (map_twice t.entries) i;
              asides = t.asides ++ (record { who = f.self_same i; reason = n; marked = k; is_open = true } ∷ []);
            }

  -- records alike, one by one, after trees that are the same so told, leave trees that are
  pub replay-alike : (l k : List Rec) (t u : Tree) → Pairs (Alike d m) l k → mapped_tree g t ≡ mapped_tree g u
      → mapped_tree g (replay_from t l) ≡ mapped_tree g (replay_from u k)
  unfolding replay_from
  replay-alike [] [] t u a e = e
  replay-alike [] (s ∷ k) t u a e = absurd a
  replay-alike (r ∷ l) [] t u a e = absurd a
  replay-alike (r ∷ l) (s ∷ k) t u a e =
      replay-alike l k (step t r) (step u s) a.1
      (step-alike r s a.0 t
      ∙ ap (λ (x : Tree). mapped_tree g (step x s)) e
      ∙ sym (step-alike s s (alike_self d m s) u))
