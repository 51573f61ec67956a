-- A new record keeps a tree sound on the vector that counts it, and so does leaving out the rows of removed entries.
-- Assumes nothing.
use Prim.Native.Nat.{ℕ, zero, suc, ◌+◌, ◌/◌, ◌%◌, ◌≤◌, ◌<◌}
use native.Mathlib.Omega.{arith}
use mathlib.Core.Path.{◌≡◌, refl, sym, ap, ◌∙◌}
use mathlib.Core.Logic.{◌⊎◌, inl, inr, ⊎_elim}
use mathlib.Core.Bool.{true, false, cond, ◌&&◌, ◌||◌}
use mathlib.Core.Option.{some}
use mathlib.Core.List.{List, [], ◌∷◌}
use lib.Dec.{leb, eqb}
use lib.ListN.{get_or, length, set}
use lib.Seq.{get_or-set_same, get_or-set_other}
use borrow.Author.Tests.{leb-true, le-leb, eq-eqb}
use Rattle.model.specs.Bytes.{word, blank, part}
use Rattle.model.specs.Date.{is_date}
use Rattle.model.specs.Record.{Rec, root, identity, unit, num, op, seen, identity_at, self_of, object_of, folder_of, label_of, mark_of, date_bytes, names, is_label, uses_folder, uses_label, uses_mark, unused, folder_fits, date_fits, label_fits, mark_fits, well_formed}
use Rattle.model.specs.Replay.{Entry, Aside, Tree, fits, aside, is_present, entry_of, judge_store, judge, new_entry, stored, renamed, moved, removed, settled, step, empty_tree, present_ones, trim}
use Rattle.byte_slice.proofs.Numbers.{eq_or_ne, bool_cases, and_true, or_true, not_both}
use Rattle.byte_slice.proofs.Parts.{part_length, get_d_part}
use Rattle.byte_slice.proofs.Words.{word-part}
use Rattle.byte_slice.proofs.Compare.{blank_get_d}
use Rattle.record_label.proofs.Same.{same_key, key_same}
use Rattle.log_laws.proofs.Members.{All, all_map, all_append}
use Rattle.log_laws.proofs.Formed.{well_length, well_fields, well_unit, well_ops, well_own}
use Rattle.tree_laws.specs.Replayed.{Has, Distinct, makers, whos}
use Rattle.tree_laws.specs.Roots.{Up, Rooted}
use Rattle.tree_laws.specs.Trees.{OneLabel, NamedIn, NamedOrNone, EntryFits, AsideFits, SoundTree}
use Rattle.tree_laws.proofs.Verdicts.{reason_range, judge_store_lem}
use Rattle.tree_laws.proofs.Steps.{cond_elim, step_elim, effect_elim, all_changed, all_present}
use Rattle.tree_laws.proofs.Identities.{lone_step}
use Rattle.tree_laws.proofs.Labels.{Apart, apart-step, has_made, one_label}
use Rattle.tree_laws.proofs.Roots.{no_entries, step_rooted}
use Rattle.tree_laws.proofs.Marks.{Marks, judge_marks}
use Rattle.tree_laws.proofs.Trimming.{entry_present}

-- ---- identities within a vector

identity_parts : (u n : ℕ) → u < 8 → (identity u n / 8 ≡ n) × (identity u n % 8 ≡ u)
unfolding identity
identity_parts u n h = (omega arith, omega arith)

-- one vector counts at least what another does
abbrev pub Wider : List ℕ → List ℕ → Type 0
Wider v w = (u : ℕ) → u < 8 → get_or v u 0 ≤ get_or w u 0

named_wider : (v w : List ℕ) → Wider v w → (k : ℕ) → NamedIn v k → NamedIn w k
named_wider v w f k h = (h.0, omega (arith, h.1, f (k % 8) (omega arith)))

none_wider : (v w : List ℕ) → Wider v w → (k : ℕ) → NamedOrNone v k → NamedOrNone w k
none_wider v w f k (inl q) = inl q
none_wider v w f k (inr h) = inr (named_wider v w f k h)

entry_wider : (v w : List ℕ) → Wider v w → (e : Entry) → EntryFits v e → EntryFits w e
entry_wider v w f e h =
    record {
      a_kind = h.a_kind;
      own_named = named_wider v w f e.made h.own_named;
      folder_named = none_wider v w f e.inside h.folder_named;
      contents_named = named_wider v w f e.contents h.contents_named;
      placing_named = named_wider v w f e.placing h.placing_named;
      real_date = h.real_date;
      a_label = h.a_label;
      unmarked = h.unmarked;
      date_length = h.date_length;
      label_length = h.label_length;
      mark_length = h.mark_length;
    }

aside_wider : (v w : List ℕ) → Wider v w → (a : Aside) → AsideFits v a → AsideFits w a
aside_wider v w f a h =
    record { who_named = named_wider v w f a.who h.who_named; a_reason = h.a_reason; mark_named = none_wider v w f a.marked h.mark_named }

-- a vector that counts more will do
pub sound_wider : (v w : List ℕ) (t : Tree) → Wider v w → SoundTree v t → SoundTree w t
sound_wider v w t f s =
    record {
      lone = s.lone;
      rooted = s.rooted;
      one_label = s.one_label;
      entries_fit = all_map (entry_wider v w f) t.entries s.entries_fit;
      asides_fit = all_map (aside_wider v w f) t.asides s.asides_fit;
    }

-- ---- the fields of a record

none-at : (r : Rec) (at : ℕ) → blank (part r at 4) ≡ true → identity_at r at ≡ root
unfolding identity_at identity word
none-at r at b =
    let zero-at : (i : ℕ) → i < 4 → get_or r (at + i) 0 ≡ 0 = λ i h. sym (get_d_part r at 4 i h) ∙ blank_get_d (part r at 4) i b in
    let z : at + 0 ≡ at = omega arith in
    let q : at + 3 ≡ at + 2 + 1 = omega arith in
    let a : get_or r at 0 ≡ 0 = rw z at (zero-at 0 (omega arith)) in
    let d : get_or r (at + 2 + 1) 0 ≡ 0 = rw q at (zero-at 3 (omega arith)) in
    omega (arith, zero-at 2 (omega arith))

-- what a record names is within what it has seen
named-at : (r : Rec) (at : ℕ) (v : List ℕ) → ((u : ℕ) → u < 8 → seen r u ≤ get_or v u 0) → names r at ≡ true → NamedIn v (identity_at r at)
unfolding names identity_at
named-at r at v h e =
    let u : ℕ = get_or r at 0 in
    let n : ℕ = word r (at + 2) in
    let (a, b) = and_true (leb u 7) (eqb (get_or r (at + 1) 0) 0 && (leb 1 n && leb n (seen r u))) e in
    let (_, c) = and_true (eqb (get_or r (at + 1) 0) 0) (leb 1 n && leb n (seen r u)) b in
    let (d, f) = and_true (leb 1 n) (leb n (seen r u)) c in
    let low : u < 8 = omega (arith, leb-true u 7 a) in
    let (p, q) = identity_parts u n low in
    rw (p, q) (leb-true 1 n d, omega (arith, leb-true n (seen r u) f, h u low))

module _ (r : Rec) (formed : well_formed r ≡ true) where
  self_parts : (self_of r / 8 ≡ num r) × (self_of r % 8 ≡ unit r)
  unfolding self_of
  self_parts = identity_parts (unit r) (num r) (well_unit r formed)

  -- a vector that counts the record names it
  self_named : (v : List ℕ) → num r ≤ get_or v (unit r) 0 → NamedIn v (self_of r)
  self_named v h = rw (self_parts.0, self_parts.1) (omega (arith, well_own r formed), h)

  -- one that counts up to the record before does not
  self_new : (v : List ℕ) → num r ≡ suc (get_or v (unit r) 0) → NamedIn v (self_of r) → ⊥
  self_new v e h =
      let k : num r ≤ get_or v (unit r) 0 = rw (self_parts.0, self_parts.1) at h.1 in
      omega arith

  self_proper : self_of r ≡ root → ⊥
  unfolding self_of identity
  self_proper q = omega (arith, well_own r formed)

  folder_in : (v : List ℕ) → ((u : ℕ) → u < 8 → seen r u ≤ get_or v u 0) → NamedOrNone v (folder_of r)
  unfolding folder_fits unused folder_of
  folder_in v h = go (bool_cases (uses_folder (op r))) (well_fields r formed).0
    where
      go : (uses_folder (op r) ≡ true) ⊎ (uses_folder (op r) ≡ false) → cond (uses_folder (op r)) (blank (part r 24 4) || names r 24) (blank (part r 24 4)) ≡ true → NamedOrNone v (identity_at r 24)
      go (inl c) e = ⊎_elim (λ b. inl (none-at r 24 b)) (λ b. inr (named-at r 24 v h b)) (or_true (blank (part r 24 4)) (names r 24) (rw c at e))
      go (inr c) e = inl (none-at r 24 (rw c at e))

  date_real : is_date (word (date_bytes r) 0) (get_or (date_bytes r) 2 0) (get_or (date_bytes r) 3 0) ≡ true
  unfolding date_fits date_bytes
  date_real = rw (word-part r 28 4 0 (omega arith), get_d_part r 28 4 2 (omega arith), get_d_part r 28 4 3 (omega arith)) (well_fields r formed).1

  label_fits_lem : uses_label (op r) ≡ true → is_label (label_of r) ≡ true
  unfolding label_fits
  label_fits_lem u = rw u at (well_fields r formed).2

  folder_unmarked : op r ≡ 1 → blank (mark_of r) ≡ true
  unfolding mark_fits uses_mark unused mark_of
  folder_unmarked o = rw o at (well_fields r formed).3

  date_long : length (date_bytes r) ≡ 4
  unfolding date_bytes
  date_long = part_length r 28 4 (omega (arith, well_length r formed))

  label_long : length (label_of r) ≡ 32
  unfolding label_of
  label_long = part_length r 32 32 (omega (arith, well_length r formed))

  mark_long : length (mark_of r) ≡ 16
  unfolding mark_of
  mark_long = part_length r 64 16 (omega (arith, well_length r formed))

uses_label_lem : (o : ℕ) → (o ≤ 2) ⊎ ((o ≡ 5) ⊎ (o ≡ 7)) → uses_label o ≡ true
unfolding uses_label
uses_label_lem o (inl h) = rw (le-leb o 2 h)
uses_label_lem o (inr (inl e)) = rw e
uses_label_lem o (inr (inr e)) = rw e

-- ---- one record

own_in : (v : List ℕ) (es : List Entry) → All (EntryFits v) es → (k : ℕ) → Has k (makers es) → NamedIn v k
unfolding makers
own_in v [] a k i = absurd i
own_in v (e ∷ es) a k (inl q) = rw q a.0.own_named
own_in v (e ∷ es) a k (inr i) = own_in v es a.1 k i

who_in : (v : List ℕ) (l : List Aside) → All (AsideFits v) l → (k : ℕ) → Has k (whos l) → NamedIn v k
unfolding whos
who_in v [] a k i = absurd i
who_in v (x ∷ l) a k (inl q) = rw q a.0.who_named
who_in v (x ∷ l) a k (inr i) = who_in v l a.1 k i

-- a store that fits is of no folder
store_fits : (r : Rec) (e : Entry) → judge_store r (some e) ≡ fits → e.kind ≡ 1 → ⊥
unfolding judge_store
store_fits r e h k =
    let q : aside 14 e.made ≡ fits = rw (eq-eqb e.kind 1 k) at h in
    let z : ◌≡◌ {A = ℕ} 0 1 = cc in
    omega arith

settled_fit : (v : List ℕ) (k : ℕ) (l : List Aside) → All (AsideFits v) l → All (AsideFits v) (settled k l)
unfolding settled
settled_fit v k [] a = tt
settled_fit v k (x ∷ l) a =
    cond_elim (All (AsideFits v)) (eqb x.who k) (record { who = x.who; reason = x.reason; marked = x.marked; is_open = false } ∷ l) (x ∷ settled k l)
    (λ _. (record { who_named = a.0.who_named; a_reason = a.0.a_reason; mark_named = a.0.mark_named }, a.1))
    (λ _. (a.0, settled_fit v k l a.1))

label_apart : (es : List Entry) → OneLabel es → Apart es
label_apart [] h = tt
label_apart (e ∷ es) h = (
  λ x i c. c.two (ap (λ (y : Entry). y.made) (sym (h e x (inl refl) (inr i) c.here c.there c.folder (key_same x.label e.label c.key)))),
  label_apart es (λ y x i j. h y x (inr i) (inr j)),
)

apart_label : (es : List Entry) → Rooted es → Apart es → OneLabel es
apart_label es w a e x i j p q u s =
    one_label es a (record { once = w.alone; none-root = λ y k z. w.rootless (rw z at (has_made es y k)) }) e x i j p q u (same_key x.label e.label s)

-- the record is the next of its unit beside what v counts, has seen no more, and is counted by w
module _ (v w : List ℕ) (t : Tree) (r : Rec) (formed : well_formed r ≡ true) (next : num r ≡ suc (get_or v (unit r) 0)) (within : (u : ℕ) → u < 8 → seen r u ≤ get_or v u 0)
    (f : Wider v w) (counted : num r ≤ get_or w (unit r) 0) (s : SoundTree v t) where
  wide : SoundTree w t
  wide = sound_wider v w t f s

  self : NamedIn w (self_of r)
  self = self_named r formed w counted

  folder : NamedOrNone w (folder_of r)
  folder = none_wider v w f (folder_of r) (folder_in r formed v within)

  no_entry : Has (self_of r) (makers t.entries) → ⊥
  no_entry i = self_new r formed v next (own_in v t.entries s.entries_fit (self_of r) i)

  no_aside : Has (self_of r) (whos t.asides) → ⊥
  no_aside i = self_new r formed v next (who_in v t.asides s.asides_fit (self_of r) i)

  root-step : Rooted (step t r).entries
  root-step = step_rooted t r s.rooted no_entry (self_proper r formed) (λ z. omega (arith, (well_ops r formed).0))

  new_fits : op r ≤ 2 → EntryFits w (new_entry r)
  unfolding new_entry
  new_fits o =
      record {
        a_kind = o;
        own_named = self;
        folder_named = folder;
        contents_named = self;
        placing_named = self;
        real_date = date_real r formed;
        a_label = label_fits_lem r formed (uses_label_lem (op r) (inl o));
        unmarked = folder_unmarked r formed;
        date_length = date_long r formed;
        label_length = label_long r formed;
        mark_length = mark_long r formed;
      }

  stored_fits : op r ≡ 3 → judge r t ≡ fits → (e : Entry) → entry_of (object_of r) t.entries ≡ some e → EntryFits w e → EntryFits w (stored r e)
  unfolding stored
  stored_fits o h e q g =
      record {
        a_kind = g.a_kind;
        own_named = g.own_named;
        folder_named = g.folder_named;
        contents_named = self;
        placing_named = g.placing_named;
        real_date = date_real r formed;
        a_label = g.a_label;
        unmarked = λ z. absurd (store_fits r e (ap (judge_store r) (sym q) ∙ sym (judge_store_lem r t o) ∙ h) z);
        date_length = date_long r formed;
        label_length = g.label_length;
        mark_length = mark_long r formed;
      }

  removed_fits : (e : Entry) → EntryFits w e → EntryFits w (removed e)
  unfolding removed
  removed_fits e g =
      record {
        a_kind = omega arith;
        own_named = g.own_named;
        folder_named = g.folder_named;
        contents_named = g.contents_named;
        placing_named = g.placing_named;
        real_date = g.real_date;
        a_label = g.a_label;
        unmarked = λ z. absurd (omega arith);
        date_length = g.date_length;
        label_length = g.label_length;
        mark_length = g.mark_length;
      }

  renamed_fits : op r ≡ 5 → (e : Entry) → EntryFits w e → EntryFits w (renamed r e)
  unfolding renamed
  renamed_fits o e g =
      record {
        a_kind = g.a_kind;
        own_named = g.own_named;
        folder_named = g.folder_named;
        contents_named = g.contents_named;
        placing_named = self;
        real_date = g.real_date;
        a_label = label_fits_lem r formed (uses_label_lem (op r) (inr (inl o)));
        unmarked = g.unmarked;
        date_length = g.date_length;
        label_length = label_long r formed;
        mark_length = g.mark_length;
      }

  moved_fits : 6 < op r → (e : Entry) → EntryFits w e → EntryFits w (moved r e)
  unfolding moved
  moved_fits o e g =
      record {
        a_kind = g.a_kind;
        own_named = g.own_named;
        folder_named = folder;
        contents_named = g.contents_named;
        placing_named = self;
        real_date = g.real_date;
        a_label = label_fits_lem r formed (uses_label_lem (op r) (inr (inr (omega (arith, (well_ops r formed).1)))));
        unmarked = g.unmarked;
        date_length = g.date_length;
        label_length = label_long r formed;
        mark_length = g.mark_length;
      }

  entries_step : All (EntryFits w) (step t r).entries
  entries_step =
      let P : Tree → Type 0 = λ (x : Tree). All (EntryFits w) x.entries in
      let a = wide.entries_fit in
      step_elim P t r
      (λ h. effect_elim P r t
      (λ o. all_append (EntryFits w) t.entries (new_entry r ∷ []) a (new_fits o, tt))
      (λ o. all_changed (EntryFits w) (stored r) (object_of r) t.entries (stored_fits o h) a)
      (λ o. all_changed (EntryFits w) removed (object_of r) t.entries (λ e _. removed_fits e) a)
      (λ o. all_changed (EntryFits w) (renamed r) (object_of r) t.entries (λ e _. renamed_fits o e) a)
      (λ o. a)
      (λ o. all_changed (EntryFits w) (moved r) (object_of r) t.entries (λ e _. moved_fits o e) a))
      (λ n k h. a)

  aside_fits_lem : (n k : ℕ) → judge r t ≡ aside n k → AsideFits w (record { who = self_of r; reason = n; marked = k; is_open = true })
  aside_fits_lem n k h =
      let m : Marks (NamedIn w) (judge r t) = judge_marks (NamedIn w) r t (all_map (λ e g. g.own_named) t.entries wide.entries_fit) in
      record { who_named = self; a_reason = rw h at (reason_range r t); mark_named = rw h at m }

  asides_step : All (AsideFits w) (step t r).asides
  asides_step =
      let P : Tree → Type 0 = λ (x : Tree). All (AsideFits w) x.asides in
      let a = wide.asides_fit in
      step_elim P t r
      (λ h. effect_elim P r t (λ _. a) (λ _. a) (λ _. a) (λ _. a) (λ _. settled_fit w (object_of r) t.asides a) (λ _. a))
      (λ n k h. all_append (AsideFits w) t.asides (record { who = self_of r; reason = n; marked = k; is_open = true } ∷ []) a (aside_fits_lem n k h, tt))

  pub sound_step : SoundTree w (step t r)
  sound_step =
      record {
        lone = lone_step t r no_entry no_aside s.lone;
        rooted = root-step;
        one_label = apart_label (step t r).entries root-step (apart-step t r (label_apart t.entries s.one_label));
        entries_fit = entries_step;
        asides_fit = asides_step;
      }

-- v with the record counted
pub sound_counted : (v : List ℕ) (t : Tree) (r : Rec) → length v ≡ 8 → well_formed r ≡ true → num r ≡ suc (get_or v (unit r) 0) → ((u : ℕ) → u < 8 → seen r u ≤ get_or v u 0)
    → SoundTree v t → SoundTree (set v (unit r) (num r)) (step t r)
sound_counted v t r n formed next within s =
    let low = well_unit r formed in
    let own : get_or (set v (unit r) (num r)) (unit r) 0 ≡ num r = get_or-set_same v (unit r) (num r) 0 (omega arith) in
    sound_step v (set v (unit r) (num r)) t r formed next within
    (λ u h.
    ⊎_elim
    (λ (q : u ≡ unit r). rw q (omega arith))
    (λ (q : u ≡ unit r → ⊥). omega (arith, get_or-set_other v (unit r) u (num r) 0 q))
    (eq_or_ne u (unit r)))
    (omega arith) s

-- ---- the empty tree

pub sound_empty : (v : List ℕ) → SoundTree v empty_tree
unfolding empty_tree makers whos
sound_empty v =
    record {
      lone = record { entries_once = tt; asides_once = tt; not_both = λ k i. absurd i };
      rooted = no_entries;
      one_label = λ e x i. absurd i;
      entries_fit = tt;
      asides_fit = tt;
    }

-- ---- without the rows of removed entries

pub present_has : (es : List Entry) (e : Entry) → Has e (present_ones es) → Has e es × (is_present e ≡ true)
unfolding present_ones
present_has [] e i = absurd i
present_has (x ∷ es) e i =
    ⊎_elim
    (λ (c : is_present x ≡ true). ⊎_elim (λ (q : e ≡ x). (inl q, ap is_present q ∙ c)) (λ j. let (m, p) = present_has es e j in (inr m, p)) (rw c at i))
    (λ (c : is_present x ≡ false). let (m, p) = present_has es e (rw c at i) in (inr m, p))
    (bool_cases (is_present x))

present_names : (es : List Entry) (k : ℕ) → Has k (makers (present_ones es)) → Has k (makers es)
unfolding present_ones makers
present_names [] k i = i
present_names (x ∷ es) k i =
    ⊎_elim
    (λ (c : is_present x ≡ true). ⊎_elim (λ q. inl q) (λ j. inr (present_names es k j)) (rw c at i))
    (λ (c : is_present x ≡ false). inr (present_names es k (rw c at i)))
    (bool_cases (is_present x))

present_distinct : (es : List Entry) → Distinct (makers es) → Distinct (makers (present_ones es))
unfolding present_ones makers
present_distinct [] d = tt
present_distinct (x ∷ es) d =
    ⊎_elim
    (λ (c : is_present x ≡ true). rw c (λ i. d.0 (present_names es x.made i), present_distinct es d.1))
    (λ (c : is_present x ≡ false). rw c (present_distinct es d.1))
    (bool_cases (is_present x))

up_present : (es : List Entry) (s k : ℕ) → Up s k es → Up s k (present_ones es)
up_present es zero k u = u
up_present es (suc s) k (e, q, u) = (e, entry_present k es ∙ q, up_present es s e.inside u)

rooted_present : (es : List Entry) → Rooted es → Rooted (present_ones es)
rooted_present es w =
    record {
      alone = present_distinct es w.alone;
      rootless = λ i. w.rootless (present_names es root i);
      stands = λ k e q.
          ⊎_elim
          (λ z. inl z)
          (λ z. let (g, y, c) = z in inr (g, entry_present e.inside es ∙ y, c))
          (w.stands k e (sym (entry_present k es) ∙ q));
      up = λ k e q. let (s, u) = w.up k e (sym (entry_present k es) ∙ q) in (s, up_present es s k u);
    }

pub sound_trim : (v : List ℕ) (t : Tree) → SoundTree v t → SoundTree v (trim t)
unfolding trim
sound_trim v t s =
    let es : List Entry = t.entries in
    record {
      lone = record {
        entries_once = present_distinct es s.lone.entries_once;
        asides_once = s.lone.asides_once;
        not_both = λ k i j. s.lone.not_both k i (present_names es k j);
      };
      rooted = rooted_present es s.rooted;
      one_label = λ e x i j. s.one_label e x (present_has es e i).0 (present_has es x j).0;
      entries_fit = all_present (EntryFits v) es s.entries_fit;
      asides_fit = s.asides_fit;
    }
