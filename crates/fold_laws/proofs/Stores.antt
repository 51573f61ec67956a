-- What each accepted call keeps of a store: the base stands for the folded records, and what is folded every acting unit has heard of.
-- Assumes nothing.
use Prim.Native.Nat.{ℕ, ◌+◌, ◌≤◌, ◌<◌}
use native.Mathlib.Omega.{arith}
use mathlib.Core.Path.{◌≡◌, refl, sym, ap, ◌∙◌, subst}
use mathlib.Core.Logic.{◌⊎◌, inl, inr, ⊎_elim}
use mathlib.Core.Bool.{true}
use mathlib.Core.List.{List, [], ◌∷◌, ◌++◌, append_assoc}
use lib.ListN.{get_or, take, drop, length-append, take-append-drop, length-drop}
use Rattle.model.specs.Record.{Rec, unit, num, seen, well_formed}
use Rattle.model.specs.Log.{count, count_on, vector_of}
use Rattle.model.specs.Replay.{Tree, empty_tree, present_ones, replay_from, replay, trim}
use Rattle.model.specs.Table.{table_bytes}
use Rattle.base_model.specs.Base.{is_listed}
use Rattle.call_model.specs.Fold.{counts_as_base, folded_base}
use Rattle.byte_slice.proofs.Numbers.{lt_or_ge}
use Rattle.log_laws.specs.Members.{Has, Sub, Agree}
use Rattle.log_laws.specs.Sound.{Sound}
use Rattle.log_laws.proofs.Formed.{well_unit, well_own}
use Rattle.log_laws.proofs.Members.{has_append, append_has, has_take}
use Rattle.log_laws.proofs.Counts.{count-nil, count-append, sound_front, formed, unit_of_lem, number_held, find_held, no_counts_lem}
use Rattle.log_laws.proofs.Tests.{vector_on_get_d}
use Rattle.tree_laws.proofs.Trimming.{from_base, shown_from_base}
use Rattle.take_laws.proofs.Take.{above_base}
use Rattle.take_laws.proofs.Held.{counts-held, vector_held_lem, take_adds}
use Rattle.act_laws.proofs.Act.{stamped-unit, act_saw, act-held, wish_fits_lem, act_zero}
use Rattle.fold_laws.specs.Heard.{Made, Behind}
use Rattle.fold_laws.specs.Worlds.{Store, fresh, held_of, vector_held, with_log, run, folded_by, made_of, ActAccepted, TakeAccepted, FoldAccepted, NamesAll, Kept, BackAt, OwnAt}
use Rattle.fold_laws.proofs.Hearing.{fits_counted}
use Rattle.fold_laws.proofs.Twice.{counts_shift}
use Rattle.fold_laws.proofs.Bases.{run-counts, kept_log}
use Rattle.fold_laws.proofs.Covering.{never_below, folded-behind}

-- ---- counts and tree of all records held

pub kept-counts : (used : List Rec) (s : Store) → Kept used s → (x : ℕ) → x < 8 → count_on s.base.vector x s.log ≡ count x (held_of s)
kept-counts used s k = counts-held s.base.vector s.folded k.counts s.log

pub kept_vector : (used : List Rec) (s : Store) → Kept used s → vector_held s ≡ vector_of (held_of s)
kept_vector used s k = vector_held_lem s.base.vector s.folded k.counts s.log

-- the replay from the base shows what the replay of all records held shows
pub kept_shown : (used : List Rec) (s : Store) → Kept used s → table_bytes (replay_from s.base.tree s.log) ≡ table_bytes (replay (held_of s))
kept_shown used s k = ap (λ (t : Tree). table_bytes (replay_from t s.log)) k.based ∙ shown_from_base s.folded s.log

pub kept_wider : (used more : List Rec) (s : Store) → Sub used more → Kept used s → Kept more s
kept_wider used more s f k =
    record {
      sound = k.sound;
      counts = k.counts;
      based = k.based;
      from = λ r i. f r (k.from r i);
      few = k.few;
      listed = k.listed;
      rows = k.rows;
    }

-- ---- starting

pub fresh_kept : (used : List Rec) → Kept used fresh
unfolding trim empty_tree present_ones replay replay_from counts_as_base
fresh_kept used =
    record {
      sound = tt;
      counts = λ u b. no_counts_lem u ∙ sym (count-nil u);
      based = refl;
      from = λ r i. absurd i;
      few = omega arith;
      listed = λ r i. absurd i;
      rows = refl;
    }

-- ---- acting

module _ (used : List Rec) (u : ℕ) (s : Store) (x : List ℕ) (k : Kept used s) (a : ActAccepted u s x) where
  abbrev r : Rec
  r = made_of u s x

  own_wish : (get_or x 0 0 ≡ u) × (well_formed r ≡ true)
  own_wish = wish_fits_lem u s.base.vector s.log x (act_zero s.base.list u s.base.vector s.base.tree s.log x a.1).well

  pub act_formed : well_formed r ≡ true
  act_formed = own_wish.1

  pub act-unit : unit r ≡ u
  act-unit = stamped-unit u s.base.vector s.log x a.0 ∙ own_wish.0

  act_cases : (y : Rec) → Has y (s.folded ++ (s.log ++ (r ∷ []))) → (y ≡ r) ⊎ Has y (held_of s)
  act_cases y i =
      ⊎_elim
      (λ j. inr (append_has s.folded s.log y (inl j)))
      (λ j. ⊎_elim (λ q. inr (append_has s.folded s.log y (inr q))) (λ q. ⊎_elim (λ z. inl z) (λ z. absurd z) q) (has_append s.log (r ∷ []) y j))
      (has_append s.folded (s.log ++ (r ∷ [])) y i)

  pub act_grows : Sub (held_of s) (held_of (with_log s (s.log ++ (r ∷ []))))
  act_grows y j =
      append_has s.folded (s.log ++ (r ∷ [])) y
      (⊎_elim (λ z. inl z) (λ z. inr (append_has s.log (r ∷ []) y (inl z))) (has_append s.folded s.log y j))

  pub act_there : Has r (held_of (with_log s (s.log ++ (r ∷ []))))
  act_there = append_has s.folded (s.log ++ (r ∷ [])) r (inr (append_has s.log (r ∷ []) r (inr (inl refl))))

  pub act-kept : Kept (r ∷ used) (with_log s (s.log ++ (r ∷ [])))
  act-kept =
      let f = act_zero s.base.list u s.base.vector s.base.tree s.log x a.1 in
      record {
        sound = act-held u s.base.vector s.log x a.0 s.folded k.counts own_wish.0 act_formed k.sound;
        counts = k.counts;
        based = k.based;
        from = λ y i. ⊎_elim (λ q. inl q) (λ j. inr (k.from y j)) (act_cases y i);
        few = omega (arith, length-append s.log (r ∷ []), f.room);
        listed = λ y i. ⊎_elim (λ (q : y ≡ r). rw q (ap (is_listed s.base.list) act-unit ∙ f.listed)) (λ j. k.listed y j) (act_cases y i);
        rows = k.rows;
      }

  pub act_made : Made (r ∷ used) r
  act_made =
      record {
        held = held_of s;
        sound = k.sound;
        from = λ y i. inr (k.from y i);
        saw = act_saw u s.base.vector s.log x a.0 s.folded k.counts;
      }

-- ---- taking records that were used

module _ (used : List Rec) (s : Store) (rs m : List Rec) (k : Kept used s) (a : TakeAccepted s rs m) where
  pub take_grows : Sub (held_of s) (held_of (with_log s m))
  take_grows = (take_adds s.base.vector s.folded k.counts s.base.list rs s.log m k.sound a).kept

  pub take-kept : Sub rs used → Kept used (with_log s m)
  take-kept f =
      let g = take_adds s.base.vector s.folded k.counts s.base.list rs s.log m k.sound a in
      record {
        sound = g.sound;
        counts = k.counts;
        based = k.based;
        from = λ x j. ⊎_elim (λ q. k.from x q) (λ q. f x q) (g.from x j);
        few = g.room k.few;
        listed = λ x j. ⊎_elim (λ q. k.listed x q) (λ q. (g.fit x q).1) (g.from x j);
        rows = k.rows;
      }

-- ---- folding

-- a fold changes nothing of all that is held
pub fold_held : (u m : ℕ) (s : Store) → held_of (folded_by u m s) ≡ held_of s
fold_held u m s =
    append_assoc s.folded (take (run u m s) s.log) (drop (run u m s) s.log)
    ∙ ap (λ (l : List Rec). s.folded ++ l) (take-append-drop (run u m s) s.log)

-- a list that fits names the units of all records held
list_names : (used : List Rec) (u m : ℕ) (s : Store) → Kept used s → FoldAccepted u s m → NamesAll m (held_of s)
list_names used u m s k a r i =
    let f = formed [] (held_of s) r k.sound i in
    let b = well_unit r f in
    fits_counted m u (vector_held s) a (unit r) b
    (λ z. omega (arith, vector_on_get_d s.base.vector s.log (unit r) b, kept-counts used s k (unit r) b, number_held (held_of s) r k.sound i, well_own r f))

pub fold_kept : (used : List Rec) (u m : ℕ) (s : Store) → Kept used s → FoldAccepted u s m → Kept used (folded_by u m s)
unfolding counts_as_base folded_base
fold_kept used u m s k a =
    let l : List Rec = take (run u m s) s.log in
    let v : List ℕ = s.base.vector in
    let none_more : run u m s + 0 ≡ run u m s = omega arith in
    record {
      sound = subst Sound (sym (fold_held u m s)) k.sound;
      counts = λ x b. omega (arith, vector_on_get_d v l x b, k.counts x b, count-append x s.folded l);
      based = ap (λ (t : Tree). trim (replay_from t l)) k.based ∙ from_base s.folded l;
      from = λ r i. k.from r (subst (Has r) (fold_held u m s) i);
      few = omega (arith, k.few, length-drop (run u m s) s.log);
      listed = λ r i. list_names used u m s k a r (subst (Has r) (fold_held u m s) i);
      rows = counts_shift s.base.tree s.log (run u m s) 0 ∙ ap (counts_as_base s.base.tree s.log) none_more ∙ run-counts m u v s.base.tree s.log k.rows;
    }

-- ---- what is folded was heard of, where lists name all that act

wide_behind : (b : ℕ) (U h k : List Rec) (q : Rec) → Sub h k → Behind b U h q → Behind b U k q
wide_behind b U h k q f g r i d = let (s, j, a, c) = g r i d in (s, f s j, a, c)

-- where no more is folded and no less held
pub back_grows : (U : List Rec) (u : ℕ) (s : Store) (m : List Rec) → Sub (held_of s) (held_of (with_log s m)) → BackAt U u s → BackAt U u (with_log s m)
back_grows U u s m f g q h = wide_behind u U (held_of s) (s.folded ++ m) q f (g q h)

pub back_fold : (used U : List Rec) (u m : ℕ) (s : Store) → ((r : Rec) → Has r U → unit r < 8) → Kept used s → NamesAll m U → BackAt U u s → BackAt U u (folded_by u m s)
back_fold used U u m s u8 k n g q h =
    let l : List Rec = take (run u m s) s.log in
    subst (λ (x : List Rec). Behind u U x q) (sym (fold_held u m s))
    (⊎_elim
    (λ j. g q j)
    (λ j.
    let there = has_take (run u m s) s.log q j in
    let b : unit q < 8 = unit_of_lem [] (held_of s) q k.sound (append_has s.folded s.log q (inr there)) in
    wide_behind u U s.log (held_of s) q (λ x y. append_has s.folded s.log x (inr y))
    (folded-behind m u s.base.vector s.base.tree s.log U (λ r y. (u8 r y, n r y)) q (above_base s.base.vector [] s.log q (kept_log used s k) there) b j))
    (has_append s.folded l q h))

-- ---- so 27 never strikes: a record used that b does not hold covers b's base vector

pub covers_base : (used : List Rec) (b : ℕ) (s : Store) → Agree used used → ((r : Rec) → Has r used → well_formed r ≡ true) → ((r : Rec) → Has r used → Made used r)
    → Kept used s → BackAt used b s → OwnAt used b s
    → (r : Rec) → Has r used → (Has r (held_of s) → ⊥) → (u : ℕ) → u < 8 → get_or s.base.vector u 0 ≤ seen r u
covers_base used b s g form made k back own r j d u u8 =
    ⊎_elim
    (λ n.
    let (q, h, e, c) = find_held s.folded u (count u s.folded) (sound_front [] s.folded s.log k.sound) n (omega arith) in
    let z : num q ≤ seen r (unit q) =
    never_below used (held_of s) b g k.sound k.from made form own q (subst (λ (x : ℕ). x < 8) (sym e) u8) (back q h) r j d in
    let y : seen r (unit q) ≡ seen r u = ap (seen r) e in
    omega (arith, k.counts u u8))
    (λ n. omega (arith, k.counts u u8))
    (lt_or_ge 0 (count u s.folded))
