-- Every world that accepted calls leave: the base stands for the folded records, and what is folded every acting unit has heard of.
-- Assumes nothing.
use Prim.Native.Nat.{ℕ, ◌<◌}
use mathlib.Core.Path.{◌≡◌, sym, ◌∙◌, subst}
use mathlib.Core.Logic.{◌⊎◌, inl, inr, ⊎_elim}
use mathlib.Core.Bool.{true}
use mathlib.Core.List.{List, [], ◌∷◌, ◌++◌}
use lib.Dec.{eqb}
use borrow.Author.Tests.{eqb-true, eqb-false}
use Rattle.model.specs.Record.{Rec, unit, well_formed}
use Rattle.base_model.specs.Base.{is_listed}
use Rattle.call_model.specs.Fold.{folded_base}
use Rattle.byte_slice.proofs.Numbers.{cond_cases}
use Rattle.log_laws.specs.Members.{Has, Sub}
use Rattle.log_laws.proofs.Members.{has_append, append_has}
use Rattle.take_laws.proofs.Union.{all_eight}
use Rattle.fold_laws.specs.Heard.{Made, Behind}
use Rattle.fold_laws.specs.Worlds.{Store, held_of, made_of, World, Event, starts, acts, takes, folds, at, changes, uses, put_store, after, Accepted, bare, play, AllAccepted, NamesAll, Names, Naming, Keeps, Keeping, Kept, Inv, BackAt, Back, Own}
use Rattle.fold_laws.proofs.Stores.{kept_wider, fresh_kept, act_formed, act-unit, act_grows, act_there, act-kept, act_made, take_grows, take-kept, fold_held, fold_kept, back_grows, back_fold}

-- ---- a store after a call

left-kept : (w : World) (e : Event) → Inv w → Accepted w e → Kept (uses w e ++ w.used) (changes w e)
unfolding uses changes
left-kept w (starts u) i a = fresh_kept w.used
left-kept w (acts u x) i a = act-kept w.used u (w.stores u) x (i.kept u) a
left-kept w (takes u rs m) i a = take-kept w.used (w.stores u) rs m (i.kept u) a.0 a.1
left-kept w (folds u m) i a = fold_kept w.used u m (w.stores u) (i.kept u) a

more_used : (w : World) (e : Event) → Sub w.used (uses w e ++ w.used)
more_used w e r i = append_has (uses w e) w.used r (inr i)

abbrev pub Put : (ℕ → Store) → ℕ → Store → ℕ → Type 0
Put f u s x = ((x ≡ u) × (put_store f u s x ≡ s)) ⊎ ((x ≡ u → ⊥) × (put_store f u s x ≡ f x))

pub put_cases : (f : ℕ → Store) (u : ℕ) (s : Store) (x : ℕ) → Put f u s x
unfolding put_store
put_cases f u s x = ⊎_elim (λ a. inl (eqb-true x u a.0, a.1)) (λ a. inr (eqb-false x u a.0, a.1)) (cond_cases (eqb x u) s (f x))

-- the records used after a call
used_cases : (w : World) (e : Event) → Inv w → Accepted w e → (r : Rec) → Has r (uses w e)
    → (well_formed r ≡ true) × Made (uses w e ++ w.used) r × (unit r ≡ at e) × Has r (held_of (changes w e))
unfolding uses at changes
used_cases w (starts u) i a r j = absurd j
used_cases w (acts u x) i a r (inl j) =
    let s : Store = w.stores u in
    let q : Rec = made_of u s x in
    let k = i.kept u in
    subst (λ (y : Rec). (well_formed y ≡ true) × Made (q ∷ w.used) y × (unit y ≡ u) × Has y (s.folded ++ (s.log ++ (q ∷ [])))) (sym j)
    (act_formed w.used u s x k a, act_made w.used u s x k a, act-unit w.used u s x k a, act_there w.used u s x k a)
used_cases w (acts u x) i a r (inr j) = absurd j
used_cases w (takes u rs m) i a r j = absurd j
used_cases w (folds u m) i a r j = absurd j

pub inv_after : (w : World) (e : Event) → Inv w → Accepted w e → Inv (after w e)
unfolding after
inv_after w e i a =
    record {
      kept = λ u.
          ⊎_elim
          (λ q. subst (Kept (uses w e ++ w.used)) (sym q.1) (left-kept w e i a))
          (λ q. subst (Kept (uses w e ++ w.used)) (sym q.1) (kept_wider w.used (uses w e ++ w.used) (w.stores u) (more_used w e) (i.kept u)))
          (put_cases w.stores (at e) (changes w e) u);
      formed = λ r j. ⊎_elim (λ k. (used_cases w e i a r k).0) (λ k. i.formed r k) (has_append (uses w e) w.used r j);
      made = λ r j.
          ⊎_elim
          (λ k. (used_cases w e i a r k).1)
          (λ k. let m = i.made r k in record { held = m.held; sound = m.sound; from = λ x y. more_used w e x (m.from x y); saw = m.saw })
          (has_append (uses w e) w.used r j);
    }

-- ---- what is folded was heard of, where lists name all that act

left_back : (U : List Rec) (w : World) (e : Event) → ((r : Rec) → Has r U → unit r < 8) → Inv w → Accepted w e → Names U e → Back U w → BackAt U (at e) (changes w e)
unfolding changes at
left_back U w (starts u) u8 i a n g = λ q h. absurd h
left_back U w (acts u x) u8 i a n g =
    let s : Store = w.stores u in
    back_grows U u s (s.log ++ (made_of u s x ∷ [])) (act_grows w.used u s x (i.kept u) a) (g u)
left_back U w (takes u rs m) u8 i a n g = back_grows U u (w.stores u) m (take_grows w.used (w.stores u) rs m (i.kept u) a.0) (g u)
left_back U w (folds u m) u8 i a n g = back_fold w.used U u m (w.stores u) u8 (i.kept u) n (g u)

pub back_after : (U : List Rec) (w : World) (e : Event) → ((r : Rec) → Has r U → unit r < 8) → Inv w → Accepted w e → Names U e → Back U w → Back U (after w e)
unfolding after
back_after U w e u8 i a n g u q h =
    ⊎_elim
    (λ p.
    let y : Behind (at e) U (held_of (changes w e)) q = left_back U w e u8 i a n g q (subst (λ (s : Store). Has q s.folded) p.1 h) in
    subst (λ (x : ℕ). Behind x U (held_of (put_store w.stores (at e) (changes w e) u)) q) (sym p.0)
    (subst (λ (s : Store). Behind (at e) U (held_of s) q) (sym p.1) y))
    (λ p.
    subst (λ (s : Store). Behind u U (held_of s) q) (sym p.1) (g u q (subst (λ (s : Store). Has q s.folded) p.1 h)))
    (put_cases w.stores (at e) (changes w e) u)

-- ---- a unit whose vector does not fall holds what it made

left_more : (b : ℕ) (w : World) (e : Event) → Inv w → Accepted w e → Keeps b w e → at e ≡ b → Sub (held_of (w.stores (at e))) (held_of (changes w e))
unfolding changes at
left_more b w (starts u) v a k q = λ r j. absurd (subst (Has r) (k q) j)
left_more b w (acts u x) v a k q = act_grows w.used u (w.stores u) x (v.kept u) a
left_more b w (takes u rs m) v a k q = take_grows w.used (w.stores u) rs m (v.kept u) a.0
left_more b w (folds u m) v a k q = λ r j. subst (Has r) (sym (fold_held u m (w.stores u))) j

pub own_after : (b : ℕ) (w : World) (e : Event) → Inv w → Accepted w e → Keeps b w e → Own b w → Own b (after w e)
unfolding after
own_after b w e i a k o r j q =
    ⊎_elim
    (λ y.
    let (_, _, c, d) = used_cases w e i a r y in
    ⊎_elim
    (λ p. subst (λ (s : Store). Has r (held_of s)) (sym p.1) d)
    (λ p. absurd (p.0 (sym q ∙ c)))
    (put_cases w.stores (at e) (changes w e) b))
    (λ y.
    ⊎_elim
    (λ p.
    let h : Has r (held_of (w.stores (at e))) = subst (λ (x : ℕ). Has r (held_of (w.stores x))) p.0 (o r y q) in
    subst (λ (s : Store). Has r (held_of s)) (sym p.1) (left_more b w e i a k (sym p.0) r h))
    (λ p. subst (λ (s : Store). Has r (held_of s)) (sym p.1) (o r y q))
    (put_cases w.stores (at e) (changes w e) b))
    (has_append (uses w e) w.used r j)

-- ---- lists

-- every list of a store names the units of the records U
abbrev pub Lists : List Rec → World → Type 0
Lists U w = (u : ℕ) → NamesAll (w.stores u).base.list U

pub lists_after : (U : List Rec) (w : World) (e : Event) → ((r : Rec) → Has r U → unit r < 8) → Names U e → Lists U w → Lists U (after w e)
unfolding after changes folded_base
lists_after U w e u8 n h u r i =
    ⊎_elim
    (λ q. subst (λ (s : Store). is_listed s.base.list (unit r) ≡ true) (sym q.1) (left e n))
    (λ q. subst (λ (s : Store). is_listed s.base.list (unit r) ≡ true) (sym q.1) (h u r i))
    (put_cases w.stores (at e) (changes w e) u)
  where
    left : (e : Event) → Names U e → is_listed (changes w e).base.list (unit r) ≡ true
    left (starts x) n = all_eight (unit r) (u8 r i)
    left (acts x y) n = h x r i
    left (takes x y z) n = h x r i
    left (folds x m) n = n r i

-- ---- from the first world on

pub bare_inv : Inv bare
bare_inv = record { kept = λ u. fresh_kept []; formed = λ r i. absurd i; made = λ r i. absurd i }

pub inv_play : (w : World) (es : List Event) → Inv w → AllAccepted w es → Inv (play w es)
unfolding play
inv_play w [] i a = i
inv_play w (e ∷ es) i a = inv_play (after w e) es (inv_after w e i a.0) a.1

pub back_play : (U : List Rec) (w : World) (es : List Event) → ((r : Rec) → Has r U → unit r < 8) → Inv w → AllAccepted w es → Naming U es → Back U w → Back U (play w es)
unfolding play
back_play U w [] u8 i a n b = b
back_play U w (e ∷ es) u8 i a n b = back_play U (after w e) es u8 (inv_after w e i a.0) a.1 n.1 (back_after U w e u8 i a.0 n.0 b)

pub own_play : (b : ℕ) (w : World) (es : List Event) → Inv w → AllAccepted w es → Keeping b w es → Own b w → Own b (play w es)
unfolding play
own_play b w [] i a k o = o
own_play b w (e ∷ es) i a k o = own_play b (after w e) es (inv_after w e i a.0) a.1 k.1 (own_after b w e i a.0 k.0 o)

pub lists_play : (U : List Rec) (w : World) (es : List Event) → ((r : Rec) → Has r U → unit r < 8) → Naming U es → Lists U w → Lists U (play w es)
unfolding play
lists_play U w [] u8 n h = h
lists_play U w (e ∷ es) u8 n h = lists_play U (after w e) es u8 n.1 (lists_after U w e u8 n.0 h)
