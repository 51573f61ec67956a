-- The records that have fitted on one entry form a chain: the last one has seen all others. So it is the same in every order that leaves
-- the same records aside.
-- Assumes nothing.
use Prim.Native.Nat.{ℕ, zero, suc, ◌≤◌, ◌<◌}
use native.Mathlib.Omega.{arith}
use mathlib.Core.Path.{◌≡◌, refl, sym, ap, ◌∙◌, subst}
use mathlib.Core.Bool.{false}
use mathlib.Core.Logic.{◌⊎◌, inl, inr, ⊎_elim}
use mathlib.Core.Option.{some}
use mathlib.Core.List.{List, [], ◌∷◌, ◌++◌}
use lib.Dec.{leb}
use borrow.Author.Tests.{le-leb, ltb-false}
use Rattle.byte_slice.proofs.Numbers.{eq_or_ne}
use Rattle.model.specs.Record.{Rec, unit_of, number_of, unit, num, seen, op, self_of}
use Rattle.model.specs.Log.{rank, by_id, no_counts}
use Rattle.model.specs.Replay.{Entry, Aside, Tree, Verdict, fits, aside, entry_of, unseen, judge, step, empty_tree, replay_from, replay}
use Rattle.log_laws.specs.Members.{Has as Member, Sub}
use Rattle.log_laws.specs.Sound.{Sound}
use Rattle.log_laws.proofs.Counts.{unit_of_lem, own_of}
use Rattle.log_laws.proofs.Ids.{held-by_id}
use Rattle.log_laws.proofs.Seen.{saw, seen_below}
use Rattle.tree_laws.specs.Replayed.{Has, Distinct, selves, makers, whos, Standing, standings, standing, making}
use Rattle.tree_laws.specs.Trees.{Lone}
use Rattle.tree_laws.proofs.Steps.{standings-step, makers-step}
use Rattle.tree_laws.proofs.Roots.{none_some, entry_in_lem}
use Rattle.tree_laws.proofs.Identities.{names-step, asides_step, lone_step}
use Rattle.order_laws.proofs.Rank.{self_unit, self_num, member_selves}
use Rattle.order_hidden.proofs.Origins.{Origin, SeenLast}

-- the record c has seen the record s
abbrev Saw : Rec → Rec → Type 0
Saw c s = num s ≤ seen c (unit s)

-- ---- what was seen by what was seen

module _ (l : List Rec) (sound : Sound l) where
  same_record : (r s : Rec) → Member r l → Member s l → unit r ≡ unit s → num r ≡ num s → r ≡ s
  same_record r s i j u n =
      let q : some r ≡ some s = sym (held-by_id l r sound i) ∙ ap (λ (v : ℕ). by_id v (num r) l) u ∙ ap (λ (v : ℕ). by_id (unit s) v l) n ∙ held-by_id l s sound j in
      cc

  within_seen : (n : ℕ) (r c : Rec) → Member r l → Member c l → seen r (unit c) ≤ n → Saw r c → (v : ℕ) → v < 8 → seen c v ≤ seen r v
  within_seen zero r c i j b e v k = absurd (omega (arith, own_of [] l c sound j))
  within_seen (suc n) r c i j b e v k =
      let w = saw l r sound i (unit c) (unit_of_lem [] l c sound j) (omega (arith, own_of [] l c sound j)) in
      let a = w.numbered in
      let p : num w.it ≡ suc (seen w.it (unit c)) = subst (λ (x : ℕ). num w.it ≡ suc (seen w.it x)) w.of_unit (own_of [] l w.it sound w.in_log) in
      ⊎_elim
      (λ (q : num c ≡ num w.it).
      subst (λ (x : Rec). seen x v ≤ seen r v) (sym (same_record c w.it j w.in_log (sym w.of_unit) q)) (w.inside v k))
      (λ (q : num c ≡ num w.it → ⊥).
      let m : seen c v ≤ seen w.it v = within_seen n w.it c w.in_log j (omega arith) (omega arith) v k in
      omega (arith, w.inside v k))
      (eq_or_ne (num c) (num w.it))

  through : (r c s : Rec) → Member r l → Member c l → Member s l → Saw r c → Saw c s → Saw r s
  through r c s i j k a b = omega (arith, within_seen (seen r (unit c)) r c i j (omega arith) a (unit s) (unit_of_lem [] l s sound k))

  no_circle : (c d : Rec) → Member c l → Member d l → Saw c d → Saw d c → ⊥
  no_circle c d i j a b =
      omega (arith, seen_below [] l c d sound i (inr j) (unit_of_lem [] l d sound j) a, seen_below [] l d c sound j (inr i) (unit_of_lem [] l c sound i) b)

  saw_of : (r c : Rec) → Member c l → unseen r (self_of c) ≡ false → Saw r c
  unfolding unseen
  saw_of r c j e =
      let b = unit_of_lem [] l c sound j in
      let a : number_of (self_of c) ≤ seen r (unit_of (self_of c)) = ltb-false (seen r (unit_of (self_of c))) (number_of (self_of c)) e in
      rw (self_unit c b, self_num c b) at a

-- ---- asides and makers after one record

has_front : (a b : List ℕ) (k : ℕ) → Has k a → Has k (a ++ b)
has_front [] b k i = absurd i
has_front (x ∷ a) b k (inl q) = inl q
has_front (x ∷ a) b k (inr i) = inr (has_front a b k i)

has_back : (a b : List ℕ) (k : ℕ) → Has k b → Has k (a ++ b)
has_back [] b k i = i
has_back (x ∷ a) b k i = inr (has_back a b k i)

has_nil : (a : List ℕ) (k : ℕ) → Has k (a ++ []) → Has k a
has_nil [] k i = i
has_nil (x ∷ a) k (inl q) = inl q
has_nil (x ∷ a) k (inr i) = inr (has_nil a k i)

firsts : List Standing → List ℕ
firsts [] = []
firsts (s ∷ l) = s.0 ∷ firsts l

firsts-append : (l m : List Standing) → firsts (l ++ m) ≡ firsts l ++ firsts m
unfolding firsts
firsts-append [] m = refl
firsts-append (s ∷ l) m = ap (λ (x : List ℕ). s.0 ∷ x) (firsts-append l m)

whos-firsts : (l : List Aside) → whos l ≡ firsts (standings l)
unfolding whos firsts standings
whos-firsts [] = refl
whos-firsts (a ∷ l) = ap (λ (x : List ℕ). a.who ∷ x) (whos-firsts l)

module _ (t : Tree) (r : Rec) where
  whos-step : whos (step t r).asides ≡ whos t.asides ++ firsts (standing (judge r t) r)
  whos-step =
      whos-firsts (step t r).asides
      ∙ ap firsts (standings-step t r)
      ∙ firsts-append (standings t.asides) (standing (judge r t) r)
      ∙ ap (λ (x : List ℕ). x ++ firsts (standing (judge r t) r)) (sym (whos-firsts t.asides))

  asides_keep : (k : ℕ) → Has k (whos t.asides) → Has k (whos (step t r).asides)
  asides_keep k i = rw whos-step (has_front (whos t.asides) (firsts (standing (judge r t) r)) k i)

  -- a record that is not aside afterwards has fitted
  fitted : (Has (self_of r) (whos (step t r).asides) → ⊥) → judge r t ≡ fits
  unfolding standing firsts
  fitted f = go (judge r t) refl
    where
      go : (v : Verdict) → judge r t ≡ v → judge r t ≡ fits
      go fits e = e
      go (aside n k) e =
          absurd (f (rw (whos-step, e) (has_back (whos t.asides) (self_of r ∷ []) (self_of r) (inl refl))))

  makers_keep : (k : ℕ) → Has k (makers t.entries) → Has k (makers (step t r).entries)
  makers_keep k i = rw (makers-step t r) (has_front (makers t.entries) (making (judge r t) r) k i)

  made_now : judge r t ≡ fits → op r ≤ 2 → Has (self_of r) (makers (step t r).entries)
  unfolding making
  made_now f o = rw (makers-step t r, f, le-leb (op r) 2 o) (has_back (makers t.entries) (self_of r ∷ []) (self_of r) (inl refl))

-- ---- the chain of an entry

-- the record s has been replayed, and does not stand aside
abbrev Fitted : List Rec → Tree → Rec → Type 0
Fitted pre t s = Member s pre × (Has (self_of s) (whos t.asides) → ⊥)

-- the record that the field h of the entry names has fitted, and has seen all others that set it and have fitted
record Chained (h : Entry → ℕ) (Sets : ℕ → Rec → Type 0) (pre : List Rec) (t : Tree) (k : ℕ) (x : Entry) : Type 0 where
  last : Rec
  named : self_of last ≡ h x
  sets : Sets k last
  fit : Fitted pre t last
  others : (s : Rec) → Fitted pre t s → Sets k s → (self_of s ≡ h x) ⊎ Saw last s

-- what holds after the records pre, the last first
record Played (h : Entry → ℕ) (Sets : ℕ → Rec → Type 0) (pre : List Rec) (t : Tree) : Type 0 where
  lone : Lone (makers t.entries) (whos t.asides)
  makers_by : (k : ℕ) → Has k (makers t.entries) → Has k (selves pre)
  asides_by : (k : ℕ) → Has k (whos t.asides) → Has k (selves pre)
  known : (s : Rec) → Fitted pre t s → (k : ℕ) → Sets k s → Has k (makers t.entries)
  chained : (k : ℕ) (x : Entry) → entry_of k t.entries ≡ some x → Chained h Sets pre t k x

-- the records pre with those of m before them, the last first
after : List Rec → List Rec → List Rec
after pre [] = pre
after pre (r ∷ m) = after (r ∷ pre) m

after_has : (pre m : List Rec) (s : Rec) → Member s pre ⊎ Member s m → Member s (after pre m)
unfolding after
after_has pre [] s (inl i) = i
after_has pre [] s (inr i) = absurd i
after_has pre (r ∷ m) s (inl i) = after_has (r ∷ pre) m s (inl (inr i))
after_has pre (r ∷ m) s (inr (inl q)) = after_has (r ∷ pre) m s (inl (inl q))
after_has pre (r ∷ m) s (inr (inr i)) = after_has (r ∷ pre) m s (inr i)

has_after : (pre m : List Rec) (s : Rec) → Member s (after pre m) → Member s pre ⊎ Member s m
unfolding after
has_after pre [] s i = inl i
has_after pre (r ∷ m) s i = ⊎_elim (λ j. ⊎_elim (λ q. inr (inl q)) (λ k. inl k) j) (λ j. inr (inr j)) (has_after (r ∷ pre) m s i)

module _ (h : Entry → ℕ) (Sets : ℕ → Rec → Type 0)
    (origin : (t : Tree) (r : Rec) → Distinct (makers t.entries) → (Has (self_of r) (makers t.entries) → ⊥) → (k : ℕ) (x : Entry) → entry_of k (step t r).entries ≡ some x → Origin h Sets t r k x)
    (makes : (k : ℕ) (r : Rec) → Sets k r → ((op r ≤ 2) × (self_of r ≡ k)) ⊎ (2 < op r))
    (saws : (t : Tree) (r : Rec) (k : ℕ) → judge r t ≡ fits → Sets k r → 2 < op r → SeenLast h t r k)
    (l : List Rec) (sound : Sound l) where
  module _ (pre : List Rec) (t : Tree) (r : Rec) (here : Member r l) (from : Sub pre l) (fresh : Has (self_of r) (selves pre) → ⊥) (w : Played h Sets pre t) where
    new_made : Has (self_of r) (makers t.entries) → ⊥
    new_made i = fresh (w.makers_by (self_of r) i)

    new_aside_lem : Has (self_of r) (whos t.asides) → ⊥
    new_aside_lem i = fresh (w.asides_by (self_of r) i)

    -- what has fitted before has fitted still, and the other way round
    fit_on : (s : Rec) → Fitted pre t s → Fitted (r ∷ pre) (step t r) s
    fit_on s f = (
      inr f.0,
      λ j. ⊎_elim (λ i. f.1 i) (λ (q : self_of s ≡ self_of r). fresh (subst (λ (k : ℕ). Has k (selves pre)) q (member_selves pre s f.0))) (asides_step t r (self_of s) j),
    )

    fit_back : (s : Rec) → Fitted (r ∷ pre) (step t r) s → ((s ≡ r) × (judge r t ≡ fits)) ⊎ Fitted pre t s
    fit_back s (inl q, f) = inl (q, fitted t r (subst (λ (x : Rec). Has (self_of x) (whos (step t r).asides) → ⊥) q f))
    fit_back s (inr i, f) = inr (i, λ j. f (asides_keep t r (self_of s) j))

    fit_now : judge r t ≡ fits → Fitted (r ∷ pre) (step t r) r
    unfolding standing firsts
    fit_now f = (inl refl, λ j. new_aside_lem (has_nil (whos t.asides) (self_of r) (rw (whos-step t r, f) at j)))

    -- a record before r that sets what r sets
    behind : (k : ℕ) → judge r t ≡ fits → Sets k r → (s : Rec) → Fitted pre t s → Sets k s → Saw r s
    behind k f p s g q =
        ⊎_elim
        (λ a. absurd (new_made (subst (λ (j : ℕ). Has j (makers t.entries)) (sym a.1) (w.known s g k q))))
        (λ (o : 2 < op r).
        let (e, z, u) = saws t r k f p o in
        let c = w.chained k e z in
        let b : Saw r c.last = saw_of l sound r c.last (from c.last c.fit.0) (rw c.named u) in
        ⊎_elim
        (λ (y : self_of s ≡ h e). saw_of l sound r s (from s g.0) (rw y u))
        (λ (y : Saw c.last s). through l sound r c.last s here (from c.last c.fit.0) (from s g.0) b y)
        (c.others s g q))
        (makes k r p)

    link : (k : ℕ) (x : Entry) → entry_of k (step t r).entries ≡ some x → Chained h Sets (r ∷ pre) (step t r) k x
    link k x z =
        ⊎_elim
        (λ o. record {
          last = r;
          named = sym o.2;
          sets = o.1;
          fit = fit_now o.0;
          others = λ s g q. ⊎_elim (λ y. inl (ap self_of y.0 ∙ sym o.2)) (λ y. inr (behind k o.0 o.1 s y q)) (fit_back s g);
        })
        (λ o.
        let (e, y, n, d) = o in
        let c = w.chained k e y in
        record {
          last = c.last;
          named = c.named ∙ sym n;
          sets = c.sets;
          fit = fit_on c.last c.fit;
          others = λ s g q.
              ⊎_elim
              (λ v. absurd (d v.1 (subst (Sets k) v.0 q)))
              (λ v. ⊎_elim (λ a. inl (a ∙ sym n)) (λ a. inr a) (c.others s v q))
              (fit_back s g);
        })
        (origin t r w.lone.entries_once new_made k x z)

    one_more : Played h Sets (r ∷ pre) (step t r)
    unfolding selves
    one_more =
        record {
          lone = lone_step t r new_made new_aside_lem w.lone;
          makers_by = λ k i. ⊎_elim (λ j. inr (w.makers_by k j)) (λ q. inl q) (names-step t r k i);
          asides_by = λ k i. ⊎_elim (λ j. inr (w.asides_by k j)) (λ q. inl q) (asides_step t r k i);
          known = λ s g k q.
              ⊎_elim
              (λ y.
              let p : Sets k r = subst (Sets k) y.0 q in
              ⊎_elim
              (λ a. subst (λ (j : ℕ). Has j (makers (step t r).entries)) a.1 (made_now t r y.1 a.0))
              (λ o. let (e, z, u) = saws t r k y.1 p o in makers_keep t r k (entry_in_lem k t.entries e z))
              (makes k r p))
              (λ y. makers_keep t r k (w.known s y k q))
              (fit_back s g);
          chained = link;
        }

  all_played : (pre m : List Rec) (t : Tree) → Sub pre l → Sub m l → Distinct (selves m) → ((k : ℕ) → Has k (selves m) → Has k (selves pre) → ⊥) → Played h Sets pre t
      → Played h Sets (after pre m) (replay_from t m)
  unfolding after replay_from selves
  all_played pre [] t a b d n w = w
  all_played pre (r ∷ m) t a b d n w =
      all_played (r ∷ pre) m (step t r)
      (λ s i. ⊎_elim (λ q. b s (inl q)) (λ j. a s j) i)
      (λ s i. b s (inr i))
      d.1
      (λ k i j. ⊎_elim (λ (q : k ≡ self_of r). d.0 (subst (λ (x : ℕ). Has x (selves m)) q i)) (λ y. n k (inr i) y) j)
      (one_more pre t r (b r (inl refl)) a (n (self_of r) (inl refl)) w)

  start : Played h Sets [] empty_tree
  unfolding empty_tree makers whos entry_of
  start =
      record {
        lone = record { entries_once = tt; asides_once = tt; not_both = λ k i. absurd i };
        makers_by = λ k i. absurd i;
        asides_by = λ k i. absurd i;
        known = λ s g. absurd g.0;
        chained = λ k x q. none_some q;
      }

  played : (m : List Rec) → Sub m l → Distinct (selves m) → Played h Sets (after [] m) (replay m)
  unfolding replay selves
  played m b d = all_played [] m empty_tree (λ s i. absurd i) b d (λ k i j. absurd j) start

  -- two orders of the same records that leave the same of them aside name the same record
  pub same_last : (m n : List Rec) → Sub m l → Sub n l → Sub m n → Sub n m → Distinct (selves m) → Distinct (selves n)
      → ((k : ℕ) → Has k (whos (replay m).asides) → Has k (whos (replay n).asides)) → ((k : ℕ) → Has k (whos (replay n).asides) → Has k (whos (replay m).asides))
      → (k : ℕ) (e f : Entry) → entry_of k (replay m).entries ≡ some e → entry_of k (replay n).entries ≡ some f → h e ≡ h f
  same_last m n a b ab ba d g up down k e f p q =
      let c = (played m a d).chained k e p in
      let x = (played n b g).chained k f q in
      let i : Member c.last m = ⊎_elim (λ y. absurd y) (λ y. y) (has_after [] m c.last c.fit.0) in
      let j : Member x.last n = ⊎_elim (λ y. absurd y) (λ y. y) (has_after [] n x.last x.fit.0) in
      ⊎_elim
      (λ (y : self_of x.last ≡ h e). sym y ∙ x.named)
      (λ (y : Saw c.last x.last).
      ⊎_elim
      (λ (z : self_of c.last ≡ h f). sym c.named ∙ z)
      (λ (z : Saw x.last c.last). absurd (no_circle l sound c.last x.last (a c.last i) (b x.last j) y z))
      (x.others c.last (after_has [] n c.last (inr (ab c.last i)), λ o. c.fit.1 (down (self_of c.last) o)) c.sets))
      (c.others x.last (after_has [] m x.last (inr (ba x.last j)), λ o. x.fit.1 (up (self_of x.last) o)) x.sets)
