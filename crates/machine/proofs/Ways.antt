-- Records of one log, put in one after another: if the lacked ones first come in rising rank and none is missing, each may
-- join, and in the end what is held covers the log.
-- Assumes nothing.
use Prim.Native.Nat.{ℕ, suc, ◌≤◌, ◌<◌, max}
use native.Mathlib.Omega.{arith}
use mathlib.Core.Path.{◌≡◌, refl, sym, ap, ◌∙◌, subst}
use mathlib.Core.Logic.{◌⊎◌, inl, inr, ⊎_elim}
use mathlib.Core.Bool.{true, false}
use mathlib.Core.List.{List, [], ◌∷◌}
use lib.ListN.{length}
use Rattle.model.specs.Record.{Rec, unit, num, seen, well_formed}
use Rattle.model.specs.Log.{sum_to, rank, count, no_counts, insert}
use Rattle.byte_slice.proofs.Numbers.{lt_or_ge, eq_or_ne}
use Rattle.log_laws.specs.Members.{Has, Sub, Agree}
use Rattle.log_laws.specs.Sound.{Sound, Joins}
use Rattle.log_laws.proofs.Formed.{well_unit, well_own}
use Rattle.log_laws.proofs.Sums.{sum_to-le}
use Rattle.log_laws.proofs.Counts.{count-cons, count-nil, no_counts_lem, length-counts, number_held, find_held, formed, unit_of_lem}
use Rattle.log_laws.proofs.Insert.{insert_sound, has_insert, insert_has, count-insert}
use Rattle.log_laws.proofs.Seen.{saw}
use Rattle.machine.specs.Claim.{holds, firsts}
use Rattle.machine.proofs.Tests.{Held, holds_cases, has_holds, Rising, firsts_skip, firsts_keep}

-- A: the log that is passed; B₀: what the taker holds at first; used: records that agree, A's among them
module _ (A B₀ used : List Rec) (s_a : Sound A) (agree : Agree used used) (in_a : Sub A used) where
  -- B: what the taker holds; acc: its records as `firsts` gathers them; rs: what is still to be taken
  pub record Way (B acc rs : List Rec) : Type 0 where
    pub sound : Sound B
    pub in_acc : Sub B acc
    pub of_acc : Sub acc B
    pub from : Sub B used
    pub part : Sub rs A
    pub rising : Rising (firsts acc rs)
    pub all : (r : Rec) → Has r A → (Has r B → ⊥) → Has r rs
    pub room : (u : ℕ) → u < 8 → count u B ≤ max (count u A) (count u B₀)

  -- a record of A of an identity that B holds is held
  held_same : (B : List Rec) (s t : Rec) → Sub B used → Has s A → Has t B → unit t ≡ unit s → num t ≡ num s → Has s B
  held_same B s t f i h a b = subst (λ (x : Rec). Has x B) (agree t s (f t h) (in_a s i) a b) h

  -- a record of A that is still to come appears among the firsts
  firsts_has : (rs acc : List Rec) (s : Rec) → Sub rs A → Has s rs → ((t : Rec) → Has t acc → unit t ≡ unit s → num t ≡ num s → ⊥) → Has s (firsts acc rs)
  firsts_has [] acc s p h d = absurd h
  firsts_has (x ∷ rs) acc s p h d = go (holds_cases acc x) (λ acc' d' i. firsts_has rs acc' s (λ r j. p r (inr j)) i d')
    where
      Later : Type 0
      Later = (acc' : List Rec) → ((t : Rec) → Has t acc' → unit t ≡ unit s → num t ≡ num s → ⊥) → Has s rs → Has s (firsts acc' rs)

      behind : ((unit x ≡ unit s) × (num x ≡ num s) → ⊥) → Later → Has s rs → Has s (firsts (x ∷ acc) rs)
      behind f k i = k (x ∷ acc) (λ t j u n. ⊎_elim (λ (q : t ≡ x). f (ap unit (sym q) ∙ u, ap num (sym q) ∙ n)) (λ j'. d t j' u n) j) i

      here : Later → Has s (x ∷ firsts (x ∷ acc) rs)
      here k =
          ⊎_elim
          (λ (q : s ≡ x). inl q)
          (λ i.
          ⊎_elim
          (λ (a : unit x ≡ unit s).
          ⊎_elim
          (λ (b : num x ≡ num s). inl (agree s x (in_a s (p s (inr i))) (in_a x (p x (inl refl))) (sym a) (sym b)))
          (λ b. inr (behind (λ q. b q.1) k i))
          (eq_or_ne (num x) (num s)))
          (λ a. inr (behind (λ q. a q.0) k i))
          (eq_or_ne (unit x) (unit s)))
          h

      go : Held acc x → Later → Has s (firsts acc (x ∷ rs))
      go (inr (e, f)) k = subst (Has s) (sym (firsts_keep acc x rs e)) (here k)
      go (inl (t, e, i, a, b)) k =
          subst (Has s) (sym (firsts_skip acc x rs e))
          (⊎_elim
          (λ (q : s ≡ x). absurd (d t i (a ∙ ap unit (sym q)) (b ∙ ap num (sym q))))
          (λ j. k acc d j)
          h)

  module _ (B acc : List Rec) (r : Rec) (rs : List Rec) (w : Way B acc (r ∷ rs)) where
    -- r is a record of A
    pub passed : Has r A
    passed = w.part r (inl refl)

    pub well : well_formed r ≡ true
    well = formed [] A r s_a passed

    -- r is new
    module _ (new : (t : Rec) → Has t B → unit t ≡ unit r → num t ≡ num r → ⊥) where
      fresh : holds acc r ≡ false
      fresh = go (holds_cases acc r)
        where
          go : Held acc r → holds acc r ≡ false
          go (inl (t, e, h, a, b)) = absurd (new t (w.of_acc t h) a b)
          go (inr (e, d)) = e

      up : Rising (r ∷ firsts (r ∷ acc) rs)
      up = subst Rising (firsts_keep acc r rs fresh) w.rising

      -- a record of A that ranks below r is held already
      lower-held : (s : Rec) → Has s A → rank s < rank r → Has s B
      lower-held s j k = go (holds_cases B s)
        where
          go : Held B s → Has s B
          go (inl (t, e, h, a, b)) = held_same B s t w.from j h a b
          go (inr (e, d)) =
              ⊎_elim
              (λ (z : s ≡ r). absurd (omega (arith, ap rank z)))
              (λ h.
              let f : Has s (firsts (r ∷ acc) rs) =
              firsts_has rs (r ∷ acc) s (λ x q. w.part x (inr q)) h
              (λ t q a b.
              ⊎_elim
              (λ (z : t ≡ r). let y : s ≡ r = agree s r (in_a s j) (in_a r passed) (sym a ∙ ap unit z) (sym b ∙ ap num z) in omega (arith, ap rank y))
              (λ q'. d t (w.of_acc t q') a b)
              q) in
              absurd (omega (arith, up.0 s f)))
              (w.all s j (λ h. d s h refl refl))

      have : (u : ℕ) → u < 8 → seen r u ≤ count u B
      have u k =
          ⊎_elim
          (λ p.
          let s = saw A r s_a passed u k p in
          let h : Has s.it B = lower-held s.it s.in_log s.below in
          let n : num s.it ≤ count u B = rw s.of_unit at (number_held B s.it w.sound h) in
          omega (arith, s.numbered))
          (λ p. omega arith)
          (lt_or_ge 0 (seen r u))

      pub not_more : count (unit r) B < num r
      not_more =
          ⊎_elim
          (λ p. p)
          (λ p. let (t, h, a, b) = find_held B (unit r) (num r) w.sound (omega (arith, well_own r well)) p in absurd (new t h a b))
          (lt_or_ge (count (unit r) B) (num r))

      shut : (s : Rec) → Has s B → num s ≡ seen r (unit s) → (v : ℕ) → v < 8 → seen s v ≤ seen r v
      shut s h n v k =
          let fs = formed [] B s w.sound h in
          let t = saw A r s_a passed (unit s) (well_unit s fs) (omega (arith, well_own s fs)) in
          let z : t.it ≡ s = agree t.it s (in_a t.it t.in_log) (w.from s h) t.of_unit (t.numbered ∙ sym n) in
          subst (λ (x : Rec). seen x v ≤ seen r v) z (t.inside v k)

      -- so it may join
      pub joins : Joins no_counts [] B r
      joins =
          record {
            formed = well;
            next = omega (arith, have (unit r) (well_unit r well), not_more, well_own r well, count-nil (unit r), no_counts_lem (unit r));
            within = λ u k. omega (arith, have u k, count-nil u, no_counts_lem u);
            closed = λ s q n. ⊎_elim (λ x. absurd x) (λ x. shut s x n) q;
          }

      sound_one : Sound (insert r B)
      sound_one = insert_sound B r w.sound joins

      counts_one : (u : ℕ) → u < 8 → count u (insert r B) ≤ max (count u A) (count u B₀)
      counts_one u k =
          ⊎_elim
          (λ a.
          let n : num r ≤ count u A = subst (λ (x : ℕ). num r ≤ count x A) a.0 (number_held A r s_a passed) in
          let m : num r ≡ suc (count (unit r) B) = omega (arith, joins.next, count-nil (unit r), no_counts_lem (unit r)) in
          let m' : num r ≡ suc (count u B) = subst (λ (x : ℕ). num r ≡ suc (count x B)) a.0 m in
          omega (arith, count-insert u r B))
          (λ a. omega (arith, count-insert u r B, w.room u k))
          (count-cons u r B)

      pub room_one : length (insert r B) ≤ sum_to 8 (λ u. max (count u A) (count u B₀))
      room_one =
          omega (
            arith,
            length-counts (insert r B) (λ s h. unit_of_lem [] (insert r B) s sound_one h),
            sum_to-le 8 (λ u. count u (insert r B)) (λ u. max (count u A) (count u B₀)) counts_one,
          )

      pub way_put : Way (insert r B) (r ∷ acc) rs
      way_put =
          record {
            sound = sound_one;
            in_acc = λ x h. ⊎_elim (λ q. inl q) (λ q. inr (w.in_acc x q)) (has_insert r B x h);
            of_acc = λ x h. insert_has r B x (⊎_elim (λ q. inl q) (λ q. inr (w.of_acc x q)) h);
            from = λ x h. ⊎_elim (λ (q : x ≡ r). rw q (in_a r passed)) (λ q. w.from x q) (has_insert r B x h);
            part = λ x h. w.part x (inr h);
            rising = up.1;
            all = λ x h d.
                ⊎_elim
                (λ (q : x ≡ r). absurd (d (insert_has r B x (inl q))))
                (λ k. k)
                (w.all x h (λ y. d (insert_has r B x (inr y))));
            room = counts_one;
          }

    -- r is held
    pub way_pass : Has r B → Way B acc rs
    way_pass h =
        record {
          sound = w.sound;
          in_acc = w.in_acc;
          of_acc = w.of_acc;
          from = w.from;
          part = λ x j. w.part x (inr j);
          rising = subst Rising (firsts_skip acc r rs (has_holds acc r (w.in_acc r h))) w.rising;
          all = λ x j d. ⊎_elim (λ (q : x ≡ r). absurd (d (rw q h))) (λ k. k) (w.all x j d);
          room = w.room;
        }

    -- one of the two
    pub way_cases : Has r B ⊎ ((t : Rec) → Has t B → unit t ≡ unit r → num t ≡ num r → ⊥)
    way_cases = go (holds_cases B r)
      where
        go : Held B r → Has r B ⊎ ((t : Rec) → Has t B → unit t ≡ unit r → num t ≡ num r → ⊥)
        go (inl (t, e, h, a, b)) = inl (held_same B r t w.from passed h a b)
        go (inr (e, d)) = inr d

  -- all are put in: the taker covers
  pub way_end : (B acc : List Rec) → Way B acc [] → (u : ℕ) → count u A ≤ count u B
  way_end B acc w u =
      ⊎_elim
      (λ p.
      let (s, j, a, b) = find_held A u (count u A) s_a p (omega arith) in
      let n : num s ≤ count u B = rw a at (number_held B s w.sound (held s j (holds_cases B s))) in
      omega arith)
      (λ p. omega arith)
      (lt_or_ge 0 (count u A))
    where
      held : (s : Rec) → Has s A → Held B s → Has s B
      held s j (inr (e, d)) = absurd (w.all s j (λ h. d s h refl refl))
      held s j (inl (t, e, h, a, b)) = held_same B s t w.from j h a b
