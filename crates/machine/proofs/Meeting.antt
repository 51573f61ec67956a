-- Claims B2 and B4: each block of a meeting passes the next six lacking records, and so many blocks pass all.
-- Assumes nothing.
use Prim.Native.Nat.{ℕ, zero, suc, ◌+◌, ◌*◌, ◌/◌, ◌≤◌, ◌<◌, max}
use native.Mathlib.Omega.{arith}
use native.Mathlib.Nat.{add-zero}
use mathlib.Core.Path.{◌≡◌, refl, sym, ap, ◌∙◌, subst}
use mathlib.Core.Logic.{◌⊎◌, inl, inr, ⊎_elim, ◌↔◌}
use mathlib.Core.Bool.{true}
use mathlib.Core.List.{List, [], ◌∷◌, ◌++◌}
use lib.ListN.{length, get_or, take, drop, replicate, take-append-drop, length-drop, drop_of_length-le, length-append}
use lib.Seq.{drop-drop}
use Rattle.model.specs.Vector.{covers, lacks_of, comparison_of, blocks_for}
use Rattle.model.specs.Record.{Rec, unit, num, seen, seen_vector}
use Rattle.model.specs.Log.{sum_to, rank, count, vector_of, no_counts, records_of, log_bytes, lacking}
use Rattle.base_model.specs.Base.{is_listed, base_vector, base_in, held_on}
use Rattle.call_model.specs.Outcome.{Outcome, outcome, hand_of, taken, takes_all, take_of}
use Rattle.byte_slice.proofs.Numbers.{lt_or_ge}
use Rattle.vector.proofs.Dominance.{covers_at, all_covers}
use Rattle.log_laws.specs.Members.{Has, Sub, Agree}
use Rattle.log_laws.specs.Sound.{SoundAfter, Sound}
use Rattle.log_laws.proofs.Formed.{well_unit, well_own}
use Rattle.log_laws.proofs.Sums.{sum_to-le}
use Rattle.log_laws.proofs.Members.{has_append, append_has, has_drop}
use Rattle.log_laws.proofs.Counts.{above_all, formed, unit_of_lem, number_held, sound_front}
use Rattle.log_laws.proofs.Same.{unique, counts-sub}
use Rattle.log_laws.proofs.Lacking.{lacking-cons, lacking-nil, has_lacking, lacking_has, lacking_beyond, absent_lacked, union-length}
use Rattle.log_laws.proofs.Behind.{lacking-length}
use Rattle.log_laws.proofs.Tests.{vector_of_get_d, seen_vector_get_d, sound_means, means_sound}
use Rattle.encoding_laws.proofs.Logs.{sound_proper_on}
use Rattle.call_laws.specs.Keeps.{Good}
use Rattle.call_laws.proofs.States.{good_lists, good_records, lists_at}
use Rattle.call_laws.proofs.Calls.{take_done, take_left, take_back}
use Rattle.call_laws.proofs.Given.{Holds, hand_holds, handedOut, hand_done}
use Rattle.take_laws.specs.Held.{Counts}
use Rattle.take_laws.proofs.Held.{take_adds, vector_held_lem}
use Rattle.machine.specs.Claim.{firsts}
use Rattle.machine.specs.Meeting.{Store, with_log, held_by, vector_by, Whole, lacked_by, handed, round, meet, Open, EveryMeeting}
use Rattle.machine.proofs.Tests.{Held, holds_cases, Rising, firsts_skip, firsts_keep}
use Rattle.machine.proofs.Cover.{Way, way_all}

-- ---- rising lists

pub sound_rising : (pre l : List Rec) → SoundAfter no_counts pre l → Rising l
sound_rising pre [] h = tt
sound_rising pre (r ∷ l) h = (λ s i. above_all (r ∷ pre) l r s h.1 (inl refl) i, sound_rising (r ∷ pre) l h.1)

pub rising-lacking : (v : List ℕ) (l : List Rec) → Rising l → Rising (lacking v l)
rising-lacking v [] h = rw (lacking-nil v) tt
rising-lacking v (r ∷ l) h =
    ⊎_elim
    (λ k. subst Rising (sym k.1) (λ s i. h.0 s (has_lacking v l s i), rising-lacking v l h.1))
    (λ k. subst Rising (sym k.1) (rising-lacking v l h.1))
    (lacking-cons v r l)

rising-drop : (n : ℕ) (l : List Rec) → Rising l → Rising (drop n l)
rising-drop zero l h = h
rising-drop (suc n) [] h = tt
rising-drop (suc n) (r ∷ l) h = rising-drop n l h.1

rising_split : (n : ℕ) (l : List Rec) → Rising l → (r s : Rec) → Has r (take n l) → Has s (drop n l) → rank r < rank s
rising_split zero l h r s i j = absurd i
rising_split (suc n) [] h r s i j = absurd i
rising_split (suc n) (x ∷ l) h r s (inl e) j = rw e (h.0 s (has_drop n l s j))
rising_split (suc n) (x ∷ l) h r s (inr i) j = rising_split n l h.1 r s i j

has_firsts : (acc rs : List Rec) → Sub (firsts acc rs) rs
unfolding firsts
has_firsts acc [] r h = h
has_firsts acc (x ∷ rs) r h = go (holds_cases acc x) (λ acc' i. has_firsts acc' rs r i)
  where
    go : Held acc x → ((acc' : List Rec) → Has r (firsts acc' rs) → Has r rs) → Has r (x ∷ rs)
    go (inl (t, e, _, _, _)) k = inr (k acc (subst (Has r) (firsts_skip acc x rs e) h))
    go (inr (e, d)) k = ⊎_elim (λ q. inl q) (λ i. inr (k (x ∷ acc) i)) (subst (Has r) (firsts_keep acc x rs e) h)

rising-firsts : (acc rs : List Rec) → Rising rs → Rising (firsts acc rs)
unfolding firsts
rising-firsts acc [] h = tt
rising-firsts acc (x ∷ rs) h = go (holds_cases acc x) (λ acc'. rising-firsts acc' rs h.1)
  where
    go : Held acc x → ((acc' : List Rec) → Rising (firsts acc' rs)) → Rising (firsts acc (x ∷ rs))
    go (inl (t, e, _, _, _)) k = subst Rising (sym (firsts_skip acc x rs e)) (k acc)
    go (inr (e, d)) k = subst Rising (sym (firsts_keep acc x rs e)) (λ s i. h.0 s (has_firsts (x ∷ acc) rs s i), k (x ∷ acc))

-- rising lists of the same records are the same
pub rising_same : (l m : List Rec) → Rising l → Rising m → Sub l m → Sub m l → l ≡ m
rising_same [] [] h k f g = refl
rising_same [] (y ∷ m) h k f g = absurd (g y (inl refl))
rising_same (x ∷ l) [] h k f g = absurd (f x (inl refl))
rising_same (x ∷ l) (y ∷ m) h k f g =
    let e = head (f x (inl refl)) (g y (inl refl)) in
    let p : Sub l m = λ s i. ⊎_elim (λ (q : s ≡ y). absurd (omega (arith, h.0 s i, ap rank (q ∙ sym e)))) (λ j. j) (f s (inr i)) in
    let q : Sub m l = λ s i. ⊎_elim (λ (q : s ≡ x). absurd (omega (arith, k.0 s i, ap rank (q ∙ e)))) (λ j. j) (g s (inr i)) in
    λ i. e i ∷ rising_same l m h.1 k.1 p q i
  where
    head : Has x (y ∷ m) → Has y (x ∷ l) → x ≡ y
    head (inl e) j = e
    head (inr i) (inl e) = sym e
    head (inr i) (inr j) = absurd (omega (arith, h.0 y j, k.0 x i))

-- ---- one round, on records

-- A: what the one holds; the other has the list m, the base vector v, which counts the records p, and the log l; they may meet
pub record Pair (A : List Rec) (m : ℕ) (v : List ℕ) (p l : List Rec) : Type 0 where
  pub s_a : Sound A
  pub s_b : Sound (p ++ l)
  pub counts : Counts v p
  pub agree : Agree A (p ++ l)
  pub fit : sum_to 8 (λ u. max (count u A) (count u (p ++ l))) ≤ 512 + length p
  pub listed : (r : Rec) → Has r A → is_listed m (unit r) ≡ true
  pub over : (r : Rec) → Has r A → (Has r (p ++ l) → ⊥) → (u : ℕ) → u < 8 → get_or v u 0 ≤ seen r u

module _ (A : List Rec) (m : ℕ) (v : List ℕ) (p l : List Rec) (pair : Pair A m v p l) where
  pub used : List Rec
  used = A ++ (p ++ l)

  lack : List Rec
  lack = lacking (vector_of (p ++ l)) A

  pub all_agree : Agree used used
  unfolding used
  all_agree r s i j u n = go (has_append A (p ++ l) r i) (has_append A (p ++ l) s j)
    where
      go : Has r A ⊎ Has r (p ++ l) → Has s A ⊎ Has s (p ++ l) → r ≡ s
      go (inl x) (inl y) = unique [] A pair.s_a r s x y u n
      go (inl x) (inr y) = pair.agree r s x y u n
      go (inr x) (inl y) = sym (pair.agree s r y x (sym u) (sym n))
      go (inr x) (inr y) = unique [] (p ++ l) pair.s_b r s x y u n

  pub in_A : Sub A used
  unfolding used
  in_A r h = append_has A (p ++ l) r (inl h)

  in_B : Sub (p ++ l) used
  unfolding used
  in_B r h = append_has A (p ++ l) r (inr h)

  rising_lack : Rising lack
  unfolding lack
  rising_lack = rising-lacking (vector_of (p ++ l)) A (sound_rising [] A pair.s_a)

  -- a record of A that k does not hold is lacked by k
  absent : (k : List Rec) → Sound k → (r : Rec) → Has r A → ((t : Rec) → Has t k → unit t ≡ unit r → num t ≡ num r → ⊥) → Has r (lacking (vector_of k) A)
  absent k h r i d = let f = formed [] A r pair.s_a i in absent_lacked A k h r (well_unit r f) (omega (arith, well_own r f)) i d

  abbrev pub W : List Rec → List Rec → List Rec → Type 0
  W = Way A (p ++ l) used pair.s_a all_agree in_A m v p pair.counts pair.listed pair.over pair.fit

  -- what counts that are held lack may be taken
  pub begin : (x : List ℕ) → ((u : ℕ) → u < 8 → get_or x u 0 ≤ count u (p ++ l)) → W l (p ++ l) (lacking x A)
  begin x held =
      record {
        way =
            record {
              sound = pair.s_b;
              in_acc = λ r h. h;
              of_acc = λ r h. h;
              from = in_B;
              part = has_lacking x A;
              rising = rising-firsts (p ++ l) (lacking x A) (rising-lacking x A (sound_rising [] A pair.s_a));
              all = λ r i d. new r i d (holds_cases (p ++ l) r);
              room = λ u k. omega arith;
            };
        kept = λ r h. h;
      }
    where
      new : (r : Rec) → Has r A → (Has r (p ++ l) → ⊥) → Held (p ++ l) r → Has r (lacking x A)
      new r i d (inl (t, _, j, a, b)) = absurd (d (subst (λ (y : Rec). Has y (p ++ l)) (sym (pair.agree r t i j (sym a) (sym b))) j))
      new r i d (inr (_, f)) =
          let k = unit_of_lem [] A r pair.s_a i in
          lacking_has x A r i (omega (arith, held (unit r) k, vector_of_get_d (p ++ l) (unit r) k, lacking_beyond (vector_of (p ++ l)) A r (absent (p ++ l) pair.s_b r i f)))

  -- a record that is lacked is not held
  lacked_absent : (k : List Rec) → Sound k → (r : Rec) → Has r (lacking (vector_of k) A) → Has r k → ⊥
  lacked_absent k h r i j =
      let b = well_unit r (formed [] k r h j) in
      omega (arith, lacking_beyond (vector_of k) A r i, vector_of_get_d k (unit r) b, number_held k r h j)

  record Round (k : List Rec) : Type 0 where
    takes : takes_all m v l (take 6 lack) ≡ taken k
    pair' : Pair A m v p k
    left : lacking (vector_of (p ++ k)) A ≡ drop 6 lack
    more : (u : ℕ) → u < 8 → count u (p ++ l) ≤ count u (p ++ k)

  after-round : (k acc : List Rec) → takes_all m v l (take 6 lack) ≡ taken k → W k acc (drop 6 lack) → Round k
  unfolding lack
  after-round k acc e w =
      record {
        takes = e;
        pair' =
            record {
              s_a = pair.s_a;
              s_b = w.way.sound;
              counts = pair.counts;
              agree = λ r s i j. all_agree r s (in_A r i) (w.way.from s j);
              fit =
                  omega (
                    arith,
                    pair.fit,
                    sum_to-le 8 (λ u. max (count u A) (count u (p ++ k))) (λ u. max (count u A) (count u (p ++ l))) (λ u b. omega (arith, w.way.room u b)),
                  );
              listed = pair.listed;
              over = λ r i d. pair.over r i (λ h. d (w.kept r h));
            };
        left =
            rising_same (lacking (vector_of (p ++ k)) A) (drop 6 lack) (rising-lacking (vector_of (p ++ k)) A (sound_rising [] A pair.s_a)) (rising-drop 6 lack rising_lack)
            (λ r i. w.way.all r (has_lacking (vector_of (p ++ k)) A r i) (lacked_absent (p ++ k) w.way.sound r i))
            (λ r i.
            absent (p ++ k) w.way.sound r (in_lack r (has_drop 6 lack r i))
            (λ t j a b. not_yet r i (subst (λ (x : Rec). Has x (p ++ k)) (all_agree t r (w.way.from t j) (in_A r (in_lack r (has_drop 6 lack r i))) a b) j)));
        more = λ u b. counts-sub (p ++ l) (p ++ k) pair.s_b w.way.sound w.kept u;
      }
    where
      in_lack : (r : Rec) → Has r lack → Has r A
      in_lack r i = has_lacking (vector_of (p ++ l)) A r i

      not_yet : (r : Rec) → Has r (drop 6 lack) → Has r (p ++ k) → ⊥
      not_yet r i j =
          let held : Has r (p ++ l) → ⊥ = lacked_absent (p ++ l) pair.s_b r (has_drop 6 lack r i) in
          ⊎_elim
          held
          (λ x. omega (arith, rising_split 6 lack rising_lack r r x i))
          ((take_adds v p pair.counts m (take 6 lack) l k pair.s_b e).from r j)

  goes : (k : List Rec) × Round k
  unfolding lack
  goes =
      let b = begin (vector_of (p ++ l)) (λ u x. omega (arith, vector_of_get_d (p ++ l) u x)) in
      let (k, acc, e, w) =
      way_all A (p ++ l) used pair.s_a all_agree in_A m v p pair.counts pair.listed pair.over pair.fit (take 6 lack) (drop 6 lack) l (p ++ l)
      (subst (W l (p ++ l)) (sym (take-append-drop 6 lack)) b) in
      (k, after-round k acc e w)

-- ---- stores

pub whole_sound : (s : Store) → Whole s → Sound (held_by s)
whole_sound s w = sound_means (held_by s) w.sound

pub whole-counts : (s : Store) → Whole s → Counts (base_vector s.base) s.folded
whole-counts s w u k = ap (λ (x : List ℕ). get_or x u 0) (sym w.counted) ∙ vector_of_get_d s.folded u k

pub whole_vector : (s : Store) → Whole s → vector_by s ≡ vector_of (held_by s)
whole_vector s w = vector_held_lem (base_vector s.base) s.folded (whole-counts s w) (records_of s.log)

-- a unit of which a record is held is listed
pub held-listed : (s : Store) → Whole s → (u : ℕ) → u < 8 → (count u (held_by s) ≡ 0 → ⊥) → is_listed (base_in s.base).list u ≡ true
held-listed s w u k d =
    ⊎_elim
    (λ z. absurd (d (sym (vector_of_get_d (held_by s) u k) ∙ ap (λ (x : List ℕ). get_or x u 0) (sym (whole_vector s w)) ∙ z)))
    (λ z. z)
    (lists_at (base_in s.base).list (vector_by s) (good_lists s.log s.base w.good) u k)

-- of records within the counts none is lacking
lacking-behind : (v : List ℕ) (p l : List Rec) → ((r : Rec) → Has r p → num r ≤ get_or v (unit r) 0) → lacking v (p ++ l) ≡ lacking v l
lacking-behind v [] l h = refl
lacking-behind v (r ∷ p) l h =
    ⊎_elim
    (λ k. absurd (omega (arith, k.0, h r (inl refl))))
    (λ k. k.1 ∙ lacking-behind v p l (λ s i. h s (inr i)))
    (lacking-cons v r (p ++ l))

-- counts that cover the base vector lack none of what is folded
pub lacking-held : (v : List ℕ) (s : Store) → Whole s → covers v (base_vector s.base) ≡ true → lacking v (held_by s) ≡ lacking v (records_of s.log)
lacking-held v s w e =
    lacking-behind v s.folded (records_of s.log) (λ r i.
    let h : Sound s.folded = sound_front [] s.folded (records_of s.log) (whole_sound s w) in
    let k = unit_of_lem [] s.folded r h i in
    omega (arith, number_held s.folded r h i, whole-counts s w (unit r) k, covers_at v (base_vector s.base) e (unit r) k))

-- ---- one round, on bytes

-- the block that is handed out to counts that cover the base vector
pub handed-holds : (archive a : ℕ) (s : Store) (v : List ℕ) → a < 8 → Good s.log s.base → covers v (base_vector s.base) ≡ true
    → ((hand_of archive a s.log s.base v (replicate 512 0)).number ≡ 0)
    × Holds archive (hand_of archive a s.log s.base v (replicate 512 0)).lent (take 6 (lacking v (records_of s.log)))
handed-holds archive a s v a8 g c =
    let l : List Rec = records_of s.log in
    let o : Outcome = handedOut archive a s.log s.base v (replicate 512 0) in
    let e : hand_of archive a s.log s.base v (replicate 512 0) ≡ o = hand_done archive a s.log s.base v (replicate 512 0) refl (omega arith) g c in (
      ap (λ (x : Outcome). x.number) e,
      subst (λ (x : Outcome). Holds archive x.lent (take 6 (lacking v l))) (sym e)
          (hand_holds archive a l (omega arith) (sound_proper_on (base_vector s.base) l (good_records s.log s.base g)) (held_on s.log s.base) v),
    )

module _ (archive a b : ℕ) (sa : Store) (a8 : a < 8) (b8 : b < 8) (wa : Whole sa) where
  -- a store with which the one may meet
  pub record Met (s : Store) : Type 0 where
    pub whole : Whole s
    pub pair : Pair (held_by sa) (base_in s.base).list (base_vector s.base) s.folded (records_of s.log)
    pub above : covers (vector_by s) (base_vector sa.base) ≡ true

  lacks : (s : Store) → Met s → lacking (vector_of (held_by s)) (held_by sa) ≡ lacked_by sa s
  unfolding lacked_by
  lacks s k = ap (λ (v : List ℕ). lacking v (held_by sa)) (sym (whole_vector s k.whole)) ∙ lacking-held (vector_by s) sa wa k.above

  handed_is : (s : Store) → Met s → ((handed archive a sa s).number ≡ 0) × Holds archive (handed archive a sa s).lent (take 6 (lacked_by sa s))
  unfolding handed lacked_by
  handed_is s k = handed-holds archive a sa (vector_by s) a8 wa.good k.above

  -- a longer log of the same store
  met_on : (s : Store) → Met s → (log : List ℕ) → Good log s.base → Pair (held_by sa) (base_in s.base).list (base_vector s.base) s.folded (records_of log)
      → ((u : ℕ) → u < 8 → count u (held_by s) ≤ count u (s.folded ++ records_of log)) → Met (with_log s log)
  met_on s k log g pair more =
      let whole : Whole (with_log s log) = record { good = g; sound = means_sound (s.folded ++ records_of log) pair.s_b; counted = k.whole.counted } in
      let at : (x : Store) → Whole x → (u : ℕ) → u < 8 → get_or (vector_by x) u 0 ≡ count u (held_by x) =
      λ x w u h. ap (λ (y : List ℕ). get_or y u 0) (whole_vector x w) ∙ vector_of_get_d (held_by x) u h in
      record {
        whole = whole;
        pair = pair;
        above =
            all_covers (vector_by (with_log s log)) (base_vector sa.base) (λ u h.
            omega (arith, covers_at (vector_by s) (base_vector sa.base) k.above u h, more u h, at s k.whole u h, at (with_log s log) whole u h));
      }

  record Rounds (s : Store) : Type 0 where
    number : (round archive a b sa s).number ≡ 0
    met : Met (with_log s (round archive a b sa s).log)
    left : lacked_by sa (with_log s (round archive a b sa s).log) ≡ drop 6 (lacked_by sa s)

  rounds : (s : Store) → Met s → Rounds s
  unfolding round lack
  rounds s k =
      let m : ℕ = (base_in s.base).list in
      let v : List ℕ = base_vector s.base in
      let p : List Rec = s.folded in
      let l : List Rec = records_of s.log in
      let (n, r) = goes (held_by sa) m v p l k.pair in
      let h = (handed_is s k).1 in
      let t : takes_all m v l (take 6 (lacked_by sa s)) ≡ taken n = rw (← lacks s k) r.takes in
      let e : take_of archive b s.log s.base (handed archive a sa s).lent ≡ outcome 0 0 (log_bytes n) [] 0 =
      take_done archive b s.log s.base (handed archive a sa s).lent n (omega arith) k.whole.good h.faultless (ap (takes_all m v l) h.records ∙ t) in
      let back : records_of (log_bytes n) ≡ n = take_back s.log s.base (take 6 (lacked_by sa s)) n k.whole.good t in
      let good : Good (log_bytes n) s.base = take_left s.log s.base (take 6 (lacked_by sa s)) n k.whole.good t in
      let met : Met (with_log s (log_bytes n)) =
      met_on s k (log_bytes n) good (subst (Pair (held_by sa) m v p) (sym back) r.pair') (λ u x. rw back (r.more u x)) in
      let left : lacked_by sa (with_log s (log_bytes n)) ≡ drop 6 (lacked_by sa s) =
      sym (lacks (with_log s (log_bytes n)) met) ∙ ap (λ (x : List Rec). lacking (vector_of (p ++ x)) (held_by sa)) back ∙ r.left ∙ ap (drop 6) (lacks s k) in
      record {
        number = ap (λ (o : Outcome). o.number) e;
        met = subst (λ (o : Outcome). Met (with_log s o.log)) (sym e) met;
        left = subst (λ (o : Outcome). lacked_by sa (with_log s o.log) ≡ drop 6 (lacked_by sa s)) (sym e) left;
      }

  -- ---- n rounds

  pub meets : (n : ℕ) (s : Store) → Met s → Met (meet archive a b sa s n) × (lacked_by sa (meet archive a b sa s n) ≡ drop (6 * n) (lacked_by sa s))
  unfolding meet
  meets zero s k = (k, refl)
  meets (suc n) s k =
      let (x, y) = meets n s k in
      let r = rounds (meet archive a b sa s n) x in
      let e : 6 * n + 6 ≡ 6 * suc n = omega arith in
      (r.met, r.left ∙ ap (drop 6) y ∙ drop-drop 6 (6 * n) (lacked_by sa s) ∙ ap (λ (i : ℕ). drop i (lacked_by sa s)) e)

  continued : (n m : ℕ) (s : Store) → meet archive a b sa s (n + m) ≡ meet archive a b sa (meet archive a b sa s n) m
  unfolding meet
  continued n zero s = rw add-zero
  continued n (suc m) s = let e : n + suc m ≡ suc (n + m) = omega arith in rw e (ap (λ (x : Store). with_log x (round archive a b sa x).log) (continued n m s))

  -- as many are lacking as the vectors are apart
  apart : (s : Store) → Met s → length (lacked_by sa s) ≡ lacks_of (vector_by s) (vector_by sa)
  apart s k =
      ap (λ (x : List Rec). length x) (sym (lacks s k))
      ∙ lacking-length (vector_of (held_by s)) (held_by sa) (whole_sound sa wa)
      ∙ sym (λ i. lacks_of (whole_vector s k.whole i) (whole_vector sa wa i))

-- nothing is left of a list behind n elements exactly if it has no more
pub none_left : (l : List Rec) (n : ℕ) → (drop (6 * n) l ≡ []) ↔ ((length l + 5) / 6 ≤ n)
none_left l n = (
  λ e. let k : length (drop (6 * n) l) ≡ 0 = ap (λ (x : List Rec). length x) e in omega (arith, length-drop (6 * n) l),
  λ k. drop_of_length-le l {i = 6 * n} (omega arith),
)

-- so counted by how far the vectors are apart
blocks_needed : (l : List Rec) (n d e : ℕ) → length l ≡ d → length (drop (6 * n) l) ≡ e → (e ≡ 0) ↔ (blocks_for d ≤ n)
unfolding blocks_for
blocks_needed l n d e p q = (
  λ z. let k = length-drop (6 * n) l in omega arith,
  λ h. let k = length-drop (6 * n) l in omega arith,
)

-- two stores that may meet
module _ (sa sb : Store) (wa : Whole sa) (wb : Whole sb) (above : covers (vector_by sb) (base_vector sa.base) ≡ true) where
  -- what the vector of b lacks is lacked
  pub lacks_all : lacking (vector_of (held_by sb)) (held_by sa) ≡ lacked_by sa sb
  unfolding lacked_by
  lacks_all = ap (λ (v : List ℕ). lacking v (held_by sa)) (sym (whole_vector sb wb)) ∙ lacking-held (vector_by sb) sa wa above

  -- a record of a that b does not hold is lacked
  pub not_held : Agree (held_by sa) (held_by sb) → (r : Rec) → Has r (held_by sa) → (Has r (held_by sb) → ⊥) → Has r (lacked_by sa sb)
  not_held ag r i d =
      let f = formed [] (held_by sa) r (whole_sound sa wa) i in
      subst (Has r) lacks_all
      (absent_lacked (held_by sa) (held_by sb) (whole_sound sb wb) r (well_unit r f) (omega (arith, well_own r f)) i
      (λ t j x y. d (subst (λ (z : Rec). Has z (held_by sb)) (sym (ag r t i j (sym x) (sym y))) j)))

  -- the units of all records of a are listed at b, if those of what b lacks are
  pub all_listed : ((r : Rec) → Has r (lacked_by sa sb) → is_listed (base_in sb.base).list (unit r) ≡ true)
      → (r : Rec) → Has r (held_by sa) → is_listed (base_in sb.base).list (unit r) ≡ true
  all_listed ok r i =
      let f = formed [] (held_by sa) r (whole_sound sa wa) i in
      let k = well_unit r f in
      ⊎_elim
      (λ (h : get_or (vector_of (held_by sb)) (unit r) 0 < num r). ok r (subst (Has r) lacks_all (lacking_has (vector_of (held_by sb)) (held_by sa) r i h)))
      (λ (h : num r ≤ get_or (vector_of (held_by sb)) (unit r) 0).
      held-listed sb wb (unit r) k (λ z. omega (arith, vector_of_get_d (held_by sb) (unit r) k, well_own r f)))
      (lt_or_ge (get_or (vector_of (held_by sb)) (unit r) 0) (num r))

  pub fits : length (lacked_by sa sb) + length (records_of sb.log) ≤ 512 → sum_to 8 (λ u. max (count u (held_by sa)) (count u (held_by sb))) ≤ 512 + length sb.folded
  fits k =
      omega (
        arith,
        union-length (held_by sa) (held_by sb) (whole_sound sa wa) (whole_sound sb wb),
        ap (λ (l : List Rec). length l) lacks_all,
        length-append sb.folded (records_of sb.log),
      )

  pub may_meet : Agree (held_by sa) (held_by sb) → ((r : Rec) → Has r (lacked_by sa sb) → is_listed (base_in sb.base).list (unit r) ≡ true)
      → ((r : Rec) → Has r (lacked_by sa sb) → covers (seen_vector r) (base_vector sb.base) ≡ true)
      → length (lacked_by sa sb) + length (records_of sb.log) ≤ 512
      → Pair (held_by sa) (base_in sb.base).list (base_vector sb.base) sb.folded (records_of sb.log)
  may_meet ag listed over fit =
      record {
        s_a = whole_sound sa wa;
        s_b = whole_sound sb wb;
        counts = whole-counts sb wb;
        agree = ag;
        fit = fits fit;
        listed = all_listed listed;
        over = λ r i d u k. omega (arith, covers_at (seen_vector r) (base_vector sb.base) (over r (not_held ag r i d)) u k, seen_vector_get_d r u k);
      }

pub first_met : (archive a b : ℕ) (sa sb : Store) (a8 : a < 8) (b8 : b < 8) (wa : Whole sa) → Whole sb → Agree (held_by sa) (held_by sb) → Open sa sb
    → length (lacked_by sa sb) + length (records_of sb.log) ≤ 512 → Met archive a b sa a8 b8 wa sb
first_met archive a b sa sb a8 b8 wa wb ag ok fit =
    record { whole = wb; pair = may_meet sa sb wa wb ok.above ag ok.listed ok.covering fit; above = ok.above }

pub every_meeting : EveryMeeting
unfolding comparison_of
every_meeting archive a b sa sb a8 b8 wa wb ag ok fit =
    let start = first_met archive a b sa sb a8 b8 wa wb ag ok (omega arith) in
    let met : (n : ℕ) → Met archive a b sa a8 b8 wa (meet archive a b sa sb n) = λ n. (meets archive a b sa a8 b8 wa n sb start).0 in
    let left : (n : ℕ) → lacked_by sa (meet archive a b sa sb n) ≡ drop (6 * n) (lacked_by sa sb) = λ n. (meets archive a b sa a8 b8 wa n sb start).1 in
    record {
      handing = λ n. (handed_is archive a b sa a8 b8 wa (meet archive a b sa sb n) (met n)).0;
      taking = λ n. (rounds archive a b sa a8 b8 wa (meet archive a b sa sb n) (met n)).number;
      left = left;
      exactly = λ n. rw (left n) (none_left (lacked_by sa sb) n);
      behind = λ n. apart archive a b sa a8 b8 wa (meet archive a b sa sb n) (met n);
      blocks = λ n.
          blocks_needed (lacked_by sa sb) n (lacks_of (vector_by sb) (vector_by sa)) (lacks_of (vector_by (meet archive a b sa sb n)) (vector_by sa))
          (apart archive a b sa a8 b8 wa sb start)
          (ap (λ (l : List Rec). length l) (sym (left n)) ∙ apart archive a b sa a8 b8 wa (meet archive a b sa sb n) (met n));
      sound = λ n. (met n).whole;
      later = λ n m. continued archive a b sa a8 b8 wa n m sb;
    }
