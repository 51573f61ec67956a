-- Passing: what the first unit holds stands still, the blocks since the point come from it, and each take goes through.
-- Assumes nothing.
use Prim.Native.Nat.{ℕ, ◌+◌, ◌-◌, ◌≤◌, ◌<◌, max}
use native.Mathlib.Omega.{arith}
use mathlib.Core.Path.{◌≡◌, refl, sym, ap, ◌∙◌, subst}
use mathlib.Core.Logic.{◌⊎◌, inl, inr, ⊎_elim}
use mathlib.Core.Bool.{Bool, true, false, not, ◌&&◌, ◌||◌, false≢true}
use mathlib.Core.List.{List, [], ◌∷◌, ◌++◌}
use lib.Dec.{ltb, leb, eqb}
use lib.ListN.{length, get_or, drop, length-append, length-drop}
use lib.Seq.{drop-append-le, drop-length, get_or-drop}
use borrow.Author.Tests.{eqb-true, eqb-false, eq-eqb, ne_eqb, leb-true, ltb-true, not-true}
use Rattle.model.specs.Record.{Rec, unit, seen}
use Rattle.model.specs.Log.{sum_to, count, vector_of, records_of, log_bytes, lacking}
use Rattle.model.specs.Block.{block_records, given_fault}
use Rattle.base_model.specs.Base.{is_listed, base_vector, base_in}
use Rattle.call_model.specs.Outcome.{Outcome, outcome, taken, takes_all, take_of}
use Rattle.byte_slice.proofs.Numbers.{eq_or_ne, and_true, true_and}
use Rattle.vector.proofs.Distances.{lacks_none}
use Rattle.log_laws.specs.Members.{Has, Sub, Agree}
use Rattle.log_laws.specs.Sound.{Sound}
use Rattle.log_laws.proofs.Formed.{well_unit, well_own}
use Rattle.log_laws.proofs.Members.{All, all_map, all_append, all_at, has_append}
use Rattle.log_laws.proofs.Counts.{formed}
use Rattle.log_laws.proofs.Lacking.{absent_lacked, union-length}
use Rattle.log_laws.proofs.Tests.{counts_cover}
use Rattle.encoding_laws.proofs.Logs.{sound_proper_on, records_back}
use Rattle.take_laws.specs.Held.{Counts}
use Rattle.take_laws.proofs.Held.{shed, take_adds}
use Rattle.call_laws.proofs.Calls.{take_done}
use Rattle.fold_laws.specs.Worlds as F
use Rattle.machine.specs.Machine.{Call, starts, acts, hands_out, writes, takes, folds, unit_of, Block, Bench, held, held_vector, block_given, done, gives, base_left, folded_left, put, after, next, play}
use Rattle.machine.specs.Claim.{distinct, passes, passing, flow_of, flow, lacked, holds_all, firsts, rising, Passed, zeros, Covered, named, is_among, steady}
use Rattle.machine.proofs.Tests.{Held, holds_cases, holds_some, Rising, rising_from, all_from, distinct_agree}
use Rattle.machine.proofs.Stores.{store_of, store_other, hand_log, write_log}
use Rattle.machine.proofs.Reach.{own, Given, Inv, inv_next, inv_play, held_used, used_play}
use Rattle.machine.proofs.Converge.{held_sound}
use Rattle.machine.proofs.Steady.{Told, steady-at, earlier, never_26, never_27}
use Rattle.machine.proofs.Cover.{Way, way_all, way_end}

-- ---- tests

not_either : (x y : Bool) → not (x || y) ≡ true → (x ≡ false) × (y ≡ false)
not_either true y e = absurd (false≢true e)
not_either false true e = absurd (false≢true e)
not_either false false e = (refl, refl)

or_true : (x y : Bool) → (not x || y) ≡ true → x ≡ true → y ≡ true
or_true true y e p = e
or_true false y e p = absurd (false≢true p)

unit_takes : (u k : ℕ) → unit_of (takes u k) ≡ u
unfolding unit_of
unit_takes u k = refl

flow_other : (b : ℕ) (s : Bench) (c : Call) → (unit_of c ≡ b → ⊥) → flow_of b s c ≡ []
unfolding flow_of unit_of
flow_other b s (starts u) d = refl
flow_other b s (acts u w work) d = refl
flow_other b s (hands_out u v lent) d = refl
flow_other b s (writes u lent) d = refl
flow_other b s (takes u k) d = rw (ne_eqb u b d)
flow_other b s (folds u m work) d = refl

flow_takes : (b : ℕ) (s : Bench) (k : ℕ) → flow_of b s (takes b k) ≡ block_records (block_given s k).bytes
unfolding flow_of
flow_takes b s k = rw (eq-eqb b b refl)

-- ---- what a call of a passing does

module _ (archive a b n₀ : ℕ) where
  -- neither of the two units, the first handing out or writing, or the other taking a block that the first gave since
  pub data Does (s : Bench) (c : Call) : Type 0 where
    elsewhere : (unit_of c ≡ a → ⊥) → (unit_of c ≡ b → ⊥) → Does s c
    giving : store_of (next archive s c) (unit_of c) ≡ store_of s (unit_of c) → (unit_of c ≡ b → ⊥) → Does s c
    taking : (k : ℕ) → c ≡ takes b k → (b ≡ a → ⊥) → n₀ ≤ k → k < length s.given → (block_given s k).giver ≡ a → Does s c

  neither : (s : Bench) (c : Call) (u : ℕ) → unit_of c ≡ u → not (eqb u a || eqb u b) ≡ true → Does s c
  neither s c u q e =
      let (x, y) = not_either (eqb u a) (eqb u b) e in
      elsewhere (λ p. eqb-false u a x (sym q ∙ p)) (λ p. eqb-false u b y (sym q ∙ p))

  gave_hand : (s : Bench) (u : ℕ) (v lent : List ℕ) → store_of (next archive s (hands_out u v lent)) u ≡ store_of s u
  unfolding next after done unit_of base_left folded_left put
  gave_hand s u v lent = rw (eq-eqb u u refl, hand_log archive u (s.logs u) (s.bases u) v lent)

  gave_file : (s : Bench) (u : ℕ) (lent : List ℕ) → store_of (next archive s (writes u lent)) u ≡ store_of s u
  unfolding next after done unit_of base_left folded_left put
  gave_file s u lent = rw (eq-eqb u u refl, write_log archive u (s.logs u) (s.bases u) lent)

  does : (s : Bench) (c : Call) → passes a b n₀ s c ≡ true → Does s c
  unfolding passes unit_of
  does s (starts u) e = neither s (starts u) u refl e
  does s (acts u w work) e = neither s (acts u w work) u refl e
  does s (hands_out u v lent) e = giving (gave_hand s u v lent) (eqb-false u b (not-true (eqb u b) e))
  does s (writes u lent) e = giving (gave_file s u lent) (eqb-false u b (not-true (eqb u b) e))
  does s (folds u m work) e = neither s (folds u m work) u refl e
  does s (takes u k) e =
      let (x, y) = and_true (not (eqb u a)) (not (eqb u b) || (leb n₀ k && (ltb k (length s.given) && eqb (block_given s k).giver a))) e in
      let away : u ≡ a → ⊥ = eqb-false u a (not-true (eqb u a) x) in
      ⊎_elim
      (λ (q : u ≡ b).
      let z = or_true (eqb u b) (leb n₀ k && (ltb k (length s.given) && eqb (block_given s k).giver a)) y (eq-eqb u b q) in
      let (f, g) = and_true (leb n₀ k) (ltb k (length s.given) && eqb (block_given s k).giver a) z in
      let (h, i) = and_true (ltb k (length s.given)) (eqb (block_given s k).giver a) g in
      taking k (ap (λ (t : ℕ). takes t k) q) (λ p. away (q ∙ p)) (leb-true n₀ k f) (ltb-true k (length s.given) h) (eqb-true (block_given s k).giver a i))
      (λ (q : u ≡ b → ⊥). elsewhere away q)
      (eq_or_ne u b)

  -- ---- the first unit's log stays, and its blocks come from it

  module _ (A : List Rec) where
    abbrev Mine : Block → Type 0
    Mine g = g.giver ≡ a → Sub (block_records g.bytes) A

    pub record Source (s : Bench) : Type 0 where
      pub at_a : held s a ≡ A
      pub since : All Mine (drop n₀ s.given)
      pub grown : n₀ ≤ length s.given

    held_a : (s : Bench) (c : Call) → Does s c → held (next archive s c) a ≡ held s a
    unfolding held next
    held_a s c d = ap F.held_of (⊎_elim (λ (q : unit_of c ≡ a). same d q) (λ q. store_other s c (done archive s c) a q) (eq_or_ne (unit_of c) a))
      where
        same : Does s c → unit_of c ≡ a → store_of (next archive s c) a ≡ store_of s a
        same (elsewhere x y) e = absurd (x e)
        same (giving x y) e = subst (λ (u : ℕ). store_of (next archive s c) u ≡ store_of s u) e x
        same (taking k q x y z w) e = absurd (x (sym (ap unit_of q ∙ unit_takes b k) ∙ e))

    source_next : (s : Bench) (c : Call) → Source s → Does s c → Source (next archive s c)
    unfolding next after
    source_next s c h d =
        let u : ℕ = unit_of c in
        let gs : List Block = gives c (done archive s c) in
        record {
          at_a = held_a s c d ∙ h.at_a;
          since =
              rw (drop-append-le n₀ s.given gs h.grown)
              (all_append Mine (drop n₀ s.given) gs h.since
              (all_map (λ g k e r i. subst (Has r) (ap (held s) (sym k.giver ∙ e) ∙ h.at_a) (k.part r i)) gs (own archive s c)));
          grown = omega (arith, h.grown, length-append s.given gs);
        }

    -- a block that the first gave since the point is of its records
    source_block : (s : Bench) (k : ℕ) → Source s → n₀ ≤ k → k < length s.given → (block_given s k).giver ≡ a → Sub (block_records (block_given s k).bytes) A
    unfolding block_given
    source_block s k h p q e =
        let d : Block = record { giver = 0; bytes = [] } in
        let m : n₀ + (k - n₀) ≡ k = omega arith in
        let z : get_or (drop n₀ s.given) (k - n₀) d ≡ get_or s.given k d = get_or-drop n₀ s.given (k - n₀) d ∙ ap (λ (x : ℕ). get_or s.given x d) m in
        subst Mine z (all_at Mine (drop n₀ s.given) (k - n₀) d (omega (arith, length-drop n₀ s.given)) h.since) e

    -- what the other takes is of these records
    flow-part : (s : Bench) (c : Call) → Source s → Does s c → Sub (flow_of b s c) A
    flow-part s c h (elsewhere x y) r i = absurd (subst (Has r) (flow_other b s c y) i)
    flow-part s c h (giving x y) r i = absurd (subst (Has r) (flow_other b s c y) i)
    flow-part s c h (taking k q x y z w) r i =
        source_block s k h y z w r (subst (Has r) (ap (flow_of b s) q ∙ flow_takes b s k) i)

    source_flow : (cs : List Call) (s : Bench) → Source s → passing archive a b n₀ s cs ≡ true → Sub (flow archive b s cs) A
    unfolding flow passing
    source_flow [] s h e r i = absurd i
    source_flow (c ∷ cs) s h e r i =
        let (p, q) = and_true (passes a b n₀ s c) (passing archive a b n₀ (next archive s c) cs) e in
        ⊎_elim
        (λ j. flow-part s c h (does s c p) r j)
        (λ j. source_flow cs (next archive s c) (source_next s c h (does s c p)) q r j)
        (has_append (flow_of b s c) (flow archive b (next archive s c) cs) r i)

-- ---- over the calls

-- base: the base of b, p: what it stands for
module _ (archive a b n₀ : ℕ) (b8 : b < 8) (A B₀ used : List Rec) (s_a : Sound A) (agree : Agree used used) (in_a : Sub A used) (base : List ℕ) (p : List Rec)
    (counts : Counts (base_vector base) p) (listed : (r : Rec) → Has r A → is_listed (base_in base).list (unit r) ≡ true)
    (over : (r : Rec) → Has r A → (Has r B₀ → ⊥) → (u : ℕ) → u < 8 → get_or (base_vector base) u 0 ≤ seen r u)
    (fit : sum_to 8 (λ u. max (count u A) (count u B₀)) ≤ 512 + length p) where
  abbrev W : List Rec → List Rec → List Rec → Type 0
  W = Way A B₀ used s_a agree in_a (base_in base).list (base_vector base) p counts listed over fit

  -- b on its way: its base stays, its log takes what comes
  record On (s : Bench) (acc rest : List Rec) : Type 0 where
    same_base : s.bases b ≡ base
    same_folded : s.folded b ≡ p
    way : W (records_of (s.logs b)) acc rest

  -- one call: a take of b answers 0, and what its log becomes
  record Went (s : Bench) (c : Call) (rest : List Rec) : Type 0 where
    zero' : unit_of c ≡ b → (done archive s c).number ≡ 0
    acc : List Rec
    on : On (next archive s c) acc rest

  other : (s : Bench) (c : Call) (acc rest : List Rec) → (unit_of c ≡ b → ⊥) → On s acc (flow_of b s c ++ rest) → Went s c rest
  unfolding next after put
  other s c acc rest d w =
      let away : eqb b (unit_of c) ≡ false = ne_eqb b (unit_of c) (λ e. d (sym e)) in
      record {
        zero' = λ k. absurd (d k);
        acc = acc;
        on = record { same_base = rw away w.same_base; same_folded = rw away w.same_folded; way = rw away (rw (flow_other b s c d) at w.way) };
      }

  mine : (s : Bench) (k : ℕ) (acc rest : List Rec) → Inv archive s → k < length s.given → On s acc (flow_of b s (takes b k) ++ rest) → Went s (takes b k) rest
  unfolding next after done block_given put unit_of base_left folded_left
  mine s k acc rest i n w =
      let l : List Rec = records_of (s.logs b) in
      let bs : List Rec = block_records (block_given s k).bytes in
      let (m, acc₁, t, w₁) = way_all A B₀ used s_a agree in_a (base_in base).list (base_vector base) p counts listed over fit bs rest l acc (rw (flow_takes b s k) at w.way) in
      let f : given_fault archive (block_given s k).bytes ≡ 0 = (all_at (Given archive s.used) s.given k (record { giver = 0; bytes = [] }) n i.blocked).0 in
      let t' : takes_all (base_in (s.bases b)).list (base_vector (s.bases b)) l bs ≡ taken m = rw w.same_base t in
      let o : take_of archive b (s.logs b) (s.bases b) (block_given s k).bytes ≡ outcome 0 0 (log_bytes m) [] 0 =
      take_done archive b (s.logs b) (s.bases b) (block_given s k).bytes m (omega arith) (i.good b) f t' in
      let g = take_adds (base_vector base) p counts (base_in base).list bs l m w.way.way.sound t in
      let back : records_of (log_bytes m) ≡ m =
      records_back m (sound_proper_on (base_vector base) m (shed (base_vector base) p m counts g.sound)) (g.room (i.stored.kept b).few) in
      let here : eqb b b ≡ true = eq-eqb b b refl in
      record {
        zero' = λ _. ap (λ (x : Outcome). x.number) {y = outcome 0 0 (log_bytes m) [] 0} o;
        acc = acc₁;
        on = record { same_base = rw here w.same_base; same_folded = rw here w.same_folded; way = rw (here, o, back) w₁ };
      }

  went : (s : Bench) (c : Call) (acc rest : List Rec) → Inv archive s → Does archive a b n₀ s c → On s acc (flow_of b s c ++ rest) → Went s c rest
  went s c acc rest i (elsewhere x y) w = other s c acc rest y w
  went s c acc rest i (giving x y) w = other s c acc rest y w
  went s c acc rest i (taking k q x y z v) w =
      subst (λ (t : Call). Went s t rest) (sym q) (mine s k acc rest i z (subst (λ (t : Call). On s acc (flow_of b s t ++ rest)) q w))

  covered : (s : Bench) (acc : List Rec) → held s a ≡ A → On s acc [] → (u : ℕ) → count u (held s a) ≤ count u (held s b)
  unfolding held
  covered s acc h w u =
      rw (h, w.same_folded) (way_end A B₀ used s_a agree in_a (base_in base).list (base_vector base) p counts listed over fit (records_of (s.logs b)) acc w.way u)

  goes : (cs : List Call) (s : Bench) (acc : List Rec) → Inv archive s → Source archive a b n₀ A s → passing archive a b n₀ s cs ≡ true → On s acc (flow archive b s cs)
      → (zeros archive b s cs ≡ true) × ((u : ℕ) → count u (held (play archive s cs) a) ≤ count u (held (play archive s cs) b))
  unfolding flow play passing zeros
  goes [] s acc i h e w = (refl, covered s acc h.at_a w)
  goes (c ∷ cs) s acc i h e w =
      let (x₁, q) = and_true (passes a b n₀ s c) (passing archive a b n₀ (next archive s c) cs) e in
      let d = does archive a b n₀ s c x₁ in
      let g = went s c acc (flow archive b (next archive s c) cs) i d w in
      let (x, y) = goes cs (next archive s c) g.acc (inv_next archive s c i) (source_next archive a b n₀ A s c h d) q g.on in
      (true_and (not (eqb (unit_of c) b) || eqb (done archive s c).number 0) (zeros archive b (next archive s c) cs) (zero_or g.zero') x, y)
    where
      zero_or : (unit_of c ≡ b → (done archive s c).number ≡ 0) → (not (eqb (unit_of c) b) || eqb (done archive s c).number 0) ≡ true
      zero_or f =
          ⊎_elim
          (λ k. rw (eq-eqb (unit_of c) b k, eq-eqb (done archive s c).number 0 (f k)))
          (λ k. rw (ne_eqb (unit_of c) b k))
          (eq_or_ne (unit_of c) b)

-- ---- the whole

-- a record that the other lacks is among those that come
comes : (A B F used : List Rec) → Sound A → Sound B → Agree used used → Sub A used → Sub B used → Sub F A
    → holds_all F (lacking (vector_of B) A) ≡ true → (r : Rec) → Has r A → (Has r B → ⊥) → Has r F
comes A B F used s_a s_b agree in_a in_b part e r h absent = go (holds_cases B r)
  where
    go : Held B r → Has r F
    go (inl (t, _, j, a, b)) = absurd (absent (subst (λ (x : Rec). Has x B) (agree t r (in_b t j) (in_a r h) a b) j))
    go (inr (_, d)) =
        let f = formed [] A r s_a h in
        let l = absent_lacked A B s_b r (well_unit r f) (omega (arith, well_own r f)) h d in
        let (t, j, a, b) = holds_some F r (all_from F (lacking (vector_of B) A) e r l) in
        subst (λ (x : Rec). Has x F) (agree t r (in_a t (part t j)) (in_a r h) a b) j

-- what b holds at the point, seen from its log
start : (archive : ℕ) (s : Bench) (b : ℕ) (A : List Rec) → Inv archive s → Sound A
    → length (lacking (vector_of (held s b)) A) + length (records_of (s.logs b)) ≤ 512 → sum_to 8 (λ u. max (count u A) (count u (held s b))) ≤ 512 + length (s.folded b)
unfolding held
start archive s b A i s_a k =
    let B : List Rec = s.folded b ++ records_of (s.logs b) in
    omega (arith, union-length A B s_a (i.stored.kept b).sound, length-append (s.folded b) (records_of (s.logs b)))

begin : (archive : ℕ) (cs : List Call) (s : Bench) (b : ℕ) (A used : List Rec) → Inv archive s → (s_a : Sound A) (agree : Agree used used) (in_a : Sub A used) → Sub (held s b) used
    → (base : List ℕ) (counts : Counts (base_vector base) (s.folded b)) (listed : (r : Rec) → Has r A → is_listed (base_in base).list (unit r) ≡ true)
    (over : (r : Rec) → Has r A → (Has r (held s b) → ⊥) → (u : ℕ) → u < 8 → get_or (base_vector base) u 0 ≤ seen r u)
    (fit : sum_to 8 (λ u. max (count u A) (count u (held s b))) ≤ 512 + length (s.folded b))
    → Sub (flow archive b s cs) A → Rising (firsts (held s b) (flow archive b s cs)) → ((r : Rec) → Has r A → (Has r (held s b) → ⊥) → Has r (flow archive b s cs))
    → Way A (held s b) used s_a agree in_a (base_in base).list (base_vector base) (s.folded b) counts listed over fit (records_of (s.logs b)) (held s b) (flow archive b s cs)
unfolding held
begin archive cs s b A used i s_a agree in_a in_b base counts listed over fit part up all =
    record {
      way =
          record {
            sound = (i.stored.kept b).sound;
            in_acc = λ r h. h;
            of_acc = λ r h. h;
            from = in_b;
            part = part;
            rising = up;
            all = all;
            room = λ u k. omega arith;
          };
      kept = λ r h. h;
    }

pub cover : (archive : ℕ) (cs : List Call) (s : Bench) (a b : ℕ) → b < 8 → Inv archive s → Told s → distinct (play archive s cs).used ≡ true
    → named (play archive s cs).lists (play archive s cs).used ≡ true → steady (play archive s cs).folders (play archive s cs).fallen ≡ true
    → Passed archive a b s cs → Covered archive a b s cs
unfolding held_vector lacked base_in
cover archive cs s a b b8 i told d names firm p =
    let A : List Rec = held s a in
    let B : List Rec = held s b in
    let base : List ℕ = s.bases b in
    let used : List Rec = (play archive s cs).used in
    let n : ℕ = length s.given in
    let s_a = held_sound archive s i a in
    let s_b = held_sound archive s i b in
    let agree = distinct_agree used d in
    let more : Sub s.used used = used_play archive cs s in
    let inU : (v : ℕ) → Sub (held s v) used = λ v r h. more r (held_used archive s i v r h) in
    let (e₁, e₂, e₃) = earlier archive cs s in
    let low : (r : Rec) → Has r used → unit r < 8 = λ r h. well_unit r ((inv_play archive cs s i).stored.formed r h) in
    let sure : (is_among b s.folders ≡ false) ⊎ (is_among b s.fallen ≡ false) =
    ⊎_elim (λ k. inl (e₂ b k)) (λ k. inr (e₃ b k)) (steady-at (play archive s cs).folders (play archive s cs).fallen firm b) in
    let counts : Counts (base_vector base) (s.folded b) = (i.stored.kept b).counts in
    let listed : (r : Rec) → Has r A → is_listed (base_in base).list (unit r) ≡ true = λ r h. never_26 archive s i told used more agree low (e₁ used names) b sure r (inU a r h) in
    let over : (r : Rec) → Has r A → (Has r B → ⊥) → (u : ℕ) → u < 8 → get_or (base_vector base) u 0 ≤ seen r u =
    λ r h. never_27 archive s i told used more agree low (e₁ used names) b sure r (held_used archive s i a r h) in
    let fit : sum_to 8 (λ u. max (count u A) (count u B)) ≤ 512 + length (s.folded b) =
    start archive s b A i s_a (leb-true (length (lacking (vector_of B) A) + length (records_of (s.logs b))) 512 p.union) in
    let src : Source archive a b n A s = record { at_a = refl; since = rw drop-length tt; grown = omega arith } in
    let part = source_flow archive a b n A cs s src p.calls in
    let w = begin archive cs s b A used i s_a agree (inU a) (inU b) base counts listed over fit part (rising_from (firsts B (flow archive b s cs)) p.order)
    (comes A B (flow archive b s cs) used s_a s_b agree (inU a) (inU b) part p.all) in
    let (x, y) = goes archive a b n b8 A B used s_a agree (inU a) base (s.folded b) counts listed over fit cs s B i src p.calls (record { same_base = refl; same_folded = refl; way = w }) in
    record { answers = x; covering = lacks_none (held_vector (play archive s cs) b) (held_vector (play archive s cs) a) (counts_cover (held (play archive s cs) a) (held (play archive s cs) b) (λ u _. y u)) }
