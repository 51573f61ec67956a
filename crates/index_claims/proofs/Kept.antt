-- Claim I5: an index that is right stays right after each call of its unit, refused or not, and so after any list of calls.
-- Assumes nothing.
use Prim.Native.Nat.{ℕ, zero, suc, ◌≤◌, ◌<◌}
use native.Mathlib.Omega.{arith}
use mathlib.Core.Path.{◌≡◌, refl, sym, ap, subst, ◌∙◌}
use mathlib.Core.Logic.{◌⊎◌, inl, inr, ⊎_elim}
use mathlib.Core.Bool.{Bool, true, false}
use mathlib.Core.List.{List, [], ◌∷◌, ◌++◌}
use lib.Dec.{eqb}
use lib.ListN.{get_or, length, replicate}
use borrow.Author.Tests.{eq-eqb, ne_eqb}
use Rattle.byte_slice.proofs.Numbers.{bool_cases, eq_or_ne}
use Rattle.byte_slice.proofs.PutAt.{length-padded}
use Rattle.model.specs.Bytes.{word}
use Rattle.model.specs.Record.{Rec}
use Rattle.model.specs.Log.{no_counts, count_on, records_of}
use Rattle.model.specs.Replay.{Entry, fits, judge, empty_tree, replay_from, present_ones}
use Rattle.model.specs.File.{blocks_in, block_at}
use Rattle.base_model.specs.Base.{empty_base, base_in, base_vector, held_on, tree_of}
use Rattle.call_model.specs.Outcome.{Outcome, outcome, or_refused, early_number, guard_number, start_of, stamped, act_of, take_of}
use Rattle.call_model.specs.Fold.{fold_of}
use Rattle.row_model.specs.Row.{row_fits, try_from, try_all, RowTaken, took_row, take_row_of}
use Rattle.log_laws.proofs.Members.{All}
use Rattle.log_laws.proofs.Counts.{count-nil, no_counts_lem}
use Rattle.log_laws.proofs.Tests.{vector_on_get_d}
use Rattle.encoding_laws.proofs.Logs.{empty_log}
use Rattle.base_laws.proofs.Claims.{fold_shows_the_same}
use Rattle.act_laws.proofs.Acting.{act_accepted}
use Rattle.call_laws.specs.Keeps.{Good}
use Rattle.call_laws.proofs.States.{empty_vector, empty_tree_lem, sound_back, zeros_good}
use Rattle.call_laws.proofs.Calls.{guard_good, start_keeps, act-keeps, act_cases, take-keeps}
use Rattle.call_laws.proofs.Keeping.{fold_keeps}
use Rattle.row_laws.proofs.Stops.{row_good}
use Rattle.index_model.specs.Index.{index_size, index_places, ordered, index_rows, index_bytes, index_of}
use Rattle.index_model.specs.Acting.{change_in, step_in}
use Rattle.index_model.specs.Kept.{index_of_log, index_fits, both_fit, if_lent, kept_of, start_kept, act_kept, take_kept, row_kept_of, take_row_kept}
use Rattle.index_laws.specs.Copied.{index_from}
use Rattle.index_laws.proofs.Reading.{Long, rows_long}
use Rattle.index_laws.proofs.Sorted.{has_ordered}
use Rattle.index_laws.proofs.Exact.{Rowed, all_has, has_all, length-ordered}
use Rattle.index_state.proofs.States.{state_fit, index_made}
use Rattle.index_claims.specs.Lists.{UnitCall, starts, acts, takes, takes_row, folds, Carried, carried, leaves, leaves_all, Given, AllGiven, Bytes, SmallOn, Right}
use Rattle.index_claims.proofs.Claims.{start_index, index_kept}
use Rattle.index_claims.proofs.Small.{act_small, take_small, row_small}

-- ---- a fresh index has its length

bytes_long : (l : List Entry) → length l ≤ index_places → All Long l → length (index_bytes l) ≡ index_size
unfolding index_bytes
bytes_long l few long = omega (arith, length-padded 40960 (index_rows l) (omega (arith, rows_long l long)))

pub fresh-long : (log base : List ℕ) → Good log base → SmallOn log base → length (index_of_log log base) ≡ index_size
unfolding index_of
fresh-long log base g small =
    let es : List Entry = present_ones (tree_of log base).entries in
    let w = state_fit log base g.long.1 g.sound small in
    bytes_long (ordered es) (omega (arith, length-ordered es, w.few))
    (all_has Long (ordered es) (λ x i. (has_all Rowed es x w.rowed (has_ordered es x i)).0))

right_lent : (s : Carried) → Right s → length s.index ≡ 0 → ⊥
right_lent s r z =
    let n : length s.index ≡ index_size = ap length r.fresh ∙ fresh-long s.log s.base r.good r.small in
    omega arith

-- ---- one call

same : {log log' base base' i i' : List ℕ} → log' ≡ log → base' ≡ base → i' ≡ i → carried log' base' i' ≡ carried log base i
same p q e = λ k. carried (p k) (q k) (e k)

numbered : (fit : Bool) (log lent i : List ℕ) (o : Outcome) (j : List ℕ) → fit ≡ true → (kept_of fit log lent i o j).number ≡ o.number
unfolding kept_of
numbered fit log lent i o j f = rw f

kept_made : (fit : Bool) (log lent i : List ℕ) (o : Outcome) (j : List ℕ) → fit ≡ true → (length i ≡ 0 → ⊥) → o.number ≡ 0
    → ((kept_of fit log lent i o j).log ≡ o.log) × ((kept_of fit log lent i o j).index ≡ j) × ((kept_of fit log lent i o j).lent ≡ o.lent)
unfolding kept_of if_lent
kept_made fit log lent i o j f n z = (rw f, rw (f, z, ne_eqb (length i) 0 n), rw f)

long_fits : (i : List ℕ) → length i ≡ index_size → index_fits i ≡ true
unfolding index_fits
long_fits i n = rw n

-- what a call leaves: all as it was, or what the call without an index leaves and the index j
kept_cases : (fit : Bool) (log lent i : List ℕ) (o : Outcome) (j : List ℕ) → (length i ≡ 0 → ⊥) → ((o.number ≡ 0 → ⊥) → (o.log ≡ log) × (o.lent ≡ lent))
    → (((kept_of fit log lent i o j).log ≡ log) × ((kept_of fit log lent i o j).index ≡ i) × ((kept_of fit log lent i o j).lent ≡ lent))
    ⊎ ((o.number ≡ 0) × (((kept_of fit log lent i o j).log ≡ o.log) × ((kept_of fit log lent i o j).index ≡ j) × ((kept_of fit log lent i o j).lent ≡ o.lent)))
unfolding kept_of if_lent
kept_cases false log lent i o j n h = inl (refl, refl, refl)
kept_cases true log lent i o j n h =
    ⊎_elim
    (λ (z : o.number ≡ 0). inr (z, kept_made true log lent i o j refl n z))
    (λ (z : o.number ≡ 0 → ⊥). inl ((h z).0, rw (ne_eqb o.number 0 z) refl, (h z).1))
    (eq_or_ne o.number 0)

-- ---- starting

zeros-tree : tree_of (replicate 40960 0) empty_base ≡ empty_tree
unfolding tree_of replay_from
zeros-tree =
    let q : records_of (replicate 40960 0) ≡ [] = ap records_of (sym empty_log) ∙ sound_back [] tt (omega arith) in
    rw (q, empty_tree_lem)

zeros_small : SmallOn (replicate 40960 0) empty_base
zeros_small u h =
    let q : records_of (replicate 40960 0) ≡ [] = ap records_of (sym empty_log) ∙ sound_back [] tt (omega arith) in
    let e : get_or (held_on (replicate 40960 0) empty_base) u 0 ≡ count_on no_counts u [] = rw (q, empty_vector) (vector_on_get_d no_counts [] u h) in
    omega (arith, count-nil u, no_counts_lem u)

zeros-right : Right (carried (replicate 40960 0) empty_base (replicate index_size 0))
zeros-right = record { good = zeros_good; small = zeros_small; fresh = sym start_index ∙ ap index_of (sym zeros-tree) }

start_done : (u : ℕ) (log base : List ℕ) → (start_of u log base).number ≡ 0 → ((start_of u log base).log ≡ replicate 40960 0) × ((start_of u log base).lent ≡ empty_base)
unfolding start_of
start_done u log base z = go (early_number u log base true true) z
  where
    done : ℕ → Outcome
    done n = or_refused n log base (outcome 0 0 (replicate 40960 0) empty_base 0)

    go : (n : ℕ) → (done n).number ≡ 0 → ((done n).log ≡ replicate 40960 0) × ((done n).lent ≡ empty_base)
    go zero q = (refl, refl)
    go (suc n) q = absurd (omega arith)

-- an accepted start leaves the log without a record, the empty base and the index of these, whatever stood there before
pub started_right : (archive u : ℕ) (log base i : List ℕ) → length i ≡ index_size → (start_kept u log base i).number ≡ 0 → Right (leaves archive u starts (carried log base i))
unfolding leaves start_kept
started_right archive u log base i n z =
    let o : Outcome = start_of u log base in
    let j : List ℕ = replicate index_size 0 in
    let fit : index_fits i ≡ true = long_fits i n in
    let y : o.number ≡ 0 = sym (numbered (index_fits i) log base i o j fit) ∙ z in
    let (a, b) = start_done u log base y in
    let (p, e, q) = kept_made (index_fits i) log base i o j fit (λ x. omega arith) y in
    subst Right (sym (same (p ∙ a) (q ∙ b) e)) zeros-right

start_right : (archive u : ℕ) (s : Carried) → Right s → Right (leaves archive u starts s)
unfolding leaves start_kept
start_right archive u s r =
    let o : Outcome = start_of u s.log s.base in
    ⊎_elim
    (λ (a, b, c). subst Right (sym (same a c b)) r)
    (λ (z, (a, b, c)).
    let (x, y) = start_done u s.log s.base z in
    subst Right (sym (same (a ∙ x) (c ∙ y) b)) zeros-right)
    (kept_cases (index_fits s.index) s.log s.base s.index o (replicate index_size 0) (right_lent s r) (start_keeps u s.log s.base).refused)

-- ---- acting

module _ (u : ℕ) (log base i w work : List ℕ) (g : Good log base) (small : SmallOn log base) (e : i ≡ index_of_log log base) (z : (act_of u log base w work).number ≡ 0) where
  act_adds : (records_of (act_of u log base w work).log ≡ records_of log ++ (stamped u (base_vector base) (records_of log) w ∷ []))
      × (length w ≡ 80)
      × (count_on (base_vector base) u (records_of log) < 65535)
      × (judge (stamped u (base_vector base) (records_of log) w) (tree_of log base) ≡ fits)
  unfolding tree_of base_in
  act_adds =
      ⊎_elim
      (λ k. absurd (omega (arith, sym (ap (λ (o : Outcome). o.number) k.1) ∙ z)))
      (λ k. let a = (act_accepted (base_in base).list u (base_vector base) (base_in base).tree (records_of log) w).0 k.2 in (k.1, k.3, a.3, a.5))
      (act_cases u log base w work)

  act_good : Good (act_of u log base w work).log base
  act_good = (act-keeps u log base w work).accepted z

  acted_small : SmallOn (act_of u log base w work).log base
  acted_small = act_small log base g small u w (act_of u log base w work).log act_adds.1 act_adds.2 act_good act_adds.0

  acted-fresh : change_in (stamped u (base_vector base) (records_of log) w) (tree_of log base) i ≡ index_of_log (act_of u log base w work).log base
  unfolding step_in
  acted-fresh =
      let r : Rec = stamped u (base_vector base) (records_of log) w in
      rw e (rw act_adds.3 at (index_kept log (act_of u log base w work).log base r act_adds.0 g act_good acted_small))

act-right : (archive u : ℕ) (w work : List ℕ) (s : Carried) → Right s → Right (leaves archive u (acts w work) s)
unfolding leaves act_kept
act-right archive u w work s r =
    let o : Outcome = act_of u s.log s.base w work in
    let j : List ℕ = change_in (stamped u (base_vector s.base) (records_of s.log) w) (tree_of s.log s.base) s.index in
    ⊎_elim
    (λ (a, b, _). subst Right (sym (same a refl b)) r)
    (λ (z, (a, b, _)).
    let g = r.good in
    let k = r.small in
    let e = r.fresh in
    subst Right (sym (same a refl b))
    (record {
      good = act_good u s.log s.base s.index w work g k e z;
      small = acted_small u s.log s.base s.index w work g k e z;
      fresh = acted-fresh u s.log s.base s.index w work g k e z;
    }))
    (kept_cases (index_fits s.index) s.log [] s.index o j (right_lent s r) (act-keeps u s.log s.base w work).refused)

-- ---- taking

take-right : (archive u : ℕ) (b work : List ℕ) (s : Carried) → Bytes b → Right s → Right (leaves archive u (takes b work) s)
unfolding leaves take_kept
take-right archive u b work s h r =
    let o : Outcome = take_of archive u s.log s.base b in
    ⊎_elim
    (λ (a, c, _). subst Right (sym (same a refl c)) r)
    (λ (z, (a, c, _)).
    subst Right (sym (same a refl c))
    (record {
      good = (take-keeps archive u s.log s.base b).accepted z;
      small = take_small archive u s.log s.base b r.good r.small h;
      fresh = refl;
    }))
    (kept_cases (both_fit s.index work) s.log [] s.index o (index_of_log o.log s.base) (right_lent s r) (take-keeps archive u s.log s.base b).refused)

-- ---- taking a row

module _ (archive u : ℕ) (base row : List ℕ) where
  taken_least : (n k : ℕ) (log : List ℕ) → k ≤ (try_from archive u base row log k n).taken
  unfolding try_from
  taken_least zero k log = omega arith
  taken_least (suc n) k log =
      let o : Outcome = take_of archive u log base (block_at row k) in
      ⊎_elim
      (λ (a : eqb o.number 0 ≡ true). rw a (omega (arith, taken_least n (suc k) o.log)))
      (λ (a : eqb o.number 0 ≡ false). rw a (omega arith))
      (bool_cases (eqb o.number 0))

  none_taken : (n k : ℕ) (log : List ℕ) → (try_from archive u base row log k n).taken ≡ k → (try_from archive u base row log k n).log ≡ log
  unfolding try_from
  none_taken zero k log z = refl
  none_taken (suc n) k log z = go (bool_cases (eqb (take_of archive u log base (block_at row k)).number 0))
    where
      go : (eqb (take_of archive u log base (block_at row k)).number 0 ≡ true) ⊎ (eqb (take_of archive u log base (block_at row k)).number 0 ≡ false) → (try_from archive u base row log k (suc n)).log ≡ log
      go (inl a) =
          let y : (try_from archive u base row (take_of archive u log base (block_at row k)).log (suc k) n).taken ≡ k = rw a at z in
          absurd (omega (arith, taken_least n (suc k) (take_of archive u log base (block_at row k)).log))
      go (inr a) = rw a refl

  row-leaves : (log : List ℕ) → Bytes row → Good log base → SmallOn log base
      → Good (take_row_of archive u log base row).log base
      × SmallOn (take_row_of archive u log base row).log base
      × ((take_row_of archive u log base row).taken ≡ 0 → (take_row_of archive u log base row).log ≡ log)
  unfolding take_row_of try_all
  row-leaves log h g small = go (guard_number u log base true (row_fits (length row))) refl
    where
      left : ℕ → RowTaken
      left m = took_row m log (try_from archive u base row log 0 (blocks_in row))

      go : (m : ℕ) → guard_number u log base true (row_fits (length row)) ≡ m → Good (left m).log base × SmallOn (left m).log base × ((left m).taken ≡ 0 → (left m).log ≡ log)
      go zero a =
          let (_, b, _, _) = guard_good u log base true (row_fits (length row)) a in
          (row_good archive u log base row b g, row_small archive u base row h (blocks_in row) 0 log g small, λ z. none_taken (blocks_in row) 0 log z)
      go (suc m) a = (g, small, λ z. refl)

row-right : (archive u : ℕ) (row work : List ℕ) (s : Carried) → Bytes row → Right s → Right (leaves archive u (takes_row row work) s)
unfolding leaves take_row_kept row_kept_of if_lent
row-right archive u row work s h r =
    let o : RowTaken = take_row_of archive u s.log s.base row in
    let (g, small, stays) = row-leaves archive u s.base row s.log h r.good r.small in
    ⊎_elim
    (λ (f : both_fit s.index work ≡ true).
    ⊎_elim
    (λ (z : o.taken ≡ 0). rw (f, eq-eqb o.taken 0 z) (record { good = g; small = small; fresh = r.fresh ∙ ap (λ (x : List ℕ). index_of_log x s.base) (sym (stays z)) }))
    (λ (z : o.taken ≡ 0 → ⊥). rw (f, ne_eqb o.taken 0 z, ne_eqb (length s.index) 0 (right_lent s r)) (record { good = g; small = small; fresh = refl }))
    (eq_or_ne o.taken 0))
    (λ (f : both_fit s.index work ≡ false). rw f r)
    (bool_cases (both_fit s.index work))

-- ---- folding

-- the tree that is shown stays, so the index does
fold_right : (archive u m : ℕ) (work : List ℕ) (s : Carried) → Right s → Right (leaves archive u (folds m work) s)
unfolding leaves
fold_right archive u m work s r =
    let o : Outcome = fold_of u s.log s.base m work in
    let k = fold_keeps u s.log s.base m work in
    ⊎_elim
    (λ (z : o.number ≡ 0).
    let g = k.accepted z in
    let (e, q) = fold_shows_the_same u m s.log s.base work z in
    let small : SmallOn o.log o.lent = λ x h. rw e (r.small x h) in
    let before = index_made s.log s.base r.good.long.1 r.good.sound r.small in
    let after = index_made o.log o.lent g.long.1 g.sound small in
    record {
      good = g;
      small = small;
      fresh = r.fresh ∙ sym before ∙ ap (λ (x : List ℕ). index_from x (word x 0)) (sym q) ∙ after;
    })
    (λ (z : o.number ≡ 0 → ⊥). subst Right (sym (same (k.refused z).0 (k.refused z).1 refl)) r)
    (eq_or_ne o.number 0)

-- ---- any call, and any list

-- I5: a right index is right after each call, refused or not
pub call_right : (archive u : ℕ) (c : UnitCall) (s : Carried) → Given c → Right s → Right (leaves archive u c s)
call_right archive u starts s h r = start_right archive u s r
call_right archive u (acts w work) s h r = act-right archive u w work s r
call_right archive u (takes b work) s h r = take-right archive u b work s h r
call_right archive u (takes_row row work) s h r = row-right archive u row work s h r
call_right archive u (folds m work) s h r = fold_right archive u m work s r

-- and so after any list of calls
pub list_right : (archive u : ℕ) (cs : List UnitCall) (s : Carried) → AllGiven cs → Right s → Right (leaves_all archive u cs s)
unfolding leaves_all
list_right archive u [] s h r = r
list_right archive u (c ∷ cs) s h r = list_right archive u cs (leaves archive u c s) h.1 (call_right archive u c s h.0 r)
