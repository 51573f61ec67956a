-- Where what is asked can be held by the types of the entry points, so can all that the calls of a list hand over and back.
-- Assumes nothing.
use Prim.Native.Nat.{ℕ, zero, suc, ◌*◌, ◌≤◌, ◌<◌}
use native.Mathlib.Omega.{arith}
use mathlib.Core.Path.{◌≡◌, refl, sym, ap, ◌∙◌, subst}
use mathlib.Core.Logic.{◌⊎◌, inl, inr, ⊎_elim}
use mathlib.Core.Bool.{Bool, true, false, cond, ◌&&◌}
use mathlib.Core.Option.{Option, none, some}
use mathlib.Core.List.{List, [], ◌∷◌, ◌++◌}
use lib.Dec.{ltb, leb, eqb}
use lib.ListN.{length, take, drop, replicate, length-take, take-append-drop, get_or-eq_default}
use lib.Seq.{take_all}
use borrow.Author.Tests.{eqb-true, ltb-true, lt-ltb}
use Rattle.model.specs.Numbers.{first_of}
use Rattle.model.specs.Bytes.{two, blank, padded, same_bytes}
use Rattle.model.specs.Vector.{covers, vector_bytes}
use Rattle.model.specs.Record.{Rec, unit, num, seen_vector, well_formed}
use Rattle.model.specs.Log.{count_on, vector_on, records_of, log_bytes, by_id, is_next, is_within, is_closed, lacking}
use Rattle.model.specs.Replay.{Tree, Verdict, fits, aside, present_ones, trim, judge, replay_from, reason_of}
use Rattle.model.specs.Table.{work_bytes}
use Rattle.model.specs.Block.{sums_hold, header_holds, block_fault, archive_in, block_records, letters, given_fault}
use Rattle.model.specs.File.{block_count, file_of, block_at}
use Rattle.base_model.specs.Base.{Base, is_listed, empty_base, base_vector, base_tree, base_in, base_bytes, sound_base, held_on, tree_of}
use Rattle.call_model.specs.Outcome.{Outcome, outcome, refusal, or_refused, early_number, guard_number, start_of, stamped, early_wish, act_number, acted, act_lent, act_of, work_after, act_work, hand_block, asked_number, handed, hand_of, whole_number, written, write_of, Took, refused, taken, take_new, take_held, is_folded, take_one, takes_all, took_all, took_block, take_of}
use Rattle.call_model.specs.Fold.{heard_by_all, heard_run, run_of, folded_base, list_fits, list_number, run_in, folded, fold_by, fold_of, fold_work}
use Rattle.byte_slice.proofs.Numbers.{bool_cases, lt_or_ge, eq_or_ne, and_true, true_and, cond_cases, first_zero}
use Rattle.log_laws.specs.Members.{Has}
use Rattle.log_laws.specs.Sound.{SoundOn}
use Rattle.log_laws.proofs.Members.{All, all_append, all_map, all_at, has_append, has_take, has_drop}
use Rattle.log_laws.proofs.Counts.{sound_front_on}
use Rattle.log_laws.proofs.Lacking.{has_lacking}
use Rattle.take_laws.proofs.Take.{take_all-nil, take_all_goes, take_all_stops}
use Rattle.act_laws.proofs.Act.{refused_elim, act_numbers, act_zero}
use Rattle.tree_laws.specs.Trees.{SoundTree}
use Rattle.tree_laws.proofs.Steps.{all_present}
use Rattle.tree_laws.proofs.Verdicts.{Under, Reason, reason_most, reason_range}
use Rattle.fold_count_laws.proofs.Longest.{longest_most}
use Rattle.base_laws.specs.Laid.{Lays}
use Rattle.base_laws.proofs.Claims.{sound_tree, sound_lays}
use Rattle.base_laws.proofs.Replaying.{sound_on}
use Rattle.base_laws.proofs.Folds.{Counts, none-counts, run-counts, folded_lays, folded-length}
use Rattle.call_laws.specs.Keeps.{Good}
use Rattle.encoding_laws.proofs.Logs.{sound_proper_on, proper_sized, sound_few}
use Rattle.encoding_laws.proofs.Files.{six, few_blocks, length_file}
use Rattle.call_laws.proofs.States.{good_base, good_records, empty_length}
use Rattle.call_laws.proofs.Calls.{guard_good, takes_on, take_grown}
use Rattle.call_laws.proofs.Given.{hand_holds}
use Rattle.take_beside.proofs.Checks.{given_length}
use Rattle.machine.specs.Machine.{Call, starts, acts, hands_out, writes, takes, folds, unit_of, Block, Bench, bare, block_given, done, if_accepted, blocks_to, gives, base_left, after, next, play, outcomes}
use Rattle.machine.specs.Runs.{Runs}
use Rattle.machine.specs.Callable.{all_below, is_slice, is_vector, callable, all_callable}
use Rattle.machine.proofs.Reach.{Inv, put_cases, inv_next}
use Rattle.claims.specs.Typed.{lent_by, work_by, work_left, taken_by, count_limit, Typed}
use Rattle.claims.proofs.Outcomes.{number_cond, first_few, early_few, asked_few, behind_number, behind}
use Rattle.claims.proofs.Bytes.{Below, Recs, Small, below-take, below-drop, below-append, zeros-below, two-below, log_below, records_below, block_records_below, vector_below, base_small, held_small, block_below, file_below, below_from, below_test, below-part}
use Rattle.claims.proofs.Rows.{Written, base_written, replay-written, replay_grows, work_below, laid_below, work_length}

-- ---- numbers below 256

reason_few : (r : Rec) (t : Tree) → reason_of (judge r t) < 256
unfolding reason_of
reason_few r t = go (judge r t) (reason_range r t)
  where
    go : (v : Verdict) → Under Reason v → reason_of v < 256
    go fits h = omega arith
    go (aside n k) h = omega (arith, reason_most n h)

act_few : (m u : ℕ) (v : List ℕ) (t : Tree) (l : List Rec) (w : List ℕ) → act_number m u v t l w < 256
act_few m u v t l w =
    ⊎_elim
    (λ (f, e). omega (arith, e, reason_few (stamped u v l w) (replay_from t l)))
    (λ q. refused_elim (λ (n : ℕ). n < 256) (omega arith) (omega arith) (omega arith) (omega arith) (omega arith) m u v l w (act_number m u v t l w) q)
    (act_numbers m u v t l w)

given_few : (archive : ℕ) (b : List ℕ) → given_fault archive b < 256
unfolding given_fault block_fault
given_few archive b =
    let f : block_fault b < 256 =
    number_cond (same_bytes (take 4 b) letters) (cond (sums_hold b) (cond (header_holds b) 0 5) 4) 3
    (number_cond (sums_hold b) (cond (header_holds b) 0 5) 4 (number_cond (header_holds b) 0 5 (omega arith) (omega arith)) (omega arith)) (omega arith) in
    number_cond (eqb (length b) 512) (cond (eqb (block_fault b) 0) (cond (eqb (archive_in b) archive) 0 6) (block_fault b)) 2
    (number_cond (eqb (block_fault b) 0) (cond (eqb (archive_in b) archive) 0 6) (block_fault b) (number_cond (eqb (archive_in b) archive) 0 6 (omega arith) (omega arith)) f) (omega arith)

-- a take is refused with such a number, if at all
abbrev Few : Took → Type 0
Few (refused n) = n < 256
Few (taken m) = Unit {0}

few_cond : (b : Bool) (x y : Took) → Few x → Few y → Few (cond b x y)
few_cond true x y h k = h
few_cond false x y h k = k

one_few : (m : ℕ) (v : List ℕ) (l : List Rec) (r : Rec) → Few (take_one m v l r)
unfolding take_one take_held take_new
one_few m v l r =
    few_cond (well_formed r) _ _ (few_cond (is_listed m (unit r)) _ _ (few_cond (is_folded v r) _ _ tt (go (by_id (unit r) (num r) l))) (omega arith)) (omega arith)
  where
    go : (o : Option Rec) → Few (take_held v o l r)
    go (some s) = few_cond (same_bytes s r) _ _ tt (omega arith)
    go none =
        few_cond (is_next v l r && is_within v l r) _ _
        (few_cond (covers (seen_vector r) v) _ _
        (few_cond (is_closed v l r) _ _ (few_cond (ltb (length l) 512) _ _ tt (omega arith)) (omega arith)) (omega arith)) (omega arith)

all_few : (m : ℕ) (v : List ℕ) (rs l : List Rec) → Few (takes_all m v l rs)
all_few m v [] l = subst Few (sym (take_all-nil m v l)) tt
all_few m v (r ∷ rs) l = go (take_one m v l r) refl (one_few m v l r) (λ k. all_few m v rs k)
  where
    go : (o : Took) → take_one m v l r ≡ o → Few o → ((k : List Rec) → Few (takes_all m v k rs)) → Few (takes_all m v l (r ∷ rs))
    go (refused n) e h k = subst Few (sym (take_all_stops m v l r rs n e)) h
    go (taken x) e h k = subst Few (sym (take_all_goes m v l r rs x e)) (k x)

-- a fold takes no more records than there are
heard_few : (m u : ℕ) (v : List ℕ) (all l : List Rec) → heard_run m u v all l ≤ length l
unfolding heard_run
heard_few m u v all [] = omega arith
heard_few m u v all (r ∷ l) = go (bool_cases (heard_by_all m u v all r)) (heard_few m u v all l)
  where
    go : (heard_by_all m u v all r ≡ true) ⊎ (heard_by_all m u v all r ≡ false) → heard_run m u v all l ≤ length l
        → cond (heard_by_all m u v all r) (suc (heard_run m u v all l)) 0 ≤ suc (length l)
    go (inl e) h = rw e (omega arith)
    go (inr e) h = rw e (omega arith)

run_few : (m u : ℕ) (log base : List ℕ) → run_in m u log base ≤ 512
unfolding run_of
run_few m u log base =
    let l : List Rec = records_of log in
    omega (arith, longest_most (base_in base).tree l (heard_run m u (base_vector base) l l), heard_few m u (base_vector base) l l, sound_few log)

-- ---- the tree of a run of records behind a base

module _ (log base : List ℕ) (g : Good log base) (hl : Below 256 log) (hb : Below 256 base) where
  pub held_low : Small (held_on log base)
  held_low = held_small (base_vector base) (records_of log) (good_records log base g) (base_small base hb) (records_below log hl)

  -- the first n records
  module _ (n : ℕ) where
    abbrev front : List Rec
    front = take n (records_of log)

    abbrev tree : Tree
    tree = replay_from (base_tree base) (take n (records_of log))

    front_sound : SoundOn (base_vector base) front
    front_sound =
        sound_front_on (base_vector base) [] front (drop n (records_of log))
        (subst (SoundOn (base_vector base)) (sym (take-append-drop n (records_of log))) (good_records log base g))

    front_below : Recs front
    front_below r i = records_below log hl r (has_take n (records_of log) r i)

    pub front_small : Small (vector_on (base_vector base) front)
    front_small = held_small (base_vector base) front front_sound (base_small base hb) front_below

    pub tree_sound : SoundTree (vector_on (base_vector base) front) tree
    tree_sound = sound_on (base_vector base) (base_tree base) front front_sound (sound_tree base g.long.1 (good_base log base g))

    pub tree-written : All Written tree.entries
    tree-written = replay-written (base_tree base) front front_below (base_written base hb)

    tree_few : (length tree.entries ≤ 1024) × (length tree.asides ≤ 1024)
    unfolding base_in
    tree_few =
        let y = sound_lays base g.long.1 (good_base log base g) in
        let (a, b) = replay_grows (base_tree base) front in
        let c = y.few_entries in
        let d = y.few_asides in
        let e = length-take n (records_of log) in
        (omega (arith, sound_few log), omega (arith, sound_few log))

    pub tree_works : Below 256 (work_bytes tree) × (length (work_bytes tree) ≡ 86020)
    tree_works =
        let v : List ℕ = vector_on (base_vector base) front in
        (work_below v front_small tree tree_sound tree-written, work_length v tree tree_sound tree_few.0 tree_few.1)

-- ---- what the calls hand back

record Fine (lent : List ℕ) (limit : ℕ) (o : Outcome) : Type 0 where
  log : Below 256 o.log
  wrote : Below 256 o.lent
  much : length o.lent ≡ length lent
  numbers : (o.number < 256) × (o.place < 256) × (o.blocks < limit)

module _ (log lent : List ℕ) (hl : Below 256 log) (hb : Below 256 lent) (limit : ℕ) (some-limit : 0 < limit) where
  refusal_fine : (n : ℕ) → n < 256 → Fine lent limit (refusal n log lent)
  refusal_fine n k = record { log = hl; wrote = hb; much = refl; numbers = (k, omega arith, some-limit) }

  -- a buffer of bytes is written
  written_fine : (b : List ℕ) (k : ℕ) → Below 256 b → length b ≡ length lent → k < limit → Fine lent limit (outcome 0 0 log b k)
  written_fine b k h n m = record { log = hl; wrote = h; much = n; numbers = (omega arith, omega arith, m) }

-- a log is left
left_fine : (l : List Rec) → Recs l → Fine [] 256 (outcome 0 0 (log_bytes l) [] 0)
left_fine l h = record { log = log_below l h; wrote = tt; much = refl; numbers = (omega arith, omega arith, omega arith) }

empty_below : Below 256 empty_base
unfolding empty_base
empty_below = (omega arith, zeros-below 43031)

start_fine : (u : ℕ) (log base : List ℕ) → length base ≡ 43032 → Below 256 log → Below 256 base → Fine base 256 (start_of u log base)
unfolding start_of
start_fine u log base n h k =
    behind_number (Fine base 256) (early_number u log base true true) log base (outcome 0 0 (replicate 40960 0) empty_base 0)
    (early_few u log base true true) (refusal_fine log base h k 256 (omega arith))
    (λ z. record { log = zeros-below 40960; wrote = empty_below; much = empty_length ∙ sym n; numbers = (omega arith, omega arith, omega arith) })

stamped-below : (u : ℕ) (v : List ℕ) (l : List Rec) (w : List ℕ) → Small (vector_on v l) → count_on v u l < 65535 → Below 256 w → Below 256 (stamped u v l w)
unfolding stamped
stamped-below u v l w k c h =
    below-append (take 2 w) (two (suc (count_on v u l)) ++ (vector_bytes (vector_on v l) ++ drop 20 w)) (below-take 256 2 w h)
    (below-append (two (suc (count_on v u l))) (vector_bytes (vector_on v l) ++ drop 20 w) (two-below (suc (count_on v u l)) (omega arith))
    (below-append (vector_bytes (vector_on v l)) (drop 20 w) (vector_below (vector_on v l) k) (below-drop 20 w h)))

act_fine : (u : ℕ) (log base w work : List ℕ) → Below 256 log → Below 256 base → Below 256 w → Fine [] 256 (act_of u log base w work)
unfolding act_of acted
act_fine u log base w work h hb k =
    behind (Fine [] 256) u log base [] (act_lent w work) (acted u log v w answer) (refusal_fine log [] h tt 256 (omega arith))
    (λ a b g. go g answer refl (act_few (base_in base).list u v (base_in base).tree l w))
  where
    v : List ℕ
    v = base_vector base

    l : List Rec
    l = records_of log

    answer : ℕ
    answer = act_number (base_in base).list u (base_vector base) (base_in base).tree (records_of log) w

    added : Good log base → answer ≡ 0 → Recs (l ++ (stamped u v l w ∷ []))
    added g z r i =
        let f = act_zero (base_in base).list u v (base_in base).tree l w z in
        ⊎_elim
        (λ j. records_below log h r j)
        (λ j. ⊎_elim (λ (q : r ≡ stamped u v l w). rw q (stamped-below u v l w (held_low log base g h hb) f.numbered k)) (λ x. absurd x) j)
        (has_append l (stamped u v l w ∷ []) r i)

    go : Good log base → (n : ℕ) → answer ≡ n → n < 256 → Fine [] 256 (acted u log v w n)
    go g zero z m = left_fine (l ++ (stamped u v l w ∷ [])) (added g z)
    go g (suc n) z m = refusal_fine log [] h tt 256 (omega arith) (suc n) m

take_fine : (archive u : ℕ) (log base b : List ℕ) → Below 256 log → Below 256 b → Fine [] 256 (take_of archive u log base b)
unfolding take_of took_block took_all
take_fine archive u log base b h k =
    behind (Fine [] 256) u log base [] true (took_block log base b (given_fault archive b)) (refusal_fine log [] h tt 256 (omega arith))
    (λ a c g. block g (given_fault archive b) (given_few archive b))
  where
    records : Good log base → (t : Took) → takes_on log base (block_records b) ≡ t → Few t → Fine [] 256 (took_all log t)
    records g (refused n) e m = refusal_fine log [] h tt 256 (omega arith) n m
    records g (taken m) e _ =
        let w = take_grown log base (block_records b) m g e in
        left_fine m (λ r i. ⊎_elim (λ j. records_below log h r j) (λ j. block_records_below b k r j) (w.from r i))

    block : Good log base → (n : ℕ) → n < 256 → Fine [] 256 (took_block log base b n)
    block g zero m = records g (takes_on log base (block_records b)) refl (all_few (base_in base).list (base_vector base) (block_records b) (records_of log))
    block g (suc n) m = refusal_fine log [] h tt 256 (omega arith) (suc n) m

-- a block without fault has 512 bytes
given_long : (archive : ℕ) (b : List ℕ) → given_fault archive b ≡ 0 → length b ≡ 512
given_long archive b e = ⊎_elim (λ k. k) (λ k. absurd (omega (arith, given_length archive b k))) (eq_or_ne (length b) 512)

hand_fine : (archive u : ℕ) (log base v lent : List ℕ) → archive < 4294967296 → Below 256 log → Below 256 base → Below 256 lent → Fine lent 256 (hand_of archive u log base v lent)
unfolding hand_of handed hand_block
hand_fine archive u log base v lent a h hb k =
    let l : List Rec = records_of log in
    let held : List ℕ = held_on log base in
    behind (Fine lent 256) u log base lent (eqb (length lent) 512) (handed archive u log base v lent) (refusal_fine log lent h k 256 (omega arith))
    (λ n b g.
    let few : Recs (take 6 (lacking v l)) = λ r i. records_below log h r (has_lacking v l r (has_take 6 (lacking v l) r i)) in
    let proper = sound_proper_on (base_vector base) l (good_records log base g) in
    let long = given_long archive (hand_block archive u held l v) (hand_holds archive u l b proper held v).faultless in
    behind_number (Fine lent 256) (asked_number v (base_vector base)) log lent (outcome 0 0 log (hand_block archive u held l v) 0)
    (asked_few (covers v (base_vector base)) 27 (omega arith)) (refusal_fine log lent h k 256 (omega arith))
    (λ z.
    written_fine log lent h k 256 (omega arith) (hand_block archive u held l v) 0
    (block_below archive u 0 held (take 6 (lacking v l)) a b (omega arith) (held_low log base g h hb) (six (lacking v l)) few)
    (long ∙ sym (eqb-true (length lent) 512 n)) (omega arith)))

write_fine : (archive u : ℕ) (log base lent : List ℕ) → archive < 4294967296 → Below 256 log → Below 256 lent → Fine lent 256 (write_of archive u log base lent)
unfolding write_of written
write_fine archive u log base lent a h k =
    let l : List Rec = records_of log in
    let f : List ℕ = padded 44032 (file_of archive u l) in
    behind (Fine lent 256) u log base lent (eqb (length lent) 44032) (written archive u log base lent) (refusal_fine log lent h k 256 (omega arith))
    (λ n b g.
    let long = length_file archive u l (proper_sized l (sound_proper_on (base_vector base) l (good_records log base g))) (sound_few log) in
    behind_number (Fine lent 256) (whole_number (base_vector base)) log lent (outcome 0 0 log f (block_count (length l)))
    (asked_few (blank (base_vector base)) 29 (omega arith)) (refusal_fine log lent h k 256 (omega arith))
    (λ z.
    written_fine log lent h k 256 (omega arith) f (block_count (length l)) (file_below archive u l a b (sound_few log) (records_below log h))
    (long ∙ sym (eqb-true (length lent) 44032 n)) (omega (arith, few_blocks (length l) (sound_few log)))))

-- a fold: what is left of the log, and the base written
fold_fine : (u : ℕ) (log base : List ℕ) (m : ℕ) (work : List ℕ) → m < 256 → Below 256 log → Below 256 base → Fine base 65536 (fold_of u log base m work)
unfolding fold_of fold_by folded folded_base trim base_in
fold_fine u log base m work k h hb =
    behind (Fine base 65536) u log base base (eqb (length work) 86020) (fold_by m u log base) (refusal_fine log base h hb 65536 (omega arith))
    (λ a b g.
    behind_number (Fine base 65536) (list_number m u (held_on log base)) log base (folded m log base n)
    (asked_few (list_fits m u (held_on log base)) 26 (omega arith)) (refusal_fine log base h hb 65536 (omega arith))
    (λ z.
    record {
      log = log_below (drop n l) (λ r i. records_below log h r (has_drop n l r i));
      wrote =
          laid_below (vector_on v (take n l)) (front_small log base g h hb n) m (trim (tree log base g h hb n)) k (lays g).few_entries (lays g).few_asides (lays g).sound
          (all_present Written (tree log base g h hb n).entries (tree-written log base g h hb n));
      much = folded-length log base g.long.1 g.sound m n (counts g) ∙ sym g.long.1;
      numbers = (omega arith, omega arith, omega (arith, run_few m u log base));
    }))
  where
    v : List ℕ
    v = base_vector base

    l : List Rec
    l = records_of log

    n : ℕ
    n = run_in m u log base

    counts : Good log base → Counts (base_tree base) l n
    counts g = run-counts m u v (base_tree base) l (none-counts base (good_base log base g) l)

    lays : Good log base → Lays (folded_base m v (base_tree base) l n)
    lays g = folded_lays v (base_tree base) l (good_records log base g) n m (sound_tree base g.long.1 (good_base log base g)) (counts g)

-- ---- the work memory

after_fine : (n : ℕ) (t : Tree) (work : List ℕ) → Below 256 work → (n ≡ 0 → Below 256 (work_bytes t) × (length (work_bytes t) ≡ length work))
    → Below 256 (work_after n t work) × (length (work_after n t work) ≡ length work)
after_fine zero t work h k = k refl
after_fine (suc n) t work h k = (h, refl)

act_work_fine : (u : ℕ) (log base w work : List ℕ) → Below 256 log → Below 256 base → Below 256 work
    → Below 256 (act_work u log base w work) × (length (act_work u log base w work) ≡ length work)
unfolding act_work tree_of
act_work_fine u log base w work hl hb h =
    after_fine (first_of (guard_number u log base (act_lent w work) true) (early_wish (base_in base).list u (base_vector base) (records_of log) w)) (tree_of log base) work h (λ z.
    let (p, _) = first_zero (guard_number u log base (act_lent w work) true) (early_wish (base_in base).list u (base_vector base) (records_of log) w) z in
    let (a, _, _, g) = guard_good u log base (act_lent w work) true p in
    let n = eqb-true (length work) 86020 (and_true (eqb (length w) 80) (eqb (length work) 86020) a).1 in
    let all : take 512 (records_of log) ≡ records_of log = take_all 512 (records_of log) (sound_few log) in
    let (x, y) = rw all at (tree_works log base g hl hb 512) in
    (x, y ∙ sym n))

fold_work_fine : (u : ℕ) (log base : List ℕ) (m : ℕ) (work : List ℕ) → Below 256 log → Below 256 base → Below 256 work
    → Below 256 (fold_work u log base m work) × (length (fold_work u log base m work) ≡ length work)
unfolding fold_work base_in
fold_work_fine u log base m work hl hb h =
    let n : ℕ = run_in m u log base in
    after_fine (first_of (guard_number u log base (eqb (length work) 86020) true) (list_number m u (held_on log base))) (replay_from (base_tree base) (take n (records_of log))) work h (λ z.
    let (p, _) = first_zero (guard_number u log base (eqb (length work) 86020) true) (list_number m u (held_on log base)) z in
    let (a, _, _, g) = guard_good u log base (eqb (length work) 86020) true p in
    let (x, y) = tree_works log base g hl hb n in
    (x, y ∙ sym (eqb-true (length work) 86020 a)))

-- ---- slices

slice_from : (b : List ℕ) → is_slice b ≡ true → Below 256 b × (length b < 9223372036854775808)
unfolding is_slice
slice_from b e =
    let (p, q) = and_true (all_below 256 b) (ltb (length b) 9223372036854775808) e in
    (below_from 256 b p, ltb-true (length b) 9223372036854775808 q)

slice_test : (b : List ℕ) → Below 256 b → length b < 9223372036854775808 → is_slice b ≡ true
unfolding is_slice
slice_test b h k = true_and (all_below 256 b) (ltb (length b) 9223372036854775808) (below_test 256 b h) (lt-ltb (length b) 9223372036854775808 k)

none_slice : is_slice [] ≡ true
none_slice = slice_test [] tt (omega arith)

-- the buffers lent, the wish and the list
block_lent : (u : ℕ) (v lent : List ℕ) → callable (hands_out u v lent) ≡ true → is_slice lent ≡ true
unfolding callable
block_lent u v lent e = (and_true (is_vector v) (is_slice lent) (and_true (ltb u 256) (is_vector v && is_slice lent) e).1).1

file_lent : (u : ℕ) (lent : List ℕ) → callable (writes u lent) ≡ true → is_slice lent ≡ true
unfolding callable
file_lent u lent e = (and_true (ltb u 256) (is_slice lent) e).1

wish_lent : (u : ℕ) (w work : List ℕ) → callable (acts u w work) ≡ true → (is_slice w ≡ true) × (is_slice work ≡ true)
unfolding callable
wish_lent u w work e = and_true (is_slice w) (is_slice work) (and_true (ltb u 256) (is_slice w && is_slice work) e).1

list_given_lem : (u m : ℕ) (work : List ℕ) → callable (folds u m work) ≡ true → (m < 256) × (is_slice work ≡ true)
unfolding callable
list_given_lem u m work e =
    let (a, b) = and_true (ltb m 256) (is_slice work) (and_true (ltb u 256) (ltb m 256 && is_slice work) e).1 in
    (ltb-true m 256 a, b)

-- ---- the bench

pub record Fits (s : Bench) : Type 0 where
  pub logs : (u : ℕ) → Below 256 (s.logs u)
  pub bases : (u : ℕ) → Below 256 (s.bases u)
  pub given : All (λ (g : Block). Below 256 g.bytes) s.given

-- of a block: what holds of each one given, and of none
at_block : (P : List ℕ → Type 0) (s : Bench) (n : ℕ) → P [] → All (λ (g : Block). P g.bytes) s.given → P (block_given s n).bytes
unfolding block_given
at_block P s n z h =
    let d : Block = record { giver = 0; bytes = [] } in
    ⊎_elim
    (λ k. all_at (λ (g : Block). P g.bytes) s.given n d k h)
    (λ k. subst (λ (g : Block). P g.bytes) (sym (get_or-eq_default s.given d {n = n} k)) z)
    (lt_or_ge n (length s.given))

fine : (archive : ℕ) (s : Bench) (c : Call) → archive < 4294967296 → callable c ≡ true → Inv archive s → Fits s → Fine (lent_by s c) (count_limit c) (done archive s c)
unfolding done lent_by count_limit
fine archive s (starts u) a e i f = start_fine u (s.logs u) (s.bases u) (i.good u).long.1 (f.logs u) (f.bases u)
fine archive s (acts u w work) a e i f = act_fine u (s.logs u) (s.bases u) w work (f.logs u) (f.bases u) (slice_from w (wish_lent u w work e).0).0
fine archive s (hands_out u v lent) a e i f =
    hand_fine archive u (s.logs u) (s.bases u) v lent a (f.logs u) (f.bases u) (slice_from lent (block_lent u v lent e)).0
fine archive s (writes u lent) a e i f = write_fine archive u (s.logs u) (s.bases u) lent a (f.logs u) (slice_from lent (file_lent u lent e)).0
fine archive s (takes u n) a e i f = take_fine archive u (s.logs u) (s.bases u) (block_given s n).bytes (f.logs u) (at_block (Below 256) s n tt f.given)
fine archive s (folds u m work) a e i f = fold_fine u (s.logs u) (s.bases u) m work (list_given_lem u m work e).0 (f.logs u) (f.bases u)

work_fine : (s : Bench) (c : Call) → callable c ≡ true → Fits s → Below 256 (work_left s c) × (length (work_left s c) ≡ length (work_by c))
unfolding work_left work_by
work_fine s (starts u) e f = (tt, refl)
work_fine s (acts u w work) e f = act_work_fine u (s.logs u) (s.bases u) w work (f.logs u) (f.bases u) (slice_from work (wish_lent u w work e).1).0
work_fine s (hands_out u v lent) e f = (tt, refl)
work_fine s (writes u lent) e f = (tt, refl)
work_fine s (takes u n) e f = (tt, refl)
work_fine s (folds u m work) e f = fold_work_fine u (s.logs u) (s.bases u) m work (f.logs u) (f.bases u) (slice_from work (list_given_lem u m work e).1).0

work_slice : (c : Call) → callable c ≡ true → is_slice (work_by c) ≡ true
unfolding work_by
work_slice (starts u) e = none_slice
work_slice (acts u w work) e = (wish_lent u w work e).1
work_slice (hands_out u v lent) e = none_slice
work_slice (writes u lent) e = none_slice
work_slice (takes u n) e = none_slice
work_slice (folds u m work) e = (list_given_lem u m work e).1

-- the buffer lent
lent_few : (s : Bench) (c : Call) → callable c ≡ true → ((u : ℕ) → length (s.bases u) ≡ 43032) → length (lent_by s c) < 9223372036854775808
unfolding lent_by
lent_few s (starts u) e h = omega (arith, h u)
lent_few s (acts u w work) e h = omega arith
lent_few s (hands_out u v lent) e h = (slice_from lent (block_lent u v lent e)).1
lent_few s (writes u lent) e h = (slice_from lent (file_lent u lent e)).1
lent_few s (takes u n) e h = omega arith
lent_few s (folds u m work) e h = omega (arith, h u)

-- the base left is the one that was, or the buffer that was written
base_below : (s : Bench) (c : Call) (o : Outcome) → Fits s → Below 256 o.lent → Below 256 (base_left s c o)
unfolding base_left
base_below s (starts u) o f h = h
base_below s (acts u w work) o f h = f.bases u
base_below s (hands_out u v lent) o f h = f.bases u
base_below s (writes u lent) o f h = f.bases u
base_below s (takes u n) o f h = f.bases u
base_below s (folds u m work) o f h = h

-- what a call gives is of what it wrote
if_accepted_lem : {A : Type 0} (P : A → Type 0) (o : Outcome) (l : List A) → All P l → All P (if_accepted o l)
unfolding if_accepted
if_accepted_lem {A} P o l h =
    ⊎_elim (λ k. subst (All P) (sym k.1) h) (λ k. subst (All P) (sym k.1) tt) (cond_cases {A = List A} (eqb o.number 0) l [])

blocks_below : (u : ℕ) (f : List ℕ) (n : ℕ) → Below 256 f → All (λ (g : Block). Below 256 g.bytes) (blocks_to u f n)
unfolding blocks_to block_at
blocks_below u f zero h = tt
blocks_below u f (suc n) h =
    all_append (λ (g : Block). Below 256 g.bytes) (blocks_to u f n) (record { giver = u; bytes = block_at f n } ∷ []) (blocks_below u f n h) (below-part f (512 * n) 512 h, tt)

gives-below : (c : Call) (o : Outcome) → Below 256 o.lent → All (λ (g : Block). Below 256 g.bytes) (gives c o)
unfolding gives
gives-below (starts u) o h = tt
gives-below (acts u w work) o h = tt
gives-below (hands_out u v lent) o h = if_accepted_lem (λ (g : Block). Below 256 g.bytes) o (record { giver = u; bytes = o.lent } ∷ []) (h, tt)
gives-below (writes u lent) o h = if_accepted_lem (λ (g : Block). Below 256 g.bytes) o (blocks_to u o.lent o.blocks) (blocks_below u o.lent o.blocks h)
gives-below (takes u n) o h = tt
gives-below (folds u m work) o h = tt

fits_next : (archive : ℕ) (s : Bench) (c : Call) → Fits s → Fine (lent_by s c) (count_limit c) (done archive s c) → Fits (next archive s c)
unfolding next after
fits_next archive s c f h =
    let o : Outcome = done archive s c in
    record {
      logs = λ v. ⊎_elim (λ k. subst (Below 256) (sym k.1) h.log) (λ k. subst (Below 256) (sym k.1) (f.logs v)) (put_cases s.logs (unit_of c) o.log v);
      bases = λ v.
          ⊎_elim (λ k. subst (Below 256) (sym k.1) (base_below s c o f h.wrote)) (λ k. subst (Below 256) (sym k.1) (f.bases v)) (put_cases s.bases (unit_of c) (base_left s c o) v);
      given = all_append (λ (g : Block). Below 256 g.bytes) s.given (gives c o) f.given (gives-below c o h.wrote);
    }

-- log and base of the unit after the call are what the call left
log_next : (archive : ℕ) (s : Bench) (c : Call) → (next archive s c).logs (unit_of c) ≡ (done archive s c).log
unfolding next after
log_next archive s c = ⊎_elim (λ k. k.1) (λ k. absurd (k.0 refl)) (put_cases s.logs (unit_of c) (done archive s c).log (unit_of c))

base_next : (archive : ℕ) (s : Bench) (c : Call) → (next archive s c).bases (unit_of c) ≡ base_left s c (done archive s c)
unfolding next after
base_next archive s c = ⊎_elim (λ k. k.1) (λ k. absurd (k.0 refl)) (put_cases s.bases (unit_of c) (base_left s c (done archive s c)) (unit_of c))

block_slice : (archive : ℕ) (s : Bench) (c : Call) → Inv archive s → Fits s → is_slice (taken_by s c) ≡ true
unfolding taken_by
block_slice archive s (starts u) i f = none_slice
block_slice archive s (acts u w work) i f = none_slice
block_slice archive s (hands_out u v lent) i f = none_slice
block_slice archive s (writes u lent) i f = none_slice
block_slice archive s (takes u n) i f =
    slice_test (block_given s n).bytes (at_block (Below 256) s n tt f.given)
    (at_block (λ b. length b < 9223372036854775808) s n (omega arith) (all_map (λ g k. omega (arith, given_long archive g.bytes k.0)) s.given i.blocked))
block_slice archive s (folds u m work) i f = none_slice

typed : (archive : ℕ) (s : Bench) (c : Call) → archive < 4294967296 → callable c ≡ true → Inv archive s → Fits s → Typed archive s c (done archive s c)
typed archive s c a e i f =
    let o : Outcome = done archive s c in
    let h = fine archive s c a e i f in
    let (x, y) = work_fine s c e f in
    let good = (inv_next archive s c i).good (unit_of c) in
    let (was, stood) = (i.good (unit_of c)).long in
    let log_long : length o.log ≡ 40960 = ap (λ (b : List ℕ). length b) (sym (log_next archive s c)) ∙ good.long.0 in
    let base_long : length (base_left s c o) ≡ 43032 = ap (λ (b : List ℕ). length b) (sym (base_next archive s c)) ∙ good.long.1 in
    record {
      archived = a;
      called = e;
      log = slice_test (s.logs (unit_of c)) (f.logs (unit_of c)) (omega arith);
      base = slice_test (s.bases (unit_of c)) (f.bases (unit_of c)) (omega arith);
      block = block_slice archive s c i f;
      log_left = (slice_test o.log h.log (omega arith), log_long ∙ sym was);
      base_left_lem = (slice_test (base_left s c o) (base_below s c o f h.wrote) (omega arith), base_long ∙ sym stood);
      lent_left = (slice_test o.lent h.wrote (omega (arith, h.much, lent_few s c e (λ u. (i.good u).long.1))), h.much);
      work_left_lem = (slice_test (work_left s c) x (omega (arith, (slice_from (work_by c) (work_slice c e)).1)), y);
      numbers = h.numbers;
    }

-- ---- a list of calls

pub fits_bare : Fits bare
fits_bare = record { logs = λ u. zeros-below 40960; bases = λ u. empty_below; given = tt }

pub runs_typed : (archive : ℕ) (R : Bench → Call → Outcome → Type 0) → ((s : Bench) (c : Call) → R s c (done archive s c))
    → (cs : List Call) (s : Bench) → archive < 4294967296 → Inv archive s → Fits s → all_callable cs ≡ true
    → Runs (λ (t : Bench) (c : Call) (o : Outcome). R t c o × Typed archive t c o) s cs (outcomes archive s cs) (play archive s cs)
unfolding outcomes play next all_callable
runs_typed archive R h [] s a i f e = (refl, refl)
runs_typed archive R h (c ∷ cs) s a i f e =
    let (p, q) = and_true (callable c) (all_callable cs) e in (
      (h s c, typed archive s c a p i f),
      runs_typed archive R h cs (next archive s c) a (inv_next archive s c i) (fits_next archive s c f (fine archive s c a p i f)) q,
    )
