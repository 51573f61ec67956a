-- What a pass between two of eight units leaves, over plain values.
-- Assumes nothing.
use Prim.Native.Nat.{ℕ, ◌+◌, ◌-◌, ◌*◌, ◌≤◌, ◌<◌}
use native.Mathlib.Omega.{arith}
use mathlib.Core.Path.{◌≡◌, refl, sym, ap, subst, ◌∙◌}
use mathlib.Core.Bool.{Bool, true}
use mathlib.Core.List.{List, [], ◌∷◌}
use lib.ListN.{length, take, drop, replicate, length-replicate}
use borrow.Rule.Slice.PartMut.{put_mid}
use Rattle.model.specs.Vector.{covers, lacks_of}
use Rattle.model.specs.Record.{Rec}
use Rattle.model.specs.Log.{vector_on, records_of, log_bytes, lacking}
use Rattle.model.specs.Block.{block_records}
use Rattle.base_model.specs.Base.{empty_base, base_vector, base_in, held_on}
use Rattle.call_model.specs.Outcome.{Outcome, outcome, hand_of, take_of, taken, takes_all}
use Rattle.vector.proofs.Dominance.{all_covers}
use Rattle.vector.proofs.Distances.{covers_exactly}
use Rattle.log_laws.proofs.Counts.{no_counts_lem}
use Rattle.encoding_laws.proofs.Logs.{sound_proper_on, sound_bytes_on}
use Rattle.call_laws.specs.Keeps.{Good}
use Rattle.call_laws.proofs.States.{empty_vector, good_log, good_records}
use Rattle.call_laws.proofs.Calls.{take_done}
use Rattle.call_laws.proofs.Behind.{lacking_length_on}
use Rattle.call_laws.proofs.Given.{Holds, hand_holds, handedOut, hand_done}
use Rattle.plan_model.specs.Plan.{log_at, with_log, true_vector, pass_handed, pass_taken}
use Rattle.plan_units.specs.Units.{Units}
use Rattle.plan_units.proofs.Logs.{lent, put_back, unchanged}
use Rattle.plan_units.proofs.Events.{pass_good}

-- ---- a block is handed out and taken

pub passes : (archive a b n p i j : ℕ) (s base v block l : List ℕ) → Units s → b < 8 → base ≡ empty_base → v ≡ true_vector s b
    → outcome n p (take (40960 * a + 40960 - 40960 * a) (drop (40960 * a) s)) block 0
    ≡ hand_of archive a (take (40960 * a + 40960 - 40960 * a) (drop (40960 * a) s)) base v (replicate 512 0)
    → outcome i j l [] 0 ≡ take_of archive b (take (40960 * b + 40960 - 40960 * b) (drop (40960 * b) s)) base block
    → put_mid (40960 * b) (40960 * b + 40960 - 40960 * b) s l ≡ with_log s b (pass_taken archive s a b).log
unfolding pass_taken pass_handed
passes archive a b n p i j s base v block l g hb eb ev eh et =
    let h-is : block ≡ (hand_of archive a (log_at s a) empty_base (true_vector s b) (replicate 512 0)).lent =
    ap (λ (o : Outcome). o.lent) (rw (lent s a, eb, ev) at eh) in
    let l-is : l ≡ (take_of archive b (log_at s b) empty_base block).log = ap (λ (o : Outcome). o.log) (rw (lent s b, eb) at et) in
    let r-is : l ≡ (take_of archive b (log_at s b) empty_base (hand_of archive a (log_at s a) empty_base (true_vector s b) (replicate 512 0)).lent).log =
    l-is ∙ ap (λ (x : List ℕ). (take_of archive b (log_at s b) empty_base x).log) h-is in
    put_back s l b (ap (λ (x : List ℕ). length x) r-is ∙ (pass_good s b g hb archive a).long.0) ∙ ap (with_log s b) r-is

-- ---- nothing to pass

-- a list of no length is empty
none_of : (l : List Rec) → length l ≡ 0 → l ≡ []
none_of [] e = refl
none_of (r ∷ l) e = absurd (omega arith)

-- any counts cover the base vector of a start
above : (v : List ℕ) → covers v (base_vector empty_base) ≡ true
above v = all_covers v (base_vector empty_base) (λ u k. rw empty_vector (omega (arith, no_counts_lem u)))

-- of a log whose counts are covered nothing is lacking
none-lacking : (log v : List ℕ) → Good log empty_base → covers v (held_on log empty_base) ≡ true → lacking v (records_of log) ≡ []
none-lacking log v g c =
    none_of (lacking v (records_of log))
    (lacking_length_on (base_vector empty_base) v (records_of log) (good_records log empty_base g) (above v) ∙ (covers_exactly v (held_on log empty_base)).0 c)

-- so the block has no record
module _ (archive a : ℕ) (log v : List ℕ) (h : a < 8) (g : Good log empty_base) (c : covers v (held_on log empty_base) ≡ true) where
  handed-none : Holds archive (hand_of archive a log empty_base v (replicate 512 0)).lent []
  handed-none =
      let z : List ℕ = replicate 512 0 in
      let e : hand_of archive a log empty_base v z ≡ handedOut archive a log empty_base v z =
      hand_done archive a log empty_base v z (length-replicate {A = ℕ} 512 0) (omega arith) g (above v) in
      let k : Holds archive (handedOut archive a log empty_base v z).lent (take 6 (lacking v (records_of log))) =
      hand_holds archive a (records_of log) (omega arith) (sound_proper_on (base_vector empty_base) (records_of log) (good_records log empty_base g)) (held_on log empty_base) v in
      subst (λ (o : Outcome). Holds archive o.lent []) (sym e) (rw (none-lacking log v g c) at k)

-- and a block without records leaves a log as it is
takes_none : (archive b : ℕ) (log block : List ℕ) → b < 8 → Good log empty_base → Holds archive block [] → (take_of archive b log empty_base block).log ≡ log
unfolding takes_all
takes_none archive b log block h g k =
    let t : takes_all (base_in empty_base).list (base_vector empty_base) (records_of log) (block_records block) ≡ taken (records_of log) =
    ap (takes_all (base_in empty_base).list (base_vector empty_base) (records_of log)) k.records in
    ap (λ (o : Outcome). o.log) (take_done archive b log empty_base block (records_of log) (omega arith) g k.faultless t)
    ∙ sound_bytes_on (base_vector empty_base) log g.long.0 (good_log log empty_base g)

pub nothing_passes : (archive a b : ℕ) (s : List ℕ) {t : Bool} → Units s → a < 8 → b < 8 → t ≡ covers (true_vector s b) (true_vector s a) → t ≡ true
    → s ≡ with_log s b (pass_taken archive s a b).log
unfolding pass_taken pass_handed true_vector
nothing_passes archive a b s g ha hb et h =
    let k = handed-none archive a (log_at s a) (true_vector s b) ha (g.good a ha) (sym et ∙ h) in
    let e = takes_none archive b (log_at s b) _ hb (g.good b hb) k in
    sym (ap (with_log s b) e ∙ unchanged s g.long b hb)

pub has_all : (v w x y : List ℕ) {t : Bool} → v ≡ x → w ≡ y → t ≡ covers v w → t ≡ covers x y
has_all v w x y e f h = rw (e, f) at h
