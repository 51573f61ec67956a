-- A bench as a world of folding: what each unit has in its list, base and log, and the records that its base stands for. Each call
-- leaves this world, or is one of its events.
-- Assumes nothing.
use Prim.Native.Nat.{ℕ, zero, suc, ◌<◌}
use native.Mathlib.Omega.{arith}
use mathlib.Core.Path.{◌≡◌, refl, sym, ap, ◌∙◌, subst}
use mathlib.Core.Logic.{◌⊎◌, inl, inr, ⊎_elim}
use mathlib.Core.Bool.{Bool, true, false, cond, ◌||◌, false≢true}
use mathlib.Core.List.{List, [], ◌∷◌, ◌++◌, append-nil}
use lib.Dec.{eqb}
use lib.ListN.{take, drop, replicate}
use borrow.Author.Tests.{eqb-true, eq-eqb, ne_eqb}
use Rattle.model.specs.Vector.{covers}
use Rattle.model.specs.Record.{Rec, unit}
use Rattle.model.specs.Log.{count, vector_of, records_of, log_bytes}
use Rattle.model.specs.Block.{block_records}
use Rattle.base_model.specs.Base.{is_listed, fresh_base, base_bytes, empty_base, base_in, base_vector}
use Rattle.call_model.specs.Outcome.{Outcome, outcome, refusal, or_refused, early_number, start_of, stamped, act_of, hand_of, write_of, take_of}
use Rattle.call_model.specs.Fold.{folded_base, run_in, folded, fold_of}
use Rattle.byte_slice.proofs.Numbers.{cond_cases, and_true}
use Rattle.vector.proofs.Dominance.{covers_at}
use Rattle.log_laws.specs.Members.{Has, Sub}
use Rattle.log_laws.specs.Sound.{Sound}
use Rattle.log_laws.proofs.Counts.{count-nil, count_own, unit_of_lem}
use Rattle.log_laws.proofs.Tests.{vector_of_get_d}
use Rattle.encoding_laws.proofs.Logs.{records_back, empty_log}
use Rattle.call_laws.proofs.States.{empty_list, empty_vector, empty_tree_lem}
use Rattle.call_laws.proofs.Calls.{act_cases, take_cases}
use Rattle.call_laws.proofs.Given.{hand_cases, write_cases}
use Rattle.fold_laws.specs.Worlds as F
use Rattle.machine.specs.Machine.{Call, starts, acts, hands_out, writes, takes, folds, unit_of, Bench, held, block_given, done, if_accepted, uses, base_left, folded_left, list_by, put, fallen_by, after}
use Rattle.machine.specs.Claim.{names_each, named, is_among}
use Rattle.machine.proofs.Folding.{fold_cases, log_left, base_left_lem}

-- ---- the world of a bench

-- a log and a base, and the records that the base stands for
abbrev pub store_in : List ℕ → List ℕ → List Rec → F.Store
store_in log base p = record { base = base_in base; log = records_of log; folded = p }

abbrev pub store_of : Bench → ℕ → F.Store
store_of s u = store_in (s.logs u) (s.bases u) (s.folded u)

abbrev pub world : Bench → F.World
world s = record { stores = store_of s; used = s.used }

-- what a call leaves at its unit
abbrev pub left : Bench → Call → Outcome → F.Store
left s c o = store_in o.log (base_left s c o) (folded_left s c o)

abbrev pub put_in : Bench → Call → Outcome → F.World
put_in s c o = record { stores = F.put_store (store_of s) (unit_of c) (left s c o); used = uses s c o ++ s.used }

pub after_world : (s : Bench) (c : Call) (o : Outcome) → world (after s c o) ≡ put_in s c o
unfolding after put F.put_store
after_world s c o = λ i. record { stores = λ v. one v (eqb v (unit_of c)) i; used = uses s c o ++ s.used }
  where
    one : (v : ℕ) (t : Bool) → store_in (cond t o.log (s.logs v)) (cond t (base_left s c o) (s.bases v)) (cond t (folded_left s c o) (s.folded v)) ≡ cond t (left s c o) (store_of s v)
    one v true = refl
    one v false = refl

-- a store that is put where it was
put_same : (f : ℕ → F.Store) (u v : ℕ) → F.put_store f u (f u) v ≡ f v
unfolding F.put_store
put_same f u v =
    ⊎_elim
    (λ a. a.1 ∙ ap f (sym (eqb-true v u a.0)))
    (λ a. a.1)
    (cond_cases (eqb v u) (f u) (f v))

stays : (s : Bench) (c : Call) (o : Outcome) → left s c o ≡ store_of s (unit_of c) → uses s c o ≡ [] → world (after s c o) ≡ world s
stays s c o p q =
    after_world s c o
    ∙ (λ i. record { stores = λ v. (ap (λ (x : F.Store). F.put_store (store_of s) (unit_of c) x v) p ∙ put_same (store_of s) (unit_of c) v) i; used = q i ++ s.used })

goes : (s : Bench) (c : Call) (o : Outcome) (e : F.Event) → unit_of c ≡ F.at e → left s c o ≡ F.changes (world s) e → uses s c o ≡ F.uses (world s) e → world (after s c o) ≡ F.after (world s) e
unfolding F.after
goes s c o e a p q = after_world s c o ∙ (λ i. record { stores = F.put_store (store_of s) (a i) (p i); used = q i ++ s.used })

-- the other units' stores stay
pub store_other : (s : Bench) (c : Call) (o : Outcome) (v : ℕ) → (unit_of c ≡ v → ⊥) → store_of (after s c o) v ≡ store_of s v
unfolding F.put_store
store_other s c o v d = ap (λ (w : F.World). w.stores v) (after_world s c o) ∙ rw (ne_eqb v (unit_of c) (λ e. d (sym e)))

-- ---- what an answer leaves

pub accepted_is : {A : Type 0} (o : Outcome) (l : List A) → o.number ≡ 0 → if_accepted o l ≡ l
unfolding if_accepted
accepted_is o l e = rw (eq-eqb o.number 0 e)

pub refused_is : {A : Type 0} (n : ℕ) (o : Outcome) (l : List A) → o.number ≡ suc n → if_accepted o l ≡ []
unfolding if_accepted
refused_is n o l e = rw (ne_eqb o.number 0 (λ z. omega arith))

-- handing out and writing a file leave the log
pub hand_log : (archive u : ℕ) (log base v lent : List ℕ) → (hand_of archive u log base v lent).log ≡ log
hand_log archive u log base v lent =
    ⊎_elim (λ k. ap (λ (o : Outcome). o.log) k.1) (λ k. ap (λ (o : Outcome). o.log) k.0) (hand_cases archive u log base v lent)

pub write_log : (archive u : ℕ) (log base lent : List ℕ) → (write_of archive u log base lent).log ≡ log
write_log archive u log base lent =
    ⊎_elim (λ k. ap (λ (o : Outcome). o.log) k.1) (λ k. ap (λ (o : Outcome). o.log) k.0) (write_cases archive u log base lent)

pub folded_zero : (m : ℕ) (log base : List ℕ) (n : ℕ) → (folded m log base n).number ≡ 0
unfolding folded
folded_zero m log base n = refl

-- a start is refused, or leaves a log of zeros and an empty base
pub start_cases : (u : ℕ) (log base : List ℕ)
    → ((n : ℕ) × (start_of u log base ≡ refusal (suc n) log base)) ⊎ (start_of u log base ≡ outcome 0 0 (replicate 40960 0) empty_base 0)
unfolding start_of
start_cases u log base = go (early_number u log base true true)
  where
    done : ℕ → Outcome
    done n = or_refused n log base (outcome 0 0 (replicate 40960 0) empty_base 0)

    go : (n : ℕ) → ((k : ℕ) × (done n ≡ refusal (suc k) log base)) ⊎ (done n ≡ outcome 0 0 (replicate 40960 0) empty_base 0)
    go zero = inr refl
    go (suc n) = inl (n, refl)

-- an empty log has no records
pub zeros-none : records_of (replicate 40960 0) ≡ []
zeros-none = ap records_of (sym empty_log) ∙ records_back [] (λ r i. absurd i) (omega arith)

-- ---- vectors that do not fall

none_counted : (l : List Rec) → Sound l → ((u : ℕ) → u < 8 → count u l ≡ 0) → l ≡ []
none_counted [] h z = refl
none_counted (r ∷ l) h z = absurd (omega (arith, z (unit r) (unit_of_lem [] (r ∷ l) r h (inl refl)), count_own r l))

-- the vector of no records covers only itself
not_fallen : (b u : ℕ) (before now : List Rec) → Sound before → now ≡ [] → is_among b (fallen_by u before now) ≡ false → u ≡ b → before ≡ []
unfolding fallen_by is_among
not_fallen b u before now h z e q =
    ⊎_elim
    (λ c. none_counted before h (λ x k. omega (arith, covers_at (vector_of now) (vector_of before) c.0 x k, vector_of_get_d before x k, vector_of_get_d now x k, ap (count x) z, count-nil x)))
    (λ c. absurd (let y : is_among b (u ∷ []) ≡ false = ap (is_among b) (sym c.1) ∙ e in let t : (true || false) ≡ false = rw (eq-eqb u b q) at y in one t))
    (cond_cases (covers (vector_of now) (vector_of before)) [] (u ∷ []))
  where
    one : true ≡ false → ⊥
    one t = false≢true (sym t)

-- ---- the events

-- a call leaves the world, or is an accepted event of it; what its list names and whose vector falls tells of the event
pub data Moves (s : Bench) (c : Call) (o : Outcome) : Type 0 where
  still : world (after s c o) ≡ world s → Moves s c o
  event : (e : F.Event) → F.Accepted (world s) e → world (after s c o) ≡ F.after (world s) e
      → ((U : List Rec) → named (list_by c o) U ≡ true → F.Names U e)
      → ((b : ℕ) → is_among b (fallen_by (unit_of c) (held s (unit_of c)) (folded_left s c o ++ records_of o.log)) ≡ false → F.Keeps b (world s) e)
      → Moves s c o

empty_base_lem : base_in empty_base ≡ fresh_base
unfolding base_in
empty_base_lem = λ i. record { list = empty_list i; vector = empty_vector i; tree = empty_tree_lem i }

pub fresh_is : store_in (replicate 40960 0) empty_base [] ≡ F.fresh
fresh_is = λ i. record { base = empty_base_lem i; log = zeros-none i; folded = [] }

-- a list names each unit, one after another
each_named : (m : ℕ) (l : List Rec) → names_each m l ≡ true → (r : Rec) → Has r l → is_listed m (unit r) ≡ true
unfolding names_each
each_named m [] e r i = absurd i
each_named m (x ∷ l) e r (inl q) = rw q (and_true (is_listed m (unit x)) (names_each m l) e).0
each_named m (x ∷ l) e r (inr i) = each_named m l (and_true (is_listed m (unit x)) (names_each m l) e).1 r i

names_one : (m : ℕ) (U : List Rec) → named (m ∷ []) U ≡ true → (r : Rec) → Has r U → is_listed m (unit r) ≡ true
unfolding named
names_one m U e = each_named m U (and_true (names_each m U) true e).0

-- what a fold leaves is read back
folded_is : (log base : List ℕ) (p : List Rec) (m : ℕ) (o : Outcome) (n : ℕ) → o ≡ folded m log base n
    → records_of (log_bytes (drop n (records_of log))) ≡ drop n (records_of log)
    → base_in (base_bytes (folded_base m (base_vector base) (base_in base).tree (records_of log) n)) ≡ folded_base m (base_vector base) (base_in base).tree (records_of log) n
    → store_in o.log o.lent (p ++ take o.blocks (records_of log))
    ≡ record {
      base = folded_base m (base_vector base) (base_in base).tree (records_of log) n;
      log = drop n (records_of log);
      folded = p ++ take n (records_of log);
    }
unfolding folded
folded_is log base p m o n e a b =
    ap (λ (x : Outcome). store_in x.log x.lent (p ++ take x.blocks (records_of log))) e
    ∙ (λ i. record { base = b i; log = a i; folded = p ++ take n (records_of log) })

refused_start : (s : Bench) (u n : ℕ) → folded_left s (starts u) (refusal (suc n) (s.logs u) (s.bases u)) ≡ s.folded u
unfolding folded_left
refused_start s u n = rw (ne_eqb (suc n) 0 (λ z. omega arith))

module _ (archive : ℕ) (s : Bench) (i : F.Inv (world s)) where
  starting : (u : ℕ) → Moves s (starts u) (start_of u (s.logs u) (s.bases u))
  unfolding unit_of base_left folded_left uses held F.at F.changes F.uses
  starting u =
      ⊎_elim
      (λ k. subst (Moves s (starts u)) (sym k.1) (still (stays s (starts u) (refusal (suc k.0) (s.logs u) (s.bases u)) (ap (store_in (s.logs u) (s.bases u)) (refused_start s u k.0)) refl)))
      (λ k.
      let o : Outcome = outcome 0 0 (replicate 40960 0) empty_base 0 in
      subst (Moves s (starts u)) (sym k)
      (event (F.starts u) tt (goes s (starts u) o (F.starts u) refl fresh_is refl) (λ U e. tt)
      (λ b e q. not_fallen b u (s.folded u ++ records_of (s.logs u)) ([] ++ records_of (replicate 40960 0)) (i.kept u).sound zeros-none e q)))
      (start_cases u (s.logs u) (s.bases u))

  acting : (u : ℕ) (w work : List ℕ) → Moves s (acts u w work) (act_of u (s.logs u) (s.bases u) w work)
  unfolding unit_of base_left folded_left uses F.at F.changes F.uses base_in
  acting u w work =
      let o : Outcome = act_of u (s.logs u) (s.bases u) w work in
      let l : List Rec = records_of (s.logs u) in
      let v : List ℕ = base_vector (s.bases u) in
      let r : Rec = stamped u v l w in
      ⊎_elim
      (λ k.
      still (stays s (acts u w work) o (ap (λ (x : Outcome). store_in x.log (s.bases u) (s.folded u)) k.1)
      (refused_is k.0 o (r ∷ []) (ap (λ (x : Outcome). x.number) k.1))))
      (λ k.
      event (F.acts u w)
      (k.3, k.2)
      (goes s (acts u w work) o (F.acts u w) refl (ap (λ (x : List Rec). F.with_log (store_of s u) x) k.1) (accepted_is o (r ∷ []) k.0))
      (λ U e. tt)
      (λ b e. tt))
      (act_cases u (s.logs u) (s.bases u) w work)

  taking : (u n : ℕ) → Sub (block_records (block_given s n).bytes) s.used → Moves s (takes u n) (take_of archive u (s.logs u) (s.bases u) (block_given s n).bytes)
  unfolding unit_of base_left folded_left uses F.at F.changes F.uses base_in
  taking u n f =
      let b : List ℕ = (block_given s n).bytes in
      let o : Outcome = take_of archive u (s.logs u) (s.bases u) b in
      ⊎_elim
      (λ k. still (stays s (takes u n) o (ap (λ (x : List ℕ). store_in x (s.bases u) (s.folded u)) k) refl))
      (λ k.
      event (F.takes u (block_records b) k.0) (k.1, f)
      (goes s (takes u n) o (F.takes u (block_records b) k.0) refl (ap (λ (x : List Rec). F.with_log (store_of s u) x) k.2) refl)
      (λ U e. tt)
      (λ c e. tt))
      (take_cases archive u (s.logs u) (s.bases u) b)

  handing : (u : ℕ) (v lent : List ℕ) → Moves s (hands_out u v lent) (hand_of archive u (s.logs u) (s.bases u) v lent)
  unfolding unit_of base_left folded_left uses
  handing u v lent =
      still (stays s (hands_out u v lent) (hand_of archive u (s.logs u) (s.bases u) v lent) (ap (λ (x : List ℕ). store_in x (s.bases u) (s.folded u)) (hand_log archive u (s.logs u) (s.bases u) v lent)) refl)

  writing : (u : ℕ) (lent : List ℕ) → Moves s (writes u lent) (write_of archive u (s.logs u) (s.bases u) lent)
  unfolding unit_of base_left folded_left uses
  writing u lent =
      still (stays s (writes u lent) (write_of archive u (s.logs u) (s.bases u) lent) (ap (λ (x : List ℕ). store_in x (s.bases u) (s.folded u)) (write_log archive u (s.logs u) (s.bases u) lent)) refl)

  folding : (u m : ℕ) (work : List ℕ) → Moves s (folds u m work) (fold_of u (s.logs u) (s.bases u) m work)
  unfolding unit_of base_left folded_left uses list_by F.at F.changes F.uses base_in
  folding u m work =
      let log : List ℕ = s.logs u in
      let base : List ℕ = s.bases u in
      let o : Outcome = fold_of u log base m work in
      let n : ℕ = run_in m u log base in
      ⊎_elim
      (λ k.
      subst (Moves s (folds u m work)) (sym k.1)
      (still (stays s (folds u m work) (refusal (suc k.0) log base) (ap (store_in log base) (append-nil (s.folded u))) refl)))
      (λ k.
      event (F.folds u m) k.1
      (goes s (folds u m work) o (F.folds u m) refl (folded_is log base (s.folded u) m o n k.0 (log_left m u log base k.2) (base_left_lem m u log base k.2)) refl)
      (λ U e. names_one m U (subst (λ (x : List ℕ). named x U ≡ true) (accepted_is o (m ∷ []) (ap (λ (x : Outcome). x.number) k.0 ∙ folded_zero m log base n)) e))
      (λ b e. tt))
      (fold_cases u log base m work)

pub moves : (archive : ℕ) (s : Bench) (c : Call) → F.Inv (world s) → ((n : ℕ) → Sub (block_records (block_given s n).bytes) s.used) → Moves s c (done archive s c)
unfolding done
moves archive s (starts u) i f = starting archive s i u
moves archive s (acts u w work) i f = acting archive s i u w work
moves archive s (hands_out u v lent) i f = handing archive s i u v lent
moves archive s (writes u lent) i f = writing archive s i u lent
moves archive s (takes u n) i f = taking archive s i u n (f n)
moves archive s (folds u m work) i f = folding archive s i u m work
