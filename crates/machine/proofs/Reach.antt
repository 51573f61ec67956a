-- Every reachable bench: logs and bases are good and kept, and every record held or in a block given is one that an accepted act used.
-- Assumes nothing.
use Prim.Native.Nat.{ℕ, zero, suc, ◌*◌, ◌<◌}
use native.Mathlib.Omega.{arith}
use mathlib.Core.Path.{◌≡◌, refl, sym, ap, subst}
use mathlib.Core.Logic.{◌⊎◌, inl, inr, ⊎_elim}
use mathlib.Core.Bool.{true}
use mathlib.Core.List.{List, [], ◌∷◌, ◌++◌}
use lib.Dec.{eqb}
use lib.ListN.{length, take, drop, get_or-eq_default}
use borrow.Author.Tests.{eqb-true, eqb-false}
use Rattle.model.specs.Bytes.{padded}
use Rattle.model.specs.Record.{Rec}
use Rattle.model.specs.Log.{records_of, lacking}
use Rattle.model.specs.Block.{count_in, records_from, block_records, given_fault}
use Rattle.model.specs.File.{block_count, file_of, block_at}
use Rattle.base_model.specs.Base.{held_on}
use Rattle.call_model.specs.Outcome.{Outcome, outcome, act_of, hand_block, hand_of, write_of, take_of}
use Rattle.call_model.specs.Fold.{fold_of}
use Rattle.byte_slice.proofs.Numbers.{lt_or_ge, eq_or_ne, cond_cases}
use Rattle.log_laws.specs.Members.{Has, Sub, Agree}
use Rattle.log_laws.proofs.Members.{All, all_map, all_append, all_at, append_has, has_take, has_drop}
use Rattle.log_laws.proofs.Lacking.{has_lacking}
use Rattle.call_laws.specs.Keeps.{Good, Keeps}
use Rattle.call_laws.proofs.Calls.{zeros_good, act-keeps, take-keeps}
use Rattle.call_laws.proofs.Given.{Holds, hand_cases, write_cases}
use Rattle.call_laws.proofs.Keeping.{fold_keeps}
use Rattle.fold_laws.specs.Worlds as F
use Rattle.fold_laws.proofs.Stores.{fresh_kept}
use Rattle.fold_laws.proofs.Worlds.{inv_after}
use Rattle.machine.specs.Machine.{Call, starts, acts, hands_out, writes, takes, folds, unit_of, Block, Bench, bare, held, block_given, done, blocks_to, gives, uses, base_left, put, after, next, play}
use Rattle.machine.specs.Claim.{distinct}
use Rattle.machine.proofs.Tests.{distinct_agree}
use Rattle.machine.proofs.Stores.{start_cases, world, accepted_is, refused_is, hand_log, write_log, fresh_is, Moves, still, event, moves}

-- ---- what a call gives comes from its unit's records

-- a block of unit u with records of l in which no fault is found
pub record Own (archive u : ℕ) (l : List Rec) (g : Block) : Type 0 where
  pub giver : g.giver ≡ u
  pub faultless : given_fault archive g.bytes ≡ 0
  pub part : Sub (block_records g.bytes) l

own_block : (archive u : ℕ) (l rs : List Rec) (b : List ℕ) → Holds archive b rs → Sub rs l → Own archive u l (record { giver = u; bytes = b })
own_block archive u l rs b h f = record { giver = refl; faultless = h.faultless; part = λ r i. f r (subst (Has r) h.records i) }

own_blocks : (archive u : ℕ) (l : List Rec) (f : List ℕ) (n : ℕ) → ((k : ℕ) → k < n → Own archive u l (record { giver = u; bytes = block_at f k })) → All (Own archive u l) (blocks_to u f n)
unfolding blocks_to
own_blocks archive u l f zero h = tt
own_blocks archive u l f (suc n) h =
    all_append (Own archive u l) (blocks_to u f n) (record { giver = u; bytes = block_at f n } ∷ []) (own_blocks archive u l f n (λ k j. h k (omega arith))) (h n (omega arith), tt)

pub own : (archive : ℕ) (s : Bench) (c : Call) → All (Own archive (unit_of c) (held s (unit_of c))) (gives c (done archive s c))
unfolding done gives unit_of held
own archive s (starts u) = tt
own archive s (acts u w work) = tt
own archive s (hands_out u v lent) =
    let l : List Rec = records_of (s.logs u) in
    let h : List Rec = s.folded u ++ l in
    let o : Outcome = hand_of archive u (s.logs u) (s.bases u) v lent in
    let b : List ℕ = hand_block archive u (held_on (s.logs u) (s.bases u)) l v in
    ⊎_elim
    (λ k. rw (refused_is {A = Block} k.0 o (record { giver = u; bytes = o.lent } ∷ []) (ap (λ (x : Outcome). x.number) k.1)) tt)
    (λ k.
    let here : Own archive u h (record { giver = u; bytes = b }) =
    own_block archive u h (take 6 (lacking v l)) b k.1 (λ r i. append_has (s.folded u) l r (inr (has_lacking v l r (has_take 6 (lacking v l) r i)))) in
    rw (k.0, accepted_is {A = Block} (outcome 0 0 (s.logs u) b 0) (record { giver = u; bytes = b } ∷ []) refl) (here, tt))
    (hand_cases archive u (s.logs u) (s.bases u) v lent)
own archive s (writes u lent) =
    let l : List Rec = records_of (s.logs u) in
    let h : List Rec = s.folded u ++ l in
    let f : List ℕ = padded 44032 (file_of archive u l) in
    let o : Outcome = write_of archive u (s.logs u) (s.bases u) lent in
    ⊎_elim
    (λ k. rw (refused_is k.0 o (blocks_to u o.lent o.blocks) (ap (λ (x : Outcome). x.number) k.1)) tt)
    (λ k.
    let here : All (Own archive u h) (blocks_to u f (block_count (length l))) =
    own_blocks archive u h f (block_count (length l)) (λ n j.
    own_block archive u h (take 6 (drop (6 * n) l)) (block_at f n) (k.1 n j)
    (λ r i. append_has (s.folded u) l r (inr (has_drop (6 * n) l r (has_take 6 (drop (6 * n) l) r i))))) in
    rw (k.0, accepted_is (outcome 0 0 (s.logs u) f (block_count (length l))) (blocks_to u f (block_count (length l))) refl) here)
    (write_cases archive u (s.logs u) (s.bases u) lent)
own archive s (takes u n) = tt
own archive s (folds u m work) = tt

-- ---- the invariant

abbrev pub Given : ℕ → List Rec → Block → Type 0
Given archive used g = (given_fault archive g.bytes ≡ 0) × Sub (block_records g.bytes) used

pub record Inv (archive : ℕ) (s : Bench) : Type 0 where
  pub good : (u : ℕ) → Good (s.logs u) (s.bases u)
  pub stored : F.Inv (world s)
  pub blocked : All (Given archive s.used) s.given

-- a block that was not given holds nothing
not_given : Sub (block_records []) []
unfolding block_records count_in records_from
not_given r h = h

pub given_used : (archive : ℕ) (s : Bench) (n : ℕ) → All (Given archive s.used) s.given → Sub (block_records (block_given s n).bytes) s.used
unfolding block_given
given_used archive s n i r h =
    let d : Block = record { giver = 0; bytes = [] } in
    ⊎_elim
    (λ k. (all_at (Given archive s.used) s.given n d k i).1 r h)
    (λ k. absurd (not_given r (subst (λ (g : Block). Has r (block_records g.bytes)) (get_or-eq_default s.given d {n = n} k) h)))
    (lt_or_ge n (length s.given))

-- what a call does to the world
pub moves_of : (archive : ℕ) (s : Bench) (c : Call) → Inv archive s → Moves s c (done archive s c)
moves_of archive s c i = moves archive s c i.stored (λ n. given_used archive s n i.blocked)

-- ---- what a call leaves is good

stays_good : (log base lent : List ℕ) (o : Outcome) → Good log base → Keeps log base lent o → Good o.log base
stays_good log base lent o g k = ⊎_elim (λ e. k.accepted e) (λ e. subst (λ (x : List ℕ). Good x base) (sym (k.refused e).0) g) (eq_or_ne o.number 0)

good_left : (archive : ℕ) (s : Bench) (c : Call) → ((u : ℕ) → Good (s.logs u) (s.bases u)) → Good (done archive s c).log (base_left s c (done archive s c))
unfolding done base_left
good_left archive s (starts u) g =
    ⊎_elim
    (λ k. subst (λ (o : Outcome). Good o.log o.lent) (sym k.1) (g u))
    (λ k. subst (λ (o : Outcome). Good o.log o.lent) (sym k) zeros_good)
    (start_cases u (s.logs u) (s.bases u))
good_left archive s (acts u w work) g =
    stays_good (s.logs u) (s.bases u) [] (act_of u (s.logs u) (s.bases u) w work) (g u) (act-keeps u (s.logs u) (s.bases u) w work)
good_left archive s (hands_out u v lent) g = subst (λ (x : List ℕ). Good x (s.bases u)) (sym (hand_log archive u (s.logs u) (s.bases u) v lent)) (g u)
good_left archive s (writes u lent) g = subst (λ (x : List ℕ). Good x (s.bases u)) (sym (write_log archive u (s.logs u) (s.bases u) lent)) (g u)
good_left archive s (takes u n) g =
    let b : List ℕ = (block_given s n).bytes in
    stays_good (s.logs u) (s.bases u) [] (take_of archive u (s.logs u) (s.bases u) b) (g u) (take-keeps archive u (s.logs u) (s.bases u) b)
good_left archive s (folds u m work) g =
    let k = fold_keeps u (s.logs u) (s.bases u) m work in
    ⊎_elim
    (λ e. k.accepted e)
    (λ e. subst (λ (x : List ℕ). Good x (fold_of u (s.logs u) (s.bases u) m work).lent) (sym (k.refused e).0) (subst (Good (s.logs u)) (sym (k.refused e).1) (g u)))
    (eq_or_ne (fold_of u (s.logs u) (s.bases u) m work).number 0)

-- ---- the bench after a call

stored_next : (archive : ℕ) (s : Bench) (c : Call) → Inv archive s → F.Inv (world (next archive s c))
unfolding next
stored_next archive s c i = go (moves_of archive s c i)
  where
    go : Moves s c (done archive s c) → F.Inv (world (after s c (done archive s c)))
    go (still e) = subst F.Inv (sym e) i.stored
    go (event e a q names keeps) = subst F.Inv (sym q) (inv_after (world s) e i.stored a)

pub put_cases : {A : Type 0} (f : ℕ → A) (u : ℕ) (l : A) (v : ℕ) → ((v ≡ u) × (put f u l v ≡ l)) ⊎ ((v ≡ u → ⊥) × (put f u l v ≡ f v))
unfolding put
put_cases f u l v =
    ⊎_elim (λ a. inl (eqb-true v u a.0, a.1)) (λ a. inr (eqb-false v u a.0, a.1)) (cond_cases (eqb v u) l (f v))

good_next : (archive : ℕ) (s : Bench) (c : Call) → Inv archive s → (v : ℕ) → Good ((next archive s c).logs v) ((next archive s c).bases v)
unfolding next after
good_next archive s c i v =
    let o : Outcome = done archive s c in
    let u : ℕ = unit_of c in
    ⊎_elim
    (λ a.
    ⊎_elim
    (λ b. subst (λ (x : List ℕ). Good x (put s.bases u (base_left s c o) v)) (sym a.1) (subst (Good o.log) (sym b.1) (good_left archive s c i.good)))
    (λ b. absurd (b.0 a.0))
    (put_cases s.bases u (base_left s c o) v))
    (λ a.
    ⊎_elim
    (λ b. absurd (a.0 b.0))
    (λ b. subst (λ (x : List ℕ). Good x (put s.bases u (base_left s c o) v)) (sym a.1) (subst (Good (s.logs v)) (sym b.1) (i.good v)))
    (put_cases s.bases u (base_left s c o) v))
    (put_cases s.logs u o.log v)

pub held_used : (archive : ℕ) (s : Bench) → Inv archive s → (u : ℕ) → Sub (held s u) s.used
unfolding held
held_used archive s i u = (i.stored.kept u).from

blocked_next : (archive : ℕ) (s : Bench) (c : Call) → Inv archive s → All (Given archive (next archive s c).used) (next archive s c).given
unfolding next after
blocked_next archive s c i =
    let o : Outcome = done archive s c in
    let n : List Rec = uses s c o in
    let more : Sub s.used (n ++ s.used) = λ r h. append_has n s.used r (inr h) in
    let wide : (g : Block) → Given archive s.used g → Given archive (n ++ s.used) g = λ g f. (f.0, λ r h. more r (f.1 r h)) in
    all_append (Given archive (n ++ s.used)) s.given (gives c o) (all_map wide s.given i.blocked)
    (all_map (λ g f. (f.faultless, λ r h. more r (held_used archive s i (unit_of c) r (f.part r h)))) (gives c o) (own archive s c))

pub inv_next : (archive : ℕ) (s : Bench) (c : Call) → Inv archive s → Inv archive (next archive s c)
inv_next archive s c i = record { good = good_next archive s c i; stored = stored_next archive s c i; blocked = blocked_next archive s c i }

pub inv_play : (archive : ℕ) (cs : List Call) (s : Bench) → Inv archive s → Inv archive (play archive s cs)
unfolding play
inv_play archive [] s i = i
inv_play archive (c ∷ cs) s i = inv_play archive cs (next archive s c) (inv_next archive s c i)

pub inv_bare : (archive : ℕ) → Inv archive bare
inv_bare archive =
    record {
      good = λ u. zeros_good;
      stored = record { kept = λ u. subst (F.Kept []) (sym fresh_is) (fresh_kept []); formed = λ r i. absurd i; made = λ r i. absurd i };
      blocked = tt;
    }

-- ---- records used stay used, and with no number used twice they agree

pub used_next : (archive : ℕ) (s : Bench) (c : Call) → Sub s.used (next archive s c).used
unfolding next after
used_next archive s c r h = append_has (uses s c (done archive s c)) s.used r (inr h)

pub used_play : (archive : ℕ) (cs : List Call) (s : Bench) → Sub s.used (play archive s cs).used
unfolding play
used_play archive [] s r h = h
used_play archive (c ∷ cs) s r h = used_play archive cs (next archive s c) r (used_next archive s c r h)

pub used_agree : (used : List Rec) → distinct used ≡ true → (a b : List Rec) → Sub a used → Sub b used → Agree a b
used_agree used d a b p q r s i j = distinct_agree used d r s (p r i) (q s j)
