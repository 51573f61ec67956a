-- Demand 3, one claim about every list of calls: the base, equal vectors, and passing.
-- Document 01, demand 3; document 02, K10.
-- Assumes nothing.
use Rattle.std.specs.Prelude.{ℕ, ◌+◌, ◌<◌, ◌≡◌, ◌↔◌, Bool, true, false, cond, not, ◌&&◌, ◌||◌, List, [], ◌∷◌, ◌++◌, ltb, leb, eqb, length}
use Rattle.std.proofs.Math.Option.{Option, none, some}
use Rattle.model.specs.Vector.{comparison_of}
use Rattle.model.specs.Record.{Rec, unit, num}
use Rattle.model.specs.Log.{rank, by_id, vector_on, records_of, lacking}
use Rattle.model.specs.Replay.{trim, replay}
use Rattle.model.specs.Table.{table_bytes}
use Rattle.base_model.specs.Base.{is_listed, base_vector, tree_of}
use Rattle.model.specs.Block.{block_records}
use Rattle.call_model.specs.Outcome.{outcome, show_of}
use Rattle.log_laws.specs.Members.{Has}
use Rattle.call_laws.specs.Keeps.{Good}
use Rattle.machine.specs.Machine.{Call, starts, acts, hands_out, writes, takes, folds, unit_of, Bench, bare, held, held_vector, block_given, done, next, play}

unfoldable pub is_some : Option Rec → Bool
is_some none = false
is_some (some s) = true

-- a record of r's identity is in the list
unfoldable pub holds : List Rec → Rec → Bool
holds l r = is_some (by_id (unit r) (num r) l)

-- ---- the premise: no record number is used a second time by its unit

unfoldable pub distinct : List Rec → Bool
distinct [] = true
distinct (r ∷ l) = not (holds l r) && distinct l

-- ---- the base: what a unit has stands for all records held, folded ones with them. This needs no premise

pub record Based (s : Bench) (u : ℕ) : Type 0 where
  -- the vector keeps counting folded records [F133]
  pub vector : vector_on (base_vector (s.bases u)) (records_of (s.logs u)) ≡ held_vector s u
  -- the replay from the base leaves what the replay of all records held leaves, but for the rows of removed entries [F132]
  pub tree : trim (tree_of (s.logs u) (s.bases u)) ≡ trim (replay (held s u))
  -- and shows what that shows
  pub shown : (lent : List ℕ) → length lent ≡ 86020
      → show_of (s.logs u) (s.bases u) lent ≡ outcome 0 0 (s.logs u) (table_bytes (replay (held s u))) 0

-- ---- equal vectors exactly when the same records are held, and then the same tree and asides; and the same logs byte for byte where the
-- base vectors are equal too [F140]

pub record Converged (s : Bench) (u v : ℕ) : Type 0 where
  pub exactly : (held_vector s u ≡ held_vector s v) ↔ ((r : Rec) → Has r (held s u) ↔ Has r (held s v))
  pub bytes : held_vector s u ≡ held_vector s v → base_vector (s.bases u) ≡ base_vector (s.bases v) → s.logs u ≡ s.logs v
  pub replayed : held_vector s u ≡ held_vector s v → replay (held s u) ≡ replay (held s v)
  pub shown : held_vector s u ≡ held_vector s v → (lent : List ℕ)
      → ((show_of (s.logs u) (s.bases u) lent).number ≡ (show_of (s.logs v) (s.bases v) lent).number)
      × ((show_of (s.logs u) (s.bases u) lent).lent ≡ (show_of (s.logs v) (s.bases v) lent).lent)

-- ---- passing, from a point of the list to its end: the unit a passes to the unit b

-- a only hands out or writes files, b only takes blocks that a gave since the point, the rest do anything; n blocks had been
-- given at the point
unfoldable pub passes : ℕ → ℕ → ℕ → Bench → Call → Bool
passes a b n s (starts u) = not (eqb u a || eqb u b)
passes a b n s (acts u w work) = not (eqb u a || eqb u b)
passes a b n s (hands_out u v lent) = not (eqb u b)
passes a b n s (writes u lent) = not (eqb u b)
passes a b n s (takes u k) =
    not (eqb u a) && (not (eqb u b) || (leb n k && (ltb k (length s.given) && eqb (block_given s k).giver a)))
passes a b n s (folds u m work) = not (eqb u a || eqb u b)

unfoldable pub passing : ℕ → ℕ → ℕ → ℕ → Bench → List Call → Bool
passing archive a b n s [] = true
passing archive a b n s (c ∷ cs) = passes a b n s c && passing archive a b n (next archive s c) cs

-- the records of the blocks that b takes, in the order of the takes
unfoldable pub flow_of : ℕ → Bench → Call → List Rec
flow_of b s (starts u) = []
flow_of b s (acts u w work) = []
flow_of b s (hands_out u v lent) = []
flow_of b s (writes u lent) = []
flow_of b s (takes u k) = cond (eqb u b) (block_records (block_given s k).bytes) []
flow_of b s (folds u m work) = []

unfoldable pub flow : ℕ → ℕ → Bench → List Call → List Rec
flow archive b s [] = []
flow archive b s (c ∷ cs) = flow_of b s c ++ flow archive b (next archive s c) cs

-- the records of a that b lacks
unfoldable pub lacked : Bench → ℕ → ℕ → List Rec
lacked s a b = lacking (held_vector s b) (held s a)

unfoldable pub holds_all : List Rec → List Rec → Bool
holds_all l [] = true
holds_all l (r ∷ rs) = holds l r && holds_all l rs

-- of a list, the records that l does not hold, each where it appears for the first time
unfoldable pub firsts : List Rec → List Rec → List Rec
firsts l [] = []
firsts l (r ∷ rs) = cond (holds l r) (firsts l rs) (r ∷ firsts (r ∷ l) rs)

unfoldable pub below : Rec → List Rec → Bool
below r [] = true
below r (s ∷ l) = ltb (rank r) (rank s)

unfoldable pub rising : List Rec → Bool
rising [] = true
rising (r ∷ l) = below r l && rising l

pub record Passed (archive a b : ℕ) (s : Bench) (cs : List Call) : Type 0 where
  pub calls : passing archive a b (length s.given) s cs ≡ true
  -- the blocks so taken hold every record of a that b lacked at the point
  pub all : holds_all (flow archive b s cs) (lacked s a b) ≡ true
  -- these records appear for the first time in rising rank
  pub order : rising (firsts (held s b) (flow archive b s cs)) ≡ true
  -- of the union, the records that are not folded at b fit 512 [F142]
  pub union : leb (length (lacked s a b) + length (records_of (s.logs b))) 512 ≡ true

-- every call of a unit answers 0
unfoldable pub zeros : ℕ → ℕ → Bench → List Call → Bool
zeros archive b s [] = true
zeros archive b s (c ∷ cs) = (not (eqb (unit_of c) b) || eqb (done archive s c).number 0) && zeros archive b (next archive s c) cs

-- each of those takes answers 0, and of the two vectors, the taking unit's named first, the first lacks nothing [F92]
pub record Covered (archive a b : ℕ) (s : Bench) (cs : List Call) : Type 0 where
  pub answers : zeros archive b s cs ≡ true
  pub covering : (comparison_of (held_vector (play archive s cs) b) (held_vector (play archive s cs) a)).first ≡ 0

-- ---- the premises that folding adds to passing, at the end of the list [F142]

-- a list names the unit of each of these records
unfoldable pub names_each : ℕ → List Rec → Bool
names_each m [] = true
names_each m (r ∷ l) = is_listed m (unit r) && names_each m l

-- every list names each unit that ever acts. The first list has all eight
unfoldable pub named : List ℕ → List Rec → Bool
named [] l = true
named (m ∷ ms) l = names_each m l && named ms l

unfoldable pub is_among : ℕ → List ℕ → Bool
is_among u [] = false
is_among u (v ∷ l) = eqb v u || is_among u l

-- no unit that ever folds has its vector fall
unfoldable pub steady : List ℕ → List ℕ → Bool
steady [] fallen = true
steady (u ∷ l) fallen = not (is_among u fallen) && steady l fallen

-- ---- the claim

pub record Claim (archive : ℕ) (before cs : List Call) : Type 0 where
  pub converged : (u v : ℕ) → Converged (play archive bare (before ++ cs)) u v
  pub covered : named (play archive bare (before ++ cs)).lists (play archive bare (before ++ cs)).used ≡ true
      → steady (play archive bare (before ++ cs)).folders (play archive bare (before ++ cs)).fallen ≡ true
      → (a b : ℕ) → b < 8 → Passed archive a b (play archive bare before) cs → Covered archive a b (play archive bare before) cs

-- for every list of calls, and every point of it. Nothing is presumed of units and blocks: a call at a unit above 7 and a take of
-- a block that was not given are refused and change nothing. Sound states and bases that stand for what is held need no premise; the
-- rest is for lists in which no number is used a second time
pub record Demanded (archive : ℕ) (before cs : List Call) : Type 0 where
  pub good : (u : ℕ) → Good ((play archive bare (before ++ cs)).logs u) ((play archive bare (before ++ cs)).bases u)
  pub based : (u : ℕ) → Based (play archive bare (before ++ cs)) u
  pub claim : distinct (play archive bare (before ++ cs)).used ≡ true → Claim archive before cs

abbrev pub Demand : Type 0
Demand = (archive : ℕ) (before cs : List Call) → Demanded archive before cs
