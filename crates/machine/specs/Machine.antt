-- The plain machine of demand 3: eight logs, all zeros at first, eight bases, empty at first, and the blocks given, fed with the calls alone.
-- Beside them it keeps what the claim speaks of and no call is lent: the records that each base stands for, and what was asked and done.
-- Assumes nothing.
use Rattle.std.specs.Prelude.{ℕ, zero, suc, cond, List, [], ◌∷◌, ◌++◌, eqb, get_or, take, replicate}
use Rattle.model.specs.Vector.{covers}
use Rattle.model.specs.Record.{Rec}
use Rattle.model.specs.Log.{vector_of, records_of}
use Rattle.base_model.specs.Base.{empty_base, base_vector}
use Rattle.model.specs.File.{block_at}
use Rattle.call_model.specs.Outcome.{Outcome, start_of, stamped, act_of, hand_of, write_of, take_of}
use Rattle.call_model.specs.Fold.{fold_of}

-- a call, its unit first: starting; acting on a wish, with lent work memory; handing out to a vector asked for, into a lent block; writing a
-- file into a lent one; taking a copy of the n-th block given, counted from 0; folding by a list, with lent work memory
pub data Call : Type 0 where
  starts : ℕ → Call
  acts : ℕ → List ℕ → List ℕ → Call
  hands_out : ℕ → List ℕ → List ℕ → Call
  writes : ℕ → List ℕ → Call
  takes : ℕ → ℕ → Call
  folds : ℕ → ℕ → List ℕ → Call

unfoldable pub unit_of : Call → ℕ
unit_of (starts u) = u
unit_of (acts u w work) = u
unit_of (hands_out u v lent) = u
unit_of (writes u lent) = u
unit_of (takes u n) = u
unit_of (folds u m work) = u

-- a block given, and the unit that gave it
pub record Block : Type 0 where
  pub giver : ℕ
  pub bytes : List ℕ

-- the logs and bases of the units, the blocks in the order of giving, and the records of accepted acts, the last first
pub record Bench : Type 0 where
  pub logs : ℕ → List ℕ
  pub bases : ℕ → List ℕ
  pub given : List Block
  pub used : List Rec
  pub folded : ℕ → List Rec  -- the records that each base stands for, by rank
  pub lists : List ℕ  -- the lists of accepted folds
  pub folders : List ℕ  -- the units of accepted folds
  pub fallen : List ℕ  -- the units whose vector fell

abbrev pub bare : Bench
bare =
    record {
      logs = λ u. replicate 40960 0;
      bases = λ u. empty_base;
      given = [];
      used = [];
      folded = λ u. [];
      lists = [];
      folders = [];
      fallen = [];
    }

-- the records that a unit holds, folded ones with them, and its vector [F141]
unfoldable pub held : Bench → ℕ → List Rec
held s u = s.folded u ++ records_of (s.logs u)

unfoldable pub held_vector : Bench → ℕ → List ℕ
held_vector s u = vector_of (held s u)

-- the n-th block given; where none was given, no bytes
unfoldable pub block_given : Bench → ℕ → Block
block_given s n = get_or s.given n (record { giver = 0; bytes = [] })

-- ---- one call

-- what it answers, leaves and writes: each gets the common archive, its unit's number, its unit's log and base
unfoldable pub done : ℕ → Bench → Call → Outcome
done archive s (starts u) = start_of u (s.logs u) (s.bases u)
done archive s (acts u w work) = act_of u (s.logs u) (s.bases u) w work
done archive s (hands_out u v lent) = hand_of archive u (s.logs u) (s.bases u) v lent
done archive s (writes u lent) = write_of archive u (s.logs u) (s.bases u) lent
done archive s (takes u n) = take_of archive u (s.logs u) (s.bases u) (block_given s n).bytes
done archive s (folds u m work) = fold_of u (s.logs u) (s.bases u) m work

unfoldable pub if_accepted : {A : Type 0} → Outcome → List A → List A
if_accepted o l = cond (eqb o.number 0) l []

-- the first n blocks of a file
unfoldable pub blocks_to : ℕ → List ℕ → ℕ → List Block
blocks_to u f zero = []
blocks_to u f (suc n) = blocks_to u f n ++ (record { giver = u; bytes = block_at f n } ∷ [])

-- accepted hand-outs and file writings give blocks: the lent block, the blocks of the lent file
unfoldable pub gives : Call → Outcome → List Block
gives (starts u) o = []
gives (acts u w work) o = []
gives (hands_out u v lent) o = if_accepted o (record { giver = u; bytes = o.lent } ∷ [])
gives (writes u lent) o = if_accepted o (blocks_to u o.lent o.blocks)
gives (takes u n) o = []
gives (folds u m work) o = []

-- a number is used by an accepted act
unfoldable pub uses : Bench → Call → Outcome → List Rec
uses s (starts u) o = []
uses s (acts u w work) o = if_accepted o (stamped u (base_vector (s.bases u)) (records_of (s.logs u)) w ∷ [])
uses s (hands_out u v lent) o = []
uses s (writes u lent) o = []
uses s (takes u n) o = []
uses s (folds u m work) o = []

-- the base left at the call's unit: only starting and folding write it, into what they are lent
unfoldable pub base_left : Bench → Call → Outcome → List ℕ
base_left s (starts u) o = o.lent
base_left s (acts u w work) o = s.bases u
base_left s (hands_out u v lent) o = s.bases u
base_left s (writes u lent) o = s.bases u
base_left s (takes u n) o = s.bases u
base_left s (folds u m work) o = o.lent

-- the records that it stands for: none after an accepted start; after a fold as many more from the log as the call says
unfoldable pub folded_left : Bench → Call → Outcome → List Rec
folded_left s (starts u) o = cond (eqb o.number 0) [] (s.folded u)
folded_left s (acts u w work) o = s.folded u
folded_left s (hands_out u v lent) o = s.folded u
folded_left s (writes u lent) o = s.folded u
folded_left s (takes u n) o = s.folded u
folded_left s (folds u m work) o = s.folded u ++ take o.blocks (records_of (s.logs u))

-- the list of an accepted fold, and its unit
unfoldable pub list_by : Call → Outcome → List ℕ
list_by (starts u) o = []
list_by (acts u w work) o = []
list_by (hands_out u v lent) o = []
list_by (writes u lent) o = []
list_by (takes u n) o = []
list_by (folds u m work) o = if_accepted o (m ∷ [])

unfoldable pub folder_by : Call → Outcome → List ℕ
folder_by (starts u) o = []
folder_by (acts u w work) o = []
folder_by (hands_out u v lent) o = []
folder_by (writes u lent) o = []
folder_by (takes u n) o = []
folder_by (folds u m work) o = if_accepted o (u ∷ [])

-- what is kept of one unit, put in
unfoldable pub put : {A : Type 0} → (ℕ → A) → ℕ → A → ℕ → A
put f u l v = cond (eqb v u) l (f v)

-- the call's unit, if its vector falls from one list of records to another
unfoldable pub fallen_by : ℕ → List Rec → List Rec → List ℕ
fallen_by u before now = cond (covers (vector_of now) (vector_of before)) [] (u ∷ [])

-- the bench after a call with an outcome
unfoldable pub after : Bench → Call → Outcome → Bench
after s c o =
    record {
      logs = put s.logs (unit_of c) o.log;
      bases = put s.bases (unit_of c) (base_left s c o);
      given = s.given ++ gives c o;
      used = uses s c o ++ s.used;
      folded = put s.folded (unit_of c) (folded_left s c o);
      lists = list_by c o ++ s.lists;
      folders = folder_by c o ++ s.folders;
      fallen = fallen_by (unit_of c) (held s (unit_of c)) (folded_left s c o ++ records_of o.log) ++ s.fallen;
    }

-- ---- a list of calls

unfoldable pub next : ℕ → Bench → Call → Bench
next archive s c = after s c (done archive s c)

unfoldable pub play : ℕ → Bench → List Call → Bench
play archive s [] = s
play archive s (c ∷ cs) = play archive (next archive s c) cs

-- what the calls answer, leave and write, one after another
unfoldable pub outcomes : ℕ → Bench → List Call → List Outcome
outcomes archive s [] = []
outcomes archive s (c ∷ cs) = done archive s c ∷ outcomes archive (next archive s c) cs
