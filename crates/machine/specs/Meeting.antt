-- A meeting: one unit hands out to the other's vector, the other takes the block, and so on (claims B2 and B4).
-- Document 01, demand 3; document 02, K10.
-- Assumes nothing.
use Rattle.std.specs.Prelude.{ℕ, zero, suc, ◌+◌, ◌*◌, ◌/◌, ◌≤◌, ◌<◌, ◌≡◌, true, ◌↔◌, List, [], ◌++◌, length, drop, replicate}
use Rattle.model.specs.Vector.{covers, lacks_of, comparison_of, blocks_for}
use Rattle.model.specs.Record.{Rec, unit, seen_vector}
use Rattle.model.specs.Log.{no_counts, vector_of, sound_after, records_of, lacking}
use Rattle.base_model.specs.Base.{is_listed, base_vector, base_in, held_on}
use Rattle.call_model.specs.Outcome.{Outcome, hand_of, take_of}
use Rattle.log_laws.specs.Members.{Has, Agree}
use Rattle.call_laws.specs.Keeps.{Good}

-- a unit's log and base, and the records that the base stands for, which are no part of what is lent
pub record Store : Type 0 where
  pub log : List ℕ
  pub base : List ℕ
  pub folded : List Rec

-- another log on the same base
abbrev pub with_log : Store → List ℕ → Store
with_log s log = record { log = log; base = s.base; folded = s.folded }

-- all records held, folded ones with them, and the held vector
abbrev pub held_by : Store → List Rec
held_by s = s.folded ++ records_of s.log

abbrev pub vector_by : Store → List ℕ
vector_by s = held_on s.log s.base

-- sound, with the folded records as without
pub record Whole (s : Store) : Type 0 where
  pub good : Good s.log s.base
  pub sound : sound_after no_counts [] (held_by s) ≡ true
  pub counted : vector_of s.folded ≡ base_vector s.base

-- the records of a's log that b lacks
unfoldable pub lacked_by : Store → Store → List Rec
lacked_by sa sb = lacking (vector_by sb) (records_of sa.log)

-- unit a hands out to the vector of b
unfoldable pub handed : ℕ → ℕ → Store → Store → Outcome
handed archive a sa sb = hand_of archive a sa.log sa.base (vector_by sb) (replicate 512 0)

-- unit b takes that block
unfoldable pub round : ℕ → ℕ → ℕ → Store → Store → Outcome
round archive a b sa sb = take_of archive b sb.log sb.base (handed archive a sa sb).lent

-- b after n rounds
unfoldable pub meet : ℕ → ℕ → ℕ → Store → Store → ℕ → Store
meet archive a b sa sb zero = sb
meet archive a b sa sb (suc n) =
    with_log (meet archive a b sa sb n) (round archive a b sa (meet archive a b sa sb n)).log

-- what a meeting does, after any number n of rounds
pub record Meets (archive a b : ℕ) (sa sb : Store) : Type 0 where
  pub handing : (n : ℕ) → (handed archive a sa (meet archive a b sa sb n)).number ≡ 0
  pub taking : (n : ℕ) → (round archive a b sa (meet archive a b sa sb n)).number ≡ 0
  -- six lacking records pass with each block, in rank order
  pub left : (n : ℕ) → lacked_by sa (meet archive a b sa sb n) ≡ drop (6 * n) (lacked_by sa sb)
  -- for k lacking, k divided by 6 and rounded up blocks pass all, and no fewer
  pub exactly : (n : ℕ) → (lacked_by sa (meet archive a b sa sb n) ≡ []) ↔ ((length (lacked_by sa sb) + 5) / 6 ≤ n)
  -- as many are lacking as the taking unit's vector is behind [F91]
  pub behind : (n : ℕ) → length (lacked_by sa (meet archive a b sa sb n)) ≡ lacks_of (vector_by (meet archive a b sa sb n)) (vector_by sa)
  -- so a sixth of that, rounded up, is how many blocks are needed: named first, the taking unit lacks nothing then, and not before [F93]
  pub blocks : (n : ℕ) → ((comparison_of (vector_by (meet archive a b sa sb n)) (vector_by sa)).first ≡ 0)
      ↔ (blocks_for (lacks_of (vector_by sb) (vector_by sa)) ≤ n)
  -- cut between blocks, it leaves a sound log, and a later meeting ends where the uncut one does
  pub sound : (n : ℕ) → Whole (meet archive a b sa sb n)
  pub later : (n m : ℕ) → meet archive a b sa sb (n + m) ≡ meet archive a b sa (meet archive a b sa sb n) m

-- what folding asks of the two: b has what a has folded, else a's hand_out is 27; and each record that b lacks is of a unit that b lists,
-- else 26, and has seen what b has folded, else 27 [F142]
pub record Open (sa sb : Store) : Type 0 where
  pub above : covers (vector_by sb) (base_vector sa.base) ≡ true
  pub listed : (r : Rec) → Has r (lacked_by sa sb) → is_listed (base_in sb.base).list (unit r) ≡ true
  pub covering : (r : Rec) → Has r (lacked_by sa sb) → covers (seen_vector r) (base_vector sb.base) ≡ true

-- two whole stores that share no identity with different records, and whose union, without what b has folded, fits 512
abbrev pub EveryMeeting : Type 0
EveryMeeting =
    (archive a b : ℕ) (sa sb : Store) → a < 8 → b < 8 → Whole sa → Whole sb → Agree (held_by sa) (held_by sb) → Open sa sb
    → length (lacked_by sa sb) + length (records_of sb.log) ≤ 512 → Meets archive a b sa sb
