-- A careful meeting: the unit that asks begins with every count lowered by one, so that its last record of each unit is brought again and
-- compared, where neither side has folded it; then it asks on with the counts raised by what was brought. What it notices of a number
-- used twice.
-- Assumes nothing.
use Rattle.std.specs.Prelude.{ℕ, zero, suc, ◌+◌, ◌-◌, ◌/◌, ◌≤◌, ◌<◌, min, max, ◌≡◌, ◌⊎◌, true, List, [], ◌∷◌, ◌++◌, length, get_or, set, drop, replicate}
use Rattle.model.specs.Numbers.{not_closed, other_bytes, full_log}
use Rattle.model.specs.Vector.{covers}
use Rattle.model.specs.Record.{Rec, unit, num}
use Rattle.model.specs.Log.{count_on, records_of, lacking}
use Rattle.model.specs.Block.{block_records}
use Rattle.base_model.specs.Base.{base_vector, base_in}
use Rattle.call_model.specs.Outcome.{Outcome, hand_of, taken, takes_all, take_of}
use Rattle.log_laws.specs.Members.{Has, Sub, Agree}
use Rattle.machine.specs.Meeting.{Store, with_log, held_by, vector_by, Whole, lacked_by, Open}

-- held counts, each lowered by one: not below own, the base vector of the unit that asks, and, where as many are held, not below other, that
-- of the unit that is asked
unfoldable pub lowered : List ℕ → List ℕ → List ℕ → List ℕ
lowered [] own other = []
lowered (n ∷ v) own other = max (max (n - 1) (get_or own 0 0)) (min n (get_or other 0 0)) ∷ lowered v (drop 1 own) (drop 1 other)

-- unit b begins to ask unit a
abbrev pub begun : Store → Store → List ℕ
begun sa sb = lowered (vector_by sb) (base_vector sb.base) (base_vector sa.base)

-- the counts raised to the number of a record, and of each of a list
unfoldable pub raise : List ℕ → Rec → List ℕ
raise v r = set v (unit r) (max (get_or v (unit r) 0) (num r))

unfoldable pub raised : List ℕ → List Rec → List ℕ
raised v [] = v
raised v (r ∷ rs) = raised (raise v r) rs

-- the unit that asks: the counts asked with, and its log and base
pub record Asking : Type 0 where
  pub asked : List ℕ
  pub store : Store

-- unit a hands out to the asked counts
unfoldable pub brought : ℕ → ℕ → Store → Asking → List ℕ
brought archive a sa s = (hand_of archive a sa.log sa.base s.asked (replicate 512 0)).lent

-- unit b takes that block
unfoldable pub answer : ℕ → ℕ → ℕ → Store → Asking → Outcome
answer archive a b sa s = take_of archive b s.store.log s.store.base (brought archive a sa s)

-- unit b asks: after n blocks
unfoldable pub asking : ℕ → ℕ → ℕ → Store → Store → ℕ → Asking
asking archive a b sa sb zero = record { asked = begun sa sb; store = sb }
asking archive a b sa sb (suc n) =
    let s : Asking = asking archive a b sa sb n in
    record {
      asked = raised s.asked (block_records (brought archive a sa s));
      store = with_log s.store (answer archive a b sa s).log;
    }

-- the answer of the take of block n, counted from 0
unfoldable pub answered : ℕ → ℕ → ℕ → Store → Store → ℕ → ℕ
answered archive a b sa sb n = (answer archive a b sa (asking archive a b sa sb n)).number

-- a number was used twice: the record r of A and the record s of B have one identity and other bytes
pub record Twice (A B : List Rec) (r s : Rec) : Type 0 where
  pub first : Has r A
  pub second : Has s B
  pub same_unit : unit r ≡ unit s
  pub same_number : num r ≡ num s
  pub other_bytes : r ≡ s → ⊥

-- the meeting ends with a refusal: 10, or 9 or 11 before it came to that, 11 only if the two together do not fit
pub record Noticed (archive a b : ℕ) (sa sb : Store) (r : Rec) : Type 0 where
  pub block : ℕ
  pub few : block < 86
  pub before : (n : ℕ) → n < block → answered archive a b sa sb n ≡ 0
  pub refusal :
      (answered archive a b sa sb block ≡ other_bytes)
      ⊎ (answered archive a b sa sb block ≡ not_closed)
      ⊎ ((answered archive a b sa sb block ≡ full_log) × (512 < length (lacked_by sa sb) + length (records_of sb.log)))
  -- 10 where the block has r and what stands before it is taken
  pub ten : (front rest m : List Rec) → block_records (brought archive a sa (asking archive a b sa sb block)) ≡ front ++ (r ∷ rest)
      → takes_all (base_in sb.base).list (base_vector sb.base) (records_of (asking archive a b sa sb block).store.log) front ≡ taken m
      → answered archive a b sa sb block ≡ other_bytes

-- unit b asks unit a, and a has in its log the last record that b has of some unit in its own, with other bytes
abbrev pub CarefulAsking : Type 0
CarefulAsking =
    (archive a b : ℕ) (sa sb : Store) → a < 8 → b < 8 → Whole sa → Whole sb → Open sa sb
    → (r s : Rec) → Twice (records_of sa.log) (records_of sb.log) r s
    → num s ≡ count_on (base_vector sb.base) (unit s) (records_of sb.log) → Noticed archive a b sa sb r

-- unit b asks unit a, then a asks b, whose log may have grown. The record u.c, where c is the lesser of the two counts of a unit u,
-- is in both logs with other bytes: the one or the other is refused
abbrev pub CarefulMeeting : Type 0
CarefulMeeting =
    (archive a b : ℕ) (sa sb : Store) → a < 8 → b < 8 → Whole sa → Whole sb → Open sa sb
    → (r s : Rec) → Twice (records_of sa.log) (records_of sb.log) r s
    → num r ≡ min (get_or (vector_by sa) (unit r) 0) (get_or (vector_by sb) (unit r) 0)
    → Noticed archive a b sa sb r
    ⊎ ((grown : List ℕ) → Whole (with_log sb grown) → Sub (records_of sb.log) (records_of grown) → Open (with_log sb grown) sa
    → Noticed archive b a (with_log sb grown) sa s)

-- no false alarm: two whole stores that share no identity with different records, whose union fits 512. Nothing is refused, and for
-- k that the lowered counts lack, k divided by 6 and rounded up blocks pass all
pub record Passes (archive a b : ℕ) (sa sb : Store) : Type 0 where
  pub answers : (n : ℕ) → answered archive a b sa sb n ≡ 0
  pub covering : (n : ℕ) → (length (lacking (begun sa sb) (records_of sa.log)) + 5) / 6 ≤ n
      → covers (vector_by (asking archive a b sa sb n).store) (vector_by sa) ≡ true

abbrev pub CarefulPassing : Type 0
CarefulPassing =
    (archive a b : ℕ) (sa sb : Store) → a < 8 → b < 8 → Whole sa → Whole sb → Open sa sb → Agree (held_by sa) (held_by sb)
    → length (lacked_by sa sb) + length (records_of sb.log) ≤ 512 → Passes archive a b sa sb
