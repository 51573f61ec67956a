-- The tables of the records held behind a base vector: at which position each stands, and what each has seen. A table goes by the
-- relative number, the number less the base vector's count of the unit.
-- Assumes nothing.
use Rattle.std.specs.Prelude.{ℕ, suc, ◌+◌, ◌-◌, ◌*◌, ◌≤◌, ◌<◌, ◌≡◌, Bool, true, cond, ◌&&◌, List, [], ◌∷◌, leb, eqb, get_or, length, set}
use Rattle.std.proofs.Math.Option.{none, some}
use Rattle.model.specs.Numbers.{malformed, not_next, not_closed, bad_file}
use Rattle.model.specs.Bytes.{part, put_at}
use Rattle.model.specs.Vector.{covers}
use Rattle.model.specs.Record.{Rec, unit, num, seen_vector, well_formed}
use Rattle.model.specs.Log.{rank, count, count_on, vector_on, by_id, all_to}
use Rattle.log_closure.specs.declared.Tables.{Tables}

-- where the position of the record of unit u with the relative number c stands
unfoldable pub slot_of : ℕ → ℕ → ℕ
slot_of u c = 512 * u + (c - 1)

-- the position of the record of unit u with the relative number c
unfoldable pub position_of : List ℕ → ℕ → ℕ → ℕ
position_of places u c = get_or places (slot_of u c) 0

-- what the record at a position has seen
unfoldable pub row_at : List ℕ → ℕ → List ℕ
row_at seens p = part seens (8 * p) 8

-- the record of the count of unit u in s has nowhere seen more than s
unfoldable pub unit_closed : List ℕ → List ℕ → List ℕ → List ℕ → ℕ → Bool
unit_closed base places seens s u =
    cond (leb (get_or s u 0) (get_or base u 0)) true (covers s (row_at seens (position_of places u (get_or s u 0 - get_or base u 0))))

-- for each unit u with count c above the base vector's, the seen of record u.c is nowhere above it, as the tables have it
unfoldable pub closed_by : List ℕ → List ℕ → List ℕ → List ℕ → Bool
closed_by base places seens s = all_to 8 (unit_closed base places seens s)

-- the lowest rank that rises behind records that stand last first
unfoldable pub floor_of : List Rec → ℕ
floor_of [] = 0
floor_of (s ∷ l) = suc (rank s)

-- the first of 8 and 9 that holds of a record beside those held, or 0, as the tables have it
unfoldable pub join_fault : List ℕ → List ℕ → List ℕ → List ℕ → Rec → ℕ
join_fault base held places seens r =
    cond (eqb (num r) (suc (get_or held (unit r) 0)) && covers held (seen_vector r)) (cond (closed_by base places seens (seen_vector r)) 0 not_closed) not_next

-- the first of 7, 20, 8 and 9 that holds of a record, or 0, as the tables have it; floor is the lowest rank that rises
unfoldable pub fault_by : List ℕ → ℕ → List ℕ → List ℕ → List ℕ → Rec → ℕ
fault_by base floor held places seens r = cond (well_formed r) (cond (leb floor (rank r)) (join_fault base held places seens r) bad_file) malformed

-- what is known of the records before, with the number that the last of them gave
pub record Noted : Type 0 where
  pub number : ℕ
  pub held : List ℕ
  pub floor : ℕ
  pub places : List ℕ
  pub seens : List ℕ

abbrev pub noted : ℕ → List ℕ → ℕ → List ℕ → List ℕ → Noted
noted n held floor places seens = record { number = n; held = held; floor = floor; places = places; seens = seens }

-- a record behind others is refused with its fault, or noted at the position p
unfoldable pub admit_of : List ℕ → Rec → ℕ → List ℕ → ℕ → List ℕ → List ℕ → Noted
admit_of base r p held floor places seens =
    cond (eqb (fault_by base floor held places seens r) 0)
    (noted 0 (set held (unit r) (get_or held (unit r) 0 + 1)) (rank r + 1) (set places (slot_of (unit r) (num r - get_or base (unit r) 0)) p) (put_at seens (8 * p) (seen_vector r)))
    (noted (fault_by base floor held places seens r) held floor places seens)

-- a record more of each unit comes behind the base vector and has a place in the tables
pub record Spare (base held : List ℕ) : Type 0 where
  pub behind : (u : ℕ) → u < 8 → get_or base u 0 ≤ get_or held u 0
  pub below : (u : ℕ) → u < 8 → get_or held u 0 < get_or base u 0 + 512

-- the positions of the records counted lie in the tables
pub record Placed (base held places : List ℕ) : Type 0 where
  pub few : (u : ℕ) → u < 8 → get_or held u 0 ≤ get_or base u 0 + 512
  pub inside : (u c : ℕ) → u < 8 → 1 ≤ c → get_or base u 0 + c ≤ get_or held u 0 → position_of places u c < 518

-- the record of unit u with the relative number c stands at a position below top, with its seen
pub record Stands (base : List ℕ) (at : ℕ → Rec) (top : ℕ) (m : List Rec) (places seens : List ℕ) (u c : ℕ) : Type 0 where
  pub below : position_of places u c < top
  pub found : by_id u (get_or base u 0 + c) m ≡ some (at (position_of places u c))
  pub row : row_at seens (position_of places u c) ≡ seen_vector (at (position_of places u c))

-- the tables have the records of the list m, which come behind the base vector and stand at positions below top, and no others
pub record Indexed (base : List ℕ) (at : ℕ → Rec) (top : ℕ) (m : List Rec) (held places seens : List ℕ) : Type 0 where
  pub counts : held ≡ vector_on base m
  pub places_long : length places ≡ 4096
  pub seens_long : length seens ≡ 4144
  pub few : length m ≤ 512
  pub room : top ≤ 518
  pub stands : (u c : ℕ) → u < 8 → 1 ≤ c → c ≤ count u m → Stands base at top m places seens u c
  pub beyond : (u c : ℕ) → count_on base u m < c → by_id u c m ≡ none

-- ---- the two tables

-- a position for each unit and number
abbrev pub places_size : ℕ
places_size = 4096

-- a row of eight for each position
abbrev pub seens_size : ℕ
seens_size = 4144

abbrev pub tables : List ℕ → List ℕ → Tables
tables places seens = record { places = places; seens = seens }
