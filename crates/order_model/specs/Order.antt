-- Another maker's replay order: a list of identities, and whether it is accepted.
-- Document 02, K12: the form of the list is the team's.
-- Assumes nothing.
use Rattle.std.specs.Prelude.{ℕ, zero, suc, ◌+◌, ◌*◌, ◌/◌, Bool, true, false, cond, not, ◌&&◌, ◌||◌, List, [], ◌∷◌, leb, eqb, get_or, length}
use Rattle.std.proofs.Math.Option.{Option, none, some}
use Rattle.model.specs.Numbers.{first_of}
use Rattle.model.specs.Lengths.{tree_size}
use Rattle.model.specs.Bytes.{word, same_bytes, part}
use Rattle.model.specs.Record.{Rec, identity, unit_of, number_of, root, unit, num, seen, self_of}
use Rattle.model.specs.Log.{by_id, records_of}
use Rattle.model.specs.Replay.{Entry, Aside, Tree, replay, present_ones, is_disputed}
use Rattle.model.specs.Table.{table_bytes}
use Rattle.base_model.specs.Base.{base_vector}
use Rattle.call_model.specs.Outcome.{guard_number, whole_number}

-- ---- the list: four bytes a name

-- the identity in four bytes: unit, zero, number. What is none counts as the root, which is no record [F175]
unfoldable pub name_in : List ℕ → ℕ
name_in b = cond (eqb (length b) 4 && (leb (get_or b 0 0) 7 && eqb (get_or b 1 0) 0)) (identity (get_or b 0 0) (word b 2)) root

unfoldable pub name_at : List ℕ → ℕ → ℕ
name_at b i = name_in (part b (4 * i) 4)

-- the n names from place i on
unfoldable pub names_from : List ℕ → ℕ → ℕ → List ℕ
names_from b i zero = []
names_from b i (suc n) = name_at b i ∷ names_from b (suc i) n

-- a part of four bytes behind the last name is a name too, of no record [F175]
unfoldable pub name_count : List ℕ → ℕ
name_count b = (length b + 3) / 4

unfoldable pub names_given : List ℕ → List ℕ
names_given b = names_from b 0 (name_count b)

-- ---- the first condition: each record of the log once, and nothing else

-- how often the name k stands in a list
unfoldable pub times : ℕ → List ℕ → ℕ
times k [] = 0
times k (j ∷ ks) = cond (eqb j k) (suc (times k ks)) (times k ks)

unfoldable pub each_once : List ℕ → List Rec → Bool
each_once ks [] = true
each_once ks (r ∷ l) = eqb (times (self_of r) ks) 1 && each_once ks l

unfoldable pub is_held : ℕ → List Rec → Bool
is_held k [] = false
is_held k (r ∷ l) = eqb (self_of r) k || is_held k l

unfoldable pub all_held : List ℕ → List Rec → Bool
all_held [] l = true
all_held (k ∷ ks) l = is_held k l && all_held ks l

-- [F176]
unfoldable pub names_all : List ℕ → List Rec → Bool
names_all ks l = each_once ks l && all_held ks l

-- ---- the second: no record stands before one it has seen

unfoldable pub found_first : Option Rec → List Rec → List Rec
found_first none l = l
found_first (some r) l = r ∷ l

-- the records in the order of their names
unfoldable pub in_order_of : List ℕ → List Rec → List Rec
in_order_of [] l = []
in_order_of (k ∷ ks) l = found_first (by_id (unit_of k) (number_of k) l) (in_order_of ks l)

-- the record r has seen s
unfoldable pub has_seen : Rec → Rec → Bool
has_seen r s = leb (num s) (seen r (unit s))

unfoldable pub sees_none : Rec → List Rec → Bool
sees_none r [] = true
sees_none r (s ∷ l) = not (has_seen r s) && sees_none r l

-- [F177]
unfoldable pub seen_first : List Rec → Bool
seen_first [] = true
seen_first (r ∷ l) = sees_none r l && seen_first l

-- ---- the third: the same entries, with their marks and disputes, and the same set of asides

unfoldable pub equal_flags : Bool → Bool → Bool
equal_flags true b = b
equal_flags false b = not b

-- the same entry as a tree shows it: identity, kind, folder, label, date, mark, and whether s and t dispute it [F178]
unfoldable pub entry_alike : List Aside → List Aside → Entry → Entry → Bool
entry_alike s t e f =
    eqb e.made f.made
    && (eqb e.kind f.kind
    && (eqb e.inside f.inside
    && (same_bytes e.label f.label
    && (same_bytes e.date f.date
    && (same_bytes e.mark f.mark && equal_flags (is_disputed e.made s) (is_disputed f.made t))))))

-- the same record, reason, marked entry and state [F178]
unfoldable pub aside_alike : Aside → Aside → Bool
aside_alike a b =
    eqb a.who b.who && (eqb a.reason b.reason && (eqb a.marked b.marked && equal_flags a.is_open b.is_open))

-- one of the entries f is e
unfoldable pub shows_entry : List Aside → List Aside → Entry → List Entry → Bool
shows_entry s t e [] = false
shows_entry s t e (f ∷ l) = entry_alike s t e f || shows_entry s t e l

unfoldable pub entries_among : List Aside → List Aside → List Entry → List Entry → Bool
entries_among s t [] l = true
entries_among s t (e ∷ m) l = shows_entry s t e l && entries_among s t m l

unfoldable pub shows_aside : Aside → List Aside → Bool
shows_aside a [] = false
shows_aside a (b ∷ l) = aside_alike a b || shows_aside a l

unfoldable pub asides_among : List Aside → List Aside → Bool
asides_among [] l = true
asides_among (a ∷ m) l = shows_aside a l && asides_among m l

-- every entry that is present and every aside of t is one of u
unfoldable pub shown_within : Tree → Tree → Bool
shown_within t u =
    entries_among t.asides u.asides (present_ones t.entries) (present_ones u.entries)
    && asides_among t.asides u.asides

-- both ways; in what order they stand does not count [F178]
unfoldable pub shown_alike : Tree → Tree → Bool
shown_alike t u = shown_within t u && shown_within u t

-- ---- the answer

-- 0 accepted, or which of the three conditions failed first: each is judged wholly before the next [F179]
unfoldable pub failed_of : List ℕ → List Rec → ℕ
failed_of ks l =
    cond (names_all ks l) (cond (seen_first (in_order_of ks l)) (cond (shown_alike (replay l) (replay (in_order_of ks l))) 0 3) 2) 1

-- ---- the call

-- the number and place answered, the condition that failed, and the two tables lent: our tree, and that of the order
pub record Ordered : Type 0 where
  pub number : ℕ
  pub place : ℕ
  pub failed : ℕ
  pub ours : List ℕ
  pub theirs : List ℕ

abbrev pub ordered : ℕ → ℕ → ℕ → List ℕ → List ℕ → Ordered
ordered n p c ours theirs = record { number = n; place = p; failed = c; ours = ours; theirs = theirs }

-- the tables are written where both replays are made: the order is accepted, or the third condition failed [F181]
unfoldable pub judged_order : List ℕ → List Rec → List ℕ → List ℕ → Ordered
judged_order ks l ours theirs =
    cond (names_all ks l && seen_first (in_order_of ks l))
    (ordered 0 0 (failed_of ks l) (table_bytes (replay l)) (table_bytes (replay (in_order_of ks l))))
    (ordered 0 0 (failed_of ks l) ours theirs)

abbrev pub order_lent : List ℕ → List ℕ → Bool
order_lent ours theirs = eqb (length ours) tree_size && eqb (length theirs) tree_size

-- 1, 19, then 29 where records are folded; no unit is given: 0 passes [F180]
unfoldable pub order_number : List ℕ → List ℕ → List ℕ → List ℕ → ℕ
order_number log base ours theirs =
    first_of (guard_number 0 log base (order_lent ours theirs) true) (whole_number (base_vector base))

abbrev pub or_ordered : ℕ → List ℕ → List ℕ → Ordered → Ordered
or_ordered zero ours theirs o = o
or_ordered (suc n) ours theirs o = ordered (suc n) 0 0 ours theirs

-- the order in a list of bytes, checked against a log and its base [F180] [F181]
unfoldable pub order_of : List ℕ → List ℕ → List ℕ → List ℕ → List ℕ → Ordered
order_of log base list ours theirs =
    or_ordered (order_number log base ours theirs) ours theirs (judged_order (names_given list) (records_of log) ours theirs)
