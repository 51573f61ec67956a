-- What the laws of the replay speak of: the asides that records leave, settles that fit, records that differ only in dates.
-- Assumes nothing.
use Rattle.std.specs.Prelude.{ℕ, suc, ◌-◌, ◌%◌, ◌≡◌, Bool, true, false, cond, ◌&&◌, ◌||◌, ◌⊎◌, List, [], ◌∷◌, ◌++◌, ltb, leb, eqb, take, drop}
use Rattle.model.specs.Record.{Rec, op, self_of, object_of}
use Rattle.model.specs.Replay.{Entry, Aside, Tree, Verdict, fits, aside, judge, step}

-- ---- members

abbrev pub Has : {A : Type 0} → A → List A → Type 0
Has x [] = ⊥
Has x (y ∷ l) = (x ≡ y) ⊎ Has x l

-- no two are equal
abbrev pub Distinct : {A : Type 0} → List A → Type 0
Distinct [] = Unit {0}
Distinct (x ∷ l) = (Has x l → ⊥) × Distinct l

-- as many in both, and one by one related
abbrev pub Pairs : {A : Type 0} → (A → A → Type 0) → List A → List A → Type 0
Pairs R [] [] = Unit {0}
Pairs R [] (y ∷ m) = ⊥
Pairs R (x ∷ l) [] = ⊥
Pairs R (x ∷ l) (y ∷ m) = R x y × Pairs R l m

-- the records' identities
unfoldable pub selves : List Rec → List ℕ
selves [] = []
selves (r ∷ l) = self_of r ∷ selves l

unfoldable pub makers : List Entry → List ℕ
makers [] = []
makers (e ∷ l) = e.made ∷ makers l

unfoldable pub whos : List Aside → List ℕ
whos [] = []
whos (a ∷ l) = a.who ∷ whos l

-- ---- fitting and standing aside

unfoldable pub is_fit : Verdict → Bool
is_fit fits = true
is_fit (aside n k) = false

-- a record that stands aside: its identity, the reason and the entry marked
abbrev pub Standing : Type 0
Standing = ℕ × ℕ × ℕ

unfoldable pub standings : List Aside → List Standing
standings [] = []
standings (a ∷ l) = (a.who, a.reason, a.marked) ∷ standings l

unfoldable pub standing : Verdict → Rec → List Standing
standing fits r = []
standing (aside n k) r = (self_of r, n, k) ∷ []

-- the records that stand aside when l is taken from the tree t on
unfoldable pub stand_aside : Tree → List Rec → List Standing
stand_aside t [] = []
stand_aside t (r ∷ l) = standing (judge r t) r ++ stand_aside (step t r) l

-- the makes that fit when l is taken from the tree t on
unfoldable pub making : Verdict → Rec → List ℕ
making fits r = cond (leb (op r) 2) (self_of r ∷ []) []
making (aside n k) r = []

unfoldable pub makes_fit : Tree → List Rec → List ℕ
makes_fit t [] = []
makes_fit t (r ∷ l) = making (judge r t) r ++ makes_fit (step t r) l

-- ---- settling

-- the operation is settle
unfoldable pub is_settle : Rec → Bool
is_settle r = eqb (op r) 6

-- the aside k is open; false where no aside k stands
unfoldable pub open_of : ℕ → List Aside → Bool
open_of k [] = false
open_of k (a ∷ l) = cond (eqb a.who k) a.is_open (open_of k l)

-- r is a settle that names k and fits
unfoldable pub settles : ℕ → Tree → Rec → Bool
settles k t r = is_settle r && (eqb (object_of r) k && is_fit (judge r t))

-- a settle that names k fits somewhere when l is taken from the tree t on
unfoldable pub settled_in : ℕ → Tree → List Rec → Bool
settled_in k t [] = false
settled_in k t (r ∷ l) = settles k t r || settled_in k (step t r) l

-- ---- what a record gives an entry, and an entry told otherwise

-- the entry whose contents a make or a store gives: a make's own, a store's object
unfoldable pub trace_of : Rec → ℕ
trace_of r = cond (leb (op r) 2) (self_of r) (object_of r)

unfoldable pub mapped : (Entry → Entry) → List Entry → List Entry
mapped g [] = []
mapped g (e ∷ l) = g e ∷ mapped g l

-- a tree with each of its entries told otherwise, and the asides as they are
unfoldable pub mapped_tree : (Entry → Entry) → Tree → Tree
mapped_tree g t = record { entries = mapped g t.entries; asides = t.asides }

-- ---- dates

-- the same bytes but for the date, 28 to 31
abbrev pub SameButDate : Rec → Rec → Type 0
SameButDate r s = (take 28 r ≡ take 28 s) × (drop 32 r ≡ drop 32 s)

-- one by one the same but for the date
abbrev pub SameButDates : List Rec → List Rec → Type 0
SameButDates l m = Pairs SameButDate l m

-- an entry with its date forgotten
unfoldable pub undated : Entry → Entry
undated e =
    record {
      made = e.made;
      kind = e.kind;
      inside = e.inside;
      label = e.label;
      contents = e.contents;
      date = 0 ∷ 0 ∷ 0 ∷ 0 ∷ [];
      mark = e.mark;
      placing = e.placing;
    }

-- a tree with its dates forgotten
unfoldable pub undated_tree : Tree → Tree
undated_tree t = mapped_tree undated t

-- the places of the tree table that hold dates: bytes 20 to 23 of each of the 512 rows of 72 from 4 on
unfoldable pub is_date_place : ℕ → Bool
is_date_place i = leb 4 i && (ltb i 73732 && (leb 20 ((i - 4) % 72) && leb ((i - 4) % 72) 23))

-- the bytes from the place i of a table on, with zeros where p holds
unfoldable pub hide_from : (ℕ → Bool) → ℕ → List ℕ → List ℕ
hide_from p i [] = []
hide_from p i (x ∷ b) = cond (p i) 0 x ∷ hide_from p (suc i) b

-- a tree table with zeros for the dates
unfoldable pub hide_dates : List ℕ → List ℕ
hide_dates b = hide_from is_date_place 0 b
