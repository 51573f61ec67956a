-- Lists of the calls of one unit that keeps an index beside its log and its base.
-- Assumes nothing.
use Rattle.std.specs.Prelude.{ℕ, ◌<◌, ◌≡◌, List, [], ◌∷◌, get_or}
use Rattle.base_model.specs.Base.{held_on}
use Rattle.call_model.specs.Outcome.{Outcome}
use Rattle.call_model.specs.Fold.{fold_of}
use Rattle.call_laws.specs.Keeps.{Good}
use Rattle.index_model.specs.Kept.{index_of_log, Kept, start_kept, act_kept, take_kept, RowKept, take_row_kept}

-- starting; acting on a wish; taking a block; taking a row; folding with a list. All but a start are lent memory to work in, which stands last
pub data UnitCall : Type 0 where
  starts : UnitCall
  acts : List ℕ → List ℕ → UnitCall
  takes : List ℕ → List ℕ → UnitCall
  takes_row : List ℕ → List ℕ → UnitCall
  folds : ℕ → List ℕ → UnitCall

-- a log, a base and an index
pub record Carried : Type 0 where
  pub log : List ℕ
  pub base : List ℕ
  pub index : List ℕ

abbrev pub carried : List ℕ → List ℕ → List ℕ → Carried
carried log base i = record { log = log; base = base; index = i }

-- of a call that only reads the base
abbrev of_kept : List ℕ → Kept → Carried
of_kept base o = carried o.log base o.index

-- of a start, which writes it
abbrev of_start : Kept → Carried
of_start o = carried o.log o.lent o.index

abbrev of_row : List ℕ → RowKept → Carried
of_row base o = carried o.log base o.index

-- of a fold, which is lent no index
abbrev of_fold : List ℕ → Outcome → Carried
of_fold i o = carried o.log o.lent i

-- what a call leaves, accepted or refused
unfoldable pub leaves : ℕ → ℕ → UnitCall → Carried → Carried
leaves archive u starts s = of_start (start_kept u s.log s.base s.index)
leaves archive u (acts w work) s = of_kept s.base (act_kept u s.log s.base s.index w work)
leaves archive u (takes b work) s = of_kept s.base (take_kept archive u s.log s.base s.index b work)
leaves archive u (takes_row row work) s = of_row s.base (take_row_kept archive u s.log s.base s.index row work)
leaves archive u (folds m work) s = of_fold s.index (fold_of u s.log s.base m work)

-- what a list of calls leaves, one after another
unfoldable pub leaves_all : ℕ → ℕ → List UnitCall → Carried → Carried
leaves_all archive u [] s = s
leaves_all archive u (c ∷ cs) s = leaves_all archive u cs (leaves archive u c s)

-- ---- bytes

abbrev pub Bytes : List ℕ → Type 0
Bytes b = (j : ℕ) → get_or b j 0 < 256

-- what a take is given is of bytes
abbrev pub Given : UnitCall → Type 0
Given starts = Unit {0}
Given (acts w work) = Unit {0}
Given (takes b work) = Bytes b
Given (takes_row row work) = Bytes row
Given (folds m work) = Unit {0}

abbrev pub AllGiven : List UnitCall → Type 0
AllGiven [] = Unit {0}
AllGiven (c ∷ cs) = Given c × AllGiven cs

-- the counts of the held vector are numbers of 16 bits
abbrev pub SmallOn : List ℕ → List ℕ → Type 0
SmallOn log base = (u : ℕ) → u < 8 → get_or (held_on log base) u 0 < 65536

-- a sound state, and the index that is made afresh from its tree
pub record Right (s : Carried) : Type 0 where
  pub good : Good s.log s.base
  pub small : SmallOn s.log s.base
  pub fresh : s.index ≡ index_of_log s.log s.base
