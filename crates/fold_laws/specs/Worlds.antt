-- The plain machine on records: what each unit has in its base and log, the records that it has folded, and the records used.
-- Assumes nothing.
use Rattle.std.specs.Prelude.{ℕ, ◌≤◌, ◌≡◌, true, cond, List, [], ◌∷◌, ◌++◌, eqb, length, take, drop}
use Rattle.model.specs.Record.{Rec, unit, well_formed}
use Rattle.model.specs.Log.{vector_on}
use Rattle.model.specs.Replay.{replay, trim}
use Rattle.base_model.specs.Base.{Base, fresh_base, is_listed}
use Rattle.call_model.specs.Outcome.{stamped, act_number, taken, takes_all}
use Rattle.call_model.specs.Fold.{counts_as_base, run_of, folded_base, list_fits}
use Rattle.log_laws.specs.Members.{Has, Sub}
use Rattle.log_laws.specs.Sound.{Sound}
use Rattle.take_laws.specs.Held.{Counts}
use Rattle.fold_laws.specs.Heard.{Made, Behind}

pub record Store : Type 0 where
  pub base : Base
  pub log : List Rec
  pub folded : List Rec  -- no part of what is lent: the records that the base stands for

abbrev pub fresh : Store
fresh = record { base = fresh_base; log = []; folded = [] }

-- all records held, folded ones with them
abbrev pub held_of : Store → List Rec
held_of s = s.folded ++ s.log

-- the vector that counts them
abbrev pub vector_held : Store → List ℕ
vector_held s = vector_on s.base.vector s.log

abbrev pub with_log : Store → List Rec → Store
with_log s l = record { base = s.base; log = l; folded = s.folded }

-- what the unit u folds by the list m
abbrev pub run : ℕ → ℕ → Store → ℕ
run u m s = run_of m u s.base.vector s.base.tree s.log

abbrev pub folded_by : ℕ → ℕ → Store → Store
folded_by u m s =
    record {
      base = folded_base m s.base.vector s.base.tree s.log (run u m s);
      log = drop (run u m s) s.log;
      folded = s.folded ++ take (run u m s) s.log;
    }

-- the record that the unit u makes of the wish w
abbrev pub made_of : ℕ → Store → List ℕ → Rec
made_of u s w = stamped u s.base.vector s.log w

pub record World : Type 0 where
  pub stores : ℕ → Store
  pub used : List Rec

-- accepted calls that change a store: starting; acting on a wish; taking the records of a block, with the log afterwards;
-- folding, with the list given
pub data Event : Type 0 where
  starts : ℕ → Event
  acts : ℕ → List ℕ → Event
  takes : ℕ → List Rec → List Rec → Event
  folds : ℕ → ℕ → Event

unfoldable pub at : Event → ℕ
at (starts u) = u
at (acts u x) = u
at (takes u rs m) = u
at (folds u m) = u

unfoldable pub changes : World → Event → Store
changes w (starts u) = fresh
changes w (acts u x) = with_log (w.stores u) ((w.stores u).log ++ (made_of u (w.stores u) x ∷ []))
changes w (takes u rs m) = with_log (w.stores u) m
changes w (folds u m) = folded_by u m (w.stores u)

unfoldable pub uses : World → Event → List Rec
uses w (starts u) = []
uses w (acts u x) = made_of u (w.stores u) x ∷ []
uses w (takes u rs m) = []
uses w (folds u m) = []

unfoldable pub put_store : (ℕ → Store) → ℕ → Store → ℕ → Store
put_store f u s x = cond (eqb x u) s (f x)

unfoldable pub after : World → Event → World
after w e = record { stores = put_store w.stores (at e) (changes w e); used = uses w e ++ w.used }

-- the answers that accept a call, of one store
abbrev pub ActAccepted : ℕ → Store → List ℕ → Type 0
ActAccepted u s x = (length x ≡ 80) × (act_number s.base.list u s.base.vector s.base.tree s.log x ≡ 0)

abbrev pub TakeAccepted : Store → List Rec → List Rec → Type 0
TakeAccepted s rs m = takes_all s.base.list s.base.vector s.log rs ≡ taken m

abbrev pub FoldAccepted : ℕ → Store → ℕ → Type 0
FoldAccepted u s m = list_fits m u (vector_held s) ≡ true

-- the call is accepted; what is taken was made by acts
abbrev pub Accepted : World → Event → Type 0
Accepted w (starts u) = Unit {0}
Accepted w (acts u x) = ActAccepted u (w.stores u) x
Accepted w (takes u rs m) = TakeAccepted (w.stores u) rs m × Sub rs w.used
Accepted w (folds u m) = FoldAccepted u (w.stores u) m

-- the world at first
abbrev pub bare : World
bare = record { stores = λ (u : ℕ). fresh; used = [] }

-- the calls es one after another
unfoldable pub play : World → List Event → World
play w [] = w
play w (e ∷ es) = play (after w e) es

-- each of them is accepted
abbrev pub AllAccepted : World → List Event → Type 0
AllAccepted w [] = Unit {0}
AllAccepted w (e ∷ es) = Accepted w e × AllAccepted (after w e) es

-- ---- the premises of the meeting rule

-- the list m names each unit that made one of the records U
abbrev pub NamesAll : ℕ → List Rec → Type 0
NamesAll m U = (r : Rec) → Has r U → is_listed m (unit r) ≡ true

-- the list of a fold does
abbrev pub Names : List Rec → Event → Type 0
Names U (starts u) = Unit {0}
Names U (acts u x) = Unit {0}
Names U (takes u rs m) = Unit {0}
Names U (folds u m) = NamesAll m U

-- each list does
abbrev pub Naming : List Rec → List Event → Type 0
Naming U [] = Unit {0}
Naming U (e ∷ es) = Names U e × Naming U es

-- the vector of the unit b does not fall: only a start could make it
abbrev pub Keeps : ℕ → World → Event → Type 0
Keeps b w (starts u) = u ≡ b → held_of (w.stores u) ≡ []
Keeps b w (acts u x) = Unit {0}
Keeps b w (takes u rs m) = Unit {0}
Keeps b w (folds u m) = Unit {0}

-- it never does
abbrev pub Keeping : ℕ → World → List Event → Type 0
Keeping b w [] = Unit {0}
Keeping b w (e ∷ es) = Keeps b w e × Keeping b (after w e) es

-- ---- what holds of every store that calls leave

pub record Kept (used : List Rec) (s : Store) : Type 0 where
  pub sound : Sound (held_of s)
  pub counts : Counts s.base.vector s.folded
  pub based : s.base.tree ≡ trim (replay s.folded)
  pub from : Sub (held_of s) used
  pub few : length s.log ≤ 512
  pub listed : NamesAll s.base.list (held_of s)
  pub rows : counts_as_base s.base.tree [] 0 ≡ true

pub record Inv (w : World) : Type 0 where
  pub kept : (u : ℕ) → Kept w.used (w.stores u)
  pub formed : (r : Rec) → Has r w.used → well_formed r ≡ true
  pub made : (r : Rec) → Has r w.used → Made w.used r

-- what the unit u has folded, every other unit that made one of the records U has heard of
abbrev pub BackAt : List Rec → ℕ → Store → Type 0
BackAt U u s = (q : Rec) → Has q s.folded → Behind u U (held_of s) q

abbrev pub Back : List Rec → World → Type 0
Back U w = (u : ℕ) → BackAt U u (w.stores u)

-- the unit b holds all of these records that it made
abbrev pub OwnAt : List Rec → ℕ → Store → Type 0
OwnAt used b s = (r : Rec) → Has r used → unit r ≡ b → Has r (held_of s)

abbrev pub Own : ℕ → World → Type 0
Own b w = OwnAt w.used b (w.stores b)
