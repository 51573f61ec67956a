-- What a tree is that any run of records leaves: its identities, the records that it names, its labels, its ways to the root.
-- Assumes nothing.
use Rattle.std.specs.Prelude.{ℕ, ◌≤◌, ◌≡◌, true, ◌⊎◌, List, get_or, length}
use Rattle.model.specs.Bytes.{word, blank}
use Rattle.model.specs.Date.{is_date}
use Rattle.model.specs.Record.{root, unit_of, number_of, is_label}
use Rattle.model.specs.Replay.{Entry, Aside, Tree, is_present, same_label}
use Rattle.log_laws.proofs.Members.{All}
use Rattle.tree_laws.specs.Replayed.{Has, Distinct, makers, whos}
use Rattle.tree_laws.specs.Roots.{Rooted}

-- of the identities of entries and of asides none stands twice, and none is in both
pub record Lone (ms ws : List ℕ) : Type 0 where
  pub entries_once : Distinct ms
  pub asides_once : Distinct ws
  pub not_both : (k : ℕ) → Has k ws → Has k ms → ⊥

-- two present entries of one folder and label are one
abbrev pub OneLabel : List Entry → Type 0
OneLabel es =
    (e x : Entry) → Has e es → Has x es → is_present e ≡ true → is_present x ≡ true → x.inside ≡ e.inside → same_label x.label e.label ≡ true
    → e ≡ x

-- the identity k has a number of at least 1 and within the vector
abbrev pub NamedIn : List ℕ → ℕ → Type 0
NamedIn v k = (1 ≤ number_of k) × (number_of k ≤ get_or v (unit_of k) 0)

-- the root, which as a mark is none, or named
abbrev pub NamedOrNone : List ℕ → ℕ → Type 0
NamedOrNone v k = (k ≡ root) ⊎ NamedIn v k

-- the row of an entry, removed or not
pub record EntryFits (v : List ℕ) (e : Entry) : Type 0 where
  pub a_kind : e.kind ≤ 2
  pub own_named : NamedIn v e.made
  pub folder_named : NamedOrNone v e.inside
  pub contents_named : NamedIn v e.contents
  pub placing_named : NamedIn v e.placing
  pub real_date : is_date (word e.date 0) (get_or e.date 2 0) (get_or e.date 3 0) ≡ true
  pub a_label : is_label e.label ≡ true
  pub unmarked : e.kind ≡ 1 → blank e.mark ≡ true
  pub date_length : length e.date ≡ 4
  pub label_length : length e.label ≡ 32
  pub mark_length : length e.mark ≡ 16

-- the row of an aside
pub record AsideFits (v : List ℕ) (a : Aside) : Type 0 where
  pub who_named : NamedIn v a.who
  pub a_reason : ((12 ≤ a.reason) × (a.reason ≤ 18)) ⊎ (a.reason ≡ 25)
  pub mark_named : NamedOrNone v a.marked

-- a tree on the vector v of the records that left it
pub record SoundTree (v : List ℕ) (t : Tree) : Type 0 where
  pub lone : Lone (makers t.entries) (whos t.asides)
  pub rooted : Rooted t.entries
  pub one_label : OneLabel t.entries
  pub entries_fit : All (EntryFits v) t.entries
  pub asides_fit : All (AsideFits v) t.asides
