-- A round beside a bench of the plain machine: the same logs, and every record made by one act.
-- Assumes nothing.
use Prim.Native.Nat.{ℕ, ◌+◌, ◌≤◌, ◌<◌, max}
use native.Mathlib.Omega.{arith}
use mathlib.Core.Path.{◌≡◌, refl, sym, ap, subst, ◌∙◌}
use mathlib.Core.Logic.{⊎_elim}
use mathlib.Core.Bool.{true}
use mathlib.Core.List.{List, [], ◌++◌}
use lib.ListN.{length, replicate}
use Rattle.model.specs.Record.{Rec, unit, num}
use Rattle.model.specs.Log.{sum_to, count, vector_of, records_of, log_bytes, lacking}
use Rattle.base_model.specs.Base.{empty_base, base_vector}
use Rattle.byte_slice.proofs.Numbers.{lt_or_ge}
use Rattle.log_laws.specs.Members.{Has, Sub, Agree}
use Rattle.log_laws.specs.Sound.{Sound}
use Rattle.log_laws.proofs.Formed.{well_unit}
use Rattle.log_laws.proofs.Sums.{sum_to-le}
use Rattle.log_laws.proofs.Counts.{count-nil, find_held, length-counts}
use Rattle.log_laws.proofs.Lacking.{union-length}
use Rattle.encoding_laws.proofs.Logs.{sound_few, sound_bytes_on}
use Rattle.call_laws.proofs.States.{good_log}
use Rattle.machine.specs.Machine.{Bench, bare, held}
use Rattle.machine.specs.Claim.{distinct}
use Rattle.machine.proofs.Reach.{Inv, inv_bare, held_used, used_agree}
use Rattle.machine.proofs.Converge.{held_sound}
use Rattle.plan_model.specs.Plan.{Round, new_round, log_at}
use Rattle.plan_units.specs.Units.{Units}
use Rattle.plan_units.proofs.Logs.{log_new, units_new}

-- n blocks were given
pub record Sim (archive : ℕ) (s : Round) (n : ℕ) (t : Bench) : Type 0 where
  pub units : Units s.logs
  pub inv : Inv archive t
  pub logs : (u : ℕ) → u < 8 → t.logs u ≡ log_at s.logs u
  pub bases : (u : ℕ) → t.bases u ≡ empty_base
  pub folded : (u : ℕ) → t.folded u ≡ []
  pub given : length t.given ≡ n
  pub once : distinct t.used ≡ true
  pub made : length t.used ≡ s.made
  pub few : s.made ≤ 512
  -- no number is above how many records its unit made, and these its unit holds
  pub own : (r : Rec) → Has r t.used → num r ≤ count (unit r) t.used
  pub mine : (u : ℕ) → u < 8 → count u t.used ≤ count u (records_of (t.logs u))

-- all eight are empty
pub sim_bare : (archive : ℕ) → Sim archive new_round 0 bare
unfolding distinct
sim_bare archive =
    record {
      units = units_new;
      inv = inv_bare archive;
      logs = λ u h. sym (log_new u h);
      bases = λ u. refl;
      folded = λ u. refl;
      given = refl;
      once = refl;
      made = refl;
      few = omega arith;
      own = λ r i. absurd i;
      mine = λ u h. omega (arith, count-nil u);
    }

module _ (archive : ℕ) (s : Round) (n : ℕ) (t : Bench) (sim : Sim archive s n t) where
  held_is : (u : ℕ) → held t u ≡ records_of (t.logs u)
  unfolding held
  held_is u = ap (λ (p : List Rec). p ++ records_of (t.logs u)) (sim.folded u)

  pub log_sound : (u : ℕ) → Sound (records_of (t.logs u))
  log_sound u = subst Sound (held_is u) (held_sound archive t sim.inv u)

  pub log_used : (u : ℕ) → Sub (records_of (t.logs u)) t.used
  log_used u r h = held_used archive t sim.inv u r (subst (Has r) (sym (held_is u)) h)

  pub logs_agree : (u v : ℕ) → Agree (records_of (t.logs u)) (records_of (t.logs v))
  logs_agree u v = used_agree t.used sim.once (records_of (t.logs u)) (records_of (t.logs v)) (log_used u) (log_used v)

  pub log_few : (u : ℕ) → length (records_of (t.logs u)) ≤ 512
  log_few u = sound_few (t.logs u)

  pub log_back : (u : ℕ) → log_bytes (records_of (t.logs u)) ≡ t.logs u
  log_back u =
      let g = sim.inv.good u in
      sound_bytes_on (base_vector (t.bases u)) (t.logs u) g.long.0 (good_log (t.logs u) (t.bases u) g)

  -- no unit holds more records of another than that has made
  pub most : (u v : ℕ) → count v (records_of (t.logs u)) ≤ count v t.used
  most u v =
      let l : List Rec = records_of (t.logs u) in
      ⊎_elim
      (λ (z : 0 < count v l).
      let (r, i, a, b) = find_held l v (count v l) (log_sound u) z (omega arith) in
      let k : num r ≤ count v t.used = subst (λ (x : ℕ). num r ≤ count x t.used) a (sim.own r (log_used u r i)) in
      omega (arith, b))
      (λ (z : count v l ≤ 0). omega arith)
      (lt_or_ge 0 (count v l))

  -- so what two hold together fits a log
  pub together : (a b : ℕ) → length (lacking (vector_of (records_of (t.logs b))) (records_of (t.logs a))) + length (records_of (t.logs b)) ≤ 512
  together a b =
      let A : List Rec = records_of (t.logs a) in
      let B : List Rec = records_of (t.logs b) in
      let k = sum_to-le 8 (λ u. max (count u A) (count u B)) (λ u. count u t.used) (λ u _. omega (arith, most a u, most b u)) in
      let l = length-counts t.used (λ r i. well_unit r (sim.inv.stored.formed r i)) in
      omega (arith, union-length A B (log_sound a) (log_sound b), sim.made, sim.few)
