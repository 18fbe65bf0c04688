-- A cause and a step's answer with the unfolded condition in place of the table's.
use Prim.Native.Nat.{ℕ}
use mathlib.Core.Path.{◌≡◌, refl, subst}
use mathlib.Core.Option.{Option, none, some}
use lib.Dec.{T}
use Rattle.lists.specs.Lists.{mem}
use Rattle.model.specs.Net.{Net, Stop, unknown, lacks, meets}
use Rattle.model.specs.Numbering.{condition_number}
use Rattle.refusal.specs.declared.TableCondition.{TableCondition}
use Rattle.stopping.specs.Table.{Cause, Step}
use Rattle.stopping.specs.declared.Cause.TheVariants.{Unknown, Lacks, Meets}
use Rattle.std.specs.Prelude.{Err}
use Rattle.stopping.specs.Causes.{goes}
use Rattle.stopping.specs.declared.Cause.TheVariants as unfolded
use Rattle.stopping.specs.Table as table
use Rattle.stopping.specs.Unfolded.{step_of}
use Rattle.decided.specs.Decided.{Picks, lacked_condition, met_condition, unfolded_stop}
use Rattle.located.specs.Located.{said_by, stop_of, Left, Named, Told}

-- what an answer says is what it was made of
pub said_back : (o : Option Stop) → stop_of (table.step_of o) ≡ o
said_back none = refl
said_back (some unknown) = refl
said_back (some (lacks b)) = refl
said_back (some (meets b)) = refl

module _ (n : Net) (pick : Picks) (e : ℕ) where
  -- ---- what a cause names

  pub names_lacked : {x : Cause} {b : TableCondition} → x ≡ Lacks b → Named n pick e x → T (mem b.0 (n.preconditions e))
  names_lacked z t = subst (Named n pick e) z t

  pub names_met : {x : Cause} {b : TableCondition} → x ≡ Meets b → Named n pick e x → T (mem b.0 (n.postconditions e)) × Left n pick e b.0
  names_met z t = subst (Named n pick e) z t

  pub told_stops : {r : Step} {x : Cause} → r ≡ Err x → Told n pick e r → Told n pick e (Err x)
  told_stops z t = subst (Told n pick e) z t

  -- ---- the answers

  pub unknown_there : {x : Cause} → x ≡ Unknown → Err unfolded.Unknown ≡ step_of (unfolded_stop n pick e (some (said_by x)))
  unknown_there z = rw z

  pub lacked_there : {x : Cause} {b : TableCondition} {k : ℕ} → x ≡ Lacks b → k ≡ condition_number n (lacked_condition n pick e b.0)
      → Err (unfolded.Lacks (record { 0 = k })) ≡ step_of (unfolded_stop n pick e (some (said_by x)))
  lacked_there z h = rw (z, h)

  pub met_there : {x : Cause} {b : TableCondition} {k : ℕ} → x ≡ Meets b → k ≡ condition_number n (met_condition n pick e b.0)
      → Err (unfolded.Meets (record { 0 = k })) ≡ step_of (unfolded_stop n pick e (some (said_by x)))
  met_there z h = rw (z, h)

  pub goes_there : {r : Step} → r ≡ goes → goes ≡ step_of (unfolded_stop n pick e (stop_of r))
  goes_there z = rw z
