-- What the call answers and leaves, and what is known of a table before its bytes are written.
use Prim.Native.Nat.{ℕ, ◌≤◌, ◌<◌}
use mathlib.Core.Path.{◌≡◌, sym, ap, ap₂, ◌∙◌, subst}
use mathlib.Core.Bool.{true, false}
use mathlib.Core.List.{List, ◌++◌}
use lib.ListN.{length, drop}
use Rattle.model.specs.Net.{Net}
use Rattle.model.specs.Lent.{bytes}
use Rattle.model.proofs.Lent.{length_bytes}
use Rattle.refusal.specs.declared.Refusal.{Refusal}
use Rattle.refusal.specs.Answer.{Judged, refused_at, and_then, fitting, written}
use Rattle.std.specs.Prelude.{Ok, Err}
use Rattle.refusal.proofs.Chain.{fitting_room, fitting_short}
use Rattle.table.specs.Walk.{judge_of}
use Rattle.table.specs.Decoded.{net_of}
use Rattle.table.proofs.Decoded.{net_judged, events_are_all}
use Rattle.table.proofs.Sound.{tabled}
use Rattle.tally.specs.Having.{Tally}
use Rattle.colours.specs.Colours.{flagged}
use Rattle.repeats.specs.Repeats.{Used, Once}
use Rattle.losses.specs.Losses.{lossy}
use Rattle.losses.specs.Calls.{lossy_of, lossy_into}
use Rattle.losses.specs.Tests.{Known}

-- ---- the answer

-- what the call must answer and leave
abbrev Answered : List ℕ → List ℕ → Judged → List ℕ → Type 0
Answered s out r after = (r ≡ lossy_of s (length out)) × (after ≡ lossy_into s out)

module _ (s out : List ℕ) where
  pub table_refused : (r : Judged) (x : Refusal) → r ≡ judge_of s → r ≡ Err x → Answered s out r out
  unfolding lossy_of lossy_into
  table_refused r x e t = let told : judge_of s ≡ Err x = sym e ∙ t in (t ∙ sym (rw told), rw told)

  module _ (k : ℕ) (j : judge_of s ≡ Ok k) where
    by_room : lossy_of s (length out) ≡ fitting k (length out)
    unfolding lossy_of
    by_room =
        ap (λ (x : Judged). and_then x (λ n. fitting (net_of s).events (length out))) j
        ∙ ap (λ (x : ℕ). fitting x (length out)) (sym (events_are_all s k j))

    pub no_room : (r : Judged) → length out < k → r ≡ refused_at 16 k → Answered s out r out
    unfolding lossy_into
    no_room r h e = let short = by_room ∙ fitting_short k (length out) h in (e ∙ sym short, rw short)

    pub all_written : k ≤ length out → (after : List ℕ) → after ≡ bytes k (lossy (net_of s)) ++ drop k out → Answered s out (Ok k) after
    unfolding lossy_into
    all_written h after e =
        let fits = by_room ∙ fitting_room k (length out) h in
        let long = length_bytes k (lossy (net_of s)) in
        let whole : after ≡ written (Ok k) (bytes k (lossy (net_of s))) out
        = e ∙ ap (λ (x : ℕ). bytes k (lossy (net_of s)) ++ drop x out) (sym long) in
        (sym fits, whole ∙ ap₂ (λ (x : Judged) (c : ℕ). written x (bytes c (lossy (net_of s))) out) (sym fits) (events_are_all s k j))

-- ---- what is known of an accepted table

module _ (s : List ℕ) (k : ℕ) (j : judge_of s ≡ Ok k) where
  flags_are : (b : ℕ) → flagged s b ≡ (net_of s).persistent b
  flags_are b = sym (ap (λ (n : Net). n.persistent b) (net_judged s (Ok k) j))

  pub used : (users : List ℕ) → Tally (net_of s) false 0 k users → Used s users
  used users t =
      record { limits = tabled s k j; flags = flags_are; uses = subst (λ (x : ℕ). Tally (net_of s) false 0 x users) (events_are_all s k j) t }

  pub known : (once puts : List ℕ) → Once (net_of s) once → Tally (net_of s) true 0 k puts → Known s k once puts
  known once puts o t = record { limits = tabled s k j; flags = flags_are; counted = events_are_all s k j; marks = o; putting = t }
