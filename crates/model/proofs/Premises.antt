-- The premises of the theorems can be met: each theorem is used here on one of the small nets, so that none speaks of nothing.
use mathlib.Core.Path.{◌≡◌, refl}
use mathlib.Core.Bool.{false}
use mathlib.Core.Option.{none, some}
use mathlib.Core.List.Memᴰ
use mathlib.Core.List.{[], ◌∷◌}
use Prim.Native.Nat.{ℕ}
use lib.Dec.{T}
use lib.ListN.{get_elem?}
use Rattle.lists.specs.Lists.{mem, ◌∈◌}
use Rattle.model.specs.Net.{Sound, Marking, begin, meets, stopping}
use Rattle.model.specs.Runs.{runs, end, by_event}
use Rattle.model.specs.Unfolding.{copy, unfolded_conditions, reads, unfolded_events, picked, origin, basic}
use Rattle.model.specs.Numbering.{number}
use Rattle.model.specs.Exchange.{exchanged}
use Rattle.model.specs.Across.{other, run, refusal, too_long, within, unfolding_refused, own_or_earliest, lift, read_back, project, exchange}
use Rattle.model.specs.Stopped.{StoppedBy}
use Rattle.model.specs.Demands.{Lifts, Projects, holds_after, Exchanged}
use Rattle.model.specs.Readings.{FirstAgain, Reading, Unread}
use Rattle.model.specs.Examples.{◌↝◌, net, one, two, three, four, net_a, net_b, net_c, net_d, net_e, net_r, net_l}
use Rattle.model.proofs.Soundness.{sound, sound_of}
use Rattle.model.proofs.Stopped.{stopping_exactly}
use Rattle.model.proofs.Counts.{number_back}
use Rattle.model.proofs.Limits.{Idlest, refused_13, refused_14}
use Rattle.model.proofs.Readings.{forced}
use Rattle.model.proofs.Demands.{lift_lifts, lift_again, lift_read, lift_unread, lift_unread_at, project_projects, lift_project, unfolded_marking, exchange_exchanged, exchange_not_apart, exchange_lifts}

-- ---- soundness of the nets

pub sound_a : Sound (net_a (one 0))
unfolding net_a net one two four sound
sound_a = sound_of (net_a (one 0)) tt

pub sound_b : Sound net_b
unfolding net_b net one two sound
sound_b = sound_of net_b tt

pub sound_c : Sound net_c
unfolding net_c net one sound
sound_c = sound_of net_c tt

pub sound_d : Sound net_d
unfolding net_d net one sound
sound_d = sound_of net_d tt

pub sound_e : Sound (net_e (two 0 1))
unfolding net_e net one two three sound
sound_e = sound_of (net_e (two 0 1)) tt

-- ---- which condition stopped it

pub both_hold : Marking
unfolding two
both_hold = λ b. mem b (two 0 1)

contact_a : stopping (net_a (one 0)) both_hold 0 ≡ some (meets 1)
unfolding stopping both_hold net_a one two four net
contact_a = refl

-- Where conditions 0 and 1 of net A hold, 1 is the lowest on which its event 0 is in contact.
pub stopped_a : StoppedBy (net_a (one 0)) both_hold 0 (meets 1)
stopped_a = (stopping_exactly (net_a (one 0)) both_hold 0 sound_a (meets 1)).0 contact_a

-- ---- demand 2

lift_a : lift (net_a (one 0)) (four 0 1 2 1) ≡ run (four 0 2 3 2)
unfolding lift net_a one two four net
lift_a = refl

pub lifts_a : Lifts (net_a (one 0)) (four 0 1 2 1) (four 0 2 3 2)
lifts_a = lift_lifts (net_a (one 0)) (four 0 1 2 1) (four 0 2 3 2) lift_a

pub back_a : project (net_a (one 0)) (four 0 2 3 2) ≡ run (four 0 1 2 1)
back_a = lift_project (net_a (one 0)) (four 0 1 2 1) (four 0 2 3 2) lift_a

pub projects_a : Projects (net_a (one 0)) (four 0 2 3 2) (four 0 1 2 1)
projects_a = project_projects (net_a (one 0)) sound_a (four 0 2 3 2) (four 0 1 2 1) back_a

two_short : too_long (two 0 0) ≡ none
unfolding too_long two
two_short = refl

unfolds_b : unfolding_refused net_b ≡ none
unfolding unfolding_refused net_b net one two
unfolds_b = refl

again_b : lift net_b (two 0 0) ≡ refusal (other 15 1)
unfolding lift net_b one two net
again_b = refl

-- Net B's event 0 comes twice and marks what event 1 uses, first at step 1.
pub twice_b : FirstAgain net_b (two 0 0) 1
twice_b = ((lift_again net_b (two 0 0) two_short unfolds_b 1).0 again_b).1

-- No run of the unfolded net reads back as net B's run, and none goes past step 1.
pub none_reads_b : Reading net_b (two 0 0) → ⊥
none_reads_b = ((lift_unread net_b (two 0 0) two_short unfolds_b sound_b).0 (1, again_b)).1

pub unread_b : Unread net_b (two 0 0) 1
unread_b = ((lift_unread_at net_b (two 0 0) two_short unfolds_b sound_b 1).0 again_b).1

unfolds_c : unfolding_refused net_c ≡ none
unfolding unfolding_refused net_c net one
unfolds_c = refl

lift_c : lift net_c (two 0 0) ≡ run (two 0 1)
unfolding lift net_c one two net
lift_c = refl

-- One reads back as net C's run, and its second step picks event 0 itself.
pub reading_c : Reading net_c (two 0 0)
reading_c = (lift_read net_c (two 0 0) two_short unfolds_c sound_c).0 (two 0 1, lift_c)

again_c : (b : ℕ) → b ∈ reads net_c (origin net_c 1).event → T (mem b (net_c.postconditions (origin net_c 1).event))
    → T (picked (reads net_c (origin net_c 1).event) (origin net_c 1).colour b (by_event (origin net_c 1).event))
unfolding two one read_back net_c net origin
again_c b = forced net_c sound_c (two 0 1) (lift_lifts net_c (two 0 0) (two 0 1) lift_c).run (one 0) 1 [] refl tt b

pub itself_c : T (picked (reads net_c 0) (origin net_c 1).colour 0 (by_event 0))
unfolding one net_c net origin reads
itself_c = again_c 0 (Memᴰ.head refl) tt

-- A copy holds at the end of net A's lifted run exactly if its marker has marked it.
pub marking_a : (b : ℕ) → get_elem? (unfolded_conditions (net_a (one 0))) b ≡ some (copy 2 (by_event 0) 1)
    → end (basic (net_a (one 0))) (begin (basic (net_a (one 0)))) (four 0 2 3 2) b ≡ holds_after (net_a (one 0)) (read_back (net_a (one 0)) (four 0 2 3 2)) (copy 2 (by_event 0) 1)
marking_a b h = unfolded_marking (net_a (one 0)) sound_a (four 0 2 3 2) lifts_a.run b (copy 2 (by_event 0) 1) h

-- ---- demand 3

exchange_e : exchange (net_e (three 0 1 2)) (three 0 1 2) 0 ≡ run (three 1 0 2)
unfolding exchange net_e one three net
exchange_e = refl

lift_e : lift (net_e (three 0 1 2)) (three 0 1 2) ≡ run (three 0 1 2)
unfolding lift net_e one three net
lift_e = refl

pub exchanged_e : Exchanged (net_e (three 0 1 2)) (own_or_earliest (net_e (three 0 1 2))) (three 0 1 2) 0
exchanged_e = (exchange_exchanged (net_e (three 0 1 2)) (three 0 1 2) 0 (three 1 0 2) exchange_e).1

pub lifted_e : lift (net_e (three 0 1 2)) (three 1 0 2) ≡ run (exchanged 0 (three 0 1 2))
lifted_e = (exchange_lifts (net_e (three 0 1 2)) (three 0 1 2) 0 (three 1 0 2) exchange_e (three 0 1 2)).0 lift_e

not_apart_r : exchange net_r (two 0 1) 0 ≡ refusal (other 17 0)
unfolding exchange net_r one two three net
not_apart_r = refl

-- Net R's steps are a run and are refused for the one premise that the second reads what the first marked.
pub runs_r : T (runs net_r (begin net_r) (two 0 1))
unfolding two too_long
runs_r = ((exchange_not_apart net_r (two 0 1) 0 refl).0 not_apart_r).0

-- ---- the numbering, 13 and 14

behind_d : get_elem? (unfolded_events net_d) 1034 ≡ some (record { event = 11; colour = [] })
unfolding net_d one net unfolded_events
behind_d = refl

pub number_d : number net_d (record { event = 11; colour = [] }) ≡ 1034
number_d = number_back net_d 1034 (record { event = 11; colour = [] }) behind_d

refused_l : unfolding_refused (net_l (one 1) (([] ↝ one 15) ∷ [])) ≡ some (other 13 27)
unfolding unfolding_refused net_l one net
refused_l = refl

pub idle_l : Idlest (net_l (one 1) (([] ↝ one 15) ∷ [])) 27
idle_l = (refused_13 (net_l (one 1) (([] ↝ one 15) ∷ [])) 27).0 refused_l

over_l : unfolding_refused (net_l (one 0) (([] ↝ one 15) ∷ [])) ≡ some (other 14 0)
unfolding unfolding_refused net_l one net
over_l = refl

pub past_l : within (net_l (one 0) (([] ↝ one 15) ∷ [])) ≡ false
past_l = ((refused_14 (net_l (one 0) (([] ↝ one 15) ∷ []))).0 over_l).1
