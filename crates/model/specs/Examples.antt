-- The worked examples: small nets, and tables of lines that each ask something of a net and give the answer.
use Rattle.std.specs.Prelude.{Bool, true, false, ◌&&◌, cond, eqb, ltb, length, get_or, replicate}
use Rattle.std.proofs.Math.Option.{Option, none, some}
use mathlib.Core.List.{List, [], ◌∷◌, ◌++◌, map}
use Prim.Native.Nat.{ℕ, ◌+◌, ◌-◌}
use Rattle.lists.specs.Lists.{mem, all, same, count}
use Rattle.model.specs.Net.{Net, Marking, begin, fire, Stop, stop_number, stop_condition, stop_place, stopping}
use Rattle.model.specs.Runs.{Marker, at_start, by_event, opening, Played, ends, refused, replay}
use Rattle.model.specs.Unfolding.{origin, basic}
use Rattle.model.specs.Numbering.{number}
use Rattle.model.specs.Across.{Refusal, number_of, place_of, by_of, Answer, run, refusal, unfolding_refused, lift, project, exchange}

-- ---- nets, written as the requirements write them

-- An event as a row, its preconditions and its postconditions (01, Nets to test with).
pub record Row : Type 0 where
  pub before : List ℕ
  pub after : List ℕ

infix 60 ◌↝◌
-- A row is written pre ↝ post (01, Nets to test with).
abbrev pub ◌↝◌ : List ℕ → List ℕ → Row
a ↝ z = record { before = a; after = z }

-- A net from the kinds of its conditions (0 ordinary, 1 persistent), its rows and its start, at rule 0 (01, Nets to test with).
unfoldable pub net : List ℕ → List Row → List ℕ → Net
net kinds rows s =
    record {
      conditions = length kinds;
      persistent = λ b. eqb (get_or kinds b 0) 1;
      old = λ b. false;
      events = length rows;
      preconditions = λ e. (get_or rows e ([] ↝ [])).before;
      postconditions = λ e. (get_or rows e ([] ↝ [])).after;
      start = s;
    }

-- The same net at rule 1 (02, No. 4).
unfoldable pub under_old : Net → Net
under_old n =
    record {
      conditions = n.conditions;
      persistent = n.persistent;
      old = λ b. true;
      events = n.events;
      preconditions = n.preconditions;
      postconditions = n.postconditions;
      start = n.start;
    }

-- Lists of one, two, three and four numbers.
unfoldable pub one : ℕ → List ℕ
one x = x ∷ []

unfoldable pub two : ℕ → ℕ → List ℕ
two x y = x ∷ y ∷ []

unfoldable pub three : ℕ → ℕ → ℕ → List ℕ
three x y z = x ∷ y ∷ z ∷ []

unfoldable pub four : ℕ → ℕ → ℕ → ℕ → List ℕ
four x y z w = x ∷ y ∷ z ∷ w ∷ []

-- Net A, for a start that is given (01, Nets to test with).
unfoldable pub net_a : List ℕ → Net
unfolding net one two four
net_a s = net (four 0 0 1 0) ((one 0 ↝ two 1 2) ∷ (two 1 2 ↝ one 3) ∷ (one 3 ↝ one 1) ∷ []) s

-- Net B, whose event 0 gives back what it takes (01, Nets to test with).
unfoldable pub net_b : Net
unfolding net one two
net_b = net (two 0 1) ((one 0 ↝ two 0 1) ∷ (one 1 ↝ []) ∷ []) (one 0)

-- Net C, one event that reads and marks one persistent condition (01, Nets to test with).
unfoldable pub net_c : Net
unfolding net one
net_c = net (one 1) ((one 0 ↝ one 0) ∷ []) (one 0)

-- Net D, whose numbers pass ten bits (01, Nets to test with).
unfoldable pub net_d : Net
unfolding net one
net_d =
    net (map (λ k. cond (ltb k 10) 1 0) (count 0 21))
    (map (λ k. one (10 + k) ↝ one k) (count 0 10) ++ (count 0 10 ↝ one 20) ∷ (one 20 ↝ []) ∷ [])
    (count 10 10)

-- Net E, where two events mark one condition, for a start that is given (01, Nets to test with).
unfoldable pub net_e : List ℕ → Net
unfolding net one three
net_e s = net (three 0 0 1) ((one 0 ↝ one 2) ∷ (one 1 ↝ one 2) ∷ (one 2 ↝ []) ∷ []) s

-- Net R, where the second event reads what the first marks, and they share nothing ordinary.
unfoldable pub net_r : Net
unfolding net one two three
net_r = net (three 0 0 1) ((one 0 ↝ one 2) ∷ (two 1 2 ↝ []) ∷ []) (two 0 1)

-- Net Q, which is net R for a start that is given.
unfoldable pub net_q : List ℕ → Net
unfolding net one two three
net_q s = net (three 0 0 1) ((one 0 ↝ one 2) ∷ (two 1 2 ↝ []) ∷ []) s

-- Net O, whose event 1 alone uses conditions 0 and 1, of which it marks the first, and also marks condition 2, which nobody uses.
unfoldable pub net_o : Net
unfolding net two three
net_o = net (three 1 1 1) (([] ↝ two 0 1) ∷ (two 0 1 ↝ two 0 2) ∷ []) []

-- Net U, whose event marks a persistent condition that nobody uses.
unfoldable pub net_u : Net
unfolding net one two
net_u = net (two 0 1) ((one 0 ↝ two 0 1) ∷ []) (one 0)

-- Net S, where two preconditions, or a persistent and two ordinary postconditions, may stop an event at once.
unfoldable pub net_s : Net
unfolding net one two three four
net_s = net (four 1 0 0 0) ((two 1 2 ↝ []) ∷ ([] ↝ three 0 2 3) ∷ []) []

-- Net K, whose event 0 keeps condition 0, reads the persistent condition 2 and puts condition 1, which event 1 takes.
unfoldable pub net_k : Net
unfolding net one two three
net_k = net (three 0 0 1) ((two 0 2 ↝ two 0 1) ∷ (one 1 ↝ one 2) ∷ []) (two 0 2)

-- The net at the limit of unfolded events, with further conditions and rows that are given: the conditions are numbered from
-- 15 on, the events from 27 on (01, Nets to test with: limits).
unfoldable pub net_l : List ℕ → List Row → Net
unfolding net one
net_l kinds rows =
    net (replicate 15 1 ++ kinds) (map (λ k. [] ↝ one k) (count 0 15) ++ (map (λ k. count 0 (15 - k) ↝ []) (count 0 12) ++ rows)) []

-- A net at the limit of unfolded conditions, with so many ordinary conditions more: 255 events read two persistent conditions
-- and mark the first.
unfoldable pub net_w : ℕ → Net
unfolding net one two
net_w c = net (1 ∷ 1 ∷ replicate c 0) (replicate 255 (two 0 1 ↝ one 0)) []

-- ---- answers compared

-- Two lists are the same.
unfoldable pub same_list : List ℕ → List ℕ → Bool
same_list [] [] = true
same_list [] (y ∷ ys) = false
same_list (x ∷ xs) [] = false
same_list (x ∷ xs) (y ∷ ys) = eqb x y && same_list xs ys

-- A marking of so many conditions is the list.
unfoldable pub same_marking : ℕ → Marking → List ℕ → Bool
same_marking c m l = all (λ b. same (m b) (mem b l)) (count 0 c)

-- An answer is this run.
unfoldable pub is_run : Answer → List ℕ → Bool
unfolding same_list
is_run (run w) l = same_list w l
is_run (refusal x) l = false

-- Two conditions that stopped a step are the same, or there is none either time.
abbrev pub same_by : Option ℕ → Option ℕ → Bool
same_by none none = true
same_by none (some d) = false
same_by (some b) none = false
same_by (some b) (some d) = eqb b d

-- An answer is the refusal with this number, place and condition.
unfoldable pub is_refusal : Answer → ℕ → ℕ → Option ℕ → Bool
is_refusal (run w) x k b = false
is_refusal (refusal y) x k b = eqb (number_of y) x && (eqb (place_of y) k && same_by (by_of y) b)

-- A replay ends in the conditions of the list.
unfoldable pub is_end : Net → Played → List ℕ → Bool
unfolding same_marking
is_end n (ends s) l = same_marking n.conditions s.marking l
is_end n (refused v k) l = false

-- A replay is refused with this number at this step, by this condition.
unfoldable pub is_stop : Played → ℕ → ℕ → Option ℕ → Bool
is_stop (ends s) x k b = false
is_stop (refused v i) x k b = eqb (stop_number v) x && (eqb i k && same_by (stop_condition v) b)

-- A firing is refused with this number and place, which are 0 where there is concession.
unfoldable pub firing_is : Option Stop → ℕ → ℕ → Bool
firing_is none x k = eqb 0 x && eqb 0 k
firing_is (some v) x k = eqb (stop_number v) x && eqb (stop_place v) k

-- An unfolding is refused with this number and place.
unfoldable pub refused_is : Option Refusal → ℕ → ℕ → Bool
refused_is none x k = false
refused_is (some y) x k = eqb (number_of y) x && eqb (place_of y) k

-- ---- lines

-- A line asks something of a net and gives the answer (01, Nets to test with).
pub data Line : Type 0 where
  counts : Net → ℕ → ℕ → Line  -- unfolded conditions and events
  lists : Net → ℕ → List ℕ → List ℕ → Line  -- an unfolded event's preconditions and postconditions
  behind : Net → ℕ → ℕ → Line  -- an unfolded event's number, and the event behind it
  numbered : Net → ℕ → List Marker → ℕ → Line  -- an event and its markers, and their number
  unfolded : Net → Line  -- the table unfolds
  not_unfolded : Net → ℕ → ℕ → Line  -- the table does not unfold: refusal and place
  stops : Net → List ℕ → ℕ → ℕ → ℕ → Line  -- marking, event, refusal and place (0: concession)
  fires : Net → List ℕ → ℕ → List ℕ → Line  -- marking, event, marking after
  plays : Net → List ℕ → List ℕ → Line  -- run, end
  not_played : Net → List ℕ → ℕ → ℕ → Option ℕ → Line  -- list, refusal, step, condition
  lifts : Net → List ℕ → List ℕ → List ℕ → Line  -- run, lifted run, its end in the unfolded net
  not_lifted : Net → List ℕ → ℕ → ℕ → Option ℕ → Line  -- run, refusal, place, condition
  projects : Net → List ℕ → List ℕ → Line  -- unfolded run, run
  not_projected : Net → List ℕ → ℕ → ℕ → Option ℕ → Line  -- unfolded list, refusal, place, unfolded condition
  exchanges : Net → List ℕ → ℕ → List ℕ → Line  -- run, step, run with the two steps exchanged
  not_exchanged : Net → List ℕ → ℕ → ℕ → ℕ → Option ℕ → Line  -- run, step, refusal, place, condition

-- The answer that the definitions give is the line's.
unfoldable pub passes : Line → Bool
unfolding basic origin number stopping fire replay opening lift project exchange unfolding_refused begin same_list same_marking is_run is_refusal is_end is_stop firing_is refused_is
passes (counts n c e) = eqb (basic n).conditions c && eqb (basic n).events e
passes (lists n j a z) = same_list ((basic n).preconditions j) a && same_list ((basic n).postconditions j) z
passes (behind n j e) = ltb j (basic n).events && eqb (origin n j).event e
passes (numbered n e c j) = eqb (number n (record { event = e; colour = c })) j
passes (unfolded n) = elim (unfolding_refused n) [ none ↦ true | some x ↦ false ]
passes (not_unfolded n x k) = refused_is (unfolding_refused n) x k
passes (stops n m e x k) = firing_is (stopping n (λ b. mem b m) e) x k
passes (fires n m e l) = firing_is (stopping n (λ b. mem b m) e) 0 0 && same_marking n.conditions (fire n (λ b. mem b m) e) l
passes (plays n r l) = is_end n (replay n 0 (opening n) r) l
passes (not_played n r x k b) = is_stop (replay n 0 (opening n) r) x k b
passes (lifts n r w l) = is_run (lift n r) w && is_end (basic n) (replay (basic n) 0 (opening (basic n)) w) l
passes (not_lifted n r x k b) = is_refusal (lift n r) x k b
passes (projects n w r) = is_run (project n w) r
passes (not_projected n w x k b) = is_refusal (project n w) x k b
passes (exchanges n r k q) = is_run (exchange n r k) q
passes (not_exchanged n r k x i b) = is_refusal (exchange n r k) x i b

-- Every line of a table passes.
unfoldable pub pass_all : List Line → Bool
unfolding passes
pass_all [] = true
pass_all (x ∷ xs) = passes x && pass_all xs

-- ---- the tables

-- The examples that the requirements ask to be proved (01, Nets to test with: the lines marked P; 02, No. 3: net C).
unfoldable pub table : List Line
unfolding net_a net_b net_c net_d net_e one two three four
table =
    counts (net_a (one 0)) 5 4
    ∷ lists (net_a (one 0)) 0 (one 0) (two 1 3)
    ∷ lists (net_a (one 0)) 1 (two 1 2) (two 2 4)
    ∷ lists (net_a (one 0)) 2 (two 1 3) (two 3 4)
    ∷ lists (net_a (one 0)) 3 (one 4) (one 1)
    ∷ plays (net_a (one 0)) (four 0 1 2 1) (two 2 3)
    ∷ lifts (net_a (one 0)) (four 0 1 2 1) (four 0 2 3 2) (two 3 4)
    ∷ stops (net_a (two 0 2)) (two 0 2) 0 0 0
    ∷ lifts (net_a (two 0 2)) (two 0 1) (two 0 1) (three 2 3 4)
    ∷ stops (net_a (one 0)) (two 0 1) 0 12 1
    ∷ stops (net_a (one 0)) (one 1) 1 11 2
    ∷ fires net_b (one 0) 0 (two 0 1)
    ∷ plays net_b (two 0 0) (two 0 1)
    ∷ not_lifted net_b (two 0 0) 15 1 none
    ∷ lists net_c 0 (one 0) (two 0 1)
    ∷ lists net_c 1 (one 1) (one 1)
    ∷ lifts net_c (one 0) (one 0) (two 0 1)
    ∷ lifts net_c (two 0 0) (two 0 1) (two 0 1)
    ∷ lifts (net_e (two 0 1)) (three 0 1 2) (three 0 1 3) (two 3 4)
    ∷ lifts (net_e (two 0 1)) (three 1 0 2) (three 1 0 4) (two 3 4)
    ∷ not_exchanged (net_e (two 0 1)) (three 0 1 2) 0 17 0 none
    ∷ exchanges (net_e (three 0 1 2)) (three 0 1 2) 0 (three 1 0 2)
    ∷ lifts (net_e (three 0 1 2)) (three 0 1 2) (three 0 1 2) (three 2 3 4)
    ∷ lifts (net_e (three 0 1 2)) (three 1 0 2) (three 1 0 2) (three 2 3 4)
    ∷ counts net_d 31 1035
    ∷ behind net_d 1034 11
    ∷ numbered net_d 11 [] 1034
    ∷ []

-- Further lines: the examples not marked P, the limits, and the points on which a reader might doubt (01, Nets to test with,
-- Errors that look right and Refusal numbers; 02, No. 3 and No. 4).
unfoldable pub further : List Line
unfolding under_old net_a net_b net_c net_d net_e net_r net_q net_o net_u net_s net_k net_l net_w one two three four
further =
    plays net_c (two 0 0) (one 0)
    ∷ lifts net_c (three 0 0 0) (three 0 1 1) (two 0 1)
    ∷ lifts net_o (four 0 1 1 1) (four 0 4 6 6) (three 1 2 4)
    ∷ not_lifted net_o (four 0 1 1 0) 15 3 none
    ∷ not_lifted net_o (four 0 0 1 0) 15 1 none
    ∷ not_projected net_o (three 0 4 4) 12 2 (some 2)
    ∷ lifts net_u (three 0 0 0) (three 0 0 0) (one 0)
    ∷ plays (net_a (one 0)) [] (one 0)
    ∷ lifts (net_a (one 0)) [] [] (one 0)
    ∷ projects (net_a (one 0)) [] []
    ∷ counts (net_l [] []) 228 65535
    ∷ unfolded (net_l [] [])
    ∷ not_unfolded (net_l (one 0) (([] ↝ one 15) ∷ [])) 14 0
    ∷ not_unfolded (net_l (one 1) (([] ↝ one 15) ∷ [])) 13 27
    ∷ not_unfolded (net_l (two 0 1) (([] ↝ one 15) ∷ ([] ↝ one 16) ∷ [])) 13 28
    ∷ counts (net_w 0) 65535 65280
    ∷ unfolded (net_w 0)
    ∷ not_unfolded (net_w 1) 14 0
    ∷ numbered net_d 10 (by_event 0 ∷ replicate 9 at_start) 522
    ∷ numbered net_d 10 (replicate 9 at_start ++ by_event 9 ∷ []) 11
    ∷ plays (net_l (one 1) (([] ↝ one 15) ∷ [])) (one 27) (one 15)
    ∷ not_lifted (net_l (one 1) (([] ↝ one 15) ∷ [])) (one 27) 13 27 none
    ∷ not_exchanged (net_a (one 0)) (four 0 1 2 1) 0 17 0 none
    ∷ exchanges (net_q (three 0 1 2)) (two 0 1) 0 (two 1 0)
    ∷ not_exchanged net_r (two 0 1) 0 17 0 none
    ∷ not_exchanged net_c (two 0 0) 0 17 0 none
    ∷ not_exchanged (net_a (two 0 2)) (two 0 1) 0 17 0 none
    ∷ not_exchanged (net_e (two 0 1)) (two 0 1) 0 17 0 none
    ∷ not_exchanged net_r (two 0 1) 1 10 1 none
    ∷ not_exchanged net_r [] 0 10 0 none
    ∷ not_exchanged net_r (two 1 0) 0 11 0 (some 2)
    ∷ not_played net_b (three 0 0 2) 10 2 none
    ∷ not_lifted net_b (three 0 0 2) 10 2 none
    ∷ projects (net_a (one 0)) (four 0 2 3 2) (four 0 1 2 1)
    ∷ not_projected (net_a (one 0)) (two 0 1) 11 1 (some 2)
    ∷ not_projected (net_a (one 0)) (two 0 4) 10 1 none
    ∷ not_projected net_b (two 0 0) 12 1 (some 2)
    ∷ projects net_c (two 0 1) (two 0 0)
    ∷ stops net_s [] 0 11 1
    ∷ stops net_s (one 1) 0 11 2
    ∷ stops net_s (three 0 2 3) 1 12 2
    ∷ stops net_s (two 0 3) 1 12 3
    ∷ stops net_s (one 0) 1 0 0
    ∷ stops net_s [] 2 10 0
    ∷ not_played net_s (two 1 1) 12 1 (some 2)
    ∷ not_lifted net_s (two 1 1) 12 1 (some 2)
    ∷ not_exchanged net_s (two 1 0) 0 11 1 (some 1)
    ∷ not_projected net_c (two 0 0) 12 1 (some 1)
    ∷ fires net_k (two 0 2) 0 (three 0 1 2)
    ∷ stops (under_old net_k) (two 0 2) 0 12 0
    ∷ stops net_k (three 0 1 2) 0 12 1
    ∷ stops (under_old net_k) (three 0 1 2) 0 12 0
    ∷ stops (under_old net_k) (one 0) 0 11 2
    ∷ fires (under_old net_k) (two 1 2) 1 (one 2)
    ∷ plays net_k (three 0 1 0) (three 0 1 2)
    ∷ not_played (under_old net_k) (three 0 1 0) 12 0 (some 0)
    ∷ lifts net_k (three 0 1 0) (three 0 2 0) (four 0 1 2 3)
    ∷ not_lifted (under_old net_k) (three 0 1 0) 12 0 (some 0)
    ∷ lists net_k 0 (two 0 2) (three 0 1 2)
    ∷ lists (under_old net_k) 0 (two 0 2) (three 0 1 2)
    ∷ projects net_k (three 0 2 0) (three 0 1 0)
    ∷ not_projected (under_old net_k) (three 0 2 0) 12 0 (some 0)
    ∷ lifts (under_old net_c) (two 0 0) (two 0 1) (two 0 1)
    ∷ lifts (under_old (net_a (one 0))) (four 0 1 2 1) (four 0 2 3 2) (two 3 4)
    ∷ exchanges (under_old (net_e (three 0 1 2))) (three 0 1 2) 0 (three 1 0 2)
    ∷ not_lifted net_c (replicate 4097 0) 3 0 none
    ∷ not_projected net_c (replicate 4097 0) 3 0 none
    ∷ not_exchanged net_c (replicate 4097 0) 0 3 0 none
    ∷ []
