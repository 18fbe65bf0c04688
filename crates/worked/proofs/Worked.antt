-- The lines that the requirements mark to be proved (01, Nets to test with: P; 02, No. 3: net C) hold of the calls' own definitions on the
-- bytes of the tables, computed.
use mathlib.Core.Path.{◌≡◌, refl}
use mathlib.Core.List.{List, [], ◌∷◌}
use Rattle.lists.specs.Lists.{fits}
use Rattle.model.specs.Net.{begin, fire, stopping}
use Rattle.model.specs.Lent.{bytes, marking}
use Rattle.model.specs.Runs.{end, opening, replay}
use Rattle.model.specs.Unfolding.{basic, origin}
use Rattle.model.specs.Numbering.{number}
use Rattle.model.specs.Across.{unfolding_refused, too_long, lift, exchange}
use Rattle.refusal.specs.Answer.{need, fitting}
use Rattle.words.specs.Words.{words, bits, count_in}
use Rattle.records.specs.Records.{header_of, old_rule, front}
use Rattle.rules.specs.Rules.{rule_of, conditions_of, marking_of}
use Rattle.event_rules.specs.EventRules.{lists_of, event_of}
use Rattle.table.specs.Walk.{events_from, judge_of, offset_from}
use Rattle.table.specs.Decoded.{net_of}
use Rattle.game.specs.Lent.{lent}
use Rattle.game.specs.Calls.{on_marking, firing_of, fired_of}
use Rattle.replay.specs.Calls.{played_of, replay_of, end_of}
use Rattle.exchange.specs.Calls.{exchange_of, exchanged_of}
use Rattle.layout.specs.Unfolds.{unfolding_of}
use Rattle.unfolded_lists.specs.Calls.{unfolded_list_of, unfolded_listed_of}
use Rattle.events.specs.Colours.{push_all}
use Rattle.events.specs.Answers.{origin_judged, origin_of}
use Rattle.event_numbers.specs.Answers.{number_of}
use Rattle.across.specs.Calls.{fitted, ended}
use Rattle.lift.specs.Calls.{lift_of, lifted_of}
use Rattle.ends.specs.Calls.{lift_end_of, lift_ended_of}
use Rattle.worked.specs.Tables.{table_a, table_a2, table_b, table_c, table_d, table_e, table_e3}
use Rattle.worked.specs.Lines.{lent_for, Counts, Lists, Behind, Numbered, Concedes, Stops, Fires, Plays, Lifts, NotLifted, Exchanges, NotExchanged}

-- Net A.
pub net_a_worked :
    (Counts table_a 5 4)
    × (Lists table_a 0 (0 ∷ []) (1 ∷ 3 ∷ []))
    × (Lists table_a 1 (1 ∷ 2 ∷ []) (2 ∷ 4 ∷ []))
    × (Lists table_a 2 (1 ∷ 3 ∷ []) (3 ∷ 4 ∷ []))
    × (Lists table_a 3 (4 ∷ []) (1 ∷ []))
    × (Plays table_a (0 ∷ 1 ∷ 2 ∷ 1 ∷ []) (0 ∷ 0 ∷ 1 ∷ 1 ∷ []))
    × (Lifts table_a (0 ∷ 1 ∷ 2 ∷ 1 ∷ []) (0 ∷ 2 ∷ 3 ∷ 2 ∷ []) (0 ∷ 0 ∷ 0 ∷ 1 ∷ 1 ∷ []))
    × (Concedes table_a2 (1 ∷ 0 ∷ 1 ∷ 0 ∷ []) 0)
    × (Lifts table_a2 (0 ∷ 1 ∷ []) (0 ∷ 1 ∷ []) (0 ∷ 0 ∷ 1 ∷ 1 ∷ 1 ∷ []))
    × (Stops table_a (1 ∷ 1 ∷ 0 ∷ 0 ∷ []) 0 12 1)
    × (Stops table_a (0 ∷ 1 ∷ 0 ∷ 0 ∷ []) 1 11 2)
unfolding
    judge_of rule_of front conditions_of events_from event_of lists_of marking_of header_of fits words bits count_in net_of old_rule offset_from need fitting basic
    origin number stopping fire replay opening begin end lift exchange unfolding_refused too_long bytes marking unfolding_of unfolded_list_of
    unfolded_listed_of origin_judged origin_of push_all number_of on_marking lent firing_of fired_of played_of replay_of end_of fitted ended lift_of lifted_of
    lift_end_of lift_ended_of exchange_of exchanged_of lent_for
net_a_worked = (
  (refl, refl),
  (refl, refl, refl, refl),
  (refl, refl, refl, refl),
  (refl, refl, refl, refl),
  (refl, refl, refl, refl),
  (refl, refl),
  (refl, refl, refl, refl),
  refl,
  (refl, refl, refl, refl),
  (refl, refl, refl),
  (refl, refl, refl),
)

-- Net B.
pub net_b_worked :
    (Fires table_b (1 ∷ 0 ∷ []) 0 (1 ∷ 1 ∷ []))
    × (Plays table_b (0 ∷ 0 ∷ []) (1 ∷ 1 ∷ []))
    × (NotLifted table_b (0 ∷ 0 ∷ []) 15 1)
unfolding
    judge_of rule_of front conditions_of events_from event_of lists_of marking_of header_of fits words bits count_in net_of old_rule offset_from need fitting basic
    origin number stopping fire replay opening begin end lift exchange unfolding_refused too_long bytes marking unfolding_of unfolded_list_of
    unfolded_listed_of origin_judged origin_of push_all number_of on_marking lent firing_of fired_of played_of replay_of end_of fitted ended lift_of lifted_of
    lift_end_of lift_ended_of exchange_of exchanged_of lent_for
net_b_worked = (
  (refl, refl),
  (refl, refl),
  (refl, refl),
)

-- Net C.
pub net_c_worked :
    (Lists table_c 0 (0 ∷ []) (0 ∷ 1 ∷ []))
    × (Lists table_c 1 (1 ∷ []) (1 ∷ []))
    × (Lifts table_c (0 ∷ []) (0 ∷ []) (1 ∷ 1 ∷ []))
    × (Lifts table_c (0 ∷ 0 ∷ []) (0 ∷ 1 ∷ []) (1 ∷ 1 ∷ []))
unfolding
    judge_of rule_of front conditions_of events_from event_of lists_of marking_of header_of fits words bits count_in net_of old_rule offset_from need fitting basic
    origin number stopping fire replay opening begin end lift exchange unfolding_refused too_long bytes marking unfolding_of unfolded_list_of
    unfolded_listed_of origin_judged origin_of push_all number_of on_marking lent firing_of fired_of played_of replay_of end_of fitted ended lift_of lifted_of
    lift_end_of lift_ended_of exchange_of exchanged_of lent_for
net_c_worked = (
  (refl, refl, refl, refl),
  (refl, refl, refl, refl),
  (refl, refl, refl, refl),
  (refl, refl, refl, refl),
)

-- Net E.
pub net_e_worked :
    (Lifts table_e (0 ∷ 1 ∷ 2 ∷ []) (0 ∷ 1 ∷ 3 ∷ []) (0 ∷ 0 ∷ 0 ∷ 1 ∷ 1 ∷ []))
    × (Lifts table_e (1 ∷ 0 ∷ 2 ∷ []) (1 ∷ 0 ∷ 4 ∷ []) (0 ∷ 0 ∷ 0 ∷ 1 ∷ 1 ∷ []))
    × (NotExchanged table_e (0 ∷ 1 ∷ 2 ∷ []) 0 17 0)
    × (Exchanges table_e3 (0 ∷ 1 ∷ 2 ∷ []) 0 (1 ∷ 0 ∷ 2 ∷ []))
    × (Lifts table_e3 (0 ∷ 1 ∷ 2 ∷ []) (0 ∷ 1 ∷ 2 ∷ []) (0 ∷ 0 ∷ 1 ∷ 1 ∷ 1 ∷ []))
    × (Lifts table_e3 (1 ∷ 0 ∷ 2 ∷ []) (1 ∷ 0 ∷ 2 ∷ []) (0 ∷ 0 ∷ 1 ∷ 1 ∷ 1 ∷ []))
unfolding
    judge_of rule_of front conditions_of events_from event_of lists_of marking_of header_of fits words bits count_in net_of old_rule offset_from need fitting basic
    origin number stopping fire replay opening begin end lift exchange unfolding_refused too_long bytes marking unfolding_of unfolded_list_of
    unfolded_listed_of origin_judged origin_of push_all number_of on_marking lent firing_of fired_of played_of replay_of end_of fitted ended lift_of lifted_of
    lift_end_of lift_ended_of exchange_of exchanged_of lent_for
net_e_worked = (
  (refl, refl, refl, refl),
  (refl, refl, refl, refl),
  (refl, refl),
  (refl, refl),
  (refl, refl, refl, refl),
  (refl, refl, refl, refl),
)

-- Net D.
pub net_d_worked :
    (Counts table_d 31 1035)
    × (Behind table_d 1034 11)
    × (Numbered table_d 11 1034)
unfolding
    judge_of rule_of front conditions_of events_from event_of lists_of marking_of header_of fits words bits count_in net_of old_rule offset_from need fitting basic
    origin number stopping fire replay opening begin end lift exchange unfolding_refused too_long bytes marking unfolding_of unfolded_list_of
    unfolded_listed_of origin_judged origin_of push_all number_of on_marking lent firing_of fired_of played_of replay_of end_of fitted ended lift_of lifted_of
    lift_end_of lift_ended_of exchange_of exchanged_of lent_for
net_d_worked = (
  (refl, refl),
  refl,
  refl,
)
