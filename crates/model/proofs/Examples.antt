-- The worked examples hold: each table is one statement, computed.
use lib.Dec.{T}
use Rattle.model.specs.Net.{begin, fire, stopping}
use Rattle.model.specs.Runs.{opening, replay}
use Rattle.model.specs.Unfolding.{origin, basic}
use Rattle.model.specs.Numbering.{number}
use Rattle.model.specs.Across.{unfolding_refused, lift, project, exchange}
use Rattle.model.specs.Examples.{net, under_old, one, two, three, four, net_a, net_b, net_c, net_d, net_e, net_r, net_q, net_o, net_u, net_s, net_k, net_l, net_w, same_list, same_marking, is_run, is_refusal, is_end, is_stop, firing_is, refused_is, passes, pass_all, table, further}

-- Every example that the requirements mark to be proved.
pub examples : T (pass_all table)
unfolding pass_all table net_a net_b net_c net_d net_e one two three four net passes
    basic origin number stopping fire replay opening lift project exchange unfolding_refused begin same_list same_marking is_run is_refusal is_end is_stop firing_is refused_is
examples = tt

-- Every further one.
pub further_examples : T (pass_all further)
unfolding pass_all further under_old net_a net_b net_c net_d net_e net_r net_q net_o net_u net_s net_k net_l net_w one two three four net passes
    basic origin number stopping fire replay opening lift project exchange unfolding_refused begin same_list same_marking is_run is_refusal is_end is_stop firing_is refused_is
further_examples = tt
