-- The word, then the list.
use native.Mathlib.Omega.{arith}
use Rattle.listing.specs.Text.{start_line}
use Rattle.spelling.proofs.Texts.{both}
use Rattle.listing.proofs.put_start.Goals as goal

pub put_list-requires : goal.put_list-requires
put_list-requires c =
    (c.requires, omega (arith, c.put_text-next.ensures.told))

pub returns : goal.returns
unfolding start_line
returns c =
    both c.put_text-next.ensures c.put_list.ensures
