-- Nets whose lossy events are worked out by hand.
use Rattle.std.specs.Prelude.{List, [], ◌∷◌, ℕ}
use Rattle.model.specs.Net.{Net}
use Rattle.model.specs.Lent.{bytes}
use Rattle.model.specs.Examples.{◌↝◌, net, one, two, three}
use Rattle.losses.specs.Losses.{lossy}

-- The bytes that tell a net's lossy events.
unfoldable pub lossy_bytes : Net → List ℕ
unfolding lossy
lossy_bytes n = bytes n.events (lossy n)

-- A hand that comes on twice arms: event 0 marks condition 2 for event 3 and comes again after event 1, so that event 2 can come.
unfoldable pub net_hand : Net
unfolding net one two three
net_hand =
    net (0 ∷ 0 ∷ 1 ∷ 0 ∷ 0 ∷ 0 ∷ 0 ∷ 0 ∷ [])
    ((one 0 ↝ two 1 2) ∷ (two 1 3 ↝ two 0 4) ∷ (two 1 4 ↝ two 0 5) ∷ (two 2 6 ↝ one 7) ∷ []) (three 0 3 6)
