-- The tables are those of nets A to E: each is its net, written byte for byte as the format has it.
use mathlib.Core.Path.{◌≡◌, refl}
use mathlib.Core.List.{List, [], ◌∷◌}
use Rattle.words.specs.Words.{bytes_of}
use Rattle.model.specs.Lent.{bytes}
use Rattle.model.specs.Examples.{net, one, two, three, four, net_a, net_b, net_c, net_d, net_e}
use Rattle.encoding.specs.Encoded.{records_from, encode}
use Rattle.worked.specs.Tables.{table_a, table_a2, table_b, table_c, table_d, table_e, table_e3}

pub tables_encoded :
    (encode (net_a (0 ∷ [])) ≡ table_a) × (encode (net_a (0 ∷ 2 ∷ [])) ≡ table_a2) × (encode net_b ≡ table_b) × (encode net_c ≡ table_c)
    × (encode net_d ≡ table_d) × (encode (net_e (0 ∷ 1 ∷ [])) ≡ table_e) × (encode (net_e (0 ∷ 1 ∷ 2 ∷ [])) ≡ table_e3)
unfolding encode records_from bytes_of bytes net one two three four net_a net_b net_c net_d net_e
tables_encoded = (refl, refl, refl, refl, refl, refl, refl)
