-- A net within the limits, written as a table, is a list of bytes: each number is below 256.
use Prim.Native.Nat.{ℕ, zero, suc, ◌+◌, ◌%◌, ◌/◌, ◌≤◌, ◌<◌}
use native.Mathlib.Nat.{mod-lt, div-lt_iff_lt-mul}
use native.Mathlib.Omega.{arith}
use mathlib.Core.Path.{◌≡◌}
use mathlib.Core.List.{List, [], ◌∷◌, ◌++◌, map}
use mathlib.Core.Bool.{Bool, true, false, cond}
use lib.Dec.{T, ltb, ltb→lt, lt→ltb}
use lib.ListN.{length}
use Rattle.lists.specs.Lists.{all, count, fits}
use Rattle.lists.proofs.Bools.{and_left, and_right, and_both}
use Rattle.lists.proofs.Tests.{all_of, fits_in, fits_short}
use Rattle.model.specs.Net.{Net, Marking}
use Rattle.model.specs.Lent.{bit, bytes}
use Rattle.model.proofs.Lent.{length_bytes}
use Rattle.words.specs.Words.{bytes_of}
use Rattle.words.proofs.Laws.{length_bytes_of}
use Rattle.table.specs.Tabled.{Tabled}
use Rattle.encoding.specs.Encoded.{framed, event_payload, records_from, rule_record, encode}
use Rattle.encoding.proofs.Encoded.{payload_length, pre_fits, post_fits, start_fits}

-- each number of a list is below m
abbrev Below : ℕ → List ℕ → Type 0
Below m l = T (all (λ b. ltb b m) l)

below_both : (m : ℕ) (l r : List ℕ) → Below m l → Below m r → Below m (l ++ r)
below_both m [] r p q = q
below_both m (x ∷ l) r p q =
    and_both (ltb x m) (all (λ b. ltb b m) (l ++ r)) (and_left (ltb x m) (all (λ b. ltb b m) l) p) (below_both m l r (and_right (ltb x m) (all (λ b. ltb b m) l) p) q)

bytes_of_bytes : (l : List ℕ) → Below 65536 l → Below 256 (bytes_of l)
unfolding bytes_of
bytes_of_bytes [] h = tt
bytes_of_bytes (w ∷ l) h =
    let b = ltb→lt w 65536 (and_left (ltb w 65536) (all (λ b. ltb b 65536) l) h) in
    let low = lt→ltb (w % 256) 256 (mod-lt w (omega arith)) in
    let high = lt→ltb (w / 256) 256 ((div-lt_iff_lt-mul {k = 256} {x = w} {y = 256} (omega arith)).1 (omega arith)) in
    let rest = bytes_of_bytes l (and_right (ltb w 65536) (all (λ b. ltb b 65536) l) h) in
    and_both (ltb (w % 256) 256) _ low (and_both (ltb (w / 256) 256) (all (λ b. ltb b 256) (bytes_of l)) high rest)

two_bytes : (a b : ℕ) → a < 65536 → b < 65536 → Below 256 (bytes_of (a ∷ b ∷ []))
two_bytes a b p q = bytes_of_bytes (a ∷ b ∷ []) (and_both (ltb a 65536) (all (λ b. ltb b 65536) (b ∷ [])) (lt→ltb a 65536 p) (and_both (ltb b 65536) true (lt→ltb b 65536 q) tt))

framed_bytes : (kind : ℕ) (payload : List ℕ) → kind < 65536 → length payload < 65536 → Below 256 payload → Below 256 (framed kind payload)
framed_bytes kind payload k l h = below_both 256 (bytes_of (length payload ∷ kind ∷ [])) payload (two_bytes (length payload) kind l k) h

listed_bytes : (c : ℕ) (l : List ℕ) → c ≤ 256 → T (fits c l) → Below 256 (bytes_of l)
listed_bytes c l h x = bytes_of_bytes l (all_of (λ b. ltb b 65536) l (λ b i. let k = fits_in c l x b i in lt→ltb b 65536 (omega arith)))

flags_bytes : (m : Marking) (l : List ℕ) → Below 256 (map (λ b. bit (m b)) l)
flags_bytes m [] = tt
flags_bytes m (b ∷ l) = and_both (ltb (bit (m b)) 256) (all (λ x. ltb x 256) (map (λ b. bit (m b)) l)) (go (m b)) (flags_bytes m l)
  where
    go : (t : Bool) → T (ltb (bit t) 256)
    go true = lt→ltb 1 256 (omega arith)
    go false = lt→ltb 0 256 (omega arith)

module _ (n : Net) (t : Tabled n) where
  event_bytes : (e : ℕ) → e < n.events → Below 256 (framed 2 (event_payload n e))
  event_bytes e h =
      let pre = n.preconditions e in
      let post = n.postconditions e in
      let few = t.few_conditions in
      let a = fits_short n.conditions pre (pre_fits n t e h) in
      let z = fits_short n.conditions post (post_fits n t e h) in
      let long = payload_length n e in
      framed_bytes 2 (event_payload n e) (omega arith) (omega arith)
      (below_both 256 (bytes_of (length pre ∷ length post ∷ [])) (bytes_of pre ++ bytes_of post) (two_bytes (length pre) (length post) (omega arith) (omega arith))
      (below_both 256 (bytes_of pre) (bytes_of post) (listed_bytes n.conditions pre few (pre_fits n t e h)) (listed_bytes n.conditions post few (post_fits n t e h))))

  marking_bytes : Below 256 (framed 3 (bytes_of n.start))
  marking_bytes =
      let few = t.few_conditions in
      let short = fits_short n.conditions n.start (start_fits n t) in
      let long = length_bytes_of n.start in
      framed_bytes 3 (bytes_of n.start) (omega arith) (omega arith) (listed_bytes n.conditions n.start few (start_fits n t))

  records_bytes : (k e : ℕ) → e + k ≡ n.events → Below 256 (records_from n e k)
  unfolding records_from
  records_bytes zero e h = marking_bytes
  records_bytes (suc k) e h = below_both 256 (framed 2 (event_payload n e)) (records_from n (suc e) k) (event_bytes e (omega arith)) (records_bytes k (suc e) (omega arith))

  rule_bytes : (b : Bool) → Below 256 (cond b (framed 6 (1 ∷ [])) [])
  rule_bytes true = framed_bytes 6 (1 ∷ []) (omega arith) (omega arith) (and_both (ltb 1 256) true (lt→ltb 1 256 (omega arith)) tt)
  rule_bytes false = tt

  pub encoded_bytes : T (all (λ b. ltb b 256) (encode n))
  unfolding encode bytes
  encoded_bytes =
      let few = t.few_conditions in
      let long = length_bytes n.conditions n.persistent in
      below_both 256 (rule_record n) (framed 1 (bytes n.conditions n.persistent) ++ records_from n 0 n.events) (rule_bytes (n.old 0))
      (below_both 256 (framed 1 (bytes n.conditions n.persistent)) (records_from n 0 n.events)
      (framed_bytes 1 (bytes n.conditions n.persistent) (omega arith) (omega arith) (flags_bytes n.persistent (count 0 n.conditions)))
      (records_bytes n.events 0 (omega arith)))
